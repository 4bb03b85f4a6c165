-- A list that is written inside an element of another. Assumes nothing.
use Rattle.std.proofs.Common.{◌≡◌, ℕ, ◌+◌, ◌-◌, ◌≤◌, List, ◌++◌, length, take, drop, Some, None, Option, sym, ap, ◌∙◌, arith}
use Rattle.std.proofs.lemmas.List.{drop-take, drop_at, take-take, take-append-le, length-take-le}
use Rattle.elements.specs.declared.types.EndRule.{EndRule}
use Rattle.writer.specs.declared.types.WriteFault.{WriteFault}
use Rattle.writer.specs.declared.types.Item.{Item}
use Rattle.writer.specs.Written.{element, ending, room_fault, element_fault, Adds}
use Rattle.writer.specs.Items.{written, table_fault, or_else, nest_fault}

module _ (ys buf mid after : List ℕ) (at n end tag : ℕ) (room : at + 2 ≤ length buf) (p : Adds ys (at + 2) buf (at + 2 + n) mid) where
  front : take (at + 2 + n) mid ≡ take (at + 2) buf ++ ys
  front = p.front

  pub stands : take n (drop (at + 2) mid) ≡ ys
  stands = sym (drop-take (at + 2) n mid) ∙ ap (drop (at + 2)) front ∙ drop_at (take (at + 2) buf) ys (at + 2) (length-take-le (at + 2) buf room)

  before : take at mid ≡ take at buf
  before =
      let k : length (take (at + 2) buf) ≡ at + 2 = length-take-le (at + 2) buf room in
      sym (take-take at (at + 2 + n) mid (omega arith)) ∙ ap (take at) front ∙ take-append-le at (take (at + 2) buf) ys (omega arith) ∙ take-take at (at + 2) buf (omega arith)

  pub enclosed : Adds (element tag (take n (drop (at + 2) mid))) at mid end after → Adds (element tag ys) at buf end after
  enclosed q =
      let e : end ≡ at + 2 + n = omega (arith, q.count, p.count, ap length stands) in
      record {
        count = q.count ∙ ap (λ l. at + length (element tag l)) stands;
        front = q.front ∙ (λ i. before i ++ element tag (stands i));
        rest = q.rest ∙ ap (λ k. drop k mid) e ∙ p.rest ∙ ap (λ k. drop k buf) (sym e);
      }

-- the element that holds a nested list may be written, where the whole may
pub holds : (outer inner : EndRule) (last at tag : ℕ) (is : List Item) (size : ℕ) → nest_fault outer inner last at tag is size ≡ None → element_fault outer last at tag (length (written is ++ ending inner.end)) size ≡ None
holds outer inner last at tag is size e = last_of (room_fault at 2 size) (table_fault inner 0 0 is (size - (at + 2))) _ e
  where
    last_of : (a b c : Option WriteFault) → or_else a (or_else b c) ≡ None → c ≡ None
    last_of a b c e = grind arith

pub never : (outer : EndRule) (last at tag n m size : ℕ) (e : WriteFault) → element_fault outer last at tag n size ≡ None → m ≡ n → element_fault outer last at tag m size ≡ Some e → ⊥
never outer last at tag n m size e f h g = let z : None ≡ Some e = sym f ∙ ap (λ k. element_fault outer last at tag k size) (sym h) ∙ g in grind arith
