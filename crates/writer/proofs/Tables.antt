-- How a table of elements is gone through, entry by entry. Assumes nothing.
use Rattle.std.proofs.Common.{◌≡◌, ℕ, ◌+◌, ◌<◌, ◌≤◌, List, [], ◌∷◌, ◌++◌, length, get_or, take, drop, Some, None, sym, ap, ◌∙◌, append_assoc, append-nil, arith, length-append}
use Rattle.std.proofs.lemmas.List.{drop_more, drop_all, take_more}
use Rattle.elements.specs.declared.types.EndRule.{EndRule}
use Rattle.writer.specs.declared.types.WriteFault.{WriteFault}
use Rattle.writer.specs.declared.types.Item.{Item}
use Rattle.writer.specs.Written.{ending, room_fault}
use Rattle.writer.specs.Items.{octets_of, written, last_of, item_fault, or_else, table_fault}

pub written_push : (is : List Item) (x : Item) → written (is ++ x ∷ []) ≡ written is ++ octets_of x
written_push [] x = append-nil (octets_of x)
written_push (i ∷ is) x = ap (λ l. octets_of i ++ l) (written_push is x) ∙ sym (append_assoc (octets_of i) (written is) (octets_of x))

pub one_more : (items : List Item) (i : ℕ) (d : Item) → i < length items → written (take i items) ++ octets_of (get_or items i d) ≡ written (take (i + 1) items)
one_more items i d h =
    sym (ap written (take_more items i d h) ∙ written_push (take i items) (get_or items i d))

-- what stands against the rest of a table, behind an entry that may be written
module _ (rule : EndRule) (last at size : ℕ) (items : List Item) (i : ℕ) (d : Item) (h : i < length items) where
  module _ (end tag : ℕ) (f : item_fault rule last at (get_or items i d) size ≡ None) (e : end ≡ at + length (octets_of (get_or items i d))) (t : tag ≡ last_of last (get_or items i d)) where
    pub goes_on_fits : table_fault rule tag end (drop (i + 1) items) size ≡ table_fault rule last at (drop i items) size
    goes_on_fits =
        (λ j. table_fault rule (t j) (e j) (drop (i + 1) items) size)
        ∙ sym (ap (λ l. table_fault rule last at l size) (drop_more items i d h) ∙ ap (λ o. or_else o (table_fault rule (last_of last (get_or items i d)) (at + length (octets_of (get_or items i d))) (drop (i + 1) items) size)) f)

-- an entry of a table, and what it says of the whole
module _ (rule : EndRule) (last at size : ℕ) (items : List Item) (i : ℕ) (d : Item) (h : i < length items) where
  pub next : drop i items ≡ get_or items i d ∷ drop (i + 1) items
  next = drop_more items i d h

  pub stops : (e : WriteFault) → item_fault rule last at (get_or items i d) size ≡ Some e → table_fault rule last at (drop i items) size ≡ Some e
  stops e f = ap (λ l. table_fault rule last at l size) next ∙ ap (λ o. or_else o (table_fault rule (last_of last (get_or items i d)) (at + length (octets_of (get_or items i d))) (drop (i + 1) items) size)) f

  -- a table that may be written has no entry that may not
  pub clash : (e : WriteFault) → table_fault rule last at (drop i items) size ≡ None → item_fault rule last at (get_or items i d) size ≡ Some e → ⊥
  clash e n f = let z : None ≡ Some e = sym n ∙ stops e f in grind arith

  module _ (end tag : ℕ) (f : item_fault rule last at (get_or items i d) size ≡ None) (e : end ≡ at + length (octets_of (get_or items i d))) (t : tag ≡ last_of last (get_or items i d)) where
    pub reaches : end + length (written (drop (i + 1) items)) ≡ at + length (written (drop i items))
    reaches =
        let k : length (written (drop i items)) ≡ length (octets_of (get_or items i d)) + length (written (drop (i + 1) items)) =
        ap (λ l. length (written l)) next ∙ length-append (octets_of (get_or items i d)) (written (drop (i + 1) items)) in
        omega arith

-- at the end of the table the end of the list is left
module _ (rule : EndRule) (last at size : ℕ) (items : List Item) (i : ℕ) (h : length items ≤ i) where
  pub done : table_fault rule last at (drop i items) size ≡ room_fault at (length (ending rule.end)) size
  done = ap (λ l. table_fault rule last at l size) (drop_all i items h)

  -- nor does anything stand against its end
  pub end_clash : (e : WriteFault) → table_fault rule last at (drop i items) size ≡ None → room_fault at (length (ending rule.end)) size ≡ Some e → ⊥
  end_clash e n f = let z : None ≡ Some e = sym n ∙ done ∙ f in grind arith

  pub reached : (at₀ : ℕ) → at + length (written (drop i items)) ≡ at₀ + length (written items) → at + length (ending rule.end) ≡ at₀ + length (written items ++ ending rule.end)
  reached at₀ e =
      let k : length (written (drop i items)) ≡ 0 = ap (λ l. length (written l)) (drop_all i items h) in
      let n = length-append (written items) (ending rule.end) in
      omega arith
