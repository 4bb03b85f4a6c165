-- What the writer makes of a table of references, and that nothing stands against it. Assumes nothing.
use Rattle.std.proofs.Common.{◌≡◌, ℕ, ◌+◌, ◌-◌, ◌<◌, ◌≤◌, Bool, true, false, cond, ◌||◌, eqb, List, [], ◌∷◌, ◌++◌, length, take, Some, None, sym, refl, ap, ◌∙◌, append_assoc, arith, length-append, Bor}
use Rattle.std.proofs.lemmas.Bool.{cond-false, le-ltb}
use Rattle.elements.specs.declared.types.EndRule.{EndRule}
use Rattle.elements.specs.Elements.{ends_list, stands_alone}
use Rattle.writer.specs.declared.types.Item.{Item}
use Rattle.writer.specs.declared.types.Item.TheVariants.{Element, Absent}
use Rattle.writer.specs.declared.types.WriteFault.{WriteFault}
use Rattle.writer.specs.Written.{element, ending, room_fault, element_fault, Adds}
use Rattle.writer.specs.Items.{octets_of, written, or_else, table_fault, nest_fault}
use Rattle.entries.specs.Entries.{entry_octets, listed, entry_item, Ascending}
use Rattle.entries.specs.Rows.{items_of, entries_of}

-- an item's octets are its entry's
pub item_octets : (t : ℕ) (r : Bor (List ℕ)) → octets_of (entry_item t r) ≡ entry_octets (record { tag = t; contents = r.now })
item_octets t r = by (eqb (length r.now) 0)
  where
    by : (b : Bool) → octets_of (cond b Absent (Element t r)) ≡ cond b [] (element t r.now)
    by true = refl
    by false = refl

pub writes : (rs : List (ℕ × Bor (List ℕ))) → written (items_of rs) ≡ listed (entries_of rs)
writes [] = refl
writes (r ∷ rs) = λ i. item_octets r.0 r.1 i ++ writes rs i

pub room : (at n size : ℕ) → at + n ≤ size → room_fault at n size ≡ None
room at n size h = cond-false _ _ _ (le-ltb size (at + n) h)

-- nothing stands against an element
pub element_fits : (rule : EndRule) (last at tag n size : ℕ) → ends_list rule tag ≡ false → stands_alone rule tag ≡ false → last ≤ tag → n ≤ 255 → at + (2 + n) ≤ size →
    element_fault rule last at tag n size ≡ None
element_fits rule last at tag n size e s l k h =
    cond-false _ _ _ (ap (λ b. b || stands_alone rule tag) e ∙ s) ∙ cond-false _ _ _ (le-ltb tag last l) ∙ cond-false _ _ _ (le-ltb 255 n k) ∙ room at (2 + n) size h

module _ (rule : EndRule) (size : ℕ) where
  -- nor against an entry, where nothing stands against what follows it; an entry that is left out leaves the last tag
  item_fits : (last at t : ℕ) (r : Bor (List ℕ)) (is : List Item) (m : ℕ) → ends_list rule t ≡ false → stands_alone rule t ≡ false → last ≤ t → length r.now ≤ 255 →
      at + (length (entry_octets (record { tag = t; contents = r.now })) + m) ≤ size →
      ((low end : ℕ) → low ≤ t → end + m ≤ size → table_fault rule low end is size ≡ None) →
      table_fault rule last at (entry_item t r ∷ is) size ≡ None
  item_fits last at t r is m e s l k h rest = by (eqb (length r.now) 0) h
    where
      by : (b : Bool) → at + (length (cond b [] (element t r.now)) + m) ≤ size → table_fault rule last at (cond b Absent (Element t r) ∷ is) size ≡ None
      by true f = rest last (at + 0) l (omega arith)
      by false f =
          ap (λ o. or_else o (table_fault rule t (at + length (element t r.now)) is size)) (element_fits rule last at t (length r.now) size e s l k (omega arith))
          ∙ rest t (at + length (element t r.now)) (omega arith) (omega arith)

  -- the writer's last tag may lie below the table's bound
  pub fits_from : (low last at : ℕ) (rs : List (ℕ × Bor (List ℕ))) → low ≤ last → Ascending rule last (entries_of rs) → at + length (listed (entries_of rs) ++ ending rule.end) ≤ size →
      table_fault rule low at (items_of rs) size ≡ None
  fits_from low last at [] l a h = room at (length (ending rule.end)) size h
  fits_from low last at (r ∷ rs) l a h =
      let more : List ℕ = listed (entries_of rs) ++ ending rule.end in
      let octets : List ℕ = entry_octets (record { tag = r.0; contents = r.1.now }) in
      let n : length ((octets ++ listed (entries_of rs)) ++ ending rule.end) ≡ length octets + length more =
      ap length (append_assoc octets (listed (entries_of rs)) (ending rule.end)) ∙ length-append octets more in
      let k : last < r.0 = a.0 in
      item_fits low at r.0 r.1 (items_of rs) (length more) a.1 a.2 (omega arith) a.3 (omega arith)
      (λ low end l h. fits_from low r.0 end rs l a.4 h)

  pub fits : (last at : ℕ) (rs : List (ℕ × Bor (List ℕ))) → Ascending rule last (entries_of rs) → at + length (listed (entries_of rs) ++ ending rule.end) ≤ size →
      table_fault rule last at (items_of rs) size ≡ None
  fits last at rs a h = fits_from last last at rs (omega arith) a h

-- a nested list: its own length, and two octets more for the element that holds it
pub nest_fits : (outer inner : EndRule) (last at tag : ℕ) (rs : List (ℕ × Bor (List ℕ))) (size : ℕ) → Ascending inner 0 (entries_of rs) →
    ends_list outer tag ≡ false → stands_alone outer tag ≡ false → last ≤ tag →
    length (listed (entries_of rs) ++ ending inner.end) ≤ 255 → at + 2 + length (listed (entries_of rs) ++ ending inner.end) ≤ size →
    nest_fault outer inner last at tag (items_of rs) size ≡ None
nest_fits outer inner last at tag rs size a e s l k h =
    let octets : written (items_of rs) ++ ending inner.end ≡ listed (entries_of rs) ++ ending inner.end = ap (λ l. l ++ ending inner.end) (writes rs) in
    ap (λ o. or_else o (or_else (table_fault inner 0 0 (items_of rs) (size - (at + 2))) (element_fault outer last at tag (length (written (items_of rs) ++ ending inner.end)) size))) (room at 2 size (omega arith))
    ∙ ap (λ o. or_else o (element_fault outer last at tag (length (written (items_of rs) ++ ending inner.end)) size)) (fits inner (size - (at + 2)) 0 0 rs a (omega arith))
    ∙ ap (λ l. element_fault outer last at tag (length l) size) octets
    ∙ element_fits outer last at tag (length (listed (entries_of rs) ++ ending inner.end)) size e s l k (omega arith)

-- the same of items that a caller made one by one: they are not refused, and add the table's octets
module _ (rule : EndRule) (items : List Item) (rs : List (ℕ × Bor (List ℕ))) (same : items ≡ items_of rs) where
  pub adds : (at end : ℕ) (before after : List ℕ) → Adds (written items ++ ending rule.end) at before end after → Adds (listed (entries_of rs) ++ ending rule.end) at before end after
  adds at end before after p =
      let octets : written items ++ ending rule.end ≡ listed (entries_of rs) ++ ending rule.end = ap (λ l. l ++ ending rule.end) (ap written same ∙ writes rs) in
      record { count = p.count ∙ ap (λ l. at + length l) octets; front = p.front ∙ ap (λ l. take at before ++ l) octets; rest = p.rest }

  pub not_refused : (low last at size : ℕ) (e : WriteFault) → low ≤ last → Ascending rule last (entries_of rs) → at + length (listed (entries_of rs) ++ ending rule.end) ≤ size →
      table_fault rule low at items size ≡ Some e → ⊥
  not_refused low last at size e l a h f = let z : None ≡ Some e = sym (ap (λ k. table_fault rule low at k size) same ∙ fits_from rule size low last at rs l a h) ∙ f in grind arith

-- and of a nested list
module _ (outer inner : EndRule) (items : List Item) (rs : List (ℕ × Bor (List ℕ))) (same : items ≡ items_of rs) (tag : ℕ) where
  pub nest_adds : (at end : ℕ) (before after : List ℕ) → Adds (element tag (written items ++ ending inner.end)) at before end after → Adds (element tag (listed (entries_of rs) ++ ending inner.end)) at before end after
  nest_adds at end before after p =
      let octets : written items ++ ending inner.end ≡ listed (entries_of rs) ++ ending inner.end = ap (λ l. l ++ ending inner.end) (ap written same ∙ writes rs) in
      record { count = p.count ∙ ap (λ l. at + length (element tag l)) octets; front = p.front ∙ ap (λ l. take at before ++ element tag l) octets; rest = p.rest }

  pub nest_not_refused : (last at size : ℕ) (e : WriteFault) → Ascending inner 0 (entries_of rs) →
      ends_list outer tag ≡ false → stands_alone outer tag ≡ false → last ≤ tag →
      length (listed (entries_of rs) ++ ending inner.end) ≤ 255 → at + 2 + length (listed (entries_of rs) ++ ending inner.end) ≤ size →
      nest_fault outer inner last at tag items size ≡ Some e → ⊥
  nest_not_refused last at size e a b s l k h f =
      let z : None ≡ Some e = sym (ap (λ is. nest_fault outer inner last at tag is size) same ∙ nest_fits outer inner last at tag rs size a b s l k h) ∙ f in grind arith
