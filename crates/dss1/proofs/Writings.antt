-- What the writer makes of the elements of a message. Assumes nothing.
use Rattle.std.proofs.Common.{◌≡◌, ℕ, ◌+◌, ◌<◌, ◌≤◌, List, [], ◌∷◌, ◌++◌, length, drop, Result, sym, refl, ap, ◌∙◌, subst, append-nil, arith, Bor, MatchResult}
use Rattle.std.proofs.lemmas.List.{take-append-drop}
use Rattle.std.proofs.lemmas.Result.{MatchResult-weaker}
use Rattle.writer.specs.declared.types.Item.{Item}
use Rattle.writer.specs.declared.types.WriteFault.{WriteFault}
use Rattle.writer.specs.declared.Closed.{Closed}
use Rattle.writer.specs.Written.{Adds, Step}
use Rattle.writer.proofs.Puts.{then, moved}
use Rattle.writer.specs.Items as items
use Rattle.writer.specs.Items.{table_fault}
use Rattle.entries.specs.Codings.{dss1}
use Rattle.entries.specs.Entries.{listed, Ascending}
use Rattle.entries.specs.Rows.{items_of, entries_of}
use Rattle.entries.proofs.Rows.{adds, not_refused}
use Rattle.held.specs.Held.{octets_of}
use Rattle.held.proofs.Lengths.{held_few}
use Rattle.side.specs.Contents.{parts_of, calling_of, called_of, low_of, high_of, user_of}
use Rattle.side.specs.Steps.{written}
use Rattle.side.proofs.Limited.{parts_within}
use Rattle.carried.proofs.PartLaws.{part_calling, part_called, part_low, part_high, part_user}
use Rattle.dss1_meaning.proofs.Telling.{Fits, table_fits}
use Rattle.dss1.specs.declared.fields.Fields.{Fields}
use Rattle.dss1.specs.Fields.{table_of}

-- what a message holds fits one
pub fields_fit : (f : Fields) → Fits (table_of f)
fields_fit f = table_fits (octets_of f.bearer) (octets_of f.cause) (octets_of f.progress) (octets_of f.number) (parts_of f.parts) (parts_within f.parts) (held_few f.bearer) (held_few f.cause) (held_few f.progress) (held_few f.number)

-- references to what the elements hold
module _ (f : Fields) (bearer cause progress calling number called low high user : Bor (List ℕ))
    (bearer-is : bearer.now ≡ octets_of f.bearer) (cause-is : cause.now ≡ octets_of f.cause) (progress-is : progress.now ≡ octets_of f.progress)
    (calling-is : calling.now ≡ calling_of f.parts) (number_is : number.now ≡ octets_of f.number) (called_is : called.now ≡ called_of f.parts)
    (low-is : low.now ≡ low_of f.parts) (high_is : high.now ≡ high_of f.parts) (user-is : user.now ≡ user_of f.parts) where
  abbrev pub rows : List (ℕ × Bor (List ℕ))
  rows = (0x04, bearer) ∷ (0x08, cause) ∷ (0x1E, progress) ∷ (0x6D, calling) ∷ (0x70, number) ∷ (0x71, called) ∷ (0x7C, low) ∷ (0x7D, high) ∷ (0x7E, user) ∷ []

  are : entries_of rows ≡ table_of f
  are = λ i.
      record { tag = 0x04; contents = bearer-is i }
      ∷ record { tag = 0x08; contents = cause-is i }
      ∷ record { tag = 0x1E; contents = progress-is i }
      ∷ record { tag = 0x6D; contents = (calling-is ∙ sym (part_calling f.parts)) i }
      ∷ record { tag = 0x70; contents = number_is i }
      ∷ record { tag = 0x71; contents = (called_is ∙ sym (part_called f.parts)) i }
      ∷ record { tag = 0x7C; contents = (low-is ∙ sym (part_low f.parts)) i }
      ∷ record { tag = 0x7D; contents = (high_is ∙ sym (part_high f.parts)) i }
      ∷ record { tag = 0x7E; contents = (user-is ∙ sym (part_user f.parts)) i }
      ∷ []

  octets_are : listed (entries_of rows) ++ [] ≡ listed (table_of f)
  octets_are = append-nil (listed (entries_of rows)) ∙ ap listed are

  ascends : Ascending dss1 0 (entries_of rows)
  ascends = subst (Ascending dss1 0) (sym are) (fields_fit f).ascends

  -- the step that writes them: they fit 251 octets, so a buffer that is refused is shorter
  pub elements_step : (is : List Item) → is ≡ items_of rows → (last at from : ℕ) (before after : List ℕ) (r : Result Closed WriteFault) → last ≡ 0 → at ≡ from →
      Step (table_fault dss1 last at is (length before)) (items.written is ++ []) at before after (λ c. c.length) r →
      MatchResult r (λ c. Adds (listed (table_of f)) from before c.length after) (λ _. length before < from + 251)
  elements_step is same last at from before after r low here step =
      MatchResult-weaker r step
      (λ c p. subst (λ k. Adds (listed (table_of f)) k before c.length after) here
      (subst (λ l. Adds l at before c.length after) octets_are (adds dss1 is rows same at c.length before after p.adds)))
      (λ e p. under (length before) (from + 251) (λ room. not_refused dss1 is rows same last 0 at (length before) e (omega arith) ascends (fits room) p.because))
    where
      under : (a b : ℕ) → (b ≤ a → ⊥) → a < b
      under a b h = omega arith

      fits : from + 251 ≤ length before → at + length (listed (entries_of rows) ++ []) ≤ length before
      fits room = let k = (fields_fit f).short in omega (arith, ap length octets_are)

-- a head and what stands behind it
pub whole : (v w : ℕ) (r t : ℕ) (rest before middle after : List ℕ) (at mid end n : ℕ) → r ≡ v → t ≡ w → at ≡ 0 → n ≡ end →
    Adds (0x08 ∷ 0x01 ∷ r ∷ t ∷ []) at before mid middle → Adds rest mid middle end after → Adds (0x08 ∷ 0x01 ∷ v ∷ w ∷ rest) 0 before n after
whole v w r t rest before middle after at mid end n p q here there first second =
    subst (λ l. Adds l 0 before n after) (λ i. 0x08 ∷ 0x01 ∷ p i ∷ q i ∷ rest) (moved here (sym there) (then first refl second))

-- what is written from the front of a buffer
pub from_front : (octets before after : List ℕ) (n : ℕ) → Adds octets 0 before n after → after ≡ written octets before
from_front octets before after n p =
    let k : n ≡ length octets = omega (arith, p.count) in
    sym (take-append-drop n after) ∙ (λ i. p.front i ++ p.rest i) ∙ ap (λ m. octets ++ drop m before) k

-- and how long it is
pub as_long : (octets before after : List ℕ) (n : ℕ) → Adds octets 0 before n after → n ≡ length octets
as_long octets before after n p = omega (arith, p.count)
