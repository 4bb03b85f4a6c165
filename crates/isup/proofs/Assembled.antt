-- The messages as they are put together, and as the tables have them. Assumes nothing.
use Rattle.std.proofs.Common.{◌≡◌, ℕ, suc, ◌+◌, ◌%◌, ◌<◌, ◌≤◌, List, [], ◌∷◌, ◌++◌, length, take, Err, Option, sym, ap, ◌∙◌, append-nil, arith}
use Rattle.digits.specs.declared.types.PackFault.{PackFault}
use Rattle.digits.specs.declared.types.PackFault.TheVariants.{NoRoom}
use Rattle.digits.specs.Signals.{Written}
use Rattle.entries.specs.Entries.{listed}
use Rattle.side.specs.declared.parts.Parts.{Parts}
use Rattle.side.specs.Contents.{parts_of}
use Rattle.carried.specs.Carried.{progress_octets}
use Rattle.carried.proofs.PartLaws.{part_calling, part_called, part_low, part_high, part_user}
use Rattle.isup_meaning.specs.declared.types.MessageType.TheVariants as type
use Rattle.isup_meaning.specs.Writing.{head, but_in_band, optional_table, pointer_to, tail, field_and_list}
use Rattle.isup.specs.Writes.{optional_of, message_of, with_length}

-- there is room for the signals of every number
pub no_room : (octets before after : List ℕ) (f : PackFault) → Written octets before (Err f) after → length octets ≤ length before → ⊥
no_room octets before after NoRoom w h = let k = w.0 in omega arith

pub number_octets_are : (s n x y : ℕ) (out p : List ℕ) → x ≡ y → s ≡ length p → n ≡ length p → take n out ≡ p → take (3 + s) ((2 + s) ∷ x ∷ 16 ∷ (out ++ [])) ≡ with_length (y ∷ 16 ∷ p)
number_octets_are s n x y out p ex es en e =
    let k : 3 + s ≡ suc (suc (suc s)) = omega arith in
    let f : 2 + s ≡ length (y ∷ 16 ∷ p) = omega arith in
    let g : take s (out ++ []) ≡ p = ap (take s) (append-nil out) ∙ ap (λ k. take k out) (es ∙ sym en) ∙ e in
    ap (λ k. take k ((2 + s) ∷ x ∷ 16 ∷ (out ++ []))) k ∙ (λ i. f i ∷ ex i ∷ 16 ∷ g i)

-- the list of values that the code holds is the table's
pub optional_is : (g : List ℕ) (p : Option (ℕ × ℕ)) (q : Parts) (bearer : List ℕ) → g ≡ progress_octets (but_in_band p) → listed (optional_of g q bearer) ≡ listed (optional_table p (parts_of q) bearer)
optional_is g p q bearer e i =
    listed (
    record {
      tag = 0x03;
      contents = listed (
          record { tag = 0x1E; contents = e i }
          ∷ record { tag = 0x6D; contents = sym (part_calling q) i }
          ∷ record { tag = 0x71; contents = sym (part_called q) i }
          ∷ record { tag = 0x7C; contents = sym (part_low q) i }
          ∷ record { tag = 0x7D; contents = sym (part_high q) i }
          ∷ []);
    }
    ∷ record { tag = 0x1D; contents = bearer }
    ∷ record { tag = 0x20; contents = sym (part_user q) i }
    ∷ [])

-- a pointer and the field that it reaches
pub field_list : (field list : List ℕ) → pointer_to (1 + length (with_length field)) list ∷ (with_length field ++ tail list) ≡ pointer_to (2 + length field) list ∷ length field ∷ (field ++ tail list)
field_list field list = let e : 1 + length (with_length field) ≡ 2 + length field = omega arith in ap (λ d. pointer_to d list ∷ length field ∷ (field ++ tail list)) e

pub circuit_octet : (l : ℕ) → l < 64 → l ≡ l % 64
circuit_octet l h = omega arith

-- the two messages with a field
pub iam_is : (a t i m l i' m' : ℕ) (b field list list' : List ℕ) → a ≡ l → l < 64 → t ≡ 1 → i ≡ i' → m ≡ m' → b ≡ with_length field → list ≡ list' →
    message_of (a ∷ 0 ∷ t ∷ 0 ∷ 0x20 ∷ i ∷ 0x0A ∷ m ∷ 2 ∷ []) b list ≡ head l type.InitialAddress ++ (0x00 ∷ 0x20 ∷ i' ∷ 0x0A ∷ m' ∷ field_and_list field list')
iam_is a t i m l i' m' b field list list' ea few et ei em eb el =
    let c = ea ∙ circuit_octet l few in
    (λ k. message_of (c k ∷ 0 ∷ et k ∷ 0 ∷ 0x20 ∷ ei k ∷ 0x0A ∷ em k ∷ 2 ∷ []) (eb k) (el k))
    ∙ ap (λ o. l % 64 ∷ 0 ∷ 1 ∷ 0 ∷ 0x20 ∷ i' ∷ 0x0A ∷ m' ∷ 2 ∷ o) (field_list field list')

pub rel_is : (a t l : ℕ) (b field list list' : List ℕ) → a ≡ l → l < 64 → t ≡ 0x0C → b ≡ with_length field → list ≡ list' →
    message_of (a ∷ 0 ∷ t ∷ 2 ∷ []) b list ≡ head l type.Release ++ field_and_list field list'
rel_is a t l b field list list' ea few et eb el =
    let c = ea ∙ circuit_octet l few in
    (λ k. message_of (c k ∷ 0 ∷ et k ∷ 2 ∷ []) (eb k) (el k)) ∙ ap (λ o. l % 64 ∷ 0 ∷ 0x0C ∷ 2 ∷ o) (field_list field list')
