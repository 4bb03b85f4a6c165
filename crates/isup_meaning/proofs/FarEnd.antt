-- A message that was written is read back: nothing in it is broken, and its field, bearer and parts are as written. Assumes nothing.
use Rattle.std.proofs.Common.{◌≡◌, ℕ, ◌+◌, ◌*◌, ◌%◌, ◌<◌, ◌≤◌, true, false, cond, List, [], ◌∷◌, ◌++◌, length, get_or, Some, None, Ok, Option, sym, refl, ap, ◌∙◌, subst, append_assoc, arith, lit≤, length-append}
use Rattle.std.proofs.lemmas.Bool.{cond-true, lt-ltb, le-leb, and_from}
use Rattle.elements.specs.Elements.{checked}
use Rattle.entries.specs.Codings.{dss1, isup}
use Rattle.entries.specs.Entries.{listed, under, found}
use Rattle.entries.proofs.Tables.{reads_found_bare, whole_bare}
use Rattle.side.specs.Contents.{Part}
use Rattle.side.specs.Meaning.{PartsWithin}
use Rattle.carried.specs.Carried.{Five, five_in, five_at, parts_of, fault_of, part_at, parts_bad_at, earlier}
use Rattle.carried.proofs.PartLaws.{within_parts, within_fault}
use Rattle.isup_meaning.specs.declared.types.MessageType.{MessageType}
use Rattle.isup_meaning.specs.declared.types.MessageType.TheVariants as type
use Rattle.isup_meaning.specs.Reading.{circuit_in, type_in, type_octet, fixed_count, has_field, field_pointer, list_pointer, list_in, field_fault, optional_fault, nested_fault, body_in, five_of, parts_bad, body_read, heard_as, whole_read, type_read, reads}
use Rattle.isup_meaning.specs.Writing.{head, access_table, optional_table, pointer_to, tail, list_only, field_and_list}
use Rattle.isup_meaning.proofs.Pointers.{field_whole, field_back, list_whole, list_found}
use Rattle.isup_meaning.proofs.Lengths.{access_ascends, optional_ascends}

-- a message in which nothing is broken is read by its body
pub read_by_body : (o : List ℕ) (t : MessageType) (n : ℕ) → 3 + fixed_count t ≤ length o → length o ≤ 255 → type_in (get_or o 2 0) ≡ Some t → circuit_in o < 64 →
    cond (has_field t) (field_fault o (field_pointer t)) None ≡ None → optional_fault o (list_pointer t) ≡ None → checked dss1 (body_in o t).access ≡ Ok n →
    reads 64 o ≡ heard_as o (body_read t (body_in o t))
read_by_body o t n low high is leg field list nest =
    cond-true _ _ _ (and_from _ _ (le-leb 3 (length o) (omega arith)) (le-leb (length o) 255 high))
    ∙ ap (type_read 64 o) is
    ∙ cond-true _ _ _ (and_from _ _ (lt-ltb (circuit_in o) 64 leg) (lt-ltb (circuit_in o) 64 leg))
    ∙ cond-true _ _ _ (le-leb (3 + fixed_count t) (length o) low)
    ∙ ap (whole_read o t)
    (ap (λ x. earlier x (earlier (optional_fault o (list_pointer t)) (nested_fault (body_in o t).access_at (checked dss1 (body_in o t).access)))) field
    ∙ ap (λ x. earlier x (nested_fault (body_in o t).access_at (checked dss1 (body_in o t).access))) list
    ∙ ap (nested_fault (body_in o t).access_at) nest)

pub same_five : (a b c d e p q r s t : List ℕ) → a ≡ p → b ≡ q → c ≡ r → d ≡ s → e ≡ t →
    ◌≡◌ {A = Five} (record { calling = a; called = b; low = c; high = d; user = e }) (record { calling = p; called = q; low = r; high = s; user = t })
same_five a b c d e p q r s t i j k l m = cc

-- the table of access transport is read back
pub five_back : (p : Option (ℕ × ℕ)) (ps : List Part) → PartsWithin ps → (access user : List ℕ) → access ≡ listed (access_table p ps) → user ≡ part_at 0x7E ps → five_in access user ≡ five_at ps
five_back p ps w access user a u =
    let asc = access_ascends p ps w in
    same_five (found dss1 0x6D access) (found dss1 0x71 access) (found dss1 0x7C access) (found dss1 0x7D access) user
    (part_at 0x6D ps) (part_at 0x71 ps) (part_at 0x7C ps) (part_at 0x7D ps) (part_at 0x7E ps)
    (ap (found dss1 0x6D) a ∙ reads_found_bare dss1 refl 0 (access_table p ps) asc 0x6D)
    (ap (found dss1 0x71) a ∙ reads_found_bare dss1 refl 0 (access_table p ps) asc 0x71)
    (ap (found dss1 0x7C) a ∙ reads_found_bare dss1 refl 0 (access_table p ps) asc 0x7C)
    (ap (found dss1 0x7D) a ∙ reads_found_bare dss1 refl 0 (access_table p ps) asc 0x7D)
    u

-- a message with a list of this table behind its pointer
module _ (o pre mid : List ℕ) (t : MessageType) (p : Option (ℕ × ℕ)) (ps : List Part) (w : PartsWithin ps) (bearer : List ℕ) (few : length bearer ≤ 11) (d : ℕ)
    (a : length pre ≡ list_pointer t) (m : d ≡ 1 + length mid)
    (e : o ≡ pre ++ (pointer_to d (listed (optional_table p ps bearer)) ∷ (mid ++ tail (listed (optional_table p ps bearer))))) where
  back : (tag : ℕ) → found isup tag (list_in o (list_pointer t)) ≡ under tag (optional_table p ps bearer)
  back tag = list_found o pre mid (optional_table p ps bearer) (optional_ascends p ps w bearer few) (list_pointer t) d a m e tag

  pub bearer_back : (body_in o t).bearer ≡ bearer
  bearer_back = back 0x1D

  pub five_of_is : five_of (body_in o t) ≡ five_at ps
  five_of_is = five_back p ps w (body_in o t).access (body_in o t).user (back 0x03) (back 0x20)

  pub parts_back : parts_of (five_of (body_in o t)) ≡ ps
  parts_back = ap parts_of five_of_is ∙ within_parts ps w

  pub parts_fine : parts_bad (body_in o t) ≡ None
  parts_fine = ap (λ f. parts_bad_at f (body_in o t).user_at) (ap fault_of five_of_is ∙ within_fault ps w)

  pub reads_back : 3 + fixed_count t ≤ length o → length o ≤ 255 → type_in (get_or o 2 0) ≡ Some t → circuit_in o < 64 → cond (has_field t) (field_fault o (field_pointer t)) None ≡ None →
      reads 64 o ≡ heard_as o (body_read t (body_in o t))
  reads_back low high is leg field =
      read_by_body o t (length (listed (access_table p ps))) low high is leg field
      (list_whole o pre mid (optional_table p ps bearer) (optional_ascends p ps w bearer few) (list_pointer t) d a m e)
      (ap (checked dss1) (back 0x03) ∙ whole_bare dss1 refl 0 (access_table p ps) (access_ascends p ps w))

-- the octet of each type stands for it
pub type_back : (t : MessageType) → type_in (type_octet t) ≡ Some t
type_back type.InitialAddress = refl
type_back type.AddressComplete = refl
type_back type.Connect = refl
type_back type.Answer = refl
type_back type.CallProgress = refl
type_back type.Release = refl
type_back type.ReleaseComplete = refl

-- the head of a message
module _ (o : List ℕ) (l : ℕ) (t : MessageType) (rest : List ℕ) (e : o ≡ head l t ++ rest) where
  head_type : type_in (get_or o 2 0) ≡ Some t
  head_type = ap (λ x. type_in (get_or x 2 0)) e ∙ type_back t

  head_leg : circuit_in o < 64
  head_leg = let h : l % 64 + 256 * (0 % 16) < 64 = omega arith in subst (λ x. circuit_in x < 64) (sym e) h

  head_low : fixed_count t ≤ length rest → 3 + fixed_count t ≤ length o
  head_low h = let k : length o ≡ 3 + length rest = ap length e ∙ omega arith in omega arith

-- fixed octets and a list
module _ (o : List ℕ) (l : ℕ) (t : MessageType) (fixed : List ℕ) (n : length fixed ≡ fixed_count t) (f : has_field t ≡ false)
    (p : Option (ℕ × ℕ)) (ps : List Part) (w : PartsWithin ps)
    (e : o ≡ head l t ++ (fixed ++ list_only (listed (optional_table p ps [])))) (high : length o ≤ 255) where
  plain_at : length (head l t ++ fixed) ≡ list_pointer t
  plain_at = let z : ◌≡◌ {A = ℕ} (cond (has_field t) 1 0) 0 = ap (λ b. cond {A = ℕ} b 1 0) f in omega arith

  pub plain_parts : parts_of (five_of (body_in o t)) ≡ ps
  plain_parts = parts_back o (head l t ++ fixed) [] t p ps w [] (lit≤ tt) 1 plain_at refl e

  pub plain_fine : parts_bad (body_in o t) ≡ None
  plain_fine = parts_fine o (head l t ++ fixed) [] t p ps w [] (lit≤ tt) 1 plain_at refl e

  pub plain_reads : reads 64 o ≡ heard_as o (body_read t (body_in o t))
  plain_reads =
      reads_back o (head l t ++ fixed) [] t p ps w [] (lit≤ tt) 1 plain_at refl e
      (head_low o l t (fixed ++ list_only (listed (optional_table p ps []))) e (omega (arith, length-append fixed (list_only (listed (optional_table p ps []))))))
      high (head_type o l t (fixed ++ list_only (listed (optional_table p ps []))) e) (head_leg o l t (fixed ++ list_only (listed (optional_table p ps []))) e)
      (ap (λ b. cond b (field_fault o (field_pointer t)) None) f)

-- fixed octets, a field and a list
module _ (o : List ℕ) (l : ℕ) (t : MessageType) (fixed field : List ℕ) (n : length fixed ≡ fixed_count t) (f : has_field t ≡ true)
    (p : Option (ℕ × ℕ)) (ps : List Part) (w : PartsWithin ps) (bearer : List ℕ) (few : length bearer ≤ 11)
    (e : o ≡ head l t ++ (fixed ++ field_and_list field (listed (optional_table p ps bearer)))) (high : length o ≤ 255) where
  field_at : length (head l t ++ fixed) ≡ field_pointer t
  field_at = omega arith

  long_at : length (head l t ++ (fixed ++ (2 ∷ []))) ≡ list_pointer t
  long_at = let z : ◌≡◌ {A = ℕ} (cond (has_field t) 1 0) 1 = ap (λ b. cond {A = ℕ} b 1 0) f in omega (arith, length-append fixed (2 ∷ []))

  split : o ≡ (head l t ++ (fixed ++ (2 ∷ []))) ++ (pointer_to (2 + length field) (listed (optional_table p ps bearer)) ∷ ((length field ∷ field) ++ tail (listed (optional_table p ps bearer))))
  split = e ∙ ap (λ x. head l t ++ x) (sym (append_assoc fixed (2 ∷ []) (pointer_to (2 + length field) (listed (optional_table p ps bearer)) ∷ ((length field ∷ field) ++ tail (listed (optional_table p ps bearer))))))

  pub long_parts : parts_of (five_of (body_in o t)) ≡ ps
  long_parts = parts_back o (head l t ++ (fixed ++ (2 ∷ []))) (length field ∷ field) t p ps w bearer few (2 + length field) long_at (omega arith) split

  pub long_fine : parts_bad (body_in o t) ≡ None
  long_fine = parts_fine o (head l t ++ (fixed ++ (2 ∷ []))) (length field ∷ field) t p ps w bearer few (2 + length field) long_at (omega arith) split

  pub long_bearer : (body_in o t).bearer ≡ bearer
  long_bearer = bearer_back o (head l t ++ (fixed ++ (2 ∷ []))) (length field ∷ field) t p ps w bearer few (2 + length field) long_at (omega arith) split

  pub long_field : (body_in o t).field ≡ field
  long_field = field_back o (head l t ++ fixed) field (tail (listed (optional_table p ps bearer))) (field_pointer t) (pointer_to (2 + length field) (listed (optional_table p ps bearer))) field_at e

  pub long_reads : reads 64 o ≡ heard_as o (body_read t (body_in o t))
  long_reads =
      reads_back o (head l t ++ (fixed ++ (2 ∷ []))) (length field ∷ field) t p ps w bearer few (2 + length field) long_at (omega arith) split
      (head_low o l t (fixed ++ field_and_list field (listed (optional_table p ps bearer))) e (omega (arith, length-append fixed (field_and_list field (listed (optional_table p ps bearer))))))
      high (head_type o l t (fixed ++ field_and_list field (listed (optional_table p ps bearer))) e) (head_leg o l t (fixed ++ field_and_list field (listed (optional_table p ps bearer))) e)
      (ap (λ b. cond b (field_fault o (field_pointer t)) None) f
      ∙ field_whole o (head l t ++ fixed) field (tail (listed (optional_table p ps bearer))) (field_pointer t) (pointer_to (2 + length field) (listed (optional_table p ps bearer))) field_at e)
