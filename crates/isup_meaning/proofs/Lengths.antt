-- How long the tables of a message are, and that their tags ascend. Assumes nothing.
use Rattle.std.proofs.Common.{ℕ, ◌+◌, ◌≤◌, Bool, true, false, cond, eqb, List, [], ◌∷◌, ◌++◌, length, Some, Option, refl, arith, lit<, length-append}
use Rattle.entries.specs.Codings.{dss1, isup}
use Rattle.entries.specs.Entries.{listed, weight, Ascending}
use Rattle.entries.proofs.Tables.{listed_length, light}
use Rattle.digits.specs.Dialling.{Number}
use Rattle.digits.proofs.Packs.{length_packed_ended}
use Rattle.values.specs.declared.types.NumberType.{NumberType}
use Rattle.side.specs.Limits.{cost}
use Rattle.side.specs.Contents.{Part}
use Rattle.side.specs.Meaning.{PartsWithin}
use Rattle.carried.specs.Carried.{part_at, progress_octets}
use Rattle.carried.proofs.PartLaws.{within_weights, part_short}
use Rattle.carried.proofs.Withins.{progress_short}
use Rattle.isup_meaning.specs.Writing.{but_in_band, access_table, optional_table, tail, list_only, field_and_list, number_field}

pub number_short : (t : NumberType) (d : List ℕ) → Number d → length (number_field (Some (t, d))) ≤ 13
number_short t d n = let h = n.1 in omega (arith, length_packed_ended d)

module _ (p : Option (ℕ × ℕ)) (ps : List Part) (w : PartsWithin ps) where
  -- access transport: progress and all parts but user-user
  pub access_length : length (listed (access_table p ps)) + cost (length (part_at 0x7E ps)) ≤ 204
  access_length =
      let f = within_weights ps w in
      omega (arith, listed_length (access_table p ps), light (length (progress_octets (but_in_band p))), progress_short (but_in_band p))

  pub optional_length : (bearer : List ℕ) → length (listed (optional_table p ps bearer)) ≤ 206 + weight (length bearer)
  optional_length bearer =
      omega (arith, listed_length (optional_table p ps bearer), light (length (listed (access_table p ps))), access_length)

  pub access_ascends : Ascending dss1 0 (access_table p ps)
  access_ascends =
      let s = part_short ps w in (
        lit< tt,
        refl,
        refl,
        omega (arith, progress_short (but_in_band p)),
        (
          lit< tt,
          refl,
          refl,
          omega (arith, s.0),
          (
            lit< tt,
            refl,
            refl,
            omega (arith, s.1),
            (
              lit< tt,
              refl,
              refl,
              omega (arith, s.2),
              (lit< tt, refl, refl, omega (arith, s.3), tt),
            ),
          ),
        ),
      )

  pub optional_ascends : (bearer : List ℕ) → length bearer ≤ 11 → Ascending isup 0 (optional_table p ps bearer)
  optional_ascends bearer few = (
    lit< tt,
    refl,
    refl,
    omega (arith, access_length),
    (
      lit< tt,
      refl,
      refl,
      omega arith,
      (lit< tt, refl, refl, omega (arith, (part_short ps w).4), tt),
    ),
  )

pub tail_length : (list : List ℕ) → length (tail list) ≤ length list + 1
tail_length list = by (eqb (length list) 0)
  where
    by : (b : Bool) → length (cond b [] (list ++ (0 ∷ []))) ≤ length list + 1
    by true = omega arith
    by false = omega (arith, length-append list (0 ∷ []))

pub list_only_length : (list : List ℕ) → length (list_only list) ≤ length list + 2
list_only_length list = omega (arith, tail_length list)

pub field_list_length : (field list : List ℕ) → length (field_and_list field list) ≤ length field + length list + 4
field_list_length field list = omega (arith, tail_length list, length-append field (tail list))
