-- No message that is written is longer than 255 octets. Assumes nothing.
use Rattle.std.proofs.Common.{ℕ, ◌+◌, ◌≤◌, Bool, true, false, cond, eqb, List, [], ◌∷◌, ◌++◌, length, None, sym, refl, subst, arith, lit≤}
use Rattle.entries.specs.Entries.{listed}
use Rattle.entries.proofs.Tables.{light}
use Rattle.carried.proofs.Served.{told_bearer_served}
use Rattle.side.specs.declared.kinds.Kind.{Kind}
use Rattle.side.specs.declared.kinds.Kind.TheVariants.{Setup, Complete, Progress, Alerting, Answer, Quiet, Clear, Down}
use Rattle.side.specs.Signals.{Contents}
use Rattle.side.specs.Meaning.{Within, PartsWithin}
use Rattle.carried.specs.Carried.{cause_octets, told_bearer}
use Rattle.isup_meaning.specs.declared.types.MessageType.TheVariants as type
use Rattle.isup_meaning.specs.Writing.{head, replied, optional_table, field_and_list, number_field, isdn_octet, medium_of, iam, acm, cpg, con, anm, rel, party_list, progress_list, progress_event, told_octets}
use Rattle.carried.proofs.Withins.{no_parts, cause_short}
use Rattle.isup_meaning.proofs.Lengths.{optional_length, list_only_length, field_list_length, number_short}

-- by the lengths of field and list
pub iam_length : (l a b : ℕ) (field list : List ℕ) → length (head l type.InitialAddress ++ (0x00 ∷ 0x20 ∷ a ∷ 0x0A ∷ b ∷ field_and_list field list)) ≤ length field + length list + 12
iam_length l a b field list = omega (arith, field_list_length field list)

pub rel_length : (l : ℕ) (field list : List ℕ) → length (head l type.Release ++ field_and_list field list) ≤ length field + length list + 7
rel_length l field list = omega (arith, field_list_length field list)

-- the lists with and without parts
pub party_length : (c : Contents) → PartsWithin c.parts → length (party_list c) ≤ 206
party_length c w = optional_length c.progress c.parts w []

pub progress_length : (c : Contents) → length (progress_list c) ≤ 206
progress_length c = optional_length c.progress [] no_parts []

pub field_short : (c : Contents) → Within Setup c → length (number_field c.number) ≤ 13
field_short c w =
    let n = w.number refl in
    subst (λ x. length (number_field x) ≤ 13) (sym n.1.1) (number_short n.0 n.1.0 n.1.2)

pub iam_short : (l : ℕ) (c : Contents) → Within Setup c → length (iam l c) ≤ 255
iam_short l c w =
    let b = (told_bearer_served c.bearer).1 in
    omega (
      arith,
      iam_length l (isdn_octet 0x01 0x00 c.isdn) (medium_of (told_bearer c.bearer)) (number_field c.number) (listed (optional_table c.progress c.parts (told_bearer c.bearer))),
      field_short c w,
      optional_length c.progress c.parts w.parts (told_bearer c.bearer),
      light (length (told_bearer c.bearer)),
    )

pub rel_short : (l : ℕ) (c : Contents) → PartsWithin c.parts → length (rel l c) ≤ 255
rel_short l c w =
    omega (
      arith,
      rel_length l (cause_octets c.cause) (listed (optional_table None c.parts [])),
      cause_short c.cause,
      optional_length None c.parts w [],
    )

pub acm_short : (l status : ℕ) (i : Bool) (list : List ℕ) → length list ≤ 206 → length (acm l status i list) ≤ 255
acm_short l status i list h = omega (arith, list_only_length list)

pub cpg_short : (l event : ℕ) (list : List ℕ) → length list ≤ 206 → length (cpg l event list) ≤ 255
cpg_short l event list h = omega (arith, list_only_length list)

pub con_short : (l : ℕ) (i : Bool) (list : List ℕ) → length list ≤ 206 → length (con l i list) ≤ 255
con_short l i list h = omega (arith, list_only_length list)

pub anm_short : (l : ℕ) (list : List ℕ) → length list ≤ 206 → length (anm l list) ≤ 255
anm_short l list h = omega (arith, list_only_length list)

pub told_short : (l : ℕ) (done : Bool) (k : Kind) (c : Contents) → Within k c → length (told_octets l done k c) ≤ 255
told_short l done Setup c w = iam_short l c w
told_short l true Complete c w = cpg_short l 0x02 (progress_list c) (progress_length c)
told_short l false Complete c w = acm_short l 0x10 c.isdn (progress_list c) (progress_length c)
told_short l true Progress c w = cpg_short l (progress_event c.progress) (progress_list c) (progress_length c)
told_short l false Progress c w = acm_short l 0x10 c.isdn (progress_list c) (progress_length c)
told_short l true Alerting c w = cpg_short l 0x01 (party_list c) (party_length c w.parts)
told_short l false Alerting c w = acm_short l 0x14 c.isdn (party_list c) (party_length c w.parts)
told_short l true Answer c w = anm_short l (party_list c) (party_length c w.parts)
told_short l false Answer c w = con_short l c.isdn (party_list c) (party_length c w.parts)
told_short l done Quiet c w = lit≤ tt
told_short l done Clear c w = rel_short l c w.parts
told_short l done Down c w = lit≤ tt

pub reply_short : (l t : ℕ) → length (replied l t) ≤ 255
reply_short l t = by (eqb t 0x0C)
  where
    by : (b : Bool) → length (cond b (head l type.ReleaseComplete ++ (0 ∷ [])) []) ≤ 255
    by true = lit≤ tt
    by false = lit≤ tt
