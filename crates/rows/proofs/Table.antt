-- The table of phases, at the phases that partners are in. Assumes nothing.
use Rattle.std.proofs.Common.{◌≡◌, Bool, true, false, ◌||◌, ◌⊎◌, arith}
use Rattle.side.specs.declared.kinds.Kind.{Kind}
use Rattle.side.specs.declared.kinds.Kind.TheVariants.{Clear, Quiet}
use Rattle.side.specs.declared.kinds.Phase.{Phase}
use Rattle.side.specs.declared.kinds.Phase.TheVariants.{Idle, Calling, CallingComplete, Called, CalledComplete, Alerted, Answered, Clearing}
use Rattle.side.specs.Table.{between, heard_in, told_in, told_to}
use Rattle.side.specs.Meaning.{HeardTo}
use Rattle.rows.specs.Exchange.{is_setup, joining, silent, passing, parting, way}
use Rattle.rows.specs.Accounting.{is_clear}
use Rattle.rows.specs.Carriage.{goes_on}

-- the phases that partners are in
abbrev pub paired : Phase → Phase → Bool
paired Idle q = false
paired Calling q = between 3 3 q
paired CallingComplete q = between 4 5 q
paired Called q = between 1 1 q
paired CalledComplete q = between 2 2 q
paired Alerted q = between 2 2 q
paired Answered q = between 6 6 q
paired Clearing q = false

-- those of a leg without a partner
abbrev pub rests : Phase → Bool
rests p = between 0 0 p || between 7 7 p

pub paired_back : (p q : Phase) → paired p q ≡ true → paired q p ≡ true
paired_back p q e = grind arith

pub paired_busy : (p q : Phase) → paired p q ≡ true → between 1 6 p ≡ true
paired_busy p q e = grind arith

pub busy_not_idle : (p : Phase) → between 1 6 p ≡ true → between 0 0 p ≡ true → ⊥
busy_not_idle p e f = grind arith

-- a kind that is passed on finds its row at the partner, and leaves the two paired
pub pass_tells : (k : Kind) (b : Bool) (p q : Phase) → way k ≡ passing → paired p q ≡ true → heard_in k p ≡ true → told_in k b q ≡ true
pass_tells k b p q e f g = grind arith

pub pass_pairs : (k : Kind) (p q p' : Phase) → way k ≡ passing → paired p q ≡ true → heard_in k p ≡ true → HeardTo k p p' → paired p' (told_to k q) ≡ true
pass_pairs k p q p' e f g h = grind arith

pub rests_clear : (p : Phase) → (p ≡ Idle) ⊎ (p ≡ Clearing) → rests p ≡ true
rests_clear p e = grind arith

-- a leg at rest stays so, whatever it hears but a setup
pub rest_stays : (k : Kind) (p q : Phase) → is_setup k ≡ false → rests p ≡ true → heard_in k p ≡ true → HeardTo k p q → rests q ≡ true
rest_stays k p q e f g h = grind arith

pub silent_is : (k : Kind) → way k ≡ silent → k ≡ Quiet
silent_is k e = grind arith

pub parting_is : (k : Kind) → way k ≡ parting → k ≡ Clear
parting_is k e = grind arith

pub joining_is : (k : Kind) → way k ≡ joining → is_setup k ≡ false → ⊥
joining_is k e f = grind arith

pub idle_is : (p : Phase) → between 0 0 p ≡ true → p ≡ Idle
idle_is p e = grind arith

pub passing_not_clear : (k : Kind) → way k ≡ passing → is_clear k ≡ false
passing_not_clear k e = grind arith

pub goes_on_not_silent : (k : Kind) → goes_on k ≡ true → way k ≡ silent → ⊥
goes_on_not_silent k g e = grind arith

pub stays_silent : (k : Kind) → goes_on k ≡ false → way k ≡ silent
stays_silent k e = grind arith

pub passing_not_silent : (k : Kind) → way k ≡ passing → way k ≡ silent → ⊥
passing_not_silent k j z = grind arith

pub parting_not_silent : (k : Kind) → way k ≡ parting → way k ≡ silent → ⊥
parting_not_silent k j z = grind arith
