-- The table of phases: in which phase each kind may be heard and told, and the phase after it.
-- Rests on nothing but the kinds and the phases.
use Rattle.std.specs.Prelude.{ℕ, Bool, false, ◌&&◌, nat_le}
use Rattle.side.specs.declared.kinds.Kind.{Kind}
use Rattle.side.specs.declared.kinds.Kind.TheVariants.{Setup, Complete, Progress, Alerting, Answer, Quiet, Clear, Down}
use Rattle.side.specs.declared.kinds.Phase.{Phase}
use Rattle.side.specs.declared.kinds.Phase.TheVariants.{Idle, Calling, CallingComplete, Called, CalledComplete, Alerted, Answered, Clearing}

-- the number of a phase
abbrev pub phase_number : Phase → ℕ
phase_number Idle = 0
phase_number Calling = 1
phase_number CallingComplete = 2
phase_number Called = 3
phase_number CalledComplete = 4
phase_number Alerted = 5
phase_number Answered = 6
phase_number Clearing = 7

abbrev pub between : ℕ → ℕ → Phase → Bool
between low high p = nat_le low (phase_number p) && nat_le (phase_number p) high

-- a kind may be heard in these phases
abbrev pub heard_in : Kind → Phase → Bool
heard_in Setup p = between 0 0 p
heard_in Complete p = between 3 3 p
heard_in Progress p = between 3 5 p
heard_in Alerting p = between 3 4 p
heard_in Answer p = between 3 5 p
heard_in Quiet p = between 1 6 p
heard_in Clear p = between 0 7 p
heard_in Down p = between 7 7 p

-- a kind may be told in these phases; a setup only to a leg that may be called
abbrev pub told_in : Kind → Bool → Phase → Bool
told_in Setup callable p = callable && between 0 0 p
told_in Complete callable p = between 1 2 p
told_in Progress callable p = between 1 2 p
told_in Alerting callable p = between 1 2 p
told_in Answer callable p = between 1 2 p
told_in Quiet callable p = false
told_in Clear callable p = between 1 6 p
told_in Down callable p = false

-- after progress an alerted party stays alerted
abbrev pub progressed : Phase → Phase
progressed Idle = CalledComplete
progressed Calling = CalledComplete
progressed CallingComplete = CalledComplete
progressed Called = CalledComplete
progressed CalledComplete = CalledComplete
progressed Alerted = Alerted
progressed Answered = CalledComplete
progressed Clearing = CalledComplete

-- the phase after a kind was heard; where a call ends, the side says whether the leg is free at once
abbrev pub heard_to : Kind → Phase → Phase → Phase
heard_to Setup cleared p = Calling
heard_to Complete cleared p = CalledComplete
heard_to Progress cleared p = progressed p
heard_to Alerting cleared p = Alerted
heard_to Answer cleared p = Answered
heard_to Quiet cleared p = p
heard_to Clear cleared p = cleared
heard_to Down cleared p = Idle

-- the phase after a kind was told
abbrev pub told_to : Kind → Phase → Phase
told_to Setup p = Called
told_to Complete p = CallingComplete
told_to Progress p = CallingComplete
told_to Alerting p = CallingComplete
told_to Answer p = Answered
told_to Quiet p = p
told_to Clear p = Clearing
told_to Down p = p
