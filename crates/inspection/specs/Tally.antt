-- What is counted of a message and of a line that is none.
-- Rests on the two kinds of count as they are declared; nothing else.
use Rattle.std.specs.Prelude.{ℕ, ◌+◌, ◌-◌, ◌^◌, Bool, cond, min}
use Rattle.inspection.specs.declared.types.Found.{Found}
use Rattle.inspection.specs.declared.types.Tally.{Tally}

-- a count that stays at the greatest number of 64 bits
abbrev pub more : ℕ → ℕ → ℕ
more n k = min (n + k) (2 ^ 64 - 1)

-- one more where something holds
abbrev pub once : ℕ → Bool → ℕ
once n b = more n (cond b 1 0)

abbrev pub with_message : Tally → Found → Tally
with_message t found = record {
  messages = more t.messages 1;
  elements = more t.elements found.elements;
  broken = once t.broken found.broken;
  same = once t.same found.same;
  refused = once t.refused found.refused;
  errors = t.errors;
}

abbrev pub with_error : Tally → Tally
with_error t = record t { errors = more t.errors 1 }
