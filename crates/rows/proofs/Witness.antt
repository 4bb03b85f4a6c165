-- Two sides of analogue lines with two legs each, and a row of an exchange over them: the promises speak of something.
-- Assumes nothing: a setup is accepted and answered, a party clears, the other's Clear ends nothing more, and a cut ends a second call.
use Rattle.std.proofs.Common.{◌≡◌, ℕ, List, [], ◌∷◌, replicate, Some, None, refl}
use Rattle.line_meaning.proofs.Laws.{meaning_of_lines}
use Rattle.rows.specs.declared.kinds.Which.{Which}
use Rattle.rows.specs.declared.kinds.Which.TheVariants.{First, Second}
use Rattle.rows.specs.Legs.{leg}
use Rattle.rows.specs.Sides.{Side, sides_of}
use Rattle.rows.specs.Exchange.{fresh, Member, hear, cut, refused, report, next, out, run}
use Rattle.rows.specs.Calls.{events, setups, ended}
use Rattle.rows.specs.Accounting.{pairs, clearings}

abbrev lines : Which → Side
lines = sides_of meaning_of_lines 2 meaning_of_lines 2

abbrev room : List ℕ
room = replicate 256 0

-- line, event, digits
abbrev says : ℕ → ℕ → List ℕ → List ℕ
says l e d = 0x4C ∷ 0x49 ∷ 0x4E ∷ 0x00 ∷ 0x01 ∷ l ∷ e ∷ d

-- leg 0 of the first side calls leg 1 of the second, which answers; leg 0 clears; a second Clear from leg 1 ends nothing
abbrev calls : Member
calls = hear First (says 0 1 (1 ∷ 0x35 ∷ [])) 1 room room

abbrev row : List Member
row = calls ∷ hear Second (says 1 3 (0 ∷ [])) 0 room room ∷ hear First (says 0 4 (0 ∷ [])) 0 room room ∷ hear Second (says 1 4 (0 ∷ [])) 0 room room ∷ []

joined_two : ((run lines fresh (calls ∷ []) (leg First 0)).partner ≡ Some 1) × ((out lines fresh calls).answer ≡ report 0 (Some 1) 0 8)
joined_two = (refl, refl)

counted : (setups (events lines fresh row) ≡ 1) × (ended (events lines fresh row) ≡ 1) × (pairs (run lines fresh row) 2 ≡ 0)
counted = (refl, refl, refl)

-- both legs of a call that is cut are sent a clearing
cut_two : let s = run lines fresh (calls ∷ []) in let m = cut Second 1 31 room room in
    (clearings lines s m (out lines s m) ≡ leg Second 1 ∷ leg First 0 ∷ []) × ((next lines s m (leg First 0)).partner ≡ None)
cut_two = (refl, refl)

-- a busy route is refused
busy : (out lines (run lines fresh (calls ∷ [])) (hear First (says 1 1 (1 ∷ 0x35 ∷ [])) 1 room room)).answer ≡ refused 8 0
busy = refl
