-- Naming: which legs a hearing names goes by its refusal.
-- Rests on the model of the exchange, in any state.
use Rattle.std.specs.Prelude.{◌≡◌, ℕ, ◌≤◌, List, [], ◌∷◌, ◌≢◌}
use Rattle.rows.specs.declared.kinds.Which.{Which}
use Rattle.rows.specs.Legs.{Leg, leg}
use Rattle.rows.specs.Sides.{Side}
use Rattle.rows.specs.Exchange.{State, hear, Response, refused, report, out}
use Rattle.rows.specs.Independence.{names}

-- refused 1 to 6 it names none; refused otherwise or accepted it names some leg, and accepted the reported one first
abbrev pub NamesBy : Which → Response → List Leg → Type 0
NamesBy w (refused n p) ns = (1 ≤ n) × (n ≤ 6 → ns ≡ []) × (7 ≤ n → ns ≢ [])
NamesBy w (report l q i j) ns = (rest : List Leg) × (ns ≡ leg w l ∷ rest)

abbrev pub Naming : (Which → Side) → Type 0
Naming M = (s : State) (w : Which) (o : List ℕ) (r : ℕ) (a b : List ℕ) → NamesBy w (out M s (hear w o r a b)).answer (names M (hear w o r a b))
