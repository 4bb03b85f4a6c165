-- Octets that are held by value, seen from outside.
-- Rests on the value that holds them.
use Rattle.std.specs.Prelude.{ℕ, List, take}
use Rattle.held.specs.declared.Held.{Held}

abbrev pub octets_of : {n : ℕ} → Held n → List ℕ
octets_of h = take h.count h.octets
