-- Octets that are held are no more than their type says. Assumes nothing.
use Rattle.std.proofs.Common.{◌≡◌, ℕ, ◌≤◌, length, arith, length-take-le}
use Rattle.held.specs.declared.Held.{Held}
use Rattle.held.specs.Held.{octets_of}

pub held_few : {n : ℕ} (h : Held n) → length (octets_of h) ≤ n
held_few h =
    let room = h.room in
    let most = h.most in
    omega (arith, length-take-le h.count h.octets (omega arith))

-- and as many as are counted
pub held_length : {n : ℕ} (h : Held n) → length (octets_of h) ≡ h.count
held_length h =
    let room = h.room in
    let most = h.most in
    length-take-le h.count h.octets (omega arith)
