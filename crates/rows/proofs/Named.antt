-- What a hearing names goes by its refusal. Assumes that a side refuses a message by 2 to 6.
use Rattle.std.proofs.Common.{◌≡◌, ℕ, ◌≤◌, Bool, true, false, cond, List, [], ◌∷◌, Some, None, Option, refl, arith}
use Rattle.side.specs.declared.kinds.Kind.{Kind}
use Rattle.side.specs.Table.{heard_in}
use Rattle.side.specs.Signals.{Contents}
use Rattle.side.specs.Meaning.{Turn}
use Rattle.rows.specs.declared.kinds.Which.{Which}
use Rattle.rows.specs.Legs.{other, Leg, leg}
use Rattle.rows.specs.Sides.{Side, Reading, unread, heard, reading}
use Rattle.rows.specs.Exchange.{LegState, hearing, Effect, refuses, does, Peer, roomy, hear_asked, is_setup, Way, joining, silent, passing, parting, way, joined, alone_row, has_row, both_row, effect, outcome_of, asked_outcome}
use Rattle.rows.specs.Independence.{read_names}
use Rattle.rows.specs.Naming.{NamesBy, Naming}
use Rattle.rows.proofs.Readings.{unread_number}

-- what is refused in a state is refused 7 or 8
abbrev High : Effect → Type 0
High (refuses n) = 7 ≤ n
High (does p q b m n) = Unit {0}

high_alone : (h u : Bool) (t : Turn) (p : LegState) → High (alone_row h u t p)
high_alone false u t p = omega arith
high_alone true true t p = omega arith
high_alone true false t p = tt

high_joined : (h : Bool) (t u : Turn) (b : Bool) → High (joined h t u b)
high_joined false t u b = omega arith
high_joined true t u b = tt

high_both : (h j : Bool) (W : Way) (A B : Side) (l y t : ℕ) (k : Kind) (c : Contents) (p q : LegState) → way k ≡ W → High (both_row h j A B l y t k c p q)
high_both false j W A B l y t k c p q e = omega arith
high_both true false W A B l y t k c p q e = omega arith
high_both true true joining A B l y t k c p q e = rw e (high_joined _ _ _ _)
high_both true true silent A B l y t k c p q e = rw e tt
high_both true true passing A B l y t k c p q e = rw e tt
high_both true true parting A B l y t k c p q e = rw e tt

high : (A B : Side) (l t : ℕ) (k : Kind) (c : Contents) (r : ℕ) (p : LegState) (q : Option Peer) → High (effect A B l (hearing t k c r) p q)
high A B l t k c r p None = high_alone (heard_in k p.phase) (is_setup k) (A.takes l p.phase t k c) p
high A B l t k c r p (Some q) =
    high_both (heard_in k p.phase) (has_row (way k) k (B.callable q.number) q.at.phase) (way k) A B l q.number t k c p q.at refl

by_effect : (w : Which) (l : ℕ) (o : Option ℕ) (e : Effect) (a b : List ℕ) (rest : List Leg) → High e → NamesBy w (outcome_of l o e a b).answer (leg w l ∷ rest)
by_effect w l o (refuses n) a b rest h = (omega arith, (λ i. absurd (omega arith)), (λ _ i. let z : ◌≡◌ {A = ℕ} 0 1 = cc in omega arith))
by_effect w l o (does p q x m n) a b rest h = (rest, refl)

pub naming : (M : Which → Side) → Naming M
naming M s w o r a b = go (roomy a b) (reading (M w) o) refl
  where
    go : (t : Bool) (g : Reading) → reading (M w) o ≡ g → NamesBy w (asked_outcome M s (hear_asked t w r g) a b).answer (cond t (read_names (M (other w)) w r g) [])
    go false g e = (omega arith, (λ _. refl), (λ i. absurd (omega arith)))
    go true (unread n p) e = let h = unread_number (M w) o n p e in (omega arith, (λ _. refl), (λ i. absurd (omega arith)))
    go true (heard l type k c) e = by_effect w l _ _ a b _ (high (M w) (M (other w)) l type k c r (s (leg w l)) _)
