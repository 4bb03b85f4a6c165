-- A message that passes every test before its body. Assumes nothing.
use Rattle.std.proofs.Common.{◌≡◌, ℕ, ◌+◌, ◌≤◌, Bool, true, cond, ◌&&◌, ltb, List, length, get_or, Some, None, Ok, Err, Result, sym, refl, ap, ◌∙◌, arith}
use Rattle.std.proofs.lemmas.Bool.{cond-true, le-leb}
use Rattle.side.specs.declared.kinds.Refusal.{Refusal}
use Rattle.side.specs.Signals.{Heard}
use Rattle.isup_meaning.specs.declared.types.MessageType.{MessageType}
use Rattle.isup_meaning.specs.Reading.{Body, Said, headed, circuit_in, type_in, fixed_count, body_in, broken, body_read, heard_as, whole_read, type_read, reads}

pub whole : (n : ℕ) (o : List ℕ) (t : MessageType) (b : Body) → true ≡ headed o → Some t ≡ type_in (get_or o 2 0) → (ltb (circuit_in o) n && ltb (circuit_in o) 64) ≡ true →
    3 + fixed_count t ≤ length o → b ≡ body_in o t → None ≡ broken o t b → heard_as o (body_read t b) ≡ reads n o
whole n o t b h e l f eb br =
    sym (cond-true _ _ _ (sym h) ∙ ap (type_read n o) (sym e) ∙ cond-true _ _ _ l ∙ cond-true _ _ _ (le-leb (3 + fixed_count t) (length o) f)
    ∙ ap (whole_read o t) (ap (broken o t) (sym eb) ∙ sym br) ∙ ap (λ b. heard_as o (body_read t b)) (sym eb))

-- a circuit that was found has the number that was looked for
pub leg_found : (n o l x : ℕ) → x ≡ o → Some l ≡ cond (ltb x n && ltb x 64) (Some x) None → ((ltb o n && ltb o 64) ≡ true) × (l ≡ o)
leg_found n o l x e f = let p = found (ltb x n && ltb x 64) f in (ap (λ y. ltb y n && ltb y 64) (sym e) ∙ p.0, p.1 ∙ e)
  where
    found : (b : Bool) → Some l ≡ cond b (Some x) None → (b ≡ true) × (l ≡ x)
    found b g = (grind arith, grind arith)

-- what a message says, on a circuit
abbrev pub heard_by : ℕ → List ℕ → Result Said Refusal → Result Heard Refusal
heard_by l o (Ok s) = Ok (record { leg = l; type = get_or o 2 0; kind = s.kind; contents = s.contents })
heard_by l o (Err e) = Err e

by_circuit : (o : List ℕ) (s : Result Said Refusal) → heard_by (circuit_in o) o s ≡ heard_as o s
by_circuit o (Ok s) = refl
by_circuit o (Err e) = refl

-- and what its body says, whatever that is
pub said_whole : (n : ℕ) (o : List ℕ) (t : MessageType) (b : Body) (l x : ℕ) (s : Result Said Refusal) → true ≡ headed o → Some t ≡ type_in (get_or o 2 0) → x ≡ circuit_in o → Some l ≡ cond (ltb x n && ltb x 64) (Some x) None →
    3 + fixed_count t ≤ length o → b ≡ body_in o t → None ≡ broken o t b → s ≡ body_read t b → heard_by l o s ≡ reads n o
said_whole n o t b l x s h e ex el f eb br es =
    let leg = leg_found n (circuit_in o) l x ex el in
    ap (λ l. heard_by l o s) leg.1 ∙ by_circuit o s ∙ ap (heard_as o) es ∙ whole n o t b h e leg.0 f eb br
