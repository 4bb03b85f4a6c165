-- Whatever a signal says is within the limits of its kind. Assumes nothing.
use Rattle.std.proofs.Common.{◌≡◌, ℕ, ◌+◌, ◌%◌, ◌≤◌, false, cond, ltb, List, [], length, get_or, drop, Ok, Err, refl, ap, ◌∙◌, arith, lit≤, length-drop}
use Rattle.std.proofs.lemmas.List.{length-take-le, get_or-take}
use Rattle.std.proofs.lemmas.Bool.{cond-false, le-ltb}
use Rattle.std.proofs.lemmas.Bool.Decides.{nat_tests}
use Rattle.digits.proofs.Steps.{number_of}
use Rattle.values.specs.declared.types.Capability.{Capability}
use Rattle.values.specs.declared.types.Capability.TheVariants.{Speech, Unrestricted, Audio}
use Rattle.values.specs.declared.types.BearerFault.TheVariants.{TooShort, TooLong}
use Rattle.values.specs.Bearers.{capability_of, bearer_in}
use Rattle.side.specs.declared.kinds.Kind.{Kind}
use Rattle.side.specs.declared.kinds.Kind.TheVariants as kind
use Rattle.side.specs.declared.parts.Parts.{Parts}
use Rattle.side.specs.declared.contents.Bearer.{Bearer}
use Rattle.side.specs.declared.contents.Signal.{Signal}
use Rattle.side.specs.declared.contents.Signal.TheVariants as said
use Rattle.side.specs.Limits.{cost, capability_code}
use Rattle.side.specs.Contents.{cut, parts_of, calling_of, called_of, low_of, high_of, user_of}
use Rattle.side.specs.Signals.{Contents, bearer_of, kind_of, contents_of}
use Rattle.side.specs.Meaning.{PartsWithin, Within, bears}

cut_length : (s n : ℕ) (xs : List ℕ) → s + n ≤ length xs → length (cut s n xs) ≡ n
cut_length s n xs h = length-take-le n (drop s xs) (simp length-drop (omega arith))

-- a part is no longer than what it costs
costs : (n : ℕ) → n ≤ cost n
costs n = grind (arith, nat_tests)

pub parts_within : (p : Parts) → PartsWithin (parts_of p)
parts_within p =
    let l = p.lengths in
    let a = costs l.calling in
    let b = costs l.called in
    let c = costs l.low in
    let d = costs l.high in
    let e = costs l.user in
    let t = l.total in
    let w = p.whole in
    let A : length (calling_of p) ≡ l.calling = cut_length 0 l.calling p.octets (omega arith) in
    let B : length (called_of p) ≡ l.called = cut_length l.calling l.called p.octets (omega arith) in
    let C : length (low_of p) ≡ l.low = cut_length (l.calling + l.called) l.low p.octets (omega arith) in
    let D : length (high_of p) ≡ l.high = cut_length (l.calling + l.called + l.low) l.high p.octets (omega arith) in
    let E : length (user_of p) ≡ l.user = cut_length (l.calling + l.called + l.low + l.high) l.user p.octets (omega arith) in
    record {
      calling = calling_of p;
      called = called_of p;
      low = low_of p;
      high = high_of p;
      user = user_of p;
      are = refl;
      total = omega (arith, ap cost A, ap cost B, ap cost C, ap cost D, ap cost E);
      few = omega (arith, l.few);
    }

-- no parts
pub none_within : PartsWithin []
none_within = record { calling = []; called = []; low = []; high = []; user = []; are = refl; total = lit≤ tt; few = lit≤ tt }

bearer_long : (b : Bearer) → (2 ≤ length (bearer_of b)) × (length (bearer_of b) ≤ 11)
bearer_long b =
    let r = b.room in
    let m = b.most in
    let k : length (bearer_of b) ≡ b.count = length-take-le b.count b.octets (omega arith) in
    (omega (arith, b.least), omega arith)

pub bearer_served : (b : Bearer) → bearer_in (bearer_of b) ≡ Ok b.capability
bearer_served b =
    let l = bearer_long b in
    let r = b.least in
    let first : get_or (bearer_of b) 0 0 ≡ get_or b.octets 0 0 = get_or-take b.count b.octets 0 0 (omega arith) in
    short (bearer_of b) b.capability l.0 l.1 (ap (λ n. n % 32) first ∙ b.served)
  where
    short : (xs : List ℕ) (c : Capability) → 2 ≤ length xs → length xs ≤ 11 → get_or xs 0 0 % 32 ≡ capability_code c → bearer_in xs ≡ Ok c
    short xs c h k e = ap (λ n. cond (ltb (length xs) 2) (Err TooShort) (cond (ltb 11 (length xs)) (Err TooLong) (capability_of n))) e
        ∙ cond-false _ _ _ (le-ltb (length xs) 2 h) ∙ cond-false _ _ _ (le-ltb 11 (length xs) k) ∙ coded c
      where
        coded : (c : Capability) → capability_of (capability_code c) ≡ Ok c
        coded Speech = refl
        coded Unrestricted = refl
        coded Audio = refl

-- contents of a kind that is none of the three with rules of their own
pub plain : (k : Kind) (c : Contents) → PartsWithin c.parts → (bears k ≡ false → c.parts ≡ []) → (k ≡ kind.Setup → ⊥) → (k ≡ kind.Progress → ⊥) → (k ≡ kind.Clear → ⊥) → Within k c
plain k c p b s g t = record { parts = p; bare = b; bearer = λ e. absurd (s e); number = λ e. absurd (s e); noted = λ e. absurd (g e); cause = λ e. absurd (t e) }

pub within : (s : Signal) → Within (kind_of s) (contents_of s)
within (said.Setup s) = record {
  parts = parts_within s.parts;
  bare = λ e. absurd (grind arith);
  bearer = λ _. bearer_long s.bearer;
  number = λ _. (s.number.kind, (_, refl, number_of s.number.digits));
  noted = λ e. absurd (grind arith);
  cause = λ e. absurd (grind arith);
}
within (said.Complete p i) = plain kind.Complete _ none_within (λ _. refl) (λ e. grind arith) (λ e. grind arith) (λ e. grind arith)
within (said.Progress p i) = record {
  parts = none_within;
  bare = λ _. refl;
  bearer = λ e. absurd (grind arith);
  number = λ e. absurd (grind arith);
  noted = λ _. (p.location, (p.description, refl));
  cause = λ e. absurd (grind arith);
}
within (said.Alerting p i ps) = plain kind.Alerting _ (parts_within ps) (λ e. absurd (grind arith)) (λ e. grind arith) (λ e. grind arith) (λ e. grind arith)
within (said.Answer p i ps) = plain kind.Answer _ (parts_within ps) (λ e. absurd (grind arith)) (λ e. grind arith) (λ e. grind arith) (λ e. grind arith)
within said.Quiet = plain kind.Quiet _ none_within (λ _. refl) (λ e. grind arith) (λ e. grind arith) (λ e. grind arith)
within (said.Clear c ps) = record {
  parts = parts_within ps;
  bare = λ e. absurd (grind arith);
  bearer = λ e. absurd (grind arith);
  number = λ e. absurd (grind arith);
  noted = λ e. absurd (grind arith);
  cause = λ _. (c.location, (c.value, refl, c.place, c.range));
}
within said.Down = plain kind.Down _ none_within (λ _. refl) (λ e. grind arith) (λ e. grind arith) (λ e. grind arith)
