-- A setup whose values are judged one by one. Assumes nothing.
use Rattle.std.proofs.Common.{◌≡◌, ℕ, ◌≤◌, Bool, true, false, cond, not, ◌||◌, List, length, get_or, is_some, is_ok, unwrap_or, IfOk, Some, None, Ok, Err, Option, Result, sym, refl, ap, ◌∙◌, arith}
use Rattle.std.proofs.lemmas.Bool.{cond-true, le-leb}
use Rattle.std.proofs.lemmas.Result.{IfOk-at_ok}
use Rattle.std.specs.Option.{option_map}
use Rattle.values.specs.Bearers.{bearer_in}
use Rattle.side.specs.declared.kinds.Kind.{Kind}
use Rattle.side.specs.declared.kinds.Kind.TheVariants as kind
use Rattle.side.specs.declared.kinds.Reason.TheVariants.{BadValue}
use Rattle.side.specs.declared.kinds.Refusal.{Refusal}
use Rattle.side.specs.declared.contents.Bearer.{Bearer}
use Rattle.side.specs.declared.contents.Number.{Number}
use Rattle.side.specs.declared.parts.Parts.{Parts}
use Rattle.side.specs.Contents as side
use Rattle.side.specs.Signals as signals
use Rattle.carried.specs.Carried.{parts_of, bad_at, both, refused}
use Rattle.carried.proofs.Refusals.{both_ok, both_refused_at}
use Rattle.isup_meaning.specs.Reading.{Body, refusal, medium_bearer, number_in, or_bearer, there, forward_isdn, progress_of, five_of, parts_bad, setup_bad, setup_says, judged, setup_read}
use Rattle.isup_reading.specs.Reads.{bad_value, number_of}

-- what is said is refused, or is said
refused_so : (o : Option ℕ) (e : Refusal) (k : Kind) (c : signals.Contents) → Some e ≡ bad_value o → Err e ≡ judged o k c
refused_so None e k c h = absurd (cc)
refused_so (Some p) e k c h = let i : e ≡ refusal BadValue p = cc in ap Err i

said_so : (o : Option ℕ) (k : Kind) (c : signals.Contents) → None ≡ bad_value o → Ok (record { kind = k; contents = c }) ≡ judged o k c
said_so None k c h = refl
said_so (Some p) k c h = absurd (cc)

chosen_is : (o : Option Bearer) (x : Bearer) (t : Bool) (l : List ℕ) (m : Option (List ℕ)) → option_map signals.bearer_of o ≡ cond t (Some l) None → Some (signals.bearer_of x) ≡ m →
    signals.bearer_of (unwrap_or o x) ≡ cond t l (or_bearer m)
chosen_is None x true l m e f = absurd (grind arith)
chosen_is None x false l m e f = ap or_bearer f
chosen_is (Some y) x true l m e f = ap or_bearer e
chosen_is (Some y) x false l m e f = absurd (grind arith)

module _ (b : Body) (m : Result Bearer Refusal) (n : Result Number Refusal) (c : Result (Option Bearer) Refusal) (p : Result Parts Refusal)
    (inner : Result (Option Bearer × Parts) Refusal) (outer : Result (Number × (Option Bearer × Parts)) Refusal) (is-inner : inner ≡ both c p) (is-outer : outer ≡ both n inner)
    (long : 2 ≤ length b.field)
    (bad-m : refused m ≡ bad_value (bad_at (is_some (medium_bearer (get_or b.octets 7 0))) 7))
    (bad-n : refused n ≡ bad_value (bad_at (is_some (number_in b.field)) 8))
    (bad-c : refused c ≡ bad_value (bad_at (not (there b.bearer) || is_ok (bearer_in b.bearer)) b.bearer_at))
    (bad-p : refused p ≡ bad_value (parts_bad b)) where
  bad : refused (both m outer) ≡ bad_value (setup_bad b)
  bad =
      let x = ap refused is-inner ∙ both_refused_at (refusal BadValue) (λ p. refl) c p _ _ bad-c bad-p in
      let y = ap refused is-outer ∙ both_refused_at (refusal BadValue) (λ p. refl) n inner _ _ bad-n x in
      both_refused_at (refusal BadValue) (λ p. refl) m outer _ _ bad-m y

  head : setup_read b ≡ judged (setup_bad b) kind.Setup (setup_says b)
  head = cond-true _ _ _ (le-leb 2 (length b.field) long)

  -- a value outside its rule
  pub setup_refused : (e : Refusal) → Err e ≡ both m outer → Err e ≡ setup_read b
  setup_refused e h = refused_so (setup_bad b) e _ _ (ap refused h ∙ bad) ∙ sym head

  -- every value in its rule
  module _ (value-m : IfOk m (λ x. Some (signals.bearer_of x) ≡ medium_bearer (get_or b.octets 7 0)))
      (value-n : IfOk n (λ x. Some (number_of x) ≡ number_in b.field))
      (value-c : IfOk c (λ x. option_map signals.bearer_of x ≡ cond (there b.bearer) (Some b.bearer) None))
      (value-p : IfOk p (λ x. side.parts_of x ≡ parts_of (five_of b)))
      (v : Bearer × (Number × (Option Bearer × Parts))) (e : Ok v ≡ both m outer) where
    pub setup_says_this : (x : Bearer) (progress : Option (ℕ × ℕ)) (isdn : Bool) → x ≡ unwrap_or v.1.1.0 v.0 → progress ≡ progress_of b → isdn ≡ forward_isdn b →
        Ok (record { kind = kind.Setup; contents = record { bearer = signals.bearer_of x; number = Some (number_of v.1.0); progress = progress; cause = None; isdn = isdn; parts = side.parts_of v.1.1.1 } }) ≡ setup_read b
    setup_says_this x progress isdn eb ep ei =
        let one = both_ok m outer v e in
        let two = both_ok n inner v.1 (sym one.1 ∙ is-outer) in
        let three = both_ok c p v.1.1 (sym two.1 ∙ is-inner) in
        let M = IfOk-at_ok (λ x. Some (signals.bearer_of x) ≡ medium_bearer (get_or b.octets 7 0)) one.0 value-m in
        let N = IfOk-at_ok (λ x. Some (number_of x) ≡ number_in b.field) two.0 value-n in
        let C = IfOk-at_ok (λ x. option_map signals.bearer_of x ≡ cond (there b.bearer) (Some b.bearer) None) three.0 value-c in
        let P = IfOk-at_ok (λ x. side.parts_of x ≡ parts_of (five_of b)) three.1 value-p in
        let B = ap signals.bearer_of eb ∙ chosen_is v.1.1.0 v.0 (there b.bearer) b.bearer (medium_bearer (get_or b.octets 7 0)) C M in
        (λ i. Ok (record { kind = kind.Setup; contents = record { bearer = B i; number = N i; progress = ep i; cause = None; isdn = ei i; parts = P i } }))
        ∙ said_so (setup_bad b) _ _ (ap refused e ∙ bad) ∙ sym head
