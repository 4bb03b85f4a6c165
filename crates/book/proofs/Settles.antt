-- From what becomes of one record to what becomes of a side. Assumes nothing.
use Rattle.std.proofs.Common.{◌≡◌, ℕ, ◌<◌, Bool, true, false, cond, ◌&&◌, ltb, List, length, get_or, set, Some, None, Ok, Err, Option, sym, refl, ap, ◌∙◌, subst, arith}
use Rattle.std.proofs.lemmas.Bool.{lt-ltb, ltb-true}
use Rattle.std.specs.Option.{ok_or}
use Rattle.side.specs.declared.kinds.Kind.{Kind}
use Rattle.side.specs.declared.kinds.Refusal.{Refusal}
use Rattle.side.specs.declared.kinds.System.{System}
use Rattle.side.specs.Table.{heard_in, told_in}
use Rattle.side.specs.Signals.{Contents, Heard}
use Rattle.side.specs.Meaning.{Meaning}
use Rattle.side.specs.Steps.{After, written, row_fault, settled, Did}

-- a leg that was found is there, and the record is its own
pub found : {R : Type 0} (rs : List R) (l : ℕ) (d r : R) → Some r ≡ cond (ltb l (length rs)) (Some (get_or rs l d)) None → (l < length rs) × (r ≡ get_or rs l d)
found rs l d r e = at (ltb l (length rs)) refl e
  where
    at : (b : Bool) → ltb l (length rs) ≡ b → Some r ≡ cond b (Some (get_or rs l d)) None → (l < length rs) × (r ≡ get_or rs l d)
    at true t h = (ltb-true l (length rs) t, grind arith)
    at false t h = absurd (grind arith)

pub missing : {R : Type 0} (rs : List R) (l : ℕ) (x : R) → None ≡ cond (ltb l (length rs)) (Some x) None → ltb l (length rs) ≡ false
missing rs l x e = at (ltb l (length rs)) refl e
  where
    at : (b : Bool) → ltb l (length rs) ≡ b → None ≡ cond b (Some x) None → ltb l (length rs) ≡ false
    at true t h = absurd (grind arith)
    at false t h = t

-- with the leg there, its row decides; without it there is no row
pub row_there : (l n : ℕ) (b : Bool) (s : System) (room : ℕ) → l < n → row_fault s room (ltb l n && b) ≡ row_fault s room b
row_there l n b s room h = ap (λ t. row_fault s room (t && b)) (lt-ltb l n h)

pub row_missing : (l n : ℕ) (b : Bool) (s : System) (room : ℕ) → ltb l n ≡ false → row_fault s room (ltb l n && b) ≡ row_fault s room false
row_missing l n b s room h = ap (λ t. row_fault s room (t && b)) h

-- a step that is refused, and one that is taken
module _ {R : Type 0} (M : Meaning R) (rs : List R) (l : ℕ) (fault : Option Refusal) (r : R) (message buffer : List ℕ) where
  pub balks : (e : Refusal) (after : List ℕ) → fault ≡ Some e → after ≡ buffer → Did (settled M rs l fault r message buffer) (Err e) rs after
  balks e after f same = subst (λ o. Did (settled M rs l o r message buffer) (Err e) rs after) (sym f) (record { answered = refl; left = refl; wrote = same })

  pub settles : (n : ℕ) (next : R) (rs' : List R) (after : List ℕ) → fault ≡ None → next ≡ r → rs' ≡ set rs l next → n ≡ length message → after ≡ written message buffer → Did (settled M rs l fault r message buffer) (Ok n) rs' after
  settles n next rs' after f x y z w = subst (λ o. Did (settled M rs l o r message buffer) (Ok n) rs' after) (sym f) (record { answered = ap Ok z; left = y ∙ ap (set rs l) x; wrote = w })

-- the refusal of what was not there
lost : {R : Type 0} (o : Option R) (e f : Refusal) → Err e ≡ ok_or o f → (None ≡ o) × (e ≡ f)
lost None e f h = (refl, grind arith)
lost (Some r) e f h = absurd (grind arith)

-- a request to a leg: whether its record has a row for it, and the next record and the message by its record
pub record Asked (R : Type 0) : Type 0 where
  pub leg : ℕ
  pub row : R → Bool
  pub next : R → R
  pub message : R → List ℕ

abbrev pub taking : {R : Type 0} → Meaning R → Heard → Asked R
taking M h = record {
  leg = h.leg;
  row = λ q. heard_in h.kind (M.phase_of q);
  next = λ q. M.taken h.leg q h.type h.kind h.contents;
  message = λ q. (M.takes h.leg (M.phase_of q) h.type h.kind h.contents).octets;
}

abbrev pub telling : {R : Type 0} → Meaning R → ℕ → Kind → Contents → Asked R
telling M l k c = record {
  leg = l;
  row = λ q. told_in k (M.callable l) (M.phase_of q);
  next = λ q. M.told l q k c;
  message = λ q. (M.tells l (M.phase_of q) k c).octets;
}

module _ {R : Type 0} (M : Meaning R) (rs : List R) (a : Asked R) (buffer : List ℕ) where
  abbrev own : R
  own = get_or rs a.leg M.blank

  abbrev after : Option Refusal → R → After R
  after fault r = settled M rs a.leg fault (a.next r) (a.message r) buffer

  abbrev fault : Bool → Option Refusal
  fault b = row_fault M.system (length buffer) b

  abbrev pub step : After R
  step = after (fault (ltb a.leg (length rs) && a.row own)) own

  -- with the leg there, its own record decides
  there : (r : R) → Some r ≡ cond (ltb a.leg (length rs)) (Some own) None → after (fault (a.row r)) r ≡ step
  there r f =
      let x = found rs a.leg M.blank r f in
      ap (λ q. after (fault (a.row q)) q) x.1 ∙ ap (λ t. after (fault (t && a.row own)) own) (sym (lt-ltb a.leg (length rs) x.0))

  -- what the book answers of the leg's record says what becomes of the side
  module _ (o : Option R) (got : o ≡ cond (ltb a.leg (length rs)) (Some own) None) where
    pub has : (r : R) → o ≡ Some r → a.leg < length rs
    has r f = (found rs a.leg M.blank r (sym f ∙ got)).0

    pub leg_balks : (r : R) (e : Refusal) (buffer' : List ℕ) → o ≡ Some r → (fault (a.row r) ≡ Some e) × (buffer' ≡ buffer) → Did step (Err e) rs buffer'
    leg_balks r e buffer' f x = subst (λ w. Did w (Err e) rs buffer') (there r (sym f ∙ got)) (balks M rs a.leg (fault (a.row r)) (a.next r) (a.message r) buffer e buffer' x.0 x.1)

    pub leg_settles : (r q : R) (n : ℕ) (rs' : List R) (buffer' : List ℕ) → o ≡ Some r →
        (fault (a.row r) ≡ None) × (q ≡ a.next r) × (n ≡ length (a.message r)) × (buffer' ≡ written (a.message r) buffer) → rs' ≡ set rs a.leg q → Did step (Ok n) rs' buffer'
    leg_settles r q n rs' buffer' f x y =
        subst (λ w. Did w (Ok n) rs' buffer') (there r (sym f ∙ got)) (settles M rs a.leg (fault (a.row r)) (a.next r) (a.message r) buffer n q rs' buffer' x.0 x.1 y x.2 x.3)

    -- without the leg there is no row
    pub lacks : (e f : Refusal) (s : System) → Err e ≡ ok_or o f → Some f ≡ row_fault s (length buffer) false → s ≡ M.system → Did step (Err e) rs buffer
    lacks e f s h x y =
        let p = lost o e f h in
        let z : Some e ≡ fault false = ap Some p.1 ∙ x ∙ ap (λ t. row_fault t (length buffer) false) y in
        subst (λ w. Did w (Err e) rs buffer) (ap (λ u. after u own) z ∙ ap (λ t. after (fault (t && a.row own)) own) (sym (missing rs a.leg own (p.0 ∙ got))))
        (record { answered = refl; left = refl; wrote = refl })
