-- What told messages say at their far end, and that what is told is within its limits. Assumes the laws of a side.
use Rattle.std.proofs.Common.{◌≡◌, ℕ, ◌+◌, ◌≤◌, Bool, true, false, cond, not, ◌||◌, eqb, leb, ◌↔◌, List, [], ◌∷◌, ◌++◌, length, sym, refl, ap, ◌∙◌, subst, ap₂, arith}
use Rattle.std.proofs.lemmas.Bool.{leb-true}
use Rattle.side.specs.declared.kinds.Kind.{Kind}
use Rattle.side.specs.declared.kinds.Kind.TheVariants.{Clear}
use Rattle.side.specs.declared.kinds.Phase.{Phase}
use Rattle.side.specs.Table.{told_in}
use Rattle.side.specs.Limits.{cost}
use Rattle.side.specs.Contents.{Part, part, five}
use Rattle.side.specs.Signals.{Contents}
use Rattle.side.specs.Meaning.{PartsWithin, Within, keep}
use Rattle.side.proofs.Keeps.{keep_append}
use Rattle.rows.specs.Sides.{Side}
use Rattle.rows.specs.Exchange.{is_user_user, passed, cut_contents}
use Rattle.rows.specs.Accounting.{is_clear, clearing_in}
use Rattle.rows.proofs.Track.{clear_is}

-- a part that passes the test is kept, and one that does not is not
keep_part : (f : Part → Bool) (t : ℕ) (x : List ℕ) (b : Bool) → f (record { tag = t; contents = x }) ≡ b → keep f (part t x) ≡ cond b (part t x) []
keep_part f t x b e = go (eqb (length x) 0) b e
  where
    go : (n b : Bool) → f (record { tag = t; contents = x }) ≡ b →
        keep f (cond n [] (record { tag = t; contents = x } ∷ [])) ≡ cond b (cond n [] (record { tag = t; contents = x } ∷ [])) []
    go true true e = refl
    go true false e = refl
    go false true e = rw e
    go false false e = rw e

abbrev test : Bool → Part → Bool
test u p = u || not (is_user_user p)

keep_five : (u : Bool) (a b c d e : List ℕ) → keep (test u) (five a b c d e) ≡ five a b c d (cond u e [])
keep_five u a b c d e =
    keep_append (test u) (part 0x6D a) (part 0x71 b ++ (part 0x7C c ++ (part 0x7D d ++ part 0x7E e)))
    ∙ ap₂ (λ (x y : List Part). x ++ y) (keep_part (test u) 0x6D a true (yes u))
    (keep_append (test u) (part 0x71 b) (part 0x7C c ++ (part 0x7D d ++ part 0x7E e))
    ∙ ap₂ (λ (x y : List Part). x ++ y) (keep_part (test u) 0x71 b true (yes u))
    (keep_append (test u) (part 0x7C c) (part 0x7D d ++ part 0x7E e)
    ∙ ap₂ (λ (x y : List Part). x ++ y) (keep_part (test u) 0x7C c true (yes u))
    (keep_append (test u) (part 0x7D d) (part 0x7E e)
    ∙ ap₂ (λ (x y : List Part). x ++ y) (keep_part (test u) 0x7D d true (yes u)) (last u))))
  where
    yes : (u : Bool) → (u || true) ≡ true
    yes true = refl
    yes false = refl

    last : (u : Bool) → keep (test u) (part 0x7E e) ≡ part 0x7E (cond u e [])
    last true = keep_part (test true) 0x7E e true refl
    last false = keep_part (test false) 0x7E e false refl

parts_passed : (u : Bool) (ps : List Part) → PartsWithin ps → PartsWithin (keep (test u) ps)
parts_passed u ps h = record {
  calling = h.calling;
  called = h.called;
  low = h.low;
  high = h.high;
  user = cond u h.user [];
  are = ap (keep (test u)) h.are ∙ keep_five u h.calling h.called h.low h.high h.user;
  total = total u;
  few = few u;
}
  where
    total : (u : Bool) → cost (length h.calling) + cost (length h.called) + cost (length h.low) + cost (length h.high) + cost (length (cond u h.user [])) ≤ 200
    total true = h.total
    total false = let t = h.total in omega arith

    few : (u : Bool) → length (cond u h.user []) ≤ 129
    few true = h.few
    few false = omega arith

-- what is passed on, and what a cut tells, is within the limits
pub passed_within : {k : Kind} (u : Bool) (c : Contents) → Within k c → Within k (passed u c)
passed_within {k} u c h = record {
  parts = parts_passed u c.parts h.parts;
  bare = λ e. ap (keep (test u)) (h.bare e);
  bearer = h.bearer;
  number = h.number;
  noted = h.noted;
  cause = h.cause;
}

pub cut_within : (v : ℕ) → leb v 127 ≡ true → Within Clear (cut_contents v)
cut_within v e = record {
  parts = record { calling = []; called = []; low = []; high = []; user = []; are = refl; total = omega arith; few = omega arith };
  bare = λ _. refl;
  bearer = λ i. absurd (let z : ◌≡◌ {A = ℕ} 0 1 = cc in omega arith);
  number = λ i. absurd (let z : ◌≡◌ {A = ℕ} 0 1 = cc in omega arith);
  noted = λ i. absurd (let z : ◌≡◌ {A = ℕ} 0 1 = cc in omega arith);
  cause = λ _. (2, (v, refl, omega arith, (let h = leb-true v 127 e in omega arith)));
}

same_clear : (j k : Kind) → (j ≡ Clear) ↔ (k ≡ Clear) → is_clear j ≡ is_clear k
same_clear j k e = go (is_clear j) refl (is_clear k) refl
  where
    go : (a : Bool) → is_clear j ≡ a → (b : Bool) → is_clear k ≡ b → a ≡ b
    go true f true g = refl
    go true f false g = sym (ap is_clear (e.0 (clear_is j f))) ∙ g
    go false f true g = sym f ∙ ap is_clear (e.1 (clear_is k g))
    go false f false g = refl

-- a told message is a clearing exactly if a Clear was told
pub told_clearing : (B : Side) (y : ℕ) (p : Phase) (k : Kind) (c : Contents) → Within k c → told_in k (B.callable y) p ≡ true →
    clearing_in B p (B.tells y p k c).octets ≡ is_clear k
told_clearing B y p k c h row = go (B.tells y p k c).octets refl
  where
    empty : (b : Bool) → is_clear k ≡ b → (B.tells y p k c).octets ≡ [] → false ≡ b
    empty false f e = refl
    empty true f e =
        let q : k ≡ Clear = clear_is k f in
        absurd (B.clear_said y p c (subst (λ (k : Kind). told_in k (B.callable y) p ≡ true) q row) (ap (λ (k : Kind). (B.tells y p k c).octets) (sym q) ∙ e))

    go : (m : List ℕ) → (B.tells y p k c).octets ≡ m → clearing_in B p m ≡ is_clear k
    go [] e = empty (is_clear k) refl e
    go (x ∷ m) e =
        let full : (B.tells y p k c).octets ≡ [] → ⊥ = λ i. let z : ◌≡◌ {A = ℕ} 0 1 = cc in omega arith in
        ap (λ (o : List ℕ). is_clear (B.far p o).kind) (sym e) ∙ same_clear _ k (B.far_clear y p k c h row full)
