-- The carried parts by their tags, within their limits, and what refuses nothing. Assumes nothing.
use Rattle.std.proofs.Common.{◌≡◌, ℕ, ◌+◌, ◌%◌, ◌<◌, ◌≤◌, Bool, true, false, cond, eqb, ltb, leb, List, [], ◌∷◌, ◌++◌, length, Some, None, Option, sym, refl, ap, ◌∙◌, subst, ap₂, arith}
use Rattle.std.proofs.lemmas.Bool.{cond-true, ltb-false, le-ltb, le-leb}
use Rattle.std.proofs.lemmas.Bool.Decides.{nat_tests}
use Rattle.side.specs.declared.kinds.PartsFault.{PartsFault}
use Rattle.side.specs.declared.kinds.PartsFault.TheVariants.{TotalOver, UserUserOver}
use Rattle.side.specs.declared.parts.Parts.{Parts}
use Rattle.side.specs.Limits.{cost}
use Rattle.side.specs.Contents as side
use Rattle.side.specs.Contents.{Part, part, five, calling_of, called_of, low_of, high_of, user_of}
use Rattle.side.specs.Signals.{noted}
use Rattle.side.specs.Meaning.{PartsWithin, keep}
use Rattle.side.proofs.Keeps.{keep_append}
use Rattle.values.specs.Causes.{cause_in}
use Rattle.carried.specs.Carried.{Five, five_at, parts_of, fault_of, is_part, part_at, progress_octets, cause_octets, bad_at, parts_bad_at, sooner}

some_octets : (x : ℕ) (c : List ℕ) → eqb (length (x ∷ c)) 0 ≡ false
some_octets x c = grind (arith, nat_tests)

-- a part is found by its tag, and an empty one leaves it to those behind
here : (t : ℕ) (c : List ℕ) (rest : List Part) → eqb t t ≡ true → part_at t rest ≡ [] → part_at t (part t c ++ rest) ≡ c
here t [] rest s e = e
here t (x ∷ c) rest s e = go (eqb (length (x ∷ c)) 0) (some_octets x c)
  where
    go : (b : Bool) → b ≡ false → part_at t (cond b [] (record { tag = t; contents = x ∷ c } ∷ []) ++ rest) ≡ x ∷ c
    go true f = absurd (let z : ◌≡◌ {A = ℕ} 0 1 = cc in omega arith)
    go false f = rw s

-- a part with another tag is passed over
past : (t s : ℕ) (c : List ℕ) (rest : List Part) → eqb s t ≡ false → part_at t (part s c ++ rest) ≡ part_at t rest
past t s c rest e = go (eqb (length c) 0)
  where
    go : (b : Bool) → part_at t (cond b [] (record { tag = s; contents = c } ∷ []) ++ rest) ≡ part_at t rest
    go true = refl
    go false = rw e

-- the last part has none behind it
last : (t : ℕ) (c : List ℕ) → eqb t t ≡ true → part_at t (part t c) ≡ c
last t [] s = refl
last t (x ∷ c) s = go (eqb (length (x ∷ c)) 0) (some_octets x c)
  where
    go : (b : Bool) → b ≡ false → part_at t (cond b [] (record { tag = t; contents = x ∷ c } ∷ [])) ≡ x ∷ c
    go true f = absurd (let z : ◌≡◌ {A = ℕ} 0 1 = cc in omega arith)
    go false f = rw s

none : (t s : ℕ) (c : List ℕ) → eqb s t ≡ false → part_at t (part s c) ≡ []
none t s c e = go (eqb (length c) 0)
  where
    go : (b : Bool) → part_at t (cond b [] (record { tag = s; contents = c } ∷ [])) ≡ []
    go true = refl
    go false = rw e

pub at_calling : (a b c d e : List ℕ) → part_at 0x6D (five a b c d e) ≡ a
at_calling a b c d e =
    here 0x6D a (part 0x71 b ++ (part 0x7C c ++ (part 0x7D d ++ part 0x7E e))) refl
    (past 0x6D 0x71 b (part 0x7C c ++ (part 0x7D d ++ part 0x7E e)) refl
    ∙ past 0x6D 0x7C c (part 0x7D d ++ part 0x7E e) refl
    ∙ past 0x6D 0x7D d (part 0x7E e) refl
    ∙ none 0x6D 0x7E e refl)

pub at_called : (a b c d e : List ℕ) → part_at 0x71 (five a b c d e) ≡ b
at_called a b c d e =
    past 0x71 0x6D a (part 0x71 b ++ (part 0x7C c ++ (part 0x7D d ++ part 0x7E e))) refl
    ∙ here 0x71 b (part 0x7C c ++ (part 0x7D d ++ part 0x7E e)) refl
    (past 0x71 0x7C c (part 0x7D d ++ part 0x7E e) refl
    ∙ past 0x71 0x7D d (part 0x7E e) refl
    ∙ none 0x71 0x7E e refl)

pub at_low : (a b c d e : List ℕ) → part_at 0x7C (five a b c d e) ≡ c
at_low a b c d e =
    past 0x7C 0x6D a (part 0x71 b ++ (part 0x7C c ++ (part 0x7D d ++ part 0x7E e))) refl
    ∙ past 0x7C 0x71 b (part 0x7C c ++ (part 0x7D d ++ part 0x7E e)) refl
    ∙ here 0x7C c (part 0x7D d ++ part 0x7E e) refl
    (past 0x7C 0x7D d (part 0x7E e) refl
    ∙ none 0x7C 0x7E e refl)

pub at_high : (a b c d e : List ℕ) → part_at 0x7D (five a b c d e) ≡ d
at_high a b c d e =
    past 0x7D 0x6D a (part 0x71 b ++ (part 0x7C c ++ (part 0x7D d ++ part 0x7E e))) refl
    ∙ past 0x7D 0x71 b (part 0x7C c ++ (part 0x7D d ++ part 0x7E e)) refl
    ∙ past 0x7D 0x7C c (part 0x7D d ++ part 0x7E e) refl
    ∙ here 0x7D d (part 0x7E e) refl (none 0x7D 0x7E e refl)

pub at_user : (a b c d e : List ℕ) → part_at 0x7E (five a b c d e) ≡ e
at_user a b c d e =
    past 0x7E 0x6D a (part 0x71 b ++ (part 0x7C c ++ (part 0x7D d ++ part 0x7E e))) refl
    ∙ past 0x7E 0x71 b (part 0x7C c ++ (part 0x7D d ++ part 0x7E e)) refl
    ∙ past 0x7E 0x7C c (part 0x7D d ++ part 0x7E e) refl
    ∙ past 0x7E 0x7D d (part 0x7E e) refl
    ∙ last 0x7E e refl

-- the parts that a value holds
pub part_calling : (p : Parts) → part_at 0x6D (side.parts_of p) ≡ calling_of p
part_calling p = at_calling (calling_of p) (called_of p) (low_of p) (high_of p) (user_of p)

pub part_called : (p : Parts) → part_at 0x71 (side.parts_of p) ≡ called_of p
part_called p = at_called (calling_of p) (called_of p) (low_of p) (high_of p) (user_of p)

pub part_low : (p : Parts) → part_at 0x7C (side.parts_of p) ≡ low_of p
part_low p = at_low (calling_of p) (called_of p) (low_of p) (high_of p) (user_of p)

pub part_high : (p : Parts) → part_at 0x7D (side.parts_of p) ≡ high_of p
part_high p = at_high (calling_of p) (called_of p) (low_of p) (high_of p) (user_of p)

pub part_user : (p : Parts) → part_at 0x7E (side.parts_of p) ≡ user_of p
part_user p = at_user (calling_of p) (called_of p) (low_of p) (high_of p) (user_of p)

abbrev test : Part → Bool
test q = is_part q.tag

keep_part : (t : ℕ) (x : List ℕ) → is_part t ≡ true → keep test (part t x) ≡ part t x
keep_part t x e = go (eqb (length x) 0)
  where
    go : (n : Bool) → keep test (cond n [] (record { tag = t; contents = x } ∷ [])) ≡ cond n [] (record { tag = t; contents = x } ∷ [])
    go true = refl
    go false = rw e

pub keep_five : (a b c d e : List ℕ) → keep (λ q. is_part q.tag) (five a b c d e) ≡ five a b c d e
keep_five a b c d e =
    keep_append test (part 0x6D a) (part 0x71 b ++ (part 0x7C c ++ (part 0x7D d ++ part 0x7E e)))
    ∙ ap₂ (λ (x y : List Part). x ++ y) (keep_part 0x6D a refl)
    (keep_append test (part 0x71 b) (part 0x7C c ++ (part 0x7D d ++ part 0x7E e))
    ∙ ap₂ (λ (x y : List Part). x ++ y) (keep_part 0x71 b refl)
    (keep_append test (part 0x7C c) (part 0x7D d ++ part 0x7E e)
    ∙ ap₂ (λ (x y : List Part). x ++ y) (keep_part 0x7C c refl)
    (keep_append test (part 0x7D d) (part 0x7E e)
    ∙ ap₂ (λ (x y : List Part). x ++ y) (keep_part 0x7D d refl) (keep_part 0x7E e refl))))

pub keep_within : (ps : List Part) → PartsWithin ps → keep (λ q. is_part q.tag) ps ≡ ps
keep_within ps h = ap (keep test) h.are ∙ keep_five h.calling h.called h.low h.high h.user ∙ sym h.are

-- what refuses nothing
pub sooner_none : (a b : Option ℕ) → sooner a b ≡ None → (a ≡ None) × (b ≡ None)
sooner_none None None e = (refl, refl)
sooner_none None (Some b) e = (refl, e)
sooner_none (Some a) None e = (e, refl)
sooner_none (Some a) (Some b) e = absurd (let z : ◌≡◌ {A = ℕ} 0 1 = cc in omega arith)

pub bad_none : (g : Bool) (p : ℕ) → bad_at g p ≡ None → g ≡ true
bad_none true p e = refl
bad_none false p e = absurd (let z : ◌≡◌ {A = ℕ} 0 1 = cc in omega arith)

pub parts_bad_none : (f : Option PartsFault) (p : ℕ) → parts_bad_at f p ≡ None → f ≡ None
parts_bad_none None p e = refl
parts_bad_none (Some TotalOver) p e = absurd (let z : ◌≡◌ {A = ℕ} 0 1 = cc in omega arith)
parts_bad_none (Some UserUserOver) p e = absurd (let z : ◌≡◌ {A = ℕ} 0 1 = cc in omega arith)

-- no fault is being within the limits
no_fault : (x y : Bool) → cond x (Some TotalOver) (cond y (Some UserUserOver) None) ≡ None → (x ≡ false) × (y ≡ false)
no_fault true y e = absurd (let z : ◌≡◌ {A = ℕ} 0 1 = cc in omega arith)
no_fault false true e = absurd (let z : ◌≡◌ {A = ℕ} 0 1 = cc in omega arith)
no_fault false false e = (refl, refl)

pub fault_none : (f : Five) → fault_of f ≡ None → PartsWithin (parts_of f)
fault_none f e =
    let s = cost (length f.calling) + cost (length f.called) + cost (length f.low) + cost (length f.high) + cost (length f.user) in
    let h = no_fault (ltb 200 s) (ltb 129 (length f.user)) e in
    record {
      calling = f.calling;
      called = f.called;
      low = f.low;
      high = f.high;
      user = f.user;
      are = refl;
      total = ltb-false 200 s h.0;
      few = ltb-false 129 (length f.user) h.1;
    }

fault_of_none : (x y : Bool) → x ≡ false → y ≡ false → cond x (Some TotalOver) (cond y (Some UserUserOver) None) ≡ None
fault_of_none x y e f = rw (e, f)

-- what five contents give is what five equal ones give
alike : {A : Type 0} (F : List ℕ → List ℕ → List ℕ → List ℕ → List ℕ → A) (a b c d e p q r s t : List ℕ) →
    a ≡ p → b ≡ q → c ≡ r → d ≡ s → e ≡ t → F a b c d e ≡ F p q r s t
alike F a b c d e p q r s t i j k l m = cc

-- what the parts within their limits give, read by their tags
module _ (ps : List Part) (h : PartsWithin ps) where
  by_tags : {A : Type 0} (F : List ℕ → List ℕ → List ℕ → List ℕ → List ℕ → A) →
      F (part_at 0x6D ps) (part_at 0x71 ps) (part_at 0x7C ps) (part_at 0x7D ps) (part_at 0x7E ps) ≡ F h.calling h.called h.low h.high h.user
  by_tags F = alike F (part_at 0x6D ps) (part_at 0x71 ps) (part_at 0x7C ps) (part_at 0x7D ps) (part_at 0x7E ps) h.calling h.called h.low h.high h.user
      (ap (part_at 0x6D) h.are ∙ at_calling h.calling h.called h.low h.high h.user)
      (ap (part_at 0x71) h.are ∙ at_called h.calling h.called h.low h.high h.user)
      (ap (part_at 0x7C) h.are ∙ at_low h.calling h.called h.low h.high h.user)
      (ap (part_at 0x7D) h.are ∙ at_high h.calling h.called h.low h.high h.user)
      (ap (part_at 0x7E) h.are ∙ at_user h.calling h.called h.low h.high h.user)

  pub within_parts : parts_of (five_at ps) ≡ ps
  within_parts = by_tags five ∙ sym h.are

  pub within_weights : cost (length (part_at 0x6D ps)) + cost (length (part_at 0x71 ps)) + cost (length (part_at 0x7C ps)) + cost (length (part_at 0x7D ps)) + cost (length (part_at 0x7E ps)) ≤ 200
  within_weights = subst (λ (n : ℕ). n ≤ 200) (sym (by_tags (λ a b c d e. cost (length a) + cost (length b) + cost (length c) + cost (length d) + cost (length e)))) h.total

  pub within_user : length (part_at 0x7E ps) ≤ 129
  within_user = subst (λ (n : ℕ). n ≤ 129) (sym (by_tags (λ a b c d e. length e))) h.few

  pub within_fault : fault_of (five_at ps) ≡ None
  within_fault =
      let s = cost (length (part_at 0x6D ps)) + cost (length (part_at 0x71 ps)) + cost (length (part_at 0x7C ps)) + cost (length (part_at 0x7D ps)) + cost (length (part_at 0x7E ps)) in
      fault_of_none (ltb 200 s) (ltb 129 (length (part_at 0x7E ps))) (le-ltb 200 s within_weights) (le-ltb 129 (length (part_at 0x7E ps)) within_user)

-- a part leaves room for its tag and its length
short : (n : ℕ) → cost n ≤ 200 → n ≤ 198
short n h = grind (arith, nat_tests)

each_of : (a b c d e : ℕ) → a + b + c + d + e ≤ 200 → (a ≤ 200) × (b ≤ 200) × (c ≤ 200) × (d ≤ 200) × (e ≤ 200)
each_of a b c d e h = (omega arith, omega arith, omega arith, omega arith, omega arith)

pub part_short : (ps : List Part) → PartsWithin ps → (length (part_at 0x6D ps) ≤ 198) × (length (part_at 0x71 ps) ≤ 198) × (length (part_at 0x7C ps) ≤ 198) × (length (part_at 0x7D ps) ≤ 198) × (length (part_at 0x7E ps) ≤ 198)
part_short ps h =
    let w = each_of (cost (length (part_at 0x6D ps))) (cost (length (part_at 0x71 ps))) (cost (length (part_at 0x7C ps))) (cost (length (part_at 0x7D ps))) (cost (length (part_at 0x7E ps))) (within_weights ps h) in (
      short (length (part_at 0x6D ps)) w.0,
      short (length (part_at 0x71 ps)) w.1,
      short (length (part_at 0x7C ps)) w.2,
      short (length (part_at 0x7D ps)) w.3,
      short (length (part_at 0x7E ps)) w.4,
    )

-- a cause and progress are read as they were written
pair : (a b c d : ℕ) → a ≡ c → b ≡ d → ◌≡◌ {A = Option (ℕ × ℕ)} (Some (a, b)) (Some (c, d))
pair a b c d e f = cc

pub cause_back : (l v : ℕ) → l < 16 → v < 128 → cause_in (cause_octets (Some (l, v))) ≡ Some (l, v)
cause_back l v h i =
    cond-true (leb 128 (0x80 + l)) (Some ((0x80 + l) % 16, (0x80 + v) % 128)) None (le-leb 128 (0x80 + l) (omega arith))
    ∙ pair ((0x80 + l) % 16) ((0x80 + v) % 128) l v (omega arith) (omega arith)

pub progress_back : (o : Option (ℕ × ℕ)) → noted (progress_octets o) ≡ o
progress_back None = refl
progress_back (Some p) = refl
