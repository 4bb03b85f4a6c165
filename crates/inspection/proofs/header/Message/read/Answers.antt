use Rattle.std.proofs.Common.{◌≡◌, ℕ, ◌+◌, ◌%◌, ◌<◌, ◌≤◌, cond, leb, List, [], ◌∷◌, length, get_or, drop, sym, refl, ap, ◌∙◌, arith, rules}
use Rattle.std.proofs.lemmas.List.{take_rest}
use Rattle.std.proofs.lemmas.Bool.Decides.{nat_tests}
use Rattle.inspection.proofs.header.Message.read.Goals as goal

-- octets by their first four
four : (xs : List ℕ) → 4 ≤ length xs → get_or xs 0 0 ≡ 8 → get_or xs 1 0 ≡ 1 → xs ≡ 8 ∷ 1 ∷ get_or xs 2 0 ∷ get_or xs 3 0 ∷ drop 4 xs
four [] l e f = absurd (omega arith)
four (a ∷ []) l e f = absurd (omega arith)
four (a ∷ b ∷ []) l e f = absurd (omega arith)
four (a ∷ b ∷ c ∷ []) l e f = absurd (omega arith)
four (a ∷ b ∷ c ∷ d ∷ rest) l e f = λ i. e i ∷ f i ∷ c ∷ d ∷ rest

-- an octet is its low seven bits and its bit 8
flag : (n : ℕ) → n < 256 → n ≡ n % 128 + cond (leb 128 n) 128 0
flag n h = grind (arith, nat_tests)

pub returns-in-len4-up : goal.returns-in-len4-up
returns-in-len4-up c =
    let octets = c.args.octets.now in
    let long : 4 ≤ length octets = search rules in
    let fits : get_or octets 2 0 < 256 = search rules in
    record {
      parts = four octets long c.if-first-ne8.false c.if-length-ne1.false
          ∙ ap (λ n. 8 ∷ 1 ∷ n ∷ get_or octets 3 0 ∷ drop 4 octets) (flag (get_or octets 2 0) fits)
          ∙ ap (λ l. 8 ∷ 1 ∷ (get_or octets 2 0 % 128 + cond (leb 128 (get_or octets 2 0)) 128 0) ∷ get_or octets 3 0 ∷ l) (sym (take_rest octets 4));
      small = omega arith;
      front = refl;
    }
