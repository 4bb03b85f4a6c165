-- The steps of the loops that read lines and octets. Rests on the definitions of specs/.
use Rattle.std.proofs.Common.{◌≡◌, ℕ, ◌+◌, ◌-◌, ◌<◌, ◌≤◌, Bool, true, false, cond, not, unwrap_or, position, List, [], ◌∷◌, ◌++◌, length, get_or, drop, Some, None, Ok, Err, Option, Result, sym, refl, ap, ◌∙◌, append_assoc, arith}
use Rattle.std.proofs.lemmas.List.{at_drop_more}
use Rattle.std.proofs.lemmas.List.Sums.{prefix_len-le-length}
use Rattle.std.proofs.lemmas.Bool.Decides.{nat_tests}
use Rattle.std.specs.List.{position_or_len}
use Rattle.text.specs.declared.types.HexFault.{HexFault}
use Rattle.text.specs.declared.types.HexFault.TheVariants.{NotHex, OddDigit, NoMemory}
use Rattle.text.specs.Parts.{blank}
use Rattle.text.specs.Hex.{hex_value, second, octet_of, joined, octets_from, Reads}

-- the place of the first character that passes a test, or the end of the text where none does
pub found : (p : ℕ → Bool) (cs : List ℕ) (n : ℕ) → Some n ≡ position p cs → n ≡ position_or_len p cs
found p cs n e = grind (arith, nat_tests)

pub to_end : (p : ℕ → Bool) (cs : List ℕ) → None ≡ position p cs → length cs ≤ position_or_len p cs
to_end p cs e = grind (arith, nat_tests)

pub found_or_end : (p : ℕ → Bool) (cs : List ℕ) (r : Option ℕ) → r ≡ position p cs → unwrap_or r (length cs) ≡ position_or_len p cs
found_or_end p cs r e = let within = prefix_len-le-length (λ c. not (p c)) cs in grind (arith, nat_tests)

-- octets put in front one after another
joined_twice : (xs ys : List ℕ) (r : Result (List ℕ) HexFault) → joined xs (joined ys r) ≡ joined (xs ++ ys) r
joined_twice xs ys (Ok zs) = ap Ok (sym (append_assoc xs ys zs))
joined_twice xs ys (Err f) = refl

-- what follows an octet that was tried at p
abbrev then_octet : ℕ → List ℕ → Result ℕ HexFault → Result (List ℕ) HexFault
then_octet p cs (Err f) = Err f
then_octet p cs (Ok octet) = joined (octet ∷ []) (octets_from 1 (p + 1) cs)

-- one octet more, with those read so far in front, in a text of n characters
pub octet_more : (n : ℕ) (read : List ℕ) (c : ℕ) (cs : List ℕ) (octet : ℕ) → length (c ∷ cs) ≤ n → false ≡ blank c → Ok octet ≡ octet_of (n - length (c ∷ cs)) c cs → 1 ≤ length cs
    → joined (read ++ octet ∷ []) (octets_from 0 (n - length (drop 1 cs)) (drop 1 cs)) ≡ joined read (octets_from 0 (n - length (c ∷ cs)) (c ∷ cs))
octet_more n read c [] octet fits e o some = absurd (omega arith)
octet_more n read c (d ∷ cs) octet fits e o some =
    let p = n - length (c ∷ d ∷ cs) in
    let two : n - length cs ≡ n - length (c ∷ d ∷ cs) + 1 + 1 = omega arith in
    ap (λ k. joined (read ++ octet ∷ []) (octets_from 0 k cs)) two
    ∙ sym (joined_twice read (octet ∷ []) (octets_from 0 (p + 1 + 1) cs))
    ∙ ap (λ r. joined read (then_octet p (d ∷ cs) r)) o
    ∙ ap (λ b. joined read (cond b (octets_from 0 (p + 1) (d ∷ cs)) (then_octet p (d ∷ cs) (octet_of p c (d ∷ cs))))) e

-- a blank is passed over
module _ (text : List ℕ) (p : ℕ) (here : p < length text) where
  pub at_blank : true ≡ blank (get_or text p 0) → octets_from 0 p (drop p text) ≡ octets_from 0 (p + 1) (drop (p + 1) text)
  at_blank e = at_drop_more (octets_from 0 p) text p 0 here ∙ ap (λ v. cond v (octets_from 0 (p + 1) (drop (p + 1) text)) (then_octet p (drop (p + 1) text) (octet_of p (get_or text p 0) (drop (p + 1) text)))) (sym e)

  -- anything else begins an octet
  tried : false ≡ blank (get_or text p 0) → (r : Result ℕ HexFault) → r ≡ octet_of p (get_or text p 0) (drop (p + 1) text) → octets_from 0 p (drop p text) ≡ then_octet p (drop (p + 1) text) r
  tried e r o =
      at_drop_more (octets_from 0 p) text p 0 here
      ∙ ap (λ v. cond v (octets_from 0 (p + 1) (drop (p + 1) text)) (then_octet p (drop (p + 1) text) (octet_of p (get_or text p 0) (drop (p + 1) text)))) (sym e)
      ∙ ap (then_octet p (drop (p + 1) text)) (sym o)

  pub at_fault : false ≡ blank (get_or text p 0) → (f : HexFault) → Err f ≡ octet_of p (get_or text p 0) (drop (p + 1) text) → octets_from 0 p (drop p text) ≡ Err f
  at_fault e f o = tried e (Err f) o

  pub at_octet : false ≡ blank (get_or text p 0) → (octet : ℕ) → Ok octet ≡ octet_of p (get_or text p 0) (drop (p + 1) text) → p + 1 < length text
      → octets_from 0 p (drop p text) ≡ joined (octet ∷ []) (octets_from 0 (p + 2) (drop (p + 2) text))
  at_octet e octet o more =
      tried e (Ok octet) o
      ∙ ap (joined (octet ∷ [])) (at_drop_more (octets_from 1 (p + 1)) text (p + 1) 0 more ∙ (let two : p + 1 + 1 ≡ p + 2 = omega arith in ap (λ k. octets_from 0 k (drop k text)) two))

-- an octet by the value of its first digit
abbrev by_first : ℕ → List ℕ → Option ℕ → Result ℕ HexFault
by_first p cs None = Err (NotHex p)
by_first p cs (Some h) = second p h cs

pub octet_begins : (p c : ℕ) (cs : List ℕ) (h : ℕ) → Some h ≡ hex_value c → second p h cs ≡ octet_of p c cs
octet_begins p c cs h e = ap (by_first p cs) e

-- a fault of the text is the answer
pub faulty : (text : List ℕ) (f : HexFault) → octets_from 0 0 text ≡ Err f → Reads text (Err f)
faulty text (NotHex p) e = e
faulty text (OddDigit p) e = e
faulty text NoMemory e = tt
