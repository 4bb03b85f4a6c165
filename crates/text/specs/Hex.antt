-- Octets written as text in hex, and what is wrong with a text that is not such.
-- Rests on what a blank is; the faults are those of the source.
use Rattle.std.specs.Prelude.{◌≡◌, ℕ, zero, suc, ◌+◌, ◌-◌, ◌*◌, if◌then◌else◌, ◌&&◌, List, [], ◌∷◌, ◌++◌, Some, None, Ok, Err, vec_items, Option, Result, Vec, nat_le}
use Rattle.std.specs.declared.alloc.Global.{Global}
use Rattle.text.specs.declared.types.HexFault.{HexFault}
use Rattle.text.specs.declared.types.HexFault.TheVariants.{NotHex, OddDigit, NoMemory}
use Rattle.text.specs.Parts.{blank}

-- the value of a hex digit: 0 to 9, A to F, a to f
abbrev pub hex_value : ℕ → Option ℕ
hex_value c =
    if nat_le 48 c && nat_le c 57 then Some (c - 48)
    else if nat_le 65 c && nat_le c 70 then Some (c - 65 + 10)
    else if nat_le 97 c && nat_le c 102 then Some (c - 97 + 10)
    else None

-- the second digit of an octet whose first, at p, is worth h
abbrev pub second : ℕ → ℕ → List ℕ → Result ℕ HexFault
second p h [] = Err (OddDigit p)
second p h (c ∷ cs) =
    if blank c then Err (OddDigit p)
    else elim (hex_value c) [ None ↦ Err (NotHex (p + 1)) | Some l ↦ Ok (16 * h + l) ]

-- the octet whose first digit is c, at p, where cs come after it
abbrev pub octet_of : ℕ → ℕ → List ℕ → Result ℕ HexFault
octet_of p c cs = elim (hex_value c) [ None ↦ Err (NotHex p) | Some h ↦ second p h cs ]

-- octets put in front of those that are read
abbrev pub joined : List ℕ → Result (List ℕ) HexFault → Result (List ℕ) HexFault
joined front (Ok octets) = Ok (front ++ octets)
joined front (Err f) = Err f

-- the octets of a text: `skip` characters are passed over first; p is the place of the first character
abbrev pub octets_from : ℕ → ℕ → List ℕ → Result (List ℕ) HexFault
octets_from skip p [] = Ok []
octets_from (suc k) p (c ∷ cs) = octets_from k (p + 1) cs
octets_from zero p (c ∷ cs) =
    if blank c then octets_from 0 (p + 1) cs
    else elim (octet_of p c cs) [ Err f ↦ Err f | Ok octet ↦ joined (octet ∷ []) (octets_from 1 (p + 1) cs) ]

-- an answer is the octets of the text, or what is wrong with it, or that memory ran out
abbrev pub Reads : List ℕ → Result (Vec ℕ Global) HexFault → Type 0
Reads text (Ok octets) = octets_from 0 0 text ≡ Ok (vec_items octets)
Reads text (Err (NotHex p)) = octets_from 0 0 text ≡ Err (NotHex p)
Reads text (Err (OddDigit p)) = octets_from 0 0 text ≡ Err (OddDigit p)
Reads text (Err NoMemory) = Unit {0}
