-- What a list of elements says: its elements one by one, the first with a wanted tag, and whether it is whole.
-- Rests on the octets as a list of numbers, and on the end rule of the coding; nothing else.
use Rattle.std.specs.Prelude.{ℕ, zero, suc, ◌+◌, Bool, false, cond, List, [], ◌∷◌, length, take, drop, Some, None, Ok, Err, Option, Result, ◌==◌, nat_le, nat_lt, slice_index}
use Rattle.std.specs.Option.{option_map}
use Rattle.elements.specs.declared.types.EndRule.{EndRule}
use Rattle.elements.specs.declared.types.Seen.{Seen}
use Rattle.elements.specs.declared.types.Seen.TheVariants.{Nothing, End, Single, Element, Broken}
use Rattle.elements.specs.declared.types.ListFault.{ListFault}
use Rattle.elements.specs.declared.types.ListFault.TheVariants.{BreaksOff, NoEnd}

-- the tag is the one that ends the list
abbrev pub is_tag : Option ℕ → ℕ → Bool
is_tag None t = false
is_tag (Some e) t = t == e

abbrev pub ends_list : EndRule → ℕ → Bool
ends_list rule t = is_tag rule.end t

-- the tag is a whole element
abbrev pub stands_alone : EndRule → ℕ → Bool
stands_alone rule t = cond rule.singles (nat_le 128 t) false

-- what the tag t begins, where xs are the octets after it
abbrev pub begun : EndRule → ℕ → List ℕ → Seen
begun rule t xs =
    cond (ends_list rule t) End
    (cond (stands_alone rule t) Single
    (cond (nat_lt (slice_index xs 0) (length xs)) (Element (slice_index xs 0)) Broken))

-- what stands at the front of some octets
abbrev pub seen : EndRule → List ℕ → Seen
seen rule [] = Nothing
seen rule (t ∷ xs) = begun rule t xs

pub record Item : Type 0 where
  pub place : ℕ
  pub tag : ℕ
  pub contents : List ℕ

-- how a list stops: at its end tag, with its octets, or at an element that breaks off
pub data Stop : Type 0 where
  ended : ℕ → Stop
  ran_out : ℕ → Stop
  broke_off : ℕ → Stop

-- the elements of a list, and how it stops
pub data Walk : Type 0 where
  more : Item → Walk → Walk
  stop : Stop → Walk

-- `skip` octets are passed over first; p is the place of the first octet
abbrev pub walk : EndRule → ℕ → ℕ → List ℕ → Walk
walk rule skip p [] = stop (ran_out p)
walk rule (suc k) p (x ∷ xs) = walk rule k (p + 1) xs
walk rule zero p (t ∷ xs) =
    elim (begun rule t xs) [
      | Nothing ↦ stop (ran_out p)
      | End ↦ stop (ended p)
      | Single ↦ walk rule 0 (p + 1) xs
      | Element n ↦ more (record { place = p; tag = t; contents = take n (drop 1 xs) }) (walk rule (n + 1) (p + 1) xs)
      | Broken ↦ stop (broke_off p)
    ]

-- the first element with the wanted tag and at least one octet of contents
abbrev pub item_in : ℕ → Walk → Option Item
item_in wanted (stop s) = None
item_in wanted (more e w) =
    cond (e.tag == wanted) (cond (nat_lt 0 (length e.contents)) (Some e) (item_in wanted w)) (item_in wanted w)

-- its place and its contents, in a list of octets
abbrev pub place_of : EndRule → ℕ → List ℕ → Option ℕ
place_of rule wanted xs = option_map (λ e. e.place) (item_in wanted (walk rule 0 0 xs))

abbrev pub contents_of : EndRule → ℕ → List ℕ → Option (List ℕ)
contents_of rule wanted xs = option_map (λ e. e.contents) (item_in wanted (walk rule 0 0 xs))

-- a list whose octets run out wants an end tag, or wants none
abbrev pub ran_out_at : Option ℕ → ℕ → Result ℕ ListFault
ran_out_at None p = Ok p
ran_out_at (Some e) p = Err (NoEnd p)

-- the length of a list that is whole, its end tag counted; or what is wrong with it, and where
abbrev pub verdict : EndRule → Walk → Result ℕ ListFault
verdict rule (more e w) = verdict rule w
verdict rule (stop (ended p)) = Ok (p + 1)
verdict rule (stop (ran_out p)) = ran_out_at rule.end p
verdict rule (stop (broke_off p)) = Err (BreaksOff p)

abbrev pub checked : EndRule → List ℕ → Result ℕ ListFault
checked rule xs = verdict rule (walk rule 0 0 xs)
