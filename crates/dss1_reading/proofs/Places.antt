-- The places of elements and of what is wrong with their list, in a message. Assumes nothing.
use Rattle.std.proofs.Common.{◌≡◌, ℕ, ◌+◌, ◌^◌, ◌<◌, ◌≤◌, List, length, Some, None, Err, Option, sym, lt_trans, arith, lit<}
use Rattle.std.specs.Option.{unwrap_or}
use Rattle.elements.specs.declared.types.EndRule.{EndRule}
use Rattle.elements.specs.declared.types.ListFault.{ListFault}
use Rattle.elements.specs.declared.types.ListFault.TheVariants.{BreaksOff, NoEnd}
use Rattle.elements.specs.Elements.{place_of, checked}
use Rattle.carried.proofs.Places.{place_within, fault_within}
use Rattle.dss1_meaning.specs.Dss1.{fault_place}

small : (n : ℕ) → n ≤ 251 → 4 + n < 2 ^ 64
small n h = let k : 4 + n < 256 = omega arith in lt_trans k (lit< tt)

pub place_fits : (rule : EndRule) (w : ℕ) (xs : List ℕ) (o : Option ℕ) (n : ℕ) → length xs ≤ 251 → o ≡ place_of rule w xs → n ≡ unwrap_or o 0 → 4 + n < 2 ^ 64
place_fits rule w xs None n h e i = small n (omega arith)
place_fits rule w xs (Some q) n h e i = let k = place_within rule w q xs (sym e) in small n (omega arith)

pub fault_fits : (rule : EndRule) (xs : List ℕ) (f : ListFault) (n : ℕ) → length xs ≤ 251 → Err f ≡ checked rule xs → n ≡ fault_place f → 4 + n < 2 ^ 64
fault_fits rule xs (BreaksOff q) n h e i = let k = fault_within rule xs (BreaksOff q) (sym e) in small n (omega arith)
fault_fits rule xs (NoEnd q) n h e i = let k = fault_within rule xs (NoEnd q) (sym e) in small n (omega arith)
