use Rattle.std.proofs.Common.{ℕ, List, ◌∷◌, ◌++◌, Some, sym, ap, ◌∙◌, subst}
use Rattle.std.specs.Option.{option_map}
use Rattle.held.specs.Held.{octets_of}
use Rattle.entries.specs.Entries.{listed}
use Rattle.side.specs.Signals.{progress_of, bearer_of}
use Rattle.side.specs.Contents.{parts_of}
use Rattle.side.proofs.Limited.{bearer_served}
use Rattle.carried.specs.Messages.{number_of}
use Rattle.carried.proofs.Served.{told_bearer_is}
use Rattle.isup_meaning.specs.declared.types.MessageType.TheVariants as type
use Rattle.isup_meaning.specs.Writing.{head, isdn_octet, medium_of, optional_table, field_and_list, number_field}
use Rattle.isup.specs.Writes.{optional_of, Sent}
use Rattle.isup.proofs.Assembled.{optional_is, iam_is}
use Rattle.isup.proofs.messages.initial_address.Goals as goal

pub returns : goal.returns
returns c =
    let s = c.args.setup.now in
    let list =
    ap (λ l. listed (optional_of (octets_of c.progress_octets.result) s.parts l)) c.as_octets.ensures
    ∙ optional_is (octets_of c.progress_octets.result) (option_map progress_of s.progress) s.parts (bearer_of s.bearer) c.progress_octets.ensures in
    let same = told_bearer_is (bearer_of s.bearer) s.bearer.capability (bearer_served s.bearer) in
    subst (λ (x : List ℕ). Sent (head c.args.leg.number type.InitialAddress ++ (0x00 ∷ 0x20 ∷ isdn_octet 0x01 0x00 s.isdn ∷ 0x0A ∷ medium_of x
    ∷ field_and_list (number_field (Some (number_of s.number))) (listed (optional_table (option_map progress_of s.progress) (parts_of s.parts) x)))) c.args.out.now c.write.new.out c.write.result)
    (sym same)
    (subst (λ o. Sent o c.args.out.now c.write.new.out c.write.result)
    (iam_is _ _ _ _ c.args.leg.number _ _ _ (number_field (Some (number_of s.number))) _ _ c.octet.ensures.is c.args.leg.few c.octet-2.ensures c.isdn_octet.ensures c.medium.ensures
    c.number_field.ensures list)
    c.write.ensures)
