-- The messages with no field, by their fixed octets.
-- Rests on the tables of the messages and on the events of call progress.
use Rattle.std.specs.Prelude.{ℕ, List}
use Rattle.isup_meaning.specs.Writing.{acm, cpg, con, anm}
use Rattle.isup_reading.specs.Events.{event_octet}
use Rattle.isup.specs.declared.messages.Status.{Status}
use Rattle.isup.specs.declared.messages.Status.TheVariants.{NoIndication, SubscriberFree}
use Rattle.isup.specs.declared.messages.Plain.{Plain}
use Rattle.isup.specs.declared.messages.Plain.TheVariants.{AddressComplete, CallProgress, Connect, Answer}

abbrev pub status_octet : Status → ℕ
status_octet NoIndication = 0x10
status_octet SubscriberFree = 0x14

-- the message of a circuit, with a list
abbrev pub plain_octets : Plain → ℕ → List ℕ → List ℕ
plain_octets (AddressComplete status isdn) l list = acm l (status_octet status) isdn list
plain_octets (CallProgress event) l list = cpg l (event_octet event) list
plain_octets (Connect isdn) l list = con l isdn list
plain_octets Answer l list = anm l list
