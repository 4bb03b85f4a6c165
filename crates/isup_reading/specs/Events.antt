-- The events of call progress and their octets. Rests on nothing.
use Rattle.std.specs.Prelude.{ℕ, cond, Some, None, Option, Result, ok_or, ◌==◌}
use Rattle.isup_reading.specs.declared.codes.Event.{Event}
use Rattle.isup_reading.specs.declared.codes.Event.TheVariants.{Alerting, Progress, InBand}
use Rattle.carried.specs.declared.UnknownOctet.{UnknownOctet}

abbrev pub event_octet : Event → ℕ
event_octet Alerting = 0x01
event_octet Progress = 0x02
event_octet InBand = 0x03

abbrev pub event_in : ℕ → Option Event
event_in n = cond (n == 0x01) (Some Alerting) (cond (n == 0x02) (Some Progress) (cond (n == 0x03) (Some InBand) None))

-- the event that an octet stands for, or the octet that stands for none
abbrev pub event_or_unknown : ℕ → Result Event UnknownOctet
event_or_unknown n = ok_or (event_in n) (record { 0 = n })
