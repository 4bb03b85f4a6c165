-- What the code holds of a message and makes of it, as the tables say it.
-- Rests on the tables of the messages.
use Rattle.std.specs.Prelude.{ℕ, Option}
use Rattle.std.specs.Option.{option_map}
use Rattle.side.specs.declared.kinds.Refusal.{Refusal}
use Rattle.side.specs.declared.kinds.Reason.TheVariants.{BadValue}
pub use Rattle.carried.specs.Messages.{signal_as, number_of}
use Rattle.isup_meaning.specs.Reading.{Body, refusal}
use Rattle.isup_reading.specs.declared.layout.Body.{Body as Held}

-- what the pointers reach
abbrev pub body_of : Held → Body
body_of b = record {
  octets = b.message.octets.now;
  field = b.field.now;
  access = b.access.contents.now;
  bearer = b.bearer.contents.now;
  user = b.user.contents.now;
  access_at = b.access.place;
  bearer_at = b.bearer.place;
  user_at = b.user.place;
}

-- a value outside its rule is refused at its place
abbrev pub bad_value : Option ℕ → Option Refusal
bad_value place = option_map (refusal BadValue) place
