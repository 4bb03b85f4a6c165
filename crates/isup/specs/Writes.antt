-- What the code writes, from the values that it holds.
-- Rests on tables of elements and on the tables of the messages.
use Rattle.std.specs.Prelude.{◌≡◌, ℕ, ◌+◌, ◌<◌, Bool, ◌&&◌, List, [], ◌∷◌, ◌++◌, length, Result, MatchResult, ◌==◌}
use Rattle.entries.specs.Entries.{Entry, listed}
use Rattle.held.specs.Held.{octets_of}
use Rattle.side.specs.declared.parts.Parts.{Parts}
use Rattle.side.specs.Contents.{calling_of, called_of, low_of, high_of, user_of}
use Rattle.side.specs.Steps.{written}
use Rattle.writer.specs.declared.types.WriteFault.{WriteFault}
use Rattle.isup_meaning.specs.Writing.{pointer_to, tail}
use Rattle.isup.specs.declared.fields.Optional.{Optional}

-- access transport: the octets of progress, and the parts but user-user
abbrev pub access_of : List ℕ → Parts → List Entry
access_of progress p =
    record { tag = 0x1E; contents = progress }
    ∷ record { tag = 0x6D; contents = calling_of p }
    ∷ record { tag = 0x71; contents = called_of p }
    ∷ record { tag = 0x7C; contents = low_of p }
    ∷ record { tag = 0x7D; contents = high_of p }
    ∷ []

-- what stands behind it in the optional list
abbrev pub behind_of : Parts → List ℕ → List Entry
behind_of p bearer = record { tag = 0x1D; contents = bearer } ∷ record { tag = 0x20; contents = user_of p } ∷ []

abbrev pub optional_of : List ℕ → Parts → List ℕ → List Entry
optional_of progress p bearer = record { tag = 0x03; contents = listed (access_of progress p) } ∷ behind_of p bearer

-- the optional list of what the code holds
abbrev pub list_of : Optional → List ℕ
list_of o = listed (optional_of (octets_of o.progress) o.parts.now o.bearer.now)

-- nothing is said in access transport, or in the whole list
abbrev pub no_access : List ℕ → Parts → Bool
no_access progress p =
    (length progress == 0) && (length (calling_of p) == 0 && (length (called_of p) == 0 && (length (low_of p) == 0 && length (high_of p) == 0)))

abbrev pub no_list : List ℕ → Parts → List ℕ → Bool
no_list progress p bearer = no_access progress p && (length bearer == 0 && length (user_of p) == 0)

-- fixed octets, the pointer to the list, what stands between, and the list
abbrev pub message_of : List ℕ → List ℕ → List ℕ → List ℕ
message_of fixed between list = fixed ++ (pointer_to (1 + length between) list ∷ (between ++ tail list))

-- a message was written from the front of a buffer
pub record Wrote (message before after : List ℕ) (n : ℕ) : Type 0 where
  pub count : n ≡ length message
  pub buffer : after ≡ written message before

-- the same, or the buffer has fewer octets than any message may need
abbrev pub Sent : List ℕ → List ℕ → List ℕ → Result ℕ WriteFault → Type 0
Sent message before after r = MatchResult r (λ n. Wrote message before after n) (λ _. length before < 256)

-- a field with its length before it
abbrev pub with_length : List ℕ → List ℕ
with_length field = length field ∷ field
