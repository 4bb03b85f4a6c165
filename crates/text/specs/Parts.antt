-- Where the lines and words of a text begin and end.
-- Rests on lists of characters alone.
use Rattle.std.specs.Prelude.{ℕ, ◌-◌, Bool, not, ◌||◌, List, length, take, drop, ◌==◌, slice_index, if◌then◌else◌}
use Rattle.std.specs.List.{position_or_len, before_first, after_first}

-- a space or a tab
abbrev pub blank : ℕ → Bool
blank c = c == 32 || c == 9

-- a line without one carriage return at its end
abbrev pub without_return : List ℕ → List ℕ
without_return cs = if slice_index cs (length cs - 1) == 13 then take (length cs - 1) cs else cs

-- the first line, without its end, and what comes after the newline
abbrev pub line_in : List ℕ → List ℕ
line_in text = without_return (before_first (λ c. c == 10) text)

abbrev pub after_line : List ℕ → List ℕ
after_line text = after_first (λ c. c == 10) text

abbrev pub up_to_comment : List ℕ → List ℕ
up_to_comment line = before_first (λ c. c == 35) line

-- a line from its first word on; that word; and what comes after it
abbrev pub from_word : List ℕ → List ℕ
from_word line = drop (position_or_len (λ c. not (blank c)) line) line

abbrev pub word_in : List ℕ → List ℕ
word_in line = before_first blank (from_word line)

abbrev pub after_word : List ℕ → List ℕ
after_word line = drop (position_or_len blank (from_word line)) (from_word line)
