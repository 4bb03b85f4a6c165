-- Types of number, by their code in a called number and by the nature of address.
-- Rests on numbers alone; the type is that of the source.
use Rattle.std.specs.Prelude.{ℕ, cond, Some, None, Option, ◌==◌}
use Rattle.values.specs.declared.types.NumberType.{NumberType}
use Rattle.values.specs.declared.types.NumberType.TheVariants.{Unknown, International, National, Subscriber}

-- the code of a type of number
abbrev pub code_of : NumberType → ℕ
code_of Unknown = 0
code_of International = 1
code_of National = 2
code_of Subscriber = 4

-- the type that a code stands for
abbrev pub type_of : ℕ → Option NumberType
type_of code =
    cond (code == 0) (Some Unknown)
    (cond (code == 1) (Some International)
    (cond (code == 2) (Some National)
    (cond (code == 4) (Some Subscriber) None)))

-- the nature of address of a type of number
abbrev pub nature_of : NumberType → ℕ
nature_of Subscriber = 1
nature_of Unknown = 2
nature_of National = 3
nature_of International = 4

-- the type that a nature of address stands for
abbrev pub type_of_nature : ℕ → Option NumberType
type_of_nature nature =
    cond (nature == 1) (Some Subscriber)
    (cond (nature == 2) (Some Unknown)
    (cond (nature == 3) (Some National)
    (cond (nature == 4) (Some International) None)))
