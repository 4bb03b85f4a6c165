-- A step of writing that is only measured: refused for what stands against it, or fine.
use Rattle.std.specs.Prelude.{◌≡◌, Some, None, Option, Result, MatchResult}
use Rattle.writer.specs.declared.types.WriteFault.{WriteFault}

-- refused for what stands against it; or nothing does, and this holds of the answer
abbrev pub Unless : {T : Type 0} → Option WriteFault → (T → Type 0) → Result T WriteFault → Type 0
Unless fault holds r = MatchResult r (λ x. (fault ≡ None) × holds x) (λ e. fault ≡ Some e)
