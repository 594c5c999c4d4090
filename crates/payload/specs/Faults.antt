-- What a line that is not understood says of what was looked for in it. Assumes nothing.
use Rattle.std.specs.Prelude.{◌≡◌, ℕ, List, Some, None, Option, Result, Vec, vec_items, MatchResult}
use Rattle.std.specs.declared.alloc.Global.{Global}
use Rattle.payload.specs.declared.line_fault.LineFault.{LineFault}
use Rattle.payload.specs.declared.line_fault.LineFault.TheVariants.{Unknown, Memory}

-- there is none, unless memory failed
abbrev pub Lacks : {V : Type 0} → Option V → LineFault → Type 0
Lacks o Unknown = o ≡ None
Lacks o Memory = Unit {0}

-- the bytes that were looked for, or that there are none
abbrev pub Finds : Option (List ℕ) → Result (Vec ℕ Global) LineFault → Type 0
Finds o r = MatchResult r (λ v. o ≡ Some (vec_items v)) (Lacks o)
