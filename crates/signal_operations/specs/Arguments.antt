-- What is found in an argument.
use Rattle.std.specs.Prelude.{◌≡◌, ℕ, List, Option, Result, Vec, IfOk}
use Rattle.std.specs.Option.{option_map}
use Rattle.std.specs.declared.alloc.Global.{Global}
use Rattle.trace_text.specs.declared.lines.NoLine.{NoLine}

-- where there is no error, these numbers are found, or none
abbrev pub FindsNumbers : Result (Option (Vec ℕ Global)) NoLine → Option (List ℕ) → Type 0
FindsNumbers result told = IfOk result (λ found. option_map (λ (numbers : Vec ℕ Global). numbers.items) found ≡ told)
