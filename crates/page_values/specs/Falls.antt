-- What is inside a value weighs less than the value.
use Rattle.std.specs.Prelude.{◌≤◌, List, [], ◌∷◌}
use native.Mathlib.Omega.{arith}
use denote.Param.Weighed.{most}
use Rattle.page_parts.specs.Kinds.{weight, all_weights}
use Rattle.page_values.specs.Seen.{seen, seen_all}
use Rattle.page_values.specs.declared.Value.{Value}
use Rattle.page_values.specs.declared.Value.TheVariants as V
use Rattle.page_values.specs.declared.Items.TheDeep.{deep-Value}

deep-le : (v : Value) → deep-Value v ≤ weight (seen v)
deep-le V.Unit = omega arith
deep-le (V.Bool b) = omega arith
deep-le (V.Int n) = omega arith
deep-le (V.Text t) = omega arith
deep-le (V.List vs) = omega arith
deep-le (V.Fun f) = omega arith
deep-le (V.Promise n) = omega arith
deep-le (V.Signal n) = omega arith
deep-le (V.Controller n) = omega arith
deep-le (V.Deadline t) = omega arith
deep-le (V.Fault name t) = omega arith

pub fits : (vs : List Value) → most deep-Value vs ≤ all_weights (seen_all vs)
fits [] = omega arith
fits (v ∷ vs) = omega (arith, deep-le v, fits vs)
