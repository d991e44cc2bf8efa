use Rattle.std.proofs.Common.{◌≡◌, ◌++◌, drop}
use Rattle.lang_ast.specs.Programs.{function_places}
use Rattle.lang_ast.proofs.program.places_of.Given as goal

abbrev pub invariant-loop-place : goal.invariant-loop-place
invariant-loop-place l = l.places.items ++ function_places l.place (drop l.place l.item-items) ≡ function_places 0 l.item-items
