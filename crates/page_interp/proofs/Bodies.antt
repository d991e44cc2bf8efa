-- The function that is called, and the names of its variables.
use Rattle.std.proofs.Common.{◌≡◌, ℕ, Option, Some, None, sym}
use Rattle.page_types.specs.Values as Model
use Rattle.page_types.specs.Values.{FunValue, items_of}
use Rattle.page_parts.specs.Kinds.{Func}
use Rattle.lang_ast.specs.Steps.{AllNumbered}
use Rattle.page_interp.specs.Runs.{SomeIsNumbered, func_of}
use Rattle.page_interp.proofs.Numbered.{items_numbered}

pub bound_numbered : (count : ℕ) (o : Option Model.Value) (f : Func) → func_of o ≡ Some f → SomeIsNumbered count o → AllNumbered count (items_of f.bound)
bound_numbered count None f e h = cc
bound_numbered count (Some (FunValue n vs)) f e h = let same : record { function = n; bound = vs } ≡ f = cc in rw (sym same) (items_numbered count vs h.1)
bound_numbered count (Some v) f e h = cc
