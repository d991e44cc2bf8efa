-- The ranks fall.
use Rattle.std.proofs.Common.{◌≡◌, ℕ, zero, suc, ◌≤◌, List, [], ◌∷◌, Some, arith, ap}
use Rattle.std.specs.Prelude.{slice_get}
use Rattle.page_types.specs.Tree.{Program}
use Rattle.lang_meaning.specs.Evaluation.{Function, functions_of}
use Rattle.lang_ast.specs.Sizes.{block_size}
use Rattle.page_interp.specs.Sizes.{bodies_size, program_size}

pub body_size : (fs : List Function) (i : ℕ) (f : Function) → slice_get fs i ≡ Some f → block_size f.body ≤ bodies_size fs
body_size [] i f e = cc
body_size (g ∷ fs) zero f e = let s : g ≡ f = cc in let t = ap (λ h. block_size h.body) s in omega (arith, t)
body_size (g ∷ fs) (suc i) f e = let h = body_size fs i f e in omega (arith, h)

pub in_program : (p : Program) (i : ℕ) (f : Function) → slice_get (functions_of p.items) i ≡ Some f → block_size f.body ≤ program_size p
in_program p i f e = let h = body_size (functions_of p.items) i f e in omega (arith, h)
