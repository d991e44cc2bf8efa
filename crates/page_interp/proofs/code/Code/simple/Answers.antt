use Rattle.std.proofs.Common.{◌≡◌, ◌∙◌, Some, sym}
use Rattle.lang_meaning.specs.Evaluation.{functions_of}
use Rattle.lang_ast.specs.Programs.{function_names}
use Rattle.lang_ast.specs.SeenProgram.{seen_program}
use Rattle.page_interp.specs.Places.{place_of}
use Rattle.page_interp.specs.Runs.{global_names}
use Rattle.page_interp.proofs.Frames.{number_place}
use Rattle.page_interp.proofs.OwnNames.{own_at}
use Rattle.page_interp.proofs.code.Code.simple.Goals as goal

pub returns-clause-operation : goal.returns-clause-operation
returns-clause-operation c =
    let at : place_of (function_names (seen_program c.args.self.now).items) c.args.name.now ≡ Some c.in_ok-place.place = rw (← c.self.view_is, ← c.self.invariant.functions_named) (sym c.in_ok-place.ensures) in
    (own_at (global_names (seen_program c.args.self.now)) (function_names (seen_program c.args.self.now).items) c.args.name.now c.in_ok-place.place at (c.is_own.ensures c.if-not-is_own.false)).0

pub returns-clause-global : goal.returns-clause-global
returns-clause-global c =
    let at : place_of (function_names (seen_program c.args.self.now).items) c.args.name.now ≡ Some c.in_ok-place.place = rw (← c.self.view_is, ← c.self.invariant.functions_named) (sym c.in_ok-place.ensures) in
    (own_at (global_names (seen_program c.args.self.now)) (function_names (seen_program c.args.self.now).items) c.args.name.now c.in_ok-place.place at (c.is_own.ensures c.if-not-is_own.false)).1

pub returns-clause-number : goal.returns-clause-number
returns-clause-number c =
    let at : place_of (function_names (seen_program c.args.self.now).items) c.args.name.now ≡ Some c.in_ok-place.place = rw (← c.self.view_is, ← c.self.invariant.functions_named) (sym c.in_ok-place.ensures) in
    sym (number_place (functions_of (seen_program c.args.self.now).items) c.args.name.now) ∙ at
