-- What the functions of the machine promise of a run, read at the frames that stand on its stack.
use Rattle.std.proofs.Common.{◌≡◌, ℕ, List, map, Result, Ok, Err, IfOk, Vec, Global}
use Rattle.page_values.specs.declared.Value.{Value}
use Rattle.page_values.specs.Seen.{seen}
use Rattle.lang_ast.specs.SeenProgram.{seen_program}
use Rattle.lang_ast.specs.Steps.{AllNumbered}
use Rattle.lang_ast.specs.declared.program.Program as Code
use Rattle.lang_meaning.specs.HostSteps.{HostRules}
use Rattle.page_interp.specs.declared.exit.Exit.{Exit}
use Rattle.page_interp.specs.declared.stack.Focus.{Focus}
use Rattle.page_interp.specs.declared.stack.Frame.{Frame}
use Rattle.page_interp.specs.declared.stack.Running.{Running}
use Rattle.page_interp.specs.Frames.{stacked, place, Holds, Opens}
use Rattle.page_interp.specs.Runs.{count_of_functions}
use Rattle.page_interp.specs.Running.{OpensOn, at}

-- a call opens on these frames
pub opens_at : {T S : Type 0} (rules : HostRules T) (code : Code.Program) (function : ℕ) (args : Vec Value Global) (result : Result Focus (Exit S)) (old new : Running) (fs : List Frame)
    → stacked old.stack.items ≡ fs → IfOk result (OpensOn rules code function args old new)
    → IfOk result (λ f. (g : Focus) → Holds (seen_program code) (place old.store old.current fs g) → AllNumbered (count_of_functions (seen_program code)) (map seen args.items) → Opens rules (seen_program code) function (map seen args.items) (place old.store old.current fs g) (at new f))
opens_at rules code function args (Ok f) old new fs e h = rw e at h
opens_at rules code function args (Err x) old new fs e h = tt
