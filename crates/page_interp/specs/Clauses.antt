-- What the functions of the machine promise of a run, in short.
use Rattle.std.specs.Prelude.{ℕ, List, []}
use Rattle.page_types.specs.Values as Model
use Rattle.page_types.specs.Tree.{Program}
use Rattle.lang_ast.specs.SeenProgram.{seen_program}
use Rattle.lang_ast.specs.Hosts.{HostNow}
use Rattle.lang_meaning.specs.HostSteps.{HostRules, Ask}
use Rattle.lang_ast.specs.declared.program.Program as Code
use Rattle.page_interp.specs.declared.exit.Store.{Store}
use Rattle.page_interp.specs.Runs.{Left, moment_of, outside, caller_of, count_of_functions, IsReady, Runs}

-- the script of the machine's code
abbrev pub script : Code.Program → Program
script code = seen_program code

-- how many functions the script has
abbrev pub count_in : Code.Program → ℕ
count_in code = count_of_functions (script code)

-- a function or an operation can be called
abbrev pub CanCall : {T S : Type 0} → HostRules T → (Ask → T → T → Type 0) → Code.Program
    → HostNow T S → Store → Type 0
CanCall rules leaves code h store =
    IsReady (outside rules leaves (script code)) (moment_of (script code) h store [])

-- from the first of these moments to the second one a call runs by its number, where none is open
abbrev pub CallRuns : {T S : Type 0} → HostRules T → (Ask → T → T → Type 0) → Code.Program
    → (function : ℕ) → List Model.Value
    → HostNow T S → Store → Left S → HostNow T S → Store → Type 0
CallRuns rules leaves code function args h store l h' store' =
    Runs (outside rules leaves (script code)) (caller_of rules (script code) 0 function args)
    (moment_of (script code) h store []) l (moment_of (script code) h' store' [])
