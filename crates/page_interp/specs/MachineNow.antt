-- What a machine is seen as.
use Rattle.std.specs.Prelude.{List, refl}
use Rattle.std.specs.Coded.{Coded, code_by, coded×, coded_ℕ, coded_list}
use Rattle.page_types.specs.Tree as Tree
use Rattle.page_types.specs.ValueCode.{coded_value}
use Rattle.lang_ast.specs.declared.program.Program.{Program}
use Rattle.lang_ast.specs.contracts.program.Program as program_code
use Rattle.lang_ast.specs.SeenProgram.{seen_program}
use Rattle.lang_meaning.specs.Machine.{Variable}

-- a machine's script, and its global variables
pub record MachineNow : Type 0 where
  pub script : Program
  pub globals : List Variable

-- the script of a machine
abbrev pub program_in : MachineNow → Tree.Program
program_in m = seen_program m.script

-- a variable is stored as its name and its value, and a machine as its script and its variables
abbrev coded_variable : Coded Variable
coded_variable =
    code_by _ (coded× (coded_list coded_ℕ) coded_value) (λ x. (x.name, x.value))
    (λ p. record { name = p.0; value = p.1 }) (λ _. refl)

abbrev pub coded_machine : Coded MachineNow
coded_machine =
    code_by _ (coded× program_code.the_row.coded (coded_list coded_variable))
    (λ m. (m.script, m.globals)) (λ p. record { script = p.0; globals = p.1 }) (λ _. refl)
