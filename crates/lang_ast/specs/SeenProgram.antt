-- What a program is seen as.
use Rattle.page_types.specs.Tree as Model
use Rattle.lang_ast.specs.declared.program.Program.{Program}
use Rattle.lang_ast.specs.Seen.{seen_items}

unfoldable pub seen_program : Program → Model.Program
seen_program p = record { items = seen_items p.items.items; names = p.names }
