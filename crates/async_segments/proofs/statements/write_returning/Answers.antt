use Rattle.std.specs.Option.{option_map}
use Rattle.lang_ast.specs.Seen.{seen_expr}
use Rattle.async_segments.proofs.Writing.{ok_as}
use Rattle.async_segments.proofs.Flags.{as_return}
use Rattle.async_segments.proofs.statements.write_returning.Goals as goal

pub returns-in-true : goal.returns-in-true
returns-in-true c = rw c.in-true.is c.write_resolving_return.ensures

pub returns-in-false : goal.returns-in-false
returns-in-false c = rw c.in-false.is (ok_as _ _ c.write_plain_return.result (as_return (option_map seen_expr c.args.value.now)) c.write_plain_return.ensures)
