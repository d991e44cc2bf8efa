use Rattle.std.proofs.Common.{sym}
use Rattle.std.specs.Option.{option_map}
use Rattle.lang_ast.specs.Seen.{seen_expr}
use Rattle.async_segments.specs.Expanded.{returned_value}
use Rattle.async_segments.proofs.Writing.{then_ok, ok_as}
use Rattle.async_segments.proofs.Flags.{resolving_spelling}
use Rattle.async_segments.proofs.statements.write_resolving_return.Goals as goal

pub returns : goal.returns
returns c = ok_as _ _ c.write_return.result (sym (resolving_spelling (returned_value (option_map seen_expr c.args.value.now))))
    (then_ok _ _ c.write_return.result c.in_ok-write_resolve.ensures (then_ok _ _ c.write_return.result c.in_ok-write_returned.ensures
    (then_ok _ _ c.write_return.result c.in_ok-write_call_end.ensures c.write_return.ensures)))
