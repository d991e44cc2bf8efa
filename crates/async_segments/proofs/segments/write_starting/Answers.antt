use Rattle.async_segments.proofs.Writing.{then_ok, ok_as}
use Rattle.std.proofs.Common.{map}
use Rattle.lang_ast.specs.Seen.{seen_name}
use Rattle.async_segments.specs.Written.{names_of}
use Rattle.async_segments.proofs.SegmentLemmas.{starting_spelling}
use Rattle.async_segments.proofs.segments.write_starting.Goals as goal

pub returns : goal.returns
returns c = ok_as _ _ c.write_promise_returned.result (starting_spelling (seen_name c.args.function.now.name) (map seen_name c.args.function.now.parameters.items) (names_of c.args.locals.now.items)) (then_ok _ _ c.write_promise_returned.result c.in_ok-write_head.ensures (then_ok _ _ c.write_promise_returned.result c.in_ok-write_promise.ensures (then_ok _ _ c.write_promise_returned.result c.in_ok-write_first_call.ensures c.write_promise_returned.ensures)))
