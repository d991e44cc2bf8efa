use Rattle.std.proofs.Common.{map, ap, arith}
use Rattle.lang_ast.specs.Seen.{seen_name, seen_block}
use Rattle.lang_parse.specs.Grammar.{item_spelling}
use Rattle.async_segments.specs.Encoded.{cut}
use Rattle.async_segments.specs.Segments.{segments_symbols}
use Rattle.async_segments.specs.Expanded.{rejecting_fn}
use Rattle.async_segments.specs.Written.{names_of}
use Rattle.async_segments.proofs.Writing.{adds_then, adds_as}
use Rattle.async_segments.proofs.SegmentLemmas.{async_spelling, async_count}
use Rattle.async_segments.proofs.segments.write_async.Goals as goal

pub returns-clause-written : goal.returns-clause-written
returns-clause-written c =
    let locals = names_of c.args.locals.now.items in let body = cut (seen_block c.args.function.now.body.items) in
    adds_as (async_spelling (seen_name c.args.function.now.name) (map seen_name c.args.function.now.parameters.items) locals body)
    (adds_then c.in_ok-write_starting.ensures (adds_then
    (adds_as (ap (λ f. segments_symbols f locals body) c.bytes.ensures.bytes) c.in_ok-awaits.ensures.written)
    (adds_as (ap (λ f. item_spelling (rejecting_fn f)) c.bytes-2.ensures.bytes) c.in_ok-write_rejecting.ensures)))

pub returns-clause-count : goal.returns-clause-count
returns-clause-count c =
    let locals = names_of c.args.locals.now.items in let body = cut (seen_block c.args.function.now.body.items) in
    let all = async_count (seen_name c.args.function.now.name) (map seen_name c.args.function.now.parameters.items) locals body in
    omega (arith, all, c.in_ok-awaits.ensures.count)
