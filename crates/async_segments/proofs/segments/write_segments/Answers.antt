use Rattle.std.proofs.Common.{◌+◌, ◌++◌, ap, sym, refl, ◌∙◌, drop, length, arith}
use Rattle.std.proofs.lemmas.List.{drop_all}
use Rattle.lang_ast.specs.Seen.{seen_stmt, seen_block}
use Rattle.async_segments.specs.Encoded.{await_in, cut}
use Rattle.async_segments.specs.Segments.{step_symbols}
use Rattle.async_segments.specs.Written.{names_of}
use Rattle.async_segments.proofs.Writing.{adds_then, goes_on, goes_end, front}
use Rattle.async_segments.proofs.SegmentLemmas.{left_of, left_step, count_step, count_most, last_end}
use Rattle.async_segments.proofs.segments.write_segments.Goals as goal

pub loop-stmt-preserved : goal.loop-stmt-preserved
loop-stmt-preserved c =
    let f = c.args.function.now in let locals = names_of c.args.locals.now.items in let s = seen_stmt c.stmt-item.result in
    let at = front _ _ _ c.stmt-item.is c.loop-stmt-test.true in
    let rest = seen_block (drop (c.loop-stmt.stmt-index + 1) c.deref-stmt-items.result.now) in
    record {
      written = goes_on _ (ap (λ ss. left_of f locals (c.loop-stmt.awaits + 1) (seen_block ss)) at ∙
          (left_step f locals c.loop-stmt.awaits s rest (await_in s) refl ∙ ap (λ n. step_symbols f locals c.loop-stmt.awaits s (await_in s) ++ left_of f locals (n + 1) rest) (sym c.in_ok-awaits.ensures.count)))
          c.loop-stmt.invariant.written c.in_ok-awaits.ensures.written;
      few = let most = count_most f locals c.loop-stmt.awaits (await_in s) in omega (arith, most, c.in_ok-awaits.ensures.count, c.loop-stmt.invariant.few);
      left = ap (λ n. n + length (cut rest).others) c.in_ok-awaits.ensures.count ∙ (sym (count_step f locals c.loop-stmt.awaits s rest (await_in s) refl) ∙
          (ap (λ ss. c.loop-stmt.awaits + length (cut (seen_block ss)).others) (sym at) ∙ c.loop-stmt.invariant.left));
    }

pub returns-clause-written : goal.returns-clause-written
returns-clause-written c =
    let f = c.args.function.now in let locals = names_of c.args.locals.now.items in
    rw (sym c.deref-stmt-items.ensures.value)
    (adds_then c.in_ok-write_segment_head.ensures (adds_then c.in_ok-write_begin.ensures
    (goes_end _ (ap (λ ss. left_of f locals (c.loop-stmt.awaits + 1) (seen_block ss)) (drop_all _ _ c.loop-stmt-test.false) ∙ sym (last_end f locals (c.loop-stmt.awaits + 1))) c.loop-stmt.invariant.written c.in_ok-write_last_end.ensures)))

pub returns-clause-count : goal.returns-clause-count
returns-clause-count c = rw (sym c.deref-stmt-items.ensures.value)
    (let none = ap (λ ss. length (cut (seen_block ss)).others) (drop_all _ _ c.loop-stmt-test.false) in omega (arith, none, c.loop-stmt.invariant.left))
