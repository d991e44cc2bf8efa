use Rattle.std.proofs.Common.{ap, sym, map, ◌∷◌, [], ◌∙◌}
use Rattle.std.proofs.lemmas.List.{drop_all}
use Rattle.lang_ast.specs.Seen.{seen_name}
use Rattle.lang_parse.specs.Symbols.{NameAt}
use Rattle.async_segments.specs.Names.{spellings, segment_name}
use Rattle.async_segments.specs.Written.{names_of}
use Rattle.async_segments.proofs.Writing.{then_ok, ok_as, adds_as, goes_on, goes_to, front}
use Rattle.async_segments.proofs.SegmentLemmas.{units_symbols, unit_symbols, units_step, first_call_spelling}
use Rattle.async_segments.proofs.segments.write_first_call.Goals as goal

pub loop-local-preserved : goal.loop-local-preserved
loop-local-preserved c = let ps = spellings (map seen_name c.args.function.now.parameters.items) in
    goes_on _ (ap (λ xs. units_symbols ps (names_of xs)) (front _ _ _ c.local-item.is c.loop-local-test.true) ∙ units_step ps c.local-item.result.items _) c.loop-local.invariant
    (adds_as (ap (unit_symbols ps) c.deref-in-loop-local.ensures.value) c.in_ok-write_unit.ensures)

pub returns : goal.returns
returns c = let ps = spellings (map seen_name c.args.function.now.parameters.items) in
    rw (sym c.deref-local-items.ensures.value) (ok_as _ _ c.write_call_end.result (first_call_spelling c.args.function.now.name.name ps (names_of c.deref-local-items.result.now))
    (then_ok _ _ c.write_call_end.result (adds_as (ap (λ bs. NameAt bs 0 ∷ []) (c.deref.ensures.value ∙ (c.in_ok-first.ensures ∙ ap (λ f. segment_name f 0) c.bytes.ensures.bytes))) c.in_ok-name.ensures)
    (then_ok _ _ c.write_call_end.result c.in_ok-sign.ensures (then_ok _ _ c.write_call_end.result c.in_ok-name-2.ensures
    (then_ok _ _ c.write_call_end.result c.in_ok-write_parameters_behind.ensures
    (then_ok _ _ c.write_call_end.result (goes_to _ (ap (λ xs. units_symbols ps (names_of xs)) (drop_all _ _ c.loop-local-test.false)) c.loop-local.invariant) c.write_call_end.ensures))))))
