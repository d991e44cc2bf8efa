use Rattle.page_parts.specs.Sources.{default_list}
use Rattle.arrivals_text.specs.Fields.{source_among, sources_at}
use Rattle.arrivals_text.proofs.Rows.{words_refused, words_go_on, words_end_refused, words_end}
use Rattle.arrivals_text.proofs.lists.read_sources.Goals as goal

pub returns-in_default-source_among : goal.returns-in_default-source_among
unfolding sources_at
returns-in_default-source_among c = words_refused (source_among default_list) c.loop-word.sources.items c.args.text.now c.loop-word.rest.now _ _ c.loop-word.invariant c.in-Some.ensures.parts c.in_default-source_among.ensures

pub loop-word-preserved : goal.loop-word-preserved
loop-word-preserved c = words_go_on (source_among default_list) c.loop-word.sources.items _ _ c.args.text.now c.loop-word.rest.now _ _ c.loop-word.invariant c.in-Some.ensures.parts c.in-Some-source_among.ensures c.in_ok-push.ensures.items

pub returns-in_default-source_among-2 : goal.returns-in_default-source_among-2
unfolding sources_at
returns-in_default-source_among-2 c = words_end_refused (source_among default_list) c.loop-word.sources.items c.args.text.now c.loop-word.rest.now c.loop-word.invariant c.in_default.ensures.parts c.in_default-source_among-2.ensures

pub returns : goal.returns
unfolding sources_at
returns c = words_end (source_among default_list) c.loop-word.sources.items _ _ c.args.text.now c.loop-word.rest.now c.loop-word.invariant c.in_default.ensures.parts c.in-Some-source_among-2.ensures c.in_ok-push-2.ensures.items
