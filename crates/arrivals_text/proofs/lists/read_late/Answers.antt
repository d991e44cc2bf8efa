use Rattle.arrivals_text.specs.Fields.{number_in, late_at}
use Rattle.arrivals_text.proofs.Rows.{words_refused, words_go_on, words_end_refused, words_end}
use Rattle.arrivals_text.proofs.lists.read_late.Goals as goal

pub returns-in_default-number_in : goal.returns-in_default-number_in
unfolding late_at
returns-in_default-number_in c = words_refused (number_in 0 1000000) c.loop-word.late.items c.args.text.now c.loop-word.rest.now _ _ c.loop-word.invariant c.in-Some.ensures.parts c.in_default-number_in.ensures.number

pub loop-word-preserved : goal.loop-word-preserved
loop-word-preserved c = words_go_on (number_in 0 1000000) c.loop-word.late.items _ _ c.args.text.now c.loop-word.rest.now _ _ c.loop-word.invariant c.in-Some.ensures.parts c.in-Some-number_in.ensures.number c.in_ok-push.ensures.items

pub returns-in_default-number_in-2 : goal.returns-in_default-number_in-2
unfolding late_at
returns-in_default-number_in-2 c = words_end_refused (number_in 0 1000000) c.loop-word.late.items c.args.text.now c.loop-word.rest.now c.loop-word.invariant c.in_default.ensures.parts c.in_default-number_in-2.ensures.number

pub returns : goal.returns
unfolding late_at
returns c = words_end (number_in 0 1000000) c.loop-word.late.items _ _ c.args.text.now c.loop-word.rest.now c.loop-word.invariant c.in_default.ensures.parts c.in-Some-number_in-2.ensures.number c.in_ok-push-2.ensures.items
