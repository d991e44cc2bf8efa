use Rattle.std.proofs.Common.{ap, ◌∙◌}
use Rattle.page_values.specs.Seen.{seen}
use Rattle.page_parts.specs.Promises.{Failed}
use Rattle.promise_combine.specs.Seen.{kind_seen, outcomes_with}
use Rattle.promise_combine.proofs.Kept.{listed_answer-some, listed_answer-none}
use Rattle.promise_combine.proofs.listing.answer_of_all.Goals as goal

pub returns-in-Ok : goal.returns-in-Ok
returns-in-Ok c =
    let kind = kind_seen c.args.kind.now in
    let all = outcomes_with c.args.outcomes.now c.args.place c.args.outcome.now in
    c.settled_with.ensures ∙ listed_answer-some kind all (seen c.in-Ok.list) c.in-Ok.ensures

pub returns-in-Err-Is : goal.returns-in-Err-Is
returns-in-Err-Is c =
    let kind = kind_seen c.args.kind.now in
    let all = outcomes_with c.args.outcomes.now c.args.place c.args.outcome.now in
    ap Failed c.fault.ensures ∙ listed_answer-none kind all (rw c.in-Err-Is.field-0-is at c.in-Err-Is.ensures)
