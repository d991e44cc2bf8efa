use Rattle.std.proofs.Common.{◌≤◌, ◌+◌, length, map, refl, arith}
use Rattle.page_parts.specs.Kinds.{list_in}
use Rattle.page_values.specs.Seen.{seen}
use Rattle.page_types.specs.Values.{items_of}
use Rattle.page_model.specs.PageCombinators.{race_made, are_promises_left}
use Rattle.page_model.specs.Operations.{answers_first, promises_for_all}
use Rattle.page_state.specs.Standing.{page_of}
use Rattle.page_state.specs.PageActs.{at}
use Rattle.page_answers.proofs.Choosing.{Answers-exit, Answers-first, Answers-left, Answers-none_left, Answers-rejected}
use Rattle.promise_operations.proofs.Listed.{light-few, raced_of, Answers-raced, needed-race}
use Rattle.promise_operations.proofs.racing.race.Goals as goal

pub returns-in_default : goal.returns-in_default
returns-in_default g c =
    Answers-rejected (list_in (seen c.args.argument)) (λ vs. raced_of (items_of vs)) (at c.args.page.now (g.L.Lines.seen c.args.lines.now)) c.in_default.ensures c.reject_fault.ensures

pub are_promises_left-requires : goal.are_promises_left-requires
are_promises_left-requires g c =
    let most : length c.items-items.result.now ≤ 65535 = light-few c.items-items.result.now c.in-Some.list c.items-items.ensures.items c.items-items.ensures.light in
    let few = c.promises_for_all-needed.ensures.few in
    omega (arith, most, few)

pub returns-then-not-are_promises_left : goal.returns-then-not-are_promises_left
returns-then-not-are_promises_left g c =
    let vs = map seen c.items-items.result.now in
    let old = at c.args.page.now (g.L.Lines.seen c.args.lines.now) in
    Answers-raced (seen c.args.argument) c.items-items.result.now c.in-Some.list old c.in-Some.ensures c.items-items.ensures.items
    (Answers-none_left g.L.Lines.keeping (are_promises_left (1 + promises_for_all vs)) (answers_first (race_made vs)) old c.throw.result c.if-not-are_promises_left.true
    (needed-race _ _ c.items-items.result.now (page_of c.args.page.now) c.promises_for_all-needed.ensures.count refl c.are_promises_left.ensures) c.throw.ensures)

pub returns-in_err-promise : goal.returns-in_err-promise
returns-in_err-promise g c =
    let vs = map seen c.items-items.result.now in
    let F = race_made vs in
    let old = at c.args.page.now (g.L.Lines.seen c.args.lines.now) in
    Answers-raced (seen c.args.argument) c.items-items.result.now c.in-Some.list old c.in-Some.ensures c.items-items.ensures.items
    (Answers-left (are_promises_left (1 + promises_for_all vs)) (answers_first F) old c.if-not-are_promises_left.false
    (needed-race _ _ c.items-items.result.now (page_of c.args.page.now) c.promises_for_all-needed.ensures.count refl c.are_promises_left.ensures)
    (Answers-exit (answers_first F) F old _ refl c.from_residual.ensures.1 c.in_err-promise.ensures.does))

pub returns : goal.returns
returns g c =
    let vs = map seen c.items-items.result.now in
    let F = race_made vs in
    let old = at c.args.page.now (g.L.Lines.seen c.args.lines.now) in
    Answers-raced (seen c.args.argument) c.items-items.result.now c.in-Some.list old c.in-Some.ensures c.items-items.ensures.items
    (Answers-left (are_promises_left (1 + promises_for_all vs)) (answers_first F) old c.if-not-are_promises_left.false
    (needed-race _ _ c.items-items.result.now (page_of c.args.page.now) c.promises_for_all-needed.ensures.count refl c.are_promises_left.ensures)
    (Answers-first F old c.in_ok-promise.promise c.give.result c.in_ok-promise.ensures.first c.give.ensures c.in_ok-promise.ensures.does))
