use Rattle.std.proofs.Common.{◌≤◌, ◌+◌, length, map, refl, arith}
use Rattle.page_parts.specs.Kinds.{list_in}
use Rattle.page_values.specs.Seen.{seen}
use Rattle.promise_combine.specs.Seen.{kind_seen}
use Rattle.page_types.specs.Values.{items_of}
use Rattle.page_model.specs.PageCombinators.{all_made, are_promises_left}
use Rattle.page_model.specs.Operations.{answers_first, promises_for_all}
use Rattle.page_state.specs.Standing.{page_of}
use Rattle.page_state.specs.PageActs.{at}
use Rattle.page_answers.proofs.Choosing.{Answers-exit, Answers-first, Answers-left, Answers-none_left, Answers-rejected}
use Rattle.promise_operations.proofs.Listed.{light-few, combined_of, Answers-combined, needed-all}
use Rattle.promise_operations.proofs.combinators.combined.Goals as goal

pub returns-in_default : goal.returns-in_default
returns-in_default g c =
    Answers-rejected (list_in (seen c.args.argument)) (λ vs. combined_of (kind_seen c.args.kind) (items_of vs)) (at c.args.page.now (g.L.Lines.seen c.args.lines.now)) c.in_default.ensures c.reject_fault.ensures

pub are_promises_left-requires : goal.are_promises_left-requires
are_promises_left-requires g c =
    let most : length c.items-items.result.now ≤ 65535 = light-few c.items-items.result.now c.in-Some.list c.items-items.ensures.items c.items-items.ensures.light in
    let few = c.promises_for_all.ensures.few in
    omega (arith, most, few)

pub all_made-requires-clause-count : goal.all_made-requires-clause-count
all_made-requires-clause-count g c = c.requires (length c.items-items.result.now)

pub all_made-requires-clause-few : goal.all_made-requires-clause-few
all_made-requires-clause-few g c =
    let most : length c.items-items.result.now ≤ 65535 = light-few c.items-items.result.now c.in-Some.list c.items-items.ensures.items c.items-items.ensures.light in
    omega (arith, most)

pub returns-then-not-are_promises_left : goal.returns-then-not-are_promises_left
returns-then-not-are_promises_left g c =
    let vs = map seen c.items-items.result.now in
    let old = at c.args.page.now (g.L.Lines.seen c.args.lines.now) in
    Answers-combined (kind_seen c.args.kind) (seen c.args.argument) c.items-items.result.now c.in-Some.list old c.in-Some.ensures c.items-items.ensures.items
    (Answers-none_left g.L.Lines.keeping (are_promises_left (1 + promises_for_all vs + length vs)) (answers_first (all_made (kind_seen c.args.kind) vs)) old c.throw.result c.if-not-are_promises_left.true
    (needed-all _ _ c.items-items.result.now (page_of c.args.page.now) c.promises_for_all.ensures.count refl c.are_promises_left.ensures) c.throw.ensures)

pub returns-in_err-promise : goal.returns-in_err-promise
returns-in_err-promise g c =
    let vs = map seen c.items-items.result.now in
    let F = all_made (kind_seen c.args.kind) vs in
    let old = at c.args.page.now (g.L.Lines.seen c.args.lines.now) in
    Answers-combined (kind_seen c.args.kind) (seen c.args.argument) c.items-items.result.now c.in-Some.list old c.in-Some.ensures c.items-items.ensures.items
    (Answers-left (are_promises_left (1 + promises_for_all vs + length vs)) (answers_first F) old c.if-not-are_promises_left.false
    (needed-all _ _ c.items-items.result.now (page_of c.args.page.now) c.promises_for_all.ensures.count refl c.are_promises_left.ensures)
    (Answers-exit (answers_first F) F old _ refl c.from_residual.ensures.1 c.in_err-promise.ensures.does))

pub returns : goal.returns
returns g c =
    let vs = map seen c.items-items.result.now in
    let F = all_made (kind_seen c.args.kind) vs in
    let old = at c.args.page.now (g.L.Lines.seen c.args.lines.now) in
    Answers-combined (kind_seen c.args.kind) (seen c.args.argument) c.items-items.result.now c.in-Some.list old c.in-Some.ensures c.items-items.ensures.items
    (Answers-left (are_promises_left (1 + promises_for_all vs + length vs)) (answers_first F) old c.if-not-are_promises_left.false
    (needed-all _ _ c.items-items.result.now (page_of c.args.page.now) c.promises_for_all.ensures.count refl c.are_promises_left.ensures)
    (Answers-first F old c.in_ok-promise.promise c.give.result c.in_ok-promise.ensures.first c.give.ensures c.in_ok-promise.ensures.does))
