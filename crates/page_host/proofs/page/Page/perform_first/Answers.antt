use Rattle.std.proofs.Common.{◌≡◌, ◌≢◌, rules}
use Rattle.page_types.specs.declared.Source.TheVariants.{Sched}
use Rattle.page_tasks.specs.Seen.{steps_of}
use Rattle.page_host.proofs.TaskPerforms.{first-sched, first-none, first-done, queued-ready}
use Rattle.page_host.proofs.page.Page.perform_first.Goals as goal

pub perform_task-requires : goal.perform_task-requires
perform_task-requires g c = queued-ready _ c.in-Some.ensures.gone c.requires

pub returns-then-eq : goal.returns-then-eq
returns-then-eq g c =
    let is : c.args.source ≡ Sched = search rules in
    first-sched c.args.source is c.perform_next_sched.result c.or_page_stop.ensures c.perform_next_sched.ensures

pub returns-in_default : goal.returns-in_default
returns-in_default g c =
    let other : c.args.source ≢ Sched = search rules in
    first-none c.args.source other c.requires c.in_default.ensures.none c.in_default.ensures.first

pub returns : goal.returns
returns g c =
    let other : c.args.source ≢ Sched = search rules in
    first-done c.args.source other c.in-Some.field-0-0 (steps_of c.in-Some.steps) c.requires.running c.in-Some.ensures.first c.in-Some.ensures.gone c.perform_task.result c.perform_task.ensures
