use Rattle.std.proofs.Common.{◌≡◌, ℕ, Option, refl, subst}
use Rattle.std.specs.Prelude.{OnOk}
use Rattle.page_tasks.specs.Seen.{sched_task}
use Rattle.page_model.specs.SchedulerTasks.{with_state}
use Rattle.page_model.specs.Tasks.{post_state}
use Rattle.page_state.specs.PageActs.{changed_by}
use Rattle.page_state.proofs.Telling.{Does-quiet}
use Rattle.page_host.proofs.Composing.{acted}
use Rattle.page_host.proofs.page.Page.post_begun.Goals as goal

pub returns : goal.returns
returns g c =
    let t = sched_task c.args.task in
    let s = c.self.inside.state in
    let P : Option ℕ → Type 0 = λ o. OnOk c.with_state-done.result (c.with_state-done.new.self ≡ changed_by (with_state (record { abort_source = o; prio_source = t.source })) s) in
    acted _ _ c.self.view_is c.requires c.noted.ensures.same c.noted.ensures.kept refl
    (Does-quiet g.L.Lines.keeping (post_state t) s _ (g.L.Lines.seen c.self.inside.lines) _ refl (subst P c.signal_of.ensures c.with_state-done.ensures.made) c.with_state-done.ensures.memory)
