use Rattle.std.proofs.Common.{List, None, Some, length, refl, sym, ◌∙◌, ap, subst}
use Rattle.std.proofs.lemmas.List.{length-map}
use Rattle.task_pool.specs.Lists.{Lists, list_of, without}
use Rattle.post_task.specs.declared.level.Level.{Level}
use Rattle.post_task.specs.Levels.{Kept, all_queues, waiting}
use Rattle.post_task.specs.Heads.{firsts}
use Rattle.post_task.proofs.Tasks.{removed, removed_others}
use Rattle.post_task.proofs.Calls.{kept_as, gone_lists, gone_elsewhere, gone_waiting}
use Rattle.post_task.proofs.sched.SchedQueues.remove.Goals as goal

pub read_again-requires : goal.read_again-requires
read_again-requires g c = gone_lists c.args.t.0 c.args.pool.now c.unlink_listed.new.self c.args.self.now.levels c.in_ok-list.ensures.gone c.requires.kept.lists

pub returns-clause-kept : goal.returns-clause-kept
returns-clause-kept g c =
    let levels = c.args.self.now.levels in
    kept_as levels c.read_again.new.self c.unlink_listed.new.self c.read_again.ensures.same
    (gone_lists c.args.t.0 c.args.pool.now c.unlink_listed.new.self levels c.in_ok-list.ensures.gone c.requires.kept.lists)
    c.requires.kept.fixed
    (c.read_again.ensures.heads c.args.pool.now c.requires.kept.heads (gone_elsewhere c.args.t.0 c.in_ok-list.field-0.list.0 c.args.pool.now c.unlink_listed.new.self c.in_ok-list.ensures.list)
    ∙ ap (λ (ls : List Level). firsts ls c.unlink_listed.new.self) c.read_again.ensures.same)

pub returns-clause-item : goal.returns-clause-item
returns-clause-item g c = removed c.args.t.0 c.args.pool.now (all_queues c.args.self.now.levels) (Some c.in_ok-list.field-0) _ refl c.in_ok-list.ensures.item c.in_ok-list.ensures.there c.requires.ours

pub returns-in_err-list-clause-item : goal.returns-in_err-list-clause-item
returns-in_err-list-clause-item g c =
    c.from_residual.ensures
    ∙ removed c.args.t.0 c.args.pool.now (all_queues c.args.self.now.levels) None _ refl c.in_err-list.ensures.item c.in_err-list.ensures.there c.requires.ours

pub returns-clause-gone : goal.returns-clause-gone
returns-clause-gone g c =
    ap (λ (ls : List Level). waiting ls c.unlink_listed.new.self) c.read_again.ensures.same ∙ gone_waiting c.args.t.0 c.args.pool.now c.unlink_listed.new.self c.args.self.now.levels c.in_ok-list.ensures.gone

pub returns-in_err-list-clause-gone : goal.returns-in_err-list-clause-gone
returns-in_err-list-clause-gone g c = gone_waiting c.args.t.0 c.args.pool.now c.unlink_listed.new.self c.args.self.now.levels c.in_err-list.ensures.gone

pub returns-clause-others : goal.returns-clause-others
returns-clause-others g c l lone =
    removed_others c.args.t.0 c.args.pool.now c.unlink_listed.new.self (all_queues c.args.self.now.levels) c.in_ok-list.field-0 c.in_ok-list.ensures.item c.in_ok-list.ensures.there c.requires.ours
    c.in_ok-list.ensures.list l lone

pub returns-clause-lists : goal.returns-clause-lists
returns-clause-lists g c = c.in_ok-list.ensures.gone

pub returns-clause-count : goal.returns-clause-count
returns-clause-count g c = ap length c.in_ok-list.ensures.gone ∙ length-map c.args.pool.now.lists (without c.args.t.0)

pub returns-in_err-list-clause-lists : goal.returns-in_err-list-clause-lists
returns-in_err-list-clause-lists g c = c.in_err-list.ensures.gone

pub returns-in_err-list-clause-count : goal.returns-in_err-list-clause-count
returns-in_err-list-clause-count g c = ap length c.in_err-list.ensures.gone ∙ length-map c.args.pool.now.lists (without c.args.t.0)

pub returns-in_err-list-clause-kept : goal.returns-in_err-list-clause-kept
returns-in_err-list-clause-kept g c =
    let P : Lists g.row.T.Denot → Type 0 = λ pool. Kept c.args.self.now pool in
    subst P (sym c.in_err-list.ensures.none) c.requires.kept

pub returns-in_err-list-clause-others : goal.returns-in_err-list-clause-others
returns-in_err-list-clause-others g c l lone = ap (λ (pool : Lists g.row.T.Denot). list_of pool l) c.in_err-list.ensures.none
