use Rattle.std.proofs.Common.{◌≢◌, ℕ, ◌<◌, true, false, List, length, sym, ◌∙◌, ap, subst}
use Rattle.post_task.specs.declared.level.Level.{Level}
use Rattle.post_task.specs.Levels.{Sched, HasList, AreKept, all_queues}
use Rattle.post_task.specs.Heads.{firsts}
use Rattle.post_task.proofs.Calls.{level_within, again_set, again_none}
use Rattle.post_task.proofs.sched.SchedQueues.read_again.Goals as goal

pub read_first-requires-clause-plain : goal.read_first-requires-clause-plain
read_first-requires-clause-plain g c =
    let items = c.self.inside.levels.items in
    let K : List Level → Type 0 = λ ls. AreKept c.args.pool.now (all_queues ls) in
    let within = subst (λ (ls : List Level). c.in-Some.place < length ls) c.deref.ensures.value c.in-Some.ensures.within in
    level_within c.args.pool.now items c.in-Some.place c.index.result.now false (subst K (sym (ap (λ (s : Sched). s.levels) c.self.view_is)) c.requires) within c.index.ensures

pub read_first-requires-clause-continuations : goal.read_first-requires-clause-continuations
read_first-requires-clause-continuations g c =
    let items = c.self.inside.levels.items in
    let K : List Level → Type 0 = λ ls. AreKept c.args.pool.now (all_queues ls) in
    let within = subst (λ (ls : List Level). c.in-Some.place < length ls) c.deref.ensures.value c.in-Some.ensures.within in
    level_within c.args.pool.now items c.in-Some.place c.index.result.now true (subst K (sym (ap (λ (s : Sched). s.levels) c.self.view_is)) c.requires) within c.index.ensures

pub returns-in-Some-clause-heads : goal.returns-in-Some-clause-heads
returns-in-Some-clause-heads g c before heads same =
    let items = c.self.inside.levels.items in
    let e = ap (λ (s : Sched). s.levels) c.self.view_is in
    let h = ap (λ (s : Sched). s.heads) c.self.view_is in
    let place = c.in-Some.place in
    let list = c.args.list.0 in
    let within = subst (λ (ls : List Level). place < length ls) c.deref.ensures.value c.in-Some.ensures.within in
    let others = subst (λ (ls : List Level). (other : ℕ) → other ≢ place → HasList list other ls → ⊥) c.deref.ensures.value c.in-Some.ensures.others in
    again_set before c.args.pool.now items list place c.index.result.now c.self.inside.heads c.set.new.self c.read_first.result
    (h ∙ heads ∙ sym (ap (λ (ls : List Level). firsts ls before) e)) same within c.index.ensures others c.set.ensures c.read_first.ensures

pub returns-in_default-clause-heads : goal.returns-in_default-clause-heads
returns-in_default-clause-heads g c before heads same =
    let e = ap (λ (s : Sched). s.levels) c.self.view_is in
    let list = c.args.list.0 in
    let none = subst (λ (ls : List Level). (other : ℕ) → HasList list other ls → ⊥) (c.deref.ensures.value ∙ e) c.in_default.ensures.none in
    again_none before c.args.pool.now c.args.self.now.levels list c.args.self.now.heads heads same none
