use Rattle.std.proofs.Common.{ap, sym}
use Rattle.page_types.specs.Events.{Due}
use Rattle.page_types.specs.declared.Source.TheVariants.{Timer}
use Rattle.page_model.specs.State.{RunTimer, TimeOutSignal, emit, queue_task}
use Rattle.page_model.specs.Parallel.{complete}
use Rattle.page_tasks.specs.Seen.{timer_task, prio_source}
use Rattle.parallel_items.specs.declared.completion.Completion.{Completion}
use Rattle.parallel_items.specs.Seen.{completion_seen}
use Rattle.page_state.specs.Standing.{page_of}
use Rattle.page_state.specs.PageActs.{at}
use Rattle.page_state.specs.ItemActs.{post_completed}
use Rattle.page_state.proofs.Acting.{Does-is}
use Rattle.page_state.proofs.state.PageState.complete.Goals as goal

pub returns-in-QueueTimer : goal.returns-in-QueueTimer
returns-in-QueueTimer g c =
    Does-is (λ p. queue_task Timer (RunTimer (timer_task c.in-QueueTimer.task)) (emit (Due c.in-QueueTimer.task.registration) p)) (complete (completion_seen c.args.completion)) (at c.args.self.now _)
    (ap (λ (x : Completion). complete (completion_seen x) (page_of c.args.self.now)) (sym c.in-QueueTimer.is)) c.queue_due.ensures

pub returns-in-EnqueuePost : goal.returns-in-EnqueuePost
returns-in-EnqueuePost g c =
    Does-is (post_completed c.in-EnqueuePost.registration (prio_source c.in-EnqueuePost.source)) (complete (completion_seen c.args.completion)) (at c.args.self.now _)
    (ap (λ (x : Completion). complete (completion_seen x) (page_of c.args.self.now)) (sym c.in-EnqueuePost.is)) c.complete_post.ensures

pub returns-in-QueueSignal : goal.returns-in-QueueSignal
returns-in-QueueSignal g c =
    Does-is (λ p. queue_task Timer (TimeOutSignal c.in-QueueSignal.signal) (emit (Due c.in-QueueSignal.registration) p)) (complete (completion_seen c.args.completion)) (at c.args.self.now _)
    (ap (λ (x : Completion). complete (completion_seen x) (page_of c.args.self.now)) (sym c.in-QueueSignal.is)) c.queue_due-in-QueueSignal.ensures
