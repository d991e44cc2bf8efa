use Rattle.std.proofs.Common.{ap, sym, refl, Some}
use Rattle.page_types.specs.Events.{Due}
use Rattle.page_types.specs.declared.Source.TheVariants.{Net, Idle}
use Rattle.page_model.specs.State.{AnswerHost, IdleTimeout, emit, queue_task}
use Rattle.page_model.specs.Parallel.{complete}
use Rattle.arrivals_text.specs.SeenParts.{arrival_of}
use Rattle.page_tasks.specs.Seen.{host_task}
use Rattle.parallel_items.specs.declared.taken.Taken.{Taken}
use Rattle.parallel_items.specs.Items.{TakenArrival}
use Rattle.parallel_items.specs.Laws.{done_with}
use Rattle.parallel_items.specs.Seen.{completion_seen, taken_seen}
use Rattle.page_state.specs.Standing.{page_of}
use Rattle.page_state.specs.PageActs.{at}
use Rattle.page_state.proofs.Acting.{Does-is}
use Rattle.page_state.proofs.Telling.{Does-quiet}
use Rattle.page_state.proofs.state.PageState.do_taken.Goals as goal

pub returns-in-Arrival : goal.returns-in-Arrival
returns-in-Arrival g c =
    let s = c.args.self.now in
    let queued = done_with (Some (TakenArrival (arrival_of c.in-Arrival.arrival))) in
    Does-is queued (done_with (Some (taken_seen c.args.taken))) (at s _) (ap (λ (x : Taken). done_with (Some (taken_seen x)) (page_of s)) (sym c.in-Arrival.is))
    (Does-quiet g.L.Lines.keeping queued s c.queue_arrival.new.self _ c.queue_arrival.result refl c.queue_arrival.ensures.queued c.queue_arrival.ensures.memory)

pub returns-in-HostAnswer : goal.returns-in-HostAnswer
returns-in-HostAnswer g c =
    let s = c.args.self.now in
    Does-is (λ p. queue_task Net (AnswerHost (host_task c.in-HostAnswer.task)) (emit (Due c.in-HostAnswer.task.registration) p)) (done_with (Some (taken_seen c.args.taken))) (at s _)
    (ap (λ (x : Taken). done_with (Some (taken_seen x)) (page_of s)) (sym c.in-HostAnswer.is)) c.queue_due.ensures

pub returns-in-Completion : goal.returns-in-Completion
returns-in-Completion g c =
    let s = c.args.self.now in
    Does-is (complete (completion_seen c.in-Completion.completion)) (done_with (Some (taken_seen c.args.taken))) (at s _)
    (ap (λ (x : Taken). done_with (Some (taken_seen x)) (page_of s)) (sym c.in-Completion.is)) c.complete.ensures

pub returns-in-IdleTimeout : goal.returns-in-IdleTimeout
returns-in-IdleTimeout g c =
    let s = c.args.self.now in
    Does-is (λ p. queue_task Idle (IdleTimeout c.in-IdleTimeout.handle) (emit (Due c.in-IdleTimeout.registration) p)) (done_with (Some (taken_seen c.args.taken))) (at s _)
    (ap (λ (x : Taken). done_with (Some (taken_seen x)) (page_of s)) (sym c.in-IdleTimeout.is)) c.queue_due-in-IdleTimeout.ensures
