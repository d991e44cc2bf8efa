use Rattle.std.proofs.Common.{refl, sym}
use Rattle.page_parts.specs.Notices.{Notices, Noticed, queue_jobs}
use Rattle.page_parts.specs.Promises.{the_promise}
use Rattle.promise_core.specs.Seen.{jobs_seen}
use Rattle.page_notices.specs.Seen.{current}
use Rattle.page_notices.specs.Steps.{on}
use Rattle.page_notices.specs.Changes.{settled_line}
use Rattle.page_notices.proofs.Timing.{Does-followed, Does-followed_stop, Does-leaves}
use Rattle.page_notices.proofs.notices.Notices.tell.Goals as goal

pub returns-in_err-tell_settled : goal.returns-in_err-tell_settled
returns-in_err-tell_settled g c =
    let p = c.args.p in
    let a : Notices → Noticed = λ s. record { notices = s; lines = settled_line c.args.names.now p c.args.change.settled (the_promise s.promises p).outcome } in
    Does-leaves _ c.from_residual.ensures.1
    (Does-followed_stop c.args.now.at.0 a (queue_jobs (current c.args.now.level c.args.now.state) (jobs_seen c.args.change.jobs.items)) {new = on c.args.self.now (g.L.Lines.seen c.tell_settled.new.lines)}
    (record { lines = c.in_err-tell_settled.ensures; state = λ w. absurd (cc) }))

pub returns : goal.returns
returns g c =
    let p = c.args.p in
    let a : Notices → Noticed = λ s. record { notices = s; lines = settled_line c.args.names.now p c.args.change.settled (the_promise s.promises p).outcome } in
    Does-followed c.args.now.at.0 a (queue_jobs (current c.args.now.level c.args.now.state) (jobs_seen c.args.change.jobs.items)) {s = c.args.self.now} {mid = c.args.self.now} {seen = g.L.Lines.seen c.tell_settled.new.lines}
    {new = on c.queue_all.new.self (g.L.Lines.seen c.queue_all.new.lines)}
    (record { lines = c.in_ok-tell_settled.ensures; state = λ _. refl }) (rw (sym c.deref.ensures.value) c.queue_all.ensures)
