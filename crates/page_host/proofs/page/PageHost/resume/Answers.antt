use Rattle.std.proofs.Common.{refl, ◌∙◌, false}
use Rattle.lang_ast.specs.Hosts.{ask_end}
use Rattle.lang_ast.specs.Steps.{seen_outcome}
use Rattle.page_operations.proofs.Plain.{same-functions}
use Rattle.page_host.proofs.Hosting.{rule, resume-tickets, resume-bounded, resume-few, resume-falls, room-left, room-resumed, room-after, stop-leaves, stopped-leaves}
use Rattle.page_host.proofs.Staying.{whole-again, whole-stopped, since-went}
use Rattle.page_host.proofs.page.PageHost.resume.Goals as goal

pub invariant_of-self : goal.invariant_of-self
invariant_of-self g c = whole-again _ c.in-Some.why _ _ c.self.invariant c.in-Some.is c.stopped_by.ensures.kept c.stopped_by.ensures.counted

pub returns-in-Some-clause-room : goal.returns-in-Some-clause-room
returns-in-Some-clause-room g c =
    rw (← c.self.view_is) (rw c.stopped_by.ensures.kept (room-after false c.self.inside.state c.self.inside.stopped))

pub returns-in-Some-clause-leaves : goal.returns-in-Some-clause-leaves
returns-in-Some-clause-leaves g c =
    rw (← c.self.view_is)
    (rw c.stopped_by.ensures.kept
    (stopped-leaves g.L.Lines.keeping _ (ask_end c.args.ticket c.args.outcome) c.self.inside.state (g.L.Lines.seen c.self.inside.lines).told c.self.inside.stopped c.in-Some.why c.in-Some.is))

pub invariant_of-self-in-Ok : goal.invariant_of-self-in-Ok
invariant_of-self-in-Ok g c = record {
  bounded = λ e. resume-bounded g.L.Lines.keeping c.args.ticket (seen_outcome c.args.outcome) c.self.inside.state c.go_on.new.page c.in-Ok.step c.in-Ok.ensures.asked (c.self.invariant.bounded e);
  functions = λ e. same-functions g.L.Lines.keeping (ask_end c.args.ticket c.args.outcome) c.self.inside.state c.go_on.new.page c.in-Ok.step c.in-Ok.ensures.asked ∙ c.self.invariant.functions e;
  fuel = c.self.invariant.fuel;
  stops = c.self.invariant.stops;
  since = since-went c.self.inside.stopped c.in_default.is c.self.invariant.since c.in-Ok.ensures.asked.lines;
}

pub returns-in-Ok-clause-rule : goal.returns-in-Ok-clause-rule
returns-in-Ok-clause-rule g c =
    rw (← c.self.view_is)
    (rule g.L.Lines.keeping c.self.inside.state c.go_on.new.page (g.L.Lines.seen c.self.inside.lines) (g.L.Lines.seen c.go_on.new.lines) c.self.inside.stopped c.in-Ok.step _ (ask_end c.args.ticket c.args.outcome) c.in-Ok.ensures.asked)

pub returns-in-Ok-clause-open_tickets : goal.returns-in-Ok-clause-open_tickets
returns-in-Ok-clause-open_tickets g c =
    rw (← c.self.view_is) (λ rest e. resume-tickets g.L.Lines.keeping c.args.ticket (seen_outcome c.args.outcome) c.self.inside.state c.go_on.new.page c.in-Ok.step c.in-Ok.ensures.asked rest e)

pub returns-in-Ok-clause-few : goal.returns-in-Ok-clause-few
returns-in-Ok-clause-few g c =
    resume-few g.L.Lines.keeping c.args.ticket (seen_outcome c.args.outcome) c.self.inside.state c.go_on.new.page c.in-Ok.step c.in-Ok.ensures.asked (c.self.invariant.bounded c.in_default.is)

pub returns-in-Ok-clause-room : goal.returns-in-Ok-clause-room
returns-in-Ok-clause-room g c =
    rw (← c.self.view_is)
    (room-resumed c.self.inside.state c.go_on.new.page c.self.inside.stopped c.in_default.is
    (room-left g.L.Lines.keeping (ask_end c.args.ticket c.args.outcome) c.self.inside.state c.go_on.new.page c.in-Ok.step c.in-Ok.ensures.asked false refl))

pub returns-in-Ok-clause-falls : goal.returns-in-Ok-clause-falls
returns-in-Ok-clause-falls g c =
    rw (← c.self.view_is)
    (resume-falls g.L.Lines.keeping c.args.ticket (seen_outcome c.args.outcome) c.self.inside.state c.go_on.new.page c.in-Ok.step c.in-Ok.ensures.asked
    (c.self.invariant.bounded c.in_default.is))

pub invariant_of-self-in-Err : goal.invariant_of-self-in-Err
invariant_of-self-in-Err g c = whole-stopped _ _ _ c.in-Err.why _ _ c.self.invariant c.in_default.is c.in-Err.ensures.asked.lines c.stopped_by-in-Err.ensures.kept c.stopped_by-in-Err.ensures.counted

pub returns-in-Err-clause-room : goal.returns-in-Err-clause-room
returns-in-Err-clause-room g c =
    rw (← c.self.view_is) (rw c.stopped_by-in-Err.ensures.kept (room-after false c.self.inside.state c.self.inside.stopped))

pub returns-in-Err-clause-leaves : goal.returns-in-Err-clause-leaves
returns-in-Err-clause-leaves g c =
    rw (← c.self.view_is)
    (rw c.stopped_by-in-Err.ensures.kept
    (stop-leaves g.L.Lines.keeping _ (ask_end c.args.ticket c.args.outcome) c.self.inside.state c.go_on.new.page (g.L.Lines.seen c.self.inside.lines) (g.L.Lines.seen c.go_on.new.lines) c.self.inside.stopped c.in-Err.why c.in-Err.ensures.asked))
