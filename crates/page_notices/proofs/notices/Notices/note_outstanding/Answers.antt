use Rattle.std.proofs.Common.{◌≤◌, ◌∙◌, ap, sym, subst, length, arith}
use Rattle.page_parts.specs.Notices.{Notices, note_outstanding}
use Rattle.promise_core.specs.Held.{all_within}
use Rattle.promise_core.proofs.HeldLemmas.{all_within-last}
use Rattle.page_notices.specs.State.{state_of}
use Rattle.page_notices.proofs.Changing.{state-noted}
use Rattle.page_notices.proofs.notices.Notices.note_outstanding.Goals as goal

pub invariant_of-self-2 : goal.invariant_of-self-2
invariant_of-self-2 c =
    let s = c.self.inside in
    let most = length s.promises.promises in
    let within : c.args.p ≤ most = subst (λ (s : Notices). c.args.p ≤ length s.promises) (sym c.self.view_is) c.requires.within in
    let room = c.in_ok-note.ensures.room in
    let there = c.self.invariant.room in
    record {
      few = c.self.invariant.few;
      room = omega (arith, room, there);
      within = ap (all_within most) c.in_ok-note.ensures.ok ∙ all_within-last most s.noted.noted c.args.p c.self.invariant.within c.requires.counted within;
    }

pub returns-clause-ok : goal.returns-clause-ok
returns-clause-ok c =
    let s = c.self.inside in
    ap (state_of s.promises s.jobs s.jobs_made) c.in_ok-note.ensures.ok
    ∙ state-noted s.promises s.jobs s.jobs_made s.noted.noted c.args.p (sym c.handled.ensures ∙ c.if-handled.false) ∙ ap (note_outstanding c.args.p) c.self.view_is
