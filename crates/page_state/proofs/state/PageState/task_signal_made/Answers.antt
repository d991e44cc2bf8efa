use Rattle.std.proofs.Common.{refl, sym, ◌∙◌}
use Rattle.page_parts.specs.AbortGraph as graph
use Rattle.page_model.specs.Operations.{with_signals, last_signal, task_signal_made}
use Rattle.page_model.specs.PageSignals.{give_priority}
use Rattle.page_state.proofs.Acting.{Does-last, Does-next, Does-silent}
use Rattle.page_state.proofs.Telling.{Does-wanted}
use Rattle.page_state.proofs.Handled.{Does-read}
use Rattle.page_state.proofs.Signalled.{same-signals}
use Rattle.page_state.proofs.state.PageState.task_signal_made.Goals as goal

pub returns-in_err-s-clause-does : goal.returns-in_err-s-clause-does
returns-in_err-s-clause-does g c =
    Does-wanted g.L.Lines.keeping (task_signal_made c.args.priority) c.args.self.now c.make_signal.new.self _ _ c.from_residual.ensures.1 c.in_err-s.ensures.memory

pub returns-in_err-give_priority-clause-does : goal.returns-in_err-give_priority-clause-does
returns-in_err-give_priority-clause-does g c =
    let F = with_signals graph.make in
    Does-last _ c.from_residual-in_err-give_priority.ensures.1
    (Does-next F (λ p. give_priority (last_signal p) c.args.priority p) (λ es p. refl)
    (Does-silent g.L.Lines.keeping F c.args.self.now _ refl c.in_ok-s.ensures.made)
    (Does-read (λ n p. give_priority n c.args.priority p) last_signal c.in_ok-s.s c.make_signal.new.self c.in_ok-s.ensures.number c.in_err-give_priority.ensures))

pub returns-clause-does : goal.returns-clause-does
returns-clause-does g c =
    let F = with_signals graph.make in
    Does-next F (λ p. give_priority (last_signal p) c.args.priority p) (λ es p. refl)
    (Does-silent g.L.Lines.keeping F c.args.self.now _ refl c.in_ok-s.ensures.made)
    (Does-read (λ n p. give_priority n c.args.priority p) last_signal c.in_ok-s.s c.make_signal.new.self c.in_ok-s.ensures.number c.in_ok-give_priority.ensures)

pub returns-clause-number : goal.returns-clause-number
returns-clause-number g c =
    c.in_ok-s.ensures.number ∙ sym (same-signals (give_priority c.in_ok-s.s c.args.priority) (λ p. refl) c.in_ok-give_priority.ensures)
