use Rattle.std.proofs.Common.{refl, sym, ap, ◌∙◌}
use Rattle.page_parts.specs.AbortGraph as graph
use Rattle.page_model.specs.Operations.{with_signals, last_signal, any_made}
use Rattle.page_model.specs.PageSignals.{give_priority}
use Rattle.page_state.specs.Standing.{page_of}
use Rattle.page_state.specs.PageActs.{read_by}
use Rattle.page_state.specs.SignalActs.{depending}
use Rattle.page_state.proofs.Acting.{Does-next, Does-leave, Does-silent, Does-is}
use Rattle.page_state.proofs.Telling.{Does-wanted}
use Rattle.page_state.proofs.Handled.{Does-read}
use Rattle.page_state.proofs.Signalled.{depending-adds, prioritised-adds, depending-quiet, any_made-is, same-signals, depending-signals}
use Rattle.page_state.proofs.state.PageState.any_made.Goals as goal

pub returns-in_err-s-clause-does : goal.returns-in_err-s-clause-does
returns-in_err-s-clause-does g c =
    Does-wanted g.L.Lines.keeping (any_made c.args.of.now c.args.priority c.args.follows) c.args.self.now c.any.new.self _ _ c.from_residual.ensures.1 c.in_err-s.ensures.memory

pub returns-in_err-give_priority-clause-does : goal.returns-in_err-give_priority-clause-does
returns-in_err-give_priority-clause-does g c =
    let of = c.args.of.now in
    let priority = c.args.priority in
    let follows = c.args.follows in
    let F = with_signals (graph.any of) in
    let s = c.args.self.now in
    Does-is (λ p. depending (last_signal (F p)) follows (give_priority (last_signal (F p)) priority (F p))) (any_made of priority follows) _ (any_made-is of priority follows (page_of s))
    (Does-next F (λ p. depending (last_signal p) follows (give_priority (last_signal p) priority p)) (prioritised-adds priority follows)
    (Does-silent g.L.Lines.keeping F s _ refl c.in_ok-s.ensures.made)
    (Does-read (λ n p. depending n follows (give_priority n priority p)) last_signal c.in_ok-s.s c.any.new.self c.in_ok-s.ensures.number
    (Does-leave (give_priority c.in_ok-s.s priority) (depending c.in_ok-s.s follows) _ (depending-adds c.in_ok-s.s follows) c.from_residual-in_err-give_priority.ensures.1 c.in_err-give_priority.ensures)))

pub returns-in_err-depend-clause-does : goal.returns-in_err-depend-clause-does
returns-in_err-depend-clause-does g c =
    let of = c.args.of.now in
    let priority = c.args.priority in
    let follows = c.args.follows in
    let F = with_signals (graph.any of) in
    let s = c.args.self.now in
    Does-is (λ p. depending (last_signal (F p)) follows (give_priority (last_signal (F p)) priority (F p))) (any_made of priority follows) _ (any_made-is of priority follows (page_of s))
    (Does-next F (λ p. depending (last_signal p) follows (give_priority (last_signal p) priority p)) (prioritised-adds priority follows)
    (Does-silent g.L.Lines.keeping F s _ refl c.in_ok-s.ensures.made)
    (Does-read (λ n p. depending n follows (give_priority n priority p)) last_signal c.in_ok-s.s c.any.new.self c.in_ok-s.ensures.number
    (Does-next (give_priority c.in_ok-s.s priority) (depending c.in_ok-s.s follows) (depending-adds c.in_ok-s.s follows) c.in_ok-give_priority.ensures
    (Does-wanted g.L.Lines.keeping (depending c.in_ok-s.s follows) c.give_priority.new.self c.depend.new.self _ _ c.from_residual-in_err-depend.ensures.1 c.in_err-depend.ensures.memory))))

pub returns-clause-does : goal.returns-clause-does
returns-clause-does g c =
    let of = c.args.of.now in
    let priority = c.args.priority in
    let follows = c.args.follows in
    let F = with_signals (graph.any of) in
    let s = c.args.self.now in
    Does-is (λ p. depending (last_signal (F p)) follows (give_priority (last_signal (F p)) priority (F p))) (any_made of priority follows) _ (any_made-is of priority follows (page_of s))
    (Does-next F (λ p. depending (last_signal p) follows (give_priority (last_signal p) priority p)) (prioritised-adds priority follows)
    (Does-silent g.L.Lines.keeping F s _ refl c.in_ok-s.ensures.made)
    (Does-read (λ n p. depending n follows (give_priority n priority p)) last_signal c.in_ok-s.s c.any.new.self c.in_ok-s.ensures.number
    (Does-next (give_priority c.in_ok-s.s priority) (depending c.in_ok-s.s follows) (depending-adds c.in_ok-s.s follows) c.in_ok-give_priority.ensures
    (Does-silent g.L.Lines.keeping (depending c.in_ok-s.s follows) c.give_priority.new.self _ (depending-quiet c.in_ok-s.s follows c.give_priority.new.self) c.in_ok-depend.ensures.follows))))

pub returns-clause-number : goal.returns-clause-number
returns-clause-number g c =
    c.in_ok-s.ensures.number
    ∙ sym (same-signals (give_priority c.in_ok-s.s c.args.priority) (λ p. refl) c.in_ok-give_priority.ensures)
    ∙ sym (depending-signals c.in_ok-s.s c.args.follows c.give_priority.new.self)
    ∙ sym (ap (read_by last_signal) c.in_ok-depend.ensures.follows)
