use Rattle.std.proofs.Common.{ap, sym, refl, ◌∙◌}
use Rattle.std.specs.Option.{option_map}
use Rattle.page_types.specs.Events.{Ret}
use Rattle.page_model.specs.Invoke.{call_begun, call_ended}
use Rattle.page_state.specs.Standing.{page_of}
use Rattle.page_state.specs.CodeFolds.{called_seen}
use Rattle.page_state.specs.FoldActs.{listener_called}
use Rattle.page_state.proofs.Acting.{Does-last, Does-next, Does-leave, Does-is}
use Rattle.page_state.proofs.Telling.{Does-wanted, wanted-still}
use Rattle.page_state.proofs.Listened.{called-none, called-some}
use Rattle.page_state.proofs.state.PageState.listener_begun.Goals as goal

pub returns-in_err-calling-clause-does : goal.returns-in_err-calling-clause-does
returns-in_err-calling-clause-does g c =
    Does-wanted g.L.Lines.keeping (listener_called c.args.r) c.args.self.now c.args.self.now _ _ c.from_residual.ensures.1 (wanted-still c.in_err-calling.ensures.memory)

pub returns-in_err-call_begun-clause-does : goal.returns-in_err-call_begun-clause-does
returns-in_err-call_begun-clause-does g c =
    let r = c.args.r in
    Does-is (λ p. call_ended Ret (call_begun r p)) (listener_called r) _
    (called-none (page_of c.args.self.now) r (ap (option_map called_seen) (sym c.in_default.is) ∙ c.in_ok-calling.ensures.called))
    (Does-leave (call_begun r) (call_ended Ret) _ (λ es p. refl) c.from_residual-in_err-call_begun.ensures.1 c.in_err-call_begun.ensures)

pub returns-in_err-returned-clause-does : goal.returns-in_err-returned-clause-does
returns-in_err-returned-clause-does g c =
    let r = c.args.r in
    Does-is (λ p. call_ended Ret (call_begun r p)) (listener_called r) _
    (called-none (page_of c.args.self.now) r (ap (option_map called_seen) (sym c.in_default.is) ∙ c.in_ok-calling.ensures.called))
    (Does-last _ c.from_residual-in_err-returned.ensures.1
    (Does-next (call_begun r) (call_ended Ret) (λ es p. refl) c.in_ok-call_begun.ensures c.in_err-returned.ensures))

pub returns-in_default-clause-does : goal.returns-in_default-clause-does
returns-in_default-clause-does g c =
    let r = c.args.r in
    Does-is (λ p. call_ended Ret (call_begun r p)) (listener_called r) _
    (called-none (page_of c.args.self.now) r (ap (option_map called_seen) (sym c.in_default.is) ∙ c.in_ok-calling.ensures.called))
    (Does-next (call_begun r) (call_ended Ret) (λ es p. refl) c.in_ok-call_begun.ensures c.in_ok-returned.ensures)

pub returns-in_err-call_begun-2-clause-does : goal.returns-in_err-call_begun-2-clause-does
returns-in_err-call_begun-2-clause-does g c =
    let r = c.args.r in
    Does-is (call_begun r) (listener_called r) _
    (called-some (page_of c.args.self.now) r (called_seen c.in-Some.calling) (ap (option_map called_seen) (sym c.in-Some.is) ∙ c.in_ok-calling.ensures.called))
    (Does-last _ c.from_residual-in_err-call_begun-2.ensures.1 c.in_err-call_begun-2.ensures)

pub returns-clause-does : goal.returns-clause-does
returns-clause-does g c =
    let r = c.args.r in
    Does-is (call_begun r) (listener_called r) _
    (called-some (page_of c.args.self.now) r (called_seen c.in-Some.calling) (ap (option_map called_seen) (sym c.in-Some.is) ∙ c.in_ok-calling.ensures.called))
    c.in_ok-call_begun-2.ensures
