use Rattle.std.proofs.Common.{◌≡◌, List, ℕ, map, ap, refl, ◌∙◌}
use Rattle.page_types.specs.Events.{Abort}
use Rattle.page_values.specs.Seen.{seen}
use Rattle.page_model.specs.State.{emit_each}
use Rattle.page_model.proofs.Adding.Lines.{emit_each-adds}
use Rattle.page_state.specs.Standing.{page_of}
use Rattle.page_state.specs.AbortActs.{reason_marked, reason_silent}
use Rattle.page_state.proofs.Acting.{Does-last, Does-next, Does-silent, Does-is}
use Rattle.page_state.proofs.Telling.{Does-wanted}
use Rattle.page_state.proofs.state.PageState.reason_set.Goals as goal

pub returns-in_err-signals-clause-does : goal.returns-in_err-signals-clause-does
returns-in_err-signals-clause-does g c =
    Does-wanted g.L.Lines.keeping (reason_marked c.args.s (seen c.args.reason)) c.args.self.now c.set_reason.new.self _ _ c.from_residual.ensures.1 c.in_err-signals.ensures.memory

pub returns-in_err-emit_aborts-clause-does : goal.returns-in_err-emit_aborts-clause-does
returns-in_err-emit_aborts-clause-does g c =
    let s = c.args.s in
    let reason = seen c.args.reason in
    let p = page_of c.args.self.now in
    let lines = map Abort c.deref.result.now in
    let same : emit_each lines (reason_silent s reason p) ≡ reason_marked s reason p =
    ap (λ (ss : List ℕ). emit_each (map Abort ss) (reason_silent s reason p)) (c.deref.ensures.value ∙ c.in_ok-signals.ensures.signals) in
    Does-is (λ q. emit_each lines (reason_silent s reason q)) (reason_marked s reason) _ same
    (Does-last _ c.from_residual-in_err-emit_aborts.ensures.1
    (Does-next (reason_silent s reason) (emit_each lines) (λ es q. emit_each-adds es lines q)
    (Does-silent g.L.Lines.keeping (reason_silent s reason) c.args.self.now _ refl c.in_ok-signals.ensures.set) c.in_err-emit_aborts.ensures))

pub returns-clause-does : goal.returns-clause-does
returns-clause-does g c =
    let s = c.args.s in
    let reason = seen c.args.reason in
    let p = page_of c.args.self.now in
    let lines = map Abort c.deref.result.now in
    let same : emit_each lines (reason_silent s reason p) ≡ reason_marked s reason p =
    ap (λ (ss : List ℕ). emit_each (map Abort ss) (reason_silent s reason p)) (c.deref.ensures.value ∙ c.in_ok-signals.ensures.signals) in
    Does-is (λ q. emit_each lines (reason_silent s reason q)) (reason_marked s reason) _ same
    (Does-next (reason_silent s reason) (emit_each lines) (λ es q. emit_each-adds es lines q)
    (Does-silent g.L.Lines.keeping (reason_silent s reason) c.args.self.now _ refl c.in_ok-signals.ensures.set) c.in_ok-emit_aborts.ensures)
