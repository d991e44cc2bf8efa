use Rattle.page_model.specs.PageSignals.{abort_registrations, reason_value, run_algorithms}
use Rattle.std.proofs.Common.{◌≡◌, ℕ, List, ap, refl, ◌∙◌}
use Rattle.page_types.specs.Values.{Value}
use Rattle.page_values.specs.Seen.{seen}
use Rattle.page_model.proofs.Adding.Lines.{abort_registrations-adds}
use Rattle.page_state.specs.Standing.{page_of}
use Rattle.page_state.specs.AbortActs.{algorithms_taken}
use Rattle.page_state.proofs.Acting.{Does-next, Does-silent, Does-is}
use Rattle.page_state.proofs.Telling.{Does-wanted, wanted-still}
use Rattle.page_state.proofs.state.PageState.run_algorithms.Goals as goal

pub returns-in_err-reason : goal.returns-in_err-reason
returns-in_err-reason g c =
    Does-wanted g.L.Lines.keeping (run_algorithms c.args.s) c.args.self.now c.args.self.now _ _ c.from_residual.ensures.1 (wanted-still c.in_err-reason.ensures.memory)

pub returns : goal.returns
returns g c =
    let s = c.args.s in
    let p = page_of c.args.self.now in
    let reason = seen c.in_ok-reason.reason in
    let rs = c.take_algorithms-algorithms.result in
    let same : abort_registrations reason rs (algorithms_taken s p) ≡ run_algorithms s p =
    ap (λ (v : Value). abort_registrations v rs (algorithms_taken s p)) c.in_ok-reason.ensures.reason
    ∙ ap (λ (xs : List ℕ). abort_registrations (reason_value p s) xs (algorithms_taken s p)) c.take_algorithms-algorithms.ensures.all in
    Does-is (λ q. abort_registrations reason rs (algorithms_taken s q)) (run_algorithms s) _ same
    (Does-next (algorithms_taken s) (abort_registrations reason rs) (λ es q. abort_registrations-adds es reason rs q)
    (Does-silent g.L.Lines.keeping (algorithms_taken s) c.args.self.now _ refl c.take_algorithms-algorithms.ensures.taken) c.abort_registrations.ensures)
