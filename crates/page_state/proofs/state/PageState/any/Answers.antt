use Rattle.std.proofs.Common.{◌≡◌, ◌∙◌, ℕ, length, add-one, ap, sym, subst, Result}
use Rattle.std.specs.Prelude.{IfOk}
use Rattle.page_model.proofs.Stepping.Dependents.{any-length}
use Rattle.page_signals.specs.Signalling.{Signalling}
use Rattle.trace_text.specs.declared.lines.NoLine.{NoLine}
use Rattle.page_state.proofs.state.PageState.any.Goals as goal
use Rattle.page_state.proofs.state.PageState.any.Goals.{in-Ok, in-Err}

pub returns-clause-number : goal.returns-clause-number
returns-clause-number g c =
    let ss = c.self.inside.signals.signals in
    let P : Result ℕ NoLine → Type 0 = λ r. IfOk r (λ s. s ≡ length c.any.new.self.signals) in
    elim c.match-any.branch [
      | in-Ok w ↦ subst P (sym w.result-is) (w.in-Ok.ensures.number ∙ add-one (length ss) ∙ sym (any-length c.args.of.now ss) ∙ sym (ap (λ (st : Signalling). length st.signals) w.in-Ok.ensures.made))
      | in-Err w ↦ subst P (sym w.result-is) tt
    ]
