-- Each visit of the innermost fold: what was done with it, and then what is left.
use Rattle.std.proofs.Common.{◌≡◌, ℕ, List, map, refl, sym, ap, subst, ◌∙◌, ◌-◌, length, Option, Some, None, Result, Ok}
use Rattle.std.specs.Result.{IsErrAnd}
use Rattle.page_types.specs.Values.{Value}
use Rattle.page_types.specs.Events.{Prio}
use Rattle.page_types.specs.declared.Priority.{Priority}
use Rattle.lang_meaning.specs.HostSteps.{StepInvoke}
use Rattle.lang_ast.specs.declared.host.HostStep.{HostStep}
use Rattle.lang_ast.specs.declared.host.HostStep.TheVariants as code
use Rattle.lang_ast.specs.Steps.{seen_step}
use Rattle.page_values.specs.declared.Value.TheVariants as code_values
use Rattle.page_model.specs.State.{emit}
use Rattle.page_model.specs.Folds.{Reached}
use Rattle.page_model.specs.PageSignals.{abort_registration}
use Rattle.trace_text.specs.declared.lines.NoLine.{NoLine}
use Rattle.trace_text.specs.Given.{Keeping, Seen}
use Rattle.trace_text.specs.Acts.{At}
use Rattle.page_signals.specs.Steps.{Algorithm, Listener, Changed, Finished, stepped, reported_in}
use Rattle.page_signals.specs.Kept.{AreFitting}
use Rattle.page_signals.specs.Laws.{as_fold, innermost_meaning, CallsWith}
use Rattle.page_state.specs.Standing.{Standing, page_of, port_of}
use Rattle.page_state.specs.PageActs.{on_page, at, Does}
use Rattle.page_state.specs.FoldActs.{signalling_in, having, around, Reaches, rest_step, Called, called_by, listener_called}
use Rattle.page_state.proofs.FoldStepping.{step-folds}
use Rattle.page_state.proofs.Reaching.{Reaches-more, Reaches-stop, Reaches-end, Reaches-called, Reaches-uncalled, listener-ended, listener-call, visit-calls}
use Rattle.page_state.proofs.Stepped.{algorithm-is, changed-is, listener-is, finished-is}

-- what is left of the innermost fold
abbrev left_of : Standing → Reached
left_of s = innermost_meaning s.folds (page_of s)

module _ (s mid : Standing) (others : mid ≡ having (signalling_in mid) s) where
  same-port : port_of mid ≡ port_of s
  same-port = ap port_of others

module _ {T : Type 0} {k : Keeping T} (s mid : Standing) (before : AreFitting (signalling_in s)) (after : AreFitting (signalling_in mid)) (others : mid ≡ having (signalling_in mid) s) where
  -- an algorithm was run
  pub algorithm-more : (r : ℕ) (reason : Value) {old seen : Seen T} {last : Standing} {new : At Standing T} (e : Result HostStep NoLine)
      → (Algorithm r reason, signalling_in mid) ≡ stepped (signalling_in s)
      → Does k (at mid old) (on_page (abort_registration reason r)) None (at last seen) → Reaches k (at last seen) (rest_step last) e new
      → Reaches k (at s old) (rest_step s) e new
  algorithm-more r reason e is done h =
      Reaches-more (left_of s) (map as_fold (around s.folds)) (abort_registration reason r) s mid e (algorithm-is s mid before after others r reason is)
      (ap (map as_fold) (step-folds (Algorithm r reason) (signalling_in s) (signalling_in mid) is)) (same-port s mid others) done h

  -- it stopped among its lines
  pub algorithm-stop : (r : ℕ) (reason : Value) {old : Seen T} {new : At Standing T} (e : Result HostStep NoLine) {why : NoLine}
      → (Algorithm r reason, signalling_in mid) ≡ stepped (signalling_in s) → IsErrAnd e (λ x. x ≡ why)
      → Does k (at mid old) (on_page (abort_registration reason r)) (Some why) new → Reaches k (at s old) (rest_step s) e new
  algorithm-stop r reason e is err h =
      Reaches-stop (left_of s) (map as_fold (around s.folds)) (abort_registration reason r) s mid e (algorithm-is s mid before after others r reason is) err (same-port s mid others) h

  -- a priority was told
  pub changed-more : (n : ℕ) (own priority : Priority) {old seen : Seen T} {last : Standing} {new : At Standing T} (e : Result HostStep NoLine)
      → (Changed n own priority, signalling_in mid) ≡ stepped (signalling_in s)
      → Does k (at mid old) (on_page (emit (Prio n priority))) None (at last seen) → Reaches k (at last seen) (rest_step last) e new
      → Reaches k (at s old) (rest_step s) e new
  changed-more n own priority e is done h =
      Reaches-more (left_of s) (map as_fold (around s.folds)) (emit (Prio n priority)) s mid e (changed-is s mid before after others n own priority is)
      (ap (map as_fold) (step-folds (Changed n own priority) (signalling_in s) (signalling_in mid) is)) (same-port s mid others) done h

  -- its line was not taken
  pub changed-stop : (n : ℕ) (own priority : Priority) {old : Seen T} {new : At Standing T} (e : Result HostStep NoLine) {why : NoLine}
      → (Changed n own priority, signalling_in mid) ≡ stepped (signalling_in s) → IsErrAnd e (λ x. x ≡ why)
      → Does k (at mid old) (on_page (emit (Prio n priority))) (Some why) new → Reaches k (at s old) (rest_step s) e new
  changed-stop n own priority e is err h =
      Reaches-stop (left_of s) (map as_fold (around s.folds)) (emit (Prio n priority)) s mid e (changed-is s mid before after others n own priority is) err (same-port s mid others) h

  -- a listener with no callback
  pub ended-more : (r : ℕ) (args : List Value) {old seen : Seen T} {last : Standing} {new : At Standing T} (e : Result HostStep NoLine)
      → (Listener r args, signalling_in mid) ≡ stepped (signalling_in s) → None ≡ called_by (page_of mid) r
      → Does k (at mid old) (on_page (listener_called r)) None (at last seen) → Reaches k (at last seen) (rest_step last) e new
      → Reaches k (at s old) (rest_step s) e new
  ended-more r args e is none done h =
      Reaches-more (left_of s) (map as_fold (around s.folds)) (listener_called r) s mid e
      (listener-is s mid before after others r args is ∙ listener-ended mid.folds r args (page_of mid) (visit-calls s r args (signalling_in mid) is) none)
      (ap (map as_fold) (step-folds (Listener r args) (signalling_in s) (signalling_in mid) is)) (same-port s mid others) done h

  -- one whose lines were not taken
  pub listener-stop : (r : ℕ) (args : List Value) {old : Seen T} {new : At Standing T} (e : Result HostStep NoLine) {why : NoLine}
      → (Listener r args, signalling_in mid) ≡ stepped (signalling_in s) → IsErrAnd e (λ x. x ≡ why)
      → Does k (at mid old) (on_page (listener_called r)) (Some why) new → Reaches k (at s old) (rest_step s) e new
  listener-stop r args {old = old} {new = new} e {why = why} is err h = by (called_by (page_of mid) r) refl
    where
      calls : CallsWith args mid.folds
      calls = visit-calls s r args (signalling_in mid) is

      by : (o : Option Called) → o ≡ called_by (page_of mid) r → Reaches k (at s old) (rest_step s) e new
      by None none =
          Reaches-stop (left_of s) (map as_fold (around s.folds)) (listener_called r) s mid e
          (listener-is s mid before after others r args is ∙ listener-ended mid.folds r args (page_of mid) calls none) err (same-port s mid others) h
      by (Some c) some =
          Reaches-uncalled s mid r args c (listener-call mid.folds r args (page_of mid) c calls some) (listener-is s mid before after others r args is) e err (same-port s mid others) h

  -- one that has a callback
  pub called-last : (r : ℕ) (args : List Value) (c : Called) {old seen : Seen T} {last end : Standing} (next : HostStep)
      → (Listener r args, signalling_in mid) ≡ stepped (signalling_in s) → Some c ≡ called_by (page_of mid) r
      → Does k (at mid old) (on_page (listener_called r)) None (at last seen) → seen_step next ≡ StepInvoke c.callback args (length last.folds - 1)
      → end ≡ record last { folds = reported_in c.when last.folds } → Reaches k (at s old) (rest_step s) (Ok next) (at end seen)
  called-last r args c {old = old} {seen = seen} next is some done answer ends =
      let calls = visit-calls s r args (signalling_in mid) is in
      let P : Standing → Type 0 = λ t. Reaches k (at s old) (rest_step s) (Ok next) (at t seen) in
      subst P (sym ends)
      (Reaches-called s mid r args c (listener-call mid.folds r args (page_of mid) c calls some) (listener-is s mid before after others r args is) next
      (step-folds (Listener r args) (signalling_in s) (signalling_in mid) is) (same-port s mid others) done answer)

  -- the end
  pub finished-end : (seen : Seen T) → (Finished, signalling_in mid) ≡ stepped (signalling_in s)
      → Reaches k (at s seen) (rest_step s) (Ok (code.Value code_values.Unit)) (at mid seen)
  finished-end seen is =
      Reaches-end (left_of s) (map as_fold (around s.folds)) s mid seen (finished-is s mid before after others is)
      (ap (map as_fold) (step-folds Finished (signalling_in s) (signalling_in mid) is)) (same-port s mid others)
