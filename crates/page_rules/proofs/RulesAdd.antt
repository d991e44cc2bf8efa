-- The page as a host only adds lines.
use Rattle.std.proofs.Common.{◌≡◌, ℕ, Bool, true, false, cond, List, [], ◌∷◌, Option, Some, None, refl, ap, ◌∙◌, length}
use Rattle.page_types.specs.Values.{Value}
use Rattle.page_types.specs.Events.{Stamped}
use Rattle.page_types.specs.declared.Op.{Op}
use Rattle.page_types.specs.declared.Op.TheVariants.{AbortOp, SetPriority}
use Rattle.page_types.specs.declared.Priority.{Priority}
use Rattle.page_types.specs.declared.FaultName.TheVariants.{TypeError, NotAllowedError}
use Rattle.page_parts.specs.Words.{is_there}
use Rattle.page_parts.specs.Kinds.{controller_in}
use Rattle.page_parts.specs.TaskSignals.{priority_of, is_changing}
use Rattle.lang_meaning.specs.Machine.{Done, Gives, Throws, Returns, OutOfFuel, done_hosted}
use Rattle.lang_meaning.specs.PureOperations.{argument}
use Rattle.lang_meaning.specs.HostSteps.{CallbackEnd, Stepped, Ask, AskOp, AskResume, on_ask}
use Rattle.page_model.specs.State.{Page}
use Rattle.page_model.specs.Operations.{priority_in, reason_given, operation, may_operate}
use Rattle.page_model.specs.Folds.{Fold, Reached, Finished, Calls, go_on, callback_ended, begin_abort, begin_change}
use Rattle.page_model.specs.Invoke.{in_script}
use Rattle.page_model.specs.Additions.{after}
use Rattle.page_model.specs.PageHost.{Hosting, reached_step, resume_innermost, step_fault, step_given, step_abort, step_change_by, step_change, bare, no_calls, done_step, step_op, step_known, page_rules}
use Rattle.page_model.proofs.Adding.Runs.{in_script-adds}
use Rattle.page_model.proofs.Adding.Operations.{operation-adds}
use Rattle.page_rules.specs.FoldActs.{reached_after}
use Rattle.page_rules.specs.Lined.{hosting_after, stepped_by}
use Rattle.page_rules.proofs.AddingFolds.{go_on-adds, callback_ended-adds, begin_abort-adds, begin_change-adds}

module _ (es : List Stamped) where
  abbrev StepAdds : (Page → Stepped Hosting) → Type 0
  StepAdds f = (p : Page) → f (after es p) ≡ stepped_by (hosting_after es) (f p)

  reached-adds : (folds : List Fold) (r : Reached) → reached_step folds (reached_after es r) ≡ stepped_by (hosting_after es) (reached_step folds r)
  reached-adds folds (Finished p) = refl
  reached-adds folds (Calls f fold p) = refl

  done-adds : (folds : List Fold) (d : Done Page) → done_step folds (done_hosted (after es) d) ≡ stepped_by (hosting_after es) (done_step folds d)
  done-adds folds (Gives v m) = refl
  done-adds folds (Throws v m) = refl
  done-adds folds (Returns v m) = refl
  done-adds folds (OutOfFuel m) = refl

  given-adds : {X : Type 0} (folds : List Fold) (o : Option X) (next : Page → X → Stepped Hosting) → ((x : X) → StepAdds (λ p. next p x)) → StepAdds (λ p. step_given folds o p (next p))
  given-adds folds None next h p = refl
  given-adds folds (Some x) next h p = h x p

  choice-adds : (b : Bool) (f g : Page → Stepped Hosting) (p : Page) → f (after es p) ≡ stepped_by (hosting_after es) (f p) → g (after es p) ≡ stepped_by (hosting_after es) (g p)
      → cond b (f (after es p)) (g (after es p)) ≡ stepped_by (hosting_after es) (cond b (f p) (g p))
  choice-adds true f g p one other = one
  choice-adds false f g p one other = other

  abort-adds : (folds : List Fold) (c reason : Value) → StepAdds (step_abort folds c reason)
  abort-adds folds c reason =
      given-adds folds (controller_in c) (λ p s. reached_step folds (begin_abort s (reason_given reason) p))
      (λ s p. ap (reached_step folds) (begin_abort-adds es s (reason_given reason) p) ∙ reached-adds folds (begin_abort s (reason_given reason) p))

  change_by-adds : (folds : List Fold) (s : ℕ) (priority : Priority) → StepAdds (step_change_by folds s priority)
  change_by-adds folds s priority p =
      let begun : Page → Stepped Hosting = λ q. reached_step folds (begin_change priority (length q.prios) s q) in
      let allowed : Page → Stepped Hosting = λ q. cond (is_changing q.prios s) (step_fault folds NotAllowedError q) (begun q) in
      choice-adds (is_there (priority_of p.prios s)) allowed (step_fault folds TypeError) p
      (choice-adds (is_changing p.prios s) (step_fault folds NotAllowedError) begun p refl
      (ap (reached_step folds) (begin_change-adds es priority (length p.prios) s p) ∙ reached-adds folds (begin_change priority (length p.prios) s p)))
      refl

  change-adds : (folds : List Fold) (c v : Value) → StepAdds (step_change folds c v)
  change-adds folds c v =
      given-adds folds (controller_in c) (λ p s. step_given folds (priority_in v) p (λ priority. step_change_by folds s priority p))
      (λ s. given-adds folds (priority_in v) (λ p priority. step_change_by folds s priority p) (λ priority. change_by-adds folds s priority))

  done_by-adds : (folds : List Fold) (op : Op) (args : List Value) → StepAdds (λ p. done_step folds (operation (in_script no_calls) op args (bare p)))
  done_by-adds folds op args p =
      ap (done_step folds) (operation-adds es (in_script no_calls) (in_script-adds es no_calls (λ f args m. refl)) op args (bare p))
      ∙ done-adds folds (operation (in_script no_calls) op args (bare p))

  op-adds : (folds : List Fold) (op : Op) (args : List Value) → StepAdds (step_op folds op args)
  op-adds folds AbortOp args = abort-adds folds (argument args 0) (argument args 1)
  op-adds folds SetPriority args = change-adds folds (argument args 0) (argument args 1)
  op-adds folds op args = done_by-adds folds op args

  known-adds : (folds : List Fold) (op : Op) (args : List Value) → StepAdds (step_known folds op args)
  known-adds folds op args p = choice-adds (may_operate p op args) (step_op folds op args) (step_fault folds TypeError) p (op-adds folds op args p) refl

  resume-adds : (folds : List Fold) (end : CallbackEnd) → StepAdds (resume_innermost folds end)
  resume-adds [] end p = refl
  resume-adds (fold ∷ folds) end p =
      ap (λ q. reached_step folds (go_on fold q)) (callback_ended-adds es fold.when end p)
      ∙ (ap (reached_step folds) (go_on-adds es fold (callback_ended fold.when end p))
      ∙ reached-adds folds (go_on fold (callback_ended fold.when end p)))

  -- what the page does as a host, with these events before its own
  pub rules-add : (ask : Ask) (h : Hosting) → on_ask page_rules ask (hosting_after es h) ≡ stepped_by (hosting_after es) (on_ask page_rules ask h)
  rules-add (AskOp op args) h = known-adds h.folds op args h.page
  rules-add (AskResume ticket end) h = resume-adds h.folds end h.page
