-- The page as a host stays within bounds, and fewer callbacks are left at each that is resumed.
use Rattle.std.proofs.Common.{◌≡◌, ℕ, ◌^◌, arith, Bool, true, false, List, [], ◌∷◌, length, Option, Some, None, refl, ap, subst, cond}
use Rattle.page_types.specs.Values.{Value}
use Rattle.page_types.specs.declared.FaultName.{FaultName}
use Rattle.page_types.specs.declared.FaultName.TheVariants.{TypeError, NotAllowedError}
use Rattle.page_types.specs.declared.Priority.{Priority}
use Rattle.page_types.specs.declared.Op.{Op}
use Rattle.page_types.specs.declared.Op.TheVariants.{Busy, AbortOp, SetPriority}
use Rattle.page_parts.specs.Words.{is_there}
use Rattle.page_parts.specs.Kinds.{controller_in}
use Rattle.page_parts.specs.TaskSignals.{Prios, record_of, priority_of, is_changing}
use Rattle.lang_meaning.specs.Machine.{Done, Gives, Throws, Returns, OutOfFuel}
use Rattle.lang_meaning.specs.PureOperations.{argument}
use Rattle.lang_meaning.specs.HostSteps.{CallbackEnd, Stepped}
use Rattle.page_model.specs.State.{Page}
use Rattle.page_model.specs.Operations.{priority_in, reason_given, may_operate, operation}
use Rattle.page_model.specs.Folds.{Fold, Reached, Finished, Calls, go_on, callback_ended, begin_abort, begin_change}
use Rattle.page_model.specs.PageHost.{Hosting, with_folds, reached_step, resume_innermost, step_fault, step_given, step_abort, step_change_by, step_change, done_step, step_op, bare, no_calls, step_known}
use Rattle.page_model.specs.FoldBounds.{to_visit, fold_left, counted, IsBounded, FoldsAreBounded, HostIsBounded, FewerLeft}
use Rattle.page_model.proofs.Bounding.Counting.{near-equal, bounded-near, stays-near}
use Rattle.page_model.proofs.Stepping.Reaching.{ReachesFewer, fold-stays, folds-stay, fold-few, fold-reaches, abort-reaches, change-reaches-few}
use Rattle.page_model.proofs.Stepping.Evaluation.{ended-counted, record-there}
use Rattle.page_model.proofs.Stepping.PlainOperations.{KeepsDone, busy-plain}
use Rattle.page_model.proofs.Stepping.Hosting.{operations-alike}
use Rattle.page_model.specs.Invoke.{in_script}

-- a host within bounds, with fewer callbacks left than so many, where one comes next
abbrev pub StepsWithin : ℕ → Stepped Hosting → Type 0
StepsWithin most s = HostIsBounded s.host × FewerLeft (to_visit s.host) most s.step × FewerLeft (to_visit s.host) (2 ^ 64) s.step

reached-within : (folds : List Fold) (r : Reached) (ps : Prios) (most : ℕ) → ReachesFewer ps most r → FoldsAreBounded ps folds → StepsWithin most (reached_step folds r)
reached-within folds (Finished q) ps most h f = ((h.0, folds-stay ps q.prios h.1 folds f), tt, tt)
reached-within folds (Calls c fold q) ps most h f = ((h.0, (h.2, folds-stay ps q.prios h.1 folds f)), h.3, fold-few (counted q) fold h.0 h.2)

pub resume-within : (folds : List Fold) (end : CallbackEnd) (p : Page) (ticket : ℕ) → HostIsBounded (with_folds folds p) → StepsWithin (to_visit (with_folds folds p) ticket) (resume_innermost folds end p)
resume-within [] end p ticket h = (h, tt, tt)
resume-within (fold ∷ folds) end p ticket h =
    let q = callback_ended fold.when end p in
    let e = ended-counted fold.when end p in
    let near = near-equal (counted p) (counted q) e in
    let stays = stays-near 0 (counted p) (counted q) near in
    let bounded = bounded-near 0 (counted p) (counted q) near (let r = h.0.registrations in omega (arith, r)) h.0 in
    subst (λ most. StepsWithin most (reached_step folds (go_on fold q))) (ap (λ c. fold_left c fold) e)
    (reached-within folds (go_on fold q) q.prios (fold_left (counted q) fold) (fold-reaches fold q bounded (fold-stays p.prios q.prios stays fold h.1.0)) (folds-stay p.prios q.prios stays folds h.1.1))

module _ (folds : List Fold) (p : Page) (b : IsBounded p) (f : FoldsAreBounded p.prios folds) where
  fault-within : (name : FaultName) → StepsWithin (2 ^ 64) (step_fault folds name p)
  fault-within name = ((b, f), tt, tt)

  given-within : {X : Type 0} (o : Option X) (next : X → Stepped Hosting) → ((x : X) → StepsWithin (2 ^ 64) (next x)) → StepsWithin (2 ^ 64) (step_given folds o p next)
  given-within None next h = fault-within TypeError
  given-within (Some x) next h = h x

  abort-within : (v reason : Value) → StepsWithin (2 ^ 64) (step_abort folds v reason p)
  abort-within v reason = given-within (controller_in v) _ (λ s. reached-within folds (begin_abort s (reason_given reason) p) p.prios (2 ^ 64) (abort-reaches s (reason_given reason) p b) f)

  change_by-within : (s : ℕ) (priority : Priority) → StepsWithin (2 ^ 64) (step_change_by folds s priority p)
  change_by-within s priority = by (is_there (priority_of p.prios s)) (is_changing p.prios s) refl
    where
      by : (c d : Bool) → is_there (priority_of p.prios s) ≡ c → StepsWithin (2 ^ 64) (cond c (cond d (step_fault folds NotAllowedError p) (reached_step folds (begin_change priority (length p.prios) s p))) (step_fault folds TypeError p))
      by false d e = fault-within TypeError
      by true true e = fault-within NotAllowedError
      by true false e = reached-within folds (begin_change priority (length p.prios) s p) p.prios (2 ^ 64) (change-reaches-few priority (length p.prios) s p b (record-there (record_of p.prios s) e)) f

  change-within : (v x : Value) → StepsWithin (2 ^ 64) (step_change folds v x p)
  change-within v x = given-within (controller_in v) _ (λ s. given-within (priority_in x) _ (λ priority. change_by-within s priority))

  done-within : (d : Done Page) → KeepsDone p d → StepsWithin (2 ^ 64) (done_step folds d)
  done-within (Gives v m) k = ((k.0, folds-stay p.prios m.host.prios k.1 folds f), tt, tt)
  done-within (Throws v m) k = ((k.0, folds-stay p.prios m.host.prios k.1 folds f), tt, tt)
  done-within (Returns v m) k = absurd k
  done-within (OutOfFuel m) k = absurd k

  pub op-within : (op : Op) (args : List Value) → StepsWithin (2 ^ 64) (step_op folds op args p)
  op-within AbortOp args = abort-within (argument args 0) (argument args 1)
  op-within SetPriority args = change-within (argument args 0) (argument args 1)
  op-within Busy args = done-within (operation (in_script no_calls) Busy args (bare p)) (busy-plain 0 (bare p) b (argument args 0)).1
  op-within op args = done-within (operation (in_script no_calls) op args (bare p)) (operations-alike no_calls args (bare p) b op).1

  pub known-within : (op : Op) (args : List Value) → StepsWithin (2 ^ 64) (step_known folds op args p)
  known-within op args = by (may_operate p op args)
    where
      by : (c : Bool) → StepsWithin (2 ^ 64) (cond c (step_op folds op args p) (step_fault folds TypeError p))
      by true = op-within op args
      by false = fault-within TypeError
