-- The tickets of open folds are those that were handed out and not yet resumed.
use Rattle.std.proofs.Common.{◌≡◌, ℕ, Bool, true, false, List, [], ◌∷◌, length, Option, Some, None, refl, ap, ◌∙◌, cond}
use Rattle.page_types.specs.Values.{Value}
use Rattle.page_types.specs.declared.FaultName.TheVariants.{TypeError, NotAllowedError}
use Rattle.page_types.specs.declared.Priority.{Priority}
use Rattle.page_types.specs.declared.Op.{Op}
use Rattle.page_types.specs.declared.Op.TheVariants.{AbortOp, SetPriority}
use Rattle.page_parts.specs.Words.{is_there}
use Rattle.page_parts.specs.Kinds.{controller_in}
use Rattle.page_parts.specs.TaskSignals.{priority_of, is_changing}
use Rattle.lang_meaning.specs.Machine.{Done, Gives, Throws, Returns, OutOfFuel}
use Rattle.lang_meaning.specs.PureOperations.{argument}
use Rattle.lang_meaning.specs.HostSteps.{CallbackEnd, Stepped}
use Rattle.page_model.specs.State.{Page}
use Rattle.page_model.specs.Operations.{priority_in, reason_given, may_operate, operation}
use Rattle.page_model.specs.Folds.{Fold, Reached, Finished, Calls, go_on, callback_ended, begin_abort, begin_change}
use Rattle.page_model.specs.PageHost.{Hosting, reached_step, resume_innermost, step_fault, step_given, step_change_by, done_step, step_op, bare, no_calls, open_tickets, tickets_then, step_known}
use Rattle.page_model.specs.Invoke.{in_script}

-- a step from where these folds are open keeps account of the tickets
abbrev Accounts : List Fold → Stepped Hosting → Type 0
Accounts folds s = open_tickets s.host.folds ≡ tickets_then s.step (open_tickets folds)

reached-accounts : (folds : List Fold) (r : Reached) → Accounts folds (reached_step folds r)
reached-accounts folds (Finished p) = refl
reached-accounts folds (Calls f fold p) = refl

given-accounts : {X : Type 0} (folds : List Fold) (o : Option X) (p : Page) (next : X → Stepped Hosting) → ((x : X) → Accounts folds (next x)) → Accounts folds (step_given folds o p next)
given-accounts folds None p next h = refl
given-accounts folds (Some x) p next h = h x

change_by-accounts : (folds : List Fold) (s : ℕ) (priority : Priority) (p : Page) → Accounts folds (step_change_by folds s priority p)
change_by-accounts folds s priority p = by (is_there (priority_of p.prios s)) (is_changing p.prios s)
  where
    by : (c d : Bool) → Accounts folds (cond c (cond d (step_fault folds NotAllowedError p) (reached_step folds (begin_change priority (length p.prios) s p))) (step_fault folds TypeError p))
    by false d = refl
    by true true = refl
    by true false = reached-accounts folds (begin_change priority (length p.prios) s p)

done-accounts : (folds : List Fold) (d : Done Page) → Accounts folds (done_step folds d)
done-accounts folds (Gives v m) = refl
done-accounts folds (Throws v m) = refl
done-accounts folds (Returns v m) = refl
done-accounts folds (OutOfFuel m) = refl

pub op-accounts : (folds : List Fold) (op : Op) (args : List Value) (p : Page) → Accounts folds (step_op folds op args p)
op-accounts folds AbortOp args p =
    given-accounts folds (controller_in (argument args 0)) p _ (λ s. reached-accounts folds (begin_abort s (reason_given (argument args 1)) p))
op-accounts folds SetPriority args p =
    given-accounts folds (controller_in (argument args 0)) p _ (λ s. given-accounts folds (priority_in (argument args 1)) p _ (λ priority. change_by-accounts folds s priority p))
op-accounts folds op args p = done-accounts folds (operation (in_script no_calls) op args (bare p))

pub known-accounts : (folds : List Fold) (op : Op) (args : List Value) (p : Page) → Accounts folds (step_known folds op args p)
known-accounts folds op args p = by (may_operate p op args)
  where
    by : (c : Bool) → Accounts folds (cond c (step_op folds op args p) (step_fault folds TypeError p))
    by true = op-accounts folds op args p
    by false = refl

tail : List ℕ → List ℕ
tail [] = []
tail (n ∷ ns) = ns

pub resume-accounts : (folds : List Fold) (ticket : ℕ) (end : CallbackEnd) (p : Page) (rest : List ℕ) → open_tickets folds ≡ ticket ∷ rest
    → open_tickets (resume_innermost folds end p).host.folds ≡ tickets_then (resume_innermost folds end p).step rest
unfolding tail
resume-accounts [] ticket end p rest h = cc
resume-accounts (fold ∷ folds) ticket end p rest h =
    reached-accounts folds (go_on fold (callback_ended fold.when end p))
    ∙ ap (λ ns. tickets_then (reached_step folds (go_on fold (callback_ended fold.when end p))).step ns) (ap tail h)
