-- Aborts and priority changes that a script asks for, and what comes after their callbacks, as the page as a host answers them.
use Rattle.std.proofs.Common.{◌≡◌, ℕ, Bool, true, false, cond, List, [], length, refl, sym, ◌∙◌, ap, subst, Option, Some, None, Result, Ok, Err}
use Rattle.std.specs.Prelude.{is_some}
use Rattle.page_types.specs.Values.{Value, FaultValue}
use Rattle.page_types.specs.declared.FaultName.{FaultName}
use Rattle.page_types.specs.declared.FaultName.TheVariants.{TypeError, NotAllowedError}
use Rattle.page_types.specs.declared.Priority.{Priority}
use Rattle.page_types.specs.declared.Op.TheVariants.{AbortOp, SetPriority}
use Rattle.page_parts.specs.Words.{is_there}
use Rattle.page_parts.specs.Kinds.{controller_in}
use Rattle.page_parts.specs.TaskSignals.{priority_of, is_changing}
use Rattle.lang_meaning.specs.HostSteps.{Ask, AskOp, Stepped, StepThrow, on_ask}
use Rattle.lang_meaning.specs.PureOperations.{argument}
use Rattle.lang_ast.specs.declared.host.HostStep as code
use Rattle.lang_ast.specs.Steps.{seen_step}
use Rattle.page_model.specs.Operations.{may_operate, priority_in, reason_given}
use Rattle.page_model.specs.Folds.{begin_abort, begin_change}
use Rattle.page_model.specs.PageHost.{Hosting, page_rules, step_op, step_fault, step_given, step_change_by, reached_step}
use Rattle.trace_text.specs.declared.lines.NoLine.{NoLine}
use Rattle.trace_text.specs.Given.{Keeping, Seen}
use Rattle.trace_text.specs.Acts.{At}
use Rattle.trace_text.proofs.Giving.{Gives-none}
use Rattle.page_state.specs.Standing.{Standing, page_of}
use Rattle.page_state.specs.PageActs.{at}
use Rattle.page_state.specs.FoldActs.{Reaches, stepping, hosting_of, abort_step, change_step}
use Rattle.page_operations.specs.Asked.{Asked, asked_of}
use Rattle.page_operations.specs.Folding.{abort_asked, change_asked}

-- ---- what is asked, by what is there

abort-given : (o : Option ℕ) (reason : Value) → Hosting → Stepped Hosting
abort-given o reason h = step_given h.folds o h.page (λ s. reached_step h.folds (begin_abort s (reason_given reason) h.page))

change-given : Option ℕ → Option Priority → Hosting → Stepped Hosting
change-given o p h = step_given h.folds o h.page (λ s. step_given h.folds p h.page (λ priority. step_change_by h.folds s priority h.page))

module _ (s : Standing) (n : ℕ) (priority : Priority) (c v : Value) (some : Some n ≡ controller_in c) (named : Some priority ≡ priority_in v) where
  change-is : change_asked c v (hosting_of s) ≡ step_change_by (hosting_of s).folds n priority (page_of s)
  unfolding change-given
  change-is = ap (λ o. change-given o (priority_in v) (hosting_of s)) (sym some) ∙ ap (λ o. change-given (Some n) o (hosting_of s)) (sym named)

  chosen : (there changing : Bool) → Stepped Hosting
  chosen there changing =
      let h = hosting_of s in
      cond there
      (cond changing (step_fault h.folds NotAllowedError h.page) (reached_step h.folds (begin_change priority (length h.page.prios) n h.page)))
      (step_fault h.folds TypeError h.page)

  chosen-is : (there changing : Bool) → there ≡ is_there (priority_of s.signals.prios n) → changing ≡ is_changing s.signals.prios n
      → change_asked c v (hosting_of s) ≡ chosen there changing
  unfolding chosen
  chosen-is there changing e f = change-is ∙ ap (λ b. chosen b (is_changing s.signals.prios n)) (sym e) ∙ ap (chosen there) (sym f)

-- whether there is one
pub there-is : (o p : Option Priority) (b : Bool) → is_some o ≡ b → o ≡ p → b ≡ is_there p
there-is None p b e f = sym e ∙ ap is_there f
there-is (Some x) p b e f = sym e ∙ ap is_there f

-- ---- what the page's rules answer

module _ {T : Type 0} {k : Keeping T} where
  -- a call that does the step of the rules
  pub Asked-reaches : (ask : Ask) (old : At Standing T) {new : At Standing T} (r : Result code.HostStep NoLine)
      → Reaches k old (on_ask page_rules ask (hosting_of old.state)) r new → Asked k old ask r new
  unfolding asked_of stepping
  Asked-reaches ask old (Ok step) h =
      record { lines = h.does.lines; host = h.does.state refl; step = h.answer; port = h.port }
  Asked-reaches ask old (Err why) h = record { lines = h.does.lines; host = tt; step = tt; port = h.port }

  -- `abort` and `setPriority`, whose arguments hold no number that was not given out
  pub Asked-abort : (args : List Value) (old : At Standing T) {new : At Standing T} (r : Result code.HostStep NoLine)
      → may_operate (page_of old.state) AbortOp args ≡ true → Reaches k old (abort_asked (argument args 0) (argument args 1) (hosting_of old.state)) r new
      → Asked k old (AskOp AbortOp args) r new
  Asked-abort args old {new = new} r known h =
      let s = hosting_of old.state in
      let P : Stepped Hosting → Type 0 = λ x. Reaches k old x r new in
      Asked-reaches (AskOp AbortOp args) old r
      (subst P (ap (λ b. cond b (step_op s.folds AbortOp args s.page) (step_fault s.folds TypeError s.page)) (sym known)) h)

  pub Asked-change : (args : List Value) (old : At Standing T) {new : At Standing T} (r : Result code.HostStep NoLine)
      → may_operate (page_of old.state) SetPriority args ≡ true → Reaches k old (change_asked (argument args 0) (argument args 1) (hosting_of old.state)) r new
      → Asked k old (AskOp SetPriority args) r new
  Asked-change args old {new = new} r known h =
      let s = hosting_of old.state in
      let P : Stepped Hosting → Type 0 = λ x. Reaches k old x r new in
      Asked-reaches (AskOp SetPriority args) old r
      (subst P (ap (λ b. cond b (step_op s.folds SetPriority args s.page) (step_fault s.folds TypeError s.page)) (sym known)) h)

  -- ---- a fault

  fault-thrown : (s : Standing) (seen : Seen T) (name : FaultName) (step : code.HostStep) (x : Stepped Hosting) → x ≡ step_fault (hosting_of s).folds name (page_of s)
      → seen_step step ≡ StepThrow (FaultValue name []) → Reaches k (at s seen) x (Ok step) (at s seen)
  unfolding stepping
  fault-thrown s seen name step x is answer =
      let P : Stepped Hosting → Type 0 = λ x. Reaches k (at s seen) x (Ok step) (at s seen) in
      subst P (sym is) (record { does = record { lines = Gives-none k seen; state = λ _. refl }; port = refl; answer = answer })

  -- ---- `abort`

  -- it is no controller
  pub abort-refused : (s : Standing) (seen : Seen T) (c reason : Value) (step : code.HostStep) → None ≡ controller_in c
      → seen_step step ≡ StepThrow (FaultValue TypeError []) → Reaches k (at s seen) (abort_asked c reason (hosting_of s)) (Ok step) (at s seen)
  unfolding abort-given
  abort-refused s seen c reason step none answer =
      fault-thrown s seen TypeError step _ (ap (λ o. abort-given o reason (hosting_of s)) (sym none)) answer

  pub abort-reaches : (s : Standing) (n : ℕ) (c reason given : Value) {old : Seen T} {new : At Standing T} (r : Result code.HostStep NoLine)
      → Some n ≡ controller_in c → given ≡ reason_given reason
      → Reaches k (at s old) (abort_step n given (hosting_of s)) r new → Reaches k (at s old) (abort_asked c reason (hosting_of s)) r new
  unfolding abort-given
  abort-reaches s n c reason given {old = old} {new = new} r some is h =
      let P : Stepped Hosting → Type 0 = λ x. Reaches k (at s old) x r new in
      subst P (ap (λ v. abort_step n v (hosting_of s)) is ∙ ap (λ o. abort-given o reason (hosting_of s)) some) h

  -- ---- `setPriority`

  -- it is no controller
  pub change-refused : (s : Standing) (seen : Seen T) (c v : Value) (step : code.HostStep) → None ≡ controller_in c
      → seen_step step ≡ StepThrow (FaultValue TypeError []) → Reaches k (at s seen) (change_asked c v (hosting_of s)) (Ok step) (at s seen)
  unfolding change-given
  change-refused s seen c v step none answer =
      fault-thrown s seen TypeError step _ (ap (λ o. change-given o (priority_in v) (hosting_of s)) (sym none)) answer

  -- there is no such priority
  pub priority-refused : (s : Standing) (seen : Seen T) (n : ℕ) (c v : Value) (step : code.HostStep) → Some n ≡ controller_in c → None ≡ priority_in v
      → seen_step step ≡ StepThrow (FaultValue TypeError []) → Reaches k (at s seen) (change_asked c v (hosting_of s)) (Ok step) (at s seen)
  unfolding change-given
  priority-refused s seen n c v step some none answer =
      fault-thrown s seen TypeError step _
      (ap (λ o. change-given o (priority_in v) (hosting_of s)) (sym some) ∙ ap (λ o. change-given (Some n) o (hosting_of s)) (sym none)) answer

  module _ (s : Standing) (n : ℕ) (priority : Priority) (c v : Value) (some : Some n ≡ controller_in c) (named : Some priority ≡ priority_in v) where
    -- the signal has no priority
    pub none-refused : (seen : Seen T) (step : code.HostStep) → false ≡ is_there (priority_of s.signals.prios n)
        → seen_step step ≡ StepThrow (FaultValue TypeError []) → Reaches k (at s seen) (change_asked c v (hosting_of s)) (Ok step) (at s seen)
    unfolding chosen
    none-refused seen step none answer = fault-thrown s seen TypeError step _ (chosen-is s n priority c v some named false _ none refl) answer

    -- a change of it is in progress
    pub changing-refused : (seen : Seen T) (step : code.HostStep) → true ≡ is_there (priority_of s.signals.prios n) → true ≡ is_changing s.signals.prios n
        → seen_step step ≡ StepThrow (FaultValue NotAllowedError []) → Reaches k (at s seen) (change_asked c v (hosting_of s)) (Ok step) (at s seen)
    unfolding chosen
    changing-refused seen step there changing answer = fault-thrown s seen NotAllowedError step _ (chosen-is s n priority c v some named true true there changing) answer

    pub change-reaches : {old : Seen T} {new : At Standing T} (r : Result code.HostStep NoLine)
        → true ≡ is_there (priority_of s.signals.prios n) → false ≡ is_changing s.signals.prios n
        → Reaches k (at s old) (change_step n priority (hosting_of s)) r new → Reaches k (at s old) (change_asked c v (hosting_of s)) r new
    unfolding chosen
    change-reaches {old = old} {new = new} r there changing h =
        let P : Stepped Hosting → Type 0 = λ x. Reaches k (at s old) x r new in subst P (sym (chosen-is s n priority c v some named true false there changing)) h
