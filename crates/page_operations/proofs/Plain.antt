-- The answer of an operation that calls nothing back, as that of the page as a host.
use Rattle.std.proofs.Common.{◌≡◌, ℕ, inr, IfOk, length, true, false, cond, List, [], ◌∷◌, map, refl, sym, ◌∙◌, ap, subst, Option, Some, None, Result, Ok, Err}
use Rattle.page_types.specs.Values.{Value, FaultValue}
use Rattle.page_types.specs.declared.FaultName.TheVariants.{TypeError}
use Rattle.page_types.specs.declared.Op.{Op}
use Rattle.page_types.specs.declared.Op.TheVariants.{Log, TextOf, KindOf, Len, Push, Bind, MakeFault, FaultNameOf, FaultTextOf, NowOp, Busy, QueueMicrotask, MakePromise, ResolveOp, RejectOp, Resolved, Rejected, Then, SetTimeout, SetInterval, ClearTimeout, ClearInterval, RequestFrame, CancelFrame, RequestIdle, CancelIdle, DidTimeout, TimeRemaining, PostTask, YieldTask, MakeController, MakeTaskController, SignalOf, AbortOp, SetPriority, AbortedSignal, AnySignal, TaskAny, TimeoutSignal, Aborted, ReasonOf, PriorityOf, Listen, Unlisten, HostOp, PostMessage, AllOp, RaceOp, AnyOp, AllSettled, FinallyOp}
use Rattle.lang_meaning.specs.Machine.{Done, Gives as GivesValue, Throws, Returns, OutOfFuel}
use Rattle.lang_meaning.specs.Evaluation.{Answer}
use Rattle.lang_meaning.specs.PureOperations.{pure_answer}
use Rattle.lang_meaning.specs.HostSteps.{StepThrow, Stepped, Ask, AskOp}
use Rattle.lang_ast.specs.declared.host.HostStep as code
use Rattle.lang_ast.specs.Steps.{seen_step, StepIsNumbered}
use Rattle.page_model.specs.State.{Page}
use Rattle.page_model.specs.Operations.{may_operate}
use Rattle.page_model.specs.Invoke.{in_script}
use Rattle.page_model.specs.Folds.{Fold}
use Rattle.page_model.specs.PageHost.{Hosting, with_folds, done_step, step_op, step_fault, bare, no_calls}
use Rattle.trace_text.specs.declared.lines.NoLine.{NoLine}
use Rattle.trace_text.specs.declared.lines.NoLine.TheVariants.{OutOfMemory}
use Rattle.trace_text.specs.Line.{Line}
use Rattle.trace_text.specs.Given.{Keeping, Seen, Gives, StopsAmong, after_all, next}
use Rattle.trace_text.specs.Acts.{At}
use Rattle.trace_text.proofs.Giving.{Gives-none}
use Rattle.page_signals.specs.Laws.{as_fold}
use Rattle.page_rules.specs.Lined.{bare_hosting, lines_in}
use Rattle.page_rules.proofs.KeepingFolds.{ask-soon}
use Rattle.page_state.specs.Standing.{Standing, page_of}
use Rattle.page_state.specs.PageActs.{at}
use Rattle.page_answers.specs.Answers.{Answers, done_by, page_then, step_then}
use Rattle.page_state.specs.FoldActs.{hosting_of}
use Rattle.page_pure.specs.ValueAnswers.{GivesPurely, AnswersPurely}
use Rattle.promise_operations.proofs.Pure.{pure-operation}
use Rattle.page_operations.specs.Asked.{Asked, asked_of, functions_of, AnswersValue, AnswersAlone}
use Rattle.page_operations.specs.Plain.{is_plain, plain_operation, IsSameOrWants}

plain-is : (folds : List Fold) (op : Op) (args : List Value) (p : Page) → is_plain op ≡ true
    → step_op folds op args p ≡ done_step folds (plain_operation op args (bare p))
plain-is folds Log args p e = refl
plain-is folds TextOf args p e = refl
plain-is folds KindOf args p e = refl
plain-is folds Len args p e = refl
plain-is folds Push args p e = refl
plain-is folds Bind args p e = refl
plain-is folds MakeFault args p e = refl
plain-is folds FaultNameOf args p e = refl
plain-is folds FaultTextOf args p e = refl
plain-is folds NowOp args p e = refl
plain-is folds Busy args p e = refl
plain-is folds QueueMicrotask args p e = refl
plain-is folds MakePromise args p e = refl
plain-is folds ResolveOp args p e = refl
plain-is folds RejectOp args p e = refl
plain-is folds Resolved args p e = refl
plain-is folds Rejected args p e = refl
plain-is folds Then args p e = refl
plain-is folds SetTimeout args p e = refl
plain-is folds SetInterval args p e = refl
plain-is folds ClearTimeout args p e = refl
plain-is folds ClearInterval args p e = refl
plain-is folds RequestFrame args p e = refl
plain-is folds CancelFrame args p e = refl
plain-is folds RequestIdle args p e = refl
plain-is folds CancelIdle args p e = refl
plain-is folds DidTimeout args p e = refl
plain-is folds TimeRemaining args p e = refl
plain-is folds PostTask args p e = refl
plain-is folds YieldTask args p e = refl
plain-is folds MakeController args p e = refl
plain-is folds MakeTaskController args p e = refl
plain-is folds SignalOf args p e = refl
plain-is folds AbortOp args p e = absurd (cc)
plain-is folds SetPriority args p e = absurd (cc)
plain-is folds AbortedSignal args p e = refl
plain-is folds AnySignal args p e = refl
plain-is folds TaskAny args p e = refl
plain-is folds TimeoutSignal args p e = refl
plain-is folds Aborted args p e = refl
plain-is folds ReasonOf args p e = refl
plain-is folds PriorityOf args p e = refl
plain-is folds Listen args p e = refl
plain-is folds Unlisten args p e = refl
plain-is folds HostOp args p e = refl
plain-is folds PostMessage args p e = refl
plain-is folds AllOp args p e = refl
plain-is folds RaceOp args p e = refl
plain-is folds AnyOp args p e = refl
plain-is folds AllSettled args p e = refl
plain-is folds FinallyOp args p e = refl

-- a step that is done at once
at-once : List Fold → Done Page → Stepped Hosting
at-once folds d = record { step = step_then d; host = with_folds folds (page_then d) }

done-is : (folds : List Fold) (d : Done Page) → done_step folds d ≡ at-once folds d
unfolding at-once
done-is folds (GivesValue v m) = refl
done-is folds (Throws v m) = refl
done-is folds (Returns v m) = refl
done-is folds (OutOfFuel m) = refl

asked-is : (op : Op) (args : List Value) (s : Standing) → is_plain op ≡ true → may_operate (page_of s) op args ≡ true
    → asked_of (AskOp op args) s ≡ at-once (map as_fold s.folds) (plain_operation op args (bare (page_of s)))
unfolding asked_of
asked-is op args s plain known =
    let folds = map as_fold s.folds in
    ap (λ b. cond b (step_op folds op args (page_of s)) (step_fault folds TypeError (page_of s))) known
    ∙ (plain-is folds op args (page_of s) plain ∙ done-is folds (plain_operation op args (bare (page_of s))))

-- an answer of the operation is that of the page as a host
pub Asked-answers : {T : Type 0} {k : Keeping T} (op : Op) (args : List Value) (old : At Standing T) {new : At Standing T} (r : Result code.HostStep NoLine)
    → is_plain op ≡ true → may_operate (page_of old.state) op args ≡ true → Answers k old (plain_operation op args) r new → Asked k old (AskOp op args) r new
unfolding done_by at-once
Asked-answers {k = k} op args old {new = new} (Ok step) plain known h =
    let is = asked-is op args old.state plain known in
    record {
      lines = subst (λ (x : Stepped Hosting). Gives k old.seen (lines_in x) None new.seen) (sym is) h.lines;
      host = ap hosting_of h.state ∙ ap (λ (x : Stepped Hosting). bare_hosting x.host) (sym is);
      step = h.step ∙ ap (λ (x : Stepped Hosting). x.step) (sym is);
      port = h.port;
    }
Asked-answers {k = k} op args old {new = new} (Err why) plain known h =
    record {
      lines = subst (λ (x : Stepped Hosting). Gives k old.seen (lines_in x) (Some why) new.seen) (sym (asked-is op args old.state plain known)) h.lines;
      host = tt;
      step = tt;
      port = h.port;
    }

-- ---- operations that give a value

plain-where-pure : (names : List (List ℕ)) (op : Op) (args : List Value) (a : Answer) → pure_answer names op args ≡ Some a → is_plain op ≡ true
plain-where-pure names TextOf args a e = refl
plain-where-pure names KindOf args a e = refl
plain-where-pure names Len args a e = refl
plain-where-pure names Push args a e = refl
plain-where-pure names Bind args a e = refl
plain-where-pure names MakeFault args a e = refl
plain-where-pure names FaultNameOf args a e = refl
plain-where-pure names FaultTextOf args a e = refl
plain-where-pure names DidTimeout args a e = refl
plain-where-pure names op args a e = absurd (cc)

-- an operation on values alone that gives a value does nothing else, where the arguments name nothing that was never made
module _ (op : Op) (args : List Value) (s : Standing) where
  gives-alone : (v : Value) → pure_answer (page_of s).names op args ≡ Some (Ok v) → may_operate (page_of s) op args ≡ true → AnswersAlone op args v s
  unfolding at-once
  gives-alone v is known =
      let p = page_of s in
      let done : plain_operation op args (bare p) ≡ GivesValue v (bare p) = pure-operation (in_script no_calls) op args (bare p) (Ok v) is in
      asked-is op args s (plain-where-pure p.names op args (Ok v) is) known ∙ ap (at-once (map as_fold s.folds)) done

  pub answers-alone : (v : Value) → AnswersPurely op args v → may_operate (page_of s) op args ≡ true → AnswersAlone op args v s
  answers-alone v answers known = gives-alone v (answers (page_of s).names) known

  pub answers-value : GivesPurely op args → may_operate (page_of s) op args ≡ true → AnswersValue op args s
  answers-value gives known =
      let g = gives (page_of s).names in
      (g.0, ap (λ (x : Stepped Hosting). x.step) (gives-alone g.0 g.1 known))

-- where an argument holds a number that was not given out
pub Asked-unknown : {T : Type 0} (k : Keeping T) (op : Op) (args : List Value) (old : At Standing T) (step : code.HostStep)
    → may_operate (page_of old.state) op args ≡ false → seen_step step ≡ StepThrow (FaultValue TypeError []) → Asked k old (AskOp op args) (Ok step) old
unfolding asked_of
Asked-unknown k op args old step unknown is =
    let folds = map as_fold old.state.folds in
    let p = page_of old.state in
    let e : asked_of (AskOp op args) old.state ≡ step_fault folds TypeError p = ap (λ b. cond b (step_op folds op args p) (step_fault folds TypeError p)) unknown in
    record {
      lines = subst (λ (x : Stepped Hosting). Gives k old.seen (lines_in x) None old.seen) (sym e) (Gives-none k old.seen);
      host = ap (λ (x : Stepped Hosting). bare_hosting x.host) (sym e);
      step = is ∙ ap (λ (x : Stepped Hosting). x.step) (sym e);
      port = refl;
    }

-- ---- where memory is wanting behind the answer

whole : {T : Type 0} (k : Keeping T) (lines : List Line) (told : Option T) → StopsAmong k OutOfMemory told lines (after_all k told lines)
whole k [] told = (tt, refl)
whole k (line ∷ lines) told = inr (whole k lines (next k told line))

wanting : {T : Type 0} {k : Keeping T} {old new : At Standing T} (ask : Ask) (step : code.HostStep) → Asked k old ask (Ok step) new → Asked k old ask (Err OutOfMemory) new
wanting {k = k} {old = old} {new = new} ask step a =
    let ls = lines_in (asked_of ask old.state) in
    record {
      lines = record {
        told = subst (λ t. StopsAmong k OutOfMemory old.seen.told ls t) (sym a.lines.told.0) (whole k ls old.seen.told);
        later = a.lines.later;
        failed = λ w. absurd (cc);
        differs = a.lines.differs;
      };
      host = tt;
      step = tt;
      port = a.port;
    }

pub Asked-same : {T : Type 0} {k : Keeping T} {old new : At Standing T} (ask : Ask) (done result : Result code.HostStep NoLine) → IsSameOrWants done result
    → Asked k old ask done new → Asked k old ask result new
Asked-same {k = k} {old = old} {new = new} ask done (Ok step) same a = subst (λ r. Asked k old ask r new) same a
Asked-same {k = k} {old = old} {new = new} ask (Ok step) (Err why) same a = subst (λ w. Asked k old ask (Err w) new) (sym same) (wanting ask step a)
Asked-same {k = k} {old = old} {new = new} ask (Err cause) (Err why) same a = subst (λ w. Asked k old ask (Err w) new) (sym same) a

-- ---- what stays

pub same-functions : {T : Type 0} (k : Keeping T) (ask : Ask) (old s : Standing) {before after : Seen T} (step : code.HostStep)
    → Asked k (at old before) ask (Ok step) (at s after) → functions_of s ≡ functions_of old
unfolding asked_of
same-functions k ask old s step a = ap (λ (h : Hosting). length h.page.names) a.host ∙ ap length (ask-soon ask (hosting_of old)).0.stays.names

pub numbered-before : {T : Type 0} (k : Keeping T) (ask : Ask) (old s : Standing) {before after : Seen T} (result : Result code.HostStep NoLine)
    → Asked k (at old before) ask result (at s after) → IfOk result (λ step. StepIsNumbered (functions_of s) (seen_step step))
    → IfOk result (λ step. StepIsNumbered (functions_of old) (seen_step step))
numbered-before k ask old s (Ok step) a h = subst (λ n. StepIsNumbered n (seen_step step)) (same-functions k ask old s step a) h
numbered-before k ask old s (Err why) a h = tt
