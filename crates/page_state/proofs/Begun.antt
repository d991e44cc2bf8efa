-- Aborts and changes of a priority that begin, and folds that go on where a callback has ended.
use Rattle.std.proofs.Common.{◌≡◌, ℕ, Bool, true, false, cond, not, List, [], ◌∷◌, length, map, refl, sym, ◌∙◌, ap, subst, Option, Some, None, Result, Ok, arith}
use Rattle.std.specs.Result.{IsErrAnd}
use Rattle.page_types.specs.Values.{Value}
use Rattle.lang_meaning.specs.HostSteps.{CallbackEnd, Stepped}
use Rattle.lang_ast.specs.declared.host.HostStep.{HostStep}
use Rattle.lang_ast.specs.declared.host.HostStep.TheVariants as code
use Rattle.page_values.specs.declared.Value.TheVariants as code_values
use Rattle.page_model.specs.Invoke.{WhenReported}
use Rattle.page_model.specs.PageHost.{Hosting, reached_step, resume_innermost}
use Rattle.trace_text.specs.declared.lines.NoLine.{NoLine}
use Rattle.trace_text.specs.Given.{Keeping, Seen}
use Rattle.trace_text.specs.Acts.{At}
use Rattle.page_types.specs.Events.{Abort}
use Rattle.page_types.specs.declared.Priority.{Priority}
use Rattle.page_parts.specs.AbortGraph.{marked}
use Rattle.std.specs.Prelude.{IsTrue, is_some, if◌then◌else◌}
use Rattle.page_parts.specs.TaskSignals.{priority_of, same_priority, begun}
use Rattle.task_signal.specs.Changes.{HasPriority, IsStill}
use Rattle.page_folds.specs.OfModel.{OfChange}
use Rattle.page_model.specs.State.{Page, emit_each}
use Rattle.page_model.specs.PageSignals.{has_priority}
use Rattle.page_model.specs.Folds.{Finished, begin_abort, begin_change, go_on, callback_ended}
use Rattle.page_folds.specs.Steps.{change_fold, Stage, Between, Algorithms, ToTell, ToFire, Calling}
use Rattle.page_folds.specs.Calls.{calls}
use Rattle.page_folds.specs.OfModel.{meaning}
use Rattle.page_signals.specs.Signalling.{Open, parts_of}
use Rattle.page_signals.specs.Steps.{opened, abort_opened, change_opened, change_opened_from, is_calling_in, when_in}
use Rattle.page_signals.specs.Laws.{as_fold, innermost_meaning}
use Rattle.page_signals.proofs.LawLemmas.{page-change}
use Rattle.page_state.specs.Standing.{Standing, page_of, port_of}
use Rattle.page_state.specs.PageActs.{on_page, at, Does}
use Rattle.page_state.specs.FoldActs.{signalling_in, having, around, hosting_of, Reaches, rest_step, change_step, resume_step}
use Rattle.page_state.proofs.Acting.{Does-idle}
use Rattle.page_state.proofs.Reaching.{Reaches-more, Reaches-stop, Reaches-end}

-- a fold goes on where the callback that it called has ended
pub goes-on : (o : Open) (p : Page) → calls o.fold.stage ≡ true → go_on (as_fold o) p ≡ meaning o.kind o.fold p
goes-on o p is = by o.fold.stage refl is
  where
    by : (stage : Stage) → o.fold.stage ≡ stage → calls stage ≡ true → go_on (as_fold o) p ≡ meaning o.kind o.fold p
    by Between e is = Prim.cc
    by (Algorithms s left) e is = Prim.cc
    by (ToTell s before) e is = Prim.cc
    by (ToFire s) e is = Prim.cc
    by (Calling target left) e is = rw e refl

-- ---- an abort

pub abort-begins : (s mid : Standing) (n : ℕ) (reason : Value) (ss : List ℕ) → ss ≡ marked n s.signals.signals → mid ≡ having (abort_opened n reason (signalling_in s)) s
    → begin_abort n reason (page_of s) ≡ innermost_meaning mid.folds (emit_each (map Abort ss) (page_of mid))
abort-begins s mid n reason ss all is =
    let opened = having (abort_opened n reason (signalling_in s)) s in
    let X = begin_abort n reason (page_of s) in
    let P : Standing → Type 0 = λ t. X ≡ innermost_meaning t.folds (emit_each (map Abort ss) (page_of t)) in
    let Q : List ℕ → Type 0 = λ xs. X ≡ innermost_meaning opened.folds (emit_each (map Abort xs) (page_of opened)) in
    subst P (sym is) (subst Q (sym all) refl)

-- ---- a change

some-priority : (o : Option Priority) → IsTrue (is_some o) → (own : Priority) × (o ≡ Some own)
some-priority None has = Prim.cc
some-priority (Some own) has = (own, refl)

-- it begins where the signal has another priority
pub change-begins : (s mid : Standing) (n : ℕ) (priority : Priority) → HasPriority n s.signals.prios → IsStill n s.signals.prios
    → has_priority s.signals.prios n priority ≡ false → mid ≡ having (change_opened n priority (signalling_in s)) s
    → begin_change priority (length s.signals.prios) n (page_of s) ≡ innermost_meaning mid.folds (page_of mid)
change-begins s mid n priority has still other is =
    let st = signalling_in s in
    let own = some-priority (priority_of s.signals.prios n) has in
    let opened = change_opened n priority st in
    let p = page_of s in
    page-change n priority st p still own.0 own.1
    ∙ ap (λ b. cond b (Finished p) (innermost_meaning opened.folds (page_of (having opened s)))) other
    ∙ ap (λ (t : Standing). innermost_meaning t.folds (page_of t)) (sym is)

-- nothing begins where it has this priority
pub change-none : (s : Standing) (n : ℕ) (priority : Priority) → HasPriority n s.signals.prios → IsStill n s.signals.prios
    → has_priority s.signals.prios n priority ≡ true → begin_change priority (length s.signals.prios) n (page_of s) ≡ Finished (page_of s)
change-none s n priority has still same =
    let st = signalling_in s in
    let own = some-priority (priority_of s.signals.prios n) has in
    let opened = change_opened n priority st in
    let p = page_of s in
    page-change n priority st p still own.0 own.1 ∙ ap (λ b. cond b (Finished p) (innermost_meaning opened.folds (page_of (having opened s)))) same

-- the folds around it
pub change-around : (s : Standing) (n : ℕ) (priority : Priority) → HasPriority n s.signals.prios → has_priority s.signals.prios n priority ≡ false
    → around (change_opened n priority (signalling_in s)).folds ≡ s.folds
change-around s n priority has other = by (priority_of s.signals.prios n) has other
  where
    at : (b : Bool) (own : Priority) → b ≡ false
        → around (if b then signalling_in s else opened (OfChange own) (change_fold n priority own (parts_of (signalling_in s))) (record (signalling_in s) { prios = begun n priority s.signals.prios })).folds ≡ s.folds
    at true own e = Prim.cc
    at false own e = refl

    by : (o : Option Priority) → IsTrue (is_some o) → (elim o as (λ _. Bool) [ None ↦ false | Some own ↦ same_priority own priority ]) ≡ false
        → around (change_opened_from o n priority (signalling_in s)).folds ≡ s.folds
    by None has e = Prim.cc
    by (Some own) has e = at (same_priority own priority) own e

-- the signals stay as they are where it has this priority
pub change-same : (s : Standing) (n : ℕ) (priority : Priority) → has_priority s.signals.prios n priority ≡ true
    → change_opened n priority (signalling_in s) ≡ signalling_in s
change-same s n priority same = by (priority_of s.signals.prios n) same
  where
    at : (b : Bool) (own : Priority) → b ≡ true
        → (if b then signalling_in s else opened (OfChange own) (change_fold n priority own (parts_of (signalling_in s))) (record (signalling_in s) { prios = begun n priority s.signals.prios })) ≡ signalling_in s
    at true own e = refl
    at false own e = Prim.cc

    by : (o : Option Priority) → (elim o as (λ _. Bool) [ None ↦ false | Some own ↦ same_priority own priority ]) ≡ true
        → change_opened_from o n priority (signalling_in s) ≡ signalling_in s
    by None e = refl
    by (Some own) e = at (same_priority own priority) own e

-- whether it is opened tells which
pub not-opened : (is_opened has : Bool) → is_opened ≡ not has → is_opened ≡ false → has ≡ true
not-opened is_opened true e f = refl
not-opened is_opened false e f = Prim.cc

pub is-opened : (is_opened has : Bool) → is_opened ≡ not has → is_opened ≡ true → has ≡ false
is-opened is_opened true e f = Prim.cc
is-opened is_opened false e f = refl

-- ---- the innermost fold goes on

-- what it does where its callback has ended
pub resume-is : (s : Standing) (end : CallbackEnd) → is_calling_in s.folds ≡ true
    → resume_step end (hosting_of s) ≡ reached_step (map as_fold (around s.folds)) (innermost_meaning s.folds (callback_ended (when_in s.folds) end (page_of s)))
resume-is s end is = by s.folds is
  where
    by : (os : List Open) → is_calling_in os ≡ true
        → resume_innermost (map as_fold os) end (page_of s) ≡ reached_step (map as_fold (around os)) (innermost_meaning os (callback_ended (when_in os) end (page_of s)))
    by [] e = Prim.cc
    by (o ∷ os) e = ap (reached_step (map as_fold os)) (goes-on o (callback_ended o.when end (page_of s)) e)

no-folds : (os : List Open) → length os ≡ 0 → os ≡ []
no-folds [] e = refl
no-folds (o ∷ os) e = absurd (omega (arith, e))

module _ {T : Type 0} {k : Keeping T} where
  -- with no fold open there is nothing to do
  pub resume-none : (s : Standing) (end : CallbackEnd) (seen : Seen T) → length s.folds ≡ 0
      → Reaches k (at s seen) (resume_step end (hosting_of s)) (Ok (code.Value code_values.Unit)) (at s seen)
  resume-none s end seen empty =
      let none = no-folds s.folds empty in
      let Q : Stepped Hosting → Type 0 = λ step. Reaches k (at s seen) step (Ok (code.Value code_values.Unit)) (at s seen) in
      subst Q (sym (ap (λ os. resume_innermost (map as_fold os) end (page_of s)) none))
      (Reaches-end (Finished (page_of s)) [] s s seen refl (ap (map as_fold) none) refl)

  -- a callback's end, and then what is left
  pub resume-more : (s : Standing) (end : CallbackEnd) (when : WhenReported) {old seen : Seen T} {last : Standing} {new : At Standing T} (r : Result HostStep NoLine)
      → is_calling_in s.folds ≡ true → when ≡ when_in s.folds
      → Does k (at s old) (on_page (callback_ended when end)) None (at last seen) → Reaches k (at last seen) (rest_step last) r new
      → Reaches k (at s old) (resume_step end (hosting_of s)) r new
  resume-more s end when {old = old} {new = new} r is same done h =
      let Q : Stepped Hosting → Type 0 = λ step. Reaches k (at s old) step r new in
      subst Q (sym (resume-is s end is))
      (Reaches-more (innermost_meaning s.folds (callback_ended (when_in s.folds) end (page_of s))) (map as_fold (around s.folds)) (callback_ended when end) s s r
      (ap (λ w. innermost_meaning s.folds (callback_ended w end (page_of s))) (sym same)) refl refl done h)

  -- it stopped among the lines of the callback's end
  pub resume-stop : (s : Standing) (end : CallbackEnd) (when : WhenReported) {old : Seen T} {new : At Standing T} (e : Result HostStep NoLine) {why : NoLine}
      → is_calling_in s.folds ≡ true → when ≡ when_in s.folds → IsErrAnd e (λ x. x ≡ why)
      → Does k (at s old) (on_page (callback_ended when end)) (Some why) new → Reaches k (at s old) (resume_step end (hosting_of s)) e new
  resume-stop s end when {old = old} {new = new} e is same err h =
      let Q : Stepped Hosting → Type 0 = λ step. Reaches k (at s old) step e new in
      subst Q (sym (resume-is s end is))
      (Reaches-stop (innermost_meaning s.folds (callback_ended (when_in s.folds) end (page_of s))) (map as_fold (around s.folds)) (callback_ended when end) s s e
      (ap (λ w. innermost_meaning s.folds (callback_ended w end (page_of s))) (sym same)) err refl h)

  -- a change that is opened, and then what is left
  pub change-more : (s mid : Standing) (n : ℕ) (priority : Priority) {old : Seen T} {new : At Standing T} (r : Result HostStep NoLine)
      → HasPriority n s.signals.prios → IsStill n s.signals.prios → has_priority s.signals.prios n priority ≡ false
      → mid ≡ having (change_opened n priority (signalling_in s)) s
      → Reaches k (at mid old) (rest_step mid) r new → Reaches k (at s old) (change_step n priority (hosting_of s)) r new
  change-more s mid n priority {old = old} r has still other is h =
      Reaches-more (begin_change priority (length s.signals.prios) n (page_of s)) (map as_fold s.folds) (λ p. p) s mid r
      (change-begins s mid n priority has still other is)
      (ap (λ (t : Standing). map as_fold (around t.folds)) is ∙ ap (map as_fold) (change-around s n priority has other))
      (ap port_of is)
      (Does-idle k mid old) h

  -- one that is none
  pub change-idle : (s mid : Standing) (n : ℕ) (priority : Priority) (seen : Seen T)
      → HasPriority n s.signals.prios → IsStill n s.signals.prios → has_priority s.signals.prios n priority ≡ true
      → mid ≡ having (change_opened n priority (signalling_in s)) s
      → Reaches k (at s seen) (change_step n priority (hosting_of s)) (Ok (code.Value code_values.Unit)) (at mid seen)
  change-idle s mid n priority seen has still same is =
      let stays : mid ≡ s = is ∙ ap (λ st. having st s) (change-same s n priority same) in
      Reaches-end (begin_change priority (length s.signals.prios) n (page_of s)) (map as_fold s.folds) s mid seen
      (change-none s n priority has still same ∙ ap (λ t. Finished (page_of t)) (sym stays))
      (ap (λ (t : Standing). map as_fold t.folds) stays) (ap port_of stays)
