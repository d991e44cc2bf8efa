use Rattle.std.proofs.Common.{◌^◌, ◌<◌, List, [], ◌∷◌, ◌++◌, length, map, ap, sym, subst, ◌∙◌, rules, Result, Ok, Err}
use Rattle.std.specs.Prelude.{OnErr}
use Rattle.page_types.specs.Values.{Value}
use Rattle.page_types.specs.declared.Priority.{Priority}
use Rattle.page_values.specs.Seen.{seen}
use Rattle.page_folds.specs.declared.step.FoldStep.{FoldStep}
use Rattle.page_folds.specs.AtRest.{at_rest, PriosAfter}
use Rattle.page_folds.specs.Seen.{standing}
use Rattle.page_folds.proofs.RestLemmas.{step-prios}
use Rattle.page_signals.specs.declared.opened.Kind.TheVariants.{Change}
use Rattle.page_signals.specs.declared.opened.Open as code
use Rattle.page_signals.specs.Steps.{Algorithm, Listener, Changed}
use Rattle.page_signals.specs.Seen.{visit_seen, signalling_seen}
use Rattle.page_signals.proofs.AdvanceLemmas.{step-of, close-step, close-kept, innermost-ticket}
use Rattle.page_signals.proofs.signals.advance.Goals as goal
use Rattle.page_signals.proofs.signals.advance.Goals.{in-Algorithm+in_ok-reason-in-Algorithm, in-Listener+in_ok-arguments-in-Listener, in-Changed}

err-holds : {A E : Type 0} {P : Type 0} (r : Result A E) → P → OnErr r P
err-holds (Ok x) p = tt
err-holds (Err e) p = p

pub step-requires : goal.step-requires
step-requires c =
    innermost-ticket (length c.args.reasons.now) (standing c.args.folds.now) c.args.opened.now.items c.pop.new.self.items c.in-Some.innermost c.len.result
    c.in-Some.ensures.items (c.len.ensures ∙ c.pop.new.self.ok.0) c.requires

pub overflow_cast-visit : goal.overflow_cast-visit
overflow_cast-visit c =
    let less : c.in-Algorithm.a < 2 ^ 32 =
    (step-of c.args.reasons.now c.args.folds.now c.step.new.self c.args.opened.now.items c.pop.new.self.items c.in-Some.innermost c.in_ok-a.field-0 _
    c.in-Some.ensures.items c.requires c.in_ok-a.ensures.step c.in-Algorithm.is).registration in
    search rules

pub returns-in-Finished-clause-step : goal.returns-in-Finished-clause-step
returns-in-Finished-clause-step c =
    sym
    (step-of c.args.reasons.now c.args.folds.now c.step.new.self c.args.opened.now.items c.pop.new.self.items c.in-Some.innermost c.in_ok-a.field-0 _
    c.in-Some.ensures.items c.requires c.in_ok-a.ensures.step c.in-Finished.is).seen

pub returns-in-Finished-clause-kept : goal.returns-in-Finished-clause-kept
returns-in-Finished-clause-kept c =
    (step-of c.args.reasons.now c.args.folds.now c.step.new.self c.args.opened.now.items c.pop.new.self.items c.in-Some.innermost c.in_ok-a.field-0 _
    c.in-Some.ensures.items c.requires c.in_ok-a.ensures.step c.in-Finished.is).kept

pub returns-clause-step : goal.returns-clause-step
returns-clause-step c =
    let reasons = c.args.reasons.now in
    let new = c.step.new.self in
    let left = c.pop.new.self.items in
    let o = c.in-Some.innermost in
    let before = signalling_seen reasons c.args.folds.now c.args.opened.now.items in
    let after = c.push_reserved.new.self.items in
    elim c.match-branch-2.branch [
      | in-Algorithm+in_ok-reason-in-Algorithm w ↦
          let a = w.in-Algorithm.a in
          close-step reasons new after left o (visit_seen c.match-branch-2.visit) _ before
          (c.push_reserved.ensures.items ∙ ap (λ (x : code.Open). left ++ x ∷ []) w.innermost-is)
          (ap visit_seen w.visit-is ∙ ap (λ (v : Value). Algorithm a v) w.in_ok-reason-in-Algorithm.ensures)
          (step-of reasons c.args.folds.now new c.args.opened.now.items left o c.in_ok-a.field-0 _ c.in-Some.ensures.items c.requires c.in_ok-a.ensures.step w.in-Algorithm.is).seen
      | in-Listener+in_ok-arguments-in-Listener w ↦
          let r = w.in-Listener.registration in
          close-step reasons new after left o (visit_seen c.match-branch-2.visit) _ before
          (c.push_reserved.ensures.items ∙ ap (λ (x : code.Open). left ++ x ∷ []) w.innermost-is)
          (ap visit_seen w.visit-is ∙ ap (λ (vs : List Value). Listener r vs) (w.in_ok-arguments-in-Listener.ensures (map seen reasons)))
          (step-of reasons c.args.folds.now new c.args.opened.now.items left o c.in_ok-a.field-0 _ c.in-Some.ensures.items c.requires c.in_ok-a.ensures.step w.in-Listener.is).seen
      | in-Changed w ↦
          let s = w.in-Changed.signal in
          let own = w.in-Changed.before in
          close-step reasons new after left _ (visit_seen c.match-branch-2.visit) _ before
          (c.push_reserved.ensures.items ∙ ap (λ (x : code.Open). left ++ x ∷ []) (w.innermost-is ∙ ap (λ (q : Priority). record o { kind = Change q own }) w.priority_to-priority.ensures))
          (ap visit_seen w.visit-is ∙ ap (λ (q : Priority). Changed s own q) w.priority_to-priority.ensures)
          (step-of reasons c.args.folds.now new c.args.opened.now.items left o c.in_ok-a.field-0 _ c.in-Some.ensures.items c.requires c.in_ok-a.ensures.step w.in-Changed.is).seen
    ]

pub returns-clause-kept : goal.returns-clause-kept
returns-clause-kept c =
    let reasons = c.args.reasons.now in
    let new = c.step.new.self in
    let left = c.pop.new.self.items in
    let o = c.in-Some.innermost in
    let after = c.push_reserved.new.self.items in
    elim c.match-branch-2.branch [
      | in-Algorithm+in_ok-reason-in-Algorithm w ↦
          close-kept (length reasons) (standing new) after left o
          (c.push_reserved.ensures.items ∙ ap (λ (x : code.Open). left ++ x ∷ []) w.innermost-is)
          (step-of reasons c.args.folds.now new c.args.opened.now.items left o c.in_ok-a.field-0 _ c.in-Some.ensures.items c.requires c.in_ok-a.ensures.step w.in-Algorithm.is).kept
      | in-Listener+in_ok-arguments-in-Listener w ↦
          close-kept (length reasons) (standing new) after left o
          (c.push_reserved.ensures.items ∙ ap (λ (x : code.Open). left ++ x ∷ []) w.innermost-is)
          (step-of reasons c.args.folds.now new c.args.opened.now.items left o c.in_ok-a.field-0 _ c.in-Some.ensures.items c.requires c.in_ok-a.ensures.step w.in-Listener.is).kept
      | in-Changed w ↦
          let own = w.in-Changed.before in
          close-kept (length reasons) (standing new) after left _
          (c.push_reserved.ensures.items ∙ ap (λ (x : code.Open). left ++ x ∷ []) (w.innermost-is ∙ ap (λ (q : Priority). record o { kind = Change q own }) w.priority_to-priority.ensures))
          (step-of reasons c.args.folds.now new c.args.opened.now.items left o c.in_ok-a.field-0 _ c.in-Some.ensures.items c.requires c.in_ok-a.ensures.step w.in-Changed.is).kept
    ]

pub returns-in_err-reason-in-Algorithm-clause-err : goal.returns-in_err-reason-in-Algorithm-clause-err
returns-in_err-reason-in-Algorithm-clause-err c =
    let old = standing c.args.folds.now in
    let new = standing c.step.new.self in
    let P : FoldStep → Type 0 = λ s. PriosAfter s old.parts.prios new.parts.prios in
    let same = ap at_rest (subst P c.in-Algorithm.is (step-prios old new c.in_ok-a.field-0 c.in_ok-a.ensures.step)) in
    err-holds c.from_residual-in_err-reason-in-Algorithm.result same

pub returns-in_err-arguments-in-Listener-clause-err : goal.returns-in_err-arguments-in-Listener-clause-err
returns-in_err-arguments-in-Listener-clause-err c =
    let old = standing c.args.folds.now in
    let new = standing c.step.new.self in
    let P : FoldStep → Type 0 = λ s. PriosAfter s old.parts.prios new.parts.prios in
    let same = ap at_rest (subst P c.in-Listener.is (step-prios old new c.in_ok-a.field-0 c.in_ok-a.ensures.step)) in
    err-holds c.from_residual-in_err-arguments-in-Listener.result same
