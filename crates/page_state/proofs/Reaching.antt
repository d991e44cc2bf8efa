-- Calls that begin a fold or go on with one, as steps of the page as a host.
use Rattle.std.proofs.Common.{◌≡◌, ℕ, ◌-◌, List, [], ◌∷◌, length, map, refl, sym, ◌∙◌, ap, subst, arith, Option, Some, None, Result, Ok, Err}
use Rattle.std.specs.Result.{IsErrAnd}
use Rattle.std.proofs.lemmas.List.{length-map}
use Rattle.page_types.specs.Values.{Value, FunValue}
use Rattle.page_types.specs.Events.{Stamped}
use Rattle.lang_meaning.specs.HostSteps.{StepInvoke, Stepped}
use Rattle.lang_ast.specs.declared.host.HostStep.{HostStep}
use Rattle.lang_ast.specs.declared.host.HostStep.TheVariants as code
use Rattle.lang_ast.specs.Steps.{seen_step}
use Rattle.page_values.specs.declared.Value.TheVariants as code_values
use Rattle.page_parts.specs.Kinds.{Func}
use Rattle.page_model.specs.State.{Page, the_registration}
use Rattle.page_model.specs.Invoke.{when_reported, call_begun}
use Rattle.page_model.specs.Additions.{after}
use Rattle.page_model.specs.Folds.{Fold, Reached, Finished, Calls, begin_listener}
use Rattle.page_model.specs.PageHost.{Hosting, with_folds, reached_step}
use Rattle.trace_text.specs.Line.{Line}
use Rattle.trace_text.specs.declared.lines.NoLine.{NoLine}
use Rattle.trace_text.specs.Given.{Keeping, Seen, Gives}
use Rattle.trace_text.specs.Acts.{Act, At, seq, Does as HostDoes}
use Rattle.trace_text.proofs.Giving.{Gives-none}
use Rattle.trace_text.proofs.Doing.{Does-then, Does-stop}
use Rattle.page_notices.proofs.Timing.{Does-memory}
use Rattle.page_script.specs.PageActs.{bare, lines_of}
use Rattle.page_script.proofs.Lifting.{lines_of-append, Does-same}
use Rattle.page_rules.specs.FoldActs.{reached_after}
use Rattle.page_folds.specs.OfModel.{left_in, meaning}
use Rattle.page_signals.specs.Signalling.{Open, Signalling}
use Rattle.page_signals.specs.Steps.{Visit, Listener, stepped, reported_in}
use Rattle.page_signals.specs.Kept.{AreFitting}
use Rattle.page_signals.specs.Laws.{as_fold, innermost_meaning, listener_meaning, visit_meaning, CallsWith, IsCalling}
use Rattle.page_signals.proofs.LawLemmas.{page-step, page-calling}
use Rattle.page_state.specs.Standing.{Standing, page_of, port_of, holding}
use Rattle.page_state.specs.PageActs.{on_page, at, Does, IsWanted}
use Rattle.page_state.specs.FoldActs.{hosting_of, host_at, stepping, Reaches, rest_step, around, signalling_in, Called, called_with, called_by, called_or_ended, listener_called}
use Rattle.page_state.proofs.FoldAdding.{innermost-adds}
use Rattle.page_state.proofs.Listened.{no-callback}

-- a step with other events before its own
abbrev step_after : List Stamped → Stepped Hosting → Stepped Hosting
step_after es step = record step { host = with_folds step.host.folds (after es step.host.page) }

reached-after : (es : List Stamped) (folds : List Fold) (r : Reached) → reached_step folds (reached_after es r) ≡ step_after es (reached_step folds r)
reached-after es folds (Finished p) = refl
reached-after es folds (Calls f fold p) = refl

-- these lines, and this state
abbrev giving : List Line → Hosting → Act Hosting
giving lines to h = record { state = to; lines = lines }

stepping-after : (es : List Stamped) (step : Stepped Hosting) (h to : Hosting) → stepping (step_after es step) h ≡ seq (giving (lines_of es) to) (stepping step) h
unfolding stepping seq
stepping-after es step h to =
    ap (λ ls. record { state = with_folds step.host.folds (bare step.host.page); lines = ls }) (lines_of-append step.host.page.events es)

module _ {T : Type 0} {k : Keeping T} where
  -- lines that were given, and then a step
  reaches-after : (es : List Stamped) (step : Stepped Hosting) (s mid : Standing) {old seen : Seen T} {new : At Standing T} (r : Result HostStep NoLine)
      → port_of mid ≡ port_of s → Gives k old (lines_of es) None seen
      → Reaches k (at mid seen) step r new → Reaches k (at s old) (step_after es step) r new
  reaches-after es step s mid {seen = seen} r port given h =
      record {
        does =
            Does-same (seq (giving (lines_of es) (hosting_of mid)) (stepping step)) (stepping (step_after es step)) (sym (stepping-after es step (hosting_of s) (hosting_of mid)))
            (Does-then (record { lines = given; state = λ _. refl }) h.does);
        port = h.port ∙ port;
        answer = h.answer;
      }

  -- the page did g, which is the start of what is left, and the rest comes behind it
  pub Reaches-more : (X : Reached) (folds : List Fold) (g : Page → Page) (s mid : Standing) {old seen : Seen T} {last : Standing} {new : At Standing T} (r : Result HostStep NoLine)
      → X ≡ innermost_meaning mid.folds (g (page_of mid)) → map as_fold (around mid.folds) ≡ folds → port_of mid ≡ port_of s
      → Does k (at mid old) (on_page g) None (at last seen) → Reaches k (at last seen) (rest_step last) r new → Reaches k (at s old) (reached_step folds X) r new
  unfolding on_page
  Reaches-more X folds g s mid {old = old} {seen = seen} {last = last} {new = new} r is outside port done h =
      let q = g (page_of mid) in
      let es = q.events in
      let end = holding q mid in
      let P : Standing → Type 0 = λ t. Reaches k (at t seen) (rest_step t) r new in
      let Q : Stepped Hosting → Type 0 = λ step. Reaches k (at s old) step r new in
      let same : step_after es (rest_step end) ≡ reached_step folds X =
      sym (reached-after es (map as_fold (around mid.folds)) (innermost_meaning mid.folds (page_of end)))
      ∙ ap (reached_step (map as_fold (around mid.folds))) (sym (innermost-adds es mid.folds (page_of end)))
      ∙ ap (λ fs. reached_step fs (innermost_meaning mid.folds q)) outside
      ∙ ap (reached_step folds) (sym is)
      in
      subst Q same (reaches-after es (rest_step end) s end r port done.acts.lines (subst P (done.acts.state refl) h))

  -- the exit of a `?`
  pub Reaches-err : (step : Stepped Hosting) (s : Standing) {old : Seen T} {new : At Standing T} (e : Result HostStep NoLine) {why : NoLine} → IsErrAnd e (λ x. x ≡ why)
      → HostDoes k (host_at (at s old)) (stepping step) (Some why) (host_at new) → port_of new.state ≡ port_of s → Reaches k (at s old) step e new
  Reaches-err step s (Ok x) err h port = absurd err
  Reaches-err step s {old = old} {new = new} (Err x) err h port =
      let P : NoLine → Type 0 = λ w. HostDoes k (host_at (at s old)) (stepping step) (Some w) (host_at new) in
      record { does = subst P (sym err) h; port = port; answer = tt }

  -- one that wants memory, before any line
  pub Reaches-wants : (step : Stepped Hosting) (s mid : Standing) (seen : Seen T) (e : Result HostStep NoLine) {why : NoLine} → IsErrAnd e (λ x. x ≡ why) → IsWanted why s mid
      → Reaches k (at s seen) step e (at mid seen)
  Reaches-wants step s mid seen e {why = why} err memory =
      let P : NoLine → Type 0 = λ w. HostDoes k (host_at (at s seen)) (stepping step) (Some w) (host_at (at mid seen)) in
      Reaches-err step s e err (subst P (sym memory.memory) (Does-memory k (stepping step) (hosting_of s) (hosting_of mid) seen)) memory.port

  -- one among the lines of g, with which X begins
  pub Reaches-stops : (X X' : Reached) (folds : List Fold) (g : Page → Page) (s mid : Standing) {old : Seen T} {new : At Standing T} (e : Result HostStep NoLine) {why : NoLine}
      → X ≡ reached_after (g (page_of mid)).events X' → IsErrAnd e (λ x. x ≡ why) → port_of mid ≡ port_of s
      → Does k (at mid old) (on_page g) (Some why) new → Reaches k (at s old) (reached_step folds X) e new
  unfolding on_page
  Reaches-stops X X' folds g s mid {old = old} {new = new} e {why = why} is err port h =
      let es = (g (page_of mid)).events in
      let R = reached_step folds X' in
      let same : step_after es R ≡ reached_step folds X = sym (reached-after es folds X') ∙ ap (reached_step folds) (sym is) in
      let Q : Stepped Hosting → Type 0 = λ step. HostDoes k (host_at (at s old)) (stepping step) (Some why) (host_at new) in
      Reaches-err (reached_step folds X) s e err (subst Q same
      (Does-same (seq (giving (lines_of es) (hosting_of s)) (stepping R)) (stepping (step_after es R)) (sym (stepping-after es R (hosting_of s) (hosting_of s)))
      (Does-stop (stepping R) (record { lines = h.acts.lines; state = λ w. absurd (let never : ⊥ = Prim.cc in never) })))) (h.port ∙ port)

  -- where g is the start of what is left
  pub Reaches-stop : (X : Reached) (folds : List Fold) (g : Page → Page) (s mid : Standing) {old : Seen T} {new : At Standing T} (e : Result HostStep NoLine) {why : NoLine}
      → X ≡ innermost_meaning mid.folds (g (page_of mid)) → IsErrAnd e (λ x. x ≡ why) → port_of mid ≡ port_of s
      → Does k (at mid old) (on_page g) (Some why) new → Reaches k (at s old) (reached_step folds X) e new
  Reaches-stop X folds g s mid e is err port h =
      let p = page_of (holding (g (page_of mid)) mid) in
      Reaches-stops X (innermost_meaning mid.folds p) folds g s mid e (is ∙ innermost-adds (g (page_of mid)).events mid.folds p) err port h

  -- the end: nothing is left
  pub Reaches-end : (X : Reached) (folds : List Fold) (s mid : Standing) (seen : Seen T) → X ≡ Finished (page_of mid) → map as_fold mid.folds ≡ folds
      → port_of mid ≡ port_of s → Reaches k (at s seen) (reached_step folds X) (Ok (code.Value code_values.Unit)) (at mid seen)
  unfolding stepping
  Reaches-end X folds s mid seen is outside port =
      let done : Stepped Hosting = reached_step folds (Finished (page_of mid)) in
      let Q : Reached → Type 0 = λ x. Reaches k (at s seen) (reached_step folds x) (Ok (code.Value code_values.Unit)) (at mid seen) in
      subst Q (sym is) (record {
        does = record { lines = Gives-none k seen; state = λ _. ap (λ fs. with_folds fs (page_of mid)) outside };
        port = port;
        answer = refl;
      })

-- ---- the steps of a fold

-- what is left of the innermost fold is its next step, and what comes behind it
pub visit-is : (s : Standing) (v : Visit) (st : Signalling) → (v, st) ≡ stepped (signalling_in s) → AreFitting (signalling_in s) → AreFitting st
    → innermost_meaning s.folds (page_of s) ≡ visit_meaning (v, st) (page_of s)
visit-is s v st is before after =
    let P : Visit × Signalling → Type 0 = λ a. AreFitting a.1 in
    page-step (signalling_in s) (page_of s) before (subst P is after) ∙ ap (λ a. visit_meaning a (page_of s)) (sym is)

-- the arguments of the fold that calls a listener
pub visit-calls : (s : Standing) (r : ℕ) (args : List Value) (st : Signalling) → (Listener r args, st) ≡ stepped (signalling_in s) → CallsWith args st.folds
visit-calls s r args st is = let P : Visit × Signalling → Type 0 = IsCalling in subst P (sym is) (page-calling (signalling_in s))

-- a listener with no callback
pub listener-ended : (os : List Open) (r : ℕ) (args : List Value) (p : Page) → CallsWith args os → None ≡ called_by p r
    → listener_meaning os r args p ≡ innermost_meaning os (listener_called r p)
listener-ended [] r args p calls none = absurd calls
listener-ended (o ∷ os) r args p calls none =
    let when = when_reported (the_registration p r).role in
    let e = no-callback (the_registration p r).callback when none in
    ap (λ f. begin_listener f when args (left_in o.fold.stage) o.fold.rest (meaning o.kind o.fold) (call_begun r p)) e
    ∙ sym (ap (λ f. meaning o.kind o.fold (called_or_ended f r p)) e)

-- one that has a callback
pub record IsCall (os : List Open) (r : ℕ) (args : List Value) (p : Page) (c : Called) : Type 0 where
  pub callback : Func
  pub fold : Fold
  pub value : FunValue callback.function callback.bound ≡ c.callback
  pub called : listener_called r p ≡ call_begun r p
  pub is : listener_meaning os r args p ≡ Calls callback fold (call_begun r p)
  pub gets : fold.args ≡ args
  pub opened : map as_fold (reported_in c.when os) ≡ fold ∷ map as_fold (around os)
  pub ticket : length os - 1 ≡ length (map as_fold (around os))

pub listener-call : (os : List Open) (r : ℕ) (args : List Value) (p : Page) (c : Called) → CallsWith args os → Some c ≡ called_by p r → IsCall os r args p c
listener-call [] r args p c calls some = absurd calls
listener-call (o ∷ os) r args p c calls some = by (the_registration p r).callback refl some
  where
    by : (f : Option Func) → (the_registration p r).callback ≡ f → Some c ≡ called_with f (when_reported (the_registration p r).role) → IsCall (o ∷ os) r args p c
    by None e some = absurd (let never : ⊥ = Prim.cc in never)
    by (Some f) e some =
        let when = when_reported (the_registration p r).role in
        let called : Called = record { callback = FunValue f.function f.bound; when = when } in
        let same : c ≡ called = Prim.cc in
        record {
          callback = f;
          fold = as_fold (record o { when = when });
          value = ap (λ (x : Called). x.callback) (sym same);
          called = ap (λ f. called_or_ended f r p) e;
          is =
              ap (λ f. begin_listener f when args (left_in o.fold.stage) o.fold.rest (meaning o.kind o.fold) (call_begun r p)) e
              ∙ ap (λ xs. Calls f (record { when = when; args = xs; listeners = left_in o.fold.stage; rest = o.fold.rest }) (call_begun r p)) (sym calls);
          gets = calls;
          opened = ap (λ (x : Called). as_fold (record o { when = x.when }) ∷ map as_fold os) same;
          ticket = omega (arith, length-map os as_fold);
        }

module _ {T : Type 0} {k : Keeping T} (s mid : Standing) (r : ℕ) (args : List Value) (c : Called) (call : IsCall mid.folds r args (page_of mid) c)
    (is : innermost_meaning s.folds (page_of s) ≡ listener_meaning mid.folds r args (page_of mid)) where
  -- its line was not taken
  pub Reaches-uncalled : {old : Seen T} {new : At Standing T} (e : Result HostStep NoLine) {why : NoLine} → IsErrAnd e (λ x. x ≡ why) → port_of mid ≡ port_of s
      → Does k (at mid old) (on_page (listener_called r)) (Some why) new → Reaches k (at s old) (rest_step s) e new
  Reaches-uncalled e err port h =
      let p = page_of mid in
      Reaches-stops (innermost_meaning s.folds (page_of s)) (Calls call.callback call.fold (page_of (holding (listener_called r p) mid))) (map as_fold (around s.folds)) (listener_called r) s mid e
      (is ∙ call.is ∙ ap (Calls call.callback call.fold) (sym call.called)) err port h

  -- it is called
  pub Reaches-called : {old seen' : Seen T} {last : Standing} (next : HostStep) → around mid.folds ≡ around s.folds → port_of mid ≡ port_of s
      → Does k (at mid old) (on_page (listener_called r)) None (at last seen') → seen_step next ≡ StepInvoke c.callback args (length last.folds - 1)
      → Reaches k (at s old) (rest_step s) (Ok next) (at (record last { folds = reported_in c.when last.folds }) seen')
  unfolding on_page stepping
  Reaches-called {old = old} {seen' = seen'} {last = last} next outside port h answer =
      let folds = map as_fold (around s.folds) in
      let p = page_of mid in
      let end = holding (call_begun r p) mid in
      let X = innermost_meaning s.folds (page_of s) in
      let x : X ≡ Calls call.callback call.fold (call_begun r p) = is ∙ call.is in
      let Q : Reached → Type 0 = λ x. Reaches k (at s old) (reached_step folds x) (Ok next) (at (record last { folds = reported_in c.when last.folds }) seen') in
      let L : Page → Type 0 = λ q. Gives k old (lines_of q.events) None seen' in
      let ends : last ≡ end = h.acts.state refl ∙ ap (λ q. holding q mid) call.called in
      let around_is : map as_fold (around mid.folds) ≡ folds = ap (map as_fold) outside in
      subst Q (sym x) (record {
        does = record {
          lines = subst L call.called h.acts.lines;
          state = λ _.
              ap (λ t. hosting_of (record t { folds = reported_in c.when t.folds })) ends
              ∙ ap (λ fs. with_folds fs (page_of end)) (call.opened ∙ ap (λ fs. call.fold ∷ fs) around_is);
        };
        port = h.port ∙ port;
        answer =
            answer ∙ ap (λ v. StepInvoke v args (length last.folds - 1)) (sym call.value)
            ∙ ap (λ xs. StepInvoke (FunValue call.callback.function call.callback.bound) xs (length last.folds - 1)) (sym call.gets)
            ∙ ap (λ n. StepInvoke (FunValue call.callback.function call.callback.bound) call.fold.args n)
            (ap (λ (t : Standing). length t.folds - 1) ends ∙ call.ticket ∙ ap length around_is);
      })
