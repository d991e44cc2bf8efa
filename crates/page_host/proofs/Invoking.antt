-- The call of a callback, from what its parts do: how a method's answer goes.
use Rattle.std.proofs.Common.{ℕ, List, refl, Bool, Option, None}
use Rattle.page_types.specs.Values.{Value}
use Rattle.page_types.specs.Events.{Stamped}
use Rattle.lang_meaning.specs.Machine.{hosted, Done, and_then, afterwards, finish}
use Rattle.page_model.specs.State.{Page, State, on_page, the_registration}
use Rattle.page_model.specs.Invoke.{Ways, WhenReported, when_reported, callback_of, call_back, end_of_callback, invoke, settle_derived, call_begun}
use Rattle.lang_meaning.proofs.Following.{and_then-follows, afterwards-follows}
use Rattle.page_model.specs.Additions.{after, AddsAll}
use Rattle.page_model.proofs.Adding.Runs.{WaysAdd, call_back-adds, end_of_callback-adds, settle_derived-adds}
use Rattle.trace_text.specs.declared.lines.NoLine.{NoLine}
use Rattle.trace_text.specs.Given.{Keeping}
use Rattle.trace_text.specs.Acts.{At, Does}
use Rattle.page_script.specs.PageActs.{bare, act}
use Rattle.page_host.specs.StateActs.{How, ended, Steps}
use Rattle.page_host.proofs.DoingState.{ThroughAdds, Steps-then, Steps-page, with_page}

-- ---- what may come behind a step

pub through-and_then : (next : Value → State → Done Page) → ((es : List Stamped) (v : Value) → AddsAll es (next v)) → ThroughAdds (λ d. and_then d next)
through-and_then next k es d = and_then-follows (after es) d _ next next refl (k es)

pub through-afterwards : (next : State → Done Page) → ((es : List Stamped) → AddsAll es next) → ThroughAdds (λ d. afterwards d next)
through-afterwards next k es d = afterwards-follows (after es) d _ next next refl (k es)

pub through-end_of_callback : (w : Ways) → ((es : List Stamped) → WaysAdd es w) → (when : WhenReported) → ThroughAdds (end_of_callback w.after when)
through-end_of_callback w a when es d = end_of_callback-adds es w.after (a es).after when d

pub through-settle_derived : (into : ℕ) → ThroughAdds (settle_derived into)
through-settle_derived into es d = settle_derived-adds es into d

-- ---- calls on the page before a step, and steps that the state asks for

pub Steps-page_then : {T : Type 0} {k : Keeping T} (m : State) (f : Page → Page) (next : State → Done Page) {old mid : At Page T} {new : At State T} {why : Option NoLine} {how : How} → ((es : List Stamped) → AddsAll es next) → Does k old (act f) None mid → Steps k (with_page m mid) next why how new → Steps k (with_page m old) (λ m. next (on_page f m)) why how new
Steps-page_then m f next only h rest = Steps-then (λ m. finish (on_page f m)) (λ d. afterwards d next) (through-afterwards next only) (Steps-page m f h) rest

pub Steps-asked : {T : Type 0} {k : Keeping T} (choose : State → State → Done Page) (old : At State T) {new : At State T} {why : Option NoLine} {how : How} → Steps k old (choose (hosted bare old.state)) why how new → Steps k old (λ m. choose m m) why how new
Steps-asked choose old h = record { lines = h.lines; state = h.state }

-- ---- a callback

invoke_of : Ways → ℕ → Bool → List Value → State → State → Done Page
invoke_of w r second args entry m =
    end_of_callback w.after (when_reported (the_registration entry.host r).role) (call_back w.call (callback_of second (the_registration entry.host r)) args (on_page (call_begun r) m))

-- its beginning with its line, the call, and its end
pub invoke-does : {T : Type 0} {k : Keeping T} (w : Ways) (r : ℕ) (second : Bool) (args : List Value) (m : State) {old called : At Page T} {mid new : At State T} {why : Option NoLine} {how how' : How} → ((es : List Stamped) → WaysAdd es w)
    → Does k old (act (call_begun r)) None called
    → Steps k (with_page m called) (call_back w.call (callback_of second (the_registration old.state r)) args) None how mid
    → Steps k mid (λ m. end_of_callback w.after (when_reported (the_registration old.state r).role) (ended how m)) why how' new
    → Steps k (with_page m old) (invoke w r second args) why how' new
unfolding invoke_of
invoke-does w r second args m {old = old} only line call end =
    let called_back = call_back w.call (callback_of second (the_registration old.state r)) args in
    Steps-asked (invoke_of w r second args) (with_page m old)
    (Steps-then (λ m. called_back (on_page (call_begun r) m)) (end_of_callback w.after (when_reported (the_registration old.state r).role)) (through-end_of_callback w only (when_reported (the_registration old.state r).role))
    (Steps-page_then m (call_begun r) called_back (λ es. call_back-adds es w.call (only es).call (callback_of second (the_registration old.state r)) args) line call) end)
