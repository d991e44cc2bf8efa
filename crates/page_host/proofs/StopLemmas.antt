-- What stays of a page behind a call, by how what it did to the page's parts ended.
use Rattle.std.proofs.Common.{◌≡◌, ℕ, ◌≤◌, ◌<◌, ◌^◌, arith, refl, sym, ◌∙◌, ap, subst, Option, None, Result, Ok, Err}
use Rattle.std.specs.Result.{result_err}
use Rattle.page_types.specs.Counts.{refusals_after}
use Rattle.page_model.specs.State.{Page}
use Rattle.page_model.specs.FoldBounds.{HostIsBounded}
use Rattle.trace_text.specs.declared.lines.NoLine.{NoLine}
use Rattle.trace_text.specs.declared.lines.NoLine.TheVariants.{Failed, Differs, OutOfMemory}
use Rattle.trace_text.specs.Given.{Keeping, Seen}
use Rattle.trace_text.specs.Acts.{Act, At}
use Rattle.page_state.specs.Standing.{Standing}
use Rattle.page_state.specs.PageActs.{at, on_page, changed_by, Does}
use Rattle.page_state.specs.FoldActs.{hosting_of}
use Rattle.page_operations.specs.Asked.{functions_of}
use Rattle.page_host.specs.PageNow.{PageNow, IsWhole}
use Rattle.page_host.specs.Marked.{IsSince}
use Rattle.page_host.proofs.Counts.{since-given}
use Rattle.page_host.specs.Stops.{stop_result, stopped_after, fault_of, KeepsSetting}
use Rattle.page_host.specs.declared.stop.PageStop.{PageStop}
use Rattle.page_host.proofs.Leaving.{Leaves, changed-bounded, changed-functions}

fault-is : {X : Type 0} (done : Result X NoLine) → fault_of (stop_result done) ≡ result_err done
fault-is (Ok x) = refl
fault-is (Err Failed) = refl
fault-is (Err Differs) = refl
fault-is (Err OutOfMemory) = refl

-- the fault that a call answers is the one that it met
pub does-stopped : {T X : Type 0} {k : Keeping T} {act : Act Standing} {old new : At Standing T} (done : Result X NoLine) (result : Result X PageStop)
    → result ≡ stop_result done → Does k old act (result_err done) new → Does k old act (fault_of result) new
does-stopped {X = X} {k = k} {act = act} {old = old} {new = new} done result answer h =
    subst (λ (why : Option NoLine). Does k old act why new) (sym (ap (λ (r : Result X PageStop). fault_of r) answer ∙ fault-is done)) h

count-fits : {X : Type 0} (before after : ℕ) (done : Result X NoLine) → after ≡ refusals_after before done → before < 2 ^ 64 → after < 2 ^ 64
count-fits before after (Ok x) e h = omega (arith, e, h)
count-fits before after (Err why) e h = omega (arith, e, h)

after-is : {X : Type 0} {before : Option NoLine} (done : Result X NoLine) → before ≡ None → stopped_after before done ≡ result_err done
after-is (Ok x) e = e
after-is (Err why) e = refl

module _ {T X : Type 0} {k : Keeping T} (f : Page → Page) (P : Standing → Type 0) {old s : Standing} {before after : Seen T} {stopped stopped' : Option NoLine} where
  -- what the change leaves stays, where the call did not stop
  still : (done : Result X NoLine) → (P old → P (changed_by f old)) → stopped' ≡ stopped_after stopped done
      → Does k (at old before) (on_page f) (result_err done) (at s after) → (stopped ≡ None → P old) → stopped' ≡ None → P s
  unfolding on_page
  still (Ok x) keeps told does was none = subst P (sym (does.acts.state refl)) (keeps (was (sym told ∙ none)))
  still (Err why) keeps told does was none = absurd (cc)

-- a page stays whole, where no fuel came
pub stays-whole : {L T X : Type 0} {k : Keeping T} (f : Page → Page) → Leaves f → (seen : L → Seen T) {old new : PageNow L} → IsWhole seen old → old.stopped ≡ None
    → (done : Result X NoLine) → new.stopped ≡ stopped_after old.stopped done → new.stops ≡ refusals_after old.stops done → KeepsSetting old new → new.fuel ≤ old.fuel
    → Does k (at old.state (seen old.lines)) (on_page f) (result_err done) (at new.state (seen new.lines)) → IsWhole seen new
stays-whole {L = L} {k = k} f leaves seen {old = old} {new = new} whole running done told counted same less does =
    record {
      bounded = still f (λ (s : Standing). HostIsBounded (hosting_of s)) done (changed-bounded f leaves old.state) told does whole.bounded;
      functions =
          λ e. still f (λ (s : Standing). functions_of s ≡ old.functions) done (λ e. changed-functions f leaves old.state ∙ e) told does whole.functions e
          ∙ sym same.functions;
      fuel = let h = whole.fuel in omega (arith, less, h);
      stops = count-fits old.stops new.stops done counted whole.stops;
      since =
          let P : L → Type 0 = λ l. IsSince (seen l) new.stopped (seen new.lines) in
          let Q : Option NoLine → Type 0 = λ why. IsSince (seen old.since) why (seen old.lines) in
          let R : Option NoLine → Type 0 = λ why. IsSince (seen old.since) why (seen new.lines) in
          subst P (sym same.since) (subst R (sym (told ∙ after-is done running)) (since-given {k = k} (result_err done) (subst Q running whole.since) does.acts.lines));
    }
