-- Where a call of a page stopped, as the stop of a run; and what the page's own work leaves.
use Rattle.std.specs.Prelude.{◌≢◌}
use Rattle.std.specs.Option.{option_map}
use Rattle.std.specs.Result.{IsErrAnd}
use Rattle.std.specs.Prelude.{◌==◌}
use Rattle.std.proofs.Common.{◌≡◌, ◌≤◌, ℕ, Bool, true, false, cond, List, eqb-true, arith, refl, sym, ◌∙◌, ap, subst, Option, Some, None, ℤ, Result, Ok, Err}
use Rattle.page_model.specs.State.{Page}
use Rattle.page_types.specs.Events.{Stamped}
use Rattle.page_types.specs.declared.End.{End}
use Rattle.lang_meaning.specs.Following.{CallsFollow}
use Rattle.page_model.specs.Additions.{after}
use Rattle.page_model.proofs.Adding.Operations.{outside-adds}
use Rattle.page_model.proofs.Bounding.Leaving.{Part, parallel-leaves}
use Rattle.page_interp.specs.MachineNow.{MachineNow, program_in}
use Rattle.page_host.specs.Moments.{calling}
use Rattle.page_parts.specs.Words.{is_empty}
use Rattle.page_model.specs.Parallel.{parallel}
use Rattle.page_model.specs.PageTime.{idle_step}
use Rattle.page_model.specs.View.{view}
use Rattle.trace_text.specs.declared.lines.NoLine.{NoLine}
use Rattle.trace_text.specs.declared.lines.NoLine.TheVariants.{Failed, Differs, OutOfMemory}
use Rattle.trace_text.specs.Given.{Keeping, Seen, Gives as TakesLines}
use Rattle.trace_text.specs.Acts.{At}
use Rattle.trace_text.proofs.Giving.{Gives-none}
use Rattle.page_script.specs.PageActs.{bare, lines_of}
use Rattle.page_state.specs.Standing.{Standing, page_of, holding}
use Rattle.page_state.specs.PageActs.{at, on_page, Does}
use Rattle.page_host.specs.PageNow.{PageNow, stop_of}
use Rattle.page_host.specs.Stops.{PageDoes, Stops, KeepsSetting}
use Rattle.page_host.specs.declared.stop.PageStop.{PageStop}
use Rattle.page_host.specs.declared.stop.PageStop.TheVariants as page
use Rattle.loop_turn.specs.RunStops.{run_stop_of, stop_fault, readings_at, choices_at, readings_refused, choices_refused}
use Rattle.loop_turn.specs.Answers.{AreKept}
use Rattle.loop_turn.specs.Waiting.{items_taken, idled}
use Rattle.loop_turn.specs.TurnActs.{Acts, CanTurn, IfGoesOn, PortAt, PortRefuses}
use Rattle.loop_turn.specs.declared.run_stop.RunStop.{RunStop}
use Rattle.loop_turn.specs.declared.run_stop.RunStop.TheVariants as stop

-- ---- a stop

not-host : (stopped : Option NoLine) → option_map stop_of stopped ≡ Some page.NoHost → ⊥
not-host None e = cc
not-host (Some Failed) e = cc
not-host (Some Differs) e = cc
not-host (Some OutOfMemory) e = cc

-- what is known of a stop for a fault of the lines, or for want of memory, is known of the run's stop
pub act-exit : {L T X : Type 0} {k : Keeping T} {seen : L → Seen T} {old new : PageNow L} (f : Page → Page) (P : Option NoLine → Type 0) (why : PageStop)
    → PageDoes {X = X} k seen old (on_page f) (Err why) new → Stops {X = X} seen old (Err why) new
    → ((fault : NoLine) → Does k (at old.state (seen old.lines)) (on_page f) (Some fault) (at new.state (seen new.lines)) → P (Some fault)) → P (stop_fault (run_stop_of why))
act-exit f P page.WriteFault does stops go = go Failed does
act-exit f P page.Differs does stops go = go Differs does
act-exit {new = new} f P page.NoHost does stops go = absurd (not-host new.stopped stops.told.0)
act-exit f P page.OutOfMemory does stops go = go OutOfMemory does

-- the host port did not refuse
pub act-port : {L T X : Type 0} {seen : L → Seen T} {old new : PageNow L} (why : PageStop) (before after : ℕ) → Stops {X = X} seen old (Err why) new → PortAt (run_stop_of why) before after
act-port page.WriteFault before after stops = tt
act-port page.Differs before after stops = tt
act-port {new = new} page.NoHost before after stops = absurd (not-host new.stopped stops.told.0)
act-port page.OutOfMemory before after stops = tt

-- nor did the clock or the chooser
pub page-reads : (why : PageStop) (before : ℕ) → before ≡ readings_at before (run_stop_of why)
page-reads page.WriteFault before = refl
page-reads page.Differs before = refl
page-reads page.NoHost before = refl
page-reads page.OutOfMemory before = refl

pub page-chooses : (why : PageStop) (before : ℕ) → before ≡ choices_at before (run_stop_of why)
page-chooses page.WriteFault before = refl
page-chooses page.Differs before = refl
page-chooses page.NoHost before = refl
page-chooses page.OutOfMemory before = refl

pub no-reading : (why : PageStop) → run_stop_of why ≢ stop.NoReading
no-reading page.WriteFault e = cc
no-reading page.Differs e = cc
no-reading page.NoHost e = cc
no-reading page.OutOfMemory e = cc

pub no-choice : (why : PageStop) → run_stop_of why ≢ stop.NoChoice
no-choice page.WriteFault e = cc
no-choice page.Differs e = cc
no-choice page.NoHost e = cc
no-choice page.OutOfMemory e = cc

-- ---- what the page's own work leaves

module _ {T : Type 0} {k : Keeping T} {s s' : Standing} {old new : Seen T} (f : Page → Page) where
  state-is : Does k (at s old) (on_page f) None (at s' new) → s' ≡ holding (f (page_of s)) s
  unfolding on_page
  state-is h = h.acts.state refl

module _ {T : Type 0} {k : Keeping T} {s s' : Standing} {old new : Seen T} (f : Page → Page) (does : Does k (at s old) (on_page f) None (at s' new)) where
  pub work-folds : s'.folds ≡ s.folds
  work-folds = ap (λ (s : Standing). s.folds) (state-is f does)

  pub work-kept : s'.kept ≡ s.kept
  work-kept = ap (λ (s : Standing). s.kept) (state-is f does)

  pub work-refusals : s'.refusals ≡ s.refusals
  work-refusals = ap (λ (s : Standing). s.refusals) (state-is f does)

  pub work-page : page_of s' ≡ bare (f (page_of s))
  work-page = ap page_of (state-is f does)

-- a turn can still be done
pub work-can : {L T X : Type 0} {k : Keeping T} {seen : L → Seen T} {old new : PageNow L} (f : Page → Page) → Does k (at old.state (seen old.lines)) (on_page f) None (at new.state (seen new.lines))
    → (x : X) (m : MachineNow) (until : ℕ) → Stops seen old (Ok x) new → KeepsSetting old new → CanTurn m old until → CanTurn m new until
work-can f does x m until stops setting can = record {
  running = stops.told.0 ∙ can.running;
  at_rest = work-folds f does ∙ can.at_rest;
  functions = can.functions ∙ sym setting.functions;
  ends = setting.until ∙ can.ends;
  soon = can.soon;
}

-- by whatever answer
pub goes-map : (r : Result (Option End) RunStop) (P Q : Type 0) → (P → Q) → IfGoesOn r P → IfGoesOn r Q
goes-map (Ok None) P Q f h = f h
goes-map (Ok (Some end)) P Q f h = tt
goes-map (Err why) P Q f h = tt

-- ---- nothing is done

module _ {T : Type 0} (k : Keeping T) (f : Page → Page) (s : Standing) (seen : Seen T) (same : f (page_of s) ≡ page_of s) where
  nothing-does : Does k (at s seen) (on_page f) None (at s seen)
  unfolding on_page
  nothing-does = record {
    acts = record {
      lines = let P : Page → Type 0 = λ p. TakesLines k seen (lines_of p.events) None seen in subst P (sym same) (Gives-none k seen);
      state = λ w. ap (λ p. holding p s) (sym same);
    };
    port = refl;
  }

pub acts-nothing : {L T X : Type 0} (k : Keeping T) (seen : L → Seen T) (p : PageNow L) (f : Page → Page) (x : X) → f (page_of p.state) ≡ page_of p.state → Acts k seen p f (Ok x) p
acts-nothing k seen p f x same = record {
  does = nothing-does k f p.state (seen p.lines) same;
  stops = record { told = (refl, refl); failed = λ e. absurd (cc); differs = refl };
  fuel = refl;
  setting = record { since = refl; until = refl; functions = refl };
}

-- the same work in other words
module _ {T : Type 0} {k : Keeping T} {s : Standing} {old : Seen T} {why : Option NoLine} {new : At Standing T} (f g : Page → Page) (same : g (page_of s) ≡ f (page_of s)) where
  does-same : Does k (at s old) (on_page f) why new → Does k (at s old) (on_page g) why new
  unfolding on_page
  does-same h = record {
    acts = record {
      lines = let P : Page → Type 0 = λ p. TakesLines k old (lines_of p.events) why new.seen in subst P (sym same) h.acts.lines;
      state = λ w. h.acts.state w ∙ ap (λ p. holding p s) (sym same);
    };
    port = h.port;
  }

pub acts-same : {L T X : Type 0} {k : Keeping T} {seen : L → Seen T} {old new : PageNow L} {result : Result X PageStop} (f g : Page → Page) → g (page_of old.state) ≡ f (page_of old.state)
    → Acts k seen old f result new → Acts k seen old g result new
acts-same f g same a = record { does = does-same f g same a.does; stops = a.stops; fuel = a.fuel; setting = a.setting }

-- ---- the exit of a `?`, by who refuses

-- by what is known of the error
exit-is : {X : Type 0} (P : Result X RunStop → Type 0) (r : Result X RunStop) (why : RunStop) → IsErrAnd r (λ e. e ≡ why) → P (Err why) → P r
exit-is P (Ok x) why is h = absurd is
exit-is P (Err e) why is h = subst (λ w. P (Err w)) (sym is) h

pub port-exit : {X : Type 0} (r : Result X RunStop) (why : RunStop) → IsErrAnd r (λ e. e ≡ why) → (before after : ℕ) → PortAt why before after → PortRefuses r before after
port-exit r why is before after h = exit-is (λ r. PortRefuses r before after) r why is h

pub reads-exit : {X : Type 0} (r : Result X RunStop) (why : RunStop) → IsErrAnd r (λ e. e ≡ why) → (before after : ℕ) → after ≡ readings_at before why → after ≡ readings_refused before r
reads-exit r why is before after h = exit-is (λ r. after ≡ readings_refused before r) r why is h

pub chooses-exit : {X : Type 0} (r : Result X RunStop) (why : RunStop) → IsErrAnd r (λ e. e ≡ why) → (before after : ℕ) → after ≡ choices_at before why → after ≡ choices_refused before r
chooses-exit r why is before after h = exit-is (λ r. after ≡ choices_refused before r) r why is h

pub goes-exit : (r : Result (Option End) RunStop) (why : RunStop) → IsErrAnd r (λ e. e ≡ why) → (P : Type 0) → IfGoesOn r P
goes-exit r why is P = exit-is (λ r. IfGoesOn r P) r why is tt

-- how functions are called only adds lines
pub calling-adds : (m : MachineNow) (es : List Stamped) → CallsFollow (after es) (calling m) (calling m)
calling-adds m es = outside-adds es (program_in m)

-- ---- steps 1 and 5

pub no-items : (p : Page) → p.turns ≡ 0 → items_taken p ≡ p
no-items p e = ap (λ n. cond (n == 0) p (parallel p)) e

pub some-items : (p : Page) → 1 ≤ p.turns → items_taken p ≡ parallel p
some-items p some = by_turns (p.turns == 0) refl
  where
    by_turns : (b : Bool) → (p.turns == 0) ≡ b → cond b p (parallel p) ≡ parallel p
    by_turns true e = absurd (let none = eqb-true p.turns 0 e in omega (arith, none, some))
    by_turns false e = refl

pub idle-step : (p : Page) → is_empty (view p) ≡ true → idled p ≡ idle_step p
idle-step p e = ap (λ b. cond b (idle_step p) p) e

pub no-idle : (p : Page) → is_empty (view p) ≡ false → idled p ≡ p
no-idle p e = ap (λ b. cond b (idle_step p) p) e

-- answers that were kept before
pub kept-then : (told told' : Option (List (Result ℤ ℤ))) → told' ≡ told → (answers : List (Result ℤ ℤ)) → AreKept told' answers → AreKept told answers
kept-then told told' same answers h = subst (λ o. AreKept o answers) same h

-- the items of now take no time
pub items-now : (p : Page) → (items_taken p).now ≡ p.now
items-now p = by_turns (p.turns == 0)
  where
    by_turns : (b : Bool) → (cond b p (parallel p)).now ≡ p.now
    by_turns true = refl
    by_turns false = ap (λ (x : Part). x.now) (parallel-leaves p)
