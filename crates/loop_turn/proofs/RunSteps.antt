-- Turns one after another, and how a run stops.
use Rattle.std.specs.Result.{IsErrAnd}
use Rattle.std.proofs.Common.{◌≡◌, inl, List, [], ◌∷◌, suc, ℕ, refl, ap, subst, Option, Some, None, ℤ, Result, Ok, Err}
use Rattle.page_types.specs.Events.{Stamped}
use Rattle.page_types.specs.declared.End.{End}
use Rattle.lang_meaning.specs.Machine.{Caller}
use Rattle.lang_meaning.specs.Following.{CallsFollow}
use Rattle.page_model.specs.State.{Page, State}
use Rattle.page_model.specs.Additions.{after, TurnAdds}
use Rattle.page_model.specs.Choosing.{Rules}
use Rattle.page_model.specs.Bounds.{turn_or, row_of}
use Rattle.page_model.specs.Turns.{Turned, Stuck, AtBound, next_turn}
use Rattle.trace_text.specs.declared.lines.NoLine.{NoLine}
use Rattle.trace_text.specs.declared.lines.NoLine.TheVariants.{OutOfMemory}
use Rattle.trace_text.specs.Line.{Line}
use Rattle.trace_text.specs.Given.{Keeping, Seen, StopsAmong, Gives as TakesLines}
use Rattle.trace_text.proofs.Giving.{Gives-none}
use Rattle.page_script.specs.PageActs.{lines_of}
use Rattle.loop_turn.proofs.Fired.{fires-none}
use Rattle.loop_turn.specs.Outcomes.{Shown, Outcome, WentOn, Finished, events_in, Reached, Turns}
use Rattle.loop_turn.specs.RunStops.{stop_fault, stop_outcome}
use Rattle.loop_turn.specs.Answers.{AreKept, LeftBy, AreLeft, ByAnswers}
use Rattle.loop_turn.specs.declared.run_stop.RunStop.{RunStop}
use Rattle.loop_turn.specs.declared.run_stop.RunStop.TheVariants as stop
use Rattle.loop_turn.proofs.TurnSteps.{Turns-then, Turns-stop, Turns-over}
use Rattle.loop_turn.proofs.WaitSteps.{row-adds}

-- ---- memory was wanting before any line

stops_at_once : {T : Type 0} (k : Keeping T) (told : Option T) (lines : List Line) → StopsAmong k OutOfMemory told lines told
stops_at_once k told [] = (tt, refl)
stops_at_once k told (line ∷ lines) = inl refl

pub Gives-memory : {T : Type 0} (k : Keeping T) (s : Seen T) (lines : List Line) → TakesLines k s lines (Some OutOfMemory) s
Gives-memory k s lines = record { told = stops_at_once k s.told lines; later = (Gives-none k s).later; failed = λ w. absurd (cc); differs = refl }

-- the port is as it was
pub Turns-memory : {C T : Type 0} (k : Keeping T) (t : Turned C) (how : Outcome) (reached : Reached C T) → Turns k reached.shown t (Some OutOfMemory) how reached
Turns-memory k t how reached = record {
  lines = Gives-memory k reached.shown.seen (lines_of (events_in t));
  ends = λ w. absurd (cc);
  fires = fires-none (lines_of (events_in t)) refl;
}

-- ---- a stop

-- where more turns would have come
pub Turns-stopped : {C T : Type 0} {k : Keeping T} (e : RunStop) (t : Turned C) (next : State → C → Turned C) {before : Shown T} {reached : Reached C T}
    → ((es : List Stamped) (c : C) → TurnAdds es (λ m. next m c))
    → Turns k before t (stop_fault e) (stop_outcome e) reached → Turns k before (next_turn t next) (stop_fault e) (stop_outcome e) reached
Turns-stopped stop.WriteFault t next only h = Turns-stop t next (stop_outcome stop.WriteFault) only h
Turns-stopped stop.Differs t next only h = Turns-stop t next (stop_outcome stop.Differs) only h
Turns-stopped stop.NoReading t next only h = Turns-over t next (λ e. cc) h
Turns-stopped stop.NoChoice t next only h = Turns-over t next (λ e. cc) h
Turns-stopped stop.NoHost t next only h = Turns-over t next (λ e. cc) h
Turns-stopped stop.OutOfMemory t next only h = Turns-stop t next (stop_outcome stop.OutOfMemory) only h

-- the exit of a `?`
pub is-err : {X : Type 0} (r : Result X RunStop) (why : RunStop) → IsErrAnd r (λ e. e ≡ why) → r ≡ Err why
is-err (Ok x) why is = absurd is
is-err (Err e) why is = ap Err is

-- ---- answers

-- there are answers that a port keeps
pub some-kept : (told : Option (List (Result ℤ ℤ))) → (answers : List (Result ℤ ℤ)) × AreKept told answers
some-kept None = ([], tt)
some-kept (Some kept) = (kept, refl)

left-kept : (why : RunStop) (told : Option (List (Result ℤ ℤ))) (left : List (Result ℤ ℤ)) → LeftBy why told left → AreKept told left
left-kept stop.WriteFault told left h = h
left-kept stop.Differs told left h = h
left-kept stop.NoReading told left h = h
left-kept stop.NoChoice told left h = h
left-kept stop.NoHost None left h = tt
left-kept stop.NoHost (Some kept) left h = h
left-kept stop.OutOfMemory told left h = h

pub are-kept : {X : Type 0} (r : Result X RunStop) (told : Option (List (Result ℤ ℤ))) (left : List (Result ℤ ℤ)) → AreLeft r told left → AreKept told left
are-kept (Ok x) told left h = h
are-kept (Err why) told left h = left-kept why told left h

module _ {X : Type 0} (r : Result X RunStop) (told told' : Option (List (Result ℤ ℤ))) (Does : List (Result ℤ ℤ) → List (Result ℤ ℤ) → Type 0) where
  -- a call that fires no closure
  pub by-same : told' ≡ told → ((answers : List (Result ℤ ℤ)) → Does answers answers) → ByAnswers told r told' Does
  by-same same does = λ left h. (left, subst (λ o. AreKept o left) same (are-kept r told' left h), does left)

  -- a call of which nothing is known but the lines
  pub by-any : ((first left : List (Result ℤ ℤ)) → Does first left) → ByAnswers told r told' Does
  by-any does = λ left h. let some = some-kept told in (some.0, some.1, does some.0 left)

-- answers by which a run goes, in the end
some-left : (why : RunStop) (told : Option (List (Result ℤ ℤ))) → (answers : List (Result ℤ ℤ)) × LeftBy why told answers
some-left stop.WriteFault told = some-kept told
some-left stop.Differs told = some-kept told
some-left stop.NoReading told = some-kept told
some-left stop.NoChoice told = some-kept told
some-left stop.NoHost None = ([], refl)
some-left stop.NoHost (Some kept) = (kept, refl)
some-left stop.OutOfMemory told = some-kept told

pub are-left : {X : Type 0} (r : Result X RunStop) (told : Option (List (Result ℤ ℤ))) → (answers : List (Result ℤ ℤ)) × AreLeft r told answers
are-left (Ok x) told = some-kept told
are-left (Err why) told = some-left why told

-- ---- turns one after another

module _ {C : Type 0} (rules : Rules C) (call : Caller Page) (calls_add : (es : List Stamped) → CallsFollow (after es) call call) (until more : ℕ) where
  abbrev pub once : State → C → Turned C
  once = turn_or (Stuck AtBound) more rules call until

  rows-add : (n : ℕ) (es : List Stamped) (c : C) → TurnAdds es (λ m. row_of once n m c)
  rows-add n es c = row-adds rules call until es (calls_add es) more n c

  module _ (n : ℕ) (m : State) (c : C) {T : Type 0} {k : Keeping T} {before : Shown T} where
    pub row-then : {mid reached : Reached C T} {why : Option NoLine} {how : Outcome} → Turns k before (once m c) None WentOn mid
        → Turns k mid.shown (row_of once n mid.state mid.held) why how reached → Turns k before (row_of once (suc n) m c) why how reached
    row-then h rest = Turns-then (once m c) (row_of once n) (rows-add n) h rest

    pub row-ended : {reached : Reached C T} {end : End} → Turns k before (once m c) None (Finished end) reached → Turns k before (row_of once (suc n) m c) None (Finished end) reached
    row-ended h = Turns-over (once m c) (row_of once n) (λ e. cc) h

    pub row-stopped : {reached : Reached C T} (e : RunStop) → Turns k before (once m c) (stop_fault e) (stop_outcome e) reached → Turns k before (row_of once (suc n) m c) (stop_fault e) (stop_outcome e) reached
    row-stopped e h = Turns-stopped e (once m c) (row_of once n) (rows-add n) h
