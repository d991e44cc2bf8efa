-- Dispatch, abort and priority change by steps: what is still to visit of an open one, as plain data.
use Rattle.std.specs.Prelude.{ℕ, zero, suc, if◌then◌else◌, ◌||◌, List, [], ◌∷◌, ◌++◌, map, Option, Some, None, codes}
use Rattle.page_types.specs.Values.{Value, SignalValue}
use Rattle.page_types.specs.declared.Priority.{Priority}
use Rattle.page_types.specs.Events.{Ret}
use Rattle.page_parts.specs.Kinds.{Func}
use Rattle.page_parts.specs.AbortGraph.{marked}
use Rattle.page_parts.specs.TaskSignals.{priority_of, is_changing, followers}
use Rattle.page_parts.specs.Listeners.{Target, AtSignal, snapshot, is_listening}
use Rattle.page_model.specs.State.{Page, the_registration}
use Rattle.page_model.specs.Invoke.{WhenReported, when_reported, call_begun, call_ended, thrown, report_before, report_after}
use Rattle.page_model.specs.PageSignals.{run_algorithms, reason_set, change_begun, change_ended, has_priority, priority_value}
use Rattle.lang_meaning.specs.HostSteps.{CallbackEnd, CallbackValue, CallbackThrow}

-- ---- Ours: the pieces of a priority change: the change of a signal, where no chain of followers is longer than `chain`, and the end of
-- one
pub data ChangePiece : Type 0 where
  ChangeOf : (chain signal : ℕ) → ChangePiece
  EndChange : (signal : ℕ) → ChangePiece

-- what comes after the listeners: the abort steps of signals, or further pieces of a change to a priority
pub data Rest : Type 0 where
  AbortsLeft : List ℕ → Rest
  ChangesLeft : Priority → List ChangePiece → Rest

-- An open fold, while a callback of it runs: when a throw of that callback is reported; the arguments of the listeners, and those
-- registrations that are left; and what comes then
pub record Fold : Type 0 where
  pub when : WhenReported
  pub args : List Value
  pub listeners : List ℕ
  pub rest : Rest

-- what a fold comes to: its end, or the next callback with its arguments, and the fold while it runs
pub data Reached : Type 0 where
  Finished : Page → Reached
  Calls : Func → Fold → Page → Reached

-- a listener's callback begins, with its line; an absent one has ended at once
abbrev pub begin_listener : Option Func → WhenReported → List Value → List ℕ → Rest → (Page → Reached) → Page → Reached
begin_listener None when args rs rest next p = next (call_ended Ret p)
begin_listener (Some f) when args rs rest next p = Calls f (record { when = when; args = args; listeners = rs; rest = rest }) p

-- DOM, "Dispatching events": the first of these listeners that was not removed is called; where there is none comes the rest
abbrev pub next_listener : List Value → List ℕ → Rest → (Page → Reached) → Page → Reached
next_listener args [] rest next p = next p
next_listener args (r ∷ rs) rest next p =
    if is_listening r p.listeners
    then begin_listener (the_registration p r).callback (when_reported (the_registration p r).role) args rs rest
    (next_listener args rs rest next) (call_begun r p)
    else next_listener args rs rest next p

-- an event is fired at a signal
abbrev pub fire : ℕ → List ℕ → List Value → Rest → (Page → Reached) → Page → Reached
fire s name args rest next p = next_listener args (snapshot (AtSignal s) name p.listeners) rest next p

-- DOM, "Interface AbortSignal": the abort steps of each of these signals
abbrev pub aborts_from : List ℕ → Page → Reached
aborts_from [] p = Finished p
aborts_from (s ∷ ss) p = fire s (codes "abort") (SignalValue s ∷ []) (AbortsLeft ss) (aborts_from ss) (run_algorithms s p)

-- the changes of these signals, in order, before other pieces
abbrev pub changes_of : ℕ → List ℕ → List ChangePiece → List ChangePiece
changes_of chain ss more = map (ChangeOf chain) ss ++ more

-- Prioritized Task Scheduling, "The TaskSignal Interface": each of these signals is changed by `one`, and then comes the rest
abbrev pub each_change : (ℕ → List ChangePiece → (Page → Reached) → Page → Reached) → ℕ → List ℕ → List ChangePiece → (Page → Reached)
    → Page → Reached
each_change one chain [] more next p = next p
each_change one chain (s ∷ ss) more next p = one s (changes_of chain ss more) (each_change one chain ss more next) p

-- the change of one signal, before other pieces: it is passed over, or its priority is set, `prioritychange` is fired, and then come its
-- followers and the change's end
abbrev pub change_from : Priority → (zero s : ℕ) → List ChangePiece → (Page → Reached) → Page → Reached
change_from priority zero s more next p = next p
change_from priority (suc n) s more next p =
    let ss = followers p.prios s in
    if is_changing p.prios s || has_priority p.prios s priority
    then next p
    else fire s (codes "prioritychange") (SignalValue s ∷ priority_value (priority_of p.prios s) ∷ [])
    (ChangesLeft priority (changes_of n ss (EndChange s ∷ more)))
    (each_change (change_from priority n) n ss (EndChange s ∷ more) (λ q. next (change_ended s q)))
    (change_begun s priority p)

-- the pieces of a change
abbrev pub changes_from : Priority → List ChangePiece → Page → Reached
changes_from priority [] p = Finished p
changes_from priority (ChangeOf n s ∷ more) p = change_from priority n s more (changes_from priority more) p
changes_from priority (EndChange s ∷ more) p = changes_from priority more (change_ended s p)

-- what comes after the listeners
abbrev pub rest_from : Rest → Page → Reached
rest_from (AbortsLeft ss) p = aborts_from ss p
rest_from (ChangesLeft priority more) p = changes_from priority more p

-- a fold goes on
abbrev pub go_on : Fold → Page → Reached
go_on fold p = next_listener fold.args fold.listeners fold.rest (rest_from fold.rest) p

-- the line of a callback's end, and the report of a throw
abbrev pub callback_ended : WhenReported → CallbackEnd → Page → Page
callback_ended when (CallbackValue v) p = call_ended Ret p
callback_ended when (CallbackThrow v) p = report_after when v (report_before when v (thrown v p))

-- an event is fired at a target: its first callback
abbrev pub begin_dispatch : Target → List ℕ → List Value → Page → Reached
begin_dispatch target name args p = next_listener args (snapshot target name p.listeners) (AbortsLeft []) Finished p

-- a signal is aborted: the reason is set on all, and then the first callback
abbrev pub begin_abort : ℕ → Value → Page → Reached
begin_abort s reason p = aborts_from (marked s p.signals) (reason_set reason (marked s p.signals) p)

-- the priority of a signal is changed: the first callback
abbrev pub begin_change : Priority → (chain s : ℕ) → Page → Reached
begin_change priority chain s p = changes_from priority (ChangeOf chain s ∷ []) p

-- the fold of a change that begins at a page: its listeners, and then its followers, its end and other pieces
abbrev pub change_fold : WhenReported → Priority → (chain s : ℕ) → List ChangePiece → Page → Fold
change_fold when priority chain s more p =
    record {
      when = when;
      args = SignalValue s ∷ priority_value (priority_of p.prios s) ∷ [];
      listeners = snapshot (AtSignal s) (codes "prioritychange") p.listeners;
      rest = ChangesLeft priority (changes_of chain (followers p.prios s) (EndChange s ∷ more));
    }
