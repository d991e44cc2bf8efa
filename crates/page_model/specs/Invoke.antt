-- Callbacks, jobs and the microtask checkpoint.
use Rattle.std.specs.Prelude.{ℕ, zero, suc, Bool, true, false, if◌then◌else◌, List, [], ◌∷◌, ◌++◌, length, Option, Some, None, ◌==◌}
use Rattle.page_types.specs.Values.{Value, items_of}
use Rattle.page_types.specs.declared.Source.TheVariants.{Dom}
use Rattle.page_types.specs.declared.RegKind.{RegKind}
use Rattle.page_types.specs.declared.RegKind.TheVariants.{Post as PostKind, Then as ThenKind}
use Rattle.page_types.specs.Events.{Event, Call, Ret, Throw, Report, Reg, Run}
use Rattle.page_parts.specs.Words.{and_last, is_empty}
use Rattle.page_parts.specs.Promises.{Settled, Reaction, React, Adopt, has_failed, settled_value}
use Rattle.page_parts.specs.Notices.{Todo, Micro, OfPromise, WaitingJob, Context, no_context}
use Rattle.page_model.specs.PagePromises as promises
use Rattle.page_model.specs.PagePromises.{promise_at, inner_subscription}
use Rattle.page_model.specs.PageCombinators.{lead_into, pass_on}
use Rattle.page_parts.specs.Spelling.{spelled}
use Rattle.page_parts.specs.Kinds.{Func}
use Rattle.lang_meaning.specs.Machine.{Done, Gives, Throws, Returns, OutOfFuel, and_then, afterwards, finish, branch, take_unit, Caller}
use Rattle.lang_meaning.specs.Evaluation.{without_first}
use Rattle.page_model.specs.State.{Role, ScriptRole, OfKind, Registration, NotifyRejected, Page, State, on_page, the_registration, caller, emit, queue_task}

-- How functions are called here, and what is done when a callback has returned: a checkpoint exactly where no script call is open (HTML,
-- "Calling scripts: clean up after running script").
pub record Ways : Type 0 where
  pub call : Caller Page
  pub after : State → Done Page

-- ---- Ours: each callback that is handed in is a registration with a number of its own

-- a registration is made, with the next number and its line
abbrev pub register_as : RegKind → Registration → Page → Page
register_as kind x p = emit (Reg (suc (length p.registrations)) kind (caller p)) (record p { registrations = and_last p.registrations x })

-- a registration with these two callbacks and nothing else
abbrev pub register : RegKind → (f g : Option Func) → Page → Page
register kind f g p =
    register_as kind (record {
      role = OfKind kind;
      callback = f;
      second_callback = g;
      timer_id = 0;
      promise = 0;
      signal = None;
      finally = false;
    }) p

-- ---- HTML, "Calling scripts: clean up after running script", and when an exception is reported. Ours: the lines

-- when a throw is reported: of the script before the checkpoint; of a `then` handler or a posted callback never; of any other after the
-- checkpoint
pub data WhenReported : Type 0 where
  BeforeCheckpoint AfterCheckpoint Never : WhenReported

-- when a throw of this kind of callback is reported
abbrev pub when_reported : Role → WhenReported
when_reported ScriptRole = BeforeCheckpoint
when_reported (OfKind PostKind) = Never
when_reported (OfKind ThenKind) = Never
when_reported (OfKind kind) = AfterCheckpoint

-- the line of a report
abbrev pub report : Value → Page → Page
report v p = emit (Report (spelled p.names v)) p

-- a report before the checkpoint, where it belongs there
abbrev pub report_before : WhenReported → Value → Page → Page
report_before BeforeCheckpoint v p = report v p
report_before when v p = p

-- a report after the checkpoint, where it belongs there
abbrev pub report_after : WhenReported → Value → Page → Page
report_after AfterCheckpoint v p = report v p
report_after when v p = p

-- the call of a callback begins, with its line
abbrev pub call_begun : ℕ → Page → Page
call_begun r p = emit (Call r) (record p { calls = r ∷ p.calls })

-- the innermost call ends, with its line
abbrev pub call_ended : Event → Page → Page
call_ended line p = emit line (record p { calls = without_first p.calls })

-- it ends with a throw
abbrev pub thrown : Value → Page → Page
thrown v p = call_ended (Throw (spelled p.names v)) p

-- the end of a callback: its line, what comes when it has returned, and the report of a throw
abbrev pub end_of_callback : (State → Done Page) → WhenReported → Done Page → Done Page
end_of_callback after when (Gives v m) = and_then (after (on_page (call_ended Ret) m)) (λ u m. Gives v m)
end_of_callback after when (Returns v m) = and_then (after (on_page (call_ended Ret) m)) (λ u m. Gives v m)
end_of_callback after when (Throws v m) =
    and_then (after (on_page (report_before when v) (on_page (thrown v) m))) (λ u m. Throws v (on_page (report_after when v) m))
end_of_callback after when (OutOfFuel m) = OutOfFuel m

-- the second callback of a registration, or the first
abbrev pub callback_of : Bool → Registration → Option Func
callback_of true r = r.second_callback
callback_of false r = r.callback

-- a callback is called with arguments, after its bound ones; an absent one does nothing
abbrev pub call_back : Caller Page → Option Func → List Value → State → Done Page
call_back call None args m = finish m
call_back call (Some f) args m = call f.function (items_of f.bound ++ args) m

-- the callback of registration r is invoked: of a `then` registration its second handler where `second` holds
abbrev pub invoke : Ways → ℕ → Bool → List Value → State → Done Page
invoke w r second args m =
    let registration = the_registration m.host r in
    end_of_callback w.after (when_reported registration.role)
    (call_back w.call (callback_of second registration) args (on_page (call_begun r) m))

-- ---- ECMA-262, "NewPromiseReactionJob" and "NewPromiseResolveThenableJob"; HTML, "Event loops: processing model": perform a microtask
-- checkpoint

-- inside a checkpoint nothing more is done when a callback has returned
abbrev pub in_checkpoint : Caller Page → Ways
in_checkpoint call = record { call = call; after = finish }

-- the current scheduling state is this one
abbrev pub with_scheduling : Option ℕ → State → State
with_scheduling s m = on_page (λ p. record p { scheduling = s }) m

-- what is done with the value of a handler; a throw rejects the derived promise
abbrev pub settle_by : (Value → Page → Page) → ℕ → Done Page → Done Page
settle_by resolve into (Gives v m) = finish (on_page (resolve v) m)
settle_by resolve into (Returns v m) = finish (on_page (resolve v) m)
settle_by resolve into (Throws v m) = finish (on_page (promises.reject into v) m)
settle_by resolve into (OutOfFuel m) = OutOfFuel m

-- the value of a handler resolves the derived promise, and a throw rejects it
abbrev pub settle_derived : ℕ → Done Page → Done Page
settle_derived into done = settle_by (promises.resolve into) into done

-- the value of a handler resolves the derived promise; that of a handler of `finally` is waited for, and then the outcome is passed on
abbrev pub resolve_derived : Registration → ℕ → Settled → Value → Page → Page
resolve_derived x into how = if x.finally then pass_on into how else promises.resolve into

-- a handler gets the value or the reason; that of `finally` gets none
abbrev pub handler_arguments : Registration → Settled → List Value
handler_arguments x how = if x.finally then [] else settled_value how ∷ []

-- a `then` reaction: its handler is called, and an absent handler passes the outcome on
abbrev pub react_then : Caller Page → ℕ → Option Func → Reaction → Settled → State → Done Page
react_then call r None x how m = finish (on_page (promises.settle x.into how) m)
react_then call r (Some f) x how m =
    settle_by (resolve_derived (the_registration m.host r) x.into how) x.into
    (invoke (in_checkpoint call) r (has_failed how) (handler_arguments (the_registration m.host r) how) (with_scheduling x.state m))

-- a reaction: that of an inner subscription settles the promise that was resolved with this one, or reports to the combinator whose
-- element that is; any other is a `then` reaction
abbrev pub react_by : Caller Page → Option ℕ → Reaction → Settled → State → Done Page
react_by call None x how m = finish (on_page (lead_into x.into how) m)
react_by call (Some r) x how m = react_then call r (callback_of (has_failed how) (the_registration m.host r)) x how m

-- a reaction to a promise that is settled by then
abbrev pub react : Caller Page → Reaction → Option Settled → State → Done Page
react call x None m = finish m
react call x (Some how) m = react_by call x.registration x how m

-- what a microtask does. Ours: a reaction runs with the scheduling state in which it was made
abbrev pub run_job : Caller Page → Todo → State → Done Page
run_job call (Micro r) m = invoke (in_checkpoint call) r false [] m
run_job call (OfPromise (React of x)) m = react call x (promise_at m.host of).outcome m
run_job call (OfPromise (Adopt into from)) m = finish (on_page (promises.subscribe from (inner_subscription into)) m)

-- Ours: the nesting level and the scheduling state of a microtask. In form 1 it has level 0 and no state, in form 2 those that were
-- current when it was queued
abbrev pub context_of_job : ℕ → WaitingJob → Context
context_of_job form job = if form == 2 then job.context else no_context

-- these are the current ones
abbrev pub under : Context → Page → Page
under now p = record p { level = now.level; scheduling = now.state }

-- a job leaves the queue, with its `run` line, and its level and state are the current ones
abbrev pub job_begun : WaitingJob → List WaitingJob → Page → Page
job_begun job others p =
    emit (Run job.number) (under (context_of_job p.form job) (record p { notices = record p.notices { jobs = others } }))

-- the same as a step
abbrev pub begin_job : WaitingJob → List WaitingJob → State → State
begin_job job others m = on_page (job_begun job others) m

-- the oldest job takes a unit of fuel and runs, and then come the others
abbrev pub run_oldest : Caller Page → List WaitingJob → (State → Done Page) → State → Done Page
run_oldest call [] more m = finish m
run_oldest call (job ∷ others) more m = take_unit m (λ m. afterwards (run_job call job.what (begin_job job others m)) more)

-- The oldest job runs until there is none. Each takes a unit of fuel, so there are at most as many as units are left.
abbrev pub run_jobs : Caller Page → ℕ → State → Done Page
run_jobs call zero m = OutOfFuel m
run_jobs call (suc n) m = run_oldest call m.host.notices.jobs (run_jobs call n) m

-- HTML, "Unhandled promise rejections" (notify about rejected promises): the promises about to be notified about, if there are any, are
-- taken by a task
abbrev pub notify_rejected : Page → Page
notify_rejected p =
    if is_empty p.notices.rejected then p
    else queue_task Dom (NotifyRejected p.notices.rejected) (record p { notices = record p.notices { rejected = [] } })

-- ---- HTML, "Event loops: processing model": perform a microtask checkpoint

-- the checkpoint begins
abbrev pub checkpoint_begun : Page → Page
checkpoint_begun p = record p { performing = true }

-- the checkpoint ends with the notification; the nesting level and the scheduling state are what they were before
abbrev pub checkpoint_ended : (before p : Page) → Page
checkpoint_ended before p =
    record (notify_rejected p) { performing = false; level = before.level; scheduling = before.scheduling }

-- all jobs are run, and then the checkpoint ends
abbrev pub perform_checkpoint : Caller Page → State → Done Page
perform_checkpoint call m =
    and_then (run_jobs call (suc m.fuel) (on_page checkpoint_begun m)) (λ u after. finish (on_page (checkpoint_ended m.host) after))

-- a microtask checkpoint, which does nothing while one is being performed
abbrev pub checkpoint : Caller Page → State → Done Page
checkpoint call m = branch m.host.performing m finish (perform_checkpoint call)

-- ---- HTML, "Calling scripts: clean up after running script"

-- in a task no script call is open when a callback has returned, so a checkpoint is performed
abbrev pub in_task : Caller Page → Ways
in_task call = record { call = call; after = checkpoint call }

-- in an operation a script call is open, so none is performed
abbrev pub in_script : Caller Page → Ways
in_script call = record { call = call; after = finish }
