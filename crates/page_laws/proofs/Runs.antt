-- Callbacks, jobs, the checkpoint, dispatch, abort and priority changes are rows of moves.
use Rattle.page_laws.proofs.Aborted.{moves-aborted, reason-aborted}
use Rattle.page_laws.proofs.Combined.{pass_on-changes, lead_into-onto}
use Rattle.page_model.proofs.GivenNumbers.Runs.{job_begun-held, resolve_derived-held, handler_arguments-known}
use Rattle.page_model.specs.PageCombinators.{lead_into, pass_on}
use Rattle.page_types.specs.declared.RegKind.TheVariants.{Then as ThenKind, Listener as ListenerKind}
use Rattle.lang_meaning.specs.Machine.{Caller, Done, Gives, OutOfFuel, Returns, Throws, afterwards, and_then, branch, finish, take_unit, with_fuel}
use Rattle.page_laws.proofs.Watches.{among}
use Rattle.page_laws.proofs.Watching.{PostsWatched, reason-posts}
use Rattle.page_laws.proofs.Intervals.{LivesStay, TimersWait, kept-later, lives-same, waits-same, IsNoTimer, TimersKept, begins-timers, changes-timers, ended-timers, job-timers, timers-same, timers-then}
use Rattle.page_laws.proofs.Evaluating.{Le, Loose, loose, loose-then, Onto, Reached, entered, keeping, le-same, le-then, on_page-reached, call_over}
use Rattle.page_laws.proofs.Following.{Following}
use Rattle.page_laws.proofs.Tracking.{AtZero, FitsCall, Told, Tracks, Went, begin-tracks, changes-following, changes-level, changes-track, frame-following, in_turn, job-tracks, outside, reset-following, told-then, told-went, tracks-same, tracks-then, went-ended, went-then, went-tracks}
use Rattle.page_laws.proofs.Following as following
use Rattle.page_laws.proofs.Going.{Holds, afterwards-holds, and_then-holds, branch-holds, finish-holds, wider}
use Rattle.page_laws.proofs.Lines.{Same, begins-same, change-same, changes-same, same-then}
use Rattle.page_laws.proofs.Idling.{change-goes as change-goes-on, all-go, goes-same, job-goes_on}
use Rattle.page_laws.proofs.Framed.{FramesKept, Ordered, change-kept, changes-kept, kept-same, kept-then, quiet, step-kept}
use Rattle.page_laws.proofs.Moved.{emit_aborts, reason_set-change, notify_rejected-changes, quietly, report_after-changes, report_before-changes}
use Rattle.page_laws.proofs.Moving.{moves-then, moves_of}
use Rattle.page_laws.proofs.Onto.{change_begun-onto, change_ended-onto, reject-onto, resolve-onto, run_algorithms-runs, settle-onto, subscribe-onto}
use Rattle.page_laws.specs.Moves.{changing, is_micro, Changes, AListener, AMicro, AReaction, Beginning, Moves, Waited, called_by, calling, ending, flagging, here, role_of, running, taken}
use Rattle.page_model.proofs.GivenNumbers.Evaluation as numbers
use Rattle.page_model.proofs.GivenNumbers.Evaluation.{Good, each, on_page-good}
use Rattle.page_model.proofs.GivenNumbers.Growing.{Each-append, Each-more, Grows-then, Held, InListeners, InNotices, InPrios, InScheduling, InSignals, IsFor-grows, IsKnown-grows, Onward, if_state-grows, promise-grows, signal-grows, signals-grow, stays, values-grow}
use Rattle.page_model.proofs.GivenNumbers.Pages.{reason_set-held, cond-onward, put_notices, put_scheduling, queue_task-held, the_registration-given, call_begun-held, call_ended-held}
use Rattle.page_model.proofs.GivenNumbers.Parts.{followers-known, items-known, marked-given, snapshot-given, the_promise-given}
use Rattle.page_model.specs.Invoke.{AfterCheckpoint, BeforeCheckpoint, Never, Ways, WhenReported, begin_job, call_back, callback_of, checkpoint, checkpoint_begun, checkpoint_ended, end_of_callback, in_checkpoint, in_script, in_task, invoke, notify_rejected, perform_checkpoint, react, react_by, react_then, report_after, report_before, run_job, run_jobs, run_oldest, settle_derived, thrown, when_reported, with_scheduling, call_ended, job_begun, settle_by, resolve_derived, handler_arguments, call_begun}
use Rattle.page_model.specs.Numbers.{AreKnown, Each, Grows, IfThere, IsFor, IsGiven, IsKnown, JobIsGiven, Made, NoticesAreGiven, ReactionIsGiven, RegistrationIsGiven, TodoIsGiven, made_by}
use Rattle.page_model.specs.PagePromises.{promise_at, inner_subscription}
use Rattle.page_model.specs.PageSignals.{abort, abort_steps, call_listener, change, change_begun, change_ended, change_through, dispatch, each_in_turn, has_priority, priority_value, reason_set, run_algorithms, is_aborted}
use Rattle.page_model.specs.State.{NotifyRejected, OfKind, Page, Registration, State, on_page, queue_task, the_registration, emit, emit_each}
use Rattle.page_parts.specs.AbortGraph.{marked, with_reason}
use Rattle.page_parts.specs.Kinds.{Func}
use Rattle.page_parts.specs.Listeners.{AtSignal, Target, is_listening, snapshot}
use Rattle.page_parts.specs.Notices.{Micro, OfPromise, Todo, WaitingJob}
use Rattle.page_parts.specs.Promises.{Adopt, React, Reaction, Settled, has_failed, settled_value}
use Rattle.page_parts.specs.Spelling.{spelled}
use Rattle.page_parts.specs.TaskSignals.{followers, priority_of}
use Rattle.page_parts.specs.Words.{is_empty}
use Rattle.page_types.specs.Events.{Ret, Throw, Event, Abort, Frame}
use Rattle.page_types.specs.Tree.{Program}
use Rattle.page_types.specs.Values.{SignalValue, Value, items_of}
use Rattle.page_types.specs.declared.Priority.{Priority}
use Rattle.page_types.specs.declared.Source.TheVariants.{Dom}
use Rattle.std.proofs.Common.{Bool, List, None, Option, Some, [], ap, cond, false, length, refl, subst, suc, sym, true, zero, ℕ, ◌++◌, ◌||◌, ◌∙◌, ◌∷◌, ◌≡◌, map}
use Rattle.page_laws.proofs.Scans.{Kept}
use Rattle.std.specs.Prelude.{codes, ◌==◌}
use Rattle.page_laws.specs.History.{open_registrations}
use Rattle.page_model.specs.PagePromises as promises
use Rattle.page_parts.specs.TaskSignals as TaskSignals

-- ---- the page between callbacks

pub report_before-onto : (when : WhenReported) (v : Value) (p : Page) → Held (made_by p) p → Onto p (report_before when v p)
report_before-onto when v p h = (by_when when, report_before-changes when v p)
  where
    by_when : (when : WhenReported) → Onward (made_by p) (report_before when v p)
    by_when BeforeCheckpoint = stays p h
    by_when AfterCheckpoint = stays p h
    by_when Never = stays p h

report_after-onto : (when : WhenReported) (v : Value) (p : Page) → Held (made_by p) p → Onto p (report_after when v p)
report_after-onto when v p h = (by_when when, report_after-changes when v p)
  where
    by_when : (when : WhenReported) → Onward (made_by p) (report_after when v p)
    by_when BeforeCheckpoint = stays p h
    by_when AfterCheckpoint = stays p h
    by_when Never = stays p h

callback_of-given : (n : Made) (second : Bool) (x : Registration) → RegistrationIsGiven n x → IfThere (λ f. AreKnown n f.bound) (callback_of second x)
callback_of-given n true x h = h.second_callback
callback_of-given n false x h = h.callback

notify_rejected-held : (p : Page) → Held (made_by p) p → Onward (made_by p) (notify_rejected p)
notify_rejected-held p h =
    let s : NoticesAreGiven (made_by p) p.notices = h InNotices in
    let q : Page = record p { notices = record p.notices { rejected = [] } } in
    let taken : Held (made_by p) q = put_notices (made_by p) p q.notices (record { promises = s.promises; jobs = s.jobs; rejected = tt; outstanding = s.outstanding }) h in
    cond-onward (made_by p) (is_empty p.notices.rejected) p (queue_task Dom (NotifyRejected p.notices.rejected) q) (stays p h)
    (queue_task-held Dom (NotifyRejected p.notices.rejected) q taken s.rejected)

checkpoint_ended-held : (before p : Page) → Held (made_by p) p → IfThere (IsGiven (made_by p).states) before.scheduling → Onward (made_by p) (checkpoint_ended before p)
checkpoint_ended-held before p h s =
    let q = notify_rejected p in
    let next : Onward (made_by p) q = notify_rejected-held p h in
    (next.0, put_scheduling (made_by q) q before.scheduling (if_state-grows (made_by p) (made_by q) next.0 before.scheduling s) next.1)

pub priority_value-known : (n : Made) (o : Option Priority) → IsKnown n (priority_value o)
priority_value-known n None = tt
priority_value-known n (Some priority) = tt

called_open : (r : ℕ) (calls : List ℕ) → r ∷ calls ≡ [] → ⊥
called_open r calls e = Prim.cc

-- no call is open
abbrev pub NoneOpen : State → Type 0
NoneOpen m = open_registrations m.host.events ≡ []

-- no call is open, no checkpoint is being performed, and the frame callbacks are in order
abbrev pub AtTop : State → Type 0
AtTop m = NoneOpen m × m.host.performing ≡ false × Ordered m.host

-- there, at level 0, which follows the lines
abbrev pub AtZeroTop : State → Type 0
AtZeroTop m = AtTop m × m.host.level ≡ 0 × Following m.host

-- no call is open in a checkpoint
abbrev pub InCheckpoint : State → Type 0
InCheckpoint m = NoneOpen m × m.host.performing ≡ true

-- a call is open
abbrev pub IsOpen : State → Type 0
IsOpen m = open_registrations m.host.events ≡ [] → ⊥

in_checkpoint-later : (m r : State) → Le m r → InCheckpoint m → InCheckpoint r
in_checkpoint-later m r le x = (le.2.0 ∙ x.0, le.2.1 ∙ x.1)

pub at_top-later : (m r : State) → Same m.host r.host → FramesKept m.host r.host → AtTop m → AtTop r
at_top-later m r s k x = (s.0 ∙ x.0, s.1 ∙ x.1, k.ordered x.2)

-- ---- what a checkpoint leaves: no job

-- a step that ends without a throw leaves no job
abbrev pub Clears : Done Page → Type 0
Clears (Gives v r) = r.host.notices.jobs ≡ []
Clears (Throws v r) = ⊥
Clears (Returns v r) = ⊥
Clears (OutOfFuel r) = Unit {0}

afterwards-clears : (d : Done Page) (next : State → Done Page) → ((r : State) → Clears (next r)) → Clears (afterwards d next)
afterwards-clears (Gives v r) next k = k r
afterwards-clears (Throws v r) next k = k r
afterwards-clears (Returns v r) next k = k r
afterwards-clears (OutOfFuel r) next k = tt

take_unit-clears : (m : State) (next : State → Done Page) → ((r : State) → Clears (next r)) → Clears (take_unit m next)
take_unit-clears m next k = by_fuel m.fuel
  where
    by_fuel : (n : ℕ) → Clears (with_fuel n m next)
    by_fuel zero = tt
    by_fuel (suc left) = k (record m { fuel = left })

run_oldest-clears : (call : Caller Page) (jobs : List WaitingJob) (next : State → Done Page) (m : State) → m.host.notices.jobs ≡ jobs → ((r : State) → Clears (next r)) → Clears (run_oldest call jobs next m)
run_oldest-clears call [] next m e k = e
run_oldest-clears call (job ∷ others) next m e k = take_unit-clears m _ (λ r. afterwards-clears (run_job call job.what (begin_job job others r)) next k)

run_jobs-clears : (call : Caller Page) (n : ℕ) (m : State) → Clears (run_jobs call n m)
run_jobs-clears call zero m = tt
run_jobs-clears call (suc n) m = run_oldest-clears call m.host.notices.jobs (run_jobs call n) m refl (run_jobs-clears call n)

ended-jobs : (before p : Page) → p.notices.jobs ≡ [] → (checkpoint_ended before p).notices.jobs ≡ []
ended-jobs before p e = by_rejected (is_empty p.notices.rejected)
  where
    by_rejected : (b : Bool) → (cond b p (queue_task Dom (NotifyRejected p.notices.rejected) (record p { notices = record p.notices { rejected = [] } }))).notices.jobs ≡ []
    by_rejected true = e
    by_rejected false = e

pub checkpoint-clears : (call : Caller Page) (m : State) → m.host.performing ≡ false → Clears (checkpoint call m)
checkpoint-clears call m e = by_flag m.host.performing e
  where
    by_jobs : (d : Done Page) → Clears d → Clears (and_then d (λ u after. finish (on_page (checkpoint_ended m.host) after)))
    by_jobs (Gives v r) h = ended-jobs m.host r.host h
    by_jobs (Throws v r) h = h
    by_jobs (Returns v r) h = h
    by_jobs (OutOfFuel r) h = tt

    by_flag : (b : Bool) → b ≡ false → Clears (branch b m finish (perform_checkpoint call))
    by_flag true x = Prim.cc
    by_flag false x = by_jobs (run_jobs call (suc m.fuel) (on_page checkpoint_begun m)) (run_jobs-clears call (suc m.fuel) (on_page checkpoint_begun m))

module _ (program : Program) where
  abbrev pub Goes : State → Done Page → Type 0
  Goes m d = Holds (keeping program) m d

  -- functions of the script are called in a call of a registration
  abbrev pub CallsGo : Caller Page → Type 0
  CallsGo call = (f : ℕ) (args : List Value) (m : State) → Good m → IsOpen m → Each (IsKnown (made_by m.host)) args → Goes m (call f args m)

  -- how functions are called, and where what comes after a callback goes on
  pub record WaysGo (w : Ways) : Type 1 where
    pub Here : State → Type 0
    pub later : (m r : State) → Le m r → Here m → Here r
    pub passes : (m r : State) → Loose m r → Tracks m.host r.host → Here m → Here r
    pub framed : (t : ℕ) (m : State) → Here m → Here (on_page (emit (Frame t)) m)
    pub fits : (m : State) → Here m → AtZero m.host
    pub call : CallsGo w.call
    -- behind a call
    pub There : State → Type 0
    pub there : (m : State) → Here m → There m
    pub over : (m r : State) → Loose m r → There m → There r
    pub after : (m : State) → Good m → There m → Goes m (w.after m)

  -- ---- ways to put steps together

  -- a change of the page, and what comes then
  pub then_page : (m : State) (f : Page → Page) (d : Done Page) → Good m → Onto m.host (f m.host) → (Reached m (on_page f m) → Goes (on_page f m) d) → Goes m d
  then_page m f d g o q = let a = on_page-reached m f g o in wider (keeping program) m (on_page f m) d a.0 (q a)

  pub finish_page : (m : State) (f : Page → Page) → Good m → Onto m.host (f m.host) → Goes m (finish (on_page f m))
  finish_page m f g o = let a = on_page-reached m f g o in (a.0, a.1, tt)

  pub wide : (m r : State) (d : Done Page) → Le m r → Goes r d → Goes m d
  wide m r d le h = wider (keeping program) m r d le h

  pub finish-goes : (m : State) → Good m → Goes m (finish m)
  finish-goes m g = finish-holds (keeping program) m g

  pub branch-goes : (b : Bool) (m : State) (then else : State → Done Page) → Goes m (then m) → Goes m (else m) → Goes m (branch b m then else)
  branch-goes b m then else h k = branch-holds (keeping program) b m then else h k

  pub afterwards-goes : (m : State) (d : Done Page) (next : State → Done Page) → Goes m d → ((r : State) → Le m r → Good r → Goes r (next r)) → Goes m (afterwards d next)
  afterwards-goes m d next h q = afterwards-holds (keeping program) m d next h q

  -- ---- callbacks

  -- where a step from m ends that went through e: behind both by a row of moves, and behind e intervals went on waiting
  abbrev pub WentOn : State → State → Done Page → Type 0
  WentOn m e (Gives v r) = Loose m r × Good r × IsKnown (made_by r.host) v × Moves e.host r.host × TimersKept e.host r.host × Went m.host e.host r.host
  WentOn m e (Throws v r) = Loose m r × Good r × IsKnown (made_by r.host) v × Moves e.host r.host × TimersKept e.host r.host × Went m.host e.host r.host
  WentOn m e (Returns v r) = Loose m r × Good r × IsKnown (made_by r.host) v × Moves e.host r.host × TimersKept e.host r.host × Went m.host e.host r.host
  WentOn m e (OutOfFuel r) = Moves m.host r.host × Told e.host r.host

  pub goes-on : (m e n : State) (d : Done Page) → Loose m n → Moves e.host n.host → TimersKept e.host n.host → Went m.host e.host n.host → Goes n d → WentOn m e d
  goes-on m e n (Gives v r) le a k w h = (loose-then m n r le (loose n r h.0), h.1, h.2, moves-then a h.0.1, timers-then a k h.0.5, went-then m.host e.host n.host r.host le.2 h.0.2 w h.0.6)
  goes-on m e n (Throws v r) le a k w h = (loose-then m n r le (loose n r h.0), h.1, h.2, moves-then a h.0.1, timers-then a k h.0.5, went-then m.host e.host n.host r.host le.2 h.0.2 w h.0.6)
  goes-on m e n (Returns v r) le a k w h = (loose-then m n r le (loose n r h.0), h.1, h.2, moves-then a h.0.1, timers-then a k h.0.5, went-then m.host e.host n.host r.host le.2 h.0.2 w h.0.6)
  goes-on m e n (OutOfFuel r) le a k w h = (moves-then le.1 h.0, told-went m.host e.host n.host r.host w h.1)

  -- where intervals went on waiting up to e, they do so up to the end
  pub went-goes : (m e : State) (d : Done Page) → Moves m.host e.host → TimersKept m.host e.host → e.host.form ≡ m.host.form → Tracks m.host e.host → WentOn m e d → Goes m d
  went-goes m e (Gives v r) a k form t h = ((h.0.0, h.0.1, h.0.2, h.0.3, h.0.4, timers-then a k h.4, went-tracks m.host e.host r.host form t h.5), h.1, h.2)
  went-goes m e (Throws v r) a k form t h = ((h.0.0, h.0.1, h.0.2, h.0.3, h.0.4, timers-then a k h.4, went-tracks m.host e.host r.host form t h.5), h.1, h.2)
  went-goes m e (Returns v r) a k form t h = ((h.0.0, h.0.1, h.0.2, h.0.3, h.0.4, timers-then a k h.4, went-tracks m.host e.host r.host form t h.5), h.1, h.2)
  went-goes m e (OutOfFuel r) a k form t h = (h.0, λ f. subst (λ (n : ℕ). Kept (following.levels n) r.host.events) form (h.1 (t.follows f)))

  -- a callback that waited is called behind m; where it ends, the same calls are open as in m, and it ends behind its call
  end_of_callback-goes : (w : Ways) (a : WaysGo w) → (b : Beginning) (when : WhenReported) (m : State) (d : Done Page) → Good m → a.There m → Waited b m.host → IsFor (role_of b) (made_by m.host) (called_by b) → Grows (made_by m.host) (made_by (taken b m.host)) → Goes (entered b m) d → WentOn m (entered b m) (end_of_callback w.after when d)
  end_of_callback-goes w a b when m (Gives v s) g x y i gr h =
      let ended = on_page (call_ended Ret) s in
      let good : Good ended = (numbers.on_page-good s (call_ended Ret) h.1 (call_ended-held Ret s.host h.1.0)).1 in
      let le : Loose m ended = call_over b m s Ret refl (λ calls. refl) gr y i h.0 in
      let last : Goes ended (end_of_callback w.after when (Gives v s)) = and_then-holds (keeping program) ended (w.after ended) _ (a.after ended good (a.over m ended le x)) (λ u t le' gt k. (le-same t, gt, IsKnown-grows (made_by s.host) (made_by t.host) le'.0 v h.2)) in
      goes-on m (entered b m) ended _ le (ending h.0.1 Ret refl) (timers-then h.0.1 h.0.5 (ended-timers Ret s.host)) (went-ended m.host (taken b m.host) s.host (called_by b) Ret refl h.0.2 h.0.6) last
  end_of_callback-goes w a b when m (Returns v s) g x y i gr h =
      let ended = on_page (call_ended Ret) s in
      let good : Good ended = (numbers.on_page-good s (call_ended Ret) h.1 (call_ended-held Ret s.host h.1.0)).1 in
      let le : Loose m ended = call_over b m s Ret refl (λ calls. refl) gr y i h.0 in
      let last : Goes ended (end_of_callback w.after when (Returns v s)) = and_then-holds (keeping program) ended (w.after ended) _ (a.after ended good (a.over m ended le x)) (λ u t le' gt k. (le-same t, gt, IsKnown-grows (made_by s.host) (made_by t.host) le'.0 v h.2)) in
      goes-on m (entered b m) ended _ le (ending h.0.1 Ret refl) (timers-then h.0.1 h.0.5 (ended-timers Ret s.host)) (went-ended m.host (taken b m.host) s.host (called_by b) Ret refl h.0.2 h.0.6) last
  end_of_callback-goes w a b when m (Throws v s) g x y i gr h =
      let line : Event = Throw (spelled s.host.names v) in
      let ended = on_page (thrown v) s in
      let good : Good ended = (numbers.on_page-good s (thrown v) h.1 (call_ended-held (Throw (spelled s.host.names v)) s.host h.1.0)).1 in
      let le : Loose m ended = call_over b m s (Throw (spelled s.host.names v)) refl (λ calls. refl) gr y i h.0 in
      let before = on_page (report_before when v) ended in
      let told_one : Reached ended before = on_page-reached ended (report_before when v) good (report_before-onto when v ended.host good.0) in
      let le' : Loose m before = loose-then m ended before le (loose ended before told_one.0) in
      let last : Goes before (end_of_callback w.after when (Throws v s)) = and_then-holds (keeping program) before (w.after before) _ (a.after before told_one.1 (a.over m before le' x))
      (λ u t le'' gt k.
      let c = on_page-reached t (report_after when v) gt (report_after-onto when v t.host gt.0) in
      (c.0, c.1, IsKnown-grows (made_by s.host) (made_by (report_after when v t.host)) (Grows-then (made_by s.host) (made_by t.host) (made_by (report_after when v t.host)) (Grows-then (made_by s.host) (made_by before.host) (made_by t.host) told_one.0.0 le''.0) c.0.0) v h.2)) in
      goes-on m (entered b m) before _ le' (moves-then (ending h.0.1 (Throw (spelled s.host.names v)) refl) told_one.0.1)
      (timers-then (ending h.0.1 (Throw (spelled s.host.names v)) refl) (timers-then h.0.1 h.0.5 (ended-timers (Throw (spelled s.host.names v)) s.host)) told_one.0.5)
      (went-then m.host (entered b m).host ended.host before.host le.2 told_one.0.2 (went-ended m.host (taken b m.host) s.host (called_by b) (Throw (spelled s.host.names v)) refl h.0.2 h.0.6) told_one.0.6) last
  end_of_callback-goes w a b when m (OutOfFuel s) g x y i gr h = (moves-then (calling here b y i) h.0, h.1)

  call_back-goes : (call : Caller Page) → CallsGo call → (f : Option Func) (args : List Value) (m : State) → Good m → IsOpen m → IfThere (λ f. AreKnown (made_by m.host) f.bound) f → Each (IsKnown (made_by m.host)) args → Goes m (call_back call f args m)
  call_back-goes call c None args m g x b k = finish-goes m g
  call_back-goes call c (Some f) args m g x b k =
      c f.function (items_of f.bound ++ args) m g x (Each-append (IsKnown (made_by m.host)) (items_of f.bound) args (items-known (made_by m.host) f.bound b) k)

  -- the callback of what waited at b is called
  pub entered-goes : (w : Ways) (a : WaysGo w) → (b : Beginning) (second : Bool) (args : List Value) (m : State) → Good m → IsFor (role_of b) (made_by m.host) (called_by b) → Onward (made_by m.host) (taken b m.host) → Each (IsKnown (made_by m.host)) args → Goes (entered b m) (call_back w.call (callback_of second (the_registration (taken b m.host) (called_by b))) args (entered b m))
  entered-goes w a b second args m g i o k =
      let n = on_page (taken b) m in
      let there = numbers.on_page-good m (taken b) g o in
      let registered = IsFor-grows (made_by m.host) (made_by n.host) there.0 (role_of b) (called_by b) i in
      let called : Good (entered b m) = (numbers.on_page-good n (call_begun (called_by b)) there.1 (call_begun-held (called_by b) n.host there.1.0 registered.registration)).1 in
      let registration = the_registration n.host (called_by b) in
      call_back-goes w.call a.call (callback_of second registration) args (entered b m) called (called_open (called_by b) (open_registrations n.host.events)) (callback_of-given (made_by n.host) second registration (the_registration-given n.host (called_by b) there.1.0)) (values-grow (made_by m.host) (made_by n.host) there.0 args k)

  -- what waited at b is taken and invoked
  pub invoked-goes : (w : Ways) (a : WaysGo w) → (b : Beginning) (second : Bool) (args : List Value) (m : State) → Good m → a.There m → Waited b m.host → IsFor (role_of b) (made_by m.host) (called_by b) → Onward (made_by m.host) (taken b m.host) → Each (IsKnown (made_by m.host)) args → WentOn m (entered b m) (invoke w (called_by b) second args (on_page (taken b) m))
  invoked-goes w a b second args m g x y i o k =
      let there = numbers.on_page-good m (taken b) g o in
      let registration = the_registration (taken b m.host) (called_by b) in
      end_of_callback-goes w a b (when_reported registration.role) m (call_back w.call (callback_of second registration) args (entered b m)) g x y i there.0
      (entered-goes w a b second args m g i o k)

  -- where it is no timer's callback, intervals go on waiting
  pub invoke-goes : (w : Ways) (a : WaysGo w) → (b : Beginning) → IsNoTimer b → (second : Bool) (args : List Value) (m : State) → Good m → a.There m → Waited b m.host → IsFor (role_of b) (made_by m.host) (called_by b) → Onward (made_by m.host) (taken b m.host) → Each (IsKnown (made_by m.host)) args → FitsCall b m.host → Goes m (invoke w (called_by b) second args (on_page (taken b) m))
  invoke-goes w a b other second args m g x y i o k fits =
      went-goes m (entered b m) _ (calling here b y i) (begins-timers b m.host other y) (begins-same b m.host).2 (begin-tracks b m.host y i fits) (invoked-goes w a b second args m g x y i o k)

  -- one way or the other, by a test
  pub branch_when-goes : (b : Bool) (m : State) (then else : State → Done Page) → (b ≡ true → Goes m (then m)) → (b ≡ false → Goes m (else m)) → Goes m (branch b m then else)
  branch_when-goes true m then else h k = h refl
  branch_when-goes false m then else h k = k refl

  abbrev in_checkpoint-goes : (call : Caller Page) → CallsGo call → WaysGo (in_checkpoint call)
  in_checkpoint-goes call c =
      record {
        Here = λ m. ⊥;
        later = λ m r le x. x;
        passes = λ m r le k x. x;
        framed = λ t m x. x;
        fits = λ m x. elim x [ ];
        call = c;
        There = λ m. Unit {0};
        there = λ m x. tt;
        over = λ m r le x. tt;
        after = λ m g x. finish-goes m g;
      }

  -- ---- jobs

  settle_by-goes : (resolve : Value → Page → Page) (into : ℕ) (m : State) (d : Done Page)
      → ((v : Value) (r : State) → Le m r → Good r → IsKnown (made_by r.host) v → Onto r.host (resolve v r.host))
      → IsGiven (length m.host.notices.promises) into → Goes m d → Goes m (settle_by resolve into d)
  settle_by-goes resolve into m (Gives v r) k x h = wide m r (finish (on_page (resolve v) r)) h.0 (finish_page r (resolve v) h.1 (k v r h.0 h.1 h.2))
  settle_by-goes resolve into m (Returns v r) k x h = wide m r (finish (on_page (resolve v) r)) h.0 (finish_page r (resolve v) h.1 (k v r h.0 h.1 h.2))
  settle_by-goes resolve into m (Throws v r) k x h = wide m r (finish (on_page (promises.reject into v) r)) h.0 (finish_page r (promises.reject into v) h.1 (reject-onto into v r.host h.1.0 (promise-grows (made_by m.host) (made_by r.host) h.0.0 into x) h.2))
  settle_by-goes resolve into m (OutOfFuel r) k x h = h

  pub settle_derived-goes : (into : ℕ) (m : State) (d : Done Page) → IsGiven (length m.host.notices.promises) into → Goes m d → Goes m (settle_derived into d)
  settle_derived-goes into m d x h = settle_by-goes (promises.resolve into) into m d (λ v r le gr k. resolve-onto into v r.host gr.0 (promise-grows (made_by m.host) (made_by r.host) le.0 into x) k) x h

  -- the same of what went on through e
  pub settle_derived-went : (into : ℕ) (m e : State) (d : Done Page) → IsGiven (length m.host.notices.promises) into → WentOn m e d → WentOn m e (settle_derived into d)
  settle_derived-went into m e (Gives v r) x h = goes-on m e r (finish (on_page (promises.resolve into v) r)) h.0 h.3 h.4 h.5 (finish_page r (promises.resolve into v) h.1 (resolve-onto into v r.host h.1.0 (promise-grows (made_by m.host) (made_by r.host) h.0.0 into x) h.2))
  settle_derived-went into m e (Returns v r) x h = goes-on m e r (finish (on_page (promises.resolve into v) r)) h.0 h.3 h.4 h.5 (finish_page r (promises.resolve into v) h.1 (resolve-onto into v r.host h.1.0 (promise-grows (made_by m.host) (made_by r.host) h.0.0 into x) h.2))
  settle_derived-went into m e (Throws v r) x h = goes-on m e r (finish (on_page (promises.reject into v) r)) h.0 h.3 h.4 h.5 (finish_page r (promises.reject into v) h.1 (reject-onto into v r.host h.1.0 (promise-grows (made_by m.host) (made_by r.host) h.0.0 into x) h.2))
  settle_derived-went into m e (OutOfFuel r) x h = h

  -- and of what comes then
  pub afterwards-went : (m e : State) (d : Done Page) (next : State → Done Page) → WentOn m e d → ((r : State) → Loose m r → Moves e.host r.host → Good r → Goes r (next r)) → WentOn m e (afterwards d next)
  afterwards-went m e (Gives v r) next h q = goes-on m e r (next r) h.0 h.3 h.4 h.5 (q r h.0 h.3 h.1)
  afterwards-went m e (Throws v r) next h q = goes-on m e r (next r) h.0 h.3 h.4 h.5 (q r h.0 h.3 h.1)
  afterwards-went m e (Returns v r) next h q = goes-on m e r (next r) h.0 h.3 h.4 h.5 (q r h.0 h.3 h.1)
  afterwards-went m e (OutOfFuel r) next h q = h

  -- the value of a handler, also of one of `finally`
  resolve_derived-onto : (x : Registration) (into : ℕ) (how : Settled) (v : Value) (p : Page) → Held (made_by p) p → IsGiven (length p.notices.promises) into → IsKnown (made_by p) (settled_value how) → IsKnown (made_by p) v → Onto p (resolve_derived x into how v p)
  resolve_derived-onto x into how v p h g k y = (resolve_derived-held program x into how v p h g k y, by_kind x.finally)
    where
      by_kind : (b : Bool) → Changes p (cond b (pass_on into how) (promises.resolve into) v p)
      by_kind true = pass_on-changes into how v p h g k y
      by_kind false = (resolve-onto into v p h g y).1

  pub scheduling-onto : (s : Option ℕ) (p : Page) → Held (made_by p) p → IfThere (IsGiven (made_by p).states) s → Onto p (record p { scheduling = s })
  scheduling-onto s p h x = (stays (record p { scheduling = s }) (put_scheduling (made_by p) p s x h), quietly p (record p { scheduling = s }) refl refl refl refl refl refl refl refl refl)

  abbrev JobsGiven : Made → List WaitingJob → Type 0
  JobsGiven n jobs = Each (JobIsGiven n) jobs

  -- a job begins, where no call is open
  job_begins : (waiting : WaitingJob) (others : List WaitingJob) (m : State) → is_micro waiting.what ≡ false → Good m → InCheckpoint m → m.host.notices.jobs ≡ waiting ∷ others → JobIsGiven (made_by m.host) waiting → JobsGiven (made_by m.host) others → Reached m (begin_job waiting others m)
  job_begins waiting others m nm g z e y x =
      let a = numbers.on_page-good m (job_begun waiting others) g (job_begun-held program waiting others m.host g.0 y x) in
      ((a.0, running here waiting others e z.0 nm, (refl, refl, refl), step-kept (quiet refl refl (λ r. refl)), job-goes_on m.host waiting others, job-timers waiting others m.host, job-tracks waiting others m.host e z.0 nm z.1), a.1)

  -- a job runs: where it calls, its callback is taken with the job
  job-goes : (call : Caller Page) → CallsGo call → (job : WaitingJob) (others : List WaitingJob) (m : State) → Good m → InCheckpoint m → m.host.notices.jobs ≡ job ∷ others → JobIsGiven (made_by m.host) job → JobsGiven (made_by m.host) others → Goes m (run_job call job.what (begin_job job others m))
  job-goes call c job others m g z e x rest = by_what job.what refl x.what
    where
      begun : is_micro job.what ≡ false → Reached m (begin_job job others m)
      begun nm = job_begins job others m nm g z e x rest

      -- with another scheduling state
      state_held : (s : Option ℕ) → IfThere (IsGiven (made_by m.host).states) s → Onward (made_by m.host) (record (job_begun job others m.host) { scheduling = s })
      state_held s y = stays (record (job_begun job others m.host) { scheduling = s }) (put_scheduling (made_by m.host) (job_begun job others m.host) s y (job_begun-held program job others m.host g.0 x rest).1)

      by_handler : (of : ℕ) (y : Reaction) (how : Settled) (r : ℕ) (f : Option Func) → job.what ≡ OfPromise (React of y) → y.registration ≡ Some r → ReactionIsGiven (made_by m.host) y → IsKnown (made_by m.host) (settled_value how) → Goes m (react_then call r f y how (begin_job job others m))
      by_handler of y how r None e1 e2 k v =
          let b = begun (ap is_micro e1) in
          wide m (begin_job job others m) (react_then call r None y how (begin_job job others m)) b.0 (finish_page (begin_job job others m) (promises.settle y.into how) b.1 (settle-onto y.into how (begin_job job others m).host b.1.0 k.into v))
      by_handler of y how r (Some f) e1 e2 k v =
          let registration = the_registration (begin_job job others m).host r in
          settle_by-goes (resolve_derived registration y.into how) y.into m (invoke (in_checkpoint call) r (has_failed how) (handler_arguments registration how) (with_scheduling y.state (begin_job job others m)))
          (λ v' r' le gr known. resolve_derived-onto registration y.into how v' r'.host gr.0 (promise-grows (made_by m.host) (made_by r'.host) le.0 y.into k.into) (IsKnown-grows (made_by m.host) (made_by r'.host) le.0 (settled_value how) v) known) k.into
          (invoke-goes (in_checkpoint call) (in_checkpoint-goes call c) (AReaction job others of y r) tt (has_failed how) (handler_arguments registration how) m g tt (e, e1, e2, z.0) (subst (IfThere (IsFor (OfKind ThenKind) (made_by m.host))) e2 k.registration) (state_held y.state k.state) (handler_arguments-known program (made_by m.host) registration how v) z.1)

      by_registration : (of : ℕ) (y : Reaction) (how : Settled) (o : Option ℕ) → job.what ≡ OfPromise (React of y) → y.registration ≡ o → ReactionIsGiven (made_by m.host) y → IsKnown (made_by m.host) (settled_value how) → Goes m (react_by call o y how (begin_job job others m))
      by_registration of y how None e1 e2 k v =
          let b = begun (ap is_micro e1) in
          wide m (begin_job job others m) (react_by call None y how (begin_job job others m)) b.0 (finish_page (begin_job job others m) (lead_into y.into how) b.1 (lead_into-onto y.into how (begin_job job others m).host b.1.0 k.into v))
      by_registration of y how (Some r) e1 e2 k v = by_handler of y how r (callback_of (has_failed how) (the_registration (begin_job job others m).host r)) e1 e2 k v

      by_outcome : (of : ℕ) (y : Reaction) (o : Option Settled) → job.what ≡ OfPromise (React of y) → ReactionIsGiven (made_by m.host) y → IfThere (λ how. IsKnown (made_by m.host) (settled_value how)) o → Goes m (react call y o (begin_job job others m))
      by_outcome of y None e1 k v = let b = begun (ap is_micro e1) in wide m (begin_job job others m) (react call y None (begin_job job others m)) b.0 (finish-goes (begin_job job others m) b.1)
      by_outcome of y (Some how) e1 k v = by_registration of y how y.registration e1 refl k v

      by_what : (what : Todo) → job.what ≡ what → TodoIsGiven (made_by m.host) what → Goes m (run_job call what (begin_job job others m))
      by_what (Micro r) e1 k = invoke-goes (in_checkpoint call) (in_checkpoint-goes call c) (AMicro job others r) tt false [] m g tt (e, e1, z.0) k (job_begun-held program job others m.host g.0 x rest) tt z.1
      by_what (OfPromise (React of y)) e1 k = by_outcome of y (promise_at m.host of).outcome e1 k.1 (the_promise-given (made_by m.host) m.host.notices of (g.0 InNotices)).outcome
      by_what (OfPromise (Adopt into from)) e1 k =
          let b = begun (ap is_micro e1) in
          wide m (begin_job job others m) (run_job call (OfPromise (Adopt into from)) (begin_job job others m)) b.0
          (finish_page (begin_job job others m) (promises.subscribe from (inner_subscription into)) b.1 (subscribe-onto from (inner_subscription into) (begin_job job others m).host b.1.0 k.1 (record { registration = tt; into = k.0; state = tt }) refl))

  -- a unit is taken, and nothing else
  take_unit-goes : (m : State) (next : State → Done Page) → Good m → ((left : ℕ) → Goes (record m { fuel = left }) (next (record m { fuel = left }))) → Goes m (take_unit m next)
  take_unit-goes m next g q = by_fuel m.fuel
    where
      by_fuel : (n : ℕ) → Goes m (with_fuel n m next)
      by_fuel zero = (here, λ f. f.sound.law)
      by_fuel (suc left) = wide m (record m { fuel = left }) (next (record m { fuel = left })) (le-same m) (q left)

  run_oldest-goes : (call : Caller Page) → CallsGo call → (jobs : List WaitingJob) (more : State → Done Page) (m : State) → ((r : State) → Good r → InCheckpoint r → Goes r (more r)) → Good m → InCheckpoint m → m.host.notices.jobs ≡ jobs → JobsGiven (made_by m.host) jobs → Goes m (run_oldest call jobs more m)
  run_oldest-goes call c [] more m q g z e x = finish-goes m g
  run_oldest-goes call c (job ∷ others) more m q g z e x =
      take_unit-goes m (λ m. afterwards (run_job call job.what (begin_job job others m)) more) g (λ left.
      let r = record m { fuel = left } in
      afterwards-goes r (run_job call job.what (begin_job job others r)) more (job-goes call c job others r g z e x.0 x.1)
      (λ s le gs. q s gs (in_checkpoint-later r s le z)))

  pub run_jobs-goes : (call : Caller Page) → CallsGo call → (n : ℕ) (m : State) → Good m → InCheckpoint m → Goes m (run_jobs call n m)
  run_jobs-goes call c zero m g z = (here, λ f. f.sound.law)
  run_jobs-goes call c (suc n) m g z = run_oldest-goes call c m.host.notices.jobs (run_jobs call n) m (run_jobs-goes call c n) g z refl (notices_of m g).jobs
    where
      notices_of : (m : State) → Good m → NoticesAreGiven (made_by m.host) m.host.notices
      notices_of m g = g.0 InNotices

  perform_checkpoint-goes : (call : Caller Page) → CallsGo call → (m : State) → Good m → AtTop m → Goes m (perform_checkpoint call m)
  perform_checkpoint-goes call c m g z =
      by_end (run_jobs call (suc m.fuel) begun) (run_jobs-goes call c (suc m.fuel) begun good_begun (z.0, refl)) (run_jobs-clears call (suc m.fuel) begun)
    where
      begun : State
      begun = on_page checkpoint_begun m

      follows : Following m.host → Following begun.host
      follows f = reset-following m.host true m.host.level m.host.scheduling z.0 (λ e. refl) f

      good_begun : Good begun
      good_begun = (numbers.on_page-good m checkpoint_begun g (stays (checkpoint_begun m.host) g.0)).1

      by_end : (d : Done Page) → Goes begun d → Clears d → Goes m (and_then d (λ u after. finish (on_page (checkpoint_ended m.host) after)))
      by_end (Gives v r) h k =
          let notified = notify_rejected r.host in
          let a = numbers.on_page-good r (checkpoint_ended m.host) h.1 (checkpoint_ended-held m.host r.host h.1.0 (if_state-grows (made_by m.host) (made_by r.host) h.0.0 m.host.scheduling (g.0 InScheduling))) in
          let notified-row : Moves begun.host notified = moves-then h.0.1 (moves_of (notify_rejected-changes r.host)) in
          let ended-waiting : TimersKept m.host (checkpoint_ended m.host r.host) =
          timers-then (flagging here refl refl refl refl refl refl refl refl) (timers-same m.host begun.host refl refl refl refl)
          (timers-then notified-row (timers-then h.0.1 h.0.5 (changes-timers (notify_rejected-changes r.host))) (timers-same notified (checkpoint_ended m.host r.host) refl refl refl refl)) in
          let same = changes-same (notify_rejected-changes r.host) in
          let ended-follows : Following m.host → Following (checkpoint_ended m.host r.host) =
          λ f. reset-following notified false m.host.level m.host.scheduling (same.0 ∙ (h.0.2.0 ∙ z.0))
          (λ e. sym (changes-level (notify_rejected-changes r.host) ∙ h.0.6.level (in_turn (ap (λ n. n == 2) (sym (same.2 ∙ h.0.2.2)) ∙ e) (follows f)))) (changes-following (notify_rejected-changes r.host) (h.0.6.follows (follows f))) in
          let row : Moves m.host (checkpoint_ended m.host r.host) =
          flagging (moves-then (moves-then (flagging here refl refl refl refl refl refl refl refl) h.0.1) (moves_of (notify_rejected-changes r.host))) refl refl refl refl refl refl refl refl in (
            (Grows-then (made_by m.host) (made_by r.host) (made_by (checkpoint_ended m.host r.host)) h.0.0 a.0, row, ((changes-same (notify_rejected-changes r.host)).0 ∙ h.0.2.0, sym z.1, (changes-same (notify_rejected-changes r.host)).2 ∙ h.0.2.2), kept-then m.host begun.host (checkpoint_ended m.host r.host) (kept-same m.host begun.host refl refl refl) (kept-then begun.host r.host (checkpoint_ended m.host r.host) h.0.3 (kept-then r.host notified (checkpoint_ended m.host r.host) (changes-kept (notify_rejected-changes r.host)) (kept-same notified (checkpoint_ended m.host r.host) refl refl refl))), λ x. goes-same notified (checkpoint_ended m.host r.host) refl refl refl refl (all-go (notify_rejected-changes r.host) (h.0.4 (goes-same m.host begun.host refl refl refl refl x))), ended-waiting, record { older = following.older-then m.host r.host (checkpoint_ended m.host r.host) (record { longer = h.0.6.older.longer; role = h.0.6.older.role; level = h.0.6.older.level }) (let o = (changes-track (notify_rejected-changes r.host)).older in record { longer = o.longer; role = o.role; level = o.level }); level = λ x. refl; follows = ended-follows }),
            a.1,
            tt,
          )
      by_end (Throws v r) h k = elim k [ ]
      by_end (Returns v r) h k = elim k [ ]
      by_end (OutOfFuel r) h k = (moves-then (flagging here refl refl refl refl refl refl refl refl) h.0, λ f. h.1 (follows f))

  pub checkpoint-goes : (call : Caller Page) → CallsGo call → (m : State) → Good m → AtTop m → Goes m (checkpoint call m)
  checkpoint-goes call c m g z = branch-goes m.host.performing m finish (perform_checkpoint call) (finish-goes m g) (perform_checkpoint-goes call c m g z)

  abbrev pub in_task-goes : (call : Caller Page) → CallsGo call → WaysGo (in_task call)
  in_task-goes call c =
      record {
        Here = AtZeroTop;
        later = λ m r le x. (at_top-later m r le.2 le.3 x.0, le.6.level (outside x.0.1) ∙ x.1, le.6.follows x.2);
        passes = λ m r le k x. (at_top-later m r le.2 le.3 x.0, k.level (outside x.0.1) ∙ x.1, k.follows x.2);
        framed = λ t m x. (x.0, x.1, frame-following t m.host x.2);
        fits = λ m x h e. x.1;
        call = c;
        There = AtTop;
        there = λ m x. x.0;
        over = λ m r le x. at_top-later m r le.2 le.3 x;
        after = checkpoint-goes call c;
      }

  abbrev pub in_script-goes : (call : Caller Page) → CallsGo call → WaysGo (in_script call)
  in_script-goes call c =
      record {
        Here = IsOpen;
        later = λ m r le x e. x (sym le.2.0 ∙ e);
        passes = λ m r le k x e. x (sym le.2.0 ∙ e);
        framed = λ t m x. x;
        fits = λ m x h e. absurd (x e);
        call = c;
        There = λ m. Unit {0};
        there = λ m x. tt;
        over = λ m r le x. tt;
        after = λ m g x. finish-goes m g;
      }

  -- ---- dispatch, abort, priority change

  -- steps for numbers of some kind, from a state on
  pub each_in_turn-goes : (m : State) (P : Made → ℕ → Type 0) → ((n n' : Made) → Grows n n' → (k : ℕ) → P n k → P n' k) → (step : ℕ → State → Done Page) → ((k : ℕ) (r : State) → Le m r → Good r → P (made_by r.host) k → Goes r (step k r)) → (ks : List ℕ) (r : State) → Le m r → Good r → Each (P (made_by r.host)) ks → Goes r (each_in_turn ks step r)
  each_in_turn-goes m P grow step s [] r le g x = finish-goes r g
  each_in_turn-goes m P grow step s (k ∷ ks) r le g x =
      afterwards-goes r (step k r) (each_in_turn ks step) (s k r le g x.0)
      (λ t le' gt. each_in_turn-goes m P grow step s ks t (le-then m r t le le') gt (Each-more (P (made_by r.host)) (P (made_by t.host)) (grow (made_by r.host) (made_by t.host) le'.0) ks x.1))

  pub dispatch-goes : (w : Ways) (a : WaysGo w) → (target : Target) (name : List ℕ) (args : List Value) (m : State) → Good m → a.Here m → Each (IsKnown (made_by m.host)) args → Goes m (dispatch w target name args m)
  dispatch-goes w a target name args m g z k =
      each_in_turn-goes m (IsFor (OfKind ListenerKind)) (λ n n' h. IsFor-grows n n' h (OfKind ListenerKind)) (call_listener w args)
      (λ r s le gs x. branch_when-goes (is_listening r s.host.listeners) s (invoke w r false args) finish (λ y. invoke-goes w a (AListener r) tt false args s gs (a.there s (a.later m s le z)) y x (stays s.host gs.0) (values-grow (made_by m.host) (made_by s.host) le.0 args k) (a.fits s (a.later m s le z))) (λ y. finish-goes s gs))
      (snapshot target name m.host.listeners) m (le-same m) g (snapshot-given (made_by m.host) target name m.host.listeners (g.0 InListeners))

  abbrev IsSignal : Made → ℕ → Type 0
  IsSignal n s = IsGiven n.signals s

  -- where a step ends, signal k can abort nothing any more
  abbrev Cleared : ℕ → State → Done Page → Type 0
  Cleared k m (Gives v r) = (pend : ℕ → Bool) → PostsWatched (among (k ∷ []) pend) m.host → PostsWatched pend r.host
  Cleared k m (Throws v r) = (pend : ℕ → Bool) → PostsWatched (among (k ∷ []) pend) m.host → PostsWatched pend r.host
  Cleared k m (Returns v r) = (pend : ℕ → Bool) → PostsWatched (among (k ∷ []) pend) m.host → PostsWatched pend r.host
  Cleared k m (OutOfFuel r) = Unit {0}

  cleared-later : (k : ℕ) (m r : State) (d : Done Page) → ((pend : ℕ → Bool) → PostsWatched (among (k ∷ []) pend) m.host → PostsWatched pend r.host) → Goes r d → Cleared k m d
  cleared-later k m r (Gives v t) c h = λ pend w. h.0.5.posts pend (c pend w)
  cleared-later k m r (Throws v t) c h = λ pend w. h.0.5.posts pend (c pend w)
  cleared-later k m r (Returns v t) c h = λ pend w. h.0.5.posts pend (c pend w)
  cleared-later k m r (OutOfFuel t) c h = tt

  abort_steps-goes : (w : Ways) (a : WaysGo w) → (s : ℕ) (m : State) → Good m → a.Here m → IsSignal (made_by m.host) s → is_aborted m.host s ≡ true → Goes m (abort_steps w s m) × Cleared s m (abort_steps w s m)
  abort_steps-goes w a s m g z x e =
      let runs = run_algorithms-runs s m.host g.0 e in
      let b = on_page-reached m (run_algorithms s) g runs.0 in
      let after = on_page (run_algorithms s) m in
      let h = dispatch-goes w a (AtSignal s) (codes "abort") (SignalValue s ∷ []) after b.1 (a.later m after b.0 z) (signal-grows (made_by m.host) (made_by (run_algorithms s m.host)) b.0.0 s x, tt) in
      (wide m after (abort_steps w s m) b.0 h, cleared-later s m after (abort_steps w s m) runs.1 h)

  each_both : (P Q : ℕ → Type 0) (ks : List ℕ) → Each P ks → Each Q ks → Each (λ k. P k × Q k) ks
  each_both P Q [] h k = tt
  each_both P Q (x ∷ ks) h k = ((h.0, k.0), each_both P Q ks h.1 k.1)

  emitted_aborts : (es : List Event) (ks : List ℕ) (p : Page) → Each (λ k. is_aborted p k ≡ true) ks → Each (λ k. is_aborted (emit_each es p) k ≡ true) ks
  emitted_aborts [] ks p h = h
  emitted_aborts (e ∷ es) ks p h = emitted_aborts es ks (emit e p) h

  -- signals that were aborted in a page
  abbrev AreMarked : Page → List ℕ → Type 0
  AreMarked p ks = Each (λ k. IsSignal (made_by p) k × is_aborted p k ≡ true) ks

  marked-later : (p q : Page) → Grows (made_by p) (made_by q) → Moves p q → (ks : List ℕ) → AreMarked p ks → AreMarked q ks
  marked-later p q g row ks x = Each-more (λ k. IsSignal (made_by p) k × is_aborted p k ≡ true) (λ k. IsSignal (made_by q) k × is_aborted q k ≡ true) (λ k y. (signal-grows (made_by p) (made_by q) g k y.0, moves-aborted row k y.1)) ks x

  -- how the abort steps of signals end, whose aborts are under way before
  abbrev AbortsGo : List ℕ → State → Done Page → Type 0
  AbortsGo ks m (Gives v r) = Loose m r × Good r × IsKnown (made_by r.host) v × TimersWait m.host r.host × LivesStay m.host r.host × ((pend : ℕ → Bool) → PostsWatched (among ks pend) m.host → PostsWatched pend r.host) × Tracks m.host r.host
  AbortsGo ks m (Throws v r) = Loose m r × Good r × IsKnown (made_by r.host) v × TimersWait m.host r.host × LivesStay m.host r.host × ((pend : ℕ → Bool) → PostsWatched (among ks pend) m.host → PostsWatched pend r.host) × Tracks m.host r.host
  AbortsGo ks m (Returns v r) = Loose m r × Good r × IsKnown (made_by r.host) v × TimersWait m.host r.host × LivesStay m.host r.host × ((pend : ℕ → Bool) → PostsWatched (among ks pend) m.host → PostsWatched pend r.host) × Tracks m.host r.host
  AbortsGo ks m (OutOfFuel r) = Moves m.host r.host × Told m.host r.host

  aborts-then : (k : ℕ) (ks : List ℕ) (m t : State) (d : Done Page) → Le m t → ((pend : ℕ → Bool) → PostsWatched (among (k ∷ []) pend) m.host → PostsWatched pend t.host) → AbortsGo ks t d → AbortsGo (k ∷ ks) m d
  aborts-then k ks m t (Gives v r) le c h = (loose-then m t r (loose m t le) h.0, h.1, h.2, λ i hand w. h.3 (kept-later le.1 i) hand (le.5.waits i hand w), λ i id handle n l. h.4 (kept-later le.1 i) id handle n (le.5.live i id handle n l), λ pend w. h.5 pend (c (among ks pend) w), tracks-then m.host t.host r.host le.2 le.6 h.6)
  aborts-then k ks m t (Throws v r) le c h = (loose-then m t r (loose m t le) h.0, h.1, h.2, λ i hand w. h.3 (kept-later le.1 i) hand (le.5.waits i hand w), λ i id handle n l. h.4 (kept-later le.1 i) id handle n (le.5.live i id handle n l), λ pend w. h.5 pend (c (among ks pend) w), tracks-then m.host t.host r.host le.2 le.6 h.6)
  aborts-then k ks m t (Returns v r) le c h = (loose-then m t r (loose m t le) h.0, h.1, h.2, λ i hand w. h.3 (kept-later le.1 i) hand (le.5.waits i hand w), λ i id handle n l. h.4 (kept-later le.1 i) id handle n (le.5.live i id handle n l), λ pend w. h.5 pend (c (among ks pend) w), tracks-then m.host t.host r.host le.2 le.6 h.6)
  aborts-then k ks m t (OutOfFuel r) le c h = (moves-then le.1 h.0, told-then m.host t.host r.host le.2 le.6.follows h.1)

  aborts-go : (w : Ways) (a : WaysGo w) → (ks : List ℕ) (m : State) → Good m → a.Here m → AreMarked m.host ks → AbortsGo ks m (each_in_turn ks (abort_steps w) m)
  aborts-go w a [] m g z x = (loose m m (le-same m), g, tt, λ i hand h. h, λ i id handle n l. l, λ pend h. h, tracks-same m.host)
  aborts-go w a (k ∷ ks) m g z x =
      let one = abort_steps-goes w a k m g z x.0.0 x.0.1 in
      by_end (abort_steps w k m) one.0 one.1 (λ t le gt. aborts-go w a ks t gt (a.later m t le z) (marked-later m.host t.host le.0 le.1 ks x.1))
    where
      by_end : (d : Done Page) → Goes m d → Cleared k m d → ((t : State) → Le m t → Good t → AbortsGo ks t (each_in_turn ks (abort_steps w) t)) → AbortsGo (k ∷ ks) m (afterwards d (λ m. each_in_turn ks (abort_steps w) m))
      by_end (Gives v t) h c rest = aborts-then k ks m t (each_in_turn ks (abort_steps w) t) h.0 c (rest t h.0 h.1)
      by_end (Throws v t) h c rest = aborts-then k ks m t (each_in_turn ks (abort_steps w) t) h.0 c (rest t h.0 h.1)
      by_end (Returns v t) h c rest = aborts-then k ks m t (each_in_turn ks (abort_steps w) t) h.0 c (rest t h.0 h.1)
      by_end (OutOfFuel t) h c rest = h

  -- from before the reason is set
  aborted-goes : (ks : List ℕ) (m t : State) (d : Done Page) → Loose m t → TimersWait m.host t.host → LivesStay m.host t.host → ((pend : ℕ → Bool) → PostsWatched pend m.host → PostsWatched (among ks pend) t.host) → Tracks m.host t.host → AbortsGo ks t d → Goes m d
  aborted-goes ks m t (Gives v r) le u l c k h =
      let all = loose-then m t r le h.0 in
      ((all.0, all.1, all.2, all.3, all.4, record { waits = λ i hand w. h.3 (kept-later le.1 i) hand (u i hand w); live = λ i id handle n k. h.4 (kept-later le.1 i) id handle n (l i id handle n k); posts = λ pend w. h.5 pend (c pend w) }, tracks-then m.host t.host r.host le.2 k h.6), h.1, h.2)
  aborted-goes ks m t (Throws v r) le u l c k h =
      let all = loose-then m t r le h.0 in
      ((all.0, all.1, all.2, all.3, all.4, record { waits = λ i hand w. h.3 (kept-later le.1 i) hand (u i hand w); live = λ i id handle n k. h.4 (kept-later le.1 i) id handle n (l i id handle n k); posts = λ pend w. h.5 pend (c pend w) }, tracks-then m.host t.host r.host le.2 k h.6), h.1, h.2)
  aborted-goes ks m t (Returns v r) le u l c k h =
      let all = loose-then m t r le h.0 in
      ((all.0, all.1, all.2, all.3, all.4, record { waits = λ i hand w. h.3 (kept-later le.1 i) hand (u i hand w); live = λ i id handle n k. h.4 (kept-later le.1 i) id handle n (l i id handle n k); posts = λ pend w. h.5 pend (c pend w) }, tracks-then m.host t.host r.host le.2 k h.6), h.1, h.2)
  aborted-goes ks m t (OutOfFuel r) le u l c k h = (moves-then le.1 h.0, told-then m.host t.host r.host le.2 k.follows h.1)

  pub abort-goes : (w : Ways) (a : WaysGo w) → (s : ℕ) (reason : Value) (m : State) → Good m → a.Here m → IsSignal (made_by m.host) s → IsKnown (made_by m.host) reason → Goes m (abort w s reason m)
  abort-goes w a s reason m g z x v =
      let ss = marked s m.host.signals in
      let p : Page = record m.host { signals = with_reason reason ss m.host.signals } in
      let after = on_page (reason_set reason ss) m in
      let b = numbers.on_page-good m (reason_set reason ss) g (reason_set-held reason ss m.host g.0 v) in
      let change = reason_set-change reason ss m.host in
      let lines = emit_aborts ss p in
      let told_all = changes-timers lines in
      let first : Moves m.host p = changing here change tt in
      let set : Loose m after = (
        b.0,
        moves-then first (moves_of lines),
        same-then m.host p after.host (change-same change) (changes-same lines),
        kept-then m.host p after.host (change-kept change) (changes-kept lines),
        λ y. all-go lines (change-goes-on change y),
      ) in
      let still = following.change-stays change tt in
      let tracks : Tracks m.host after.host =
      tracks-then m.host p after.host (change-same change) (record { older = following.stays-older m.host p still; level = λ x. still.level; follows = following.following-stays m.host p first still }) (changes-track lines) in
      let marks : Each (IsSignal (made_by m.host)) ss = marked-given (made_by m.host) s m.host.signals x (g.0 InSignals) in
      aborted-goes ss m after (each_in_turn ss (abort_steps w) after) set
      (λ i hand h. told_all.waits (kept-later first i) hand (waits-same m.host p refl refl refl i hand h)) (λ i id handle n l. told_all.live (kept-later first i) id handle n (lives-same m.host p refl refl refl i id handle n l))
      (λ pend h. told_all.posts (among ss pend) (reason-posts reason ss m.host pend h)) tracks
      (aborts-go w a ss after b.1 (a.passes m after set tracks z)
      (each_both (IsSignal (made_by after.host)) (λ k. is_aborted after.host k ≡ true) ss (signals-grow (made_by m.host) (made_by after.host) b.0 ss marks)
      (emitted_aborts (map Abort ss) ss p (reason-aborted reason ss m.host.signals marks))))

  change_through-goes : (w : Ways) (a : WaysGo w) → (s : ℕ) (priority : Priority) (each : ℕ → State → Done Page) → ((k : ℕ) (r : State) → Good r → a.Here r → IsSignal (made_by r.host) k → Goes r (each k r)) → (m : State) → Good m → a.Here m → IsSignal (made_by m.host) s → Goes m (change_through w s priority each m)
  change_through-goes w a s priority each q m g z x =
      let before = m.host.prios in
      afterwards-goes m _ _
      (then_page m (change_begun s priority) _ g (change_begun-onto s priority m.host g.0)
      (λ b. dispatch-goes w a (AtSignal s) (codes "prioritychange") (SignalValue s ∷ priority_value (priority_of before s) ∷ []) (on_page (change_begun s priority) m) b.1 (a.later m (on_page (change_begun s priority) m) b.0 z) (x, (priority_value-known (made_by m.host) (priority_of before s), tt))))
      (λ r le gr. afterwards-goes r _ _
      (each_in_turn-goes r IsSignal signal-grows each (λ k t le' gt y. q k t gt (a.later m t (le-then m r t le le') z) y) (followers before s) r (le-same r) gr
      (signals-grow (made_by m.host) (made_by r.host) le.0 (followers before s) (followers-known (made_by m.host) before s (g.0 InPrios))))
      (λ t le' gt. finish_page t (change_ended s) gt (change_ended-onto s t.host gt.0)))

  pub change-goes : (w : Ways) (a : WaysGo w) → (priority : Priority) (n s : ℕ) (m : State) → Good m → a.Here m → IsSignal (made_by m.host) s → Goes m (change w priority n s m)
  change-goes w a priority zero s m g z x = finish-goes m g
  change-goes w a priority (suc n) s m g z x =
      branch-goes (TaskSignals.is_changing m.host.prios s || has_priority m.host.prios s priority) m finish (change_through w s priority (change w priority n)) (finish-goes m g)
      (change_through-goes w a s priority (change w priority n) (change-goes w a priority n) m g z x)
