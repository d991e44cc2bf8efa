-- What the parts of a page do, where their numbers are given.
use Rattle.std.proofs.Common.{slice_get, ◌≡◌, ℕ, zero, suc, ◌≤◌, Bool, true, false, List, [], ◌∷◌, length, Option, Some, None, refl, ap, ◌∙◌, arith, cond, not}
use Rattle.std.specs.Prelude.{filter, slice_set, ◌==◌}
use Rattle.page_types.specs.Values.{Value, PromiseValue, SignalValue, ControllerValue, ListValue, FunValue, Values, no_values, with_value, items_of, values_of}
use Rattle.page_types.specs.declared.FaultName.TheVariants.{TypeError}
use Rattle.page_parts.specs.Words.{without, with_numbered, and_last, has_number, is_empty}
use Rattle.page_parts.specs.Kinds.{promise_in, signal_in, controller_in, list_in, func_in, a_fault}
use Rattle.page_parts.specs.Promises as Promises
use Rattle.page_parts.specs.Promises.{Settled, Fulfilled, Failed, settled_value, Reaction, PromiseRecord, PromiseJob, React, Change, pending_promise, no_change}
use Rattle.page_parts.specs.Notices as Notices
use Rattle.page_parts.specs.Notices.{Context, Todo, OfPromise, Notices, queue_job, queue_jobs, promise_changed, changed, settle_promise, follow_promise, subscribe_promise, note_outstanding}
use Rattle.page_parts.specs.Promises.{the_promise}
use Rattle.page_parts.specs.AbortGraph as AbortGraph
use Rattle.page_parts.specs.AbortGraph.{SignalRecord, Signals, fresh_signal, the_signal, reason_of, make_aborted, first_reason, sources_through, and_new, all_sources, with_dependent, depend_on, marked, with_reason, with_algorithms, is_aborted}
use Rattle.page_parts.specs.TaskSignals.{PrioRecord, Prios, changed_at, record_of, followed, followers}
use Rattle.page_parts.specs.Listeners.{Listener, Target, snapshot}
use Rattle.page_parts.specs.HostClosures.{HostClosure}
use Rattle.page_types.specs.declared.RegKind.TheVariants.{Listener as ListenerKind}
use Rattle.page_model.specs.State.{OfKind, HostTask}
use Rattle.page_model.specs.PageSignals.{closure_dropped, drop_at, drop_closure}
use Rattle.page_model.specs.Numbers.{IsFor, JobIsGiven, Each, IfThere, Made, IsGiven, HasPromise, IsKnown, AreKnown, ReactionIsGiven, PromiseIsGiven, PromiseJobIsGiven, TodoIsGiven, NoticesAreGiven, SignalIsGiven, PrioIsGiven, ListenerIsGiven}
use Rattle.page_model.proofs.GivenNumbers.Growing.{Each-more, Each-last, Each-cond, Each-without, Each-filter, Each-map, Each-with, Each-numbered, Each-find, length-last}

pub length-put : {X : Type 0} (xs : List X) (k : ℕ) (x : X) → length (slice_set xs k x) ≡ length xs
length-put [] k x = refl
length-put (y ∷ xs) zero x = refl
length-put (y ∷ xs) (suc k) x = ap suc (length-put xs k x)

pub length-with : {X : Type 0} (xs : List X) (k : ℕ) (x : X) → length (with_numbered xs k x) ≡ length xs
length-with xs zero x = refl
length-with xs (suc k) x = length-put xs k x

-- ---- no number is given back

queue_jobs-more : (now : Context) (js : List PromiseJob) (s : Notices) → s.jobs_made ≤ (queue_jobs now js s).notices.jobs_made
queue_jobs-more now [] s = omega arith
queue_jobs-more now (x ∷ js) s = omega (arith, queue_jobs-more now js (queue_job now (OfPromise x) s).notices)

changed-more : (now : Context) (names : List (List ℕ)) (k : ℕ) (c : Change) (s : Notices) → s.jobs_made ≤ (changed now names k c s).notices.jobs_made
changed-more now names k c s = queue_jobs-more now c.jobs (promise_changed names k c s).notices

pub settle_promise-more : (now : Context) (names : List (List ℕ)) (k : ℕ) (how : Settled) (s : Notices) → s.jobs_made ≤ (settle_promise now names k how s).notices.jobs_made
settle_promise-more now names k (Fulfilled v) s = changed-more now names k (Promises.resolve k (the_promise s.promises k) v) s
settle_promise-more now names k (Failed v) s = changed-more now names k (Promises.reject k (the_promise s.promises k) v) s

pub follow_promise-more : (now : Context) (names : List (List ℕ)) (k : ℕ) (how : Settled) (s : Notices) → s.jobs_made ≤ (follow_promise now names k how s).notices.jobs_made
follow_promise-more now names k how s = changed-more now names k (Promises.follow k (the_promise s.promises k) how) s

pub subscribe_promise-more : (now : Context) (k : ℕ) (r : Reaction) (s : Notices) → s.jobs_made ≤ (subscribe_promise now k r s).notices.jobs_made
subscribe_promise-more now k r s =
    changed-more now [] k (Promises.subscribe k (the_promise s.promises k) r) (record s { rejected = without (λ m. m == k) s.rejected; outstanding = without (λ m. m == k) s.outstanding })

-- ---- values

module _ (n : Made) where
  pub items-known : (vs : Values) → AreKnown n vs → Each (IsKnown n) (items_of vs)
  items-known no_values h = tt
  items-known (with_value v vs) h = (h.0, items-known vs h.1)

  pub values-known : (vs : List Value) → Each (IsKnown n) vs → AreKnown n (values_of vs)
  values-known [] h = tt
  values-known (v ∷ vs) h = (h.0, values-known vs h.1)

  pub promise_in-given : (v : Value) → IsKnown n v → IfThere (IsGiven n.promises) (promise_in v)
  promise_in-given (PromiseValue k) h = h
  promise_in-given v h = tt

  pub signal_in-given : (v : Value) → IsKnown n v → IfThere (IsGiven n.signals) (signal_in v)
  signal_in-given (SignalValue k) h = h
  signal_in-given v h = tt

  pub controller_in-given : (v : Value) → IsKnown n v → IfThere (IsGiven n.signals) (controller_in v)
  controller_in-given (ControllerValue k) h = h
  controller_in-given v h = tt

  pub list_in-given : (v : Value) → IsKnown n v → IfThere (AreKnown n) (list_in v)
  list_in-given (ListValue vs) h = h
  list_in-given v h = tt

  pub func_in-given : (v : Value) → IsKnown n v → IfThere (λ f. AreKnown n f.bound) (func_in v)
  func_in-given (FunValue f vs) h = h
  func_in-given v h = tt

  -- ---- promises

  pub record ChangeIsGiven (c : Change) : Type 0 where
    pub promise : PromiseIsGiven n c.promise
    pub jobs : Each (PromiseJobIsGiven n) c.jobs

  cond_change : (b : Bool) (c d : Change) → ChangeIsGiven c → ChangeIsGiven d → ChangeIsGiven (cond b c d)
  cond_change true c d h k = h
  cond_change false c d h k = k

  no_change-given : (q : PromiseRecord) → PromiseIsGiven n q → ChangeIsGiven (no_change q)
  no_change-given q h = record { promise = h; jobs = tt }

  pending-given : PromiseIsGiven n pending_promise
  pending-given = record { outcome = tt; reactions = tt }

  settled-given : (k : ℕ) (q : PromiseRecord) (how : Settled) → IsGiven n.promises k → PromiseIsGiven n q → IsKnown n (settled_value how) → ChangeIsGiven (Promises.settle k q how)
  settled-given k q how g h v =
      record {
        promise = record { outcome = v; reactions = tt };
        jobs = Each-map (PromiseJobIsGiven n) (React k) q.reactions (Each-more (ReactionIsGiven n) (λ x. PromiseJobIsGiven n (React k x)) (λ x r. (g, r)) q.reactions h.reactions);
      }

  unlocked-given : (k : ℕ) (q : PromiseRecord) (v : Value) (o : Option ℕ) → IsGiven n.promises k → PromiseIsGiven n q → IsKnown n v → IfThere (IsGiven n.promises) o → ChangeIsGiven (Promises.resolve_unlocked k q v o)
  unlocked-given k q v None g h x e = settled-given k q (Fulfilled v) g h x
  unlocked-given k q v (Some other) g h x e =
      cond_change (other == k) (Promises.settle k q (Failed (a_fault TypeError))) (Promises.adopt k q other) (settled-given k q (Failed (a_fault TypeError)) g h tt)
      (record { promise = record { outcome = h.outcome; reactions = h.reactions }; jobs = ((g, e), tt) })

  resolved-given : (k : ℕ) (q : PromiseRecord) (v : Value) → IsGiven n.promises k → PromiseIsGiven n q → IsKnown n v → ChangeIsGiven (Promises.resolve k q v)
  resolved-given k q v g h x =
      cond_change q.locked (no_change q) (Promises.resolve_unlocked k q v (promise_in v)) (no_change-given q h) (unlocked-given k q v (promise_in v) g h x (promise_in-given v x))

  rejected-given : (k : ℕ) (q : PromiseRecord) (v : Value) → IsGiven n.promises k → PromiseIsGiven n q → IsKnown n v → ChangeIsGiven (Promises.reject k q v)
  rejected-given k q v g h x = cond_change q.locked (no_change q) (Promises.settle k q (Failed v)) (no_change-given q h) (settled-given k q (Failed v) g h x)

  followed-given : (k : ℕ) (q : PromiseRecord) (how : Settled) → IsGiven n.promises k → PromiseIsGiven n q → IsKnown n (settled_value how) → ChangeIsGiven (Promises.follow k q how)
  followed-given k q how g h v = by_outcome q.outcome
    where
      by_outcome : (o : Option Settled) → ChangeIsGiven (elim o [ None ↦ Promises.settle k q how | Some before ↦ no_change q ])
      by_outcome None = settled-given k q how g h v
      by_outcome (Some before) = no_change-given q h

  subscribed_by-given : (k : ℕ) (q : PromiseRecord) (r : Reaction) (o : Option Settled) → IsGiven n.promises k → PromiseIsGiven n q → ReactionIsGiven n r → ChangeIsGiven (Promises.subscribe_by k q r o)
  subscribed_by-given k q r None g h x = record { promise = record { outcome = h.outcome; reactions = Each-last (ReactionIsGiven n) q.reactions r h.reactions x }; jobs = tt }
  subscribed_by-given k q r (Some how) g h x = record { promise = record { outcome = h.outcome; reactions = h.reactions }; jobs = ((g, x), tt) }

  -- ---- notices

  pub the_promise-given : (s : Notices) (k : ℕ) → NoticesAreGiven n s → PromiseIsGiven n (the_promise s.promises k)
  the_promise-given s k h = Each-numbered (PromiseIsGiven n) s.promises k pending_promise h.promises pending-given

  pub queue_job-given : (now : Context) → IfThere (IsGiven n.states) now.state → (what : Todo) (s : Notices) → suc s.jobs_made ≤ n.jobs → TodoIsGiven n what → NoticesAreGiven n s → NoticesAreGiven n (queue_job now what s).notices
  queue_job-given now y what s le t h =
      record {
        promises = h.promises;
        jobs = Each-last (JobIsGiven n) s.jobs _ h.jobs (record { number = record { from_one = omega arith; to_last = le }; what = t; state = y });
        rejected = h.rejected;
        outstanding = h.outstanding;
      }

  queue_jobs-given : (now : Context) → IfThere (IsGiven n.states) now.state → (js : List PromiseJob) (s : Notices) → (queue_jobs now js s).notices.jobs_made ≤ n.jobs → Each (PromiseJobIsGiven n) js → NoticesAreGiven n s → NoticesAreGiven n (queue_jobs now js s).notices
  queue_jobs-given now y [] s le j h = h
  queue_jobs-given now y (x ∷ js) s le j h =
      let next = (queue_job now (OfPromise x) s).notices in
      queue_jobs-given now y js next le j.1 (queue_job-given now y (OfPromise x) s (omega (arith, le, queue_jobs-more now js next)) j.0 h)

  changed-given : (now : Context) → IfThere (IsGiven n.states) now.state → (names : List (List ℕ)) (k : ℕ) (c : Change) (s : Notices) → (changed now names k c s).notices.jobs_made ≤ n.jobs → IsGiven n.promises k → ChangeIsGiven c → NoticesAreGiven n s → NoticesAreGiven n (changed now names k c s).notices
  changed-given now y names k c s le g x h =
      queue_jobs-given now y c.jobs (promise_changed names k c s).notices le x.jobs
      (record {
        promises = Each-with (PromiseIsGiven n) s.promises k c.promise h.promises x.promise;
        jobs = h.jobs;
        rejected = Each-cond (IsGiven n.promises) c.newly_rejected (and_last s.rejected k) s.rejected (Each-last (IsGiven n.promises) s.rejected k h.rejected g) h.rejected;
        outstanding = h.outstanding;
      })

  pub settle_promise-given : (now : Context) → IfThere (IsGiven n.states) now.state → (names : List (List ℕ)) (k : ℕ) (how : Settled) (s : Notices) → (settle_promise now names k how s).notices.jobs_made ≤ n.jobs → IsGiven n.promises k → IsKnown n (settled_value how) → NoticesAreGiven n s → NoticesAreGiven n (settle_promise now names k how s).notices
  settle_promise-given now y names k (Fulfilled v) s le g x h = changed-given now y names k (Promises.resolve k (the_promise s.promises k) v) s le g (resolved-given k (the_promise s.promises k) v g (the_promise-given s k h) x) h
  settle_promise-given now y names k (Failed v) s le g x h = changed-given now y names k (Promises.reject k (the_promise s.promises k) v) s le g (rejected-given k (the_promise s.promises k) v g (the_promise-given s k h) x) h

  pub follow_promise-given : (now : Context) → IfThere (IsGiven n.states) now.state → (names : List (List ℕ)) (k : ℕ) (how : Settled) (s : Notices) → (follow_promise now names k how s).notices.jobs_made ≤ n.jobs → IsGiven n.promises k → IsKnown n (settled_value how) → NoticesAreGiven n s → NoticesAreGiven n (follow_promise now names k how s).notices
  follow_promise-given now y names k how s le g x h = changed-given now y names k (Promises.follow k (the_promise s.promises k) how) s le g (followed-given k (the_promise s.promises k) how g (the_promise-given s k h) x) h

  pub subscribe_promise-given : (now : Context) → IfThere (IsGiven n.states) now.state → (k : ℕ) (r : Reaction) (s : Notices) → (subscribe_promise now k r s).notices.jobs_made ≤ n.jobs → IsGiven n.promises k → ReactionIsGiven n r → NoticesAreGiven n s → NoticesAreGiven n (subscribe_promise now k r s).notices
  subscribe_promise-given now y k r s le g x h =
      changed-given now y [] k (Promises.subscribe k (the_promise s.promises k) r) (record s { rejected = without (λ m. m == k) s.rejected; outstanding = without (λ m. m == k) s.outstanding }) le g
      (subscribed_by-given k (the_promise s.promises k) r (the_promise s.promises k).outcome g (the_promise-given s k h) x)
      (record {
        promises = h.promises;
        jobs = h.jobs;
        rejected = Each-without (IsGiven n.promises) (λ m. m == k) s.rejected h.rejected;
        outstanding = Each-without (IsGiven n.promises) (λ m. m == k) s.outstanding h.outstanding;
      })

  pub make-given : (s : Notices) → NoticesAreGiven n s → NoticesAreGiven n (Notices.make s)
  make-given s h = record { promises = Each-last (PromiseIsGiven n) s.promises pending_promise h.promises pending-given; jobs = h.jobs; rejected = h.rejected; outstanding = h.outstanding }

  pub note_outstanding-given : (k : ℕ) (s : Notices) → IsGiven n.promises k → NoticesAreGiven n s → NoticesAreGiven n (note_outstanding k s)
  note_outstanding-given k s g h = by_handled (the_promise s.promises k).handled
    where
      by_handled : (b : Bool) → NoticesAreGiven n (cond b s (record s { outstanding = and_last s.outstanding k }))
      by_handled true = h
      by_handled false = record { promises = h.promises; jobs = h.jobs; rejected = h.rejected; outstanding = Each-last (IsGiven n.promises) s.outstanding k h.outstanding g }

  -- ---- signals

  fresh-given : SignalIsGiven n fresh_signal
  fresh-given = record { reason = tt; sources = tt; dependents = tt; algorithms = tt }

  pub the_signal-given : (ss : Signals Value) (s : ℕ) → Each (SignalIsGiven n) ss → SignalIsGiven n (the_signal ss s)
  the_signal-given ss s h = Each-numbered (SignalIsGiven n) ss s fresh_signal h fresh-given

  pub signals-make-given : (ss : Signals Value) → Each (SignalIsGiven n) ss → Each (SignalIsGiven n) (AbortGraph.make ss)
  signals-make-given ss h = Each-last (SignalIsGiven n) ss fresh_signal h fresh-given

  pub make_aborted-given : (reason : Value) (ss : Signals Value) → IsKnown n reason → Each (SignalIsGiven n) ss → Each (SignalIsGiven n) (make_aborted reason ss)
  make_aborted-given reason ss r h = Each-last (SignalIsGiven n) ss _ h (record { reason = r; sources = tt; dependents = tt; algorithms = tt })

  first_reason-known : (ss : Signals Value) (of : List ℕ) → Each (SignalIsGiven n) ss → IfThere (IsKnown n) (first_reason ss of)
  first_reason-known ss [] h = tt
  first_reason-known ss (s ∷ more) h = by_reason (reason_of ss s) (the_signal-given ss s h).reason (first_reason-known ss more h)
    where
      by_reason : (o : Option Value) → IfThere (IsKnown n) o → IfThere (IsKnown n) (first_reason ss more) → IfThere (IsKnown n) (elim o [ Some v ↦ Some v | None ↦ first_reason ss more ])
      by_reason None x rest = rest
      by_reason (Some v) x rest = x

  sources_through-given : (ss : Signals Value) (s : ℕ) → Each (SignalIsGiven n) ss → IsGiven n.signals s → Each (IsGiven n.signals) (sources_through ss s)
  sources_through-given ss s h g = Each-cond (IsGiven n.signals) (is_empty (the_signal ss s).sources) (s ∷ []) (the_signal ss s).sources (g, tt) (the_signal-given ss s h).sources

  and_new-given : (known more : List ℕ) → Each (IsGiven n.signals) known → Each (IsGiven n.signals) more → Each (IsGiven n.signals) (and_new known more)
  and_new-given known [] h k = h
  and_new-given known (s ∷ more) h k =
      and_new-given (cond (has_number known s) known (and_last known s)) more
      (Each-cond (IsGiven n.signals) (has_number known s) known (and_last known s) h (Each-last (IsGiven n.signals) known s h k.0)) k.1

  all_sources-given : (ss : Signals Value) (known of : List ℕ) → Each (SignalIsGiven n) ss → Each (IsGiven n.signals) known → Each (IsGiven n.signals) of → Each (IsGiven n.signals) (all_sources ss known of)
  all_sources-given ss known [] h k g = k
  all_sources-given ss known (s ∷ more) h k g = all_sources-given ss (and_new known (sources_through ss s)) more h (and_new-given known (sources_through ss s) k (sources_through-given ss s h g.0)) g.1

  with_dependent-given : (d : ℕ) (sources : List ℕ) (ss : Signals Value) → IsGiven n.signals d → Each (SignalIsGiven n) ss → Each (SignalIsGiven n) (with_dependent d sources ss)
  with_dependent-given d [] ss g h = h
  with_dependent-given d (s ∷ more) ss g h =
      let x = the_signal-given ss s h in
      with_dependent-given d more (with_numbered ss s (record (the_signal ss s) { dependents = and_last (the_signal ss s).dependents d })) g
      (Each-with (SignalIsGiven n) ss s _ h (record { reason = x.reason; sources = x.sources; dependents = Each-last (IsGiven n.signals) (the_signal ss s).dependents d x.dependents g; algorithms = x.algorithms }))

  -- a dependent signal, where its own number is among those of n
  pub any-given : (of : List ℕ) (ss : Signals Value) → suc (length ss) ≤ n.signals → Each (IsGiven n.signals) of → Each (SignalIsGiven n) ss → Each (SignalIsGiven n) (AbortGraph.any of ss)
  any-given of ss le g h = by_reason (first_reason ss of) (first_reason-known ss of h)
    where
      by_reason : (o : Option Value) → IfThere (IsKnown n) o → Each (SignalIsGiven n) (elim o [ Some v ↦ make_aborted v ss | None ↦ depend_on (all_sources ss [] of) ss ])
      by_reason None x =
          let sources = all_sources ss [] of in
          let new : SignalRecord Value = record { reason = None; sources = sources; dependents = []; algorithms = [] } in
          let new_given : SignalIsGiven n new = record { reason = tt; sources = all_sources-given ss [] of h tt g; dependents = tt; algorithms = tt } in
          let last : IsGiven n.signals (length (and_last ss new)) = record { from_one = omega (arith, length-last ss new); to_last = omega (arith, length-last ss new) } in
          with_dependent-given (length (and_last ss new)) sources (and_last ss new) last (Each-last (SignalIsGiven n) ss new h new_given)
      by_reason (Some v) x = make_aborted-given v ss x h

  pub marked-given : (s : ℕ) (ss : Signals Value) → IsGiven n.signals s → Each (SignalIsGiven n) ss → Each (IsGiven n.signals) (marked s ss)
  marked-given s ss g h =
      Each-cond (IsGiven n.signals) (is_aborted ss s) [] (s ∷ filter (λ d. not (is_aborted ss d)) (the_signal ss s).dependents) tt
      (g, Each-filter (IsGiven n.signals) (λ d. not (is_aborted ss d)) (the_signal ss s).dependents (the_signal-given ss s h).dependents)

  pub with_reason-given : (reason : Value) (of : List ℕ) (ss : Signals Value) → IsKnown n reason → Each (SignalIsGiven n) ss → Each (SignalIsGiven n) (with_reason reason of ss)
  with_reason-given reason [] ss r h = h
  with_reason-given reason (s ∷ more) ss r h =
      let x = the_signal-given ss s h in
      with_reason-given reason more (with_numbered ss s (record (the_signal ss s) { reason = Some reason })) r
      (Each-with (SignalIsGiven n) ss s _ h (record { reason = r; sources = x.sources; dependents = x.dependents; algorithms = x.algorithms }))

  pub with_algorithms-given : (s : ℕ) (rs : List ℕ) (ss : Signals Value) → Each (HasPromise n) rs → Each (SignalIsGiven n) ss → Each (SignalIsGiven n) (with_algorithms s rs ss)
  with_algorithms-given s rs ss r h =
      let x = the_signal-given ss s h in
      Each-with (SignalIsGiven n) ss s _ h (record { reason = x.reason; sources = x.sources; dependents = x.dependents; algorithms = r })

  -- ---- priorities

  pub changed_at-given : (s : ℕ) (f : PrioRecord → PrioRecord) (ps : Prios) → ((x : PrioRecord) → PrioIsGiven n x → PrioIsGiven n (f x)) → Each (PrioIsGiven n) ps → Each (PrioIsGiven n) (changed_at s f ps)
  changed_at-given s f [] k h = tt
  changed_at-given s f (x ∷ ps) k h = (by_number (x.signal == s), changed_at-given s f ps k h.1)
    where
      by_number : (b : Bool) → PrioIsGiven n (cond b (f x) x)
      by_number true = k x h.0
      by_number false = h.0

  pub followed-known : (ps : Prios) (s : ℕ) → Each (PrioIsGiven n) ps → IfThere (IsGiven n.signals) (followed ps s)
  followed-known ps s h = by_record (record_of ps s) (Each-find (PrioIsGiven n) (λ r. r.signal == s) ps h)
    where
      by_record : (o : Option PrioRecord) → IfThere (PrioIsGiven n) o → IfThere (IsGiven n.signals) (elim o [ None ↦ None | Some r ↦ r.follows ])
      by_record None x = tt
      by_record (Some r) x = x.follows

  pub followers-known : (ps : Prios) (s : ℕ) → Each (PrioIsGiven n) ps → Each (IsGiven n.signals) (followers ps s)
  followers-known ps s h = by_record (record_of ps s) (Each-find (PrioIsGiven n) (λ r. r.signal == s) ps h)
    where
      by_record : (o : Option PrioRecord) → IfThere (PrioIsGiven n) o → Each (IsGiven n.signals) (elim o [ None ↦ [] | Some r ↦ r.followers ])
      by_record None x = tt
      by_record (Some r) x = x.followers

  -- ---- listeners

  pub snapshot-given : (target : Target) (name : List ℕ) (ls : List Listener) → Each (ListenerIsGiven n) ls → Each (IsFor (OfKind ListenerKind) n) (snapshot target name ls)
  snapshot-given target name ls h =
      Each-map (IsFor (OfKind ListenerKind) n) (λ (l : Listener). l.registration) _ (Each-more (ListenerIsGiven n) (λ l. IsFor (OfKind ListenerKind) n l.registration) (λ l x. x.registration) _ (Each-filter (ListenerIsGiven n) _ ls h))

-- ---- how many there are

queue_jobs-count : (now : Context) (js : List PromiseJob) (s : Notices) → length (queue_jobs now js s).notices.promises ≡ length s.promises
queue_jobs-count now [] s = refl
queue_jobs-count now (x ∷ js) s = queue_jobs-count now js (queue_job now (OfPromise x) s).notices

changed-count : (now : Context) (names : List (List ℕ)) (k : ℕ) (c : Change) (s : Notices) → length (changed now names k c s).notices.promises ≡ length s.promises
changed-count now names k c s = queue_jobs-count now c.jobs (promise_changed names k c s).notices ∙ length-with s.promises k c.promise

pub settle_promise-count : (now : Context) (names : List (List ℕ)) (k : ℕ) (how : Settled) (s : Notices) → length (settle_promise now names k how s).notices.promises ≡ length s.promises
settle_promise-count now names k (Fulfilled v) s = changed-count now names k (Promises.resolve k (the_promise s.promises k) v) s
settle_promise-count now names k (Failed v) s = changed-count now names k (Promises.reject k (the_promise s.promises k) v) s

pub follow_promise-count : (now : Context) (names : List (List ℕ)) (k : ℕ) (how : Settled) (s : Notices) → length (follow_promise now names k how s).notices.promises ≡ length s.promises
follow_promise-count now names k how s = changed-count now names k (Promises.follow k (the_promise s.promises k) how) s

pub subscribe_promise-count : (now : Context) (k : ℕ) (r : Reaction) (s : Notices) → length (subscribe_promise now k r s).notices.promises ≡ length s.promises
subscribe_promise-count now k r s = changed-count now [] k (Promises.subscribe k (the_promise s.promises k) r) _

with_dependent-count : (d : ℕ) (sources : List ℕ) (ss : Signals Value) → length (with_dependent d sources ss) ≡ length ss
with_dependent-count d [] ss = refl
with_dependent-count d (s ∷ more) ss = with_dependent-count d more _ ∙ length-with ss s _

pub any-count : (of : List ℕ) (ss : Signals Value) → length (AbortGraph.any of ss) ≡ suc (length ss)
any-count of ss = by_reason (first_reason ss of)
  where
    by_reason : (o : Option Value) → length {A = SignalRecord Value} (elim o [ Some v ↦ make_aborted v ss | None ↦ depend_on (all_sources ss [] of) ss ]) ≡ suc (length ss)
    by_reason None = with_dependent-count _ (all_sources ss [] of) _ ∙ length-last ss _
    by_reason (Some v) = length-last ss _

pub with_reason-count : (reason : Value) (of : List ℕ) (ss : Signals Value) → length (with_reason reason of ss) ≡ length ss
with_reason-count reason [] ss = refl
with_reason-count reason (s ∷ more) ss = with_reason-count reason more _ ∙ length-with ss s _

pub with_algorithms-count : (s : ℕ) (rs : List ℕ) (ss : Signals Value) → length (with_algorithms s rs ss) ≡ length ss
with_algorithms-count s rs ss = length-with ss s _

-- ---- host closures

drop_at-count : (k : ℕ) (c : Option HostClosure) (hosts : List HostClosure) → length (drop_at k c hosts) ≡ length hosts
drop_at-count k None hosts = refl
drop_at-count k (Some c) hosts = length-put hosts k (closure_dropped c)

pub drop_closure-count : (t : Option HostTask) (hosts : List HostClosure) → length (drop_closure t hosts) ≡ length hosts
drop_closure-count None hosts = refl
drop_closure-count (Some t) hosts = drop_at-count t.closure (slice_get hosts t.closure) hosts
