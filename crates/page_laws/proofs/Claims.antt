-- How often a registration waits for its call, and what each change of the places does to that.
use Rattle.page_parts.specs.TaskSignals.{Prios}
use Rattle.std.proofs.Common.{◌≡◌, ℕ, suc, ◌≤◌, ◌+◌, Bool, true, false, List, [], ◌∷◌, ◌++◌, Option, Some, None, refl, sym, subst, ap, cond, length, arith, map, unwrap_or}
use Rattle.std.proofs.lemmas.Bool.{eq-eqb}
use Rattle.std.specs.Prelude.{◌==◌, find, option_map}
use Rattle.page_parts.specs.Words.{and_last, without}
use Rattle.page_parts.specs.Frames.{Callback, callback_in, without_handle}
use Rattle.page_parts.specs.IdleCallbacks.{Idle}
use Rattle.page_parts.specs.Promises.{Settled, Reaction, PromiseRecord, PromiseJob, React, Adopt, the_promise, pending_promise}
use Rattle.page_parts.specs.Promises as Promises
use Rattle.page_parts.specs.Notices.{Notices, Todo, Micro, OfPromise, WaitingJob, Context, queue_job, queue_jobs, changed, promise_changed, subscribe_promise, note_outstanding}
use Rattle.page_model.specs.State.{Page, Task, Steps, RunScript, RunTimer, SchedTask, Completion, QueueTimer, EnqueuePost, QueueSignal, Completing, Registration}
use Rattle.page_model.specs.PageTime.{completion_of}
use Rattle.page_model.specs.SchedulerTasks.{first_of, first_sched_from, goes_before}
use Rattle.page_model.specs.Numbers.{IsGiven}
use Rattle.page_laws.specs.Moves.{Places, FirstPlace, nowhere, at_listener, at_timer, at_delay, at_idle, at_host, completions_but, is_free}
use Rattle.page_laws.proofs.Totals.{one_if, total, total-append, total-last, total-map, total-without, IsLess, less-first, less-more, less-second, less-found, total-put, without-append}

-- ---- what each item counts for

abbrev pub steps_claim : ℕ → Steps → ℕ
steps_claim r RunScript = one_if (1 == r)
steps_claim r (RunTimer t) = one_if (t.registration == r)
steps_claim r steps = 0

abbrev pub task_claims : ℕ → Task → ℕ
task_claims r t = steps_claim r t.steps

abbrev pub completion_claims : ℕ → Completion → ℕ
completion_claims r (QueueTimer t) = one_if (t.registration == r)
completion_claims r (EnqueuePost q source) = one_if (q == r)
completion_claims r (QueueSignal q s) = 0

abbrev pub completing_claims : ℕ → Completing → ℕ
completing_claims r c = completion_claims r c.completion

abbrev pub callback_claims : ℕ → Callback → ℕ
callback_claims r c = one_if (c.registration == r)

abbrev pub sched_claims : ℕ → SchedTask → ℕ
sched_claims r t = one_if (t.registration == r)

abbrev pub handler_claims : ℕ → Option ℕ → ℕ
handler_claims r None = 0
handler_claims r (Some q) = one_if (q == r)

abbrev pub reaction_claims : ℕ → Reaction → ℕ
reaction_claims r x = handler_claims r x.registration

abbrev pub promise_claims : ℕ → PromiseRecord → ℕ
promise_claims r q = total (reaction_claims r) q.reactions

abbrev promise_job_claims : ℕ → PromiseJob → ℕ
promise_job_claims r (React of x) = reaction_claims r x
promise_job_claims r (Adopt into from) = 0

abbrev pub todo_claims : ℕ → Todo → ℕ
todo_claims r (Micro q) = one_if (q == r)
todo_claims r (OfPromise job) = promise_job_claims r job

abbrev pub job_claims : ℕ → WaitingJob → ℕ
job_claims r j = todo_claims r j.what

-- how often a registration waits at the places, and in promises and jobs
abbrev pub place_claims : ℕ → Places → ℕ
place_claims r x =
    total (task_claims r) x.tasks + total (completing_claims r) x.completions + total (callback_claims r) x.idle.pending + total (callback_claims r) x.idle.runnable + total (sched_claims r) x.sched_tasks

abbrev pub notice_claims : ℕ → Notices → ℕ
notice_claims r s = total (promise_claims r) s.promises + total (job_claims r) s.jobs

-- ---- places

pub free-claims : (r : ℕ) (steps : Steps) → is_free steps ≡ true → steps_claim r steps ≡ 0
free-claims r RunScript h = Prim.cc
free-claims r (RunTimer t) h = Prim.cc
free-claims r steps h = refl

-- the completion steps that were found by their start
pub completed-less : (r start : ℕ) (cs : List Completing) (k : Completion) → completion_of cs start ≡ Some k → total (completing_claims r) (completions_but start cs) + completion_claims r k ≤ total (completing_claims r) cs
completed-less r start [] k e = Prim.cc
completed-less r start (d ∷ cs) k e = by_key (d.start == start) e (completed-less r start cs k) (total-without (completing_claims r) (λ c. c.start == start) cs)
  where
    by_key : (b : Bool) → option_map (λ c. c.completion) (cond b (Some d) (find (λ c. c.start == start) cs)) ≡ Some k
        → (completion_of cs start ≡ Some k → total (completing_claims r) (completions_but start cs) + completion_claims r k ≤ total (completing_claims r) cs)
        → total (completing_claims r) (completions_but start cs) ≤ total (completing_claims r) cs
        → total (completing_claims r) (cond b (completions_but start cs) (d ∷ completions_but start cs)) + completion_claims r k ≤ completing_claims r d + total (completing_claims r) cs
    by_key true e rest le =
        let same : completing_claims r d ≡ completion_claims r k = ap {A = Option Completion} {B = ℕ} (λ o. completion_claims r (unwrap_or o d.completion)) e in
        omega (arith, le, same)
    by_key false e rest le = let le1 = rest e in omega (arith, le1)

-- the scheduler task that is next is one of those that wait
sched_from-less : (r : ℕ) (p : Page) (a : SchedTask) (ts : List SchedTask) (t : SchedTask) → first_sched_from p a ts ≡ t → IsLess (sched_claims r) (λ u. u.registration == t.registration) (a ∷ ts) t
sched_from-less r p a [] t e =
    subst (λ (x : SchedTask). IsLess (sched_claims r) (λ u. u.registration == t.registration) (x ∷ []) t) (sym e)
    (less-first (sched_claims r) (λ u. u.registration == t.registration) t [] (eq-eqb t.registration t.registration refl))
sched_from-less r p a (b ∷ others) t e = by_order (goes_before p b a) (sched_from-less r p (cond (goes_before p b a) b a) others t e)
  where
    by_order : (c : Bool) → IsLess (sched_claims r) (λ u. u.registration == t.registration) (cond c b a ∷ others) t → IsLess (sched_claims r) (λ u. u.registration == t.registration) (a ∷ b ∷ others) t
    by_order true h = less-more (sched_claims r) (λ u. u.registration == t.registration) a t (b ∷ others) h
    by_order false h = less-second (sched_claims r) (λ u. u.registration == t.registration) a b t others h

pub sched-less : (r : ℕ) (p : Page) (ts : List SchedTask) (t : SchedTask) → first_of p ts ≡ Some t → IsLess (sched_claims r) (λ u. u.registration == t.registration) ts t
sched-less r p [] t e = Prim.cc
sched-less r p (a ∷ others) t e = sched_from-less r p a others t (ap {A = Option SchedTask} {B = SchedTask} (λ o. unwrap_or o t) e)

-- an idle callback that was found in one of the two lists
pub idle-less : (r handle : ℕ) (i : Idle) (c : Callback) → callback_in (i.runnable ++ i.pending) handle ≡ Some c
    → total (callback_claims r) (without_handle c.handle i.pending) + total (callback_claims r) (without_handle c.handle i.runnable) + one_if (c.registration == r) ≤ total (callback_claims r) i.pending + total (callback_claims r) i.runnable
idle-less r handle i c e =
    let gone : Callback → Bool = λ d. d.handle == c.handle in
    let w = callback_claims r in
    let less : total w (without gone (i.runnable ++ i.pending)) + w c ≤ total w (i.runnable ++ i.pending) = less-found w (λ d. d.handle == handle) gone (i.runnable ++ i.pending) c e (eq-eqb c.handle c.handle refl) in
    let split = total-append w i.runnable i.pending in
    let parts : total w (without gone (i.runnable ++ i.pending)) ≡ total w (without gone i.runnable ++ without gone i.pending) = ap (total w) (without-append gone i.runnable i.pending) in
    let split1 = total-append w (without gone i.runnable) (without gone i.pending) in
    omega (arith, less, split, parts, split1)

-- where a new registration waits first, it waits once
pub first-claims : {made : List Registration} {prios : Prios} {n : ℕ} {x y : Places} → FirstPlace made prios n x y → (r : ℕ) → place_claims r y ≤ place_claims r x + one_if (n == r)
first-claims nowhere r = omega arith
first-claims (at_listener target name q e) r = omega arith
first-claims {n = n} {x = x} (at_timer a t e first) r =
    let more = total-last (completing_claims r) x.completions (record { start = a.start; completion = QueueTimer t }) in
    let same : one_if (t.registration == r) ≡ one_if (n == r) = ap (λ q. one_if (q == r)) e in
    omega (arith, more, same)
first-claims {n = n} {x = x} (at_delay ms now q source e prio) r =
    let more = total-last (completing_claims r) x.completions (record { start = suc x.timers.starts_made; completion = EnqueuePost q source }) in
    let same : one_if (q == r) ≡ one_if (n == r) = ap (λ q. one_if (q == r)) e in
    omega (arith, more, same)
first-claims {n = n} {x = x} (at_idle q e) r =
    let more = total-last (callback_claims r) x.idle.pending (record { handle = suc x.idle.made; registration = q }) in
    let same : one_if (q == r) ≡ one_if (n == r) = ap (λ q. one_if (q == r)) e in
    omega (arith, more, same)
first-claims (at_host c a e k live) r = omega arith

-- ---- promises and jobs

queue_jobs-claims : (r : ℕ) (current : Context) (jobs : List PromiseJob) (s : Notices) → notice_claims r (queue_jobs current jobs s).notices ≡ notice_claims r s + total (promise_job_claims r) jobs
queue_jobs-claims r current [] s = omega arith
queue_jobs-claims r current (j ∷ jobs) s =
    let e = queue_jobs-claims r current jobs (queue_job current (OfPromise j) s).notices in
    let more = total-last (job_claims r) s.jobs (record { number = suc s.jobs_made; what = OfPromise j; context = current }) in
    omega (arith, e, more)

-- a promise's own change, with its jobs
changed-claims : (r : ℕ) (current : Context) (names : List (List ℕ)) (n : ℕ) (c : Promises.Change) (s : Notices) → IsGiven (length s.promises) n
    → notice_claims r (changed current names n c s).notices + promise_claims r (the_promise s.promises n) ≡ notice_claims r s + promise_claims r c.promise + total (promise_job_claims r) c.jobs
changed-claims r current names n c s g =
    let one = g.from_one in
    let last = g.to_last in
    let e = total-put (promise_claims r) s.promises n c.promise pending_promise one last in
    let e1 = queue_jobs-claims r current c.jobs (promise_changed names n c s).notices in
    omega (arith, e, e1)

reactions-claims : (r n : ℕ) (xs : List Reaction) → total (promise_job_claims r) (map (React n) xs) ≡ total (reaction_claims r) xs
reactions-claims r n xs = total-map (promise_job_claims r) (reaction_claims r) (React n) xs (λ x. refl)

pub settled-claims : (r : ℕ) (current : Context) (names : List (List ℕ)) (n : ℕ) (how : Settled) (s : Notices) → IsGiven (length s.promises) n
    → notice_claims r (changed current names n (Promises.settle n (the_promise s.promises n) how) s).notices ≤ notice_claims r s
settled-claims r current names n how s g =
    let e = changed-claims r current names n (Promises.settle n (the_promise s.promises n) how) s g in
    let e1 = reactions-claims r n (the_promise s.promises n).reactions in
    omega (arith, e, e1)

pub adopted-claims : (r : ℕ) (current : Context) (names : List (List ℕ)) (n from : ℕ) (s : Notices) → IsGiven (length s.promises) n
    → notice_claims r (changed current names n (Promises.adopt n (the_promise s.promises n) from) s).notices ≤ notice_claims r s
adopted-claims r current names n from s g =
    let e = changed-claims r current names n (Promises.adopt n (the_promise s.promises n) from) s g in
    omega (arith, e)

-- a reaction more
pub subscribed-claims : (r : ℕ) (current : Context) (n : ℕ) (x : Reaction) (s : Notices) → IsGiven (length s.promises) n → notice_claims r (subscribe_promise current n x s).notices ≤ notice_claims r s + reaction_claims r x
subscribed-claims r current n x s g = by_outcome (the_promise s.promises n).outcome
  where
    t : Notices
    t = record s { rejected = without (λ m. m == n) s.rejected; outstanding = without (λ m. m == n) s.outstanding }

    by_outcome : (o : Option Settled) → notice_claims r (changed current [] n (Promises.subscribe_by n (the_promise s.promises n) x o) t).notices ≤ notice_claims r s + reaction_claims r x
    by_outcome None =
        let e = changed-claims r current [] n (Promises.subscribe_by n (the_promise s.promises n) x None) t g in
        let more = total-last (reaction_claims r) (the_promise s.promises n).reactions x in
        omega (arith, e, more)
    by_outcome (Some how) =
        let e = changed-claims r current [] n (Promises.subscribe_by n (the_promise s.promises n) x (Some how)) t g in
        omega (arith, e)

pub micro-claims : (r : ℕ) (current : Context) (q : ℕ) (s : Notices) → notice_claims r (queue_job current (Micro q) s).notices ≡ notice_claims r s + one_if (q == r)
micro-claims r current q s =
    let more = total-last (job_claims r) s.jobs (record { number = suc s.jobs_made; what = Micro q; context = current }) in
    omega (arith, more)

pub promised-claims : (r : ℕ) (s : Notices) → total (promise_claims r) (and_last s.promises pending_promise) ≡ total (promise_claims r) s.promises
promised-claims r s = let more = total-last (promise_claims r) s.promises pending_promise in omega (arith, more)

pub noted-claims : (r n : ℕ) (s : Notices) → notice_claims r (note_outstanding n s) ≡ notice_claims r s
noted-claims r n s = by_handled (the_promise s.promises n).handled
  where
    by_handled : (b : Bool) → notice_claims r (cond b s (record s { outstanding = and_last s.outstanding n })) ≡ notice_claims r s
    by_handled true = refl
    by_handled false = refl
