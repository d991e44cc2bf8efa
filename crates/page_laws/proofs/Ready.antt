-- Tasks of idle callbacks find what they need: the period goes on that queued one, and what an idle timeout calls was due.
use Rattle.std.proofs.Common.{◌≡◌, ◌⊎◌, inl, inr, ℕ, suc, ◌≤◌, Bool, true, false, ◌||◌, List, [], ◌∷◌, ◌++◌, Option, Some, None, refl, sym, subst, ap, ◌∙◌, cond, arith, unwrap_or}
use Rattle.std.specs.Prelude.{◌==◌, filter_map, option_map}
use Rattle.std.specs.List.{cons_option}
use Rattle.std.proofs.lemmas.Bool.{eq-eqb}
use Rattle.page_types.specs.declared.RegKind.TheVariants as kind
use Rattle.page_types.specs.declared.Source.{Source}
use Rattle.page_types.specs.declared.Source.TheVariants.{Idle as IdleSource}
use Rattle.page_types.specs.Events.{Event, Due}
use Rattle.page_parts.specs.Frames.{Callback, without_handle}
use Rattle.page_parts.specs.IdleCallbacks.{Idle, started}
use Rattle.page_parts.specs.Sources.{same_source, default_list}
use Rattle.page_parts.specs.TaskSignals.{Prios}
use Rattle.page_parts.specs.Words.{and_last, without, is_empty, is_there}
use Rattle.page_parts.specs.WrittenChoices.{Runnable}
use Rattle.page_parts.specs.Promises as Promises
use Rattle.page_parts.specs.Promises.{the_promise}
use Rattle.page_parts.specs.Notices.{Notices, Noticed, changed, subscribe_promise, queue_micro}
use Rattle.page_model.specs.State.{Page, Task, Steps, InvokeIdle, IdleTimeout, RunScript, RunTimer, AnswerHost, IdleTimer, Registration, emit, emit_each, on_notices, context}
use Rattle.page_model.specs.Invoke.{register_as, call_begun}
use Rattle.page_model.specs.PageTime.{first_task}
use Rattle.page_model.specs.Turns.{first_page}
use Rattle.page_parts.specs.HostClosures.{HostClosure}
use Rattle.page_parts.specs.Setup.{Setup}
use Rattle.page_types.specs.Tree.{Program}
use Rattle.page_model.specs.View.{runnable_at, view}
use Rattle.page_laws.specs.History.{History, is_due_of, was_due}
use Rattle.page_laws.specs.Moves.{with_task, IsIn, HasSteps, PeriodGoesOn, IsMade, is_idle_task, Places, places, PlaceChange, places_stay, task_queued, task_left, armed_again, signal_armed, id_cleared, idle_armed, completed, idle_started, idle_queued, DueChange, timer_due, delay_due, signal_due, idle_due, answer_due, Dropping, timer_dropped, idle_dropped, listener_dropped, FirstPlace, nowhere, at_listener, at_timer, at_delay, at_idle, at_host, AsBefore, PageChange, elsewhere, told, arm_told, rested, registered, promised, settled, followed, adopted, subscribed, micro_asked, then_asked, answered, dropped, frame_dropped, frame_asked, rejected_taken, noted, Beginning, TheScript, ATimer, AFrame, AnIdle, ALateIdle, AListener, APost, AContinuation, AMicro, AReaction, called_by, taken, task_dropped, enqueued_anew, fell_due, post_fell_due, prio_told, Moves, here, changing, arming, calling, ending, flagging, running, framing, idling}
use Rattle.page_laws.proofs.Framed.{false_true}
use Rattle.page_laws.proofs.Idling.{made-goes, notices-goes, subscribed-goes, begins-go, change-goes, ended-goes, frame-goes_on, goes-same, job-goes_on}
use Rattle.page_laws.proofs.Lines.{added, emit_each-events}
use Rattle.page_laws.proofs.Moved.{in-either}

-- ---- members

pub in-left : {X : Type 0} (x : X) (xs ys : List X) → IsIn x xs → IsIn x (xs ++ ys)
in-left x [] ys i = elim i [ ]
in-left x (z ∷ xs) ys (inl e) = inl e
in-left x (z ∷ xs) ys (inr i) = inr (in-left x xs ys i)

pub in-right : {X : Type 0} (x : X) (xs ys : List X) → IsIn x ys → IsIn x (xs ++ ys)
in-right x [] ys i = i
in-right x (z ∷ xs) ys i = inr (in-right x xs ys i)

pub in-fewer : {X : Type 0} (x : X) (gone : X → Bool) (xs : List X) → IsIn x (without gone xs) → IsIn x xs
in-fewer x gone [] i = i
in-fewer {X = X} x gone (y ∷ xs) i = by_test (gone y) i (in-fewer x gone xs)
  where
    by_test : (b : Bool) → IsIn x (cond b (without gone xs) (y ∷ without gone xs)) → (IsIn x (without gone xs) → IsIn x xs) → IsIn x (y ∷ xs)
    by_test true i rest = inr (rest i)
    by_test false (inl e) rest = inl e
    by_test false (inr i) rest = inr (rest i)

pub in-last : {X : Type 0} (x y : X) (xs : List X) → IsIn x (and_last xs y) → IsIn x xs ⊎ (x ≡ y)
in-last {X = X} x y xs i = by_part (in-either x xs (y ∷ []) i)
  where
    by_part : IsIn x xs ⊎ IsIn x (y ∷ []) → IsIn x xs ⊎ (x ≡ y)
    by_part (inl j) = inl j
    by_part (inr (inl e)) = inr e
    by_part (inr (inr j)) = elim j [ ]

-- a task with these steps
record Tasked (steps : Steps) (ts : List Task) : Type 0 where
  task : Task
  there : IsIn task ts
  own : task.steps ≡ steps

tasked : (steps : Steps) (ts : List Task) → HasSteps steps ts → Tasked steps ts
tasked steps [] h = elim h [ ]
tasked steps (t ∷ ts) (inl e) = record { task = t; there = inl refl; own = e }
tasked steps (t ∷ ts) (inr h) = let x = tasked steps ts h in record { task = x.task; there = inr x.there; own = x.own }

has-steps : (steps : Steps) (t : Task) (ts : List Task) → IsIn t ts → t.steps ≡ steps → HasSteps steps ts
has-steps steps t [] i e = i
has-steps steps t (u ∷ ts) (inl f) e = inl (sym (ap {A = Task} {B = Steps} (λ x. x.steps) f) ∙ e)
has-steps steps t (u ∷ ts) (inr i) e = inr (has-steps steps t ts i e)

-- ---- idle timeouts

-- the idle callbacks of the places, in both lists
abbrev Waiting : Places → List Callback
Waiting x = x.idle.runnable ++ x.idle.pending

-- what an idle timeout finds by its handle is the callback it was started for, which was due where its task waits
record Late (x : Places) (past : History) : Type 0 where
  callbacks : (c : Callback) → IsIn c (Waiting x) → c.handle ≤ x.idle.made
  timers : (t : IdleTimer) → IsIn t x.idle_timers → t.handle ≤ x.idle.made
  tasks : (h : ℕ) → HasSteps (IdleTimeout h) x.tasks → h ≤ x.idle.made
  own : (t : IdleTimer) → IsIn t x.idle_timers → (c : Callback) → IsIn c (Waiting x) → c.handle ≡ t.handle → c.registration ≡ t.registration
  due : (h : ℕ) → HasSteps (IdleTimeout h) x.tasks → (c : Callback) → IsIn c (Waiting x) → c.handle ≡ h → was_due past c.registration ≡ true
  sources : (t : Task) → IsIn t x.tasks → t.steps ≡ InvokeIdle → t.source ≡ IdleSource

-- nothing that matters came
record Less (x y : Places) : Type 0 where
  made : x.idle.made ≤ y.idle.made
  callbacks : (c : Callback) → IsIn c (Waiting y) → IsIn c (Waiting x)
  timers : (t : IdleTimer) → IsIn t y.idle_timers → IsIn t x.idle_timers
  tasks : (t : Task) → IsIn t y.tasks → IsIn t x.tasks ⊎ (is_idle_task t.steps ≡ false)

-- what was due was so
record Dues (a b : History) : Type 0 where
  was : (r : ℕ) → was_due a r ≡ true → was_due b r ≡ true

same-due : (past : History) → Dues past past
same-due past = record { was = λ r h. h }

due-then : (a b c : History) → Dues a b → Dues b c → Dues a c
due-then a b c x y = record { was = λ r h. y.was r (x.was r h) }

more-due : (e : Event) (now : ℕ) (past : History) → Dues past (record { time = now; event = e } ∷ past)
more-due e now past = record { was = λ r h. by_test r (is_due_of r e) h }
  where
    by_test : (r : ℕ) (b : Bool) → was_due past r ≡ true → b || was_due past r ≡ true
    by_test r true h = refl
    by_test r false h = h

of_steps : {x y : Places} → Less x y → (steps : Steps) → is_idle_task steps ≡ true → HasSteps steps y.tasks → HasSteps steps x.tasks
of_steps {x = x} {y = y} l steps idle h = by_task (tasked steps y.tasks h)
  where
    by_place : (k : Tasked steps y.tasks) → IsIn k.task x.tasks ⊎ (is_idle_task k.task.steps ≡ false) → HasSteps steps x.tasks
    by_place k (inl i) = has-steps steps k.task x.tasks i k.own
    by_place k (inr e) = absurd (false_true (sym e ∙ (ap is_idle_task k.own ∙ idle)))

    by_task : Tasked steps y.tasks → HasSteps steps x.tasks
    by_task k = by_place k (l.tasks k.task k.there)

late-less : (x y : Places) (before after : History) → Less x y → Dues before after → Late x before → Late y after
late-less x y before after l d f =
    record {
      callbacks = λ c i. let a = f.callbacks c (l.callbacks c i) in let b = l.made in omega (arith, a, b);
      timers = λ t i. let a = f.timers t (l.timers t i) in let b = l.made in omega (arith, a, b);
      tasks = λ h s. let a = f.tasks h (of_steps l (IdleTimeout h) refl s) in let b = l.made in omega (arith, a, b);
      own = λ t i c j e. f.own t (l.timers t i) c (l.callbacks c j) e;
      due = λ h s c j e. d.was c.registration (f.due h (of_steps l (IdleTimeout h) refl s) c (l.callbacks c j) e);
      sources = λ t i e. by_place t e (l.tasks t i);
    }
  where
    by_place : (t : Task) → t.steps ≡ InvokeIdle → IsIn t x.tasks ⊎ (is_idle_task t.steps ≡ false) → t.source ≡ IdleSource
    by_place t e (inl i) = f.sources t i e
    by_place t e (inr n) = absurd (false_true (sym n ∙ ap is_idle_task e))

same-places : (x : Places) → Less x x
same-places x = record { made = omega arith; callbacks = λ c i. i; timers = λ t i. i; tasks = λ t i. inl i }

-- other tasks
tasks-less : (x : Places) (made : ℕ) (ts : List Task) → ((t : Task) → IsIn t ts → IsIn t x.tasks ⊎ (is_idle_task t.steps ≡ false)) → Less x (record x { tasks = ts; tasks_made = made })
tasks-less x made ts h = record { made = omega arith; callbacks = λ c i. i; timers = λ t i. i; tasks = h }

one-more : (x : Places) (t : Task) → is_idle_task t.steps ≡ false → (u : Task) → IsIn u (and_last x.tasks t) → IsIn u x.tasks ⊎ (is_idle_task u.steps ≡ false)
one-more x t plain u i = by_place (in-last u t x.tasks i)
  where
    by_place : IsIn u x.tasks ⊎ (u ≡ t) → IsIn u x.tasks ⊎ (is_idle_task u.steps ≡ false)
    by_place (inl j) = inl j
    by_place (inr e) = inr (ap {A = Task} {B = Bool} (λ v. is_idle_task v.steps) e ∙ plain)

fewer-tasks : (x : Places) (number : ℕ) (u : Task) → IsIn u (without (λ t. t.number == number) x.tasks) → IsIn u x.tasks ⊎ (is_idle_task u.steps ≡ false)
fewer-tasks x number u i = inl (in-fewer u (λ t. t.number == number) x.tasks i)

-- an idle callback leaves both lists
fewer-idle : (x : Places) (handle : ℕ) (c : Callback) → IsIn c (without_handle handle x.idle.runnable ++ without_handle handle x.idle.pending) → IsIn c (Waiting x)
fewer-idle x handle c i = by_list (in-either c (without_handle handle x.idle.runnable) (without_handle handle x.idle.pending) i)
  where
    by_list : IsIn c (without_handle handle x.idle.runnable) ⊎ IsIn c (without_handle handle x.idle.pending) → IsIn c (x.idle.runnable ++ x.idle.pending)
    by_list (inl j) = in-left c x.idle.runnable x.idle.pending (in-fewer c (λ d. d.handle == handle) x.idle.runnable j)
    by_list (inr j) = in-right c x.idle.runnable x.idle.pending (in-fewer c (λ d. d.handle == handle) x.idle.pending j)

idle-less : (x : Places) (handle : ℕ) → Less x (record x { idle = record x.idle { pending = without_handle handle x.idle.pending; runnable = without_handle handle x.idle.runnable } })
idle-less x handle = record { made = omega arith; callbacks = fewer-idle x handle; timers = λ t i. i; tasks = λ t i. inl i }

started-less : (x : Places) → Less x (record x { idle = started x.idle })
started-less x = record { made = omega arith; callbacks = λ c i. by_list c (in-either c (x.idle.runnable ++ x.idle.pending) [] i); timers = λ t i. i; tasks = λ t i. inl i }
  where
    by_list : (c : Callback) → IsIn c (x.idle.runnable ++ x.idle.pending) ⊎ IsIn c [] → IsIn c (x.idle.runnable ++ x.idle.pending)
    by_list c (inl i) = i
    by_list c (inr i) = elim i [ ]

-- an idle timeout is started
armed-late : (x : Places) (t : IdleTimer) (past : History) → t.handle ≤ x.idle.made → ((c : Callback) → IsIn c (Waiting x) → c.handle ≡ t.handle → c.registration ≡ t.registration) → Late x past → Late (record x { idle_timers = and_last x.idle_timers t }) past
armed-late x t past most own f =
    record {
      callbacks = f.callbacks;
      timers = λ u i. by_made u (in-last u t x.idle_timers i);
      tasks = f.tasks;
      own = λ u i c j e. by_own u c j e (in-last u t x.idle_timers i);
      due = f.due;
      sources = f.sources;
    }
  where
    by_made : (u : IdleTimer) → IsIn u x.idle_timers ⊎ (u ≡ t) → u.handle ≤ x.idle.made
    by_made u (inl i) = f.timers u i
    by_made u (inr e) = let a = ap {A = IdleTimer} {B = ℕ} (λ v. v.handle) e in omega (arith, a, most)

    by_own : (u : IdleTimer) (c : Callback) → IsIn c (Waiting x) → c.handle ≡ u.handle → IsIn u x.idle_timers ⊎ (u ≡ t) → c.registration ≡ u.registration
    by_own u c j e (inl i) = f.own u i c j e
    by_own u c j e (inr same) = own c j (e ∙ ap {A = IdleTimer} {B = ℕ} (λ v. v.handle) same) ∙ sym (ap {A = IdleTimer} {B = ℕ} (λ v. v.registration) same)

-- the task that invokes idle callbacks is queued
queued-late : (x : Places) (t : Task) (past : History) → t.steps ≡ InvokeIdle → t.source ≡ IdleSource → Late x past → Late (with_task t x) past
queued-late x t past e from f =
    record {
      callbacks = f.callbacks;
      timers = f.timers;
      tasks = λ h s. f.tasks h (old h s);
      own = f.own;
      due = λ h s. f.due h (old h s);
      sources = λ u i k. by_source u k (in-last u t x.tasks i);
    }
  where
    other : (h : ℕ) → InvokeIdle ≡ IdleTimeout h → ⊥
    other h k = Prim.cc

    by_place : (h : ℕ) (k : Tasked (IdleTimeout h) (and_last x.tasks t)) → IsIn k.task x.tasks ⊎ (k.task ≡ t) → HasSteps (IdleTimeout h) x.tasks
    by_place h k (inl i) = has-steps (IdleTimeout h) k.task x.tasks i k.own
    by_place h k (inr same) = absurd (other h (sym e ∙ (sym (ap {A = Task} {B = Steps} (λ v. v.steps) same) ∙ k.own)))

    old : (h : ℕ) → HasSteps (IdleTimeout h) (and_last x.tasks t) → HasSteps (IdleTimeout h) x.tasks
    old h s = let k = tasked (IdleTimeout h) (and_last x.tasks t) s in by_place h k (in-last k.task t x.tasks k.there)

    by_source : (u : Task) → u.steps ≡ InvokeIdle → IsIn u x.tasks ⊎ (u ≡ t) → u.source ≡ IdleSource
    by_source u k (inl i) = f.sources u i k
    by_source u k (inr same) = ap {A = Task} {B = Source} (λ v. v.source) same ∙ from

-- an idle timeout is over, with its line, and its task is queued
over-late : (x : Places) (t : IdleTimer) (number now r : ℕ) (source : Source) (past : History) → IsIn t x.idle_timers → t.registration ≡ r → Late x past
    → Late (with_task (record { number = number; source = source; steps = IdleTimeout t.handle }) (record x { idle_timers = without (λ u. u.handle == t.handle) x.idle_timers })) (record { time = now; event = Due r } ∷ past)
over-late x t number now r source past i e f =
    record {
      callbacks = f.callbacks;
      timers = λ u j. f.timers u (in-fewer u (λ u. u.handle == t.handle) x.idle_timers j);
      tasks = λ h s. by_made h (old h s);
      own = λ u j c k. f.own u (in-fewer u (λ u. u.handle == t.handle) x.idle_timers j) c k;
      due = λ h s c k same. by_due h c k same (old h s);
      sources = λ u j k. by_source u k (in-last u task x.tasks j);
    }
  where
    task : Task
    task = record { number = number; source = source; steps = IdleTimeout t.handle }

    handle_in : Steps → ℕ
    handle_in (IdleTimeout h) = h
    handle_in steps = 0

    by_place : (h : ℕ) (k : Tasked (IdleTimeout h) (and_last x.tasks (record { number = number; source = source; steps = IdleTimeout t.handle }))) → IsIn k.task x.tasks ⊎ (k.task ≡ record { number = number; source = source; steps = IdleTimeout t.handle }) → HasSteps (IdleTimeout h) x.tasks ⊎ (h ≡ t.handle)
    by_place h k (inl j) = inl (has-steps (IdleTimeout h) k.task x.tasks j k.own)
    by_place h k (inr same) = inr (ap {A = Steps} {B = ℕ} handle_in (sym k.own ∙ ap {A = Task} {B = Steps} (λ v. v.steps) same))

    old : (h : ℕ) → HasSteps (IdleTimeout h) (and_last x.tasks (record { number = number; source = source; steps = IdleTimeout t.handle })) → HasSteps (IdleTimeout h) x.tasks ⊎ (h ≡ t.handle)
    old h s =
        let k = tasked (IdleTimeout h) (and_last x.tasks (record { number = number; source = source; steps = IdleTimeout t.handle })) s in
        by_place h k (in-last k.task (record { number = number; source = source; steps = IdleTimeout t.handle }) x.tasks k.there)

    by_made : (h : ℕ) → HasSteps (IdleTimeout h) x.tasks ⊎ (h ≡ t.handle) → h ≤ x.idle.made
    by_made h (inl s) = f.tasks h s
    by_made h (inr same) = let a = f.timers t i in omega (arith, a, same)

    by_due : (h : ℕ) (c : Callback) → IsIn c (Waiting x) → c.handle ≡ h → HasSteps (IdleTimeout h) x.tasks ⊎ (h ≡ t.handle) → (r == c.registration) || was_due past c.registration ≡ true
    by_due h c k same (inl s) = on_right (r == c.registration) (was_due past c.registration) (f.due h s c k same)
      where
        on_right : (a b : Bool) → b ≡ true → a || b ≡ true
        on_right true b h = refl
        on_right false b h = h
    by_due h c k same (inr m) = ap {A = Bool} {B = Bool} (λ b. b || was_due past c.registration) (eq-eqb r c.registration (sym (f.own t i c k (same ∙ m) ∙ e)))

    by_source : (u : Task) → u.steps ≡ InvokeIdle → IsIn u x.tasks ⊎ (u ≡ record { number = number; source = source; steps = IdleTimeout t.handle }) → u.source ≡ IdleSource
    by_source u k (inl j) = f.sources u j k
    by_source u k (inr same) = absurd (other (sym k ∙ ap {A = Task} {B = Steps} (λ v. v.steps) same))
      where
        other : InvokeIdle ≡ IdleTimeout t.handle → ⊥
        other k = Prim.cc

-- an idle callback is requested
asked-late : (x : Places) (q : ℕ) (past : History) → Late x past → Late (record x { idle = record x.idle { made = suc x.idle.made; pending = and_last x.idle.pending (record { handle = suc x.idle.made; registration = q }) } }) past
asked-late x q past f =
    record {
      callbacks = λ c i. by_made c (old c i);
      timers = λ t i. let a = f.timers t i in omega (arith, a);
      tasks = λ h s. let a = f.tasks h s in omega (arith, a);
      own = λ t i c j e. by_own t i c e (old c j);
      due = λ h s c j e. by_due h s c e (old c j);
      sources = f.sources;
    }
  where
    by_pending : (c : Callback) → IsIn c x.idle.pending ⊎ (c ≡ record { handle = suc x.idle.made; registration = q }) → IsIn c (Waiting x) ⊎ (c.handle ≡ suc x.idle.made)
    by_pending c (inl i) = inl (in-right c x.idle.runnable x.idle.pending i)
    by_pending c (inr e) = inr (ap {A = Callback} {B = ℕ} (λ d. d.handle) e)

    by_list : (c : Callback) → IsIn c x.idle.runnable ⊎ IsIn c (and_last x.idle.pending (record { handle = suc x.idle.made; registration = q })) → IsIn c (Waiting x) ⊎ (c.handle ≡ suc x.idle.made)
    by_list c (inl i) = inl (in-left c x.idle.runnable x.idle.pending i)
    by_list c (inr i) = by_pending c (in-last c (record { handle = suc x.idle.made; registration = q }) x.idle.pending i)

    old : (c : Callback) → IsIn c (x.idle.runnable ++ and_last x.idle.pending (record { handle = suc x.idle.made; registration = q })) → IsIn c (Waiting x) ⊎ (c.handle ≡ suc x.idle.made)
    old c i = by_list c (in-either c x.idle.runnable (and_last x.idle.pending (record { handle = suc x.idle.made; registration = q })) i)

    by_made : (c : Callback) → IsIn c (Waiting x) ⊎ (c.handle ≡ suc x.idle.made) → c.handle ≤ suc x.idle.made
    by_made c (inl i) = let a = f.callbacks c i in omega (arith, a)
    by_made c (inr e) = omega (arith, e)

    by_own : (t : IdleTimer) → IsIn t x.idle_timers → (c : Callback) → c.handle ≡ t.handle → IsIn c (Waiting x) ⊎ (c.handle ≡ suc x.idle.made) → c.registration ≡ t.registration
    by_own t i c e (inl j) = f.own t i c j e
    by_own t i c e (inr n) = let a = f.timers t i in absurd (omega (arith, a, e, n))

    by_due : (h : ℕ) → HasSteps (IdleTimeout h) x.tasks → (c : Callback) → c.handle ≡ h → IsIn c (Waiting x) ⊎ (c.handle ≡ suc x.idle.made) → was_due past c.registration ≡ true
    by_due h s c e (inl j) = f.due h s c j e
    by_due h s c e (inr n) = let a = f.tasks h s in absurd (omega (arith, a, e, n))

-- ---- changes of the places

place-late : {made : List Registration} {x y : Places} → PlaceChange made x y → (past : History) → Late x past → Late y past
place-late places_stay past f = f
place-late {x = x} (task_queued t h plain) past f = late-less x _ past past (tasks-less x t.number (and_last x.tasks t) (one-more x t plain)) (same-due past) f
place-late {x = x} (task_left number) past f = late-less x _ past past (tasks-less x x.tasks_made (without (λ t. t.number == number) x.tasks) (fewer-tasks x number)) (same-due past) f
place-late {x = x} (armed_again a t role there next) past f = late-less x _ past past (record { made = omega arith; callbacks = λ c i. i; timers = λ t i. i; tasks = λ t i. inl i }) (same-due past) f
place-late {x = x} (signal_armed ms now r s) past f = late-less x _ past past (record { made = omega arith; callbacks = λ c i. i; timers = λ t i. i; tasks = λ t i. inl i }) (same-due past) f
place-late {x = x} (id_cleared id) past f = late-less x _ past past (record { made = omega arith; callbacks = λ c i. i; timers = λ t i. i; tasks = λ t i. inl i }) (same-due past) f
place-late {x = x} (idle_armed t most own) past f = armed-late x t past most own f
place-late {x = x} (completed start gone) past f = late-less x _ past past (record { made = omega arith; callbacks = λ c i. i; timers = λ t i. i; tasks = λ t i. inl i }) (same-due past) f
place-late {x = x} idle_started past f = late-less x _ past past (started-less x) (same-due past) f
place-late {x = x} (idle_queued t e from) past f = queued-late x t past e from f

place-invokes : {made : List Registration} {p : Page} {x y : Places} (c : PlaceChange made x y) → IsMade c p → (HasSteps InvokeIdle x.tasks → PeriodGoesOn p) → HasSteps InvokeIdle y.tasks → PeriodGoesOn p
place-invokes places_stay k f h = f h
place-invokes {x = x} (task_queued t h plain) k f s = f (of_steps (tasks-less x t.number (and_last x.tasks t) (one-more x t plain)) InvokeIdle refl s)
place-invokes {x = x} (task_left number) k f s = f (of_steps (tasks-less x x.tasks_made (without (λ t. t.number == number) x.tasks) (fewer-tasks x number)) InvokeIdle refl s)
place-invokes (armed_again a t role there next) k f h = f h
place-invokes (signal_armed ms now r s) k f h = f h
place-invokes (id_cleared id) k f h = f h
place-invokes (idle_armed t most own) k f h = f h
place-invokes (completed start gone) k f h = f h
place-invokes idle_started k f h = f h
place-invokes (idle_queued t e from) k f h = k.0

-- what is due
due-late : {made : List Registration} {r : ℕ} {x y : Places} → DueChange made r x y → (now : ℕ) (past : History) → Late x past → Late y (record { time = now; event = Due r } ∷ past)
due-late {r = r} {x = x} (timer_due start number source t e i role) now past f =
    late-less x _ past _ (record { made = omega arith; callbacks = λ c i. i; timers = λ t i. i; tasks = one-more x (record { number = number; source = source; steps = RunTimer t }) refl }) (more-due (Due r) now past) f
due-late {r = r} {x = x} (delay_due start source e role) now past f = late-less x _ past _ (record { made = omega arith; callbacks = λ c i. i; timers = λ t i. i; tasks = λ t i. inl i }) (more-due (Due r) now past) f
due-late {r = r} {x = x} (signal_due start s e role) now past f = late-less x _ past _ (record { made = omega arith; callbacks = λ c i. i; timers = λ t i. i; tasks = λ t i. inl i }) (more-due (Due r) now past) f
due-late {r = r} {x = x} (idle_due t number source i e role) now past f = over-late x t number now r source past i e f
due-late {r = r} {x = x} (answer_due before a after number source e i role) now past f =
    late-less x _ past _ (record { made = omega arith; callbacks = λ c i. i; timers = λ t i. i; tasks = one-more x (record { number = number; source = source; steps = AnswerHost a.task }) refl }) (more-due (Due r) now past) f

due-invokes : {made : List Registration} {r : ℕ} {x y : Places} → DueChange made r x y → HasSteps InvokeIdle y.tasks → HasSteps InvokeIdle x.tasks
due-invokes {x = x} (timer_due start number source t e i role) s =
    of_steps (tasks-less x number (and_last x.tasks (record { number = number; source = source; steps = RunTimer t })) (one-more x (record { number = number; source = source; steps = RunTimer t }) refl)) InvokeIdle refl s
due-invokes (delay_due start source e role) s = s
due-invokes (signal_due start k e role) s = s
due-invokes {x = x} (idle_due t number source i e role) s = by_task (tasked InvokeIdle (and_last x.tasks (record { number = number; source = source; steps = IdleTimeout t.handle })) s)
  where
    other : IdleTimeout t.handle ≡ InvokeIdle → ⊥
    other k = Prim.cc

    by_place : (k : Tasked InvokeIdle (and_last x.tasks (record { number = number; source = source; steps = IdleTimeout t.handle }))) → IsIn k.task x.tasks ⊎ (k.task ≡ record { number = number; source = source; steps = IdleTimeout t.handle }) → HasSteps InvokeIdle x.tasks
    by_place k (inl j) = has-steps InvokeIdle k.task x.tasks j k.own
    by_place k (inr same) = absurd (other (sym (ap {A = Task} {B = Steps} (λ v. v.steps) same) ∙ k.own))

    by_task : Tasked InvokeIdle (and_last x.tasks (record { number = number; source = source; steps = IdleTimeout t.handle })) → HasSteps InvokeIdle x.tasks
    by_task k = by_place k (in-last k.task (record { number = number; source = source; steps = IdleTimeout t.handle }) x.tasks k.there)
due-invokes {x = x} (answer_due before a after number source e i role) s =
    of_steps (tasks-less x number (and_last x.tasks (record { number = number; source = source; steps = AnswerHost a.task })) (one-more x (record { number = number; source = source; steps = AnswerHost a.task }) refl)) InvokeIdle refl s

drop-less : {made : List Registration} {r : ℕ} {x y : Places} → Dropping made r x y → Less x y
drop-less (timer_dropped id there e own) = record { made = omega arith; callbacks = λ c i. i; timers = λ t i. i; tasks = λ t i. inl i }
drop-less {x = x} (idle_dropped handle c e e1 role) = idle-less x handle
drop-less (listener_dropped there role) = record { made = omega arith; callbacks = λ c i. i; timers = λ t i. i; tasks = λ t i. inl i }

first-late : {made : List Registration} {ps : Prios} {r : ℕ} {x y : Places} → FirstPlace made ps r x y → (past : History) → Late x past → Late y past
first-late nowhere past f = f
first-late {x = x} (at_listener target name q e) past f = late-less x _ past past (record { made = omega arith; callbacks = λ c i. i; timers = λ t i. i; tasks = λ t i. inl i }) (same-due past) f
first-late {x = x} (at_timer a t e first) past f = late-less x _ past past (record { made = omega arith; callbacks = λ c i. i; timers = λ t i. i; tasks = λ t i. inl i }) (same-due past) f
first-late {x = x} (at_delay ms now q source e h) past f = late-less x _ past past (record { made = omega arith; callbacks = λ c i. i; timers = λ t i. i; tasks = λ t i. inl i }) (same-due past) f
first-late {x = x} (at_idle q e) past f = asked-late x q past f
first-late {x = x} (at_host c a e there live) past f = late-less x _ past past (record { made = omega arith; callbacks = λ c i. i; timers = λ t i. i; tasks = λ t i. inl i }) (same-due past) f

first-invokes : {made : List Registration} {ps : Prios} {r : ℕ} {x y : Places} → FirstPlace made ps r x y → HasSteps InvokeIdle y.tasks → HasSteps InvokeIdle x.tasks
first-invokes nowhere h = h
first-invokes (at_listener target name q e) h = h
first-invokes (at_timer a t e first) h = h
first-invokes (at_delay ms now q source e k) h = h
first-invokes (at_idle q e) h = h
first-invokes (at_host c a e there live) h = h

-- ---- pages

-- tasks of idle callbacks find what they need
pub record Ready (p : Page) : Type 0 where
  pub invoking : HasSteps InvokeIdle p.tasks → PeriodGoesOn p
  late : Late (places p) p.events

pub emit_each-places : (es : List Event) (p : Page) → places (emit_each es p) ≡ places p
emit_each-places [] p = refl
emit_each-places (e ∷ es) p = emit_each-places es (emit e p)

added-due : (now : ℕ) (es : List Event) (past : History) → Dues past (added now es past)
added-due now [] past = same-due past
added-due now (e ∷ es) past =
    let next : History = record { time = now; event = e } ∷ past in
    due-then past next (added now es next) (more-due e now past) (added-due now es next)

-- the same places, with lines
lines-ready : (p q : Page) (x : Places) → places q ≡ x → Less (places p) x → Dues p.events q.events → (PeriodGoesOn p → PeriodGoesOn q) → Ready p → Ready q
lines-ready p q x e l d g r =
    record {
      invoking = λ h. g (r.invoking (of_steps l InvokeIdle refl (subst (λ (y : Places). HasSteps InvokeIdle y.tasks) e h)));
      late = subst (λ (y : Places). Late y q.events) (sym e) (late-less (places p) x p.events q.events l d r.late);
    }

same-ready : (p q : Page) → places q ≡ places p → Dues p.events q.events → (PeriodGoesOn p → PeriodGoesOn q) → Ready p → Ready q
same-ready p q e d g r = lines-ready p q (places p) e (same-places (places p)) d g r

-- places whose idle callbacks, idle timeouts and tasks are those of others
other-places : (x y : Places) → y.idle ≡ x.idle → y.idle_timers ≡ x.idle_timers → y.tasks ≡ x.tasks → Less x y
other-places x y a b c =
    record {
      made = let e = ap {A = Idle} {B = ℕ} (λ i. i.made) a in omega (arith, e);
      callbacks = λ d i. subst (λ (j : Idle). IsIn d (j.runnable ++ j.pending)) a i;
      timers = λ t i. subst (λ (ts : List IdleTimer). IsIn t ts) b i;
      tasks = λ t i. inl (subst (λ (ts : List Task). IsIn t ts) c i);
    }

-- lines before a page that is as another one but for the rest
events-due : (p s q : Page) → AsBefore s q → Dues p.events s.events → Dues p.events q.events
events-due p s q b d = subst (Dues p.events) (sym b.events) d

two-due : (e f : Event) (now : ℕ) (past : History) → Dues past (record { time = now; event = f } ∷ (record { time = now; event = e } ∷ past))
two-due e f now past = due-then past (record { time = now; event = e } ∷ past) (record { time = now; event = f } ∷ (record { time = now; event = e } ∷ past)) (more-due e now past) (more-due f now (record { time = now; event = e } ∷ past))

notices-ready : (f : Notices → Noticed) (p : Page) → (PeriodGoesOn p → PeriodGoesOn (on_notices f p)) → Ready p → Ready (on_notices f p)
notices-ready f p g r =
    let q : Page = record p { notices = (f p.notices).notices } in
    let lines = (f p.notices).lines in
    same-ready p (on_notices f p) (emit_each-places lines q) (subst (Dues p.events) (sym (emit_each-events lines q)) (added-due p.now lines p.events)) g r

change-ready : {p q : Page} → PageChange p q → Ready p → Ready q
change-ready {p = p} {q = q} (elsewhere c b within) r =
    record {
      invoking = λ h. change-goes (elsewhere c b within) (place-invokes c within r.invoking h);
      late = subst (Late (places q)) (sym b.events) (place-late c p.events r.late);
    }
change-ready {p = p} {q = q} (told e h) r = same-ready p q refl (more-due e p.now p.events) (change-goes (told e h)) r
change-ready {p = p} {q = q} (arm_told n due level w well) r = same-ready p q refl (more-due _ p.now p.events) (change-goes (arm_told n due level w well)) r
change-ready {p = p} {q = q} (rested e h x y z over begun done) r = same-ready p q refl (more-due e p.now p.events) (change-goes (rested e h x y z over begun done)) r
change-ready {p = p} {q = q} (answered source task t answer x y live z b) r =
    lines-ready p q _ z (record { made = omega arith; callbacks = λ c i. i; timers = λ t i. i; tasks = fewer-tasks (places p) task.number }) (events-due p _ q b (more-due _ p.now p.events)) (change-goes (answered source task t answer x y live z b)) r
change-ready {p = p} {q = q} (registered k x e unframed u b at) r =
    record {
      invoking = λ h. change-goes (registered k x e unframed u b at) (r.invoking (first-invokes u h));
      late = subst (Late (places q)) (sym b.events) (late-less (places q) (places q) p.events (register_as k x p).events (same-places (places q)) (more-due _ p.now p.events) (first-late u p.events r.late));
    }
change-ready {p = p} {q = q} (enqueued_anew k x t queue e i s n b) r =
    lines-ready p q _ s (other-places (places p) _ refl refl refl) (events-due p _ q b (two-due _ _ p.now p.events)) (change-goes (enqueued_anew k x t queue e i s n b)) r
change-ready {p = p} {q = q} (fell_due n d b by) r =
    record {
      invoking = λ h. change-goes (fell_due n d b by) (r.invoking (due-invokes d h));
      late = subst (Late (places q)) (sym b.events) (due-late d p.now p.events r.late);
    }
change-ready {p = p} {q = q} (post_fell_due start source t queue e role a s n b by) r =
    lines-ready p q _ s (other-places (places p) _ refl refl refl) (events-due p _ q b (two-due _ _ p.now p.events)) (change-goes (post_fell_due start source t queue e role a s n b by)) r
change-ready {p = p} {q = q} (dropped n d b) r = lines-ready p q (places q) refl (drop-less d) (events-due p _ q b (more-due _ p.now p.events)) (change-goes (dropped n d b)) r
change-ready {p = p} {q = q} (frame_dropped handle c e role) r = same-ready p q refl (more-due _ p.now p.events) (change-goes (frame_dropped handle c e role)) r
change-ready {p = p} {q = q} (task_dropped n role a e s b) r =
    lines-ready p q _ s (other-places (places p) _ refl refl refl) (events-due p _ q b (more-due _ p.now p.events)) (change-goes (task_dropped n role a e s b)) r
change-ready {p = p} {q = q} (prio_told s priority ps c) r = same-ready p q refl (more-due _ p.now p.events) (change-goes (prio_told s priority ps c)) r
change-ready {p = p} {q = q} (frame_asked f) r = same-ready p q refl (more-due _ p.now p.events) (change-goes (frame_asked f)) r
change-ready {p = p} {q = q} promised r = same-ready p q refl (same-due p.events) (change-goes promised) r
change-ready {p = p} {q = q} (settled n how x y) r = notices-ready (λ s. changed (context p) p.names n (Promises.settle n (the_promise p.notices.promises n) how) s) p (change-goes (settled n how x y)) r
change-ready {p = p} {q = q} (followed n how x y) r = notices-ready (λ s. changed (context p) p.names n (Promises.settle n (the_promise p.notices.promises n) how) s) p (change-goes (followed n how x y)) r
change-ready {p = p} {q = q} (adopted n from x y) r = notices-ready (λ s. changed (context p) p.names n (Promises.adopt n (the_promise p.notices.promises n) from) s) p (change-goes (adopted n from x y)) r
change-ready {p = p} {q = q} (subscribed n x y z) r = notices-ready (subscribe_promise (context p) n x) p (change-goes (subscribed n x y z)) r
change-ready {p = p} {q = q} (then_asked n x y e g z) r =
    let made = register_as kind.Then x p in
    notices-ready (subscribe_promise (context p) n y) made (subscribed-goes n y made)
    (same-ready p made refl (more-due _ p.now p.events) (made-goes kind.Then x p) r)
change-ready {p = p} {q = q} (micro_asked x m e y) r =
    let made = register_as kind.Micro x p in
    notices-ready (queue_micro (context p) m) made (notices-goes (queue_micro (context p) m) made ((refl, λ r. refl), tt))
    (same-ready p made refl (more-due _ p.now p.events) (made-goes kind.Micro x p) r)
change-ready {p = p} {q = q} rejected_taken r = same-ready p q refl (same-due p.events) (change-goes rejected_taken) r
change-ready {p = p} {q = q} (noted n) r = same-ready p q refl (same-due p.events) (change-goes (noted n)) r

begins-ready : (b : Beginning) (p : Page) → Ready p → Ready (call_begun (called_by b) (taken b p))
begins-ready (TheScript source task) p r =
    lines-ready p _ _ refl (tasks-less (places p) p.tasks_made (without (λ t. t.number == task.number) p.tasks) (fewer-tasks (places p) task.number)) (more-due _ p.now p.events) (begins-go (TheScript source task) p) r
begins-ready (ATimer source task t) p r =
    lines-ready p _ _ refl (tasks-less (places p) p.tasks_made (without (λ t. t.number == task.number) p.tasks) (fewer-tasks (places p) task.number)) (more-due _ p.now p.events) (begins-go (ATimer source task t) p) r
begins-ready (AFrame key c) p r = same-ready p _ refl (more-due _ p.now p.events) (begins-go (AFrame key c) p) r
begins-ready (AnIdle c others) p r = lines-ready p _ _ refl (idle-less (places p) c.handle) (two-due _ _ p.now p.events) (begins-go (AnIdle c others) p) r
begins-ready (ALateIdle handle c) p r = lines-ready p _ _ refl (idle-less (places p) c.handle) (more-due _ p.now p.events) (begins-go (ALateIdle handle c) p) r
begins-ready (AListener q) p r = same-ready p _ refl (more-due _ p.now p.events) (begins-go (AListener q) p) r
begins-ready (APost t) p r = lines-ready p _ _ refl (other-places (places p) _ refl refl refl) (two-due _ _ p.now p.events) (begins-go (APost t) p) r
begins-ready (AContinuation t) p r = lines-ready p _ _ refl (other-places (places p) _ refl refl refl) (two-due _ _ p.now p.events) (begins-go (AContinuation t) p) r
begins-ready (AMicro job others q) p r = same-ready p _ refl (two-due _ _ p.now p.events) (begins-go (AMicro job others q) p) r
begins-ready (AReaction job others of x q) p r = same-ready p _ refl (two-due _ _ p.now p.events) (begins-go (AReaction job others of x q) p) r

pub moves-ready : {p q : Page} → Moves p q → Ready p → Ready q
moves-ready here r = r
moves-ready (changing a c plain) r = change-ready c (moves-ready a r)
moves-ready (arming a c d w) r = change-ready d (change-ready c (moves-ready a r))
moves-ready (calling {q = q} a b w i) r = begins-ready b q (moves-ready a r)
moves-ready (ending {q = q} a e h) r = same-ready q _ refl (more-due e q.now q.events) (ended-goes e q h) (moves-ready a r)
moves-ready (flagging {q = q} {r = s} a x y z w u v t j) r = same-ready q s u (subst (Dues q.events) (sym y) (same-due q.events)) (goes-same q s j z y u) (moves-ready a r)
moves-ready (running {q = q} a j others x y nm) r = same-ready q _ refl (more-due _ q.now q.events) (job-goes_on q j others) (moves-ready a r)
moves-ready (framing {q = q} a t) r = same-ready q _ refl (more-due _ q.now q.events) (frame-goes_on t q) (moves-ready a r)
moves-ready (idling {q = q} a none) r = let b = moves-ready a r in record { invoking = λ h. absurd (none h); late = b.late }

-- ---- what it gives

-- an idle callback whose timeout is over was due
pub due-there : (p : Page) (handle : ℕ) (c : Callback) → Ready p → HasSteps (IdleTimeout handle) p.tasks → IsIn c (p.idle.runnable ++ p.idle.pending) → c.handle ≡ handle → was_due p.events c.registration ≡ true
due-there p handle c r h i e = r.late.due handle h c i e

-- the first task of a source that was found
pub task-there : (source : Source) (steps : Steps) (ts : List Task) (task : Task) → first_task source ts ≡ Some task → task.steps ≡ steps → HasSteps steps ts
task-there source steps [] task e own = Prim.cc
task-there source steps (t ∷ ts) task e own = by_test (same_source t.source source) e (task-there source steps ts task)
  where
    by_test : (b : Bool) → cond b (Some t) (first_task source ts) ≡ Some task → (first_task source ts ≡ Some task → task.steps ≡ steps → HasSteps steps ts) → HasSteps steps (t ∷ ts)
    by_test true e rest = inl (ap {A = Option Task} {B = Steps} (λ o. (unwrap_or o t).steps) e ∙ own)
    by_test false e rest = inr (rest e own)

-- where no task is runnable, none waits that invokes idle callbacks
pub empty-none : (f : Source → Option Runnable) (xs : List Source) (s : Source) → is_empty (filter_map f xs) ≡ true → IsIn s xs → is_there (f s) ≡ false
empty-none f [] s h i = elim i [ ]
empty-none f (x ∷ xs) s h i = by_place i (by_first (f x) refl h) (λ j k. empty-none f xs s k j)
  where
    by_first : (o : Option Runnable) → f x ≡ o → is_empty (cons_option o (filter_map f xs)) ≡ true → (is_there (f x) ≡ false) × (is_empty (filter_map f xs) ≡ true)
    by_first None e k = (ap is_there e, k)
    by_first (Some r) e k = absurd (false_true k)

    by_place : IsIn s (x ∷ xs) → (is_there (f x) ≡ false) × (is_empty (filter_map f xs) ≡ true) → (IsIn s xs → is_empty (filter_map f xs) ≡ true → is_there (f s) ≡ false) → is_there (f s) ≡ false
    by_place (inl e) k rest = ap {A = Source} {B = Bool} (λ y. is_there (f y)) e ∙ k.0
    by_place (inr j) k rest = rest j k.1

found-there : (ts : List Task) (t : Task) → IsIn t ts → t.source ≡ IdleSource → is_there (first_task IdleSource ts) ≡ true
found-there [] t i e = elim i [ ]
found-there (u ∷ ts) t i e = by_test (same_source u.source IdleSource) refl i (λ j. found-there ts t j e)
  where
    by_test : (b : Bool) → same_source u.source IdleSource ≡ b → IsIn t (u ∷ ts) → (IsIn t ts → is_there (first_task IdleSource ts) ≡ true) → is_there (cond b (Some u) (first_task IdleSource ts)) ≡ true
    by_test true q j rest = refl
    by_test false q (inl f) rest = absurd (false_true (sym q ∙ ap {A = Source} {B = Bool} (λ s. same_source s IdleSource) (sym (ap {A = Task} {B = Source} (λ v. v.source) f) ∙ e)))
    by_test false q (inr j) rest = rest j

pub none-invokes : (p : Page) → Ready p → is_empty (view p) ≡ true → HasSteps InvokeIdle p.tasks → ⊥
none-invokes p r h s =
    let k = tasked InvokeIdle p.tasks s in
    let there = found-there p.tasks k.task k.there (r.late.sources k.task k.there k.own) in
    false_true (sym (empty-none (runnable_at p) default_list IdleSource h (inr (inr (inr (inr (inr (inr (inl refl)))))))) ∙ mapped (first_task IdleSource p.tasks) there)
  where
    mapped : (o : Option Task) → is_there o ≡ true → is_there {X = Runnable} (option_map (λ n. record { source = IdleSource; first = n }) (option_map (λ (t : Task). t.number) o)) ≡ true
    mapped None e = e
    mapped (Some t) e = refl

-- in a first page there is none
pub first-ready : (program : Program) (setup : Setup) (hosts : List HostClosure) → Ready (first_page program setup hosts)
first-ready program setup hosts =
    record {
      invoking = λ h. absurd (none h);
      late = record {
        callbacks = λ c i. elim i [ ];
        timers = λ t i. elim i [ ];
        tasks = λ h s. absurd (no_timeout h s);
        own = λ t i. elim i [ ];
        due = λ h s c i. elim i [ ];
        sources = λ t i e. absurd (script t i e);
      };
    }
  where
    none : (RunScript ≡ InvokeIdle) ⊎ ⊥ → ⊥
    none (inl e) = Prim.cc
    none (inr i) = i

    no_timeout : (h : ℕ) → (RunScript ≡ IdleTimeout h) ⊎ ⊥ → ⊥
    no_timeout h (inl e) = Prim.cc
    no_timeout h (inr i) = i

    script : (t : Task) → IsIn t (first_page program setup hosts).tasks → t.steps ≡ InvokeIdle → ⊥
    script t (inl e) k = none (inl (sym (ap {A = Task} {B = Steps} (λ v. v.steps) e) ∙ k))
    script t (inr i) k = i
