-- The tasks that wait have different numbers, and a line that was given stays.
use Rattle.std.proofs.Common.{◌≡◌, ◌⊎◌, inl, inr, ℕ, suc, ◌≤◌, Bool, true, false, ◌||◌, List, [], ◌∷◌, Option, Some, refl, sym, subst, ap, ◌∙◌, cond, arith, length, unwrap_or}
use Rattle.std.specs.Prelude.{find, ◌==◌}
use Rattle.page_types.specs.declared.RegKind.TheVariants as kind
use Rattle.page_types.specs.declared.Source.{Source}
use Rattle.page_types.specs.declared.Source.TheVariants.{Sched}
use Rattle.page_types.specs.Events.{Event, Arm, Call, Turn, IdleLine, Frame, Prio, Reg, Run, Drop, Due, Enq, Host}
use Rattle.page_types.specs.Tree.{Program}
use Rattle.page_parts.specs.Setup.{Setup}
use Rattle.page_parts.specs.HostClosures.{HostClosure}
use Rattle.page_parts.specs.Words.{and_last, without}
use Rattle.page_parts.specs.Notices.{Notices, Noticed, changed, subscribe_promise, queue_micro}
use Rattle.page_parts.specs.Promises.{the_promise}
use Rattle.page_parts.specs.Promises as Promises
use Rattle.page_parts.specs.TaskSignals.{Prios}
use Rattle.page_model.specs.State.{Page, Registration, Task, emit, on_notices, context, caller}
use Rattle.page_model.specs.Invoke.{register_as}
use Rattle.page_model.specs.PageTime.{deadline, first_task}
use Rattle.page_model.specs.Turns.{first_page}
use Rattle.page_laws.specs.History.{History, some_line}
use Rattle.page_laws.specs.Moves.{IsIn, IsMade, IsDueBy, Places, places, PlaceChange, places_stay, task_queued, task_left, armed_again, signal_armed, id_cleared, idle_armed, completed, idle_started, idle_queued, DueChange, timer_due, delay_due, signal_due, idle_due, answer_due, Dropping, timer_dropped, idle_dropped, listener_dropped, FirstPlace, nowhere, at_listener, at_timer, at_delay, at_idle, at_host, PageChange, elsewhere, told, arm_told, rested, registered as made_one, promised, settled, followed, adopted, subscribed, micro_asked, then_asked, answered, dropped, frame_dropped, frame_asked, rejected_taken, noted, Beginning, TheScript, ATimer, AFrame, AnIdle, ALateIdle, AListener, APost, AContinuation, AMicro, AReaction, called_by, taken, task_dropped, enqueued_anew, fell_due, post_fell_due, prio_told, Moves, here, changing, arming, calling, ending, flagging, running, framing, idling}
use Rattle.page_laws.proofs.Lines.{added, emit_each-events}
use Rattle.page_laws.proofs.Ready.{emit_each-places, in-fewer, in-last}

-- ---- numbers of tasks

-- each number is at most the last, and no two tasks have the same
pub record AreNumbered (made : ℕ) (ts : List Task) : Type 0 where
  pub most : (t : Task) → IsIn t ts → t.number ≤ made
  pub own : (t u : Task) → IsIn t ts → IsIn u ts → t.number ≡ u.number → t ≡ u

abbrev pub ByPlaces : Places → Type 0
ByPlaces x = AreNumbered x.tasks_made x.tasks

abbrev pub Numbered : Page → Type 0
Numbered p = AreNumbered p.tasks_made p.tasks

next-numbered : (made : ℕ) (ts : List Task) (n : Task) → n.number ≡ suc made → AreNumbered made ts → AreNumbered n.number (and_last ts n)
next-numbered made ts n e f = record { most = λ t i. by_most t (in-last t n ts i); own = λ t u i j same. by_both t u (in-last t n ts i) (in-last u n ts j) same }
  where
    by_most : (t : Task) → IsIn t ts ⊎ (t ≡ n) → t.number ≤ n.number
    by_most t (inl i) = let a = f.most t i in omega (arith, a, e)
    by_most t (inr z) = let a = ap {A = Task} {B = ℕ} (λ y. y.number) z in omega (arith, a)

    by_both : (t u : Task) → IsIn t ts ⊎ (t ≡ n) → IsIn u ts ⊎ (u ≡ n) → t.number ≡ u.number → t ≡ u
    by_both t u (inl i) (inl j) same = f.own t u i j same
    by_both t u (inl i) (inr z) same = let a = f.most t i in let b = ap {A = Task} {B = ℕ} (λ y. y.number) z in absurd (omega (arith, a, b, e, same))
    by_both t u (inr z) (inl j) same = let a = f.most u j in let b = ap {A = Task} {B = ℕ} (λ y. y.number) z in absurd (omega (arith, a, b, e, same))
    by_both t u (inr z) (inr y) same = z ∙ sym y

fewer-numbered : (made number : ℕ) (ts : List Task) → AreNumbered made ts → AreNumbered made (without (λ t. t.number == number) ts)
fewer-numbered made number ts f =
    record { most = λ t i. f.most t (in-fewer t (λ t. t.number == number) ts i); own = λ t u i j same. f.own t u (in-fewer t (λ t. t.number == number) ts i) (in-fewer u (λ t. t.number == number) ts j) same }

above-numbered : (made more : ℕ) (ts : List Task) → made ≤ more → AreNumbered made ts → AreNumbered more ts
above-numbered made more ts le f = record { most = λ t i. let a = f.most t i in omega (arith, a, le); own = f.own }

place-numbered : {made : List Registration} {x y : Places} (c : PlaceChange made x y) → (p : Page) → x ≡ places p → IsMade c p → ByPlaces x → ByPlaces y
place-numbered places_stay p e k f = f
place-numbered {x = x} (task_queued t h plain) p e k f = next-numbered x.tasks_made x.tasks t (k ∙ ap suc (sym (ap {A = Places} {B = ℕ} (λ z. z.tasks_made) e))) f
place-numbered {x = x} (task_left number) p e k f = fewer-numbered x.tasks_made number x.tasks f
place-numbered (armed_again a t role there next) p e k f = f
place-numbered (signal_armed ms now r s) p e k f = f
place-numbered (id_cleared id) p e k f = f
place-numbered (idle_armed t most own) p e k f = f
place-numbered (completed start gone) p e k f = f
place-numbered idle_started p e k f = f
place-numbered {x = x} (idle_queued t z from) p e k f = next-numbered x.tasks_made x.tasks t (k.1 ∙ ap suc (sym (ap {A = Places} {B = ℕ} (λ z. z.tasks_made) e))) f

first-numbers : {made : List Registration} {ps : Prios} {r : ℕ} {x y : Places} → FirstPlace made ps r x y → ByPlaces x → ByPlaces y
first-numbers nowhere f = f
first-numbers (at_listener target name n e) f = f
first-numbers (at_timer a t e first) f = f
first-numbers (at_delay ms now n source e h) f = f
first-numbers (at_idle n e) f = f
first-numbers (at_host c a e there live) f = f

due-numbered : {made : List Registration} {r : ℕ} {x y : Places} (d : DueChange made r x y) → (now : ℕ) (lines : History) → IsDueBy now lines d → ByPlaces x → ByPlaces y
due-numbered {x = x} (timer_due start number source t e i role) now lines by f = next-numbered x.tasks_made x.tasks _ by.1 f
due-numbered (delay_due start source e role) now lines by f = f
due-numbered (signal_due start s e role) now lines by f = f
due-numbered {x = x} (idle_due t number source i e role) now lines by f = next-numbered x.tasks_made x.tasks _ by.1 f
due-numbered {x = x} (answer_due before a after number source e i role) now lines by f = next-numbered x.tasks_made x.tasks _ by.1 f

drop-numbered : {made : List Registration} {r : ℕ} {x y : Places} → Dropping made r x y → ByPlaces x → ByPlaces y
drop-numbered (timer_dropped id there e own) f = f
drop-numbered (idle_dropped handle c e e1 role) f = f
drop-numbered (listener_dropped there role) f = f

notices-numbered : (f : Notices → Noticed) (p : Page) → Numbered p → Numbered (on_notices f p)
notices-numbered f p h = subst ByPlaces (sym (emit_each-places (f p.notices).lines (record p { notices = (f p.notices).notices }))) h

change-numbered : {p q : Page} → PageChange p q → Numbered p → Numbered q
change-numbered {p = p} (elsewhere c b k) f = place-numbered c p refl k f
change-numbered (told e h) f = f
change-numbered (arm_told r due level w well) f = f
change-numbered (rested e h x y z over begun done) f = f
change-numbered {p = p} (answered source task u answer x y live z b) f = subst ByPlaces (sym z) (fewer-numbered p.tasks_made task.number p.tasks f)
change-numbered (made_one k x e unframed u b at) f = first-numbers u f
change-numbered {p = p} (enqueued_anew k x u queue e i s n b) f = subst ByPlaces (sym s) (above-numbered p.tasks_made u.order p.tasks (let a = n.0.order in omega (arith, a)) f)
change-numbered {p = p} (fell_due r d b by) f = due-numbered d p.now p.events by f
change-numbered {p = p} (post_fell_due start source u queue e role a s n b by) f = subst ByPlaces (sym s) (above-numbered p.tasks_made u.order p.tasks (let a = n.0.order in omega (arith, a)) f)
change-numbered (dropped r d b) f = drop-numbered d f
change-numbered (frame_dropped handle c e role) f = f
change-numbered (task_dropped r role a e s b) f = subst ByPlaces (sym s) f
change-numbered (prio_told s priority ps c) f = f
change-numbered (frame_asked u) f = f
change-numbered promised f = f
change-numbered {p = p} (settled n how x y) f = notices-numbered (λ s. changed (context p) p.names n (Promises.settle n (the_promise p.notices.promises n) how) s) p f
change-numbered {p = p} (followed n how x y) f = notices-numbered (λ s. changed (context p) p.names n (Promises.settle n (the_promise p.notices.promises n) how) s) p f
change-numbered {p = p} (adopted n from x y) f = notices-numbered (λ s. changed (context p) p.names n (Promises.adopt n (the_promise p.notices.promises n) from) s) p f
change-numbered {p = p} (subscribed n r x y) f = notices-numbered (subscribe_promise (context p) n r) p f
change-numbered {p = p} (then_asked n x r e u y) f = notices-numbered (subscribe_promise (context p) n r) (register_as kind.Then x p) f
change-numbered {p = p} (micro_asked x r e y) f = notices-numbered (queue_micro (context p) r) (register_as kind.Micro x p) f
change-numbered rejected_taken f = f
change-numbered (noted n) f = f

begins-numbered : (b : Beginning) (p : Page) → Numbered p → Numbered (taken b p)
begins-numbered (TheScript source task) p f = fewer-numbered p.tasks_made task.number p.tasks f
begins-numbered (ATimer source task t) p f = fewer-numbered p.tasks_made task.number p.tasks f
begins-numbered (AFrame key c) p f = f
begins-numbered (AnIdle c others) p f = f
begins-numbered (ALateIdle handle c) p f = f
begins-numbered (AListener r) p f = f
begins-numbered (APost t) p f = f
begins-numbered (AContinuation t) p f = f
begins-numbered (AMicro job others r) p f = f
begins-numbered (AReaction job others of x r) p f = f

pub moves-numbered : {p q : Page} → Moves p q → Numbered p → Numbered q
moves-numbered here f = f
moves-numbered (changing a c plain) f = change-numbered c (moves-numbered a f)
moves-numbered (arming a c d w) f = change-numbered d (change-numbered c (moves-numbered a f))
moves-numbered (calling {q = q} a b w i) f = begins-numbered b q (moves-numbered a f)
moves-numbered (ending a e h) f = moves-numbered a f
moves-numbered (flagging a x y z w u v t j) f = subst ByPlaces (sym u) (moves-numbered a f)
moves-numbered (running a j others x y nm) f = moves-numbered a f
moves-numbered (framing a t) f = moves-numbered a f
moves-numbered (idling a none) f = moves-numbered a f

pub first-numbered : (program : Program) (setup : Setup) (hosts : List HostClosure) → Numbered (first_page program setup hosts)
first-numbered program setup hosts = record { most = λ t i. by_most t i; own = λ t u i j same. by_own t u i j }
  where
    by_most : (t : Task) → IsIn t (first_page program setup hosts).tasks → t.number ≤ 1
    by_most t (inl e) = let a = ap {A = Task} {B = ℕ} (λ y. y.number) e in omega (arith, a)
    by_most t (inr i) = elim i [ ]

    by_own : (t u : Task) → IsIn t (first_page program setup hosts).tasks → IsIn u (first_page program setup hosts).tasks → t ≡ u
    by_own t u (inl e) (inl z) = e ∙ sym z
    by_own t u (inr i) j = elim i [ ]
    by_own t u (inl e) (inr j) = elim j [ ]

-- what was found is in the list
pub found-task : {X : Type 0} (test : X → Bool) (xs : List X) (x : X) → find test xs ≡ Some x → IsIn x xs
found-task test [] x e = Prim.cc
found-task {X = X} test (y ∷ ys) x e = by_test (test y) e (found-task test ys x)
  where
    by_test : (b : Bool) → cond b (Some y) (find test ys) ≡ Some x → (find test ys ≡ Some x → IsIn x ys) → IsIn x (y ∷ ys)
    by_test true e rest = inl (sym (ap {A = Option X} {B = X} (λ o. unwrap_or o x) e))
    by_test false e rest = inr (rest e)

-- the task of a source that was found is the only one with its number
pub only-task : (p : Page) (source : Source) (task : Task) → Numbered p → first_task source p.tasks ≡ Some task → (t : Task) → IsIn t p.tasks → t.number ≡ task.number → t ≡ task
only-task p source task n e t i same = n.own t task i (found-task _ p.tasks task e) same

-- ---- a line that was given stays

module _ (test : Event → Bool) where
  abbrev Given : History → Type 0
  Given past = some_line test past ≡ true

  more : (e : Event) (now : ℕ) (past : History) → Given past → Given (record { time = now; event = e } ∷ past)
  more e now past h = on_right (test e) (some_line test past) h
    where
      on_right : (a b : Bool) → b ≡ true → a || b ≡ true
      on_right true b h = refl
      on_right false b h = h

  said : (e : Event) (p : Page) → Given p.events → Given (emit e p).events
  said e p h = more e p.now p.events h

  added-given : (now : ℕ) (es : List Event) (past : History) → Given past → Given (added now es past)
  added-given now [] past h = h
  added-given now (e ∷ es) past h = added-given now es (record { time = now; event = e } ∷ past) (more e now past h)

  notices-given : (f : Notices → Noticed) (p : Page) → Given p.events → Given (on_notices f p).events
  notices-given f p h = subst Given (sym (emit_each-events (f p.notices).lines (record p { notices = (f p.notices).notices }))) (added-given p.now (f p.notices).lines p.events h)

  change-given : {p q : Page} → PageChange p q → Given p.events → Given q.events
  change-given (elsewhere c b k) h = subst Given (sym b.events) h
  change-given {p = p} (told e x) h = said e p h
  change-given {p = p} (arm_told r due level w well) h = said (Arm r due level) p h
  change-given {p = p} (rested e x1 x y z over begun done) h = said e p h
  change-given {p = p} (answered source task u answer x y live z b) h = subst Given (sym b.events) (said (Host u.closure u.number answer) p h)
  change-given {p = p} (made_one k x e unframed u b at) h = subst Given (sym b.events) (more _ p.now p.events h)
  change-given {p = p} (enqueued_anew k x u queue e i s n b) h = subst Given (sym b.events) (said (Enq u.registration queue u.continuation u.order) (register_as k x p) (said (Reg (suc (length p.registrations)) k (caller p)) p h))
  change-given {p = p} (fell_due r d b by) h = subst Given (sym b.events) (said (Due r) p h)
  change-given {p = p} (post_fell_due start source u queue e role a s n b by) h = subst Given (sym b.events) (said (Enq u.registration queue u.continuation u.order) (emit (Due u.registration) p) (said (Due u.registration) p h))
  change-given {p = p} (dropped r d b) h = subst Given (sym b.events) (said (Drop r) p h)
  change-given {p = p} (frame_dropped handle c e role) h = said (Drop c.registration) p h
  change-given {p = p} (task_dropped r role a e s b) h = subst Given (sym b.events) (said (Drop r) p h)
  change-given {p = p} (prio_told s priority ps c) h = said (Prio s priority) p h
  change-given {p = p} (frame_asked u) h = more _ p.now p.events h
  change-given promised h = h
  change-given {p = p} (settled n how x y) h = notices-given (λ s. changed (context p) p.names n (Promises.settle n (the_promise p.notices.promises n) how) s) p h
  change-given {p = p} (followed n how x y) h = notices-given (λ s. changed (context p) p.names n (Promises.settle n (the_promise p.notices.promises n) how) s) p h
  change-given {p = p} (adopted n from x y) h = notices-given (λ s. changed (context p) p.names n (Promises.adopt n (the_promise p.notices.promises n) from) s) p h
  change-given {p = p} (subscribed n r x y) h = notices-given (subscribe_promise (context p) n r) p h
  change-given {p = p} (then_asked n x r e u y) h = notices-given (subscribe_promise (context p) n r) (register_as kind.Then x p) (more _ p.now p.events h)
  change-given {p = p} (micro_asked x r e y) h = notices-given (queue_micro (context p) r) (register_as kind.Micro x p) (more _ p.now p.events h)
  change-given rejected_taken h = h
  change-given (noted n) h = h

  begins-given : (b : Beginning) (p : Page) → Given p.events → Given (taken b p).events
  begins-given (TheScript source task) p h = h
  begins-given (ATimer source task t) p h = h
  begins-given (AFrame key c) p h = h
  begins-given (AnIdle c others) p h = more (IdleLine (deadline p.last_idle_start p)) p.now p.events h
  begins-given (ALateIdle handle c) p h = h
  begins-given (AListener r) p h = h
  begins-given (APost t) p h = more (Turn p.turns (Some Sched)) p.now p.events h
  begins-given (AContinuation t) p h = more (Turn p.turns (Some Sched)) p.now p.events h
  begins-given (AMicro job others r) p h = more (Run job.number) p.now p.events h
  begins-given (AReaction job others of x r) p h = more (Run job.number) p.now p.events h

  pub moves-given : {p q : Page} → Moves p q → some_line test p.events ≡ true → some_line test q.events ≡ true
  moves-given here h = h
  moves-given (changing a c plain) h = change-given c (moves-given a h)
  moves-given (arming a c d w) h = change-given d (change-given c (moves-given a h))
  moves-given (calling {q = q} a b w i) h = more (Call (called_by b)) (taken b q).now (taken b q).events (begins-given b q (moves-given a h))
  moves-given (ending {q = q} a e x) h = said e q (moves-given a h)
  moves-given (flagging a x y z w u v t j) h = subst Given (sym y) (moves-given a h)
  moves-given (running {q = q} a j others x y nm) h = more (Run j.number) q.now q.events (moves-given a h)
  moves-given (framing {q = q} a t) h = said (Frame t) q (moves-given a h)
  moves-given (idling a none) h = moves-given a h
