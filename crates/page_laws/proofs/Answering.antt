-- A closure of the host answers once at most: its answer is pending, or due, or given, and only where it is not live.
use Rattle.page_parts.specs.TaskSignals.{Prios}
use Rattle.std.proofs.Common.{◌≡◌, ℕ, zero, suc, ◌≤◌, ◌+◌, Bool, true, false, List, [], ◌∷◌, ◌||◌, not, Option, Some, None, refl, sym, subst, ap, ◌∙◌, cond, length, arith, unwrap_or, slice_get, ℤ, Result}
use Rattle.std.proofs.lemmas.Bool.{eqb-true, eq-eqb}
use Rattle.std.specs.Prelude.{◌==◌, filter, find, slice_set}
use Rattle.page_types.specs.declared.HostMark.{HostMark}
use Rattle.page_types.specs.declared.HostMark.TheVariants.{Live, Queued as QueuedMark, Fired, Dropped}
use Rattle.page_types.specs.Events.{Arm, Event, Call, Drop, Reg, Host, Due, Enq, Prio}
use Rattle.page_types.specs.Tree.{Program}
use Rattle.page_parts.specs.HostClosures.{HostClosure, fired}
use Rattle.page_parts.specs.Promises.{Reaction, the_promise}
use Rattle.page_parts.specs.Promises as Promises
use Rattle.page_parts.specs.Notices.{Context, Notices, Noticed, changed, subscribe_promise, queue_micro}
use Rattle.page_parts.specs.Setup.{Setup}
use Rattle.page_parts.specs.Sources.{same_source}
use Rattle.page_parts.specs.Words.{without}
use Rattle.page_types.specs.declared.RegKind.TheVariants as kind
use Rattle.page_model.specs.Invoke.{register_as}
use Rattle.page_model.specs.Numbers.{Each}
use Rattle.page_model.specs.Operations.{queued_mark}
use Rattle.page_model.specs.PageSignals.{closure_dropped, drop_at, drop_closure, task_in_answer, task_in_net, waiting_answer, waiting_net_task}
use Rattle.page_model.specs.State.{IdleTimeout, Registration, Page, Task, HostTask, Steps, AnswerHost, RunTimer, HostAnswer, emit, emit_each, on_notices, context}
use Rattle.page_model.specs.Turns.{first_page}
use Rattle.page_laws.specs.CallLaws.{is_answer_of, keeps_once}
use Rattle.page_laws.specs.History.{History, count_lines, some_line, is_rest}
use Rattle.page_laws.specs.Moves.{with_task, is_aside, is_end, is_free, fired_at, promise_changes, Places, places, PlaceChange, places_stay, task_queued, task_left, armed_again, signal_armed, timer_due, completed, idle_started, idle_queued, answer_due, id_cleared, idle_armed, idle_due, Dropping, timer_dropped, idle_dropped, listener_dropped, task_dropped, FirstPlace, nowhere, at_listener, at_timer, at_delay, at_idle, at_host, AsBefore, PageChange, elsewhere, told, arm_told, rested, answered, dropped, frame_dropped, registered, frame_asked, promised, settled, followed, adopted, subscribed, then_asked, micro_asked, rejected_taken, noted, Beginning, TheScript, ATimer, AFrame, AnIdle, ALateIdle, AListener, APost, AContinuation, AMicro, AReaction, called_by, taken, Moves, here, changing, arming, calling, ending, flagging, running, framing, idling, enqueued_anew, fell_due, post_fell_due, delay_due, signal_due, DueChange, without_queued, without_answer, prio_told}
use Rattle.page_laws.proofs.Lines.{changed-each, added, emit_each-events}
use Rattle.page_laws.proofs.Once.{keeps_calls, once_calls}
use Rattle.page_laws.proofs.Scans.{Test, Kept}
use Rattle.page_laws.proofs.Totals.{one_if, total, total-last, total-without, IsLess, less-found, less-within}

-- the part of the law on answers of hosts
abbrev pub keeps_answers : History → Event → Bool
keeps_answers past (Host k x answer) = not (some_line (is_answer_of k) past)
keeps_answers past e = true

abbrev pub once_answers : Test
once_answers past e = keeps_answers past e.event

-- ---- what each item counts for

abbrev pub answer_claims : ℕ → HostAnswer → ℕ
answer_claims k a = one_if (a.task.closure == k)

abbrev pub steps_answer : ℕ → Steps → ℕ
steps_answer k (AnswerHost t) = one_if (t.closure == k)
steps_answer k steps = 0

abbrev pub net_claims : ℕ → Task → ℕ
net_claims k t = steps_answer k t.steps

-- how often the answer of a closure is pending or due
abbrev pub host_claims : ℕ → Places → ℕ
host_claims k x = total (answer_claims k) x.host_answers + total (net_claims k) x.tasks

-- how often it was given
abbrev pub answers : ℕ → History → ℕ
answers k past = count_lines (is_answer_of k) past

-- the places fit the lines
pub record HostsFit (x : Places) (past : History) : Type 0 where
  pub once : (k : ℕ) → host_claims k x + answers k past ≤ 1
  pub live : (k : ℕ) (c : HostClosure) → slice_get x.hosts k ≡ Some c → c.mark ≡ Live → host_claims k x + answers k past ≤ 0
  pub kept : Kept once_answers past

-- ---- lines

abbrev tells_of_answers : Event → Bool
tells_of_answers (Host k x answer) = true
tells_of_answers e = false

abbrev Silent : Event → Type 0
Silent e = tells_of_answers e ≡ false

aside-silent : (e : Event) → is_aside e ≡ true → Silent e
aside-silent (Host k x answer) h = Prim.cc
aside-silent e h = refl

rest-silent : (e : Event) → is_rest e ≡ true → Silent e
rest-silent (Host k x answer) h = Prim.cc
rest-silent e h = refl

end-silent : (e : Event) → is_end e ≡ true → Silent e
end-silent (Host k x answer) h = Prim.cc
end-silent e h = refl

silent-fits : (e : Event) (now : ℕ) (x : Places) (past : History) → Silent e → HostsFit x past → HostsFit x (record { time = now; event = e } ∷ past)
silent-fits (Host k y answer) now x past h f = Prim.cc
silent-fits e now x past h f = record { once = f.once; live = f.live; kept = (refl, f.kept) }

added-fits : (now : ℕ) (es : List Event) (x : Places) (past : History) → Each Silent es → HostsFit x past → HostsFit x (added now es past)
added-fits now [] x past h f = f
added-fits now (e ∷ es) x past h f = added-fits now es x (record { time = now; event = e } ∷ past) h.1 (silent-fits e now x past h.0 f)

changed-silent : (current : Context) (names : List (List ℕ)) (n : ℕ) (c : Promises.Change) (s : Notices) → Each Silent (changed current names n c s).lines
changed-silent = changed-each Silent (λ n ok bs. refl) (λ j what. refl)

subscribed-silent : (current : Context) (n : ℕ) (r : Reaction) (s : Notices) → Each Silent (subscribe_promise current n r s).lines
subscribed-silent current n r s =
    changed-silent current [] n (Promises.subscribe n (the_promise s.promises n) r) (record s { rejected = without (λ m. m == n) s.rejected; outstanding = without (λ m. m == n) s.outstanding })

answers-none : (past : History) (k : ℕ) → answers k past ≤ 0 → some_line (is_answer_of k) past ≡ false
answers-none [] k h = refl
answers-none (e ∷ past) k h = by_test (is_answer_of k e.event) h (answers-none past k)
  where
    others : History
    others = filter (λ e. is_answer_of k e.event) past

    by_test : (b : Bool) → length (cond b (e ∷ others) others) ≤ 0 → (answers k past ≤ 0 → some_line (is_answer_of k) past ≡ false) → b || some_line (is_answer_of k) past ≡ false
    by_test true h rest = absurd (omega (arith, h))
    by_test false h rest = rest h

answers-more : (j k now : ℕ) (x : ℤ) (answer : Result ℤ ℤ) (past : History) → answers k (record { time = now; event = Host j x answer } ∷ past) ≡ one_if (j == k) + answers k past
answers-more j k now x answer past = by_test (j == k)
  where
    others : History
    others = filter (λ e. is_answer_of k e.event) past

    by_test : (b : Bool) → length (cond b (record { time = now; event = Host j x answer } ∷ others) others) ≡ one_if b + length others
    by_test true = omega arith
    by_test false = omega arith

-- ---- closures

-- each closure that is live was live before
abbrev StayLive : List HostClosure → List HostClosure → Type 0
StayLive before after = (k : ℕ) (c : HostClosure) → slice_get after k ≡ Some c → c.mark ≡ Live → slice_get before k ≡ Some c

unsome : (c d : HostClosure) → Some c ≡ Some d → c ≡ d
unsome c d e = ap {A = Option HostClosure} {B = HostClosure} (λ o. unwrap_or o c) e

set-live : (hosts : List HostClosure) (j : ℕ) (d : HostClosure) → (d.mark ≡ Live → ⊥) → StayLive hosts (slice_set hosts j d)
set-live [] j d h k c e l = e
set-live (b ∷ hosts) zero d h zero c e l = absurd (h (ap {A = HostClosure} {B = HostMark} (λ x. x.mark) (unsome d c e) ∙ l))
set-live (b ∷ hosts) zero d h (suc k) c e l = e
set-live (b ∷ hosts) (suc j) d h zero c e l = e
set-live (b ∷ hosts) (suc j) d h (suc k) c e l = set-live hosts j d h k c e l

queued_dead : QueuedMark ≡ Live → ⊥
queued_dead e = Prim.cc

fired_dead : Fired ≡ Live → ⊥
fired_dead e = Prim.cc

dropped_dead : Dropped ≡ Live → ⊥
dropped_dead e = Prim.cc

fired-live : (j : ℕ) (o : Option HostClosure) (hosts : List HostClosure) → StayLive hosts (fired_at j o hosts)
fired-live j None hosts k c e l = e
fired-live j (Some d) hosts k c e l = set-live hosts j (fired d) fired_dead k c e l

drop-live : (t : Option HostTask) (hosts : List HostClosure) → StayLive hosts (drop_closure t hosts)
drop-live None hosts k c e l = e
drop-live (Some t) hosts k c e l = by_closure (slice_get hosts t.closure) e
  where
    by_closure : (o : Option HostClosure) → slice_get (drop_at t.closure o hosts) k ≡ Some c → slice_get hosts k ≡ Some c
    by_closure None e = e
    by_closure (Some d) e = set-live hosts t.closure (closure_dropped d) dropped_dead k c e l

-- the closure that was set is there
pub set-there : (hosts : List HostClosure) (j : ℕ) (b d : HostClosure) → slice_get hosts j ≡ Some b → slice_get (slice_set hosts j d) j ≡ Some d
set-there [] j b d e = Prim.cc
set-there (c ∷ hosts) zero b d e = refl
set-there (c ∷ hosts) (suc j) b d e = set-there hosts j b d e

-- ---- places

lessen-fits : (x y : Places) (past : History) → ((k : ℕ) → host_claims k y ≤ host_claims k x) → StayLive x.hosts y.hosts → HostsFit x past → HostsFit y past
lessen-fits x y past h l f =
    record {
      once = λ k. let a = h k in let b = f.once k in omega (arith, a, b);
      live = λ k c e m. let a = h k in let b = f.live k c (l k c e m) m in omega (arith, a, b);
      kept = f.kept;
    }

same-live : (hosts : List HostClosure) → StayLive hosts hosts
same-live hosts k c e l = e

free-claims : (k : ℕ) (steps : Steps) → is_free steps ≡ true → steps_answer k steps ≡ 0
free-claims k (AnswerHost t) h = Prim.cc
free-claims k steps h = refl

place-fits : {made : List Registration} {x y : Places} → PlaceChange made x y → (past : History) → HostsFit x past → HostsFit y past
place-fits places_stay past f = f
place-fits {x = x} {y = y} (task_queued t h plain) past f =
    lessen-fits x (with_task t x) past (λ k. let a = total-last (net_claims k) x.tasks t in let b = free-claims k t.steps h in omega (arith, a, b)) (same-live x.hosts) f
place-fits {x = x} {y = y} (idle_queued t e from) past f =
    lessen-fits x (with_task t x) past (λ k. let a = total-last (net_claims k) x.tasks t in let b = free-claims k t.steps (ap is_free e) in omega (arith, a, b)) (same-live x.hosts) f
place-fits {x = x} (task_left number) past f =
    lessen-fits x (record x { tasks = without (λ t. t.number == number) x.tasks }) past (λ k. let a = total-without (net_claims k) (λ t. t.number == number) x.tasks in omega (arith, a)) (same-live x.hosts) f
place-fits (armed_again a t role there next) past f = record { once = f.once; live = f.live; kept = f.kept }
place-fits (signal_armed ms now q signal) past f = record { once = f.once; live = f.live; kept = f.kept }
place-fits (id_cleared id) past f = record { once = f.once; live = f.live; kept = f.kept }
place-fits (idle_armed t most own) past f = record { once = f.once; live = f.live; kept = f.kept }
place-fits (completed start gone) past f = record { once = f.once; live = f.live; kept = f.kept }
place-fits idle_started past f = record { once = f.once; live = f.live; kept = f.kept }

-- what is due
due-fits : {made : List Registration} {r : ℕ} {x y : Places} → DueChange made r x y → (past : History) → HostsFit x past → HostsFit y past
due-fits {x = x} {y = y} (timer_due start number source t e i role) past f =
    lessen-fits x y past
    (λ k. let a = total-last (net_claims k) x.tasks (record { number = number; source = source; steps = RunTimer t }) in omega (arith, a)) (same-live x.hosts) f
due-fits (delay_due start source e role) past f = record { once = f.once; live = f.live; kept = f.kept }
due-fits (signal_due start s e role) past f = record { once = f.once; live = f.live; kept = f.kept }
due-fits {x = x} {y = y} (idle_due t number source i e role) past f =
    lessen-fits x y past
    (λ k. let a = total-last (net_claims k) x.tasks (record { number = number; source = source; steps = IdleTimeout t.handle }) in omega (arith, a)) (same-live x.hosts) f
due-fits {x = x} {y = y} (answer_due before a after number source e i role) past f =
    let gone : HostAnswer → Bool = λ b. b.task.registration == a.task.registration in
    lessen-fits x y past
    (λ k.
    let b = total-last (net_claims k) x.tasks (record { number = number; source = source; steps = AnswerHost a.task }) in
    let c : IsLess (answer_claims k) gone x.host_answers a =
    subst (λ (xs : List HostAnswer). IsLess (answer_claims k) gone xs a) (sym e) (less-within (answer_claims k) gone before a after (eq-eqb a.task.registration a.task.registration refl)) in
    omega (arith, b, c)) (same-live x.hosts) f

drop-fits : {made : List Registration} {r : ℕ} {x y : Places} → Dropping made r x y → (past : History) → HostsFit x past → HostsFit y past
drop-fits (timer_dropped id there e own) past f = record { once = f.once; live = f.live; kept = f.kept }
drop-fits (idle_dropped handle c e e1 role) past f = record { once = f.once; live = f.live; kept = f.kept }
drop-fits (listener_dropped there role) past f = record { once = f.once; live = f.live; kept = f.kept }

-- a registration that a signal can abort is dropped
aborted-fits : (r : ℕ) (x : Places) (pending due : Option HostTask) (past : History) → HostsFit x past → HostsFit (record (without_queued r (without_answer r x)) { hosts = drop_closure pending (drop_closure due x.hosts) }) past
aborted-fits r x pending due past f =
    lessen-fits x (record (without_queued r (without_answer r x)) { hosts = drop_closure pending (drop_closure due x.hosts) }) past (λ k. let a = total-without (answer_claims k) (λ a. a.task.registration == r) x.host_answers in omega (arith, a))
    (λ k c e l. drop-live due x.hosts k c (drop-live pending (drop_closure due x.hosts) k c e l) l) f

first-fits : {made : List Registration} {prios : Prios} {r : ℕ} {x y : Places} → FirstPlace made prios r x y → (past : History) → HostsFit x past → HostsFit y past
first-fits nowhere past f = f
first-fits (at_listener target name q e) past f = record { once = f.once; live = f.live; kept = f.kept }
first-fits (at_timer a t e first) past f = record { once = f.once; live = f.live; kept = f.kept }
first-fits (at_delay ms now q source e prio) past f = record { once = f.once; live = f.live; kept = f.kept }
first-fits (at_idle q e) past f = record { once = f.once; live = f.live; kept = f.kept }
first-fits {x = x} {y = y} (at_host c a e there live) past f =
    record {
      once = λ k. by_number k (a.task.closure == k) refl (f.once k);
      live = λ k d e1 m. by_live k d e1 m (a.task.closure == k) refl;
      kept = f.kept;
    }
  where
    more : (k : ℕ) → host_claims k y ≡ host_claims k x + one_if (a.task.closure == k)
    more k = let b = total-last (answer_claims k) x.host_answers a in omega (arith, b)

    none : host_claims a.task.closure x + answers a.task.closure past ≤ 0
    none = f.live a.task.closure c there live

    by_number : (k : ℕ) (b : Bool) → (a.task.closure == k) ≡ b → host_claims k x + answers k past ≤ 1 → host_claims k y + answers k past ≤ 1
    by_number k true q le =
        let none' = subst (λ (j : ℕ). host_claims j x + answers j past ≤ 0) (eqb-true a.task.closure k q) none in
        let b = more k in
        let z : one_if (a.task.closure == k) ≡ 1 = ap one_if q in
        omega (arith, none', b, z)
    by_number k false q le = let b = more k in let z : one_if (a.task.closure == k) ≡ 0 = ap one_if q in omega (arith, le, b, z)

    by_live : (k : ℕ) (d : HostClosure) → slice_get y.hosts k ≡ Some d → d.mark ≡ Live → (b : Bool) → (a.task.closure == k) ≡ b → host_claims k y + answers k past ≤ 0
    by_live k d e1 m true q =
        let set : slice_get y.hosts k ≡ Some (queued_mark c) = subst (λ (j : ℕ). slice_get y.hosts j ≡ Some (queued_mark c)) (eqb-true a.task.closure k q) (set-there x.hosts a.task.closure c (queued_mark c) there) in
        absurd (queued_dead (ap {A = HostClosure} {B = HostMark} (λ x. x.mark) (unsome (queued_mark c) d (sym set ∙ e1)) ∙ m))
    by_live k d e1 m false q =
        let b = more k in
        let z : one_if (a.task.closure == k) ≡ 0 = ap one_if q in
        let g = f.live k d (set-live x.hosts a.task.closure (queued_mark c) queued_dead k d e1 m) m in
        omega (arith, b, z, g)

-- a host's task is taken, and the host answers
answered-fits : (x y : Places) (find_test : Task → Bool) (task : Task) (t : HostTask) (answer : Result ℤ ℤ) (now : ℕ) (past : History) → find find_test x.tasks ≡ Some task → task.steps ≡ AnswerHost t
    → y ≡ record x { tasks = without (λ t. t.number == task.number) x.tasks; hosts = fired_at t.closure (slice_get x.hosts t.closure) x.hosts }
    → HostsFit x past → HostsFit y (record { time = now; event = Host t.closure t.number answer } ∷ past)
answered-fits x y find_test task t answer now past e e1 same f =
    subst (λ (z : Places). HostsFit z (record { time = now; event = Host t.closure t.number answer } ∷ past)) (sym same)
    (record {
      once = λ k. let a = less k in let b = answers-more t.closure k now t.number answer past in let c = f.once k in omega (arith, a, b, c);
      live = λ k c e2 m. let a = less k in let b = answers-more t.closure k now t.number answer past in let d = f.live k c (fired-live t.closure (slice_get x.hosts t.closure) x.hosts k c e2 m) m in omega (arith, a, b, d);
      kept = (ap not (answers-none past t.closure not_yet), f.kept);
    })
  where
    less : (k : ℕ) → total (net_claims k) (without (λ t. t.number == task.number) x.tasks) + one_if (t.closure == k) ≤ total (net_claims k) x.tasks
    less k =
        let a = less-found (net_claims k) find_test (λ t. t.number == task.number) x.tasks task e (eq-eqb task.number task.number refl) in
        let b : net_claims k task ≡ one_if (t.closure == k) = ap (steps_answer k) e1 in
        omega (arith, a, b)

    not_yet : answers t.closure past ≤ 0
    not_yet =
        let a = less t.closure in
        let b : one_if (t.closure == t.closure) ≡ 1 = ap one_if (eq-eqb t.closure t.closure refl) in
        let c = f.once t.closure in
        omega (arith, a, b, c)

-- ---- moves

abbrev pub Fits : Page → Type 0
Fits p = HostsFit (places p) p.events

before-fits : {p q : Page} → AsBefore p q → HostsFit (places q) p.events → Fits q
before-fits {p = p} {q = q} b f = subst (HostsFit (places q)) (sym b.events) f

emit_each-places : (es : List Event) (p : Page) → places (emit_each es p) ≡ places p
emit_each-places [] p = refl
emit_each-places (e ∷ es) p = emit_each-places es (emit e p)

notices-fit : (f : Notices → Noticed) (p : Page) → Each Silent (f p.notices).lines → Fits p → Fits (on_notices f p)
notices-fit f p h k =
    let q : Page = record p { notices = (f p.notices).notices } in
    let lines = (f p.notices).lines in
    subst (λ (x : Places). HostsFit x (emit_each lines q).events) (sym (emit_each-places lines q))
    (subst (HostsFit (places p)) (sym (emit_each-events lines q)) (added-fits p.now lines (places p) p.events h k))

changes-fit : (n : ℕ) (c : Promises.Change) (p : Page) → Fits p → Fits (promise_changes n c p)
changes-fit n c p f = notices-fit (λ s. changed (context p) p.names n c s) p (changed-silent (context p) p.names n c p.notices) f

pub change-fits : {p q : Page} → PageChange p q → Fits p → Fits q
change-fits {p = p} (elsewhere c b k) f = before-fits b (place-fits c p.events f)
change-fits {p = p} (told e h) f = silent-fits e p.now (places p) p.events (aside-silent e h) f
change-fits {p = p} (arm_told r due level w well) f = silent-fits (Arm r due level) p.now (places p) p.events refl f
change-fits {p = p} (rested e h x y z over begun done) f = silent-fits e p.now (places p) p.events (rest-silent e h) f
change-fits {p = p} {q = q} (answered source task t answer x y live z b) f = before-fits b (answered-fits (places p) (places q) (λ t. same_source t.source source) task t answer p.now p.events x y z f)
change-fits {p = p} {q = q} (registered k x e unframed u b at) f = before-fits b (first-fits u (register_as k x p).events (record { once = f.once; live = f.live; kept = (refl, f.kept) }))
change-fits {p = p} (dropped r d b) f = before-fits b (drop-fits d (emit (Drop r) p).events (record { once = f.once; live = f.live; kept = (refl, f.kept) }))
change-fits {p = p} {q = q} (task_dropped r role a e s b) f =
    before-fits b
    (subst (λ (x : Places). HostsFit x (emit (Drop r) p).events) (sym s)
    (aborted-fits r (places p) (task_in_answer (waiting_answer r p)) (task_in_net (waiting_net_task r p)) (emit (Drop r) p).events (record { once = f.once; live = f.live; kept = (refl, f.kept) })))
change-fits {p = p} {q = q} (enqueued_anew k x t queue e i s n b) f =
    before-fits b
    (subst (λ (y : Places). HostsFit y (emit (Enq t.registration queue t.continuation t.order) (register_as k x p)).events) (sym s)
    (record { once = f.once; live = f.live; kept = (refl, (refl, f.kept)) }))
change-fits {p = p} {q = q} (fell_due r d b by) f = before-fits b (due-fits d (emit (Due r) p).events (record { once = f.once; live = f.live; kept = (refl, f.kept) }))
change-fits {p = p} {q = q} (post_fell_due start source t queue e role a s n b by) f =
    before-fits b
    (subst (λ (y : Places). HostsFit y (emit (Enq t.registration queue t.continuation t.order) (emit (Due t.registration) p)).events) (sym s)
    (record { once = f.once; live = f.live; kept = (refl, (refl, f.kept)) }))
change-fits {p = p} (prio_told s priority ps c) f = silent-fits (Prio s priority) p.now (places p) p.events refl f
change-fits (frame_dropped handle c e role) f = record { once = f.once; live = f.live; kept = (refl, f.kept) }
change-fits (frame_asked g) f = record { once = f.once; live = f.live; kept = (refl, f.kept) }
change-fits promised f = f
change-fits {p = p} (settled n how x y) f = changes-fit n (Promises.settle n (the_promise p.notices.promises n) how) p f
change-fits {p = p} (followed n how x y) f = changes-fit n (Promises.settle n (the_promise p.notices.promises n) how) p f
change-fits {p = p} (adopted n from x y) f = changes-fit n (Promises.adopt n (the_promise p.notices.promises n) from) p f
change-fits {p = p} (subscribed n r g e) f = notices-fit (subscribe_promise (context p) n r) p (subscribed-silent (context p) n r p.notices) f
change-fits {p = p} (then_asked n x r e g z) f =
    notices-fit (subscribe_promise (context p) n r) (register_as kind.Then x p) (subscribed-silent (context p) n r p.notices) (record { once = f.once; live = f.live; kept = (refl, f.kept) })
change-fits {p = p} (micro_asked x r e z) f = notices-fit (queue_micro (context p) r) (register_as kind.Micro x p) (refl, tt) (record { once = f.once; live = f.live; kept = (refl, f.kept) })
change-fits rejected_taken f = f
change-fits (noted n) f = f

task-fits : (number : ℕ) (x : Places) (past : History) → HostsFit x past → HostsFit (record x { tasks = without (λ t. t.number == number) x.tasks }) past
task-fits number x past f =
    lessen-fits x (record x { tasks = without (λ t. t.number == number) x.tasks }) past (λ k. let a = total-without (net_claims k) (λ t. t.number == number) x.tasks in omega (arith, a)) (same-live x.hosts) f

begins-fit : (b : Beginning) (p : Page) → Fits p → Fits (taken b p)
begins-fit (TheScript source task) p f = task-fits task.number (places p) p.events f
begins-fit (ATimer source task t) p f = task-fits task.number (places p) p.events f
begins-fit (AFrame key c) p f = f
begins-fit (AnIdle c others) p f = record { once = f.once; live = f.live; kept = (refl, f.kept) }
begins-fit (ALateIdle handle c) p f = record { once = f.once; live = f.live; kept = f.kept }
begins-fit (AListener r) p f = f
begins-fit (APost t) p f = record { once = f.once; live = f.live; kept = (refl, f.kept) }
begins-fit (AContinuation t) p f = record { once = f.once; live = f.live; kept = (refl, f.kept) }
begins-fit (AMicro job others r) p f = record { once = f.once; live = f.live; kept = (refl, f.kept) }
begins-fit (AReaction job others of x r) p f = record { once = f.once; live = f.live; kept = (refl, f.kept) }

pub moves-fit : {p q : Page} → Moves p q → Fits p → Fits q
moves-fit here f = f
moves-fit (changing a c plain) f = change-fits c (moves-fit a f)
moves-fit (arming a c e w) f = change-fits e (change-fits c (moves-fit a f))
moves-fit (calling {q = q} a b w i) f = silent-fits (Call (called_by b)) (taken b q).now (places (taken b q)) (taken b q).events refl (begins-fit b q (moves-fit a f))
moves-fit (ending {q = q} a e h) f = silent-fits e q.now (places q) q.events (end-silent e h) (moves-fit a f)
moves-fit (flagging {q = q} {r = r} a x y z w u v t j) f = subst (λ (x : Places). HostsFit x r.events) (sym u) (subst (HostsFit (places q)) (sym y) (moves-fit a f))
moves-fit (running {q = q} a j others x y nm) f = let g = moves-fit a f in record { once = g.once; live = g.live; kept = (refl, g.kept) }
moves-fit (framing a t) f = let g = moves-fit a f in record { once = g.once; live = g.live; kept = (refl, g.kept) }
moves-fit (idling a none) f = moves-fit a f

pub first_fits : (program : Program) (setup : Setup) (hosts : List HostClosure) → Fits (first_page program setup hosts)
first_fits program setup hosts = record { once = λ k. omega arith; live = λ k c e l. omega arith; kept = tt }

-- from a first page on, no closure answers twice
pub answered_once : (program : Program) (setup : Setup) (hosts : List HostClosure) {q : Page} → Moves (first_page program setup hosts) q → Kept once_answers q.events
answered_once program setup hosts a = (moves-fit a (first_fits program setup hosts)).kept

-- ---- the whole law

abbrev pub once_test : Test
once_test past e = keeps_once past e.event

-- each line is of one part
pub once-parts : (past : History) → Kept once_calls past → Kept once_answers past → Kept once_test past
once-parts [] h k = tt
once-parts (e ∷ past) h k = (by_line e.event h.0 k.0, once-parts past h.1 k.1)
  where
    by_line : (e : Event) → keeps_calls past e ≡ true → keeps_answers past e ≡ true → keeps_once past e ≡ true
    by_line (Reg r kind by) h k = h
    by_line (Call r) h k = h
    by_line (Host j x answer) h k = k
    by_line e h k = refl
