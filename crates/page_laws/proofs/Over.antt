-- What is registered for a kind waits, or was called or dropped: where it leaves its place only so, it stays so through all moves.
use Rattle.std.proofs.Common.{◌≡◌, ◌⊎◌, inl, inr, ℕ, suc, ◌≤◌, Bool, true, false, ◌&&◌, ◌||◌, List, [], ◌∷◌, Some, None, refl, sym, subst, ap, ◌∙◌, cond, length, eqb-true}
use Rattle.std.specs.Prelude.{◌==◌}
use Rattle.std.proofs.lemmas.Bool.{eq-eqb}
use Rattle.page_types.specs.declared.RegKind.{RegKind}
use Rattle.page_types.specs.declared.RegKind.TheVariants as kind
use Rattle.page_types.specs.declared.Source.{Source}
use Rattle.page_types.specs.declared.Source.TheVariants.{Sched}
use Rattle.page_types.specs.Events.{Event, Arm, Call, Turn, IdleLine, Frame, Prio, Reg, Run, Drop, Due, Enq, Host, Stamped}
use Rattle.page_parts.specs.Words.{and_last, without, numbered}
use Rattle.page_parts.specs.Promises.{PromiseJob, the_promise}
use Rattle.page_parts.specs.Promises as Promises
use Rattle.page_parts.specs.Notices.{Notices, Noticed, WaitingJob, Context, OfPromise, changed, queue_job, queue_jobs, promise_changed, subscribe_promise, queue_micro, note_outstanding}
use Rattle.page_model.specs.State.{Page, OfKind, ScriptRole, Role, Registration, SchedTask, Task, HostTask, AnswerHost, PrioSource, EnqueuePost, emit, emit_each, on_notices, context, caller, no_registration}
use Rattle.page_model.specs.Invoke.{register_as, call_begun}
use Rattle.page_model.specs.PageTime.{completion_of, deadline, first_task}
use Rattle.page_model.proofs.GivenNumbers.Growing.{length-last, numbered-last}
use Rattle.page_parts.specs.TaskSignals.{Prios}
use Rattle.page_laws.specs.History.{History, is_drop_of, was_dropped, is_call_of, was_called, is_scheduled}
use Rattle.page_laws.specs.TimerLaws.{was_done}
use Rattle.page_laws.specs.Moves.{IsDueBy, Tells, role_at, IsIn, IsMade, Places, places, PlaceChange, DueChange, AsBefore, PageChange, elsewhere, told, arm_told, rested, registered as made_one, promised, settled, followed, adopted, subscribed, micro_asked, then_asked, answered, dropped, frame_dropped, frame_asked, rejected_taken, noted, Beginning, TheScript, ATimer, AFrame, AnIdle, ALateIdle, AListener, APost, AContinuation, AMicro, AReaction, called_by, taken, task_dropped, enqueued_anew, fell_due, post_fell_due, prio_told, Moves, here, changing, arming, calling, ending, flagging, running, framing, idling, FirstPlace, Dropping, Waited, fits_first, is_micro, without_aborted, host_fired, without_number, with_queued, without_start, promise_changes}
use Rattle.page_laws.proofs.Framed.{false_true}
use Rattle.page_laws.proofs.Lines.{added, emit_each-events, emit_each-notices}
use Rattle.page_laws.proofs.Ready.{emit_each-places}
use Rattle.page_laws.proofs.Registered.{at_number}

-- ---- what was done stays done

pub on_left : (a b : Bool) → a ≡ true → a || b ≡ true
on_left true b h = refl
on_left false b h = absurd (false_true h)

pub on_right : (a b : Bool) → b ≡ true → a || b ≡ true
on_right true b h = refl
on_right false b h = h

pub done-later : (e : Stamped) (past : History) (r : ℕ) → was_done past r ≡ true → was_done (e ∷ past) r ≡ true
done-later e past r h = by_call (was_called past r) refl h
  where
    by_call : (b : Bool) → was_called past r ≡ b → b || was_dropped past r ≡ true → (is_call_of r e.event || was_called past r) || (is_drop_of r e.event || was_dropped past r) ≡ true
    by_call true q h = on_left (is_call_of r e.event || was_called past r) (is_drop_of r e.event || was_dropped past r) (on_right (is_call_of r e.event) (was_called past r) q)
    by_call false q h = on_right (is_call_of r e.event || was_called past r) (is_drop_of r e.event || was_dropped past r) (on_right (is_drop_of r e.event) (was_dropped past r) h)

-- a line by which it is done
call-does : (q r now : ℕ) (past : History) → q ≡ r → was_done (record { time = now; event = Call q } ∷ past) r ≡ true
call-does q r now past e = on_left ((q == r) || was_called past r) (was_dropped past r) (on_left (q == r) (was_called past r) (eq-eqb q r e))

drop-does : (q r now : ℕ) (past : History) → q ≡ r → was_done (record { time = now; event = Drop q } ∷ past) r ≡ true
drop-does q r now past e = on_right (was_called past r) ((q == r) || was_dropped past r) (on_left (q == r) (was_dropped past r) (eq-eqb q r e))

-- what is over: it was dropped, or was called where a call ends it
abbrev pub over : (by_call : Bool) → History → ℕ → Bool
over by_call past r = (by_call && was_called past r) || was_dropped past r

over-later : (by_call : Bool) (e : Stamped) (past : History) (r : ℕ) → over by_call past r ≡ true → over by_call (e ∷ past) r ≡ true
over-later true e past r h = done-later e past r h
over-later false e past r h = on_right (is_drop_of r e.event) (was_dropped past r) h

call-over : (by_call : Bool) (q r now : ℕ) (past : History) → by_call ≡ true → q ≡ r → over by_call (record { time = now; event = Call q } ∷ past) r ≡ true
call-over true q r now past h e = call-does q r now past e
call-over false q r now past h e = absurd (false_true h)

drop-over : (by_call : Bool) (q r now : ℕ) (past : History) → q ≡ r → over by_call (record { time = now; event = Drop q } ∷ past) r ≡ true
drop-over true q r now past e = drop-does q r now past e
drop-over false q r now past e = on_left (q == r) (was_dropped past r) (eq-eqb q r e)

-- ---- jobs that wait go on waiting

pub in_front : {X : Type 0} (x : X) (xs : List X) (y : X) → IsIn x xs → IsIn x (and_last xs y)
in_front x [] y i = elim i [ ]
in_front x (z ∷ xs) y (inl e) = inl e
in_front x (z ∷ xs) y (inr i) = inr (in_front x xs y i)

-- a member that does not go
pub in_still : {X : Type 0} (x : X) (gone : X → Bool) (xs : List X) → IsIn x xs → gone x ≡ false → IsIn x (without gone xs)
in_still x gone [] i e = i
in_still {X = X} x gone (y ∷ xs) i e = by_test (gone y) refl i (λ j. in_still x gone xs j e)
  where
    by_test : (b : Bool) → gone y ≡ b → IsIn x (y ∷ xs) → (IsIn x xs → IsIn x (without gone xs)) → IsIn x (cond b (without gone xs) (y ∷ without gone xs))
    by_test true q (inl f) rest = absurd (false_true (sym e ∙ (ap gone f ∙ q)))
    by_test true q (inr j) rest = rest j
    by_test false q (inl f) rest = inl f
    by_test false q (inr j) rest = inr (rest j)

pub is-last : {X : Type 0} (x : X) (xs : List X) → IsIn x (and_last xs x)
is-last x [] = inl refl
is-last x (y ∷ ys) = inr (is-last x ys)

-- those that wait in s wait in t
abbrev pub WaitOn : Notices → Notices → Type 0
WaitOn s t = (j : WaitingJob) → IsIn j s.jobs → IsIn j t.jobs

queue_jobs-wait : (current : Context) (jobs : List PromiseJob) (s : Notices) → WaitOn s (queue_jobs current jobs s).notices
queue_jobs-wait current [] s j i = i
queue_jobs-wait current (k ∷ jobs) s j i =
    queue_jobs-wait current jobs (queue_job current (OfPromise k) s).notices j (in_front j s.jobs (record { number = suc s.jobs_made; what = OfPromise k; context = current }) i)

changed-wait : (current : Context) (names : List (List ℕ)) (n : ℕ) (c : Promises.Change) (s : Notices) → WaitOn s (changed current names n c s).notices
changed-wait current names n c s = queue_jobs-wait current c.jobs (promise_changed names n c s).notices

noted-wait : (n : ℕ) (s : Notices) → WaitOn s (note_outstanding n s)
noted-wait n s = by_handled (the_promise s.promises n).handled
  where
    by_handled : (b : Bool) → WaitOn s (cond b s (record s { outstanding = and_last s.outstanding n }))
    by_handled true j i = i
    by_handled false j i = i

-- ---- registrations

-- an older registration is for what it was
pub older-role : (xs : List Registration) (x : Registration) (r : ℕ) → 1 ≤ r → (r ≡ suc (length xs) → ⊥) → role_at (and_last xs x) r ≡ role_at xs r
older-role xs x r one other = ap {A = Registration} {B = Role} (λ y. y.role) (at_number xs x r one (λ e. absurd (other e)))

pub newest-role : (xs : List Registration) (x : Registration) (r : ℕ) → r ≡ suc (length xs) → role_at (and_last xs x) r ≡ x.role
newest-role xs x r e =
    ap {A = ℕ} {B = Role} (role_at (and_last xs x)) e ∙ ap {A = Registration} {B = Role} (λ y. y.role) (ap {A = ℕ} {B = Registration} (λ n. numbered (and_last xs x) n no_registration) (sym (length-last xs x)) ∙ numbered-last xs x no_registration)

-- of every page
abbrev pub Always : Page → Type 0
Always p = Unit {0}

-- ---- a place where registrations of kind k wait, and what is asked of it: none leaves it but by a call or a cancel, in pages of which K holds

pub record Leaving (k : RegKind) (by_call : Bool) (Waits : ℕ → Places → Notices → Type 0) (K : Page → Type 0) : Type 0 where
  -- of registrations of this kind
  pub first : {xs : List Registration} {ps : Prios} {n : ℕ} {x y : Places} (u : FirstPlace xs ps n x y) → fits_first k u ≡ true → (s : Notices) → Waits n y s
  pub queued : (t : SchedTask) (x : Places) (s : Notices) → is_scheduled k ≡ true → Waits t.registration (with_queued t x) s
  pub micro : k ≡ kind.Micro → (current : Context) (r : ℕ) (x : Places) (s : Notices) → Waits r x (queue_micro current r s).notices
  pub not_frame : k ≡ kind.Frame → ⊥
  pub not_then : k ≡ kind.Then → ⊥
  -- of those that wait
  pub jobs : (r : ℕ) (x : Places) (s t : Notices) → WaitOn s t → Waits r x s → Waits r x t
  pub place : (p : Page) → K p → {y : Places} (c : PlaceChange p.registrations (places p) y) → IsMade c p → (r : ℕ) (s : Notices) → role_at p.registrations r ≡ OfKind k → Waits r (places p) s → over by_call p.events r ≡ true ⊎ Waits r y s
  pub others_first : {xs : List Registration} {ps : Prios} {n : ℕ} {x y : Places} (u : FirstPlace xs ps n x y) (r : ℕ) (s : Notices) → Waits r x s → Waits r y s
  pub others_queued : (t : SchedTask) (r : ℕ) (x : Places) (s : Notices) → Waits r x s → Waits r (with_queued t x) s
  pub answer : (p : Page) → K p → (source : Source) (task : Task) (t : HostTask) → first_task source p.tasks ≡ Some task → task.steps ≡ AnswerHost t → (r : ℕ) (s : Notices) → Waits r (places p) s → Waits r (host_fired t.closure (without_number task.number (places p))) s
  pub due : (p : Page) → K p → {q : ℕ} {y : Places} → (d : DueChange p.registrations q (places p) y) → IsDueBy p.now p.events d → (r : ℕ) (s : Notices) → role_at p.registrations r ≡ OfKind k → Waits r (places p) s → over by_call p.events r ≡ true ⊎ Waits r y s
  pub post_due : (p : Page) → K p → (start q : ℕ) (source : PrioSource) → completion_of p.completions start ≡ Some (EnqueuePost q source) → (t : SchedTask) → t.registration ≡ q → (r : ℕ) (s : Notices) → Waits r (places p) s → Waits r (with_queued t (without_start start (places p))) s
  pub cancel : {xs : List Registration} {q : ℕ} {x y : Places} → Dropping xs q x y → (r : ℕ) (s : Notices) → role_at xs r ≡ OfKind k → Waits r x s → (q ≡ r) ⊎ Waits r y s
  pub aborted : (q : ℕ) (p : Page) (r : ℕ) (s : Notices) → Waits r (places p) s → (q ≡ r) ⊎ Waits r (without_aborted q p) s
  pub run : (job : WaitingJob) (others : List WaitingJob) (r : ℕ) (x : Places) (s : Notices) → s.jobs ≡ job ∷ others → is_micro job.what ≡ false → Waits r x s → Waits r x (record s { jobs = others })

module _ (k : RegKind) (by_call : Bool) (Waits : ℕ → Places → Notices → Type 0) (K : Page → Type 0) (l : Leaving k by_call Waits K) where
  abbrev FitsBy : List Registration → Places → Notices → History → Type 0
  FitsBy xs x s past = (r : ℕ) → 1 ≤ r → role_at xs r ≡ OfKind k → over by_call past r ≡ true ⊎ Waits r x s

  abbrev pub Fits : Page → Type 0
  Fits p = FitsBy p.registrations (places p) p.notices p.events

  -- a line, and what keeps those that wait
  kept-fits : (e : Event) (now : ℕ) (xs : List Registration) (x y : Places) (s t : Notices) (past : History)
      → ((r : ℕ) → role_at xs r ≡ OfKind k → Waits r x s → over by_call (record { time = now; event = e } ∷ past) r ≡ true ⊎ Waits r y t) → FitsBy xs x s past → FitsBy xs y t (record { time = now; event = e } ∷ past)
  kept-fits e now xs x y s t past h f r one role = by_place (f r one role)
    where
      by_place : over by_call past r ≡ true ⊎ Waits r x s → over by_call (record { time = now; event = e } ∷ past) r ≡ true ⊎ Waits r y t
      by_place (inl d) = inl (over-later by_call (record { time = now; event = e }) past r d)
      by_place (inr w) = h r role w

  -- without a line
  moved-fits : (xs : List Registration) (x y : Places) (s t : Notices) (past : History) → ((r : ℕ) → role_at xs r ≡ OfKind k → Waits r x s → over by_call past r ≡ true ⊎ Waits r y t) → FitsBy xs x s past → FitsBy xs y t past
  moved-fits xs x y s t past h f r one role = by_place (f r one role)
    where
      by_place : over by_call past r ≡ true ⊎ Waits r x s → over by_call past r ≡ true ⊎ Waits r y t
      by_place (inl d) = inl d
      by_place (inr w) = h r role w

  line-fits : (e : Event) (now : ℕ) (xs : List Registration) (x : Places) (s : Notices) (past : History) → FitsBy xs x s past → FitsBy xs x s (record { time = now; event = e } ∷ past)
  line-fits e now xs x s past f = kept-fits e now xs x x s s past (λ r role w. inr w) f

  said : (e : Event) (p : Page) → Fits p → Fits (emit e p)
  said e p f = line-fits e p.now p.registrations (places p) p.notices p.events f

  added-fits : (now : ℕ) (es : List Event) (xs : List Registration) (x : Places) (s : Notices) (past : History) → FitsBy xs x s past → FitsBy xs x s (added now es past)
  added-fits now [] xs x s past f = f
  added-fits now (e ∷ es) xs x s past f = added-fits now es xs x s (record { time = now; event = e } ∷ past) (line-fits e now xs x s past f)

  emit_each-registrations : (es : List Event) (p : Page) → (emit_each es p).registrations ≡ p.registrations
  emit_each-registrations [] p = refl
  emit_each-registrations (e ∷ es) p = emit_each-registrations es (emit e p)

  -- calls on the notices, with their lines
  notices-fit : (f : Notices → Noticed) (p : Page) → FitsBy p.registrations (places p) (f p.notices).notices p.events → Fits (on_notices f p)
  notices-fit f p h =
      let q : Page = record p { notices = (f p.notices).notices } in
      let lines = (f p.notices).lines in
      subst (λ (s : Notices). FitsBy (emit_each lines q).registrations (places (emit_each lines q)) s (emit_each lines q).events) (sym (emit_each-notices lines q))
      (subst (λ (x : Places). FitsBy (emit_each lines q).registrations x (f p.notices).notices (emit_each lines q).events) (sym (emit_each-places lines q))
      (subst (λ (xs : List Registration). FitsBy xs (places p) (f p.notices).notices (emit_each lines q).events) (sym (emit_each-registrations lines q))
      (subst (FitsBy p.registrations (places p) (f p.notices).notices) (sym (emit_each-events lines q)) (added-fits p.now lines p.registrations (places p) (f p.notices).notices p.events h))))

  waiting-fit : (p : Page) (t : Notices) → WaitOn p.notices t → Fits p → FitsBy p.registrations (places p) t p.events
  waiting-fit p t h f = moved-fits p.registrations (places p) (places p) p.notices t p.events (λ r role w. inr (l.jobs r (places p) p.notices t h w)) f

  changes-fit : (n : ℕ) (c : Promises.Change) (p : Page) → Fits p → Fits (promise_changes n c p)
  changes-fit n c p f = notices-fit (λ s. changed (context p) p.names n c s) p (waiting-fit p (changed (context p) p.names n c p.notices).notices (changed-wait (context p) p.names n c p.notices) f)

  subscribed-fits : (n : ℕ) (x : Promises.Reaction) (p : Page) → Fits p → Fits (on_notices (subscribe_promise (context p) n x) p)
  subscribed-fits n x p f =
      let s : Notices = record p.notices { rejected = without (λ m. m == n) p.notices.rejected; outstanding = without (λ m. m == n) p.notices.outstanding } in
      notices-fit (subscribe_promise (context p) n x) p (waiting-fit p (subscribe_promise (context p) n x p.notices).notices (λ j i. changed-wait (context p) [] n (Promises.subscribe n (the_promise p.notices.promises n) x) s j i) f)

  before-fits : {p q : Page} → AsBefore p q → FitsBy p.registrations (places q) p.notices p.events → Fits q
  before-fits {p = p} {q = q} b f =
      subst (λ (s : Notices). FitsBy q.registrations (places q) s q.events) (sym b.notices)
      (subst (λ (xs : List Registration). FitsBy xs (places q) p.notices q.events) (sym b.registrations) (subst (FitsBy p.registrations (places q) p.notices) (sym b.events) f))

  replaced : (xs : List Registration) (x y : Places) (s : Notices) (past : History) → y ≡ x → FitsBy xs x s past → FitsBy xs y s past
  replaced xs x y s past e f = subst (λ (z : Places). FitsBy xs z s past) (sym e) f

  -- a registration is made, which waits then where it is of this kind
  made-fits : (j : RegKind) (x : Registration) (p : Page) (y : Places) (t : Notices) → x.role ≡ OfKind j → (k ≡ j → Waits (suc (length p.registrations)) y t)
      → ((r : ℕ) → role_at p.registrations r ≡ OfKind k → Waits r (places p) p.notices → Waits r y t) → Fits p → FitsBy (and_last p.registrations x) y t (register_as j x p).events
  made-fits j x p y t e new others f r one role = by_number (r == suc (length p.registrations)) refl
    where
      kinds : Role → RegKind
      kinds ScriptRole = k
      kinds (OfKind i) = i

      by_place : role_at p.registrations r ≡ OfKind k → over by_call p.events r ≡ true ⊎ Waits r (places p) p.notices → over by_call (register_as j x p).events r ≡ true ⊎ Waits r y t
      by_place old (inl d) = inl (over-later by_call (record { time = p.now; event = Reg (suc (length p.registrations)) j (caller p) }) p.events r d)
      by_place old (inr w) = inr (others r old w)

      by_number : (b : Bool) → (r == suc (length p.registrations)) ≡ b → over by_call (register_as j x p).events r ≡ true ⊎ Waits r y t
      by_number true q =
          let same = eqb-true r (suc (length p.registrations)) q in
          inr (subst (λ (n : ℕ). Waits n y t) (sym same) (new (ap {A = Role} {B = RegKind} kinds (sym role ∙ (newest-role p.registrations x r same ∙ e)))))
      by_number false q =
          let old = sym (older-role p.registrations x r one (λ same. false_true (sym q ∙ eq-eqb r (suc (length p.registrations)) same))) ∙ role in
          by_place old (f r one old)

  plain-made : (j : RegKind) (x : Registration) (p : Page) → x.role ≡ OfKind j → (k ≡ j → ⊥) → Fits p → Fits (register_as j x p)
  plain-made j x p e other f = made-fits j x p (places p) p.notices e (λ same. absurd (other same)) (λ r role w. w) f

  pub change-fits : {p q : Page} → PageChange p q → K p → Fits p → Fits q
  change-fits {p = p} {q = q} (elsewhere c b made) g f = before-fits b (moved-fits p.registrations (places p) (places q) p.notices p.notices p.events (λ r role w. l.place p g c made r p.notices role w) f)
  change-fits {p = p} (told e h) g f = said e p f
  change-fits {p = p} (arm_told r due level w well) g f = said (Arm r due level) p f
  change-fits {p = p} (rested e h x y z over begun done) g f = said e p f
  change-fits {p = p} {q = q} (answered source task u answer x y live z b) g f =
      before-fits b (replaced p.registrations _ (places q) p.notices (emit (Host u.closure u.number answer) p).events z (kept-fits (Host u.closure u.number answer) p.now p.registrations (places p) _ p.notices p.notices p.events (λ r role w. inr (l.answer p g source task u x y r p.notices w)) f))
  change-fits {p = p} {q = q} (made_one j x e unframed u b at) g f =
      before-fits b (made-fits j x p (places q) p.notices e (λ same. l.first u (subst (λ (i : RegKind). fits_first i u ≡ true) (sym same) at.0) p.notices) (λ r role w. l.others_first u r p.notices w) f)
  change-fits {p = p} {q = q} (enqueued_anew j x u queue e i s n b) g f =
      before-fits b
      (replaced (and_last p.registrations x) _ (places q) p.notices (emit (Enq u.registration queue u.continuation u.order) (register_as j x p)).events s
      (line-fits (Enq u.registration queue u.continuation u.order) p.now (and_last p.registrations x) (with_queued u (places p)) p.notices (register_as j x p).events
      (made-fits j x p (with_queued u (places p)) p.notices e (λ same. subst (λ (m : ℕ). Waits m (with_queued u (places p)) p.notices) i (l.queued u (places p) p.notices (subst (λ (i : RegKind). is_scheduled i ≡ true) (sym same) n.2)))
      (λ r role w. l.others_queued u r (places p) p.notices w) f)))
  change-fits {p = p} {q = q} (fell_due n d b by) g f =
      before-fits b (kept-fits (Due n) p.now p.registrations (places p) (places q) p.notices p.notices p.events (λ r role w. by_due r (l.due p g d by r p.notices role w)) f)
    where
      by_due : (r : ℕ) → over by_call p.events r ≡ true ⊎ Waits r (places q) p.notices → over by_call (record { time = p.now; event = Due n } ∷ p.events) r ≡ true ⊎ Waits r (places q) p.notices
      by_due r (inl o) = inl (over-later by_call (record { time = p.now; event = Due n }) p.events r o)
      by_due r (inr w) = inr w
  change-fits {p = p} {q = q} (post_fell_due start source u queue e role a s n b by) g f =
      before-fits b
      (replaced p.registrations _ (places q) p.notices (emit (Enq u.registration queue u.continuation u.order) (emit (Due u.registration) p)).events s
      (line-fits (Enq u.registration queue u.continuation u.order) p.now p.registrations (with_queued u (without_start start (places p))) p.notices (emit (Due u.registration) p).events
      (kept-fits (Due u.registration) p.now p.registrations (places p) (with_queued u (without_start start (places p))) p.notices p.notices p.events (λ r is w. inr (l.post_due p g start u.registration source e u refl r p.notices w)) f)))
  change-fits {p = p} {q = q} (dropped n d b) g f =
      before-fits b (kept-fits (Drop n) p.now p.registrations (places p) (places q) p.notices p.notices p.events (λ r role w. by_drop r (l.cancel d r p.notices role w)) f)
    where
      by_drop : (r : ℕ) → (n ≡ r) ⊎ Waits r (places q) p.notices → over by_call (record { time = p.now; event = Drop n } ∷ p.events) r ≡ true ⊎ Waits r (places q) p.notices
      by_drop r (inl e) = inl (drop-over by_call n r p.now p.events e)
      by_drop r (inr w) = inr w
  change-fits {p = p} (frame_dropped handle c e role) g f = line-fits (Drop c.registration) p.now p.registrations (places p) p.notices p.events f
  change-fits {p = p} {q = q} (task_dropped n role a e s b) g f =
      before-fits b (replaced p.registrations _ (places q) p.notices (emit (Drop n) p).events s (kept-fits (Drop n) p.now p.registrations (places p) (without_aborted n p) p.notices p.notices p.events (λ r is w. by_drop r (l.aborted n p r p.notices w)) f))
    where
      by_drop : (r : ℕ) → (n ≡ r) ⊎ Waits r (without_aborted n p) p.notices → over by_call (record { time = p.now; event = Drop n } ∷ p.events) r ≡ true ⊎ Waits r (without_aborted n p) p.notices
      by_drop r (inl e) = inl (drop-over by_call n r p.now p.events e)
      by_drop r (inr w) = inr w
  change-fits {p = p} (prio_told s priority ps c) g f = line-fits (Prio s priority) p.now p.registrations (places p) p.notices p.events f
  change-fits {p = p} (frame_asked u) g f =
      plain-made kind.Frame (record { role = OfKind kind.Frame; callback = Some u; second_callback = None; timer_id = 0; promise = 0; signal = None; finally = false }) p refl l.not_frame f
  change-fits {p = p} promised g f = moved-fits p.registrations (places p) (places p) p.notices _ p.events (λ r role w. inr (l.jobs r (places p) p.notices _ (λ j i. i) w)) f
  change-fits {p = p} (settled n how x y) g f = changes-fit n (Promises.settle n (the_promise p.notices.promises n) how) p f
  change-fits {p = p} (followed n how x y) g f = changes-fit n (Promises.settle n (the_promise p.notices.promises n) how) p f
  change-fits {p = p} (adopted n from x y) g f = changes-fit n (Promises.adopt n (the_promise p.notices.promises n) from) p f
  change-fits {p = p} (subscribed n x y z) g f = subscribed-fits n x p f
  change-fits {p = p} (then_asked n x y e u z) g f = subscribed-fits n y (register_as kind.Then x p) (plain-made kind.Then x p e l.not_then f)
  change-fits {p = p} (micro_asked x q e z) g f =
      notices-fit (queue_micro (context p) q) (register_as kind.Micro x p)
      (made-fits kind.Micro x p (places p) (queue_micro (context p) q p.notices).notices e
      (λ same. subst (λ (n : ℕ). Waits n (places p) (queue_micro (context p) q p.notices).notices) z (l.micro same (context p) q (places p) p.notices))
      (λ r role w. l.jobs r (places p) p.notices (queue_micro (context p) q p.notices).notices (λ j i. in_front j p.notices.jobs _ i) w) f)
  change-fits {p = p} rejected_taken g f = moved-fits p.registrations (places p) (places p) p.notices _ p.events (λ r role w. inr (l.jobs r (places p) p.notices _ (λ j i. i) w)) f
  change-fits {p = p} (noted n) g f = moved-fits p.registrations (places p) (places p) p.notices _ p.events (λ r role w. inr (l.jobs r (places p) p.notices (note_outstanding n p.notices) (noted-wait n p.notices) w)) f

  -- lines with the taking stand before the call
  taken-events : (b : Beginning) (p : Page) (r : ℕ) → over by_call p.events r ≡ true → over by_call (taken b p).events r ≡ true
  taken-events b p r h = by_taking b
    where
      by_taking : (b : Beginning) → over by_call (taken b p).events r ≡ true
      by_taking (TheScript source task) = h
      by_taking (ATimer source task t) = h
      by_taking (AFrame key c) = h
      by_taking (AnIdle c others) = over-later by_call (record { time = p.now; event = IdleLine (deadline p.last_idle_start p) }) p.events r h
      by_taking (ALateIdle handle c) = h
      by_taking (AListener q) = h
      by_taking (APost t) = over-later by_call (record { time = p.now; event = Turn p.turns (Some Sched) }) p.events r h
      by_taking (AContinuation t) = over-later by_call (record { time = p.now; event = Turn p.turns (Some Sched) }) p.events r h
      by_taking (AMicro job others q) = over-later by_call (record { time = p.now; event = Run job.number }) p.events r h
      by_taking (AReaction job others of x q) = over-later by_call (record { time = p.now; event = Run job.number }) p.events r h

  taken-made : (b : Beginning) (p : Page) → (taken b p).registrations ≡ p.registrations
  taken-made (TheScript source task) p = refl
  taken-made (ATimer source task t) p = refl
  taken-made (AFrame key c) p = refl
  taken-made (AnIdle c others) p = refl
  taken-made (ALateIdle handle c) p = refl
  taken-made (AListener q) p = refl
  taken-made (APost t) p = refl
  taken-made (AContinuation t) p = refl
  taken-made (AMicro job others q) p = refl
  taken-made (AReaction job others of x q) p = refl

  -- a call ends those that are called
  abbrev CalledSo : Type 0
  CalledSo =
      (b : Beginning) (p : Page) → K p → Waited b p → (r : ℕ) → role_at p.registrations r ≡ OfKind k → Waits r (places p) p.notices
      → (called_by b ≡ r) ⊎ Waits r (places (taken b p)) (taken b p).notices

  begins-fit : by_call ≡ true → CalledSo → (b : Beginning) (p : Page) → K p → Waited b p → Fits p → Fits (call_begun (called_by b) (taken b p))
  begins-fit ends called b p g w f r one role = by_place (f r one old)
    where
      old : role_at p.registrations r ≡ OfKind k
      old = ap {A = List Registration} {B = Role} (λ xs. role_at xs r) (sym (taken-made b p)) ∙ role

      after : (called_by b ≡ r) ⊎ Waits r (places (taken b p)) (taken b p).notices → over by_call (call_begun (called_by b) (taken b p)).events r ≡ true ⊎ Waits r (places (taken b p)) (taken b p).notices
      after (inl e) = inl (call-over by_call (called_by b) r (taken b p).now (taken b p).events ends e)
      after (inr v) = inr v

      by_place : over by_call p.events r ≡ true ⊎ Waits r (places p) p.notices → over by_call (call_begun (called_by b) (taken b p)).events r ≡ true ⊎ Waits r (places (taken b p)) (taken b p).notices
      by_place (inl d) = inl (over-later by_call (record { time = (taken b p).now; event = Call (called_by b) }) (taken b p).events r (taken-events b p r d))
      by_place (inr v) = after (called b p g w r old v)

  -- the line of what was armed
  pub arm-fits : {p q s : Page} (c : PageChange p q) (d : PageChange q s) → Tells c d → Fits q → Fits s
  arm-fits {q = q} (made_one j x e unframed u b at) (arm_told r due level w well) h f = said (Arm r due level) q f
  arm-fits {q = q} (elsewhere c b made) (arm_told r due level w well) h f = said (Arm r due level) q f
  arm-fits c d h f = elim h [ ]

  pub moves-over : by_call ≡ true → CalledSo → ((p q : Page) → Moves p q → K p → K q) → {p q : Page} → Moves p q → K p → Fits p → Fits q
  moves-over ends called keep here g f = f
  moves-over ends called keep {p = p} (changing {q = q} a c plain) g f = change-fits c (keep p q a g) (moves-over ends called keep a g f)
  moves-over ends called keep {p = p} (arming {q = q} a c d w) g f = arm-fits c d w (change-fits c (keep p q a g) (moves-over ends called keep a g f))
  moves-over ends called keep {p = p} (calling {q = q} a b w i) g f = begins-fit ends called b q (keep p q a g) w (moves-over ends called keep a g f)
  moves-over ends called keep {p = p} (ending {q = q} a e h) g f = said e q (moves-over ends called keep a g f)
  moves-over ends called keep {p = p} (flagging {q = q} {r = r} a x y z w u v t j) g f =
      subst (λ (s : Notices). FitsBy r.registrations (places r) s r.events) (sym x)
      (subst (λ (xs : List Registration). FitsBy xs (places r) q.notices r.events) (sym z)
      (replaced q.registrations (places q) (places r) q.notices r.events u (subst (FitsBy q.registrations (places q) q.notices) (sym y) (moves-over ends called keep a g f))))
  moves-over ends called keep {p = p} (running {q = q} a j others x y nm) g f =
      line-fits (Run j.number) q.now q.registrations (places q) (record q.notices { jobs = others }) q.events
      (moved-fits q.registrations (places q) (places q) q.notices (record q.notices { jobs = others }) q.events (λ r role w. inr (l.run j others r (places q) q.notices x nm w)) (moves-over ends called keep a g f))
  moves-over ends called keep {p = p} (framing {q = q} a n) g f = said (Frame n) q (moves-over ends called keep a g f)
  moves-over ends called keep {p = p} (idling a none) g f = moves-over ends called keep a g f
