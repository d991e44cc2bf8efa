-- What each change and each call does to the intervals: each that was not dropped goes on waiting, but for that whose timer is in hand, and its id stays live or it is dropped.
use Rattle.std.proofs.Common.{◌≡◌, ◌⊎◌, inl, inr, ℕ, zero, suc, ◌≤◌, Bool, true, false, ◌||◌, List, [], ◌∷◌, Some, None, refl, sym, subst, ap, ◌∙◌, length, arith, eqb-true, ℤ}
use Rattle.std.specs.Prelude.{◌==◌}
use Rattle.std.proofs.lemmas.Bool.{eq-eqb}
use Rattle.page_types.specs.declared.RegKind.{RegKind}
use Rattle.page_types.specs.declared.RegKind.TheVariants as kind
use Rattle.page_types.specs.declared.Source.{Source}
use Rattle.page_types.specs.declared.Source.TheVariants.{Sched}
use Rattle.page_types.specs.Events.{Event, Stamped, Arm, Call, Turn, Run, IdleLine, Prio, Reg, Drop, Due, Enq, Host}
use Rattle.page_types.specs.Tree.{Program}
use Rattle.page_parts.specs.HostClosures.{HostClosure}
use Rattle.page_parts.specs.Notices.{Notices, Noticed, WaitingJob, changed, subscribe_promise, queue_micro}
use Rattle.page_parts.specs.Promises.{the_promise}
use Rattle.page_parts.specs.Promises as Promises
use Rattle.page_parts.specs.Setup.{Setup}
use Rattle.page_parts.specs.TaskSignals.{Prios}
use Rattle.page_parts.specs.Timers as Timers
use Rattle.page_parts.specs.Timers.{TimerId, armed}
use Rattle.page_parts.specs.Words.{and_last, without}
use Rattle.page_model.specs.Invoke.{register_as, call_begun, call_ended, job_begun}
use Rattle.page_model.specs.Numbers.{is_timer_role}
use Rattle.page_model.specs.PageTime.{clear_id, deadline, init_timer}
use Rattle.page_model.specs.State.{Page, OfKind, ScriptRole, Role, Registration, Task, TimerTask, RunScript, AnswerHost, Completing, QueueTimer, EnqueuePost, emit, emit_each, on_notices, context, caller}
use Rattle.page_model.specs.Turns.{first_page}
use Rattle.page_laws.specs.History.{History, is_drop_of, was_dropped}
use Rattle.page_laws.specs.Moves.{AsBefore, Beginning, TheScript, ATimer, AFrame, AnIdle, ALateIdle, AListener, APost, AContinuation, AMicro, AReaction, Changes, nothing, with_change, with_arm, Dropping, timer_dropped, idle_dropped, listener_dropped, FirstPlace, nowhere, at_listener, at_timer, at_delay, at_idle, at_host, in_steps, IntervalsWait, IsMade, IsNew, IsQuiet, Moves, PageChange, PlaceChange, PlaceIsNew, PlaceIsPlain, Places, TimerWaits, Waited, called_by, fits_first, id_at, places, places_stay, task_queued, task_left, armed_again, signal_armed, id_cleared, idle_armed, completed, idle_started, idle_queued, role_at, taken, DueChange, timer_due, delay_due, signal_due, idle_due, answer_due, elsewhere, told, arm_told, rested, registered as made_one, promised, settled, followed, adopted, subscribed, micro_asked, then_asked, answered, dropped, frame_dropped, frame_asked, rejected_taken, noted, task_dropped, enqueued_anew, fell_due, post_fell_due, prio_told, Tells}
use Rattle.page_laws.proofs.Cancelled.{made-kind}
use Rattle.page_laws.proofs.DoneTimeout.{Kept_timers, called, cancel-waits, due-waits, fewer_steps, fewer_tasks, more_steps, no_host, no_script, no_timer, other-start, others-first, place-waits, taken-other}
use Rattle.page_laws.proofs.Framed.{false_true}
use Rattle.page_laws.proofs.Lines.{added, emit_each-events}
use Rattle.page_laws.proofs.Moving.{calm-holds, moves_of}
use Rattle.page_laws.proofs.Watching.{PostsWatched, begins-posts, changes-posts, line-kept, same-posts}
use Rattle.page_laws.proofs.Numbered.{moves-numbered}
use Rattle.page_laws.proofs.Over.{Leaving, arm-fits, change-fits, is-last, older-role, on_left, on_right}
use Rattle.page_laws.proofs.Ready.{emit_each-places}
use Rattle.page_laws.proofs.TimersLive.{IsOver, found-id, given-role, lives, lives-others, lives-without, older-id}
use Rattle.page_laws.proofs.TimersStand.{timers-stand}

-- ---- the intervals that wait

-- an interval is in hand, or waits
abbrev InHand : (ℕ → Bool) → ℕ → Places → Notices → Type 0
InHand hand r x s = (hand r ≡ true) ⊎ TimerWaits r x.completions x.tasks

-- each interval that was not dropped is in hand, or waits
abbrev pub AllBut : (ℕ → Bool) → Page → Type 0
AllBut hand p = (r : ℕ) → 1 ≤ r → role_at p.registrations r ≡ OfKind kind.Interval → was_dropped p.events r ≡ true ⊎ InHand hand r (places p) p.notices

abbrev pub no_hand : ℕ → Bool
no_hand r = false

abbrev pub with_hand : ℕ → (ℕ → Bool) → ℕ → Bool
with_hand r hand n = (n == r) || hand n

no_timeout : OfKind kind.Timeout ≡ OfKind kind.Interval → ⊥
no_timeout e = Prim.cc

-- an interval is over where it was dropped
over_dropped : (xs : List Registration) (past : History) (r : ℕ) → role_at xs r ≡ OfKind kind.Interval → IsOver xs past r → was_dropped past r ≡ true
over_dropped xs past r role (inl d) = d
over_dropped xs past r role (inr c) = absurd (no_timeout (sym c.0 ∙ role))

lifted : {A B C : Type 0} → (B → C) → A ⊎ B → A ⊎ C
lifted f (inl a) = inl a
lifted f (inr b) = inr (f b)

module _ (hand : ℕ → Bool) where
  first-waits : {xs : List Registration} {ps : Prios} {n : ℕ} {x y : Places} (u : FirstPlace xs ps n x y) → fits_first kind.Interval u ≡ true → (s : Notices) → InHand hand n y s
  first-waits nowhere at s = absurd (false_true at)
  first-waits (at_listener target name q e) at s = absurd (false_true at)
  first-waits {x = x} (at_timer a t e first) at s =
      inr (record { timer = t; own = e; place = in_steps (record { start = a.start; completion = QueueTimer t }) (is-last (record { start = a.start; completion = QueueTimer t }) x.completions) refl })
  first-waits (at_delay ms now q source e h) at s = absurd (false_true at)
  first-waits (at_idle q e) at s = absurd (false_true at)
  first-waits (at_host c a e there live) at s = absurd (false_true at)

  place-stays : (p : Page) → Kept_timers p → {y : Places} (c : PlaceChange p.registrations (places p) y) → IsMade c p → (r : ℕ) (s : Notices) → role_at p.registrations r ≡ OfKind kind.Interval → InHand hand r (places p) s → was_dropped p.events r ≡ true ⊎ InHand hand r y s
  place-stays p g c made r s role (inl h) = inr (inl h)
  place-stays p g c made r s role (inr w) = lifted inr (place-waits (was_dropped p.events r ≡ true) p g c made r (over_dropped p.registrations p.events r role) w)

  leaving : Leaving kind.Interval false (InHand hand) Kept_timers
  leaving =
      record {
        first = first-waits;
        queued = λ t x s h. absurd (false_true h);
        micro = λ e current r x s. absurd (no_micro e);
        not_frame = λ e. Prim.cc;
        not_then = λ e. Prim.cc;
        jobs = λ r x s t h w. w;
        place = place-stays;
        others_first = λ u r s w. lifted (others-first u r) w;
        others_queued = λ t r x s w. w;
        answer = λ p g source task t e e1 r s w. lifted (fewer_tasks r task.number p.completions p.tasks (taken-other p g.1 source task (AnswerHost t) e e1 (no_host t) r)) w;
        due = λ p g d by r s role w. inr (lifted (due-waits p g d by r) w);
        post_due = λ p g start q source e t z r s w. lifted (fewer_steps r start p.completions p.tasks (other-start p g.0 start (EnqueuePost q source) e (no_timer q source) r)) w;
        cancel = λ d r s role w. inr (lifted (cancel-waits d r) w);
        aborted = λ q p r s w. inr w;
        run = λ job others r x s e plain w. w;
      }
    where
      no_micro : kind.Interval ≡ kind.Micro → ⊥
      no_micro e = Prim.cc

pub kept-later : {p q : Page} → Moves p q → Kept_timers p → Kept_timers q
kept-later a k = (timers-stand a k.0, moves-numbered a k.1)

changes-wait : (hand : ℕ → Bool) {p q : Page} → Changes p q → Kept_timers p → AllBut hand p → AllBut hand q
changes-wait hand nothing k w = w
changes-wait hand (with_change a c plain) k w = change-fits kind.Interval false (InHand hand) Kept_timers (leaving hand) c (kept-later (moves_of a) k) (changes-wait hand a k w)
changes-wait hand (with_arm a c d h new) k w =
    arm-fits kind.Interval false (InHand hand) Kept_timers (leaving hand) c d h (change-fits kind.Interval false (InHand hand) Kept_timers (leaving hand) c (kept-later (moves_of a) k) (changes-wait hand a k w))

-- ---- ids that are live

-- an interval with this id was dropped, or the id is live with this handle
pub record Lives (id handle r : ℕ) (xs : List Registration) (ids : List TimerId) (past : History) : Type 0 where
  pub role : role_at xs r ≡ OfKind kind.Interval
  pub own : id_at xs r ≡ id
  pub live : (was_dropped past r ≡ true) ⊎ (lives id handle ids ≡ true)

abbrev pub LivesAt : (id handle r : ℕ) → Page → Type 0
LivesAt id handle r p = Lives id handle r p.registrations p.timers.ids p.events

dropped_later : (e : Stamped) (past : History) (r : ℕ) → was_dropped past r ≡ true → was_dropped (e ∷ past) r ≡ true
dropped_later e past r d = on_right (is_drop_of r e.event) (was_dropped past r) d

module _ (id handle r : ℕ) where
  abbrev At : List Registration → List TimerId → History → Type 0
  At = Lives id handle r

  line-lives : (e : Event) (now : ℕ) (xs : List Registration) (ids : List TimerId) (past : History) → At xs ids past → At xs ids (record { time = now; event = e } ∷ past)
  line-lives e now xs ids past f = record { role = f.role; own = f.own; live = by_live f.live }
    where
      by_live : (was_dropped past r ≡ true) ⊎ (lives id handle ids ≡ true) → (was_dropped (record { time = now; event = e } ∷ past) r ≡ true) ⊎ (lives id handle ids ≡ true)
      by_live (inl d) = inl (dropped_later (record { time = now; event = e }) past r d)
      by_live (inr l) = inr l

  added-lives : (now : ℕ) (es : List Event) (xs : List Registration) (ids : List TimerId) (past : History) → At xs ids past → At xs ids (added now es past)
  added-lives now [] xs ids past f = f
  added-lives now (e ∷ es) xs ids past f = added-lives now es xs ids (record { time = now; event = e } ∷ past) (line-lives e now xs ids past f)

  grown-lives : (x : Registration) (xs : List Registration) (ids : List TimerId) (past : History) → At xs ids past → At (and_last xs x) ids past
  grown-lives x xs ids past f =
      let made = made-kind xs r kind.Interval f.role in
      let le = made.1 in
      let other : r ≡ suc (length xs) → ⊥ = λ e. absurd (omega (arith, le, e)) in
      record { role = older-role xs x r made.0 other ∙ f.role; own = older-id xs x r made.0 other ∙ f.own; live = f.live }

  -- the map is the same at this id
  ids-live : (xs : List Registration) (ids others : List TimerId) (past : History) → lives id handle others ≡ lives id handle ids → At xs ids past → At xs others past
  ids-live xs ids others past same f = record { role = f.role; own = f.own; live = lifted (λ l. same ∙ l) f.live }

  place-lives : (p : Page) {y : Places} → Kept_timers p → (c : PlaceChange p.registrations (places p) y) → IsMade c p → PlaceIsNew c → At p.registrations p.timers.ids p.events → At p.registrations y.timers.ids p.events
  place-lives p k places_stay made new f = f
  place-lives p k (task_queued t h plain) made new f = f
  place-lives p k (task_left number) made new f = f
  place-lives p k (armed_again a t role there next) made new f = elim new [ ]
  place-lives p k (signal_armed ms now q s) made new f = f
  place-lives p k (id_cleared other) made new f = by_id (other == id) refl
    where
      timers : Role → Bool
      timers role = is_timer_role role

      by_id : (b : Bool) → (other == id) ≡ b → At p.registrations (without (λ e. e.id == other) p.timers.ids) p.events
      by_id true q =
          let same = k.0.ids made.registration r (ap is_timer_role made.role) (ap is_timer_role f.role) (made.own ∙ (eqb-true other id q ∙ sym f.own)) in
          absurd (no_timeout (sym made.role ∙ (ap {A = ℕ} {B = Role} (role_at p.registrations) same ∙ f.role)))
      by_id false q = ids-live p.registrations p.timers.ids (without (λ e. e.id == other) p.timers.ids) p.events (lives-without id handle other p.timers.ids (λ e. false_true (sym q ∙ eq-eqb other id e))) f
  place-lives p k (idle_armed t most own) made new f = f
  place-lives p k (completed start gone) made new f = f
  place-lives p k idle_started made new f = f
  place-lives p k (idle_queued t e from) made new f = f

  first-lives : {xs : List Registration} {ps : Prios} {n : ℕ} {x y : Places} (u : FirstPlace xs ps n x y) (past : History) → At xs x.timers.ids past → At xs y.timers.ids past
  first-lives nowhere past f = f
  first-lives (at_listener target name q e) past f = f
  first-lives {xs = xs} {x = x} {y = y} (at_timer a t e first) past f =
      ids-live xs x.timers.ids y.timers.ids past (lives-others id handle a.id a.handle x.timers.ids (λ same. first.fresh r (f.own ∙ sym same))) f
  first-lives (at_delay ms now q source e h) past f = f
  first-lives (at_idle q e) past f = f
  first-lives (at_host c a e there live) past f = f

  due-lives : {xs : List Registration} {q : ℕ} {x y : Places} (d : DueChange xs q x y) (past : History) → At xs x.timers.ids past → At xs y.timers.ids past
  due-lives (timer_due start number source t e i role) past f = f
  due-lives (delay_due start source e role) past f = f
  due-lives (signal_due start s e role) past f = f
  due-lives (idle_due t number source i e role) past f = f
  due-lives (answer_due before a after number source e i role) past f = f

  drop-lives : (p : Page) {q : ℕ} {y : Places} → Kept_timers p → (d : Dropping p.registrations q (places p) y) → At p.registrations p.timers.ids p.events → At p.registrations y.timers.ids (emit (Drop q) p).events
  drop-lives p {q = q} k (timer_dropped other there e own) f = by_id (other == id) refl
    where
      by_id : (b : Bool) → (other == id) ≡ b → At p.registrations (without (λ e. e.id == other) p.timers.ids) (emit (Drop q) p).events
      by_id true z =
          let g = given-role p.registrations r (ap is_timer_role f.role) in
          let one : 1 ≤ q = subst (λ (n : ℕ). 1 ≤ n) (sym e) (found-id other r 1 p.registrations (omega arith) g.0 g.1 (f.own ∙ sym (eqb-true other id z))) in
          let o = own one in
          let same = k.0.ids q r o.1 (ap is_timer_role f.role) (o.0 ∙ (eqb-true other id z ∙ sym f.own)) in
          record { role = f.role; own = f.own; live = inl (on_left (q == r) (was_dropped p.events r) (eq-eqb q r same)) }
      by_id false z =
          ids-live p.registrations p.timers.ids (without (λ e. e.id == other) p.timers.ids) (emit (Drop q) p).events (lives-without id handle other p.timers.ids (λ e. false_true (sym z ∙ eq-eqb other id e)))
          (line-lives (Drop q) p.now p.registrations p.timers.ids p.events f)
  drop-lives p {q = q} k (idle_dropped number c e e1 role) f = line-lives (Drop q) p.now p.registrations p.timers.ids p.events f
  drop-lives p {q = q} k (listener_dropped there role) f = line-lives (Drop q) p.now p.registrations p.timers.ids p.events f

  -- ---- changes

  before-lives : {p q : Page} → AsBefore p q → At p.registrations q.timers.ids p.events → LivesAt id handle r q
  before-lives {p = p} {q = q} b f =
      subst (λ (xs : List Registration). At xs q.timers.ids q.events) (sym b.registrations) (subst (At p.registrations q.timers.ids) (sym b.events) f)

  same-ids : (x y : Places) (xs : List Registration) (past : History) → y ≡ x → At xs x.timers.ids past → At xs y.timers.ids past
  same-ids x y xs past e f = subst (λ (z : Places). At xs z.timers.ids past) (sym e) f

  said : (e : Event) (p : Page) → LivesAt id handle r p → LivesAt id handle r (emit e p)
  said e p f = line-lives e p.now p.registrations p.timers.ids p.events f

  emit_each-registrations : (es : List Event) (p : Page) → (emit_each es p).registrations ≡ p.registrations
  emit_each-registrations [] p = refl
  emit_each-registrations (e ∷ es) p = emit_each-registrations es (emit e p)

  notices-live : (f : Notices → Noticed) (p : Page) → LivesAt id handle r p → LivesAt id handle r (on_notices f p)
  notices-live f p h =
      let q : Page = record p { notices = (f p.notices).notices } in
      let lines = (f p.notices).lines in
      subst (λ (x : Places). At (emit_each lines q).registrations x.timers.ids (emit_each lines q).events) (sym (emit_each-places lines q))
      (subst (λ (xs : List Registration). At xs p.timers.ids (emit_each lines q).events) (sym (emit_each-registrations lines q))
      (subst (At p.registrations p.timers.ids) (sym (emit_each-events lines q)) (added-lives p.now lines p.registrations p.timers.ids p.events h)))

  registered-lives : (k : RegKind) (x : Registration) (p : Page) → LivesAt id handle r p → LivesAt id handle r (register_as k x p)
  registered-lives k x p f = line-lives (Reg (suc (length p.registrations)) k (caller p)) p.now (and_last p.registrations x) p.timers.ids p.events (grown-lives x p.registrations p.timers.ids p.events f)

  -- where no interval is armed again
  abbrev NoneAgain : {p q : Page} → PageChange p q → Type 0
  NoneAgain (elsewhere c b k) = PlaceIsNew c
  NoneAgain c = Unit {0}

  change-lives : {p q : Page} (c : PageChange p q) → NoneAgain c → Kept_timers p → LivesAt id handle r p → LivesAt id handle r q
  change-lives {p = p} {q = q} (elsewhere c b made) new k f = before-lives b (place-lives p k c made new f)
  change-lives {p = p} (told e h) new k f = said e p f
  change-lives {p = p} (arm_told n due level w well) new k f = said (Arm n due level) p f
  change-lives {p = p} (rested e h x y z over begun done) new k f = said e p f
  change-lives {p = p} {q = q} (answered source task u answer x y live z b) new k f =
      before-lives b (same-ids _ (places q) p.registrations (emit (Host u.closure u.number answer) p).events z (said (Host u.closure u.number answer) p f))
  change-lives {p = p} {q = q} (made_one j x e unframed u b at) new k f =
      before-lives b (line-lives (Reg (suc (length p.registrations)) j (caller p)) p.now (and_last p.registrations x) q.timers.ids p.events (grown-lives x p.registrations q.timers.ids p.events (first-lives u p.events f)))
  change-lives {p = p} {q = q} (enqueued_anew j x u queue e i s n b) new k f =
      before-lives b
      (same-ids _ (places q) (and_last p.registrations x) (emit (Enq u.registration queue u.continuation u.order) (register_as j x p)).events s
      (said (Enq u.registration queue u.continuation u.order) (register_as j x p) (registered-lives j x p f)))
  change-lives {p = p} {q = q} (fell_due n d b by) new k f = before-lives b (line-lives (Due n) p.now p.registrations q.timers.ids p.events (due-lives d p.events f))
  change-lives {p = p} {q = q} (post_fell_due start source u queue e role a s n b by) new k f =
      before-lives b
      (same-ids _ (places q) p.registrations (emit (Enq u.registration queue u.continuation u.order) (emit (Due u.registration) p)).events s
      (said (Enq u.registration queue u.continuation u.order) (emit (Due u.registration) p) (said (Due u.registration) p f)))
  change-lives {p = p} {q = q} (dropped n d b) new k f = before-lives b (drop-lives p k d f)
  change-lives {p = p} (frame_dropped number c e role) new k f = said (Drop c.registration) p f
  change-lives {p = p} {q = q} (task_dropped n role a e s b) new k f = before-lives b (same-ids _ (places q) p.registrations (emit (Drop n) p).events s (said (Drop n) p f))
  change-lives {p = p} (prio_told s priority ps c) new k f = said (Prio s priority) p f
  change-lives {p = p} (frame_asked u) new k f =
      registered-lives kind.Frame (record { role = OfKind kind.Frame; callback = Some u; second_callback = None; timer_id = 0; promise = 0; signal = None; finally = false }) p f
  change-lives promised new k f = f
  change-lives {p = p} (settled n how x y) new k f = notices-live (λ s. changed (context p) p.names n (Promises.settle n (the_promise p.notices.promises n) how) s) p f
  change-lives {p = p} (followed n how x y) new k f = notices-live (λ s. changed (context p) p.names n (Promises.settle n (the_promise p.notices.promises n) how) s) p f
  change-lives {p = p} (adopted n from x y) new k f = notices-live (λ s. changed (context p) p.names n (Promises.adopt n (the_promise p.notices.promises n) from) s) p f
  change-lives {p = p} (subscribed n x y z) new k f = notices-live (subscribe_promise (context p) n x) p f
  change-lives {p = p} (then_asked n x y e u z) new k f = notices-live (subscribe_promise (context p) n y) (register_as kind.Then x p) (registered-lives kind.Then x p f)
  change-lives {p = p} (micro_asked x q e z) new k f = notices-live (queue_micro (context p) q) (register_as kind.Micro x p) (registered-lives kind.Micro x p f)
  change-lives rejected_taken new k f = f
  change-lives (noted n) new k f = f

  place-new : {made : List Registration} {x y : Places} (c : PlaceChange made x y) → PlaceIsPlain c → PlaceIsNew c
  place-new places_stay h = tt
  place-new (task_queued t e plain) h = tt
  place-new (task_left number) h = tt
  place-new (armed_again a t role there next) h = h
  place-new (signal_armed ms now q s) h = tt
  place-new (id_cleared other) h = tt
  place-new (idle_armed t most own) h = tt
  place-new (completed start gone) h = tt
  place-new idle_started h = tt
  place-new (idle_queued t e from) h = tt

  quiet-again : {p q : Page} (c : PageChange p q) → IsQuiet c → NoneAgain c
  quiet-again (elsewhere c b k) h = place-new c (calm-holds b.watched (PlaceIsPlain c) h)
  quiet-again c h = tt

  new-again : {p q : Page} (c : PageChange p q) → IsNew c → NoneAgain c
  new-again (elsewhere c b k) h = calm-holds b.watched (PlaceIsNew c) h
  new-again c h = tt

  -- the line of what was armed
  arm-lives : {p q s : Page} (c : PageChange p q) (d : PageChange q s) → Tells c d → LivesAt id handle r q → LivesAt id handle r s
  arm-lives {q = q} (made_one j x e unframed u b at) (arm_told n due level w well) h f = said (Arm n due level) q f
  arm-lives {q = q} (elsewhere c b made) (arm_told n due level w well) h f = said (Arm n due level) q f
  arm-lives c d h f = elim h [ ]

  changes-live : {p q : Page} → Changes p q → Kept_timers p → LivesAt id handle r p → LivesAt id handle r q
  changes-live nothing k f = f
  changes-live (with_change a c plain) k f = change-lives c (quiet-again c plain) (kept-later (moves_of a) k) (changes-live a k f)
  changes-live (with_arm a c d h new) k f = arm-lives c d h (change-lives c (new-again c new) (kept-later (moves_of a) k) (changes-live a k f))

  -- a callback is taken where it waited, and called
  begins-live : (b : Beginning) (p : Page) → LivesAt id handle r p → LivesAt id handle r (call_begun (called_by b) (taken b p))
  begins-live (TheScript source task) p f = said (Call 1) p f
  begins-live (ATimer source task t) p f = said (Call t.registration) p f
  begins-live (AFrame key c) p f = said (Call c.registration) p f
  begins-live (AnIdle c others) p f = line-lives (Call c.registration) p.now p.registrations p.timers.ids (emit (IdleLine (deadline p.last_idle_start p)) p).events (said (IdleLine (deadline p.last_idle_start p)) p f)
  begins-live (ALateIdle number c) p f = said (Call c.registration) p f
  begins-live (AListener q) p f = said (Call q) p f
  begins-live (APost t) p f = line-lives (Call t.registration) p.now p.registrations p.timers.ids (emit (Turn p.turns (Some Sched)) p).events (said (Turn p.turns (Some Sched)) p f)
  begins-live (AContinuation t) p f = line-lives (Call t.registration) p.now p.registrations p.timers.ids (emit (Turn p.turns (Some Sched)) p).events (said (Turn p.turns (Some Sched)) p f)
  begins-live (AMicro job others q) p f = line-lives (Call q) p.now p.registrations p.timers.ids (emit (Run job.number) p).events (said (Run job.number) p f)
  begins-live (AReaction job others of x q) p f = line-lives (Call q) p.now p.registrations p.timers.ids (emit (Run job.number) p).events (said (Run job.number) p f)

-- ---- what is kept from one page to another

-- each interval that was not dropped goes on waiting, but for those in hand
abbrev pub TimersWait : Page → Page → Type 0
TimersWait p q = Kept_timers p → (hand : ℕ → Bool) → AllBut hand p → AllBut hand q

-- delayed posts that were not called or dropped can be aborted as before
abbrev pub PostsStay : Page → Page → Type 0
PostsStay p q = (pend : ℕ → Bool) → PostsWatched pend p → PostsWatched pend q

-- and each id stays live, or its interval is dropped; and what was posted with a delay can be aborted
pub record TimersKept (p q : Page) : Type 0 where
  pub waits : TimersWait p q
  pub live : Kept_timers p → (id handle r : ℕ) → LivesAt id handle r p → LivesAt id handle r q
  pub posts : PostsStay p q

pub timers-then : {a b c : Page} → Moves a b → TimersKept a b → TimersKept b c → TimersKept a c
timers-then row x y =
    record {
      waits = λ k hand w. y.waits (kept-later row k) hand (x.waits k hand w);
      live = λ k id handle r l. y.live (kept-later row k) id handle r (x.live k id handle r l);
      posts = λ pend w. y.posts pend (x.posts pend w);
    }

-- the same registrations, lines and places
pub waits-same : (p q : Page) → q.registrations ≡ p.registrations → q.events ≡ p.events → places q ≡ places p → TimersWait p q
waits-same p q e f g k hand w r one role =
    subst (λ (x : Places). was_dropped q.events r ≡ true ⊎ InHand hand r x q.notices) (sym g)
    (subst (λ (past : History). was_dropped past r ≡ true ⊎ InHand hand r (places p) q.notices) (sym f) (w r one (subst (λ (xs : List Registration). role_at xs r ≡ OfKind kind.Interval) e role)))

-- each id stays live, or its interval is dropped
abbrev pub LivesStay : Page → Page → Type 0
LivesStay p q = Kept_timers p → (id handle r : ℕ) → LivesAt id handle r p → LivesAt id handle r q

pub lives-same : (p q : Page) → q.registrations ≡ p.registrations → q.events ≡ p.events → places q ≡ places p → LivesStay p q
lives-same p q e f g k id handle r l =
    subst (λ (x : Places). Lives id handle r q.registrations x.timers.ids q.events) (sym g)
    (subst (λ (past : History). Lives id handle r q.registrations p.timers.ids past) (sym f) (subst (λ (xs : List Registration). Lives id handle r xs p.timers.ids p.events) (sym e) l))

pub timers-same : (p q : Page) → q.registrations ≡ p.registrations → q.events ≡ p.events → places q ≡ places p → q.signals ≡ p.signals → TimersKept p q
timers-same p q e f g h = record { waits = waits-same p q e f g; live = lives-same p q e f g; posts = λ pend w. same-posts pend p q e f h g w }

pub timers-line : (e : Event) (p : Page) → TimersKept p (emit e p)
timers-line e p = record { waits = λ k hand w r one role. by_dropped hand r (w r one role); live = λ k id handle r l. said id handle r e p l; posts = λ pend w. line-kept pend e p w }
  where
    by_dropped : (hand : ℕ → Bool) (r : ℕ) → was_dropped p.events r ≡ true ⊎ InHand hand r (places p) p.notices → was_dropped (emit e p).events r ≡ true ⊎ InHand hand r (places p) p.notices
    by_dropped hand r (inl d) = inl (dropped_later (record { time = p.now; event = e }) p.events r d)
    by_dropped hand r (inr w) = inr w

pub changes-timers : {p q : Page} → Changes p q → TimersKept p q
changes-timers a = record { waits = λ k hand w. changes-wait hand a k w; live = λ k id handle r l. changes-live id handle r a k l; posts = λ pend w. changes-posts pend a w }

pub ended-timers : (e : Event) (p : Page) → TimersKept p (call_ended e p)
ended-timers e p = record { waits = (timers-line e p).waits; live = (timers-line e p).live; posts = (timers-line e p).posts }

pub job-timers : (job : WaitingJob) (others : List WaitingJob) (p : Page) → TimersKept p (job_begun job others p)
job-timers job others p = record { waits = (timers-line (Run job.number) p).waits; live = (timers-line (Run job.number) p).live; posts = (timers-line (Run job.number) p).posts }

-- ---- calls

-- a callback that is no timer's
abbrev pub IsNoTimer : Beginning → Type 0
IsNoTimer (ATimer source task t) = ⊥
IsNoTimer b = Unit {0}

-- lines, where other tasks leave and no timer's
line-waits : (hand : ℕ → Bool) (e : Event) (now : ℕ) (xs : List Registration) (cs : List Completing) (ts us : List Task) (past : History) → ((r : ℕ) → TimerWaits r cs ts → TimerWaits r cs us)
    → ((r : ℕ) → 1 ≤ r → role_at xs r ≡ OfKind kind.Interval → was_dropped past r ≡ true ⊎ ((hand r ≡ true) ⊎ TimerWaits r cs ts))
    → (r : ℕ) → 1 ≤ r → role_at xs r ≡ OfKind kind.Interval → was_dropped (record { time = now; event = e } ∷ past) r ≡ true ⊎ ((hand r ≡ true) ⊎ TimerWaits r cs us)
line-waits hand e now xs cs ts us past h w r one role = by_place (w r one role)
  where
    by_place : was_dropped past r ≡ true ⊎ ((hand r ≡ true) ⊎ TimerWaits r cs ts) → was_dropped (record { time = now; event = e } ∷ past) r ≡ true ⊎ ((hand r ≡ true) ⊎ TimerWaits r cs us)
    by_place (inl d) = inl (dropped_later (record { time = now; event = e }) past r d)
    by_place (inr k) = inr (lifted (h r) k)

begins-wait : (b : Beginning) (p : Page) → IsNoTimer b → Waited b p → TimersWait p (call_begun (called_by b) (taken b p))
begins-wait (TheScript source task) p n w k hand h =
    line-waits hand (Call 1) p.now p.registrations p.completions p.tasks (without (λ t. t.number == task.number) p.tasks) p.events (λ r. fewer_tasks r task.number p.completions p.tasks (taken-other p k.1 source task RunScript w.0 w.1 no_script r)) h
begins-wait (ATimer source task t) p n w k hand h = elim n [ ]
begins-wait (AFrame key c) p n w k hand h = line-waits hand (Call c.registration) p.now p.registrations p.completions p.tasks p.tasks p.events (λ r v. v) h
begins-wait (AnIdle c others) p n w k hand h =
    line-waits hand (Call c.registration) p.now p.registrations p.completions p.tasks p.tasks (emit (IdleLine (deadline p.last_idle_start p)) p).events (λ r v. v) (line-waits hand (IdleLine (deadline p.last_idle_start p)) p.now p.registrations p.completions p.tasks p.tasks p.events (λ r v. v) h)
begins-wait (ALateIdle number c) p n w k hand h = line-waits hand (Call c.registration) p.now p.registrations p.completions p.tasks p.tasks p.events (λ r v. v) h
begins-wait (AListener q) p n w k hand h = line-waits hand (Call q) p.now p.registrations p.completions p.tasks p.tasks p.events (λ r v. v) h
begins-wait (APost t) p n w k hand h =
    line-waits hand (Call t.registration) p.now p.registrations p.completions p.tasks p.tasks (emit (Turn p.turns (Some Sched)) p).events (λ r v. v) (line-waits hand (Turn p.turns (Some Sched)) p.now p.registrations p.completions p.tasks p.tasks p.events (λ r v. v) h)
begins-wait (AContinuation t) p n w k hand h =
    line-waits hand (Call t.registration) p.now p.registrations p.completions p.tasks p.tasks (emit (Turn p.turns (Some Sched)) p).events (λ r v. v) (line-waits hand (Turn p.turns (Some Sched)) p.now p.registrations p.completions p.tasks p.tasks p.events (λ r v. v) h)
begins-wait (AMicro job others q) p n w k hand h =
    line-waits hand (Call q) p.now p.registrations p.completions p.tasks p.tasks (emit (Run job.number) p).events (λ r v. v) (line-waits hand (Run job.number) p.now p.registrations p.completions p.tasks p.tasks p.events (λ r v. v) h)
begins-wait (AReaction job others of x q) p n w k hand h =
    line-waits hand (Call q) p.now p.registrations p.completions p.tasks p.tasks (emit (Run job.number) p).events (λ r v. v) (line-waits hand (Run job.number) p.now p.registrations p.completions p.tasks p.tasks p.events (λ r v. v) h)

pub begins-timers : (b : Beginning) (p : Page) → IsNoTimer b → Waited b p → TimersKept p (call_begun (called_by b) (taken b p))
begins-timers b p n w = record { waits = begins-wait b p n w; live = λ k id handle r l. begins-live id handle r b p l; posts = λ pend f. begins-posts pend b p f }

-- ---- a timer's task

-- the timer is in hand
pub timer-taken : (source : Source) (task : Task) (t : TimerTask) (p : Page) → Waited (ATimer source task t) p → Kept_timers p → (hand : ℕ → Bool) → AllBut hand p → AllBut (with_hand t.registration hand) (call_begun t.registration (taken (ATimer source task t) p))
timer-taken source task t p w k hand h r one role = by_place (h r one role)
  where
    by_called : (t.registration ≡ r) ⊎ TimerWaits r p.completions (without (λ u. u.number == task.number) p.tasks) → InHand (with_hand t.registration hand) r (places (taken (ATimer source task t) p)) p.notices
    by_called (inl e) = inl (on_left (r == t.registration) (hand r) (eq-eqb r t.registration (sym e)))
    by_called (inr v) = inr v

    by_hand : (hand r ≡ true) ⊎ TimerWaits r p.completions p.tasks → InHand (with_hand t.registration hand) r (places (taken (ATimer source task t) p)) p.notices
    by_hand (inl e) = inl (on_right (r == t.registration) (hand r) e)
    by_hand (inr v) = by_called (called (ATimer source task t) p k w r v)

    by_place : was_dropped p.events r ≡ true ⊎ ((hand r ≡ true) ⊎ TimerWaits r p.completions p.tasks) → was_dropped (emit (Call t.registration) p).events r ≡ true ⊎ InHand (with_hand t.registration hand) r (places (taken (ATimer source task t) p)) p.notices
    by_place (inl d) = inl (dropped_later (record { time = p.now; event = Call t.registration }) p.events r d)
    by_place (inr v) = inr (by_hand v)

-- an interval's id is live then
pub taken-lives : (source : Source) (task : Task) (t : TimerTask) (p : Page) → Waited (ATimer source task t) p → role_at p.registrations t.registration ≡ OfKind kind.Interval → LivesAt t.id t.handle t.registration (call_begun t.registration (taken (ATimer source task t) p))
taken-lives source task t p w role = record { role = role; own = w.3; live = inr w.2 }

-- what is out of the hand again was dropped, or waits, or is no interval
pub hand-left : (n : ℕ) (hand : ℕ → Bool) (p : Page) → (role_at p.registrations n ≡ OfKind kind.Interval → was_dropped p.events n ≡ true ⊎ TimerWaits n p.completions p.tasks) → AllBut (with_hand n hand) p → AllBut hand p
hand-left n hand p own h r one role = by_place (h r one role)
  where
    by_own : (r ≡ n) → was_dropped p.events n ≡ true ⊎ TimerWaits n p.completions p.tasks → was_dropped p.events r ≡ true ⊎ InHand hand r (places p) p.notices
    by_own e (inl d) = inl (subst (λ (m : ℕ). was_dropped p.events m ≡ true) (sym e) d)
    by_own e (inr w) = inr (inr (subst (λ (m : ℕ). TimerWaits m p.completions p.tasks) (sym e) w))

    by_number : (b : Bool) → (r == n) ≡ b → b || hand r ≡ true → was_dropped p.events r ≡ true ⊎ InHand hand r (places p) p.notices
    by_number true q e = let same = eqb-true r n q in by_own same (own (ap {A = ℕ} {B = Role} (role_at p.registrations) (sym same) ∙ role))
    by_number false q e = inr (inl e)

    by_hand : InHand (with_hand n hand) r (places p) p.notices → was_dropped p.events r ≡ true ⊎ InHand hand r (places p) p.notices
    by_hand (inl e) = by_number (r == n) refl e
    by_hand (inr w) = inr (inr w)

    by_place : was_dropped p.events r ≡ true ⊎ InHand (with_hand n hand) r (places p) p.notices → was_dropped p.events r ≡ true ⊎ InHand hand r (places p) p.notices
    by_place (inl d) = inl d
    by_place (inr w) = by_hand w

-- the interval is armed again
pub again-waits : (id r : ℕ) (timeout : ℤ) (p : Page) (hand : ℕ → Bool) → AllBut (with_hand r hand) p → AllBut hand (init_timer (Some id) r true timeout p)
again-waits id r timeout p hand h = hand-left r hand after (λ role. inr new) grown
  where
    after : Page
    after = init_timer (Some id) r true timeout p

    t : TimerTask
    t =
        let a = armed (Some id) timeout p.level p.now p.timers in
        record { registration = r; id = a.id; handle = a.handle; level = a.level; repeats = true; timeout = timeout }

    steps : Completing
    steps = record { start = suc p.timers.starts_made; completion = QueueTimer t }

    new : TimerWaits r (and_last p.completions steps) p.tasks
    new = record { timer = t; own = refl; place = in_steps steps (is-last steps p.completions) refl }

    grown : AllBut (with_hand r hand) after
    grown n one role = by_place (h n one role)
      where
        by_place : was_dropped p.events n ≡ true ⊎ InHand (with_hand r hand) n (places p) p.notices → was_dropped after.events n ≡ true ⊎ InHand (with_hand r hand) n (places after) after.notices
        by_place (inl d) = inl (dropped_later (record { time = p.now; event = Arm r (armed (Some id) timeout p.level p.now p.timers).due (armed (Some id) timeout p.level p.now p.timers).level }) p.events n d)
        by_place (inr w) = inr (lifted (more_steps n p.completions p.tasks steps) w)

-- the id of a timeout leaves the map
pub cleared-waits : (id r : ℕ) (p : Page) (hand : ℕ → Bool) → role_at p.registrations r ≡ OfKind kind.Timeout → AllBut (with_hand r hand) p → AllBut hand (clear_id id p)
cleared-waits id r p hand role h = hand-left r hand (clear_id id p) (λ other. absurd (no_timeout (sym role ∙ other))) h

-- the interval was dropped
pub gone-waits : (t : TimerTask) (p : Page) (hand : ℕ → Bool) → (role_at p.registrations t.registration ≡ OfKind kind.Interval → LivesAt t.id t.handle t.registration p) → Timers.is_live t.id t.handle p.timers ≡ false → AllBut (with_hand t.registration hand) p → AllBut hand p
gone-waits t p hand lives gone h = hand-left t.registration hand p (λ role. by_live (lives role)) h
  where
    by_live : LivesAt t.id t.handle t.registration p → was_dropped p.events t.registration ≡ true ⊎ TimerWaits t.registration p.completions p.tasks
    by_live l = of_live l.live
      where
        of_live : (was_dropped p.events t.registration ≡ true) ⊎ (Timers.is_live t.id t.handle p.timers ≡ true) → was_dropped p.events t.registration ≡ true ⊎ TimerWaits t.registration p.completions p.tasks
        of_live (inl d) = inl d
        of_live (inr l) = absurd (false_true (sym gone ∙ l))

pub first-waiting : (program : Program) (setup : Setup) (hosts : List HostClosure) → AllBut no_hand (first_page program setup hosts)
first-waiting program setup hosts r one role = absurd (none r one role)
  where
    no_kind : ScriptRole ≡ OfKind kind.Interval → ⊥
    no_kind e = Prim.cc

    none : (r : ℕ) → 1 ≤ r → role_at (first_page program setup hosts).registrations r ≡ OfKind kind.Interval → ⊥
    none zero one e = absurd (omega (arith, one))
    none (suc zero) one e = no_kind e
    none (suc (suc i)) one e = no_kind e

-- where none is in hand, all wait
pub all-wait : (p : Page) → AllBut no_hand p → IntervalsWait p
all-wait p h r one role = by_place (h r one role)
  where
    by_place : was_dropped p.events r ≡ true ⊎ InHand no_hand r (places p) p.notices → was_dropped p.events r ≡ true ⊎ TimerWaits r p.completions p.tasks
    by_place (inl d) = inl d
    by_place (inr (inl e)) = absurd (false_true e)
    by_place (inr (inr w)) = inr w
