-- What each change and each call does to delayed posts: each that was not called or dropped can be aborted by its signal, and no such signal is aborted but those whose abort is under way.
use Rattle.std.proofs.Common.{◌≡◌, ◌⊎◌, inl, inr, ℕ, suc, ◌≤◌, Bool, true, false, List, [], ◌∷◌, Option, Some, None, refl, sym, subst, ap, ◌∙◌, length, arith}
use Rattle.std.specs.Prelude.{◌==◌}
use Rattle.page_types.specs.Values.{Value}
use Rattle.page_types.specs.declared.RegKind.{RegKind}
use Rattle.page_types.specs.declared.RegKind.TheVariants as kind
use Rattle.page_types.specs.Events.{Event, Arm, Prio, Drop, Due, Enq, Host}
use Rattle.page_types.specs.Tree.{Program}
use Rattle.page_parts.specs.AbortGraph.{Signals}
use Rattle.page_parts.specs.AbortGraph as AbortGraph
use Rattle.page_parts.specs.HostClosures.{HostClosure}
use Rattle.page_parts.specs.Notices.{Notices, Noticed, changed, subscribe_promise, queue_micro}
use Rattle.page_parts.specs.Promises.{the_promise}
use Rattle.page_parts.specs.Promises as Promises
use Rattle.page_parts.specs.Setup.{Setup}
use Rattle.page_parts.specs.TaskSignals.{Prios}
use Rattle.page_parts.specs.Words.{and_last}
use Rattle.page_model.specs.Invoke.{register_as, call_begun}
use Rattle.page_model.specs.State.{Page, OfKind, Registration, Completion, Completing, QueueTimer, EnqueuePost, QueueSignal, TimerTask, PrioSource, emit, emit_each, on_notices, context}
use Rattle.page_model.specs.Turns.{first_page}
use Rattle.page_model.proofs.GivenNumbers.Growing.{length-last}
use Rattle.page_laws.specs.History.{History}
use Rattle.page_laws.specs.TimerLaws.{was_done}
use Rattle.page_laws.specs.Moves.{AsBefore, Beginning, TheScript, ATimer, AFrame, AnIdle, ALateIdle, AListener, APost, AContinuation, AMicro, AReaction, Changes, nothing, with_change, with_arm, DelayWaits, Dropping, timer_dropped, idle_dropped, listener_dropped, DueChange, timer_due, delay_due, signal_due, idle_due, answer_due, FirstOwns, FirstPlace, nowhere, at_listener, at_timer, at_delay, at_idle, at_host, IsAbortable, IsCalm, IsIn, IsNew, IsQuiet, IsReleased, PageChange, PlaceChange, places_stay, task_queued, task_left, armed_again, signal_armed, id_cleared, idle_armed, completed, idle_started, idle_queued, Places, SignalsChange, calmly, marking, Tells, WhenCalm, algorithms_at, called_by, completions_but, places, signal_at, taken, elsewhere, told, arm_told, rested, registered as made_one, promised, settled, followed, adopted, subscribed, micro_asked, then_asked, answered, dropped, frame_dropped, frame_asked, rejected_taken, noted, task_dropped, enqueued_anew, fell_due, post_fell_due, prio_told}
use Rattle.page_laws.proofs.Lines.{added, emit_each-events}
use Rattle.page_laws.proofs.Over.{done-later}
use Rattle.page_laws.proofs.Ready.{emit_each-places, in-fewer, in-last}
use Rattle.page_laws.proofs.Registered.{at_number}
use Rattle.page_laws.proofs.Watches.{among, reason-aborts, reason-kept}

-- ---- what can be aborted

-- by its signal, if it has one, whose abort is under way where it is aborted
abbrev pub WatchedBy : (ℕ → Bool) → Signals Value → ℕ → Option ℕ → Type 0
WatchedBy pend ss r None = Unit {0}
WatchedBy pend ss r (Some s) = IsIn r (algorithms_at ss s) × (AbortGraph.is_aborted ss s ≡ true → pend s ≡ true)

pub record IsWatched (pend : ℕ → Bool) (r : ℕ) (xs : List Registration) (ss : Signals Value) (past : History) : Type 0 where
  pub one : 1 ≤ r
  pub given : r ≤ length xs
  pub watched : was_done past r ≡ true ⊎ WatchedBy pend ss r (signal_at xs r)

abbrev ByPlaces : (ℕ → Bool) → List Registration → Signals Value → List Completing → History → Type 0
ByPlaces pend xs ss cs past = (r : ℕ) → DelayWaits r cs → IsWatched pend r xs ss past

abbrev pub PostsWatched : (ℕ → Bool) → Page → Type 0
PostsWatched pend p = ByPlaces pend p.registrations p.signals p.completions p.events

module _ (pend : ℕ → Bool) where
  line-watched : (e : Event) (now r : ℕ) (xs : List Registration) (ss : Signals Value) (past : History) → IsWatched pend r xs ss past → IsWatched pend r xs ss (record { time = now; event = e } ∷ past)
  line-watched e now r xs ss past w = record { one = w.one; given = w.given; watched = by_done w.watched }
    where
      by_done : was_done past r ≡ true ⊎ WatchedBy pend ss r (signal_at xs r) → was_done (record { time = now; event = e } ∷ past) r ≡ true ⊎ WatchedBy pend ss r (signal_at xs r)
      by_done (inl d) = inl (done-later (record { time = now; event = e }) past r d)
      by_done (inr k) = inr k

  line-posts : (e : Event) (now : ℕ) (xs : List Registration) (ss : Signals Value) (cs : List Completing) (past : History) → ByPlaces pend xs ss cs past → ByPlaces pend xs ss cs (record { time = now; event = e } ∷ past)
  line-posts e now xs ss cs past f r d = line-watched e now r xs ss past (f r d)

  said : (e : Event) (p : Page) → PostsWatched pend p → PostsWatched pend (emit e p)
  said e p f = line-posts e p.now p.registrations p.signals p.completions p.events f

  added-posts : (now : ℕ) (es : List Event) (xs : List Registration) (ss : Signals Value) (cs : List Completing) (past : History) → ByPlaces pend xs ss cs past → ByPlaces pend xs ss cs (added now es past)
  added-posts now [] xs ss cs past f = f
  added-posts now (e ∷ es) xs ss cs past f = added-posts now es xs ss cs (record { time = now; event = e } ∷ past) (line-posts e now xs ss cs past f)

  -- a registration more
  grown-posts : (x : Registration) (xs : List Registration) (ss : Signals Value) (cs : List Completing) (past : History) → ByPlaces pend xs ss cs past → ByPlaces pend (and_last xs x) ss cs past
  grown-posts x xs ss cs past f r d =
      let w = f r d in
      let le = w.given in
      let l = length-last xs x in
      let same : signal_at (and_last xs x) r ≡ signal_at xs r = ap {A = Registration} {B = Option ℕ} (λ y. y.signal) (at_number xs x r w.one (λ e. absurd (omega (arith, le, e)))) in
      record { one = w.one; given = omega (arith, le, l); watched = subst (λ (o : Option ℕ). was_done past r ≡ true ⊎ WatchedBy pend ss r o) (sym same) w.watched }

  -- other signals, where no reason is set
  signals-posts : (p : Page) (ss : Signals Value) (k : SignalsChange p ss) → WhenCalm k (Unit {0}) → PostsWatched pend p → ByPlaces pend p.registrations ss p.completions p.events
  signals-posts p ss marking calm f r d = elim calm [ ]
  signals-posts p ss (calmly h) calm f r d = record { one = (f r d).one; given = (f r d).given; watched = by_done (f r d).watched }
    where
      by_source : (o : Option ℕ) → WatchedBy pend p.signals r o → was_done p.events r ≡ true ⊎ WatchedBy pend ss r o
      by_source None k = inr tt
      by_source (Some s) k = by_kept (h s r k.0)
        where
          by_kept : IsReleased r p ⊎ (IsIn r (algorithms_at ss s) × (AbortGraph.is_aborted ss s ≡ true → AbortGraph.is_aborted p.signals s ≡ true)) → was_done p.events r ≡ true ⊎ (IsIn r (algorithms_at ss s) × (AbortGraph.is_aborted ss s ≡ true → pend s ≡ true))
          by_kept (inl free) = inl (free d)
          by_kept (inr kept) = inr (kept.0, λ a. k.1 (kept.1 a))

      by_done : was_done p.events r ≡ true ⊎ WatchedBy pend p.signals r (signal_at p.registrations r) → was_done p.events r ≡ true ⊎ WatchedBy pend ss r (signal_at p.registrations r)
      by_done (inl z) = inl z
      by_done (inr k) = by_source (signal_at p.registrations r) k

  -- ---- changes

  -- a page as another one but for the rest, where no more wait but those that can be aborted
  before-posts : {s q : Page} (b : AsBefore s q) → WhenCalm b.watched (Unit {0}) → ((r : ℕ) → DelayWaits r q.completions → DelayWaits r s.completions ⊎ IsWatched pend r s.registrations q.signals s.events) → PostsWatched pend s → PostsWatched pend q
  before-posts {s = s} {q = q} b calm within f =
      subst (λ (xs : List Registration). ByPlaces pend xs q.signals q.completions q.events) (sym b.registrations)
      (subst (ByPlaces pend s.registrations q.signals q.completions) (sym b.events) all)
    where
      by_place : (r : ℕ) → DelayWaits r s.completions ⊎ IsWatched pend r s.registrations q.signals s.events → IsWatched pend r s.registrations q.signals s.events
      by_place r (inl d) = signals-posts s q.signals b.watched calm f r d
      by_place r (inr w) = w

      all : ByPlaces pend s.registrations q.signals q.completions s.events
      all r d = by_place r (within r d)

  same-steps : (r : ℕ) (x y : Places) → y ≡ x → DelayWaits r y.completions → DelayWaits r x.completions
  same-steps r x y e d = subst (λ (z : Places). DelayWaits r z.completions) e d

  fewer-steps : (r start : ℕ) (cs : List Completing) → DelayWaits r (completions_but start cs) → DelayWaits r cs
  fewer-steps r start cs d = record { steps = d.steps; there = in-fewer d.steps (λ c. c.start == start) cs d.there; source = d.source; own = d.own }

  -- steps more, which are no post's
  other-steps : (r : ℕ) (cs : List Completing) (n : Completing) → ((source : PrioSource) → n.completion ≡ EnqueuePost r source → ⊥) → DelayWaits r (and_last cs n) → DelayWaits r cs
  other-steps r cs n other d = by_place (in-last d.steps n cs d.there)
    where
      by_place : IsIn d.steps cs ⊎ (d.steps ≡ n) → DelayWaits r cs
      by_place (inl i) = record { steps = d.steps; there = i; source = d.source; own = d.own }
      by_place (inr e) = absurd (other d.source (sym (ap {A = Completing} {B = Completion} (λ c. c.completion) e) ∙ d.own))

  no_timer : (t : TimerTask) (r : ℕ) (source : PrioSource) → QueueTimer t ≡ EnqueuePost r source → ⊥
  no_timer t r source e = Prim.cc

  no_signal : (q s r : ℕ) (source : PrioSource) → QueueSignal q s ≡ EnqueuePost r source → ⊥
  no_signal q s r source e = Prim.cc

  place-steps : {made : List Registration} {x y : Places} (c : PlaceChange made x y) (r : ℕ) → DelayWaits r y.completions → DelayWaits r x.completions
  place-steps places_stay r d = d
  place-steps (task_queued t h plain) r d = d
  place-steps (task_left number) r d = d
  place-steps {x = x} (armed_again a t role there next) r d = other-steps r x.completions (record { start = a.start; completion = QueueTimer t }) (no_timer t r) d
  place-steps {x = x} (signal_armed ms now q s) r d = other-steps r x.completions (record { start = suc x.timers.starts_made; completion = QueueSignal q s }) (no_signal q s r) d
  place-steps (id_cleared id) r d = d
  place-steps (idle_armed t most own) r d = d
  place-steps {x = x} (completed start gone) r d = fewer-steps r start x.completions d
  place-steps idle_started r d = d
  place-steps (idle_queued t e from) r d = d

  due-steps : {made : List Registration} {q : ℕ} {x y : Places} (c : DueChange made q x y) (r : ℕ) → DelayWaits r y.completions → DelayWaits r x.completions
  due-steps {x = x} (timer_due start number source t e i role) r d = fewer-steps r start x.completions d
  due-steps {x = x} (delay_due start source e role) r d = fewer-steps r start x.completions d
  due-steps {x = x} (signal_due start s e role) r d = fewer-steps r start x.completions d
  due-steps (idle_due t number source i e role) r d = d
  due-steps (answer_due before a after number source e i role) r d = d

  drop-steps : {made : List Registration} {q : ℕ} {x y : Places} (c : Dropping made q x y) (r : ℕ) → DelayWaits r y.completions → DelayWaits r x.completions
  drop-steps (timer_dropped id there e own) r d = d
  drop-steps (idle_dropped handle c e e1 role) r d = d
  drop-steps (listener_dropped there role) r d = d

  -- a new registration
  first-steps : {made : List Registration} {ps : Prios} {x y : Places} (u : FirstPlace made ps (suc (length made)) x y) (new : Registration) (ss : Signals Value) → FirstOwns u new ss → (past : History) (r : ℕ) → DelayWaits r y.completions → DelayWaits r x.completions ⊎ IsWatched pend r (and_last made new) ss past
  first-steps nowhere new ss own past r d = inl d
  first-steps (at_listener target name q e) new ss own past r d = inl d
  first-steps {x = x} (at_timer a t e first) new ss own past r d = inl (other-steps r x.completions (record { start = a.start; completion = QueueTimer t }) (no_timer t r) d)
  first-steps {made = made} {x = x} (at_delay ms now q source e h) new ss own past r d = by_place (in-last d.steps (record { start = suc x.timers.starts_made; completion = EnqueuePost q source }) x.completions d.there)
    where
      posts : Completion → ℕ
      posts (EnqueuePost n source) = n
      posts k = r

      no_abort : (s : ℕ) → AbortGraph.is_aborted ss s ≡ false → AbortGraph.is_aborted ss s ≡ true → pend s ≡ true
      no_abort s a z = absurd (false_true (sym a ∙ z))
        where
          false_true : false ≡ true → ⊥
          false_true e = Prim.cc

      last-signal : (xs : List Registration) → signal_at (and_last xs new) (suc (length xs)) ≡ new.signal
      last-signal [] = refl
      last-signal (y ∷ ys) = last-signal ys

      by_source : (o : Option ℕ) → IsAbortable (suc (length made)) ss o → WatchedBy pend ss (suc (length made)) o
      by_source None k = tt
      by_source (Some s) k = (k.0, no_abort s k.1)

      watched : IsWatched pend (suc (length made)) (and_last made new) ss past
      watched =
          let l = length-last made new in
          record { one = omega arith; given = omega (arith, l); watched = inr (subst (WatchedBy pend ss (suc (length made))) (sym (last-signal made)) (by_source new.signal own)) }

      by_place : IsIn d.steps x.completions ⊎ (d.steps ≡ record { start = suc x.timers.starts_made; completion = EnqueuePost q source }) → DelayWaits r x.completions ⊎ IsWatched pend r (and_last made new) ss past
      by_place (inl i) = inl (record { steps = d.steps; there = i; source = d.source; own = d.own })
      by_place (inr z) =
          let same : r ≡ suc (length made) = sym (ap posts (sym (ap {A = Completing} {B = Completion} (λ c. c.completion) z) ∙ d.own)) ∙ e in
          inr (subst (λ (n : ℕ). IsWatched pend n (and_last made new) ss past) (sym same) watched)
  first-steps (at_idle q e) new ss own past r d = inl d
  first-steps (at_host c a e there live) new ss own past r d = inl d

  emit_each-registrations : (es : List Event) (p : Page) → (emit_each es p).registrations ≡ p.registrations
  emit_each-registrations [] p = refl
  emit_each-registrations (e ∷ es) p = emit_each-registrations es (emit e p)

  emit_each-signals : (es : List Event) (p : Page) → (emit_each es p).signals ≡ p.signals
  emit_each-signals [] p = refl
  emit_each-signals (e ∷ es) p = emit_each-signals es (emit e p)

  notices-posts : (f : Notices → Noticed) (p : Page) → PostsWatched pend p → PostsWatched pend (on_notices f p)
  notices-posts f p h =
      let q : Page = record p { notices = (f p.notices).notices } in
      let lines = (f p.notices).lines in
      subst (λ (x : Places). ByPlaces pend (emit_each lines q).registrations (emit_each lines q).signals x.completions (emit_each lines q).events) (sym (emit_each-places lines q))
      (subst (λ (ss : Signals Value). ByPlaces pend (emit_each lines q).registrations ss p.completions (emit_each lines q).events) (sym (emit_each-signals lines q))
      (subst (λ (xs : List Registration). ByPlaces pend xs p.signals p.completions (emit_each lines q).events) (sym (emit_each-registrations lines q))
      (subst (ByPlaces pend p.registrations p.signals p.completions) (sym (emit_each-events lines q)) (added-posts p.now lines p.registrations p.signals p.completions p.events h))))

  registered-posts : (k : RegKind) (x : Registration) (p : Page) → PostsWatched pend p → PostsWatched pend (register_as k x p)
  registered-posts k x p f = line-posts _ p.now (and_last p.registrations x) p.signals p.completions p.events (grown-posts x p.registrations p.signals p.completions p.events f)

  pub change-posts : {p q : Page} (c : PageChange p q) → IsCalm c → PostsWatched pend p → PostsWatched pend q
  change-posts (elsewhere c b k) calm f = before-posts b calm (λ r d. inl (place-steps c r d)) f
  change-posts {p = p} (told e h) calm f = said e p f
  change-posts {p = p} (arm_told n due level w well) calm f = said (Arm n due level) p f
  change-posts {p = p} (rested e h x y z over begun done) calm f = said e p f
  change-posts {p = p} {q = q} (answered source task u answer x y live z b) calm f = before-posts b calm (λ r d. inl (same-steps r _ (places q) z d)) (said (Host u.closure u.number answer) p f)
  change-posts {p = p} {q = q} (made_one j x e unframed u b at) calm f = before-posts b calm (λ r d. first-steps u x q.signals at.1 (register_as j x p).events r d) (registered-posts j x p f)
  change-posts {p = p} {q = q} (enqueued_anew j x u queue e i s n b) calm f =
      before-posts b calm (λ r d. inl (same-steps r _ (places q) s d)) (said (Enq u.registration queue u.continuation u.order) (register_as j x p) (registered-posts j x p f))
  change-posts {p = p} (fell_due n d b by) calm f = before-posts b calm (λ r w. inl (due-steps d r w)) (said (Due n) p f)
  change-posts {p = p} {q = q} (post_fell_due start source u queue e role a s n b by) calm f =
      before-posts b calm (λ r d. inl (fewer-steps r start p.completions (same-steps r _ (places q) s d))) (said (Enq u.registration queue u.continuation u.order) (emit (Due u.registration) p) (said (Due u.registration) p f))
  change-posts {p = p} (dropped n d b) calm f = before-posts b calm (λ r w. inl (drop-steps d r w)) (said (Drop n) p f)
  change-posts {p = p} (frame_dropped number c e role) calm f = said (Drop c.registration) p f
  change-posts {p = p} {q = q} (task_dropped n role a e s b) calm f = before-posts b calm (λ r d. inl (same-steps r _ (places q) s d)) (said (Drop n) p f)
  change-posts {p = p} (prio_told s priority ps c) calm f = said (Prio s priority) p f
  change-posts {p = p} (frame_asked u) calm f =
      registered-posts kind.Frame (record { role = OfKind kind.Frame; callback = Some u; second_callback = None; timer_id = 0; promise = 0; signal = None; finally = false }) p f
  change-posts promised calm f = f
  change-posts {p = p} (settled n how x y) calm f = notices-posts (λ s. changed (context p) p.names n (Promises.settle n (the_promise p.notices.promises n) how) s) p f
  change-posts {p = p} (followed n how x y) calm f = notices-posts (λ s. changed (context p) p.names n (Promises.settle n (the_promise p.notices.promises n) how) s) p f
  change-posts {p = p} (adopted n from x y) calm f = notices-posts (λ s. changed (context p) p.names n (Promises.adopt n (the_promise p.notices.promises n) from) s) p f
  change-posts {p = p} (subscribed n x y z) calm f = notices-posts (subscribe_promise (context p) n x) p f
  change-posts {p = p} (then_asked n x y e u z) calm f = notices-posts (subscribe_promise (context p) n y) (register_as kind.Then x p) (registered-posts kind.Then x p f)
  change-posts {p = p} (micro_asked x q e z) calm f = notices-posts (queue_micro (context p) q) (register_as kind.Micro x p) (registered-posts kind.Micro x p f)
  change-posts rejected_taken calm f = f
  change-posts (noted n) calm f = f

  -- the line of what was armed
  arm-posts : {p q s : Page} (c : PageChange p q) (d : PageChange q s) → Tells c d → PostsWatched pend q → PostsWatched pend s
  arm-posts {q = q} (made_one j x e unframed u b at) (arm_told n due level w well) h f = said (Arm n due level) q f
  arm-posts {q = q} (elsewhere c b made) (arm_told n due level w well) h f = said (Arm n due level) q f
  arm-posts c d h f = elim h [ ]

  -- ---- calls

  pub begins-posts : (b : Beginning) (p : Page) → PostsWatched pend p → PostsWatched pend (call_begun (called_by b) (taken b p))
  begins-posts (TheScript source task) p f = said _ p f
  begins-posts (ATimer source task t) p f = said _ p f
  begins-posts (AFrame key c) p f = said _ p f
  begins-posts (AnIdle c others) p f = line-posts _ p.now p.registrations p.signals p.completions _ (said _ p f)
  begins-posts (ALateIdle number c) p f = said _ p f
  begins-posts (AListener q) p f = said _ p f
  begins-posts (APost t) p f = line-posts _ p.now p.registrations p.signals p.completions _ (said _ p f)
  begins-posts (AContinuation t) p f = line-posts _ p.now p.registrations p.signals p.completions _ (said _ p f)
  begins-posts (AMicro job others q) p f = line-posts _ p.now p.registrations p.signals p.completions _ (said _ p f)
  begins-posts (AReaction job others of x q) p f = line-posts _ p.now p.registrations p.signals p.completions _ (said _ p f)

  pub line-kept : (e : Event) (p : Page) → PostsWatched pend p → PostsWatched pend (emit e p)
  line-kept e p f = said e p f

  pub same-posts : (p q : Page) → q.registrations ≡ p.registrations → q.events ≡ p.events → q.signals ≡ p.signals → places q ≡ places p → PostsWatched pend p → PostsWatched pend q
  same-posts p q e f g h w =
      subst (λ (xs : List Registration). ByPlaces pend xs q.signals q.completions q.events) (sym e)
      (subst (λ (past : History). ByPlaces pend p.registrations q.signals q.completions past) (sym f)
      (subst (λ (ss : Signals Value). ByPlaces pend p.registrations ss q.completions p.events) (sym g)
      (subst (λ (x : Places). ByPlaces pend p.registrations p.signals x.completions p.events) (sym h) w)))

calm-of : {p : Page} {ss : Signals Value} (k : SignalsChange p ss) (T : Type 0) → WhenCalm k T → WhenCalm k (Unit {0})
calm-of (calmly h) T x = tt
calm-of marking T x = x

quiet-calm : {p q : Page} (c : PageChange p q) → IsQuiet c → IsCalm c
quiet-calm (elsewhere c b k) h = calm-of b.watched _ h
quiet-calm (made_one j x e unframed u b at) h = calm-of b.watched _ h
quiet-calm (arm_told n due level w well) h = tt
quiet-calm (told e x) h = tt
quiet-calm c h = h

new-calm : {p q : Page} (c : PageChange p q) → IsNew c → IsCalm c
new-calm (elsewhere c b k) h = calm-of b.watched _ h
new-calm c h = h

pub changes-posts : (pend : ℕ → Bool) {p q : Page} → Changes p q → PostsWatched pend p → PostsWatched pend q
changes-posts pend nothing f = f
changes-posts pend (with_change a c plain) f = change-posts pend c (quiet-calm c plain) (changes-posts pend a f)
changes-posts pend (with_arm a c d h new) f = arm-posts pend c d h (change-posts pend c (new-calm c new) (changes-posts pend a f))

-- ---- an abort

-- the reason is set on signals, whose aborts are under way then
pub reason-posts : (reason : Value) (of : List ℕ) (p : Page) (pend : ℕ → Bool) → PostsWatched pend p → PostsWatched (among of pend) (record p { signals = AbortGraph.with_reason reason of p.signals })
reason-posts reason of p pend f r d = record { one = (f r d).one; given = (f r d).given; watched = by_done (f r d).watched }
  where
    ss : Signals Value
    ss = AbortGraph.with_reason reason of p.signals

    by_source : (o : Option ℕ) → WatchedBy pend p.signals r o → WatchedBy (among of pend) (AbortGraph.with_reason reason of p.signals) r o
    by_source None k = tt
    by_source (Some s) k = (reason-kept reason of p p.signals s r k.0, λ a. reason-aborts reason of p.signals pend s k.1 a)

    by_done : was_done p.events r ≡ true ⊎ WatchedBy pend p.signals r (signal_at p.registrations r) → was_done p.events r ≡ true ⊎ WatchedBy (among of pend) (AbortGraph.with_reason reason of p.signals) r (signal_at p.registrations r)
    by_done (inl z) = inl z
    by_done (inr k) = inr (by_source (signal_at p.registrations r) k)

-- whether it is aborted by this signal
abbrev pub AbortedBy : Page → Option ℕ → Type 0
AbortedBy p None = ⊥
AbortedBy p (Some s) = AbortGraph.is_aborted p.signals s ≡ true

-- of a delayed post that is due, and whose signal is aborted while no abort is under way
pub over-due : (p : Page) → PostsWatched (λ s. false) p → (r : ℕ) → DelayWaits r p.completions → (o : Option ℕ) → signal_at p.registrations r ≡ o → AbortedBy p o → was_done p.events r ≡ true
over-due p f r d o e a = by_watched (f r d).watched
  where
    false_true : false ≡ true → ⊥
    false_true e = Prim.cc

    by_source : (o : Option ℕ) → AbortedBy p o → WatchedBy (λ s. false) p.signals r o → ⊥
    by_source None a k = a
    by_source (Some s) a k = false_true (k.1 a)

    by_watched : was_done p.events r ≡ true ⊎ WatchedBy (λ s. false) p.signals r (signal_at p.registrations r) → was_done p.events r ≡ true
    by_watched (inl z) = z
    by_watched (inr k) = absurd (by_source o a (subst (WatchedBy (λ s. false) p.signals r) e k))

pub first-posts : (program : Program) (setup : Setup) (hosts : List HostClosure) (pend : ℕ → Bool) → PostsWatched pend (first_page program setup hosts)
first-posts program setup hosts pend r d = elim d.there [ ]
