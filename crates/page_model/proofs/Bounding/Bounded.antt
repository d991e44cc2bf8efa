-- Changes of a page that keep it within bounds.
use Rattle.std.proofs.Common.{◌≡◌, ℕ, suc, ◌+◌, ◌≤◌, arith, Bool, true, false, List, [], ◌∷◌, length, Option, Some, None, refl, ap, sym, subst, ◌∙◌, cond, ◌&&◌}
use Rattle.std.specs.Prelude.{◌==◌, ℤ}
use Rattle.std.proofs.lemmas.Bool.{ltb-true, eq-eqb}
use Rattle.page_types.specs.Values.{Value}
use Rattle.page_types.specs.declared.Source.TheVariants.{Dom}
use Rattle.page_types.specs.declared.Priority.{Priority}
use Rattle.page_types.specs.declared.RegKind.{RegKind}
use Rattle.page_types.specs.declared.RegKind.TheVariants.{Micro as MicroKind, Idle as IdleKind, Then as ThenKind, Yield as YieldKind, Post as PostKind, Host as HostKind, Listener as ListenerKind, Signal as SignalKind}
use Rattle.page_parts.specs.Words.{and_last, without}
use Rattle.page_parts.specs.Kinds.{Func, func_in}
use Rattle.page_parts.specs.Notices as Notices
use Rattle.page_parts.specs.Promises.{Reaction, Settled}
use Rattle.page_parts.specs.Notices.{subscribe_promise, is_outstanding, follow_promise}
use Rattle.page_parts.specs.AbortGraph.{SignalRecord, fresh_signal, make, any, add_algorithm}
use Rattle.page_parts.specs.TaskSignals.{PrioRecord, Prios, changed_at, give, depend, followers}
use Rattle.page_parts.specs.Listeners.{Listener, Target, off, is_listening, add}
use Rattle.page_parts.specs.HostClosures.{HostClosure}
use Rattle.page_types.specs.Events.{Drop}
use Rattle.page_model.specs.State.{Page, emit, Registration, OfKind, NotifyHandled, PrioSource, SchedulingState, queue_task, on_notices, last_registration, context}
use Rattle.page_model.specs.PagePromises as promises
use Rattle.page_model.specs.PagePromises.{new_promise, last_promise}
use Rattle.page_model.specs.PageTime.{idle_timeout}
use Rattle.page_model.specs.SchedulerTasks.{enqueue}
use Rattle.page_model.specs.PageSignals.{watch}
use Rattle.page_model.specs.Invoke.{register, register_as}
use Rattle.page_model.specs.Operations.{is_left, micro_registered, then_made, idle_requested, promised, post_queued, post_delayed, continuation_queued, host_queued, listener_added, listener_removed, timeout_signal_made, with_signals, task_signal_made, any_made, last_signal, finally_made}
use Rattle.page_model.specs.FoldBounds.{Counted, counted, AreBounded, IsBounded, HasRecord, AllHaveRecords}
use Rattle.page_model.proofs.Bounding.Counting.{Stays, Near, near-same, near-equal, near-then, near-signals, bounded-near, stays-near, stays-then, and_last-length, alike-with, with_numbered-length, Leaves, on_notices-leaves, cond_of-leaves, settle-leaves}
use Rattle.page_model.proofs.Stepping.Dependents.{last-bounded, any-bounded, any-length}
use Rattle.page_model.proofs.Stepping.Reaching.{changed-length, changed-stays, bounded-changed, all_have-stays, followers-at}
use Rattle.page_model.proofs.Adding.Combining.{Relates}

-- a page after p: within bounds, and signals with a priority stay
abbrev pub Kept : Page → Page → Type 0
Kept p q = IsBounded q × Stays p.prios q.prios

pub near-kept : (more : ℕ) (p q : Page) → Near more (counted p) (counted q) → more + length p.registrations ≤ 4294967295 → IsBounded p → Kept p q
near-kept more p q h few b = (bounded-near more (counted p) (counted q) h few b, stays-near more (counted p) (counted q) h)

pub leaves-kept : (f : Page → Page) → Leaves f → (p : Page) → IsBounded p → Kept p (f p)
leaves-kept f h p b = near-kept 0 p (f p) (near-equal (counted p) (counted (f p)) (h p)) (let r = b.registrations in omega (arith, r)) b

pub left-fewer : (n : ℕ) → is_left n ≡ true → 1 + n ≤ 4294967295
left-fewer n e = let l = ltb-true n 4294967295 e in omega (arith, l)

pub and-first : (a b : Bool) → (a && b) ≡ true → a ≡ true
and-first true b e = refl
and-first false b e = cc

pub and-second : (a b : Bool) → (a && b) ≡ true → b ≡ true
and-second true b e = e
and-second false b e = cc

-- ---- registrations

pub registered-near : (p : Page) (x : Registration) → Near 1 (counted p) (counted (record p { registrations = and_last p.registrations x }))
registered-near p x =
    record { registrations = let l = and_last-length p.registrations x in omega (arith, l); listeners = refl; signals = refl; dependents = λ s. refl; prios = refl }

pub micro_registered-near : (f : Func) (p : Page) → Near 1 (counted p) (counted (micro_registered f p))
micro_registered-near f p =
    let made = register MicroKind (Some f) None p in
    near-then 1 (counted p) (counted made) (counted (micro_registered f p)) (registered-near p _)
    (near-equal (counted made) (counted (micro_registered f p)) (on_notices-leaves (Notices.queue_micro (context made) (last_registration made)) made))

pub subscribe-leaves : (n : ℕ) (r : Reaction) → Leaves (promises.subscribe n r)
subscribe-leaves n r p =
    cond_of-leaves (is_outstanding n p.notices) (queue_task Dom (NotifyHandled n)) (λ q. q) (λ p. refl) (λ p. refl) (on_notices (subscribe_promise (context p) n r) p)
    ∙ on_notices-leaves (subscribe_promise (context p) n r) p

pub follow-leaves : (n : ℕ) (how : Settled) → Leaves (promises.follow n how)
follow-leaves n how p = on_notices-leaves (follow_promise (context p) p.names n how) p

pub relates-leaves : Relates (λ p q. counted q ≡ counted p)
relates-leaves =
    record {
      same = λ p. refl;
      then = λ p q r f g. g ∙ f;
      settles = settle-leaves;
      follows = follow-leaves;
      subscribes = subscribe-leaves;
      makes = λ p. refl;
      combines = λ cs p. refl;
      elements = λ es p. refl;
    }

pub finally_made-near : (n : ℕ) (f : Value) (p : Page) → Near 1 (counted p) (counted (finally_made n f p))
finally_made-near n f p =
    let x : Registration = record { role = OfKind ThenKind; callback = func_in f; second_callback = func_in f; timer_id = 0; promise = 0; signal = None; finally = true } in
    let made = register_as ThenKind x (new_promise p) in
    near-then 1 (counted p) (counted made) (counted (finally_made n f p)) (registered-near (new_promise p) x)
    (near-equal (counted made) (counted (finally_made n f p)) (subscribe-leaves n (record { registration = Some (last_registration made); into = last_promise made; state = made.scheduling }) made))

pub then_made-near : (n : ℕ) (f g : Value) (p : Page) → Near 1 (counted p) (counted (then_made n f g p))
then_made-near n f g p =
    let made = register ThenKind (func_in f) (func_in g) (new_promise p) in
    near-then 1 (counted p) (counted made) (counted (then_made n f g p)) (registered-near (new_promise p) _)
    (near-equal (counted made) (counted (then_made n f g p)) (subscribe-leaves n (record { registration = Some (last_registration made); into = last_promise made; state = made.scheduling }) made))

pub idle_requested-near : (f : Func) (ms : ℕ) (p : Page) → Near 1 (counted p) (counted (idle_requested f ms p))
idle_requested-near f ms p =
    let made = register IdleKind (Some f) None p in
    near-then 1 (counted p) (counted made) (counted (idle_requested f ms p)) (registered-near p _)
    (near-equal (counted made) (counted (idle_requested f ms p)) (cond_of-leaves (ms == 0) (λ q. q) (idle_timeout ms (last_registration made)) (λ p. refl) (λ p. refl) _))

watch-near : (signal : Option ℕ) (r : ℕ) (p : Page) → Near 0 (counted p) (counted (watch signal r p))
watch-near None r p = near-same (counted p)
watch-near (Some s) r p = near-signals p (add_algorithm s r p.signals) (with_numbered-length p.signals s _) (λ t. alike-with p.signals s t _ refl)

promised-near : (kind : RegKind) (f : Option Func) (signal : Option ℕ) (p : Page) → Near 1 (counted p) (counted (promised kind f signal p))
promised-near kind f signal p =
    let x : Registration = record { role = OfKind kind; callback = f; second_callback = None; timer_id = 0; promise = last_promise (new_promise p); signal = signal; finally = false } in
    let made = register_as kind x (new_promise p) in
    near-then 1 (counted p) (counted made) (counted (promised kind f signal p)) (registered-near (new_promise p) x) (watch-near signal (last_registration made) made)

pub post_queued-near : (f : Func) (source : PrioSource) (signal : Option ℕ) (ms : ℕ) (p : Page) → Near 1 (counted p) (counted (post_queued f source signal ms p))
post_queued-near f source signal ms p =
    let made = promised PostKind (Some f) signal p in
    near-then 1 (counted p) (counted made) (counted (post_queued f source signal ms p)) (promised-near PostKind (Some f) signal p)
    (near-equal (counted made) (counted (post_queued f source signal ms p)) (cond_of-leaves (ms == 0) (enqueue (last_registration made) source false) (post_delayed ms (last_registration made) source) (λ p. refl) (λ p. refl) made))

pub continuation_queued-near : (s : SchedulingState) (p : Page) → Near 1 (counted p) (counted (continuation_queued s p))
continuation_queued-near s p = promised-near YieldKind None s.abort_source p

pub host_queued-near : (k : ℕ) (c : HostClosure) (x : ℤ) (signal : Option ℕ) (p : Page) → Near 1 (counted p) (counted (host_queued k c x signal p))
host_queued-near k c x signal p = promised-near HostKind None signal p

-- ---- listeners

pub listener_added-kept : (target : Target) (name : List ℕ) (f : Func) (p : Page) → 1 + length p.registrations ≤ 4294967295 → IsBounded p → Kept p (listener_added target name f p)
listener_added-kept target name f p few b =
    let made = register ListenerKind (Some f) None p in
    let listening : length (add target name (last_registration made) p.listeners) ≡ suc (length p.listeners) = and_last-length p.listeners _ in
    let g = bounded-near 1 (counted p) (counted made) (registered-near p _) few b in (
      record {
        registrations = g.registrations;
        listeners = let l = b.listeners in let m : length made.registrations ≡ suc (length p.registrations) = and_last-length p.registrations _ in omega (arith, listening, l, m);
        signals = g.signals;
        dependents = g.dependents;
        none_ahead = g.none_ahead;
        prios = g.prios;
        followers = g.followers;
      },
      λ s h. h,
    )

without-length : {X : Type 0} (test : X → Bool) (xs : List X) → length (without test xs) ≤ length xs
without-length test [] = omega arith
without-length test (x ∷ xs) = by (without-length test xs) (test x)
  where
    by : length (without test xs) ≤ length xs → (b : Bool) → length (cond b (without test xs) (x ∷ without test xs)) ≤ suc (length xs)
    by h true = omega (arith, h)
    by h false = omega (arith, h)

pub listener_removed-kept : (r : ℕ) (p : Page) → IsBounded p → Kept p (listener_removed r p)
listener_removed-kept r p b = by (is_listening r p.listeners)
  where
    fewer : IsBounded (record p { listeners = off r p.listeners })
    fewer =
        record {
          registrations = b.registrations;
          listeners = let w = without-length (λ (l : Listener). l.registration == r) p.listeners in let l = b.listeners in omega (arith, w, l);
          signals = b.signals;
          dependents = b.dependents;
          none_ahead = b.none_ahead;
          prios = b.prios;
          followers = b.followers;
        }

    by : (c : Bool) → Kept p (cond c (emit (Drop r) (record p { listeners = off r p.listeners })) p)
    by true = (fewer, λ s h. h)
    by false = (b, λ s h. h)

-- ---- signals with a priority

given-followers : (ps : Prios) (x : PrioRecord) (t : ℕ) → x.followers ≡ [] → followers (and_last ps x) t ≡ followers ps t
given-followers [] x t h = followers-at x [] t (x.signal == t) refl ∙ by (x.signal == t)
  where
    by : (b : Bool) → cond b x.followers [] ≡ []
    by true = h
    by false = refl
given-followers (r ∷ rs) x t h = by (given-followers rs x t h) (r.signal == t) refl
  where
    by : followers (and_last rs x) t ≡ followers rs t → (b : Bool) → (r.signal == t) ≡ b → followers (and_last (r ∷ rs) x) t ≡ followers (r ∷ rs) t
    by again true e = followers-at r (and_last rs x) t true e ∙ sym (followers-at r rs t true e)
    by again false e = followers-at r (and_last rs x) t false e ∙ (again ∙ sym (followers-at r rs t false e))

given-stays : (ps : Prios) (x : PrioRecord) → Stays ps (and_last ps x)
given-stays [] x t h = cc
given-stays (r ∷ rs) x t h = by (given-stays rs x t) (r.signal == t) refl h
  where
    by : (HasRecord rs t → HasRecord (and_last rs x) t) → (b : Bool) → (r.signal == t) ≡ b → HasRecord (r ∷ rs) t → HasRecord (and_last (r ∷ rs) x) t
    by again true e h = rw e refl
    by again false e h = rw e (again (rw e at h))

given-there : (ps : Prios) (x : PrioRecord) → HasRecord (and_last ps x) x.signal
given-there [] x = rw (eq-eqb x.signal x.signal refl) refl
given-there (r ∷ rs) x = by (given-there rs x) (r.signal == x.signal) refl
  where
    by : HasRecord (and_last rs x) x.signal → (b : Bool) → (r.signal == x.signal) ≡ b → HasRecord (and_last (r ∷ rs) x) x.signal
    by again true e = rw e refl
    by again false e = rw e again

-- a new signal is given a priority
pub given-bounded : (c : Counted) (s : ℕ) (priority : Priority) → 1 + length c.prios ≤ length c.signals → AreBounded c → AreBounded (record c { prios = give s priority c.prios })
given-bounded c s priority few g =
    let x : PrioRecord = record { signal = s; priority = priority; follows = None; followers = []; changing = false } in
    let more = and_last-length c.prios x in
    record {
      registrations = g.registrations;
      listeners = g.listeners;
      signals = g.signals;
      dependents = g.dependents;
      none_ahead = g.none_ahead;
      prios = omega (arith, more, few);
      followers = λ t. subst (λ ss. AllHaveRecords (give s priority c.prios) ss) (sym (given-followers c.prios x t refl)) (all_have-stays c.prios (give s priority c.prios) (given-stays c.prios x) (followers c.prios t) (g.followers t));
    }

all_have-last : (qs : Prios) (ss : List ℕ) (d : ℕ) → HasRecord qs d → AllHaveRecords qs ss → AllHaveRecords qs (and_last ss d)
all_have-last qs [] d h k = (h, tt)
all_have-last qs (s ∷ ss) d h k = (k.0, all_have-last qs ss d h k.1)

-- a signal gets a follower
abbrev joining : ℕ → PrioRecord → PrioRecord
joining d r = record r { followers = and_last r.followers d }

joined-followers : (qs : Prios) (d on : ℕ) → HasRecord qs d → (ps : Prios) (t : ℕ) → AllHaveRecords qs (followers ps t) → AllHaveRecords qs (followers (changed_at on (joining d) ps) t)
joined-followers qs d on h [] t k = tt
joined-followers qs d on h (r ∷ rs) t k = by (joined-followers qs d on h rs t) (r.signal == on) (r.signal == t) refl k
  where
    one : (b : Bool) → AllHaveRecords qs r.followers → AllHaveRecords qs (cond b (joining d r) r).followers
    one true k = all_have-last qs r.followers d h k
    one false k = k

    same : (b : Bool) → (cond b (joining d r) r).signal ≡ r.signal
    same true = refl
    same false = refl

    by : (AllHaveRecords qs (followers rs t) → AllHaveRecords qs (followers (changed_at on (joining d) rs) t)) → (b c : Bool) → (r.signal == t) ≡ c → AllHaveRecords qs (followers (r ∷ rs) t)
        → AllHaveRecords qs (followers (cond b (joining d r) r ∷ changed_at on (joining d) rs) t)
    by again b true e k =
        subst (λ ss. AllHaveRecords qs ss) (sym (followers-at (cond b (joining d r) r) (changed_at on (joining d) rs) t true (ap (λ n. n == t) (same b) ∙ e)))
        (one b (subst (λ ss. AllHaveRecords qs ss) (followers-at r rs t true e) k))
    by again b false e k =
        subst (λ ss. AllHaveRecords qs ss) (sym (followers-at (cond b (joining d r) r) (changed_at on (joining d) rs) t false (ap (λ n. n == t) (same b) ∙ e)))
        (again (subst (λ ss. AllHaveRecords qs ss) (followers-at r rs t false e) k))

-- a signal with a priority follows another one
pub depend-bounded : (c : Counted) (d on : ℕ) → HasRecord c.prios d → AreBounded c → AreBounded (record c { prios = depend d on c.prios })
depend-bounded c d on h g =
    bounded-changed d (λ r. record r { follows = Some on }) (λ r. refl) (λ r. refl) (record c { prios = changed_at on (joining d) c.prios })
    (record {
      registrations = g.registrations;
      listeners = g.listeners;
      signals = g.signals;
      dependents = g.dependents;
      none_ahead = g.none_ahead;
      prios = let l = changed-length on (joining d) (λ r. refl) c.prios in let p = g.prios in omega (arith, l, p);
      followers = λ t.
          let qs = changed_at on (joining d) c.prios in
          let stays = changed-stays on (joining d) (λ r. refl) c.prios in
          joined-followers qs d on (stays d h) c.prios t (all_have-stays c.prios qs stays (followers c.prios t) (g.followers t));
    })

depend-stays : (ps : Prios) (d on : ℕ) → Stays ps (depend d on ps)
depend-stays ps d on =
    stays-then ps (changed_at on (joining d) ps) (depend d on ps) (changed-stays on (joining d) (λ r. refl) ps)
    (changed-stays d (λ r. record r { follows = Some on }) (λ r. refl) (changed_at on (joining d) ps))

-- ---- what makes signals

pub made-kept : (x : SignalRecord Value) → x.dependents ≡ [] → (p : Page) → 1 + length p.signals ≤ 4294967295 → IsBounded p → Kept p (record p { signals = and_last p.signals x })
made-kept x h p few b = (last-bounded (counted p) b few x h, λ s h. h)

pub any-kept : (of : List ℕ) (p : Page) → 1 + length p.signals ≤ 4294967295 → IsBounded p → Kept p (with_signals (any of) p)
any-kept of p few b = (any-bounded (counted p) b few of, λ s h. h)

pub timeout_signal-kept : (ms : ℕ) (p : Page) → 1 + length p.signals ≤ 4294967295 → 1 + length p.registrations ≤ 4294967295 → IsBounded p → Kept p (timeout_signal_made ms p)
timeout_signal-kept ms p few fewer b =
    let q = with_signals make p in
    let c = made-kept fresh_signal refl p few b in
    near-kept 1 q (timeout_signal_made ms p) (registered-near q (record { role = OfKind SignalKind; callback = None; second_callback = None; timer_id = 0; promise = 0; signal = None; finally = false })) fewer c.0

pub task_signal-kept : (priority : Priority) (p : Page) → 1 + length p.signals ≤ 4294967295 → IsBounded p → Kept p (task_signal_made priority p)
task_signal-kept priority p few b =
    let q = with_signals make p in
    let c = made-kept fresh_signal refl p few b in
    let more = and_last-length p.signals fresh_signal in
    let l = b.prios in
    (given-bounded (counted q) (last_signal q) priority (omega (arith, l, more)) c.0, given-stays p.prios (record { signal = last_signal q; priority = priority; follows = None; followers = []; changing = false }))

module _ (ss : List ℕ) (priority : Priority) (p : Page) (few : 1 + length p.signals ≤ 4294967295) (b : IsBounded p) where
  abbrev made : Page
  made = with_signals (any ss) p

  abbrev with_priority : PrioRecord
  with_priority = record { signal = last_signal made; priority = priority; follows = None; followers = []; changing = false }

  given-here : AreBounded (record (counted made) { prios = and_last p.prios with_priority })
  given-here =
      let more = any-length ss p.signals in
      let l = b.prios in
      given-bounded (counted made) (last_signal made) priority (omega (arith, l, more)) (any-bounded (counted p) b few ss)

  pub any_made-kept : (follows : Option ℕ) → Kept p (any_made ss priority follows p)
  any_made-kept None = (given-here, given-stays p.prios with_priority)
  any_made-kept (Some on) = (
    depend-bounded (record (counted made) { prios = and_last p.prios with_priority }) (last_signal made) on (given-there p.prios with_priority) given-here,
    stays-then p.prios (and_last p.prios with_priority) (depend (last_signal made) on (and_last p.prios with_priority)) (given-stays p.prios with_priority) (depend-stays (and_last p.prios with_priority) (last_signal made) on),
  )
