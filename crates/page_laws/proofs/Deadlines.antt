-- Idle callbacks are called in a period that goes on, before a deadline that no active timer goes past, in the order of the requests; or after their timeouts.
use Rattle.std.proofs.Common.{◌≡◌, ◌⊎◌, inl, inr, ℕ, zero, suc, ◌≤◌, ◌<◌, ◌+◌, Bool, true, false, not, ◌&&◌, ◌||◌, List, [], ◌∷◌, ◌++◌, Option, Some, None, refl, sym, subst, ap, ◌∙◌, cond, length, arith, eqb-true, filter, nat_lt, nat_le, lt-ltb, unwrap_or, is_some}
use Rattle.std.specs.Prelude.{◌==◌, option_map}
use Rattle.std.specs.List.{list_all}
use Rattle.std.proofs.lemmas.Bool.{eq-eqb, le-leb, ltb-true, ltb-false}
use Rattle.page_types.specs.declared.RegKind.{RegKind}
use Rattle.page_types.specs.declared.RegKind.TheVariants as kind
use Rattle.page_types.specs.declared.Source.TheVariants.{Sched}
use Rattle.page_types.specs.Events.{Event, Call, Ret, Throw, Turn, Period, IdleLine, Frame, Reg, Run, Drop, Due, Arm, Enq, Host, Prio}
use Rattle.page_types.specs.Tree.{Program}
use Rattle.page_parts.specs.Setup.{Setup}
use Rattle.page_parts.specs.HostClosures.{HostClosure}
use Rattle.page_parts.specs.Frames.{Callback}
use Rattle.page_parts.specs.IdleCallbacks as IdleCallbacks
use Rattle.page_parts.specs.IdleCallbacks.{Idle, started}
use Rattle.page_parts.specs.Timers as Timers
use Rattle.page_parts.specs.Timers.{Timers, ActiveTimer, next_due}
use Rattle.page_parts.specs.TaskSignals.{Prios}
use Rattle.page_parts.specs.Words.{and_last, without, is_empty}
use Rattle.page_parts.specs.Promises.{Reaction, the_promise}
use Rattle.page_parts.specs.Promises as Promises
use Rattle.page_parts.specs.Notices.{Notices, Noticed, changed, subscribe_promise, queue_micro, Context}
use Rattle.page_model.specs.State.{Page, Role, ScriptRole, OfKind, Registration, emit, emit_each, on_notices, context, caller}
use Rattle.page_model.specs.Invoke.{register_as, call_begun}
use Rattle.page_model.specs.PageTime.{deadline}
use Rattle.page_model.specs.Numbers.{Each, IsFor, made_by, timer_role}
use Rattle.page_model.specs.Turns.{first_page}
use Rattle.page_model.proofs.GivenNumbers.Growing.{length-last}
use Rattle.page_laws.specs.History.{History, armed_for, before_last, has_kind, is_delayed, is_idle, is_period, is_reg_of, is_rest, is_some_and, kind_of, last_line, registered, since_last, some_line, was_due}
use Rattle.page_laws.specs.TimerLaws.{idle_calls, idle_well, is_deadline, is_idle_line, is_reg_before, keeps_idle, may_be_idle, none_earlier, period_start}
use Rattle.page_laws.specs.Moves.{is_aside, is_end, role_at, is_delayed_role, IsIn, PeriodGoesOn, Places, places, PlaceChange, places_stay, task_queued, task_left, armed_again, signal_armed, id_cleared, idle_armed, completed, idle_started, idle_queued, Dropping, timer_dropped, idle_dropped, listener_dropped, FirstPlace, nowhere, at_listener, at_timer, at_delay, at_idle, at_host, DueChange, timer_due, delay_due, signal_due, idle_due, answer_due, promise_changes, AsBefore, PageChange, elsewhere, told, arm_told, rested, registered as made_one, promised, settled, followed, adopted, subscribed, micro_asked, then_asked, answered, dropped, frame_dropped, frame_asked, rejected_taken, noted, Beginning, TheScript, ATimer, AFrame, AnIdle, ALateIdle, AListener, APost, AContinuation, AMicro, AReaction, called_by, role_of, taken, Waited, task_dropped, enqueued_anew, fell_due, post_fell_due, prio_told, Moves, here, changing, arming, calling, ending, flagging, running, framing, idling}
use Rattle.page_laws.proofs.ArmedTimes as armed
use Rattle.page_laws.proofs.ArmedTimes.{first-armed, moves-armed}
use Rattle.page_laws.proofs.Framed.{false_true}
use Rattle.page_laws.proofs.Lines.{changed-each, added, emit_each-events}
use Rattle.page_laws.proofs.Once as once
use Rattle.page_laws.proofs.Ready.{in-left}
use Rattle.page_laws.proofs.Moved.{in-either}
use Rattle.page_laws.proofs.Registered.{KindsFit, kind_in_role, some-line}
use Rattle.page_laws.proofs.Scans.{Test, Kept}
use Rattle.page_laws.proofs.Totals.{without-append}

abbrev pub idle_test : Test
idle_test past e = keeps_idle past e.time e.event

-- ---- tests

both : (a b : Bool) → a ≡ true → b ≡ true → a && b ≡ true
both true b x y = y
both false b x y = x

on_right : (a b : Bool) → b ≡ true → a || b ≡ true
on_right true b h = refl
on_right false b h = h

pub all-filter : (f test : ℕ → Bool) (rs : List ℕ) → ((r : ℕ) → f r ≡ true → test r ≡ true) → list_all test (filter f rs) ≡ true
all-filter f test [] h = refl
all-filter f test (r ∷ rs) h = by_test (f r) refl (all-filter f test rs h)
  where
    by_test : (b : Bool) → f r ≡ b → list_all test (filter f rs) ≡ true → list_all test (cond b (r ∷ filter f rs) (filter f rs)) ≡ true
    by_test true e k = both (test r) (list_all test (filter f rs)) (h r e) k
    by_test false e k = k

-- of a list that was filtered before
pub all-kept : (f g test : ℕ → Bool) (rs : List ℕ) → ((r : ℕ) → f r ≡ true → g r ≡ true → test r ≡ true) → list_all test (filter f (filter g rs)) ≡ true
all-kept f g test [] h = refl
all-kept f g test (r ∷ rs) h = by_tests (g r) refl (all-kept f g test rs h)
  where
    by_first : g r ≡ true → (b : Bool) → f r ≡ b → list_all test (filter f (filter g rs)) ≡ true → list_all test (cond b (r ∷ filter f (filter g rs)) (filter f (filter g rs))) ≡ true
    by_first q true e k = both (test r) (list_all test (filter f (filter g rs))) (h r e q) k
    by_first q false e k = k

    by_tests : (b : Bool) → g r ≡ b → list_all test (filter f (filter g rs)) ≡ true → list_all test (filter f (cond b (r ∷ filter g rs) (filter g rs))) ≡ true
    by_tests true q k = by_first q (f r) refl k
    by_tests false q k = k

all-in : (test : ℕ → Bool) (rs : List ℕ) → ((r : ℕ) → IsIn r rs → test r ≡ true) → list_all test rs ≡ true
all-in test [] h = refl
all-in test (r ∷ rs) h = both (test r) (list_all test rs) (h r (inl refl)) (all-in test rs (λ q i. h q (inr i)))

-- ---- idle callbacks in their order

-- registrations rise above one, and are at most the last
abbrev Rises : (last r : ℕ) → List Callback → Type 0
Rises last r [] = Unit {0}
Rises last r (c ∷ cs) = (r < c.registration) × (c.registration ≤ last) × Rises last c.registration cs

rises-more : (last last' r : ℕ) → last ≤ last' → (cs : List Callback) → Rises last r cs → Rises last' r cs
rises-more last last' r le [] h = tt
rises-more last last' r le (c ∷ cs) h = let a = h.1 in (h.0, omega (arith, a, le), rises-more last last' c.registration le cs h.2)

rises-lower : (last r r' : ℕ) → r' ≤ r → (cs : List Callback) → Rises last r cs → Rises last r' cs
rises-lower last r r' le [] h = tt
rises-lower last r r' le (c ∷ cs) h = let a = h.0 in (omega (arith, a, le), h.1, h.2)

rises-without : (last r : ℕ) (gone : Callback → Bool) (cs : List Callback) → Rises last r cs → Rises last r (without gone cs)
rises-without last r gone [] h = tt
rises-without last r gone (c ∷ cs) h = by_test (gone c) (rises-without last c.registration gone cs h.2)
  where
    by_test : (b : Bool) → Rises last c.registration (without gone cs) → Rises last r (cond b (without gone cs) (c ∷ without gone cs))
    by_test true k = let a = h.0 in rises-lower last c.registration r (omega (arith, a)) (without gone cs) k
    by_test false k = (h.0, h.1, k)

rises-last : (last r q h : ℕ) → r ≤ last → (cs : List Callback) → q ≡ suc last → Rises last r cs → Rises (suc last) r (cs ++ record { handle = h; registration = q } ∷ [])
rises-last last r q h le [] e k = (omega (arith, le, e), omega (arith, e), tt)
rises-last last r q h le (c ∷ cs) e k = let a = k.1 in (k.0, omega (arith, a), rises-last last c.registration q h a cs e k.2)

-- where one of them stands
rises-in : (last r : ℕ) (c : Callback) (cs : List Callback) → Rises last r cs → IsIn c cs → (r < c.registration) × (c.registration ≤ last)
rises-in last r c [] h i = elim i [ ]
rises-in last r c (d ∷ cs) h (inl e) = subst (λ (x : Callback). (r < x.registration) × (x.registration ≤ last)) (sym e) (h.0, h.1)
rises-in last r c (d ∷ cs) h (inr i) = let k = rises-in last d.registration c cs h.2 i in let a = h.0 in let b = k.0 in (omega (arith, a, b), k.1)

append-nil : {X : Type 0} (xs : List X) → xs ++ [] ≡ xs
append-nil [] = refl
append-nil (x ∷ xs) = ap (x ∷◌) (append-nil xs)

append-more : {X : Type 0} (xs ys zs : List X) → xs ++ (ys ++ zs) ≡ (xs ++ ys) ++ zs
append-more [] ys zs = refl
append-more (x ∷ xs) ys zs = ap (x ∷◌) (append-more xs ys zs)

in-kept : (c : Callback) (gone : Callback → Bool) (cs : List Callback) → IsIn c (without gone cs) → IsIn c cs × (gone c ≡ false)
in-kept c gone [] i = elim i [ ]
in-kept c gone (d ∷ cs) i = by_test (gone d) refl i (in-kept c gone cs)
  where
    by_test : (b : Bool) → gone d ≡ b → IsIn c (cond b (without gone cs) (d ∷ without gone cs)) → (IsIn c (without gone cs) → IsIn c cs × (gone c ≡ false)) → IsIn c (d ∷ cs) × (gone c ≡ false)
    by_test true e i rest = (inr (rest i).0, (rest i).1)
    by_test false e (inl f) rest = (inl f, ap gone f ∙ e)
    by_test false e (inr i) rest = (inr (rest i).0, (rest i).1)

-- those of a page: runnable, and then pending
abbrev Listed : Idle → List Callback
Listed i = i.runnable ++ i.pending

-- ---- what fits the lines

pub record IdleFit (xs : List Registration) (i : Idle) (past : History) : Type 0 where
  pub order : Rises (length xs) 0 (Listed i)
  pub called : (q : ℕ) → IsIn q (idle_calls past) → (q ≤ length xs) × ((c : Callback) → IsIn c (Listed i) → q < c.registration)
  pub last : last_line is_idle_line past ≡ false
  pub none : some_line (is_reg_of 0) past ≡ false
  pub kept : Kept idle_test past

-- a line that is no call and no idle line, and registers nothing
abbrev is_plain : Event → Bool
is_plain (Call r) = false
is_plain (IdleLine d) = false
is_plain (Reg r k by) = false
is_plain e = true

aside-plain : (e : Event) → is_aside e ≡ true → is_plain e ≡ true
aside-plain (Call r) h = Prim.cc
aside-plain (IdleLine d) h = Prim.cc
aside-plain (Reg r k by) h = Prim.cc
aside-plain e h = refl

rest-plain : (e : Event) → is_rest e ≡ true → is_plain e ≡ true
rest-plain (Call r) h = Prim.cc
rest-plain (IdleLine d) h = Prim.cc
rest-plain (Reg r k by) h = Prim.cc
rest-plain e h = refl

end-plain : (e : Event) → is_end e ≡ true → is_plain e ≡ true
end-plain Ret h = refl
end-plain (Throw bs) h = refl
end-plain e h = Prim.cc

plain-fits : (e : Event) (now : ℕ) (xs : List Registration) (i : Idle) (past : History) → is_plain e ≡ true → IdleFit xs i past → IdleFit xs i (record { time = now; event = e } ∷ past)
plain-fits (Call r) now xs i past h f = Prim.cc
plain-fits (IdleLine d) now xs i past h f = Prim.cc
plain-fits (Reg r k by) now xs i past h f = Prim.cc
plain-fits e now xs i past h f = record { order = f.order; called = f.called; last = refl; none = f.none; kept = (ap not f.last, f.kept) }

-- idle callbacks in another order of lists, or fewer
fewer-fits : (xs : List Registration) (i j : Idle) (past : History) → Rises (length xs) 0 (Listed j) → ((c : Callback) → IsIn c (Listed j) → IsIn c (Listed i)) → IdleFit xs i past → IdleFit xs j past
fewer-fits xs i j past o h f = record { order = o; called = λ q k. ((f.called q k).0, λ c d. (f.called q k).1 c (h c d)); last = f.last; none = f.none; kept = f.kept }

started-fits : (xs : List Registration) (i : Idle) (past : History) → IdleFit xs i past → IdleFit xs (started i) past
started-fits xs i past f =
    fewer-fits xs i (started i) past (subst (Rises (length xs) 0) (sym (append-nil (Listed i))) f.order) (λ c k. subst (IsIn c) (append-nil (Listed i)) k) f

left-fits : (handle : ℕ) (xs : List Registration) (i : Idle) (past : History) → IdleFit xs i past → IdleFit xs (IdleCallbacks.cancel handle i) past
left-fits handle xs i past f =
    let gone : Callback → Bool = λ d. d.handle == handle in
    let e = without-append gone i.runnable i.pending in
    fewer-fits xs i (IdleCallbacks.cancel handle i) past (subst (Rises (length xs) 0) e (rises-without (length xs) 0 gone (Listed i) f.order))
    (λ c k. (in-kept c gone (Listed i) (subst (IsIn c) (sym e) k)).0) f

-- a registration is made
reg-fits : (k : RegKind) (by : Option ℕ) (x : Registration) (now : ℕ) (xs : List Registration) (i : Idle) (past : History) → IdleFit xs i past → IdleFit (and_last xs x) i (record { time = now; event = Reg (suc (length xs)) k by } ∷ past)
reg-fits k by x now xs i past f =
    record {
      order = rises-more (length xs) (length (and_last xs x)) 0 more (Listed i) f.order;
      called = λ q h. let a = (f.called q h).0 in (omega (arith, a, more), (f.called q h).1);
      last = refl;
      none = not_zero (suc (length xs) == 0) refl;
      kept = (ap not f.last, f.kept);
    }
  where
    more : length xs ≤ length (and_last xs x)
    more = let a = length-last xs x in omega (arith, a)

    not_zero : (b : Bool) → (suc (length xs) == 0) ≡ b → (suc (length xs) == 0) || some_line (is_reg_of 0) past ≡ false
    not_zero true e = let same = eqb-true (suc (length xs)) 0 e in absurd (omega (arith, same))
    not_zero false e = ap {A = Bool} {B = Bool} (λ b. b || some_line (is_reg_of 0) past) e ∙ f.none

-- an idle callback is requested by a new registration
asked-fits : (k : RegKind) (by : Option ℕ) (x : Registration) (now q : ℕ) (xs : List Registration) (i : Idle) (past : History) → q ≡ suc (length xs) → IdleFit xs i past → IdleFit (and_last xs x) (IdleCallbacks.request q i) (record { time = now; event = Reg (suc (length xs)) k by } ∷ past)
asked-fits k by x now q xs i past e f =
    let g = reg-fits k by x now xs i past f in
    record {
      order = subst (λ (n : ℕ). Rises n 0 (Listed (IdleCallbacks.request q i))) (sym (length-last xs x))
          (subst (Rises (suc (length xs)) 0) (sym (append-more i.runnable i.pending (new ∷ []))) (rises-last (length xs) 0 q (suc i.made) (omega arith) (Listed i) e f.order));
      called = λ n h. ((g.called n h).0, λ c j. by_place n (f.called n h) c (in-either c (Listed i) (new ∷ []) (subst (IsIn c) (append-more i.runnable i.pending (new ∷ [])) j)));
      last = g.last;
      none = g.none;
      kept = g.kept;
    }
  where
    new : Callback
    new = record { handle = suc i.made; registration = q }

    by_place : (n : ℕ) → (n ≤ length xs) × ((c : Callback) → IsIn c (Listed i) → n < c.registration) → (c : Callback) → IsIn c (Listed i) ⊎ IsIn c (record { handle = suc i.made; registration = q } ∷ []) → n < c.registration
    by_place n h c (inl j) = h.1 c j
    by_place n h c (inr (inl same)) = let a = h.0 in let b = ap {A = Callback} {B = ℕ} (λ d. d.registration) same in omega (arith, a, b, e)
    by_place n h c (inr (inr j)) = elim j [ ]

-- ---- the deadline

at_most-first : (n : ℕ) (o : Option ℕ) → IdleCallbacks.at_most n o ≤ n
at_most-first n None = omega arith
at_most-first n (Some m) = omega arith

at_most-second : (n m : ℕ) (o : Option ℕ) → o ≡ Some m → IdleCallbacks.at_most n o ≤ m
at_most-second n m None e = Prim.cc
at_most-second n m (Some k) e = let a : k ≡ m = ap {A = Option ℕ} {B = ℕ} (λ o. unwrap_or o m) e in omega (arith, a)

first_from-least : (a : ActiveTimer) (more : List ActiveTimer) → ((Timers.first_from a more).due ≤ a.due) × ((t : ActiveTimer) → IsIn t more → (Timers.first_from a more).due ≤ t.due)
first_from-least a [] = (omega arith, λ t i. elim i [ ])
first_from-least a (b ∷ more) = by_test (nat_lt b.due a.due || ((b.due == a.due) && nat_lt b.start a.start)) refl (λ c. first_from-least c more)
  where
    next : (c : ActiveTimer) → c.due ≤ a.due → c.due ≤ b.due → ((Timers.first_from c more).due ≤ c.due) × ((t : ActiveTimer) → IsIn t more → (Timers.first_from c more).due ≤ t.due) → ((Timers.first_from c more).due ≤ a.due) × ((t : ActiveTimer) → IsIn t (b ∷ more) → (Timers.first_from c more).due ≤ t.due)
    next c x y k = (let z = k.0 in omega (arith, x, z), λ t i. by_place t i)
      where
        by_place : (t : ActiveTimer) → IsIn t (b ∷ more) → (Timers.first_from c more).due ≤ t.due
        by_place t (inl e) = let z = k.0 in let w = ap {A = ActiveTimer} {B = ℕ} (λ u. u.due) e in omega (arith, y, z, w)
        by_place t (inr i) = k.1 t i

    less : (nat_lt b.due a.due || ((b.due == a.due) && nat_lt b.start a.start)) ≡ true → b.due ≤ a.due
    less h = by_lt (nat_lt b.due a.due) refl (b.due == a.due) refl h
      where
        by_lt : (t : Bool) → nat_lt b.due a.due ≡ t → (u : Bool) → (b.due == a.due) ≡ u → t || (u && nat_lt b.start a.start) ≡ true → b.due ≤ a.due
        by_lt true e u q h = let z = ltb-true b.due a.due e in omega (arith, z)
        by_lt false e true q h = let z = eqb-true b.due a.due q in omega (arith, z)
        by_lt false e false q h = absurd (false_true h)

    greater : (nat_lt b.due a.due || ((b.due == a.due) && nat_lt b.start a.start)) ≡ false → a.due ≤ b.due
    greater h = by_lt (nat_lt b.due a.due) refl h
      where
        by_lt : (t : Bool) → nat_lt b.due a.due ≡ t → t || ((b.due == a.due) && nat_lt b.start a.start) ≡ false → a.due ≤ b.due
        by_lt true e h = absurd (false_true (sym h))
        by_lt false e h = ltb-false b.due a.due e

    by_test : (c : Bool) → (nat_lt b.due a.due || ((b.due == a.due) && nat_lt b.start a.start)) ≡ c → ((c : ActiveTimer) → ((Timers.first_from c more).due ≤ c.due) × ((t : ActiveTimer) → IsIn t more → (Timers.first_from c more).due ≤ t.due))
        → ((Timers.first_from (cond c b a) more).due ≤ a.due) × ((t : ActiveTimer) → IsIn t (b ∷ more) → (Timers.first_from (cond c b a) more).due ≤ t.due)
    by_test true e rest = next b (less e) (omega arith) (rest b)
    by_test false e rest = next a (omega arith) (greater e) (rest a)

-- no active timer is due before the deadline
deadline-least : (p : Page) (a : ActiveTimer) → IsIn a p.timers.active → deadline p.last_idle_start p ≤ a.due
deadline-least p a i = by_active p.timers.active i
  where
    frame : Option ℕ
    frame = cond (is_empty p.frames.callbacks) None (Some (p.last_opportunity + p.refresh_period))

    by_active : (as' : List ActiveTimer) → IsIn a as' → IdleCallbacks.deadline p.last_idle_start (option_map (λ (t : ActiveTimer). t.due) (Timers.first_of as')) (cond (is_empty p.frames.callbacks) None (Some (p.last_opportunity + p.refresh_period))) ≤ a.due
    by_active [] j = elim j [ ]
    by_active (b ∷ more) j =
        let first = Timers.first_from b more in
        let start = p.last_idle_start + 50000 in
        let x = at_most-first (IdleCallbacks.at_most start (Some first.due)) (cond (is_empty p.frames.callbacks) None (Some (p.last_opportunity + p.refresh_period))) in
        let y = at_most-second start first.due (Some first.due) refl in
        let z = of_first j in
        omega (arith, x, y, z)
      where
        of_first : IsIn a (b ∷ more) → (Timers.first_from b more).due ≤ a.due
        of_first (inl e) = let k = (first_from-least b more).0 in let w = ap {A = ActiveTimer} {B = ℕ} (λ u. u.due) e in omega (arith, k, w)
        of_first (inr j) = (first_from-least b more).1 a j

deadline-start : (p : Page) → deadline p.last_idle_start p ≤ p.last_idle_start + 50000
deadline-start p =
    let start = p.last_idle_start + 50000 in
    let x = at_most-first (IdleCallbacks.at_most start (next_due p.timers)) (cond (is_empty p.frames.callbacks) None (Some (p.last_opportunity + p.refresh_period))) in
    let y = at_most-first start (next_due p.timers) in
    omega (arith, x, y)

not-less : (a b : ℕ) → b ≤ a → nat_lt a b ≡ false
not-less a b le = by_test (nat_lt a b) refl
  where
    by_test : (c : Bool) → nat_lt a b ≡ c → c ≡ false
    by_test true e = let k = ltb-true a b e in absurd (omega (arith, k, le))
    by_test false e = refl

one_at_least : (past : History) (r : ℕ) → some_line (is_reg_of 0) past ≡ false → some_line (is_reg_of r) past ≡ true → 1 ≤ r
one_at_least past zero h k = absurd (false_true (sym h ∙ k))
one_at_least past (suc r) h k = omega arith

-- what the lines tell to be delayed is so by its registration
pub delayed_role : (xs : List Registration) (past : History) (r : ℕ) → KindsFit xs past → some_line (is_reg_of 0) past ≡ false → has_kind is_delayed past r ≡ true → is_delayed_role (role_at xs r) ≡ true
delayed_role xs past r n z h = by_kind (kind_of past r) refl h
  where
    by_role : (role : Role) (k : RegKind) → kind_in_role role ≡ Some k → is_delayed k ≡ true → is_delayed_role role ≡ true
    by_role ScriptRole k e h = Prim.cc
    by_role (OfKind j) k e h = ap {A = Option RegKind} {B = Bool} (λ o. is_delayed (unwrap_or o j)) e ∙ h

    by_kind : (o : Option RegKind) → kind_of past r ≡ o → is_some_and is_delayed o ≡ true → is_delayed_role (role_at xs r) ≡ true
    by_kind None e h = absurd (false_true h)
    by_kind (Some k) e h = by_role (role_at xs r) k (sym (n.tie r (one_at_least past r z (some-line past r k e))) ∙ e) h

none-earlier : (p : Page) → KindsFit p.registrations p.events → some_line (is_reg_of 0) p.events ≡ false → armed.Fits p → none_earlier p.events (deadline p.last_idle_start p) ≡ true
none-earlier p n z f =
    all-kept (λ r. is_some (armed_for p.events r)) (has_kind is_delayed p.events) _ (registered p.events) (λ r some delayed. by_due r (armed_for p.events r) refl (delayed_role p.registrations p.events r n z delayed))
  where
    by_due : (r : ℕ) (o : Option ℕ) → armed_for p.events r ≡ o → is_delayed_role (role_at p.registrations r) ≡ true → not (is_some_and (λ due. nat_lt due (deadline p.last_idle_start p)) o) ≡ true
    by_due r None e role = refl
    by_due r (Some due) e role =
        let t = f.tie r due role e in
        let le = deadline-least p t.timer t.active in
        let same = t.time in
        ap not (not-less due (deadline p.last_idle_start p) (omega (arith, le, same)))

deadline-test : (p : Page) → nat_lt p.now (deadline p.last_idle_start p) ≡ true → PeriodGoesOn p → KindsFit p.registrations p.events → some_line (is_reg_of 0) p.events ≡ false → armed.Fits p → is_deadline p.events p.now (deadline p.last_idle_start p) ≡ true
deadline-test p before g n z f =
    both (is_some_and (λ start. nat_le (deadline p.last_idle_start p) (start + 50000)) (period_start p.events) && nat_lt p.now (deadline p.last_idle_start p)) _
    (both (is_some_and (λ start. nat_le (deadline p.last_idle_start p) (start + 50000)) (period_start p.events)) (nat_lt p.now (deadline p.last_idle_start p))
    (ap {A = Option ℕ} {B = Bool} (is_some_and (λ start. nat_le (deadline p.last_idle_start p) (start + 50000))) g.start ∙ le-leb (deadline p.last_idle_start p) (p.last_idle_start + 50000) (deadline-start p)) before)
    (none-earlier p n z f)

-- ---- calls

-- what was registered, and not behind the last period line, was registered before it
registered-before : (past : History) (r : ℕ) → some_line (is_reg_of r) (since_last is_period past) ≡ false → some_line (is_reg_of r) past ≡ true → is_reg_before r (before_last is_period past) ≡ true
registered-before [] r h there = absurd (false_true there)
registered-before (e ∷ past) r h there = by_line e.event h there (registered-before past r)
  where
    by_test : (b : Bool) → b || some_line (is_reg_of r) (since_last is_period past) ≡ false → b || some_line (is_reg_of r) past ≡ true → (some_line (is_reg_of r) (since_last is_period past) ≡ false → some_line (is_reg_of r) past ≡ true → is_reg_before r (before_last is_period past) ≡ true) → is_reg_before r (before_last is_period past) ≡ true
    by_test true h there rest = absurd (false_true (sym h))
    by_test false h there rest = rest h there

    by_line : (x : Event) → some_line (is_reg_of r) (cond (is_period x) [] (record { time = e.time; event = x } ∷ since_last is_period past)) ≡ false → is_reg_of r x || some_line (is_reg_of r) past ≡ true
        → (some_line (is_reg_of r) (since_last is_period past) ≡ false → some_line (is_reg_of r) past ≡ true → is_reg_before r (before_last is_period past) ≡ true) → is_reg_before r (cond (is_period x) (Some past) (before_last is_period past)) ≡ true
    by_line (Period d) h there rest = there
    by_line (Reg q k by) h there rest = by_test (q == r) h there rest
    by_line x h there rest = rest h there

-- the first runnable callback is called in the period
idle-call-test : (c : Callback) (others : List Callback) (p : Page) → p.idle.runnable ≡ c ∷ others → PeriodGoesOn p → IsFor (OfKind kind.Idle) (made_by p) c.registration → KindsFit p.registrations p.events → IdleFit p.registrations p.idle p.events
    → idle_well (record { time = p.now; event = IdleLine (deadline p.last_idle_start p) } ∷ p.events) c.registration ≡ true
idle-call-test c others p e g i n f =
    both (has_kind is_idle p.events c.registration) _ (ap {A = Option RegKind} {B = Bool} (is_some_and is_idle) known)
    (both (is_reg_before c.registration (before_last is_period p.events)) _ (registered-before p.events c.registration (g.runnable c there) (some-line p.events c.registration kind.Idle known))
    (all-in _ (idle_calls p.events) (λ q k. lt-ltb q c.registration ((f.called q k).1 c (in-left c p.idle.runnable p.idle.pending there)))))
  where
    known : kind_of p.events c.registration ≡ Some kind.Idle
    known = n.tie c.registration i.registration.from_one ∙ ap kind_in_role i.role

    there : IsIn c p.idle.runnable
    there = subst (λ (cs : List Callback). IsIn c cs) (sym e) (inl refl)

-- the callbacks that are left are later
later-left : (c : Callback) (others : List Callback) (last : ℕ) (i : Idle) → i.runnable ≡ c ∷ others → Rises last 0 (Listed i) → (d : Callback) → IsIn d (Listed (IdleCallbacks.cancel c.handle i)) → c.registration < d.registration
later-left c others last i e o d k =
    let gone : Callback → Bool = λ x. x.handle == c.handle in
    let kept = in-kept d gone (Listed i) (subst (IsIn d) (sym (without-append gone i.runnable i.pending)) k) in
    by_place (subst (λ (cs : List Callback). IsIn d (cs ++ i.pending)) e kept.0) kept.1
  where
    order : Rises last 0 (c ∷ (others ++ i.pending))
    order = subst (λ (cs : List Callback). Rises last 0 (cs ++ i.pending)) e o

    by_place : IsIn d (c ∷ (others ++ i.pending)) → (d.handle == c.handle) ≡ false → c.registration < d.registration
    by_place (inl same) other = absurd (false_true (sym other ∙ eq-eqb d.handle c.handle (ap {A = Callback} {B = ℕ} (λ x. x.handle) same)))
    by_place (inr j) other = (rises-in last c.registration d (others ++ i.pending) order.2 j).0

called-idly : (c : Callback) (others : List Callback) (p : Page) → Waited (AnIdle c others) p → IsFor (OfKind kind.Idle) (made_by p) c.registration → KindsFit p.registrations p.events → armed.Fits p → IdleFit p.registrations p.idle p.events
    → IdleFit p.registrations (IdleCallbacks.cancel c.handle p.idle) (record { time = p.now; event = Call c.registration } ∷ (record { time = p.now; event = IdleLine (deadline p.last_idle_start p) } ∷ p.events))
called-idly c others p w i n a f =
    let g = left-fits c.handle p.registrations p.idle p.events f in
    record {
      order = g.order;
      called = λ q k. by_call q k;
      last = refl;
      none = f.none;
      kept = (
        idle-call-test c others p w.0 w.2 i n f,
        (both (not (last_line is_idle_line p.events)) (is_deadline p.events p.now (deadline p.last_idle_start p)) (ap not f.last) (deadline-test p w.1 w.2 n f.none a), f.kept),
      );
    }
  where
    by_call : (q : ℕ) → (q ≡ c.registration) ⊎ IsIn q (idle_calls p.events) → (q ≤ length p.registrations) × ((d : Callback) → IsIn d (Listed (IdleCallbacks.cancel c.handle p.idle)) → q < d.registration)
    by_call q (inl same) =
        let le = i.registration.to_last in (
          omega (arith, le, same),
          λ d k. let b = later-left c others (length p.registrations) p.idle w.0 f.order d k in omega (arith, b, same),
        )
    by_call q (inr k) =
        let h = f.called q k in
        let gone : Callback → Bool = λ x. x.handle == c.handle in (
          h.0,
          λ d j. h.1 d (in-kept d gone (Listed p.idle) (subst (IsIn d) (sym (without-append gone p.idle.runnable p.idle.pending)) j)).0,
        )

-- a call elsewhere, of what is no idle callback or was due
called-fits : (r now : ℕ) (xs : List Registration) (i : Idle) (past : History) → not (has_kind is_idle past r) || was_due past r ≡ true → IdleFit xs i past → IdleFit xs i (record { time = now; event = Call r } ∷ past)
called-fits r now xs i past h f =
    record {
      order = f.order;
      called = λ q k. f.called q (subst (λ (b : Bool). IsIn q (cond b (r ∷ idle_calls past) (idle_calls past))) f.last k);
      last = refl;
      none = f.none;
      kept = (ap {A = Bool} {B = Bool} (λ b. cond b (has_kind is_idle past r && may_be_idle past r) (not (has_kind is_idle past r) || was_due past r)) f.last ∙ h, f.kept);
    }

-- what is for something else
other-kind : (past : History) (r : ℕ) (role : Role) → kind_of past r ≡ kind_in_role role → is_some_and is_idle (kind_in_role role) ≡ false → not (has_kind is_idle past r) || was_due past r ≡ true
other-kind past r role e h = ap {A = Option RegKind} {B = Bool} (λ o. not (is_some_and is_idle o) || was_due past r) e ∙ ap {A = Bool} {B = Bool} (λ b. not b || was_due past r) h

-- ---- changes of the places

place-fits : {xs : List Registration} {x y : Places} → PlaceChange xs x y → (past : History) → IdleFit xs x.idle past → IdleFit xs y.idle past
place-fits places_stay past f = f
place-fits (task_queued t h plain) past f = f
place-fits (task_left number) past f = f
place-fits (armed_again a t role there next) past f = f
place-fits (signal_armed ms now r s) past f = f
place-fits (id_cleared id) past f = f
place-fits (idle_armed t most own) past f = f
place-fits (completed start gone) past f = f
place-fits {xs = xs} {x = x} idle_started past f = started-fits xs x.idle past f
place-fits (idle_queued t e from) past f = f

due-idle : {made : List Registration} {r : ℕ} {x y : Places} → DueChange made r x y → y.idle ≡ x.idle
due-idle (timer_due start number source t e i role) = refl
due-idle (delay_due start source e role) = refl
due-idle (signal_due start s e role) = refl
due-idle (idle_due t number source i e role) = refl
due-idle (answer_due before a after number source e i role) = refl

drop-fits : {made : List Registration} {r : ℕ} {x y : Places} → Dropping made r x y → (xs : List Registration) (past : History) → IdleFit xs x.idle past → IdleFit xs y.idle past
drop-fits (timer_dropped id there e own) xs past f = f
drop-fits {x = x} (idle_dropped handle c e e1 role) xs past f = left-fits handle xs x.idle past f
drop-fits (listener_dropped there role) xs past f = f

first-fits : {xs : List Registration} {ps : Prios} {x y : Places} → FirstPlace xs ps (suc (length xs)) x y → (k : RegKind) (by : Option ℕ) (z : Registration) (now : ℕ) (past : History) → IdleFit xs x.idle past → IdleFit (and_last xs z) y.idle (record { time = now; event = Reg (suc (length xs)) k by } ∷ past)
first-fits {xs = xs} {x = x} nowhere k by z now past f = reg-fits k by z now xs x.idle past f
first-fits {xs = xs} {x = x} (at_listener target name q e) k by z now past f = reg-fits k by z now xs x.idle past f
first-fits {xs = xs} {x = x} (at_timer a t e first) k by z now past f = reg-fits k by z now xs x.idle past f
first-fits {xs = xs} {x = x} (at_delay ms at q source e h) k by z now past f = reg-fits k by z now xs x.idle past f
first-fits {xs = xs} {x = x} (at_idle q e) k by z now past f = asked-fits k by z now q xs x.idle past e f
first-fits {xs = xs} {x = x} (at_host c a e there live) k by z now past f = reg-fits k by z now xs x.idle past f

-- ---- moves

abbrev pub Fits : Page → Type 0
Fits p = IdleFit p.registrations p.idle p.events

before-fits : {p q : Page} → AsBefore p q → IdleFit p.registrations q.idle p.events → Fits q
before-fits {p = p} {q = q} b f =
    subst (λ (xs : List Registration). IdleFit xs q.idle q.events) (sym b.registrations) (subst (IdleFit p.registrations q.idle) (sym b.events) f)

-- where the places are known, and keep the idle callbacks
same-idle : (xs : List Registration) (i j : Idle) (past : History) → j ≡ i → IdleFit xs i past → IdleFit xs j past
same-idle xs i j past e f = subst (λ (k : Idle). IdleFit xs k past) (sym e) f

idle_of : (x y : Places) → x ≡ y → x.idle ≡ y.idle
idle_of x y e = ap {A = Places} {B = Idle} (λ z. z.idle) e

emit_each-registrations : (es : List Event) (p : Page) → (emit_each es p).registrations ≡ p.registrations
emit_each-registrations [] p = refl
emit_each-registrations (e ∷ es) p = emit_each-registrations es (emit e p)

emit_each-idle : (es : List Event) (p : Page) → (emit_each es p).idle ≡ p.idle
emit_each-idle [] p = refl
emit_each-idle (e ∷ es) p = emit_each-idle es (emit e p)

abbrev Plain : Event → Type 0
Plain e = is_plain e ≡ true

said : (e : Event) (p : Page) → is_plain e ≡ true → Fits p → Fits (emit e p)
said e p h f = plain-fits e p.now p.registrations p.idle p.events h f

added-fits : (now : ℕ) (es : List Event) (xs : List Registration) (i : Idle) (past : History) → Each Plain es → IdleFit xs i past → IdleFit xs i (added now es past)
added-fits now [] xs i past h f = f
added-fits now (e ∷ es) xs i past h f = added-fits now es xs i (record { time = now; event = e } ∷ past) h.1 (plain-fits e now xs i past h.0 f)

changed-plain : (current : Context) (names : List (List ℕ)) (n : ℕ) (c : Promises.Change) (s : Notices) → Each Plain (changed current names n c s).lines
changed-plain = changed-each Plain (λ n ok bs. refl) (λ j what. refl)

notices-fit : (f : Notices → Noticed) (p : Page) → Each Plain (f p.notices).lines → Fits p → Fits (on_notices f p)
notices-fit f p h k =
    let q : Page = record p { notices = (f p.notices).notices } in
    let lines = (f p.notices).lines in
    subst (λ (i : Idle). IdleFit (emit_each lines q).registrations i (emit_each lines q).events) (sym (emit_each-idle lines q))
    (subst (λ (xs : List Registration). IdleFit xs p.idle (emit_each lines q).events) (sym (emit_each-registrations lines q))
    (subst (IdleFit p.registrations p.idle) (sym (emit_each-events lines q)) (added-fits p.now lines p.registrations p.idle p.events h k)))

changes-fit : (n : ℕ) (c : Promises.Change) (p : Page) → Fits p → Fits (promise_changes n c p)
changes-fit n c p f = notices-fit (λ s. changed (context p) p.names n c s) p (changed-plain (context p) p.names n c p.notices) f

subscribed-fits : (n : ℕ) (r : Reaction) (p : Page) → Fits p → Fits (on_notices (subscribe_promise (context p) n r) p)
subscribed-fits n r p f =
    notices-fit (subscribe_promise (context p) n r) p
    (changed-plain (context p) [] n (Promises.subscribe n (the_promise p.notices.promises n) r) (record p.notices { rejected = without (λ m. m == n) p.notices.rejected; outstanding = without (λ m. m == n) p.notices.outstanding })) f

registered-fits : (k : RegKind) (x : Registration) (p : Page) → Fits p → Fits (register_as k x p)
registered-fits k x p f = reg-fits k (caller p) x p.now p.registrations p.idle p.events f

change-fits : {p q : Page} → PageChange p q → Fits p → Fits q
change-fits {p = p} {q = q} (elsewhere c b within) f = before-fits b (place-fits c p.events f)
change-fits {p = p} (told e h) f = said e p (aside-plain e h) f
change-fits {p = p} (arm_told r due level w well) f = said (Arm r due level) p refl f
change-fits {p = p} (rested e h x y z over begun done) f = said e p (rest-plain e h) f
change-fits {p = p} {q = q} (answered source task t answer x y live z b) f =
    before-fits b (same-idle p.registrations p.idle q.idle _ (idle_of (places q) _ z) (said (Host t.closure t.number answer) p refl f))
change-fits {p = p} {q = q} (made_one k x e unframed u b at) f = before-fits b (first-fits u k (caller p) x p.now p.events f)
change-fits {p = p} {q = q} (enqueued_anew k x t queue e i s n b) f =
    before-fits b
    (same-idle (and_last p.registrations x) p.idle q.idle _ (idle_of (places q) _ s) (said (Enq t.registration queue t.continuation t.order) (register_as k x p) refl (registered-fits k x p f)))
change-fits {p = p} {q = q} (fell_due r d b by) f = before-fits b (same-idle p.registrations p.idle q.idle _ (due-idle d) (said (Due r) p refl f))
change-fits {p = p} {q = q} (post_fell_due start source t queue e role a s n b by) f =
    before-fits b
    (same-idle p.registrations p.idle q.idle _ (idle_of (places q) _ s)
    (said (Enq t.registration queue t.continuation t.order) (emit (Due t.registration) p) refl (said (Due t.registration) p refl f)))
change-fits {p = p} {q = q} (dropped r d b) f = before-fits b (drop-fits d p.registrations _ (said (Drop r) p refl f))
change-fits {p = p} (frame_dropped handle c e role) f = said (Drop c.registration) p refl f
change-fits {p = p} {q = q} (task_dropped r role a e s b) f = before-fits b (same-idle p.registrations p.idle q.idle _ (idle_of (places q) _ s) (said (Drop r) p refl f))
change-fits {p = p} (prio_told s priority ps c) f = said (Prio s priority) p refl f
change-fits {p = p} (frame_asked g) f = registered-fits kind.Frame (record { role = OfKind kind.Frame; callback = Some g; second_callback = None; timer_id = 0; promise = 0; signal = None; finally = false }) p f
change-fits promised f = f
change-fits {p = p} (settled n how x y) f = changes-fit n (Promises.settle n (the_promise p.notices.promises n) how) p f
change-fits {p = p} (followed n how x y) f = changes-fit n (Promises.settle n (the_promise p.notices.promises n) how) p f
change-fits {p = p} (adopted n from x y) f = changes-fit n (Promises.adopt n (the_promise p.notices.promises n) from) p f
change-fits {p = p} (subscribed n r x y) f = subscribed-fits n r p f
change-fits {p = p} (then_asked n x r e g y) f = subscribed-fits n r (register_as kind.Then x p) (registered-fits kind.Then x p f)
change-fits {p = p} (micro_asked x r e y) f = notices-fit (queue_micro (context p) r) (register_as kind.Micro x p) (refl, tt) (registered-fits kind.Micro x p f)
change-fits rejected_taken f = f
change-fits (noted n) f = f

-- a call of what is for something else
other-fits : (r : ℕ) (role : Role) (p : Page) (past : History) → IsFor role (made_by p) r → kind_of past r ≡ kind_of p.events r → is_some_and is_idle (kind_in_role role) ≡ false → KindsFit p.registrations p.events → IdleFit p.registrations p.idle past → IdleFit p.registrations p.idle (record { time = p.now; event = Call r } ∷ past)
other-fits r role p past i same h n f =
    called-fits r p.now p.registrations p.idle past (other-kind past r role (same ∙ (n.tie r i.registration.from_one ∙ ap kind_in_role i.role)) h) f

timer_unidle : (b : Bool) → is_some_and is_idle (kind_in_role (timer_role b)) ≡ false
timer_unidle true = refl
timer_unidle false = refl

begins-fit : (b : Beginning) (p : Page) → Waited b p → IsFor (role_of b) (made_by p) (called_by b) → KindsFit p.registrations p.events → armed.Fits p → Fits p → Fits (call_begun (called_by b) (taken b p))
begins-fit (TheScript source task) p w i n a f = other-fits 1 ScriptRole p p.events i refl refl n f
begins-fit (ATimer source task t) p w i n a f = other-fits t.registration (timer_role t.repeats) p p.events i refl (timer_unidle t.repeats) n f
begins-fit (AFrame key c) p w i n a f = other-fits c.registration (OfKind kind.Frame) p p.events i refl refl n f
begins-fit (AnIdle c others) p w i n a f = called-idly c others p w i n a f
begins-fit (ALateIdle handle c) p w i n a f =
    called-fits c.registration p.now p.registrations (IdleCallbacks.cancel c.handle p.idle) p.events (on_right (not (has_kind is_idle p.events c.registration)) (was_due p.events c.registration) w.1) (left-fits c.handle p.registrations p.idle p.events f)
begins-fit (AListener r) p w i n a f = other-fits r (OfKind kind.Listener) p p.events i refl refl n f
begins-fit (APost t) p w i n a f =
    other-fits t.registration (OfKind kind.Post) p (record { time = p.now; event = Turn p.turns (Some Sched) } ∷ p.events) i refl refl n (said (Turn p.turns (Some Sched)) p refl f)
begins-fit (AContinuation t) p w i n a f =
    other-fits t.registration (OfKind kind.Yield) p (record { time = p.now; event = Turn p.turns (Some Sched) } ∷ p.events) i refl refl n (said (Turn p.turns (Some Sched)) p refl f)
begins-fit (AMicro job others r) p w i n a f = other-fits r (OfKind kind.Micro) p (record { time = p.now; event = Run job.number } ∷ p.events) i refl refl n (said (Run job.number) p refl f)
begins-fit (AReaction job others of x r) p w i n a f = other-fits r (OfKind kind.Then) p (record { time = p.now; event = Run job.number } ∷ p.events) i refl refl n (said (Run job.number) p refl f)

pub moves-fit : {p q : Page} → Moves p q → once.Fits p → armed.Fits p → Fits p → Fits q
moves-fit here o t f = f
moves-fit (changing a c plain) o t f = change-fits c (moves-fit a o t f)
moves-fit (arming a c e w) o t f = change-fits e (change-fits c (moves-fit a o t f))
moves-fit (calling {q = q} a b w i) o t f = begins-fit b q w i (once.moves-fit a o).kinds (moves-armed a t) (moves-fit a o t f)
moves-fit (ending {q = q} a e h) o t f = said e q (end-plain e h) (moves-fit a o t f)
moves-fit (flagging {q = q} {r = r} a x y z w u v t j) o k f =
    same-idle r.registrations q.idle r.idle r.events (idle_of (places r) (places q) u)
    (subst (λ (xs : List Registration). IdleFit xs q.idle r.events) (sym z) (subst (IdleFit q.registrations q.idle) (sym y) (moves-fit a o k f)))
moves-fit (running {q = q} a j others x y nm) o t f = said (Run j.number) q refl (moves-fit a o t f)
moves-fit (framing {q = q} a n) o t f = said (Frame n) q refl (moves-fit a o t f)
moves-fit (idling a none) o t f = moves-fit a o t f

pub first_fits : (program : Program) (setup : Setup) (hosts : List HostClosure) → Fits (first_page program setup hosts)
first_fits program setup hosts = record { order = tt; called = λ q i. elim i [ ]; last = refl; none = refl; kept = tt }

-- from a first page on, idle callbacks are called before their deadlines
pub deadlines_kept : (program : Program) (setup : Setup) (hosts : List HostClosure) {q : Page} → Moves (first_page program setup hosts) q → Kept idle_test q.events
deadlines_kept program setup hosts a = (moves-fit a (once.first_fits program setup hosts) (first-armed program setup hosts) (first_fits program setup hosts)).kept
