-- Where a run ends for nothing is left to do, whatever was armed was due, but for dropped hosts: what is armed waits, and nothing waits then.
use Rattle.std.specs.List.{list_all}
use Rattle.page_parts.specs.TaskSignals.{Prios}
use Rattle.std.specs.Prelude.{if◌then◌else◌}
use Rattle.std.proofs.Common.{◌≡◌, ◌⊎◌, inl, inr, ℕ, suc, ◌≤◌, Bool, true, false, not, ◌&&◌, ◌||◌, List, [], ◌∷◌, Option, Some, None, refl, sym, subst, ap, ◌∙◌, cond, length, arith, eqb-true, is_some, ◌+◌, zero}
use Rattle.std.specs.Prelude.{◌==◌}
use Rattle.std.proofs.lemmas.Bool.{eq-eqb}
use Rattle.page_types.specs.declared.RegKind.{RegKind}
use Rattle.page_types.specs.declared.RegKind.TheVariants as kind
use Rattle.page_types.specs.declared.Source.TheVariants.{Sched}
use Rattle.page_types.specs.Events.{Event, Call, Turn, IdleLine, Frame, Reg, Run, Drop, Due, Arm, Enq, Host, Prio}
use Rattle.page_types.specs.Tree.{Program}
use Rattle.page_parts.specs.Setup.{Setup}
use Rattle.page_parts.specs.HostClosures.{HostClosure}
use Rattle.page_parts.specs.Words.{without, and_last, is_empty}
use Rattle.page_parts.specs.Promises.{the_promise}
use Rattle.page_parts.specs.Promises as Promises
use Rattle.page_parts.specs.Notices.{Notices, Noticed, changed, subscribe_promise, queue_micro, Context}
use Rattle.page_model.specs.State.{Page, OfKind, Registration, HostAnswer, emit, emit_each, on_notices, context, caller, IdleTimer, ScriptRole, Role}
use Rattle.page_model.specs.Invoke.{register_as, call_begun}
use Rattle.page_model.specs.PageTime.{deadline}
use Rattle.page_model.specs.Numbers.{Each}
use Rattle.page_model.specs.Turns.{first_page}
use Rattle.page_laws.specs.History.{History, armed_for, armed_in, has_kind, is_due_of, is_some_and, is_arm_of, is_drop_of, is_host, was_dropped}
use Rattle.page_laws.specs.SchedulerLaws.{armed_ever, arms_were_due, keeps_arms_due, was_each_due}
use Rattle.page_types.specs.declared.End.TheVariants.{Done}
use Rattle.page_types.specs.Events.{EndLine}
use Rattle.page_model.specs.Turns.{is_pending}
use Rattle.page_parts.specs.IdleCallbacks as IdleCallbacks
use Rattle.page_parts.specs.Words.{is_empty}
use Rattle.page_laws.proofs.DueOrder.{Grounds, first-grounds, grounds-later, not-armed}
use Rattle.page_laws.proofs.Arming.{in-total}
use Rattle.page_laws.proofs.Registered.{at_number, KindsFit, kind_in_role}
use Rattle.page_laws.proofs.Totals.{total-last, one_if, total}
use Rattle.page_laws.proofs.Ready.{in-last, emit_each-places, in-fewer}
use Rattle.page_laws.specs.Moves.{is_aside, is_end, ArmedAt, by_timer, by_idle, by_host, FirstIsPlain, PlaceIsPlain, role_at, is_delayed_role, IsIn, IsMade, Tells, IsPlain, PlaceArms, without_start, Places, places, PlaceChange, armed_again, signal_armed, idle_armed, DueChange, timer_due, delay_due, signal_due, idle_due, answer_due, promise_changes, AsBefore, PageChange, elsewhere, told, arm_told, rested, registered as made_one, promised, settled, followed, adopted, subscribed, micro_asked, then_asked, answered, dropped, frame_dropped, frame_asked, rejected_taken, noted, Beginning, TheScript, ATimer, AFrame, AnIdle, ALateIdle, AListener, APost, AContinuation, AMicro, AReaction, called_by, taken, task_dropped, enqueued_anew, fell_due, post_fell_due, prio_told, Moves, here, changing, arming, calling, ending, flagging, running, framing, idling, FirstPlace, nowhere, at_listener, at_timer, at_delay, at_idle, at_host, places_stay, task_queued, task_left, id_cleared, completed, idle_started, idle_queued, Dropping, timer_dropped, idle_dropped, listener_dropped}
use Rattle.page_laws.proofs.ArmedTimes.{is_quiet, aside-quiet, rest-quiet, end-quiet, quiet-armed}
use Rattle.page_laws.proofs.Arming.{counts_one, idle_waits, answer_waits}
use Rattle.page_laws.proofs.DueTimes.{waits, place-adds}
use Rattle.page_laws.proofs.Framed.{false_true}
use Rattle.page_laws.proofs.Lines.{added, emit_each-events, changed-each}
use Rattle.page_laws.proofs.Ready.{emit_each-places, in-fewer}
use Rattle.page_laws.proofs.Registered.{KindsFit}
use Rattle.page_laws.proofs.Scans.{Test, Kept}
use Rattle.page_laws.proofs.Totals.{total}

abbrev pub arms_due_test : Test
arms_due_test past e = keeps_arms_due past e.event

-- nothing is armed that is armed
abbrev keeps_apart : History → Event → Bool
keeps_apart past (Arm r due level) = not (is_some (armed_for past r))
keeps_apart past e = true

abbrev apart_test : Test
apart_test past e = keeps_apart past e.event

-- ---- lines

none_some : (due : ℕ) → None ≡ Some due → ⊥
none_some due e = Prim.cc

-- an arm line of r stands where r is not armed
apart-none : (past : History) (r : ℕ) (v : Event) → keeps_apart past v ≡ true → is_arm_of r v ≡ true → armed_for past r ≡ None
apart-none past r (Arm q due level) h k = by_armed (armed_for past r) refl
  where
    by_armed : (o : Option ℕ) → armed_for past r ≡ o → o ≡ None
    by_armed None e = refl
    by_armed (Some d) e = absurd (false_true (sym (ap {A = Option ℕ} {B = Bool} (λ o. not (is_some o)) (ap (armed_for past) (eqb-true q r k) ∙ e)) ∙ h))
apart-none past r v h k = absurd (false_true k)

arm-arms : (r : ℕ) (v : Event) (earlier : Option ℕ) → is_arm_of r v ≡ true → armed_in r v earlier ≡ None → ⊥
arm-arms r (Arm q due level) earlier k e = some_none (sym (ap {A = Bool} {B = Option ℕ} (λ b. cond b (Some due) earlier) k) ∙ e)
  where
    some_none : Some due ≡ None → ⊥
    some_none e = Prim.cc
arm-arms r v earlier k e = false_true k

other-arms : (r : ℕ) (v : Event) (earlier : Option ℕ) → is_arm_of r v ≡ false → is_due_of r v ≡ false → armed_in r v earlier ≡ earlier
other-arms r (Arm q due level) earlier k d = ap {A = Bool} {B = Option ℕ} (λ b. cond b (Some due) earlier) k
other-arms r (Due q) earlier k d = ap {A = Bool} {B = Option ℕ} (λ b. cond b None earlier) d
other-arms r v earlier k d = refl

-- each arm line of r has its due line, where r is not armed; and else but for the last
mutual
  arms-but_last : (r : ℕ) (past : History) → Kept apart_test past → arms_were_due r true past ≡ true
  arms-but_last r [] k = refl
  arms-but_last r (e ∷ past) k = by_arm (is_arm_of r e.event) refl (arms-all r past k.1) (arms-but_last r past k.1)
    where
      by_arm : (t : Bool) → is_arm_of r e.event ≡ t → (armed_for past r ≡ None → arms_were_due r false past ≡ true) → arms_were_due r true past ≡ true → if t then true && arms_were_due r false past else arms_were_due r (true || is_due_of r e.event) past ≡ true
      by_arm true q all rest = all (apart-none past r e.event k.0 q)
      by_arm false q all rest = rest

  arms-all : (r : ℕ) (past : History) → Kept apart_test past → armed_for past r ≡ None → arms_were_due r false past ≡ true
  arms-all r [] k h = refl
  arms-all r (e ∷ past) k h = by_arm (is_arm_of r e.event) refl (is_due_of r e.event) refl (arms-all r past k.1) (arms-but_last r past k.1)
    where
      by_arm : (t : Bool) → is_arm_of r e.event ≡ t → (u : Bool) → is_due_of r e.event ≡ u → (armed_for past r ≡ None → arms_were_due r false past ≡ true) → arms_were_due r true past ≡ true → if t then false && arms_were_due r false past else arms_were_due r (false || u) past ≡ true
      by_arm true q u d all rest = absurd (arm-arms r e.event (armed_for past r) q h)
      by_arm false q true d all rest = rest
      by_arm false q false d all rest = all (sym (other-arms r e.event (armed_for past r) q d) ∙ h)

-- ---- what fits the lines

-- an idle callback waits in its idle timeout, and a host's answer is pending or was dropped
abbrev WaitsStill : List Registration → Places → History → ℕ → Type 0
WaitsStill xs x past r =
    (role_at xs r ≡ OfKind kind.Idle × 1 ≤ total (idle_waits r) x.idle_timers)
    ⊎ (role_at xs r ≡ OfKind kind.Host × (1 ≤ total (answer_waits r) x.host_answers ⊎ was_dropped past r ≡ true))

record EndFit (xs : List Registration) (x : Places) (past : History) : Type 0 where
  others : (r due : ℕ) → is_delayed_role (role_at xs r) ≡ false → armed_for past r ≡ Some due → WaitsStill xs x past r
  handles : (t u : IdleTimer) → IsIn t x.idle_timers → IsIn u x.idle_timers → t.handle ≡ u.handle → t.registration ≡ u.registration
  apart : Kept apart_test past
  kept : Kept arms_due_test past

-- a line that arms nothing and tells of nothing that was due, where the same idle timeouts wait, and the same answers but those dropped
quiet-fits : (e : Event) (now : ℕ) (xs : List Registration) (x y : Places) (past : History) → is_quiet e ≡ true → keeps_arms_due past e ≡ true → y.idle_timers ≡ x.idle_timers → ((r : ℕ) → role_at xs r ≡ OfKind kind.Host → 1 ≤ total (answer_waits r) x.host_answers → 1 ≤ total (answer_waits r) y.host_answers ⊎ (is_drop_of r e ≡ true)) → EndFit xs x past → EndFit xs y (record { time = now; event = e } ∷ past)
quiet-fits e now xs x y past h k same hosts f =
    record {
      others = λ r due role a. by_place r (f.others r due role (sym (quiet-armed e r (armed_for past r) h) ∙ a));
      handles = λ t u i j. f.handles t u (subst (λ (ts : List IdleTimer). IsIn t ts) same i) (subst (λ (ts : List IdleTimer). IsIn u ts) same j);
      apart = (passes e h, f.apart);
      kept = (k, f.kept);
    }
  where
    passes : (e : Event) → is_quiet e ≡ true → keeps_apart past e ≡ true
    passes (Arm r due level) h = absurd (false_true h)
    passes e h = refl

    on_left : (a b : Bool) → a ≡ true → a || b ≡ true
    on_left true b h = refl
    on_left false b h = absurd (false_true h)

    on_right : (a b : Bool) → b ≡ true → a || b ≡ true
    on_right true b h = refl
    on_right false b h = h

    by_place : (r : ℕ) → WaitsStill xs x past r → WaitsStill xs y (record { time = now; event = e } ∷ past) r
    by_place r (inl w) = inl (w.0, let a = w.1 in let b = ap {A = List IdleTimer} {B = ℕ} (total (idle_waits r)) same in omega (arith, a, b))
    by_place r (inr w) = inr (w.0, by_host w.1)
      where
        by_more : 1 ≤ total (answer_waits r) y.host_answers ⊎ (is_drop_of r e ≡ true) → 1 ≤ total (answer_waits r) y.host_answers ⊎ (is_drop_of r e || was_dropped past r ≡ true)
        by_more (inl a) = inl a
        by_more (inr a) = inr (on_left (is_drop_of r e) (was_dropped past r) a)

        by_host : 1 ≤ total (answer_waits r) x.host_answers ⊎ was_dropped past r ≡ true → 1 ≤ total (answer_waits r) y.host_answers ⊎ (is_drop_of r e || was_dropped past r ≡ true)
        by_host (inl a) = by_more (hosts r w.0 a)
        by_host (inr a) = inr (on_right (is_drop_of r e) (was_dropped past r) a)

-- other places, without a line
same-fits : (xs : List Registration) (x y : Places) (past : History) → y.idle_timers ≡ x.idle_timers → y.host_answers ≡ x.host_answers → EndFit xs x past → EndFit xs y past
same-fits xs x y past same hosts f =
    record {
      others = λ r due role a. by_place r (f.others r due role a);
      handles = λ t u i j. f.handles t u (subst (λ (ts : List IdleTimer). IsIn t ts) same i) (subst (λ (ts : List IdleTimer). IsIn u ts) same j);
      apart = f.apart;
      kept = f.kept;
    }
  where
    by_place : (r : ℕ) → WaitsStill xs x past r → WaitsStill xs y past r
    by_place r (inl w) = inl (w.0, let a = w.1 in let b = ap {A = List IdleTimer} {B = ℕ} (total (idle_waits r)) same in omega (arith, a, b))
    by_place r (inr w) = inr (w.0, by_host w.1)
      where
        by_host : 1 ≤ total (answer_waits r) x.host_answers ⊎ was_dropped past r ≡ true → 1 ≤ total (answer_waits r) y.host_answers ⊎ was_dropped past r ≡ true
        by_host (inl a) = inl (let b = ap {A = List HostAnswer} {B = ℕ} (total (answer_waits r)) hosts in omega (arith, a, b))
        by_host (inr a) = inr a

at_zero : (xs : List Registration) → role_at xs 0 ≡ ScriptRole
at_zero [] = refl
at_zero (y ∷ ys) = refl

-- a registration is made, and what is armed was made before
grown-fits : (e : Registration) (xs : List Registration) (x : Places) (past : History) → ((r due : ℕ) → armed_for past r ≡ Some due → r ≤ length xs) → EndFit xs x past → EndFit (and_last xs e) x past
grown-fits e xs x past given f =
    record {
      others = λ r due role a. let same = old r (given r due a) in by_place r same (f.others r due (sym (ap is_delayed_role same) ∙ role) a);
      handles = f.handles;
      apart = f.apart;
      kept = f.kept;
    }
  where
    old : (r : ℕ) → r ≤ length xs → role_at (and_last xs e) r ≡ role_at xs r
    old zero le = at_zero (and_last xs e) ∙ sym (at_zero xs)
    old (suc i) le = ap {A = Registration} {B = Role} (λ y. y.role) (at_number xs e (suc i) (omega arith) (λ z. absurd (omega (arith, le, z))))

    by_place : (r : ℕ) → role_at (and_last xs e) r ≡ role_at xs r → WaitsStill xs x past r → WaitsStill (and_last xs e) x past r
    by_place r same (inl w) = inl (same ∙ w.0, w.1)
    by_place r same (inr w) = inr (same ∙ w.0, w.1)

-- ---- what is due

total-same : {X : Type 0} (w : X → ℕ) (gone : X → Bool) (xs : List X) → ((x : X) → IsIn x xs → gone x ≡ true → w x ≡ 0) → total w (without gone xs) ≡ total w xs
total-same w gone [] h = refl
total-same {X = X} w gone (x ∷ xs) h = by_test (gone x) refl (total-same w gone xs (λ y i. h y (inr i)))
  where
    by_test : (b : Bool) → gone x ≡ b → total w (without gone xs) ≡ total w xs → total w (cond b (without gone xs) (x ∷ without gone xs)) ≡ w x + total w xs
    by_test true e k = let z = h x (inl refl) e in omega (arith, k, z)
    by_test false e k = omega (arith, k)

apart-counts : (q r : ℕ) → (q ≡ r → ⊥) → one_if (q == r) ≡ 0
apart-counts q r h = by_test (q == r) refl
  where
    by_test : (b : Bool) → (q == r) ≡ b → one_if (q == r) ≡ 0
    by_test true e = absurd (h (eqb-true q r e))
    by_test false e = ap one_if e

-- a registration is due, and those of others wait as before
due-fits : (r now : ℕ) (xs : List Registration) (x y : Places) (past : History) → ((t : IdleTimer) → IsIn t y.idle_timers → IsIn t x.idle_timers) → ((q : ℕ) → (r ≡ q → ⊥) → total (idle_waits q) y.idle_timers ≡ total (idle_waits q) x.idle_timers × total (answer_waits q) y.host_answers ≡ total (answer_waits q) x.host_answers) → EndFit xs x past → EndFit xs y (record { time = now; event = Due r } ∷ past)
due-fits r now xs x y past within h f =
    record {
      others = λ q due role a. by_own q due role (r == q) refl a;
      handles = λ t u i j. f.handles t u (within t i) (within u j);
      apart = (refl, f.apart);
      kept = (refl, f.kept);
    }
  where
    by_place : (q : ℕ) → (r ≡ q → ⊥) → WaitsStill xs x past q → WaitsStill xs y (record { time = now; event = Due r } ∷ past) q
    by_place q other (inl w) = inl (w.0, let a = w.1 in let b = (h q other).0 in omega (arith, a, b))
    by_place q other (inr w) = inr (w.0, by_host w.1)
      where
        by_host : 1 ≤ total (answer_waits q) x.host_answers ⊎ was_dropped past q ≡ true → 1 ≤ total (answer_waits q) y.host_answers ⊎ was_dropped past q ≡ true
        by_host (inl a) = inl (let b = (h q other).1 in omega (arith, a, b))
        by_host (inr a) = inr a

    by_own : (q due : ℕ) → is_delayed_role (role_at xs q) ≡ false → (t : Bool) → (r == q) ≡ t → cond t None (armed_for past q) ≡ Some due → WaitsStill xs y (record { time = now; event = Due r } ∷ past) q
    by_own q due role true e a = absurd (none_some due a)
    by_own q due role false e a = by_place q (λ same. false_true (sym e ∙ eq-eqb r q same)) (f.others q due role a)

due-ends : {xs : List Registration} {r : ℕ} {x y : Places} → DueChange xs r x y → (now : ℕ) (past : History) → EndFit xs x past → EndFit xs y (record { time = now; event = Due r } ∷ past)
due-ends {xs = xs} {r = r} {x = x} {y = y} (timer_due start number source t e i role) now past f = due-fits r now xs x y past (λ t i. i) (λ q other. (refl, refl)) f
due-ends {xs = xs} {r = r} {x = x} {y = y} (delay_due start source e role) now past f = due-fits r now xs x y past (λ t i. i) (λ q other. (refl, refl)) f
due-ends {xs = xs} {r = r} {x = x} {y = y} (signal_due start s e role) now past f = due-fits r now xs x y past (λ t i. i) (λ q other. (refl, refl)) f
due-ends {xs = xs} {r = r} {x = x} {y = y} (idle_due t number source i e role) now past f =
    due-fits r now xs x y past (λ u j. in-fewer u (λ u. u.handle == t.handle) x.idle_timers j)
    (λ q other. (total-same (idle_waits q) (λ u. u.handle == t.handle) x.idle_timers (λ u j k. apart-counts u.registration q (λ same. other (sym e ∙ (sym (f.handles u t j i (eqb-true u.handle t.handle k)) ∙ same)))), refl)) f
due-ends {xs = xs} {r = r} {x = x} {y = y} (answer_due before a after number source e i role) now past f =
    due-fits r now xs x y past (λ u j. j)
    (λ q other. (refl, total-same (answer_waits q) (λ u. u.task.registration == a.task.registration) x.host_answers (λ u j k. apart-counts u.task.registration q (λ same. other (sym i ∙ (sym (eqb-true u.task.registration a.task.registration k) ∙ same)))))) f

-- ---- what is armed

-- a registration is armed that was not, and waits
arm-ends : (r due level now : ℕ) (xs : List Registration) (x y : Places) (past : History) → ArmedAt xs y r due → armed_for past r ≡ None → ((q : ℕ) → total (idle_waits q) x.idle_timers ≤ total (idle_waits q) y.idle_timers × total (answer_waits q) x.host_answers ≤ total (answer_waits q) y.host_answers)
    → ((t u : IdleTimer) → IsIn t y.idle_timers → IsIn u y.idle_timers → t.handle ≡ u.handle → t.registration ≡ u.registration) → EndFit xs x past → EndFit xs y (record { time = now; event = Arm r due level } ∷ past)
arm-ends r due level now xs x y past w none more same f =
    record {
      others = λ q t role a. by_own q t role (r == q) refl a;
      handles = same;
      apart = (ap {A = Option ℕ} {B = Bool} (λ o. not (is_some o)) none, f.apart);
      kept = (refl, f.kept);
    }
  where
    now_past : History
    now_past = record { time = now; event = Arm r due level } ∷ past

    by_place : (q : ℕ) → WaitsStill xs x past q → WaitsStill xs y (record { time = now; event = Arm r due level } ∷ past) q
    by_place q (inl v) = inl (v.0, let a = v.1 in let b = (more q).0 in omega (arith, a, b))
    by_place q (inr v) = inr (v.0, by_host v.1)
      where
        by_host : 1 ≤ total (answer_waits q) x.host_answers ⊎ was_dropped past q ≡ true → 1 ≤ total (answer_waits q) y.host_answers ⊎ was_dropped past q ≡ true
        by_host (inl a) = inl (let b = (more q).1 in omega (arith, a, b))
        by_host (inr a) = inr a

    of_place : ArmedAt xs y r due → is_delayed_role (role_at xs r) ≡ false → WaitsStill xs y (record { time = now; event = Arm r due level } ∷ past) r
    of_place (by_timer a c i e k own role) h = absurd (false_true (sym h ∙ role))
    of_place (by_idle t i e own role) h = inl (role, let a = in-total (idle_waits r) t y.idle_timers i in let b = counts_one t.registration r own in omega (arith, a, b))
    of_place (by_host a i e own role) h = inr (role, inl (let n = in-total (answer_waits r) a y.host_answers i in let b = counts_one a.task.registration r own in omega (arith, n, b)))

    by_own : (q t : ℕ) → is_delayed_role (role_at xs q) ≡ false → (b : Bool) → (r == q) ≡ b → cond b (Some due) (armed_for past q) ≡ Some t → WaitsStill xs y (record { time = now; event = Arm r due level } ∷ past) q
    by_own q t role true e a =
        let n = eqb-true r q e in
        subst (WaitsStill xs y (record { time = now; event = Arm r due level } ∷ past)) n (of_place w (ap {A = ℕ} {B = Bool} (λ m. is_delayed_role (role_at xs m)) n ∙ role))
    by_own q t role false e a = by_place q (f.others q t role a)

first-more : {made : List Registration} {ps : Prios} {r : ℕ} {x y : Places} → FirstPlace made ps r x y → (q : ℕ) → total (idle_waits q) x.idle_timers ≤ total (idle_waits q) y.idle_timers × total (answer_waits q) x.host_answers ≤ total (answer_waits q) y.host_answers
first-more nowhere q = (omega arith, omega arith)
first-more (at_listener target name n e) q = (omega arith, omega arith)
first-more (at_timer a t e first) q = (omega arith, omega arith)
first-more (at_delay ms now n source e h) q = (omega arith, omega arith)
first-more (at_idle n e) q = (omega arith, omega arith)
first-more {x = x} (at_host c a e there live) q = (omega arith, let b = total-last (answer_waits q) x.host_answers a in omega (arith, b))

first-idle : {made : List Registration} {ps : Prios} {r : ℕ} {x y : Places} → FirstPlace made ps r x y → y.idle_timers ≡ x.idle_timers
first-idle nowhere = refl
first-idle (at_listener target name n e) = refl
first-idle (at_timer a t e first) = refl
first-idle (at_delay ms now n source e h) = refl
first-idle (at_idle n e) = refl
first-idle (at_host c a e there live) = refl

first-hosts : {made : List Registration} {ps : Prios} {r : ℕ} {x y : Places} (u : FirstPlace made ps r x y) → FirstIsPlain u → y.host_answers ≡ x.host_answers
first-hosts nowhere h = refl
first-hosts (at_listener target name n e) h = refl
first-hosts (at_timer a t e first) h = refl
first-hosts (at_delay ms now n source e k) h = refl
first-hosts (at_idle n e) h = refl
first-hosts (at_host c a e there live) h = elim h [ ]

place-more : {made : List Registration} {x y : Places} → PlaceChange made x y → (q : ℕ) → total (idle_waits q) x.idle_timers ≤ total (idle_waits q) y.idle_timers × total (answer_waits q) x.host_answers ≤ total (answer_waits q) y.host_answers
place-more {x = x} (idle_armed t most own) q = (let b = total-last (idle_waits q) x.idle_timers t in omega (arith, b), omega arith)
place-more c q = (omega arith, omega arith)

place-hosts : {made : List Registration} {x y : Places} → PlaceChange made x y → y.host_answers ≡ x.host_answers
place-hosts places_stay = refl
place-hosts (task_queued t h plain) = refl
place-hosts (task_left number) = refl
place-hosts (armed_again a t role there next) = refl
place-hosts (signal_armed ms now r s) = refl
place-hosts (id_cleared id) = refl
place-hosts (idle_armed t most own) = refl
place-hosts (completed start gone) = refl
place-hosts idle_started = refl
place-hosts (idle_queued t e from) = refl

place-idle : {made : List Registration} {x y : Places} (c : PlaceChange made x y) → PlaceIsPlain c → y.idle_timers ≡ x.idle_timers
place-idle places_stay h = refl
place-idle (task_queued t e plain) h = refl
place-idle (task_left number) h = refl
place-idle (armed_again a t role there next) h = refl
place-idle (signal_armed ms now r s) h = refl
place-idle (id_cleared id) h = refl
place-idle (idle_armed t most own) h = elim h [ ]
place-idle (completed start gone) h = refl
place-idle idle_started h = refl
place-idle (idle_queued t e from) h = refl

place-handles : {made : List Registration} {x y : Places} (c : PlaceChange made x y) → (p : Page) → IsMade c p → x ≡ places p → ((t u : IdleTimer) → IsIn t x.idle_timers → IsIn u x.idle_timers → t.handle ≡ u.handle → t.registration ≡ u.registration)
    → (t u : IdleTimer) → IsIn t y.idle_timers → IsIn u y.idle_timers → t.handle ≡ u.handle → t.registration ≡ u.registration
place-handles {x = x} (idle_armed n most own) p k e h t u i j same = by_places (in-last t n x.idle_timers i) (in-last u n x.idle_timers j)
  where
    no_other : (v : IdleTimer) → IsIn v x.idle_timers → v.handle ≡ n.handle → ⊥
    no_other v i s = k.2 v (subst (λ (z : Places). IsIn v z.idle_timers) e i) s

    by_places : IsIn t x.idle_timers ⊎ (t ≡ n) → IsIn u x.idle_timers ⊎ (u ≡ n) → t.registration ≡ u.registration
    by_places (inl i) (inl j) = h t u i j same
    by_places (inl i) (inr v) = absurd (no_other t i (same ∙ ap {A = IdleTimer} {B = ℕ} (λ z. z.handle) v))
    by_places (inr v) (inl j) = absurd (no_other u j (sym same ∙ ap {A = IdleTimer} {B = ℕ} (λ z. z.handle) v))
    by_places (inr v) (inr w) = ap {A = IdleTimer} {B = ℕ} (λ z. z.registration) (v ∙ sym w)
place-handles c p k e h t u i j same = h t u i j same

-- ---- the end

-- nothing that waits is left where nothing is pending
pub record Empties (p : Page) : Type 0 where
  pub hosts : is_empty p.host_answers ≡ true
  pub active : is_empty p.timers.active ≡ true
  pub idles : is_empty p.idle_timers ≡ true

pub nothing-pending : (p : Page) → is_pending p ≡ false → Empties p
nothing-pending p h = by_tests (is_empty p.arrivals) (is_empty p.host_answers) refl (is_empty p.timers.active) refl (is_empty p.idle_timers) refl (is_empty p.frames.callbacks) h
  where
    by_tests : (a : Bool) (b : Bool) → is_empty p.host_answers ≡ b → (c : Bool) → is_empty p.timers.active ≡ c → (d : Bool) → is_empty p.idle_timers ≡ d → (e : Bool) → not (a && b && c && d && e) || IdleCallbacks.waits p.idle ≡ false → Empties p
    by_tests false b x c y d z e h = Prim.cc
    by_tests true false x c y d z e h = Prim.cc
    by_tests true true x false y d z e h = Prim.cc
    by_tests true true x true y false z e h = Prim.cc
    by_tests true true x true y true z e h = record { hosts = x; active = y; idles = z }

total-empty : {X : Type 0} (w : X → ℕ) (xs : List X) → is_empty xs ≡ true → total w xs ≡ 0
total-empty w [] h = refl
total-empty w (x ∷ xs) h = absurd (false_true h)

pub none-in : {X : Type 0} (x : X) (xs : List X) → is_empty xs ≡ true → IsIn x xs → ⊥
none-in x [] h i = i
none-in x (y ∷ ys) h i = false_true h

abbrev Fits : Page → Type 0
Fits p = EndFit p.registrations (places p) p.events

on_left : (a b : Bool) → a ≡ true → a || b ≡ true
on_left true b h = refl
on_left false b h = absurd (false_true h)

on_right : (a b : Bool) → b ≡ true → a || b ≡ true
on_right true b h = refl
on_right false b h = h

both : (a b : Bool) → a ≡ true → b ≡ true → a && b ≡ true
both true b x y = y
both false b x y = absurd (false_true x)

all-true : (test : ℕ → Bool) (rs : List ℕ) → ((r : ℕ) → test r ≡ true) → list_all test rs ≡ true
all-true test [] h = refl
all-true test (r ∷ rs) h = both (test r) (list_all test rs) (h r) (all-true test rs h)

-- what is for a host is so by the lines
host-kind : (xs : List Registration) (past : History) (r : ℕ) → KindsFit xs past → role_at xs r ≡ OfKind kind.Host → has_kind is_host past r ≡ true
host-kind xs past zero n role = absurd (no_script (sym (at_zero xs) ∙ role))
  where
    no_script : ScriptRole ≡ OfKind kind.Host → ⊥
    no_script e = Prim.cc
host-kind xs past (suc i) n role = ap {A = Option RegKind} {B = Bool} (λ o. is_some_and is_host o) (n.tie (suc i) (omega arith) ∙ ap kind_in_role role)

all-due : (p : Page) → Grounds p → Fits p → is_pending p ≡ false → list_all (was_each_due p.events) (armed_ever p.events) ≡ true
all-due p g f h = all-true (was_each_due p.events) (armed_ever p.events) (λ r. by_armed r (armed_for p.events r) refl)
  where
    left : Empties p
    left = nothing-pending p h

    by_still : (r : ℕ) → WaitsStill p.registrations (places p) p.events r → was_each_due p.events r ≡ true
    by_still r (inl w) = let a = w.1 in let b = total-empty (idle_waits r) p.idle_timers left.idles in absurd (omega (arith, a, b))
    by_still r (inr w) = by_host w.1
      where
        by_host : 1 ≤ total (answer_waits r) p.host_answers ⊎ was_dropped p.events r ≡ true → was_each_due p.events r ≡ true
        by_host (inl a) = let b = total-empty (answer_waits r) p.host_answers left.hosts in absurd (omega (arith, a, b))
        by_host (inr a) = on_right (arms_were_due r false p.events) (has_kind is_host p.events r && was_dropped p.events r) (both (has_kind is_host p.events r) (was_dropped p.events r) (host-kind p.registrations p.events r g.once.kinds w.0) a)

    by_role : (r due : ℕ) → armed_for p.events r ≡ Some due → (b : Bool) → is_delayed_role (role_at p.registrations r) ≡ b → was_each_due p.events r ≡ true
    by_role r due e true role = let k = g.armed.tie r due role e in absurd (none-in k.timer p.timers.active left.active k.active)
    by_role r due e false role = by_still r (f.others r due role e)

    by_armed : (r : ℕ) (o : Option ℕ) → armed_for p.events r ≡ o → was_each_due p.events r ≡ true
    by_armed r None e = on_left (arms_were_due r false p.events) (has_kind is_host p.events r && was_dropped p.events r) (arms-all r p.events f.apart e)
    by_armed r (Some due) e = by_role r due e (is_delayed_role (role_at p.registrations r)) refl

-- ---- moves

aside-passes : (e : Event) (past : History) → is_aside e ≡ true → keeps_arms_due past e ≡ true
aside-passes (EndLine Done) past h = absurd (false_true h)
aside-passes e past h = refl

end-passes : (e : Event) (past : History) → is_end e ≡ true → keeps_arms_due past e ≡ true
end-passes (EndLine Done) past h = absurd (false_true h)
end-passes e past h = refl

rest-passes : (e : Event) (past : History) → (e ≡ EndLine Done → list_all (was_each_due past) (armed_ever past) ≡ true) → keeps_arms_due past e ≡ true
rest-passes (EndLine Done) past h = h refl
rest-passes e past h = refl

abbrev Passes : Event → Type 0
Passes e = is_quiet e ≡ true × ((past : History) → keeps_arms_due past e ≡ true)

changed-passes : (current : Context) (names : List (List ℕ)) (n : ℕ) (c : Promises.Change) (s : Notices) → Each Passes (changed current names n c s).lines
changed-passes = changed-each Passes (λ n ok bs. (refl, λ past. refl)) (λ j what. (refl, λ past. refl))

before-fits : {p q : Page} → AsBefore p q → EndFit p.registrations (places q) p.events → Fits q
before-fits {p = p} {q = q} b f = subst (λ (xs : List Registration). EndFit xs (places q) q.events) (sym b.registrations) (subst (EndFit p.registrations (places q)) (sym b.events) f)

replaced : (xs : List Registration) (y z : Places) (past : History) → y ≡ z → EndFit xs z past → EndFit xs y past
replaced xs y z past e f = subst (λ (x : Places). EndFit xs x past) (sym e) f

line-fits : (e : Event) (now : ℕ) (xs : List Registration) (x y : Places) (past : History) → is_quiet e ≡ true → keeps_arms_due past e ≡ true → y.idle_timers ≡ x.idle_timers → y.host_answers ≡ x.host_answers → EndFit xs x past → EndFit xs y (record { time = now; event = e } ∷ past)
line-fits e now xs x y past h k same hosts f = quiet-fits e now xs x y past h k same (λ r role a. inl (let b = ap {A = List HostAnswer} {B = ℕ} (total (answer_waits r)) hosts in omega (arith, a, b))) f

said : (e : Event) (p : Page) → is_quiet e ≡ true → keeps_arms_due p.events e ≡ true → Fits p → Fits (emit e p)
said e p h k f = line-fits e p.now p.registrations (places p) (places p) p.events h k refl refl f

added-fits : (now : ℕ) (es : List Event) (xs : List Registration) (x : Places) (past : History) → Each Passes es → EndFit xs x past → EndFit xs x (added now es past)
added-fits now [] xs x past h f = f
added-fits now (e ∷ es) xs x past h f = added-fits now es xs x (record { time = now; event = e } ∷ past) h.1 (line-fits e now xs x x past h.0.0 (h.0.1 past) refl refl f)

emit_each-registrations : (es : List Event) (p : Page) → (emit_each es p).registrations ≡ p.registrations
emit_each-registrations [] p = refl
emit_each-registrations (e ∷ es) p = emit_each-registrations es (emit e p)

notices-fit : (f : Notices → Noticed) (p : Page) → Each Passes (f p.notices).lines → Fits p → Fits (on_notices f p)
notices-fit f p h k =
    let q : Page = record p { notices = (f p.notices).notices } in
    let lines = (f p.notices).lines in
    subst (λ (x : Places). EndFit (emit_each lines q).registrations x (emit_each lines q).events) (sym (emit_each-places lines q))
    (subst (λ (xs : List Registration). EndFit xs (places p) (emit_each lines q).events) (sym (emit_each-registrations lines q))
    (subst (EndFit p.registrations (places p)) (sym (emit_each-events lines q)) (added-fits p.now lines p.registrations (places p) p.events h k)))

changes-fit : (n : ℕ) (c : Promises.Change) (p : Page) → Fits p → Fits (promise_changes n c p)
changes-fit n c p f = notices-fit (λ s. changed (context p) p.names n c s) p (changed-passes (context p) p.names n c p.notices) f

subscribed-fits : (n : ℕ) (r : Promises.Reaction) (p : Page) → Fits p → Fits (on_notices (subscribe_promise (context p) n r) p)
subscribed-fits n r p f =
    notices-fit (subscribe_promise (context p) n r) p
    (changed-passes (context p) [] n (Promises.subscribe n (the_promise p.notices.promises n) r) (record p.notices { rejected = without (λ m. m == n) p.notices.rejected; outstanding = without (λ m. m == n) p.notices.outstanding })) f

registered-fits : (k : RegKind) (x : Registration) (p : Page) → Grounds p → Fits p → Fits (register_as k x p)
registered-fits k x p g f = line-fits (Reg (suc (length p.registrations)) k (caller p)) p.now (and_last p.registrations x) (places p) (places p) p.events refl refl refl refl (grown-fits x p.registrations (places p) p.events g.armed.given f)

drop-idle : {made : List Registration} {r : ℕ} {x y : Places} → Dropping made r x y → y.idle_timers ≡ x.idle_timers × y.host_answers ≡ x.host_answers
drop-idle (timer_dropped id there e own) = (refl, refl)
drop-idle (idle_dropped handle c e e1 role) = (refl, refl)
drop-idle (listener_dropped there role) = (refl, refl)

change-fits : {p q : Page} (c : PageChange p q) → IsPlain c → Grounds p → Fits p → Fits q
change-fits {p = p} {q = q} (elsewhere c b k) plain g f = before-fits b (same-fits p.registrations (places p) (places q) p.events (place-idle c plain) (place-hosts c) f)
change-fits {p = p} (told e h) plain g f = said e p (aside-quiet e h) (aside-passes e p.events h) f
change-fits (arm_told r due level w well) plain g f = elim plain [ ]
change-fits {p = p} (rested e h x y z over begun done) plain g f = said e p (rest-quiet e h) (rest-passes e p.events (λ k. all-due p g f (done k).1)) f
change-fits {p = p} {q = q} (answered source task u answer x y live z b) plain g f =
    before-fits b (replaced p.registrations (places q) _ _ z (line-fits (Host u.closure u.number answer) p.now p.registrations (places p) _ p.events refl refl refl refl f))
change-fits {p = p} {q = q} (made_one k x e unframed u b at) plain g f =
    before-fits b (same-fits (and_last p.registrations x) (places p) (places q) _ (first-idle u) (first-hosts u plain) (registered-fits k x p g f))
change-fits {p = p} {q = q} (enqueued_anew k x u queue e i s n b) plain g f =
    before-fits b
    (replaced (and_last p.registrations x) (places q) _ _ s
    (line-fits (Enq u.registration queue u.continuation u.order) p.now (and_last p.registrations x) (places p) _ (register_as k x p).events refl refl refl refl (registered-fits k x p g f)))
change-fits {p = p} {q = q} (fell_due r d b by) plain g f = before-fits b (due-ends d p.now p.events f)
change-fits {p = p} {q = q} (post_fell_due start source u queue e role a s n b by) plain g f =
    let gone : Places = without_start start (places p) in
    before-fits b
    (replaced p.registrations (places q) _ _ s
    (line-fits (Enq u.registration queue u.continuation u.order) p.now p.registrations gone _ _ refl refl refl refl (due-fits u.registration p.now p.registrations (places p) gone p.events (λ t i. i) (λ q other. (refl, refl)) f)))
change-fits {p = p} {q = q} (dropped r d b) plain g f = before-fits b (line-fits (Drop r) p.now p.registrations (places p) (places q) p.events refl refl (drop-idle d).0 (drop-idle d).1 f)
change-fits {p = p} (frame_dropped handle c e role) plain g f = line-fits (Drop c.registration) p.now p.registrations (places p) _ p.events refl refl refl refl f
change-fits {p = p} {q = q} (task_dropped r role a e s b) plain g f =
    before-fits b
    (replaced p.registrations (places q) _ _ s
    (quiet-fits (Drop r) p.now p.registrations (places p) _ p.events refl refl refl
    (λ n host h. by_number n h (r == n) refl) f))
  where
    by_number : (n : ℕ) → 1 ≤ total (answer_waits n) p.host_answers → (t : Bool) → (r == n) ≡ t → 1 ≤ total (answer_waits n) (without (λ u. u.task.registration == r) p.host_answers) ⊎ ((r == n) ≡ true)
    by_number n h true z = inr z
    by_number n h false z =
        let same = total-same (answer_waits n) (λ u. u.task.registration == r) p.host_answers (λ u j k. apart-counts u.task.registration n (λ e. false_true (sym z ∙ eq-eqb r n (sym (eqb-true u.task.registration r k) ∙ e)))) in
        inl (omega (arith, h, same))
change-fits {p = p} (prio_told s priority ps c) plain g f = said (Prio s priority) p refl refl f
change-fits {p = p} (frame_asked u) plain g f = registered-fits kind.Frame (record { role = OfKind kind.Frame; callback = Some u; second_callback = None; timer_id = 0; promise = 0; signal = None; finally = false }) p g f
change-fits promised plain g f = f
change-fits {p = p} (settled n how x y) plain g f = changes-fit n (Promises.settle n (the_promise p.notices.promises n) how) p f
change-fits {p = p} (followed n how x y) plain g f = changes-fit n (Promises.settle n (the_promise p.notices.promises n) how) p f
change-fits {p = p} (adopted n from x y) plain g f = changes-fit n (Promises.adopt n (the_promise p.notices.promises n) from) p f
change-fits {p = p} (subscribed n r x y) plain g f = subscribed-fits n r p f
change-fits {p = p} (then_asked n x r e u y) plain g f = subscribed-fits n r (register_as kind.Then x p) (registered-fits kind.Then x p g f)
change-fits {p = p} (micro_asked x r e y) plain g f = notices-fit (queue_micro (context p) r) (register_as kind.Micro x p) ((refl, λ past. refl), tt) (registered-fits kind.Micro x p g f)
change-fits rejected_taken plain g f = f
change-fits (noted n) plain g f = f

-- what is armed elsewhere and is not delayed is an idle callback
place-role : {made : List Registration} {x y : Places} (c : PlaceChange made x y) → (p : Page) → IsMade c p → made ≡ p.registrations → (r due : ℕ) → PlaceArms c r due → is_delayed_role (role_at p.registrations r) ≡ true ⊎ (role_at p.registrations r ≡ OfKind kind.Idle)
place-role (armed_again a t role there next) p k e r due h = inl (ap {A = ℕ} {B = Bool} (λ n. is_delayed_role (role_at p.registrations n)) h.0 ∙ (ap {A = List Registration} {B = Bool} (λ xs. is_delayed_role (role_at xs t.registration)) (sym e) ∙ ap is_delayed_role role))
place-role (signal_armed ms now q s) p k e r due h = inl (ap {A = ℕ} {B = Bool} (λ n. is_delayed_role (role_at p.registrations n)) h.0 ∙ ap is_delayed_role k.0)
place-role (idle_armed t most own) p k e r due h = inr (ap (role_at p.registrations) h.0 ∙ k.0)
place-role c p k e r due h = elim h [ ]

-- a change that arms, and its line
arms-fit : {p q s : Page} (c : PageChange p q) (d : PageChange q s) → Tells c d → Grounds p → Fits p → Fits s
arms-fit {p = p} {q = q} (made_one k x e unframed u b at) (arm_told r due level w well) h g f =
    arm-ends r due level q.now q.registrations (places p) (places q) q.events w
    (ap (λ (past : History). armed_for past r) b.events ∙ (ap (armed_for p.events) h.0 ∙ not-armed p g (suc (length p.registrations)) (inr (omega arith)) none)) (first-more u)
    (λ t v i j. f.handles t v (subst (λ (ts : List IdleTimer). IsIn t ts) (first-idle u) i) (subst (λ (ts : List IdleTimer). IsIn v ts) (first-idle u) j))
    (subst (λ (xs : List Registration). EndFit xs (places p) q.events) (sym b.registrations) (subst (EndFit (and_last p.registrations x) (places p)) (sym b.events) (registered-fits k x p g f)))
  where
    none : waits (suc (length p.registrations)) (places p) ≤ 0
    none = let a = g.tidy.fresh (suc (length p.registrations)) (omega arith) in omega (arith, a)
arms-fit {p = p} {q = q} (elsewhere c b k) (arm_told r due level w well) h g f =
    let adds = place-adds c p k refl r due h.0 p.events g.times in
    arm-ends r due level q.now q.registrations (places p) (places q) q.events w
    (ap (λ (past : History). armed_for past r) b.events ∙ by_role (place-role c p k refl r due h.0) adds.none (armed_for p.events r) refl) (place-more c)
    (place-handles c p k refl f.handles)
    (subst (λ (xs : List Registration). EndFit xs (places p) q.events) (sym b.registrations) (subst (EndFit p.registrations (places p)) (sym b.events) f))
  where
    no_host : OfKind kind.Idle ≡ OfKind kind.Host → ⊥
    no_host e = Prim.cc

    by_still : role_at p.registrations r ≡ OfKind kind.Idle → waits r (places p) ≤ 0 → WaitsStill p.registrations (places p) p.events r → ⊥
    by_still role none (inl v) = let a = v.1 in omega (arith, a, none)
    by_still role none (inr v) = no_host (sym role ∙ v.0)

    by_role : is_delayed_role (role_at p.registrations r) ≡ true ⊎ (role_at p.registrations r ≡ OfKind kind.Idle) → waits r (places p) ≤ 0 → (o : Option ℕ) → armed_for p.events r ≡ o → armed_for p.events r ≡ None
    by_role (inl role) none o e = not-armed p g r (inl role) none
    by_role (inr role) none None e = e
    by_role (inr role) none (Some t) e = absurd (by_still role none (f.others r t (ap is_delayed_role role) e))
arms-fit c d h g f = elim h [ ]

called-fits : (p : Page) (r : ℕ) (x : Places) (past : History) → x.idle_timers ≡ p.idle_timers → x.host_answers ≡ p.host_answers → EndFit p.registrations (places p) past → EndFit p.registrations x (record { time = p.now; event = Call r } ∷ past)
called-fits p r x past a b f = line-fits (Call r) p.now p.registrations (places p) x past refl refl a b f

begins-fit : (b : Beginning) (p : Page) → Fits p → Fits (call_begun (called_by b) (taken b p))
begins-fit (TheScript source task) p f = called-fits p _ _ p.events refl refl f
begins-fit (ATimer source task t) p f = called-fits p _ _ p.events refl refl f
begins-fit (AFrame key c) p f = called-fits p _ _ p.events refl refl f
begins-fit (AnIdle c others) p f = called-fits p _ _ _ refl refl (said (IdleLine (deadline p.last_idle_start p)) p refl refl f)
begins-fit (ALateIdle handle c) p f = called-fits p _ _ p.events refl refl f
begins-fit (AListener r) p f = called-fits p _ _ p.events refl refl f
begins-fit (APost t) p f = called-fits p _ _ _ refl refl (said (Turn p.turns (Some Sched)) p refl refl f)
begins-fit (AContinuation t) p f = called-fits p _ _ _ refl refl (said (Turn p.turns (Some Sched)) p refl refl f)
begins-fit (AMicro job others r) p f = called-fits p _ _ _ refl refl (said (Run job.number) p refl refl f)
begins-fit (AReaction job others of x r) p f = called-fits p _ _ _ refl refl (said (Run job.number) p refl refl f)

moves-fit : {p q : Page} → Moves p q → Grounds p → Fits p → Fits q
moves-fit here g f = f
moves-fit (changing a c plain) g f = change-fits c plain (grounds-later a g) (moves-fit a g f)
moves-fit (arming a c d w) g f = arms-fit c d w (grounds-later a g) (moves-fit a g f)
moves-fit (calling {q = q} a b w i) g f = begins-fit b q (moves-fit a g f)
moves-fit (ending {q = q} a e h) g f = said e q (end-quiet e h) (end-passes e q.events h) (moves-fit a g f)
moves-fit (flagging {q = q} {r = r} a x y z w u v k j) g f =
    replaced r.registrations (places r) (places q) r.events u (subst (λ (xs : List Registration). EndFit xs (places q) r.events) (sym z) (subst (EndFit q.registrations (places q)) (sym y) (moves-fit a g f)))
moves-fit (running {q = q} a j others x y nm) g f = said (Run j.number) q refl refl (moves-fit a g f)
moves-fit (framing {q = q} a n) g f = said (Frame n) q refl refl (moves-fit a g f)
moves-fit (idling a none) g f = moves-fit a g f

-- from a first page on, each arm was due where a run ends for nothing is left to do
pub arms_due_at_end : (program : Program) (setup : Setup) (hosts : List HostClosure) {q : Page} → Moves (first_page program setup hosts) q → Kept arms_due_test q.events
arms_due_at_end program setup hosts a = (moves-fit a (first-grounds program setup hosts) first).kept
  where
    first : Fits (first_page program setup hosts)
    first = record { others = λ r due role e. absurd (none_some due e); handles = λ t u i. elim i [ ]; apart = tt; kept = tt }
