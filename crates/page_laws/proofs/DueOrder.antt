-- What is due was armed behind all that were armed before for no later time: those were due before, since active timers stand in the order
-- of their arms, and the first of least due time completes.
use Rattle.std.proofs.Common.{◌≡◌, ◌⊎◌, inl, inr, ℕ, suc, ◌≤◌, ◌<◌, Bool, true, false, not, ◌&&◌, ◌||◌, List, [], ◌∷◌, ◌++◌, Option, Some, None, refl, sym, subst, ap, ◌∙◌, cond, length, arith, eqb-true, unwrap_or, nat_le, is_some}
use Rattle.std.specs.Prelude.{◌==◌}
use Rattle.std.proofs.lemmas.Bool.{eq-eqb, leb-true}
use Rattle.page_types.specs.declared.RegKind.{RegKind}
use Rattle.page_types.specs.declared.RegKind.TheVariants as kind
use Rattle.page_types.specs.declared.Source.TheVariants.{Sched}
use Rattle.page_types.specs.Events.{Event, Call, Turn, IdleLine, Frame, Reg, Run, Drop, Due, Arm, Enq, Host, Prio, Stamped}
use Rattle.page_types.specs.Tree.{Program}
use Rattle.page_parts.specs.Setup.{Setup}
use Rattle.page_parts.specs.HostClosures.{HostClosure}
use Rattle.page_parts.specs.Timers.{ActiveTimer}
use Rattle.page_parts.specs.Words.{without}
use Rattle.page_parts.specs.Promises.{the_promise}
use Rattle.page_parts.specs.Promises as Promises
use Rattle.page_parts.specs.Notices.{Notices, Noticed, changed, subscribe_promise, queue_micro}
use Rattle.page_model.specs.State.{Page, OfKind, Registration, Completion, QueueTimer, EnqueuePost, QueueSignal, HostAnswer, emit, emit_each, on_notices, context, caller}
use Rattle.page_model.specs.Invoke.{register_as, call_begun}
use Rattle.page_model.specs.PageTime.{completion_of, deadline}
use Rattle.page_model.specs.Numbers.{Each}
use Rattle.page_model.specs.Turns.{first_page}
use Rattle.page_laws.specs.History.{History, armed_for, armed_in, has_kind, is_delayed, is_due_of, is_reg_of, is_some_and, kind_of, registered, some_line, was_due}
use Rattle.page_laws.specs.TimerLaws.{all_due, armed_passes, goes_in_order, keeps_due_order, passes_none}
use Rattle.page_laws.specs.Moves.{role_at, is_delayed_role, IsIn, IsMade, IsFirstDue, IsTimerDue, IsDueBy, Tells, IsPlain, PlaceArms, completes_for, completions_but, without_start, Places, places, PlaceChange, armed_again, signal_armed, idle_armed, DueChange, timer_due, delay_due, signal_due, idle_due, answer_due, promise_changes, AsBefore, PageChange, elsewhere, told, arm_told, rested, registered as made_one, promised, settled, followed, adopted, subscribed, micro_asked, then_asked, answered, dropped, frame_dropped, frame_asked, rejected_taken, noted, Beginning, TheScript, ATimer, AFrame, AnIdle, ALateIdle, AListener, APost, AContinuation, AMicro, AReaction, called_by, taken, task_dropped, enqueued_anew, fell_due, post_fell_due, prio_told, Moves, here, changing, arming, calling, ending, flagging, running, framing, idling}
use Rattle.page_laws.proofs.ArmedTimes as armed
use Rattle.page_laws.proofs.ArmedTimes.{AtTimer, is_quiet, aside-quiet, rest-quiet, end-quiet, Quiet, changed-quiet, first-armed, moves-armed}
use Rattle.page_laws.proofs.Arming.{Tidy, moves-tidy, first-tidy, steps_wait, counts_one, in-less, idle_waits, answer_waits, completed-fewer}
use Rattle.page_laws.proofs.Deadlines as deadlines
use Rattle.page_laws.proofs.Deadlines.{all-kept, delayed_role}
use Rattle.page_laws.proofs.DueTimes as times
use Rattle.page_laws.proofs.DueTimes.{TimesFit, Within, within-same, within-start, same-within, StandsIn, Sorted, Adds, waits, found-counts, first-in, once-waits, first-adds, place-adds, place-within, first-within, drop-within, made-fits}
use Rattle.page_laws.proofs.Framed.{false_true}
use Rattle.page_laws.proofs.Lines.{added, emit_each-events}
use Rattle.page_laws.proofs.Once as once
use Rattle.page_laws.proofs.Ready.{emit_each-places, in-fewer}
use Rattle.page_laws.proofs.Registered.{KindsFit}
use Rattle.page_laws.proofs.Scans.{Test, Kept}
use Rattle.page_laws.proofs.Totals.{total}

abbrev pub order_test : Test
order_test past e = keeps_due_order past e.event

-- ---- what was armed before

-- registration b waits for time t in an active timer that stands before start number s
pub record Earlier (x : Places) (b t s : ℕ) : Type 0 where
  pub timer : ActiveTimer
  pub completion : Completion
  pub stands : StandsIn x timer completion
  pub own : completes_for completion ≡ b
  pub time : timer.due ≡ t
  pub before : timer.start < s

-- What was active where registration r was armed was due since, or waits still, before start number s; and r was armed for time d.
abbrev ArmedBefore : (x : Places) (r s d : ℕ) → Event → (older newer : History) → Type 0
ArmedBefore x r s d (Arm q due level) older newer =
    q ≡ r → due ≡ d × ((b t : ℕ) → (b ≡ r → ⊥) → has_kind is_delayed older b ≡ true → armed_for older b ≡ Some t → was_due newer b ≡ true ⊎ Earlier x b t s)
ArmedBefore x r s d e older newer = Unit {0}

-- the same of each line back to where r was due before
abbrev Passed : (x : Places) (r s d : ℕ) (newer past : History) → Type 0
Passed x r s d newer [] = Unit {0}
Passed x r s d newer (e ∷ past) = is_due_of r e.event ≡ true ⊎ (ArmedBefore x r s d e.event past newer × Passed x r s d (e ∷ newer) past)

-- of each registration that waits in an active timer
pub record OrderFit (x : Places) (past : History) : Type 0 where
  pub passed : (a : ActiveTimer) (c : Completion) → StandsIn x a c → Passed x (completes_for c) a.start a.due [] past
  pub sorted : Sorted x.timers.active
  pub kept : Kept order_test past

-- ---- lines

due-last : (b : ℕ) (newer : History) (e : Stamped) → is_due_of b e.event ≡ true → was_due (newer ++ e ∷ []) b ≡ true
due-last b [] e h = ap {A = Bool} {B = Bool} (λ t. t || false) h
due-last b (n ∷ newer) e h = by_test (is_due_of b n.event) (due-last b newer e h)
  where
    by_test : (t : Bool) → was_due (newer ++ e ∷ []) b ≡ true → t || was_due (newer ++ e ∷ []) b ≡ true
    by_test true k = refl
    by_test false k = k

due-more : (b : ℕ) (newer : History) (e : Stamped) → was_due newer b ≡ true → was_due (newer ++ e ∷ []) b ≡ true
due-more b [] e h = absurd (false_true h)
due-more b (n ∷ newer) e h = by_test (is_due_of b n.event) h (due-more b newer e)
  where
    by_test : (t : Bool) → t || was_due newer b ≡ true → (was_due newer b ≡ true → was_due (newer ++ e ∷ []) b ≡ true) → t || was_due (newer ++ e ∷ []) b ≡ true
    by_test true h rest = refl
    by_test false h rest = rest h

-- a line more, behind which what waited before waits still, or was due in it
passed-later : (e : Stamped) (x y : Places) (r s d : ℕ) (newer past : History) → ((b t : ℕ) → Earlier x b t s → is_due_of b e.event ≡ true ⊎ Earlier y b t s) → Passed x r s d newer past → Passed y r s d (newer ++ e ∷ []) past
passed-later e x y r s d newer [] h p = tt
passed-later e x y r s d newer (f ∷ past) h (inl k) = inl k
passed-later e x y r s d newer (f ∷ past) h (inr k) = inr (by_event f.event k.0, passed-later e x y r s d (f ∷ newer) past h k.1)
  where
    by_place : (b t : ℕ) → was_due newer b ≡ true ⊎ Earlier x b t s → was_due (newer ++ e ∷ []) b ≡ true ⊎ Earlier y b t s
    by_place b t (inl w) = inl (due-more b newer e w)
    by_place b t (inr w) = by_line (h b t w)
      where
        by_line : is_due_of b e.event ≡ true ⊎ Earlier y b t s → was_due (newer ++ e ∷ []) b ≡ true ⊎ Earlier y b t s
        by_line (inl z) = inl (due-last b newer e z)
        by_line (inr z) = inr z

    by_event : (v : Event) → ArmedBefore x r s d v past newer → ArmedBefore y r s d v past (newer ++ e ∷ [])
    by_event (Arm q due level) k = λ same. ((k same).0, λ b t other delayed a. by_place b t ((k same).1 b t other delayed a))
    by_event v k = tt

-- other places
passed-moved : (x y : Places) (r s d : ℕ) (newer past : History) → ((b t : ℕ) → Earlier x b t s → Earlier y b t s) → Passed x r s d newer past → Passed y r s d newer past
passed-moved x y r s d newer [] h p = tt
passed-moved x y r s d newer (f ∷ past) h (inl k) = inl k
passed-moved x y r s d newer (f ∷ past) h (inr k) = inr (by_event f.event k.0, passed-moved x y r s d (f ∷ newer) past h k.1)
  where
    by_place : (b t : ℕ) → was_due newer b ≡ true ⊎ Earlier x b t s → was_due newer b ≡ true ⊎ Earlier y b t s
    by_place b t (inl w) = inl w
    by_place b t (inr w) = inr (h b t w)

    by_event : (v : Event) → ArmedBefore x r s d v past newer → ArmedBefore y r s d v past newer
    by_event (Arm q due level) k = λ same. ((k same).0, λ b t other delayed a. by_place b t ((k same).1 b t other delayed a))
    by_event v k = tt

-- what is not armed by the lines was not armed since it was due
passed-none : (x : Places) (r s d : ℕ) (newer past : History) → armed_for past r ≡ None → Passed x r s d newer past
passed-none x r s d newer [] h = tt
passed-none x r s d newer (e ∷ past) h = by_line (by_event e.event h) (λ k. passed-none x r s d (e ∷ newer) past k)
  where
    some_none : (due : ℕ) → Some due ≡ None → ⊥
    some_none due k = Prim.cc

    by_event : (v : Event) → armed_in r v (armed_for past r) ≡ None → is_due_of r v ≡ true ⊎ (ArmedBefore x r s d v past newer × armed_for past r ≡ None)
    by_event (Arm q due level) h = by_test (q == r) refl h
      where
        by_test : (t : Bool) → (q == r) ≡ t → cond t (Some due) (armed_for past r) ≡ None → (false ≡ true) ⊎ ((q ≡ r → due ≡ d × ((b t : ℕ) → (b ≡ r → ⊥) → has_kind is_delayed past b ≡ true → armed_for past b ≡ Some t → was_due newer b ≡ true ⊎ Earlier x b t s)) × armed_for past r ≡ None)
        by_test true k h = absurd (some_none due h)
        by_test false k h = inr (λ same. absurd (false_true (sym k ∙ eq-eqb q r same)), h)
    by_event (Due q) h = by_test (q == r) h
      where
        by_test : (t : Bool) → cond t None (armed_for past r) ≡ None → t ≡ true ⊎ (Unit {0} × armed_for past r ≡ None)
        by_test true h = inl refl
        by_test false h = inr (tt, h)
    by_event v h = inr (tt, h)

    by_line : is_due_of r e.event ≡ true ⊎ (ArmedBefore x r s d e.event past newer × armed_for past r ≡ None) → (armed_for past r ≡ None → Passed x r s d (e ∷ newer) past) → Passed x r s d newer (e ∷ past)
    by_line (inl k) rest = inl k
    by_line (inr k) rest = inr (k.0, rest k.1)

quiet-before : (x : Places) (r s d : ℕ) (e : Event) (older newer : History) → is_quiet e ≡ true → ArmedBefore x r s d e older newer
quiet-before x r s d (Arm q due level) older newer h = absurd (false_true h)
quiet-before x r s d e older newer h = tt

-- what stands before stands so still
earlier-stays : (x y : Places) (b t s : ℕ) → Within None x y → Earlier x b t s → Earlier y b t s
earlier-stays x y b t s w k =
    record { timer = k.timer; completion = k.completion; stands = by_place (w.stays k.timer k.completion k.stands); own = k.own; time = k.time; before = k.before }
  where
    no_some : None ≡ Some k.timer.start → ⊥
    no_some e = Prim.cc

    by_place : (None ≡ Some k.timer.start) ⊎ StandsIn y k.timer k.completion → StandsIn y k.timer k.completion
    by_place (inl e) = absurd (no_some e)
    by_place (inr h) = h

quiet-fits : (e : Event) (now : ℕ) (x y : Places) (past : History) → is_quiet e ≡ true → Within None x y → OrderFit x past → OrderFit y (record { time = now; event = e } ∷ past)
quiet-fits e now x y past h w f =
    record {
      passed = λ a c k.
          inr (
            quiet-before y (completes_for c) a.start a.due e past [] h,
            passed-later (record { time = now; event = e }) x y (completes_for c) a.start a.due [] past (λ b t z. inr (earlier-stays x y b t a.start w z)) (f.passed a c (w.active a k.0, w.found a.start c k.1)),
          );
      sorted = w.sorted f.sorted;
      kept = (passes e h, f.kept);
    }
  where
    passes : (e : Event) → is_quiet e ≡ true → keeps_due_order past e ≡ true
    passes (Due r) h = absurd (false_true h)
    passes e h = refl

within-fits : (x y : Places) (past : History) → Within None x y → OrderFit x past → OrderFit y past
within-fits x y past w f =
    record {
      passed = λ a c k. passed-moved x y (completes_for c) a.start a.due [] past (λ b t z. earlier-stays x y b t a.start w z) (f.passed a c (w.active a k.0, w.found a.start c k.1));
      sorted = w.sorted f.sorted;
      kept = f.kept;
    }

-- ---- what is due

-- no timer that stands before the first of least due time is due as early
first-before : (t a : ActiveTimer) (ts : List ActiveTimer) → IsFirstDue t ts → Sorted ts → IsIn a ts → a.start < t.start → t.due < a.due
first-before t a [] h k i lt = elim i [ ]
first-before t a (b ∷ bs) (inl h) k (inl e) lt =
    let same = ap {A = ActiveTimer} {B = ℕ} (λ u. u.start) (e ∙ sym h.0) in absurd (omega (arith, same, lt))
first-before t a (b ∷ bs) (inl h) k (inr i) lt =
    let less = k.0 a i in let same = ap {A = ActiveTimer} {B = ℕ} (λ u. u.start) h.0 in absurd (omega (arith, less, same, lt))
first-before t a (b ∷ bs) (inr h) k (inl e) lt = let same = ap {A = ActiveTimer} {B = ℕ} (λ u. u.due) e in let less = h.0 in omega (arith, same, less)
first-before t a (b ∷ bs) (inr h) k (inr i) lt = first-before t a bs h.1 k.1 i lt

-- then r passes none that was armed before for no later time
passed-passes : (x : Places) (r s d : ℕ) (newer past : History) → ((b t : ℕ) → Earlier x b t s → t ≤ d → ⊥) → Passed x r s d newer past → passes_none r newer past ≡ true
passed-passes x r s d newer [] none p = refl
passed-passes x r s d newer (e ∷ past) none (inl k) = ap {A = Bool} {B = Bool} (λ b. cond b true (armed_passes r e.event past newer && passes_none r (e ∷ newer) past)) k
passed-passes x r s d newer (e ∷ past) none (inr k) = by_due (is_due_of r e.event) (by_event e.event k.0) (passed-passes x r s d (e ∷ newer) past none k.1)
  where
    by_due : (t : Bool) → armed_passes r e.event past newer ≡ true → passes_none r (e ∷ newer) past ≡ true → cond t true (armed_passes r e.event past newer && passes_none r (e ∷ newer) past) ≡ true
    by_due true u v = refl
    by_due false u v = both (armed_passes r e.event past newer) u v
      where
        both : (a : Bool) → a ≡ true → passes_none r (e ∷ newer) past ≡ true → a && passes_none r (e ∷ newer) past ≡ true
        both true u v = v
        both false u v = absurd (false_true u)

    by_event : (v : Event) → ArmedBefore x r s d v past newer → armed_passes r v past newer ≡ true
    by_event (Arm q due level) k = by_own (q == r) refl
      where
        each : q ≡ r → (b : ℕ) → has_kind is_delayed past b ≡ true → (b == r) || not (is_some_and (λ t. nat_le t due) (armed_for past b)) || was_due newer b ≡ true
        each same b delayed = by_number (b == r) refl
          where
            by_place : (t : ℕ) → t ≤ due → was_due newer b ≡ true ⊎ Earlier x b t s → was_due newer b ≡ true
            by_place t le (inl w) = w
            by_place t le (inr w) = let own = (k same).0 in absurd (none b t w (omega (arith, le, own)))

            by_armed : (b ≡ r → ⊥) → (o : Option ℕ) → armed_for past b ≡ o → not (is_some_and (λ t. nat_le t due) o) || was_due newer b ≡ true
            by_armed other None z = refl
            by_armed other (Some t) z = by_time (nat_le t due) refl
              where
                by_time : (u : Bool) → nat_le t due ≡ u → not u || was_due newer b ≡ true
                by_time true v = by_place t (leb-true t due v) ((k same).1 b t other delayed z)
                by_time false v = refl

            by_number : (u : Bool) → (b == r) ≡ u → u || not (is_some_and (λ t. nat_le t due) (armed_for past b)) || was_due newer b ≡ true
            by_number true z = refl
            by_number false z = by_armed (λ e. false_true (sym z ∙ eq-eqb b r e)) (armed_for past b) refl

        by_own : (u : Bool) → (q == r) ≡ u → not u || all_due past r due newer ≡ true
        by_own true z = all-kept (λ b. is_some (armed_for past b)) (has_kind is_delayed past) _ (registered past) (λ b some delayed. each (eqb-true q r z) b delayed)
        by_own false z = refl
    by_event v k = refl

-- a registration is due, and goes in order
due-fits : (r now : ℕ) (left : Option ℕ) (x y : Places) (past : History) → Within left x y → waits r y ≤ 0 → ((a : ActiveTimer) (c : Completion) → left ≡ Some a.start → completion_of x.completions a.start ≡ Some c → completes_for c ≡ r) → goes_in_order past r ≡ true → OrderFit x past → OrderFit y (record { time = now; event = Due r } ∷ past)
due-fits r now left x y past w none own h f =
    record {
      passed = λ a c k. inr (tt, passed-later (record { time = now; event = Due r }) x y (completes_for c) a.start a.due [] past (λ b t z. by_place b t a.start z (w.stays z.timer z.completion z.stands)) (f.passed a c (w.active a k.0, w.found a.start c k.1)));
      sorted = w.sorted f.sorted;
      kept = (h, f.kept);
    }
  where
    by_place : (b t s : ℕ) (z : Earlier x b t s) → (left ≡ Some z.timer.start) ⊎ StandsIn y z.timer z.completion → (r == b) ≡ true ⊎ Earlier y b t s
    by_place b t s z (inl k) = inl (eq-eqb r b (sym (own z.timer z.completion k z.stands.1) ∙ z.own))
    by_place b t s z (inr k) = inr (record { timer = z.timer; completion = z.completion; stands = k; own = z.own; time = z.time; before = z.before })

on_right : (a b : Bool) → b ≡ true → a || b ≡ true
on_right true b h = refl
on_right false b h = h

the_some : {X : Type 0} (a b : X) → Some a ≡ Some b → a ≡ b
the_some {X = X} a b e = ap {A = Option X} {B = X} (λ o. unwrap_or o a) e

-- the active timer of a start is due, whose steps are for r
timer-order : (r now start : ℕ) (c : Completion) (x y : Places) (past : History) → completion_of x.completions start ≡ Some c → completes_for c ≡ r → IsTimerDue x start now → Within (Some start) x y → y.completions ≡ completions_but start x.completions → y.idle_timers ≡ x.idle_timers → y.host_answers ≡ x.host_answers → waits r x ≤ 1 → OrderFit x past
    → OrderFit y (record { time = now; event = Due r } ∷ past)
timer-order r now start c x y past e own by w u v z once f =
    let less = completed-fewer r start x.completions c e in
    let one = counts_one (completes_for c) r own in
    let same : total (steps_wait r) y.completions ≡ total (steps_wait r) (completions_but start x.completions) = ap (total (steps_wait r)) u in
    let same1 : total (idle_waits r) y.idle_timers ≡ total (idle_waits r) x.idle_timers = ap (total (idle_waits r)) v in
    let same2 : total (answer_waits r) y.host_answers ≡ total (answer_waits r) x.host_answers = ap (total (answer_waits r)) z in
    due-fits r now (Some start) x y past w (omega (arith, less, one, same, same1, same2, once))
    (λ a d k l. sym (ap completes_for (the_some c d (sym e ∙ (ap (completion_of x.completions) (the_some start a.start k) ∙ l)))) ∙ own)
    (on_right (not (has_kind is_delayed past r)) (passes_none r [] past)
    (passed-passes x r by.timer.start by.timer.due [] past none
    (subst (λ (n : ℕ). Passed x n by.timer.start by.timer.due [] past) own (f.passed by.timer c (first-in by.timer x.timers.active by.first, ap (completion_of x.completions) by.own ∙ e))))) f
  where
    none : (b t : ℕ) → Earlier x b t by.timer.start → t ≤ by.timer.due → ⊥
    none b t k le =
        let lt = first-before by.timer k.timer x.timers.active by.first f.sorted k.stands.0 k.before in
        let same = k.time in
        omega (arith, lt, same, le)

-- what is not delayed passes
other-order : (xs : List Registration) (past : History) (r : ℕ) (k : RegKind) → KindsFit xs past → some_line (is_reg_of 0) past ≡ false → role_at xs r ≡ OfKind k → is_delayed k ≡ false → goes_in_order past r ≡ true
other-order xs past r k n z role h = by_kind (has_kind is_delayed past r) refl
  where
    by_kind : (b : Bool) → has_kind is_delayed past r ≡ b → not b || passes_none r [] past ≡ true
    by_kind true e = absurd (false_true (sym h ∙ (ap is_delayed_role (sym role) ∙ delayed_role xs past r n z e)))
    by_kind false e = refl

no_left : (a : ActiveTimer) → None ≡ Some a.start → ⊥
no_left a k = Prim.cc

due-order : {xs : List Registration} {r : ℕ} {x y : Places} (d : DueChange xs r x y) → (now : ℕ) (past : History) → KindsFit xs past → some_line (is_reg_of 0) past ≡ false → IsDueBy now past d → waits r x ≤ 1 → OrderFit x past → OrderFit y (record { time = now; event = Due r } ∷ past)
due-order {r = r} {x = x} {y = y} (timer_due start number source t e i role) now past n z by once f = timer-order r now start (QueueTimer t) x y past e i by.0 (within-start x y start refl refl refl refl refl) refl refl refl once f
due-order {r = r} {x = x} {y = y} (delay_due start source e role) now past n z by once f = timer-order r now start (EnqueuePost r source) x y past e refl by.0 (within-start x y start refl refl refl refl refl) refl refl refl once f
due-order {r = r} {x = x} {y = y} (signal_due start s e role) now past n z by once f = timer-order r now start (QueueSignal r s) x y past e refl by (within-start x y start refl refl refl refl refl) refl refl refl once f
due-order {xs = xs} {r = r} {x = x} {y = y} (idle_due t number source i e role) now past n z by once f =
    let less = in-less (idle_waits r) (λ u. u.handle == t.handle) x.idle_timers t i (eq-eqb t.handle t.handle refl) in
    let one = counts_one t.registration r e in
    due-fits r now None x y past
    (record { active = λ a j. j; found = λ n c k. k; completions = λ c j. j; idles = λ u j. in-fewer u (λ u. u.handle == t.handle) x.idle_timers j; hosts = λ a j. j; made = refl; stays = λ a c h. inr h; sorted = λ h. h })
    (omega (arith, less, one, once)) (λ a c k. absurd (no_left a k)) (other-order xs past r kind.Idle n z role refl) f
due-order {xs = xs} {r = r} {x = x} {y = y} (answer_due before a after number source e i role) now past n z by once f =
    let there : IsIn a x.host_answers = subst (λ (ks : List HostAnswer). IsIn a ks) (sym e) (in-middle before) in
    let less = in-less (answer_waits r) (λ u. u.task.registration == a.task.registration) x.host_answers a there (eq-eqb a.task.registration a.task.registration refl) in
    let one = counts_one a.task.registration r i in
    due-fits r now None x y past
    (record { active = λ a j. j; found = λ n c k. k; completions = λ c j. j; idles = λ u j. j; hosts = λ u j. in-fewer u (λ u. u.task.registration == a.task.registration) x.host_answers j; made = refl; stays = λ a c h. inr h; sorted = λ h. h })
    (omega (arith, less, one, once)) (λ a c k. absurd (no_left a k)) (other-order xs past r kind.Host n z role refl) f
  where
    in-middle : (ks : List HostAnswer) → IsIn a (ks ++ a ∷ after)
    in-middle [] = inl refl
    in-middle (k ∷ ks) = inr (in-middle ks)

-- ---- what is armed

-- a registration is armed that was not, where what is delayed and armed waits in an active timer
arm-fits : (r due level now : ℕ) (x y : Places) (past : History) → Adds r due x y → ((a : ActiveTimer) (c : Completion) → StandsIn y a c → completes_for c ≡ r → armed_for past r ≡ None)
    → ((b t : ℕ) → (b ≡ r → ⊥) → has_kind is_delayed past b ≡ true → armed_for past b ≡ Some t → AtTimer x b t) → TimesFit x past → OrderFit x past → OrderFit y (record { time = now; event = Arm r due level } ∷ past)
arm-fits r due level now x y past d fresh behind g f =
    record {
      passed = λ a c k. by_place a c k (d.timers a c k.0 k.1);
      sorted = d.sorted f.sorted;
      kept = (refl, f.kept);
    }
  where
    later : (b t s : ℕ) → Earlier x b t s → Earlier y b t s
    later b t s k = record { timer = k.timer; completion = k.completion; stands = d.stays k.timer k.completion k.stands; own = k.own; time = k.time; before = k.before }

    new : (s b t : ℕ) → x.timers.starts_made < s → AtTimer x b t → Earlier y b t s
    new s b t lt k =
        record {
          timer = k.timer;
          completion = k.completion;
          stands = d.stays k.timer k.completion (k.active, k.found);
          own = k.own;
          time = k.time;
          before = let le = g.active k.timer k.active in omega (arith, le, lt);
        }

    by_place : (a : ActiveTimer) (c : Completion) → StandsIn y a c → (IsIn a x.timers.active × completion_of x.completions a.start ≡ Some c) ⊎ (completes_for c ≡ r × a.due ≡ due × x.timers.starts_made < a.start)
        → Passed y (completes_for c) a.start a.due [] (record { time = now; event = Arm r due level } ∷ past)
    by_place a c k (inl h) =
        inr (
          λ same. absurd (let b = found-counts r a.start x.completions c h.1 in let e = counts_one (completes_for c) r (sym same) in let none = d.none in omega (arith, b, e, none)),
          passed-later (record { time = now; event = Arm r due level }) x y (completes_for c) a.start a.due [] past (λ b t z. inr (later b t a.start z)) (f.passed a c (h.0, h.1)),
        )
    by_place a c k (inr h) =
        inr (
          λ same. (sym h.1, λ b t other delayed e. inr (new a.start b t h.2 (behind b t (λ z. other (z ∙ sym h.0)) delayed e))),
          passed-none y (completes_for c) a.start a.due (record { time = now; event = Arm r due level } ∷ []) past (ap (armed_for past) h.0 ∙ fresh a c k h.0),
        )

-- ---- pages

-- what the order of dues rests on
pub record Grounds (p : Page) : Type 0 where
  pub once : once.Fits p
  pub armed : armed.Fits p
  pub tidy : Tidy p
  pub times : times.Fits p
  pub idle : deadlines.Fits p

pub grounds-later : {p q : Page} → Moves p q → Grounds p → Grounds q
grounds-later a g =
    record {
      once = once.moves-fit a g.once;
      armed = moves-armed a g.armed;
      tidy = moves-tidy a g.tidy;
      times = times.moves-fit a g.tidy g.times;
      idle = deadlines.moves-fit a g.once g.armed g.idle;
    }

pub first-grounds : (program : Program) (setup : Setup) (hosts : List HostClosure) → Grounds (first_page program setup hosts)
first-grounds program setup hosts =
    record {
      once = once.first_fits program setup hosts;
      armed = first-armed program setup hosts;
      tidy = first-tidy program setup hosts;
      times = times.first-times program setup hosts;
      idle = deadlines.first_fits program setup hosts;
    }

abbrev pub Fits : Page → Type 0
Fits p = OrderFit (places p) p.events

-- what is delayed and armed by the lines waits in an active timer
delayed-at : (p : Page) → Grounds p → (b t : ℕ) → has_kind is_delayed p.events b ≡ true → armed_for p.events b ≡ Some t → AtTimer (places p) b t
delayed-at p g b t delayed e = g.armed.tie b t (delayed_role p.registrations p.events b g.once.kinds g.idle.none delayed) e

-- what waits nowhere, and is delayed or was not registered, is not armed by the lines
pub not-armed : (p : Page) → Grounds p → (r : ℕ) → is_delayed_role (role_at p.registrations r) ≡ true ⊎ length p.registrations < r → waits r (places p) ≤ 0 → armed_for p.events r ≡ None
not-armed p g r h none = by_armed (armed_for p.events r) refl h
  where
    by_armed : (o : Option ℕ) → armed_for p.events r ≡ o → is_delayed_role (role_at p.registrations r) ≡ true ⊎ length p.registrations < r → o ≡ None
    by_armed None e h = refl
    by_armed (Some t) e (inl role) =
        let k = g.armed.tie r t role e in
        let a = found-counts r k.timer.start p.completions k.completion k.found in
        let b = counts_one (completes_for k.completion) r k.own in
        absurd (omega (arith, a, b, none))
    by_armed (Some t) e (inr lt) = let le = g.armed.given r t e in absurd (omega (arith, le, lt))

before-fits : {p q : Page} → AsBefore p q → OrderFit (places q) p.events → Fits q
before-fits {p = p} {q = q} b f = subst (OrderFit (places q)) (sym b.events) f

replaced : (y z : Places) (past : History) → y ≡ z → OrderFit z past → OrderFit y past
replaced y z past e f = subst (λ (x : Places). OrderFit x past) (sym e) f

said : (e : Event) (p : Page) → is_quiet e ≡ true → Fits p → Fits (emit e p)
said e p h f = quiet-fits e p.now (places p) (places p) p.events h (same-within (places p)) f

added-fits : (now : ℕ) (es : List Event) (x : Places) (past : History) → Each Quiet es → OrderFit x past → OrderFit x (added now es past)
added-fits now [] x past h f = f
added-fits now (e ∷ es) x past h f = added-fits now es x (record { time = now; event = e } ∷ past) h.1 (quiet-fits e now x x past h.0 (same-within x) f)

notices-fit : (f : Notices → Noticed) (p : Page) → Each Quiet (f p.notices).lines → Fits p → Fits (on_notices f p)
notices-fit f p h k =
    let q : Page = record p { notices = (f p.notices).notices } in
    let lines = (f p.notices).lines in
    subst (λ (x : Places). OrderFit x (emit_each lines q).events) (sym (emit_each-places lines q))
    (subst (OrderFit (places p)) (sym (emit_each-events lines q)) (added-fits p.now lines (places p) p.events h k))

changes-fit : (n : ℕ) (c : Promises.Change) (p : Page) → Fits p → Fits (promise_changes n c p)
changes-fit n c p f = notices-fit (λ s. changed (context p) p.names n c s) p (changed-quiet (context p) p.names n c p.notices) f

subscribed-fits : (n : ℕ) (r : Promises.Reaction) (p : Page) → Fits p → Fits (on_notices (subscribe_promise (context p) n r) p)
subscribed-fits n r p f =
    notices-fit (subscribe_promise (context p) n r) p
    (changed-quiet (context p) [] n (Promises.subscribe n (the_promise p.notices.promises n) r) (record p.notices { rejected = without (λ m. m == n) p.notices.rejected; outstanding = without (λ m. m == n) p.notices.outstanding })) f

registered-fits : (k : RegKind) (x : Registration) (p : Page) → Fits p → Fits (register_as k x p)
registered-fits k x p f = quiet-fits (Reg (suc (length p.registrations)) k (caller p)) p.now (places p) (places p) p.events refl (same-within (places p)) f

-- ---- changes

change-fits : {p q : Page} (c : PageChange p q) → IsPlain c → Grounds p → Fits p → Fits q
change-fits {p = p} {q = q} (elsewhere c b k) plain t f = before-fits b (within-fits (places p) (places q) p.events (place-within c plain) f)
change-fits {p = p} (told e h) plain t f = said e p (aside-quiet e h) f
change-fits (arm_told r due level w well) plain t f = elim plain [ ]
change-fits {p = p} (rested e h x y z over begun done) plain t f = said e p (rest-quiet e h) f
change-fits {p = p} {q = q} (answered source task u answer x y live z b) plain t f =
    before-fits b (replaced (places q) _ _ z (quiet-fits (Host u.closure u.number answer) p.now (places p) _ p.events refl (within-same (places p) _ refl refl refl refl refl) f))
change-fits {p = p} {q = q} (made_one k x e unframed u b at) plain t f = before-fits b (within-fits (places p) (places q) _ (first-within u plain) (registered-fits k x p f))
change-fits {p = p} {q = q} (enqueued_anew k x u queue e i s n b) plain t f =
    before-fits b
    (replaced (places q) _ _ s
    (quiet-fits (Enq u.registration queue u.continuation u.order) p.now (places p) _ (register_as k x p).events refl (within-same (places p) _ refl refl refl refl refl) (registered-fits k x p f)))
change-fits {p = p} {q = q} (fell_due r d b by) plain t f = before-fits b (due-order d p.now p.events t.once.kinds t.idle.none by (once-waits p r t.tidy) f)
change-fits {p = p} {q = q} (post_fell_due start source u queue e role a s n b by) plain t f =
    let gone : Places = without_start start (places p) in
    before-fits b
    (replaced (places q) _ _ s
    (quiet-fits (Enq u.registration queue u.continuation u.order) p.now gone _ _ refl (within-same gone _ refl refl refl refl refl)
    (timer-order u.registration p.now start (EnqueuePost u.registration source) (places p) gone p.events e refl by (within-start (places p) gone start refl refl refl refl refl) refl refl refl (once-waits p u.registration t.tidy) f)))
change-fits {p = p} {q = q} (dropped r d b) plain t f = before-fits b (quiet-fits (Drop r) p.now (places p) (places q) p.events refl (drop-within d) f)
change-fits {p = p} (frame_dropped handle c e role) plain t f = quiet-fits (Drop c.registration) p.now (places p) _ p.events refl (within-same (places p) _ refl refl refl refl refl) f
change-fits {p = p} {q = q} (task_dropped r role a e s b) plain t f =
    before-fits b
    (replaced (places q) _ _ s
    (quiet-fits (Drop r) p.now (places p) _ p.events refl
    (record { active = λ k i. i; found = λ n c l. l; completions = λ k i. i; idles = λ k i. i; hosts = λ k i. in-fewer k (λ u. u.task.registration == r) p.host_answers i; made = refl; stays = λ a c h. inr h; sorted = λ h. h }) f))
change-fits {p = p} (prio_told s priority ps c) plain t f = said (Prio s priority) p refl f
change-fits {p = p} (frame_asked g) plain t f = registered-fits kind.Frame (record { role = OfKind kind.Frame; callback = Some g; second_callback = None; timer_id = 0; promise = 0; signal = None; finally = false }) p f
change-fits promised plain t f = f
change-fits {p = p} (settled n how x y) plain t f = changes-fit n (Promises.settle n (the_promise p.notices.promises n) how) p f
change-fits {p = p} (followed n how x y) plain t f = changes-fit n (Promises.settle n (the_promise p.notices.promises n) how) p f
change-fits {p = p} (adopted n from x y) plain t f = changes-fit n (Promises.adopt n (the_promise p.notices.promises n) from) p f
change-fits {p = p} (subscribed n r x y) plain t f = subscribed-fits n r p f
change-fits {p = p} (then_asked n x r e g y) plain t f = subscribed-fits n r (register_as kind.Then x p) (registered-fits kind.Then x p f)
change-fits {p = p} (micro_asked x r e y) plain t f = notices-fit (queue_micro (context p) r) (register_as kind.Micro x p) (refl, tt) (registered-fits kind.Micro x p f)
change-fits rejected_taken plain t f = f
change-fits (noted n) plain t f = f

-- another one's kind is as before a registration
kind-before : (q b now : ℕ) (k : RegKind) (by : Option ℕ) (past : History) → (b ≡ q → ⊥) → has_kind is_delayed (record { time = now; event = Reg q k by } ∷ past) b ≡ true → has_kind is_delayed past b ≡ true
kind-before q b now k by past other h = by_test (q == b) refl h
  where
    by_test : (t : Bool) → (q == b) ≡ t → is_some_and is_delayed (cond t (Some k) (kind_of past b)) ≡ true → has_kind is_delayed past b ≡ true
    by_test true e h = absurd (other (sym (eqb-true q b e)))
    by_test false e h = h

-- what is armed elsewhere is delayed, or waits in no active timer
pub place-delayed : {made : List Registration} {x y : Places} (c : PlaceChange made x y) → (p : Page) → IsMade c p → made ≡ p.registrations → (r due : ℕ) → PlaceArms c r due → is_delayed_role (role_at p.registrations r) ≡ true ⊎ ((a : ActiveTimer) (d : Completion) → StandsIn y a d → StandsIn x a d)
place-delayed (armed_again a t role there next) p k e r due h = inl (ap {A = ℕ} {B = Bool} (λ n. is_delayed_role (role_at p.registrations n)) h.0 ∙ (ap {A = List Registration} {B = Bool} (λ xs. is_delayed_role (role_at xs t.registration)) (sym e) ∙ ap is_delayed_role role))
place-delayed (signal_armed ms now q s) p k e r due h = inl (ap {A = ℕ} {B = Bool} (λ n. is_delayed_role (role_at p.registrations n)) h.0 ∙ ap is_delayed_role k.0)
place-delayed (idle_armed t most own) p k e r due h = inr (λ a d i. i)
place-delayed c p k e r due h = elim h [ ]

-- a change that arms, and its line
arms-fit : {p q s : Page} (c : PageChange p q) (d : PageChange q s) → Tells c d → Grounds p → Fits p → Fits s
arms-fit {p = p} {q = q} (made_one k x e unframed u b at) (arm_told r due level w well) h t f =
    arm-fits r due level q.now (places p) (places q) q.events (subst (λ (n : ℕ). Adds n due (places p) (places q)) (sym h.0) (first-adds u due h.1 p.events none t.times))
    (λ a c i own. ap (λ (past : History). armed_for past r) b.events ∙ (ap (armed_for p.events) h.0 ∙ not-armed p t (suc (length p.registrations)) (inr (omega arith)) none))
    (λ n time other delayed armed. delayed-at p t n time
    (kind-before (suc (length p.registrations)) n p.now k (caller p) p.events (λ same. other (same ∙ sym h.0)) (subst (λ (past : History). has_kind is_delayed past n ≡ true) b.events delayed))
    (subst (λ (past : History). armed_for past n ≡ Some time) b.events armed))
    (subst (TimesFit (places p)) (sym b.events) (made-fits k x p t.times))
    (subst (OrderFit (places p)) (sym b.events) (registered-fits k x p f))
  where
    none : waits (suc (length p.registrations)) (places p) ≤ 0
    none = let a = t.tidy.fresh (suc (length p.registrations)) (omega arith) in omega (arith, a)
arms-fit {p = p} {q = q} (elsewhere c b k) (arm_told r due level w well) h t f =
    let adds = place-adds c p k refl r due h.0 p.events t.times in
    arm-fits r due level q.now (places p) (places q) q.events adds
    (λ a d i own. ap (λ (past : History). armed_for past r) b.events ∙ by_role (place-delayed c p k refl r due h.0) adds.none a d i own)
    (λ n time other delayed armed. delayed-at p t n time (subst (λ (past : History). has_kind is_delayed past n ≡ true) b.events delayed) (subst (λ (past : History). armed_for past n ≡ Some time) b.events armed))
    (subst (TimesFit (places p)) (sym b.events) t.times)
    (subst (OrderFit (places p)) (sym b.events) f)
  where
    by_role : is_delayed_role (role_at p.registrations r) ≡ true ⊎ ((a : ActiveTimer) (d : Completion) → StandsIn (places q) a d → StandsIn (places p) a d) → waits r (places p) ≤ 0 → (a : ActiveTimer) (d : Completion) → StandsIn (places q) a d → completes_for d ≡ r → armed_for p.events r ≡ None
    by_role (inl role) none a d i own = not-armed p t r (inl role) none
    by_role (inr before) none a d i own =
        let n = found-counts r a.start p.completions d (before a d i).1 in
        let one = counts_one (completes_for d) r own in
        absurd (omega (arith, n, one, none))
arms-fit c d h t f = elim h [ ]

-- ---- calls and moves

called-fits : (p : Page) (r : ℕ) (x : Places) (past : History) → Within None (places p) x → OrderFit (places p) past → OrderFit x (record { time = p.now; event = Call r } ∷ past)
called-fits p r x past w f = quiet-fits (Call r) p.now (places p) x past refl w f

begins-fit : (b : Beginning) (p : Page) → Fits p → Fits (call_begun (called_by b) (taken b p))
begins-fit (TheScript source task) p f = called-fits p _ _ p.events (within-same (places p) _ refl refl refl refl refl) f
begins-fit (ATimer source task t) p f = called-fits p _ _ p.events (within-same (places p) _ refl refl refl refl refl) f
begins-fit (AFrame key c) p f = called-fits p _ _ p.events (within-same (places p) _ refl refl refl refl refl) f
begins-fit (AnIdle c others) p f = called-fits p _ _ _ (within-same (places p) _ refl refl refl refl refl) (said (IdleLine (deadline p.last_idle_start p)) p refl f)
begins-fit (ALateIdle handle c) p f = called-fits p _ _ p.events (within-same (places p) _ refl refl refl refl refl) f
begins-fit (AListener r) p f = called-fits p _ _ p.events (within-same (places p) _ refl refl refl refl refl) f
begins-fit (APost t) p f = called-fits p _ _ _ (within-same (places p) _ refl refl refl refl refl) (said (Turn p.turns (Some Sched)) p refl f)
begins-fit (AContinuation t) p f = called-fits p _ _ _ (within-same (places p) _ refl refl refl refl refl) (said (Turn p.turns (Some Sched)) p refl f)
begins-fit (AMicro job others r) p f = called-fits p _ _ _ (within-same (places p) _ refl refl refl refl refl) (said (Run job.number) p refl f)
begins-fit (AReaction job others of x r) p f = called-fits p _ _ _ (within-same (places p) _ refl refl refl refl refl) (said (Run job.number) p refl f)

moves-fit : {p q : Page} → Moves p q → Grounds p → Fits p → Fits q
moves-fit here t f = f
moves-fit (changing a c plain) t f = change-fits c plain (grounds-later a t) (moves-fit a t f)
moves-fit (arming a c d w) t f = arms-fit c d w (grounds-later a t) (moves-fit a t f)
moves-fit (calling {q = q} a b w i) t f = begins-fit b q (moves-fit a t f)
moves-fit (ending {q = q} a e h) t f = said e q (end-quiet e h) (moves-fit a t f)
moves-fit (flagging {q = q} {r = r} a x y z w u v k j) t f = replaced (places r) (places q) r.events u (subst (OrderFit (places q)) (sym y) (moves-fit a t f))
moves-fit (running {q = q} a j others x y nm) t f = said (Run j.number) q refl (moves-fit a t f)
moves-fit (framing {q = q} a n) t f = said (Frame n) q refl (moves-fit a t f)
moves-fit (idling a none) t f = moves-fit a t f

-- from a first page on, what is due goes in order
pub due_in_order : (program : Program) (setup : Setup) (hosts : List HostClosure) {q : Page} → Moves (first_page program setup hosts) q → Kept order_test q.events
due_in_order program setup hosts a = (moves-fit a (first-grounds program setup hosts) first).kept
  where
    first : Fits (first_page program setup hosts)
    first = record { passed = λ a c k. elim k.0 [ ]; sorted = tt; kept = tt }
