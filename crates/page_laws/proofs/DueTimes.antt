-- What is due was armed for that time or an earlier one: each place's due time is what the lines arm its registration for.
use Rattle.std.proofs.Common.{◌≡◌, ◌⊎◌, inl, inr, ℕ, suc, ◌≤◌, ◌<◌, ◌+◌, ◌*◌, Bool, true, false, List, [], ◌∷◌, ◌++◌, Option, Some, None, refl, sym, subst, ap, ◌∙◌, cond, length, arith, eqb-true, unwrap_or, nat_le}
use Rattle.std.specs.Prelude.{◌==◌, find, option_map}
use Rattle.std.proofs.lemmas.Bool.{eq-eqb, le-leb}
use Rattle.page_types.specs.declared.RegKind.{RegKind}
use Rattle.page_types.specs.declared.RegKind.TheVariants as kind
use Rattle.page_types.specs.declared.Source.TheVariants.{Sched}
use Rattle.page_types.specs.Events.{Event, Call, Turn, IdleLine, Frame, Reg, Run, Drop, Due, Arm, Enq, Host, Prio}
use Rattle.page_types.specs.Tree.{Program}
use Rattle.page_parts.specs.Setup.{Setup}
use Rattle.page_parts.specs.HostClosures.{HostClosure}
use Rattle.page_parts.specs.TaskSignals.{Prios}
use Rattle.page_parts.specs.Timers.{ActiveTimer}
use Rattle.page_parts.specs.Words.{and_last, without}
use Rattle.page_parts.specs.Promises.{the_promise}
use Rattle.page_parts.specs.Promises as Promises
use Rattle.page_parts.specs.Notices.{Notices, Noticed, changed, subscribe_promise, queue_micro}
use Rattle.page_model.specs.State.{Page, OfKind, Registration, Completion, QueueTimer, EnqueuePost, QueueSignal, Completing, IdleTimer, HostAnswer, emit, emit_each, on_notices, context, caller}
use Rattle.page_model.specs.Invoke.{register_as, call_begun}
use Rattle.page_model.specs.PageTime.{completion_of, deadline}
use Rattle.page_model.specs.Numbers.{Each}
use Rattle.page_model.specs.Turns.{first_page}
use Rattle.page_laws.specs.History.{History, armed_for, is_some_and}
use Rattle.page_laws.specs.TimerLaws.{is_due_now, keeps_due}
use Rattle.page_laws.specs.Moves.{IsIn, IsMade, IsUnarmed, IsFirstDue, IsTimerDue, IsDueBy, Tells, IsPlain, PlaceIsPlain, FirstIsPlain, FirstArms, completes_for, completions_but, without_start, PlaceArms, Places, places, PlaceChange, places_stay, task_queued, task_left, armed_again, signal_armed, id_cleared, idle_armed, completed, idle_started, idle_queued, DueChange, timer_due, delay_due, signal_due, idle_due, answer_due, Dropping, timer_dropped, idle_dropped, listener_dropped, FirstPlace, nowhere, at_listener, at_timer, at_delay, at_idle, at_host, promise_changes, AsBefore, PageChange, elsewhere, told, arm_told, rested, registered, promised, settled, followed, adopted, subscribed, micro_asked, then_asked, answered, dropped, frame_dropped, frame_asked, rejected_taken, noted, Beginning, TheScript, ATimer, AFrame, AnIdle, ALateIdle, AListener, APost, AContinuation, AMicro, AReaction, called_by, taken, task_dropped, enqueued_anew, fell_due, post_fell_due, prio_told, Moves, here, changing, arming, calling, ending, flagging, running, framing, idling}
use Rattle.page_laws.proofs.ArmedTimes.{found-more, found-without, in-still, is_quiet, aside-quiet, rest-quiet, end-quiet, quiet-armed, Quiet, changed-quiet}
use Rattle.page_laws.proofs.Arming.{Tidy, moves-tidy, first-tidy, steps_wait, idle_waits, answer_waits, completed-fewer, counts_one, in-total, in-less, unarmed-none}
use Rattle.page_laws.proofs.Framed.{false_true}
use Rattle.page_laws.proofs.Lines.{added, emit_each-events}
use Rattle.page_laws.proofs.Ready.{emit_each-places, in-fewer, in-last, in-left}
use Rattle.page_laws.proofs.Scans.{Test, Kept}
use Rattle.page_laws.proofs.Totals.{one_if, total}

abbrev pub due_test : Test
due_test past e = keeps_due past e.time e.event

-- ---- places

-- how often a registration waits to be due
abbrev pub waits : ℕ → Places → ℕ
waits r x = total (steps_wait r) x.completions + total (idle_waits r) x.idle_timers + total (answer_waits r) x.host_answers

-- each due time at the places is what the lines arm, and start numbers were given
pub record TimesFit (x : Places) (past : History) : Type 0 where
  pub timers : (a : ActiveTimer) (c : Completion) → IsIn a x.timers.active → completion_of x.completions a.start ≡ Some c → armed_for past (completes_for c) ≡ Some a.due
  pub idles : (t : IdleTimer) → IsIn t x.idle_timers → armed_for past t.registration ≡ Some t.due
  pub hosts : (a : HostAnswer) → IsIn a x.host_answers → armed_for past a.task.registration ≡ Some a.due
  pub active : (a : ActiveTimer) → IsIn a x.timers.active → a.start ≤ x.timers.starts_made
  pub starts : (c : Completing) → IsIn c x.completions → c.start ≤ x.timers.starts_made
  pub kept : Kept due_test past

-- steps that were found are found where others come, and where those of another start leave
pub found-counts : (r start : ℕ) (cs : List Completing) (c : Completion) → completion_of cs start ≡ Some c → one_if (completes_for c == r) ≤ total (steps_wait r) cs
found-counts r start cs c e = let a = completed-fewer r start cs c e in omega (arith, a)

found-older : (cs : List Completing) (d : Completing) (start : ℕ) (c : Completion) → (d.start ≡ start → ⊥) → completion_of (and_last cs d) start ≡ Some c → completion_of cs start ≡ Some c
found-older [] d start c other e = by_test (d.start == start) refl e
  where
    by_test : (b : Bool) → (d.start == start) ≡ b → option_map (λ (c : Completing). c.completion) (cond b (Some d) None) ≡ Some c → option_map (λ (c : Completing). c.completion) None ≡ Some c
    by_test true q e = absurd (other (eqb-true d.start start q))
    by_test false q e = e
found-older (b ∷ cs) d start c other e = by_test (b.start == start) e (found-older cs d start c other)
  where
    by_test : (t : Bool) → option_map (λ (c : Completing). c.completion) (cond t (Some b) (find (λ c. c.start == start) (and_last cs d))) ≡ Some c → (completion_of (and_last cs d) start ≡ Some c → completion_of cs start ≡ Some c)
        → option_map (λ (c : Completing). c.completion) (cond t (Some b) (find (λ c. c.start == start) cs)) ≡ Some c
    by_test true e rest = e
    by_test false e rest = rest e

found-new : (cs : List Completing) (d : Completing) (made : ℕ) (c : Completion) → ((b : Completing) → IsIn b cs → b.start ≤ made) → d.start ≡ suc made → completion_of (and_last cs d) d.start ≡ Some c → d.completion ≡ c
found-new [] d made c h s e = by_test (d.start == d.start) refl e
  where
    by_test : (t : Bool) → (d.start == d.start) ≡ t → option_map (λ (c : Completing). c.completion) (cond t (Some d) None) ≡ Some c → d.completion ≡ c
    by_test true q e = ap {A = Option Completion} {B = Completion} (λ o. unwrap_or o d.completion) e
    by_test false q e = absurd (false_true (sym q ∙ eq-eqb d.start d.start refl))
found-new (b ∷ cs) d made c h s e = by_test (b.start == d.start) refl e (found-new cs d made c (λ k i. h k (inr i)) s)
  where
    by_test : (t : Bool) → (b.start == d.start) ≡ t → option_map (λ (c : Completing). c.completion) (cond t (Some b) (find (λ c. c.start == d.start) (and_last cs d))) ≡ Some c → (completion_of (and_last cs d) d.start ≡ Some c → d.completion ≡ c) → d.completion ≡ c
    by_test true q e rest = let same = eqb-true b.start d.start q in let le = h b (inl refl) in absurd (omega (arith, same, le, s))
    by_test false q e rest = rest e

found-fewer : (cs : List Completing) (gone start : ℕ) (c : Completion) → completion_of (completions_but gone cs) start ≡ Some c → completion_of cs start ≡ Some c
found-fewer cs gone start c e = by_start (start == gone) refl
  where
    none : (cs : List Completing) → completion_of (completions_but gone cs) gone ≡ Some c → ⊥
    none [] e = Prim.cc
    none (b ∷ cs) e = by_test (b.start == gone) refl e (none cs)
      where
        by_test : (t : Bool) → (b.start == gone) ≡ t → completion_of (cond t (completions_but gone cs) (b ∷ completions_but gone cs)) gone ≡ Some c → (completion_of (completions_but gone cs) gone ≡ Some c → ⊥) → ⊥
        by_test true q e rest = rest e
        by_test false q e rest = rest (sym (ap {A = Bool} {B = Option Completion} (λ t. option_map (λ (c : Completing). c.completion) (cond t (Some b) (find (λ c. c.start == gone) (completions_but gone cs)))) q) ∙ e)

    others : (start ≡ gone → ⊥) → (cs : List Completing) → completion_of (completions_but gone cs) start ≡ Some c → completion_of cs start ≡ Some c
    others apart [] e = e
    others apart (b ∷ cs) e = by_tests (b.start == gone) refl (b.start == start) refl e (others apart cs)
      where
        by_tests : (u : Bool) → (b.start == gone) ≡ u → (t : Bool) → (b.start == start) ≡ t → completion_of (cond u (completions_but gone cs) (b ∷ completions_but gone cs)) start ≡ Some c → (completion_of (completions_but gone cs) start ≡ Some c → completion_of cs start ≡ Some c)
            → option_map (λ (c : Completing). c.completion) (cond t (Some b) (find (λ c. c.start == start) cs)) ≡ Some c
        by_tests true q true k e rest = absurd (apart (sym (eqb-true b.start start k) ∙ eqb-true b.start gone q))
        by_tests true q false k e rest = rest e
        by_tests false q true k e rest = sym (ap {A = Bool} {B = Option Completion} (λ t. option_map (λ (c : Completing). c.completion) (cond t (Some b) (find (λ c. c.start == start) (completions_but gone cs)))) k) ∙ e
        by_tests false q false k e rest = rest (sym (ap {A = Bool} {B = Option Completion} (λ t. option_map (λ (c : Completing). c.completion) (cond t (Some b) (find (λ c. c.start == start) (completions_but gone cs)))) k) ∙ e)

    by_start : (b : Bool) → (start == gone) ≡ b → completion_of cs start ≡ Some c
    by_start true q = absurd (none cs (subst (λ (n : ℕ). completion_of (completions_but gone cs) n ≡ Some c) (eqb-true start gone q) e))
    by_start false q = others (λ same. false_true (sym q ∙ eq-eqb start gone same)) cs e

-- active timers stand in the order of their start numbers
abbrev pub Sorted : List ActiveTimer → Type 0
Sorted [] = Unit {0}
Sorted (t ∷ ts) = ((u : ActiveTimer) → IsIn u ts → t.start < u.start) × Sorted ts

pub sorted-without : (gone : ActiveTimer → Bool) (ts : List ActiveTimer) → Sorted ts → Sorted (without gone ts)
sorted-without gone [] h = tt
sorted-without gone (t ∷ ts) h = by_test (gone t) (sorted-without gone ts h.1)
  where
    by_test : (b : Bool) → Sorted (without gone ts) → Sorted (cond b (without gone ts) (t ∷ without gone ts))
    by_test true k = k
    by_test false k = (λ u i. h.0 u (in-fewer u gone ts i), k)

pub sorted-last : (ts : List ActiveTimer) (t : ActiveTimer) → ((u : ActiveTimer) → IsIn u ts → u.start < t.start) → Sorted ts → Sorted (and_last ts t)
sorted-last [] t h k = (λ u i. elim i [ ], tt)
sorted-last (b ∷ bs) t h k = (λ u i. by_place u (in-last u t bs i), sorted-last bs t (λ u i. h u (inr i)) k.1)
  where
    by_place : (u : ActiveTimer) → IsIn u bs ⊎ (u ≡ t) → b.start < u.start
    by_place u (inl i) = k.0 u i
    by_place u (inr same) = let e = ap {A = ActiveTimer} {B = ℕ} (λ v. v.start) same in let lt = h b (inl refl) in omega (arith, e, lt)

-- an active timer with its steps stands in y still
abbrev pub StandsIn : Places → ActiveTimer → Completion → Type 0
StandsIn y a c = IsIn a y.timers.active × completion_of y.completions a.start ≡ Some c

-- nothing that waits to be due came, and of what has steps in an active timer only that of this start left
pub record Within (left : Option ℕ) (x y : Places) : Type 0 where
  pub active : (a : ActiveTimer) → IsIn a y.timers.active → IsIn a x.timers.active
  pub found : (start : ℕ) (c : Completion) → completion_of y.completions start ≡ Some c → completion_of x.completions start ≡ Some c
  pub completions : (c : Completing) → IsIn c y.completions → IsIn c x.completions
  pub idles : (t : IdleTimer) → IsIn t y.idle_timers → IsIn t x.idle_timers
  pub hosts : (a : HostAnswer) → IsIn a y.host_answers → IsIn a x.host_answers
  pub made : y.timers.starts_made ≡ x.timers.starts_made
  pub stays : (a : ActiveTimer) (c : Completion) → StandsIn x a c → (left ≡ Some a.start) ⊎ StandsIn y a c
  pub sorted : Sorted x.timers.active → Sorted y.timers.active

pub within-same : (x y : Places) → y.timers.active ≡ x.timers.active → y.timers.starts_made ≡ x.timers.starts_made → y.completions ≡ x.completions → y.idle_timers ≡ x.idle_timers → y.host_answers ≡ x.host_answers → Within None x y
within-same x y a m b c d =
    record {
      active = λ k i. subst (λ (ks : List ActiveTimer). IsIn k ks) a i;
      found = λ start k e. subst (λ (ks : List Completing). completion_of ks start ≡ Some k) b e;
      completions = λ k i. subst (λ (ks : List Completing). IsIn k ks) b i;
      idles = λ k i. subst (λ (ks : List IdleTimer). IsIn k ks) c i;
      hosts = λ k i. subst (λ (ks : List HostAnswer). IsIn k ks) d i;
      made = m;
      stays = λ k z h. inr (subst (λ (ks : List ActiveTimer). IsIn k ks) (sym a) h.0, subst (λ (ks : List Completing). completion_of ks k.start ≡ Some z) (sym b) h.1);
      sorted = λ h. subst Sorted (sym a) h;
    }

-- without the active timer of this start
pub within-start : (x y : Places) (start : ℕ) → y.timers.active ≡ without (λ a. a.start == start) x.timers.active → y.timers.starts_made ≡ x.timers.starts_made → y.completions ≡ completions_but start x.completions → y.idle_timers ≡ x.idle_timers → y.host_answers ≡ x.host_answers → Within (Some start) x y
within-start x y start a m b c d =
    record {
      active = λ k i. in-fewer k (λ a. a.start == start) x.timers.active (subst (λ (ks : List ActiveTimer). IsIn k ks) a i);
      found = λ n k e. found-fewer x.completions start n k (subst (λ (ks : List Completing). completion_of ks n ≡ Some k) b e);
      completions = λ k i. in-fewer k (λ c. c.start == start) x.completions (subst (λ (ks : List Completing). IsIn k ks) b i);
      idles = λ k i. subst (λ (ks : List IdleTimer). IsIn k ks) c i;
      hosts = λ k i. subst (λ (ks : List HostAnswer). IsIn k ks) d i;
      made = m;
      stays = λ k z h. by_start k z h (k.start == start) refl;
      sorted = λ h. subst Sorted (sym a) (sorted-without (λ a. a.start == start) x.timers.active h);
    }
  where
    by_start : (k : ActiveTimer) (z : Completion) → StandsIn x k z → (t : Bool) → (k.start == start) ≡ t → (Some start ≡ Some k.start) ⊎ StandsIn y k z
    by_start k z h true e = inl (ap Some (sym (eqb-true k.start start e)))
    by_start k z h false e =
        inr (
          subst (λ (ks : List ActiveTimer). IsIn k ks) (sym a) (in-still k (λ a. a.start == start) x.timers.active h.0 e),
          subst (λ (ks : List Completing). completion_of ks k.start ≡ Some z) (sym b) (found-without x.completions start k.start z (λ same. false_true (sym e ∙ eq-eqb k.start start same)) h.1),
        )

-- where it has no steps
within-none : (x y : Places) (start : ℕ) → completion_of x.completions start ≡ None → Within (Some start) x y → Within None x y
within-none x y start e w =
    record {
      active = w.active;
      found = w.found;
      completions = w.completions;
      idles = w.idles;
      hosts = w.hosts;
      made = w.made;
      stays = λ a c h. by_place a c h (w.stays a c h);
      sorted = w.sorted;
    }
  where
    the_start : (a : ℕ) → Some start ≡ Some a → start ≡ a
    the_start a k = ap {A = Option ℕ} {B = ℕ} (λ o. unwrap_or o start) k

    none : (c : Completion) → None ≡ Some c → ⊥
    none c k = Prim.cc

    by_place : (a : ActiveTimer) (c : Completion) → StandsIn x a c → (Some start ≡ Some a.start) ⊎ StandsIn y a c → (None ≡ Some a.start) ⊎ StandsIn y a c
    by_place a c h (inl k) = absurd (none c (sym e ∙ (ap (completion_of x.completions) (the_start a.start k) ∙ h.1)))
    by_place a c h (inr k) = inr k

quiet-fits : (e : Event) (now : ℕ) (x y : Places) (past : History) → is_quiet e ≡ true → Within None x y → TimesFit x past → TimesFit y (record { time = now; event = e } ∷ past)
quiet-fits e now x y past h w f =
    record {
      timers = λ a c i k. quiet-armed e (completes_for c) (armed_for past (completes_for c)) h ∙ f.timers a c (w.active a i) (w.found a.start c k);
      idles = λ t i. quiet-armed e t.registration (armed_for past t.registration) h ∙ f.idles t (w.idles t i);
      hosts = λ a i. quiet-armed e a.task.registration (armed_for past a.task.registration) h ∙ f.hosts a (w.hosts a i);
      active = λ a i. let b = f.active a (w.active a i) in let m = w.made in omega (arith, b, m);
      starts = λ c i. let b = f.starts c (w.completions c i) in let m = w.made in omega (arith, b, m);
      kept = (passes e h, f.kept);
    }
  where
    passes : (e : Event) → is_quiet e ≡ true → keeps_due past now e ≡ true
    passes (Due r) h = Prim.cc
    passes e h = refl

within-fits : (x y : Places) (past : History) → Within None x y → TimesFit x past → TimesFit y past
within-fits x y past w f =
    record {
      timers = λ a c i k. f.timers a c (w.active a i) (w.found a.start c k);
      idles = λ t i. f.idles t (w.idles t i);
      hosts = λ a i. f.hosts a (w.hosts a i);
      active = λ a i. let b = f.active a (w.active a i) in let m = w.made in omega (arith, b, m);
      starts = λ c i. let b = f.starts c (w.completions c i) in let m = w.made in omega (arith, b, m);
      kept = f.kept;
    }

pub same-within : (x : Places) → Within None x x
same-within x = within-same x x refl refl refl refl refl

-- ---- what is due

-- what is armed for a time that has come is due now
due-now : (past : History) (now r due : ℕ) → armed_for past r ≡ Some due → due ≤ now → is_due_now past now r ≡ true
due-now past now r due e le = ap (is_some_and (λ due. nat_le due now)) e ∙ le-leb due now le

-- a registration is due, and waits nowhere then
due-fits : (r now due : ℕ) (left : Option ℕ) (x y : Places) (past : History) → Within left x y → waits r y ≤ 0 → armed_for past r ≡ Some due → due ≤ now → TimesFit x past → TimesFit y (record { time = now; event = Due r } ∷ past)
due-fits r now due left x y past w none k le f =
    record {
      timers = λ a c i e. other (completes_for c) a.due (λ same. let b = found-counts r a.start y.completions c e in let d = counts_one (completes_for c) r (sym same) in omega (arith, b, d, none)) (f.timers a c (w.active a i) (w.found a.start c e));
      idles = λ t i. other t.registration t.due (λ same. let b = in-total (idle_waits r) t y.idle_timers i in let d = counts_one t.registration r (sym same) in omega (arith, b, d, none)) (f.idles t (w.idles t i));
      hosts = λ a i. other a.task.registration a.due (λ same. let b = in-total (answer_waits r) a y.host_answers i in let d = counts_one a.task.registration r (sym same) in omega (arith, b, d, none)) (f.hosts a (w.hosts a i));
      active = λ a i. let b = f.active a (w.active a i) in let m = w.made in omega (arith, b, m);
      starts = λ c i. let b = f.starts c (w.completions c i) in let m = w.made in omega (arith, b, m);
      kept = (due-now past now r due k le, f.kept);
    }
  where
    other : (q t : ℕ) → (r ≡ q → ⊥) → armed_for past q ≡ Some t → cond (r == q) None (armed_for past q) ≡ Some t
    other q t apart e = by_test (r == q) refl
      where
        by_test : (b : Bool) → (r == q) ≡ b → cond b None (armed_for past q) ≡ Some t
        by_test true z = absurd (apart (eqb-true r q z))
        by_test false z = e

pub first-in : (t : ActiveTimer) (ts : List ActiveTimer) → IsFirstDue t ts → IsIn t ts
first-in t [] h = h
first-in t (b ∷ bs) (inl h) = inl h.0
first-in t (b ∷ bs) (inr h) = inr (first-in t bs h.1)

-- the active timer of a start is due, whose steps are for r
timer-times : (r now start : ℕ) (c : Completion) (x y : Places) (past : History) → completion_of x.completions start ≡ Some c → completes_for c ≡ r → IsTimerDue x start now → Within (Some start) x y → y.completions ≡ completions_but start x.completions → y.idle_timers ≡ x.idle_timers → y.host_answers ≡ x.host_answers → waits r x ≤ 1 → TimesFit x past
    → TimesFit y (record { time = now; event = Due r } ∷ past)
timer-times r now start c x y past e own by w u v z once f =
    let less = completed-fewer r start x.completions c e in
    let one = counts_one (completes_for c) r own in
    let same : total (steps_wait r) y.completions ≡ total (steps_wait r) (completions_but start x.completions) = ap (total (steps_wait r)) u in
    let same1 : total (idle_waits r) y.idle_timers ≡ total (idle_waits r) x.idle_timers = ap (total (idle_waits r)) v in
    let same2 : total (answer_waits r) y.host_answers ≡ total (answer_waits r) x.host_answers = ap (total (answer_waits r)) z in
    due-fits r now by.timer.due (Some start) x y past w (omega (arith, less, one, same, same1, same2, once))
    (ap (armed_for past) (sym own) ∙ f.timers by.timer c (first-in by.timer x.timers.active by.first) (ap (completion_of x.completions) by.own ∙ e)) by.time f

due-times : {made : List Registration} {r : ℕ} {x y : Places} (d : DueChange made r x y) → (now : ℕ) (past : History) → IsDueBy now past d → waits r x ≤ 1 → TimesFit x past → TimesFit y (record { time = now; event = Due r } ∷ past)
due-times {r = r} {x = x} {y = y} (timer_due start number source t e i role) now past by once f = timer-times r now start (QueueTimer t) x y past e i by.0 (within-start x y start refl refl refl refl refl) refl refl refl once f
due-times {r = r} {x = x} {y = y} (delay_due start source e role) now past by once f = timer-times r now start (EnqueuePost r source) x y past e refl by.0 (within-start x y start refl refl refl refl refl) refl refl refl once f
due-times {r = r} {x = x} {y = y} (signal_due start s e role) now past by once f = timer-times r now start (QueueSignal r s) x y past e refl by (within-start x y start refl refl refl refl refl) refl refl refl once f
due-times {r = r} {x = x} {y = y} (idle_due t number source i e role) now past by once f =
    let less = in-less (idle_waits r) (λ u. u.handle == t.handle) x.idle_timers t i (eq-eqb t.handle t.handle refl) in
    let one = counts_one t.registration r e in
    due-fits r now t.due None x y past
    (record { active = λ a j. j; found = λ n c k. k; completions = λ c j. j; idles = λ u j. in-fewer u (λ u. u.handle == t.handle) x.idle_timers j; hosts = λ a j. j; made = refl; stays = λ a c h. inr h; sorted = λ h. h })
    (omega (arith, less, one, once)) (ap (armed_for past) (sym e) ∙ f.idles t i) by.0 f
due-times {r = r} {x = x} {y = y} (answer_due before a after number source e i role) now past by once f =
    let there : IsIn a x.host_answers = subst (λ (ks : List HostAnswer). IsIn a ks) (sym e) (in-middle before) in
    let less = in-less (answer_waits r) (λ u. u.task.registration == a.task.registration) x.host_answers a there (eq-eqb a.task.registration a.task.registration refl) in
    let one = counts_one a.task.registration r i in
    due-fits r now a.due None x y past
    (record { active = λ a j. j; found = λ n c k. k; completions = λ c j. j; idles = λ u j. j; hosts = λ u j. in-fewer u (λ u. u.task.registration == a.task.registration) x.host_answers j; made = refl; stays = λ a c h. inr h; sorted = λ h. h })
    (omega (arith, less, one, once)) (ap (armed_for past) (sym i) ∙ f.hosts a there) by.0 f
  where
    in-middle : (ks : List HostAnswer) → IsIn a (ks ++ a ∷ after)
    in-middle [] = inl refl
    in-middle (k ∷ ks) = inr (in-middle ks)

-- ---- what is armed

-- registration r waited nowhere, and waits now for this due time, at one place
pub record Adds (r due : ℕ) (x y : Places) : Type 0 where
  pub none : waits r x ≤ 0
  pub timers : (a : ActiveTimer) (c : Completion) → IsIn a y.timers.active → completion_of y.completions a.start ≡ Some c → (IsIn a x.timers.active × completion_of x.completions a.start ≡ Some c) ⊎ (completes_for c ≡ r × a.due ≡ due × x.timers.starts_made < a.start)
  pub idles : (t : IdleTimer) → IsIn t y.idle_timers → IsIn t x.idle_timers ⊎ (t.registration ≡ r × t.due ≡ due)
  pub hosts : (a : HostAnswer) → IsIn a y.host_answers → IsIn a x.host_answers ⊎ (a.task.registration ≡ r × a.due ≡ due)
  pub active : (a : ActiveTimer) → IsIn a y.timers.active → IsIn a x.timers.active ⊎ a.start ≤ y.timers.starts_made
  pub starts : (c : Completing) → IsIn c y.completions → IsIn c x.completions ⊎ c.start ≤ y.timers.starts_made
  pub made : x.timers.starts_made ≤ y.timers.starts_made
  pub stays : (a : ActiveTimer) (c : Completion) → StandsIn x a c → StandsIn y a c
  pub sorted : Sorted x.timers.active → Sorted y.timers.active

arm-fits : (r due level now : ℕ) (x y : Places) (past : History) → Adds r due x y → TimesFit x past → TimesFit y (record { time = now; event = Arm r due level } ∷ past)
arm-fits r due level now x y past d f =
    record {
      timers = λ a c i e. by_timer a c (d.timers a c i e);
      idles = λ t i. by_idle t (d.idles t i);
      hosts = λ a i. by_host a (d.hosts a i);
      active = λ a i. by_active a (d.active a i);
      starts = λ c i. by_start c (d.starts c i);
      kept = (refl, f.kept);
    }
  where
    old : (q t : ℕ) → (q ≡ r → ⊥) → armed_for past q ≡ Some t → cond (r == q) (Some due) (armed_for past q) ≡ Some t
    old q t apart e = by_test (r == q) refl
      where
        by_test : (b : Bool) → (r == q) ≡ b → cond b (Some due) (armed_for past q) ≡ Some t
        by_test true z = absurd (apart (sym (eqb-true r q z)))
        by_test false z = e

    new : (q t : ℕ) → q ≡ r → t ≡ due → cond (r == q) (Some due) (armed_for past q) ≡ Some t
    new q t same e = ap (λ b. cond b (Some due) (armed_for past q)) (eq-eqb r q (sym same)) ∙ ap Some (sym e)

    by_timer : (a : ActiveTimer) (c : Completion) → (IsIn a x.timers.active × completion_of x.completions a.start ≡ Some c) ⊎ (completes_for c ≡ r × a.due ≡ due × x.timers.starts_made < a.start) → cond (r == completes_for c) (Some due) (armed_for past (completes_for c)) ≡ Some a.due
    by_timer a c (inl h) = old (completes_for c) a.due (λ same. let b = found-counts r a.start x.completions c h.1 in let e = counts_one (completes_for c) r same in let none = d.none in omega (arith, b, e, none)) (f.timers a c h.0 h.1)
    by_timer a c (inr h) = new (completes_for c) a.due h.0 h.1

    by_idle : (t : IdleTimer) → IsIn t x.idle_timers ⊎ (t.registration ≡ r × t.due ≡ due) → cond (r == t.registration) (Some due) (armed_for past t.registration) ≡ Some t.due
    by_idle t (inl i) = old t.registration t.due (λ same. let b = in-total (idle_waits r) t x.idle_timers i in let e = counts_one t.registration r same in let none = d.none in omega (arith, b, e, none)) (f.idles t i)
    by_idle t (inr h) = new t.registration t.due h.0 h.1

    by_host : (a : HostAnswer) → IsIn a x.host_answers ⊎ (a.task.registration ≡ r × a.due ≡ due) → cond (r == a.task.registration) (Some due) (armed_for past a.task.registration) ≡ Some a.due
    by_host a (inl i) = old a.task.registration a.due (λ same. let b = in-total (answer_waits r) a x.host_answers i in let e = counts_one a.task.registration r same in let none = d.none in omega (arith, b, e, none)) (f.hosts a i)
    by_host a (inr h) = new a.task.registration a.due h.0 h.1

    by_active : (a : ActiveTimer) → IsIn a x.timers.active ⊎ a.start ≤ y.timers.starts_made → a.start ≤ y.timers.starts_made
    by_active a (inl i) = let b = f.active a i in let m = d.made in omega (arith, b, m)
    by_active a (inr le) = le

    by_start : (c : Completing) → IsIn c x.completions ⊎ c.start ≤ y.timers.starts_made → c.start ≤ y.timers.starts_made
    by_start c (inl i) = let b = f.starts c i in let m = d.made in omega (arith, b, m)
    by_start c (inr le) = le

-- an active timer more, with the next start number
timer-adds : (r due : ℕ) (x y : Places) (past : History) (t : ActiveTimer) (k : Completing) → waits r x ≤ 0 → TimesFit x past → t.start ≡ suc x.timers.starts_made → k.start ≡ t.start → t.due ≡ due → completes_for k.completion ≡ r → y.timers.active ≡ and_last x.timers.active t → y.timers.starts_made ≡ t.start → y.completions ≡ and_last x.completions k
    → y.idle_timers ≡ x.idle_timers → y.host_answers ≡ x.host_answers → Adds r due x y
timer-adds r due x y past t k none f s ks at own a m b c d =
    record {
      none = none;
      timers = λ n z i e. by_timer n z (in-last n t x.timers.active (subst (λ (ns : List ActiveTimer). IsIn n ns) a i)) (subst (λ (ns : List Completing). completion_of ns n.start ≡ Some z) b e);
      idles = λ n i. inl (subst (λ (ns : List IdleTimer). IsIn n ns) c i);
      hosts = λ n i. inl (subst (λ (ns : List HostAnswer). IsIn n ns) d i);
      active = λ n i. by_active n (in-last n t x.timers.active (subst (λ (ns : List ActiveTimer). IsIn n ns) a i));
      starts = λ n i. by_start n (in-last n k x.completions (subst (λ (ns : List Completing). IsIn n ns) b i));
      made = omega (arith, m, s);
      stays = λ n z h. (
        subst (λ (ns : List ActiveTimer). IsIn n ns) (sym a) (in-left n x.timers.active (t ∷ []) h.0),
        subst (λ (ns : List Completing). completion_of ns n.start ≡ Some z) (sym b) (found-more x.completions k n.start z h.1),
      );
      sorted = λ h. subst Sorted (sym a) (sorted-last x.timers.active t (λ u i. let le = f.active u i in omega (arith, le, s)) h);
    }
  where
    by_timer : (n : ActiveTimer) (z : Completion) → IsIn n x.timers.active ⊎ (n ≡ t) → completion_of (and_last x.completions k) n.start ≡ Some z → (IsIn n x.timers.active × completion_of x.completions n.start ≡ Some z) ⊎ (completes_for z ≡ r × n.due ≡ due × x.timers.starts_made < n.start)
    by_timer n z (inl i) e = inl (i, found-older x.completions k n.start z (λ same. let le = f.active n i in absurd (omega (arith, same, le, s, ks))) e)
    by_timer n z (inr same) e =
        let starts : n.start ≡ k.start = ap {A = ActiveTimer} {B = ℕ} (λ u. u.start) same ∙ sym ks in
        inr (sym (ap completes_for (found-new x.completions k x.timers.starts_made z f.starts (ks ∙ s) (sym (ap (completion_of (and_last x.completions k)) starts) ∙ e))) ∙ own, ap {A = ActiveTimer} {B = ℕ} (λ u. u.due) same ∙ at, let own_start = ap {A = ActiveTimer} {B = ℕ} (λ u. u.start) same in omega (arith, own_start, s))

    by_active : (n : ActiveTimer) → IsIn n x.timers.active ⊎ (n ≡ t) → IsIn n x.timers.active ⊎ n.start ≤ y.timers.starts_made
    by_active n (inl i) = inl i
    by_active n (inr same) = let e = ap {A = ActiveTimer} {B = ℕ} (λ u. u.start) same in inr (omega (arith, e, m))

    by_start : (n : Completing) → IsIn n x.completions ⊎ (n ≡ k) → IsIn n x.completions ⊎ n.start ≤ y.timers.starts_made
    by_start n (inl i) = inl i
    by_start n (inr same) = let e = ap {A = Completing} {B = ℕ} (λ u. u.start) same in inr (omega (arith, e, m, ks))

-- where a new registration is armed
pub first-adds : {made : List Registration} {ps : Prios} {r : ℕ} {x y : Places} (u : FirstPlace made ps r x y) → (due : ℕ) → FirstArms u due → (past : History) → waits r x ≤ 0 → TimesFit x past → Adds r due x y
first-adds {r = r} {x = x} {y = y} nowhere due h past none f = elim h [ ]
first-adds {r = r} {x = x} {y = y} (at_listener target name q e) due h past none f = elim h [ ]
first-adds {r = r} {x = x} {y = y} (at_timer a t e first) due h past none f =
    timer-adds r due x y past (record { start = a.start; due = a.due }) (record { start = a.start; completion = QueueTimer t }) none f first.start refl (sym h) e refl refl refl refl refl
first-adds {r = r} {x = x} {y = y} (at_delay ms now q source e k) due h past none f =
    timer-adds r due x y past (record { start = suc x.timers.starts_made; due = now + ms * 1000 }) (record { start = suc x.timers.starts_made; completion = EnqueuePost q source }) none f refl refl (sym h) e refl refl refl refl refl
first-adds {r = r} {x = x} {y = y} (at_idle q e) due h past none f = elim h [ ]
first-adds {r = r} {x = x} {y = y} (at_host c a e there live) due h past none f =
    record {
      none = none;
      timers = λ n z i k. inl (i, k);
      idles = λ n i. inl i;
      hosts = λ n i. by_place n (in-last n a x.host_answers i);
      active = λ n i. inl i;
      starts = λ n i. inl i;
      made = omega arith;
      stays = λ n z h. h;
      sorted = λ h. h;
    }
  where
    by_place : (n : HostAnswer) → IsIn n x.host_answers ⊎ (n ≡ a) → IsIn n x.host_answers ⊎ (n.task.registration ≡ r × n.due ≡ due)
    by_place n (inl i) = inl i
    by_place n (inr same) = inr (ap {A = HostAnswer} {B = ℕ} (λ k. k.task.registration) same ∙ e, ap {A = HostAnswer} {B = ℕ} (λ k. k.due) same ∙ sym h)

pub unarmed-waits : (r : ℕ) (x : Places) → IsUnarmed r x → waits r x ≤ 0
unarmed-waits r x u = let a = unarmed-none r x u in omega (arith, a)

-- where registrations are armed elsewhere
pub place-adds : {made : List Registration} {x y : Places} (c : PlaceChange made x y) → (p : Page) → IsMade c p → x ≡ places p → (r due : ℕ) → PlaceArms c r due → (past : History) → TimesFit x past → Adds r due x y
place-adds {x = x} {y = y} (armed_again a t role there next) p k e r due h past f =
    timer-adds r due x y past (record { start = a.start; due = a.due }) (record { start = a.start; completion = QueueTimer t })
    (subst (λ (n : ℕ). waits n x ≤ 0) (sym h.0) (unarmed-waits t.registration x (subst (IsUnarmed t.registration) (sym e) k))) f next.start refl (sym h.1) (sym h.0) refl refl refl refl refl
place-adds {x = x} {y = y} (signal_armed ms now q s) p k e r due h past f =
    timer-adds r due x y past (record { start = suc x.timers.starts_made; due = now + ms * 1000 }) (record { start = suc x.timers.starts_made; completion = QueueSignal q s })
    (subst (λ (n : ℕ). waits n x ≤ 0) (sym h.0) (unarmed-waits q x (subst (IsUnarmed q) (sym e) k.1))) f refl refl (sym h.1) (sym h.0) refl refl refl refl refl
place-adds {x = x} {y = y} (idle_armed t most own) p k e r due h past f =
    record {
      none = subst (λ (n : ℕ). waits n x ≤ 0) (sym h.0) (unarmed-waits t.registration x (subst (IsUnarmed t.registration) (sym e) k.1));
      timers = λ n z i l. inl (i, l);
      idles = λ n i. by_place n (in-last n t x.idle_timers i);
      hosts = λ n i. inl i;
      active = λ n i. inl i;
      starts = λ n i. inl i;
      made = omega arith;
      stays = λ n z h. h;
      sorted = λ h. h;
    }
  where
    by_place : (n : IdleTimer) → IsIn n x.idle_timers ⊎ (n ≡ t) → IsIn n x.idle_timers ⊎ (n.registration ≡ r × n.due ≡ due)
    by_place n (inl i) = inl i
    by_place n (inr same) = inr (ap {A = IdleTimer} {B = ℕ} (λ k. k.registration) same ∙ sym h.0, ap {A = IdleTimer} {B = ℕ} (λ k. k.due) same ∙ sym h.1)
place-adds c p k e r due h past f = elim h [ ]

-- ---- what is not armed

pub place-within : {made : List Registration} {x y : Places} (c : PlaceChange made x y) → PlaceIsPlain c → Within None x y
place-within {x = x} {y = y} places_stay h = same-within x
place-within {x = x} {y = y} (task_queued t e plain) h = within-same x y refl refl refl refl refl
place-within {x = x} {y = y} (task_left number) h = within-same x y refl refl refl refl refl
place-within (armed_again a t role there next) h = elim h [ ]
place-within (signal_armed ms now q s) h = elim h [ ]
place-within {x = x} {y = y} (id_cleared id) h = within-same x y refl refl refl refl refl
place-within (idle_armed t most own) h = elim h [ ]
place-within {x = x} {y = y} (completed start gone) h = within-none x y start gone (within-start x y start refl refl refl refl refl)
place-within {x = x} {y = y} idle_started h = within-same x y refl refl refl refl refl
place-within {x = x} {y = y} (idle_queued t e from) h = within-same x y refl refl refl refl refl

pub first-within : {made : List Registration} {ps : Prios} {r : ℕ} {x y : Places} (u : FirstPlace made ps r x y) → FirstIsPlain u → Within None x y
first-within {x = x} {y = y} nowhere h = same-within x
first-within {x = x} {y = y} (at_listener target name q e) h = within-same x y refl refl refl refl refl
first-within (at_timer a t e first) h = elim h [ ]
first-within (at_delay ms now q source e k) h = elim h [ ]
first-within {x = x} {y = y} (at_idle q e) h = within-same x y refl refl refl refl refl
first-within (at_host c a e there live) h = elim h [ ]

pub drop-within : {made : List Registration} {r : ℕ} {x y : Places} → Dropping made r x y → Within None x y
drop-within {x = x} {y = y} (timer_dropped id there e own) = within-same x y refl refl refl refl refl
drop-within {x = x} {y = y} (idle_dropped handle c e e1 role) = within-same x y refl refl refl refl refl
drop-within {x = x} {y = y} (listener_dropped there role) = within-same x y refl refl refl refl refl

-- ---- moves

abbrev pub Fits : Page → Type 0
Fits p = TimesFit (places p) p.events

-- a page that is as another one but for the rest
before-fits : {p q : Page} → AsBefore p q → TimesFit (places q) p.events → Fits q
before-fits {p = p} {q = q} b f = subst (TimesFit (places q)) (sym b.events) f

-- the same at these places
replaced : (y z : Places) (past : History) → y ≡ z → TimesFit z past → TimesFit y past
replaced y z past e f = subst (λ (x : Places). TimesFit x past) (sym e) f

said : (e : Event) (p : Page) → is_quiet e ≡ true → Fits p → Fits (emit e p)
said e p h f = quiet-fits e p.now (places p) (places p) p.events h (same-within (places p)) f

added-fits : (now : ℕ) (es : List Event) (x : Places) (past : History) → Each Quiet es → TimesFit x past → TimesFit x (added now es past)
added-fits now [] x past h f = f
added-fits now (e ∷ es) x past h f = added-fits now es x (record { time = now; event = e } ∷ past) h.1 (quiet-fits e now x x past h.0 (same-within x) f)

notices-fit : (f : Notices → Noticed) (p : Page) → Each Quiet (f p.notices).lines → Fits p → Fits (on_notices f p)
notices-fit f p h k =
    let q : Page = record p { notices = (f p.notices).notices } in
    let lines = (f p.notices).lines in
    subst (λ (x : Places). TimesFit x (emit_each lines q).events) (sym (emit_each-places lines q))
    (subst (TimesFit (places p)) (sym (emit_each-events lines q)) (added-fits p.now lines (places p) p.events h k))

changes-fit : (n : ℕ) (c : Promises.Change) (p : Page) → Fits p → Fits (promise_changes n c p)
changes-fit n c p f = notices-fit (λ s. changed (context p) p.names n c s) p (changed-quiet (context p) p.names n c p.notices) f

subscribed-fits : (n : ℕ) (r : Promises.Reaction) (p : Page) → Fits p → Fits (on_notices (subscribe_promise (context p) n r) p)
subscribed-fits n r p f =
    notices-fit (subscribe_promise (context p) n r) p
    (changed-quiet (context p) [] n (Promises.subscribe n (the_promise p.notices.promises n) r) (record p.notices { rejected = without (λ m. m == n) p.notices.rejected; outstanding = without (λ m. m == n) p.notices.outstanding })) f

pub made-fits : (k : RegKind) (x : Registration) (p : Page) → Fits p → Fits (register_as k x p)
made-fits k x p f = quiet-fits (Reg (suc (length p.registrations)) k (caller p)) p.now (places p) (places p) p.events refl (same-within (places p)) f

-- what waits to be due is no more than once
pub once-waits : (p : Page) (r : ℕ) → Tidy p → waits r (places p) ≤ 1
once-waits p r t = let a = t.once r in omega (arith, a)

change-fits : {p q : Page} (c : PageChange p q) → IsPlain c → Tidy p → Fits p → Fits q
change-fits {p = p} {q = q} (elsewhere c b k) plain t f = before-fits b (within-fits (places p) (places q) p.events (place-within c plain) f)
change-fits {p = p} (told e h) plain t f = said e p (aside-quiet e h) f
change-fits (arm_told r due level w well) plain t f = elim plain [ ]
change-fits {p = p} (rested e h x y z over begun done) plain t f = said e p (rest-quiet e h) f
change-fits {p = p} {q = q} (answered source task u answer x y live z b) plain t f =
    before-fits b (replaced (places q) _ _ z (quiet-fits (Host u.closure u.number answer) p.now (places p) _ p.events refl (within-same (places p) _ refl refl refl refl refl) f))
change-fits {p = p} {q = q} (registered k x e unframed u b at) plain t f = before-fits b (within-fits (places p) (places q) _ (first-within u plain) (made-fits k x p f))
change-fits {p = p} {q = q} (enqueued_anew k x u queue e i s n b) plain t f =
    before-fits b
    (replaced (places q) _ _ s
    (quiet-fits (Enq u.registration queue u.continuation u.order) p.now (places p) _ (register_as k x p).events refl (within-same (places p) _ refl refl refl refl refl) (made-fits k x p f)))
change-fits {p = p} {q = q} (fell_due r d b by) plain t f = before-fits b (due-times d p.now p.events by (once-waits p r t) f)
change-fits {p = p} {q = q} (post_fell_due start source u queue e role a s n b by) plain t f =
    let gone : Places = without_start start (places p) in
    before-fits b
    (replaced (places q) _ _ s
    (quiet-fits (Enq u.registration queue u.continuation u.order) p.now gone _ _ refl (within-same gone _ refl refl refl refl refl)
    (timer-times u.registration p.now start (EnqueuePost u.registration source) (places p) gone p.events e refl by (within-start (places p) gone start refl refl refl refl refl) refl refl refl (once-waits p u.registration t) f)))
change-fits {p = p} {q = q} (dropped r d b) plain t f = before-fits b (quiet-fits (Drop r) p.now (places p) (places q) p.events refl (drop-within d) f)
change-fits {p = p} (frame_dropped handle c e role) plain t f = quiet-fits (Drop c.registration) p.now (places p) _ p.events refl (within-same (places p) _ refl refl refl refl refl) f
change-fits {p = p} {q = q} (task_dropped r role a e s b) plain t f =
    before-fits b
    (replaced (places q) _ _ s
    (quiet-fits (Drop r) p.now (places p) _ p.events refl
    (record { active = λ k i. i; found = λ n c l. l; completions = λ k i. i; idles = λ k i. i; hosts = λ k i. in-fewer k (λ u. u.task.registration == r) p.host_answers i; made = refl; stays = λ a c h. inr h; sorted = λ h. h }) f))
change-fits {p = p} (prio_told s priority ps c) plain t f = said (Prio s priority) p refl f
change-fits {p = p} (frame_asked g) plain t f = made-fits kind.Frame (record { role = OfKind kind.Frame; callback = Some g; second_callback = None; timer_id = 0; promise = 0; signal = None; finally = false }) p f
change-fits promised plain t f = f
change-fits {p = p} (settled n how x y) plain t f = changes-fit n (Promises.settle n (the_promise p.notices.promises n) how) p f
change-fits {p = p} (followed n how x y) plain t f = changes-fit n (Promises.settle n (the_promise p.notices.promises n) how) p f
change-fits {p = p} (adopted n from x y) plain t f = changes-fit n (Promises.adopt n (the_promise p.notices.promises n) from) p f
change-fits {p = p} (subscribed n r x y) plain t f = subscribed-fits n r p f
change-fits {p = p} (then_asked n x r e g y) plain t f = subscribed-fits n r (register_as kind.Then x p) (made-fits kind.Then x p f)
change-fits {p = p} (micro_asked x r e y) plain t f = notices-fit (queue_micro (context p) r) (register_as kind.Micro x p) (refl, tt) (made-fits kind.Micro x p f)
change-fits rejected_taken plain t f = f
change-fits (noted n) plain t f = f

-- a change that arms, and its line
arms-fit : {p q s : Page} (c : PageChange p q) (d : PageChange q s) → Tells c d → Tidy p → Fits p → Fits s
arms-fit {p = p} {q = q} (registered k x e unframed u b at) (arm_told r due level w well) h t f =
    arm-fits r due level q.now (places p) (places q) q.events (subst (λ (n : ℕ). Adds n due (places p) (places q)) (sym h.0) (first-adds u due h.1 p.events none f))
    (subst (TimesFit (places p)) (sym b.events) (made-fits k x p f))
  where
    none : waits (suc (length p.registrations)) (places p) ≤ 0
    none = let a = t.fresh (suc (length p.registrations)) (omega arith) in omega (arith, a)
arms-fit {p = p} {q = q} (elsewhere c b k) (arm_told r due level w well) h t f =
    arm-fits r due level q.now (places p) (places q) q.events (place-adds c p k refl r due h.0 p.events f) (subst (TimesFit (places p)) (sym b.events) f)
arms-fit c d h t f = elim h [ ]

called-fits : (p : Page) (r : ℕ) (x : Places) (past : History) → Within None (places p) x → TimesFit (places p) past → TimesFit x (record { time = p.now; event = Call r } ∷ past)
called-fits p r x past w f = quiet-fits (Call r) p.now (places p) x past refl w f

begins-fit : (b : Beginning) (p : Page) → Fits p → Fits (call_begun (called_by b) (taken b p))
begins-fit (TheScript source task) p f = called-fits p _ _ p.events (within-same (places p) _ refl refl refl refl refl) f
begins-fit (ATimer source task t) p f = called-fits p _ _ p.events (within-same (places p) _ refl refl refl refl refl) f
begins-fit (AFrame key c) p f = called-fits p _ _ p.events (within-same (places p) _ refl refl refl refl refl) f
begins-fit (AnIdle c others) p f = called-fits p _ _ _ (within-same (places p) _ refl refl refl refl refl) (said (IdleLine (deadline p.last_idle_start p)) p refl f)
begins-fit (ALateIdle handle c) p f = called-fits p _ _ p.events (within-same (places p) _ refl refl refl refl refl) f
begins-fit (AListener r) p f = called-fits p _ _ p.events (within-same (places p) _ refl refl refl refl refl) f
begins-fit (APost t) p f = called-fits p _ _ _ (within-same (places p) _ refl refl refl refl refl) (said (Turn p.turns (Some Sched)) p refl f)
begins-fit (AContinuation t) p f = called-fits p _ _ _ (within-same (places p) _ refl refl refl refl refl) (said (Turn p.turns (Some Sched)) p refl f)
begins-fit (AMicro job others r) p f = called-fits p _ _ _ (within-same (places p) _ refl refl refl refl refl) (said (Run job.number) p refl f)
begins-fit (AReaction job others of x r) p f = called-fits p _ _ _ (within-same (places p) _ refl refl refl refl refl) (said (Run job.number) p refl f)

pub moves-fit : {p q : Page} → Moves p q → Tidy p → Fits p → Fits q
moves-fit here t f = f
moves-fit (changing a c plain) t f = change-fits c plain (moves-tidy a t) (moves-fit a t f)
moves-fit (arming a c d w) t f = arms-fit c d w (moves-tidy a t) (moves-fit a t f)
moves-fit (calling {q = q} a b w i) t f = begins-fit b q (moves-fit a t f)
moves-fit (ending {q = q} a e h) t f = said e q (end-quiet e h) (moves-fit a t f)
moves-fit (flagging {q = q} {r = r} a x y z w u v k j) t f = replaced (places r) (places q) r.events u (subst (TimesFit (places q)) (sym y) (moves-fit a t f))
moves-fit (running {q = q} a j others x y nm) t f = said (Run j.number) q refl (moves-fit a t f)
moves-fit (framing {q = q} a n) t f = said (Frame n) q refl (moves-fit a t f)
moves-fit (idling a none) t f = moves-fit a t f

pub first-times : (program : Program) (setup : Setup) (hosts : List HostClosure) → Fits (first_page program setup hosts)
first-times program setup hosts =
    record { timers = λ a c i. elim i [ ]; idles = λ t i. elim i [ ]; hosts = λ a i. elim i [ ]; active = λ a i. elim i [ ]; starts = λ c i. elim i [ ]; kept = tt }

-- from a first page on, what is due was armed for that time or an earlier one
pub due_when_armed : (program : Program) (setup : Setup) (hosts : List HostClosure) {q : Page} → Moves (first_page program setup hosts) q → Kept due_test q.events
due_when_armed program setup hosts a = (moves-fit a (first-tidy program setup hosts) (first-times program setup hosts)).kept
