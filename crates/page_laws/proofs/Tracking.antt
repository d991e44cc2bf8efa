-- Arms, rows of changes, calls and jobs keep that the nesting level follows the lines.
use Rattle.std.proofs.Common.{◌≡◌, ◌⊎◌, inl, inr, ℕ, suc, ◌≤◌, Bool, true, false, not, ◌||◌, List, [], ◌∷◌, Option, Some, None, refl, sym, subst, ap, ◌∙◌, cond, length, arith, eqb-true, unwrap_or}
use Rattle.std.specs.Prelude.{◌==◌}
use Rattle.std.proofs.lemmas.Bool.{eq-eqb}
use Rattle.page_types.specs.declared.RegKind.{RegKind}
use Rattle.page_types.specs.declared.RegKind.TheVariants as kind
use Rattle.page_types.specs.declared.Source.{Source}
use Rattle.page_types.specs.Events.{Event, Arm, Frame, IdleLine, Ret, Run, Throw, Turn}
use Rattle.page_parts.specs.Notices.{Notices, WaitingJob, no_context}
use Rattle.page_parts.specs.TaskSignals.{Prios}
use Rattle.page_model.specs.State.{Page, OfKind, Registration, RunTimer, Task, TimerTask, emit}
use Rattle.page_model.specs.Invoke.{call_begun, call_ended, context_of_job, job_begun}
use Rattle.page_model.specs.PageTime.{deadline}
use Rattle.page_model.specs.Numbers.{IsFor, is_timer_role, made_by, timer_role}
use Rattle.page_laws.specs.History.{History, calls_in, has_kind, is_host, is_rest, is_some_and, is_timer, is_turn, level_in, level_of, open_registrations, this_turn, was_called, without_first}
use Rattle.page_laws.specs.SchedulerLaws.{is_posted}
use Rattle.page_laws.specs.TimerLaws.{keeps_levels, level_above, level_by_call, level_by_turn, level_due, level_of_turn, level_under, outermost}
use Rattle.page_laws.specs.Moves.{is_end, role_at, IsIn, IsMade, IsNew, IsQuiet, Tells, PlaceArms, FirstArms, FirstLevels, FirstFollows, PlaceIsNew, Places, places, PlaceChange, armed_again, signal_armed, idle_armed, FirstPlace, nowhere, at_listener, at_timer, at_delay, at_idle, at_host, fits_first, PageChange, elsewhere, arm_told, rested, registered as made_one, Changes, nothing, with_change, with_arm, Moves, here, changing, arming, calling, ending, flagging, framing, running, is_micro, Beginning, TheScript, ATimer, AFrame, AnIdle, ALateIdle, AListener, APost, AContinuation, AMicro, AReaction, Waited, called_by, role_of, taken}
use Rattle.page_laws.proofs.Following.{ByTurn, Following, Further, a_line, no_line, line-stays, Older, older-same, older-then, Sound, Stays, below-stays, called-given, called-stays, change-stays, following-by, following-stays, further-law, further-level, further-open, further-turn, level_below, levels, open-called, outermost-in, outermost-none, sound-by, sound-stays, stays-older, timer_told, turn-called}
use Rattle.page_laws.proofs.DueOrder.{Grounds, grounds-later}
use Rattle.page_laws.proofs.Framed.{false_true}
use Rattle.page_laws.proofs.Lines.{Same, changes-same}
use Rattle.page_laws.proofs.Moving.{calm-holds, quiet-plain}
use Rattle.page_laws.proofs.Over.{newest-role, on_right}
use Rattle.page_laws.proofs.Ready.{task-there}
use Rattle.page_laws.proofs.Scans.{Kept}
use Rattle.page_laws.proofs.TimersLive.{queued}

no_some : (r : ℕ) → None ≡ Some r → ⊥
no_some r e = Prim.cc

-- ---- arms

posted-untimed : (k : RegKind) → is_posted k ≡ true → is_timer_role (OfKind k) ≡ false
posted-untimed kind.Timeout h = absurd (false_true h)
posted-untimed kind.Interval h = absurd (false_true h)
posted-untimed k h = refl

host-untimed : (k : RegKind) → is_host k ≡ true → is_timer_role (OfKind k) ≡ false
host-untimed kind.Timeout h = absurd (false_true h)
host-untimed kind.Interval h = absurd (false_true h)
host-untimed k h = refl

-- what is no timer may be armed with any level
untimed-passes : (form : ℕ) (past : History) (r due level : ℕ) → has_kind is_timer past r ≡ false → keeps_levels form past (Arm r due level) ≡ true
untimed-passes form past r due level h = ap {A = Bool} {B = Bool} (λ b. not b || is_some_and (λ n. n == level) (level_due form past r)) h

-- a timer with the level that is due
pub due-passes : (form : ℕ) (past : History) (r due level : ℕ) → level_due form past r ≡ Some level → keeps_levels form past (Arm r due level) ≡ true
due-passes form past r due level h =
    on_right (not (has_kind is_timer past r)) (is_some_and (λ n. n == level) (level_due form past r)) (ap {A = Option ℕ} {B = Bool} (λ o. is_some_and (λ n. n == level) o) h ∙ eq-eqb level level refl)

other-level : (r q level : ℕ) (o : Option ℕ) → (q ≡ r → ⊥) → cond (r == q) (Some level) o ≡ o
other-level r q level o apart = by_test (r == q) refl
  where
    by_test : (b : Bool) → (r == q) ≡ b → cond b (Some level) o ≡ o
    by_test true z = absurd (apart (sym (eqb-true r q z)))
    by_test false z = refl

-- a line that arms what no older timer is, with a level that it may have
armed-older : (p q : Page) (r due level : ℕ) → Stays p q → ((n : ℕ) → n ≤ length p.registrations → is_timer_role (role_at p.registrations n) ≡ true → n ≡ r → ⊥) → Older p (emit (Arm r due level) q)
armed-older p q r due level s apart =
    record {
      longer = s.longer;
      role = s.role;
      level = λ n le h. other-level r n level (level_of q.events n) (apart n le h) ∙ further-level s.lines n;
    }

armed-sound : (p q : Page) (r due level : ℕ) → Moves p (emit (Arm r due level) q) → Stays p q → keeps_levels q.form q.events (Arm r due level) ≡ true → Sound p → Sound (emit (Arm r due level) q)
armed-sound p q r due level a s passes f =
    sound-by p (emit (Arm r due level) q) a f (passes, subst (λ (n : ℕ). Kept (levels n) q.events) (sym s.form) (further-law s.lines p.form f.law))

armed-following : (p q : Page) (r due level : ℕ) → Moves p (emit (Arm r due level) q) → Stays p q → ((n : ℕ) → n ≤ length p.registrations → is_timer_role (role_at p.registrations n) ≡ true → n ≡ r → ⊥)
    → keeps_levels q.form q.events (Arm r due level) ≡ true → Following p → Following (emit (Arm r due level) q)
armed-following p q r due level a s apart passes f =
    following-by p (emit (Arm r due level) q) (armed-sound p q r due level a s passes f.sound) (armed-older p q r due level s apart) s.form s.level (further-open s.lines) (further-turn s.lines) s.jobs f

-- a new timer that is armed in a call has the level that is due
level-due : (p q : Page) (r due level : ℕ) → Moves p (emit (Arm r due level) q) → Stays p q → level ≡ suc p.level → (open_registrations p.events ≡ [] → ⊥) → Following p → level_due q.form q.events r ≡ Some level
level-due p q r due level a s e called f = by_form (q.form == 2) refl
  where
    after : Grounds (emit (Arm r due level) q)
    after = grounds-later a f.sound.grounds

    below : (n : ℕ) → n ≤ length p.registrations → level_below q.events n ≡ level_below p.events n
    below n le = below-stays p q.registrations q.events f.sound.grounds (λ m. timer_told (emit (Arm r due level) q) after m) n (s.role n le) (λ h. further-level s.lines n)

    given : (n : ℕ) → was_called p.events n ≡ true → n ≤ length p.registrations
    given n h = called-given p f.sound.grounds n h

    by_open : (o : Option ℕ) → outermost (open_registrations q.events) ≡ o → (q.form == 2) ≡ false → level_under q.events r o ≡ Some level
    by_open None e1 h = absurd (called (sym (further-open s.lines) ∙ outermost-none (open_registrations q.events) e1))
    by_open (Some n) e1 h =
        let e2 = ap outermost (sym (further-open s.lines)) ∙ e1 in
        below n (given n (open-called p.events n (outermost-in (open_registrations p.events) n e2))) ∙ (f.by_call (ap (λ n. n == 2) (sym s.form) ∙ h) n e2 ∙ ap Some (sym e))

    by_first : (o : Option ℕ) → outermost (calls_in (this_turn q.events)) ≡ o → ByTurn p → level_of_turn q.events o ≡ Some level
    by_first None e1 t = ap (λ n. Some (suc n)) (sym (t.uncalled (sym (further-turn s.lines) ∙ outermost-none (calls_in (this_turn q.events)) e1))) ∙ ap Some (sym e)
    by_first (Some n) e1 t =
        let e2 = ap outermost (sym (further-turn s.lines)) ∙ e1 in
        below n (given n (turn-called p.events n (outermost-in (calls_in (this_turn p.events)) n e2))) ∙ (t.called n e2 ∙ ap Some (sym e))

    by_form : (b : Bool) → (q.form == 2) ≡ b → cond b (level_by_turn q.events) (level_by_call q.events r) ≡ Some level
    by_form true h = by_first (outermost (calls_in (this_turn q.events))) refl (f.by_turn (ap (λ n. n == 2) (sym s.form) ∙ h))
    by_form false h = by_open (outermost (open_registrations q.events)) refl h

-- what a change arms that arms no interval again, and is no new timer, is no timer
place-untimed : (p : Page) {y : Places} (c : PlaceChange p.registrations (places p) y) → IsMade c p → PlaceIsNew c → (r due : ℕ) → PlaceArms c r due → is_timer_role (role_at p.registrations r) ≡ false
place-untimed p (armed_again a t role there next) k new r due w = elim new [ ]
place-untimed p (signal_armed ms now q m) k new r due w = ap (λ n. is_timer_role (role_at p.registrations n)) w.0 ∙ ap is_timer_role k.0
place-untimed p (idle_armed t most own) k new r due w = ap (λ n. is_timer_role (role_at p.registrations n)) w.0 ∙ ap is_timer_role k.0
place-untimed p c k new r due w = elim w [ ]

first-passes : (k : RegKind) (p : Page) {made : List Registration} {ps : Prios} {n : ℕ} {x y : Places} (u : FirstPlace made ps n x y) (past : History) (form r due level : ℕ) → fits_first k u ≡ true → FirstArms u due → FirstLevels u level → FirstFollows u p
    → (is_timer_role (OfKind k) ≡ false → has_kind is_timer past r ≡ false) → (level ≡ suc p.level → (open_registrations p.events ≡ [] → ⊥) → level_due form past r ≡ Some level) → keeps_levels form past (Arm r due level) ≡ true
first-passes k p nowhere past form r due level fits w l follows none due-one = elim w [ ]
first-passes k p (at_listener target name q e) past form r due level fits w l follows none due-one = elim w [ ]
first-passes k p (at_timer a t e first) past form r due level fits w l follows none due-one = due-passes form past r due level (due-one (l ∙ follows.0) follows.1)
first-passes k p (at_delay ms now q source e h) past form r due level fits w l follows none due-one = untimed-passes form past r due level (none (posted-untimed k fits))
first-passes k p (at_idle q e) past form r due level fits w l follows none due-one = elim w [ ]
first-passes k p (at_host c a e there live) past form r due level fits w l follows none due-one = untimed-passes form past r due level (none (host-untimed k fits))

arm-following : {p q s : Page} (c : PageChange p q) (d : PageChange q s) → Tells c d → IsNew c → Following p → Following s
arm-following {p = p} {q = q} (made_one k x e unframed u b at) (arm_told r due level w well) h new f =
    armed-following p q r due level row st (λ n le role same. absurd (let z = h.0 in omega (arith, le, same, z)))
    (first-passes k p u q.events q.form r due level at.0 h.1 h.2 h.3 none (λ e1 called. level-due p q r due level row st e1 called f)) f
  where
    st : Stays p q
    st = change-stays (made_one k x e unframed u b at) tt

    row : Moves p (emit (Arm r due level) q)
    row = arming here (made_one k x e unframed u b at) (arm_told r due level w well) h

    none : is_timer_role (OfKind k) ≡ false → has_kind is_timer q.events r ≡ false
    none z =
        timer_told (emit (Arm r due level) q) (grounds-later row f.sound.grounds) r
        ∙ (ap (λ (xs : List Registration). is_timer_role (role_at xs r)) b.registrations ∙ (ap is_timer_role (newest-role p.registrations x r h.0 ∙ e) ∙ z))
arm-following {p = p} {q = q} (elsewhere c b k) (arm_told r due level w well) h new f =
    armed-following p q r due level row st (λ n le role same. absurd (false_true (sym untimed ∙ (ap (λ m. is_timer_role (role_at p.registrations m)) (sym same) ∙ role))))
    (untimed-passes q.form q.events r due level
    (timer_told (emit (Arm r due level) q) (grounds-later row f.sound.grounds) r ∙ (ap (λ (xs : List Registration). is_timer_role (role_at xs r)) b.registrations ∙ untimed))) f
  where
    st : Stays p q
    st = change-stays (elsewhere c b k) tt

    row : Moves p (emit (Arm r due level) q)
    row = arming here (elsewhere c b k) (arm_told r due level w well) h

    untimed : is_timer_role (role_at p.registrations r) ≡ false
    untimed = place-untimed p c k (calm-holds b.watched (PlaceIsNew c) new) r due h.0
arm-following c d h new f = elim h [ ]

-- where no call is open, no new timer is armed
arm-sound : {p q s : Page} (c : PageChange p q) (d : PageChange q s) → Tells c d → IsNew c → open_registrations p.events ≡ [] → Sound p → Sound s
arm-sound {p = p} {q = q} (made_one k x e unframed u b at) (arm_told r due level w well) h new uncalled f =
    armed-sound p q r due level row (change-stays (made_one k x e unframed u b at) tt) (first-passes k p u q.events q.form r due level at.0 h.1 h.2 h.3 none (λ e1 called. absurd (called uncalled))) f
  where
    row : Moves p (emit (Arm r due level) q)
    row = arming here (made_one k x e unframed u b at) (arm_told r due level w well) h

    none : is_timer_role (OfKind k) ≡ false → has_kind is_timer q.events r ≡ false
    none z =
        timer_told (emit (Arm r due level) q) (grounds-later row f.grounds) r
        ∙ (ap (λ (xs : List Registration). is_timer_role (role_at xs r)) b.registrations ∙ (ap is_timer_role (newest-role p.registrations x r h.0 ∙ e) ∙ z))
arm-sound {p = p} {q = q} (elsewhere c b k) (arm_told r due level w well) h new uncalled f =
    armed-sound p q r due level row (change-stays (elsewhere c b k) tt)
    (untimed-passes q.form q.events r due level
    (timer_told (emit (Arm r due level) q) (grounds-later row f.grounds) r
    ∙ (ap (λ (xs : List Registration). is_timer_role (role_at xs r)) b.registrations ∙ place-untimed p c k (calm-holds b.watched (PlaceIsNew c) new) r due h.0))) f
  where
    row : Moves p (emit (Arm r due level) q)
    row = arming here (elsewhere c b k) (arm_told r due level w well) h
arm-sound c d h new uncalled f = elim h [ ]

-- ---- changes

rest-passes : (e : Event) → is_rest e ≡ true → (form : ℕ) (past : History) → keeps_levels form past e ≡ true
rest-passes (Arm r due level) h form past = absurd (false_true h)
rest-passes e h form past = refl

-- a turn begins, at level 0
pub turn-follows : (e : Event) (p : Page) → is_turn e ≡ true → Sound (emit e p) → open_registrations p.events ≡ [] → p.notices.jobs ≡ [] → p.level ≡ 0 → Following (emit e p)
turn-follows (Turn n source) p h s x y level =
    record {
      sound = s;
      by_call = λ form r e. absurd (no_some r (sym (ap outermost x) ∙ e));
      by_turn = λ form. record {
        called = λ r e. absurd (no_some r e);
        uncalled = λ e. level;
        jobs = λ j i. elim (subst (λ (js : List WaitingJob). IsIn j js) y i) [ ];
      };
    }
turn-follows e p h s x y level = Prim.cc

pub change-following : {p q : Page} (c : PageChange p q) → IsQuiet c → Following p → Following q
change-following (arm_told r due level w well) quiet f = elim quiet [ ]
change-following {p = p} (rested e h x y z over begun done) quiet f = by_turn (is_turn e) refl
  where
    row : Moves p (emit e p)
    row = changing here (rested e h x y z over begun done) tt

    by_turn : (b : Bool) → is_turn e ≡ b → Following (emit e p)
    by_turn true k = turn-follows e p k (sound-by p (emit e p) row f.sound (rest-passes e h p.form p.events, f.sound.law)) x y (begun.1 k)
    by_turn false k = following-stays p (emit e p) row (change-stays (rested e h x y z over begun done) k) f
change-following {p = p} {q = q} c quiet f = following-stays p q (changing here c (quiet-plain c quiet)) (change-stays c tt) f

change-sound : {p q : Page} (c : PageChange p q) → IsQuiet c → Sound p → Sound q
change-sound (arm_told r due level w well) quiet f = elim quiet [ ]
change-sound {p = p} (rested e h x y z over begun done) quiet f =
    sound-by p (emit e p) (changing here (rested e h x y z over begun done) tt) f (rest-passes e h p.form p.events, f.law)
change-sound {p = p} {q = q} c quiet f = sound-stays p q (changing here c (quiet-plain c quiet)) (change-stays c tt) f

change-level : {p q : Page} (c : PageChange p q) → q.level ≡ p.level
change-level (arm_told r due level w well) = refl
change-level (rested e h x y z over begun done) = refl
change-level c = (change-stays c tt).level

pub changes-level : {p q : Page} → Changes p q → q.level ≡ p.level
changes-level nothing = refl
changes-level (with_change a c quiet) = change-level c ∙ changes-level a
changes-level (with_arm a c d h new) = change-level d ∙ (change-level c ∙ changes-level a)

rest-level : (e : Event) → is_rest e ≡ true → (r : ℕ) (o : Option ℕ) → level_in r e o ≡ o
rest-level (Arm q due level) h r o = absurd (false_true h)
rest-level e h r o = refl

change-older : {p q : Page} (c : PageChange p q) → IsQuiet c → Older p q
change-older (arm_told r due level w well) quiet = elim quiet [ ]
change-older {p = p} (rested e h x y z over begun done) quiet = record { longer = omega arith; role = λ r le. refl; level = λ r le k. rest-level e h r (level_of p.events r) }
change-older {p = p} {q = q} c quiet = stays-older p q (change-stays c tt)

arm-older : {p q s : Page} (c : PageChange p q) (d : PageChange q s) → Tells c d → IsNew c → Older p s
arm-older {p = p} {q = q} (made_one k x e unframed u b at) (arm_told r due level w well) h new =
    armed-older p q r due level (change-stays (made_one k x e unframed u b at) tt) (λ n le role same. absurd (let z = h.0 in omega (arith, le, same, z)))
arm-older {p = p} {q = q} (elsewhere c b k) (arm_told r due level w well) h new =
    armed-older p q r due level (change-stays (elsewhere c b k) tt)
    (λ n le role same. absurd (false_true (sym (place-untimed p c k (calm-holds b.watched (PlaceIsNew c) new) r due h.0) ∙ (ap (λ m. is_timer_role (role_at p.registrations m)) (sym same) ∙ role))))
arm-older c d h new = elim h [ ]

changes-older : {p q : Page} → Changes p q → Older p q
changes-older {p = p} nothing = older-same p
changes-older {p = p} {q = r} (with_change {q = q} a c quiet) = older-then p q r (changes-older a) (change-older c quiet)
changes-older {p = p} {q = s} (with_arm {q = q} a c d h new) = older-then p q s (changes-older a) (arm-older c d h new)

pub changes-following : {p q : Page} → Changes p q → Following p → Following q
changes-following nothing f = f
changes-following (with_change a c quiet) f = change-following c quiet (changes-following a f)
changes-following (with_arm a c d h new) f = arm-following c d h new (changes-following a f)

-- between calls
pub changes-sound : {p q : Page} → Changes p q → open_registrations p.events ≡ [] → Sound p → Sound q
changes-sound nothing x f = f
changes-sound (with_change a c quiet) x f = change-sound c quiet (changes-sound a x f)
changes-sound (with_arm a c d h new) x f = arm-sound c d h new ((changes-same a).0 ∙ x) (changes-sound a x f)

-- ---- calls

first-one : (r : ℕ) (xs : List ℕ) (n : ℕ) → outermost (r ∷ xs) ≡ Some n → (xs ≡ [] × n ≡ r) ⊎ ((xs ≡ [] → ⊥) × outermost xs ≡ Some n)
first-one r [] n e = inl (refl, sym (ap {A = Option ℕ} {B = ℕ} (λ o. unwrap_or o n) e))
first-one r (x ∷ xs) n e = inr (none, e)
  where
    none : x ∷ xs ≡ [] → ⊥
    none z = Prim.cc

-- what is no timer is the parent of level 1
untimed-below : (p : Page) → Grounds p → (r : ℕ) → is_timer_role (role_at p.registrations r) ≡ false → level_below p.events r ≡ Some 1
untimed-below p g r h = ap {A = Bool} {B = Option ℕ} (λ b. cond b (level_above (level_of p.events r)) (Some 1)) (timer_told p g r ∙ h)

-- something else than a timer is called
entered-following : (p n : Page) (r : ℕ) → Moves p (call_begun r n) → Older p n → n.form ≡ p.form → Further p.events n.events → r ≤ length p.registrations → is_timer_role (role_at p.registrations r) ≡ false
    → ((p.form == 2) ≡ false → open_registrations p.events ≡ [] → n.level ≡ 0) → ((p.form == 2) ≡ false → (open_registrations p.events ≡ [] → ⊥) → n.level ≡ p.level) → ((p.form == 2) ≡ true → n.level ≡ p.level)
    → ((j : WaitingJob) → IsIn j n.notices.jobs → IsIn j p.notices.jobs) → Following p → Following (call_begun r n)
entered-following p n r a o form l le untimed first more turn jobs f =
    record {
      sound = sound;
      by_call = λ h m e. let h1 = ap (λ k. k == 2) (sym form) ∙ h in by_open h1 m (first-one r (open_registrations p.events) m (ap {A = List ℕ} {B = Option ℕ} (λ xs. outermost (r ∷ xs)) (sym (further-open l)) ∙ e));
      by_turn = λ h. let h1 = ap (λ k. k == 2) (sym form) ∙ h in let t = f.by_turn h1 in
          record {
            called = λ m e. by_first h1 t m (first-one r (calls_in (this_turn p.events)) m (ap {A = List ℕ} {B = Option ℕ} (λ xs. outermost (r ∷ xs)) (sym (further-turn l)) ∙ e));
            uncalled = λ e. absurd (some e);
            jobs = λ j i. t.jobs j (jobs j i) ∙ sym (turn h1);
          };
    }
  where
    sound : Sound (call_begun r n)
    sound = sound-by p (call_begun r n) a f.sound (refl, subst (λ (k : ℕ). Kept (levels k) n.events) (sym form) (further-law l p.form f.sound.law))

    older : Older p (call_begun r n)
    older = record { longer = o.longer; role = o.role; level = o.level }

    some : {xs : List ℕ} → r ∷ xs ≡ [] → ⊥
    some e = Prim.cc

    one : level_below (call_begun r n).events r ≡ Some 1
    one =
        below-stays p n.registrations (call_begun r n).events f.sound.grounds (timer_told (call_begun r n) sound.grounds) r (o.role r le) (λ h. absurd (false_true (sym untimed ∙ h)))
        ∙ untimed-below p f.sound.grounds r untimed

    below : (m : ℕ) → was_called p.events m ≡ true → level_below (call_begun r n).events m ≡ level_below p.events m
    below m h = called-stays p (call_begun r n) f.sound.grounds sound.grounds older m h

    by_open : (p.form == 2) ≡ false → (m : ℕ) → (open_registrations p.events ≡ [] × m ≡ r) ⊎ ((open_registrations p.events ≡ [] → ⊥) × outermost (open_registrations p.events) ≡ Some m) → level_below (call_begun r n).events m ≡ Some (suc n.level)
    by_open h m (inl k) = ap (level_below (call_begun r n).events) k.1 ∙ (one ∙ ap (λ i. Some (suc i)) (sym (first h k.0)))
    by_open h m (inr k) =
        below m (open-called p.events m (outermost-in (open_registrations p.events) m k.1)) ∙ (f.by_call h m k.1 ∙ ap (λ i. Some (suc i)) (sym (more h k.0)))

    by_first : (p.form == 2) ≡ true → ByTurn p → (m : ℕ) → (calls_in (this_turn p.events) ≡ [] × m ≡ r) ⊎ ((calls_in (this_turn p.events) ≡ [] → ⊥) × outermost (calls_in (this_turn p.events)) ≡ Some m) → level_below (call_begun r n).events m ≡ Some (suc n.level)
    by_first h t m (inl k) = ap (level_below (call_begun r n).events) k.1 ∙ (one ∙ ap (λ i. Some (suc i)) (sym (turn h ∙ t.uncalled k.0)))
    by_first h t m (inr k) =
        below m (turn-called p.events m (outermost-in (calls_in (this_turn p.events)) m k.1)) ∙ (t.called m k.1 ∙ ap (λ i. Some (suc i)) (sym (turn h)))

-- the first call of a turn
fresh-following : (p n : Page) (r : ℕ) → Moves p (call_begun r n) → Sound p → Kept (levels n.form) n.events → open_registrations n.events ≡ [] → calls_in (this_turn n.events) ≡ [] → n.notices.jobs ≡ []
    → level_below (call_begun r n).events r ≡ Some (suc n.level) → Following (call_begun r n)
fresh-following p n r a s law x y z e =
    record {
      sound = sound-by p (call_begun r n) a s (refl, law);
      by_call = λ h m k. by_only (open_registrations n.events) m x (first-one r (open_registrations n.events) m k);
      by_turn = λ h. record {
        called = λ m k. by_only (calls_in (this_turn n.events)) m y (first-one r (calls_in (this_turn n.events)) m k);
        uncalled = λ k. absurd (some k);
        jobs = λ j i. elim (subst (λ (js : List WaitingJob). IsIn j js) z i) [ ];
      };
    }
  where
    some : {xs : List ℕ} → r ∷ xs ≡ [] → ⊥
    some e = Prim.cc

    by_only : (xs : List ℕ) (m : ℕ) → xs ≡ [] → (xs ≡ [] × m ≡ r) ⊎ ((xs ≡ [] → ⊥) × outermost xs ≡ Some m) → level_below (call_begun r n).events m ≡ Some (suc n.level)
    by_only xs m none (inl k) = ap (level_below (call_begun r n).events) k.1 ∙ e
    by_only xs m none (inr k) = absurd (k.0 none)

-- where no call is open, in the first form nothing but jobs and timers is called at another level than 0
abbrev pub AtZero : Page → Type 0
AtZero p = (p.form == 2) ≡ false → open_registrations p.events ≡ [] → p.level ≡ 0

-- at which level something else than a timer is called; a job is called in a checkpoint
abbrev pub FitsCall : Beginning → Page → Type 0
FitsCall (ATimer source task t) p = ⊥
FitsCall (APost t) p = p.level ≡ 0
FitsCall (AContinuation t) p = p.level ≡ 0
FitsCall (AMicro job others r) p = p.performing ≡ true
FitsCall (AReaction job others of x r) p = p.performing ≡ true
FitsCall b p = AtZero p

-- the level of a job
job-zero : (p : Page) (job : WaitingJob) → (p.form == 2) ≡ false → (context_of_job p.form job).level ≡ 0
job-zero p job h = ap {A = Bool} {B = ℕ} (λ b. (cond b job.context no_context).level) h

job-level : (p : Page) (job : WaitingJob) (others : List WaitingJob) → p.notices.jobs ≡ job ∷ others → (p.form == 2) ≡ true → Following p → (context_of_job p.form job).level ≡ p.level
job-level p job others e h f =
    ap {A = Bool} {B = ℕ} (λ b. (cond b job.context no_context).level) h ∙ (f.by_turn h).jobs job (subst (λ (js : List WaitingJob). IsIn job js) (sym e) (inl refl))

quiet-older : (p n : Page) → n.registrations ≡ p.registrations → Further p.events n.events → Older p n
quiet-older p n e l =
    record {
      longer = let a = ap {A = List Registration} {B = ℕ} length e in omega (arith, a);
      role = λ r le. ap (λ (xs : List Registration). role_at xs r) e;
      level = λ r le h. further-level l r;
    }

begin-following : (b : Beginning) (p : Page) → Waited b p → IsFor (role_of b) (made_by p) (called_by b) → FitsCall b p → Following p → Following (call_begun (called_by b) (taken b p))
begin-following (TheScript source task) p w i k f =
    entered-following p (taken (TheScript source task) p) 1 (calling here (TheScript source task) w i) (quiet-older p _ refl no_line) refl no_line i.registration.to_last (ap is_timer_role i.role) k (λ h x. refl) (λ h. refl) (λ j m. m) f
begin-following (ATimer source task t) p w i k f = elim k [ ]
begin-following (AFrame key c) p w i k f =
    entered-following p (taken (AFrame key c) p) c.registration (calling here (AFrame key c) w i) (quiet-older p _ refl no_line) refl no_line i.registration.to_last (ap is_timer_role i.role) k (λ h x. refl) (λ h. refl) (λ j m. m) f
begin-following (AnIdle c others) p w i k f =
    let l : Further p.events (taken (AnIdle c others) p).events = a_line p.now (IdleLine (deadline p.last_idle_start p)) refl no_line in
    entered-following p (taken (AnIdle c others) p) c.registration (calling here (AnIdle c others) w i) (quiet-older p (taken (AnIdle c others) p) refl l) refl l i.registration.to_last (ap is_timer_role i.role) k (λ h x. refl) (λ h. refl) (λ j m. m) f
begin-following (ALateIdle handle c) p w i k f =
    entered-following p (taken (ALateIdle handle c) p) c.registration (calling here (ALateIdle handle c) w i) (quiet-older p _ refl no_line) refl no_line i.registration.to_last (ap is_timer_role i.role) k (λ h x. refl) (λ h. refl) (λ j m. m) f
begin-following (AListener r) p w i k f =
    entered-following p p r (calling here (AListener r) w i) (quiet-older p p refl no_line) refl no_line i.registration.to_last (ap is_timer_role i.role) k (λ h x. refl) (λ h. refl) (λ j m. m) f
begin-following (APost t) p w i k f =
    fresh-following p (taken (APost t) p) t.registration (calling here (APost t) w i) f.sound (refl, f.sound.law) w.2 refl w.3
    (untimed-below p f.sound.grounds t.registration (ap is_timer_role i.role) ∙ ap (λ n. Some (suc n)) (sym k))
begin-following (AContinuation t) p w i k f =
    fresh-following p (taken (AContinuation t) p) t.registration (calling here (AContinuation t) w i) f.sound (refl, f.sound.law) w.2 refl w.3
    (untimed-below p f.sound.grounds t.registration (ap is_timer_role i.role) ∙ ap (λ n. Some (suc n)) (sym k))
begin-following (AMicro job others r) p w i k f =
    let l : Further p.events (taken (AMicro job others r) p).events = a_line p.now (Run job.number) refl no_line in
    entered-following p (taken (AMicro job others r) p) r (calling here (AMicro job others r) w i) (quiet-older p (taken (AMicro job others r) p) refl l) refl l i.registration.to_last (ap is_timer_role i.role) (λ h x. job-zero p job h) (λ h x. absurd (x w.2)) (λ h. job-level p job others w.0 h f) (λ j m. subst (λ (js : List WaitingJob). IsIn j js) (sym w.0) (inr m)) f
begin-following (AReaction job others of x r) p w i k f =
    let l : Further p.events (taken (AReaction job others of x r) p).events = a_line p.now (Run job.number) refl no_line in
    entered-following p (taken (AReaction job others of x r) p) r (calling here (AReaction job others of x r) w i) (quiet-older p (taken (AReaction job others of x r) p) refl l) refl l i.registration.to_last (ap is_timer_role i.role) (λ h x. job-zero p job h) (λ h x. absurd (x w.3)) (λ h. job-level p job others w.0 h f) (λ j m. subst (λ (js : List WaitingJob). IsIn j js) (sym w.0) (inr m)) f

-- a task of the scheduler
abbrev pub IsSched : Beginning → Type 0
IsSched (APost t) = Unit {0}
IsSched (AContinuation t) = Unit {0}
IsSched b = ⊥

-- a scheduler task is the first call of its turn, whatever was before
pub sched-following : (b : Beginning) (p : Page) → IsSched b → Waited b p → IsFor (role_of b) (made_by p) (called_by b) → p.level ≡ 0 → Sound p → Following (call_begun (called_by b) (taken b p))
sched-following (APost t) p k w i level s =
    fresh-following p (taken (APost t) p) t.registration (calling here (APost t) w i) s (refl, s.law) w.2 refl w.3
    (untimed-below p s.grounds t.registration (ap is_timer_role i.role) ∙ ap (λ n. Some (suc n)) (sym level))
sched-following (AContinuation t) p k w i level s =
    fresh-following p (taken (AContinuation t) p) t.registration (calling here (AContinuation t) w i) s (refl, s.law) w.2 refl w.3
    (untimed-below p s.grounds t.registration (ap is_timer_role i.role) ∙ ap (λ n. Some (suc n)) (sym level))
sched-following b p k w i level s = elim k [ ]

-- a timer is the first call of its turn, at the level with which it was armed
pub timer-following : (source : Source) (task : Task) (t : TimerTask) (p : Page) → Waited (ATimer source task t) p → IsFor (timer_role t.repeats) (made_by p) t.registration → open_registrations p.events ≡ [] → calls_in (this_turn p.events) ≡ [] → p.notices.jobs ≡ []
    → Sound p → Following (call_begun t.registration (taken (ATimer source task t) p))
timer-following source task t p w i x y z s =
    fresh-following p (taken (ATimer source task t) p) t.registration (calling here (ATimer source task t) w i) s s.law x y z
    (ap {A = Bool} {B = Option ℕ} (λ b. cond b (level_above (level_of p.events t.registration)) (Some 1)) (timer_told p s.grounds t.registration ∙ (ap is_timer_role i.role ∙ timed t.repeats))
    ∙ ap level_above (s.levelled t (queued (task-there source (RunTimer t) p.tasks task w.0 w.1))))
  where
    timed : (b : Bool) → is_timer_role (timer_role b) ≡ true
    timed true = refl
    timed false = refl

-- ---- ends of calls, jobs and checkpoints

rest-outermost : (xs : List ℕ) (r : ℕ) → outermost (without_first xs) ≡ Some r → outermost xs ≡ Some r
rest-outermost [] r e = e
rest-outermost (x ∷ []) r e = absurd (no_some r e)
rest-outermost (x ∷ y ∷ ys) r e = e

popped-following : (p s : Page) → Moves p s → Older p s → s.form ≡ p.form → s.level ≡ p.level → open_registrations s.events ≡ without_first (open_registrations p.events) → calls_in (this_turn s.events) ≡ calls_in (this_turn p.events)
    → s.notices ≡ p.notices → Kept (levels s.form) s.events → Following p → Following s
popped-following p s a o form level calls turn notices law f =
    record {
      sound = sound;
      by_call = λ h r e.
          let e1 = rest-outermost (open_registrations p.events) r (ap outermost (sym calls) ∙ e) in
          called-stays p s f.sound.grounds sound.grounds o r (open-called p.events r (outermost-in (open_registrations p.events) r e1))
          ∙ (f.by_call (ap (λ n. n == 2) (sym form) ∙ h) r e1 ∙ ap (λ n. Some (suc n)) (sym level));
      by_turn = λ h. let t = f.by_turn (ap (λ n. n == 2) (sym form) ∙ h) in
          record {
            called = λ r e.
                let e1 = ap outermost (sym turn) ∙ e in
                called-stays p s f.sound.grounds sound.grounds o r (turn-called p.events r (outermost-in (calls_in (this_turn p.events)) r e1)) ∙ (t.called r e1 ∙ ap (λ n. Some (suc n)) (sym level));
            uncalled = λ e. level ∙ t.uncalled (sym turn ∙ e);
            jobs = λ j i. t.jobs j (subst (λ (n : Notices). IsIn j n.jobs) notices i) ∙ sym level;
          };
    }
  where
    sound : Sound s
    sound = sound-by p s a f.sound law

ended-following : (e : Event) (p : Page) → is_end e ≡ true → Following p → Following (call_ended e p)
ended-following Ret p h f =
    popped-following p (call_ended Ret p) (ending here Ret h) (record { longer = omega arith; role = λ r le. refl; level = λ r le k. refl }) refl refl refl refl refl (refl, f.sound.law) f
ended-following (Throw bs) p h f =
    popped-following p (call_ended (Throw bs) p) (ending here (Throw bs) h) (record { longer = omega arith; role = λ r le. refl; level = λ r le k. refl }) refl refl refl refl refl (refl, f.sound.law) f
ended-following e p h f = Prim.cc

-- where no call is open, the level is set as in the form in which microtasks inherit it
set-following : (p s : Page) → Moves p s → Stays p (record s { level = p.level }) → open_registrations p.events ≡ [] → ((p.form == 2) ≡ true → s.level ≡ p.level) → Following p → Following s
set-following p s a k x level f =
    record {
      sound = sound;
      by_call = λ h r e. absurd (no_some r (sym (ap outermost (further-open k.lines ∙ x)) ∙ e));
      by_turn = λ h. let h1 = ap (λ n. n == 2) (sym k.form) ∙ h in let t = f.by_turn h1 in
          record {
            called = λ r e.
                let e1 = ap outermost (sym (further-turn k.lines)) ∙ e in
                called-stays p s f.sound.grounds sound.grounds older r (turn-called p.events r (outermost-in (calls_in (this_turn p.events)) r e1)) ∙ (t.called r e1 ∙ ap (λ n. Some (suc n)) (sym (level h1)));
            uncalled = λ e. level h1 ∙ t.uncalled (sym (further-turn k.lines) ∙ e);
            jobs = λ j i. by_job t j (k.jobs j i) ∙ sym (level h1);
          };
    }
  where
    sound : Sound s
    sound = sound-by p s a f.sound (subst (λ (n : ℕ). Kept (levels n) s.events) (sym k.form) (further-law k.lines p.form f.sound.law))

    older : Older p s
    older = record { longer = k.longer; role = k.role; level = λ r le h. further-level k.lines r }

    by_job : ByTurn p → (j : WaitingJob) → IsIn j p.notices.jobs ⊎ (j.context.level ≡ p.level) → j.context.level ≡ p.level
    by_job t j (inl i) = t.jobs j i
    by_job t j (inr e) = e

job-following : (job : WaitingJob) (others : List WaitingJob) (p : Page) → p.notices.jobs ≡ job ∷ others → open_registrations p.events ≡ [] → is_micro job.what ≡ false → Following p → Following (job_begun job others p)
job-following job others p e x nm f =
    set-following p (job_begun job others p) (running here job others e x nm)
    (record {
      level = refl;
      form = refl;
      jobs = λ j i. inl (subst (λ (js : List WaitingJob). IsIn j js) (sym e) (inr i));
      longer = omega arith;
      role = λ r le. refl;
      lines = a_line p.now (Run job.number) refl no_line;
    })
    x (λ h. job-level p job others e h f) f

-- the flag, the level and the scheduling state are set between calls
pub reset-following : (p : Page) (b : Bool) (level : ℕ) (s : Option ℕ) → open_registrations p.events ≡ [] → ((p.form == 2) ≡ true → level ≡ p.level) → Following p → Following (record p { performing = b; level = level; scheduling = s })
reset-following p b level s x e f =
    set-following p (record p { performing = b; level = level; scheduling = s }) (flagging here refl refl refl refl refl refl refl refl)
    (record { level = refl; form = refl; jobs = λ j i. inl i; longer = omega arith; role = λ r le. refl; lines = no_line }) x e f

pub reset-sound : (p : Page) (b : Bool) (level : ℕ) (s : Option ℕ) → Sound p → Sound (record p { performing = b; level = level; scheduling = s })
reset-sound p b level s f = sound-by p (record p { performing = b; level = level; scheduling = s }) (flagging here refl refl refl refl refl refl refl refl) f f.law

pub frame-following : (t : ℕ) (p : Page) → Following p → Following (emit (Frame t) p)
frame-following t p f = following-stays p (emit (Frame t) p) (framing here t) (line-stays (Frame t) p refl) f

-- ---- what a row does

-- the level stays from here on: in a call, where no checkpoint is performed, and in the form in which microtasks inherit it
pub data Steady (p : Page) : Type 0 where
  in_call : (open_registrations p.events ≡ [] → ⊥) → Steady p
  outside : p.performing ≡ false → Steady p
  in_turn : (p.form == 2) ≡ true → Following p → Steady p

pub record Tracks (p q : Page) : Type 0 where
  pub older : Older p q
  pub level : Steady p → q.level ≡ p.level
  pub follows : Following p → Following q

steady-later : (p q : Page) → Same p q → (Following p → Following q) → Steady p → Steady q
steady-later p q s k (in_call x) = in_call (λ e. x (sym s.0 ∙ e))
steady-later p q s k (outside e) = outside (s.1 ∙ e)
steady-later p q s k (in_turn h f) = in_turn (ap (λ n. n == 2) s.2 ∙ h) (k f)

pub tracks-same : (p : Page) → Tracks p p
tracks-same p = record { older = older-same p; level = λ h. refl; follows = λ f. f }

pub tracks-then : (p q r : Page) → Same p q → Tracks p q → Tracks q r → Tracks p r
tracks-then p q r s a b = record { older = older-then p q r a.older b.older; level = λ h. b.level (steady-later p q s a.follows h) ∙ a.level h; follows = λ f. b.follows (a.follows f) }

pub changes-track : {p q : Page} → Changes p q → Tracks p q
changes-track c = record { older = changes-older c; level = λ h. changes-level c; follows = changes-following c }

-- a frame's line
pub frame-tracks : (t : ℕ) (p : Page) → Tracks p (emit (Frame t) p)
frame-tracks t p = record { older = record { longer = omega arith; role = λ r le. refl; level = λ r le h. refl }; level = λ h. refl; follows = frame-following t p }

-- a job begins in a checkpoint
job_steady : (job : WaitingJob) (others : List WaitingJob) (p : Page) → p.notices.jobs ≡ job ∷ others → open_registrations p.events ≡ [] → p.performing ≡ true → Steady p → (job_begun job others p).level ≡ p.level
job_steady job others p e x k (in_call open_one) = absurd (open_one x)
job_steady job others p e x k (outside h) = absurd (false_true (sym h ∙ k))
job_steady job others p e x k (in_turn h f) = job-level p job others e h f

pub job-tracks : (job : WaitingJob) (others : List WaitingJob) (p : Page) → p.notices.jobs ≡ job ∷ others → open_registrations p.events ≡ [] → is_micro job.what ≡ false → p.performing ≡ true → Tracks p (job_begun job others p)
job-tracks job others p e x nm k = record { older = quiet-older p (job_begun job others p) refl (a_line p.now (Run job.number) refl no_line); level = job_steady job others p e x k; follows = job-following job others p e x nm }

begin_level : (b : Beginning) (p : Page) → Waited b p → FitsCall b p → Steady p → (taken b p).level ≡ p.level
begin_level (TheScript source task) p w k h = refl
begin_level (ATimer source task t) p w k h = elim k [ ]
begin_level (AFrame key c) p w k h = refl
begin_level (AnIdle c others) p w k h = refl
begin_level (ALateIdle handle c) p w k h = refl
begin_level (AListener r) p w k h = refl
begin_level (APost t) p w k h = refl
begin_level (AContinuation t) p w k h = refl
begin_level (AMicro job others r) p w k h = job_steady job others p w.0 w.2 k h
begin_level (AReaction job others of x r) p w k h = job_steady job others p w.0 w.3 k h

begin-older : (b : Beginning) (p : Page) → Older p (call_begun (called_by b) (taken b p))
begin-older (TheScript source task) p = record { longer = omega arith; role = λ r le. refl; level = λ r le h. refl }
begin-older (ATimer source task t) p = record { longer = omega arith; role = λ r le. refl; level = λ r le h. refl }
begin-older (AFrame key c) p = record { longer = omega arith; role = λ r le. refl; level = λ r le h. refl }
begin-older (AnIdle c others) p = record { longer = omega arith; role = λ r le. refl; level = λ r le h. refl }
begin-older (ALateIdle handle c) p = record { longer = omega arith; role = λ r le. refl; level = λ r le h. refl }
begin-older (AListener r) p = record { longer = omega arith; role = λ r le. refl; level = λ r le h. refl }
begin-older (APost t) p = record { longer = omega arith; role = λ r le. refl; level = λ r le h. refl }
begin-older (AContinuation t) p = record { longer = omega arith; role = λ r le. refl; level = λ r le h. refl }
begin-older (AMicro job others r) p = record { longer = omega arith; role = λ r le. refl; level = λ r le h. refl }
begin-older (AReaction job others of x r) p = record { longer = omega arith; role = λ r le. refl; level = λ r le h. refl }

pub begin-tracks : (b : Beginning) (p : Page) → Waited b p → IsFor (role_of b) (made_by p) (called_by b) → FitsCall b p → Tracks p (call_begun (called_by b) (taken b p))
begin-tracks b p w i k = record { older = begin-older b p; level = begin_level b p w k; follows = begin-following b p w i k }

-- the law of levels holds of the lines behind where the level follows them
abbrev pub Told : Page → Page → Type 0
Told p q = Following p → Kept (levels p.form) q.events

pub told-by : (p q : Page) → Same p q → (Following p → Following q) → Told p q
told-by p q s k f = subst (λ (n : ℕ). Kept (levels n) q.events) s.2 (k f).sound.law

pub told-then : (p q r : Page) → Same p q → (Following p → Following q) → Told q r → Told p r
told-then p q r s k t f = subst (λ (n : ℕ). Kept (levels n) r.events) s.2 (t (k f))

-- ---- what happens from the begin of a call on

-- where the level stays up to the end of a call and what comes then: from before the call, or in the form in which microtasks inherit it
pub data SteadyBy (p e : Page) : Type 0 where
  called_in : (open_registrations p.events ≡ [] → ⊥) → SteadyBy p e
  outside_of : p.performing ≡ false → SteadyBy p e
  turned : (e.form == 2) ≡ true → Following e → SteadyBy p e

-- from page e on, at which a call began from p
pub record Went (p e r : Page) : Type 0 where
  pub older : Older e r
  pub form : r.form ≡ e.form
  pub follows : Following e → Following r
  pub level : SteadyBy p e → r.level ≡ e.level

pub went-then : (p e n r : Page) → Same p n → Same n r → Went p e n → Tracks n r → Went p e r
went-then p e n r a b w t = record { older = older-then e n r w.older t.older; form = b.2 ∙ w.form; follows = λ f. t.follows (w.follows f); level = λ h. t.level (by h) ∙ w.level h }
  where
    by : SteadyBy p e → Steady n
    by (called_in x) = in_call (λ z. x (sym a.0 ∙ z))
    by (outside_of x) = outside (a.1 ∙ x)
    by (turned h f) = in_turn (ap (λ k. k == 2) w.form ∙ h) (w.follows f)

pub went-tracks : (p e r : Page) → e.form ≡ p.form → Tracks p e → Went p e r → Tracks p r
went-tracks p e r form t w = record { older = older-then p e r t.older w.older; level = λ h. w.level (by h) ∙ t.level h; follows = λ f. w.follows (t.follows f) }
  where
    by : Steady p → SteadyBy p e
    by (in_call x) = called_in x
    by (outside x) = outside_of x
    by (in_turn h f) = turned (ap (λ k. k == 2) form ∙ h) (t.follows f)

end-level : (e : Event) → is_end e ≡ true → (r : ℕ) (o : Option ℕ) → level_in r e o ≡ o
end-level (Arm q due level) h r o = absurd (false_true h)
end-level e h r o = refl

end-older : (e : Event) (p : Page) → is_end e ≡ true → Older p (call_ended e p)
end-older e p h = record { longer = omega arith; role = λ r le. refl; level = λ r le k. end-level e h r (level_of p.events r) }

-- the call has ended
pub went-ended : (p n s : Page) (r : ℕ) (e : Event) → is_end e ≡ true → Same (call_begun r n) s → Tracks (call_begun r n) s → Went p (call_begun r n) (call_ended e s)
went-ended p n s r e h a t = record { older = older-then (call_begun r n) s (call_ended e s) t.older (end-older e s h); form = a.2; follows = λ f. ended-following e s h (t.follows f); level = λ x. t.level (in_call some) }
  where
    some : r ∷ open_registrations n.events ≡ [] → ⊥
    some e = Prim.cc

pub told-went : (p e n r : Page) → Went p e n → Told n r → Told e r
told-went p e n r w t f = subst (λ (k : ℕ). Kept (levels k) r.events) w.form (t (w.follows f))
