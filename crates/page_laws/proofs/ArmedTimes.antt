-- What the lines tell to be armed waits in an active timer with this due time.
use Rattle.std.proofs.Common.{◌≡◌, ◌⊎◌, inl, inr, ℕ, zero, suc, pred, ◌≤◌, Bool, true, false, List, [], ◌∷◌, Option, Some, None, refl, sym, subst, ap, ◌∙◌, cond, length, arith, eqb-true, unwrap_or}
use Rattle.std.specs.Prelude.{◌==◌, find, option_map}
use Rattle.std.proofs.lemmas.Bool.{eq-eqb}
use Rattle.page_types.specs.declared.RegKind.{RegKind}
use Rattle.page_types.specs.declared.RegKind.TheVariants as kind
use Rattle.page_types.specs.Events.{Event, Call, Ret, Throw, Arm, Due, Reg, Run, Drop, Frame, Enq, Host, Prio, IdleLine, Turn}
use Rattle.page_types.specs.declared.Source.TheVariants.{Sched}
use Rattle.page_types.specs.Tree.{Program}
use Rattle.page_parts.specs.Setup.{Setup}
use Rattle.page_parts.specs.HostClosures.{HostClosure}
use Rattle.page_parts.specs.Timers.{ActiveTimer}
use Rattle.page_parts.specs.TaskSignals.{Prios}
use Rattle.page_parts.specs.Words.{and_last, without}
use Rattle.page_parts.specs.Promises.{Reaction, the_promise}
use Rattle.page_parts.specs.Promises as Promises
use Rattle.page_parts.specs.Notices.{Notices, Noticed, changed, subscribe_promise, queue_micro, Context}
use Rattle.page_model.specs.State.{Page, Role, ScriptRole, OfKind, Registration, Completion, Completing, emit, emit_each, on_notices, context, caller}
use Rattle.page_model.specs.Invoke.{register_as, call_begun}
use Rattle.page_model.specs.PageTime.{completion_of, deadline}
use Rattle.page_model.specs.Turns.{first_page}
use Rattle.page_model.specs.Numbers.{Each}
use Rattle.page_model.proofs.GivenNumbers.Growing.{length-last}
use Rattle.page_laws.specs.History.{History, armed_for, armed_in, is_rest}
use Rattle.page_laws.specs.Moves.{is_aside, is_end, role_at, is_delayed_role, IsIn, completes_for, completions_but, ArmedAt, by_timer, by_idle, by_host, Places, places, PlaceChange, places_stay, task_queued, task_left, armed_again, signal_armed, id_cleared, idle_armed, completed, idle_started, idle_queued, DueChange, timer_due, delay_due, signal_due, idle_due, answer_due, Dropping, timer_dropped, idle_dropped, listener_dropped, FirstPlace, nowhere, at_listener, at_timer, at_delay, at_idle, at_host, promise_changes, AsBefore, PageChange, elsewhere, told, arm_told, rested, registered, promised, settled, followed, adopted, subscribed, micro_asked, then_asked, answered, dropped, frame_dropped, frame_asked, rejected_taken, noted, Beginning, TheScript, ATimer, AFrame, AnIdle, ALateIdle, AListener, APost, AContinuation, AMicro, AReaction, called_by, taken, task_dropped, enqueued_anew, fell_due, post_fell_due, prio_told, Moves, here, changing, arming, calling, ending, flagging, running, framing, idling}
use Rattle.page_laws.proofs.Framed.{false_true}
use Rattle.page_laws.proofs.Lines.{changed-each, added, emit_each-events}
use Rattle.page_laws.proofs.Ready.{emit_each-places, in-left}
use Rattle.page_laws.proofs.Registered as names
use Rattle.page_laws.proofs.Registered.{at_number}

-- ---- active timers

-- an active timer with this due time completes for the registration
pub record AtTimer (x : Places) (r due : ℕ) : Type 0 where
  pub timer : ActiveTimer
  pub completion : Completion
  pub active : IsIn timer x.timers.active
  pub time : timer.due ≡ due
  pub found : completion_of x.completions timer.start ≡ Some completion
  pub own : completes_for completion ≡ r

-- steps that were found are found still where others come
pub found-more : (cs : List Completing) (d : Completing) (start : ℕ) (c : Completion) → completion_of cs start ≡ Some c → completion_of (and_last cs d) start ≡ Some c
found-more [] d start c e = Prim.cc
found-more (b ∷ cs) d start c e = by_test (b.start == start) e (found-more cs d start c)
  where
    by_test : (t : Bool) → option_map (λ (c : Completing). c.completion) (cond t (Some b) (find (λ c. c.start == start) cs)) ≡ Some c → (completion_of cs start ≡ Some c → completion_of (and_last cs d) start ≡ Some c)
        → option_map (λ (c : Completing). c.completion) (cond t (Some b) (find (λ c. c.start == start) (and_last cs d))) ≡ Some c
    by_test true e rest = e
    by_test false e rest = rest e

-- and where those of another start leave
pub found-without : (cs : List Completing) (gone start : ℕ) (c : Completion) → (start ≡ gone → ⊥) → completion_of cs start ≡ Some c → completion_of (completions_but gone cs) start ≡ Some c
found-without [] gone start c other e = e
found-without (b ∷ cs) gone start c other e = by_tests (b.start == gone) refl (b.start == start) refl e (found-without cs gone start c other)
  where
    by_tests : (u : Bool) → (b.start == gone) ≡ u → (t : Bool) → (b.start == start) ≡ t → option_map (λ (c : Completing). c.completion) (cond t (Some b) (find (λ c. c.start == start) cs)) ≡ Some c → (completion_of cs start ≡ Some c → completion_of (completions_but gone cs) start ≡ Some c)
        → completion_of (cond u (completions_but gone cs) (b ∷ completions_but gone cs)) start ≡ Some c
    by_tests true q true k e rest = absurd (other (sym (eqb-true b.start start k) ∙ eqb-true b.start gone q))
    by_tests true q false k e rest = rest e
    by_tests false q true k e rest = ap {A = Bool} {B = Option Completion} (λ t. option_map (λ (c : Completing). c.completion) (cond t (Some b) (find (λ c. c.start == start) (completions_but gone cs)))) k ∙ e
    by_tests false q false k e rest = ap {A = Bool} {B = Option Completion} (λ t. option_map (λ (c : Completing). c.completion) (cond t (Some b) (find (λ c. c.start == start) (completions_but gone cs)))) k ∙ rest e

pub in-still : (a : ActiveTimer) (gone : ActiveTimer → Bool) (as' : List ActiveTimer) → IsIn a as' → gone a ≡ false → IsIn a (without gone as')
in-still a gone [] i e = i
in-still a gone (d ∷ as') i e = by_test (gone d) refl i (λ j. in-still a gone as' j e)
  where
    by_test : (b : Bool) → gone d ≡ b → IsIn a (d ∷ as') → (IsIn a as' → IsIn a (without gone as')) → IsIn a (cond b (without gone as') (d ∷ without gone as'))
    by_test true q (inl f) rest = absurd (false_true (sym e ∙ (ap gone f ∙ q)))
    by_test true q (inr j) rest = rest j
    by_test false q (inl f) rest = inl f
    by_test false q (inr j) rest = inr (rest j)

-- at other places, with the same timers
at-same : (x y : Places) (r due : ℕ) → y.timers.active ≡ x.timers.active → y.completions ≡ x.completions → AtTimer x r due → AtTimer y r due
at-same x y r due e f t =
    record {
      timer = t.timer;
      completion = t.completion;
      active = subst (λ (as' : List ActiveTimer). IsIn t.timer as') (sym e) t.active;
      time = t.time;
      found = subst (λ (cs : List Completing). completion_of cs t.timer.start ≡ Some t.completion) (sym f) t.found;
      own = t.own;
    }

-- with a timer more
at-more : (x y : Places) (r due : ℕ) (a : ActiveTimer) (d : Completing) → y.timers.active ≡ and_last x.timers.active a → y.completions ≡ and_last x.completions d → AtTimer x r due → AtTimer y r due
at-more x y r due a d e f t =
    record {
      timer = t.timer;
      completion = t.completion;
      active = subst (λ (as' : List ActiveTimer). IsIn t.timer as') (sym e) (in-left t.timer x.timers.active (a ∷ []) t.active);
      time = t.time;
      found = subst (λ (cs : List Completing). completion_of cs t.timer.start ≡ Some t.completion) (sym f) (found-more x.completions d t.timer.start t.completion t.found);
      own = t.own;
    }

-- where another timer leaves
at-without : (x y : Places) (r due start : ℕ) → y.timers.active ≡ without (λ a. a.start == start) x.timers.active → y.completions ≡ completions_but start x.completions → ((c : Completion) → completion_of x.completions start ≡ Some c → completes_for c ≡ r → ⊥) → AtTimer x r due → AtTimer y r due
at-without x y r due start e f other t =
    record {
      timer = t.timer;
      completion = t.completion;
      active = subst (λ (as' : List ActiveTimer). IsIn t.timer as') (sym e) (in-still t.timer (λ a. a.start == start) x.timers.active t.active (apart (t.timer.start == start) refl));
      time = t.time;
      found = subst (λ (cs : List Completing). completion_of cs t.timer.start ≡ Some t.completion) (sym f) (found-without x.completions start t.timer.start t.completion differs t.found);
      own = t.own;
    }
  where
    differs : t.timer.start ≡ start → ⊥
    differs same = other t.completion (sym (ap (completion_of x.completions) same) ∙ t.found) t.own

    apart : (b : Bool) → (t.timer.start == start) ≡ b → b ≡ false
    apart true k = absurd (differs (eqb-true t.timer.start start k))
    apart false k = refl

-- ---- what fits the lines

-- what is armed was registered, and waits in an active timer where it is delayed
pub record ArmedFit (xs : List Registration) (x : Places) (past : History) : Type 0 where
  pub given : (r due : ℕ) → armed_for past r ≡ Some due → r ≤ length xs
  pub tie : (r due : ℕ) → is_delayed_role (role_at xs r) ≡ true → armed_for past r ≡ Some due → AtTimer x r due

-- a line that arms nothing, and tells of nothing that was due
abbrev pub is_quiet : Event → Bool
is_quiet (Arm r due level) = false
is_quiet (Due r) = false
is_quiet e = true

pub aside-quiet : (e : Event) → is_aside e ≡ true → is_quiet e ≡ true
aside-quiet (Arm r due level) h = Prim.cc
aside-quiet (Due r) h = Prim.cc
aside-quiet e h = refl

pub rest-quiet : (e : Event) → is_rest e ≡ true → is_quiet e ≡ true
rest-quiet (Arm r due level) h = Prim.cc
rest-quiet (Due r) h = Prim.cc
rest-quiet e h = refl

pub end-quiet : (e : Event) → is_end e ≡ true → is_quiet e ≡ true
end-quiet Ret h = refl
end-quiet (Throw bs) h = refl
end-quiet e h = Prim.cc

pub quiet-armed : (e : Event) (r : ℕ) (earlier : Option ℕ) → is_quiet e ≡ true → armed_in r e earlier ≡ earlier
quiet-armed (Arm q due level) r earlier h = Prim.cc
quiet-armed (Due q) r earlier h = Prim.cc
quiet-armed e r earlier h = refl

quiet-fits : (e : Event) (now : ℕ) (xs : List Registration) (x : Places) (past : History) → is_quiet e ≡ true → ArmedFit xs x past → ArmedFit xs x (record { time = now; event = e } ∷ past)
quiet-fits e now xs x past h f =
    record {
      given = λ r due k. f.given r due (sym (quiet-armed e r (armed_for past r) h) ∙ k);
      tie = λ r due role k. f.tie r due role (sym (quiet-armed e r (armed_for past r) h) ∙ k);
    }

-- other places
moved-fits : (xs : List Registration) (x y : Places) (past : History) → ((r due : ℕ) → AtTimer x r due → AtTimer y r due) → ArmedFit xs x past → ArmedFit xs y past
moved-fits xs x y past h f = record { given = f.given; tie = λ r due role k. h r due (f.tie r due role k) }

-- a registration is made
grown-fits : (x : Registration) (xs : List Registration) (y : Places) (past : History) → ArmedFit xs y past → ArmedFit (and_last xs x) y past
grown-fits x xs y past f =
    record {
      given = λ r due k. let a = f.given r due k in let b = length-last xs x in omega (arith, a, b);
      tie = λ r due role k. f.tie r due (old r (f.given r due k) role) k;
    }
  where
    old : (r : ℕ) → r ≤ length xs → is_delayed_role (role_at (and_last xs x) r) ≡ true → is_delayed_role (role_at xs r) ≡ true
    old zero le role = role
    old (suc i) le role = sym (ap {A = Registration} {B = Bool} (λ y. is_delayed_role y.role) (at_number xs x (suc i) (omega arith) (λ e. absurd (omega (arith, e, le))))) ∙ role

-- what has a kind was registered
pub kind-given : (xs : List Registration) (r : ℕ) (test : Role → Bool) → test ScriptRole ≡ false → test (role_at xs r) ≡ true → r ≤ length xs
kind-given xs zero test e h = omega arith
kind-given xs (suc i) test e h = by_age (leb_or (suc i) (length xs))
  where
    by_age : (suc i ≤ length xs) ⊎ (length xs ≤ i) → suc i ≤ length xs
    by_age (inl le) = le
    by_age (inr le) = absurd (false_true (sym e ∙ (ap {A = Registration} {B = Bool} (λ y. test y.role) (sym (names.at_past xs (suc i) le)) ∙ h)))

    leb_or : (a b : ℕ) → (a ≤ b) ⊎ (b ≤ pred a)
    leb_or zero b = inl (omega arith)
    leb_or (suc a) zero = inr (omega arith)
    leb_or (suc a) (suc b) = up (leb_or a b)
      where
        up : (a ≤ b) ⊎ (b ≤ pred a) → (suc a ≤ suc b) ⊎ (suc b ≤ a)
        up (inl le) = inl (omega (arith, le))
        up (inr le) = less a le
          where
            less : (a : ℕ) → b ≤ pred a → (suc a ≤ suc b) ⊎ (suc b ≤ a)
            less zero le = inl (omega arith)
            less (suc c) le = inr (omega (arith, le))

-- ---- lines of timers

arm-fits : (r due level now : ℕ) (xs : List Registration) (x : Places) (past : History) → ArmedAt xs x r due → ArmedFit xs x past → ArmedFit xs x (record { time = now; event = Arm r due level } ∷ past)
arm-fits r due level now xs x past w f =
    record {
      given = λ q t k. by_given q t (r == q) refl k;
      tie = λ q t role k. by_tie q t role (r == q) refl k;
    }
  where
    there : ArmedAt xs x r due → r ≤ length xs
    there (by_timer a c i e k own role) = kind-given xs r is_delayed_role refl role
    there (by_idle t i e own role) = kind-given xs r has_kind refl (ap has_kind role)
      where
        has_kind : Role → Bool
        has_kind ScriptRole = false
        has_kind (OfKind k) = true
    there (by_host a i e own role) = kind-given xs r has_kind refl (ap has_kind role)
      where
        has_kind : Role → Bool
        has_kind ScriptRole = false
        has_kind (OfKind k) = true

    at : ArmedAt xs x r due → is_delayed_role (role_at xs r) ≡ true → AtTimer x r due
    at (by_timer a c i e k own role) h = record { timer = a; completion = c; active = i; time = e; found = k; own = own }
    at (by_idle t i e own role) h = absurd (false_true (sym (ap is_delayed_role role) ∙ h))
    at (by_host a i e own role) h = absurd (false_true (sym (ap is_delayed_role role) ∙ h))

    some : (t : ℕ) → Some due ≡ Some t → due ≡ t
    some t e = ap {A = Option ℕ} {B = ℕ} (λ o. unwrap_or o due) e

    by_given : (q t : ℕ) (b : Bool) → (r == q) ≡ b → cond b (Some due) (armed_for past q) ≡ Some t → q ≤ length xs
    by_given q t true e k = let same = eqb-true r q e in let le = there w in omega (arith, same, le)
    by_given q t false e k = f.given q t k

    by_tie : (q t : ℕ) → is_delayed_role (role_at xs q) ≡ true → (b : Bool) → (r == q) ≡ b → cond b (Some due) (armed_for past q) ≡ Some t → AtTimer x q t
    by_tie q t role true e k =
        let same = eqb-true r q e in
        subst (λ (n : ℕ). AtTimer x n t) same (subst (AtTimer x r) (some t k) (at w (subst (λ (n : ℕ). is_delayed_role (role_at xs n) ≡ true) (sym same) role)))
    by_tie q t role false e k = f.tie q t role k

-- a registration is due; those of others stay
due-fits : (r now : ℕ) (xs : List Registration) (x y : Places) (past : History) → ((q due : ℕ) → (r ≡ q → ⊥) → AtTimer x q due → AtTimer y q due) → ArmedFit xs x past → ArmedFit xs y (record { time = now; event = Due r } ∷ past)
due-fits r now xs x y past h f =
    record {
      given = λ q t k. by_given q t (r == q) refl k;
      tie = λ q t role k. by_tie q t role (r == q) refl k;
    }
  where
    nothing : (t : ℕ) → None ≡ Some t → ⊥
    nothing t e = Prim.cc

    by_given : (q t : ℕ) (b : Bool) → (r == q) ≡ b → cond b None (armed_for past q) ≡ Some t → q ≤ length xs
    by_given q t true e k = absurd (nothing t k)
    by_given q t false e k = f.given q t k

    by_tie : (q t : ℕ) → is_delayed_role (role_at xs q) ≡ true → (b : Bool) → (r == q) ≡ b → cond b None (armed_for past q) ≡ Some t → AtTimer y q t
    by_tie q t role true e k = absurd (nothing t k)
    by_tie q t role false e k = h q t (λ same. false_true (sym e ∙ eq-eqb r q same)) (f.tie q t role k)

unsome : (a b : Completion) → Some a ≡ Some b → a ≡ b
unsome a b e = ap {A = Option Completion} {B = Completion} (λ o. unwrap_or o a) e

-- the steps of this start are for r, so for no other
for_no_other : (cs : List Completing) (start r q : ℕ) (c : Completion) → completion_of cs start ≡ Some c → completes_for c ≡ r → (r ≡ q → ⊥) → (d : Completion) → completion_of cs start ≡ Some d → completes_for d ≡ q → ⊥
for_no_other cs start r q c e own other d f k = other (sym own ∙ (ap completes_for (unsome c d (sym e ∙ f)) ∙ k))

due-timers : {made : List Registration} {r : ℕ} {x y : Places} → DueChange made r x y → (q due : ℕ) → (r ≡ q → ⊥) → AtTimer x q due → AtTimer y q due
due-timers {r = r} {x = x} {y = y} (timer_due start number source t e i role) q due other a = at-without x y q due start refl refl (for_no_other x.completions start r q _ e i other) a
due-timers {r = r} {x = x} {y = y} (delay_due start source e role) q due other a = at-without x y q due start refl refl (for_no_other x.completions start r q _ e refl other) a
due-timers {r = r} {x = x} {y = y} (signal_due start s e role) q due other a = at-without x y q due start refl refl (for_no_other x.completions start r q _ e refl other) a
due-timers {x = x} {y = y} (idle_due t number source i e role) q due other a = at-same x y q due refl refl a
due-timers {x = x} {y = y} (answer_due before b after number source e i role) q due other a = at-same x y q due refl refl a

place-timers : {made : List Registration} {x y : Places} → PlaceChange made x y → (r due : ℕ) → AtTimer x r due → AtTimer y r due
place-timers places_stay r due a = a
place-timers {x = x} {y = y} (task_queued t h plain) r due a = at-same x y r due refl refl a
place-timers {x = x} {y = y} (task_left number) r due a = at-same x y r due refl refl a
place-timers {x = x} {y = y} (armed_again b t role there next) r due a = at-more x y r due _ _ refl refl a
place-timers {x = x} {y = y} (signal_armed ms now q s) r due a = at-more x y r due _ _ refl refl a
place-timers {x = x} {y = y} (id_cleared id) r due a = at-same x y r due refl refl a
place-timers {x = x} {y = y} (idle_armed t most own) r due a = at-same x y r due refl refl a
place-timers {x = x} {y = y} (completed start gone) r due a = at-without x y r due start refl refl (λ c e k. none c (sym gone ∙ e)) a
  where
    none : (c : Completion) → None ≡ Some c → ⊥
    none c e = Prim.cc
place-timers {x = x} {y = y} idle_started r due a = at-same x y r due refl refl a
place-timers {x = x} {y = y} (idle_queued t e from) r due a = at-same x y r due refl refl a

first-timers : {made : List Registration} {ps : Prios} {n : ℕ} {x y : Places} → FirstPlace made ps n x y → (r due : ℕ) → AtTimer x r due → AtTimer y r due
first-timers nowhere r due a = a
first-timers {x = x} {y = y} (at_listener target name q e) r due a = at-same x y r due refl refl a
first-timers {x = x} {y = y} (at_timer b t e first) r due a = at-more x y r due _ _ refl refl a
first-timers {x = x} {y = y} (at_delay ms now q source e h) r due a = at-more x y r due _ _ refl refl a
first-timers {x = x} {y = y} (at_idle q e) r due a = at-same x y r due refl refl a
first-timers {x = x} {y = y} (at_host c b e there live) r due a = at-same x y r due refl refl a

drop-timers : {made : List Registration} {n : ℕ} {x y : Places} → Dropping made n x y → (r due : ℕ) → AtTimer x r due → AtTimer y r due
drop-timers {x = x} {y = y} (timer_dropped id there e own) r due a = at-same x y r due refl refl a
drop-timers {x = x} {y = y} (idle_dropped handle c e e1 role) r due a = at-same x y r due refl refl a
drop-timers {x = x} {y = y} (listener_dropped there role) r due a = at-same x y r due refl refl a

-- ---- moves

abbrev pub Fits : Page → Type 0
Fits p = ArmedFit p.registrations (places p) p.events

before-fits : {p q : Page} → AsBefore p q → ArmedFit p.registrations (places q) p.events → Fits q
before-fits {p = p} {q = q} b f =
    subst (λ (xs : List Registration). ArmedFit xs (places q) q.events) (sym b.registrations) (subst (ArmedFit p.registrations (places q)) (sym b.events) f)

emit_each-registrations : (es : List Event) (p : Page) → (emit_each es p).registrations ≡ p.registrations
emit_each-registrations [] p = refl
emit_each-registrations (e ∷ es) p = emit_each-registrations es (emit e p)

abbrev pub Quiet : Event → Type 0
Quiet e = is_quiet e ≡ true

said : (e : Event) (p : Page) → is_quiet e ≡ true → Fits p → Fits (emit e p)
said e p h f = quiet-fits e p.now p.registrations (places p) p.events h f

added-fits : (now : ℕ) (es : List Event) (xs : List Registration) (x : Places) (past : History) → Each Quiet es → ArmedFit xs x past → ArmedFit xs x (added now es past)
added-fits now [] xs x past h f = f
added-fits now (e ∷ es) xs x past h f = added-fits now es xs x (record { time = now; event = e } ∷ past) h.1 (quiet-fits e now xs x past h.0 f)

pub changed-quiet : (current : Context) (names : List (List ℕ)) (n : ℕ) (c : Promises.Change) (s : Notices) → Each Quiet (changed current names n c s).lines
changed-quiet = changed-each Quiet (λ n ok bs. refl) (λ j what. refl)

notices-fit : (f : Notices → Noticed) (p : Page) → Each Quiet (f p.notices).lines → Fits p → Fits (on_notices f p)
notices-fit f p h k =
    let q : Page = record p { notices = (f p.notices).notices } in
    let lines = (f p.notices).lines in
    subst (λ (x : Places). ArmedFit (emit_each lines q).registrations x (emit_each lines q).events) (sym (emit_each-places lines q))
    (subst (λ (xs : List Registration). ArmedFit xs (places p) (emit_each lines q).events) (sym (emit_each-registrations lines q))
    (subst (ArmedFit p.registrations (places p)) (sym (emit_each-events lines q)) (added-fits p.now lines p.registrations (places p) p.events h k)))

changes-fit : (n : ℕ) (c : Promises.Change) (p : Page) → Fits p → Fits (promise_changes n c p)
changes-fit n c p f = notices-fit (λ s. changed (context p) p.names n c s) p (changed-quiet (context p) p.names n c p.notices) f

subscribed-fits : (n : ℕ) (r : Reaction) (p : Page) → Fits p → Fits (on_notices (subscribe_promise (context p) n r) p)
subscribed-fits n r p f =
    notices-fit (subscribe_promise (context p) n r) p
    (changed-quiet (context p) [] n (Promises.subscribe n (the_promise p.notices.promises n) r) (record p.notices { rejected = without (λ m. m == n) p.notices.rejected; outstanding = without (λ m. m == n) p.notices.outstanding })) f

registered-fits : (k : RegKind) (x : Registration) (p : Page) → Fits p → Fits (register_as k x p)
registered-fits k x p f = quiet-fits (Reg (suc (length p.registrations)) k (caller p)) p.now (and_last p.registrations x) (places p) p.events refl (grown-fits x p.registrations (places p) p.events f)

-- the places of a page that is as another one but for these
replaced : (xs : List Registration) (y z : Places) (past : History) → y ≡ z → ArmedFit xs z past → ArmedFit xs y past
replaced xs y z past e f = subst (λ (x : Places). ArmedFit xs x past) (sym e) f

change-fits : {p q : Page} → PageChange p q → Fits p → Fits q
change-fits {p = p} {q = q} (elsewhere c b within) f = before-fits b (moved-fits p.registrations (places p) (places q) p.events (place-timers c) f)
change-fits {p = p} (told e h) f = said e p (aside-quiet e h) f
change-fits {p = p} (arm_told r due level w well) f = arm-fits r due level p.now p.registrations (places p) p.events w f
change-fits {p = p} (rested e h x y z over begun done) f = said e p (rest-quiet e h) f
change-fits {p = p} {q = q} (answered source task t answer x y live z b) f =
    before-fits b (replaced p.registrations (places q) _ _ z (moved-fits p.registrations (places p) _ _ (λ r due a. at-same (places p) _ r due refl refl a) (said (Host t.closure t.number answer) p refl f)))
change-fits {p = p} {q = q} (registered k x e unframed u b at) f =
    before-fits b (moved-fits (and_last p.registrations x) (places p) (places q) (register_as k x p).events (first-timers u) (registered-fits k x p f))
change-fits {p = p} {q = q} (enqueued_anew k x t queue e i s n b) f =
    before-fits b
    (replaced (and_last p.registrations x) (places q) _ _ s
    (moved-fits (and_last p.registrations x) (places p) _ _ (λ r due a. at-same (places p) _ r due refl refl a) (said (Enq t.registration queue t.continuation t.order) (register_as k x p) refl (registered-fits k x p f))))
change-fits {p = p} {q = q} (fell_due r d b by) f = before-fits b (due-fits r p.now p.registrations (places p) (places q) p.events (due-timers d) f)
change-fits {p = p} {q = q} (post_fell_due start source t queue e role a s n b by) f =
    before-fits b
    (replaced p.registrations (places q) _ _ s
    (quiet-fits (Enq t.registration queue t.continuation t.order) p.now p.registrations _ _ refl
    (due-fits t.registration p.now p.registrations (places p) _ p.events (λ r due other a. at-without (places p) _ r due start refl refl (for_no_other p.completions start t.registration r _ e refl other) a) f)))
change-fits {p = p} {q = q} (dropped r d b) f = before-fits b (moved-fits p.registrations (places p) (places q) _ (drop-timers d) (said (Drop r) p refl f))
change-fits {p = p} (frame_dropped handle c e role) f = said (Drop c.registration) p refl f
change-fits {p = p} {q = q} (task_dropped r role a e s b) f =
    before-fits b (replaced p.registrations (places q) _ _ s (moved-fits p.registrations (places p) _ _ (λ r due a. at-same (places p) _ r due refl refl a) (said (Drop r) p refl f)))
change-fits {p = p} (prio_told s priority ps c) f = said (Prio s priority) p refl f
change-fits {p = p} (frame_asked g) f = registered-fits kind.Frame (record { role = OfKind kind.Frame; callback = Some g; second_callback = None; timer_id = 0; promise = 0; signal = None; finally = false }) p f
change-fits promised f = f
change-fits {p = p} (settled n how x y) f = changes-fit n (Promises.settle n (the_promise p.notices.promises n) how) p f
change-fits {p = p} (followed n how x y) f = changes-fit n (Promises.settle n (the_promise p.notices.promises n) how) p f
change-fits {p = p} (adopted n from x y) f = changes-fit n (Promises.adopt n (the_promise p.notices.promises n) from) p f
change-fits {p = p} (subscribed n r x y) f = subscribed-fits n r p f
change-fits {p = p} (then_asked n x r e g y) f = subscribed-fits n r (register_as kind.Then x p) (registered-fits kind.Then x p f)
change-fits {p = p} (micro_asked x r e y) f = notices-fit (queue_micro (context p) r) (register_as kind.Micro x p) (refl, tt) (registered-fits kind.Micro x p f)
change-fits rejected_taken f = f
change-fits (noted n) f = f

called-fits : (p : Page) (r : ℕ) (x : Places) (past : History) → x.timers.active ≡ p.timers.active → x.completions ≡ p.completions → ArmedFit p.registrations (places p) past → ArmedFit p.registrations x (record { time = p.now; event = Call r } ∷ past)
called-fits p r x past e f g = quiet-fits (Call r) p.now p.registrations x past refl (moved-fits p.registrations (places p) x past (λ r due a. at-same (places p) x r due e f a) g)

begins-fit : (b : Beginning) (p : Page) → Fits p → Fits (call_begun (called_by b) (taken b p))
begins-fit (TheScript source task) p f = called-fits p _ _ p.events refl refl f
begins-fit (ATimer source task t) p f = called-fits p _ _ p.events refl refl f
begins-fit (AFrame key c) p f = called-fits p _ _ p.events refl refl f
begins-fit (AnIdle c others) p f = called-fits p _ _ _ refl refl (said (IdleLine (deadline p.last_idle_start p)) p refl f)
begins-fit (ALateIdle handle c) p f = called-fits p _ _ p.events refl refl f
begins-fit (AListener r) p f = called-fits p _ _ p.events refl refl f
begins-fit (APost t) p f = called-fits p _ _ _ refl refl (said (Turn p.turns (Some Sched)) p refl f)
begins-fit (AContinuation t) p f = called-fits p _ _ _ refl refl (said (Turn p.turns (Some Sched)) p refl f)
begins-fit (AMicro job others r) p f = called-fits p _ _ _ refl refl (said (Run job.number) p refl f)
begins-fit (AReaction job others of x r) p f = called-fits p _ _ _ refl refl (said (Run job.number) p refl f)

pub moves-armed : {p q : Page} → Moves p q → Fits p → Fits q
moves-armed here f = f
moves-armed (changing a c plain) f = change-fits c (moves-armed a f)
moves-armed (arming a c e w) f = change-fits e (change-fits c (moves-armed a f))
moves-armed (calling {q = q} a b w i) f = begins-fit b q (moves-armed a f)
moves-armed (ending {q = q} a e h) f = said e q (end-quiet e h) (moves-armed a f)
moves-armed (flagging {q = q} {r = r} a x y z w u v t j) f =
    subst (λ (k : Places). ArmedFit r.registrations k r.events) (sym u)
    (subst (λ (xs : List Registration). ArmedFit xs (places q) r.events) (sym z) (subst (ArmedFit q.registrations (places q)) (sym y) (moves-armed a f)))
moves-armed (running {q = q} a j others x y nm) f = said (Run j.number) q refl (moves-armed a f)
moves-armed (framing {q = q} a t) f = said (Frame t) q refl (moves-armed a f)
moves-armed (idling a none) f = moves-armed a f

-- before the first line nothing is armed
pub first-armed : (program : Program) (setup : Setup) (hosts : List HostClosure) → Fits (first_page program setup hosts)
first-armed program setup hosts = record { given = λ r due k. absurd (none due k); tie = λ r due role k. absurd (none due k) }
  where
    none : (due : ℕ) → None ≡ Some due → ⊥
    none due e = Prim.cc
