-- Where a run ends for nothing is left to do, each idle callback was called or dropped: it leaves the lists so alone, and they are empty then.
use Rattle.page_laws.proofs.Deadlines.{all-filter}
use Rattle.page_laws.proofs.AtEnd.{done_test, moves-kept}
use Rattle.page_laws.proofs.Drawing.{found-in}
use Rattle.page_model.proofs.GivenNumbers.Growing.{length-last, numbered-last}
use Rattle.page_laws.specs.TimerLaws.{was_done}
use Rattle.page_parts.specs.IdleCallbacks.{Idle}
use Rattle.page_parts.specs.Frames.{Callback}
use Rattle.page_parts.specs.TaskSignals.{Prios}
use Rattle.std.proofs.Common.{◌≡◌, ◌⊎◌, inl, inr, ℕ, suc, ◌≤◌, Bool, true, false, not, ◌&&◌, ◌||◌, List, [], ◌∷◌, Option, Some, None, refl, sym, subst, ap, ◌∙◌, cond, length, arith, eqb-true, zero, ◌++◌}
use Rattle.std.specs.Prelude.{◌==◌}
use Rattle.std.proofs.lemmas.Bool.{eq-eqb}
use Rattle.page_types.specs.declared.RegKind.{RegKind}
use Rattle.page_types.specs.declared.RegKind.TheVariants as kind
use Rattle.page_types.specs.declared.Source.TheVariants.{Sched}
use Rattle.page_types.specs.Events.{Event, Call, Turn, IdleLine, Frame, Reg, Run, Drop, Due, Arm, Enq, Host, Prio, Stamped}
use Rattle.page_types.specs.Tree.{Program}
use Rattle.page_parts.specs.Setup.{Setup}
use Rattle.page_parts.specs.HostClosures.{HostClosure}
use Rattle.page_parts.specs.Words.{without, and_last, is_empty, numbered}
use Rattle.page_parts.specs.Promises.{the_promise}
use Rattle.page_parts.specs.Promises as Promises
use Rattle.page_parts.specs.Notices.{Notices, Noticed, changed, subscribe_promise, queue_micro}
use Rattle.page_model.specs.State.{Page, OfKind, Registration, emit, emit_each, on_notices, context, caller, ScriptRole, Role, no_registration}
use Rattle.page_model.specs.Invoke.{register_as, call_begun}
use Rattle.page_model.specs.PageTime.{deadline}
use Rattle.page_model.specs.Turns.{first_page}
use Rattle.page_laws.specs.History.{History, has_kind, is_some_and, is_drop_of, was_dropped, is_call_of, was_called, is_idle, kind_of, registered, is_scheduled}
use Rattle.page_laws.specs.SchedulerLaws.{idles_are_over}
use Rattle.page_model.specs.Turns.{is_pending}
use Rattle.page_parts.specs.IdleCallbacks as IdleCallbacks
use Rattle.page_parts.specs.Words.{is_empty}
use Rattle.page_laws.proofs.DueOrder.{Grounds, first-grounds, grounds-later}
use Rattle.page_laws.proofs.Registered.{at_number, kind_in_role, some-line}
use Rattle.page_laws.proofs.Totals.{without-append}
use Rattle.page_laws.proofs.Ready.{in-last, in-fewer, in-left, in-right}
use Rattle.page_laws.specs.Moves.{role_at, IsIn, Places, places, PlaceChange, armed_again, signal_armed, idle_armed, DueChange, timer_due, delay_due, signal_due, idle_due, answer_due, AsBefore, PageChange, elsewhere, told, arm_told, rested, registered as made_one, promised, settled, followed, adopted, subscribed, micro_asked, then_asked, answered, dropped, frame_dropped, frame_asked, rejected_taken, noted, Beginning, TheScript, ATimer, AFrame, AnIdle, ALateIdle, AListener, APost, AContinuation, AMicro, AReaction, called_by, taken, task_dropped, enqueued_anew, fell_due, post_fell_due, prio_told, Moves, here, changing, arming, calling, ending, flagging, running, framing, idling, FirstPlace, nowhere, at_listener, at_timer, at_delay, at_idle, at_host, places_stay, task_queued, task_left, id_cleared, completed, idle_started, idle_queued, Dropping, timer_dropped, idle_dropped, listener_dropped, IsAtIdle, fits_first, Waited}
use Rattle.page_laws.proofs.Framed.{false_true}
use Rattle.page_laws.proofs.Lines.{added, emit_each-events}
use Rattle.page_laws.proofs.Ready.{in-fewer}
use Rattle.page_laws.proofs.Scans.{Test, Kept}

-- ---- lists

-- a callback of registration r waits
record WaitsIn (r : ℕ) (cs : List Callback) : Type 0 where
  callback : Callback
  there : IsIn callback cs
  own : callback.registration ≡ r

in-still : (c : Callback) (gone : Callback → Bool) (cs : List Callback) → IsIn c cs → gone c ≡ false → IsIn c (without gone cs)
in-still c gone [] i e = i
in-still c gone (d ∷ cs) i e = by_test (gone d) refl i (λ j. in-still c gone cs j e)
  where
    by_test : (b : Bool) → gone d ≡ b → IsIn c (d ∷ cs) → (IsIn c cs → IsIn c (without gone cs)) → IsIn c (cond b (without gone cs) (d ∷ without gone cs))
    by_test true q (inl f) rest = absurd (false_true (sym e ∙ (ap gone f ∙ q)))
    by_test true q (inr j) rest = rest j
    by_test false q (inl f) rest = inl f
    by_test false q (inr j) rest = inr (rest j)

-- those in both lists
abbrev Listed : Idle → List Callback
Listed i = i.runnable ++ i.pending

append-nil : {X : Type 0} (xs : List X) → xs ++ [] ≡ xs
append-nil [] = refl
append-nil (x ∷ xs) = ap (x ∷◌) (append-nil xs)

append-more : {X : Type 0} (xs ys zs : List X) → xs ++ (ys ++ zs) ≡ (xs ++ ys) ++ zs
append-more [] ys zs = refl
append-more (x ∷ xs) ys zs = ap (x ∷◌) (append-more xs ys zs)

-- ---- what fits the lines

record IdleOver (xs : List Registration) (i : Idle) (past : History) : Type 0 where
  waiting : (r : ℕ) → 1 ≤ r → role_at xs r ≡ OfKind kind.Idle → was_done past r ≡ true ⊎ WaitsIn r (Listed i)
  handles : (c d : Callback) → IsIn c (Listed i) → IsIn d (Listed i) → c.handle ≡ d.handle → c.registration ≡ d.registration
  made : (c : Callback) → IsIn c (Listed i) → c.handle ≤ i.made

on_left : (a b : Bool) → a ≡ true → a || b ≡ true
on_left true b h = refl
on_left false b h = absurd (false_true h)

on_right : (a b : Bool) → b ≡ true → a || b ≡ true
on_right true b h = refl
on_right false b h = h

done-later : (e : Stamped) (past : History) (r : ℕ) → was_done past r ≡ true → was_done (e ∷ past) r ≡ true
done-later e past r h = by_call (was_called past r) refl h
  where
    by_call : (b : Bool) → was_called past r ≡ b → b || was_dropped past r ≡ true → (is_call_of r e.event || was_called past r) || (is_drop_of r e.event || was_dropped past r) ≡ true
    by_call true q h = on_left (is_call_of r e.event || was_called past r) (is_drop_of r e.event || was_dropped past r) (on_right (is_call_of r e.event) (was_called past r) q)
    by_call false q h = on_right (is_call_of r e.event || was_called past r) (is_drop_of r e.event || was_dropped past r) (on_right (is_drop_of r e.event) (was_dropped past r) h)

line-over : (e : Stamped) (xs : List Registration) (i : Idle) (past : History) → IdleOver xs i past → IdleOver xs i (e ∷ past)
line-over e xs i past f = record { waiting = λ r one role. by_place r (f.waiting r one role); handles = f.handles; made = f.made }
  where
    by_place : (r : ℕ) → was_done past r ≡ true ⊎ WaitsIn r (Listed i) → was_done (e ∷ past) r ≡ true ⊎ WaitsIn r (Listed i)
    by_place r (inl d) = inl (done-later e past r d)
    by_place r (inr w) = inr w

-- the same callbacks in another order of lists
moved-over : (xs : List Registration) (i j : Idle) (past : History) → ((c : Callback) → IsIn c (Listed i) → IsIn c (Listed j)) → ((c : Callback) → IsIn c (Listed j) → IsIn c (Listed i)) → j.made ≡ i.made → IdleOver xs i past → IdleOver xs j past
moved-over xs i j past to from e f =
    record {
      waiting = λ r one role. by_place r (f.waiting r one role);
      handles = λ c d m n. f.handles c d (from c m) (from d n);
      made = λ c m. let a = f.made c (from c m) in omega (arith, a, e);
    }
  where
    by_place : (r : ℕ) → was_done past r ≡ true ⊎ WaitsIn r (Listed i) → was_done past r ≡ true ⊎ WaitsIn r (Listed j)
    by_place r (inl d) = inl d
    by_place r (inr w) = inr (record { callback = w.callback; there = to w.callback w.there; own = w.own })

-- those of a handle leave, with a line by which the registration of one of them is done
left-over : (e : Stamped) (xs : List Registration) (i : Idle) (past : History) (handle : ℕ) (c : Callback) → IsIn c (Listed i) → c.handle ≡ handle → was_done (e ∷ past) c.registration ≡ true → IdleOver xs i past → IdleOver xs (IdleCallbacks.cancel handle i) (e ∷ past)
left-over e xs i past handle c there own done f =
    record {
      waiting = λ r one role. by_place r (f.waiting r one role);
      handles = λ a b m n. f.handles a b (from a m) (from b n);
      made = λ a m. f.made a (from a m);
    }
  where
    both-left : without (λ d. d.handle == handle) (i.runnable ++ i.pending) ≡ without (λ d. d.handle == handle) i.runnable ++ without (λ d. d.handle == handle) i.pending
    both-left = without-append (λ d. d.handle == handle) i.runnable i.pending

    from : (d : Callback) → IsIn d (without (λ d. d.handle == handle) i.runnable ++ without (λ d. d.handle == handle) i.pending) → IsIn d (Listed i)
    from d m = in-fewer d (λ d. d.handle == handle) (Listed i) (subst (IsIn d) (sym both-left) m)

    by_test : (r : ℕ) (w : WaitsIn r (Listed i)) (b : Bool) → (w.callback.handle == handle) ≡ b → was_done (e ∷ past) r ≡ true ⊎ WaitsIn r (without (λ d. d.handle == handle) i.runnable ++ without (λ d. d.handle == handle) i.pending)
    by_test r w true q =
        inl (subst (λ (n : ℕ). was_done (e ∷ past) n ≡ true) (sym (f.handles w.callback c w.there there (eqb-true w.callback.handle handle q ∙ sym own)) ∙ w.own) done)
    by_test r w false q = inr (record { callback = w.callback; there = subst (IsIn w.callback) both-left (in-still w.callback (λ d. d.handle == handle) (Listed i) w.there q); own = w.own })

    by_place : (r : ℕ) → was_done past r ≡ true ⊎ WaitsIn r (Listed i) → was_done (e ∷ past) r ≡ true ⊎ WaitsIn r (without (λ d. d.handle == handle) i.runnable ++ without (λ d. d.handle == handle) i.pending)
    by_place r (inl d) = inl (done-later e past r d)
    by_place r (inr w) = by_test r w (w.callback.handle == handle) refl

-- an older registration is for what it was
older-role : (xs : List Registration) (x : Registration) (r : ℕ) → 1 ≤ r → (r ≡ suc (length xs) → ⊥) → role_at (and_last xs x) r ≡ role_at xs r
older-role xs x r one other = ap {A = Registration} {B = Role} (λ y. y.role) (at_number xs x r one (λ e. absurd (other e)))

at_last : (xs : List Registration) (x : Registration) → numbered (and_last xs x) (suc (length xs)) no_registration ≡ x
at_last xs x = ap {A = ℕ} {B = Registration} (λ n. numbered (and_last xs x) n no_registration) (sym (length-last xs x)) ∙ numbered-last xs x no_registration

-- a registration is made, for no idle callback
grown-over : (k : RegKind) (x : Registration) (xs : List Registration) (i : Idle) (past : History) → x.role ≡ OfKind k → is_idle k ≡ false → IdleOver xs i past → IdleOver (and_last xs x) i past
grown-over k x xs i past e other f =
    record {
      waiting = λ r one role. f.waiting r one (sym (older-role xs x r one (λ same. no_idle (new r same role))) ∙ role);
      handles = f.handles;
      made = f.made;
    }
  where
    idles : Role → Bool
    idles ScriptRole = false
    idles (OfKind k) = is_idle k

    new : (r : ℕ) → r ≡ suc (length xs) → role_at (and_last xs x) r ≡ OfKind kind.Idle → OfKind k ≡ OfKind kind.Idle
    new r same role = sym e ∙ (sym (ap {A = Registration} {B = Role} (λ y. y.role) (at_last xs x)) ∙ (sym (ap {A = ℕ} {B = Role} (role_at (and_last xs x)) same) ∙ role))

    no_idle : OfKind k ≡ OfKind kind.Idle → ⊥
    no_idle z = false_true (sym other ∙ ap idles z)

-- an idle callback is requested by a new registration
asked-over : (q : ℕ) (x : Registration) (xs : List Registration) (i : Idle) (past : History) → q ≡ suc (length xs) → IdleOver xs i past → IdleOver (and_last xs x) (IdleCallbacks.request q i) past
asked-over q x xs i past e f =
    record {
      waiting = λ r one role. by_number r one role (r == suc (length xs)) refl;
      handles = λ c d m n same. by_both c d (placed c m) (placed d n) same;
      made = λ c m. by_made c (placed c m);
    }
  where
    new : Callback
    new = record { handle = suc i.made; registration = q }

    whole : i.runnable ++ and_last i.pending new ≡ and_last (Listed i) new
    whole = append-more i.runnable i.pending (new ∷ [])

    placed : (c : Callback) → IsIn c (i.runnable ++ and_last i.pending (record { handle = suc i.made; registration = q })) → IsIn c (Listed i) ⊎ (c ≡ record { handle = suc i.made; registration = q })
    placed c m = in-last c (record { handle = suc i.made; registration = q }) (Listed i) (subst (IsIn c) (append-more i.runnable i.pending (record { handle = suc i.made; registration = q } ∷ [])) m)

    by_made : (c : Callback) → IsIn c (Listed i) ⊎ (c ≡ record { handle = suc i.made; registration = q }) → c.handle ≤ suc i.made
    by_made c (inl m) = let a = f.made c m in omega (arith, a)
    by_made c (inr same) = let a = ap {A = Callback} {B = ℕ} (λ d. d.handle) same in omega (arith, a)

    by_both : (c d : Callback) → IsIn c (Listed i) ⊎ (c ≡ record { handle = suc i.made; registration = q }) → IsIn d (Listed i) ⊎ (d ≡ record { handle = suc i.made; registration = q }) → c.handle ≡ d.handle → c.registration ≡ d.registration
    by_both c d (inl m) (inl n) same = f.handles c d m n same
    by_both c d (inl m) (inr z) same = let a = f.made c m in let b = ap {A = Callback} {B = ℕ} (λ d. d.handle) z in absurd (omega (arith, a, b, same))
    by_both c d (inr z) (inl n) same = let a = f.made d n in let b = ap {A = Callback} {B = ℕ} (λ d. d.handle) z in absurd (omega (arith, a, b, same))
    by_both c d (inr z) (inr y) same = ap {A = Callback} {B = ℕ} (λ d. d.registration) (z ∙ sym y)

    by_old : (r : ℕ) → was_done past r ≡ true ⊎ WaitsIn r (Listed i) → was_done past r ≡ true ⊎ WaitsIn r (i.runnable ++ and_last i.pending (record { handle = suc i.made; registration = q }))
    by_old r (inl d) = inl d
    by_old r (inr w) = inr (record { callback = w.callback; there = subst (IsIn w.callback) (sym (append-more i.runnable i.pending (record { handle = suc i.made; registration = q } ∷ []))) (in-left w.callback (Listed i) (record { handle = suc i.made; registration = q } ∷ []) w.there); own = w.own })

    by_number : (r : ℕ) → 1 ≤ r → role_at (and_last xs x) r ≡ OfKind kind.Idle → (b : Bool) → (r == suc (length xs)) ≡ b → was_done past r ≡ true ⊎ WaitsIn r (i.runnable ++ and_last i.pending (record { handle = suc i.made; registration = q }))
    by_number r one role true z =
        inr (record {
          callback = record { handle = suc i.made; registration = q };
          there = subst (IsIn (record { handle = suc i.made; registration = q })) (sym (append-more i.runnable i.pending (record { handle = suc i.made; registration = q } ∷ []))) (in-right (record { handle = suc i.made; registration = q }) (Listed i) (record { handle = suc i.made; registration = q } ∷ []) (inl refl));
          own = e ∙ sym (eqb-true r (suc (length xs)) z);
        })
    by_number r one role false z = by_old r (f.waiting r one (sym (older-role xs x r one (λ same. false_true (sym z ∙ eq-eqb r (suc (length xs)) same))) ∙ role))

-- ---- pages

abbrev Fits : Page → Type 0
Fits p = IdleOver p.registrations p.idle p.events

before-fits : {p q : Page} → AsBefore p q → IdleOver p.registrations q.idle p.events → Fits q
before-fits {p = p} {q = q} b f = subst (λ (xs : List Registration). IdleOver xs q.idle q.events) (sym b.registrations) (subst (IdleOver p.registrations q.idle) (sym b.events) f)

idle-as : (xs : List Registration) (i j : Idle) (past : History) → j ≡ i → IdleOver xs i past → IdleOver xs j past
idle-as xs i j past e f = subst (λ (k : Idle). IdleOver xs k past) (sym e) f

idle_of : (x y : Places) → x ≡ y → x.idle ≡ y.idle
idle_of x y e = ap {A = Places} {B = Idle} (λ z. z.idle) e

said : (e : Event) (p : Page) → Fits p → Fits (emit e p)
said e p f = line-over (record { time = p.now; event = e }) p.registrations p.idle p.events f

added-over : (now : ℕ) (es : List Event) (xs : List Registration) (i : Idle) (past : History) → IdleOver xs i past → IdleOver xs i (added now es past)
added-over now [] xs i past f = f
added-over now (e ∷ es) xs i past f = added-over now es xs i (record { time = now; event = e } ∷ past) (line-over (record { time = now; event = e }) xs i past f)

emit_each-registrations : (es : List Event) (p : Page) → (emit_each es p).registrations ≡ p.registrations
emit_each-registrations [] p = refl
emit_each-registrations (e ∷ es) p = emit_each-registrations es (emit e p)

emit_each-idle : (es : List Event) (p : Page) → (emit_each es p).idle ≡ p.idle
emit_each-idle [] p = refl
emit_each-idle (e ∷ es) p = emit_each-idle es (emit e p)

notices-fit : (f : Notices → Noticed) (p : Page) → Fits p → Fits (on_notices f p)
notices-fit f p k =
    let q : Page = record p { notices = (f p.notices).notices } in
    let lines = (f p.notices).lines in
    subst (λ (i : Idle). IdleOver (emit_each lines q).registrations i (emit_each lines q).events) (sym (emit_each-idle lines q))
    (subst (λ (xs : List Registration). IdleOver xs p.idle (emit_each lines q).events) (sym (emit_each-registrations lines q))
    (subst (IdleOver p.registrations p.idle) (sym (emit_each-events lines q)) (added-over p.now lines p.registrations p.idle p.events k)))

registered-fits : (k : RegKind) (x : Registration) (p : Page) → x.role ≡ OfKind k → is_idle k ≡ false → Fits p → Fits (register_as k x p)
registered-fits k x p e other f = line-over (record { time = p.now; event = Reg (suc (length p.registrations)) k (caller p) }) (and_last p.registrations x) p.idle p.events (grown-over k x p.registrations p.idle p.events e other f)

-- ---- changes

place-over : {made : List Registration} {x y : Places} → PlaceChange made x y → (xs : List Registration) (past : History) → IdleOver xs x.idle past → IdleOver xs y.idle past
place-over places_stay xs past f = f
place-over (task_queued t h plain) xs past f = f
place-over (task_left number) xs past f = f
place-over (armed_again a t role there next) xs past f = f
place-over (signal_armed ms now r s) xs past f = f
place-over (id_cleared id) xs past f = f
place-over (idle_armed t most own) xs past f = f
place-over (completed start gone) xs past f = f
place-over {x = x} idle_started xs past f =
    moved-over xs x.idle (IdleCallbacks.started x.idle) past (λ c i. subst (IsIn c) (sym (append-nil (Listed x.idle))) i) (λ c i. subst (IsIn c) (append-nil (Listed x.idle)) i) refl f
place-over (idle_queued t e from) xs past f = f

-- an idle callback waits first among those
first-idle : {made : List Registration} {ps : Prios} {r : ℕ} {x y : Places} (u : FirstPlace made ps r x y) (k : RegKind) → fits_first k u ≡ true → is_idle k ≡ true → IsAtIdle u
first-idle (at_idle q e) k at h = tt
first-idle nowhere kind.Idle at h = false_true at
first-idle nowhere k at h = false_true h
first-idle (at_listener target name q e) kind.Idle at h = false_true at
first-idle (at_listener target name q e) k at h = false_true h
first-idle (at_timer a t e first) kind.Idle at h = false_true at
first-idle (at_timer a t e first) k at h = false_true h
first-idle (at_delay ms now q source e z) kind.Idle at h = false_true at
first-idle (at_delay ms now q source e z) k at h = false_true h
first-idle (at_host c a e there live) kind.Idle at h = false_true at
first-idle (at_host c a e there live) k at h = false_true h

first-over : {xs : List Registration} {ps : Prios} {x y : Places} (u : FirstPlace xs ps (suc (length xs)) x y) → (k : RegKind) (e : Registration) → e.role ≡ OfKind k → (is_idle k ≡ true → IsAtIdle u) → (past : History) → IdleOver xs x.idle past → IdleOver (and_last xs e) y.idle past
first-over {xs = xs} {x = x} (at_idle q z) k e role at past f = asked-over q e xs x.idle past z f
first-over {xs = xs} {x = x} nowhere k e role at past f = grown-over k e xs x.idle past role (not_idle (is_idle k) at) f
  where
    not_idle : (b : Bool) → (b ≡ true → ⊥) → b ≡ false
    not_idle true h = absurd (h refl)
    not_idle false h = refl
first-over {xs = xs} {x = x} (at_listener target name q z) k e role at past f = grown-over k e xs x.idle past role (not_idle (is_idle k) at) f
  where
    not_idle : (b : Bool) → (b ≡ true → ⊥) → b ≡ false
    not_idle true h = absurd (h refl)
    not_idle false h = refl
first-over {xs = xs} {x = x} (at_timer a t z first) k e role at past f = grown-over k e xs x.idle past role (not_idle (is_idle k) at) f
  where
    not_idle : (b : Bool) → (b ≡ true → ⊥) → b ≡ false
    not_idle true h = absurd (h refl)
    not_idle false h = refl
first-over {xs = xs} {x = x} (at_delay ms now q source z h) k e role at past f = grown-over k e xs x.idle past role (not_idle (is_idle k) at) f
  where
    not_idle : (b : Bool) → (b ≡ true → ⊥) → b ≡ false
    not_idle true h = absurd (h refl)
    not_idle false h = refl
first-over {xs = xs} {x = x} (at_host c a z there live) k e role at past f = grown-over k e xs x.idle past role (not_idle (is_idle k) at) f
  where
    not_idle : (b : Bool) → (b ≡ true → ⊥) → b ≡ false
    not_idle true h = absurd (h refl)
    not_idle false h = refl

due-idle : {made : List Registration} {r : ℕ} {x y : Places} → DueChange made r x y → y.idle ≡ x.idle
due-idle (timer_due start number source t e i role) = refl
due-idle (delay_due start source e role) = refl
due-idle (signal_due start s e role) = refl
due-idle (idle_due t number source i e role) = refl
due-idle (answer_due before a after number source e i role) = refl

drop-over : {made : List Registration} {r : ℕ} {x y : Places} → Dropping made r x y → (now : ℕ) (xs : List Registration) (past : History) → IdleOver xs x.idle past → IdleOver xs y.idle (record { time = now; event = Drop r } ∷ past)
drop-over {r = r} {x = x} (timer_dropped id there e own) now xs past f = line-over (record { time = now; event = Drop r }) xs x.idle past f
drop-over {r = r} {x = x} (idle_dropped handle c e e1 role) now xs past f =
    let there = found-in handle (Listed x.idle) c e in
    left-over (record { time = now; event = Drop r }) xs x.idle past handle c there.0 there.1
    (on_right (was_called past c.registration) ((r == c.registration) || was_dropped past c.registration) (on_left (r == c.registration) (was_dropped past c.registration) (eq-eqb r c.registration e1))) f
drop-over {r = r} {x = x} (listener_dropped there role) now xs past f = line-over (record { time = now; event = Drop r }) xs x.idle past f

not_scheduled : (k : RegKind) → is_scheduled k ≡ true → is_idle k ≡ false
not_scheduled kind.Idle h = absurd (false_true h)
not_scheduled k h = refl

change-fits : {p q : Page} → PageChange p q → Fits p → Fits q
change-fits {p = p} {q = q} (elsewhere c b k) f = before-fits b (place-over c p.registrations p.events f)
change-fits {p = p} (told e h) f = said e p f
change-fits {p = p} (arm_told r due level w well) f = said (Arm r due level) p f
change-fits {p = p} (rested e h x y z over begun done) f = said e p f
change-fits {p = p} {q = q} (answered source task u answer x y live z b) f = before-fits b (idle-as p.registrations p.idle q.idle _ (idle_of (places q) _ z) (said (Host u.closure u.number answer) p f))
change-fits {p = p} {q = q} (made_one k x e unframed u b at) f =
    before-fits b (line-over (record { time = p.now; event = Reg (suc (length p.registrations)) k (caller p) }) (and_last p.registrations x) q.idle p.events (first-over u k x e (first-idle u k at.0) p.events f))
change-fits {p = p} {q = q} (enqueued_anew k x u queue e i s n b) f =
    before-fits b
    (idle-as (and_last p.registrations x) p.idle q.idle _ (idle_of (places q) _ s) (said (Enq u.registration queue u.continuation u.order) (register_as k x p) (registered-fits k x p e (not_scheduled k n.2) f)))
change-fits {p = p} {q = q} (fell_due r d b by) f = before-fits b (idle-as p.registrations p.idle q.idle _ (due-idle d) (said (Due r) p f))
change-fits {p = p} {q = q} (post_fell_due start source u queue e role a s n b by) f =
    before-fits b (idle-as p.registrations p.idle q.idle _ (idle_of (places q) _ s) (said (Enq u.registration queue u.continuation u.order) (emit (Due u.registration) p) (said (Due u.registration) p f)))
change-fits {p = p} {q = q} (dropped r d b) f = before-fits b (drop-over d p.now p.registrations p.events f)
change-fits {p = p} (frame_dropped handle c e role) f = said (Drop c.registration) p f
change-fits {p = p} {q = q} (task_dropped r role a e s b) f = before-fits b (idle-as p.registrations p.idle q.idle _ (idle_of (places q) _ s) (said (Drop r) p f))
change-fits {p = p} (prio_told s priority ps c) f = said (Prio s priority) p f
change-fits {p = p} (frame_asked u) f = registered-fits kind.Frame (record { role = OfKind kind.Frame; callback = Some u; second_callback = None; timer_id = 0; promise = 0; signal = None; finally = false }) p refl refl f
change-fits promised f = f
change-fits {p = p} (settled n how x y) f = notices-fit (λ s. changed (context p) p.names n (Promises.settle n (the_promise p.notices.promises n) how) s) p f
change-fits {p = p} (followed n how x y) f = notices-fit (λ s. changed (context p) p.names n (Promises.settle n (the_promise p.notices.promises n) how) s) p f
change-fits {p = p} (adopted n from x y) f = notices-fit (λ s. changed (context p) p.names n (Promises.adopt n (the_promise p.notices.promises n) from) s) p f
change-fits {p = p} (subscribed n r x y) f = notices-fit (subscribe_promise (context p) n r) p f
change-fits {p = p} (then_asked n x r e u y) f = notices-fit (subscribe_promise (context p) n r) (register_as kind.Then x p) (registered-fits kind.Then x p e refl f)
change-fits {p = p} (micro_asked x r e y) f = notices-fit (queue_micro (context p) r) (register_as kind.Micro x p) (registered-fits kind.Micro x p e refl f)
change-fits rejected_taken f = f
change-fits (noted n) f = f

called-fits : (p : Page) (r : ℕ) (past : History) → IdleOver p.registrations p.idle past → IdleOver p.registrations p.idle (record { time = p.now; event = Call r } ∷ past)
called-fits p r past f = line-over (record { time = p.now; event = Call r }) p.registrations p.idle past f

-- an idle callback is called, and leaves the lists
idle-called : (p : Page) (c : Callback) (past : History) → IsIn c (Listed p.idle) → IdleOver p.registrations p.idle past → IdleOver p.registrations (IdleCallbacks.cancel c.handle p.idle) (record { time = p.now; event = Call c.registration } ∷ past)
idle-called p c past there f =
    left-over (record { time = p.now; event = Call c.registration }) p.registrations p.idle past c.handle c there refl
    (on_left ((c.registration == c.registration) || was_called past c.registration) (was_dropped past c.registration) (on_left (c.registration == c.registration) (was_called past c.registration) (eq-eqb c.registration c.registration refl))) f

begins-fit : (b : Beginning) (p : Page) → Waited b p → Fits p → Fits (call_begun (called_by b) (taken b p))
begins-fit (TheScript source task) p w f = called-fits p _ p.events f
begins-fit (ATimer source task t) p w f = called-fits p _ p.events f
begins-fit (AFrame key c) p w f = called-fits p _ p.events f
begins-fit (AnIdle c others) p w f =
    idle-called p c (record { time = p.now; event = IdleLine (deadline p.last_idle_start p) } ∷ p.events) (in-left c p.idle.runnable p.idle.pending (subst (IsIn c) (sym w.0) (inl refl))) (said (IdleLine (deadline p.last_idle_start p)) p f)
begins-fit (ALateIdle handle c) p w f = idle-called p c p.events (found-in handle (Listed p.idle) c w.0).0 f
begins-fit (AListener r) p w f = called-fits p _ p.events f
begins-fit (APost t) p w f = called-fits p _ _ (said (Turn p.turns (Some Sched)) p f)
begins-fit (AContinuation t) p w f = called-fits p _ _ (said (Turn p.turns (Some Sched)) p f)
begins-fit (AMicro job others r) p w f = called-fits p _ _ (said (Run job.number) p f)
begins-fit (AReaction job others of x r) p w f = called-fits p _ _ (said (Run job.number) p f)

moves-fit : {p q : Page} → Moves p q → Fits p → Fits q
moves-fit here f = f
moves-fit (changing a c plain) f = change-fits c (moves-fit a f)
moves-fit (arming a c d w) f = change-fits d (change-fits c (moves-fit a f))
moves-fit (calling {q = q} a b w i) f = begins-fit b q w (moves-fit a f)
moves-fit (ending {q = q} a e h) f = said e q (moves-fit a f)
moves-fit (flagging {q = q} {r = r} a x y z w u v k j) f =
    idle-as r.registrations q.idle r.idle r.events (idle_of (places r) (places q) u)
    (subst (λ (xs : List Registration). IdleOver xs q.idle r.events) (sym z) (subst (IdleOver q.registrations q.idle) (sym y) (moves-fit a f)))
moves-fit (running {q = q} a j others x y nm) f = said (Run j.number) q (moves-fit a f)
moves-fit (framing {q = q} a n) f = said (Frame n) q (moves-fit a f)
moves-fit (idling a none) f = moves-fit a f

-- ---- the end

first-fits : (program : Program) (setup : Setup) (hosts : List HostClosure) → Fits (first_page program setup hosts)
first-fits program setup hosts = record { waiting = λ r one role. absurd (none r one role); handles = λ c d i. elim i [ ]; made = λ c i. elim i [ ] }
  where
    no_script : ScriptRole ≡ OfKind kind.Idle → ⊥
    no_script e = Prim.cc

    none : (r : ℕ) → 1 ≤ r → role_at (first_page program setup hosts).registrations r ≡ OfKind kind.Idle → ⊥
    none zero one e = absurd (omega (arith, one))
    none (suc zero) one e = no_script e
    none (suc (suc i)) one e = no_script e

-- no idle callback waits where nothing is pending
no-idles : (p : Page) → is_pending p ≡ false → IdleCallbacks.waits p.idle ≡ false
no-idles p h = by_test (not (is_empty p.arrivals && is_empty p.host_answers && is_empty p.timers.active && is_empty p.idle_timers && is_empty p.frames.callbacks)) h
  where
    by_test : (b : Bool) → b || IdleCallbacks.waits p.idle ≡ false → IdleCallbacks.waits p.idle ≡ false
    by_test true h = Prim.cc
    by_test false h = h

none-listed : (i : Idle) → IdleCallbacks.waits i ≡ false → (c : Callback) → IsIn c (Listed i) → ⊥
none-listed i h = by_lists i.runnable i.pending h
  where
    by_lists : (rs ps : List Callback) → not (is_empty ps && is_empty rs) ≡ false → (c : Callback) → IsIn c (rs ++ ps) → ⊥
    by_lists [] [] h c m = m
    by_lists [] (p ∷ ps) h c m = false_true (sym h)
    by_lists (r ∷ rs) [] h c m = false_true (sym h)
    by_lists (r ∷ rs) (p ∷ ps) h c m = false_true (sym h)

idled_kind : (o : Option RegKind) → is_some_and is_idle o ≡ true → o ≡ Some kind.Idle
idled_kind None h = absurd (false_true h)
idled_kind (Some kind.Idle) h = refl
idled_kind (Some k) h = absurd (false_true h)

idle_role : (role : Role) → kind_in_role role ≡ Some kind.Idle → role ≡ OfKind kind.Idle
idle_role ScriptRole h = Prim.cc
idle_role (OfKind kind.Idle) h = refl
idle_role (OfKind k) h = Prim.cc

all-over : (p : Page) → Grounds p → Fits p → is_pending p ≡ false → idles_are_over p.events ≡ true
all-over p g f h = all-filter (has_kind is_idle p.events) (was_done p.events) (registered p.events) each
  where
    by_place : (r : ℕ) → was_done p.events r ≡ true ⊎ WaitsIn r (Listed p.idle) → was_done p.events r ≡ true
    by_place r (inl d) = d
    by_place r (inr w) = absurd (none-listed p.idle (no-idles p h) w.callback w.there)

    by_number : (r : ℕ) → kind_of p.events r ≡ Some kind.Idle → was_done p.events r ≡ true
    by_number zero e = absurd (false_true (sym g.idle.none ∙ some-line p.events 0 kind.Idle e))
    by_number (suc i) e = by_place (suc i) (f.waiting (suc i) (omega arith) (idle_role (role_at p.registrations (suc i)) (sym (g.once.kinds.tie (suc i) (omega arith)) ∙ e)))

    each : (r : ℕ) → has_kind is_idle p.events r ≡ true → was_done p.events r ≡ true
    each r is = by_number r (idled_kind (kind_of p.events r) is)

abbrev pub idles_over_test : Test
idles_over_test = done_test idles_are_over

pub idles_over_at_end : (program : Program) (setup : Setup) (hosts : List HostClosure) {q : Page} → Moves (first_page program setup hosts) q → Kept idles_over_test q.events
idles_over_at_end program setup hosts a =
    moves-kept idles_are_over a (λ r b z none. all-over r (grounds-later b (first-grounds program setup hosts)) (moves-fit b (first-fits program setup hosts)) z.1) tt
