-- What runs once is called once at most: it waits or was called, never both.
use Rattle.std.proofs.Common.{◌≡◌, ℕ, suc, ◌≤◌, ◌<◌, ◌+◌, Bool, true, false, List, [], ◌∷◌, ◌++◌, ◌&&◌, ◌||◌, not, Option, Some, None, refl, sym, subst, ap, ◌∙◌, cond, length, arith, nat_le}
use Rattle.std.proofs.lemmas.Bool.{eqb-true, eq-eqb, leb-true, leb-false}
use Rattle.std.specs.Prelude.{◌==◌, filter, find}
use Rattle.page_types.specs.declared.RegKind.{RegKind}
use Rattle.page_types.specs.declared.RegKind.TheVariants as kind
use Rattle.page_types.specs.declared.Source.TheVariants.{Sched}
use Rattle.page_types.specs.Events.{Arm, Frame, Event, Call, Reg, Run, Turn, IdleLine, Host, Drop, Due, Enq, Prio}
use Rattle.page_parts.specs.Words.{and_last, without}
use Rattle.page_parts.specs.Frames.{Frames, Callback, without_handle}
use Rattle.page_parts.specs.Promises.{Reaction, the_promise, pending_promise}
use Rattle.page_parts.specs.Promises as Promises
use Rattle.page_parts.specs.Notices.{WaitingJob, Notices, Noticed, changed, subscribe_promise, queue_micro, note_outstanding}
use Rattle.page_parts.specs.Sources.{same_source}
use Rattle.page_model.specs.State.{IdleTimeout, Role, ScriptRole, OfKind, Registration, Page, Task, QueueTimer, QueueSignal, RunTimer, AnswerHost, EnqueuePost, emit, emit_each, on_notices, context, caller}
use Rattle.page_model.specs.Invoke.{call_begun, register_as}
use Rattle.page_model.specs.PageTime.{deadline}
use Rattle.page_model.specs.Numbers.{Each, IsFor, made_by, timer_role}
use Rattle.page_model.proofs.GivenNumbers.Growing.{length-last}
use Rattle.page_laws.specs.History.{History, count_lines, has_kind, is_some_and, is_call_of, kind_of, was_called}
use Rattle.page_laws.specs.CallLaws.{is_one_shot, has_no_callback, was_made, runs_once, may_be_called, may_be_registered}
use Rattle.page_laws.specs.Moves.{with_task, is_free, promise_changes, Places, places, PlaceChange, places_stay, task_queued, task_left, armed_again, signal_armed, timer_due, completed, idle_started, idle_queued, answer_due, id_cleared, idle_armed, idle_due, Dropping, timer_dropped, idle_dropped, listener_dropped, task_dropped, AsBefore, PageChange, elsewhere, told, arm_told, rested, answered, dropped, frame_dropped, registered, frame_asked, promised, settled, followed, adopted, subscribed, then_asked, micro_asked, rejected_taken, noted, Beginning, TheScript, ATimer, AFrame, AnIdle, ALateIdle, AListener, APost, AContinuation, AMicro, AReaction, called_by, role_of, taken, Waited, Moves, here, changing, arming, calling, ending, flagging, running, framing, idling, enqueued_anew, fell_due, post_fell_due, delay_due, signal_due, DueChange, prio_told}
use Rattle.page_types.specs.Tree.{Program}
use Rattle.page_parts.specs.Setup.{Setup}
use Rattle.page_parts.specs.HostClosures.{HostClosure}
use Rattle.page_model.specs.Turns.{first_page, the_script}
use Rattle.page_laws.proofs.Claims.{steps_claim, todo_claims, handler_claims, task_claims, completing_claims, callback_claims, sched_claims, reaction_claims, job_claims, place_claims, notice_claims, free-claims, completed-less, sched-less, idle-less, first-claims, settled-claims, adopted-claims, subscribed-claims, micro-claims, promised-claims, noted-claims}
use Rattle.page_laws.proofs.Lines.{added, emit_each-events}
use Rattle.page_laws.proofs.Registered as registered
use Rattle.page_laws.proofs.Registered.{At, KindsFit, Silent, tells_of_kinds, kind_in_role, at_past, at_number, false_true, or-true, some-line, changed-silent, aside-silent, rest-silent, end-silent}
use Rattle.page_laws.proofs.Scans.{Test, Kept}
use Rattle.page_laws.proofs.Totals.{one_if, total, total-append, total-last, total-without, IsLess, less-found, less-within}

-- the part of the law on registrations and calls
abbrev pub keeps_calls : History → Event → Bool
keeps_calls past (Reg r kind by) = may_be_registered past r kind
keeps_calls past (Call r) = may_be_called past r
keeps_calls past e = true

abbrev pub once_calls : Test
once_calls past e = keeps_calls past e.event

-- the script, and what else runs once
abbrev pub is_once : Role → Bool
is_once ScriptRole = true
is_once (OfKind k) = is_one_shot k

-- how often a registration was called
abbrev pub calls : ℕ → History → ℕ
calls r past = count_lines (is_call_of r) past

-- the registrations and how often each waits fit the lines: what runs once waits or was called, once at most, and no other number does
pub record OnceFit (xs : List Registration) (c : ℕ → ℕ) (past : History) : Type 0 where
  pub kinds : KindsFit xs past
  pub some_one : 1 ≤ length xs
  pub script : (At xs 1).role ≡ ScriptRole
  pub once : (r : ℕ) → 1 ≤ r → r ≤ length xs → is_once (At xs r).role ≡ true → c r + calls r past ≤ 1
  pub fresh : (r : ℕ) → length xs < r → c r + calls r past ≤ 0
  pub kept : Kept once_calls past

-- ---- numbers

apart : (n r : ℕ) → (n ≡ r → ⊥) → one_if (n == r) ≡ 0
apart n r h = by_test (n == r) refl
  where
    by_test : (b : Bool) → (n == r) ≡ b → one_if (n == r) ≡ 0
    by_test true q = absurd (h (eqb-true n r q))
    by_test false q = ap one_if q

one_most : (b : Bool) → one_if b ≤ 1
one_most true = omega arith
one_most false = omega arith

-- ---- lines

calls-more : (q r now : ℕ) (past : History) → calls r (record { time = now; event = Call q } ∷ past) ≡ one_if (q == r) + calls r past
calls-more q r now past = by_test (q == r)
  where
    others : History
    others = filter (λ e. is_call_of r e.event) past

    by_test : (b : Bool) → length (cond b (record { time = now; event = Call q } ∷ others) others) ≡ one_if b + length others
    by_test true = omega arith
    by_test false = omega arith

pub calls-none : (past : History) (r : ℕ) → calls r past ≤ 0 → was_called past r ≡ false
calls-none [] r h = refl
calls-none (e ∷ past) r h = by_test (is_call_of r e.event) h (calls-none past r)
  where
    others : History
    others = filter (λ e. is_call_of r e.event) past

    by_test : (b : Bool) → length (cond b (e ∷ others) others) ≤ 0 → (calls r past ≤ 0 → was_called past r ≡ false) → b || was_called past r ≡ false
    by_test true h rest = absurd (omega (arith, h))
    by_test false h rest = rest h

silent-fits : (e : Event) (now : ℕ) (xs : List Registration) (c : ℕ → ℕ) (past : History) → tells_of_kinds e ≡ false → OnceFit xs c past → OnceFit xs c (record { time = now; event = e } ∷ past)
silent-fits (Reg r kind by) now xs c past h f = Prim.cc
silent-fits (Call r) now xs c past h f = Prim.cc
silent-fits e now xs c past h f = record { kinds = registered.silent-fits e now xs past h f.kinds; some_one = f.some_one; script = f.script; once = f.once; fresh = f.fresh; kept = (refl, f.kept) }

added-fits : (now : ℕ) (es : List Event) (xs : List Registration) (c : ℕ → ℕ) (past : History) → Each Silent es → OnceFit xs c past → OnceFit xs c (added now es past)
added-fits now [] xs c past h f = f
added-fits now (e ∷ es) xs c past h f = added-fits now es xs c (record { time = now; event = e } ∷ past) h.1 (silent-fits e now xs c past h.0 f)

-- ---- what waits

-- nothing waits more often
lessen-fits : (xs : List Registration) (c d : ℕ → ℕ) (past : History) → ((r : ℕ) → d r ≤ c r) → OnceFit xs c past → OnceFit xs d past
lessen-fits xs c d past h f =
    record {
      kinds = f.kinds;
      some_one = f.some_one;
      script = f.script;
      once = λ r one le is. let a = h r in let b = f.once r one le is in omega (arith, a, b);
      fresh = λ r le. let a = h r in let b = f.fresh r le in omega (arith, a, b);
      kept = f.kept;
    }

-- an interval waits once more
again-fits : (q : ℕ) (xs : List Registration) (c d : ℕ → ℕ) (past : History) → (At xs q).role ≡ OfKind kind.Interval → ((r : ℕ) → d r ≤ c r + one_if (q == r)) → OnceFit xs c past → OnceFit xs d past
again-fits q xs c d past role h f =
    record {
      kinds = f.kinds;
      some_one = f.some_one;
      script = f.script;
      once = λ r one le is. let a = h r in let b = f.once r one le is in let e = apart q r (λ same. false_true (ap is_once (sym role) ∙ (ap {A = ℕ} {B = Bool} (λ n. is_once (At xs n).role) same ∙ is))) in omega (arith, a, b, e);
      fresh = λ r le. let a = h r in let b = f.fresh r le in let e = apart q r (λ same. beyond (omega (arith, le, same))) in omega (arith, a, b, e);
      kept = f.kept;
    }
  where
    no_kind : ScriptRole ≡ OfKind kind.Interval → ⊥
    no_kind e = Prim.cc

    beyond : length xs < q → ⊥
    beyond le = no_kind (sym (ap {A = Registration} {B = Role} (λ x. x.role) (at_past xs q (omega (arith, le)))) ∙ role)

-- ---- registrations

at_older : (xs : List Registration) (x : Registration) (r : ℕ) → 1 ≤ r → r ≤ length xs → At (and_last xs x) r ≡ At xs r
at_older xs x r one le = at_number xs x r one (λ e. absurd (omega (arith, le, e)))

new-passes : (a b c : Bool) → a ≡ true → c ≡ false → a && not (b && c) ≡ true
new-passes true true c x y = ap not y
new-passes true false c x y = refl
new-passes false b c x y = Prim.cc

-- a registration more, which waits once at most
made-fits : (k : RegKind) (by : Option ℕ) (x : Registration) (now : ℕ) (xs : List Registration) (c d : ℕ → ℕ) (past : History) → x.role ≡ OfKind k → ((r : ℕ) → d r ≤ c r + one_if (suc (length xs) == r)) → OnceFit xs c past
    → OnceFit (and_last xs x) d (record { time = now; event = Reg (suc (length xs)) k by } ∷ past)
made-fits k by x now xs c d past e h f =
    let all = registered.made-fits k by x now xs past e f.kinds in
    let none = f.fresh (suc (length xs)) (omega arith) in
    record {
      kinds = all;
      some_one = omega (arith, length-last xs x);
      script = ap {A = Registration} {B = Role} (λ y. y.role) (at_older xs x 1 (omega arith) f.some_one) ∙ f.script;
      once = λ r one le is. by_age r one le is (nat_le r (length xs)) refl;
      fresh = λ r le. let a = h r in let b = f.fresh r (omega (arith, le, length-last xs x)) in let z = apart (suc (length xs)) r (λ same. absurd (omega (arith, le, same, length-last xs x))) in omega (arith, a, b, z);
      kept = (new-passes _ (has_no_callback k) (was_called past (suc (length xs))) all.kept.0 (calls-none past (suc (length xs)) (omega (arith, none))), f.kept);
    }
  where
    by_age : (r : ℕ) → 1 ≤ r → r ≤ length (and_last xs x) → is_once (At (and_last xs x) r).role ≡ true → (b : Bool) → nat_le r (length xs) ≡ b → d r + calls r past ≤ 1
    by_age r one le is true q =
        let within : r ≤ length xs = leb-true r (length xs) q in
        let a = h r in
        let b = f.once r one within (sym (ap {A = Registration} {B = Bool} (λ y. is_once y.role) (at_older xs x r one within)) ∙ is) in
        let z = apart (suc (length xs)) r (λ same. absurd (omega (arith, within, same))) in
        omega (arith, a, b, z)
    by_age r one le is false q =
        let a = h r in
        let b = f.fresh r (leb-false r (length xs) q) in
        let z = one_most (suc (length xs) == r) in
        omega (arith, a, b, z)

-- ---- calls

passes : (a b c d : Bool) → a ≡ true → b ≡ false → c && d ≡ false → a && not b && not (c && d) ≡ true
passes true false c d x y z = ap not z
passes true true c d x y z = Prim.cc
passes false b c d x y z = Prim.cc

and-false : (b c : Bool) → c ≡ false → b && c ≡ false
and-false true c h = h
and-false false c h = refl

-- the script passes the test
script-passes : (xs : List Registration) (c : ℕ → ℕ) (past : History) → OnceFit xs c past → was_called past 1 ≡ false → may_be_called past 1 ≡ true
script-passes xs c past f h =
    let none : kind_of past 1 ≡ None = f.kinds.tie 1 (omega arith) ∙ ap kind_in_role f.script in
    passes true (has_kind has_no_callback past 1) (runs_once past 1) (was_called past 1) refl (ap {A = Option RegKind} {B = Bool} (λ o. is_some_and has_no_callback o) none) (and-false (runs_once past 1) (was_called past 1) h)

-- what has a kind passes it
kind-passes : (xs : List Registration) (c : ℕ → ℕ) (past : History) (r : ℕ) (k : RegKind) → OnceFit xs c past → 1 ≤ r → (At xs r).role ≡ OfKind k → has_no_callback k ≡ false → (is_one_shot k ≡ true → was_called past r ≡ false) → may_be_called past r ≡ true
kind-passes xs c past r k f one role h called =
    passes (was_made past r) (has_kind has_no_callback past r) (runs_once past r) (was_called past r)
    (ap {A = Bool} {B = Bool} (λ b. (r == 1) || b) (some-line past r k known) ∙ or-true (r == 1))
    (ap {A = Option RegKind} {B = Bool} (λ o. is_some_and has_no_callback o) known ∙ h)
    (ap {A = Bool} {B = Bool} (λ b. b && was_called past r) (by_number (r == 1) refl) ∙ by_kind (is_one_shot k) refl)
  where
    known : kind_of past r ≡ Some k
    known = f.kinds.tie r one ∙ ap kind_in_role role

    no_script : ScriptRole ≡ OfKind k → ⊥
    no_script e = Prim.cc

    by_number : (b : Bool) → (r == 1) ≡ b → (r == 1) || has_kind is_one_shot past r ≡ is_one_shot k
    by_number true q = absurd (no_script (sym f.script ∙ (ap {A = ℕ} {B = Role} (λ n. (At xs n).role) (sym (eqb-true r 1 q)) ∙ role)))
    by_number false q = ap {A = Bool} {B = Bool} (λ b. b || has_kind is_one_shot past r) q ∙ ap {A = Option RegKind} {B = Bool} (λ o. is_some_and is_one_shot o) known

    by_kind : (b : Bool) → is_one_shot k ≡ b → is_one_shot k && was_called past r ≡ false
    by_kind true q = and-false (is_one_shot k) (was_called past r) (called q)
    by_kind false q = ap {A = Bool} {B = Bool} (λ b. b && was_called past r) q

-- the callback of b passes it, where it was not called before if it runs once
call-passes : (b : Beginning) (p : Page) (c : ℕ → ℕ) (past : History) → IsFor (role_of b) (made_by p) (called_by b) → OnceFit p.registrations c past → (is_once (role_of b) ≡ true → was_called past (called_by b) ≡ false) → may_be_called past (called_by b) ≡ true
call-passes (TheScript source task) p c past i f h = script-passes p.registrations c past f (h refl)
call-passes (ATimer source task t) p c past i f h = by_repeats t.repeats i.role h
  where
    by_repeats : (b : Bool) → (At p.registrations t.registration).role ≡ timer_role b → (is_once (timer_role b) ≡ true → was_called past t.registration ≡ false) → may_be_called past t.registration ≡ true
    by_repeats true role h = kind-passes p.registrations c past t.registration kind.Interval f i.registration.from_one role refl h
    by_repeats false role h = kind-passes p.registrations c past t.registration kind.Timeout f i.registration.from_one role refl h
call-passes (AFrame key d) p c past i f h = kind-passes p.registrations c past d.registration kind.Frame f i.registration.from_one i.role refl h
call-passes (AnIdle d others) p c past i f h = kind-passes p.registrations c past d.registration kind.Idle f i.registration.from_one i.role refl h
call-passes (ALateIdle handle d) p c past i f h = kind-passes p.registrations c past d.registration kind.Idle f i.registration.from_one i.role refl h
call-passes (AListener r) p c past i f h = kind-passes p.registrations c past r kind.Listener f i.registration.from_one i.role refl h
call-passes (APost t) p c past i f h = kind-passes p.registrations c past t.registration kind.Post f i.registration.from_one i.role refl h
call-passes (AContinuation t) p c past i f h = kind-passes p.registrations c past t.registration kind.Yield f i.registration.from_one i.role refl h
call-passes (AMicro job others r) p c past i f h = kind-passes p.registrations c past r kind.Micro f i.registration.from_one i.role refl h
call-passes (AReaction job others of x r) p c past i f h = kind-passes p.registrations c past r kind.Then f i.registration.from_one i.role refl h

-- what is called waits once less, where it runs once
called-fits : (b : Beginning) (p : Page) (now : ℕ) (c d : ℕ → ℕ) (past : History) → IsFor (role_of b) (made_by p) (called_by b) → ((r : ℕ) → d r + cond (is_once (role_of b)) (one_if (called_by b == r)) 0 ≤ c r) → OnceFit p.registrations c past
    → OnceFit p.registrations d (record { time = now; event = Call (called_by b) } ∷ past)
called-fits b p now c d past i less f =
    record {
      kinds = registered.call-fits b now p past i f.kinds;
      some_one = f.some_one;
      script = f.script;
      once = λ r one le is. by_number r one le is (called_by b == r) refl;
      fresh = λ r le. let a = less r in let e = calls-more (called_by b) r now past in let z = apart (called_by b) r (λ same. absurd (omega (arith, same, le, i.registration.to_last))) in let g = f.fresh r le in omega (arith, a, e, z, g);
      kept = (call-passes b p c past i f (λ is. calls-none past (called_by b) (not_yet is)), f.kept);
    }
  where
    counted : (r : ℕ) → is_once (role_of b) ≡ true → d r + one_if (called_by b == r) ≤ c r
    counted r is = subst (λ (x : Bool). d r + cond x (one_if (called_by b == r)) 0 ≤ c r) is (less r)

    not_yet : is_once (role_of b) ≡ true → calls (called_by b) past ≤ 0
    not_yet is =
        let a = counted (called_by b) is in
        let e : one_if (called_by b == called_by b) ≡ 1 = ap one_if (eq-eqb (called_by b) (called_by b) refl) in
        let g = f.once (called_by b) i.registration.from_one i.registration.to_last (ap is_once i.role ∙ is) in
        omega (arith, a, e, g)

    by_number : (r : ℕ) → 1 ≤ r → r ≤ length p.registrations → is_once (At p.registrations r).role ≡ true → (x : Bool) → (called_by b == r) ≡ x → d r + calls r (record { time = now; event = Call (called_by b) } ∷ past) ≤ 1
    by_number r one le is true q =
        let same : called_by b ≡ r = eqb-true (called_by b) r q in
        let a = counted r (sym (ap is_once i.role) ∙ (ap {A = ℕ} {B = Bool} (λ n. is_once (At p.registrations n).role) same ∙ is)) in
        let e = calls-more (called_by b) r now past in
        let g = f.once r one le is in
        omega (arith, a, e, g)
    by_number r one le is false q =
        let a = less r in
        let e = calls-more (called_by b) r now past in
        let z : one_if (called_by b == r) ≡ 0 = ap one_if q in
        let g = f.once r one le is in
        omega (arith, a, e, z, g)

-- ---- pages

-- how often a registration waits, at the places, in promises and jobs and among the frame callbacks
abbrev pub claims_of : Places → Notices → List Callback → ℕ → ℕ
claims_of x s cs r = place_claims r x + (notice_claims r s + total (callback_claims r) cs)

abbrev pub FitsBy : List Registration → Places → Notices → List Callback → History → Type 0
FitsBy xs x s cs past = OnceFit xs (claims_of x s cs) past

abbrev pub Fits : Page → Type 0
Fits p = FitsBy p.registrations (places p) p.notices p.frames.callbacks p.events

before-fits : {p q : Page} → AsBefore p q → FitsBy p.registrations (places q) p.notices p.frames.callbacks p.events → Fits q
before-fits {p = p} {q = q} b f =
    subst (λ (cs : List Callback). FitsBy q.registrations (places q) q.notices cs q.events) (sym (ap {A = Frames} {B = List Callback} (λ fr. fr.callbacks) b.frames))
    (subst (λ (s : Notices). FitsBy q.registrations (places q) s p.frames.callbacks q.events) (sym b.notices)
    (subst (λ (xs : List Registration). FitsBy xs (places q) p.notices p.frames.callbacks q.events) (sym b.registrations)
    (subst (λ (past : History). FitsBy p.registrations (places q) p.notices p.frames.callbacks past) (sym b.events) f)))

-- what lines leave
record Left : Type 0 where
  registrations : List Registration
  waiting : Places
  notices : Notices
  callbacks : List Callback

left : Page → Left
left p = record { registrations = p.registrations; waiting = places p; notices = p.notices; callbacks = p.frames.callbacks }

emit_each-left : (es : List Event) (p : Page) → left (emit_each es p) ≡ left p
unfolding left
emit_each-left [] p = refl
emit_each-left (e ∷ es) p = emit_each-left es (emit e p)

-- promises and jobs after a call on them, with its lines
notices-fit : (f : Notices → Noticed) (p : Page) → Each Silent (f p.notices).lines → FitsBy p.registrations (places p) (f p.notices).notices p.frames.callbacks p.events → Fits (on_notices f p)
unfolding left
notices-fit f p h k =
    let q : Page = record p { notices = (f p.notices).notices } in
    let lines = (f p.notices).lines in
    subst (λ (l : Left). FitsBy l.registrations l.waiting l.notices l.callbacks (emit_each lines q).events) (sym (emit_each-left lines q))
    (subst (λ (past : History). FitsBy p.registrations (places p) (f p.notices).notices p.frames.callbacks past) (sym (emit_each-events lines q))
    (added-fits p.now lines p.registrations (claims_of (places p) (f p.notices).notices p.frames.callbacks) p.events h k))

-- promises and jobs in which no registration waits more often
notices-less : (p : Page) (s : Notices) → ((r : ℕ) → notice_claims r s ≤ notice_claims r p.notices) → Fits p → FitsBy p.registrations (places p) s p.frames.callbacks p.events
notices-less p s h f = lessen-fits p.registrations (claims_of (places p) p.notices p.frames.callbacks) (claims_of (places p) s p.frames.callbacks) p.events (λ r. let a = h r in omega (arith, a)) f

-- a registration is made, and waits once at most, at its place or in promises and jobs
registered-fits : (k : RegKind) (x : Registration) (p : Page) (y : Places) (s : Notices) (cs : List Callback) → x.role ≡ OfKind k
    → ((r : ℕ) → claims_of y s cs r ≤ claims_of (places p) p.notices p.frames.callbacks r + one_if (suc (length p.registrations) == r)) → Fits p
    → FitsBy (and_last p.registrations x) y s cs (register_as k x p).events
registered-fits k x p y s cs e h f = made-fits k (caller p) x p.now p.registrations (claims_of (places p) p.notices p.frames.callbacks) (claims_of y s cs) p.events e h f

-- ---- changes of the places

place-fits : {xs : List Registration} {x y : Places} → PlaceChange xs x y → (s : Notices) (cs : List Callback) (past : History) → FitsBy xs x s cs past → FitsBy xs y s cs past
place-fits places_stay s cs past f = f
place-fits {xs = xs} {x = x} (task_queued t h plain) s cs past f =
    let y : Places = with_task t x in
    lessen-fits xs (claims_of x s cs) (claims_of y s cs) past
    (λ r. let a = total-last (task_claims r) x.tasks t in let b = free-claims r t.steps h in omega (arith, a, b)) f
place-fits {xs = xs} {x = x} (idle_queued t e from) s cs past f =
    let y : Places = with_task t x in
    lessen-fits xs (claims_of x s cs) (claims_of y s cs) past
    (λ r. let a = total-last (task_claims r) x.tasks t in let b = free-claims r t.steps (ap is_free e) in omega (arith, a, b)) f
place-fits {xs = xs} {x = x} (task_left number) s cs past f =
    let y : Places = record x { tasks = without (λ t. t.number == number) x.tasks } in
    lessen-fits xs (claims_of x s cs) (claims_of y s cs) past (λ r. let a = total-without (task_claims r) (λ t. t.number == number) x.tasks in omega (arith, a)) f
place-fits {xs = xs} {x = x} {y = y} (armed_again armed t role there next) s cs past f =
    again-fits t.registration xs (claims_of x s cs) (claims_of y s cs) past role
    (λ r. let a = total-last (completing_claims r) x.completions (record { start = armed.start; completion = QueueTimer t }) in omega (arith, a)) f
place-fits {xs = xs} {x = x} {y = y} (signal_armed ms now q signal) s cs past f =
    lessen-fits xs (claims_of x s cs) (claims_of y s cs) past
    (λ r. let a = total-last (completing_claims r) x.completions (record { start = suc x.timers.starts_made; completion = QueueSignal q signal }) in omega (arith, a)) f
place-fits {xs = xs} {x = x} {y = y} (id_cleared id) s cs past f = lessen-fits xs (claims_of x s cs) (claims_of y s cs) past (λ r. omega arith) f
place-fits {xs = xs} {x = x} {y = y} (idle_armed t most own) s cs past f = lessen-fits xs (claims_of x s cs) (claims_of y s cs) past (λ r. omega arith) f
place-fits {xs = xs} {x = x} {y = y} (completed start gone) s cs past f =
    lessen-fits xs (claims_of x s cs) (claims_of y s cs) past (λ r. let a = total-without (completing_claims r) (λ c. c.start == start) x.completions in omega (arith, a)) f
place-fits {xs = xs} {x = x} idle_started s cs past f =
    let y : Places = record x { idle = record x.idle { runnable = x.idle.runnable ++ x.idle.pending; pending = [] } } in
    lessen-fits xs (claims_of x s cs) (claims_of y s cs) past (λ r. let a = total-append (callback_claims r) x.idle.runnable x.idle.pending in omega (arith, a)) f

-- where something is due, it waits no more often
due-less : {xs : List Registration} {q : ℕ} {x y : Places} → DueChange xs q x y → (r : ℕ) → place_claims r y ≤ place_claims r x
due-less {x = x} (timer_due start number source t e i role) r =
    let a = total-last (task_claims r) x.tasks (record { number = number; source = source; steps = RunTimer t }) in
    let b = completed-less r start x.completions (QueueTimer t) e in
    omega (arith, a, b)
due-less {x = x} (delay_due start source e role) r = let a = total-without (completing_claims r) (λ c. c.start == start) x.completions in omega (arith, a)
due-less {x = x} (signal_due start s e role) r = let a = total-without (completing_claims r) (λ c. c.start == start) x.completions in omega (arith, a)
due-less {x = x} (idle_due t number source i e role) r =
    let a = total-last (task_claims r) x.tasks (record { number = number; source = source; steps = IdleTimeout t.handle }) in
    omega (arith, a)
due-less {x = x} (answer_due before a after number source e i role) r =
    let b = total-last (task_claims r) x.tasks (record { number = number; source = source; steps = AnswerHost a.task }) in
    omega (arith, b)

-- a cancel
drop-fits : {xs : List Registration} {q : ℕ} {x y : Places} → Dropping xs q x y → (s : Notices) (cs : List Callback) (past : History) → FitsBy xs x s cs past → FitsBy xs y s cs past
drop-fits {xs = xs} {x = x} {y = y} (timer_dropped id there e own) s cs past f = lessen-fits xs (claims_of x s cs) (claims_of y s cs) past (λ r. omega arith) f
drop-fits {xs = xs} {x = x} {y = y} (idle_dropped handle c e e1 role) s cs past f =
    lessen-fits xs (claims_of x s cs) (claims_of y s cs) past
    (λ r.
    let a = total-without (callback_claims r) (λ c. c.handle == handle) x.idle.pending in
    let b = total-without (callback_claims r) (λ c. c.handle == handle) x.idle.runnable in
    omega (arith, a, b)) f
drop-fits {xs = xs} {x = x} {y = y} (listener_dropped there role) s cs past f = lessen-fits xs (claims_of x s cs) (claims_of y s cs) past (λ r. omega arith) f

-- ---- changes

changes-fit : (n : ℕ) (c : Promises.Change) (p : Page) → ((r : ℕ) → notice_claims r (changed (context p) p.names n c p.notices).notices ≤ notice_claims r p.notices) → Fits p → Fits (promise_changes n c p)
changes-fit n c p h f = notices-fit (λ s. changed (context p) p.names n c s) p (changed-silent (context p) p.names n c p.notices) (notices-less p (changed (context p) p.names n c p.notices).notices h f)

subscribed-silent : (n : ℕ) (r : Reaction) (p : Page) → Each Silent (subscribe_promise (context p) n r p.notices).lines
subscribed-silent n r p =
    changed-silent (context p) [] n (Promises.subscribe n (the_promise p.notices.promises n) r) (record p.notices { rejected = without (λ m. m == n) p.notices.rejected; outstanding = without (λ m. m == n) p.notices.outstanding })

pub change-fits : {p q : Page} → PageChange p q → Fits p → Fits q
change-fits {p = p} (elsewhere c b k) f = before-fits b (place-fits c p.notices p.frames.callbacks p.events f)
change-fits {p = p} (told e h) f = silent-fits e p.now p.registrations (claims_of (places p) p.notices p.frames.callbacks) p.events (aside-silent e h) f
change-fits {p = p} (arm_told r due level w well) f = silent-fits (Arm r due level) p.now p.registrations (claims_of (places p) p.notices p.frames.callbacks) p.events refl f
change-fits {p = p} (rested e h x y z over begun done) f = silent-fits e p.now p.registrations (claims_of (places p) p.notices p.frames.callbacks) p.events (rest-silent e h) f
change-fits {p = p} {q = q} (answered source task t answer x y live z b) f =
    before-fits b
    (lessen-fits p.registrations (claims_of (places p) p.notices p.frames.callbacks) (claims_of (places q) p.notices p.frames.callbacks) (emit (Host t.closure t.number answer) p).events
    (λ r.
    let a = total-without (task_claims r) (λ t. t.number == task.number) p.tasks in
    let e = ap (place_claims r) z in
    omega (arith, a, e))
    (silent-fits (Host t.closure t.number answer) p.now p.registrations (claims_of (places p) p.notices p.frames.callbacks) p.events refl f))
change-fits {p = p} {q = q} (registered k x e unframed u b at) f =
    before-fits b (registered-fits k x p (places q) p.notices p.frames.callbacks e (λ r. let a = first-claims u r in omega (arith, a)) f)
change-fits {p = p} {q = q} (dropped r d b) f =
    before-fits b (drop-fits d p.notices p.frames.callbacks (emit (Drop r) p).events (silent-fits (Drop r) p.now p.registrations (claims_of (places p) p.notices p.frames.callbacks) p.events refl f))
change-fits {p = p} {q = q} (task_dropped r role a e s b) f =
    before-fits b
    (lessen-fits p.registrations (claims_of (places p) p.notices p.frames.callbacks) (claims_of (places q) p.notices p.frames.callbacks) (emit (Drop r) p).events
    (λ n. let a = total-without (sched_claims n) (λ t. t.registration == r) p.sched_tasks in let same = ap (place_claims n) s in omega (arith, a, same))
    (silent-fits (Drop r) p.now p.registrations (claims_of (places p) p.notices p.frames.callbacks) p.events refl f))
change-fits {p = p} {q = q} (enqueued_anew k x t queue e i s n b) f =
    before-fits b
    (silent-fits (Enq t.registration queue t.continuation t.order) p.now (and_last p.registrations x) (claims_of (places q) p.notices p.frames.callbacks) (register_as k x p).events refl
    (registered-fits k x p (places q) p.notices p.frames.callbacks e
    (λ r.
    let a = total-last (sched_claims r) p.sched_tasks t in
    let same = ap (place_claims r) s in
    let it : one_if (t.registration == r) ≡ one_if (suc (length p.registrations) == r) = ap (λ n. one_if (n == r)) i in
    omega (arith, a, same, it)) f))
change-fits {p = p} {q = q} (fell_due r d b by) f =
    before-fits b
    (lessen-fits p.registrations (claims_of (places p) p.notices p.frames.callbacks) (claims_of (places q) p.notices p.frames.callbacks) (emit (Due r) p).events
    (λ n. let a = due-less d n in omega (arith, a))
    (silent-fits (Due r) p.now p.registrations (claims_of (places p) p.notices p.frames.callbacks) p.events refl f))
change-fits {p = p} {q = q} (post_fell_due start source t queue e role a s n b by) f =
    before-fits b
    (silent-fits (Enq t.registration queue t.continuation t.order) p.now p.registrations (claims_of (places q) p.notices p.frames.callbacks) (emit (Due t.registration) p).events refl
    (lessen-fits p.registrations (claims_of (places p) p.notices p.frames.callbacks) (claims_of (places q) p.notices p.frames.callbacks) (emit (Due t.registration) p).events
    (λ r.
    let a = total-last (sched_claims r) p.sched_tasks t in
    let b = completed-less r start p.completions (EnqueuePost t.registration source) e in
    let same = ap (place_claims r) s in
    omega (arith, a, b, same))
    (silent-fits (Due t.registration) p.now p.registrations (claims_of (places p) p.notices p.frames.callbacks) p.events refl f)))
change-fits {p = p} (prio_told s priority ps c) f = silent-fits (Prio s priority) p.now p.registrations (claims_of (places p) p.notices p.frames.callbacks) p.events refl f
change-fits {p = p} (frame_dropped handle c e role) f =
    silent-fits (Drop c.registration) p.now p.registrations (claims_of (places p) p.notices (without_handle handle p.frames.callbacks)) p.events refl
    (lessen-fits p.registrations (claims_of (places p) p.notices p.frames.callbacks) (claims_of (places p) p.notices (without_handle handle p.frames.callbacks)) p.events
    (λ r. let a = total-without (callback_claims r) (λ c. c.handle == handle) p.frames.callbacks in omega (arith, a)) f)
change-fits {p = p} {q = q} (frame_asked g) f =
    let x : Registration = record { role = OfKind kind.Frame; callback = Some g; second_callback = None; timer_id = 0; promise = 0; signal = None; finally = false } in
    let d : Callback = record { handle = suc p.frames.made; registration = length (and_last p.registrations x) } in
    registered-fits kind.Frame x p (places p) p.notices (and_last p.frames.callbacks d) refl
    (λ r.
    let a = total-last (callback_claims r) p.frames.callbacks d in
    let e = ap {A = ℕ} {B = ℕ} (λ n. one_if (n == r)) (length-last p.registrations x) in
    omega (arith, a, e)) f
change-fits {p = p} promised f = notices-less p (record p.notices { promises = and_last p.notices.promises pending_promise }) (λ r. let a = promised-claims r p.notices in omega (arith, a)) f
change-fits {p = p} (settled n how g y) f = changes-fit n (Promises.settle n (the_promise p.notices.promises n) how) p (λ r. settled-claims r (context p) p.names n how p.notices g) f
change-fits {p = p} (followed n how g y) f = changes-fit n (Promises.settle n (the_promise p.notices.promises n) how) p (λ r. settled-claims r (context p) p.names n how p.notices g) f
change-fits {p = p} (adopted n from g y) f = changes-fit n (Promises.adopt n (the_promise p.notices.promises n) from) p (λ r. adopted-claims r (context p) p.names n from p.notices g) f
change-fits {p = p} (subscribed n x g e) f =
    notices-fit (subscribe_promise (context p) n x) p (subscribed-silent n x p)
    (notices-less p (subscribe_promise (context p) n x p.notices).notices
    (λ r. let a = subscribed-claims r (context p) n x p.notices g in let z : reaction_claims r x ≡ 0 = without_handlers r x e in omega (arith, a, z)) f)
  where
    without_handlers : (r : ℕ) (x : Reaction) → x.registration ≡ None → reaction_claims r x ≡ 0
    without_handlers r x e = subst (λ (o : Option ℕ). reaction_claims r (record x { registration = o }) ≡ 0) (sym e) refl
change-fits {p = p} (then_asked n x y e g z) f =
    let made = register_as kind.Then x p in
    let s = (subscribe_promise (context p) n y p.notices).notices in
    notices-fit (subscribe_promise (context p) n y) made (subscribed-silent n y p)
    (registered-fits kind.Then x p (places p) s p.frames.callbacks e
    (λ r. let a = subscribed-claims r (context p) n y p.notices g in let b : reaction_claims r y ≡ one_if (suc (length p.registrations) == r) = with_handlers r y (suc (length p.registrations)) z in omega (arith, a, b)) f)
  where
    with_handlers : (r : ℕ) (x : Reaction) (m : ℕ) → x.registration ≡ Some m → reaction_claims r x ≡ one_if (m == r)
    with_handlers r x m e = subst (λ (o : Option ℕ). reaction_claims r (record x { registration = o }) ≡ one_if (m == r)) (sym e) refl
change-fits {p = p} (micro_asked x q e z) f =
    let made = register_as kind.Micro x p in
    let s = (queue_micro (context p) q p.notices).notices in
    notices-fit (queue_micro (context p) q) made (refl, tt)
    (registered-fits kind.Micro x p (places p) s p.frames.callbacks e
    (λ r. let a = micro-claims r (context p) q p.notices in let b = ap {A = ℕ} {B = ℕ} (λ m. one_if (m == r)) z in omega (arith, a, b)) f)
change-fits rejected_taken f = f
change-fits {p = p} (noted n) f = notices-less p (note_outstanding n p.notices) (λ r. let a = noted-claims r n p.notices in omega (arith, a)) f

-- ---- calls

counted_if : (b : Bool) (n m k : ℕ) → n + m ≤ k → n + cond b m 0 ≤ k
counted_if true n m k h = h
counted_if false n m k h = omega (arith, h)

-- a task that is taken
task-less : (r : ℕ) (p : Page) (find_test : Task → Bool) (task : Task) (n : ℕ) → find find_test p.tasks ≡ Some task → task_claims r task ≡ n → total (task_claims r) (without (λ t. t.number == task.number) p.tasks) + n ≤ total (task_claims r) p.tasks
task-less r p find_test task n e h =
    let a = less-found (task_claims r) find_test (λ t. t.number == task.number) p.tasks task e (eq-eqb task.number task.number refl) in
    omega (arith, a, h)

-- a call: its line, behind those of its taking
call-fits : (b : Beginning) (p : Page) → Waited b p → IsFor (role_of b) (made_by p) (called_by b) → Fits p → Fits (call_begun (called_by b) (taken b p))
call-fits (TheScript source task) p w i f =
    called-fits (TheScript source task) p p.now (claims_of (places p) p.notices p.frames.callbacks) (claims_of (places (taken (TheScript source task) p)) p.notices p.frames.callbacks) p.events i
    (λ r. let a = task-less r p (λ t. same_source t.source source) task (one_if (1 == r)) w.0 (ap (steps_claim r) w.1) in omega (arith, a)) f
call-fits (ATimer source task t) p w i f =
    called-fits (ATimer source task t) p p.now (claims_of (places p) p.notices p.frames.callbacks) (claims_of (places (taken (ATimer source task t) p)) p.notices p.frames.callbacks) p.events i
    (λ r.
    let a = task-less r p (λ t. same_source t.source source) task (one_if (t.registration == r)) w.0 (ap (steps_claim r) w.1) in
    counted_if (is_once (timer_role t.repeats)) (claims_of (places (taken (ATimer source task t) p)) p.notices p.frames.callbacks r) (one_if (t.registration == r)) (claims_of (places p) p.notices p.frames.callbacks r) (omega (arith, a))) f
call-fits (AFrame key d) p w i f =
    called-fits (AFrame key d) p p.now (claims_of (places p) p.notices p.frames.callbacks) (claims_of (places p) p.notices (without_handle d.handle p.frames.callbacks)) p.events i
    (λ r. let a = less-found (callback_claims r) (λ c. c.handle == key) (λ c. c.handle == d.handle) p.frames.callbacks d w.0 (eq-eqb d.handle d.handle refl) in omega (arith, a)) f
call-fits (AnIdle d others) p w i f =
    called-fits (AnIdle d others) p p.now (claims_of (places p) p.notices p.frames.callbacks) (claims_of (places (taken (AnIdle d others) p)) p.notices p.frames.callbacks) _ i
    (λ r.
    let gone : Callback → Bool = λ c. c.handle == d.handle in
    let a : IsLess (callback_claims r) gone p.idle.runnable d = subst (λ (cs : List Callback). IsLess (callback_claims r) gone cs d) (sym w.0) (less-within (callback_claims r) gone [] d others (eq-eqb d.handle d.handle refl)) in
    let b = total-without (callback_claims r) gone p.idle.pending in
    omega (arith, a, b))
    (silent-fits (IdleLine (deadline p.last_idle_start p)) p.now p.registrations (claims_of (places p) p.notices p.frames.callbacks) p.events refl f)
call-fits (ALateIdle handle d) p w i f =
    called-fits (ALateIdle handle d) p p.now (claims_of (places p) p.notices p.frames.callbacks) (claims_of (places (taken (ALateIdle handle d) p)) p.notices p.frames.callbacks) p.events i
    (λ r. let a = idle-less r handle p.idle d w.0 in omega (arith, a)) f
call-fits (AListener q) p w i f =
    called-fits (AListener q) p p.now (claims_of (places p) p.notices p.frames.callbacks) (claims_of (places p) p.notices p.frames.callbacks) p.events i (λ r. omega arith) f
call-fits (APost t) p w i f =
    called-fits (APost t) p p.now (claims_of (places p) p.notices p.frames.callbacks) (claims_of (places (taken (APost t) p)) p.notices p.frames.callbacks) _ i
    (λ r. let a = sched-less r p p.sched_tasks t w.0 in omega (arith, a)) (silent-fits (Turn p.turns (Some Sched)) p.now p.registrations (claims_of (places p) p.notices p.frames.callbacks) p.events refl f)
call-fits (AContinuation t) p w i f =
    called-fits (AContinuation t) p p.now (claims_of (places p) p.notices p.frames.callbacks) (claims_of (places (taken (AContinuation t) p)) p.notices p.frames.callbacks) _ i
    (λ r. let a = sched-less r p p.sched_tasks t w.0 in omega (arith, a)) (silent-fits (Turn p.turns (Some Sched)) p.now p.registrations (claims_of (places p) p.notices p.frames.callbacks) p.events refl f)
call-fits (AMicro job others q) p w i f =
    called-fits (AMicro job others q) p p.now (claims_of (places p) p.notices p.frames.callbacks) (claims_of (places p) (record p.notices { jobs = others }) p.frames.callbacks) _ i
    (λ r.
    let a : total (job_claims r) p.notices.jobs ≡ job_claims r job + total (job_claims r) others = ap (total (job_claims r)) w.0 in
    let b : job_claims r job ≡ one_if (q == r) = ap (todo_claims r) w.1 in
    omega (arith, a, b)) (silent-fits (Run job.number) p.now p.registrations (claims_of (places p) p.notices p.frames.callbacks) p.events refl f)
call-fits (AReaction job others of x q) p w i f =
    called-fits (AReaction job others of x q) p p.now (claims_of (places p) p.notices p.frames.callbacks) (claims_of (places p) (record p.notices { jobs = others }) p.frames.callbacks) _ i
    (λ r.
    let a : total (job_claims r) p.notices.jobs ≡ job_claims r job + total (job_claims r) others = ap (total (job_claims r)) w.0 in
    let b : job_claims r job ≡ one_if (q == r) = ap (todo_claims r) w.1 ∙ ap (handler_claims r) w.2 in
    omega (arith, a, b)) (silent-fits (Run job.number) p.now p.registrations (claims_of (places p) p.notices p.frames.callbacks) p.events refl f)

-- ---- moves

job-fits : (p : Page) (job : WaitingJob) (others : List WaitingJob) → p.notices.jobs ≡ job ∷ others → Fits p → FitsBy p.registrations (places p) (record p.notices { jobs = others }) p.frames.callbacks p.events
job-fits p job others e f =
    notices-less p (record p.notices { jobs = others }) (λ r. let a : total (job_claims r) p.notices.jobs ≡ job_claims r job + total (job_claims r) others = ap (total (job_claims r)) e in omega (arith, a)) f

pub moves-fit : {p q : Page} → Moves p q → Fits p → Fits q
moves-fit here f = f
moves-fit (changing a c plain) f = change-fits c (moves-fit a f)
moves-fit (arming a c e w) f = change-fits e (change-fits c (moves-fit a f))
moves-fit (calling {q = q} a b w i) f = call-fits b q w i (moves-fit a f)
moves-fit (ending {q = q} a e h) f = silent-fits e q.now q.registrations (claims_of (places q) q.notices q.frames.callbacks) q.events (end-silent e h) (moves-fit a f)
moves-fit (flagging {q = q} {r = r} a x y z w u v t j) f =
    subst (λ (y : Places). FitsBy r.registrations y r.notices r.frames.callbacks r.events) (sym u)
    (subst (λ (fr : Frames). FitsBy r.registrations (places q) r.notices fr.callbacks r.events) (sym w)
    (subst (λ (s : Notices). FitsBy r.registrations (places q) s q.frames.callbacks r.events) (sym x)
    (subst (λ (xs : List Registration). FitsBy xs (places q) q.notices q.frames.callbacks r.events) (sym z)
    (subst (λ (past : History). FitsBy q.registrations (places q) q.notices q.frames.callbacks past) (sym y) (moves-fit a f)))))
moves-fit (running {q = q} a j others x y nm) f =
    silent-fits (Run j.number) q.now q.registrations (claims_of (places q) (record q.notices { jobs = others }) q.frames.callbacks) q.events refl (job-fits q j others x (moves-fit a f))
moves-fit (framing {q = q} a t) f = silent-fits (Frame t) q.now q.registrations (claims_of (places q) q.notices q.frames.callbacks) q.events refl (moves-fit a f)
moves-fit (idling a none) f = moves-fit a f

-- before a first page's first line only the script waits
pub first_fits : (program : Program) (setup : Setup) (hosts : List HostClosure) → Fits (first_page program setup hosts)
first_fits program setup hosts =
    record {
      kinds = registered.first_fits (the_script program) refl;
      some_one = omega arith;
      script = refl;
      once = λ r one le is. let a = one_most (1 == r) in omega (arith, a);
      fresh = λ r le. let a = none_else r (omega (arith, le)) in omega (arith, a);
      kept = tt;
    }
  where
    none_else : (r : ℕ) → 1 < r → one_if (1 == r) ≡ 0
    none_else r le = apart 1 r (λ same. absurd (omega (arith, le, same)))

-- from a first page on, what runs once is called once at most
pub called_once : (program : Program) (setup : Setup) (hosts : List HostClosure) {q : Page} → Moves (first_page program setup hosts) q → Kept once_calls q.events
called_once program setup hosts a = (moves-fit a (first_fits program setup hosts)).kept
