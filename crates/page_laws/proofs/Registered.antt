-- No registration is made twice, and what is called was registered before, for something that has a callback.
use Rattle.std.proofs.Common.{◌≡◌, ℕ, zero, suc, pred, ◌≤◌, Bool, true, false, List, [], ◌∷◌, ◌&&◌, ◌||◌, Option, Some, None, refl, sym, subst, ap, ◌∙◌, cond, length, arith, not, unwrap_or, slice_get}
use Rattle.std.proofs.lemmas.Bool.{eqb-true, eq-eqb}
use Rattle.std.proofs.lemmas.Option.{slice_get_past}
use Rattle.std.specs.Prelude.{◌==◌}
use Rattle.page_types.specs.declared.RegKind.{RegKind}
use Rattle.page_types.specs.declared.RegKind.TheVariants as kind
use Rattle.page_model.specs.Invoke.{register_as}
use Rattle.page_types.specs.Events.{Arm, Frame, Drop, Event, Call, Ret, Throw, Reg, Run, Turn, IdleLine, Host, Due, Enq, Prio}
use Rattle.page_types.specs.declared.Source.TheVariants.{Sched}
use Rattle.page_parts.specs.Words.{and_last, numbered, without}
use Rattle.page_parts.specs.Promises.{Reaction}
use Rattle.page_parts.specs.Promises as Promises
use Rattle.page_parts.specs.Notices.{Notices, Noticed, changed, subscribe_promise, queue_micro, Context}
use Rattle.page_parts.specs.Promises.{the_promise}
use Rattle.page_model.specs.State.{Role, ScriptRole, OfKind, Registration, Page, emit, emit_each, on_notices, no_registration, context, caller}
use Rattle.page_model.specs.PageTime.{deadline}
use Rattle.page_model.specs.Numbers.{Each, IsFor, made_by, timer_role}
use Rattle.page_model.proofs.GivenNumbers.Growing.{numbered-last, length-last}
use Rattle.page_laws.specs.History.{History, some_line, is_reg_of, kind_of, kind_in, has_kind, is_some_and, is_rest}
use Rattle.page_laws.specs.CallLaws.{has_no_callback}
use Rattle.page_laws.specs.Moves.{frame_asked, is_aside, is_end, promise_changes, PageChange, elsewhere, told, arm_told, rested, registered, promised, settled, followed, adopted, subscribed, micro_asked, then_asked, answered, dropped, frame_dropped, AsBefore, rejected_taken, noted, Beginning, TheScript, ATimer, AFrame, AnIdle, ALateIdle, AListener, APost, AContinuation, AMicro, AReaction, called_by, role_of, taken, Moves, here, changing, arming, calling, ending, flagging, running, framing, idling, task_dropped, enqueued_anew, fell_due, post_fell_due, prio_told}
use Rattle.page_laws.proofs.Lines.{changed-each, added, emit_each-events}
use Rattle.page_laws.proofs.Scans.{Test, Kept}

-- a part of what runs once: a registration is new; what is called is the script, or was registered for something that has a callback
abbrev keeps_kinds : History → Event → Bool
keeps_kinds past (Reg r kind by) = not (some_line (is_reg_of r) past)
keeps_kinds past (Call r) = (r == 1) || (some_line (is_reg_of r) past && not (has_kind has_no_callback past r))
keeps_kinds past e = true

abbrev pub kinds : Test
kinds past e = keeps_kinds past e.event

-- the kind of a role in the lines; the script has none
abbrev pub kind_in_role : Role → Option RegKind
kind_in_role ScriptRole = None
kind_in_role (OfKind k) = Some k

-- registration r of a list
abbrev pub At : List Registration → ℕ → Registration
At xs r = numbered xs r no_registration

-- the registrations fit the lines: each has the kind by its line
pub record KindsFit (xs : List Registration) (past : History) : Type 0 where
  pub tie : (r : ℕ) → 1 ≤ r → kind_of past r ≡ kind_in_role (At xs r).role
  pub kept : Kept kinds past

-- ---- lines

abbrev pub tells_of_kinds : Event → Bool
tells_of_kinds (Reg r kind by) = true
tells_of_kinds (Call r) = true
tells_of_kinds e = false

pub aside-silent : (e : Event) → is_aside e ≡ true → tells_of_kinds e ≡ false
aside-silent (Reg r kind by) h = Prim.cc
aside-silent (Call r) h = Prim.cc
aside-silent e h = refl

pub rest-silent : (e : Event) → is_rest e ≡ true → tells_of_kinds e ≡ false
rest-silent (Reg r kind by) h = Prim.cc
rest-silent (Call r) h = Prim.cc
rest-silent e h = refl

pub end-silent : (e : Event) → is_end e ≡ true → tells_of_kinds e ≡ false
end-silent Ret h = refl
end-silent (Throw bs) h = refl
end-silent e h = Prim.cc

pub silent-fits : (e : Event) (now : ℕ) (xs : List Registration) (past : History) → tells_of_kinds e ≡ false → KindsFit xs past → KindsFit xs (record { time = now; event = e } ∷ past)
silent-fits (Reg r kind by) now xs past h f = Prim.cc
silent-fits (Call r) now xs past h f = Prim.cc
silent-fits e now xs past h f = record { tie = f.tie; kept = (refl, f.kept) }

added-fits : (now : ℕ) (es : List Event) (xs : List Registration) (past : History) → Each (λ e. tells_of_kinds e ≡ false) es → KindsFit xs past → KindsFit xs (added now es past)
added-fits now [] xs past h f = f
added-fits now (e ∷ es) xs past h f = added-fits now es xs (record { time = now; event = e } ∷ past) h.1 (silent-fits e now xs past h.0 f)

-- where no line registers r, r has no kind, and the other way round
pub none-line : (past : History) (r : ℕ) → kind_of past r ≡ None → some_line (is_reg_of r) past ≡ false
none-line [] r h = refl
none-line (e ∷ past) r h = by_line e.event (none-line past r) h
  where
    by_test : (b : Bool) (k : RegKind) → (kind_of past r ≡ None → some_line (is_reg_of r) past ≡ false) → cond b (Some k) (kind_of past r) ≡ None → b || some_line (is_reg_of r) past ≡ false
    by_test true k rest h = Prim.cc
    by_test false k rest h = rest h

    by_line : (e : Event) → (kind_of past r ≡ None → some_line (is_reg_of r) past ≡ false) → kind_in r e (kind_of past r) ≡ None → is_reg_of r e || some_line (is_reg_of r) past ≡ false
    by_line (Reg q k by) rest h = by_test (q == r) k rest h
    by_line e rest h = rest h

pub some-line : (past : History) (r : ℕ) (k : RegKind) → kind_of past r ≡ Some k → some_line (is_reg_of r) past ≡ true
some-line [] r k h = Prim.cc
some-line (e ∷ past) r k h = by_line e.event (some-line past r k) h
  where
    by_test : (b : Bool) (j : RegKind) → (kind_of past r ≡ Some k → some_line (is_reg_of r) past ≡ true) → cond b (Some j) (kind_of past r) ≡ Some k → b || some_line (is_reg_of r) past ≡ true
    by_test true j rest h = refl
    by_test false j rest h = rest h

    by_line : (e : Event) → (kind_of past r ≡ Some k → some_line (is_reg_of r) past ≡ true) → kind_in r e (kind_of past r) ≡ Some k → is_reg_of r e || some_line (is_reg_of r) past ≡ true
    by_line (Reg q j by) rest h = by_test (q == r) j rest h
    by_line e rest h = rest h

-- ---- lists of registrations

pub false_true : false ≡ true → ⊥
false_true h = Prim.cc

pub at_past : (xs : List Registration) (r : ℕ) → length xs ≤ pred r → At xs r ≡ no_registration
at_past xs zero h = refl
at_past xs (suc r) h = ap {A = Option Registration} {B = Registration} (λ o. unwrap_or o no_registration) (slice_get_past xs r h)

pub at_before : (xs : List Registration) (x : Registration) (i : ℕ) → (i ≡ length xs → ⊥) → unwrap_or (slice_get (and_last xs x) i) no_registration ≡ unwrap_or (slice_get xs i) no_registration
at_before [] x zero h = absurd (h refl)
at_before [] x (suc i) h = refl
at_before (y ∷ xs) x zero h = refl
at_before (y ∷ xs) x (suc i) h = at_before xs x i (λ e. h (ap suc e))

-- the same by its number
pub at_number : (xs : List Registration) (x : Registration) (r : ℕ) → 1 ≤ r → (r ≡ suc (length xs) → ⊥) → At (and_last xs x) r ≡ At xs r
at_number xs x zero one h = absurd (omega (arith, one))
at_number xs x (suc i) one h = at_before xs x i (λ e. h (ap suc e))

-- ---- a registration is made, and something is called

pub made-fits : (k : RegKind) (by : Option ℕ) (x : Registration) (now : ℕ) (xs : List Registration) (past : History) → x.role ≡ OfKind k → KindsFit xs past → KindsFit (and_last xs x) (record { time = now; event = Reg (suc (length xs)) k by } ∷ past)
made-fits k by x now xs past e f =
    record {
      tie = λ r one. by_number r one (suc (length xs) == r) refl;
      kept = (ap not (none-line past (suc (length xs)) (f.tie (suc (length xs)) (omega arith) ∙ ap {A = Registration} {B = Option RegKind} (λ y. kind_in_role y.role) (at_past xs (suc (length xs)) (omega arith)))), f.kept);
    }
  where
    last : At (and_last xs x) (suc (length xs)) ≡ x
    last = ap {A = ℕ} {B = Registration} (At (and_last xs x)) (sym (length-last xs x)) ∙ numbered-last xs x no_registration

    by_number : (r : ℕ) → 1 ≤ r → (b : Bool) → (suc (length xs) == r) ≡ b → cond (suc (length xs) == r) (Some k) (kind_of past r) ≡ kind_in_role (At (and_last xs x) r).role
    by_number r one true q =
        ap {A = Bool} {B = Option RegKind} (λ b. cond b (Some k) (kind_of past r)) q
        ∙ sym (ap {A = ℕ} {B = Option RegKind} (λ i. kind_in_role (At (and_last xs x) i).role) (sym (eqb-true (suc (length xs)) r q)) ∙ (ap {A = Registration} {B = Option RegKind} (λ y. kind_in_role y.role) last ∙ ap kind_in_role e))
    by_number r one false q =
        ap {A = Bool} {B = Option RegKind} (λ b. cond b (Some k) (kind_of past r)) q
        ∙ (f.tie r one ∙ sym (ap {A = Registration} {B = Option RegKind} (λ y. kind_in_role y.role) (at_number xs x r one (λ same. false_true (sym q ∙ eq-eqb (suc (length xs)) r (sym same))))))

-- what has a callback
abbrev pub IsCallable : Role → Type 0
IsCallable ScriptRole = Unit {0}
IsCallable (OfKind k) = has_no_callback k ≡ false

pub callable : (b : Beginning) → IsCallable (role_of b)
callable (TheScript source task) = tt
callable (ATimer source task t) = by_repeats t.repeats
  where
    by_repeats : (b : Bool) → IsCallable (timer_role b)
    by_repeats true = refl
    by_repeats false = refl
callable (AFrame key c) = refl
callable (AnIdle c others) = refl
callable (ALateIdle handle c) = refl
callable (AListener r) = refl
callable (APost t) = refl
callable (AContinuation t) = refl
callable (AMicro job others r) = refl
callable (AReaction job others of x r) = refl

pub or-true : (b : Bool) → b || true ≡ true
or-true true = refl
or-true false = refl

-- a call of a registration that has a callback
called-passes : (past : History) (r : ℕ) (k : RegKind) → kind_of past r ≡ Some k → has_no_callback k ≡ false → (r == 1) || (some_line (is_reg_of r) past && not (has_kind has_no_callback past r)) ≡ true
called-passes past r k e h =
    ap {A = Bool} {B = Bool} (λ b. (r == 1) || (b && not (has_kind has_no_callback past r))) (some-line past r k e)
    ∙ (ap {A = Option RegKind} {B = Bool} (λ o. (r == 1) || not (is_some_and has_no_callback o)) e ∙ (ap {A = Bool} {B = Bool} (λ b. (r == 1) || not b) h ∙ or-true (r == 1)))

pub call-fits : (b : Beginning) (now : ℕ) (p : Page) (past : History) → IsFor (role_of b) (made_by p) (called_by b) → KindsFit p.registrations past → KindsFit p.registrations (record { time = now; event = Call (called_by b) } ∷ past)
call-fits b now p past i f = record { tie = f.tie; kept = (by_role b i, f.kept) }
  where
    of_kind : (r : ℕ) (role : Role) → IsFor role (made_by p) r → IsCallable role → (role ≡ ScriptRole → r ≡ 1) → (r == 1) || (some_line (is_reg_of r) past && not (has_kind has_no_callback past r)) ≡ true
    of_kind r ScriptRole i h s = ap {A = Bool} {B = Bool} (λ b. b || (some_line (is_reg_of r) past && not (has_kind has_no_callback past r))) (eq-eqb r 1 (s refl))
    of_kind r (OfKind k) i h s = called-passes past r k (f.tie r i.registration.from_one ∙ ap kind_in_role i.role) h

    by_role : (b : Beginning) → IsFor (role_of b) (made_by p) (called_by b) → (called_by b == 1) || (some_line (is_reg_of (called_by b)) past && not (has_kind has_no_callback past (called_by b))) ≡ true
    by_role (TheScript source task) i = refl
    by_role (ATimer source task t) i = of_kind t.registration (timer_role t.repeats) i (callable (ATimer source task t)) (λ e. by_repeats t.repeats e)
      where
        by_repeats : (b : Bool) → timer_role b ≡ ScriptRole → t.registration ≡ 1
        by_repeats true e = Prim.cc
        by_repeats false e = Prim.cc
    by_role (AFrame key c) i = called-passes past c.registration kind.Frame (f.tie c.registration i.registration.from_one ∙ ap kind_in_role i.role) refl
    by_role (AnIdle c others) i = called-passes past c.registration kind.Idle (f.tie c.registration i.registration.from_one ∙ ap kind_in_role i.role) refl
    by_role (ALateIdle handle c) i = called-passes past c.registration kind.Idle (f.tie c.registration i.registration.from_one ∙ ap kind_in_role i.role) refl
    by_role (AListener r) i = called-passes past r kind.Listener (f.tie r i.registration.from_one ∙ ap kind_in_role i.role) refl
    by_role (APost t) i = called-passes past t.registration kind.Post (f.tie t.registration i.registration.from_one ∙ ap kind_in_role i.role) refl
    by_role (AContinuation t) i = called-passes past t.registration kind.Yield (f.tie t.registration i.registration.from_one ∙ ap kind_in_role i.role) refl
    by_role (AMicro job others r) i = called-passes past r kind.Micro (f.tie r i.registration.from_one ∙ ap kind_in_role i.role) refl
    by_role (AReaction job others of x r) i = called-passes past r kind.Then (f.tie r i.registration.from_one ∙ ap kind_in_role i.role) refl

-- ---- moves

abbrev pub Fits : Page → Type 0
Fits p = KindsFit p.registrations p.events

abbrev pub Silent : Event → Type 0
Silent e = tells_of_kinds e ≡ false

pub changed-silent : (current : Context) (names : List (List ℕ)) (n : ℕ) (c : Promises.Change) (s : Notices) → Each Silent (changed current names n c s).lines
changed-silent = changed-each Silent (λ n ok bs. refl) (λ j what. refl)

emit_each-registrations : (es : List Event) (p : Page) → (emit_each es p).registrations ≡ p.registrations
emit_each-registrations [] p = refl
emit_each-registrations (e ∷ es) p = emit_each-registrations es (emit e p)

notices-fit : (f : Notices → Noticed) (p : Page) → Each Silent (f p.notices).lines → Fits p → Fits (on_notices f p)
notices-fit f p h k =
    let q : Page = record p { notices = (f p.notices).notices } in
    let lines = (f p.notices).lines in
    subst (λ (xs : List Registration). KindsFit xs (emit_each lines q).events) (sym (emit_each-registrations lines q))
    (subst (KindsFit p.registrations) (sym (emit_each-events lines q)) (added-fits p.now lines p.registrations p.events h k))

changes-fit : (n : ℕ) (c : Promises.Change) (p : Page) → Fits p → Fits (promise_changes n c p)
changes-fit n c p f = notices-fit (λ s. changed (context p) p.names n c s) p (changed-silent (context p) p.names n c p.notices) f

subscribed-fits : (n : ℕ) (r : Reaction) (p : Page) → Fits p → Fits (on_notices (subscribe_promise (context p) n r) p)
subscribed-fits n r p f =
    notices-fit (subscribe_promise (context p) n r) p
    (changed-silent (context p) [] n (Promises.subscribe n (the_promise p.notices.promises n) r) (record p.notices { rejected = without (λ m. m == n) p.notices.rejected; outstanding = without (λ m. m == n) p.notices.outstanding })) f

before-fits : {p q : Page} → AsBefore p q → Fits p → Fits q
before-fits {p = p} {q = q} b f = subst (λ (xs : List Registration). KindsFit xs q.events) (sym b.registrations) (subst (KindsFit p.registrations) (sym b.events) f)

pub change-fits : {p q : Page} → PageChange p q → Fits p → Fits q
change-fits {p = p} {q = q} (elsewhere c b k) f = before-fits b f
change-fits {p = p} (told e h) f = silent-fits e p.now p.registrations p.events (aside-silent e h) f
change-fits {p = p} (arm_told r due level w well) f = silent-fits (Arm r due level) p.now p.registrations p.events refl f
change-fits {p = p} (rested e h x y z over begun done) f = silent-fits e p.now p.registrations p.events (rest-silent e h) f
change-fits {p = p} (answered source task t answer x y live z b) f = before-fits b (silent-fits (Host t.closure t.number answer) p.now p.registrations p.events refl f)
change-fits {p = p} (registered k x e unframed u b at) f = before-fits b (made-fits k (caller p) x p.now p.registrations p.events e f)
change-fits {p = p} (frame_asked g) f = made-fits kind.Frame (caller p) (record { role = OfKind kind.Frame; callback = Some g; second_callback = None; timer_id = 0; promise = 0; signal = None; finally = false }) p.now p.registrations p.events refl f
change-fits {p = p} (dropped r d b) f = before-fits b (silent-fits (Drop r) p.now p.registrations p.events refl f)
change-fits {p = p} (task_dropped r role a e s b) f = before-fits b (silent-fits (Drop r) p.now p.registrations p.events refl f)
change-fits {p = p} (enqueued_anew kind x t queue e i s n b) f =
    before-fits b (silent-fits (Enq t.registration queue t.continuation t.order) p.now (and_last p.registrations x) (register_as kind x p).events refl (made-fits kind (caller p) x p.now p.registrations p.events e f))
change-fits {p = p} (fell_due r d b by) f = before-fits b (silent-fits (Due r) p.now p.registrations p.events refl f)
change-fits {p = p} (post_fell_due start source t queue e role a s n b by) f =
    before-fits b (silent-fits (Enq t.registration queue t.continuation t.order) p.now p.registrations (emit (Due t.registration) p).events refl (silent-fits (Due t.registration) p.now p.registrations p.events refl f))
change-fits {p = p} (prio_told s priority ps c) f = silent-fits (Prio s priority) p.now p.registrations p.events refl f
change-fits {p = p} (frame_dropped handle c e role) f = silent-fits (Drop c.registration) p.now p.registrations p.events refl f
change-fits promised f = f
change-fits {p = p} (settled n how x y) f = changes-fit n (Promises.settle n (the_promise p.notices.promises n) how) p f
change-fits {p = p} (followed n how x y) f = changes-fit n (Promises.settle n (the_promise p.notices.promises n) how) p f
change-fits {p = p} (adopted n from x y) f = changes-fit n (Promises.adopt n (the_promise p.notices.promises n) from) p f
change-fits {p = p} (subscribed n r x y) f = subscribed-fits n r p f
change-fits {p = p} (then_asked n x r e g y) f = subscribed-fits n r (register_as kind.Then x p) (made-fits kind.Then (caller p) x p.now p.registrations p.events e f)
change-fits {p = p} (micro_asked x r e y) f = notices-fit (queue_micro (context p) r) (register_as kind.Micro x p) (refl, tt) (made-fits kind.Micro (caller p) x p.now p.registrations p.events e f)
change-fits rejected_taken f = f
change-fits (noted n) f = f

-- where a callback is taken, the registrations stay
begins-fit : (b : Beginning) (p : Page) → Fits p → Fits (taken b p)
begins-fit (TheScript source task) p f = f
begins-fit (ATimer source task t) p f = f
begins-fit (AFrame key c) p f = f
begins-fit (AnIdle c others) p f = silent-fits (IdleLine (deadline p.last_idle_start p)) p.now p.registrations p.events refl f
begins-fit (ALateIdle handle c) p f = f
begins-fit (AListener r) p f = f
begins-fit (APost t) p f = silent-fits (Turn p.turns (Some Sched)) p.now p.registrations p.events refl f
begins-fit (AContinuation t) p f = silent-fits (Turn p.turns (Some Sched)) p.now p.registrations p.events refl f
begins-fit (AMicro job others r) p f = silent-fits (Run job.number) p.now p.registrations p.events refl f
begins-fit (AReaction job others of x r) p f = silent-fits (Run job.number) p.now p.registrations p.events refl f

same-registrations : (b : Beginning) (p : Page) → (taken b p).registrations ≡ p.registrations
same-registrations (TheScript source task) p = refl
same-registrations (ATimer source task t) p = refl
same-registrations (AFrame key c) p = refl
same-registrations (AnIdle c others) p = refl
same-registrations (ALateIdle handle c) p = refl
same-registrations (AListener r) p = refl
same-registrations (APost t) p = refl
same-registrations (AContinuation t) p = refl
same-registrations (AMicro job others r) p = refl
same-registrations (AReaction job others of x r) p = refl

moves-fit : {p q : Page} → Moves p q → Fits p → Fits q
moves-fit here f = f
moves-fit (changing a c plain) f = change-fits c (moves-fit a f)
moves-fit (arming a c e w) f = change-fits e (change-fits c (moves-fit a f))
moves-fit (calling {q = q} a b w i) f =
    let same = same-registrations b q in
    subst (λ (xs : List Registration). KindsFit xs (record { time = (taken b q).now; event = Call (called_by b) } ∷ (taken b q).events)) (sym same)
    (call-fits b (taken b q).now q (taken b q).events i (subst (λ (xs : List Registration). KindsFit xs (taken b q).events) same (begins-fit b q (moves-fit a f))))
moves-fit (ending {q = q} a e h) f = silent-fits e q.now q.registrations q.events (end-silent e h) (moves-fit a f)
moves-fit (flagging {q = q} {r = r} a x y z w u v t j) f = subst (λ (xs : List Registration). KindsFit xs r.events) (sym z) (subst (KindsFit q.registrations) (sym y) (moves-fit a f))
moves-fit (running {q = q} a j others x y nm) f = silent-fits (Run j.number) q.now q.registrations q.events refl (moves-fit a f)
moves-fit (framing {q = q} a t) f = silent-fits (Frame t) q.now q.registrations q.events refl (moves-fit a f)
moves-fit (idling a none) f = moves-fit a f

-- before the first line only the script is registered
pub first_fits : (x : Registration) → x.role ≡ ScriptRole → KindsFit (x ∷ []) []
first_fits x w = record { tie = λ r one. first r one; kept = tt }
  where
    first : (r : ℕ) → 1 ≤ r → None ≡ kind_in_role (At (x ∷ []) r).role
    first zero one = absurd (omega (arith, one))
    first (suc zero) one = sym (ap kind_in_role w)
    first (suc (suc i)) one = refl
