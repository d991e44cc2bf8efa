-- Timers are armed for whole milliseconds, clamped from level 7 on; and what is no timer with level 0.
use Rattle.std.proofs.Common.{◌≡◌, ℕ, zero, suc, ◌-◌, Bool, true, false, not, ◌&&◌, ◌||◌, List, [], ◌∷◌, Option, Some, None, cond, length, refl, sym, subst, ap, ◌∙◌, arith, eqb-true, nat_le}
use Rattle.std.proofs.lemmas.Bool.{eq-eqb, le-leb}
use Rattle.std.specs.Prelude.{◌==◌}
use Rattle.page_types.specs.declared.RegKind.{RegKind}
use Rattle.page_types.specs.declared.RegKind.TheVariants as kind
use Rattle.page_types.specs.Events.{Event, Arm}
use Rattle.page_types.specs.Tree.{Program}
use Rattle.page_parts.specs.HostClosures.{HostClosure}
use Rattle.page_parts.specs.Setup.{Setup}
use Rattle.page_parts.specs.Promises.{Reaction}
use Rattle.page_parts.specs.Promises as Promises
use Rattle.page_parts.specs.Words.{without}
use Rattle.page_parts.specs.Notices.{Notices, Noticed, changed, subscribe_promise, queue_micro, Context}
use Rattle.page_parts.specs.Promises.{the_promise}
use Rattle.page_model.specs.Invoke.{register_as}
use Rattle.page_model.specs.State.{Page, Role, ScriptRole, OfKind, Registration, on_notices, context}
use Rattle.page_model.specs.Numbers.{Each, is_timer_role}
use Rattle.page_model.specs.Turns.{first_page}
use Rattle.page_laws.specs.History.{History, has_kind, is_reg_of, is_rest, is_some_and, is_timer, kind_of, some_line}
use Rattle.page_laws.specs.TimerLaws.{has_no_level, is_clamped, is_delay, keeps_clamps}
use Rattle.page_laws.specs.Moves.{frame_asked, is_aside, is_end, promise_changes, role_at, IsArmedWell, IsPlain, Tells, PageChange, elsewhere, told, arm_told, rested, registered, promised, settled, followed, adopted, subscribed, micro_asked, then_asked, answered, dropped, frame_dropped, rejected_taken, noted, Beginning, TheScript, ATimer, AFrame, AnIdle, ALateIdle, AListener, APost, AContinuation, AMicro, AReaction, taken, Moves, here, changing, arming, calling, ending, flagging, running, framing, idling, task_dropped, enqueued_anew, fell_due, post_fell_due, prio_told}
use Rattle.page_laws.proofs.DueOrder.{Grounds, first-grounds, grounds-later}
use Rattle.page_laws.proofs.Framed.{false_true}
use Rattle.page_laws.proofs.Lines.{changed-each, emit_each-events}
use Rattle.page_laws.proofs.Registered as kinds
use Rattle.page_laws.proofs.Registered.{KindsFit, kind_in_role, some-line}
use Rattle.page_laws.proofs.Scans.{Test, Kept, kept-added}

abbrev pub clamps : Test
clamps past e = keeps_clamps past e.time e.event

-- a line that passes whatever stands before it
abbrev Passes : Event → Type 0
Passes e = (now : ℕ) (older : History) → keeps_clamps older now e ≡ true

aside-passes : (e : Event) → is_aside e ≡ true → Passes e
aside-passes (Arm r due level) h now older = absurd (false_true h)
aside-passes e h now older = refl

rest-passes : (e : Event) → is_rest e ≡ true → Passes e
rest-passes (Arm r due level) h now older = absurd (false_true h)
rest-passes e h now older = refl

end-passes : (e : Event) → is_end e ≡ true → Passes e
end-passes (Arm r due level) h now older = absurd (false_true h)
end-passes e h now older = refl

changed-passes : (current : Context) (names : List (List ℕ)) (n : ℕ) (c : Promises.Change) (s : Notices) → Each Passes (changed current names n c s).lines
changed-passes = changed-each Passes (λ n ok bs. λ now older. refl) (λ j what. λ now older. refl)

at-now : (now : ℕ) (es : List Event) → Each Passes es → Each (λ e. (older : History) → keeps_clamps older now e ≡ true) es
at-now now [] h = tt
at-now now (e ∷ es) h = (λ older. h.0 now older, at-now now es h.1)

-- ---- kinds by lines and by registrations

-- what the lines tell to be a timer is one
pub timer-kind : (xs : List Registration) (past : History) (r : ℕ) → KindsFit xs past → some_line (is_reg_of 0) past ≡ false → has_kind is_timer past r ≡ is_timer_role (role_at xs r)
timer-kind xs past zero n z = by_kind (kind_of past 0) refl ∙ sym (at_zero xs)
  where
    at_zero : (ys : List Registration) → is_timer_role (role_at ys 0) ≡ false
    at_zero [] = refl
    at_zero (y ∷ ys) = refl

    by_kind : (o : Option RegKind) → kind_of past 0 ≡ o → is_some_and is_timer o ≡ false
    by_kind None e = refl
    by_kind (Some k) e = absurd (false_true (sym z ∙ some-line past 0 k e))
timer-kind xs past (suc i) n z = ap {A = Option RegKind} {B = Bool} (λ o. is_some_and is_timer o) (n.tie (suc i) (omega arith)) ∙ by_role (role_at xs (suc i))
  where
    by_role : (role : Role) → is_some_and is_timer (kind_in_role role) ≡ is_timer_role role
    by_role ScriptRole = refl
    by_role (OfKind kind.Timeout) = refl
    by_role (OfKind kind.Interval) = refl
    by_role (OfKind k) = refl

-- an arm line passes
arm-passes : (p : Page) (r due level : ℕ) → IsArmedWell p r due level → KindsFit p.registrations p.events → some_line (is_reg_of 0) p.events ≡ false → is_clamped p.events p.now r due level ≡ true
arm-passes p r due level w n z = by_timer (has_kind is_timer p.events r) refl
  where
    both : (a b : Bool) → a ≡ true → b ≡ true → a && b ≡ true
    both true b x y = y
    both false b x y = absurd (false_true x)

    on_right : (a b : Bool) → b ≡ true → a || b ≡ true
    on_right true b h = refl
    on_right false b h = h

    by_timer : (b : Bool) → has_kind is_timer p.events r ≡ b → cond b (nat_le p.now due && is_delay (due - p.now) level) (not (has_kind has_no_level p.events r) || (level == 0)) ≡ true
    by_timer true e =
        let k = w.timer (sym (timer-kind p.registrations p.events r n z) ∙ e) in
        both (nat_le p.now due) (is_delay (due - p.now) level) (le-leb p.now due k.0) k.1
    by_timer false e = on_right (not (has_kind has_no_level p.events r)) (level == 0) (eq-eqb level 0 (w.other (sym (timer-kind p.registrations p.events r n z) ∙ e)))

notices-kept : (f : Notices → Noticed) (p : Page) → Each Passes (f p.notices).lines → Kept clamps p.events → Kept clamps (on_notices f p).events
notices-kept f p h k =
    subst (Kept clamps) (sym (emit_each-events (f p.notices).lines (record p { notices = (f p.notices).notices })))
    (kept-added clamps p.now (f p.notices).lines p.events (at-now p.now (f p.notices).lines h) k)

changes-kept : (n : ℕ) (c : Promises.Change) (p : Page) → Kept clamps p.events → Kept clamps (promise_changes n c p).events
changes-kept n c p k = notices-kept (λ s. changed (context p) p.names n c s) p (changed-passes (context p) p.names n c p.notices) k

subscribed-kept : (n : ℕ) (r : Reaction) (p : Page) → Kept clamps p.events → Kept clamps (on_notices (subscribe_promise (context p) n r) p).events
subscribed-kept n r p k =
    notices-kept (subscribe_promise (context p) n r) p
    (changed-passes (context p) [] n (Promises.subscribe n (the_promise p.notices.promises n) r) (record p.notices { rejected = without (λ m. m == n) p.notices.rejected; outstanding = without (λ m. m == n) p.notices.outstanding })) k

change-kept : {p q : Page} (c : PageChange p q) → IsPlain c → Kept clamps p.events → Kept clamps q.events
change-kept (elsewhere c b within) plain k = subst (Kept clamps) (sym b.events) k
change-kept {p = p} (told e h) plain k = (aside-passes e h p.now p.events, k)
change-kept (arm_told r due level w well) plain k = elim plain [ ]
change-kept {p = p} (rested e h x y z over begun done) plain k = (rest-passes e h p.now p.events, k)
change-kept (answered source task t answer x y live z b) plain k = subst (Kept clamps) (sym b.events) (refl, k)
change-kept (registered kind x e unframed u b at) plain k = subst (Kept clamps) (sym b.events) (refl, k)
change-kept (dropped r d b) plain k = subst (Kept clamps) (sym b.events) (refl, k)
change-kept (task_dropped r role a e s b) plain k = subst (Kept clamps) (sym b.events) (refl, k)
change-kept (enqueued_anew kind x t queue e i s n b) plain k = subst (Kept clamps) (sym b.events) (refl, (refl, k))
change-kept (fell_due r d b by) plain k = subst (Kept clamps) (sym b.events) (refl, k)
change-kept (post_fell_due start source t queue e role a s n b by) plain k = subst (Kept clamps) (sym b.events) (refl, (refl, k))
change-kept (prio_told s priority ps c) plain k = (refl, k)
change-kept (frame_dropped handle c e role) plain k = (refl, k)
change-kept (frame_asked f) plain k = (refl, k)
change-kept promised plain k = k
change-kept {p = p} (settled n how x y) plain k = changes-kept n (Promises.settle n (the_promise p.notices.promises n) how) p k
change-kept {p = p} (followed n how x y) plain k = changes-kept n (Promises.settle n (the_promise p.notices.promises n) how) p k
change-kept {p = p} (adopted n from x y) plain k = changes-kept n (Promises.adopt n (the_promise p.notices.promises n) from) p k
change-kept {p = p} (subscribed n r x y) plain k = subscribed-kept n r p k
change-kept {p = p} (then_asked n x r e g y) plain k = subscribed-kept n r (register_as kind.Then x p) (refl, k)
change-kept {p = p} (micro_asked x r e y) plain k = notices-kept (queue_micro (context p) r) (register_as kind.Micro x p) (λ now older. refl, tt) (refl, k)
change-kept rejected_taken plain k = k
change-kept (noted n) plain k = k

-- the registrations fit their lines behind a change, and none has number 0
kinds-then : {p q : Page} (c : PageChange p q) → KindsFit p.registrations p.events → KindsFit q.registrations q.events
kinds-then c n = kinds.change-fits c n

-- a change that arms, and its line
arms-kept : {p q s : Page} (c : PageChange p q) (d : PageChange q s) → Tells c d → Grounds p → Kept clamps p.events → Kept clamps s.events
arms-kept {p = p} {q = q} (registered k x e unframed u b at) (arm_told r due level w well) h g kept = (
  arm-passes q r due level well (kinds-then (registered k x e unframed u b at) g.once.kinds) (ap (some_line (is_reg_of 0)) b.events ∙ none (suc (length p.registrations) == 0) refl),
  subst (Kept clamps) (sym b.events) (refl, kept),
)
  where
    none : (t : Bool) → (suc (length p.registrations) == 0) ≡ t → (suc (length p.registrations) == 0) || some_line (is_reg_of 0) p.events ≡ false
    none true z = let same = eqb-true (suc (length p.registrations)) 0 z in absurd (omega (arith, same))
    none false z = ap {A = Bool} {B = Bool} (λ t. t || some_line (is_reg_of 0) p.events) z ∙ g.idle.none
arms-kept {p = p} {q = q} (elsewhere c b k) (arm_told r due level w well) h g kept =
    (arm-passes q r due level well (kinds-then (elsewhere c b k) g.once.kinds) (ap (some_line (is_reg_of 0)) b.events ∙ g.idle.none), subst (Kept clamps) (sym b.events) kept)
arms-kept c d h g kept = elim h [ ]

begins-kept : (b : Beginning) (p : Page) → Kept clamps p.events → Kept clamps (taken b p).events
begins-kept (TheScript source task) p k = k
begins-kept (ATimer source task t) p k = k
begins-kept (AFrame key c) p k = k
begins-kept (AnIdle c others) p k = (refl, k)
begins-kept (ALateIdle handle c) p k = k
begins-kept (AListener r) p k = k
begins-kept (APost t) p k = (refl, k)
begins-kept (AContinuation t) p k = (refl, k)
begins-kept (AMicro job others r) p k = (refl, k)
begins-kept (AReaction job others of x r) p k = (refl, k)

moves-kept : {p q : Page} → Moves p q → Grounds p → Kept clamps p.events → Kept clamps q.events
moves-kept here g k = k
moves-kept (changing a c plain) g k = change-kept c plain (moves-kept a g k)
moves-kept (arming a c d w) g k = arms-kept c d w (grounds-later a g) (moves-kept a g k)
moves-kept (calling {q = q} a b w i) g k = (refl, begins-kept b q (moves-kept a g k))
moves-kept (ending {q = q} a e h) g k = (end-passes e h q.now q.events, moves-kept a g k)
moves-kept (flagging a x y z w u v t j) g k = subst (Kept clamps) (sym y) (moves-kept a g k)
moves-kept (running a j others x y nm) g k = (refl, moves-kept a g k)
moves-kept (framing a t) g k = (refl, moves-kept a g k)
moves-kept (idling a none) g k = moves-kept a g k

-- from a first page on, timers are armed for whole milliseconds, clamped from level 7 on
pub timers_clamped : (program : Program) (setup : Setup) (hosts : List HostClosure) {q : Page} → Moves (first_page program setup hosts) q → Kept clamps q.events
timers_clamped program setup hosts a = moves-kept a (first-grounds program setup hosts) tt
