-- Frame callbacks are called behind the frame line of their turn, in the order of the requests, and none is left over between turns.
use Rattle.std.proofs.Common.{◌≡◌, ◌⊎◌, inl, inr, ℕ, zero, suc, ◌≤◌, ◌<◌, Bool, true, false, not, ◌&&◌, ◌||◌, List, [], ◌∷◌, Option, Some, None, refl, sym, subst, ap, ◌∙◌, cond, length, arith, eqb-true, filter, nat_lt, lt-ltb}
use Rattle.std.specs.Prelude.{◌==◌}
use Rattle.std.specs.List.{list_all}
use Rattle.std.proofs.lemmas.Bool.{eq-eqb}
use Rattle.page_types.specs.declared.RegKind.{RegKind}
use Rattle.page_types.specs.declared.RegKind.TheVariants as kind
use Rattle.page_types.specs.declared.End.TheVariants as end
use Rattle.page_types.specs.declared.Source.TheVariants.{Sched}
use Rattle.page_types.specs.Events.{Arm, Event, Call, Ret, Throw, Turn, Wait, Period, EndLine, Frame, Reg, Run, Drop, Due, Enq, Host, Prio, IdleLine, Stamped}
use Rattle.page_types.specs.Tree.{Program}
use Rattle.page_parts.specs.Setup.{Setup}
use Rattle.page_parts.specs.HostClosures.{HostClosure}
use Rattle.page_parts.specs.Frames.{Callback, Frames, callback_in, without_handle}
use Rattle.page_parts.specs.Words.{and_last, without, is_empty}
use Rattle.page_parts.specs.Promises.{Reaction}
use Rattle.page_parts.specs.Promises as Promises
use Rattle.page_parts.specs.Notices.{Notices, Noticed, changed, subscribe_promise, queue_micro, Context}
use Rattle.page_parts.specs.Promises.{the_promise}
use Rattle.page_model.specs.State.{Page, Role, ScriptRole, OfKind, Registration, no_registration, emit, emit_each, on_notices, context, caller}
use Rattle.page_model.specs.Invoke.{register_as, call_begun}
use Rattle.page_model.specs.Numbers.{Each, IsFor, made_by, timer_role}
use Rattle.page_model.specs.PageTime.{deadline}
use Rattle.page_model.specs.Turns.{first_page}
use Rattle.page_model.proofs.GivenNumbers.Growing.{length-last, numbered-last}
use Rattle.page_laws.specs.History.{History, is_call_of, is_scheduled, is_drop_of, is_frame, is_reg_of, is_rest, is_turn, has_kind, is_some_and, kind_in, kind_of, registered, before_last, this_turn, calls_in, called_in, some_line, was_called, was_dropped, registered_for}
use Rattle.page_laws.specs.TimerLaws.{all_framed, framed_at, is_frame_line, is_reg_before, keeps_frames, may_be_drawn, was_done}
use Rattle.page_laws.specs.Moves.{is_aside, is_end, marked, marked_by, role_at, IsIn, IsDrawnNext, FrameIsOver, promise_changes, AsBefore, PageChange, elsewhere, told, arm_told, rested, registered as made_one, promised, settled, followed, adopted, subscribed, micro_asked, then_asked, answered, dropped, frame_dropped, frame_asked, rejected_taken, noted, Beginning, TheScript, ATimer, AFrame, AnIdle, ALateIdle, AListener, APost, AContinuation, AMicro, AReaction, called_by, role_of, taken, Waited, task_dropped, enqueued_anew, fell_due, post_fell_due, prio_told, Moves, here, changing, arming, calling, ending, flagging, running, framing, idling}
use Rattle.page_laws.proofs.Drawing.{found-in}
use Rattle.page_laws.proofs.Framed.{change-kept, Ascends, Ordered, ascends-both, ascends-in, moves-ordered, in-without, in-without-stays, false_true}
use Rattle.page_laws.proofs.Lines.{changed-each, added, emit_each-events}
use Rattle.page_laws.proofs.Once as once
use Rattle.page_laws.proofs.Registered.{KindsFit, kind_in_role, kinds, some-line, at_number}
use Rattle.page_laws.proofs.Scans.{Test, Kept}

abbrev pub framing_test : Test
framing_test past e = keeps_frames past e.event

-- ---- tests

both : (a b : Bool) → a ≡ true → b ≡ true → a && b ≡ true
both true b x y = y
both false b x y = x

first_of_two : (a b : Bool) → a && b ≡ true → a ≡ true
first_of_two true b h = refl
first_of_two false b h = h

one_of_two : (a b : Bool) → a || b ≡ true → (a ≡ true) ⊎ (b ≡ true)
one_of_two true b h = inl refl
one_of_two false b h = inr h

on_right : (a b : Bool) → b ≡ true → a || b ≡ true
on_right true b h = refl
on_right false b h = h

on_left : (a b : Bool) → a ≡ true → a || b ≡ true
on_left true b h = refl
on_left false b h = absurd (false_true h)

-- ---- callbacks that wait

-- a registration waits in a list of callbacks
record WaitsIn (r : ℕ) (cs : List Callback) : Type 0 where
  callback : Callback
  there : IsIn callback cs
  own : callback.registration ≡ r

in-still : (c : Callback) (gone : Callback → Bool) (cs : List Callback) → IsIn c cs → gone c ≡ false → IsIn c (without gone cs)
in-still c gone [] i e = i
in-still c gone (d ∷ cs) i e = by_test (gone d) refl i (λ j. in-still c gone cs j e)
  where
    by_test : (b : Bool) → gone d ≡ b → IsIn c (d ∷ cs) → (IsIn c cs → IsIn c (without gone cs)) → IsIn c (cond b (without gone cs) (d ∷ without gone cs))
    by_test true q (inl f) rest = absurd (false_true (sym e ∙ (ap gone f ∙ q)))
    by_test true q (inr j) rest = rest j
    by_test false q (inl f) rest = inl f
    by_test false q (inr j) rest = inr (rest j)

in-last : (c d : Callback) (cs : List Callback) → IsIn c (and_last cs d) → IsIn c cs ⊎ (c ≡ d)
in-last c d [] (inl e) = inr e
in-last c d [] (inr i) = elim i [ ]
in-last c d (x ∷ cs) (inl e) = inl (inl e)
in-last c d (x ∷ cs) (inr i) = by_rest (in-last c d cs i)
  where
    by_rest : IsIn c cs ⊎ (c ≡ d) → IsIn c (x ∷ cs) ⊎ (c ≡ d)
    by_rest (inl j) = inl (inr j)
    by_rest (inr e) = inr e

in-more : (c d : Callback) (cs : List Callback) → IsIn c cs → IsIn c (and_last cs d)
in-more c d [] i = elim i [ ]
in-more c d (x ∷ cs) (inl e) = inl e
in-more c d (x ∷ cs) (inr i) = inr (in-more c d cs i)

is-last : (d : Callback) (cs : List Callback) → IsIn d (and_last cs d)
is-last d [] = inl refl
is-last d (x ∷ cs) = inr (is-last d cs)

-- where the callback of a handle leaves, a registration waits on, or it is that of the callback
waits-on : (made last handle r : ℕ) (c : Callback) (cs : List Callback) → Ascends made last 0 0 cs → IsIn c cs → c.handle ≡ handle → WaitsIn r cs → WaitsIn r (without_handle handle cs) ⊎ (c.registration ≡ r)
waits-on made last handle r c cs o i e w = by_test (w.callback.handle == handle) refl
  where
    by_test : (b : Bool) → (w.callback.handle == handle) ≡ b → WaitsIn r (without_handle handle cs) ⊎ (c.registration ≡ r)
    by_test true q =
        let same = eqb-true w.callback.handle handle q in
        let le = ascends-both made last 0 0 c w.callback cs o i w.there (omega (arith, same, e)) in
        let ge = ascends-both made last 0 0 w.callback c cs o w.there i (omega (arith, same, e)) in
        let own = w.own in
        inr (omega (arith, le, ge, own))
    by_test false q = inl (record { callback = w.callback; there = in-still w.callback (λ d. d.handle == handle) cs w.there q; own = w.own })

-- of two that wait with different handles, the registrations differ
apart : (made last h r : ℕ) (c d : Callback) (cs : List Callback) → Ascends made last h r cs → IsIn c cs → IsIn d cs → (d.handle == c.handle) ≡ false → c.registration ≤ d.registration → c.registration < d.registration
apart made last h r c d [] o i j e le = elim i [ ]
apart made last h r c d (x ∷ cs) o (inl f) (inl g) e le = absurd (false_true (sym e ∙ eq-eqb d.handle c.handle (ap {A = Callback} {B = ℕ} (λ y. y.handle) (g ∙ sym f))))
apart made last h r c d (x ∷ cs) o (inl f) (inr j) e le =
    let a = (ascends-in made last x.handle x.registration d cs o.4 j).1 in
    let b : c.registration ≡ x.registration = ap {A = Callback} {B = ℕ} (λ y. y.registration) f in
    omega (arith, a, b)
apart made last h r c d (x ∷ cs) o (inr i) (inl g) e le =
    let a = (ascends-in made last x.handle x.registration c cs o.4 i).1 in
    let b : d.registration ≡ x.registration = ap {A = Callback} {B = ℕ} (λ y. y.registration) g in
    absurd (omega (arith, a, b, le))
apart made last h r c d (x ∷ cs) o (inr i) (inr j) e le = apart made last x.handle x.registration c d cs o.4 i j e le

-- ---- what fits the lines

-- frame registration r was called or dropped, or waits
abbrev Accounted : List Callback → History → ℕ → Type 0
Accounted cs past r = (was_done past r ≡ true) ⊎ WaitsIn r cs

-- what was called was registered, and where it is for a frame, before those that wait
record CalledBefore (xs : List Registration) (cs : List Callback) (q : ℕ) : Type 0 where
  from_one : 1 ≤ q
  to_last : q ≤ length xs
  order : role_at xs q ≡ OfKind kind.Frame → (c : Callback) → IsIn c cs → q < c.registration

record FramesFit (xs : List Registration) (cs : List Callback) (past : History) : Type 0 where
  waiting : (r : ℕ) → 1 ≤ r → role_at xs r ≡ OfKind kind.Frame → Accounted cs past r
  called : (q : ℕ) → was_called past q ≡ true → CalledBefore xs cs q
  none : some_line (is_reg_of 0) past ≡ false
  kept : Kept framing_test past

-- ---- lines

done-later : (e : Stamped) (past : History) (r : ℕ) → was_done past r ≡ true → was_done (e ∷ past) r ≡ true
done-later e past r h = by_two (one_of_two (was_called past r) (was_dropped past r) h)
  where
    by_two : (was_called past r ≡ true) ⊎ (was_dropped past r ≡ true) → was_done (e ∷ past) r ≡ true
    by_two (inl a) = on_left (is_call_of r e.event || was_called past r) (is_drop_of r e.event || was_dropped past r) (on_right (is_call_of r e.event) (was_called past r) a)
    by_two (inr a) = on_right (is_call_of r e.event || was_called past r) (is_drop_of r e.event || was_dropped past r) (on_right (is_drop_of r e.event) (was_dropped past r) a)

later-accounted : (e : Stamped) (cs : List Callback) (past : History) (r : ℕ) → Accounted cs past r → Accounted cs (e ∷ past) r
later-accounted e cs past r (inl d) = inl (done-later e past r d)
later-accounted e cs past r (inr w) = inr w

-- a line that is no call, registers nothing and does not stand between turns
abbrev tells_of_frames : Event → Bool
tells_of_frames (Call r) = true
tells_of_frames (Reg r k by) = true
tells_of_frames e = is_rest e

aside-silent : (e : Event) → is_aside e ≡ true → tells_of_frames e ≡ false
aside-silent (Call r) h = Prim.cc
aside-silent (Reg r k by) h = Prim.cc
aside-silent (Turn n source) h = Prim.cc
aside-silent (Wait t) h = Prim.cc
aside-silent (Period d) h = Prim.cc
aside-silent (EndLine end.Done) h = Prim.cc
aside-silent (EndLine end.Clock) h = Prim.cc
aside-silent e h = refl

end-silent : (e : Event) → is_end e ≡ true → tells_of_frames e ≡ false
end-silent Ret h = refl
end-silent (Throw bs) h = refl
end-silent e h = Prim.cc

-- what a line tells of calls and registrations where it is none
no-call : (e : Event) (past : History) (q : ℕ) (now : ℕ) → tells_of_frames e ≡ false → was_called (record { time = now; event = e } ∷ past) q ≡ was_called past q
no-call (Call r) past q now h = Prim.cc
no-call e past q now h = refl

no-reg : (e : Event) (past : History) (q : ℕ) (now : ℕ) → tells_of_frames e ≡ false → some_line (is_reg_of q) (record { time = now; event = e } ∷ past) ≡ some_line (is_reg_of q) past
no-reg (Reg r k by) past q now h = Prim.cc
no-reg e past q now h = refl

no-test : (e : Event) (past : History) → tells_of_frames e ≡ false → keeps_frames past e ≡ true
no-test (Call r) past h = Prim.cc
no-test (Reg r k by) past h = Prim.cc
no-test e past h = ap {A = Bool} {B = Bool} (λ b. not b || all_framed past past) h

silent-fits : (e : Event) (now : ℕ) (xs : List Registration) (cs : List Callback) (past : History) → tells_of_frames e ≡ false → FramesFit xs cs past → FramesFit xs cs (record { time = now; event = e } ∷ past)
silent-fits e now xs cs past h f =
    record {
      waiting = λ r one role. later-accounted (record { time = now; event = e }) cs past r (f.waiting r one role);
      called = λ q c. f.called q (sym (no-call e past q now h) ∙ c);
      none = no-reg e past 0 now h ∙ f.none;
      kept = (no-test e past h, f.kept);
    }

abbrev Silent : Event → Type 0
Silent e = tells_of_frames e ≡ false

added-fits : (now : ℕ) (es : List Event) (xs : List Registration) (cs : List Callback) (past : History) → Each Silent es → FramesFit xs cs past → FramesFit xs cs (added now es past)
added-fits now [] xs cs past h f = f
added-fits now (e ∷ es) xs cs past h f = added-fits now es xs cs (record { time = now; event = e } ∷ past) h.1 (silent-fits e now xs cs past h.0 f)

changed-silent : (current : Context) (names : List (List ℕ)) (n : ℕ) (c : Promises.Change) (s : Notices) → Each Silent (changed current names n c s).lines
changed-silent = changed-each Silent (λ n ok bs. refl) (λ j what. refl)

-- ---- a line between turns

-- lines `rest` at the end of all lines: a registration that they tell has its kind still, and its mark
record Suffix (all rest : History) : Type 0 where
  marks : (r : ℕ) → some_line (is_reg_of r) rest ≡ true → marked rest r ≡ true → marked all r ≡ true
  names : (r : ℕ) → some_line (is_reg_of r) rest ≡ true → kind_of all r ≡ kind_of rest r

reg-apart : (past : History) (q r : ℕ) → some_line (is_reg_of q) past ≡ false → some_line (is_reg_of r) past ≡ true → (q == r) ≡ false
reg-apart past q r h k = by_test (q == r) refl
  where
    by_test : (b : Bool) → (q == r) ≡ b → b ≡ false
    by_test true e = absurd (false_true (sym h ∙ (ap {A = ℕ} {B = Bool} (λ n. some_line (is_reg_of n) past) (eqb-true q r e) ∙ k)))
    by_test false e = refl

not_true : (b : Bool) → not b ≡ true → b ≡ false
not_true true h = sym h
not_true false h = refl

-- one line back, where it does not stand between turns
suffix-back : (all past : History) (e : Stamped) → Kept kinds (e ∷ past) → is_rest e.event ≡ false → Suffix all (e ∷ past) → Suffix all past
suffix-back all past e k h s =
    record {
      marks = λ r there m. s.marks r (on_right (is_reg_of r e.event) (some_line (is_reg_of r) past) there) (by_mark e.event r h there m k.0);
      names = λ r there. s.names r (on_right (is_reg_of r e.event) (some_line (is_reg_of r) past) there) ∙ by_kind e.event r there k.0;
    }
  where
    by_mark : (x : Event) (r : ℕ) → is_rest x ≡ false → some_line (is_reg_of r) past ≡ true → marked past r ≡ true → kinds past (record { time = e.time; event = x }) ≡ true → marked_by r x (marked past r) ≡ true
    by_mark (Frame t) r h there m k = refl
    by_mark (Reg q kind by) r h there m k = ap {A = Bool} {B = Bool} (λ b. cond b false (marked past r)) (reg-apart past q r (not_true (some_line (is_reg_of q) past) k) there) ∙ m
    by_mark x r h there m k = ap {A = Bool} {B = Bool} (λ b. not b && marked past r) h ∙ m

    by_kind : (x : Event) (r : ℕ) → some_line (is_reg_of r) past ≡ true → kinds past (record { time = e.time; event = x }) ≡ true → kind_in r x (kind_of past r) ≡ kind_of past r
    by_kind (Reg q kind by) r there k = ap {A = Bool} {B = Option RegKind} (λ b. cond b (Some kind) (kind_of past r)) (reg-apart past q r (not_true (some_line (is_reg_of q) past) k) there)
    by_kind x r there k = refl

of_frame : (k : RegKind) → is_frame k ≡ true → k ≡ kind.Frame
of_frame kind.Frame h = refl
of_frame k h = Prim.cc

framed_kind : (o : Option RegKind) → is_some_and is_frame o ≡ true → o ≡ Some kind.Frame
framed_kind None h = Prim.cc
framed_kind (Some k) h = ap Some (of_frame k h)

role_by_kind : (role : Role) → kind_in_role role ≡ Some kind.Frame → role ≡ OfKind kind.Frame
role_by_kind ScriptRole h = Prim.cc
role_by_kind (OfKind kind.Frame) h = refl
role_by_kind (OfKind k) h = Prim.cc

one_at_least : (past : History) (r : ℕ) → some_line (is_reg_of 0) past ≡ false → some_line (is_reg_of r) past ≡ true → 1 ≤ r
one_at_least past zero h k = absurd (false_true (sym h ∙ k))
one_at_least past (suc r) h k = omega arith

-- what the lines tell to be for a frame is so by its registration
framed_role : (xs : List Registration) (past : History) (r : ℕ) → KindsFit xs past → 1 ≤ r → has_kind is_frame past r ≡ true → role_at xs r ≡ OfKind kind.Frame
framed_role xs past r f one h = role_by_kind (role_at xs r) (sym (f.tie r one) ∙ framed_kind (kind_of past r) h)

all-filter : (f test : ℕ → Bool) (rs : List ℕ) → ((r : ℕ) → f r ≡ true → test r ≡ true) → list_all test (filter f rs) ≡ true
all-filter f test [] h = refl
all-filter f test (r ∷ rs) h = by_test (f r) refl (all-filter f test rs h)
  where
    by_test : (b : Bool) → f r ≡ b → list_all test (filter f rs) ≡ true → list_all test (cond b (r ∷ filter f rs) (filter f rs)) ≡ true
    by_test true e k = both (test r) (list_all test (filter f rs)) (h r e) k
    by_test false e k = k

-- where no frame is in progress, what was requested before a frame line is done
done_before : (xs : List Registration) (cs : List Callback) (all older : History) → KindsFit xs all → FramesFit xs cs all → ((c : Callback) → IsIn c cs → marked all c.registration ≡ false)
    → ((r : ℕ) → some_line (is_reg_of r) older ≡ true → marked all r ≡ true × kind_of all r ≡ kind_of older r × 1 ≤ r) → (r : ℕ) → has_kind is_frame older r ≡ true → was_done all r ≡ true
done_before xs cs all older names f over old r h =
    let there = some-line older r kind.Frame (framed_kind (kind_of older r) h) in
    let known = old r there in
    by_place known.0 (f.waiting r known.2 (framed_role xs all r names known.2 (ap (is_some_and is_frame) known.1 ∙ h)))
  where
    by_place : marked all r ≡ true → Accounted cs all r → was_done all r ≡ true
    by_place m (inl d) = d
    by_place m (inr w) = absurd (false_true (sym (over w.callback w.there) ∙ (ap {A = ℕ} {B = Bool} (marked all) w.own ∙ m)))

no-zero-back : (past : History) (e : Stamped) → some_line (is_reg_of 0) (e ∷ past) ≡ false → some_line (is_reg_of 0) past ≡ false
no-zero-back past e h = by_test (is_reg_of 0 e.event) h
  where
    by_test : (b : Bool) → b || some_line (is_reg_of 0) past ≡ false → some_line (is_reg_of 0) past ≡ false
    by_test true h = absurd (false_true (sym h))
    by_test false h = h

all_framed-holds : (xs : List Registration) (cs : List Callback) (all : History) → KindsFit xs all → FramesFit xs cs all → ((c : Callback) → IsIn c cs → marked all c.registration ≡ false)
    → (rest : History) → Kept kinds rest → some_line (is_reg_of 0) rest ≡ false → Suffix all rest → all_framed all rest ≡ true
all_framed-holds xs cs all n f over [] k z s = refl
all_framed-holds xs cs all n f over (e ∷ past) k z s =
    by_rest (is_rest e.event) refl (λ h. all_framed-holds xs cs all n f over past k.1 (no-zero-back past e z) (suffix-back all past e k h s))
  where
    by_line : (x : Event) → x ≡ e.event → framed_at x past all ≡ true
    by_line (Frame t) same =
        all-filter (has_kind is_frame past) (was_done all) (registered past)
        (done_before xs cs all past n f over
        (λ r there.
        let told = on_right (is_reg_of r e.event) (some_line (is_reg_of r) past) there in
        let mark = ap {A = Event} {B = Bool} (λ y. marked_by r y (marked past r)) (sym same) in
        let kind_on = ap {A = Event} {B = Option RegKind} (λ y. kind_in r y (kind_of past r)) (sym same) in
        (s.marks r told mark, s.names r told ∙ kind_on, one_at_least past r (no-zero-back past e z) there)))
    by_line x same = refl

    by_rest : (b : Bool) → is_rest e.event ≡ b → (is_rest e.event ≡ false → all_framed all past ≡ true) → cond b true (framed_at e.event past all && all_framed all past) ≡ true
    by_rest true h k = refl
    by_rest false h k = both (framed_at e.event past all) (all_framed all past) (by_line e.event refl) (k h)

rest-call : (e : Event) (past : History) (q now : ℕ) → is_rest e ≡ true → was_called (record { time = now; event = e } ∷ past) q ≡ was_called past q
rest-call (Call r) past q now h = Prim.cc
rest-call e past q now h = refl

rest-reg : (e : Event) (past : History) (q now : ℕ) → is_rest e ≡ true → some_line (is_reg_of q) (record { time = now; event = e } ∷ past) ≡ some_line (is_reg_of q) past
rest-reg (Reg r k by) past q now h = Prim.cc
rest-reg e past q now h = refl

rest-test : (e : Event) (past : History) → is_rest e ≡ true → all_framed past past ≡ true → keeps_frames past e ≡ true
rest-test (Call r) past h k = Prim.cc
rest-test e past h k = on_right (not (is_rest e)) (all_framed past past) k

rest-fits : (e : Event) (p : Page) → is_rest e ≡ true → FrameIsOver p → KindsFit p.registrations p.events → FramesFit p.registrations p.frames.callbacks p.events → FramesFit p.registrations p.frames.callbacks (record { time = p.now; event = e } ∷ p.events)
rest-fits e p h over n f =
    record {
      waiting = λ r one role. later-accounted (record { time = p.now; event = e }) p.frames.callbacks p.events r (f.waiting r one role);
      called = λ q c. f.called q (sym (rest-call e p.events q p.now h) ∙ c);
      none = rest-reg e p.events 0 p.now h ∙ f.none;
      kept = (rest-test e p.events h (all_framed-holds p.registrations p.frames.callbacks p.events n f over p.events n.kept f.none (record { marks = λ r there m. m; names = λ r there. refl })), f.kept);
    }

-- ---- registrations

not_framed : (k : RegKind) (role : Role) → role ≡ OfKind k → is_frame k ≡ false → role ≡ OfKind kind.Frame → ⊥
not_framed k role e h f = false_true (sym h ∙ ap {A = Role} {B = Bool} frames (sym e ∙ f))
  where
    frames : Role → Bool
    frames ScriptRole = false
    frames (OfKind k) = is_frame k

new_role : (xs : List Registration) (x : Registration) → role_at (and_last xs x) (suc (length xs)) ≡ x.role
new_role xs x =
    ap {A = ℕ} {B = Role} (role_at (and_last xs x)) (sym (length-last xs x)) ∙ ap {A = Registration} {B = Role} (λ y. y.role) (numbered-last xs x no_registration)

-- a registration is made; where it is for a frame, it waits
made-fits : (k : RegKind) (by : Option ℕ) (x : Registration) (now : ℕ) (xs : List Registration) (cs cs' : List Callback) (past : History)
    → (x.role ≡ OfKind kind.Frame → WaitsIn (suc (length xs)) cs') → ((c : Callback) → IsIn c cs → IsIn c cs') → ((c : Callback) → IsIn c cs' → IsIn c cs ⊎ (length xs < c.registration))
    → FramesFit xs cs past → FramesFit (and_last xs x) cs' (record { time = now; event = Reg (suc (length xs)) k by } ∷ past)
made-fits k by x now xs cs cs' past fresh stays come f =
    record {
      waiting = λ r one role. by_number r one role (suc (length xs) == r) refl;
      called = λ q c. still q (f.called q c);
      none = not_zero (suc (length xs) == 0) refl;
      kept = (refl, f.kept);
    }
  where
    line : Stamped
    line = record { time = now; event = Reg (suc (length xs)) k by }

    on : (r : ℕ) → Accounted cs past r → Accounted cs' (record { time = now; event = Reg (suc (length xs)) k by } ∷ past) r
    on r (inl d) = inl (done-later (record { time = now; event = Reg (suc (length xs)) k by }) past r d)
    on r (inr w) = inr (record { callback = w.callback; there = stays w.callback w.there; own = w.own })

    by_number : (r : ℕ) → 1 ≤ r → role_at (and_last xs x) r ≡ OfKind kind.Frame → (b : Bool) → (suc (length xs) == r) ≡ b → Accounted cs' (record { time = now; event = Reg (suc (length xs)) k by } ∷ past) r
    by_number r one role true e =
        let same = eqb-true (suc (length xs)) r e in
        inr (subst (λ (n : ℕ). WaitsIn n cs') same (fresh (sym (new_role xs x) ∙ (ap {A = ℕ} {B = Role} (role_at (and_last xs x)) same ∙ role))))
    by_number r one role false e =
        on r (f.waiting r one (sym (ap {A = Registration} {B = Role} (λ y. y.role) (at_number xs x r one (λ same. false_true (sym e ∙ eq-eqb (suc (length xs)) r (sym same))))) ∙ role))

    still : (q : ℕ) → CalledBefore xs cs q → CalledBefore (and_last xs x) cs' q
    still q c =
        record {
          from_one = c.from_one;
          to_last = let a = c.to_last in let b = length-last xs x in omega (arith, a, b);
          order = λ role d i. by_place d (come d i) (sym (ap {A = Registration} {B = Role} (λ y. y.role) (at_number xs x q c.from_one (λ same. let a = c.to_last in absurd (omega (arith, a, same))))) ∙ role);
        }
      where
        by_place : (d : Callback) → IsIn d cs ⊎ (length xs < d.registration) → role_at xs q ≡ OfKind kind.Frame → q < d.registration
        by_place d (inl i) role = c.order role d i
        by_place d (inr n) role = let a = c.to_last in omega (arith, a, n)

    not_zero : (b : Bool) → (suc (length xs) == 0) ≡ b → (suc (length xs) == 0) || some_line (is_reg_of 0) past ≡ false
    not_zero true e = let same = eqb-true (suc (length xs)) 0 e in absurd (omega (arith, same))
    not_zero false e = ap {A = Bool} {B = Bool} (λ b. b || some_line (is_reg_of 0) past) e ∙ f.none

-- one for something else
plain-fits : (k : RegKind) (by : Option ℕ) (x : Registration) (now : ℕ) (xs : List Registration) (cs : List Callback) (past : History) → x.role ≡ OfKind k → is_frame k ≡ false → FramesFit xs cs past → FramesFit (and_last xs x) cs (record { time = now; event = Reg (suc (length xs)) k by } ∷ past)
plain-fits k by x now xs cs past e h f = made-fits k by x now xs cs cs past (λ role. absurd (not_framed k x.role e h role)) (λ c i. i) (λ c i. inl i) f

asked-fits : (by : Option ℕ) (x : Registration) (d : Callback) (now : ℕ) (xs : List Registration) (cs : List Callback) (past : History) → d.registration ≡ suc (length xs) → FramesFit xs cs past → FramesFit (and_last xs x) (and_last cs d) (record { time = now; event = Reg (suc (length xs)) kind.Frame by } ∷ past)
asked-fits by x d now xs cs past e f =
    made-fits kind.Frame by x now xs cs (and_last cs d) past (λ role. record { callback = d; there = is-last d cs; own = e }) (λ c i. in-more c d cs i) (λ c i. by_place c (in-last c d cs i)) f
  where
    by_place : (c : Callback) → IsIn c cs ⊎ (c ≡ d) → IsIn c cs ⊎ (length xs < c.registration)
    by_place c (inl i) = inl i
    by_place c (inr same) = let a = ap {A = Callback} {B = ℕ} (λ y. y.registration) same in inr (omega (arith, a, e))

-- ---- a callback is cancelled or called

-- a callback leaves, with a line that does away with its registration
leaves-fits : (e : Event) (now made last handle : ℕ) (c : Callback) (xs : List Registration) (cs : List Callback) (past : History) → Ascends made last 0 0 cs → IsIn c cs → c.handle ≡ handle
    → was_done (record { time = now; event = e } ∷ past) c.registration ≡ true
    → ((q : ℕ) → was_called (record { time = now; event = e } ∷ past) q ≡ true → CalledBefore xs (without_handle handle cs) q)
    → some_line (is_reg_of 0) (record { time = now; event = e } ∷ past) ≡ some_line (is_reg_of 0) past → keeps_frames past e ≡ true → FramesFit xs cs past
    → FramesFit xs (without_handle handle cs) (record { time = now; event = e } ∷ past)
leaves-fits e now made last handle c xs cs past o i same over calls regs test f =
    record {
      waiting = λ r one role. by_old r (f.waiting r one role);
      called = calls;
      none = regs ∙ f.none;
      kept = (test, f.kept);
    }
  where
    by_wait : (r : ℕ) → WaitsIn r (without_handle handle cs) ⊎ (c.registration ≡ r) → Accounted (without_handle handle cs) (record { time = now; event = e } ∷ past) r
    by_wait r (inl w) = inr w
    by_wait r (inr own) = inl (subst (λ (n : ℕ). was_done (record { time = now; event = e } ∷ past) n ≡ true) own over)

    by_old : (r : ℕ) → Accounted cs past r → Accounted (without_handle handle cs) (record { time = now; event = e } ∷ past) r
    by_old r (inl d) = inl (done-later (record { time = now; event = e }) past r d)
    by_old r (inr w) = by_wait r (waits-on made last handle r c cs o i same w)

-- fewer callbacks wait
fewer-called : (xs : List Registration) (cs : List Callback) (gone : Callback → Bool) (q : ℕ) → CalledBefore xs cs q → CalledBefore xs (without gone cs) q
fewer-called xs cs gone q c = record { from_one = c.from_one; to_last = c.to_last; order = λ role d i. c.order role d (in-without d gone cs i) }

dropped-fits : (now made last handle : ℕ) (c : Callback) (xs : List Registration) (cs : List Callback) (past : History) → Ascends made last 0 0 cs → callback_in cs handle ≡ Some c → FramesFit xs cs past → FramesFit xs (without_handle handle cs) (record { time = now; event = Drop c.registration } ∷ past)
dropped-fits now made last handle c xs cs past o e f =
    let there = found-in handle cs c e in
    leaves-fits (Drop c.registration) now made last handle c xs cs past o there.0 there.1
    (on_right (was_called past c.registration) ((c.registration == c.registration) || was_dropped past c.registration) (on_left (c.registration == c.registration) (was_dropped past c.registration) (eq-eqb c.registration c.registration refl)))
    (λ q h. fewer-called xs cs (λ d. d.handle == handle) q (f.called q h)) refl refl f

-- ---- calls

-- a mark tells of a line: it is that of a frame, or it changes nothing
data MarkedBy (r : ℕ) (b : Bool) (e : Event) : Type 0 where
  at_line : is_frame_line e ≡ true → is_turn e ≡ false → is_reg_of r e ≡ false → MarkedBy r b e
  behind_line : is_frame_line e ≡ false → is_turn e ≡ false → is_reg_of r e ≡ false → b ≡ true → MarkedBy r b e

mark-of : (r : ℕ) (b : Bool) (e : Event) → marked_by r e b ≡ true → MarkedBy r b e
mark-of r b (Frame t) h = at_line refl refl refl
mark-of r b (Reg q k by) h = by_test (q == r) refl h
  where
    by_test : (c : Bool) → (q == r) ≡ c → cond c false b ≡ true → MarkedBy r b (Reg q k by)
    by_test true e h = absurd (false_true h)
    by_test false e h = behind_line refl refl e h
mark-of r b (Turn n source) h = absurd (false_true h)
mark-of r b (Wait t) h = absurd (false_true h)
mark-of r b (Period d) h = absurd (false_true h)
mark-of r b (EndLine end.Done) h = absurd (false_true h)
mark-of r b (EndLine end.Clock) h = absurd (false_true h)
mark-of r b e h = behind_line refl refl refl h

-- the frame line is one of the turn
turn-framed : (past : History) (r : ℕ) → marked past r ≡ true → some_line is_frame_line (this_turn past) ≡ true
turn-framed [] r h = h
turn-framed (e ∷ past) r h = by_mark (mark-of r (marked past r) e.event h) (turn-framed past r)
  where
    goal : Bool → Bool
    goal b = some_line is_frame_line (cond b [] (e ∷ this_turn past))

    by_mark : MarkedBy r (marked past r) e.event → (marked past r ≡ true → some_line is_frame_line (this_turn past) ≡ true) → some_line is_frame_line (cond (is_turn e.event) [] (e ∷ this_turn past)) ≡ true
    by_mark (at_line a b c) rest = ap {A = Bool} {B = Bool} (λ b. some_line is_frame_line (cond b [] (e ∷ this_turn past))) b ∙ on_left (is_frame_line e.event) (some_line is_frame_line (this_turn past)) a
    by_mark (behind_line a b c m) rest = ap {A = Bool} {B = Bool} (λ b. some_line is_frame_line (cond b [] (e ∷ this_turn past))) b ∙ on_right (is_frame_line e.event) (some_line is_frame_line (this_turn past)) (rest m)

-- what is marked was registered before that line
registered-before : (past : History) (r : ℕ) → marked past r ≡ true → some_line (is_reg_of r) past ≡ true → is_reg_before r (before_last is_frame_line past) ≡ true
registered-before [] r h there = absurd (false_true h)
registered-before (e ∷ past) r h there = by_mark (mark-of r (marked past r) e.event h) (registered-before past r)
  where
    by_test : (b : Bool) → is_reg_of r e.event ≡ b → b ≡ false → some_line (is_reg_of r) past ≡ true
    by_test b x y = sym (ap {A = Bool} {B = Bool} (λ b. b || some_line (is_reg_of r) past) (x ∙ y)) ∙ there

    by_mark : MarkedBy r (marked past r) e.event → (marked past r ≡ true → some_line (is_reg_of r) past ≡ true → is_reg_before r (before_last is_frame_line past) ≡ true) → is_reg_before r (cond (is_frame_line e.event) (Some past) (before_last is_frame_line past)) ≡ true
    by_mark (at_line a b c) rest = ap {A = Bool} {B = Bool} (λ b. is_reg_before r (cond b (Some past) (before_last is_frame_line past))) a ∙ by_test (is_reg_of r e.event) refl c
    by_mark (behind_line a b c m) rest = ap {A = Bool} {B = Bool} (λ b. is_reg_before r (cond b (Some past) (before_last is_frame_line past))) a ∙ rest m (by_test (is_reg_of r e.event) refl c)

-- the calls among lines were made
calls-all : (test : ℕ → Bool) (lines : History) → ((q : ℕ) → was_called lines q ≡ true → test q ≡ true) → list_all test (calls_in lines) ≡ true
calls-all test [] h = refl
calls-all test (e ∷ lines) h = by_line e.event (λ q x. h q x) (calls-all test lines (λ q x. h q (on_right (is_call_of q e.event) (was_called lines q) x)))
  where
    by_line : (x : Event) → ((q : ℕ) → is_call_of q x || was_called lines q ≡ true → test q ≡ true) → list_all test (calls_in lines) ≡ true → list_all test (called_in x (calls_in lines)) ≡ true
    by_line (Call q) k rest = both (test q) (list_all test (calls_in lines)) (k q (on_left (q == q) (was_called lines q) (eq-eqb q q refl))) rest
    by_line x k rest = rest

-- what was called in the turn was called
turn-called : (past : History) (q : ℕ) → was_called (this_turn past) q ≡ true → was_called past q ≡ true
turn-called [] q h = h
turn-called (e ∷ past) q h = by_test (is_turn e.event) h (turn-called past q)
  where
    by_rest : (was_called (this_turn past) q ≡ true → was_called past q ≡ true) → (is_call_of q e.event ≡ true) ⊎ (was_called (this_turn past) q ≡ true) → is_call_of q e.event || was_called past q ≡ true
    by_rest rest (inl a) = on_left (is_call_of q e.event) (was_called past q) a
    by_rest rest (inr a) = on_right (is_call_of q e.event) (was_called past q) (rest a)

    by_test : (b : Bool) → was_called (cond b [] (e ∷ this_turn past)) q ≡ true → (was_called (this_turn past) q ≡ true → was_called past q ≡ true) → is_call_of q e.event || was_called past q ≡ true
    by_test true h rest = absurd (false_true h)
    by_test false h rest = by_rest rest (one_of_two (is_call_of q e.event) (was_called (this_turn past) q) h)

-- a frame callback that is drawn next may be drawn
drawn-test : (key : ℕ) (c : Callback) (p : Page) → IsDrawnNext key c p → IsFor (OfKind kind.Frame) (made_by p) c.registration → KindsFit p.registrations p.events → FramesFit p.registrations p.frames.callbacks p.events → may_be_drawn p.events c.registration ≡ true
drawn-test key c p w i n f =
    both (some_line is_frame_line (this_turn p.events) && is_reg_before c.registration (before_last is_frame_line p.events)) _
    (both (some_line is_frame_line (this_turn p.events)) (is_reg_before c.registration (before_last is_frame_line p.events)) (turn-framed p.events c.registration w.2)
    (registered-before p.events c.registration w.2 (some-line p.events c.registration kind.Frame (n.tie c.registration i.registration.from_one ∙ ap kind_in_role i.role))))
    (calls-all _ (this_turn p.events) (λ q h. in_order q (f.called q (turn-called p.events q h))))
  where
    in_order : (q : ℕ) → CalledBefore p.registrations p.frames.callbacks q → not (has_kind is_frame p.events q) || nat_lt q c.registration ≡ true
    in_order q b = by_kind (has_kind is_frame p.events q) refl
      where
        by_kind : (b : Bool) → has_kind is_frame p.events q ≡ b → not b || nat_lt q c.registration ≡ true
        by_kind true e = lt-ltb q c.registration (b.order (framed_role p.registrations p.events q n b.from_one e) c (found-in key p.frames.callbacks c w.0).0)
        by_kind false e = refl

-- a call of what is for no frame
unframed-call : (past : History) (role : Role) (r : ℕ) → kind_of past r ≡ kind_in_role role → (role ≡ OfKind kind.Frame → ⊥) → keeps_frames past (Call r) ≡ true
unframed-call past role r e other = ap {A = Option RegKind} {B = Bool} (λ o. not (is_some_and is_frame o) || may_be_drawn past r) e ∙ by_role role other
  where
    by_kind : (k : RegKind) → (OfKind k ≡ OfKind kind.Frame → ⊥) → not (is_frame k) || may_be_drawn past r ≡ true
    by_kind kind.Frame h = absurd (h refl)
    by_kind k h = refl

    by_role : (role : Role) → (role ≡ OfKind kind.Frame → ⊥) → not (is_some_and is_frame (kind_in_role role)) || may_be_drawn past r ≡ true
    by_role ScriptRole h = refl
    by_role (OfKind k) h = by_kind k h

-- what is called, where those that wait are later if it is for a frame
now-called : (r : ℕ) (now : ℕ) (xs : List Registration) (cs : List Callback) (past : History) → CalledBefore xs cs r → ((q : ℕ) → was_called past q ≡ true → CalledBefore xs cs q) → (q : ℕ) → was_called (record { time = now; event = Call r } ∷ past) q ≡ true → CalledBefore xs cs q
now-called r now xs cs past own calls q h = by_two (one_of_two (r == q) (was_called past q) h)
  where
    by_two : ((r == q) ≡ true) ⊎ (was_called past q ≡ true) → CalledBefore xs cs q
    by_two (inl e) = subst (CalledBefore xs cs) (eqb-true r q e) own
    by_two (inr e) = calls q e

call-fits : (r now : ℕ) (role : Role) (p : Page) (past : History) → IsFor role (made_by p) r → (role ≡ OfKind kind.Frame → ⊥) → kind_of past r ≡ kind_of p.events r → KindsFit p.registrations p.events
    → FramesFit p.registrations p.frames.callbacks past → FramesFit p.registrations p.frames.callbacks (record { time = now; event = Call r } ∷ past)
call-fits r now role p past i other same n f =
    record {
      waiting = λ q one framed. later-accounted (record { time = now; event = Call r }) p.frames.callbacks past q (f.waiting q one framed);
      called = now-called r now p.registrations p.frames.callbacks past (record { from_one = i.registration.from_one; to_last = i.registration.to_last; order = λ framed. absurd (other (sym i.role ∙ framed)) }) f.called;
      none = f.none;
      kept = (unframed-call past role r (same ∙ (n.tie r i.registration.from_one ∙ ap kind_in_role i.role)) other, f.kept);
    }

drawn-fits : (key : ℕ) (c : Callback) (p : Page) → Ordered p → IsDrawnNext key c p → IsFor (OfKind kind.Frame) (made_by p) c.registration → KindsFit p.registrations p.events → FramesFit p.registrations p.frames.callbacks p.events
    → FramesFit p.registrations (without_handle c.handle p.frames.callbacks) (record { time = p.now; event = Call c.registration } ∷ p.events)
drawn-fits key c p o w i n f =
    let there = (found-in key p.frames.callbacks c w.0).0 in
    leaves-fits (Call c.registration) p.now p.frames.made (length p.registrations) c.handle c p.registrations p.frames.callbacks p.events o there refl
    (on_left ((c.registration == c.registration) || was_called p.events c.registration) (was_dropped p.events c.registration) (on_left (c.registration == c.registration) (was_called p.events c.registration) (eq-eqb c.registration c.registration refl)))
    (now-called c.registration p.now p.registrations (without_handle c.handle p.frames.callbacks) p.events
    (record {
      from_one = i.registration.from_one;
      to_last = i.registration.to_last;
      order = λ role d j.
          let k = in-without d (λ x. x.handle == c.handle) p.frames.callbacks j in
          apart p.frames.made (length p.registrations) 0 0 c d p.frames.callbacks o there k (in-without-stays d (λ x. x.handle == c.handle) p.frames.callbacks j) (w.1 d k);
    })
    (λ q h. fewer-called p.registrations p.frames.callbacks (λ d. d.handle == c.handle) q (f.called q h))) refl
    (ap {A = Bool} {B = Bool} (λ b. not (has_kind is_frame p.events c.registration) || b) (drawn-test key c p w i n f) ∙ on_right (not (has_kind is_frame p.events c.registration)) true refl) f

-- ---- moves

abbrev FitsBy : List Registration → Frames → History → Type 0
FitsBy xs fr past = FramesFit xs fr.callbacks past

abbrev Fits : Page → Type 0
Fits p = FitsBy p.registrations p.frames p.events

before-fits : {p q : Page} → AsBefore p q → Fits p → Fits q
before-fits {p = p} {q = q} b f =
    subst (λ (fr : Frames). FitsBy q.registrations fr q.events) (sym b.frames)
    (subst (λ (xs : List Registration). FitsBy xs p.frames q.events) (sym b.registrations) (subst (FitsBy p.registrations p.frames) (sym b.events) f))

emit_each-frames : (es : List Event) (p : Page) → (emit_each es p).frames ≡ p.frames
emit_each-frames [] p = refl
emit_each-frames (e ∷ es) p = emit_each-frames es (emit e p)

emit_each-registrations : (es : List Event) (p : Page) → (emit_each es p).registrations ≡ p.registrations
emit_each-registrations [] p = refl
emit_each-registrations (e ∷ es) p = emit_each-registrations es (emit e p)

said : (e : Event) (p : Page) → tells_of_frames e ≡ false → Fits p → Fits (emit e p)
said e p h f = silent-fits e p.now p.registrations p.frames.callbacks p.events h f

notices-fit : (f : Notices → Noticed) (p : Page) → Each Silent (f p.notices).lines → Fits p → Fits (on_notices f p)
notices-fit f p h k =
    let q : Page = record p { notices = (f p.notices).notices } in
    let lines = (f p.notices).lines in
    subst (λ (fr : Frames). FitsBy (emit_each lines q).registrations fr (emit_each lines q).events) (sym (emit_each-frames lines q))
    (subst (λ (xs : List Registration). FitsBy xs p.frames (emit_each lines q).events) (sym (emit_each-registrations lines q))
    (subst (FitsBy p.registrations p.frames) (sym (emit_each-events lines q)) (added-fits p.now lines p.registrations p.frames.callbacks p.events h k)))

changes-fit : (n : ℕ) (c : Promises.Change) (p : Page) → Fits p → Fits (promise_changes n c p)
changes-fit n c p f = notices-fit (λ s. changed (context p) p.names n c s) p (changed-silent (context p) p.names n c p.notices) f

subscribed-fits : (n : ℕ) (r : Reaction) (p : Page) → Fits p → Fits (on_notices (subscribe_promise (context p) n r) p)
subscribed-fits n r p f =
    notices-fit (subscribe_promise (context p) n r) p
    (changed-silent (context p) [] n (Promises.subscribe n (the_promise p.notices.promises n) r) (record p.notices { rejected = without (λ m. m == n) p.notices.rejected; outstanding = without (λ m. m == n) p.notices.outstanding })) f

registered-fits : (k : RegKind) (x : Registration) (p : Page) → x.role ≡ OfKind k → is_frame k ≡ false → Fits p → Fits (register_as k x p)
registered-fits k x p e h f = plain-fits k (caller p) x p.now p.registrations p.frames.callbacks p.events e h f

-- what the scheduler serves is no frame
unframed_sched : (k : RegKind) → is_scheduled k ≡ true → is_frame k ≡ false
unframed_sched kind.Frame h = absurd (false_true h)
unframed_sched k h = refl

change-fits : {p q : Page} → PageChange p q → Ordered p → KindsFit p.registrations p.events → Fits p → Fits q
change-fits (elsewhere c b k) o n f = before-fits b f
change-fits {p = p} (told e h) o n f = said e p (aside-silent e h) f
change-fits {p = p} (arm_told r due level w well) o n f = said (Arm r due level) p refl f
change-fits {p = p} (rested e h x y z over begun done) o n f = rest-fits e p h over n f
change-fits {p = p} (answered source task t answer x y live z b) o n f = before-fits b (said (Host t.closure t.number answer) p refl f)
change-fits {p = p} (made_one k x e unframed u b at) o n f = before-fits b (registered-fits k x p e unframed f)
change-fits {p = p} (enqueued_anew k x t queue e i s next b) o n f =
    before-fits b (said (Enq t.registration queue t.continuation t.order) (register_as k x p) refl (registered-fits k x p e (unframed_sched k next.2) f))
change-fits {p = p} (fell_due r d b by) o n f = before-fits b (said (Due r) p refl f)
change-fits {p = p} (post_fell_due start source t queue e role a s next b by) o n f =
    before-fits b (said (Enq t.registration queue t.continuation t.order) (emit (Due t.registration) p) refl (said (Due t.registration) p refl f))
change-fits {p = p} (dropped r d b) o n f = before-fits b (said (Drop r) p refl f)
change-fits {p = p} (frame_dropped handle c e role) o n f = dropped-fits p.now p.frames.made (length p.registrations) handle c p.registrations p.frames.callbacks p.events o e f
change-fits {p = p} (task_dropped r role a e s b) o n f = before-fits b (said (Drop r) p refl f)
change-fits {p = p} (prio_told s priority ps c) o n f = said (Prio s priority) p refl f
change-fits {p = p} (frame_asked g) o n f =
    let x : Registration = record { role = OfKind kind.Frame; callback = Some g; second_callback = None; timer_id = 0; promise = 0; signal = None; finally = false } in
    asked-fits (caller p) x (record { handle = suc p.frames.made; registration = length (and_last p.registrations x) }) p.now p.registrations p.frames.callbacks p.events (length-last p.registrations x) f
change-fits promised o n f = f
change-fits {p = p} (settled k how x y) o n f = changes-fit k (Promises.settle k (the_promise p.notices.promises k) how) p f
change-fits {p = p} (followed k how x y) o n f = changes-fit k (Promises.settle k (the_promise p.notices.promises k) how) p f
change-fits {p = p} (adopted k from x y) o n f = changes-fit k (Promises.adopt k (the_promise p.notices.promises k) from) p f
change-fits {p = p} (subscribed k r x y) o n f = subscribed-fits k r p f
change-fits {p = p} (then_asked k x r e g y) o n f = subscribed-fits k r (register_as kind.Then x p) (registered-fits kind.Then x p e refl f)
change-fits {p = p} (micro_asked x r e y) o n f = notices-fit (queue_micro (context p) r) (register_as kind.Micro x p) (refl, tt) (registered-fits kind.Micro x p e refl f)
change-fits rejected_taken o n f = f
change-fits (noted k) o n f = f

-- a role of a timer is for no frame
no_timer : (b : Bool) → timer_role b ≡ OfKind kind.Frame → ⊥
no_timer true e = not_framed kind.Interval (OfKind kind.Interval) refl refl e
no_timer false e = not_framed kind.Timeout (OfKind kind.Timeout) refl refl e

no_script : ScriptRole ≡ OfKind kind.Frame → ⊥
no_script e = Prim.cc

other_kind : (k : RegKind) → is_frame k ≡ false → OfKind k ≡ OfKind kind.Frame → ⊥
other_kind k h e = not_framed k (OfKind k) refl h e

begins-fit : (b : Beginning) (p : Page) → Waited b p → IsFor (role_of b) (made_by p) (called_by b) → Ordered p → KindsFit p.registrations p.events → Fits p → Fits (call_begun (called_by b) (taken b p))
begins-fit (TheScript source task) p w i o n f = call-fits 1 p.now ScriptRole p p.events i no_script refl n f
begins-fit (ATimer source task t) p w i o n f = call-fits t.registration p.now (timer_role t.repeats) p p.events i (no_timer t.repeats) refl n f
begins-fit (AFrame key c) p w i o n f = drawn-fits key c p o w i n f
begins-fit (AnIdle c others) p w i o n f =
    call-fits c.registration p.now (OfKind kind.Idle) p (record { time = p.now; event = IdleLine (deadline p.last_idle_start p) } ∷ p.events) i (other_kind kind.Idle refl) refl n (said (IdleLine (deadline p.last_idle_start p)) p refl f)
begins-fit (ALateIdle handle c) p w i o n f = call-fits c.registration p.now (OfKind kind.Idle) p p.events i (other_kind kind.Idle refl) refl n f
begins-fit (AListener r) p w i o n f = call-fits r p.now (OfKind kind.Listener) p p.events i (other_kind kind.Listener refl) refl n f
begins-fit (APost t) p w i o n f =
    call-fits t.registration p.now (OfKind kind.Post) p (record { time = p.now; event = Turn p.turns (Some Sched) } ∷ p.events) i (other_kind kind.Post refl) refl n (rest-fits (Turn p.turns (Some Sched)) p refl w.4 n f)
begins-fit (AContinuation t) p w i o n f =
    call-fits t.registration p.now (OfKind kind.Yield) p (record { time = p.now; event = Turn p.turns (Some Sched) } ∷ p.events) i (other_kind kind.Yield refl) refl n (rest-fits (Turn p.turns (Some Sched)) p refl w.4 n f)
begins-fit (AMicro job others r) p w i o n f =
    call-fits r p.now (OfKind kind.Micro) p (record { time = p.now; event = Run job.number } ∷ p.events) i (other_kind kind.Micro refl) refl n (said (Run job.number) p refl f)
begins-fit (AReaction job others of x r) p w i o n f =
    call-fits r p.now (OfKind kind.Then) p (record { time = p.now; event = Run job.number } ∷ p.events) i (other_kind kind.Then refl) refl n (said (Run job.number) p refl f)

moves-fit : {p q : Page} → Moves p q → Ordered p → once.Fits p → Fits p → Fits q
moves-fit here o x f = f
moves-fit (changing a c plain) o x f = change-fits c (moves-ordered a o) (once.moves-fit a x).kinds (moves-fit a o x f)
moves-fit (arming a c e w) o x f =
    let order = moves-ordered a o in
    let there = once.moves-fit a x in
    change-fits e ((change-kept c).ordered order) (once.change-fits c there).kinds (change-fits c order there.kinds (moves-fit a o x f))
moves-fit (calling {q = q} a b w i) o x f = begins-fit b q w i (moves-ordered a o) (once.moves-fit a x).kinds (moves-fit a o x f)
moves-fit (ending {q = q} a e h) o x f = said e q (end-silent e h) (moves-fit a o x f)
moves-fit (flagging {q = q} {r = r} a x y z w u v t j) o k f =
    subst (λ (fr : Frames). FitsBy r.registrations fr r.events) (sym w)
    (subst (λ (xs : List Registration). FitsBy xs q.frames r.events) (sym z) (subst (FitsBy q.registrations q.frames) (sym y) (moves-fit a o k f)))
moves-fit (running {q = q} a j others x y nm) o k f = said (Run j.number) q refl (moves-fit a o k f)
moves-fit (framing {q = q} a t) o x f = said (Frame t) q refl (moves-fit a o x f)
moves-fit (idling a none) o x f = moves-fit a o x f

first-frames : (program : Program) (setup : Setup) (hosts : List HostClosure) → Fits (first_page program setup hosts)
first-frames program setup hosts =
    record {
      waiting = λ r one role. absurd (none r one role);
      called = λ q h. absurd (false_true h);
      none = refl;
      kept = tt;
    }
  where
    none : (r : ℕ) → 1 ≤ r → role_at (first_page program setup hosts).registrations r ≡ OfKind kind.Frame → ⊥
    none zero one e = absurd (omega (arith, one))
    none (suc zero) one e = no_script e
    none (suc (suc i)) one e = no_script e

-- from a first page on, frame callbacks go in order
pub frames_in_order : (program : Program) (setup : Setup) (hosts : List HostClosure) {q : Page} → Moves (first_page program setup hosts) q → Kept framing_test q.events
frames_in_order program setup hosts a = (moves-fit a tt (once.first_fits program setup hosts) (first-frames program setup hosts)).kept

-- and each was called or dropped, where none waits
pub frames_over : (program : Program) (setup : Setup) (hosts : List HostClosure) {q : Page} → Moves (first_page program setup hosts) q → is_empty q.frames.callbacks ≡ true → list_all (was_done q.events) (registered_for is_frame q.events) ≡ true
frames_over program setup hosts {q = q} a h = all-filter (has_kind is_frame q.events) (was_done q.events) (registered q.events) each
  where
    f : Fits q
    f = moves-fit a tt (once.first_fits program setup hosts) (first-frames program setup hosts)

    none : (cs : List Callback) → is_empty cs ≡ true → (c : Callback) → IsIn c cs → ⊥
    none [] e c i = i
    none (d ∷ cs) e c i = false_true e

    by_place : (r : ℕ) → Accounted q.frames.callbacks q.events r → was_done q.events r ≡ true
    by_place r (inl d) = d
    by_place r (inr w) = absurd (none q.frames.callbacks h w.callback w.there)

    each : (r : ℕ) → has_kind is_frame q.events r ≡ true → was_done q.events r ≡ true
    each r is =
        let one = one_at_least q.events r f.none (some-line q.events r kind.Frame (framed_kind (kind_of q.events r) is)) in
        by_place r (f.waiting r one (framed_role q.registrations q.events r (once.moves-fit a (once.first_fits program setup hosts)).kinds one is))
