-- What each change and each call does to the frame callbacks that wait: those that stay keep their mark, and those that come are new.
use Rattle.std.proofs.Common.{◌≡◌, ◌⊎◌, inl, inr, ℕ, suc, ◌≤◌, ◌<◌, Bool, true, false, not, ◌&&◌, List, [], ◌∷◌, Some, None, refl, sym, subst, ap, ◌∙◌, cond, length, arith, eqb-true}
use Rattle.std.specs.Prelude.{◌==◌, if◌then◌else◌}
use Rattle.std.proofs.lemmas.Bool.{eq-eqb}
use Rattle.page_types.specs.declared.RegKind.{RegKind}
use Rattle.page_types.specs.declared.RegKind.TheVariants as kind
use Rattle.page_types.specs.declared.End.TheVariants as end
use Rattle.page_types.specs.Events.{Event, Ret, Throw, Turn, Wait, Period, EndLine, Frame, Reg}
use Rattle.page_parts.specs.Frames.{Callback, Frames, request, cancel}
use Rattle.page_parts.specs.Words.{and_last, without}
use Rattle.page_parts.specs.Promises.{Reaction}
use Rattle.page_parts.specs.Promises as Promises
use Rattle.page_parts.specs.Notices.{Notices, Noticed, changed, subscribe_promise, queue_micro, Context}
use Rattle.page_parts.specs.Promises.{the_promise}
use Rattle.page_model.specs.State.{Page, Registration, emit, emit_each, on_notices, context}
use Rattle.page_model.specs.Invoke.{register_as, call_begun, call_ended}
use Rattle.page_model.specs.Numbers.{Each}
use Rattle.page_model.proofs.GivenNumbers.Growing.{length-last}
use Rattle.page_laws.specs.History.{History, is_rest}
use Rattle.page_laws.specs.Moves.{is_aside, is_end, marked, marked_by, IsIn, FrameIsOver, promise_changes, AsBefore, PageChange, elsewhere, told, arm_told, rested, registered, promised, settled, followed, adopted, subscribed, micro_asked, then_asked, answered, dropped, frame_dropped, frame_asked, rejected_taken, noted, Changes, nothing, with_change, with_arm, Beginning, TheScript, ATimer, AFrame, AnIdle, ALateIdle, AListener, APost, AContinuation, AMicro, AReaction, called_by, taken, Waited, task_dropped, enqueued_anew, fell_due, post_fell_due, prio_told, Moves, here, changing, arming, calling, ending, flagging, running, framing, idling}
use Rattle.page_laws.proofs.Lines.{changed-each, added, emit_each-events}

-- ---- lists of callbacks

-- the handles rise above one and are at most the last one, and so are the registrations
abbrev pub Ascends : (made last handle r : ℕ) → List Callback → Type 0
Ascends made last handle r [] = Unit {0}
Ascends made last handle r (c ∷ cs) = (handle < c.handle) × (r < c.registration) × (c.handle ≤ made) × (c.registration ≤ last) × Ascends made last c.handle c.registration cs

-- those of a page do
abbrev pub Ordered : Page → Type 0
Ordered p = Ascends p.frames.made (length p.registrations) 0 0 p.frames.callbacks

ascends-more : (made last made' last' handle r : ℕ) → made ≤ made' → last ≤ last' → (cs : List Callback) → Ascends made last handle r cs → Ascends made' last' handle r cs
ascends-more made last made' last' handle r x y [] h = tt
ascends-more made last made' last' handle r x y (c ∷ cs) h =
    let a = h.2 in
    let b = h.3 in (h.0, h.1, omega (arith, x, a), omega (arith, y, b), ascends-more made last made' last' c.handle c.registration x y cs h.4)

ascends-lower : (made last handle r handle' r' : ℕ) → handle' ≤ handle → r' ≤ r → (cs : List Callback) → Ascends made last handle r cs → Ascends made last handle' r' cs
ascends-lower made last handle r handle' r' x y [] h = tt
ascends-lower made last handle r handle' r' x y (c ∷ cs) h =
    let a = h.0 in
    let b = h.1 in (omega (arith, x, a), omega (arith, y, b), h.2, h.3, h.4)

ascends-without : (made last handle r : ℕ) (gone : Callback → Bool) (cs : List Callback) → Ascends made last handle r cs → Ascends made last handle r (without gone cs)
ascends-without made last handle r gone [] h = tt
ascends-without made last handle r gone (c ∷ cs) h = by_test (gone c) (ascends-without made last c.handle c.registration gone cs h.4)
  where
    by_test : (b : Bool) → Ascends made last c.handle c.registration (without gone cs) → Ascends made last handle r (cond b (without gone cs) (c ∷ without gone cs))
    by_test true k =
        let a = h.0 in
        let b = h.1 in
        ascends-lower made last c.handle c.registration handle r (omega (arith, a)) (omega (arith, b)) (without gone cs) k
    by_test false k = (h.0, h.1, h.2, h.3, k)

ascends-last : (made last handle r : ℕ) → handle ≤ made → r ≤ last → (cs : List Callback) → Ascends made last handle r cs → Ascends (suc made) (suc last) handle r (and_last cs (record { handle = suc made; registration = suc last }))
ascends-last made last handle r x y [] h = (omega (arith, x), omega (arith, y), omega arith, omega arith, tt)
ascends-last made last handle r x y (c ∷ cs) h =
    let a = h.2 in
    let b = h.3 in (h.0, h.1, omega (arith, a), omega (arith, b), ascends-last made last c.handle c.registration a b cs h.4)

-- where one of them stands
pub ascends-in : (made last handle r : ℕ) (c : Callback) (cs : List Callback) → Ascends made last handle r cs → IsIn c cs → (handle < c.handle) × (r < c.registration) × (c.handle ≤ made) × (c.registration ≤ last)
ascends-in made last handle r c [] h i = elim i [ ]
ascends-in made last handle r c (d ∷ cs) h (inl e) = subst (λ (x : Callback). (handle < x.handle) × (r < x.registration) × (x.handle ≤ made) × (x.registration ≤ last)) (sym e) (h.0, h.1, h.2, h.3)
ascends-in made last handle r c (d ∷ cs) h (inr i) =
    let rest = ascends-in made last d.handle d.registration c cs h.4 i in
    let a = h.0 in
    let b = h.1 in
    let e = rest.0 in
    let f = rest.1 in (omega (arith, a, e), omega (arith, b, f), rest.2, rest.3)

-- registrations rise as the handles do
pub ascends-both : (made last handle r : ℕ) (c d : Callback) (cs : List Callback) → Ascends made last handle r cs → IsIn c cs → IsIn d cs → c.handle ≤ d.handle → c.registration ≤ d.registration
ascends-both made last handle r c d [] h i j le = elim i [ ]
ascends-both made last handle r c d (x ∷ cs) h (inl e) (inl f) le = subst (λ (y : Callback). y.registration ≤ d.registration) (sym e) (subst (λ (y : Callback). x.registration ≤ y.registration) (sym f) (omega arith))
ascends-both made last handle r c d (x ∷ cs) h (inl e) (inr j) le =
    let rest = ascends-in made last x.handle x.registration d cs h.4 j in
    let b = rest.1 in
    subst (λ (y : Callback). y.registration ≤ d.registration) (sym e) (omega (arith, b))
ascends-both made last handle r c d (x ∷ cs) h (inr i) (inl f) le =
    let rest = ascends-in made last x.handle x.registration c cs h.4 i in
    let a = rest.0 in
    let same : d.handle ≡ x.handle = ap {A = Callback} {B = ℕ} (λ y. y.handle) f in
    absurd (omega (arith, a, same, le))
ascends-both made last handle r c d (x ∷ cs) h (inr i) (inr j) le = ascends-both made last x.handle x.registration c d cs h.4 i j le

pub in-without : (c : Callback) (gone : Callback → Bool) (cs : List Callback) → IsIn c (without gone cs) → IsIn c cs
in-without c gone [] i = i
in-without c gone (d ∷ cs) i = by_test (gone d) i (in-without c gone cs)
  where
    by_test : (b : Bool) → IsIn c (cond b (without gone cs) (d ∷ without gone cs)) → (IsIn c (without gone cs) → IsIn c cs) → IsIn c (d ∷ cs)
    by_test true i rest = inr (rest i)
    by_test false (inl e) rest = inl e
    by_test false (inr i) rest = inr (rest i)

-- what left a list is not in it
pub in-without-stays : (c : Callback) (gone : Callback → Bool) (cs : List Callback) → IsIn c (without gone cs) → gone c ≡ false
in-without-stays c gone [] i = elim i [ ]
in-without-stays c gone (d ∷ cs) i = by_test (gone d) refl i (in-without-stays c gone cs)
  where
    by_test : (b : Bool) → gone d ≡ b → IsIn c (cond b (without gone cs) (d ∷ without gone cs)) → (IsIn c (without gone cs) → gone c ≡ false) → gone c ≡ false
    by_test true e i rest = rest i
    by_test false e (inl f) rest = ap gone f ∙ e
    by_test false e (inr i) rest = rest i

in-last : (c d : Callback) (cs : List Callback) → IsIn c (and_last cs d) → IsIn c cs ⊎ (c ≡ d)
in-last c d [] (inl e) = inr e
in-last c d [] (inr i) = elim i [ ]
in-last c d (x ∷ cs) (inl e) = inl (inl e)
in-last c d (x ∷ cs) (inr i) = by_rest (in-last c d cs i)
  where
    by_rest : IsIn c cs ⊎ (c ≡ d) → IsIn c (x ∷ cs) ⊎ (c ≡ d)
    by_rest (inl j) = inl (inr j)
    by_rest (inr e) = inr e

-- ---- what stays in a page

pub false_true : false ≡ true → ⊥
false_true h = Prim.cc

-- a callback that waits in q waited in p, and keeps its mark; or it came after p, and is not marked
abbrev pub Stayed : (p q : Page) → Callback → Type 0
Stayed p q c = IsIn c p.frames.callbacks × (marked q.events c.registration ≡ marked p.events c.registration)

abbrev pub CameAfter : (p q : Page) → Callback → Type 0
CameAfter p q c = (p.frames.made < c.handle) × (length p.registrations < c.registration) × (marked q.events c.registration ≡ false)

pub record FramesKept (p q : Page) : Type 0 where
  pub made : p.frames.made ≤ q.frames.made
  pub grows : length p.registrations ≤ length q.registrations
  pub each : Ordered p → (c : Callback) → IsIn c q.frames.callbacks → Stayed p q c ⊎ CameAfter p q c
  pub ordered : Ordered p → Ordered q

pub kept-then : (a b c : Page) → FramesKept a b → FramesKept b c → FramesKept a c
kept-then a b c x y =
    record {
      made = let m = x.made in let n = y.made in omega (arith, m, n);
      grows = let m = x.grows in let n = y.grows in omega (arith, m, n);
      each = λ o d i. by_last o d (y.each (x.ordered o) d i);
      ordered = λ o. y.ordered (x.ordered o);
    }
  where
    by_first : (d : Callback) → marked c.events d.registration ≡ marked b.events d.registration → Stayed a b d ⊎ CameAfter a b d → Stayed a c d ⊎ CameAfter a c d
    by_first d e (inl s) = inl (s.0, e ∙ s.1)
    by_first d e (inr n) = inr (n.0, n.1, e ∙ n.2)

    by_last : Ordered a → (d : Callback) → Stayed b c d ⊎ CameAfter b c d → Stayed a c d ⊎ CameAfter a c d
    by_last o d (inl s) = by_first d s.1 (x.each o d s.0)
    by_last o d (inr n) =
        let m = x.made in
        let g = x.grows in
        let u = n.0 in
        let v = n.1 in
        inr (omega (arith, m, u), omega (arith, g, v), n.2)

-- ---- single steps

-- what a step does: nothing to frame callbacks and marks; a line between turns, where no frame is in progress; a registration is made; a
-- frame callback is registered and requested; one leaves the map
pub data FrameStep (p q : Page) : Type 0 where
  quiet : q.frames ≡ p.frames → length q.registrations ≡ length p.registrations → ((r : ℕ) → marked q.events r ≡ marked p.events r) → FrameStep p q
  resting : q.frames ≡ p.frames → length q.registrations ≡ length p.registrations → FrameIsOver p → ((r : ℕ) → marked q.events r ≡ false) → FrameStep p q
  making : q.frames ≡ p.frames → length q.registrations ≡ suc (length p.registrations) → ((r : ℕ) → marked q.events r ≡ (if suc (length p.registrations) == r then false else marked p.events r)) → FrameStep p q
  asking : q.frames ≡ request (suc (length p.registrations)) p.frames → length q.registrations ≡ suc (length p.registrations)
      → ((r : ℕ) → marked q.events r ≡ (if suc (length p.registrations) == r then false else marked p.events r)) → FrameStep p q
  leaving : (handle : ℕ) → q.frames ≡ cancel handle p.frames → length q.registrations ≡ length p.registrations → ((r : ℕ) → marked q.events r ≡ marked p.events r) → FrameStep p q

-- a page whose frames and registrations are known
ordered_by : (q : Page) (fr : Frames) (n : ℕ) → q.frames ≡ fr → length q.registrations ≡ n → Ascends fr.made n 0 0 fr.callbacks → Ordered q
ordered_by q fr n e f h =
    subst (λ (x : Frames). Ascends x.made (length q.registrations) 0 0 x.callbacks) (sym e) (subst (λ (k : ℕ). Ascends fr.made k 0 0 fr.callbacks) (sym f) h)

in_frames : (c : Callback) (a b : Frames) → a ≡ b → IsIn c a.callbacks → IsIn c b.callbacks
in_frames c a b e i = subst (λ (x : Frames). IsIn c x.callbacks) e i

-- a number that is not the next one
not_next : (n r : ℕ) (past : Bool) → r ≤ n → (if suc n == r then false else past) ≡ past
not_next n r past le = by_test (suc n == r) refl
  where
    by_test : (b : Bool) → (suc n == r) ≡ b → (if b then false else past) ≡ past
    by_test true e = let same = eqb-true (suc n) r e in absurd (omega (arith, le, same))
    by_test false e = refl

is_next : (n r : ℕ) (past : Bool) → r ≡ suc n → (if suc n == r then false else past) ≡ false
is_next n r past e = ap {A = Bool} {B = Bool} (λ b. if b then false else past) (eq-eqb (suc n) r (sym e))

made_as : (p q : Page) (fr : Frames) → q.frames ≡ fr → fr.made ≡ p.frames.made → p.frames.made ≤ q.frames.made
made_as p q fr e f = let g = ap {A = Frames} {B = ℕ} (λ x. x.made) e in omega (arith, f, g)

pub step-kept : {p q : Page} → FrameStep p q → FramesKept p q
step-kept {p = p} {q = q} (quiet e f m) =
    record {
      made = made_as p q p.frames e refl;
      grows = omega (arith, f);
      each = λ o c i. inl (in_frames c q.frames p.frames e i, m c.registration);
      ordered = λ o. ordered_by q p.frames (length p.registrations) e f o;
    }
step-kept {p = p} {q = q} (resting e f over m) =
    record {
      made = made_as p q p.frames e refl;
      grows = omega (arith, f);
      each = λ o c i. let j = in_frames c q.frames p.frames e i in inl (j, m c.registration ∙ sym (over c j));
      ordered = λ o. ordered_by q p.frames (length p.registrations) e f o;
    }
step-kept {p = p} {q = q} (making e f m) =
    record {
      made = made_as p q p.frames e refl;
      grows = omega (arith, f);
      each = λ o c i.
          let j = in_frames c q.frames p.frames e i in
          inl (j, m c.registration ∙ not_next (length p.registrations) c.registration (marked p.events c.registration) (ascends-in p.frames.made (length p.registrations) 0 0 c p.frames.callbacks o j).3);
      ordered = λ o.
          ordered_by q p.frames (suc (length p.registrations)) e f
          (ascends-more p.frames.made (length p.registrations) p.frames.made (suc (length p.registrations)) 0 0 (omega arith) (omega arith) p.frames.callbacks o);
    }
step-kept {p = p} {q = q} (asking e f m) =
    record {
      made = let g = ap {A = Frames} {B = ℕ} (λ x. x.made) e in omega (arith, g);
      grows = omega (arith, f);
      each = λ o c i. by_place o c (in-last c d p.frames.callbacks (in_frames c q.frames (request (suc (length p.registrations)) p.frames) e i));
      ordered = λ o.
          ordered_by q (request (suc (length p.registrations)) p.frames) (suc (length p.registrations)) e f
          (ascends-last p.frames.made (length p.registrations) 0 0 (omega arith) (omega arith) p.frames.callbacks o);
    }
  where
    d : Callback
    d = record { handle = suc p.frames.made; registration = suc (length p.registrations) }

    by_place : Ordered p → (c : Callback) → IsIn c p.frames.callbacks ⊎ (c ≡ d) → Stayed p q c ⊎ CameAfter p q c
    by_place o c (inl j) =
        inl (j, m c.registration ∙ not_next (length p.registrations) c.registration (marked p.events c.registration) (ascends-in p.frames.made (length p.registrations) 0 0 c p.frames.callbacks o j).3)
    by_place o c (inr k) =
        let handle : c.handle ≡ suc p.frames.made = ap {A = Callback} {B = ℕ} (λ x. x.handle) k in
        let r : c.registration ≡ suc (length p.registrations) = ap {A = Callback} {B = ℕ} (λ x. x.registration) k in
        inr (omega (arith, handle), omega (arith, r), m c.registration ∙ is_next (length p.registrations) c.registration (marked p.events c.registration) r)
step-kept {p = p} {q = q} (leaving handle e f m) =
    record {
      made = made_as p q (cancel handle p.frames) e refl;
      grows = omega (arith, f);
      each = λ o c i. inl (in-without c (λ c. c.handle == handle) p.frames.callbacks (in_frames c q.frames (cancel handle p.frames) e i), m c.registration);
      ordered = λ o.
          ordered_by q (cancel handle p.frames) (length p.registrations) e f
          (ascends-without p.frames.made (length p.registrations) 0 0 (λ c. c.handle == handle) p.frames.callbacks o);
    }

pub kept-same : (p q : Page) → q.frames ≡ p.frames → q.registrations ≡ p.registrations → q.events ≡ p.events → FramesKept p q
kept-same p q e f g = step-kept (quiet e (ap {A = List Registration} {B = ℕ} length f) (λ r. ap {A = History} {B = Bool} (λ past. marked past r) g))

-- ---- lines

-- a line that leaves the marks
abbrev pub Unmarking : Event → Type 0
Unmarking e = (r : ℕ) (b : Bool) → marked_by r e b ≡ b

aside-unmarking : (e : Event) → is_aside e ≡ true → Unmarking e
aside-unmarking (Turn n source) h r b = Prim.cc
aside-unmarking (Wait t) h r b = Prim.cc
aside-unmarking (Period d) h r b = Prim.cc
aside-unmarking (EndLine end.Done) h r b = Prim.cc
aside-unmarking (EndLine end.Clock) h r b = Prim.cc
aside-unmarking (Frame t) h r b = Prim.cc
aside-unmarking (Reg q k by) h r b = Prim.cc
aside-unmarking e h r b = refl

rest-marking : (e : Event) → is_rest e ≡ true → (r : ℕ) (b : Bool) → marked_by r e b ≡ false
rest-marking (Frame t) h r b = Prim.cc
rest-marking (Reg q k by) h r b = Prim.cc
rest-marking e h r b = ap {A = Bool} {B = Bool} (λ x. not x && b) h

end-unmarking : (e : Event) → is_end e ≡ true → Unmarking e
end-unmarking Ret h r b = refl
end-unmarking (Throw bs) h r b = refl
end-unmarking e h r b = Prim.cc

added-unmarking : (now : ℕ) (es : List Event) (past : History) (r : ℕ) → Each Unmarking es → marked (added now es past) r ≡ marked past r
added-unmarking now [] past r h = refl
added-unmarking now (e ∷ es) past r h = added-unmarking now es (record { time = now; event = e } ∷ past) r h.1 ∙ h.0 r (marked past r)

changed-unmarking : (current : Context) (names : List (List ℕ)) (n : ℕ) (c : Promises.Change) (s : Notices) → Each Unmarking (changed current names n c s).lines
changed-unmarking = changed-each Unmarking (λ n ok bs. λ r b. refl) (λ j what. λ r b. refl)

-- ---- changes

emit_each-frames : (es : List Event) (p : Page) → (emit_each es p).frames ≡ p.frames
emit_each-frames [] p = refl
emit_each-frames (e ∷ es) p = emit_each-frames es (emit e p)

emit_each-registrations : (es : List Event) (p : Page) → (emit_each es p).registrations ≡ p.registrations
emit_each-registrations [] p = refl
emit_each-registrations (e ∷ es) p = emit_each-registrations es (emit e p)

notices-step : (f : Notices → Noticed) (p : Page) → Each Unmarking (f p.notices).lines → FrameStep p (on_notices f p)
notices-step f p h =
    let q : Page = record p { notices = (f p.notices).notices } in
    let lines = (f p.notices).lines in
    quiet (emit_each-frames lines q) (ap {A = List Registration} {B = ℕ} length (emit_each-registrations lines q))
    (λ r. ap {A = History} {B = Bool} (λ past. marked past r) (emit_each-events lines q) ∙ added-unmarking p.now lines p.events r h)

changes-step : (n : ℕ) (c : Promises.Change) (p : Page) → FrameStep p (promise_changes n c p)
changes-step n c p = notices-step (λ s. changed (context p) p.names n c s) p (changed-unmarking (context p) p.names n c p.notices)

subscribed-step : (n : ℕ) (x : Reaction) (p : Page) → FrameStep p (on_notices (subscribe_promise (context p) n x) p)
subscribed-step n x p =
    notices-step (subscribe_promise (context p) n x) p
    (changed-unmarking (context p) [] n (Promises.subscribe n (the_promise p.notices.promises n) x) (record p.notices { rejected = without (λ m. m == n) p.notices.rejected; outstanding = without (λ m. m == n) p.notices.outstanding }))

-- a page as another one but for the rest, with lines
before-step : {p q s : Page} → AsBefore s q → s.frames ≡ p.frames → s.registrations ≡ p.registrations → ((r : ℕ) → marked s.events r ≡ marked p.events r) → FrameStep p q
before-step b e f m =
    quiet (b.frames ∙ e) (ap {A = List Registration} {B = ℕ} length (b.registrations ∙ f)) (λ r. ap {A = History} {B = Bool} (λ past. marked past r) b.events ∙ m r)

made-step : (k : RegKind) (x : Registration) (p : Page) → FrameStep p (register_as k x p)
made-step k x p = making refl (length-last p.registrations x) (λ r. refl)

pub change-kept : {p q : Page} → PageChange p q → FramesKept p q
change-kept (elsewhere c b k) = step-kept (before-step b refl refl (λ r. refl))
change-kept {p = p} (told e h) = step-kept (quiet refl refl (λ r. aside-unmarking e h r (marked p.events r)))
change-kept (arm_told r due level w well) = step-kept (quiet refl refl (λ r. refl))
change-kept {p = p} (rested e h x y z over begun done) = step-kept (resting refl refl over (λ r. rest-marking e h r (marked p.events r)))
change-kept (answered source task t answer x y live z b) = step-kept (before-step b refl refl (λ r. refl))
change-kept {p = p} {q = q} (registered k x e unframed u b at) = kept-then p (register_as k x p) q (step-kept (made-step k x p)) (step-kept (before-step b refl refl (λ r. refl)))
change-kept (dropped r d b) = step-kept (before-step b refl refl (λ r. refl))
change-kept (task_dropped r role a e s b) = step-kept (before-step b refl refl (λ r. refl))
change-kept {p = p} {q = q} (enqueued_anew k x t queue e i s n b) =
    kept-then p (register_as k x p) q (step-kept (made-step k x p)) (step-kept (before-step b refl refl (λ r. refl)))
change-kept (fell_due r d b by) = step-kept (before-step b refl refl (λ r. refl))
change-kept (post_fell_due start source t queue e role a s n b by) = step-kept (before-step b refl refl (λ r. refl))
change-kept (prio_told s priority ps c) = step-kept (quiet refl refl (λ r. refl))
change-kept (frame_dropped handle c e role) = step-kept (leaving handle refl refl (λ r. refl))
change-kept {p = p} (frame_asked f) =
    let x : Registration = record { role = _; callback = Some f; second_callback = None; timer_id = 0; promise = 0; signal = None; finally = false } in
    step-kept (asking (ap {A = ℕ} {B = Frames} (λ r. request r p.frames) (length-last p.registrations x)) (length-last p.registrations x) (λ r. refl))
change-kept promised = step-kept (quiet refl refl (λ r. refl))
change-kept {p = p} (settled n how x y) = step-kept (changes-step n (Promises.settle n (the_promise p.notices.promises n) how) p)
change-kept {p = p} (followed n how x y) = step-kept (changes-step n (Promises.settle n (the_promise p.notices.promises n) how) p)
change-kept {p = p} (adopted n from x y) = step-kept (changes-step n (Promises.adopt n (the_promise p.notices.promises n) from) p)
change-kept {p = p} (subscribed n x y z) = step-kept (subscribed-step n x p)
change-kept {p = p} {q = q} (then_asked n x y e g z) =
    kept-then p (register_as kind.Then x p) q (step-kept (made-step kind.Then x p)) (step-kept (subscribed-step n y (register_as kind.Then x p)))
change-kept {p = p} {q = q} (micro_asked x r e y) =
    kept-then p (register_as kind.Micro x p) q (step-kept (made-step kind.Micro x p)) (step-kept (notices-step (queue_micro (context p) r) (register_as kind.Micro x p) (λ r b. refl, tt)))
change-kept rejected_taken = step-kept (quiet refl refl (λ r. refl))
change-kept (noted n) = step-kept (quiet refl refl (λ r. refl))

pub changes-kept : {p q : Page} → Changes p q → FramesKept p q
changes-kept {p = p} nothing = kept-same p p refl refl refl
changes-kept {p = p} {q = r} (with_change {q = q} a b plain) = kept-then p q r (changes-kept a) (change-kept b)
changes-kept {p = p} {q = s} (with_arm {q = q} {r = r} a b c w new) = kept-then p q s (changes-kept a) (kept-then q r s (change-kept b) (change-kept c))

-- ---- calls

-- a callback is taken where it waited, and called
pub begins-step : (b : Beginning) (p : Page) → Waited b p → FrameStep p (call_begun (called_by b) (taken b p))
begins-step (TheScript source task) p w = quiet refl refl (λ r. refl)
begins-step (ATimer source task t) p w = quiet refl refl (λ r. refl)
begins-step (AFrame key c) p w = leaving c.handle refl refl (λ r. refl)
begins-step (AnIdle c others) p w = quiet refl refl (λ r. refl)
begins-step (ALateIdle handle c) p w = quiet refl refl (λ r. refl)
begins-step (AListener q) p w = quiet refl refl (λ r. refl)
begins-step (APost t) p w = resting refl refl w.4 (λ r. refl)
begins-step (AContinuation t) p w = resting refl refl w.4 (λ r. refl)
begins-step (AMicro job others q) p w = quiet refl refl (λ r. refl)
begins-step (AReaction job others of x q) p w = quiet refl refl (λ r. refl)

pub begins-kept : (b : Beginning) (p : Page) → Waited b p → FramesKept p (call_begun (called_by b) (taken b p))
begins-kept b p w = step-kept (begins-step b p w)

pub ended-kept : (e : Event) (p : Page) → is_end e ≡ true → FramesKept p (call_ended e p)
ended-kept e p h = step-kept (quiet refl refl (λ r. end-unmarking e h r (marked p.events r)))

pub moves-ordered : {p q : Page} → Moves p q → Ordered p → Ordered q
moves-ordered here o = o
moves-ordered (changing a c plain) o = (change-kept c).ordered (moves-ordered a o)
moves-ordered (arming a c d w) o = (change-kept d).ordered ((change-kept c).ordered (moves-ordered a o))
moves-ordered (calling {q = q} a b w i) o = (begins-kept b q w).ordered (moves-ordered a o)
moves-ordered (ending a e h) o = moves-ordered a o
moves-ordered (flagging {q = q} {r = r} a x y z w u v t j) o = (kept-same q r w z y).ordered (moves-ordered a o)
moves-ordered (running a j others x y nm) o = moves-ordered a o
moves-ordered (framing a t) o = moves-ordered a o
moves-ordered (idling a none) o = moves-ordered a o
