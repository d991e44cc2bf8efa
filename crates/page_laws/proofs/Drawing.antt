-- A frame is a row of moves: its line, and the callbacks that wait then, in their order, but those cancelled meanwhile.
use Rattle.page_types.specs.declared.RegKind.TheVariants as kind
use Rattle.lang_meaning.specs.Machine.{afterwards, Done, Gives, OutOfFuel, Returns, Throws, and_then}
use Rattle.page_laws.proofs.Intervals.{timers-line, timers-then}
use Rattle.page_laws.proofs.Evaluating.{Le, Loose, loose, loose-then, call_over, entered, le-then, le-same, on_page-reached}
use Rattle.page_laws.proofs.Framed.{Ascends, FramesKept, Ordered, Stayed, CameAfter, ascends-both, ascends-in, begins-kept, changes-kept, ended-kept, in-without-stays, false_true}
use Rattle.page_laws.proofs.Tracking.{frame-following, frame-tracks, told-then, tracks-then}
use Rattle.page_laws.proofs.Idling.{frame-goes_on}
use Rattle.page_laws.proofs.Moved.{report_after-changes}
use Rattle.page_laws.proofs.Moving.{moves-then}
use Rattle.page_laws.proofs.Runs.{Goes, WaysGo, entered-goes, finish-goes, invoke-goes, report_before-onto}
use Rattle.page_laws.specs.Moves.{AFrame, Beginning, IsDrawnNext, IsIn, Moves, Waited, called_by, framing, here, marked, role_of, taken}
use Rattle.page_model.proofs.GivenNumbers.Evaluation as numbers
use Rattle.page_model.proofs.GivenNumbers.Evaluation.{Good}
use Rattle.page_model.proofs.GivenNumbers.Growing.{Each-find, InFrames, Onward, stays}
use Rattle.page_model.proofs.GivenNumbers.Pages.{call_ended-held, without_frame-held}
use Rattle.page_model.specs.Invoke.{Ways, WhenReported, call_ended, end_of_callback, report_after, report_before, thrown, when_reported}
use Rattle.page_model.specs.Numbers.{CallbackIsGiven, Each, Grows, IfThere, IsFor, Made, made_by}
use Rattle.page_model.specs.PageSignals.{each_in_turn}
use Rattle.page_model.specs.State.{OfKind, Page, State, emit, on_page, the_registration}
use Rattle.page_model.specs.Tasks.{frame_callback, run_frame}
use Rattle.page_parts.specs.Frames.{Callback, callback_in, keys}
use Rattle.page_parts.specs.Spelling.{spelled}
use Rattle.page_types.specs.Events.{Event, Frame, Ret, Throw}
use Rattle.page_types.specs.Tree.{Program}
use Rattle.page_types.specs.Values.{IntValue, Value}
use Rattle.std.proofs.Common.{◌≡◌, ◌⊎◌, inl, inr, ℕ, ◌≤◌, ◌<◌, Bool, true, false, List, [], ◌∷◌, None, Option, Some, ap, arith, cond, eqb-true, length, map, pos, refl, subst, sym, unwrap_or, ◌∙◌}
use Rattle.std.proofs.lemmas.Bool.{eq-eqb}
use Rattle.std.specs.Prelude.{◌==◌}

-- ---- keys

-- keys rise above a number and are at most another
abbrev Rises : (made low : ℕ) → List ℕ → Type 0
Rises made low [] = Unit {0}
Rises made low (k ∷ ks) = (low < k) × (k ≤ made) × Rises made k ks

abbrev HasKey : ℕ → List ℕ → Type 0
HasKey k [] = ⊥
HasKey k (j ∷ ks) = (k ≡ j) ⊎ HasKey k ks

keys-rise : (made last handle r : ℕ) (cs : List Callback) → Ascends made last handle r cs → Rises made handle (map (λ c. c.handle) cs)
keys-rise made last handle r [] h = tt
keys-rise made last handle r (c ∷ cs) h = (h.0, h.2, keys-rise made last c.handle c.registration cs h.4)

keys-there : (c : Callback) (cs : List Callback) → IsIn c cs → HasKey c.handle (map (λ c. c.handle) cs)
keys-there c [] i = i
keys-there c (d ∷ cs) (inl e) = inl (ap {A = Callback} {B = ℕ} (λ x. x.handle) e)
keys-there c (d ∷ cs) (inr i) = inr (keys-there c cs i)

key-above : (made low k : ℕ) (ks : List ℕ) → Rises made low ks → HasKey k ks → low < k
key-above made low k [] h i = elim i [ ]
key-above made low k (j ∷ ks) h (inl e) = let a = h.0 in omega (arith, a, e)
key-above made low k (j ∷ ks) h (inr i) = let a = h.0 in let b = key-above made j k ks h.2 i in omega (arith, a, b)

-- what was found by a key
pub found-in : (key : ℕ) (cs : List Callback) (c : Callback) → callback_in cs key ≡ Some c → IsIn c cs × c.handle ≡ key
found-in key [] c e = Prim.cc
found-in key (d ∷ cs) c e = by_test (d.handle == key) refl e (found-in key cs c)
  where
    by_test : (b : Bool) → (d.handle == key) ≡ b → cond b (Some d) (callback_in cs key) ≡ Some c → (callback_in cs key ≡ Some c → IsIn c cs × c.handle ≡ key) → IsIn c (d ∷ cs) × c.handle ≡ key
    by_test true q e rest =
        let same : d ≡ c = ap {A = Option Callback} {B = Callback} (λ o. unwrap_or o d) e in (
          inl (sym same),
          subst (λ (x : Callback). x.handle ≡ key) same (eqb-true d.handle key q),
        )
    by_test false q e rest = (inr (rest e).0, (rest e).1)

-- where nothing was found
none-there : (key : ℕ) (cs : List Callback) → callback_in cs key ≡ None → (c : Callback) → IsIn c cs → c.handle ≡ key → ⊥
none-there key [] e c i same = i
none-there key (d ∷ cs) e c i same = by_test (d.handle == key) refl e i (none-there key cs)
  where
    by_test : (b : Bool) → (d.handle == key) ≡ b → cond b (Some d) (callback_in cs key) ≡ None → IsIn c (d ∷ cs) → (callback_in cs key ≡ None → (c : Callback) → IsIn c cs → c.handle ≡ key → ⊥) → ⊥
    by_test true q e i rest = Prim.cc
    by_test false q e (inl f) rest =
        let there : d.handle ≡ key = sym (ap {A = Callback} {B = ℕ} (λ x. x.handle) f) ∙ same in
        false_true (sym q ∙ eq-eqb d.handle key there)
    by_test false q e (inr i) rest = rest e c i same

-- ---- a key that has left the map

-- no callback has it, and none will
record Gone (key : ℕ) (p : Page) : Type 0 where
  ordered : Ordered p
  made : key ≤ p.frames.made
  none : (c : Callback) → IsIn c p.frames.callbacks → c.handle ≡ key → ⊥

gone-stays : (key : ℕ) (p q : Page) → FramesKept p q → Gone key p → Gone key q
gone-stays key p q k g =
    record {
      ordered = k.ordered g.ordered;
      made = let a = g.made in let b = k.made in omega (arith, a, b);
      none = λ c i e. by_place c e (k.each g.ordered c i);
    }
  where
    by_place : (c : Callback) → c.handle ≡ key → Stayed p q c ⊎ CameAfter p q c → ⊥
    by_place c e (inl s) = g.none c s.0 e
    by_place c e (inr n) = let a = g.made in let b = n.0 in absurd (omega (arith, a, b, e))

-- where a step goes on, the key is gone
abbrev Leaves : (key : ℕ) → Done Page → Type 0
Leaves key (Gives v r) = Gone key r.host
Leaves key (Returns v r) = Gone key r.host
Leaves key (Throws v r) = Gone key r.host
Leaves key (OutOfFuel r) = Unit {0}

module _ (program : Program) where
  and_then-leaves : (key : ℕ) (n : State) (d : Done Page) (next : Value → State → Done Page) → Goes program n d → Gone key n.host → ((v : Value) (r : State) → Gone key r.host → Leaves key (next v r)) → Leaves key (and_then d next)
  and_then-leaves key n (Gives v r) next h x k = k v r (gone-stays key n.host r.host h.0.3 x)
  and_then-leaves key n (Returns v r) next h x k = gone-stays key n.host r.host h.0.3 x
  and_then-leaves key n (Throws v r) next h x k = gone-stays key n.host r.host h.0.3 x
  and_then-leaves key n (OutOfFuel r) next h x k = tt

  -- the key of the callback that is called is gone behind it
  ended-leaves : (key : ℕ) (w : Ways) (a : WaysGo program w) → (b : Beginning) (when : WhenReported) (m : State) (d : Done Page) → Good m → a.There m → Waited b m.host → IsFor (role_of b) (made_by m.host) (called_by b) → Grows (made_by m.host) (made_by (taken b m.host)) → Gone key (entered b m).host → Goes program (entered b m) d → Leaves key (end_of_callback w.after when d)
  ended-leaves key w a b when m (Gives v s) g x y i gr z h =
      let ended = on_page (call_ended Ret) s in
      let good : Good ended = (numbers.on_page-good s (call_ended Ret) h.1 (call_ended-held Ret s.host h.1.0)).1 in
      let le : Loose m ended = call_over b m s Ret refl (λ calls. refl) gr y i h.0 in
      and_then-leaves key ended (w.after ended) _ (a.after ended good (a.over m ended le x))
      (gone-stays key s.host ended.host (ended-kept Ret s.host refl) (gone-stays key (entered b m).host s.host h.0.3 z)) (λ u t k. k)
  ended-leaves key w a b when m (Returns v s) g x y i gr z h =
      let ended = on_page (call_ended Ret) s in
      let good : Good ended = (numbers.on_page-good s (call_ended Ret) h.1 (call_ended-held Ret s.host h.1.0)).1 in
      let le : Loose m ended = call_over b m s Ret refl (λ calls. refl) gr y i h.0 in
      and_then-leaves key ended (w.after ended) _ (a.after ended good (a.over m ended le x))
      (gone-stays key s.host ended.host (ended-kept Ret s.host refl) (gone-stays key (entered b m).host s.host h.0.3 z)) (λ u t k. k)
  ended-leaves key w a b when m (Throws v s) g x y i gr z h =
      let ended = on_page (thrown v) s in
      let line : Event = Throw (spelled s.host.names v) in
      let good : Good ended = (numbers.on_page-good s (thrown v) h.1 (call_ended-held line s.host h.1.0)).1 in
      let le : Loose m ended = call_over b m s line refl (λ calls. refl) gr y i h.0 in
      let before = on_page (report_before when v) ended in
      let told_one = on_page-reached ended (report_before when v) good (report_before-onto when v ended.host good.0) in
      and_then-leaves key before (w.after before) _ (a.after before told_one.1 (a.over m before (loose-then m ended before le (loose ended before told_one.0)) x))
      (gone-stays key ended.host before.host told_one.0.3 (gone-stays key s.host ended.host (ended-kept line s.host refl) (gone-stays key (entered b m).host s.host h.0.3 z)))
      (λ u t k. gone-stays key t.host (report_after when v t.host) (changes-kept (report_after-changes when v t.host)) k)
  ended-leaves key w a b when m (OutOfFuel s) g x y i gr z h = tt

  -- ---- the callbacks of a frame

  -- those that wait came behind a moment, or have one of these keys
  abbrev Left : (made : ℕ) → List ℕ → Page → Type 0
  Left made ks p = (c : Callback) → IsIn c p.frames.callbacks → (made < c.handle) ⊎ HasKey c.handle ks

  -- a frame callback that was found is for a frame
  frame_role : (key : ℕ) (n : Made) (last : ℕ) (cs : List Callback) (c : Callback) → Each (CallbackIsGiven kind.Frame last n) cs → callback_in cs key ≡ Some c → IsFor (OfKind kind.Frame) n c.registration
  frame_role key n last cs c h e = of_given (subst (IfThere (CallbackIsGiven kind.Frame last n)) e (Each-find (CallbackIsGiven kind.Frame last n) (λ c. c.handle == key) cs h))
    where
      of_given : CallbackIsGiven kind.Frame last n c → IsFor (OfKind kind.Frame) n c.registration
      of_given x = x.registration

  -- behind the line of a frame, which page p had before
  abbrev Behind : ℕ → State → State
  Behind t m = on_page (emit (Frame t)) m

  module _ (w : Ways) (a : WaysGo program w) (t : ℕ) (m : State) (first : Ordered m.host) where
    -- one callback, which has the least key of those that are left
    one-goes : (key low : ℕ) (ks : List ℕ) (c : Option Callback) (r : State) → callback_in r.host.frames.callbacks key ≡ c → Rises m.host.frames.made low (key ∷ ks) → Left m.host.frames.made (key ∷ ks) r.host → Le (Behind t m) r → Good r → a.Here r
        → Goes program r (frame_callback w t c r) × Leaves key (frame_callback w t c r)
    one-goes key low ks None r e rise left le g z =
        (finish-goes program r g, record { ordered = le.3.ordered first; made = let x = le.3.made in let y = rise.1 in omega (arith, x, y); none = none-there key r.host.frames.callbacks e })
    one-goes key low ks (Some c) r e rise left le g z = (
      invoke-goes program w a (AFrame key c) tt false (IntValue (pos t) ∷ []) r g (a.there r z) drawn role onto (tt, tt) (a.fits r z),
      ended-leaves key w a (AFrame key c) (when_reported (the_registration (taken (AFrame key c) r.host) c.registration).role) r _ g (a.there r z) drawn role onto.0 gone
          (entered-goes program w a (AFrame key c) false (IntValue (pos t) ∷ []) r g role onto (tt, tt)),
    )
      where
        there : IsIn c r.host.frames.callbacks × c.handle ≡ key
        there = found-in key r.host.frames.callbacks c e

        ordered : Ordered r.host
        ordered = le.3.ordered first

        above : (d : Callback) → (m.host.frames.made < d.handle) ⊎ HasKey d.handle (key ∷ ks) → key ≤ d.handle
        above d (inl n) = let x = rise.1 in omega (arith, n, x)
        above d (inr (inl f)) = omega (arith, f)
        above d (inr (inr j)) = let x = key-above m.host.frames.made key d.handle ks rise.2 j in omega (arith, x)

        is_marked : Stayed (Behind t m).host r.host c ⊎ CameAfter (Behind t m).host r.host c → marked r.host.events c.registration ≡ true
        is_marked (inl s) = s.1
        is_marked (inr n) = let x = rise.1 in let y = n.0 in let k = there.1 in absurd (omega (arith, x, y, k))

        drawn : IsDrawnNext key c r.host
        drawn = (
          e,
          λ d i. let k = there.1 in
              let x = above d (left d i) in
              ascends-both r.host.frames.made (length r.host.registrations) 0 0 c d r.host.frames.callbacks ordered there.0 i (omega (arith, k, x)),
          is_marked (le.3.each first c there.0),
        )

        role : IsFor (OfKind kind.Frame) (made_by r.host) c.registration
        role = frame_role key (made_by r.host) r.host.frames.made r.host.frames.callbacks c (g.0 InFrames) e

        onto : Onward (made_by r.host) (taken (AFrame key c) r.host)
        onto = without_frame-held c.handle r.host g.0

        gone : Gone key (entered (AFrame key c) r).host
        gone =
            record {
              ordered = (begins-kept (AFrame key c) r.host drawn).ordered ordered;
              made = let x = le.3.made in let y = rise.1 in omega (arith, x, y);
              none = λ d i f.
                  false_true (sym (in-without-stays d (λ x. x.handle == c.handle) r.host.frames.callbacks i) ∙ eq-eqb d.handle c.handle (f ∙ sym there.1));
            }

    -- where every key was visited, nothing that was requested before the frame's line waits
    all-drawn : (r : State) → Left m.host.frames.made [] r.host → Le (Behind t m) r → Moves m.host r.host → Le m r
    all-drawn r left le row =
        (le.0, row, le.2, record { made = le.3.made; grows = le.3.grows; each = λ o c i. by_place o c i (le.3.each o c i); ordered = le.3.ordered }, λ x. le.4 (frame-goes_on t m.host x), timers-then (framing here t) (timers-line (Frame t) m.host) le.5, tracks-then m.host (Behind t m).host r.host (refl, refl, refl) (frame-tracks t m.host) le.6)
      where
        by_left : Ordered m.host → (c : Callback) → IsIn c m.host.frames.callbacks → (m.host.frames.made < c.handle) ⊎ ⊥ → ⊥
        by_left o c i (inl n) = let x = (ascends-in m.host.frames.made (length m.host.registrations) 0 0 c m.host.frames.callbacks o i).2 in absurd (omega (arith, n, x))
        by_left o c i (inr j) = j

        by_place : Ordered m.host → (c : Callback) → IsIn c r.host.frames.callbacks → Stayed (Behind t m).host r.host c ⊎ CameAfter (Behind t m).host r.host c → Stayed m.host r.host c ⊎ CameAfter m.host r.host c
        by_place o c i (inl s) = absurd (by_left o c s.0 (left c i))
        by_place o c i (inr n) = inr n

    -- the callbacks of further keys
    abbrev Others : (key : ℕ) → List ℕ → Type 0
    Others key ks =
        (s : State) → Rises m.host.frames.made key ks → Left m.host.frames.made ks s.host → Le (Behind t m) s → Moves m.host s.host → Good s → a.Here s
        → Goes program m (each_in_turn ks (λ key m. frame_callback w t (callback_in m.host.frames.callbacks key) m) s)

    -- the callbacks of the keys that are left
    keys-go : (ks : List ℕ) (low : ℕ) (r : State) → Rises m.host.frames.made low ks → Left m.host.frames.made ks r.host → Le (Behind t m) r → Moves m.host r.host → Good r → a.Here r
        → Goes program m (each_in_turn ks (λ key m. frame_callback w t (callback_in m.host.frames.callbacks key) m) r)
    keys-go [] low r rise left le row g z = (all-drawn r left le row, g, tt)
    keys-go (key ∷ ks) low r rise left le row g z =
        by_end (keys-go ks key) (frame_callback w t (callback_in r.host.frames.callbacks key) r) one.0 one.1
      where
        one : Goes program r (frame_callback w t (callback_in r.host.frames.callbacks key) r) × Leaves key (frame_callback w t (callback_in r.host.frames.callbacks key) r)
        one = one-goes key low ks (callback_in r.host.frames.callbacks key) r refl rise left le g z

        still : (s : State) → FramesKept r.host s.host → Gone key s.host → Left m.host.frames.made ks s.host
        still s k x c i = by_place (k.each (le.3.ordered first) c i)
          where
            by_left : (m.host.frames.made < c.handle) ⊎ HasKey c.handle (key ∷ ks) → (m.host.frames.made < c.handle) ⊎ HasKey c.handle ks
            by_left (inl n) = inl n
            by_left (inr (inl e)) = absurd (x.none c i e)
            by_left (inr (inr j)) = inr j

            by_place : Stayed r.host s.host c ⊎ CameAfter r.host s.host c → (m.host.frames.made < c.handle) ⊎ HasKey c.handle ks
            by_place (inl s) = by_left (left c s.0)
            by_place (inr n) = let y = le.3.made in let z = n.0 in inl (omega (arith, y, z))

        on : Others key ks → (s : State) → Le r s → Good s → Gone key s.host → Goes program m (each_in_turn ks (λ key m. frame_callback w t (callback_in m.host.frames.callbacks key) m) s)
        on others s k gs x = others s rise.2 (still s k.3 x) (le-then (Behind t m) r s le k) (moves-then row k.1) gs (a.later r s k z)

        by_end : Others key ks → (d : Done Page) → Goes program r d → Leaves key d → Goes program m (afterwards d (λ m. each_in_turn ks (λ key m. frame_callback w t (callback_in m.host.frames.callbacks key) m) m))
        by_end others (Gives v s) h x = on others s h.0 h.1 x
        by_end others (Returns v s) h x = on others s h.0 h.1 x
        by_end others (Throws v s) h x = on others s h.0 h.1 x
        by_end others (OutOfFuel s) h x = (moves-then row h.0, told-then m.host r.host s.host le.2 (λ f. le.6.follows (frame-following t m.host f)) h.1)

    pub run_frame-goes : Good m → a.Here m → Goes program m (run_frame w t m)
    run_frame-goes g z =
        keys-go (keys m.host.frames) 0 (Behind t m) (keys-rise m.host.frames.made (length m.host.registrations) 0 0 m.host.frames.callbacks first)
        (λ c i. inr (keys-there c m.host.frames.callbacks i)) (le-same (Behind t m)) (framing here t) (numbers.on_page-good m (emit (Frame t)) g (stays m.host g.0)).1 (a.framed t m z)
