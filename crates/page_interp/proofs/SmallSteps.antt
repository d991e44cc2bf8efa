-- Small steps keep what is left to do, around any host.
use Rattle.std.proofs.Common.{◌≡◌, ℕ, ◌+◌, ◌<◌, ◌≤◌, List, [], ◌∷◌, ◌++◌, length, Option, Some, None, Result, Ok, Err, IfOk, IfSome, IfNone, Vec, Global, refl, ap, ◌∙◌, arith}
use Rattle.std.specs.Prelude.{MatchOption, vec_len}
use Rattle.std.specs.Option.{option_to_list}
use Rattle.std.proofs.lemmas.List.{reverse-append}
use Rattle.page_values.specs.declared.Value.{Value}
use Rattle.page_values.specs.Seen.{seen}
use Rattle.page_values.specs.Written.{IsNumbered}
use Rattle.lang_meaning.specs.Machine.{Machine, and_then}
use Rattle.lang_meaning.specs.Evaluation.{Answer, Around, answered}
use Rattle.lang_meaning.specs.HostSteps.{HostRules}
use Rattle.lang_meaning.specs.Asks.{Limited}
use Rattle.page_interp.specs.declared.stack.Focus.{Focus}
use Rattle.page_interp.specs.declared.stack.Focus.TheVariants as focus
use Rattle.page_interp.specs.declared.stack.Frame.{Frame}
use Rattle.page_interp.specs.declared.stack.Frame.TheVariants as frame
use Rattle.page_interp.specs.declared.stack.Waiting.{Waiting}
use Rattle.page_interp.specs.Frames.{does, continues, focus_size, waiting_size, focus_weight, waiting_weight, FocusIsSound, WaitingIsSound, IsAnswer, after_all, meaning_at, steps_left, Moves, stacked, Holds, Goes, place, state_at, depth_of}
use Rattle.page_types.specs.Tree.{Program}
use Rattle.page_interp.specs.declared.exit.Store.{Store}
use Rattle.page_interp.specs.declared.stack.Current.{Current}
use Rattle.page_interp.specs.Runs.{AnswerIsNumbered, Left, around_of, count_of_functions}
use Rattle.page_interp.specs.declared.exit.Exit.{Exit}
use Rattle.page_interp.specs.Answers.{Answers}
use Rattle.page_interp.proofs.Steps.{still}

-- one part is next, and something waits for its value
pub record Pushes (T : Type 0) (f0 : Focus) (w : Waiting) (f1 : Focus) : Type 0 where
  pub same : (d : Around (Limited T)) (m : Machine (Limited T)) → does d f0 m ≡ and_then (does d f1 m) (continues d w)
  pub sound : (count : ℕ) → FocusIsSound count f0 → FocusIsSound count f1 × WaitingIsSound count w
  pub size : focus_size f1 ≤ focus_size f0
  pub waits : waiting_size w ≤ focus_size f0
  pub fewer : focus_weight f1 + waiting_weight w < focus_weight f0

-- something else is next, with nothing more that waits
pub record Stays (T : Type 0) (f0 f1 : Focus) : Type 0 where
  pub same : (d : Around (Limited T)) (m : Machine (Limited T)) → does d f0 m ≡ does d f1 m
  pub sound : (count : ℕ) → FocusIsSound count f0 → FocusIsSound count f1
  pub size : focus_size f1 ≤ focus_size f0
  pub fewer : focus_weight f1 < focus_weight f0

-- what waits has its value
pub record Pops (T : Type 0) (w : Waiting) (v : Value) (f1 : Focus) : Type 0 where
  pub same : (d : Around (Limited T)) (m : Machine (Limited T)) → continues d w (seen v) m ≡ does d f1 m
  pub sound : (count : ℕ) → WaitingIsSound count w → IsNumbered count (seen v) → FocusIsSound count f1
  pub size : focus_size f1 ≤ waiting_size w
  pub fewer : focus_weight f1 < 1 + waiting_weight w

-- what waits has its value, and something else waits for the next one
pub record Swaps (T : Type 0) (w : Waiting) (v : Value) (w1 : Waiting) (f1 : Focus) : Type 0 where
  pub same : (d : Around (Limited T)) (m : Machine (Limited T)) → continues d w (seen v) m ≡ and_then (does d f1 m) (continues d w1)
  pub sound : (count : ℕ) → WaitingIsSound count w → IsNumbered count (seen v) → FocusIsSound count f1 × WaitingIsSound count w1
  pub size : focus_size f1 ≤ waiting_size w
  pub waits : waiting_size w1 ≤ waiting_size w
  pub fewer : focus_weight f1 + waiting_weight w1 < 1 + waiting_weight w

pub below : (a b c d e : ℕ) → a + b < c → e + (a + (b + d)) < e + (c + d)
below a b c d e h = omega arith

pub under : (a c d e : ℕ) → a < c → e + (a + d) < e + (c + d)
under a c d e h = omega arith

pub popped : (a w d e : ℕ) → a < 1 + w → e + (a + d) < e + (1 + (w + d))
popped a w d e h = omega arith

swapped : (a b w d e : ℕ) → a + b < 1 + w → e + (a + (b + d)) < e + (1 + (w + d))
swapped a b w d e h = omega arith

pub within : (a b c : ℕ) → a ≤ b → b ≤ c → a ≤ c
within a b c h k = omega arith

module _ {T : Type 0} (rules : HostRules T) where
  pub pushes_moves : {f0 : Focus} {w : Waiting} {f1 : Focus} (fs : List Frame) → Pushes T f0 w f1 → Moves rules fs f0 (frame.Wait w ∷ fs) f1
  unfolding meaning_at steps_left
  pushes_moves fs r = record {
    goes = λ p store current h.
        let s = r.sound _ h.focus in
        record {
          means = λ ns k. record { numbers = 0 ∷ ns; enough = (tt, k); same = λ host. ap (after_all rules p fs ns) (r.same _ _) };
          holds = record { depth = h.depth; few = h.few; globals = h.globals; held = h.held; frames = (s.1, within _ _ _ r.waits h.size, h.frames); focus = s.0; size = within _ _ _ r.size h.size };
          fuel = still store.fuel;
          tickets = λ ts. refl;
          fewer = below _ _ _ _ _ r.fewer;
        };
  }

  pub stays_moves : {f0 f1 : Focus} (fs : List Frame) → Stays T f0 f1 → Moves rules fs f0 fs f1
  unfolding meaning_at steps_left
  stays_moves fs r = record {
    goes = λ p store current h. record {
      means = λ ns k. record { numbers = ns; enough = k; same = λ host. ap (after_all rules p fs ns) (r.same _ _) };
      holds = record { depth = h.depth; few = h.few; globals = h.globals; held = h.held; frames = h.frames; focus = r.sound _ h.focus; size = within _ _ _ r.size h.size };
      fuel = still store.fuel;
      tickets = λ ts. refl;
      fewer = under _ _ _ _ r.fewer;
    };
  }

  pub pops_moves : {w : Waiting} {v : Value} {f1 : Focus} (fs : List Frame) → Pops T w v f1 → Moves rules (frame.Wait w ∷ fs) (focus.Value v) fs f1
  unfolding meaning_at steps_left
  pops_moves fs r = record {
    goes = λ p store current h. record {
      means = λ ns k. record { numbers = _; enough = k.1; same = λ host. ap (after_all rules p fs _) (r.same _ _) };
      holds = record { depth = h.depth; few = h.few; globals = h.globals; held = h.held; frames = h.frames.2; focus = r.sound _ h.frames.0 h.focus; size = within _ _ _ r.size h.frames.1 };
      fuel = still store.fuel;
      tickets = λ ts. refl;
      fewer = popped _ _ _ _ r.fewer;
    };
  }

  pub swaps_moves : {w : Waiting} {v : Value} {w1 : Waiting} {f1 : Focus} (fs : List Frame) → Swaps T w v w1 f1 → Moves rules (frame.Wait w ∷ fs) (focus.Value v) (frame.Wait w1 ∷ fs) f1
  unfolding meaning_at steps_left
  swaps_moves fs r = record {
    goes = λ p store current h.
        let s = r.sound _ h.frames.0 h.focus in
        record {
          means = λ ns k. record { numbers = ns; enough = (tt, k.1); same = λ host. ap (after_all rules p fs _) (r.same _ _) };
          holds = record { depth = h.depth; few = h.few; globals = h.globals; held = h.held; frames = (s.1, within _ _ _ r.waits h.frames.1, h.frames.2); focus = s.0; size = within _ _ _ r.size h.frames.1 };
          fuel = still store.fuel;
          tickets = λ ts. refl;
          fewer = swapped _ _ _ _ _ r.fewer;
        };
  }

pub stacked_push : (fs fs' : List Frame) (f : Frame) → fs' ≡ fs ++ f ∷ [] → stacked fs' ≡ f ∷ stacked fs
unfolding stacked
stacked_push fs fs' f q = rw q (reverse-append fs (f ∷ []))

-- what an operator answers is next
record Comes (T : Type 0) (f : Focus) (r : Answer) : Type 0 where
  same : (d : Around (Limited T)) (m : Machine (Limited T)) → answered r m ≡ does d f m
  sound : (count : ℕ) → AnswerIsNumbered count r → FocusIsSound count f
  size : focus_size f ≡ 0
  weight : focus_weight f ≡ 1

comes : {T : Type 0} (f : Focus) (r : Answer) → IsAnswer f r → Comes T f r
comes (focus.Value v) (Ok w) h = record { same = λ d m. rw h refl; sound = λ count n. rw h n; size = refl; weight = refl }
comes (focus.Throw v) (Err name) h = record { same = λ d m. rw h refl; sound = λ count n. rw h tt; size = refl; weight = refl }
comes f r h = absurd h

pub answer_stays : {T : Type 0} (f0 f : Focus) (r : Answer) → IsAnswer f r → ((d : Around (Limited T)) (m : Machine (Limited T)) → does d f0 m ≡ answered r m) → ((count : ℕ) → FocusIsSound count f0 → AnswerIsNumbered count r)
    → 1 < focus_weight f0 → Stays T f0 f
answer_stays f0 f r h same sound fewer = let c = comes f r h in record {
  same = λ d m. same d m ∙ c.same d m;
  sound = λ count k. c.sound count (sound count k);
  size = omega (arith, c.size);
  fewer = omega (arith, c.weight, fewer);
}

pub answer_pops : {T : Type 0} (w : Waiting) (v : Value) (f : Focus) (r : Answer) → IsAnswer f r → ((d : Around (Limited T)) (m : Machine (Limited T)) → continues d w (seen v) m ≡ answered r m)
    → ((count : ℕ) → WaitingIsSound count w → IsNumbered count (seen v) → AnswerIsNumbered count r) → 0 < waiting_weight w → Pops T w v f
answer_pops w v f r h same sound fewer = let c = comes f r h in record {
  same = λ d m. same d m ∙ c.same d m;
  sound = λ count k n. c.sound count (sound count k n);
  size = omega (arith, c.size);
  fewer = omega (arith, c.weight, fewer);
}

pub answer_swaps : {T : Type 0} (w : Waiting) (v : Value) (w1 : Waiting) (f : Focus) (r : Answer) → IsAnswer f r
    → ((d : Around (Limited T)) (m : Machine (Limited T)) → continues d w (seen v) m ≡ and_then (answered r m) (continues d w1))
    → ((count : ℕ) → WaitingIsSound count w → IsNumbered count (seen v) → AnswerIsNumbered count r × WaitingIsSound count w1)
    → waiting_size w1 ≤ waiting_size w → waiting_weight w1 < waiting_weight w → Swaps T w v w1 f
answer_swaps w v w1 f r h same sound waits fewer = let c = comes f r h in record {
  same = λ d m. same d m ∙ ap (λ x. and_then x (continues d w1)) (c.same d m);
  sound = λ count k n. let s = sound count k n in (c.sound count s.0, s.1);
  size = omega (arith, c.size);
  waits = waits;
  fewer = omega (arith, c.weight, fewer);
}

-- what was pushed, where there was memory for it
pub pushed_moves : {T S : Type 0} {rules : HostRules T} (result : Result Focus (Exit S)) (fs0 fs fs1 : List Frame) (f0 f : Focus) → IfOk result (λ _. fs1 ≡ fs) → IfOk result (λ x. x ≡ f) → Moves rules fs0 f0 fs f → IfOk result (Moves rules fs0 f0 fs1)
pushed_moves (Ok x) fs0 fs fs1 f0 f p q m = rw (p, q) m
pushed_moves (Err x) fs0 fs fs1 f0 f p q m = tt

pub answer_moves : {T S : Type 0} {rules : HostRules T} (result : Result Focus (Exit S)) (l : Left S) (r : Answer) (fs0 fs1 : List Frame) (f0 : Focus) → IfOk result (λ f. (r : Answer) → Answers l r → IsAnswer f r) → Answers l r
    → ((f : Focus) → IsAnswer f r → Moves rules fs0 f0 fs1 f) → IfOk result (Moves rules fs0 f0 fs1)
answer_moves (Ok x) l r fs0 fs1 f0 p a m = m x (p r a)
answer_moves (Err x) l r fs0 fs1 f0 p a m = tt

-- an answer that is next already
pub each_moves : {T S : Type 0} {rules : HostRules T} (result : Result Focus (Exit S)) (r : Answer) (fs0 fs1 : List Frame) (f0 : Focus) → IfOk result (λ f. IsAnswer f r) → ((f : Focus) → IsAnswer f r → Moves rules fs0 f0 fs1 f)
    → IfOk result (Moves rules fs0 f0 fs1)
each_moves (Ok x) r fs0 fs1 f0 a m = m x a
each_moves (Err x) r fs0 fs1 f0 a m = tt

pub if_moves : {T S : Type 0} (rules : HostRules T) (result : Result Focus (Exit S)) (fs0 fs1 : List Frame) (f0 : Focus) (p : Program) (store : Store) (current : Current) → IfOk result (Moves rules fs0 f0 fs1)
    → IfOk result (λ f. Holds p (place store current fs0 f0) → Goes rules p (place store current fs0 f0) (place store current fs1 f))
if_moves rules (Ok x) fs0 fs1 f0 p store current m = m.goes p store current
if_moves rules (Err x) fs0 fs1 f0 p store current m = tt

module _ {T : Type 0} (rules : HostRules T) (p : Program) (store : Store) (current : Current) (fs : List Frame) where
  -- an answer that the variables decide
  pub answer_at : (f0 f : Focus) (r : Answer) → IsAnswer f r
      → ((host : Limited T) → does (around_of rules p (depth_of fs)) f0 (state_at p host (place store current fs f0)) ≡ answered r (state_at p host (place store current fs f0)))
      → AnswerIsNumbered (count_of_functions p) r → 1 < focus_weight f0 → Holds p (place store current fs f0) → Goes rules p (place store current fs f0) (place store current fs f)
  unfolding meaning_at steps_left
  answer_at f0 f r a same sound fewer h = let c = comes {T = T} f r a in record {
    means = λ ns k. record { numbers = ns; enough = k; same = λ host. ap (after_all rules p fs ns) (same host ∙ c.same _ _) };
    holds = record { depth = h.depth; few = h.few; globals = h.globals; held = h.held; frames = h.frames; focus = c.sound _ sound; size = omega (arith, c.size) };
    fuel = still store.fuel;
    tickets = λ ts. refl;
    fewer = under _ _ _ _ (omega (arith, c.weight, fewer));
  }

pub empty : {X : Type 0} (xs : List X) → length xs ≡ 0 → xs ≡ []
empty [] q = refl
empty (x ∷ xs) q = absurd (omega arith)

pub stacked_pop : (result : Option Frame) (xs ys : List Frame) → xs ≡ ys ++ option_to_list result → IfSome result (λ f. stacked xs ≡ f ∷ stacked ys)
stacked_pop None xs ys q = tt
stacked_pop (Some f) xs ys q = stacked_push ys xs f q

pub stacked_empty : (xs : List Frame) → xs ≡ [] → stacked xs ≡ []
unfolding stacked
stacked_empty xs q = rw q refl

no_items : (v : Vec Frame Global) → vec_len v ≡ 0 → v.items ≡ []
no_items v q = let k = v.ok.0 in empty v.items (omega (arith, k, q))

pub stacked_none : (result : Option Frame) (v : Vec Frame Global) (P : Frame → Type 0) (Q : Type 0) → MatchOption result ((vec_len v ≡ 0) × Q) P → IfNone result (stacked v.items ≡ [])
stacked_none None v P Q q = stacked_empty v.items (no_items v q.0)
stacked_none (Some f) v P Q q = tt

pub stacked_rest : (result : Option Frame) (v : Vec Frame Global) (P : Frame → Type 0) (Q : Type 0) → MatchOption result (Q × (vec_len v ≡ 0)) P → IfNone result (stacked v.items ≡ [])
stacked_rest None v P Q q = stacked_empty v.items (no_items v q.1)
stacked_rest (Some f) v P Q q = tt
