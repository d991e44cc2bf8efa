-- What comes next in a turn, from what the page is asked.
use Rattle.std.proofs.Common.{◌≡◌, ℕ, ◌<◌, Bool, true, false, cond, ◌||◌, refl, sym, ◌∙◌, ap, Option, Some, None, nat_lt, nat_le, ltb-true, arith}
use Rattle.std.proofs.lemmas.Bool.{leb-false}
use Rattle.page_types.specs.declared.End.TheVariants.{Done, Clock}
use Rattle.page_parts.specs.Words.{is_empty}
use Rattle.page_model.specs.State.{Page}
use Rattle.page_model.specs.View.{view}
use Rattle.page_model.specs.Turns.{target}
use Rattle.loop_turn.specs.Waiting.{Serve, EndRun, WaitFor, next_at, next_in}

module _ (until : ℕ) (p : Page) where
  -- a task is runnable
  pub next-serve : is_empty (view p) ≡ false → Serve ≡ next_in until p
  next-serve e = sym (ap (λ b. cond b (next_at until p (target p)) Serve) e)

  -- none is
  next-idle : (o : Option ℕ) → is_empty (view p) ≡ true → target p ≡ o → next_in until p ≡ next_at until p o
  next-idle o e t = ap (λ b. cond b (next_at until p (target p)) Serve) e ∙ ap (next_at until p) t

  pub next-done : is_empty (view p) ≡ true → target p ≡ None → EndRun Done ≡ next_in until p
  next-done e t = sym (next-idle None e t)

  module _ (t : ℕ) (e : is_empty (view p) ≡ true) (aim : target p ≡ Some t) where
    pub next-clock : (nat_le until p.now || nat_le until t) ≡ true → EndRun Clock ≡ next_in until p
    next-clock up = sym (next-idle (Some t) e aim ∙ ap (λ b. cond b (EndRun Clock) (cond (nat_lt p.now t) (WaitFor t) Serve)) up)

    pub next-ahead : (b : Bool) → (nat_le until p.now || nat_le until t) ≡ false → nat_lt p.now t ≡ b → cond b (WaitFor t) Serve ≡ next_in until p
    next-ahead b early ahead =
        sym (next-idle (Some t) e aim ∙ (ap (λ c. cond c (EndRun Clock) (cond (nat_lt p.now t) (WaitFor t) Serve)) early ∙ ap (λ c. cond c (WaitFor t) Serve) ahead))

  -- a wait is for a moment that is after now and before the run's end
  pub record Ahead (t : ℕ) : Type 0 where
    pub later : p.now < t
    pub soon : t < until

right-false : (a b : Bool) → (a || b) ≡ false → b ≡ false
right-false true b e = absurd (cc)
right-false false b e = e

module _ (until : ℕ) (p : Page) (t : ℕ) where
  same-moment : (u : ℕ) → WaitFor t ≡ WaitFor u → t ≡ u
  same-moment u e = cc

  by_ahead : (u : ℕ) (b : Bool) → nat_lt p.now u ≡ b → nat_le until u ≡ false → WaitFor t ≡ cond b (WaitFor u) Serve → Ahead until p t
  by_ahead u true h k e =
      let same : t ≡ u = same-moment u e in
      let later = ltb-true p.now u h in
      let soon = leb-false until u k in
      record { later = omega (arith, same, later); soon = omega (arith, same, soon) }
  by_ahead u false h k e = absurd (cc)

  by_clock : (u : ℕ) (b : Bool) → (nat_le until p.now || nat_le until u) ≡ b → WaitFor t ≡ cond b (EndRun Clock) (cond (nat_lt p.now u) (WaitFor u) Serve) → Ahead until p t
  by_clock u true h e = absurd (cc)
  by_clock u false h e = by_ahead u (nat_lt p.now u) refl (right-false (nat_le until p.now) (nat_le until u) h) e

  by_target : (o : Option ℕ) → WaitFor t ≡ next_at until p o → Ahead until p t
  by_target None e = absurd (cc)
  by_target (Some u) e = by_clock u (nat_le until p.now || nat_le until u) refl e

  by_view : (b : Bool) → WaitFor t ≡ cond b (next_at until p (target p)) Serve → Ahead until p t
  by_view true e = by_target (target p) e
  by_view false e = absurd (cc)

  pub wait-ahead : WaitFor t ≡ next_in until p → Ahead until p t
  wait-ahead e = by_view (is_empty (view p)) e
