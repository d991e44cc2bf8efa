-- Steps 1 and 2 of a turn, by what comes next.
use Rattle.std.proofs.Common.{◌≡◌, ℕ, zero, suc, max, Bool, true, false, cond, ◌||◌, List, refl, ◌∙◌, ap, Option, Some, None, nat_lt, nat_le}
use Rattle.std.specs.Prelude.{◌==◌}
use Rattle.page_types.specs.Events.{Stamped}
use Rattle.page_types.specs.declared.End.TheVariants.{Done as DoneEnd, Clock as ClockEnd}
use Rattle.page_parts.specs.Words.{is_empty, is_there}
use Rattle.lang_meaning.specs.Machine.{Caller}
use Rattle.lang_meaning.specs.Following.{CallsFollow}
use Rattle.page_model.specs.State.{Page, State, on_page}
use Rattle.page_model.specs.Additions.{after, TurnAdds}
use Rattle.page_model.specs.Choosing.{Rules, chosen_reading}
use Rattle.page_model.specs.View.{view}
use Rattle.page_model.specs.Parallel.{parallel}
use Rattle.page_model.specs.PageTime.{idle_step}
use Rattle.page_model.specs.Bounds.{from_step_one_or, turn_or, row_of}
use Rattle.page_model.specs.Turns.{Turned, GoesOn, Ended, Stuck, AtBound, next_turn, ends, choose_turned, step_three, step_five, from_step_three, is_pending, target, at_time, waited, step_two_by, step_two, step_one, after_step_one}
use Rattle.page_model.proofs.Bounding.Pending.{target-pending}
use Rattle.page_model.proofs.Adding.Turns.{choose_turned-adds, next_turn-adds, step_three-adds, step_five-adds, step_one-adds, waited-adds}
use Rattle.page_host.specs.Turning.{run_ended}
use Rattle.loop_turn.specs.Waiting.{items_taken, idled, Next, Serve, EndRun, WaitFor, next_at, next_in}

-- ---- steps 1 and 5 are done to the page alone

pub step_one-is : (m : State) → step_one m ≡ on_page items_taken m
step_one-is m = by_turns (m.host.turns == 0)
  where
    by_turns : (b : Bool) → cond b m (on_page parallel m) ≡ record m { host = cond b m.host (parallel m.host) }
    by_turns true = refl
    by_turns false = refl

pub step_five-is : (m : State) → step_five m ≡ on_page idled m
step_five-is m = by_view (is_empty (view m.host))
  where
    by_view : (b : Bool) → cond b (on_page idle_step) (λ m. m) m ≡ record m { host = cond b (idle_step m.host) m.host }
    by_view true = refl
    by_view false = refl

module _ {C : Type 0} (rules : Rules C) (call : Caller Page) (until : ℕ) where
  -- ---- step 2

  -- what is done next
  abbrev pub go_next : (State → C → Turned C) → C → Next → State → Turned C
  go_next again c Serve m = from_step_three rules call until c m
  go_next again c (EndRun end) m = Ended end (on_page (run_ended until end) m) c
  go_next again c (WaitFor t) m = waited t (chosen_reading rules t c) again c m

  module _ (again : State → C → Turned C) (c : C) (m : State) where
    by_wait : (t : ℕ) (b : Bool) → choose_turned b (waited t (chosen_reading rules t c) again c) (from_step_three rules call until c) m ≡ go_next again c (cond b (WaitFor t) Serve) m
    by_wait t true = refl
    by_wait t false = refl

    by_clock : (t : ℕ) (b : Bool)
        → choose_turned b (λ m. ends ClockEnd c (on_page (λ p. at_time (max p.now until) p) m)) (choose_turned (nat_lt m.host.now t) (waited t (chosen_reading rules t c) again c) (from_step_three rules call until c)) m
        ≡ go_next again c (cond b (EndRun ClockEnd) (cond (nat_lt m.host.now t) (WaitFor t) Serve)) m
    by_clock t true = refl
    by_clock t false = by_wait t (nat_lt m.host.now t)

    by_target : (o : Option ℕ) (b : Bool) → is_there o ≡ b → choose_turned b (step_two_by rules until o again (from_step_three rules call until c) c) (ends DoneEnd c) m ≡ go_next again c (next_at until m.host o) m
    by_target None true e = refl
    by_target None false e = refl
    by_target (Some t) true e = by_clock t (nat_le until m.host.now || nat_le until t)
    by_target (Some t) false e = absurd (cc)

    by_view : (b : Bool) → is_empty (view m.host) ≡ b → choose_turned b (step_two rules until again (from_step_three rules call until c) c) (from_step_three rules call until c) m ≡ go_next again c (cond b (next_at until m.host (target m.host)) Serve) m
    by_view true e = by_target (target m.host) (is_pending m.host) (target-pending m.host e)
    by_view false e = refl

    pub next-is : after_step_one rules call until again c m ≡ go_next again c (next_in until m.host) m
    next-is = by_view (is_empty (view m.host)) refl

  -- ---- only lines are added

  module _ (es : List Stamped) (calls_add : CallsFollow (after es) call call) where
    pub from_step_three-adds : (c : C) → TurnAdds es (from_step_three rules call until c)
    from_step_three-adds c m =
        ap (λ t. next_turn t (λ m c. GoesOn (step_five m) c)) (step_three-adds es rules call calls_add until c m)
        ∙ next_turn-adds es (λ m c. GoesOn (step_five m) c) (λ c m. ap (λ m. GoesOn m c) (step_five-adds es m)) (step_three rules call until c m)

    module _ (again : State → C → Turned C) (again_adds : (c : C) → TurnAdds es (λ m. again m c)) where
      step_two_by-adds : (t : Option ℕ) (c : C) → TurnAdds es (step_two_by rules until t again (from_step_three rules call until c) c)
      step_two_by-adds None c m = refl
      step_two_by-adds (Some t) c m =
          choose_turned-adds es (nat_le until m.host.now || nat_le until t) _ _ (λ m. refl)
          (choose_turned-adds es (nat_lt m.host.now t) _ _ (waited-adds es rules call calls_add t (chosen_reading rules t c) again c again_adds) (from_step_three-adds c)) m

      step_two-adds : (c : C) → TurnAdds es (step_two rules until again (from_step_three rules call until c) c)
      step_two-adds c m = choose_turned-adds es (is_pending m.host) _ _ (step_two_by-adds (target m.host) c) (λ m. refl) m

      pub after_step_one-adds : (c : C) → TurnAdds es (after_step_one rules call until again c)
      after_step_one-adds c m = choose_turned-adds es (is_empty (view m.host)) _ _ (step_two-adds c) (from_step_three-adds c) m

    -- where nothing is done at the bound
    pub from_or-adds : (n : ℕ) (c : C) → TurnAdds es (λ m. from_step_one_or (Stuck AtBound) rules call until n m c)
    from_or-adds zero c m = refl
    from_or-adds (suc n) c m =
        ap (after_step_one rules call until (from_step_one_or (Stuck AtBound) rules call until n) c) (step_one-adds es rules call calls_add m)
        ∙ after_step_one-adds (from_step_one_or (Stuck AtBound) rules call until n) (from_or-adds n) c (step_one m)

    pub turn_or-adds : (more : ℕ) (c : C) → TurnAdds es (λ m. turn_or (Stuck AtBound) more rules call until m c)
    turn_or-adds more c m = from_or-adds _ c m

    pub row-adds : (more n : ℕ) (c : C) → TurnAdds es (λ m. row_of (turn_or (Stuck AtBound) more rules call until) n m c)
    row-adds more zero c m = refl
    row-adds more (suc n) c m =
        ap (λ t. next_turn t (row_of (turn_or (Stuck AtBound) more rules call until) n)) (turn_or-adds more c m)
        ∙ next_turn-adds es (row_of (turn_or (Stuck AtBound) more rules call until) n) (row-adds more n) (turn_or (Stuck AtBound) more rules call until m c)
