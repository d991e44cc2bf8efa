-- The acts of a run in pieces only add lines.
use Rattle.std.proofs.Common.{ℕ, List, [], ◌∷◌, refl, ap, ◌∙◌, nat_le}
use Rattle.page_types.specs.Events.{Stamped}
use Rattle.page_types.specs.declared.End.TheVariants.{Done as DoneEnd, Clock as ClockEnd}
use Rattle.page_parts.specs.Words.{is_empty}
use Rattle.lang_meaning.specs.Machine.{Caller}
use Rattle.lang_meaning.specs.Following.{CallsFollow}
use Rattle.page_model.specs.State.{Page, State, on_page}
use Rattle.page_model.specs.PageTime.{idle_step}
use Rattle.page_model.specs.Choosing.{Rules}
use Rattle.page_model.specs.View.{view}
use Rattle.page_model.specs.Turns.{Turned, GoesOn, Stuck, NoAct, ends, at_time, choose_turned, is_pending, next_turn, step_three}
use Rattle.page_model.specs.Gaps.{Act, Pass, Serve, Rest, Stop, at_moment, pass, serve, rest, stop, stop_by_clock, act, acts}
use Rattle.page_model.specs.Additions.{after, TurnAdds}
use Rattle.page_model.proofs.Adding.Lines.{idle_step-adds}
use Rattle.page_model.proofs.Adding.Turns.{choose_turned-adds, next_turn-adds, step_one-adds, step_three-adds}

module _ (es : List Stamped) {C : Type 0} where
  at_moment-adds : (t : ℕ) (next : C → State → Turned C) (c : C) → TurnAdds es (next c) → TurnAdds es (at_moment t (next c) c)
  at_moment-adds t next c h m =
      choose_turned-adds es (nat_le m.host.now t) (λ m. next c (on_page (at_time t) m)) (λ m. Stuck NoAct m c) (λ m. h (on_page (at_time t) m)) (λ m. refl) m

  rest-adds : (c : C) → TurnAdds es (rest c)
  rest-adds c m =
      choose_turned-adds es (is_empty (view m.host)) (λ m. GoesOn (on_page idle_step m) c) (λ m. Stuck NoAct m c)
      (λ m. ap (λ p. GoesOn (record m { host = p }) c) (idle_step-adds es m.host)) (λ m. refl) m

  stop_by_clock-adds : (until : ℕ) (c : C) → TurnAdds es (stop_by_clock until c)
  stop_by_clock-adds until c m = choose_turned-adds es (nat_le until m.host.now) (ends ClockEnd c) (λ m. Stuck NoAct m c) (λ m. refl) (λ m. refl) m

  stop-adds : (until : ℕ) (c : C) → TurnAdds es (stop until c)
  stop-adds until c m =
      choose_turned-adds es (is_empty (view m.host)) (choose_turned (is_pending m.host) (stop_by_clock until c) (ends DoneEnd c)) (stop_by_clock until c)
      (choose_turned-adds es (is_pending m.host) (stop_by_clock until c) (ends DoneEnd c) (stop_by_clock-adds until c) (λ m. refl)) (stop_by_clock-adds until c) m

  module _ (rules : Rules C) (call : Caller Page) (calls_add : CallsFollow (after es) call call) where
    serve-adds : (until : ℕ) (c : C) → TurnAdds es (serve rules call until c)
    serve-adds until c m =
        choose_turned-adds es (is_empty (view m.host)) (λ m. Stuck NoAct m c) (step_three rules call until c) (λ m. refl) (step_three-adds es rules call calls_add until c) m

    act-adds : (until : ℕ) (a : Act) (c : C) → TurnAdds es (λ m. act rules call until a m c)
    act-adds until (Pass t) c m = at_moment-adds t pass c (λ m. ap (λ m. GoesOn m c) (step_one-adds es rules call calls_add m)) m
    act-adds until Serve c m = serve-adds until c m
    act-adds until (Rest t) c m = at_moment-adds t rest c (rest-adds c) m
    act-adds until (Stop t) c m = at_moment-adds t (stop until) c (stop-adds until c) m

    pub acts-adds : (until : ℕ) (list : List Act) (c : C) → TurnAdds es (λ m. acts rules call until list m c)
    acts-adds until [] c m = refl
    acts-adds until (a ∷ more) c m =
        ap (λ t. next_turn t (acts rules call until more)) (act-adds until a c m) ∙ next_turn-adds es (acts rules call until more) (acts-adds until more) (act rules call until a m c)
