-- Fuel never rises, and time never falls.
use Rattle.std.proofs.Common.{◌≡◌, ℕ, suc, ◌≤◌, le_refl, le_trans, Bool, true, false, [], Option, Some, None, refl, ap, cond, ◌||◌, nat_lt, nat_le, max, arith, ltb-true, leb-true}
use Rattle.std.specs.Prelude.{◌^◌}
use Rattle.page_types.specs.Tree.{Program}
use Rattle.lang_meaning.specs.Machine.{Done, Gives, Throws, Returns, OutOfFuel, value_in, locals, with_local, with_value_in, Caller}
use Rattle.page_parts.specs.Words.{is_there}
use Rattle.page_types.specs.declared.End.TheVariants.{Clock as ClockEnd}
use Rattle.page_model.specs.State.{Page, State, on_page}
use Rattle.page_model.specs.Invoke.{Ways}
use Rattle.page_model.specs.Choosing.{Rules, Chosen, is_reading, chosen_reading}
use Rattle.page_model.specs.Turns.{Turned, GoesOn, Ended, Stuck, ends, at_time, choose_turned, counted_turn, waited}
use Rattle.page_model.specs.FuelAndTime.{Later, end_state, Forward, CallsForward, WaysForward, TurnForward, BeginsAgainLater}
use Rattle.page_model.proofs.Holding.Evaluation.{KeepingStates, Holds}
use Rattle.page_model.proofs.Bounding.Leaving.{PageKeeping, part, with_page}
use Rattle.page_model.proofs.Holding.Runs.{K, CallsGo, WaysGo, Goes}
use Rattle.page_model.proofs.Holding.Turns.{TurnKept, legal_choice, and_left}

pub later_same : (m : State) → Later m m
later_same m = record { fuel = le_refl m.fuel; time = le_refl m.host.now }

pub later_chain : (a b c : State) → Later a b → Later b c → Later a c
later_chain a b c h k = record { fuel = le_trans k.fuel h.fuel; time = le_trans h.time k.time }

pub later_cond : (b : Bool) (m n r : State) → Later m n → Later m r → Later m (cond b n r)
later_cond true m n r h k = h
later_cond false m n r h k = k

pub later_take : (m : State) (left : ℕ) → m.fuel ≡ suc left → Later m (record m { fuel = left })
later_take m left e = record { fuel = omega arith; time = le_refl m.host.now }

-- as an order on the states of the machine
abbrev pub forward_states : KeepingStates Page
forward_states =
    record {
      Le = Later;
      Good = λ m. Unit {0};
      same = later_same;
      chain = later_chain;
      assign = λ m x v g. (later_cond (is_there (value_in (locals m.open_calls) x)) m (record m { open_calls = with_local m.open_calls x v }) (record m { globals = with_value_in m.globals x v }) (record { fuel = le_refl m.fuel; time = le_refl m.host.now }) (record { fuel = le_refl m.fuel; time = le_refl m.host.now }), tt);
      open_call = λ m xs g. (record { fuel = le_refl m.fuel; time = le_refl m.host.now }, tt);
      close_call = λ m g. (record { fuel = le_refl m.fuel; time = le_refl m.host.now }, tt);
      take = λ m left e g. (later_take m left e, tt);
    }

pub later_page : (m : State) (q : Page) → m.host.now ≤ q.now → Later m (with_page q m)
later_page m q h = record { fuel = le_refl m.fuel; time = h }

pub later_part : (m : State) (q : Page) → part q ≡ part m.host → Later m (with_page q m)
later_part m q e = later_page m q (let same = ap (λ x. x.now) e in omega arith)

-- and on those of a page
abbrev pub forward : PageKeeping
forward =
    record {
      states = forward_states;
      leave = λ m q e g. (later_part m q e, tt);
      pass = λ m t h g. (later_page m (record m.host { now = t }) h, tt);
      count = λ m g. (later_page m (record m.host { turns = suc m.host.turns }) (le_refl m.host.now), tt);
      more_signals = λ m ss h g. (later_page m (record m.host { signals = ss }) (le_refl m.host.now), tt);
      give = λ m ss priority h g. (later_page m _ (le_refl m.host.now), tt);
      follow = λ m ss priority now s h e g. (later_page m _ (le_refl m.host.now), tt);
      begin = λ m s priority g. (later_page m _ (le_refl m.host.now), tt);
      end = λ m s g. (later_page m _ (le_refl m.host.now), tt);
    }

-- between what holds and what goes forward
pub forward_of : (program : Program) (m : State) (d : Done Page) → Holds (K program forward) m d → Later m (end_state d)
forward_of program m (Gives v n) h = h.0
forward_of program m (Throws v n) h = h.0
forward_of program m (Returns v n) h = h.0
forward_of program m (OutOfFuel n) h = h.0

pub of_forward : (program : Program) (m : State) (d : Done Page) → Later m (end_state d) → Holds (K program forward) m d
of_forward program m (Gives v n) h = (h, tt, tt)
of_forward program m (Throws v n) h = (h, tt, tt)
of_forward program m (Returns v n) h = (h, tt, tt)
of_forward program m (OutOfFuel n) h = (h, tt)

pub goes_forward : (program : Program) (f : State → Done Page) → Goes program forward f → Forward f
goes_forward program f h m = forward_of program m (f m) (h m tt)

pub calls_forward : (program : Program) (call : Caller Page) → CallsForward call → CallsGo program forward call
calls_forward program call c f args m g h = of_forward program m (call f args m) (c f args m)

pub ways_forward : (program : Program) (w : Ways) → WaysForward w → WaysGo program forward w
ways_forward program w a = record { call = calls_forward program w.call a.call; after = λ m g. of_forward program m (w.after m) (a.after m) }

-- a script without statements
abbrev pub no_script : Program
no_script = record { items = []; names = [] }

-- a turn that goes on takes a unit
abbrev pub Took : State → State → Type 0
Took m n = suc n.fuel ≤ m.fuel

pub took_on : (m n r : State) → Later m n → Took n r → Took m r
took_on m n r h k = le_trans k h.fuel

pub took : (m n : State) (left : ℕ) → m.fuel ≡ suc left → Later (counted_turn left m) n → Took m n
took m n left e h = let less = h.fuel in omega arith

pub turn_forward : {C : Type 0} (program : Program) (m : State) (t : Turned C) → TurnKept program forward Took took_on took m t → TurnForward m t
turn_forward program m (GoesOn n c) h = (h.0, h.2)
turn_forward program m (Ended end n c) h = h.0
turn_forward program m (Stuck at n c) h = h.0

-- ---- waits

pub begins_again_later : {C : Type 0} (rules : Rules C) → BeginsAgainLater rules
begins_again_later {C} rules until t again other next m c h = by_time (nat_le until m.host.now || nat_le until t)
  where
    by_reading : (r : Option (Chosen ℕ C)) → chosen_reading rules t c ≡ r → nat_lt m.host.now t ≡ true → waited t r again c m ≡ waited t r other c m
    by_reading None e before = refl
    by_reading (Some r) e before = h _ r.left (ltb-true m.host.now t before) (leb-true t r.choice (and_left (nat_le t r.choice) (nat_lt r.choice (2 ^ 63)) (legal_choice (is_reading t) (rules.reading t c) r e)))

    by_before : (b : Bool) → nat_lt m.host.now t ≡ b → choose_turned b (waited t (chosen_reading rules t c) again c) next m ≡ choose_turned b (waited t (chosen_reading rules t c) other c) next m
    by_before true e = by_reading (chosen_reading rules t c) refl e
    by_before false e = refl

    by_time : (b : Bool) → choose_turned b (λ m. ends ClockEnd c (on_page (λ p. at_time (max p.now until) p) m)) (choose_turned (nat_lt m.host.now t) (waited t (chosen_reading rules t c) again c) next) m ≡ choose_turned b (λ m. ends ClockEnd c (on_page (λ p. at_time (max p.now until) p) m)) (choose_turned (nat_lt m.host.now t) (waited t (chosen_reading rules t c) other c) next) m
    by_time true = refl
    by_time false = by_before (nat_lt m.host.now t) refl
