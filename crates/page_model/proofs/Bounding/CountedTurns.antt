-- The number of turns never falls, and a turn that goes on is counted; so the bound of the waits suffices in every turn of a run.
use Rattle.std.proofs.Common.{◌≡◌, ℕ, zero, suc, ◌+◌, ◌≤◌, le_refl, le_trans, Bool, true, false, refl, ap, ◌∙◌, cond, arith}
use Rattle.page_types.specs.Tree.{Program}
use Rattle.page_parts.specs.Words.{is_there}
use Rattle.lang_meaning.specs.Machine.{value_in, locals, with_local, with_value_in, Caller}
use Rattle.lang_meaning.specs.Evaluation.{call_from_outside}
use Rattle.page_model.specs.State.{Page, State}
use Rattle.page_model.specs.Operations.{page_operations}
use Rattle.page_model.specs.Choosing.{Rules}
use Rattle.page_model.specs.Parallel.{item_count}
use Rattle.page_model.specs.Turns.{Turned, GoesOn, Ended, Stuck, counted_turn, turn, next_turn, turns}
use Rattle.page_model.specs.Bounds.{BeginsWell, turn_or, row_of}
use Rattle.page_model.proofs.Bounding.Leaving.{PageKeeping, part}
use Rattle.page_model.proofs.Holding.Operations.{outside-go}
use Rattle.page_model.proofs.Holding.Turns.{TurnKept, turn-kept}
use Rattle.page_model.proofs.Bounding.Waiting.{turn-agree}

-- n has as many turns as m, or more
abbrev pub Counts : State → State → Type 0
Counts m n = m.host.turns ≤ n.host.turns

pub counts_cond : (b : Bool) (m a c : State) → Counts m a → Counts m c → Counts m (cond b a c)
counts_cond true m a c h k = h
counts_cond false m a c h k = k

pub counts_part : (p q : Page) → part q ≡ part p → p.turns ≤ q.turns
counts_part p q e = let same = ap (λ x. x.turns) e in omega arith

-- as an order on states
abbrev pub counted : PageKeeping
counted =
    record {
      states =
          record {
            Le = Counts;
            Good = λ m. Unit {0};
            same = λ m. le_refl m.host.turns;
            chain = λ a b c h k. le_trans h k;
            assign = λ m x v g. (counts_cond (is_there (value_in (locals m.open_calls) x)) m (record m { open_calls = with_local m.open_calls x v }) (record m { globals = with_value_in m.globals x v }) (le_refl m.host.turns) (le_refl m.host.turns), tt);
            open_call = λ m xs g. (le_refl m.host.turns, tt);
            close_call = λ m g. (le_refl m.host.turns, tt);
            take = λ m left e g. (le_refl m.host.turns, tt);
          };
      leave = λ m q e g. (counts_part m.host q e, tt);
      pass = λ m t h g. (le_refl m.host.turns, tt);
      count = λ m g. (omega arith, tt);
      more_signals = λ m ss h g. (le_refl m.host.turns, tt);
      give = λ m ss priority h g. (le_refl m.host.turns, tt);
      follow = λ m ss priority now s h e g. (le_refl m.host.turns, tt);
      begin = λ m s priority g. (le_refl m.host.turns, tt);
      end = λ m s g. (le_refl m.host.turns, tt);
    }

-- a turn that goes on is one more
abbrev pub OneMore : State → State → Type 0
OneMore m n = suc m.host.turns ≤ n.host.turns

pub one_more_on : (m n r : State) → Counts m n → OneMore n r → OneMore m r
one_more_on m n r h k = omega arith

pub one_more : (m n : State) (left : ℕ) → m.fuel ≡ suc left → Counts (counted_turn left m) n → OneMore m n
one_more m n left e h = h

module _ {C : Type 0} (rules : Rules C) (program : Program) (until : ℕ) (other : State → C → Turned C) (more : ℕ) where
  abbrev outside : Caller Page
  outside = call_from_outside program page_operations

  next-agree : (n : ℕ) (m : State) (t : Turned C) → TurnKept program counted OneMore one_more_on one_more m t
      → ((a : State) (c : C) → BeginsWell a → row_of (turn_or other more rules outside until) n a c ≡ turns rules outside until n a c) → next_turn t (row_of (turn_or other more rules outside until) n) ≡ next_turn t (turns rules outside until n)
  next-agree n m (GoesOn a c) h q = q a c (λ z. absurd (let counted = h.2 in omega arith))
  next-agree n m (Ended end a c) h q = refl
  next-agree n m (Stuck at a c) h q = refl

  pub row-agree : (n : ℕ) (m : State) (c : C) → BeginsWell m → row_of (turn_or other more rules outside until) n m c ≡ turns rules outside until n m c
  row-agree zero m c b = refl
  row-agree (suc n) m c b =
      ap (λ t. next_turn t (row_of (turn_or other more rules outside until) n)) (turn-agree rules outside until other (more + suc (suc (item_count m.host))) m c b (omega arith))
      ∙ next-agree n m (turn rules outside until m c) (turn-kept program counted OneMore one_more_on one_more rules outside (outside-go program counted) until m c tt) (row-agree n)
