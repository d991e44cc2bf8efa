-- The marks of closures, computed on small traces, and tables that no trace of these leaves.
use Rattle.std.proofs.Common.{◌≡◌, inl, inr, ℕ, zero, suc, Bool, true, false, List, [], ◌∷◌, Option, Some, None, refl, sym, ap, ◌∙◌, eqb-true, pos, Ok, codes, reverse, ◌||◌}
use Rattle.std.specs.Prelude.{◌==◌, option_map}
use Rattle.page_types.specs.declared.End.TheVariants as end
use Rattle.page_types.specs.declared.HostKind.TheVariants.{Square}
use Rattle.page_types.specs.declared.HostMark.{HostMark}
use Rattle.page_types.specs.declared.HostMark.TheVariants.{Live, Queued, Fired, Dropped}
use Rattle.page_types.specs.declared.RegKind.TheVariants as kind
use Rattle.page_types.specs.declared.Source.TheVariants.{Dom, Timer, Net}
use Rattle.page_types.specs.Events.{ReactJob, Turn, Wait, Call, Ret, Reg, Arm, Due, Drop, Abort, Job, Run, Settle, Host, Log, EndLine, Stamped}
use Rattle.page_parts.specs.HostClosures.{HostClosure}
use Rattle.page_laws.specs.Moves.{IsIn}
use Rattle.page_laws.specs.ClosureMarks.{Ask, HasMark, MarksFollow, has_asked, mark_after, mark_unanswered}
use Rattle.page_laws.proofs.ClosureAsks.{AskFound, has-asked, no_some, unsome}
use Rattle.page_laws.proofs.ClosureSteps.{asker-own}
use Rattle.page_laws.proofs.Finding.{false_true}
use Rattle.page_laws.proofs.LawExamples.{at}

-- `var c = controller(); fn f(v) { log(v); } fn k() { abort(c, unit); } then(host(0, 7, signal(c)), f, f); setTimeout(k, 1);`, where the
-- answer of closure 0 takes a millisecond: it is due when the signal is aborted, and its task has not begun
abbrev dropped_when_due : List Stamped
dropped_when_due =
    at 0 (Turn 1 (Some Dom))
    ∷ at 0 (Call 1)
    ∷ at 0 (Reg 2 kind.Host None)
    ∷ at 0 (Arm 2 1000 0)
    ∷ at 0 (Reg 3 kind.Then None)
    ∷ at 0 (Reg 4 kind.Timeout None)
    ∷ at 0 (Arm 4 1000 1)
    ∷ at 0 Ret
    ∷ at 1000 (Wait 1000)
    ∷ at 1000 (Due 2)
    ∷ at 1000 (Due 4)
    ∷ at 1000 (Turn 2 (Some Timer))
    ∷ at 1000 (Call 4)
    ∷ at 1000 (Abort 1)
    ∷ at 1000 (Settle 1 false (codes "AbortError(\"\")"))
    ∷ at 1000 (Job 1 (ReactJob 1))
    ∷ at 1000 (Drop 2)
    ∷ at 1000 Ret
    ∷ at 1000 (Run 1)
    ∷ at 1000 (Call 3)
    ∷ at 1000 (Log (codes "AbortError(\"\")"))
    ∷ at 1000 Ret
    ∷ at 1000 (Settle 2 true (codes "unit"))
    ∷ at 1000 (Turn 3 (Some Net))
    ∷ at 1000 (EndLine end.Done)
    ∷ []

-- registration 2 asked closure 0
abbrev two_asked : List Ask
two_asked = record { registration = 2; closure = 0 } ∷ []

closure_is_dropped : mark_after (reverse dropped_when_due) two_asked 0 Live ≡ Dropped
closure_is_dropped = refl

other_closure_stays_live : mark_after (reverse dropped_when_due) two_asked 1 Live ≡ Live
other_closure_stays_live = refl

other_closure_stays_fired : mark_after (reverse dropped_when_due) two_asked 1 Fired ≡ Fired
other_closure_stays_fired = refl

asked_closure_is_waited_for : mark_after (at 0 (Reg 2 kind.Host None) ∷ []) two_asked 0 Live ≡ Queued
asked_closure_is_waited_for = refl

closure_is_fired : mark_after (at 3000 (Host 0 (pos 7) (Ok (pos 49))) ∷ at 3000 (Due 2) ∷ at 0 (Reg 2 kind.Host None) ∷ []) two_asked 0 Live ≡ Fired
closure_is_fired = refl

-- a table of one closure that was never asked
abbrev one_closure : HostMark → List HostClosure
one_closure mark = record { kind = Square; low = pos 0; high = pos 9; mark = mark } ∷ []

-- who asked stands among the asks
asked-by : (asks : List Ask) (r : ℕ) → has_asked asks r ≡ true → (k : ℕ) → ((a : Ask) → IsIn a asks → a.closure ≡ k) → AskFound asks k r
asked-by [] r h k all = absurd (false_true h)
asked-by (a ∷ more) r h k all = by_number (a.registration == r) refl h (λ g. asked-by more r g k (λ b i. all b (inr i)))
  where
    by_number : (b : Bool) → (a.registration == r) ≡ b → b || has_asked more r ≡ true → (has_asked more r ≡ true → AskFound more k r) → AskFound (a ∷ more) k r
    by_number true q h rest = record { ask = a; there = inl refl; closure = all a (inl refl); registration = eqb-true a.registration r q }
    by_number false q h rest = let f = rest h in record { ask = f.ask; there = inr f.there; closure = f.closure; registration = f.registration }

-- it is dropped behind these lines, whatever was asked: no other mark follows them
only_dropped : (asks : List Ask) (mark : HostMark) → MarksFollow asks (one_closure Live) (reverse dropped_when_due) (one_closure mark) → mark ≡ Dropped
only_dropped asks mark f =
    let asker = asker-own asks (one_closure Live) (reverse dropped_when_due) (one_closure mark) 0 2 f (asked-by asks 2 (f.askers 2) 0 (λ a i. first a.closure (f.live a i))) in
    unsome mark (mark_after (reverse dropped_when_due) asks 0 Live) (ap {A = Option HostClosure} {B = Option HostMark} (λ o. option_map (λ c. c.mark) o) (f.marks 0))
    ∙ ap {A = Option ℕ} {B = HostMark} (λ o. mark_unanswered (reverse dropped_when_due) o Live) asker
  where
    first : (k : ℕ) → HasMark Live (one_closure Live) k → k ≡ 0
    first zero e = refl
    first (suc k) e = absurd (no_some Live e)

-- and no lines fire what no line answers
only_live : (asks : List Ask) (mark : HostMark) → MarksFollow asks (one_closure Live) [] (one_closure mark) → mark ≡ Live
only_live [] mark f = unsome mark Live (ap {A = Option HostClosure} {B = Option HostMark} (λ o. option_map (λ c. c.mark) o) (f.marks 0))
only_live (a ∷ asks) mark f = absurd (false_true (sym (f.askers a.registration) ∙ has-asked (a ∷ asks) a (inl refl)))
