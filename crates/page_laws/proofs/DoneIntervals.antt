-- Where a run ends for nothing is left to do, each interval was dropped: one that was not waits in an active timer or as a task, and neither is there then.
use Rattle.std.proofs.Common.{◌≡◌, ◌⊎◌, inl, inr, ℕ, zero, suc, true, false, List, Option, Some, None, refl, sym, ◌∙◌, arith}
use Rattle.page_types.specs.declared.RegKind.{RegKind}
use Rattle.page_types.specs.declared.RegKind.TheVariants as kind
use Rattle.page_types.specs.Tree.{Program}
use Rattle.page_parts.specs.HostClosures.{HostClosure}
use Rattle.page_parts.specs.Setup.{Setup}
use Rattle.page_parts.specs.Words.{is_empty}
use Rattle.page_model.specs.State.{Page, OfKind, Role, ScriptRole}
use Rattle.page_model.specs.Turns.{first_page, is_pending}
use Rattle.page_model.specs.View.{view}
use Rattle.page_laws.specs.History.{has_kind, is_some_and, kind_of, registered, was_dropped}
use Rattle.page_laws.specs.SchedulerLaws.{intervals_are_over, is_interval}
use Rattle.page_laws.specs.Moves.{Awaits, IntervalsWait, Moves, TimerWaits, in_steps, in_task, role_at}
use Rattle.page_laws.proofs.AtEnd.{done_test, moves-kept}
use Rattle.page_laws.proofs.Deadlines.{all-filter}
use Rattle.page_laws.proofs.DoneArms.{none-in, nothing-pending}
use Rattle.page_laws.proofs.DoneTimeout.{none-runs}
use Rattle.page_laws.proofs.DueOrder.{Grounds, first-grounds, grounds-later}
use Rattle.page_laws.proofs.Framed.{false_true}
use Rattle.page_laws.proofs.Paired.{Paired, first-paired, moves-paired}
use Rattle.page_laws.proofs.Registered.{kind_in_role, some-line}
use Rattle.page_laws.proofs.Scans.{Test, Kept}

interval_kind : (o : Option RegKind) → is_some_and is_interval o ≡ true → o ≡ Some kind.Interval
interval_kind None h = absurd (false_true h)
interval_kind (Some kind.Interval) h = refl
interval_kind (Some k) h = absurd (false_true h)

interval_role : (role : Role) → kind_in_role role ≡ Some kind.Interval → role ≡ OfKind kind.Interval
interval_role ScriptRole h = Prim.cc
interval_role (OfKind kind.Interval) h = refl
interval_role (OfKind k) h = Prim.cc

all-over : (p : Page) → Grounds p → Paired p → IntervalsWait p → is_empty (view p) ≡ true → is_pending p ≡ false → intervals_are_over p.events ≡ true
all-over p g paired f h pending = all-filter (has_kind is_interval p.events) (was_dropped p.events) (registered p.events) each
  where
    none : (r : ℕ) → TimerWaits r p.completions p.tasks → ⊥
    none r w = by_place w.place
      where
        by_place : Awaits w.timer p.completions p.tasks → ⊥
        by_place (in_steps c i e) = let a = paired c i in none-in a.timer p.timers.active (nothing-pending p pending).active a.there
        by_place (in_task k) = none-runs p h k.task k.there k.source

    by_wait : (r : ℕ) → was_dropped p.events r ≡ true ⊎ TimerWaits r p.completions p.tasks → was_dropped p.events r ≡ true
    by_wait r (inl d) = d
    by_wait r (inr w) = absurd (none r w)

    by_number : (r : ℕ) → kind_of p.events r ≡ Some kind.Interval → was_dropped p.events r ≡ true
    by_number zero k = absurd (false_true (sym g.idle.none ∙ some-line p.events 0 kind.Interval k))
    by_number (suc i) k = by_wait (suc i) (f (suc i) (omega arith) (interval_role (role_at p.registrations (suc i)) (sym (g.once.kinds.tie (suc i) (omega arith)) ∙ k)))

    each : (r : ℕ) → has_kind is_interval p.events r ≡ true → was_dropped p.events r ≡ true
    each r is = by_number r (interval_kind (kind_of p.events r) is)

abbrev pub intervals_over_test : Test
intervals_over_test = done_test intervals_are_over

pub intervals_over_at_end : (program : Program) (setup : Setup) (hosts : List HostClosure) {q : Page} → Moves (first_page program setup hosts) q → Kept intervals_over_test q.events
intervals_over_at_end program setup hosts a =
    moves-kept intervals_are_over a (λ r b z none. all-over r (grounds-later b (first-grounds program setup hosts)) (moves-paired b (first-paired program setup hosts)) z.2 z.0 z.1) tt
