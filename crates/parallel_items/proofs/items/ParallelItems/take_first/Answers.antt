use Rattle.timer_map.specs.Counted.{entries_of}
use Rattle.std.proofs.Common.{◌≡◌, ◌∙◌, sym, ap}
use Rattle.parallel_items.specs.InParallel.{InParallel, Waiting}
use Rattle.parallel_items.specs.Items.{first_waiting, due_of}
use Rattle.parallel_items.specs.Seen.{steps_of}
use Rattle.parallel_items.proofs.FirstLemmas.{arrival, answer, timer, is_arrival, is_answer, is_timer, is_idle, same_due, other_due, same_takes}
use Rattle.parallel_items.proofs.KeptLemmas.{timer_due}
use Rattle.parallel_items.proofs.items.ParallelItems.take_first.Goals as goal

pub returns-then-eq : goal.returns-then-eq
returns-then-eq c =
    let w : Waiting = c.args.self.now.waiting in
    let a = c.next_due.ensures ∙ ap (λ (s : InParallel). due_of (arrival s.waiting)) c.self.view_is in
    let first = is_arrival w (sym a ∙ same_due _ _ (sym c.eq.ensures ∙ c.if-eq.true) ∙ c.next_due-due.ensures) in
    same_takes _ _ _ _ _ first c.take_arrival.ensures

pub returns-then-eq-2 : goal.returns-then-eq-2
returns-then-eq-2 c =
    let w : Waiting = c.args.self.now.waiting in
    let a = c.next_due.ensures ∙ ap (λ (s : InParallel). due_of (arrival s.waiting)) c.self.view_is in
    let b = c.next_due-else-eq.ensures ∙ ap (λ (s : InParallel). due_of (answer s.waiting)) c.self.view_is in
    let other : due_of (arrival w) ≡ due_of (first_waiting w) → ⊥ = λ e. other_due _ _ (sym c.eq.ensures ∙ c.if-eq.false) (a ∙ e ∙ sym c.next_due-due.ensures) in
    let first = is_answer w other (sym b ∙ same_due _ _ (sym c.eq-else-eq.ensures ∙ c.if-eq-2.true) ∙ c.next_due-due.ensures) in
    same_takes _ _ _ _ _ first c.take_answer.ensures

pub returns-then-eq-3 : goal.returns-then-eq-3
returns-then-eq-3 c =
    let w : Waiting = c.args.self.now.waiting in
    let i = c.self.inside in
    let a = c.next_due.ensures ∙ ap (λ (s : InParallel). due_of (arrival s.waiting)) c.self.view_is in
    let b = c.next_due-else-eq.ensures ∙ ap (λ (s : InParallel). due_of (answer s.waiting)) c.self.view_is in
    let t = c.next_due-else-eq-2.ensures ∙ timer_due i.timers (steps_of i.completions) i.delayed.keys (entries_of i.owners.items) c.self.invariant.parts
    ∙ ap (λ (s : InParallel). due_of (timer s.waiting)) c.self.view_is in
    let other : due_of (arrival w) ≡ due_of (first_waiting w) → ⊥ = λ e. other_due _ _ (sym c.eq.ensures ∙ c.if-eq.false) (a ∙ e ∙ sym c.next_due-due.ensures) in
    let another : due_of (answer w) ≡ due_of (first_waiting w) → ⊥ = λ e. other_due _ _ (sym c.eq-else-eq.ensures ∙ c.if-eq-2.false) (b ∙ e ∙ sym c.next_due-due.ensures) in
    let first = is_timer w other another (sym t ∙ same_due _ _ (sym c.eq-else-eq-2.ensures ∙ c.if-eq-3.true) ∙ c.next_due-due.ensures) in
    same_takes _ _ _ _ _ first c.take_completion.ensures

pub returns-else-eq-3 : goal.returns-else-eq-3
returns-else-eq-3 c =
    let w : Waiting = c.args.self.now.waiting in
    let i = c.self.inside in
    let a = c.next_due.ensures ∙ ap (λ (s : InParallel). due_of (arrival s.waiting)) c.self.view_is in
    let b = c.next_due-else-eq.ensures ∙ ap (λ (s : InParallel). due_of (answer s.waiting)) c.self.view_is in
    let t = c.next_due-else-eq-2.ensures ∙ timer_due i.timers (steps_of i.completions) i.delayed.keys (entries_of i.owners.items) c.self.invariant.parts
    ∙ ap (λ (s : InParallel). due_of (timer s.waiting)) c.self.view_is in
    let other : due_of (arrival w) ≡ due_of (first_waiting w) → ⊥ = λ e. other_due _ _ (sym c.eq.ensures ∙ c.if-eq.false) (a ∙ e ∙ sym c.next_due-due.ensures) in
    let another : due_of (answer w) ≡ due_of (first_waiting w) → ⊥ = λ e. other_due _ _ (sym c.eq-else-eq.ensures ∙ c.if-eq-2.false) (b ∙ e ∙ sym c.next_due-due.ensures) in
    let third : due_of (timer w) ≡ due_of (first_waiting w) → ⊥ = λ e. other_due _ _ (sym c.eq-else-eq-2.ensures ∙ c.if-eq-3.false) (t ∙ e ∙ sym c.next_due-due.ensures) in
    same_takes _ _ _ _ _ (is_idle w other another third) c.take_idle_timeout.ensures
