use Rattle.std.proofs.Common.{◌∙◌, List, nat_eq, refl, sym, subst, ap}
use Rattle.std.proofs.lemmas.List.Sorted.{IsPermutation-refl}
use Rattle.std.specs.List.Sorted.{IsPermutation}
use Rattle.std.specs.Map.{remove_entry}
use Rattle.page_parts.specs.Timers.{Timers, completed}
use Rattle.page_model.specs.Parallel.{first_item_of}
use Rattle.timer_map.specs.Counted.{entries_of}
use Rattle.timer_map.specs.Rows.{after_first}
use Rattle.parallel_items.specs.InParallel.{InParallel, Waiting}
use Rattle.parallel_items.specs.Items.{timer_items, taken_of, left_of}
use Rattle.parallel_items.specs.Kept.{AreKeptInRows}
use Rattle.parallel_items.specs.Seen.{steps_of}
use Rattle.parallel_items.specs.contracts.items.ParallelItems.{the_view}
use Rattle.parallel_items.proofs.KeptLemmas.{kept_completed, timer_taken, timer_left}
use Rattle.parallel_items.proofs.StartedLemmas.{Row, first_started, are_there, are_found, others_stay, started_taken}
use Rattle.parallel_items.proofs.TimerLemmas.{completes}
use Rattle.parallel_items.proofs.items.ParallelItems.take_timer.Goals as goal

pub invariant_of-self-in_err-completion : goal.invariant_of-self-in_err-completion
invariant_of-self-in_err-completion c =
    let i = c.self.inside in
    let done = completes i.timers c.in_ok-due.due.0 c.in_ok-complete.field-0 c.in_ok-due.ensures c.in_ok-complete.ensures.start in
    let first = sym done.first ∙ first_started i.timers i.completions c.self.invariant.in_rows in
    absurd (are_there done.timer i.completions first c.in_err-completion.ensures.value)

pub returns-in_err-completion-clause-taken : goal.returns-in_err-completion-clause-taken
returns-in_err-completion-clause-taken c =
    let i = c.self.inside in
    let done = completes i.timers c.in_ok-due.due.0 c.in_ok-complete.field-0 c.in_ok-due.ensures c.in_ok-complete.ensures.start in
    let first = sym done.first ∙ first_started i.timers i.completions c.self.invariant.in_rows in
    absurd (are_there done.timer i.completions first c.in_err-completion.ensures.value)

pub returns-in_err-completion-clause-some : goal.returns-in_err-completion-clause-some
returns-in_err-completion-clause-some c =
    let i = c.self.inside in
    let done = completes i.timers c.in_ok-due.due.0 c.in_ok-complete.field-0 c.in_ok-due.ensures c.in_ok-complete.ensures.start in
    let first = sym done.first ∙ first_started i.timers i.completions c.self.invariant.in_rows in
    absurd (are_there done.timer i.completions first c.in_err-completion.ensures.value)

pub returns-in_err-completion-clause-left : goal.returns-in_err-completion-clause-left
returns-in_err-completion-clause-left c =
    let i = c.self.inside in
    let done = completes i.timers c.in_ok-due.due.0 c.in_ok-complete.field-0 c.in_ok-due.ensures c.in_ok-complete.ensures.start in
    let first = sym done.first ∙ first_started i.timers i.completions c.self.invariant.in_rows in
    absurd (are_there done.timer i.completions first c.in_err-completion.ensures.value)

pub invariant_of-self-2 : goal.invariant_of-self-2
invariant_of-self-2 c =
    let i = c.self.inside in
    let done = completes i.timers c.in_ok-due.due.0 c.in_ok-complete.field-0 c.in_ok-due.ensures c.in_ok-complete.ensures.start in
    let first = sym done.first ∙ first_started i.timers i.completions c.self.invariant.in_rows in
    let e = c.in_ok-completion.ensures in
    let start = c.in_ok-complete.field-0 in
    let found = are_found start done.timer done.is_start i.completions (c.in_ok-completion.field-0-0, c.in_ok-completion.completion) first e.value in
    let rest = subst (IsPermutation (remove_entry (nat_eq start) (steps_of i.completions))) (sym (others_stay start done.timer done.is_start i.completions first)) (IsPermutation-refl _) in
    let set = c.forget_delay.new.delayed.keys in
    let held = entries_of i.owners.items in
    let rows = started_taken start done.timer done.is_start i.timers i.completions c.self.invariant.in_rows first in
    let parts = kept_completed i.timers (steps_of i.completions) i.delayed.keys held c.self.invariant.parts start c.in_ok-completion.completion
    (steps_of (after_first i.completions)) set found rest c.forget_delay.ensures in
    subst (λ (t : Timers). AreKeptInRows t c.take_first.new.self set held) (sym (c.in_ok-complete.ensures.gone ∙ done.after))
    (subst (λ (rs : List Row). AreKeptInRows (completed start i.timers) rs set held) (sym e.left) (record { in_rows = rows; parts = parts }))

pub returns-clause-taken : goal.returns-clause-taken
returns-clause-taken c =
    let i = c.self.inside in
    let done = completes i.timers c.in_ok-due.due.0 c.in_ok-complete.field-0 c.in_ok-due.ensures c.in_ok-complete.ensures.start in
    let first = sym done.first ∙ first_started i.timers i.completions c.self.invariant.in_rows in
    let e = c.in_ok-completion.ensures in
    let start = c.in_ok-complete.field-0 in
    let found = are_found start done.timer done.is_start i.completions (c.in_ok-completion.field-0-0, c.in_ok-completion.completion) first e.value in
    timer_taken i.timers (steps_of i.completions) i.delayed.keys (entries_of i.owners.items) _ _ c.self.invariant.parts done c.in_ok-completion.completion found
    ∙ ap (λ (s : InParallel). taken_of (first_item_of (timer_items s.waiting.timers.active)) s.waiting.completions) c.self.view_is

pub returns-clause-left : goal.returns-clause-left
returns-clause-left c =
    let i = c.self.inside in
    let done = completes i.timers c.in_ok-due.due.0 c.in_ok-complete.field-0 c.in_ok-due.ensures c.in_ok-complete.ensures.start in
    let first = sym done.first ∙ first_started i.timers i.completions c.self.invariant.in_rows in
    let v : InParallel = the_view i in
    let e = c.in_ok-completion.ensures in
    let start = c.in_ok-complete.field-0 in
    let rest = subst (IsPermutation (remove_entry (nat_eq start) (steps_of i.completions))) (sym (others_stay start done.timer done.is_start i.completions first)) (IsPermutation-refl _) in
    ap (λ (t : Timers). the_view (record i { timers = t; completions = c.take_first.new.self; delayed = c.forget_delay.new.delayed })) (c.in_ok-complete.ensures.gone ∙ done.after)
    ∙ ap (λ (rs : List Row). the_view (record i { timers = completed start i.timers; completions = rs; delayed = c.forget_delay.new.delayed })) e.left
    ∙ ap (λ (w : Waiting). record v { waiting = w })
    (timer_left i.timers (steps_of i.completions) i.delayed.keys (entries_of i.owners.items) _ _ c.self.invariant.parts done v.waiting refl refl (steps_of (after_first i.completions)) rest)
    ∙ ap (λ (s : InParallel). record s { waiting = left_of (first_item_of (timer_items s.waiting.timers.active)) s.waiting }) c.self.view_is
