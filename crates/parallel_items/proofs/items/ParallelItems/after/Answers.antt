use Rattle.std.proofs.Common.{◌∙◌, ◌+◌, ◌*◌, suc, List, sym, subst, ap, add-one, refl}
use Rattle.timer_map.specs.Counted.{entries_of}
use Rattle.timer_map.specs.Rows.{with_due}
use Rattle.page_parts.specs.Timers.{Timers, run_after}
use Rattle.page_model.specs.State.{Completing}
use Rattle.parallel_items.specs.InParallel.{InParallel}
use Rattle.parallel_items.specs.Kept.{AreKeptInRows}
use Rattle.parallel_items.specs.Seen.{completion_seen, steps_of}
use Rattle.parallel_items.specs.Steps.{delay_started, is_delayed}
use Rattle.parallel_items.specs.contracts.items.ParallelItems.{the_view}
use Rattle.parallel_items.proofs.KeptLemmas.{kept_delays, kept_delayed, completings_put}
use Rattle.parallel_items.proofs.StartedLemmas.{Row, steps_added, started_added}
use Rattle.parallel_items.proofs.items.ParallelItems.after.Goals as goal

pub invariant_of-self-2 : goal.invariant_of-self-2
invariant_of-self-2 c =
    let i = c.self.inside in
    let t = i.timers in
    let held = entries_of i.owners.items in
    let kept = c.self.invariant.parts in
    let v = c.args.completion in
    let due = c.args.now.0 + c.args.ms * 1000 in
    let next = sym (add-one t.starts_made) in
    let added = c.in_ok-add.ensures.added ∙ ap (λ n. with_due due (n, v) i.completions) (ap (λ n. n + 1) c.starts_made-start.ensures ∙ add-one t.starts_made) in
    let room = kept_delays t (steps_of i.completions) i.delayed.keys held kept c.reserve.new.self.keys c.in_ok-reserve.ensures.keys.2 in
    let put = steps_added due t.starts_made (suc t.starts_made) v i.completions next kept.numbered in
    let rows = started_added t (run_after c.args.ms c.args.now.0 t) due v i.completions c.self.invariant.in_rows next refl in
    let parts = kept_delayed t (steps_of i.completions) c.reserve.new.self.keys held room (run_after c.args.ms c.args.now.0 t) v due
    (steps_of (with_due due (suc t.starts_made, v) i.completions)) c.note_delay.new.delayed.keys next refl put c.note_delay.ensures
    (λ r is. ap (λ (s : InParallel). is_delayed r s.waiting) c.self.view_is ∙ c.requires.once r is) refl refl in
    subst (λ (u : Timers). AreKeptInRows u c.add.new.self c.note_delay.new.delayed.keys held) (sym c.in_default.ensures.set)
    (subst (λ (rs : List Row). AreKeptInRows (run_after c.args.ms c.args.now.0 t) rs c.note_delay.new.delayed.keys held) (sym added)
    (record { in_rows = rows; parts = parts }))

pub returns-clause-started : goal.returns-clause-started
returns-clause-started c =
    let i = c.self.inside in
    let t = i.timers in
    let v : InParallel = the_view i in
    let due = c.args.now.0 + c.args.ms * 1000 in
    let next = sym (add-one t.starts_made) in
    let added = c.in_ok-add.ensures.added ∙ ap (λ n. with_due due (n, c.args.completion) i.completions) (ap (λ n. n + 1) c.starts_made-start.ensures ∙ add-one t.starts_made) in
    let put = steps_added due t.starts_made (suc t.starts_made) c.args.completion i.completions next c.self.invariant.parts.numbered in
    let steps = completings_put t.starts_made (suc t.starts_made) c.args.completion (steps_of i.completions) (steps_of (with_due due (suc t.starts_made, c.args.completion) i.completions)) next
    c.self.invariant.parts.numbered put in
    ap (λ (u : Timers). the_view (record i { timers = u; completions = c.add.new.self; delayed = c.note_delay.new.delayed })) c.in_default.ensures.set
    ∙ ap (λ (rs : List Row). the_view (record i { timers = run_after c.args.ms c.args.now.0 t; completions = rs; delayed = c.note_delay.new.delayed })) added
    ∙ ap (λ (cs : List Completing). record v { waiting = record v.waiting { timers = run_after c.args.ms c.args.now.0 t; completions = cs } }) steps
    ∙ ap (delay_started c.args.ms c.args.now.0 (completion_seen c.args.completion)) c.self.view_is
