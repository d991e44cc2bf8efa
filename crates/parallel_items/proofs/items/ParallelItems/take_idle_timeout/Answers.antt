use Rattle.std.proofs.Common.{◌∙◌, sym, ap}
use Rattle.std.specs.Option.{option_map}
use Rattle.page_parts.specs.Words.{is_there}
use Rattle.page_model.specs.Parallel.{first_item_of}
use Rattle.parallel_items.specs.InParallel.{InParallel, Waiting}
use Rattle.parallel_items.specs.Items.{idle_items}
use Rattle.parallel_items.specs.Seen.{taken_seen}
use Rattle.parallel_items.specs.contracts.items.ParallelItems.{the_view}
use Rattle.parallel_items.proofs.FirstLemmas.{seen_takes}
use Rattle.parallel_items.proofs.items.ParallelItems.take_idle_timeout.Goals as goal

pub returns-in_err-timeout : goal.returns-in_err-timeout
returns-in_err-timeout c =
    let v : InParallel = the_view c.self.inside in
    let e = c.in_err-timeout.ensures in
    let none = ap (option_map taken_seen) c.from_residual.ensures in
    seen_takes (λ (s : InParallel). first_item_of (idle_items s.waiting.idle_timers)) v _ _ _ c.self.view_is
    (record { taken = none ∙ e.taken v.waiting.completions; some = ap is_there none ∙ e.some; left = ap (λ n. record v { waiting = record v.waiting { idle_timers = c.take_first.new.self.timers }; last_idle = n }) e.last ∙ sym (ap (λ (w : Waiting). record v { waiting = w }) (e.left v.waiting)) })

pub returns : goal.returns
returns c =
    let v : InParallel = the_view c.self.inside in
    let e = c.in_ok-timeout.ensures in
    seen_takes (λ (s : InParallel). first_item_of (idle_items s.waiting.idle_timers)) v _ _ _ c.self.view_is
    (record { taken = e.taken v.waiting.completions; some = e.some; left = ap (λ n. record v { waiting = record v.waiting { idle_timers = c.take_first.new.self.timers }; last_idle = n }) e.last ∙ sym (ap (λ (w : Waiting). record v { waiting = w }) (e.left v.waiting)) })
