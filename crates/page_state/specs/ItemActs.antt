-- Taking one item of what goes on in parallel. HTML, "Event loops: processing model"
use Rattle.std.specs.Prelude.{ℕ, Bool, true, false, if◌then◌else◌, Option, None, Some, nat_lt}
use Rattle.page_types.specs.Events.{Due}
use Rattle.page_model.specs.State.{PrioSource, Page, the_registration, emit}
use Rattle.page_model.specs.PageSignals.{is_aborted_source}
use Rattle.page_model.specs.SchedulerTasks.{enqueue}
use Rattle.page_model.specs.Parallel.{due_item, first_item, take_item}

-- the first item is taken, where it is due
abbrev pub item_taken : Page → Page
item_taken p = elim (due_item p.now (first_item p)) [ None ↦ p | Some a ↦ take_item a.what p ]

-- the completion steps of a delayed `postTask`
abbrev pub post_completed : (registration : ℕ) → PrioSource → Page → Page
post_completed r source p =
    (if is_aborted_source p (the_registration p r).signal then (λ q. q) else enqueue r source false) (emit (Due r) p)

-- whether a moment is before another, which may be absent
abbrev pub before_due : ℕ → Option ℕ → Bool
before_due t None = true
before_due t (Some due) = nat_lt t due
