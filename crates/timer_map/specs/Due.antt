-- The completion of a timer. HTML, "Timers": run steps after a timeout
use Rattle.std.specs.Prelude.{ℕ, Option, Some, None, nat_le, if◌then◌else◌}
use Rattle.page_parts.specs.Timers.{Timers, ActiveTimer, first_timer, completed}

-- the timer, where it is due
abbrev pub where_due : ℕ → ActiveTimer → Option ActiveTimer
where_due now timer = if nat_le timer.due now then Some timer else None

-- the first active timer, where it is due
abbrev pub due_timer : ℕ → Timers → Option ActiveTimer
due_timer now t = elim (first_timer t) [ None ↦ None | Some timer ↦ where_due now timer ]

-- it completes
abbrev pub after_due : ℕ → Timers → Timers
after_due now t = elim (due_timer now t) [ None ↦ t | Some timer ↦ completed timer.start t ]
