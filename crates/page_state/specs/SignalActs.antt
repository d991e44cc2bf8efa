-- Pieces of what is done to signals, priorities and listeners.
use Rattle.std.specs.Prelude.{ℕ, List, Option, None, Some}
use Rattle.page_types.specs.declared.Priority.{Priority}
use Rattle.page_parts.specs.Listeners.{Target, add, off}
use Rattle.page_parts.specs.TaskSignals as prios
use Rattle.page_types.specs.Events.{Drop}
use Rattle.page_model.specs.State.{Page, emit}

-- ---- Prioritized Task Scheduling, "The TaskSignal Interface"

-- a signal is given its first priority, without the line
abbrev pub priority_given : (signal : ℕ) → Priority → Page → Page
priority_given s priority p = record p { prios = prios.give s priority p.prios }

-- a signal follows this one from now on, where there is one
abbrev pub depending : (signal : ℕ) → (follows : Option ℕ) → Page → Page
depending s None p = p
depending s (Some on) p = record p { prios = prios.depend s on p.prios }

-- ---- DOM, "Interface EventTarget"

-- a registration listens, behind all others
abbrev pub listening : Target → (name : List ℕ) → (registration : ℕ) → Page → Page
listening target name r p = record p { listeners = add target name r p.listeners }

-- a registration listens no more
abbrev pub unlistened : (registration : ℕ) → Page → Page
unlistened r p = record p { listeners = off r p.listeners }

-- with its line
abbrev pub listener_dropped : (registration : ℕ) → Page → Page
listener_dropped r p = emit (Drop r) (unlistened r p)
