-- What a kind of fold has.
use Rattle.std.specs.Prelude.{ℕ, ◌<◌, ⊤}
use Rattle.page_types.specs.declared.Priority.{Priority}
use Rattle.page_signals.specs.declared.opened.Kind.{Kind}
use Rattle.page_signals.specs.declared.opened.Kind.TheVariants.{Dispatch, Abort, Change}

-- the priority that a change sets, `own` for any other fold
abbrev pub to_priority : Kind → Priority → Priority
to_priority (Dispatch args) own = own
to_priority (Abort r) own = own
to_priority (Change to before) own = to

-- the reason of an abort is one of the first n
abbrev pub IsReasonAmong : ℕ → Kind → Type 0
IsReasonAmong n (Dispatch args) = ⊤
IsReasonAmong n (Abort r) = r < n
IsReasonAmong n (Change to before) = ⊤
