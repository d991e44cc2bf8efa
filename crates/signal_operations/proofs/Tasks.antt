-- What scheduler tasks and host closures have in common: an aborted signal refuses them, and their numbers have to be left.
use Rattle.std.proofs.Common.{ℕ, Bool, Option}
use Rattle.std.specs.Prelude.{◌&&◌}
use Rattle.lang_meaning.specs.Machine.{Done}
use Rattle.page_model.specs.State.{Page, State}
use Rattle.page_model.specs.Operations.{answers, last_promise_value, promise_left, registration_left, rejected_with, source_reason, where_left}

-- whether a promise and a registration are left
abbrev pub both_left : Page → Bool
both_left p = promise_left p && registration_left p

-- a promise that is rejected with the reason of an abort source
abbrev pub refused : Option ℕ → State → Done Page
refused signal m = rejected_with (source_reason m.host signal) m

-- a change of the page, which answers the last promise, where the numbers are left
abbrev pub promised_after : (Page → Page) → State → Done Page
promised_after F m = where_left (both_left m.host) m (answers last_promise_value F)
