-- Promises that are settled at once, as answers.
use Rattle.page_parts.specs.Promises.{Settled}
use Rattle.lang_meaning.specs.Machine.{Done}
use Rattle.page_model.specs.State.{Page, State}
use Rattle.page_model.specs.Operations.{answers, last_promise_value, promise_left, where_left}
use Rattle.page_script.specs.Marks.{settled_at_once}

-- a new promise with this outcome is given
abbrev pub outcome_given : Settled → State → Done Page
outcome_given how m = where_left (promise_left m.host) m (answers last_promise_value (settled_at_once how))
