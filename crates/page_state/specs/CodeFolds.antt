-- A callback of the code that is called next, as it is seen.
use Rattle.page_values.specs.Seen.{seen}
use Rattle.page_signals.specs.Seen.{when_seen}
use Rattle.page_state.specs.declared.state.folds.NextCallback.{NextCallback}
use Rattle.page_state.specs.FoldActs.{Called}

abbrev pub called_seen : NextCallback → Called
called_seen c = record { callback = seen c.callback; when = when_seen c.when }
