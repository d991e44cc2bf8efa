use Rattle.page_values.specs.Seen.{seen}
use Rattle.signal_operations.proofs.Parsing.{list-signals, no-signals}
use Rattle.signal_operations.proofs.arguments.signals_in.Goals as goal

pub returns-in-Some-clause-numbers : goal.returns-in-Some-clause-numbers
returns-in-Some-clause-numbers c =
    rw (list-signals (seen c.args.value.now) c.in-Some.items.now c.items.result.now c.in-Some.ensures c.items.ensures.items) at c.all_signals.ensures.numbers

pub returns-in-None-clause-numbers : goal.returns-in-None-clause-numbers
returns-in-None-clause-numbers c = no-signals (seen c.args.value.now) c.in-None.ensures
