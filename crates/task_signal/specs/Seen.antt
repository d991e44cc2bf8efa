-- The records of the code as those of the definitions.
use Rattle.std.specs.Prelude.{List, map}
use Rattle.page_parts.specs.TaskSignals.{PrioRecord, Prios}
use Rattle.task_signal.specs.declared.prios.Record.{Record}

abbrev pub record_seen : Record → PrioRecord
record_seen r =
    record { signal = r.signal; priority = r.priority; follows = r.follows; followers = r.followers.items; changing = r.changing }

abbrev pub prios_of : List Record → Prios
prios_of records = map record_seen records
