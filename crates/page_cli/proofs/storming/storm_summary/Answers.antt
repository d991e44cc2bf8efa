use Rattle.page_cli.proofs.StormLemmas.{storm-size, storm-accepted, arrivals-size}
use Rattle.page_cli.proofs.storming.storm_summary.Goals as goal

pub read_files-requires-clause-script : goal.read_files-requires-clause-script
read_files-requires-clause-script g c = rw (c.deref.ensures.value, c.in-Ok.ensures.script) (storm-size c.args.size.turns c.args.size.has_turns.1)

pub read_files-requires-clause-arrivals : goal.read_files-requires-clause-arrivals
read_files-requires-clause-arrivals g c = rw (c.deref-2.ensures.value, c.in-Ok.ensures.arrivals) arrivals-size

pub returns-clause-refused : goal.returns-clause-refused
returns-clause-refused g c =
    let refused = rw (c.deref.ensures.value, c.in-Ok.ensures.script, c.deref-2.ensures.value, c.in-Ok.ensures.arrivals) at c.in-Err.ensures.refused in
    storm-accepted c.args.size.turns c.args.size.has_turns.1 c.in-Err.answer refused
