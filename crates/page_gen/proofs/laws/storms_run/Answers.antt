use Rattle.page_gen.proofs.Running.{storm_is_script}
use Rattle.page_gen.proofs.Setting.{storm_sets_up}
use Rattle.page_gen.proofs.laws.storms_run.Goals as goal

pub returns-clause-script : goal.returns-clause-script
returns-clause-script c = storm_is_script

pub returns-clause-arrivals : goal.returns-clause-arrivals
returns-clause-arrivals c = storm_sets_up
