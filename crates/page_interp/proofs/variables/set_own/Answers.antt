use Rattle.page_values.specs.Seen.{seen}
use Rattle.page_interp.specs.Runs.{variables_of}
use Rattle.page_interp.proofs.Frames.{variable_at, variable_set, is_present}
use Rattle.page_interp.proofs.variables.set_own.Goals as goal

pub returns-in-Some-clause-written : goal.returns-in-Some-clause-written
returns-in-Some-clause-written c = λ _. variable_set c.args.names.now c.args.locals.now.items c.args.name.now.name c.in-Some.place c.args.value c.in-Some.ensures.some c.in-Some.ensures.within

pub returns-in-Some-clause-there : goal.returns-in-Some-clause-there
returns-in-Some-clause-there c = λ _. is_present (variables_of c.args.names.now c.args.locals.now.items) c.args.name.now.name (seen c.index_mut.result.now) (variable_at c.args.names.now c.args.locals.now.items c.args.name.now.name c.in-Some.place c.index_mut.result.now c.in-Some.ensures.some c.index_mut.ensures.value c.in-Some.ensures.within)
