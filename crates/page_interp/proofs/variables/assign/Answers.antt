use Rattle.std.proofs.Common.{refl, sym}
use Rattle.page_values.specs.Seen.{seen}
use Rattle.page_interp.specs.Runs.{variables_of}
use Rattle.page_interp.specs.Variables.{globals_of}
use Rattle.page_interp.proofs.Frames.{variable_at, variable_set, no_write, is_absent, is_present}
use Rattle.page_interp.proofs.variables.assign.Goals as goal

pub returns-in-Some-clause-locals : goal.returns-in-Some-clause-locals
returns-in-Some-clause-locals c =
    rw (is_present (variables_of c.args.names.now c.args.locals.now.items) c.args.name.now.name (seen c.index_mut.result.now) (variable_at c.args.names.now c.args.locals.now.items c.args.name.now.name c.in-Some.place c.index_mut.result.now c.in-Some.ensures.some c.index_mut.ensures.value c.in-Some.ensures.within))
    (variable_set c.args.names.now c.args.locals.now.items c.args.name.now.name c.in-Some.place c.args.value c.in-Some.ensures.some c.in-Some.ensures.within)

pub returns-in-Some-clause-globals : goal.returns-in-Some-clause-globals
returns-in-Some-clause-globals c =
    rw (is_present (variables_of c.args.names.now c.args.locals.now.items) c.args.name.now.name (seen c.index_mut.result.now) (variable_at c.args.names.now c.args.locals.now.items c.args.name.now.name c.in-Some.place c.index_mut.result.now c.in-Some.ensures.some c.index_mut.ensures.value c.in-Some.ensures.within))
    refl

pub returns-in-Some-place_in-clause-globals : goal.returns-in-Some-place_in-clause-globals
returns-in-Some-place_in-clause-globals c =
    rw (is_absent (variables_of c.args.names.now c.args.locals.now.items) c.args.name.now.name c.in-None.ensures.none)
    (rw c.globals.ensures at (variable_set c.globals.result.now c.args.store.now.globals.items c.args.name.now.name c.in-Some-place_in.place c.args.value c.in-Some-place_in.ensures.some c.in-Some-place_in.ensures.within))

pub returns-in-None-place_in-clause-globals : goal.returns-in-None-place_in-clause-globals
returns-in-None-place_in-clause-globals c =
    rw (is_absent (variables_of c.args.names.now c.args.locals.now.items) c.args.name.now.name c.in-None.ensures.none)
    (sym (no_write (globals_of c.args.code.now c.args.store.now) c.args.name.now.name (seen c.args.value) (rw c.globals.ensures at c.in-None-place_in.ensures.none)))
