use Rattle.std.proofs.Common.{refl}
use Rattle.page_values.specs.Seen.{seen}
use Rattle.page_values.specs.declared.Value.TheVariants as value
use Rattle.page_interp.specs.Runs.{variables_of}
use Rattle.page_interp.proofs.Frames.{variable_at, variable_set, is_absent, is_present}
use Rattle.page_interp.proofs.variables.take.Goals as goal

pub returns-in-Some-clause-taken : goal.returns-in-Some-clause-taken
returns-in-Some-clause-taken c =
    let held = variable_at c.args.names.now c.args.locals.now.items c.args.name.now.name c.in-Some.place c.index_mut.result.now c.in-Some.ensures.some c.index_mut.ensures.value c.in-Some.ensures.within in
    rw (c.replace.ensures.value, held) refl

pub returns-in-Some-clause-locals : goal.returns-in-Some-clause-locals
returns-in-Some-clause-locals c =
    rw (c.replace.ensures.after, is_present (variables_of c.args.names.now c.args.locals.now.items) c.args.name.now.name (seen c.index_mut.result.now) (variable_at c.args.names.now c.args.locals.now.items c.args.name.now.name c.in-Some.place c.index_mut.result.now c.in-Some.ensures.some c.index_mut.ensures.value c.in-Some.ensures.within))
    (variable_set c.args.names.now c.args.locals.now.items c.args.name.now.name c.in-Some.place value.Unit c.in-Some.ensures.some c.in-Some.ensures.within)

pub returns-in-Some-clause-globals : goal.returns-in-Some-clause-globals
returns-in-Some-clause-globals c =
    rw (is_present (variables_of c.args.names.now c.args.locals.now.items) c.args.name.now.name (seen c.index_mut.result.now) (variable_at c.args.names.now c.args.locals.now.items c.args.name.now.name c.in-Some.place c.index_mut.result.now c.in-Some.ensures.some c.index_mut.ensures.value c.in-Some.ensures.within))
    refl

pub returns-in-Some-place_in-clause-taken : goal.returns-in-Some-place_in-clause-taken
returns-in-Some-place_in-clause-taken c =
    let held = rw c.globals.ensures at (variable_at c.globals.result.now c.args.store.now.globals.items c.args.name.now.name c.in-Some-place_in.place c.index_mut-in-Some-place_in.result.now c.in-Some-place_in.ensures.some c.index_mut-in-Some-place_in.ensures.value c.in-Some-place_in.ensures.within) in
    rw (c.replace-in-Some-place_in.ensures.value, c.in_default.ensures.none, held) refl

pub returns-in-Some-place_in-clause-globals : goal.returns-in-Some-place_in-clause-globals
returns-in-Some-place_in-clause-globals c =
    rw (c.replace-in-Some-place_in.ensures.after, is_absent (variables_of c.args.names.now c.args.locals.now.items) c.args.name.now.name c.in_default.ensures.none)
    (rw c.globals.ensures at (variable_set c.globals.result.now c.args.store.now.globals.items c.args.name.now.name c.in-Some-place_in.place value.Unit c.in-Some-place_in.ensures.some c.in-Some-place_in.ensures.within))
