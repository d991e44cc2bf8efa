use Rattle.std.proofs.Common.{[], ◌++◌, map, refl, sym, ◌∙◌}
use Rattle.page_types.specs.Values.{items_of}
use Rattle.page_values.specs.Seen.{seen}
use Rattle.lang_ast.specs.SeenProgram.{seen_program}
use Rattle.lang_meaning.specs.Asks.{unasked}
use Rattle.page_interp.specs.Runs.{count_of_functions}
use Rattle.page_interp.proofs.Calls.{kept_fuel, room_for, functions_for}
use Rattle.page_interp.proofs.FromOutside.{outside_means, outside_refusals, outside_tickets, outside_numbered, outside_stands, outside_dry, first_ready, globals_ready}
use Rattle.page_interp.proofs.Numbered.{all_append, items_numbered}
use Rattle.page_interp.proofs.NumberTests.{variables_known, variables_tested}
use Rattle.page_interp.proofs.machine.Machine.call.Goals as goal

pub run_function-done-requires-clause-ready : goal.run_function-done-requires-clause-ready
run_function-done-requires-clause-ready g c = first_ready _ _ _ (rw (← c.self.view_is) at c.requires.functions) c.requires.room (variables_known _ _ c.self.invariant)

pub run_function-done-requires-clause-args : goal.run_function-done-requires-clause-args
run_function-done-requires-clause-args g c =
    rw c.in-Ok.ensures (all_append (count_of_functions (seen_program c.self.inside.code)) (items_of c.args.fun.now.bound) (map seen c.args.args.items) (items_numbered _ c.args.fun.now.bound (rw (← c.self.view_is) at c.requires.bound)) (rw (← c.self.view_is) at c.requires.args))

pub invariant_of-self : goal.invariant_of-self
invariant_of-self g c = variables_tested _ _ (globals_ready _ _ _ (c.run_function-done.ensures).ready)

pub returns-clause-meaning : goal.returns-clause-meaning
returns-clause-meaning g c = outside_means g.H.Host.rules (seen_program c.self.inside.code) c.self.inside.code c.args.self.now _ _ (record c.self.inside.store { fuel = c.args.fuel.now }) _ c.args.fun.now c.args.args (map seen c.in-Ok.all.items) c.call_end.result _ refl c.self.view_is c.in-Ok.ensures c.call_end.ensures (c.run_function-done.ensures)

pub returns-clause-stands : goal.returns-clause-stands
returns-clause-stands g c = rw (← c.self.view_is) (outside_stands g.H.Host.rules (seen_program c.self.inside.code) _ _ _ _ c.args.fun.now.function (items_of c.args.fun.now.bound ++ map seen c.args.args.items) (map seen c.in-Ok.all.items) _ _ c.in-Ok.ensures c.call_end.ensures (c.run_function-done.ensures))

pub returns-clause-refusals : goal.returns-clause-refusals
returns-clause-refusals g c = outside_refusals _ _ _ _ _ _ _ c.call_end.ensures (c.run_function-done.ensures)

pub returns-clause-tickets : goal.returns-clause-tickets
returns-clause-tickets g c = outside_tickets _ _ _ _ _ _ _ c.call_end.ensures (c.run_function-done.ensures)

pub returns-clause-numbered : goal.returns-clause-numbered
returns-clause-numbered g c = rw (← c.self.view_is) (outside_numbered _ _ _ _ _ _ _ c.call_end.ensures (c.run_function-done.ensures))

pub returns-clause-functions : goal.returns-clause-functions
returns-clause-functions g c = functions_for _ _ _ [] (c.run_function-done.ensures).ready ∙ sym (rw (← c.self.view_is) at c.requires.functions)

pub returns-clause-fuel : goal.returns-clause-fuel
returns-clause-fuel g c = kept_fuel _ _ _ _ _ [] [] (c.run_function-done.ensures)

pub returns-clause-no_fuel : goal.returns-clause-no_fuel
returns-clause-no_fuel g c = outside_dry _ _ _ _ _ _ _ c.call_end.ensures (c.run_function-done.ensures)

pub returns-clause-room : goal.returns-clause-room
returns-clause-room g c = room_for _ _ _ [] (c.run_function-done.ensures).ready

pub returns-in-Err-clause-stands : goal.returns-in-Err-clause-stands
returns-in-Err-clause-stands g c = unasked refl
