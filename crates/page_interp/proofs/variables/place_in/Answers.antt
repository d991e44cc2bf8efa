use Rattle.std.proofs.Common.{◌≡◌, ◌==◌, true, arith, subst, sym, ◌∙◌}
use Rattle.page_interp.proofs.Frames.{no_variable, variable_past, no_values_held}
use Rattle.page_interp.proofs.NameIndex.{none_left}
use Rattle.page_interp.proofs.variables.place_in.Goals as goal

pub returns-in_default-clause-none : goal.returns-in_default-clause-none
returns-in_default-clause-none c = no_variable c.args.names.now c.args.values.now.items c.args.name.now (sym c.in_default.is ∙ c.place_near.ensures)

pub returns-clause-none : goal.returns-clause-none
returns-clause-none c = variable_past c.args.names.now c.args.values.now.items c.args.name.now c.in-Some.place (sym c.place_near.ensures ∙ c.in-Some.is) (omega arith)

pub returns-then-is_empty-clause-none : goal.returns-then-is_empty-clause-none
returns-then-is_empty-clause-none c = no_values_held c.args.names.now c.args.values.now.items c.args.name.now (none_left c.args.values.now.items (subst (λ n. true ≡ (n == 0)) c.args.values.now.ok.0 c.if-is_empty.ensures))
