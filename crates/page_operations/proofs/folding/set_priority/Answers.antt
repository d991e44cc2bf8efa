use Rattle.std.proofs.Common.{true, false, not, ap, sym, ◌∙◌}
use Rattle.page_values.specs.Seen.{seen}
use Rattle.page_operations.proofs.Aborting.{change-refused, priority-refused, none-refused, changing-refused, change-reaches, there-is}
use Rattle.page_operations.proofs.folding.set_priority.Goals as goal

pub returns-in_default : goal.returns-in_default
returns-in_default g c =
    change-refused c.args.page.now (g.L.Lines.seen c.args.lines.now) (seen c.args.controller.now) (seen c.args.priority.now) c.throw.result c.in_default.ensures c.throw.ensures

pub returns-in_default-priority_in : goal.returns-in_default-priority_in
returns-in_default-priority_in g c =
    priority-refused c.args.page.now (g.L.Lines.seen c.args.lines.now) c.in-Some.s (seen c.args.controller.now) (seen c.args.priority.now) c.throw-in_default-priority_in.result
    c.in-Some.ensures c.in_default-priority_in.ensures c.throw-in_default-priority_in.ensures

pub returns-then-is_none : goal.returns-then-is_none
returns-then-is_none g c =
    none-refused c.args.page.now c.in-Some.s c.in-Some-priority_in.priority (seen c.args.controller.now) (seen c.args.priority.now) c.in-Some.ensures c.in-Some-priority_in.ensures
    (g.L.Lines.seen c.args.lines.now) c.throw-then-is_none.result
    (there-is c.priority_of.result _ false (c.is_none.ensures ∙ ap not c.if-is_none.true) c.priority_of.ensures) c.throw-then-is_none.ensures

pub returns-then-is_changing : goal.returns-then-is_changing
returns-then-is_changing g c =
    changing-refused c.args.page.now c.in-Some.s c.in-Some-priority_in.priority (seen c.args.controller.now) (seen c.args.priority.now) c.in-Some.ensures c.in-Some-priority_in.ensures
    (g.L.Lines.seen c.args.lines.now) c.throw-then-is_changing.result
    (there-is c.priority_of.result _ true (c.is_none.ensures ∙ ap not c.if-is_none.false) c.priority_of.ensures)
    (sym c.if-is_changing.true ∙ c.is_changing.ensures) c.throw-then-is_changing.ensures

pub returns : goal.returns
returns g c =
    change-reaches c.args.page.now c.in-Some.s c.in-Some-priority_in.priority (seen c.args.controller.now) (seen c.args.priority.now) c.in-Some.ensures c.in-Some-priority_in.ensures _
    (there-is c.priority_of.result _ true (c.is_none.ensures ∙ ap not c.if-is_none.false) c.priority_of.ensures)
    (sym c.if-is_changing.false ∙ c.is_changing.ensures) c.begin_change.ensures
