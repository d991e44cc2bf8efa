use Rattle.std.proofs.Common.{ℕ, map, subst}
use Rattle.page_types.specs.Values.{Values}
use Rattle.page_values.specs.Seen.{seen}
use Rattle.page_values.specs.Written.{AreNumbered}
use Rattle.lang_ast.specs.Steps.{AllNumbered}
use Rattle.page_interp.specs.Machines.{functions_in}
use Rattle.page_host.specs.StateActs.{RanOut}
use Rattle.page_host.proofs.Calls.{all-numbered, functions-of}
use Rattle.page_host.proofs.Composing.{runs-wanted}
use Rattle.page_host.proofs.page.Page.call_back.Goals as goal

pub returns-then-not-are_numbered : goal.returns-then-not-are_numbered
returns-then-not-are_numbered g c = runs-wanted _ RanOut _ _ c.wanting.ensures.why c.wanting.ensures.stopped

pub run-requires-clause-bound : goal.run-requires-clause-bound
run-requires-clause-bound g c =
    let n = functions_in c.args.machine.now in
    let vs = map seen c.items.result.now in
    let P : Values → Type 0 = λ xs. AreNumbered n xs in
    let Q : ℕ → Type 0 = λ j. AllNumbered j vs in
    subst P c.items.ensures.items (all-numbered n vs (subst Q (functions-of c.self.view_is c.self.invariant c.requires) (c.are_numbered.ensures.0 c.if-not-are_numbered.false)))
