use Rattle.std.proofs.Common.{sym}
use Rattle.page_values.specs.Seen.{seen}
use Rattle.page_script.proofs.Making.{Does-own_item}
use Rattle.page_script.proofs.script.PageScript.item.Goals as goal

pub returns-in-Some-clause-does : goal.returns-in-Some-clause-does
returns-in-Some-clause-does g c = Does-own_item g.L.Lines.keeping (seen c.args.value) c.in-Some.n c.args.self.now _ (sym c.in-Some.ensures)
