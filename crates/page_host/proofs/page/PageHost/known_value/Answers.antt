use Rattle.lang_ast.specs.Hosts.{seen_lent}
use Rattle.page_host.proofs.Hosting.{knows-value}
use Rattle.page_host.proofs.page.PageHost.known_value.Goals as goal

pub returns : goal.returns
returns g c =
    let answers = c.known_value.ensures.answer in
    knows-value g.L.Lines.keeping g.L.Lines.seen c.args.self.now c.args.op (seen_lent c.args.args.now) c.known_value.result (rw (← c.self.view_is) answers) c.known_value.ensures.numbered
