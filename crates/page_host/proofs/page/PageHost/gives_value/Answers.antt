use Rattle.lang_ast.specs.Hosts.{seen_lent}
use Rattle.page_host.proofs.Hosting.{gives-value}
use Rattle.page_host.proofs.page.PageHost.gives_value.Goals as goal

pub returns : goal.returns
returns g c = λ yes.
    gives-value g.L.Lines.keeping g.L.Lines.seen c.args.self.now c.args.op (seen_lent c.args.args.now) (rw (← c.self.view_is) (c.gives_value.ensures yes))
