use Rattle.page_operations.proofs.promises.promise.Goals as goal

pub returns : goal.returns
returns g c = c.make_promise.ensures (g.L.Lines.seen c.args._lines.now)
