use Rattle.lang_ast.specs.Hosts.{ask_end}
use Rattle.page_state.specs.PageActs.{at}
use Rattle.page_operations.proofs.Plain.{Asked-same, numbered-before}
use Rattle.page_operations.proofs.Aborting.{Asked-reaches}
use Rattle.page_operations.proofs.asking.go_on.Goals as goal

pub returns-clause-asked : goal.returns-clause-asked
returns-clause-asked g c =
    let ask = ask_end c.args.ticket c.args.outcome in
    Asked-same ask _ _ c.where_numbered.ensures.same
    (Asked-reaches ask (at c.args.page.now (g.L.Lines.seen c.args.lines.now)) _ c.resume_innermost-done.ensures)

pub returns-clause-numbered : goal.returns-clause-numbered
returns-clause-numbered g c =
    let ask = ask_end c.args.ticket c.args.outcome in
    numbered-before g.L.Lines.keeping ask c.args.page.now c.resume_innermost-done.new.self _
    (Asked-same ask _ _ c.where_numbered.ensures.same
    (Asked-reaches ask (at c.args.page.now (g.L.Lines.seen c.args.lines.now)) _ c.resume_innermost-done.ensures))
    c.where_numbered.ensures.numbered
