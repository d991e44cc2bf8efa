use Rattle.std.proofs.Common.{◌∙◌, ap}
use Rattle.page_script.specs.Marks.{with_promise}
use Rattle.page_script.proofs.Marking.{marked-made}
use Rattle.page_script.proofs.marked.Marked.make.Goals as goal

pub returns-in-Ok-clause-made : goal.returns-in-Ok-clause-made
returns-in-Ok-clause-made c =
    let s = c.self.inside in
    marked-made s.notices c.make.new.self s.marks.items c.push.new.self.items c.args.mark c.in-Ok.ensures.made c.in_ok-push.ensures.items c.self.invariant
    ∙ ap (with_promise c.args.mark) c.self.view_is
