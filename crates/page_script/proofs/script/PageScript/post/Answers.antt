use Rattle.page_values.specs.Seen.{seen}
use Rattle.page_model.specs.Operations.{posted}
use Rattle.page_script.proofs.Lifting.{Does-wants}
use Rattle.page_script.proofs.Calling.{Does-posted}
use Rattle.page_script.proofs.script.PageScript.post.Goals as goal

pub returns-in_err-v : goal.returns-in_err-v
returns-in_err-v g c =
    Does-wants g.L.Lines.keeping (posted c.args.port (seen c.args.value)) c.args.self.now c.args.self.now _ _ c.from_residual.ensures.1 c.in_err-v.ensures.memory

pub returns-in_err-keep_post : goal.returns-in_err-keep_post
returns-in_err-keep_post g c =
    Does-wants g.L.Lines.keeping (posted c.args.port (seen c.args.value)) c.args.self.now c.keep_post.new.self _ _ c.from_residual-in_err-keep_post.ensures.1 c.in_err-keep_post.ensures.memory

pub returns : goal.returns
returns g c = Does-posted c.args.port (seen c.args.value) c.in_ok-v.v c.args.self.now c.keep_post.new.self c.in_ok-v.ensures.spelling c.in_ok-keep_post.ensures.kept c.emit.ensures
