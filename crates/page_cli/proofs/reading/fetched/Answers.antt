use Rattle.std.proofs.Common.{◌<◌, length, arith}
use Rattle.std.proofs.lemmas.Grind.{common_steps}
use Rattle.std.specs.Prelude.{IfSome}
use Rattle.page_cli.proofs.ToldLemmas.{some-content, long-file}
use Rattle.page_cli.proofs.reading.fetched.Goals as goal

pub returns-in-Ok-clause-content : goal.returns-in-Ok-clause-content
returns-in-Ok-clause-content g c =
    let long : IfSome (g.F.Folder.file c.args.folder.now c.args.name.now) (λ content. c.args.most < length content) = grind (arith, common_steps) in
    long-file c.args.most _ long

pub returns-in-Err-Failed-clause-content : goal.returns-in-Err-Failed-clause-content
returns-in-Err-Failed-clause-content g c = some-content _

pub returns-clause-content : goal.returns-clause-content
returns-clause-content g c = some-content _
