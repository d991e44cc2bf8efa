use Rattle.std.proofs.Common.{List, take, sym, subst}
use Rattle.lang_ast.specs.Names.{Occurrence}
use Rattle.lang_names.specs.Collected.{seen_all}
use Rattle.lang_names.specs.Knows.{Knows}
use Rattle.lang_names.proofs.Firsts.{one_more}
use Rattle.lang_names.proofs.checking.all_names.Goals as goal

pub loop-occurrence-preserved : goal.loop-occurrence-preserved
loop-occurrence-preserved c =
    let KnowsThese : List Occurrence → Type 0 = λ os. Knows c.add.new.self os in
    subst KnowsThese (sym (one_more c.args.occurrences.now c.loop-occurrence.occurrence-index c.occurrence-item.result c.occurrence-item.is c.loop-occurrence-test.true))
    (c.in_ok-add.ensures (seen_all (take c.loop-occurrence.occurrence-index c.args.occurrences.now)) c.loop-occurrence.invariant)
