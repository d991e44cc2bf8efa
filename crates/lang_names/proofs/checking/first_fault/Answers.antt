use Rattle.std.proofs.Common.{List, take, sym, ap, subst, ◌∙◌}
use Rattle.std.specs.Option.{option_map}
use Rattle.lang_ast.specs.Names.{Occurrence}
use Rattle.lang_ast.specs.NameFaults.{fault_at}
use Rattle.lang_names.specs.Collected.{seen_all}
use Rattle.lang_names.specs.Knows.{Knows}
use Rattle.lang_names.specs.Told.{seen_fault}
use Rattle.lang_names.proofs.Firsts.{one_more, none_more, fault_here, none_at_all}
use Rattle.lang_names.proofs.checking.first_fault.Goals as goal

pub returns-in-Some : goal.returns-in-Some
returns-in-Some c =
    let xs = c.args.occurrences.now in
    let i = c.loop-occurrence.occurrence-index in
    record {
      place = i;
      here =
          fault_here xs i c.occurrence-item.result c.occurrence-item.is c.loop-occurrence-test.true
          ∙ (sym (c.fault_of.ensures (seen_all xs) (seen_all (take i xs)) c.in_ok-all.ensures c.loop-occurrence.invariant.before) ∙ ap (option_map seen_fault) c.in-Some.is);
      first = c.loop-occurrence.invariant.none;
    }

pub loop-occurrence-preserved : goal.loop-occurrence-preserved
loop-occurrence-preserved c =
    let xs = c.args.occurrences.now in
    let i = c.loop-occurrence.occurrence-index in
    let KnowsThese : List Occurrence → Type 0 = λ os. Knows c.add.new.self os in
    record {
      before =
          subst KnowsThese (sym (one_more xs i c.occurrence-item.result c.occurrence-item.is c.loop-occurrence-test.true))
          (c.in_ok-add.ensures (seen_all (take i xs)) c.loop-occurrence.invariant.before);
      none =
          none_more (fault_at (seen_all xs)) i c.loop-occurrence.invariant.none
          (fault_here xs i c.occurrence-item.result c.occurrence-item.is c.loop-occurrence-test.true
          ∙ (sym (c.fault_of.ensures (seen_all xs) (seen_all (take i xs)) c.in_ok-all.ensures c.loop-occurrence.invariant.before) ∙ ap (option_map seen_fault) c.in_default.is));
    }

pub returns : goal.returns
returns c = none_at_all c.args.occurrences.now c.loop-occurrence.occurrence-index c.loop-occurrence-test.false c.loop-occurrence.invariant.none
