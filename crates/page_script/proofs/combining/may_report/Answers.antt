use Rattle.std.proofs.Common.{◌≡◌, ◌<◌, subst, arith, false}
use Rattle.page_model.specs.State as m
use Rattle.page_model.specs.PageCombinators.{no_combining}
use Rattle.promise_combine.specs.Reports.{has_reported}
use Rattle.page_script.specs.Leading.{combining_seen}
use Rattle.page_script.proofs.Numbering.{numbered_there}
use Rattle.page_script.proofs.combining.may_report.Goals as goal

pub returns-in-Some-get : goal.returns-in-Some-get
returns-in-Some-get c =
    let read = c.in-Some-get.ensures.lookup in
    let here = numbered_there combining_seen no_combining c.args.combinators.now c.args.number c.in-Some.index c.in-Some-get.combining.now c.in-Some.ensures.0 c.in-Some.ensures.1 read.3.0 read.1 in
    λ told.
    let may = c.may_report.ensures.0 told in
    record {
      counted = c.in-Some.ensures.0;
      made = omega (arith, read.3.0, c.in-Some.ensures.0, c.in-Some.ensures.1);
      within = subst (λ (t : m.Combining). c.args.place < t.combine.count) here may.0;
      fresh = subst (λ (t : m.Combining). has_reported c.args.place t.combine ≡ false) here may.1;
    }
