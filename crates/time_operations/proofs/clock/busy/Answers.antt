use Rattle.std.proofs.Common.{refl, ◌≡◌, ◌+◌, SFits, w64, rules, arith}
use Rattle.std.proofs.Math.Facts.{to_z-of_z}
use Rattle.std.specs.Prelude.{unsigned_abs}
use Rattle.page_answers.proofs.Answering.{Answers-wants}
use Rattle.page_model.specs.Operations.{busy}
use Rattle.page_values.specs.Seen.{seen}
use Rattle.time_operations.proofs.Rows.{busy-none, busy-outside, busy-passes}
use Rattle.time_operations.proofs.clock.busy.Goals as goal

pub returns-in_default : goal.returns-in_default
returns-in_default g c = busy-none g.L.Lines.keeping (seen c.args.span) c.args.page.now _ c.throw.result c.in_default.ensures c.throw.ensures

pub returns-then-not-is_within : goal.returns-then-not-is_within
returns-then-not-is_within g c =
    let fits : SFits w64 c.in-Some.span = search rules in
    busy-outside g.L.Lines.keeping (seen c.args.span) c.args.page.now _ c.in-Some.span c.throw-then-not-is_within.result c.in-Some.ensures c.if-not-is_within.true (rw (to_z-of_z fits) at c.is_within.ensures) c.throw-then-not-is_within.ensures

pub returns-in_default-checked_add : goal.returns-in_default-checked_add
returns-in_default-checked_add g c = Answers-wants g.L.Lines.keeping (busy (seen c.args.span)) c.args.page.now c.args.page.now _ refl

pub returns : goal.returns
returns g c =
    let fits : SFits w64 c.in-Some.span = search rules in
    let size = rw (to_z-of_z fits) at c.unsigned_abs.ensures.value in
    let sum : c.in-Some-checked_add.time ≡ c.args.page.now.script.now + unsigned_abs c.in-Some.span = omega (arith, c.in-Some-checked_add.ensures, c.now.ensures, size) in
    busy-passes g.L.Lines.keeping (seen c.args.span) c.args.page.now _ c.in-Some.span c.in-Some-checked_add.time c.at_time.new.self c.give_unit.result c.in-Some.ensures c.if-not-is_within.false (rw (to_z-of_z fits) at c.is_within.ensures)
    sum c.at_time.ensures c.give_unit.ensures
