use Rattle.std.proofs.Common.{SFits, rules, sym, ◌∙◌}
use Rattle.std.specs.Int.{w64}
use Rattle.std.proofs.lemmas.Int.{to_z-of_z}
use Rattle.page_values.specs.Seen.{seen}
use Rattle.signal_operations.proofs.Parsing.{beyond-delay, delay-most, no-delay, within-delay}
use Rattle.signal_operations.proofs.arguments.delay_in.Goals as goal

pub returns-in_default-clause-delay : goal.returns-in_default-clause-delay
returns-in_default-clause-delay c = no-delay (seen c.args.value.now) c.in_default.ensures

pub returns-then-int_within-clause-delay : goal.returns-then-int_within-clause-delay
returns-then-int_within-clause-delay c =
    let fits : SFits w64 c.in-Some.n = search rules in
    within-delay (seen c.args.value.now) c.in-Some.n c.not_below_zero.result c.in-Some.ensures (sym (rw (to_z-of_z w64 c.in-Some.n fits) at c.int_within.ensures) ∙ c.if-int_within.true) (rw (to_z-of_z w64 c.in-Some.n fits) at c.not_below_zero.ensures)

pub returns-then-int_within-clause-most : goal.returns-then-int_within-clause-most
returns-then-int_within-clause-most c =
    let fits : SFits w64 c.in-Some.n = search rules in
    delay-most c.in-Some.n c.not_below_zero.result (sym (rw (to_z-of_z w64 c.in-Some.n fits) at c.int_within.ensures) ∙ c.if-int_within.true) (rw (to_z-of_z w64 c.in-Some.n fits) at c.not_below_zero.ensures)

pub returns-else-int_within-clause-delay : goal.returns-else-int_within-clause-delay
returns-else-int_within-clause-delay c =
    let fits : SFits w64 c.in-Some.n = search rules in
    beyond-delay (seen c.args.value.now) c.in-Some.n c.in-Some.ensures (sym (rw (to_z-of_z w64 c.in-Some.n fits) at c.int_within.ensures) ∙ c.if-int_within.false)
