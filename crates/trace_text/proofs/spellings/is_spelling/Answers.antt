use Rattle.std.proofs.Common.{◌≡◌, length, Some, [], ap, arith}
use Rattle.std.proofs.lemmas.Bool.Decides.{nat_tests}
use Rattle.page_values.specs.Spellings.{IsSpelling}
use Rattle.trace_text.proofs.WholeValues.{whole_spelled, whole_read}
use Rattle.trace_text.proofs.spellings.is_spelling.Goals as goal

pub returns-in-Some-clause-sound : goal.returns-in-Some-clause-sound
returns-in-Some-clause-sound c = λ yes.
    let e = c.is_empty.ensures in
    let none : length c.in-Some.rest.now ≡ 0 = grind (arith, nat_tests) in
    record { spelling = whole_spelled (IsSpelling 64) c.args.bytes.now c.in-Some.rest.now c.in-Some.ensures none }

pub returns-in-Some-clause-complete : goal.returns-in-Some-clause-complete
returns-in-Some-clause-complete c = λ p.
    let all = whole_read (IsSpelling 64) c.args.bytes.now (Some c.in-Some.rest.now) c.in-Some.ensures p.spelling in
    let same : c.in-Some.rest.now ≡ [] = cc in
    let none = ap length same in
    let e = c.is_empty.ensures in
    grind (arith, nat_tests)

pub returns-in-None-clause-complete : goal.returns-in-None-clause-complete
returns-in-None-clause-complete c = λ p. let all = whole_read (IsSpelling 64) c.args.bytes.now _ c.in-None.ensures p.spelling in absurd cc
