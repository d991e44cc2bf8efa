use Rattle.std.proofs.Common.{refl}
use Rattle.std.proofs.lemmas.Result.{err_from_is_err_and}
use Rattle.lang_parse.specs.Symbols.{symbols_of}
use Rattle.lang_parse.specs.Parts.{Reads, Stops, Anything, Condition}
use Rattle.lang_parse.proofs.Walks.{fails_from}
use Rattle.lang_parse.proofs.StmtSteps.{condition_fails, condition_open, condition_ends, condition_found}
use Rattle.lang_parse.proofs.parts.condition.Goals as goal

pub returns-in_err-condition : goal.returns-in_err-condition
returns-in_err-condition c = let p = err_from_is_err_and c.from_residual.result c.from_residual.ensures.1 in
    rw (p.1, p.2) (fails_from (Reads 0) (Stops 0) (symbols_of c.in-Some.next.now) Condition Anything (symbols_of c.args.tokens.now)
    (condition_fails (symbols_of c.args.tokens.now) (symbols_of c.in-Some.next.now) c.in-Some.ensures.found) _ c.in_err-condition.ensures)

pub returns-in_default-after_sign : goal.returns-in_default-after_sign
returns-in_default-after_sign c = condition_open (symbols_of c.args.tokens.now) (symbols_of c.in-Some.next.now) c.in-Some.ensures.found (symbols_of c.in_ok-condition.end.now) c.in_ok-condition.ensures.1 (c.in_default-after_sign.ensures.none refl)

pub returns : goal.returns
returns c = (
  condition_found (symbols_of c.args.tokens.now) (symbols_of c.in-Some.next.now) c.in-Some.ensures.found _ (symbols_of c.in_ok-condition.end.now) _ c.in_ok-condition.ensures.0 c.in-Some-after_sign.ensures.found,
  condition_ends (symbols_of c.args.tokens.now) (symbols_of c.in-Some.next.now) c.in-Some.ensures.found (symbols_of c.in_ok-condition.end.now) _ c.in_ok-condition.ensures.1 c.in-Some-after_sign.ensures.found,
)
