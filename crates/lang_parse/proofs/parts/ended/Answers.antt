use Rattle.std.proofs.Common.{refl}
use Rattle.std.proofs.lemmas.Result.{err_from_is_err_and}
use Rattle.lang_parse.specs.Symbols.{symbols_of}
use Rattle.lang_parse.specs.Parts.{Reads, Stops, Anything, Ended}
use Rattle.lang_parse.proofs.Walks.{fails_from}
use Rattle.lang_parse.proofs.StmtSteps.{ended_fails, ended_open, ended_ends, ended_found}
use Rattle.lang_parse.proofs.parts.ended.Goals as goal

pub returns-in_err-value : goal.returns-in_err-value
returns-in_err-value c = let p = err_from_is_err_and c.from_residual.result c.from_residual.ensures.1 in
    rw (p.1, p.2) (fails_from (Reads 0) (Stops 0) (symbols_of c.args.tokens.now) Ended Anything (symbols_of c.args.tokens.now)
    (ended_fails (symbols_of c.args.tokens.now)) _ c.in_err-value.ensures)

pub returns-in_default : goal.returns-in_default
returns-in_default c = ended_open (symbols_of c.args.tokens.now) (symbols_of c.in_ok-value.end.now) c.in_ok-value.ensures.1 (c.in_default.ensures.none refl)

pub returns : goal.returns
returns c = (
  ended_found (symbols_of c.args.tokens.now) _ (symbols_of c.in_ok-value.end.now) _ c.in_ok-value.ensures.0 c.in-Some.ensures.found,
  ended_ends (symbols_of c.args.tokens.now) (symbols_of c.in_ok-value.end.now) _ c.in_ok-value.ensures.1 c.in-Some.ensures.found,
)
