use Rattle.std.proofs.Common.{◌∷◌, codes, refl}
use Rattle.std.proofs.lemmas.Result.{err_from_is_err_and}
use Rattle.lang_parse.specs.Symbols.{WordOf, symbols_of}
use Rattle.lang_parse.specs.Parts.{Anything, Ended, StmtRead, NotElse}
use Rattle.lang_parse.proofs.Generic.{Leads-never, Leads-ends, Never-any, Ends-any}
use Rattle.lang_parse.proofs.Walks.{fails_from}
use Rattle.lang_parse.proofs.StmtSteps.{returned_leads, return_found, return_nothing, return_nothing_ends}
use Rattle.lang_parse.proofs.statements.return_statement.Goals as goal

pub returns-in-Some : goal.returns-in-Some
returns-in-Some c = (return_nothing (symbols_of c.args.tokens.now) _ c.in-Some.ensures.found, return_nothing_ends (symbols_of c.args.tokens.now) _ c.in-Some.ensures.found)

pub returns-in_err-value : goal.returns-in_err-value
returns-in_err-value c = let p = err_from_is_err_and c.from_residual.result c.from_residual.ensures.1 in
    rw (p.1, p.2) (fails_from Ended Anything (symbols_of c.args.tokens.now) StmtRead NotElse (WordOf (codes "return") ∷ symbols_of c.args.tokens.now)
    (λ n. Leads-never (returned_leads (symbols_of c.args.tokens.now) (c.in_default.ensures.none refl)) (Never-any NotElse n)) _ c.in_err-value.ensures)

pub returns : goal.returns
returns c = (
  return_found (symbols_of c.args.tokens.now) c.in_ok-value.value _ c.in_ok-value.ensures.0,
  Leads-ends (returned_leads (symbols_of c.args.tokens.now) (c.in_default.ensures.none refl)) (Ends-any NotElse c.in_ok-value.ensures.1),
)
