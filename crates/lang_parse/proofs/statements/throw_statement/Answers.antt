use Rattle.std.proofs.Common.{◌∷◌, codes}
use Rattle.std.proofs.lemmas.Result.{err_from_is_err_and}
use Rattle.lang_parse.specs.Symbols.{WordOf, symbols_of}
use Rattle.lang_parse.specs.Parts.{Anything, Ended, StmtRead, NotElse}
use Rattle.lang_parse.proofs.Generic.{Leads-never, Leads-ends, Never-any, Ends-any}
use Rattle.lang_parse.proofs.Walks.{fails_from}
use Rattle.lang_parse.proofs.StmtSteps.{throw_leads, throw_found}
use Rattle.lang_parse.proofs.statements.throw_statement.Goals as goal

pub returns-in_err-value : goal.returns-in_err-value
returns-in_err-value c = let p = err_from_is_err_and c.from_residual.result c.from_residual.ensures.1 in
    rw (p.1, p.2) (fails_from Ended Anything (symbols_of c.args.tokens.now) StmtRead NotElse (WordOf (codes "throw") ∷ symbols_of c.args.tokens.now)
    (λ n. Leads-never (throw_leads (symbols_of c.args.tokens.now)) (Never-any NotElse n)) _ c.in_err-value.ensures)

pub returns : goal.returns
returns c = (
  throw_found (symbols_of c.args.tokens.now) c.in_ok-value.value _ c.in_ok-value.ensures.0,
  Leads-ends (throw_leads (symbols_of c.args.tokens.now)) (Ends-any NotElse c.in_ok-value.ensures.1),
)
