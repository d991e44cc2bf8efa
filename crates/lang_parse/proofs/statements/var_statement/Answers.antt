use Rattle.std.proofs.Common.{◌∷◌, codes}
use Rattle.std.proofs.lemmas.Result.{err_from_is_err_and}
use Rattle.lang_parse.specs.Symbols.{WordOf, symbols_of}
use Rattle.lang_parse.specs.Parts.{Anything, AssignParts, StmtRead, NotElse}
use Rattle.lang_parse.proofs.Generic.{Leads-never, Leads-ends, Never-any, Ends-any}
use Rattle.lang_parse.proofs.Walks.{fails_from}
use Rattle.lang_parse.proofs.StmtSteps.{var_leads, var_found}
use Rattle.lang_parse.proofs.statements.var_statement.Goals as goal

pub returns-in_err-name : goal.returns-in_err-name
returns-in_err-name c = let p = err_from_is_err_and c.from_residual.result c.from_residual.ensures.1 in
    rw (p.1, p.2) (fails_from AssignParts Anything (symbols_of c.args.tokens.now) StmtRead NotElse (WordOf (codes "var") ∷ symbols_of c.args.tokens.now)
    (λ n. Leads-never (var_leads (symbols_of c.args.tokens.now)) (Never-any NotElse n)) _ c.in_err-name.ensures)

pub returns : goal.returns
returns c = (
  var_found (symbols_of c.args.tokens.now) c.in_ok-name.name c.in_ok-name.value _ c.in_ok-name.ensures.0,
  Leads-ends (var_leads (symbols_of c.args.tokens.now)) (Ends-any NotElse c.in_ok-name.ensures.1),
)
