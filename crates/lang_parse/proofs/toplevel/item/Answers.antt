use Rattle.std.proofs.Common.{refl, sym, subst}
use Rattle.std.proofs.lemmas.Result.{err_from_is_err_and}
use Rattle.lang_ast.specs.Seen.{seen_stmt, seen_item}
use Rattle.lang_parse.specs.Symbols.{symbols_of}
use Rattle.lang_parse.specs.Parts.{StmtRead, ItemRead, NotElse}
use Rattle.lang_parse.specs.Deciding.{Decides}
use Rattle.lang_parse.proofs.Generic.{Leads-never, Leads-ends}
use Rattle.lang_parse.proofs.Walks.{fails_from}
use Rattle.lang_parse.proofs.Script.{statement_read}
use Rattle.lang_parse.proofs.ItemSteps.{statement_leads}
use Rattle.lang_parse.proofs.toplevel.item.Goals as goal

pub returns-in-Some : goal.returns-in-Some
returns-in-Some c = subst (λ z. Decides ItemRead NotElse z (λ r. (seen_item r.0, symbols_of r.1.now)) c.function.result) (sym c.in-Some.ensures.found) c.function.ensures

pub returns-in_err-statement : goal.returns-in_err-statement
returns-in_err-statement c = let p = err_from_is_err_and c.from_residual.result c.from_residual.ensures.1 in
    rw (p.1, p.2) (fails_from StmtRead NotElse (symbols_of c.args.tokens.now) ItemRead NotElse (symbols_of c.args.tokens.now)
    (λ n. Leads-never (statement_leads (symbols_of c.args.tokens.now) (c.in_default.ensures.none refl)) n) _ c.in_err-statement.ensures)

pub returns : goal.returns
returns c = (
  statement_read (seen_stmt c.in_ok-statement.statement) (symbols_of c.args.tokens.now) _ c.in_ok-statement.ensures.0,
  Leads-ends (statement_leads (symbols_of c.args.tokens.now) (c.in_default.ensures.none refl)) c.in_ok-statement.ensures.1,
)
