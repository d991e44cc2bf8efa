use Rattle.std.proofs.Common.{refl}
use Rattle.std.proofs.lemmas.Result.{err_from_is_err_and}
use Rattle.lang_parse.specs.Symbols.{symbols_of}
use Rattle.lang_parse.specs.Parts.{Anything, NameRead, Ended, AssignParts}
use Rattle.lang_parse.proofs.Walks.{fails_from}
use Rattle.lang_parse.proofs.StmtSteps.{assigned_unnamed, assigned_no_sign, assigned_fails, assigned_ends, assigned_found}
use Rattle.lang_parse.proofs.parts.assigned.Goals as goal

pub returns-in_err-name : goal.returns-in_err-name
returns-in_err-name c = let p = err_from_is_err_and c.from_residual.result c.from_residual.ensures.1 in
    rw (p.1, p.2) (fails_from NameRead Anything (symbols_of c.args.tokens.now) AssignParts Anything (symbols_of c.args.tokens.now)
    (assigned_unnamed (symbols_of c.args.tokens.now)) _ c.in_err-name.ensures)

pub returns-in_default : goal.returns-in_default
returns-in_default c = assigned_no_sign (symbols_of c.args.tokens.now) (symbols_of c.in_ok-name.rest.now) c.in_ok-name.ensures.1 (c.in_default.ensures.none refl)

pub returns-in_err-value : goal.returns-in_err-value
returns-in_err-value c = let p = err_from_is_err_and c.from_residual-in_err-value.result c.from_residual-in_err-value.ensures.1 in
    rw (p.1, p.2) (fails_from Ended Anything (symbols_of c.in-Some.next.now) AssignParts Anything (symbols_of c.args.tokens.now)
    (assigned_fails (symbols_of c.args.tokens.now) (symbols_of c.in_ok-name.rest.now) c.in_ok-name.ensures.1 (symbols_of c.in-Some.next.now) c.in-Some.ensures.found) _ c.in_err-value.ensures)

pub returns : goal.returns
returns c = (
  assigned_found _ _ (symbols_of c.args.tokens.now) (symbols_of c.in_ok-name.rest.now) (symbols_of c.in-Some.next.now) _ c.in_ok-name.ensures.0 c.in-Some.ensures.found c.in_ok-value.ensures.0,
  assigned_ends (symbols_of c.args.tokens.now) (symbols_of c.in_ok-name.rest.now) c.in_ok-name.ensures.1 (symbols_of c.in-Some.next.now) c.in-Some.ensures.found _ c.in_ok-value.ensures.1,
)
