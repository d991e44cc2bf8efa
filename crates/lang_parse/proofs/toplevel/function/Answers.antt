use Rattle.std.proofs.Common.{◌∷◌, codes, arith, map}
use Rattle.std.proofs.lemmas.List.{length-map}
use Rattle.std.proofs.lemmas.Result.{err_from_is_err_and}
use Rattle.lang_ast.specs.Seen.{seen_name, seen_stmt}
use Rattle.lang_parse.specs.Symbols.{WordOf, symbols_of}
use Rattle.lang_parse.specs.Parts.{Anything, NameRead, Parameters, BlockRead, ItemRead, NotElse}
use Rattle.lang_parse.proofs.Generic.{Leads-never, Leads-ends, Never-any, Ends-any}
use Rattle.lang_parse.proofs.Walks.{fails_from}
use Rattle.lang_parse.proofs.ItemSteps.{function_unnamed, function_no_parameters, function_too_many, body_leads, function_found}
use Rattle.lang_parse.proofs.toplevel.function.Goals as goal

pub returns-in_err-name : goal.returns-in_err-name
returns-in_err-name c = let p = err_from_is_err_and c.from_residual.result c.from_residual.ensures.1 in
    rw (p.1, p.2) (fails_from NameRead Anything (symbols_of c.args.tokens.now) ItemRead NotElse (WordOf (codes "fn") ∷ symbols_of c.args.tokens.now)
    (function_unnamed (symbols_of c.args.tokens.now)) _ c.in_err-name.ensures)

pub returns-in_err-parameters : goal.returns-in_err-parameters
returns-in_err-parameters c = let p = err_from_is_err_and c.from_residual-in_err-parameters.result c.from_residual-in_err-parameters.ensures.1 in
    rw (p.1, p.2) (fails_from Parameters Anything (symbols_of c.in_ok-name.rest.now) ItemRead NotElse (WordOf (codes "fn") ∷ symbols_of c.args.tokens.now)
    (function_no_parameters (symbols_of c.args.tokens.now) (symbols_of c.in_ok-name.rest.now) c.in_ok-name.ensures.1) _ c.in_err-parameters.ensures)

pub returns-in_err-body : goal.returns-in_err-body
returns-in_err-body c = let p = err_from_is_err_and c.from_residual-in_err-body.result c.from_residual-in_err-body.ensures.1 in
    rw (p.1, p.2) (fails_from BlockRead Anything (symbols_of c.in_ok-parameters.rest.now) ItemRead NotElse (WordOf (codes "fn") ∷ symbols_of c.args.tokens.now)
    (λ n. Leads-never (body_leads (symbols_of c.args.tokens.now) (symbols_of c.in_ok-name.rest.now) c.in_ok-name.ensures.1 (symbols_of c.in_ok-parameters.rest.now) c.in_ok-parameters.ensures.1) (Never-any NotElse n)) _ c.in_err-body.ensures)

pub returns : goal.returns
returns c = (
  function_found (seen_name c.in_ok-name.name) (map seen_name c.in_ok-parameters.parameters.items) (map seen_stmt c.in_ok-body.body.items) (symbols_of c.args.tokens.now) (symbols_of c.in_ok-name.rest.now) (symbols_of c.in_ok-parameters.rest.now) _ (omega (arith, c.if-len-gt-MOST_PARAMETERS.false, c.len.ensures, c.in_ok-parameters.parameters.ok.0, length-map c.in_ok-parameters.parameters.items seen_name)) c.in_ok-name.ensures.0 c.in_ok-parameters.ensures.0 c.in_ok-body.ensures.0,
  Leads-ends (body_leads (symbols_of c.args.tokens.now) (symbols_of c.in_ok-name.rest.now) c.in_ok-name.ensures.1 (symbols_of c.in_ok-parameters.rest.now) c.in_ok-parameters.ensures.1) (Ends-any NotElse c.in_ok-body.ensures.1),
)

pub returns-then-len-gt-MOST_PARAMETERS : goal.returns-then-len-gt-MOST_PARAMETERS
returns-then-len-gt-MOST_PARAMETERS c = function_too_many (symbols_of c.args.tokens.now) (symbols_of c.in_ok-name.rest.now) c.in_ok-name.ensures.1 _ (symbols_of c.in_ok-parameters.rest.now) c.in_ok-parameters.ensures.0
    (omega (arith, c.if-len-gt-MOST_PARAMETERS.true, c.len.ensures, c.in_ok-parameters.parameters.ok.0, length-map c.in_ok-parameters.parameters.items seen_name))
