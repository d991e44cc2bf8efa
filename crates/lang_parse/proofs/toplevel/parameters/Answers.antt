use Rattle.std.proofs.Common.{codes, refl, ap, map}
use Rattle.std.proofs.lemmas.Result.{err_from_is_err_and}
use Rattle.lang_ast.specs.Seen.{seen_name}
use Rattle.lang_parse.specs.Symbols.{SignOf, symbols_of}
use Rattle.lang_parse.specs.Parts.{Anything, Parameters, SomeNames, NotComma}
use Rattle.lang_parse.proofs.Generic.{behind_none}
use Rattle.lang_parse.proofs.Walks.{fails_from}
use Rattle.lang_parse.proofs.ItemSteps.{no_parameters_found, no_parameters_end, parameters_fail, parameters_open, parameters_end, parameters_found}
use Rattle.lang_parse.proofs.toplevel.parameters.Goals as goal

pub returns-in_default : goal.returns-in_default
returns-in_default c = behind_none (SignOf (codes "(")) (symbols_of c.args.tokens.now) (c.in_default.ensures.none refl)

pub returns-in-Some-after_sign : goal.returns-in-Some-after_sign
returns-in-Some-after_sign c = (no_parameters_found (symbols_of c.args.tokens.now) (symbols_of c.in-Some.next.now) c.in-Some.ensures.found _ _ (ap (map seen_name) c.new-none.ensures.items) c.in-Some-after_sign.ensures.found, no_parameters_end (symbols_of c.args.tokens.now) (symbols_of c.in-Some.next.now) c.in-Some.ensures.found _ c.in-Some-after_sign.ensures.found)

pub returns-in_err-names : goal.returns-in_err-names
returns-in_err-names c = let p = err_from_is_err_and c.from_residual.result c.from_residual.ensures.1 in
    rw (p.1, p.2) (fails_from SomeNames NotComma (symbols_of c.in-Some.next.now) Parameters Anything (symbols_of c.args.tokens.now)
    (parameters_fail (symbols_of c.args.tokens.now) (symbols_of c.in-Some.next.now) c.in-Some.ensures.found (c.in_default-after_sign.ensures.none refl)) _ c.in_err-names.ensures)

pub returns-in_default-after_sign-2 : goal.returns-in_default-after_sign-2
returns-in_default-after_sign-2 c = parameters_open (symbols_of c.args.tokens.now) (symbols_of c.in-Some.next.now) c.in-Some.ensures.found (c.in_default-after_sign.ensures.none refl) (symbols_of c.in_ok-names.end.now) c.in_ok-names.ensures.1 (c.in_default-after_sign-2.ensures.none refl)

pub returns : goal.returns
returns c = (
  parameters_found (symbols_of c.args.tokens.now) (symbols_of c.in-Some.next.now) c.in-Some.ensures.found _ (symbols_of c.in_ok-names.end.now) _ c.in_ok-names.ensures.0 c.in-Some-after_sign-2.ensures.found,
  parameters_end (symbols_of c.args.tokens.now) (symbols_of c.in-Some.next.now) c.in-Some.ensures.found (c.in_default-after_sign.ensures.none refl) (symbols_of c.in_ok-names.end.now) _ c.in_ok-names.ensures.1 c.in-Some-after_sign-2.ensures.found,
)
