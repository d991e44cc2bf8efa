use Rattle.std.proofs.Common.{◌∷◌, [], ◌++◌, ◌∙◌, refl, ap, map}
use Rattle.std.proofs.lemmas.List.{map-append}
use Rattle.std.proofs.lemmas.Result.{err_from_is_err_and}
use Rattle.lang_ast.specs.Seen.{seen_name}
use Rattle.lang_parse.specs.Symbols.{symbols_of}
use Rattle.lang_parse.specs.Parts.{Anything, NameRead, SomeNames, NotComma}
use Rattle.lang_parse.proofs.Generic.{first_fails}
use Rattle.lang_parse.proofs.Walks.{fails_from}
use Rattle.lang_parse.proofs.ItemSteps.{split_names, names_begin, names_go_on, names_fail, names_done, names_end, name_within}
use Rattle.lang_parse.proofs.toplevel.some_names.Goals as goal

pub returns-in_err-first : goal.returns-in_err-first
returns-in_err-first c = let p = err_from_is_err_and c.from_residual.result c.from_residual.ensures.1 in
    rw (p.1, p.2) (fails_from NameRead Anything (symbols_of c.args.tokens.now) SomeNames NotComma (symbols_of c.args.tokens.now)
    (first_fails (split_names (symbols_of c.args.tokens.now))) _ c.in_err-first.ensures)

pub loop-next-init : goal.loop-next-init
loop-next-init c = names_begin (symbols_of c.args.tokens.now) (symbols_of c.in_ok-first.rest.now) (seen_name c.in_ok-first.first) _ (ap (map seen_name) (c.in_ok-push.ensures.items ∙ ap (λ xs. xs ++ c.in_ok-first.first ∷ []) c.new-names.ensures.items)) c.in_ok-first.ensures.0 c.in_ok-first.ensures.1

pub returns-in_err-name : goal.returns-in_err-name
returns-in_err-name c = let p = err_from_is_err_and c.from_residual-in_err-name.result c.from_residual-in_err-name.ensures.1 in
    rw (p.1, p.2) (fails_from NameRead Anything (symbols_of c.in-Some.next.now) SomeNames NotComma (symbols_of c.args.tokens.now)
    (names_fail (symbols_of c.args.tokens.now) (symbols_of c.loop-next.rest.now) (symbols_of c.in-Some.next.now) _ c.loop-next.invariant c.in-Some.ensures.found) _ c.in_err-name.ensures)

pub loop-next-smaller : goal.loop-next-smaller
loop-next-smaller c = name_within _ c.in-Some.next.now c.in_ok-name.end.now _ c.in-Some.ensures.found c.in_ok-name.ensures.0

pub loop-next-preserved : goal.loop-next-preserved
loop-next-preserved c = names_go_on (symbols_of c.args.tokens.now) (symbols_of c.loop-next.rest.now) (symbols_of c.in-Some.next.now) (symbols_of c.in_ok-name.end.now) _ _ (seen_name c.in_ok-name.name) c.loop-next.invariant
    (ap (map seen_name) c.in_ok-push-2.ensures.items ∙ map-append seen_name c.loop-next.names.items (c.in_ok-name.name ∷ [])) c.in-Some.ensures.found c.in_ok-name.ensures.0 c.in_ok-name.ensures.1

pub returns : goal.returns
returns c = (names_done (symbols_of c.args.tokens.now) (symbols_of c.loop-next.rest.now) _ c.loop-next.invariant, names_end (symbols_of c.args.tokens.now) (symbols_of c.loop-next.rest.now) _ c.loop-next.invariant (c.in_default.ensures.none refl))
