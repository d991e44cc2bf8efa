use Rattle.std.proofs.Common.{length, sym, subst, ap, arith, rules}
use Rattle.std.specs.Prelude.{IfErr}
use Rattle.lang_meaning.specs.Evaluation.{names_in, own_body, functions_of}
use Rattle.lang_ast.specs.Seen.{seen_items}
use Rattle.lang_parse.specs.Symbols.{symbols_of}
use Rattle.lang_parse.specs.Grammar.{HasTree, IsShallow}
use Rattle.lang_place.specs.NameSets.{distinct}
use Rattle.lang_parse.specs.Faults.{IsNoTree}
use Rattle.lang_parse.proofs.Trees.{NoTree, has_tree, too_many_functions, too_many_globals, answered, unanswered}
use Rattle.lang_parse.proofs.parser.tree_of.Goals as goal

pub returns-then-not-is_shallow-clause-none : goal.returns-then-not-is_shallow-clause-none
returns-then-not-is_shallow-clause-none c = λ none tree has. let h = c.if-not-is_shallow.ensures.1 (subst (λ z. IsShallow 0 (symbols_of z)) (sym c.items-listed.ensures.value) has.shallow) in cc

pub returns-in_err-items-clause-none : goal.returns-in_err-items-clause-none
returns-in_err-items-clause-none c = subst (λ z. IfErr c.from_residual.result (λ f. IsNoTree f → NoTree (symbols_of z))) c.items-listed.ensures.value
    (answered (symbols_of c.items-listed.result.now) _ _ c.from_residual.ensures.1 c.in_err-items.ensures.none)

pub returns-then-function_count-gt-MOST_FUNCTIONS-clause-none : goal.returns-then-function_count-gt-MOST_FUNCTIONS-clause-none
returns-then-function_count-gt-MOST_FUNCTIONS-clause-none c = λ none. subst (λ z. NoTree (symbols_of z)) c.items-listed.ensures.value
    (too_many_functions (symbols_of c.items-listed.result.now) _ c.in_ok-items.ensures.found (omega (arith, c.if-function_count-gt-MOST_FUNCTIONS.true, c.function_count.ensures, ap (λ z. length (functions_of (seen_items z))) c.deref.ensures.value)))

pub returns-in_err-global_count-clause-none : goal.returns-in_err-global_count-clause-none
returns-in_err-global_count-clause-none c = subst (λ z. IfErr c.from_residual-in_err-global_count.result (λ f. IsNoTree f → NoTree (symbols_of z))) c.items-listed.ensures.value
    (unanswered (symbols_of c.items-listed.result.now) _ _ c.from_residual-in_err-global_count.ensures.1 c.in_err-global_count.ensures.memory)

pub returns-then-branch-gt-MOST_GLOBALS-clause-none : goal.returns-then-branch-gt-MOST_GLOBALS-clause-none
returns-then-branch-gt-MOST_GLOBALS-clause-none c = λ none. subst (λ z. NoTree (symbols_of z)) c.items-listed.ensures.value
    (too_many_globals (symbols_of c.items-listed.result.now) _ c.in_ok-items.ensures.found (omega (arith, c.if-branch-gt-MOST_GLOBALS.true, c.in_ok-global_count.ensures.count, ap (λ z. length (distinct (names_in (own_body (seen_items z))))) c.deref-2.ensures.value)))

pub returns-clause-found : goal.returns-clause-found
returns-clause-found c = subst (λ z. HasTree (symbols_of z) (seen_items c.in_ok-items.items.items)) c.items-listed.ensures.value
    (has_tree (symbols_of c.items-listed.result.now) _ c.in_ok-items.ensures.found (c.if-not-is_shallow.ensures.0 (search rules))
    (omega (arith, c.if-function_count-gt-MOST_FUNCTIONS.false, c.function_count.ensures, ap (λ z. length (functions_of (seen_items z))) c.deref.ensures.value))
    (omega (arith, c.if-branch-gt-MOST_GLOBALS.false, c.in_ok-global_count.ensures.count, ap (λ z. length (distinct (names_in (own_body (seen_items z))))) c.deref-2.ensures.value)))
