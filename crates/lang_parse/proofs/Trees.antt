-- The tree of a whole script, and why there is none.
use Rattle.std.proofs.Common.{◌≡◌, ◌<◌, ◌≤◌, List, [], length, Result, Ok, Err, refl, ap, ◌∙◌, subst, arith, append-nil}
use Rattle.std.specs.Prelude.{IfErr}
use Rattle.std.specs.Result.{IsErrAnd}
use Rattle.page_types.specs.Tree.{Item}
use Rattle.lang_meaning.specs.Evaluation.{names_in, own_body, functions_of}
use Rattle.lang_parse.specs.declared.fault.TreeFault.{TreeFault}
use Rattle.lang_parse.specs.declared.error.ParseError.{ParseError}
use Rattle.lang_parse.specs.declared.error.ParseError.TheVariants as error
use Rattle.lang_parse.specs.Symbols.{Symbol}
use Rattle.lang_parse.specs.Grammar.{HasTree, IsShallow, script_spelling}
use Rattle.lang_place.specs.NameSets.{distinct}
use Rattle.lang_parse.specs.Parts.{Many, ItemRead, AtEnd}
use Rattle.lang_parse.specs.Deciding.{Never, Fails}
use Rattle.lang_parse.specs.Faults.{IsNoTree, IsFaultOf}
use Rattle.lang_parse.proofs.Script.{script_read, script_unique, items_are, items_spelled}

-- no tree has the symbols
abbrev pub NoTree : List Symbol → Type 0
NoTree ks = (tree : List Item) → HasTree ks tree → ⊥

pub has_tree : (ks : List Symbol) (items : List Item) → Many ItemRead items ks [] → IsShallow 0 ks → length (functions_of items) ≤ 4096 → length (distinct (names_in (own_body items))) ≤ 4096 → HasTree ks items
has_tree ks items m s f g = record { items = items_are items ks [] m; spelled = items_spelled items ks [] m ∙ append-nil (script_spelling items); shallow = s; functions = f; globals = g }

not_read : (ks : List Symbol) → Never (Many ItemRead) AtEnd ks → NoTree ks
not_read ks n tree has = n.none tree [] (script_read ks tree has.items has.spelled) refl

same_items : (ks : List Symbol) (items tree : List Item) → Many ItemRead items ks [] → HasTree ks tree → tree ≡ items
same_items ks items tree m has = ((script_unique ks).one tree items [] [] (script_read ks tree has.items has.spelled) refl m refl).0

pub too_many_functions : (ks : List Symbol) (items : List Item) → Many ItemRead items ks [] → 4096 < length (functions_of items) → NoTree ks
too_many_functions ks items m many tree has = let e = same_items ks items tree m has in omega (arith, many, has.functions, ap (λ t. length (functions_of t)) e)

pub too_many_globals : (ks : List Symbol) (items : List Item) → Many ItemRead items ks [] → 4096 < length (distinct (names_in (own_body items))) → NoTree ks
too_many_globals ks items m many tree has = let e = same_items ks items tree m has in omega (arith, many, has.globals, ap (λ t. length (distinct (names_in (own_body t)))) e)

by_error : (ks : List Symbol) (e : ParseError) (f : TreeFault) → IsFaultOf e f → Fails (Many ItemRead) AtEnd ks e → IsNoTree f → NoTree ks
by_error ks (error.NoParse left) f is n none = not_read ks n
by_error ks error.OutOfMemory f is n none = absurd (subst IsNoTree is none)

-- how the fault of an error is answered
pub answered : {X : Type 0} (ks : List Symbol) (r : Result X TreeFault) (e : ParseError) → IsErrAnd r (λ f. IsFaultOf e f) → Fails (Many ItemRead) AtEnd ks e → IfErr r (λ f. IsNoTree f → NoTree ks)
answered ks (Ok x) e is n = absurd is
answered ks (Err f) e is n = λ none. by_error ks e f is n none

pub unanswered : {X : Type 0} (ks : List Symbol) (r : Result X TreeFault) (e : ParseError) → IsErrAnd r (λ f. IsFaultOf e f) → e ≡ error.OutOfMemory → IfErr r (λ f. IsNoTree f → NoTree ks)
unanswered ks (Ok x) e is m = absurd is
unanswered ks (Err f) e is m = let h = subst (λ z. IsFaultOf z f) m is in λ none. absurd (subst IsNoTree h none)
