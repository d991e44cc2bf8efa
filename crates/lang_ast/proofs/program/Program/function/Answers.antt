use Rattle.std.proofs.Common.{rules, ◌≡◌, ◌∙◌, refl, sym, ap, Some}
use Rattle.std.proofs.lemmas.Option.{slice_get_within, get_or_from_slice_get}
use Rattle.lang_ast.specs.declared.tree.Item.{Item}
use Rattle.lang_ast.specs.declared.tree.Item.TheVariants as item
use Rattle.lang_ast.specs.declared.tree.Function.{Function}
use Rattle.lang_ast.specs.Seen.{seen_items, seen_function}
use Rattle.lang_ast.specs.SeenProgram.{seen_program}
use Rattle.lang_ast.proofs.Fits.{function_fits}
use Rattle.lang_ast.proofs.Places.{absent, found}
use Rattle.lang_ast.proofs.program.Program.function.Goals as goal

same_function : (f g : Function) (x y : Item) → x ≡ item.Fn f → y ≡ item.Fn g → x ≡ y → f ≡ g
same_function f g x y p q r = cc

no_function : (f : Function) (x y : Item) → x ≡ item.Fn f → (s : _) → y ≡ item.Stmt s → x ≡ y → ⊥
no_function f x y p s q r = cc

pub index-requires : goal.index-requires
index-requires c =
    let f = found c.args.self.now.items.items c.args.number c.in-Some.place (sym c.place_of.ensures ∙ c.in-Some.is) in
    let w = slice_get_within c.args.self.now.items.items c.in-Some.place (item.Fn f.function) f.here in
    search rules

pub returns-in-Fn-clause-found : goal.returns-in-Fn-clause-found
unfolding seen_program
returns-in-Fn-clause-found c =
    let f = found c.args.self.now.items.items c.args.number c.in-Some.place (sym c.place_of.ensures ∙ c.in-Some.is) in
    let e = get_or_from_slice_get c.args.self.now.items.items c.in-Some.place (item.Fn f.function) c.index.result.now f.here in
    let s = same_function c.in-Fn.function f.function c.index.result.now (item.Fn f.function) c.in-Fn.is refl (c.index.ensures ∙ e) in
    ap (λ g. Some (seen_function g)) s ∙ sym f.is

pub returns-in-Fn-clause-fits : goal.returns-in-Fn-clause-fits
returns-in-Fn-clause-fits c =
    let f = found c.args.self.now.items.items c.args.number c.in-Some.place (sym c.place_of.ensures ∙ c.in-Some.is) in
    let e = get_or_from_slice_get c.args.self.now.items.items c.in-Some.place (item.Fn f.function) c.index.result.now f.here in
    let s = same_function c.in-Fn.function f.function c.index.result.now (item.Fn f.function) c.in-Fn.is refl (c.index.ensures ∙ e) in
    function_fits (seen_items c.args.self.now.items.items) c.args.number (seen_function c.in-Fn.function) c.args.self.now.resolved (f.is ∙ ap (λ g. Some (seen_function g)) (sym s))

pub returns-in-Stmt-clause-found : goal.returns-in-Stmt-clause-found
returns-in-Stmt-clause-found c =
    let f = found c.args.self.now.items.items c.args.number c.in-Some.place (sym c.place_of.ensures ∙ c.in-Some.is) in
    let e = get_or_from_slice_get c.args.self.now.items.items c.in-Some.place (item.Fn f.function) c.index.result.now f.here in
    absurd (no_function f.function (item.Fn f.function) c.index.result.now refl c.in-Stmt.field-0 c.in-Stmt.is (sym (c.index.ensures ∙ e)))

pub returns-in-None-clause-found : goal.returns-in-None-clause-found
unfolding seen_program
returns-in-None-clause-found c = sym (absent 0 c.args.self.now.items.items c.args.number (sym c.place_of.ensures ∙ c.in-None.is))
