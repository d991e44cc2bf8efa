use Rattle.std.proofs.Common.{◌≡◌, ap, sym, rules, length}
use Rattle.lang_ast.specs.Names.{in_exprs, in_terms, in_factors}
use Rattle.lang_ast.specs.Seen.{seen_exprs, seen_terms, seen_factors}
use Rattle.lang_ast.proofs.Trees.{seen-Or, seen-And, seen-Compare, seen-Sum, seen-Product, seen-Unary, seen-Post, seen-Number, seen-Text, seen-True, seen-False, seen-Unit, seen-Name, seen-Call, seen-Paren, seen-List}
use Rattle.std.proofs.lemmas.List.{drop_all}
use Rattle.lang_names.proofs.Adding.{adds_none, then_ok, goes_on, goes_to, front, count_seen}
use Rattle.lang_names.proofs.collecting.+exprs.Goals as goal

pub in_expr-returns-in_ok-in_expr-in-Or : goal.in_expr-returns-in_ok-in_expr-in-Or
in_expr-returns-in_ok-in_expr-in-Or t c = rw (c.in-Or.is, seen-Or, sym c.deref.ensures) (then_ok _ _ c.in_exprs.result c.in_ok-in_expr-in-Or.ensures c.in_exprs.ensures)

pub in_expr-returns-in_ok-in_expr-in-And : goal.in_expr-returns-in_ok-in_expr-in-And
in_expr-returns-in_ok-in_expr-in-And t c = rw (c.in-And.is, seen-And, sym c.deref-in-And.ensures) (then_ok _ _ c.in_exprs-in-And.result c.in_ok-in_expr-in-And.ensures c.in_exprs-in-And.ensures)

pub in_expr-returns-in_ok-in_expr-in-Compare : goal.in_expr-returns-in_ok-in_expr-in-Compare
in_expr-returns-in_ok-in_expr-in-Compare t c = rw (c.in-Compare.is, seen-Compare, sym c.deref-in-Compare.ensures, sym c.deref-in-Compare-2.ensures) (then_ok _ _ c.in_expr-in-Compare-2.result c.in_ok-in_expr-in-Compare.ensures c.in_expr-in-Compare-2.ensures)

pub in_expr-returns-in_ok-in_expr-in-Sum : goal.in_expr-returns-in_ok-in_expr-in-Sum
in_expr-returns-in_ok-in_expr-in-Sum t c = rw (c.in-Sum.is, seen-Sum, sym c.deref-in-Sum.ensures) (then_ok _ _ c.in_terms.result c.in_ok-in_expr-in-Sum.ensures c.in_terms.ensures)

pub in_expr-returns-in_ok-in_expr-in-Product : goal.in_expr-returns-in_ok-in_expr-in-Product
in_expr-returns-in_ok-in_expr-in-Product t c = rw (c.in-Product.is, seen-Product, sym c.deref-in-Product.ensures) (then_ok _ _ c.in_factors.result c.in_ok-in_expr-in-Product.ensures c.in_factors.ensures)

pub in_expr-returns-in_ok-in_expr-in-Post : goal.in_expr-returns-in_ok-in_expr-in-Post
in_expr-returns-in_ok-in_expr-in-Post t c = rw (c.in-Post.is, seen-Post, sym c.deref-in-Post.ensures) (then_ok _ _ c.in_exprs-in-Post.result c.in_ok-in_expr-in-Post.ensures c.in_exprs-in-Post.ensures)

pub in_expr-returns-in-Unary : goal.in_expr-returns-in-Unary
in_expr-returns-in-Unary t c = rw (c.in-Unary.is, seen-Unary, sym c.deref-in-Unary.ensures) c.in_expr-in-Unary.ensures

pub in_expr-returns-in-Paren : goal.in_expr-returns-in-Paren
in_expr-returns-in-Paren t c = rw (c.in-Paren.is, seen-Paren, sym c.deref-in-Paren.ensures) c.in_expr-in-Paren.ensures

pub in_expr-returns-in-List : goal.in_expr-returns-in-List
in_expr-returns-in-List t c = rw (c.in-List.is, seen-List) c.in_exprs-in-List.ensures

pub in_expr-returns-in-Name : goal.in_expr-returns-in-Name
in_expr-returns-in-Name t c = rw (c.in-Name.is, seen-Name) c.add.ensures

pub in_expr-returns-in-Number : goal.in_expr-returns-in-Number
in_expr-returns-in-Number t c = rw (c.in-Number.is, seen-Number) (adds_none c.args.scope c.args.into.now.items)

pub in_expr-returns-in-Text : goal.in_expr-returns-in-Text
in_expr-returns-in-Text t c = rw (c.in-Text.is, seen-Text) (adds_none c.args.scope c.args.into.now.items)

pub in_expr-returns-in-True : goal.in_expr-returns-in-True
in_expr-returns-in-True t c = rw (c.in-True.is, seen-True) (adds_none c.args.scope c.args.into.now.items)

pub in_expr-returns-in-False : goal.in_expr-returns-in-False
in_expr-returns-in-False t c = rw (c.in-False.is, seen-False) (adds_none c.args.scope c.args.into.now.items)

pub in_expr-returns-in-Unit : goal.in_expr-returns-in-Unit
in_expr-returns-in-Unit t c = rw (c.in-Unit.is, seen-Unit) (adds_none c.args.scope c.args.into.now.items)

pub in_expr-returns-in_ok-add-in-Call : goal.in_expr-returns-in_ok-add-in-Call
in_expr-returns-in_ok-add-in-Call t c =
    let e : c.len.result ≡ length c.in-Call.args.items = search rules in
    rw (c.in-Call.is, seen-Call, count_seen, sym e) (then_ok _ _ c.in_exprs-in-Call.result c.in_ok-add-in-Call.ensures c.in_exprs-in-Call.ensures)

pub in_exprs-loop-expr-preserved : goal.in_exprs-loop-expr-preserved
in_exprs-loop-expr-preserved t c = goes_on _ (ap (λ es. in_exprs (seen_exprs es)) (front _ _ _ c.expr-item.is c.loop-expr-test.true)) c.loop-expr.invariant c.in_ok-in_expr.ensures

pub in_exprs-returns : goal.in_exprs-returns
in_exprs-returns t c = rw (sym c.deref-expr-items.ensures.value) (goes_to _ (ap (λ es. in_exprs (seen_exprs es)) (drop_all _ _ c.loop-expr-test.false)) c.loop-expr.invariant)

pub in_terms-loop-part-preserved : goal.in_terms-loop-part-preserved
in_terms-loop-part-preserved t c = goes_on _ (ap (λ es. in_terms (seen_terms es)) (front _ _ _ c.part-item.is c.loop-part-test.true)) c.loop-part.invariant c.in_ok-in_expr.ensures

pub in_terms-returns : goal.in_terms-returns
in_terms-returns t c = rw (sym c.deref-part-items.ensures.value) (goes_to _ (ap (λ es. in_terms (seen_terms es)) (drop_all _ _ c.loop-part-test.false)) c.loop-part.invariant)

pub in_factors-loop-part-preserved : goal.in_factors-loop-part-preserved
in_factors-loop-part-preserved t c = goes_on _ (ap (λ es. in_factors (seen_factors es)) (front _ _ _ c.part-item.is c.loop-part-test.true)) c.loop-part.invariant c.in_ok-in_expr.ensures

pub in_factors-returns : goal.in_factors-returns
in_factors-returns t c = rw (sym c.deref-part-items.ensures.value) (goes_to _ (ap (λ es. in_factors (seen_factors es)) (drop_all _ _ c.loop-part-test.false)) c.loop-part.invariant)
