use Rattle.std.proofs.Common.{refl}
use Rattle.lang_ast.proofs.Trees.{seen-Or, seen-And, seen-Compare, seen-Sum, seen-Product, seen-Unary, seen-Post, seen-Number, seen-Text, seen-True, seen-False, seen-Unit, seen-Name, seen-Call, seen-Paren, seen-List}
use Rattle.async_segments.proofs.awaits.mark_in_expr.Goals as goal

pub returns-in-Or : goal.returns-in-Or
returns-in-Or c = rw (c.in-Or.is, seen-Or) refl

pub returns-in-And : goal.returns-in-And
returns-in-And c = rw (c.in-And.is, seen-And) refl

pub returns-in-Compare : goal.returns-in-Compare
returns-in-Compare c = rw (c.in-Compare.is, seen-Compare) refl

pub returns-in-Sum : goal.returns-in-Sum
returns-in-Sum c = rw (c.in-Sum.is, seen-Sum) refl

pub returns-in-Product : goal.returns-in-Product
returns-in-Product c = rw (c.in-Product.is, seen-Product) refl

pub returns-in-Unary : goal.returns-in-Unary
returns-in-Unary c = rw (c.in-Unary.is, seen-Unary) refl

pub returns-in-Post : goal.returns-in-Post
returns-in-Post c = rw (c.in-Post.is, seen-Post) refl

pub returns-in-Number : goal.returns-in-Number
returns-in-Number c = rw (c.in-Number.is, seen-Number) refl

pub returns-in-Text : goal.returns-in-Text
returns-in-Text c = rw (c.in-Text.is, seen-Text) refl

pub returns-in-True : goal.returns-in-True
returns-in-True c = rw (c.in-True.is, seen-True) refl

pub returns-in-False : goal.returns-in-False
returns-in-False c = rw (c.in-False.is, seen-False) refl

pub returns-in-Unit : goal.returns-in-Unit
returns-in-Unit c = rw (c.in-Unit.is, seen-Unit) refl

pub returns-in-Name : goal.returns-in-Name
returns-in-Name c = rw (c.in-Name.is, seen-Name) c.mark_in_name.ensures

pub returns-in-Call : goal.returns-in-Call
returns-in-Call c = rw (c.in-Call.is, seen-Call) refl

pub returns-in-Paren : goal.returns-in-Paren
returns-in-Paren c = rw (c.in-Paren.is, seen-Paren) refl

pub returns-in-List : goal.returns-in-List
returns-in-List c = rw (c.in-List.is, seen-List) refl
