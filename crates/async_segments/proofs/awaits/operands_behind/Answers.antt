use Rattle.std.proofs.Common.{refl, sym}
use Rattle.lang_ast.proofs.Trees.{seen-Or, seen-And, seen-Compare, seen-Sum, seen-Product, seen-Unary, seen-Post, seen-Number, seen-Text, seen-True, seen-False, seen-Unit, seen-Name, seen-Call, seen-Paren, seen-List}
use Rattle.async_segments.proofs.awaits.operands_behind.Goals as goal

pub returns-in-Or-clause-found : goal.returns-in-Or-clause-found
returns-in-Or-clause-found c = rw (c.in-Or.is, seen-Or, sym c.deref.ensures) c.operands_by.ensures.found

pub returns-in-And-clause-found : goal.returns-in-And-clause-found
returns-in-And-clause-found c = rw (c.in-And.is, seen-And) refl

pub returns-in-Compare-clause-found : goal.returns-in-Compare-clause-found
returns-in-Compare-clause-found c = rw (c.in-Compare.is, seen-Compare) refl

pub returns-in-Sum-clause-found : goal.returns-in-Sum-clause-found
returns-in-Sum-clause-found c = rw (c.in-Sum.is, seen-Sum) refl

pub returns-in-Product-clause-found : goal.returns-in-Product-clause-found
returns-in-Product-clause-found c = rw (c.in-Product.is, seen-Product) refl

pub returns-in-Unary-clause-found : goal.returns-in-Unary-clause-found
returns-in-Unary-clause-found c = rw (c.in-Unary.is, seen-Unary) refl

pub returns-in-Post-clause-found : goal.returns-in-Post-clause-found
returns-in-Post-clause-found c = rw (c.in-Post.is, seen-Post) refl

pub returns-in-Number-clause-found : goal.returns-in-Number-clause-found
returns-in-Number-clause-found c = rw (c.in-Number.is, seen-Number) refl

pub returns-in-Text-clause-found : goal.returns-in-Text-clause-found
returns-in-Text-clause-found c = rw (c.in-Text.is, seen-Text) refl

pub returns-in-True-clause-found : goal.returns-in-True-clause-found
returns-in-True-clause-found c = rw (c.in-True.is, seen-True) refl

pub returns-in-False-clause-found : goal.returns-in-False-clause-found
returns-in-False-clause-found c = rw (c.in-False.is, seen-False) refl

pub returns-in-Unit-clause-found : goal.returns-in-Unit-clause-found
returns-in-Unit-clause-found c = rw (c.in-Unit.is, seen-Unit) refl

pub returns-in-Name-clause-found : goal.returns-in-Name-clause-found
returns-in-Name-clause-found c = rw (c.in-Name.is, seen-Name) refl

pub returns-in-Call-clause-found : goal.returns-in-Call-clause-found
returns-in-Call-clause-found c = rw (c.in-Call.is, seen-Call) refl

pub returns-in-Paren-clause-found : goal.returns-in-Paren-clause-found
returns-in-Paren-clause-found c = rw (c.in-Paren.is, seen-Paren) refl

pub returns-in-List-clause-found : goal.returns-in-List-clause-found
returns-in-List-clause-found c = rw (c.in-List.is, seen-List) refl
