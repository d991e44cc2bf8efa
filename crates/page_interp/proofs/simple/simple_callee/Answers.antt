use Rattle.std.proofs.Common.{sym, ◌∙◌}
use Rattle.page_interp.proofs.NameIndex.{none_there}
use Rattle.page_interp.proofs.OwnNames.{function_held}
use Rattle.page_interp.proofs.simple.simple_callee.Goals as goal

pub returns-clause-function : goal.returns-clause-function
returns-clause-function c =
    let none = none_there c.find.result (sym c.is_some.ensures ∙ c.if-is_some.false) in
    λ store. function_held c.args.code.now store c.args.current.now.names.now c.args.current.now.locals c.args.name.now.name c.in_ok-number.number (rw none at (sym c.find.ensures)) c.in_ok-number.ensures.global c.in_ok-number.ensures.number
