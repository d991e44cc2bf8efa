use Rattle.std.proofs.Common.{◌≤◌, ◌<◌}
use Rattle.page_values.proofs.Digits.{digits-small, digits-split}
use Rattle.page_cli.proofs.Putting.{Puts-then, Puts-exit}
use Rattle.page_cli.proofs.complaint.+put_digits.Goals as goal

pub returns-then-n-lt10 : goal.returns-then-n-lt10
returns-then-n-lt10 g t c = λ most h. let small : c.args.n < 10 = c.if-n-lt10.true in rw digits-small c.put.ensures

pub returns-in_err-put_digits : goal.returns-in_err-put_digits
returns-in_err-put_digits g t c = λ most h.
    let large : 10 ≤ c.args.n = c.if-n-lt10.false in
    let s = digits-split most c.args.n large h in
    rw s.2 (Puts-exit _ _ c.from_residual.ensures.0 (c.in_err-put_digits.ensures s.0 s.1))

pub returns : goal.returns
returns g t c = λ most h.
    let large : 10 ≤ c.args.n = c.if-n-lt10.false in
    let s = digits-split most c.args.n large h in
    rw s.2 (Puts-then _ (c.in_ok-put_digits.ensures s.0 s.1) c.put-2.ensures)
