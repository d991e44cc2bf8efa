use Rattle.std.proofs.Common.{ℕ, List, [], Bool, arith, sym, subst}
use Rattle.promise_combine.specs.Seen.{kind_seen}
use Rattle.promise_combine.specs.Reports.{AreMarked}
use Rattle.promise_combine.proofs.Kept.{kept-new}
use Rattle.promise_combine.proofs.Marking.{marked-none}
use Rattle.promise_combine.proofs.combine.Combine.new.Goals as goal

pub invariant_of-result : goal.invariant_of-result
invariant_of-result c =
    let order = c.in_ok-outcomes.order.items in
    let rows = c.in_ok-outcomes.ensures in (
      kept-new (kind_seen c.args.kind) c.in_ok-outcomes.outcomes.items c.args.n order c.requires rows.count rows.order.0 rows.silent,
      omega (arith, rows.count, rows.order.1),
      subst (λ (n : ℕ). AreMarked n order c.in_ok-outcomes.reported.items) (sym rows.count)
          (subst (λ (ks : List ℕ). AreMarked c.args.n ks c.in_ok-outcomes.reported.items) (sym rows.order.0)
          (subst (λ (ms : List Bool). AreMarked c.args.n [] ms) (sym rows.marks) (marked-none c.args.n))),
    )
