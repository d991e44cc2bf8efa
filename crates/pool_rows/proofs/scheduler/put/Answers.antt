use Rattle.std.proofs.Common.{◌≡◌, ℕ, ap, inl, inr, arith}
use Rattle.post_task.specs.Waiting.{Waiting}
use Rattle.post_task.proofs.Waits.{among_inserted, inserted-found}
use Rattle.pool_rows.proofs.scheduler.put.Goals as goal

pub returns-clause-earlier : goal.returns-clause-earlier
returns-clause-earlier g c task a =
    elim (among_inserted _ task _ _ c.in-Ok.ensures.waits a) [
      | inl e ↦ let same : c.args.task.order ≡ task.order = ap (λ (w : Waiting ℕ). w.order) e in omega (arith, same)
      | inr before ↦ omega (arith, c.requires.later task before)
    ]

pub returns-clause-found : goal.returns-clause-found
returns-clause-found g c = inserted-found _ _ _ c.in-Ok.ensures.waits
