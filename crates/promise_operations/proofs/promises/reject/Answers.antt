use Rattle.promise_operations.proofs.promises.reject.Goals as goal

pub returns : goal.returns
returns g c = c.settle_own.ensures
