use Rattle.promise_operations.proofs.promises.rejected.Goals as goal

pub returns : goal.returns
returns g c = c.reject_with.ensures
