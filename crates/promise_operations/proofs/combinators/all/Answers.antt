use Rattle.promise_operations.proofs.combinators.all.Goals as goal

pub combined-requires : goal.combined-requires
combined-requires g c = λ n. tt

pub returns : goal.returns
returns g c = c.combined.ensures
