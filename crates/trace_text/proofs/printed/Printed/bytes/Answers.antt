use Rattle.trace_text.proofs.printed.Printed.bytes.Goals as goal

pub returns-clause-spelling : goal.returns-clause-spelling
returns-clause-spelling c = rw c.deref.ensures.value c.self.invariant
