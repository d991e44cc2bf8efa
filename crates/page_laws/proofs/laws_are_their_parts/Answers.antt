use Rattle.page_laws.proofs.Parts.{ends_by_parts, timers_by_parts}
use Rattle.page_laws.proofs.laws_are_their_parts.Goals as goal

pub returns-clause-timers : goal.returns-clause-timers
returns-clause-timers g = timers_by_parts

pub returns-clause-ends : goal.returns-clause-ends
returns-clause-ends g = ends_by_parts
