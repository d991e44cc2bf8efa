use Rattle.std.proofs.Common.{◌+◌, ◌-◌, length}
use Rattle.page_interp.proofs.guesses.Guesses.put.Given as goal

abbrev pub decreases-loop-self : goal.decreases-loop-self
decreases-loop-self l = l.at + 1 - length l.self.places.items
