use Rattle.trace_text.proofs.Counting.{lines-counted}
use Rattle.trace_text.proofs.summary.counting_gives_the_summary.Goals as goal

pub returns : goal.returns
returns c = λ form es. lines-counted es
