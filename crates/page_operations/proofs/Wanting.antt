-- Answers of a page as a host.
use Rattle.std.specs.Prelude.{◌≡◌, Err}
use Rattle.lang_meaning.specs.HostSteps.{Ask}
use Rattle.trace_text.specs.declared.lines.NoLine.TheVariants.{OutOfMemory}
use Rattle.trace_text.specs.Given.{Keeping, Seen}
use Rattle.page_state.specs.Standing.{Standing, port_of}
use Rattle.page_state.specs.PageActs.{at}
use Rattle.page_rules.specs.Lined.{lines_in}
use Rattle.page_operations.specs.Asked.{Asked, asked_of}
use Rattle.page_notices.proofs.Timing.{Does-memory}

-- memory was wanting before any line
pub Asked-wants : {T : Type 0} (k : Keeping T) (ask : Ask) (s mid : Standing) (seen : Seen T) → port_of mid ≡ port_of s → Asked k (at s seen) ask (Err OutOfMemory) (at mid seen)
Asked-wants k ask s mid seen port = record { lines = (Does-memory k (λ t. record { state = t; lines = lines_in (asked_of ask t) }) s mid seen).lines; host = tt; step = tt; port = port }
