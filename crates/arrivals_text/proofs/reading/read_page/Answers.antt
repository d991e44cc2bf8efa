use Rattle.arrivals_text.specs.Arrivals.{lines_of}
use Rattle.arrivals_text.proofs.Ordered.{page_within}
use Rattle.arrivals_text.proofs.Pages.{page_read, page_refused}
use Rattle.arrivals_text.proofs.reading.read_page.Goals as goal

pub finish-requires : goal.finish-requires
finish-requires c = page_within c.args.bytes.now _ c.in-Ok.ensures

pub returns-in-Ok-clause-setup : goal.returns-in-Ok-clause-setup
returns-in-Ok-clause-setup c = rw c.finish.ensures (page_read c.args.bytes.now _ c.in-Ok.ensures)

pub returns-in-Err-clause-bad : goal.returns-in-Err-clause-bad
returns-in-Err-clause-bad c = λ line is. page_refused (lines_of c.args.bytes.now) c.in-Err.fault line c.in-Err.ensures cc
