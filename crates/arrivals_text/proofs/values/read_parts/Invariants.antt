use Rattle.std.proofs.Common.{◌≡◌, length}
use Rattle.std.specs.Bool.{IsTrue}
use Rattle.page_values.specs.Texts.{is_text}
use Rattle.arrivals_text.specs.Fields.{parts_at}
use Rattle.arrivals_text.proofs.Rows.{with_front}
use Rattle.arrivals_text.proofs.values.read_parts.Given as goal

abbrev pub invariant-loop-byte : goal.invariant-loop-byte
invariant-loop-byte l = (with_front l.bytes.items (parts_at l.rest) ≡ parts_at l.parts) × IsTrue (is_text l.bytes.items)

abbrev pub decreases-loop-byte : goal.decreases-loop-byte
decreases-loop-byte l = length l.rest
