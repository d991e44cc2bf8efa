use Rattle.std.proofs.Common.{◌≡◌, length}
use Rattle.std.specs.Prelude.{IsTrue}
use Rattle.page_values.specs.Texts.{is_text}
use Rattle.trace_export.specs.Reading.{text_at}
use Rattle.trace_export.proofs.ReadTexts.{behind_bytes}
use Rattle.trace_export.proofs.reading.read_text.Given as goal

abbrev pub invariant-loop-byte : goal.invariant-loop-byte
invariant-loop-byte l = record { text : IsTrue (is_text l.text.items); same : behind_bytes l.text.items (text_at l.rest) ≡ text_at l.bytes }

abbrev pub decreases-loop-byte : goal.decreases-loop-byte
decreases-loop-byte l = length l.rest
