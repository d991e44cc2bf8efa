-- Values with no values inside, as values of a trace.
use Rattle.std.proofs.Common.{ℕ, suc, List, inl}
use Rattle.page_values.specs.Spellings.{IsSimple, IsSpelling}
use Rattle.trace_text.specs.Trace.{IsPrinted}

simple_spelling : (deep : ℕ) (bs : List ℕ) → IsSimple bs → IsSpelling (suc deep) bs
simple_spelling deep bs h = inl h

pub simple_printed : (bs : List ℕ) → IsSimple bs → IsPrinted bs
simple_printed bs h = record { spelling = simple_spelling 63 bs h }
