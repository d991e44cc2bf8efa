-- The five lines of a summary.
use Rattle.std.specs.Prelude.{ℕ, List, [], ◌++◌, Option, Some, None, codes}
use Rattle.page_types.specs.declared.End.{End}
use Rattle.page_parts.specs.TraceText.{field, number_field, end_text}
use Rattle.trace_text.specs.Summaries.{Counts}

-- ---- Ours: how many turns, calls, drops and settlings there are, and how the run ends

-- a word and a number
abbrev pub count_line : List ℕ → ℕ → List ℕ
count_line word n = word ++ number_field n ++ codes "\n"

-- why the run ended; every trace tells an end
abbrev pub end_line : Option End → List ℕ
end_line None = []
end_line (Some end) = codes "end" ++ field (end_text end) ++ codes "\n"

abbrev pub counts_text : Counts → List ℕ
counts_text counts =
    count_line (codes "turns") counts.turns ++ count_line (codes "calls") counts.calls ++ count_line (codes "drops") counts.drops
    ++ count_line (codes "settles") counts.settles ++ end_line counts.end
