-- What a summary of a trace counts.
use Rattle.std.specs.Prelude.{◌≡◌, ℕ, suc, ◌-◌, ◌^◌, min, Bool, true, false, if◌then◌else◌, List, [], ◌∷◌, Option, Some, None, MatchOption, Result}
use Rattle.std.specs.Result.{result_err}
use Rattle.page_types.specs.Counts.{raised}
use Rattle.page_types.specs.declared.End.{End}
use Rattle.page_types.specs.Events.{Event, Turn, Call, Drop, Settle, EndLine, Stamped}
use Rattle.trace_text.specs.Line.{Line, Head, Of}
use Rattle.trace_text.specs.Given.{Keeping, Seen, Gives, after_all}
use Rattle.trace_text.specs.declared.lines.NoLine.{NoLine}
use Rattle.trace_text.specs.declared.summary.Summary.{Summary}

-- ---- Ours: the numbers of turns, calls, drops and settlings, and why the run ended

-- numbers of events, and the end, where there is one
pub record Counts : Type 0 where
  pub turns : ℕ
  pub calls : ℕ
  pub drops : ℕ
  pub settles : ℕ
  pub end : Option End

abbrev pub is_turn : Event → Bool
is_turn (Turn n source) = true
is_turn event = false

abbrev pub is_call : Event → Bool
is_call (Call r) = true
is_call event = false

abbrev pub is_drop : Event → Bool
is_drop (Drop r) = true
is_drop event = false

abbrev pub is_settle : Event → Bool
is_settle (Settle p ok v) = true
is_settle event = false

-- one more where it holds
abbrev pub one_more : Bool → ℕ → ℕ
one_more true n = suc n
one_more false n = n

-- how many of the events are such ones
abbrev pub how_many : (Event → Bool) → List Stamped → ℕ
how_many test [] = 0
how_many test (e ∷ es) = one_more (test e.event) (how_many test es)

-- the same, lowered to the greatest number of 64 bits
abbrev pub number_of : (Event → Bool) → List Stamped → ℕ
number_of test es = min (how_many test es) (2 ^ 64 - 1)

-- the end that an event tells, else the one told before
abbrev pub end_after : Option End → Event → Option End
end_after before (EndLine end) = Some end
end_after before event = before

-- the end that the last `end` event tells, else the one told before
abbrev pub last_end : Option End → List Stamped → Option End
last_end before [] = before
last_end before (e ∷ es) = last_end (end_after before e.event) es

-- the counts of a list of events
abbrev pub counts_of : List Stamped → Counts
counts_of es = record {
  turns = number_of is_turn es;
  calls = number_of is_call es;
  drops = number_of is_drop es;
  settles = number_of is_settle es;
  end = last_end None es;
}

-- a summary has the counts of a list of events, and its end
abbrev pub summarised : Summary → Counts
summarised s = record { turns = s.turns; calls = s.calls; drops = s.drops; settles = s.settles; end = Some s.end }

-- the summary that counts have, and none exactly where no end was told
abbrev pub IsSummaryOf : Option Summary → Counts → Type 0
IsSummaryOf summary counts = MatchOption summary (counts.end ≡ None) (λ s. summarised s ≡ counts)

-- ---- Ours: counting line by line

-- one more where the event is such a one
abbrev pub counted : (Event → Bool) → ℕ → Event → ℕ
counted test before event = if test event then raised before else before

abbrev pub counts_after : Counts → Event → Counts
counts_after before event = record {
  turns = counted is_turn before.turns event;
  calls = counted is_call before.calls event;
  drops = counted is_drop before.drops event;
  settles = counted is_settle before.settles event;
  end = end_after before.end event;
}

-- the counts after a further line; the head counts nothing
abbrev pub count_line : Counts → Line → Option Counts
count_line before (Head form) = Some before
count_line before (Of e) = Some (counts_after before e.event)

-- every line is taken
abbrev pub count_keeping : Keeping Counts
count_keeping = record { rule = count_line; left = λ counts line after. ⊥ }

-- the counts of these lines, where none was counted before them
abbrev pub counts_of_lines : List Line → Option Counts
counts_of_lines lines = after_all count_keeping (Some (counts_of [])) lines

-- what is seen of a count
abbrev pub seen_counts : Counts → Seen Counts
seen_counts counts = record { told = Some counts; faults = 0; refusals = 0 }

-- a call counted one line, as its result tells
abbrev pub CountsLine : {X : Type 0} → (old : Counts) → Line → Result X NoLine → (new : Counts) → Type 0
CountsLine old line result new = Gives count_keeping (seen_counts old) (line ∷ []) (result_err result) (seen_counts new)
