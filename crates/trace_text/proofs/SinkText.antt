-- What a sink of lines holds after some lines, and after a call that stopped among them.
use Rattle.std.proofs.Common.{◌≡◌, ℕ, List, [], ◌∷◌, ◌++◌, refl, sym, ◌∙◌, ap, subst, inl, inr, Option, Some, None, append_assoc, append-nil, ◌≤◌, map, is_some}
use Rattle.page_types.specs.Counts.{Rose}
use Rattle.page_types.specs.Events.{Stamped}
use Rattle.page_parts.specs.TraceText.{head_text, line_text, lines_text, text_of}
use Rattle.page_types.specs.Told.{appended, AppendsStartOf}
use Rattle.trace_text.specs.Line.{Line, Head, Of, text_of_line, text_of_lines}
use Rattle.trace_text.specs.declared.lines.NoLine.{NoLine}
use Rattle.trace_text.specs.declared.lines.NoLine.TheVariants.{Failed, Differs, OutOfMemory}
use Rattle.trace_text.specs.Given.{Seen, after_all, StopsAmong, Leaves, NotTaken, Gives, GivesTold}
use Rattle.trace_text.specs.Sinks.{sink_keeping}

pub after_all-sink : (told : Option (List ℕ)) (lines : List Line) → after_all sink_keeping told lines ≡ appended told (text_of_lines lines)
after_all-sink None [] = refl
after_all-sink None (line ∷ lines) = after_all-sink None lines
after_all-sink (Some bytes) [] = ap Some (sym (append-nil bytes))
after_all-sink (Some bytes) (line ∷ lines) = after_all-sink (Some (bytes ++ text_of_line line)) lines ∙ ap Some (append_assoc bytes (text_of_line line) (text_of_lines lines))

-- a start of the line is a start of the text
starts-here : (told after : Option (List ℕ)) (line : Line) (lines : List Line) → AppendsStartOf told after (text_of_line line) → AppendsStartOf told after (text_of_lines (line ∷ lines))
starts-here told after line lines h = (h.0, (h.1.0 ++ text_of_lines lines, ap (λ t. t ++ text_of_lines lines) h.1.1 ∙ append_assoc h.0 h.1.0 (text_of_lines lines)), h.2)

-- a start of what follows the line, behind the line
starts-later : (bytes : List ℕ) (after : Option (List ℕ)) (line : Line) (lines : List Line) → AppendsStartOf (Some (bytes ++ text_of_line line)) after (text_of_lines lines) → AppendsStartOf (Some bytes) after (text_of_lines (line ∷ lines))
starts-later bytes after line lines h =
    (text_of_line line ++ h.0, (h.1.0, ap (λ t. text_of_line line ++ t) h.1.1 ∙ sym (append_assoc (text_of_line line) h.0 h.1.0)), h.2 ∙ ap Some (append_assoc bytes (text_of_line line) h.0))

nothing : (told : Option (List ℕ)) (lines : List Line) → AppendsStartOf told told (text_of_lines lines)
nothing None lines = ([], (text_of_lines lines, refl), refl)
nothing (Some bytes) lines = ([], (text_of_lines lines, refl), ap Some (sym (append-nil bytes)))

nothing_of : (told after : Option (List ℕ)) (lines : List Line) → after ≡ told → AppendsStartOf told after (text_of_lines lines)
nothing_of told after lines e = let P : Option (List ℕ) → Type 0 = λ t. AppendsStartOf told t (text_of_lines lines) in subst P (sym e) (nothing told lines)

not_taken : (why : NoLine) (told after : Option (List ℕ)) (line : Line) (lines : List Line) → NotTaken sink_keeping why told line after → AppendsStartOf told after (text_of_lines (line ∷ lines))
not_taken Failed None after line lines h = nothing_of None after (line ∷ lines) h
not_taken Failed (Some bytes) after line lines h = starts-here (Some bytes) after line lines (h.2.0, h.2.1, h.1 ∙ ap Some h.2.2)
not_taken Differs told after line lines h = nothing_of told after (line ∷ lines) h.0
not_taken OutOfMemory told after line lines h = nothing_of told after (line ∷ lines) h

pub StopsAmong-sink : (why : NoLine) (told after : Option (List ℕ)) (lines : List Line) → StopsAmong sink_keeping why told lines after → AppendsStartOf told after (text_of_lines lines)
StopsAmong-sink why told after [] h = nothing_of told after [] h.1
StopsAmong-sink why told after (line ∷ lines) (inl h) = not_taken why told after line lines h
StopsAmong-sink why None after (line ∷ lines) (inr h) = nothing_of None after (line ∷ lines) (none_stays why after lines h)
  where
    none_stays : (why : NoLine) (after : Option (List ℕ)) (lines : List Line) → StopsAmong sink_keeping why None lines after → after ≡ None
    none_stays why after [] h = h.1
    none_stays Failed after (line ∷ lines) (inl h) = h
    none_stays Differs after (line ∷ lines) (inl h) = h.0
    none_stays OutOfMemory after (line ∷ lines) (inl h) = h
    none_stays why after (line ∷ lines) (inr h) = none_stays why after lines h
StopsAmong-sink why (Some bytes) after (line ∷ lines) (inr h) =
    starts-later bytes after line lines (StopsAmong-sink why (Some (bytes ++ text_of_line line)) after lines h)

pub Gives-sink : {old new : Seen (List ℕ)} {lines : List Line} → Gives sink_keeping old lines None new → new.told ≡ appended old.told (text_of_lines lines)
Gives-sink {old = old} {lines = lines} h = h.told.0 ∙ after_all-sink old.told lines

pub Gives-sink_stop : {old new : Seen (List ℕ)} {lines : List Line} {why : NoLine} → Gives sink_keeping old lines (Some why) new → AppendsStartOf old.told new.told (text_of_lines lines)
Gives-sink_stop {old = old} {new = new} {lines = lines} {why = why} h = StopsAmong-sink why old.told new.told lines h.told

-- a put that failed is a line that failed
pub Gives-sink_failed : (line : Line) (piece : List ℕ) (told after : Option (List ℕ)) (before now : ℕ) → piece ≡ text_of_line line → AppendsStartOf told after piece → before ≤ now → Rose before now → Gives sink_keeping (record { told = told; faults = before; refusals = 0 }) (line ∷ []) (Some Failed) (record { told = after; faults = now; refusals = 0 })
Gives-sink_failed line piece told after before now is starts later rose = record {
  told = inl (leaves line told after (let P : List ℕ → Type 0 = λ bytes. AppendsStartOf told after bytes in subst P is starts));
  later = later;
  failed = λ _. rose;
  differs = refl;
}
  where
    leaves : (line : Line) (told after : Option (List ℕ)) → AppendsStartOf told after (text_of_line line) → Leaves sink_keeping told line after
    leaves line None after h = h.2
    leaves line (Some bytes) after h = (bytes ++ h.0, h.2, (h.0, h.1, refl))

-- a put that took its piece is a line that was taken
pub Gives-sink_taken : (line : Line) (piece : List ℕ) (told after : Option (List ℕ)) (before now : ℕ) → piece ≡ text_of_line line → after ≡ appended told piece → before ≤ now → Gives sink_keeping (record { told = told; faults = before; refusals = 0 }) (line ∷ []) None (record { told = after; faults = now; refusals = 0 })
Gives-sink_taken line piece told after before now is h later = record {
  told = taken told after (h ∙ ap (appended told) is);
  later = later;
  failed = λ is. let bad : None ≡ Some Failed = is in absurd cc;
  differs = refl;
}
  where
    taken : (told after : Option (List ℕ)) → after ≡ appended told (text_of_line line) → GivesTold sink_keeping told (line ∷ []) None after
    taken None after h = (h, ap is_some h)
    taken (Some bytes) after h = (h, ap is_some h)

-- the text of a head and of events is that of a trace
pub text_of_lines-events : (es : List Stamped) → text_of_lines (map Of es) ≡ lines_text es
text_of_lines-events [] = refl
text_of_lines-events (e ∷ es) = ap (λ bytes. line_text e ++ bytes) (text_of_lines-events es)

pub text_of_lines-trace : (form : ℕ) (es : List Stamped) → text_of_lines (Head form ∷ map Of es) ≡ text_of form es
text_of_lines-trace form es = ap (λ bytes. head_text form ++ bytes) (text_of_lines-events es)

-- A sink that was given a whole trace holds its text behind what it held.
pub Gives-sink_trace : {old new : Seen (List ℕ)} (form : ℕ) (es : List Stamped) → Gives sink_keeping old (Head form ∷ map Of es) None new → new.told ≡ appended old.told (text_of form es)
Gives-sink_trace {old = old} form es h = Gives-sink h ∙ ap (appended old.told) (text_of_lines-trace form es)

-- One that was not given all of it holds a start of the text behind what it held.
pub Gives-sink_trace_stop : {old new : Seen (List ℕ)} (form : ℕ) (es : List Stamped) {why : NoLine} → Gives sink_keeping old (Head form ∷ map Of es) (Some why) new → AppendsStartOf old.told new.told (text_of form es)
Gives-sink_trace_stop {old = old} {new = new} form es h =
    let P : List ℕ → Type 0 = λ text. AppendsStartOf old.told new.told text in
    subst P (text_of_lines-trace form es) (Gives-sink_stop h)
