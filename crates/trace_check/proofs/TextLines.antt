-- Lines that were compared with the bytes of a trace were compared with its lines.
use Rattle.std.proofs.Common.{◌≡◌, ℕ, zero, suc, Bool, true, false, List, [], ◌∷◌, map, Option, Some, None, Result, refl, sym, subst, arith, inl, inr, All}
use Rattle.std.specs.Prelude.{◌==◌}
use Rattle.std.proofs.lemmas.Bool.Decides.{nat_tests}
use Rattle.std.proofs.lemmas.List.Elements.{All-head, All-tail}
use Rattle.page_types.specs.Events.{Stamped}
use Rattle.page_types.specs.declared.End.{End}
use Rattle.page_parts.specs.Words.{same_bytes}
use Rattle.page_parts.specs.TraceText.{line_text, lines_text}
use Rattle.page_base.specs.Fields.{cut_at}
use Rattle.page_model.specs.Turns.{Turned}
use Rattle.trace_text.specs.Trace.{Fits}
use Rattle.trace_text.specs.LineReading.{body_of}
use Rattle.trace_text.specs.Line.{Line, Head, Of}
use Rattle.trace_text.specs.Given.{next, after_all, StopsAmong, GivesTold}
use Rattle.trace_text.specs.declared.lines.NoLine.{NoLine}
use Rattle.trace_text.specs.declared.lines.NoLine.TheVariants.{Failed, Differs, OutOfMemory}
use Rattle.trace_text.specs.Checks.{Kept, met, kept_lines, check_keeping, seen_kept}
use Rattle.trace_text.proofs.LinesRead.{line_cut}
use Rattle.loop_turn.specs.RunStops.{line_fault}
use Rattle.loop_turn.specs.declared.run_stop.RunStop.{RunStop}
use Rattle.trace_check.specs.Replays.{Replays}
use Rattle.trace_check.specs.Verdicts.{lines_of_run}
use Rattle.trace_check.specs.TextKept.{TextKept, met_line, met_in_text, text_keeping, seen_in_text}

-- the bytes that are left are the lines that are left
record Alike (t : TextKept) (k : Kept) : Type 0 where
  es : List Stamped
  fit : All (Fits t.form) es
  text : t.left ≡ lines_text es
  lines : k.left ≡ kept_lines t.form es t.matched
  counted : k.matched ≡ t.matched

abbrev BothAlike : Option TextKept → Option Kept → Type 0
BothAlike None None = Unit {0}
BothAlike (Some t) (Some k) = Alike t k
BothAlike None (Some k) = ⊥
BothAlike (Some t) None = ⊥

abbrev pub the_text : ℕ → List ℕ → ℕ → TextKept
the_text form left matched = record { form = form; left = left; matched = matched }

abbrev pub the_kept : List Line → ℕ → Kept
the_kept left matched = record { left = left; matched = matched }

-- the next line, of which the bytes are cut
event-alike : (form : ℕ) (es : List Stamped) (matched : ℕ) (e : Stamped) → All (Fits form) es
    → BothAlike (met_line (the_text form (lines_text es) (suc matched)) e (cut_at 10 (lines_text es))) (met (map Of es) (suc matched) (Of e))
event-alike form [] matched e fit = tt
event-alike form (first ∷ es) matched e fit =
    rw (line_cut form first (lines_text es) (All-head (Fits form) first es fit)) (by_line (same_bytes (line_text first) (line_text e)) refl)
  where
    by_line : (same : Bool) → same_bytes (line_text first) (line_text e) ≡ same
        → BothAlike (met_line (the_text form (lines_text (first ∷ es)) (suc matched)) e (Some (body_of first, lines_text es))) (met (map Of (first ∷ es)) (suc matched) (Of e))
    by_line true is = rw is (record { es = es; fit = All-tail (Fits form) first es fit; text = refl; lines = refl; counted = refl })
    by_line false is = rw is tt

head-alike : (form other : ℕ) (es : List Stamped) → All (Fits form) es
    → BothAlike (met_in_text (the_text form (lines_text es) 0) (Head other)) (met (kept_lines form es 0) 0 (Head other))
head-alike form other es fit = by_form (form == other) refl
  where
    by_form : (same : Bool) → (form == other) ≡ same → BothAlike (met_in_text (the_text form (lines_text es) 0) (Head other)) (met (kept_lines form es 0) 0 (Head other))
    by_form true is = rw is (record { es = es; fit = fit; text = refl; lines = refl; counted = refl })
    by_form false is = rw is tt

no-head : (es : List Stamped) (matched other : ℕ) → met (map Of es) matched (Head other) ≡ None
no-head [] matched other = refl
no-head (e ∷ es) matched other = refl

-- behind the first line
later : (matched : ℕ) → (suc matched == 0) ≡ false
later matched = grind (arith, nat_tests)

-- one line, by the events that are left
line-alike : (form : ℕ) (es : List Stamped) (matched : ℕ) (line : Line) → All (Fits form) es
    → BothAlike (met_in_text (the_text form (lines_text es) matched) line) (met (kept_lines form es matched) matched line)
line-alike form es zero (Head other) fit = head-alike form other es fit
line-alike form es zero (Of e) fit = tt
line-alike form es (suc matched) (Head other) fit = rw (later matched, no-head es (suc matched) other) tt
line-alike form es (suc matched) (Of e) fit = rw (later matched) (event-alike form es matched e fit)

one-alike : (t : TextKept) (k : Kept) (line : Line) → Alike t k → BothAlike (met_in_text t line) (met k.left k.matched line)
one-alike t k line h =
    subst (λ m. BothAlike (met_in_text t line) (met k.left m line)) (sym h.counted)
    (subst (λ ls. BothAlike (met_in_text t line) (met ls t.matched line)) (sym h.lines)
    (subst (λ bytes. BothAlike (met_in_text (the_text t.form bytes t.matched) line) (met (kept_lines t.form h.es t.matched) t.matched line)) (sym h.text)
    (line-alike t.form h.es t.matched line h.fit)))

next-alike : (a : Option TextKept) (b : Option Kept) (line : Line) → BothAlike a b → BothAlike (next text_keeping a line) (next check_keeping b line)
next-alike None None line h = tt
next-alike (Some t) (Some k) line h = one-alike t k line h
next-alike None (Some k) line h = absurd h
next-alike (Some t) None line h = absurd h

all-alike : (a : Option TextKept) (b : Option Kept) (lines : List Line) → BothAlike a b → BothAlike (after_all text_keeping a lines) (after_all check_keeping b lines)
all-alike a b [] h = h
all-alike a b (line ∷ lines) h = all-alike (next text_keeping a line) (next check_keeping b line) lines (next-alike a b line h)

-- what is told of the lines of a trace where this is told of its bytes
record Stopped (why : NoLine) (b : Option Kept) (lines : List Line) (after : Option TextKept) : Type 0 where
  told : Option Kept
  alike : BothAlike after told
  stops : StopsAmong check_keeping why b lines told

none-alike : (a : Option TextKept) (b : Option Kept) → BothAlike a b → a ≡ None → b ≡ None
none-alike None None h is = refl
none-alike None (Some k) h is = absurd h
none-alike (Some t) b h is = absurd (cc)

stops-alike : (why : NoLine) (a : Option TextKept) (b : Option Kept) (lines : List Line) (after : Option TextKept)
    → BothAlike a b → StopsAmong text_keeping why a lines after → Stopped why b lines after
stops-alike why a b [] after h s = record { told = b; alike = subst (λ x. BothAlike x b) (sym s.1) h; stops = (s.0, refl) }
stops-alike Failed None b (line ∷ lines) after h (inl s) =
    let none = none-alike None b h refl in
    record { told = None; alike = subst (λ x. BothAlike x None) (sym s) tt; stops = rw none (inl refl) }
stops-alike Failed (Some t) b (line ∷ lines) after h (inl s) = absurd s.2
stops-alike Differs a b (line ∷ lines) after h (inl s) =
    record { told = b; alike = subst (λ x. BothAlike x b) (sym s.0) h; stops = inl (refl, none-alike (next text_keeping a line) (next check_keeping b line) (next-alike a b line h) s.1) }
stops-alike OutOfMemory a b (line ∷ lines) after h (inl s) = record { told = b; alike = subst (λ x. BothAlike x b) (sym s) h; stops = inl refl }
stops-alike why a b (line ∷ lines) after h (inr s) =
    let more = stops-alike why (next text_keeping a line) (next check_keeping b line) lines after (next-alike a b line h) s in
    record { told = more.told; alike = more.alike; stops = inr more.stops }

-- a comparison of the lines, which was one of the bytes
pub record Compared {C : Type 0} (first : Kept) (form : ℕ) (run : Turned C) (answer : Result End RunStop) (t : TextKept) (refusals : ℕ) : Type 0 where
  pub now : Kept
  pub counted : now.matched ≡ t.matched
  pub compares : Replays check_keeping (seen_kept first 0) form run answer (seen_kept now refusals)

-- what is told of the lines, where this is told of the bytes
record ToldToo (first : Kept) (lines : List Line) (why : Option NoLine) (t : TextKept) : Type 0 where
  now : Kept
  counted : now.matched ≡ t.matched
  told : GivesTold check_keeping (Some first) lines why (Some now)

told-now : (first : Kept) (lines : List Line) (t : TextKept) (o : Option Kept) → BothAlike (Some t) o → o ≡ after_all check_keeping (Some first) lines → ToldToo first lines None t
told-now first lines t None h is = absurd h
told-now first lines t (Some k) h is = record { now = k; counted = h.counted; told = (is, refl) }

told-then : (first : Kept) (lines : List Line) (why : NoLine) (t : TextKept) (o : Option Kept) → BothAlike (Some t) o → StopsAmong check_keeping why (Some first) lines o → ToldToo first lines (Some why) t
told-then first lines why t None h s = absurd h
told-then first lines why t (Some k) h s = record { now = k; counted = h.counted; told = s }

told-too : (start t : TextKept) (first : Kept) (lines : List Line) (why : Option NoLine) → Alike start first → GivesTold text_keeping (Some start) lines why (Some t) → ToldToo first lines why t
told-too start t first lines None h told =
    let whole = all-alike (Some start) (Some first) lines h in
    told-now first lines t (after_all check_keeping (Some first) lines) (subst (λ a. BothAlike a (after_all check_keeping (Some first) lines)) (sym told.0) whole) refl
told-too start t first lines (Some why) h told =
    let s = stops-alike why (Some start) (Some first) lines (Some t) h told in
    told-then first lines why t s.told s.alike s.stops

-- a run whose lines were compared with the bytes of a trace, of which none was met
pub compared : {C : Type 0} (kept form : ℕ) (es : List Stamped) (run : Turned C) (answer : Result End RunStop) (t : TextKept) (refusals : ℕ) → All (Fits kept) es
    → Replays text_keeping (seen_in_text (the_text kept (lines_text es) 0) 0) form run answer (seen_in_text t refusals)
    → Compared (the_kept (kept_lines kept es 0) 0) form run answer t refusals
compared kept form es run answer t refusals fit h =
    let first = the_kept (kept_lines kept es 0) 0 in
    let too = told-too (the_text kept (lines_text es) 0) t first (lines_of_run form run) (line_fault answer)
    (record { es = es; fit = fit; text = refl; lines = refl; counted = refl }) h.lines.told in
    record {
      now = too.now;
      counted = too.counted;
      compares = record { lines = record { told = too.told; later = h.lines.later; failed = h.lines.failed; differs = h.lines.differs }; ends = h.ends };
    }
