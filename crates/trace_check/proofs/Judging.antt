-- The verdict on a trace, by what was found of its lines.
use Rattle.std.proofs.Common.{◌≡◌, ℕ, suc, Bool, true, false, not, ◌&&◌, nat_le, List, [], ◌∷◌, ◌++◌, map, length, refl, sym, ap, ◌∙◌, append_assoc, append-nil}
use Rattle.std.specs.Prelude.{reverse, ◌↔◌}
use Rattle.std.proofs.lemmas.List.{map-append, reverse-append}
use Rattle.page_types.specs.Tree.{Program}
use Rattle.page_types.specs.Events.{Stamped, Ret, EndLine}
use Rattle.page_types.specs.declared.End.{End}
use Rattle.page_parts.specs.HostClosures.{HostClosure}
use Rattle.page_parts.specs.Setup.{Setup}
use Rattle.page_parts.specs.TraceText.{choices_in}
use Rattle.page_model.specs.State.{State}
use Rattle.page_model.specs.Turns.{Turned, GoesOn, Ended, Stuck, run, events_of_run}
use Rattle.page_model.specs.PageTrace.{EndsWith}
use Rattle.page_model.specs.ChoicesAreData.{HasEnded}
use Rattle.page_model.specs.Choosing.{choice_rules}
use Rattle.trace_text.specs.Trace.{is_end, are_in_order, ends, is_whole}
use Rattle.trace_text.specs.Line.{Line, Head, Of}
use Rattle.trace_text.specs.EventSeen.{TraceSeen}
use Rattle.trace_check.specs.declared.verdict.Verdict.{Verdict}
use Rattle.trace_check.specs.declared.verdict.Verdict.TheVariants.{Yes, Differs, Illegal}
use Rattle.trace_check.specs.Verdicts.{are_first, agreeing, events_of, trace_lines, own_run, lines_of_run, IsStuck, IsLegalHere, IsVerdict}
use Rattle.trace_check.proofs.Comparisons.{first-of}
use Rattle.trace_check.proofs.EndLines.{LastIs, EndsByLine, run-ends-by}

-- ---- lines and events

-- the event of a line, where it has one
abbrev back : Line → Stamped
back (Head form) = record { time = 0; event = Ret }
back (Of e) = e

all-back : (es : List Stamped) → map back (map Of es) ≡ es
all-back [] = refl
all-back (e ∷ es) = ap (λ xs. e ∷ xs) (all-back es)

abbrev form_in : Line → ℕ
form_in (Head form) = form
form_in (Of e) = 0

abbrev tail_in : List Line → List Line
tail_in [] = []
tail_in (line ∷ lines) = lines

abbrev head_in : List Line → ℕ
head_in [] = 0
head_in (line ∷ lines) = form_in line

-- lines that are those of some events, and more
events-front : (es evs : List Stamped) (rest : List Line) → map Of es ≡ map Of evs ++ rest → es ≡ evs ++ map back rest
events-front es evs rest h =
    sym (all-back es) ∙ (ap (map back) h ∙ (map-append back (map Of evs) rest ∙ ap (λ xs. xs ++ map back rest) (all-back evs)))

-- ---- behind an end line there is nothing

right : (a b : Bool) → (a && b) ≡ true → b ≡ true
right true b h = h
right false b h = absurd (cc)

left : (a b : Bool) → (a && b) ≡ true → a ≡ true
left true b h = refl
left false b h = absurd (cc)

ended-alone : (time : ℕ) (end : End) (rest : List Stamped) → are_in_order (record { time = time; event = EndLine end } ∷ rest) ≡ true → rest ≡ []
ended-alone time end [] h = refl
ended-alone time end (x ∷ rest) h = absurd (cc)

order-behind : (front more : List Stamped) → are_in_order (front ++ more) ≡ true → are_in_order more ≡ true
order-behind [] more h = h
order-behind (x ∷ []) [] h = refl
order-behind (x ∷ []) (y ∷ more) h = right (not (is_end x.event) && nat_le x.time y.time) (are_in_order (y ∷ more)) h
order-behind (x ∷ y ∷ front) more h =
    order-behind (y ∷ front) more (right (not (is_end x.event) && nat_le x.time y.time) (are_in_order (y ∷ (front ++ more))) h)

-- the events of a run that has ended, the last one apart
last-apart : (end : End) (m : State) → LastIs end m → (time : ℕ) × (front : List Stamped) × (reverse m.host.events ≡ front ++ record { time = time; event = EndLine end } ∷ [])
last-apart end m h = (h.time, reverse h.before, ap reverse h.is ∙ reverse-append (record { time = h.time; event = EndLine end } ∷ []) h.before)

-- a whole trace that begins with the events of a run that has ended has no more events
no-more : (end : End) (m : State) (es rest : List Stamped) → LastIs end m → are_in_order es ≡ true → es ≡ reverse m.host.events ++ rest → rest ≡ []
no-more end m es rest h order is =
    let apart = last-apart end m h in
    let whole : es ≡ apart.1 ++ (record { time = apart.0; event = EndLine end } ∷ rest) =
    is ∙ (ap (λ xs. xs ++ rest) apart.2 ∙ append_assoc apart.1 (record { time = apart.0; event = EndLine end } ∷ []) rest) in
    ended-alone apart.0 end rest (order-behind apart.1 (record { time = apart.0; event = EndLine end } ∷ rest) (sym (ap are_in_order whole) ∙ order))

-- ---- verdicts by a run

module _ {C : Type 0} where
  stuck-ends : (es : List Stamped) (r : Turned C) → EndsWith es r → IsStuck r → ⊥
  stuck-ends es (GoesOn m c) h k = h
  stuck-ends es (Ended end m c) h k = k
  stuck-ends es (Stuck at m c) h k = h

  pub events-are : (es : List Stamped) (r : Turned C) → EndsWith es r → events_of_run r ≡ es
  events-are es (GoesOn m c) h = absurd h
  events-are es (Ended end m c) h = h
  events-are es (Stuck at m c) h = absurd h

  ends-with : (es : List Stamped) (rest : List Stamped) (r : Turned C) → HasEnded r → EndsByLine r → are_in_order es ≡ true → es ≡ events_of_run r ++ rest → EndsWith es r
  ends-with es rest (GoesOn m c) h k order is = absurd h
  ends-with es rest (Ended end m c) h k order is =
      let none = no-more end m es rest k order is in
      sym (is ∙ (ap (λ xs. reverse m.host.events ++ xs) none ∙ append-nil (reverse m.host.events)))
  ends-with es rest (Stuck at m c) h k order is = absurd h

module _ (program : Program) (setup : Setup) (hosts : List HostClosure) (trace : TraceSeen) where
  own-ends-by : EndsByLine (own_run program setup hosts (events_of trace))
  unfolding own_run run
  own-ends-by = run-ends-by choice_rules program setup hosts (choices_in (events_of trace))

  legal-own : IsLegalHere program setup hosts trace → EndsWith (events_of trace) (own_run program setup hosts (events_of trace))
  unfolding own_run
  legal-own h = h.1

  own-legal : trace.form ≡ setup.trace → EndsWith (events_of trace) (own_run program setup hosts (events_of trace)) → IsLegalHere program setup hosts trace
  unfolding own_run
  own-legal form h = (form, h)

  -- the lines of the run under the trace's own choices
  abbrev own_lines : List Line
  own_lines = lines_of_run setup.trace (own_run program setup hosts (events_of trace))

  legal-lines : IsLegalHere program setup hosts trace → trace_lines trace ≡ own_lines
  legal-lines h =
      ap (λ n. Head n ∷ map Of (events_of trace)) h.0
      ∙ ap (λ es. Head setup.trace ∷ map Of es) (sym (events-are (events_of trace) (own_run program setup hosts (events_of trace)) (legal-own h)))

  legal-first : IsLegalHere program setup hosts trace → are_first own_lines (trace_lines trace) ≡ true
  legal-first h = ap (are_first own_lines) (legal-lines h ∙ sym (append-nil own_lines)) ∙ first-of own_lines []

  -- the run has ended, and all its lines were met
  pub ended-verdict : (rest : List Line) → trace_lines trace ≡ own_lines ++ rest → is_whole (events_of trace) ≡ true
      → HasEnded (own_run program setup hosts (events_of trace)) → IsVerdict program setup hosts trace Yes
  ended-verdict rest is whole ended =
      let r = own_run program setup hosts (events_of trace) in
      own-legal (ap head_in is)
      (ends-with (events_of trace) (map back rest) r ended own-ends-by (left (are_in_order (events_of trace)) (ends (events_of trace)) whole)
      (events-front (events_of trace) (events_of_run r) rest (ap tail_in is)))

  -- the run is stuck, and all its lines were met
  pub stuck-verdict : (rest : List Line) (line : ℕ) → trace_lines trace ≡ own_lines ++ rest → IsStuck (own_run program setup hosts (events_of trace))
      → line ≡ suc (length own_lines) → IsVerdict program setup hosts trace (Illegal line)
  stuck-verdict rest line is stuck counted = ((stuck, ap (are_first own_lines) is ∙ first-of own_lines rest), counted)

  -- a line of the run is another
  pub other-verdict : (line : ℕ) → are_first own_lines (trace_lines trace) ≡ false → line ≡ suc (agreeing own_lines (trace_lines trace))
      → IsVerdict program setup hosts trace (Differs line)
  other-verdict line differs counted = (λ h. let first = legal-first h in absurd (cc), λ h. let first = h.1 in absurd (cc), counted)

  -- the verdict is Yes exactly where the trace is legal
  pub yes-where : (verdict : Verdict) → IsVerdict program setup hosts trace verdict → (verdict ≡ Yes) ↔ IsLegalHere program setup hosts trace
  yes-where Yes h = (λ is. h, λ legal. refl)
  yes-where (Illegal line) h =
      (λ is. absurd (cc), λ legal. absurd (stuck-ends (events_of trace) (own_run program setup hosts (events_of trace)) (legal-own legal) h.0.0))
  yes-where (Differs line) h = (λ is. absurd (cc), λ legal. absurd (h.0 legal))
