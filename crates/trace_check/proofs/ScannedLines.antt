-- The choices of a trace, read from its bytes line by line.
use Rattle.std.proofs.Common.{◌≡◌, ℕ, suc, ◌+◌, ◌<◌, ◌≤◌, Bool, List, [], ◌∷◌, ◌++◌, map, length, Some, false, eqb, refl, sym, ap, subst, ◌∙◌, arith, append_assoc, true}
use Rattle.std.proofs.lemmas.Bool.{eqb-true}
use Rattle.std.proofs.lemmas.List.{map-append, length-append}
use Rattle.page_types.specs.Events.{Stamped}
use Rattle.page_parts.specs.TraceText.{head_text, source_in, reading_in, answer_in, sources_in, readings_in, answers_in}
use Rattle.page_base.specs.Clocks.{numbers_of}
use Rattle.page_base.specs.Fields.{cut_at}
use Rattle.host_jobs.specs.RecordedPort.{answers_of}
use Rattle.trace_text.specs.declared.event.Stamped.{Stamped as EventOf}
use Rattle.trace_text.specs.EventSeen.{stamped_seen}
use Rattle.trace_text.specs.LineReading.{IsRead}
use Rattle.trace_text.specs.Trace.{IsForm, is_end}
use Rattle.trace_text.proofs.SoFar.{IsSoFar}
use Rattle.trace_text.proofs.TracesRead.{so_far_first, so_far_more, so_far_whole}
use Rattle.trace_check.specs.declared.collecting.TraceChoices.{TraceChoices}
use Rattle.trace_check.specs.Collected.{AreChoicesOf}
use Rattle.trace_check.specs.Scanned.{AreChoicesIn}
use Rattle.trace_check.proofs.Gathered.{source-front, reading-front, answer-front}

-- The bytes are so far the lines of some events, whose choices these are, and the rest.
pub record IsScanned (form : ℕ) (bytes text : List ℕ) (choices : TraceChoices) (lines : ℕ) (rest : List ℕ) (last : ℕ) (ended : Bool) : Type 0 where
  pub good : List EventOf
  pub so_far : IsSoFar form bytes (map stamped_seen good) rest last ended
  pub choices_are : AreChoicesOf (map stamped_seen good) choices
  pub counted : lines ≡ length (map stamped_seen good)
  pub room : lines + length rest ≤ length text

-- ---- the choices of one line more

sources-more : (es : List Stamped) (e : Stamped) → sources_in (es ++ e ∷ []) ≡ sources_in es ++ source_in e.event []
sources-more [] e = refl
sources-more (x ∷ es) e =
    ap (source_in x.event) (sources-more es e)
    ∙ (sym (source-front x.event (sources_in es ++ source_in e.event []))
    ∙ (sym (append_assoc (source_in x.event []) (sources_in es) (source_in e.event []))
    ∙ ap (λ xs. xs ++ source_in e.event []) (source-front x.event (sources_in es))))

readings-more : (es : List Stamped) (e : Stamped) → readings_in (es ++ e ∷ []) ≡ readings_in es ++ reading_in e e.event []
readings-more [] e = refl
readings-more (x ∷ es) e =
    ap (reading_in x x.event) (readings-more es e)
    ∙ (sym (reading-front x x.event (readings_in es ++ reading_in e e.event []))
    ∙ (sym (append_assoc (reading_in x x.event []) (readings_in es) (reading_in e e.event []))
    ∙ ap (λ xs. xs ++ reading_in e e.event []) (reading-front x x.event (readings_in es))))

answers-more : (es : List Stamped) (e : Stamped) → answers_in (es ++ e ∷ []) ≡ answers_in es ++ answer_in e.event []
answers-more [] e = refl
answers-more (x ∷ es) e =
    ap (answer_in x.event) (answers-more es e)
    ∙ (sym (answer-front x.event (answers_in es ++ answer_in e.event []))
    ∙ (sym (append_assoc (answer_in x.event []) (answers_in es) (answer_in e.event []))
    ∙ ap (λ xs. xs ++ answer_in e.event []) (answer-front x.event (answers_in es))))

choices-more : (es : List Stamped) (e : Stamped) (old new : TraceChoices) → AreChoicesOf es old
    → new.sources.items ≡ old.sources.items ++ source_in e.event []
    → numbers_of new.readings.items ≡ numbers_of old.readings.items ++ reading_in e e.event []
    → answers_of new.answers.items ≡ answers_of old.answers.items ++ answer_in e.event []
    → AreChoicesOf (es ++ e ∷ []) new
choices-more es e old new h sources readings answers = record {
  sources = sources ∙ (ap (λ xs. xs ++ source_in e.event []) h.sources ∙ sym (sources-more es e));
  readings = readings ∙ (ap (λ xs. xs ++ reading_in e e.event []) h.readings ∙ sym (readings-more es e));
  answers = answers ∙ (ap (λ xs. xs ++ answer_in e.event []) h.answers ∙ sym (answers-more es e));
}

-- ---- the lines so far

pub none-scanned : (form : ℕ) (text : List ℕ) (choices : TraceChoices) → AreChoicesOf [] choices → IsScanned form (head_text form ++ text) text choices 0 text 0 false
none-scanned form text choices h = record { good = []; so_far = so_far_first form text; choices_are = h; counted = refl; room = omega arith }

pub one-scanned : (form : ℕ) (bytes text line rest after : List ℕ) (old new : TraceChoices) (lines last : ℕ) (next : EventOf) (ended : Bool)
    → IsScanned form bytes text old lines rest last false → cut_at 10 rest ≡ Some (line, after) → length after < length rest
    → IsRead form line (Some (stamped_seen next)) → last ≤ next.time.0 → ended ≡ is_end (stamped_seen next).event
    → new.sources.items ≡ old.sources.items ++ source_in (stamped_seen next).event []
    → numbers_of new.readings.items ≡ numbers_of old.readings.items ++ reading_in (stamped_seen next) (stamped_seen next).event []
    → answers_of new.answers.items ≡ answers_of old.answers.items ++ answer_in (stamped_seen next).event []
    → IsScanned form bytes text new (lines + 1) after next.time.0 ended
one-scanned form bytes text line rest after old new lines last next ended h cut shorter read later ends sources readings answers =
    let e = stamped_seen next in
    let grown : map stamped_seen (h.good ++ next ∷ []) ≡ map stamped_seen h.good ++ e ∷ [] = map-append stamped_seen h.good (next ∷ []) in
    let more = so_far_more form bytes line rest after (map stamped_seen h.good) last e h.so_far cut read later in
    let room = h.room in
    record {
      good = h.good ++ next ∷ [];
      so_far = subst (λ es. IsSoFar form bytes es after next.time.0 ended) (sym grown) (subst (λ b. IsSoFar form bytes (map stamped_seen h.good ++ e ∷ []) after next.time.0 b) (sym ends) more);
      choices_are = subst (λ es. AreChoicesOf es new) (sym grown) (choices-more (map stamped_seen h.good) e old new h.choices_are sources readings answers);
      counted = ap (λ n. n + 1) h.counted ∙ sym (ap length grown ∙ length-append (map stamped_seen h.good) (e ∷ []));
      room = omega (arith, room, shorter);
    }

pub empty-now : (rest : List ℕ) (t : Bool) → t ≡ eqb (length rest) 0 → t ≡ true → rest ≡ []
empty-now [] t e h = refl
empty-now (x ∷ rest) t e h = let none : suc (length rest) ≡ 0 = eqb-true (suc (length rest)) 0 (sym e ∙ h) in absurd (omega (arith, none))

pub all-scanned : (form : ℕ) (bytes text rest : List ℕ) (choices : TraceChoices) (lines last : ℕ) → IsForm form → IsScanned form bytes text choices lines rest last true → rest ≡ [] → AreChoicesIn form bytes choices
all-scanned form bytes text rest choices lines last known h none = record {
  events = h.good;
  is_trace = so_far_whole form bytes rest (map stamped_seen h.good) last known h.so_far none;
  choices_are = h.choices_are;
}
