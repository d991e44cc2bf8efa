-- The choices of a trace, collected line by line.
use Rattle.std.proofs.Common.{Some, None, ◌≡◌, ℕ, List, [], ◌∷◌, ◌++◌, refl, sym, ap, ◌∙◌, append_assoc, append-nil, ℤ, Result}
use Rattle.page_types.specs.declared.Source.{Source}
use Rattle.page_types.specs.Events.{Event, Turn, Wait, Host, Stamped}
use Rattle.page_parts.specs.TraceText.{source_in, reading_in, answer_in, sources_in, readings_in, answers_in}
use Rattle.page_base.specs.Clocks.{numbers_of}
use Rattle.host_jobs.specs.RecordedPort.{answers_of}
use Rattle.trace_check.specs.declared.collecting.TraceChoices.{TraceChoices}
use Rattle.trace_check.specs.Collected.{AreChoicesOf}

-- the choices of the lines so far, and those of the lines that are left, are those of all lines
pub record Collects (all : List Stamped) (choices : TraceChoices) (left : List Stamped) : Type 0 where
  pub sources : choices.sources.items ++ sources_in left ≡ sources_in all
  pub readings : numbers_of choices.readings.items ++ readings_in left ≡ readings_in all
  pub answers : answers_of choices.answers.items ++ answers_in left ≡ answers_in all

pub source-front : (e : Event) (more : List Source) → source_in e [] ++ more ≡ source_in e more
source-front (Turn n (Some s)) more = refl
source-front (Turn n None) more = refl
source-front e more = refl

pub reading-front : (at : Stamped) (e : Event) (more : List ℕ) → reading_in at e [] ++ more ≡ reading_in at e more
reading-front at (Wait t) more = refl
reading-front at e more = refl

pub answer-front : (e : Event) (more : List (Result ℤ ℤ)) → answer_in e [] ++ more ≡ answer_in e more
answer-front (Host k x answer) more = refl
answer-front e more = refl

-- a list that has grown by what stands at the front of the rest
grown : {X : Type 0} (before after front more rest all : List X) → before ++ rest ≡ all → after ≡ before ++ front → front ++ more ≡ rest → after ++ more ≡ all
grown before after front more rest all h grew is =
    ap (λ xs. xs ++ more) grew ∙ append_assoc before front more ∙ ap (λ xs. before ++ xs) is ∙ h

-- before the first line
pub none-collected : (all : List Stamped) (choices : TraceChoices) → AreChoicesOf [] choices → Collects all choices all
none-collected all choices h = record {
  sources = ap (λ xs. xs ++ sources_in all) h.sources;
  readings = ap (λ xs. xs ++ readings_in all) h.readings;
  answers = ap (λ xs. xs ++ answers_in all) h.answers;
}

-- one line more
pub one-collected : (all : List Stamped) (old new : TraceChoices) (e : Stamped) (left : List Stamped) → Collects all old (e ∷ left)
    → new.sources.items ≡ old.sources.items ++ source_in e.event []
    → numbers_of new.readings.items ≡ numbers_of old.readings.items ++ reading_in e e.event []
    → answers_of new.answers.items ≡ answers_of old.answers.items ++ answer_in e.event []
    → Collects all new left
one-collected all old new e left h sources readings answers = record {
  sources = grown old.sources.items new.sources.items (source_in e.event []) (sources_in left) (source_in e.event (sources_in left)) (sources_in all) h.sources sources (source-front e.event (sources_in left));
  readings = grown (numbers_of old.readings.items) (numbers_of new.readings.items) (reading_in e e.event []) (readings_in left) (reading_in e e.event (readings_in left)) (readings_in all) h.readings readings (reading-front e e.event (readings_in left));
  answers = grown (answers_of old.answers.items) (answers_of new.answers.items) (answer_in e.event []) (answers_in left) (answer_in e.event (answers_in left)) (answers_in all) h.answers answers (answer-front e.event (answers_in left));
}

-- behind the last line
pub all-collected : (all : List Stamped) (choices : TraceChoices) (left : List Stamped) → left ≡ [] → Collects all choices left → AreChoicesOf all choices
all-collected all choices [] is h = record {
  sources = sym (append-nil choices.sources.items) ∙ h.sources;
  readings = sym (append-nil (numbers_of choices.readings.items)) ∙ h.readings;
  answers = sym (append-nil (answers_of choices.answers.items)) ∙ h.answers;
}
all-collected all choices (e ∷ left) is h = absurd (cc)
