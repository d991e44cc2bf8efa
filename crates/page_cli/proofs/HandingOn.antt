-- What an answer says of what was put it says too where not all of that was handed on.
use Rattle.std.proofs.Common.{◌≡◌, ◌≤◌, ℕ, List, Option, Some, None, refl, sym, ◌∙◌, subst, inl, inr, arith}
use Rattle.std.specs.Prelude.{IfSome}
use Rattle.page_types.specs.Counts.{raised, Rose}
use Rattle.page_types.specs.declared.End.{End}
use Rattle.page_parts.specs.HostClosures.{HostClosure}
use Rattle.page_cli.specs.declared.answer.Answer.{Answer}
use Rattle.page_cli.specs.declared.answer.Answer.TheVariants.{Ended, Written, Usage}
use Rattle.page_cli.specs.declared.answer.Answer.TheVariants.{WriteFault}
use Rattle.page_cli.specs.Forms.{Form, RunForm, CheckForm, MigrateForm, StormForm, PictureForm, ExpandForm}
use Rattle.page_cli.specs.ToldFiles.{OfFile}
use Rattle.page_cli.specs.Answering.{WroteTrace, WroteStart}
use Rattle.page_cli.specs.Checked.{WroteLegal, WroteLegalStart, AnswersCheck}
use Rattle.page_cli.specs.Migrated.{WroteMigrated, WroteMigratedStart, AnswersMigrate}
use Rattle.page_cli.specs.Pictures.{AnswersTrace}
use Rattle.page_cli.specs.Expanding.{AnswersExpand}
use Rattle.page_cli.specs.FormAnswers.{AnswersForm}
use Rattle.page_cli.specs.HandedOn.{answer_unless_whole, HandsOn}
use Rattle.page_cli.proofs.Closures.{end-marks}
use Rattle.page_cli.proofs.RunLemmas.{whole-start}
use Rattle.page_cli.proofs.ToldLemmas.{of-each}

-- ---- what is whole is a start of itself

module _ (old new : Option (List ℕ)) where
  start-of-trace : (end : End) (hosts left : List HostClosure) (script arrivals : List ℕ) → WroteTrace end script arrivals hosts left old new → WroteStart script arrivals hosts left old new
  start-of-trace end hosts left script arrivals h = record {
    program = h.program;
    settings = h.settings;
    is_run = h.is_run;
    wrote = record { answers = h.wrote.answers; start = whole-start old new _ h.wrote.trace; marks = λ n. end-marks hosts _ left h.wrote.closures };
    marks = end-marks hosts _ left h.wrote.closures;
  }

  start-of-legal : (hosts : List HostClosure) (script arrivals trace : List ℕ) → WroteLegal script arrivals trace hosts old new → WroteLegalStart script arrivals trace hosts old new
  start-of-legal hosts script arrivals trace h = record { legal = h.legal; start = whole-start old new _ h.wrote }

  start-of-migrated : (hosts : List HostClosure) (script arrivals trace : List ℕ) → WroteMigrated script arrivals trace hosts old new → WroteMigratedStart script arrivals trace hosts old new
  start-of-migrated hosts script arrivals trace h = record { text = h.text; is_migration = h.is_migration; start = whole-start old new _ h.wrote }

  -- ---- by the form of the words

  three-each : (script arrivals trace : Option (List ℕ)) (P Q : List ℕ → List ℕ → List ℕ → Type 0) → ((s a t : List ℕ) → P s a t → Q s a t) → OfFile script (λ s. OfFile arrivals (λ a. OfFile trace (λ t. P s a t)))
      → OfFile script (λ s. OfFile arrivals (λ a. OfFile trace (λ t. Q s a t)))
  three-each script arrivals trace P Q f h = (h.0, h.1, (h.2.0, h.2.1, (h.2.2.0, h.2.2.1, f h.0 h.2.0 h.2.2.0 h.2.2.2)))

  module _ (file : List ℕ → Option (List ℕ)) (hosts left : List HostClosure) where
    ended-unless : (end : End) (form : Form) → AnswersForm (Ended end) form file hosts left old new → AnswersForm WriteFault form file hosts left old new
    ended-unless end (RunForm names) h = (h.0, h.1, (h.2.0, h.2.1, start-of-trace end hosts left h.0 h.2.0 h.2.2))
    ended-unless end (CheckForm names) h = absurd h.2.2.2.1
    ended-unless end (MigrateForm names) h = absurd h.2.2.2.1
    ended-unless end (StormForm n) h = record { end = end; counts = h.counts; is_storm = h.is_storm; start = whole-start old new _ h.wrote }
    ended-unless end (PictureForm what trace) h = absurd h.2
    ended-unless end (ExpandForm script) h = absurd h.2

    written-unless : (form : Form) → AnswersForm Written form file hosts left old new → AnswersForm WriteFault form file hosts left old new
    written-unless (RunForm names) h = absurd h.2.2.2
    written-unless (CheckForm names) h =
        three-each (file names.script) (file names.arrivals) (file names.trace) (λ s a t. AnswersCheck Written s a t hosts old new) (λ s a t. AnswersCheck WriteFault s a t hosts old new) (start-of-legal hosts) h
    written-unless (MigrateForm names) h =
        three-each (file names.script) (file names.arrivals) (file names.trace) (λ s a t. AnswersMigrate Written s a t hosts old new) (λ s a t. AnswersMigrate WriteFault s a t hosts old new) (start-of-migrated hosts) h
    written-unless (StormForm n) h = absurd h
    written-unless (PictureForm what trace) h =
        of-each (file trace) (λ bytes. AnswersTrace Written what bytes old new) (λ bytes. AnswersTrace WriteFault what bytes old new) (λ bytes w. record { text = w.text; is_told = w.is_told; start = whole-start old new _ w.wrote }) h
    written-unless (ExpandForm script) h =
        of-each (file script) (λ bytes. AnswersExpand Written bytes old new) (λ bytes. AnswersExpand WriteFault bytes old new) (λ bytes w. record { text = w.text; fits = w.fits; is_expanded = w.is_expanded; start = whole-start old new _ w.wrote }) h

    unless-whole : (answer : Answer) (form : Form) → AnswersForm answer form file hosts left old new → AnswersForm (answer_unless_whole answer) form file hosts left old new
    unless-whole (Ended end) form h = ended-unless end form h
    unless-whole Written form h = written-unless form h
    unless-whole answer form h = h

    handed-form : (had answer : Answer) (before now : ℕ) (form : Form) → HandsOn had answer before now → AnswersForm had form file hosts left old new → AnswersForm answer form file hosts left old new
    handed-form had answer before now form (inl e) h = let P : Answer → Type 0 = λ a. AnswersForm a form file hosts left old new in subst P (sym e) h
    handed-form had answer before now form (inr r) h = let P : Answer → Type 0 = λ a. AnswersForm a form file hosts left old new in subst P (sym r.1) (unless-whole had form h)

-- the same of words, with the bytes that the sink tells
pub handed-answers : (file : List ℕ → Option (List ℕ)) (hosts left : List HostClosure) (old mid new : Option (List ℕ)) (had answer : Answer) (before now : ℕ) (words : Option Form) → HandsOn had answer before now → new ≡ mid
    → IfSome words (λ form. AnswersForm had form file hosts left old mid) → IfSome words (λ form. AnswersForm answer form file hosts left old new)
handed-answers file hosts left old mid new had answer before now None on same h = tt
handed-answers file hosts left old mid new had answer before now (Some form) on same h =
    let P : Option (List ℕ) → Type 0 = λ o. AnswersForm answer form file hosts left old o in
    subst P (sym same) (handed-form old mid file hosts left had answer before now form on h)

-- ---- from the answer to the one before

usage-stays : (had answer : Answer) (before now : ℕ) → HandsOn had answer before now → had ≡ Usage → answer ≡ Usage
usage-stays had answer before now (inl e) h = e ∙ h
usage-stays had answer before now (inr r) h = let P : Answer → Type 0 = λ a. answer_unless_whole a ≡ Usage in r.1 ∙ subst P (sym h) refl

raised-grows : (a b : ℕ) → a ≤ b → raised a ≤ raised b
raised-grows a b h = omega arith

rose-before : (a b c : ℕ) → a ≤ b → Rose b c → Rose a c
rose-before a b c h k = let g = raised-grows a b h in omega (arith, g, k)

rose-since : (a b c : ℕ) → Rose a b → b ≤ c → Rose a c
rose-since a b c h k = omega (arith, h, k)

-- a write fault is one of before, or of handing on
fault-of : (had answer : Answer) (before now first : ℕ) → HandsOn had answer before now → (had ≡ WriteFault → Rose first before) → first ≤ before → before ≤ now → answer ≡ WriteFault → Rose first now
fault-of had answer before now first (inl e) cause later more h = rose-since first before now (cause (sym e ∙ h)) more
fault-of had answer before now first (inr r) cause later more h = rose-before first before now later r.0

module _ (had answer : Answer) (before now : ℕ) (on : HandsOn had answer before now) where
  pub handed-usage : had ≡ Usage → answer ≡ Usage
  handed-usage h = usage-stays had answer before now on h

  pub handed-fault : (first : ℕ) → (had ≡ WriteFault → Rose first before) → first ≤ before → before ≤ now → answer ≡ WriteFault → Rose first now
  handed-fault first cause later more h = fault-of had answer before now first on cause later more h
