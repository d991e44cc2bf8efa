-- What is left to be answered where the files are what the words ask for and nothing failed.
use Rattle.std.proofs.Common.{◌≡◌, ◌≤◌, ℕ, List, length, Option, Some, None, Result, Ok, refl, sym, subst, arith}
use Rattle.std.specs.Prelude.{IfSome}
use Rattle.page_types.specs.Tree.{Item}
use Rattle.page_types.specs.Counts.{Rose}
use Rattle.page_types.specs.Events.{Stamped}
use Rattle.page_parts.specs.HostClosures.{HostClosure}
use Rattle.lang_tokens.specs.Seen.{TokenSeen}
use Rattle.lang_parse.specs.Symbols.{symbols_of}
use Rattle.lang_parse.specs.Grammar.{HasTree}
use Rattle.lang_parse.proofs.Script.{one_tree}
use Rattle.lang_ast.specs.Names.{occurrences}
use Rattle.lang_ast.specs.NameFaults.{Fault, fault_at, IsResolved}
use Rattle.lang_names.specs.Told.{seen_fault}
use Rattle.lang_names.specs.declared.fault.NameFault.{NameFault}
use Rattle.arrivals_text.specs.Arrivals.{IsBadLine, lines_of}
use Rattle.trace_text.specs.Trace.{IsTrace, IsBadLine as IsBadTraceLine}
use Rattle.page_cli.specs.declared.names.Picture.{Picture}
use Rattle.page_cli.specs.declared.answer.WhichFile.{WhichFile}
use Rattle.page_cli.specs.declared.answer.WhichFile.TheVariants.{Script, Arrivals, Trace}
use Rattle.page_cli.specs.declared.answer.Answer.{Answer}
use Rattle.page_cli.specs.declared.answer.Answer.TheVariants.{Ended, Written, NoParse, BadName, BadArrivals, BadTrace, Differs, Illegal}
use Rattle.page_cli.specs.declared.answer.Answer.TheVariants.{NotAsync, TooLong, ReadFault, WriteFault, OutOfMemory}
use Rattle.page_cli.specs.Forms.{Form, RunForm, CheckForm, MigrateForm, StormForm, PictureForm, ExpandForm, name_of}
use Rattle.page_cli.specs.Scripts.{IsScript, HasSomeProgram, IsSyntaxError, HasBadName}
use Rattle.page_cli.specs.ToldFiles.{OfFile}
use Rattle.page_cli.proofs.ToldLemmas.{of-told, of-each}
use Rattle.page_cli.specs.Answering.{AnswersFiles, AnswersTold}
use Rattle.page_cli.specs.Checked.{TraceFits, HasSomeSetup, AnswersCheck, AnswersThree}
use Rattle.page_cli.specs.Pictures.{most_of, AnswersTrace}
use Rattle.page_cli.specs.Migrated.{AnswersMigrate, AnswersMigration}
use Rattle.page_cli.specs.Stormed.{AnswersStorm}
use Rattle.page_cli.specs.Expanding.{AnswersExpand}
use Rattle.page_cli.specs.FormAnswers.{AnswersForm}
use Rattle.page_cli.specs.Completeness.{NothingRose, CanRun, CanExpand, IsSomeTrace, EndsOrWants, JudgesOrWants, WritesOrWants, Completes}

-- ---- no cause stands

no-syntax-error : (script : List ℕ) (at : ℕ) → HasSomeProgram script → IsSyntaxError script at → ⊥
no-syntax-error script at has e = e.none has.1.tree has.1.is_script

same-tokens : (r : Result (List TokenSeen) ℕ) (a b : List TokenSeen) → r ≡ Ok a → r ≡ Ok b → b ≡ a
same-tokens r a b p q = cc

same-tree : (script : List ℕ) (one other : List Item) → IsScript script one → IsScript script other → one ≡ other
same-tree script one other p q =
    let P : List TokenSeen → Type 0 = λ ts. HasTree (symbols_of ts) other in
    one_tree (symbols_of p.tokens) one other p.has_tree (subst P (same-tokens _ p.tokens q.tokens p.tokens_are q.tokens_are) q.has_tree)

some-none : (o : Option Fault) (f : Fault) → o ≡ Some f → o ≡ None → ⊥
some-none o f p q = cc

no-bad-name : (script : List ℕ) (fault : NameFault) → HasSomeProgram script → HasBadName script fault → ⊥
no-bad-name script fault has bad =
    let same = same-tree script bad.tree has.1.tree bad.is_script has.1.is_script in
    let resolved = subst (λ t. IsResolved t) (sym same) has.1.is_resolved in
    some-none (fault_at (occurrences bad.tree) bad.first.place) (seen_fault fault) bad.first.here (resolved bad.first.place)

no-bad-arrivals : (arrivals : List ℕ) (line : ℕ) → HasSomeSetup arrivals → IsBadLine (lines_of arrivals) line → ⊥
no-bad-arrivals arrivals line sets bad = bad.refused sets.1.lines sets.1.page

-- the law that no line of a trace is bad
abbrev NoBadLine : Type 0
NoBadLine = (form : ℕ) (bytes : List ℕ) (es : List Stamped) (number : ℕ) → IsTrace form bytes es → IsBadTraceLine bytes number → ⊥

no-bad-trace : NoBadLine → (trace : List ℕ) (line : ℕ) → IsSomeTrace trace → IsBadTraceLine trace line → ⊥
no-bad-trace law trace line is bad = law is.form trace is.events line is.is_trace bad

-- ---- each command, where no file failed to be read and the sink took all

module _ (law : NoBadLine) (hosts left : List HostClosure) (old new : Option (List ℕ)) where
  run-completes : (answer : Answer) (script arrivals : List ℕ) → AnswersFiles answer script arrivals hosts left old new → ((file : WhichFile) → answer ≡ ReadFault file → ⊥) → (answer ≡ WriteFault → ⊥) →
      CanRun script arrivals → EndsOrWants answer
  run-completes (Ended end) script arrivals h r w can = tt
  run-completes (NoParse at) script arrivals h r w can = no-syntax-error script at can.program h.2
  run-completes (BadName fault) script arrivals h r w can = no-bad-name script fault can.program h.2
  run-completes (BadArrivals line) script arrivals h r w can = no-bad-arrivals arrivals line can.setup h.2.1
  run-completes (TooLong Script) script arrivals h r w can = let size = can.program.1.is_script.size in omega (arith, h.0, size)
  run-completes (TooLong Arrivals) script arrivals h r w can = let size = can.fits in omega (arith, h.0.1, size)
  run-completes (TooLong Trace) script arrivals h r w can = h.0
  run-completes (ReadFault file) script arrivals h r w can = r file refl
  run-completes WriteFault script arrivals h r w can = w refl
  run-completes OutOfMemory script arrivals h r w can = tt
  run-completes answer script arrivals h r w can = absurd h.2

  check-completes : (answer : Answer) (script arrivals trace : List ℕ) → AnswersCheck answer script arrivals trace hosts old new → ((file : WhichFile) → answer ≡ ReadFault file → ⊥) → (answer ≡ WriteFault → ⊥) →
      CanRun script arrivals → TraceFits trace → IsSomeTrace trace → JudgesOrWants answer
  check-completes Written script arrivals trace h r w can fits is = tt
  check-completes (Differs line) script arrivals trace h r w can fits is = tt
  check-completes (Illegal line) script arrivals trace h r w can fits is = tt
  check-completes (NoParse at) script arrivals trace h r w can fits is = no-syntax-error script at can.program h.1
  check-completes (BadName fault) script arrivals trace h r w can fits is = no-bad-name script fault can.program h.1
  check-completes (BadArrivals line) script arrivals trace h r w can fits is = no-bad-arrivals arrivals line can.setup h.1.1
  check-completes (BadTrace line) script arrivals trace h r w can fits is = no-bad-trace law trace line is h.1.2
  check-completes (TooLong Script) script arrivals trace h r w can fits is = let size = can.program.1.is_script.size in omega (arith, h.0, size)
  check-completes (TooLong Arrivals) script arrivals trace h r w can fits is = let size = can.fits in omega (arith, h.0.1, size)
  check-completes (TooLong Trace) script arrivals trace h r w can fits is = omega (arith, h.0.2, fits)
  check-completes (ReadFault file) script arrivals trace h r w can fits is = r file refl
  check-completes WriteFault script arrivals trace h r w can fits is = w refl
  check-completes OutOfMemory script arrivals trace h r w can fits is = tt
  check-completes answer script arrivals trace h r w can fits is = absurd h.1

  migrate-completes : (answer : Answer) (script arrivals trace : List ℕ) → AnswersMigrate answer script arrivals trace hosts old new → ((file : WhichFile) → answer ≡ ReadFault file → ⊥) → (answer ≡ WriteFault → ⊥) →
      CanRun script arrivals → TraceFits trace → IsSomeTrace trace → JudgesOrWants answer
  migrate-completes Written script arrivals trace h r w can fits is = tt
  migrate-completes WriteFault script arrivals trace h r w can fits is = w refl
  migrate-completes OutOfMemory script arrivals trace h r w can fits is = tt
  migrate-completes answer script arrivals trace h r w can fits is = check-completes answer script arrivals trace h r w can fits is

  storm-completes : (answer : Answer) (n : ℕ) → AnswersStorm answer n hosts old new → (answer ≡ WriteFault → ⊥) → EndsOrWants answer
  storm-completes (Ended end) n h w = tt
  storm-completes WriteFault n h w = w refl
  storm-completes OutOfMemory n h w = tt
  storm-completes answer n h w = absurd h

  picture-completes : (answer : Answer) (what : Picture) (bytes : List ℕ) → AnswersTrace answer what bytes old new → ((file : WhichFile) → answer ≡ ReadFault file → ⊥) → (answer ≡ WriteFault → ⊥) →
      length bytes ≤ most_of what → IsSomeTrace bytes → WritesOrWants answer
  picture-completes Written what bytes h r w fits is = tt
  picture-completes (BadTrace line) what bytes h r w fits is = no-bad-trace law bytes line is h.1
  picture-completes (TooLong Trace) what bytes h r w fits is = omega (arith, h.0, fits)
  picture-completes (ReadFault Trace) what bytes h r w fits is = r Trace refl
  picture-completes WriteFault what bytes h r w fits is = w refl
  picture-completes OutOfMemory what bytes h r w fits is = tt
  picture-completes answer what bytes h r w fits is = absurd h

  expand-completes : (answer : Answer) (script : List ℕ) → AnswersExpand answer script old new → ((file : WhichFile) → answer ≡ ReadFault file → ⊥) → (answer ≡ WriteFault → ⊥) → CanExpand script → WritesOrWants answer
  expand-completes Written script h r w can = tt
  expand-completes NotAsync script h r w can = h.1 can.tokens can.items can.is_async
  expand-completes (TooLong Script) script h r w can = let size = can.fits in omega (arith, h.0, size)
  expand-completes (ReadFault Script) script h r w can = r Script refl
  expand-completes WriteFault script h r w can = w refl
  expand-completes OutOfMemory script h r w can = tt
  expand-completes answer script h r w can = absurd h

  -- ---- the files as they are told

  two-told : (script arrivals : Option (List ℕ)) (P Q : List ℕ → List ℕ → Type 0) → ((s a : List ℕ) → P s a → Q s a) → OfFile script (λ s. OfFile arrivals (λ a. P s a)) → IfSome script (λ s. IfSome arrivals (λ a. Q s a))
  two-told script arrivals P Q f h =
      of-told script (λ s. IfSome arrivals (λ a. Q s a)) (h.0, h.1, of-told arrivals (λ a. Q h.0 a) (of-each arrivals (λ a. P h.0 a) (λ a. Q h.0 a) (f h.0) h.2))

  three-told : (script arrivals trace : Option (List ℕ)) (P Q : List ℕ → List ℕ → List ℕ → Type 0) → ((s a t : List ℕ) → P s a t → Q s a t) → OfFile script (λ s. OfFile arrivals (λ a. OfFile trace (λ t. P s a t)))
      → IfSome script (λ s. IfSome arrivals (λ a. IfSome trace (λ t. Q s a t)))
  three-told script arrivals trace P Q f h =
      two-told script arrivals (λ s a. OfFile trace (λ t. P s a t)) (λ s a. IfSome trace (λ t. Q s a t)) (λ s a p. of-told trace (λ t. Q s a t) (of-each trace (λ t. P s a t) (λ t. Q s a t) (f s a) p)) h

  run-told : (answer : Answer) (script arrivals : Option (List ℕ)) → AnswersTold answer script arrivals hosts left old new → ((file : WhichFile) → answer ≡ ReadFault file → ⊥) → (answer ≡ WriteFault → ⊥) →
      IfSome script (λ s. IfSome arrivals (λ a. CanRun s a → EndsOrWants answer))
  run-told answer script arrivals h r w =
      two-told script arrivals (λ s a. AnswersFiles answer s a hosts left old new) (λ s a. CanRun s a → EndsOrWants answer) (λ s a p. run-completes answer s a p r w) h

  check-told : (answer : Answer) (script arrivals trace : Option (List ℕ)) → AnswersThree answer script arrivals trace hosts old new → ((file : WhichFile) → answer ≡ ReadFault file → ⊥) → (answer ≡ WriteFault → ⊥) →
      IfSome script (λ s. IfSome arrivals (λ a. IfSome trace (λ t. CanRun s a → TraceFits t → IsSomeTrace t → JudgesOrWants answer)))
  check-told answer script arrivals trace h r w =
      three-told script arrivals trace (λ s a t. AnswersCheck answer s a t hosts old new) (λ s a t. CanRun s a → TraceFits t → IsSomeTrace t → JudgesOrWants answer) (λ s a t p. check-completes answer s a t p r w) h

  migrate-told : (answer : Answer) (script arrivals trace : Option (List ℕ)) → AnswersMigration answer script arrivals trace hosts old new → ((file : WhichFile) → answer ≡ ReadFault file → ⊥) → (answer ≡ WriteFault → ⊥) →
      IfSome script (λ s. IfSome arrivals (λ a. IfSome trace (λ t. CanRun s a → TraceFits t → IsSomeTrace t → JudgesOrWants answer)))
  migrate-told answer script arrivals trace h r w =
      three-told script arrivals trace (λ s a t. AnswersMigrate answer s a t hosts old new) (λ s a t. CanRun s a → TraceFits t → IsSomeTrace t → JudgesOrWants answer) (λ s a t p. migrate-completes answer s a t p r w) h

  picture-told : (answer : Answer) (what : Picture) (trace : Option (List ℕ)) → OfFile trace (λ bytes. AnswersTrace answer what bytes old new) → ((file : WhichFile) → answer ≡ ReadFault file → ⊥) → (answer ≡ WriteFault → ⊥) →
      IfSome trace (λ bytes. length bytes ≤ most_of what → IsSomeTrace bytes → WritesOrWants answer)
  picture-told answer what trace h r w =
      of-told trace (λ bytes. length bytes ≤ most_of what → IsSomeTrace bytes → WritesOrWants answer)
      (of-each trace (λ bytes. AnswersTrace answer what bytes old new) (λ bytes. length bytes ≤ most_of what → IsSomeTrace bytes → WritesOrWants answer) (λ bytes p. picture-completes answer what bytes p r w) h)

  expand-told : (answer : Answer) (script : Option (List ℕ)) → OfFile script (λ bytes. AnswersExpand answer bytes old new) → ((file : WhichFile) → answer ≡ ReadFault file → ⊥) → (answer ≡ WriteFault → ⊥) →
      IfSome script (λ bytes. CanExpand bytes → WritesOrWants answer)
  expand-told answer script h r w =
      of-told script (λ bytes. CanExpand bytes → WritesOrWants answer)
      (of-each script (λ bytes. AnswersExpand answer bytes old new) (λ bytes. CanExpand bytes → WritesOrWants answer) (λ bytes p. expand-completes answer bytes p r w) h)

  form-completes : (answer : Answer) (form : Form) (file : List ℕ → Option (List ℕ)) → AnswersForm answer form file hosts left old new → ((which : WhichFile) → answer ≡ ReadFault which → ⊥) → (answer ≡ WriteFault → ⊥) →
      Completes answer form file
  form-completes answer (RunForm names) file h r w = run-told answer (file names.script) (file names.arrivals) h r w
  form-completes answer (CheckForm names) file h r w = check-told answer (file names.script) (file names.arrivals) (file names.trace) h r w
  form-completes answer (MigrateForm names) file h r w = migrate-told answer (file names.script) (file names.arrivals) (file names.trace) h r w
  form-completes answer (StormForm n) file h r w = storm-completes answer n h w
  form-completes answer (PictureForm what trace) file h r w = picture-told answer what (file trace) h r w
  form-completes answer (ExpandForm script) file h r w = expand-told answer (file script) h r w

  -- ---- the words

  words-complete : (answer : Answer) (words : Option Form) (file : List ℕ → Option (List ℕ)) (before now : List ℕ → ℕ) (put_before put_now : ℕ) →
      IfSome words (λ form. AnswersForm answer form file hosts left old new) →
      ((which : WhichFile) → answer ≡ ReadFault which → IfSome words (λ form. Rose (before (name_of which form)) (now (name_of which form)))) → (answer ≡ WriteFault → Rose put_before put_now) →
      IfSome words (λ form. NothingRose form before now put_before put_now → Completes answer form file)
  words-complete answer None file before now put_before put_now h r w = tt
  words-complete answer (Some form) file before now put_before put_now h r w =
      λ quiet. form-completes answer form file h (λ which is. quiet.files which (r which is)) (λ is. quiet.out (w is))

  -- the same of what the code found that the words ask for
  pub asked-complete : (answer : Answer) (asked words : Option Form) (file : List ℕ → Option (List ℕ)) (before now : List ℕ → ℕ) (put_before put_now : ℕ) → asked ≡ words →
      IfSome asked (λ form. AnswersForm answer form file hosts left old new) →
      ((which : WhichFile) → answer ≡ ReadFault which → IfSome asked (λ form. Rose (before (name_of which form)) (now (name_of which form)))) → (answer ≡ WriteFault → Rose put_before put_now) →
      IfSome words (λ form. NothingRose form before now put_before put_now → Completes answer form file)
  asked-complete answer asked words file before now put_before put_now e h r w =
      let P : Option Form → Type 0 = λ o. IfSome o (λ form. NothingRose form before now put_before put_now → Completes answer form file) in
      subst P e (words-complete answer asked file before now put_before put_now h r w)
