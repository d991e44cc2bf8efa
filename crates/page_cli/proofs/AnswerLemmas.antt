-- From what the parts promise to what the top call answers.
use Rattle.std.proofs.Common.{◌≡◌, ◌≤◌, ℕ, List, length, Option, Some, None, Result, Ok, Err, refl, sym, ◌∙◌, subst, inl, inr}
use Rattle.std.specs.Prelude.{IfSome, Vec}
use Rattle.page_cli.specs.ToldFiles.{OfFile}
use Rattle.page_cli.proofs.ToldLemmas.{some-file, read-holds}
use Rattle.std.specs.declared.alloc.Global.{Global}
use Rattle.page_types.specs.Tree.{Item, Program}
use Rattle.page_types.specs.declared.End.{End}
use Rattle.page_types.specs.declared.End.TheVariants as end
use Rattle.page_parts.specs.HostClosures.{HostClosure}
use Rattle.arrivals_text.specs.Arrivals.{Settings, SetsUp}
use Rattle.lang_tokens.specs.Tokens.{tokens_of, TokenList}
use Rattle.lang_tokens.specs.Seen.{TokenSeen}
use Rattle.lang_tokens.specs.declared.token.Tokens.{Tokens}
use Rattle.lang_tokens.specs.declared.fault.TokensFault.{TokensFault}
use Rattle.lang_tokens.specs.declared.fault.TokensFault.TheVariants as token
use Rattle.lang_parse.specs.declared.fault.ParseFault.{ParseFault}
use Rattle.lang_parse.specs.declared.fault.ParseFault.TheVariants as parse
use Rattle.lang_parse.specs.Symbols.{symbols_of}
use Rattle.lang_parse.specs.Grammar.{HasTree}
use Rattle.lang_parse.specs.Faults.{IsNoParse, IsPlaced}
use Rattle.lang_place.specs.Place.{IsPlace}
use Rattle.lang_ast.specs.NameFaults.{IsResolved}
use Rattle.lang_ast.specs.Programs.{program_of}
use Rattle.page_cli.specs.declared.answer.Answer.{Answer}
use Rattle.page_cli.specs.declared.answer.Answer.TheVariants.{Ended, Written, NoParse, BadName, BadArrivals, WriteFault, OutOfMemory}
use Rattle.page_cli.specs.declared.answer.WhichFile.TheVariants.{Script, Arrivals}
use Rattle.page_cli.specs.declared.reading.FileFault.{FileFault}
use Rattle.page_cli.specs.declared.reading.FileFault.TheVariants as file
use Rattle.page_cli.specs.declared.script_fault.ScriptFault.{ScriptFault}
use Rattle.page_cli.specs.declared.script_fault.ScriptFault.TheVariants as script
use Rattle.page_cli.specs.Statuses.{status_of, status_of_end}
use Rattle.page_cli.specs.Forms.{Form, RunForm, CheckForm, MigrateForm, StormForm, PictureForm, ExpandForm}
use Rattle.page_cli.specs.Scripts.{IsScript, HasProgram, HasNoTree}
use Rattle.page_cli.specs.Refusals.{Refuses, GivesFile, of_tokens, of_parse, refusal, answer_to_file}
use Rattle.page_cli.specs.Answering.{Fits, WroteTrace, RefusesFiles, AnswersFiles, AnswersTold, AnswersRun}
use Rattle.page_cli.specs.Checked.{WroteLegal, AnswersThree}
use Rattle.page_cli.specs.Pictures.{WrotePicture}
use Rattle.page_cli.specs.Expanding.{WroteExpansion}
use Rattle.page_cli.specs.Migrated.{WroteMigrated}
use Rattle.page_cli.specs.Stormed.{WroteStorm}
use Rattle.page_cli.specs.FormAnswers.{AnswersForm, WroteAll}
use Rattle.page_cli.specs.HandedOn.{IsWhole}
use Rattle.page_cli.proofs.ArrivedValues.{holds-no-numbers}
use Rattle.page_cli.proofs.Closures.{closures-follow}

-- ---- the script

ok_is_no_err : {X : Type 0} {x : X} {n : ℕ} → (let r : Result X ℕ = Ok x in r) ≡ Err n → ⊥
ok_is_no_err {X} q = let P : Result X ℕ → Type 0 = λ r. elim r [ Ok y ↦ Unit {0} | Err m ↦ ⊥ ] in subst P q tt

no_tokens : (bytes : List ℕ) (at : ℕ) → tokens_of bytes ≡ Err at → HasNoTree bytes
no_tokens bytes at e tree is = ok_is_no_err (sym is.tokens_are ∙ e)

-- a script without tokens
pub tokens-refuse : (e : TokensFault) (bytes : List ℕ) → ((at : ℕ) → (let r : Result Tokens TokensFault = Err e in r) ≡ Err (token.Is (record { at = at })) → tokens_of bytes ≡ Err at) → Refuses (of_tokens e) bytes
tokens-refuse (token.Is bad) bytes h = record { none = no_tokens bytes bad.at (h bad.at refl); place = inl (h bad.at refl) }
tokens-refuse token.OutOfMemory bytes h = tt

-- a tree that is told of tokens is told of the bytes
pub script-of : (bytes : List ℕ) (tokens : List TokenSeen) (tree : List Item) → length bytes ≤ 1048576 → tokens_of bytes ≡ Ok tokens → HasTree (symbols_of tokens) tree → IsScript bytes tree
script-of bytes tokens tree size e h = record { size = size; tokens = tokens; tokens_are = e; has_tree = h }

-- its program, where no name is at fault
pub program-of : (bytes : List ℕ) (tree : List Item) (program : Program) → IsScript bytes tree → IsResolved tree → program ≡ program_of tree → HasProgram bytes program
program-of bytes tree program is resolved e = record { tree = tree; is_script = is; is_resolved = resolved; is_program = e }

same_ok : (tokens others : List TokenSeen) → (let r : Result (List TokenSeen) ℕ = Ok tokens in r) ≡ Ok others → others ≡ tokens
same_ok tokens others e = cc

-- a script whose tokens have no tree
pub parse-refuses : (e : ParseFault) (bytes : List ℕ) (tokens : TokenList) → tokens_of bytes ≡ Ok tokens.items → tokens.length ≡ length bytes →
    (IsNoParse e → (tree : List Item) → HasTree (symbols_of tokens.items) tree → ⊥) → IsPlaced tokens e → Refuses (of_parse e) bytes
parse-refuses (parse.Is fault) bytes tokens ok size none place = record {
  none = λ other is. none tt other (let P : List TokenSeen → Type 0 = λ ts. HasTree (symbols_of ts) other in subst P (same_ok tokens.items is.tokens (sym ok ∙ is.tokens_are)) is.has_tree);
  place = inr (tokens.items, ok, subst (λ n. IsPlace tokens.items n fault.at) size place);
}
parse-refuses parse.OutOfMemory bytes tokens ok size none place = tt

-- ---- the run

module _ (script arrivals : List ℕ) (hosts left : List HostClosure) (old new : Option (List ℕ)) where
  pub files-answers : (answer : Answer) (program : Program) (settings : Settings) → HasProgram script program → Fits arrivals → SetsUp arrivals settings
      → AnswersRun answer program settings.setup hosts left old new → AnswersFiles answer script arrivals hosts left old new
  files-answers (Ended end) program settings has fits sets h = record {
    program = program;
    settings = settings;
    is_run = record { has_program = has; fits = fits; sets_up = sets };
    wrote = h;
    laws = h.laws (holds-no-numbers arrivals settings sets);
    marks = closures-follow program settings.setup hosts h.answers (holds-no-numbers arrivals settings sets);
  }
  files-answers WriteFault program settings has fits sets h = record { program = program; settings = settings; is_run = record { has_program = has; fits = fits; sets_up = sets }; wrote = h; marks = h.marks (holds-no-numbers arrivals settings sets) }
  files-answers OutOfMemory program settings has fits sets h = inr (record { program = program; settings = settings; is_run = record { has_program = has; fits = fits; sets_up = sets }; wrote = h; marks = h.marks (holds-no-numbers arrivals settings sets) })
  files-answers answer program settings has fits sets h = absurd h

-- the answer to a script that has no program
pub refusal-refuses : (fault : ScriptFault) (script arrivals : List ℕ) → Refuses fault script → RefusesFiles (refusal fault) script arrivals
refusal-refuses (script.NoParse at) script arrivals h = h
refusal-refuses (script.Name fault) script arrivals h = h
refusal-refuses script.OutOfMemory script arrivals h = tt

-- the answer to files that are not run
pub refused-answers : (answer : Answer) (script arrivals : List ℕ) (hosts : List HostClosure) (told : Option (List ℕ)) → Fits script → Fits arrivals → RefusesFiles answer script arrivals
    → AnswersFiles answer script arrivals hosts hosts told told
refused-answers (NoParse at) script arrivals hosts told fits also h = (fits, also, h, refl)
refused-answers (BadName fault) script arrivals hosts told fits also h = (fits, also, h, refl)
refused-answers (BadArrivals line) script arrivals hosts told fits also h = (fits, also, h, refl)
refused-answers OutOfMemory script arrivals hosts told fits also h = inl (refl, refl)
refused-answers answer script arrivals hosts told fits also h = absurd h

-- ---- the files as they are told

module _ (hosts : List HostClosure) where
  script-unread : (fault : FileFault) (script arrivals : List ℕ) (out : Option (List ℕ)) → GivesFile 1048576 script (Err fault)
      → AnswersFiles (answer_to_file fault Script) script arrivals hosts hosts out out
  script-unread file.Failed script arrivals out h = (tt, refl)
  script-unread file.TooLong script arrivals out h = (h, refl)
  script-unread file.OutOfMemory script arrivals out h = inl (refl, refl)

  -- the script was not read
  pub told-script : (fault : FileFault) (told_script told_arrivals : Option (List ℕ)) (out : Option (List ℕ)) → OfFile told_script (λ content. GivesFile 1048576 content (Err fault))
      → AnswersTold (answer_to_file fault Script) told_script told_arrivals hosts hosts out out
  told-script fault told_script told_arrivals out s =
      let a = some-file told_arrivals in
      (s.0, s.1, (a.0, a.1, script-unread fault s.0 a.0 out s.2))

  arrivals-unread : (fault : FileFault) (script arrivals : List ℕ) (out : Option (List ℕ)) → Fits script → GivesFile 1048576 arrivals (Err fault)
      → AnswersFiles (answer_to_file fault Arrivals) script arrivals hosts hosts out out
  arrivals-unread file.Failed script arrivals out size h = (size, refl)
  arrivals-unread file.TooLong script arrivals out size h = ((size, h), refl)
  arrivals-unread file.OutOfMemory script arrivals out size h = inl (refl, refl)

  -- the arrivals were not read
  pub told-arrivals : (fault : FileFault) (script : Vec ℕ Global) (told_script told_arrivals : Option (List ℕ)) (out : Option (List ℕ)) → length script.items ≤ 1048576 → OfFile told_script (λ content. GivesFile 1048576 content (Ok script)) →
      OfFile told_arrivals (λ content. GivesFile 1048576 content (Err fault)) → AnswersTold (answer_to_file fault Arrivals) told_script told_arrivals hosts hosts out out
  told-arrivals fault script told_script told_arrivals out size s a =
      (script.items, read-holds 1048576 told_script script s, (a.0, a.1, arrivals-unread fault script.items a.0 out size a.2))

  pub told-answers : (left : List HostClosure) (answer : Answer) (told_script told_arrivals : Option (List ℕ)) (script arrivals : Vec ℕ Global) (old new : Option (List ℕ)) → OfFile told_script (λ content. GivesFile 1048576 content (Ok script)) → OfFile told_arrivals (λ content. GivesFile 1048576 content (Ok arrivals)) →
      AnswersFiles answer script.items arrivals.items hosts left old new → AnswersTold answer told_script told_arrivals hosts left old new
  told-answers left answer told_script told_arrivals script arrivals old new s a h =
      (script.items, read-holds 1048576 told_script script s, (arrivals.items, read-holds 1048576 told_arrivals arrivals a, h))

-- ---- the whole, by its status

same-end : (one other : End) → status_of_end one ≡ status_of_end other → one ≡ other
same-end end.Done end.Done e = refl
same-end end.Done end.Fuel e = absurd (cc)
same-end end.Done end.Clock e = absurd (cc)
same-end end.Fuel end.Done e = absurd (cc)
same-end end.Fuel end.Fuel e = refl
same-end end.Fuel end.Clock e = absurd (cc)
same-end end.Clock end.Done e = absurd (cc)
same-end end.Clock end.Fuel e = absurd (cc)
same-end end.Clock end.Clock e = refl

-- no other answer has the status of an end
whole : (answer : Answer) (of_end : End) → status_of answer ≡ status_of_end of_end → IsWhole answer
whole (Ended one) of_end e = tt
whole Written of_end e = tt
whole answer end.Done e = cc
whole answer end.Fuel e = cc
whole answer end.Clock e = cc

module _ (file : List ℕ → Option (List ℕ)) (hosts left : List HostClosure) (old new : Option (List ℕ)) where
  -- a run that ended so
  run-told : (one other : End) (script arrivals : Option (List ℕ)) → one ≡ other → AnswersTold (Ended one) script arrivals hosts left old new
      → OfFile script (λ s. OfFile arrivals (λ a. WroteTrace other s a hosts left old new))
  run-told one other script arrivals same h =
      let P : End → Type 0 = λ e. OfFile script (λ s. OfFile arrivals (λ a. WroteTrace e s a hosts left old new)) in subst P same h

  no-run : (of_end : End) (script arrivals : Option (List ℕ)) → AnswersTold Written script arrivals hosts left old new
      → OfFile script (λ s. OfFile arrivals (λ a. WroteTrace of_end s a hosts left old new))
  no-run of_end script arrivals h = absurd h.2.2.2

  -- a text about three files
  three-told : (P : List ℕ → List ℕ → List ℕ → Type 0) (of_end : End) (script arrivals trace : Option (List ℕ)) → of_end ≡ end.Done → OfFile script (λ s. OfFile arrivals (λ a. OfFile trace (λ t. P s a t)))
      → OfFile script (λ s. OfFile arrivals (λ a. OfFile trace (λ t. (of_end ≡ end.Done) × P s a t)))
  three-told P of_end script arrivals trace e h = (h.0, h.1, (h.2.0, h.2.1, (h.2.2.0, h.2.2.1, (e, h.2.2.2))))

  no-three : (P : List ℕ → List ℕ → List ℕ → Type 0) (one : End) (script arrivals trace : Option (List ℕ)) → AnswersThree (Ended one) script arrivals trace hosts old new
      → OfFile script (λ s. OfFile arrivals (λ a. OfFile trace (λ t. P s a t)))
  no-three P one script arrivals trace h = absurd h.2.2.2.1

  -- a text about a file
  text-told : (P : List ℕ → Type 0) (of_end : End) (content : Option (List ℕ)) → of_end ≡ end.Done → OfFile content P → OfFile content (λ bytes. (of_end ≡ end.Done) × P bytes)
  text-told P of_end content e h = (h.0, h.1, (e, h.2))

  no-text : (P : List ℕ → Type 0) (content : Option (List ℕ)) → OfFile content (λ bytes. ⊥) → OfFile content P
  no-text P content h = absurd h.2

  pub whole-told : (answer : Answer) (of_end : End) (form : Form) → status_of answer ≡ status_of_end of_end
      → AnswersForm answer form file hosts left old new → WroteAll of_end form file hosts left old new
  whole-told (Ended one) of_end (RunForm names) e h = run-told one of_end (file names.script) (file names.arrivals) (same-end one of_end e) h
  whole-told (Ended one) of_end (CheckForm names) e h = no-three (λ s a t. (of_end ≡ end.Done) × WroteLegal s a t hosts old new) one (file names.script) (file names.arrivals) (file names.trace) h
  whole-told (Ended one) of_end (MigrateForm names) e h = no-three (λ s a t. (of_end ≡ end.Done) × WroteMigrated s a t hosts old new) one (file names.script) (file names.arrivals) (file names.trace) h
  whole-told (Ended one) of_end (StormForm n) e h = let P : End → Type 0 = λ x. WroteStorm n x hosts old new in subst P (same-end one of_end e) h
  whole-told (Ended one) of_end (PictureForm what trace) e h = no-text (λ bytes. (of_end ≡ end.Done) × WrotePicture what bytes old new) (file trace) h
  whole-told (Ended one) of_end (ExpandForm script) e h = no-text (λ bytes. (of_end ≡ end.Done) × WroteExpansion bytes old new) (file script) h
  whole-told Written of_end (RunForm names) e h = no-run of_end (file names.script) (file names.arrivals) h
  whole-told Written of_end (CheckForm names) e h = three-told (λ s a t. WroteLegal s a t hosts old new) of_end (file names.script) (file names.arrivals) (file names.trace) (sym (same-end end.Done of_end e)) h
  whole-told Written of_end (MigrateForm names) e h = three-told (λ s a t. WroteMigrated s a t hosts old new) of_end (file names.script) (file names.arrivals) (file names.trace) (sym (same-end end.Done of_end e)) h
  whole-told Written of_end (StormForm n) e h = absurd h
  whole-told Written of_end (PictureForm what trace) e h = text-told (λ bytes. WrotePicture what bytes old new) of_end (file trace) (sym (same-end end.Done of_end e)) h
  whole-told Written of_end (ExpandForm script) e h = text-told (λ bytes. WroteExpansion bytes old new) of_end (file script) (sym (same-end end.Done of_end e)) h
  whole-told answer of_end form e h = absurd (whole answer of_end e)

-- the same for words that have a form
pub written-told : (file : List ℕ → Option (List ℕ)) (hosts left : List HostClosure) (old new : Option (List ℕ)) (answer : Answer) (of_end : End) (form : Option Form)
    → status_of answer ≡ status_of_end of_end → IfSome form (λ f. AnswersForm answer f file hosts left old new) → IfSome form (λ f. WroteAll of_end f file hosts left old new)
written-told file hosts left old new answer of_end None e h = tt
written-told file hosts left old new answer of_end (Some form) e h = whole-told file hosts left old new answer of_end form e h
