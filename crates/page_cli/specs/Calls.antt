-- What is answered by the calls that take the closures of a table, and a sink, and hand both back.
use Rattle.std.specs.Prelude.{◌≡◌, ℕ, ℤ, List, Option, Result, IfSome}
use Rattle.page_types.specs.declared.End.{End}
use Rattle.lang_ast.specs.declared.program.Program.{Program}
use Rattle.lang_ast.specs.SeenProgram.{seen_program}
use Rattle.arrivals_text.specs.declared.setup.PageSetup.{PageSetup}
use Rattle.arrivals_text.specs.Seen.{settings_of}
use Rattle.host_jobs.specs.declared.table.HostTable.{HostTable}
use Rattle.host_jobs.specs.ToldTable.{closures_of}
use Rattle.loop_turn.specs.declared.run_stop.RunStop.{RunStop}
use Rattle.page_cli.specs.declared.main_call.MainEnd.{MainEnd}
use Rattle.page_cli.specs.declared.names.Names.{Names}
use Rattle.page_cli.specs.declared.running.Ran.{Ran}
use Rattle.page_cli.specs.Statuses.{status_of_end}
use Rattle.page_cli.specs.Forms.{Form}
use Rattle.page_cli.specs.Running.{Wrote}
use Rattle.page_cli.specs.Answering.{AnswersFiles, AnswersRun, AnswersTold}
use Rattle.page_cli.specs.FormAnswers.{AnswersForm, WroteAll}
use Rattle.page_cli.specs.Completeness.{NothingRose, Completes}
use denote.Param.Members.{Mut}

-- Each of them takes a table, whatever Rust closures it holds, and a sink, whose bytes are told.
module _ {X : Type 0} {F : X → Type 0} {calls : Mut ((x : X) × F x) (ℤ × Unit {0}) (Result ℤ ℤ)} {S : Type 0} where
  -- what a run of a program under a setup wrote, by how it stopped, and how it left the closures
  abbrev pub WroteBy : Program → PageSetup → (hosts left : HostTable X F calls) → (bytes : S → Option (List ℕ)) → (old : S)
      → Result End RunStop → (new : S) → Type 0
  WroteBy program setup hosts left bytes old outcome new =
      Wrote (seen_program program) (settings_of setup).setup (closures_of hosts) (bytes old) outcome (closures_of left) (bytes new)

  -- what is answered of a program and a setup
  abbrev pub RunsProgram : Ran S X F calls → Program → PageSetup → HostTable X F calls → (bytes : S → Option (List ℕ)) → (out : S) → Type 0
  RunsProgram result program setup hosts bytes out =
      AnswersRun result.answer (seen_program program) (settings_of setup).setup (closures_of hosts) (closures_of result.hosts)
      (bytes out) (bytes result.out)

  -- what is answered of the bytes of two files
  abbrev pub RunsFiles : Ran S X F calls → (script arrivals : List ℕ) → HostTable X F calls → (bytes : S → Option (List ℕ)) → (out : S)
      → Type 0
  RunsFiles result script arrivals hosts bytes out =
      AnswersFiles result.answer script arrivals (closures_of hosts) (closures_of result.hosts) (bytes out) (bytes result.out)

  -- what is answered of two files as the folder tells them by their names
  abbrev pub RunsNamed : Ran S X F calls → (file : List ℕ → Option (List ℕ)) → Names → HostTable X F calls
      → (bytes : S → Option (List ℕ)) → (out : S) → Type 0
  RunsNamed result file names hosts bytes out =
      AnswersTold result.answer (file names.script.now) (file names.arrivals.now) (closures_of hosts) (closures_of result.hosts)
      (bytes out) (bytes result.out)

  -- what is answered of words, where they have a form
  abbrev pub AnswersWords : Ran S X F calls → Option Form → (file : List ℕ → Option (List ℕ)) → HostTable X F calls
      → (bytes : S → Option (List ℕ)) → (out : S) → Type 0
  AnswersWords result words file hosts bytes out =
      IfSome words (λ form. AnswersForm result.answer form file (closures_of hosts) (closures_of result.hosts) (bytes out)
      (bytes result.out))

  -- the same where the program has ended
  abbrev pub AnswersMain : MainEnd S X F calls → Option Form → (file : List ℕ → Option (List ℕ)) → HostTable X F calls
      → (bytes : S → Option (List ℕ)) → (out : S) → Type 0
  AnswersMain result words file hosts bytes out =
      IfSome words (λ form. AnswersForm result.answer form file (closures_of hosts) (closures_of result.hosts) (bytes out)
      (bytes result.out))

  -- where the status is that of an end, what was written is the whole of what words with a form ask for
  abbrev pub WroteMain : MainEnd S X F calls → Option Form → (file : List ℕ → Option (List ℕ)) → HostTable X F calls
      → (bytes : S → Option (List ℕ)) → (out : S) → Type 0
  WroteMain result words file hosts bytes out =
      (end : End) → result.status ≡ status_of_end end
      → IfSome words (λ form. WroteAll end form file (closures_of hosts) (closures_of result.hosts) (bytes out) (bytes result.out))

  -- Where no count of faults rose, neither of the files of a form, from one state of the folder to the next, nor of the sink, that is done
  -- which the form asks for, or memory is wanting.
  abbrev pub CompletesMain : {D : Type 0} → MainEnd S X F calls → Option Form → (file : D → List ℕ → Option (List ℕ))
      → (faults : D → List ℕ → ℕ) → (old new : D) → (put_faults : S → ℕ) → (out : S) → Type 0
  CompletesMain result words file faults old new put_faults out =
      IfSome words (λ form. NothingRose form (faults old) (faults new) (put_faults out) (put_faults result.out)
      → Completes result.answer form (file old))
