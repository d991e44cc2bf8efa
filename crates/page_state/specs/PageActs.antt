-- What a function of the model's page does to all that a page keeps, as an act.
use Rattle.std.specs.Prelude.{◌≡◌, Option}
use Rattle.page_model.specs.State.{Page}
use Rattle.trace_text.specs.declared.lines.NoLine.{NoLine}
use Rattle.trace_text.specs.declared.lines.NoLine.TheVariants.{OutOfMemory}
use Rattle.trace_text.specs.Given.{Keeping, Seen}
use Rattle.trace_text.specs.Acts as acts
use Rattle.trace_text.specs.Acts.{Act, At}
use Rattle.page_script.specs.PageActs.{lines_of}
use Rattle.page_state.specs.Standing.{Standing, page_of, port_of, holding}

-- what f makes of the page, and the lines of its events; what is no field of the page stays
unfoldable pub on_page : (Page → Page) → Act Standing
on_page f s = record { state = holding (f (page_of s)) s; lines = lines_of (f (page_of s)).events }

-- the same with no line
abbrev pub changed_by : (Page → Page) → Standing → Standing
changed_by f s = holding (f (page_of s)) s

-- what f reads of the page
abbrev pub read_by : {X : Type 0} → (Page → X) → Standing → X
read_by f s = f (page_of s)

-- all that a page keeps, and what is seen of the lines
abbrev pub at : {T : Type 0} → Standing → Seen T → At Standing T
at s seen = record { state = s; seen = seen }

-- The call does the act, all of it where there is no fault of the lines; else it stopped among the act's lines. The host port is
-- left alone, also where it stopped.
pub record Does {T : Type 0} (k : Keeping T) (old : At Standing T) (act : Act Standing) (why : Option NoLine) (new : At Standing T)
    : Type 0 where
  pub acts : acts.Does k old act why new
  pub port : port_of new.state ≡ port_of old.state

-- memory was wanting, and the host port was left alone
pub record IsWanted (why : NoLine) (old new : Standing) : Type 0 where
  pub memory : why ≡ OutOfMemory
  pub port : port_of new ≡ port_of old
