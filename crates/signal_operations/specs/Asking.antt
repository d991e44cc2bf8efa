-- Questions to the closure of a number, where the page has one.
use Rattle.std.specs.Prelude.{◌≡◌, ℕ, ℤ, Option, Some, Result, slice_get}
use Rattle.page_parts.specs.HostClosures.{HostClosure}
use Rattle.lang_ast.specs.declared.host.HostStep.{HostStep}
use Rattle.page_model.specs.Operations.{host_accepted, host_queued}
use Rattle.trace_text.specs.declared.lines.Lines.{Ghosts}
use Rattle.trace_text.specs.declared.lines.NoLine.{NoLine}
use Rattle.page_state.specs.Standing.{Standing}
use Rattle.page_state.specs.Makes.{Makes}
use Rattle.page_answers.specs.Serving.{Serves}

-- the call answers what `host` does with closure k, which takes the number x
abbrev pub AcceptsHost : {L : Type 0} → Ghosts L → (old : Standing) → (before : L) → (k : ℕ) → (x : ℤ) → (signal : Option ℕ)
    → Result HostStep NoLine → (new : Standing) → (after : L) → Type 0
AcceptsHost g old before k x signal result new after =
    (c : HostClosure) → slice_get old.hosts k ≡ Some c → Serves g old before (host_accepted k c x signal) result new after

-- the call makes the change of the page that a question to closure k with the number x is
abbrev pub QueuesHost : {L X : Type 0} → Ghosts L → (old : Standing) → (before : L) → (k : ℕ) → (x : ℤ) → (signal : Option ℕ)
    → Result X NoLine → (new : Standing) → (after : L) → Type 0
QueuesHost g old before k x signal result new after =
    (c : HostClosure) → slice_get old.hosts k ≡ Some c → Makes g old before (host_queued k c x signal) result new after
