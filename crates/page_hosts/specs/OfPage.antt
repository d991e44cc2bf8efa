-- How host closures stand to those of the model's page. Ours: the field `hosts` is what the closures of a `PageHosts` are
use Rattle.std.specs.Prelude.{◌≡◌, ℕ, ℤ, IsTrue, List, Option, Some, Result, slice_get, option_map}
use Rattle.page_parts.specs.HostClosures.{HostClosure}
use Rattle.page_types.specs.declared.Source.{Source}
use Rattle.page_parts.specs.Setup.{Policy}
use Rattle.page_parts.specs.WrittenChoices.{Choices, Recorded, Written}
use Rattle.host_jobs.specs.Closures.{meets_at}
use Rattle.host_jobs.specs.KeptAnswers.{next_kept}
use Rattle.page_model.specs.State.{Page, HostTask}
use Rattle.page_model.specs.Choosing.{Rules, Chosen, chosen_answer, choice_rules}
use Rattle.page_model.specs.Operations.{host_queued}
use Rattle.page_model.specs.PageSignals.{drop_at, drop_closure}
use Rattle.page_model.specs.Tasks.{fire_closure, answer_host}
use Rattle.page_hosts.specs.Hosts.{ask_at, fire_at}

module _ (p : Page) where
  -- a request that is accepted asks its closure
  abbrev pub AskedIs : Type 0
  AskedIs =
      (k : ℕ) (c : HostClosure) (x : ℤ) (signal : Option ℕ) → slice_get p.hosts k ≡ Some c
      → (host_queued k c x signal p).hosts ≡ ask_at k (slice_get p.hosts k) p.hosts

  -- a closure is fired
  abbrev pub FiredIs : Type 0
  FiredIs = (k : ℕ) → (fire_closure k (slice_get p.hosts k) p).hosts ≡ fire_at k (slice_get p.hosts k) p.hosts

  -- the task of a host answer fires its closure
  abbrev pub AnsweredIs : Type 0
  AnsweredIs =
      (t : HostTask) (answer : Result ℤ ℤ)
      → (answer_host t answer p).hosts ≡ fire_at t.closure (slice_get p.hosts t.closure) p.hosts

  -- what was asked is dropped
  abbrev pub DroppedIs : Type 0
  DroppedIs = (t : HostTask) → drop_closure (Some t) p.hosts ≡ drop_at t.closure (slice_get p.hosts t.closure) p.hosts

-- an answer that meets the relation of closure k is legal, whatever rules choose it
abbrev pub IsLegal : {C : Type 0} → Rules C → C → List HostClosure → Type 0
IsLegal {C} rules held hosts =
    (k : ℕ) (c : HostClosure) (x : ℤ) (given : Chosen (Result ℤ ℤ) C)
    → slice_get hosts k ≡ Some c → rules.answer c.kind x held ≡ Some given → IsTrue (meets_at hosts k x given.choice)
    → chosen_answer rules c.kind x held ≡ Some given

-- the next of the kept answers as a choice, with the choices in which the others are left
abbrev pub kept_choice : (List (Result ℤ ℤ) → Choices) → Option (Result ℤ ℤ × List (Result ℤ ℤ)) → Option (Chosen (Result ℤ ℤ) Choices)
kept_choice left next = option_map (λ taken. record { choice = taken.0; left = left taken.1 }) next

-- choices that hold the kept answers of a port choose what the port gives, and refuse where it does
abbrev pub ChoosesKept : List HostClosure → (List (Result ℤ ℤ) → Choices) → Type 0
ChoosesKept hosts left =
    (k : ℕ) (c : HostClosure) (x : ℤ) (kept : List (Result ℤ ℤ)) → slice_get hosts k ≡ Some c
    → chosen_answer choice_rules c.kind x (left kept) ≡ kept_choice left (next_kept (meets_at hosts k x) kept)

-- so do recorded lists with these sources, whatever the readings are
abbrev pub ChoosesRecorded : List HostClosure → List Source → Type 0
ChoosesRecorded hosts sources = (readings : List ℕ) → ChoosesKept hosts (Recorded sources readings)

-- so does this written policy, whatever the counts and the lateness are
abbrev pub ChoosesWritten : List HostClosure → Policy → Type 0
ChoosesWritten hosts policy = (counts late : List ℕ) → ChoosesKept hosts (Written policy counts late)
