-- What becomes of the closures of the host in a run, by the lines that stand in its trace.
use Rattle.std.specs.Prelude.{◌≡◌, ◌⊎◌, ℕ, Bool, true, false, if◌then◌else◌, List, [], ◌∷◌, Option, Some, None, option_map, slice_get, ◌==◌}
use Rattle.std.specs.List.{list_any}
use Rattle.page_types.specs.declared.HostMark.{HostMark}
use Rattle.page_types.specs.declared.HostMark.TheVariants.{Live, Queued, Fired, Dropped}
use Rattle.page_types.specs.Events.{Drop}
use Rattle.page_parts.specs.HostClosures.{HostClosure}
use Rattle.page_parts.specs.Words.{is_there}
use Rattle.page_model.specs.PageSignals.{is_aborted_source}
use Rattle.page_model.specs.State.{AnswerHost, HostAnswer, HostTask, Page, emit}
use Rattle.page_laws.specs.CallLaws.{is_answer_of}
use Rattle.page_laws.specs.History.{History, has_kind, is_host, some_line, was_dropped}
use Rattle.page_laws.specs.Moves.{ComesTo, HasSteps, IsIn, Moves, signal_at}

-- ---- Ours: what was asked

-- a registration of `host` asked the closure of this number; the `reg` line tells the registration and the `host` line the closure
pub record Ask : Type 0 where
  pub registration : ℕ
  pub closure : ℕ

-- whether a registration asked
abbrev pub has_asked : List Ask → (r : ℕ) → Bool
has_asked asks r = list_any (λ a. a.registration == r) asks

-- the registration that asked closure number k, if there is one
abbrev pub asker_of : List Ask → (k : ℕ) → Option ℕ
asker_of [] k = None
asker_of (a ∷ more) k = if a.closure == k then Some a.registration else asker_of more k

-- ---- Ours: marks

-- whether a line tells that closure number k answered
abbrev pub has_answered : History → (k : ℕ) → Bool
has_answered past k = some_line (is_answer_of k) past

-- the mark of a closure that has not answered: where it was asked, it is dropped if a line drops the registration that asked it,
-- and else its answer is waited for; where it was not asked it is as it was before
abbrev pub mark_unanswered : History → (asker : Option ℕ) → (before : HostMark) → HostMark
mark_unanswered past None before = before
mark_unanswered past (Some r) before = if was_dropped past r then Dropped else Queued

-- the mark of closure number k behind these lines: fired where a line tells its answer
abbrev pub mark_after : History → List Ask → (k : ℕ) → (before : HostMark) → HostMark
mark_after past asks k before =
    if has_answered past k then Fired else mark_unanswered past (asker_of asks k) before

-- the closure with this mark; its kind and its range are as they were
abbrev pub closure_after : History → List Ask → (k : ℕ) → HostClosure → HostClosure
closure_after past asks k c = record c { mark = mark_after past asks k c.mark }

-- a closure but for its mark
abbrev pub unmarked : HostClosure → HostClosure
unmarked c = record c { mark = Live }

-- closure number k is there and has this mark
abbrev pub HasMark : HostMark → List HostClosure → (k : ℕ) → Type 0
HasMark mark hosts k = option_map (λ c. c.mark) (slice_get hosts k) ≡ Some mark

-- ---- Ours: the marks follow the lines

-- The closures after these lines, of those before the first, where this was asked: by each registration of a host one closure,
-- and by no other registration; each closure by one registration at most, and only one that was live before. What answered was
-- asked, and its registration was not dropped. The closures are those before with the marks that the lines tell.
pub record MarksFollow (asks : List Ask) (before : List HostClosure) (past : History) (after : List HostClosure)
    : Type 0 where
  pub askers : (r : ℕ) → has_asked asks r ≡ has_kind is_host past r
  pub one_closure : (a b : Ask) → IsIn a asks → IsIn b asks → a.registration ≡ b.registration → a ≡ b
  pub one_asker : (a b : Ask) → IsIn a asks → IsIn b asks → a.closure ≡ b.closure → a ≡ b
  pub live : (a : Ask) → IsIn a asks → HasMark Live before a.closure
  pub answered : (k : ℕ) → has_answered past k ≡ true → is_there (asker_of asks k) ≡ true
  pub undropped : (a : Ask) → IsIn a asks → has_answered past a.closure ≡ true
      → was_dropped past a.registration ≡ false
  pub marks : (k : ℕ) → slice_get after k ≡ option_map (closure_after past asks k) (slice_get before k)

-- ---- Ours: the pages on the way

-- the answer that a host was asked for is pending
abbrev pub IsPending : HostTask → List HostAnswer → Type 0
IsPending t [] = ⊥
IsPending t (b ∷ more) = (b.task ≡ t) ⊎ IsPending t more

-- this was asked in a page and waits for its answer, which is pending, or is due and its task has not begun
pub record IsAwaited (a : Ask) (p : Page) : Type 0 where
  pub task : HostTask
  pub registration : task.registration ≡ a.registration
  pub closure : task.closure ≡ a.closure
  pub waits : IsPending task p.host_answers ⊎ HasSteps (AnswerHost task) p.tasks

-- on the way from the first page to the last there is one in which this waits for its answer
pub record WasAwaited (first last : Page) (a : Ask) : Type 0 where
  pub page : Page
  pub so_far : Moves first page
  pub awaited : IsAwaited a page
  pub onward : ComesTo page last

-- on the way the registration that asked is dropped while this waits for its answer, and its signal is aborted then
pub record WasAborted (first last : Page) (a : Ask) : Type 0 where
  pub before : Page
  pub after : Page
  pub so_far : Moves first before
  pub awaited : IsAwaited a before
  pub aborted : is_aborted_source before (signal_at before.registrations a.registration) ≡ true
  pub line : after.events ≡ (emit (Drop a.registration) before).events
  pub onward : ComesTo after last

-- closure number k was asked, and a line drops the registration that asked it, where the answer was waited for
pub record WasGivenUp (asks : List Ask) (first last : Page) (k : ℕ) : Type 0 where
  pub ask : Ask
  pub there : IsIn ask asks
  pub own : ask.closure ≡ k
  pub dropped : was_dropped last.events ask.registration ≡ true
  pub aborted : WasAborted first last ask

-- each of two holds where the other does
abbrev pub Exactly : (one other : Type 0) → Type 0
Exactly A B = (A → B) × (B → A)

-- What became of the closures from the first page to the last. The marks follow the lines, for what was asked on the way. A closure
-- is fired exactly where it was so before or a line tells its answer. It is dropped exactly where it was so before or was given up.
-- No kind and no range has changed.
pub record ClosuresFollow (first last : Page) : Type 0 where
  pub asks : List Ask
  pub asked : (a : Ask) → IsIn a asks → WasAwaited first last a
  pub follow : MarksFollow asks first.hosts last.events last.hosts
  pub fired : (k : ℕ)
      → Exactly (HasMark Fired last.hosts k) (HasMark Fired first.hosts k ⊎ has_answered last.events k ≡ true)
  pub dropped : (k : ℕ)
      → Exactly (HasMark Dropped last.hosts k) (HasMark Dropped first.hosts k ⊎ WasGivenUp asks first last k)
  pub unchanged : (k : ℕ)
      → option_map unmarked (slice_get last.hosts k) ≡ option_map unmarked (slice_get first.hosts k)
