-- The runs of several pages beside each other, and the messages between them.
use Rattle.std.specs.Prelude.{ℕ, zero, suc, Bool, true, false, not, List, [], ◌∷◌, Option, Some, None, find}
use Rattle.page_types.specs.Tree.{Program}
use Rattle.page_parts.specs.Words.{is_empty, is_there, least}
use Rattle.page_parts.specs.Setup.{Setup}
use Rattle.page_parts.specs.Channels.{Post, Channel, Routed, route}
use Rattle.page_parts.specs.WrittenChoices.{Choices, written}
use Rattle.lang_meaning.specs.Machine.{Caller}
use Rattle.lang_meaning.specs.Evaluation.{call_from_outside}
use Rattle.page_model.specs.State.{Page, State, on_page}
use Rattle.page_model.specs.Operations.{page_operations, posts_taken}
use Rattle.page_model.specs.Parallel.{arrive}
use Rattle.page_model.specs.View.{view}
use Rattle.page_model.specs.Turns.{Turned, GoesOn, Ended, Stuck, next_turn, is_pending, target, first_state, state_of}

-- ---- HTML, "Event loops: processing model" and "Cross-document messaging". Ours: the pages are numbered from 1, and each has a program,
-- policy and fuel of its own and no host closures

-- a page's run as far as it has come, with its program and the moment at which it ends at the latest
pub record PageRun : Type 0 where
  pub program : Program
  pub until : ℕ
  pub run : Turned Choices

-- a run before its first turn
abbrev pub first_run : Program → Setup → ℕ → PageRun
first_run program setup until = record { program = program; until = until; run = GoesOn (first_state program setup []) (written setup []) }

-- how functions are called in a page
abbrev pub caller_of : PageRun → Caller Page
caller_of r = call_from_outside r.program page_operations

-- the state of a run that goes on
abbrev pub live_in : Turned Choices → Option State
live_in (GoesOn m c) = Some m
live_in (Ended end m c) = None
live_in (Stuck at m c) = None

-- whether a run goes on
abbrev pub is_live : PageRun → Bool
is_live r = is_there (live_in r.run)

-- the test of the page of a run, and false where the run has ended
abbrev pub live_and : (Page → Bool) → PageRun → Bool
live_and test r = elim (live_in r.run) [ None ↦ false | Some m ↦ test m.host ]

-- whether a live run has a runnable task
abbrev pub has_runnable : PageRun → Bool
has_runnable r = live_and (λ p. not (is_empty (view p))) r

-- whether something is pending in a live run
abbrev pub has_pending : PageRun → Bool
has_pending r = live_and is_pending r

-- the target of a live run
abbrev pub target_of : PageRun → Option ℕ
target_of r = elim (live_in r.run) [ None ↦ None | Some m ↦ target m.host ]

-- a change where the test holds, and none where it fails
abbrev pub only_if : {X : Type 0} → Bool → (X → X) → X → X
only_if true f x = f x
only_if false f x = x

-- whether one of them passes the test
abbrev pub some_run : (PageRun → Bool) → List PageRun → Bool
some_run test rs = is_there (find test rs)

-- the least of the targets
abbrev pub least_target : List PageRun → Option ℕ
least_target [] = None
least_target (r ∷ rs) = least (target_of r) (least_target rs)

-- a run is carried on, where it goes on
abbrev pub carried_on : (State → Choices → Turned Choices) → PageRun → PageRun
carried_on next r = record r { run = next_turn r.run next }

-- the run with this number, counted from 1, after a change
abbrev pub change_run : ℕ → (PageRun → PageRun) → List PageRun → List PageRun
change_run zero f rs = rs
change_run (suc k) f [] = []
change_run (suc zero) f (r ∷ rs) = f r ∷ rs
change_run (suc (suc k)) f (r ∷ rs) = r ∷ change_run (suc k) f rs

-- the run with this number
abbrev pub run_at : ℕ → List PageRun → Option PageRun
run_at zero rs = None
run_at (suc k) [] = None
run_at (suc zero) (r ∷ rs) = Some r
run_at (suc (suc k)) (r ∷ rs) = run_at (suc k) rs

-- the state in which a run stands
abbrev pub standing : PageRun → State
standing r = state_of r.run

-- its state is changed
abbrev pub with_page_of : (Page → Page) → Turned Choices → Turned Choices
with_page_of f (GoesOn m c) = GoesOn (on_page f m) c
with_page_of f (Ended end m c) = Ended end (on_page f m) c
with_page_of f (Stuck at m c) = Stuck at (on_page f m) c

-- the posts since the last taking
abbrev pub posts_of : Option PageRun → List Post
posts_of None = []
posts_of (Some r) = (standing r).host.posts

-- a message arrives; it is lost where it goes nowhere, or to a page that has ended
abbrev pub deliver : Option Routed → List PageRun → List PageRun
deliver None rs = rs
deliver (Some x) rs = change_run x.to (carried_on (λ m c. GoesOn (on_page (arrive x.arrival) m) c)) rs

-- messages arrive in the order in which they were posted
abbrev pub deliver_all : List Channel → ℕ → List Post → List PageRun → List PageRun
deliver_all cs from [] rs = rs
deliver_all cs from (x ∷ xs) rs = deliver_all cs from xs (deliver (route cs from x) rs)

-- the posts of a page are taken and routed
abbrev pub route_posts : List Channel → ℕ → List PageRun → List PageRun
route_posts cs k rs =
    deliver_all cs k (posts_of (run_at k rs)) (change_run k (λ r. record r { run = with_page_of posts_taken r.run }) rs)
