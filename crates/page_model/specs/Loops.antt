-- Several loops, as dedicated workers have.
use Rattle.std.specs.Prelude.{◌≡◌, ℕ, zero, suc, max, Bool, false, if◌then◌else◌, not, ◌&&◌, ◌||◌, List, [], ◌∷◌, map, Option, Some, None, nat_lt, option_map, ◌==◌}
use Rattle.page_types.specs.declared.End.TheVariants.{Done as DoneEnd}
use Rattle.page_parts.specs.Words.{is_empty, is_there}
use Rattle.page_parts.specs.Channels.{Channel}
use Rattle.page_parts.specs.WrittenChoices.{Choices}
use Rattle.lang_meaning.specs.Machine.{Caller}
use Rattle.page_model.specs.State.{Page, State}
use Rattle.page_model.specs.Choosing.{chosen_reading, choice_rules}
use Rattle.page_model.specs.Parallel.{first_item, due_item}
use Rattle.page_model.specs.View.{view}
use Rattle.page_model.specs.Turns.{Turned, GoesOn, Ended, Stuck, ends, choose_turned, is_pending, target, step_one, after_step_one}
use Rattle.page_model.specs.PageRuns.{PageRun, first_run, caller_of, is_live, some_run, carried_on, change_run, route_posts, only_if}
use Rattle.page_model.specs.Windows.{Script}

-- ---- HTML, "Web workers" and "Event loops": each worker has a loop of its own. Ours: each has a clock of its own, and the one that is
-- behind goes on

-- the key of a loop by its target: what the clock will read for it, or the moment of the loop's end or idle step
abbrev pub key_by : (until : ℕ) → State → Choices → Option ℕ → Option ℕ
key_by until m c None = Some m.host.now
key_by until m c (Some t) =
    if nat_lt m.host.now t && nat_lt m.host.now until && nat_lt t until then option_map (λ r. r.choice) (chosen_reading choice_rules t c)
    else Some (max m.host.now t)

-- the moment at which a loop goes on: none where nothing is pending
abbrev pub key_in : (until : ℕ) → State → Choices → Option ℕ
key_in until m c =
    if (m.host.turns == 0) || not (is_empty (view m.host)) then Some m.host.now
    else if is_pending m.host then key_by until m c (target m.host) else None

-- the key of a run: none where it has ended
abbrev pub key_of : (until : ℕ) → Turned Choices → Option ℕ
key_of until (GoesOn m c) = key_in until m c
key_of until (Ended end m c) = None
key_of until (Stuck at m c) = None

-- whether step 1 takes an item
abbrev pub takes_item : Page → Bool
takes_item p = not (p.turns == 0) && is_there (due_item p.now (first_item p))

-- One pass through the steps of a turn. A pass that waits ends once the parallel items are taken at the reading; one whose step 1 took an
-- item and left no task runnable ends there.
abbrev pub one_pass : Caller Page → (until : ℕ) → State → Choices → Turned Choices
one_pass call until m c =
    let after = step_one m in
    choose_turned (takes_item m.host && is_empty (view after.host)) (λ m. GoesOn m c)
    (after_step_one choice_rules call until (λ m c. GoesOn (step_one m) c) c) after

-- a loop, its number and its key
pub record Keyed : Type 0 where
  pub number : ℕ
  pub key : ℕ

-- the one of the least key, the first one where keys are equal
abbrev pub sooner : Option ℕ → ℕ → Option Keyed → Option Keyed
sooner None n best = best
sooner (Some k) n None = Some (record { number = n; key = k })
sooner (Some k) n (Some best) = if nat_lt best.key k then Some best else Some (record { number = n; key = k })

-- the live loop of least key, of those from number n on
abbrev pub first_keyed : ℕ → List PageRun → Option Keyed
first_keyed n [] = None
first_keyed n (r ∷ rs) = sooner (key_of r.until r.run) n (first_keyed (suc n) rs)

-- a live loop ends
abbrev pub done_run : PageRun → PageRun
done_run r = carried_on (λ m c. ends DoneEnd c m) r

-- the loop goes on by a pass, and its messages are routed at once; where no loop has a key, all end
abbrev pub step_by : List Channel → Option Keyed → List PageRun → List PageRun
step_by cs None rs = map done_run rs
step_by cs (Some x) rs = route_posts cs x.number (change_run x.number (λ r. carried_on (one_pass (caller_of r) r.until) r) rs)

-- one step
abbrev pub loop_step : List Channel → List PageRun → List PageRun
loop_step cs rs = step_by cs (first_keyed 1 rs) rs

-- at most n steps, until no loop is live
abbrev pub loop_steps : List Channel → ℕ → List PageRun → List PageRun
loop_steps cs zero rs = rs
loop_steps cs (suc n) rs = only_if (some_run is_live rs) (λ rs. loop_steps cs n (loop_step cs rs)) rs

-- the loops before the first step
abbrev pub first_loops : List Script → List PageRun
first_loops scripts = map (λ s. first_run s.program s.setup s.setup.until) scripts

-- these are the runs of the loops: the steps lead to them, and each has ended
pub record AreLoopsOf (cs : List Channel) (scripts : List Script) (rs : List PageRun) : Type 0 where
  pub count : ℕ
  pub lead : loop_steps cs count (first_loops scripts) ≡ rs
  pub ended : some_run is_live rs ≡ false
