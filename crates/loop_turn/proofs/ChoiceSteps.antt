-- What clock, chooser and host port choose, as the choices of a run's rules.
use Rattle.std.specs.Prelude.{◌^◌, IsTrue}
use Rattle.std.proofs.Common.{◌≡◌, ℕ, ◌<◌, ◌≤◌, Bool, true, false, cond, ◌&&◌, List, refl, ◌∙◌, ap, Option, Some, None, option_map, ℤ, Result, nat_lt, lt-ltb, le-leb}
use Rattle.page_types.specs.declared.Source.{Source}
use Rattle.page_types.specs.declared.HostKind.{HostKind}
use Rattle.page_parts.specs.HostClosures.{meets}
use Rattle.page_parts.specs.WrittenChoices.{Runnable, is_runnable}
use Rattle.host_jobs.specs.KeptAnswers.{next_kept}
use Rattle.lang_meaning.specs.Machine.{Caller}
use Rattle.page_model.specs.State.{Page, State}
use Rattle.page_model.specs.Choosing.{Chosen, legal, is_reading, chosen_source, chosen_reading, chosen_answer}
use Rattle.page_model.specs.Turns.{Turned, GoesOn, Ended, Stuck, perform, from_step_three}
use Rattle.trace_text.specs.declared.lines.NoLine.{NoLine}
use Rattle.trace_text.specs.Given.{Keeping}
use Rattle.loop_turn.specs.Outcomes.{Shown, Outcome, Reached, Turns}
use Rattle.loop_turn.specs.RunRules.{Held, by_chooser, by_clock, by_port, run_rules, no_reading, answer_chosen, answer_rules}
use Rattle.loop_turn.proofs.Parted.{held_as, chosen_as, perform-as, from_step_three-as}

pub is-true : (b : Bool) → IsTrue b → b ≡ true
is-true b h = h

-- a legal choice is that of the rule
legal-is : {X C : Type 0} (is_legal : X → Bool) (o : Option (Chosen X C)) (x : Chosen X C) → o ≡ Some x → is_legal x.choice ≡ true → legal is_legal o ≡ Some x
legal-is is_legal o x e l = ap (legal is_legal) e ∙ ap (λ b. cond b (Some x) None) l

module _ {C K : Type 0} (clock : C → ℕ → Option (ℕ × C)) (chooser : K → List Runnable → Option (Source × K)) (h : Held C K) where
  -- ---- readings

  reading-legal : (t r : ℕ) → t ≤ r → r < 2 ^ 63 → is_reading t r ≡ true
  reading-legal t r le less = ap (λ b. b && nat_lt r (2 ^ 63)) (le-leb t r le) ∙ lt-ltb r (2 ^ 63) less

  pub reading-given : (t r : ℕ) (left : C) → clock h.clock t ≡ Some (r, left) → t ≤ r → r < 2 ^ 63
      → chosen_reading (run_rules clock chooser) t h ≡ Some (record { choice = r; left = record h { clock = left } })
  reading-given t r left e le less =
      legal-is (is_reading t) (option_map (by_clock h) (clock h.clock t)) (by_clock h (r, left)) (ap (option_map (by_clock h)) e) (reading-legal t r le less)

  pub reading-refused : (t : ℕ) → clock h.clock t ≡ None → chosen_reading (run_rules clock chooser) t h ≡ None
  reading-refused t e = ap (λ o. legal (is_reading t) (option_map (by_clock h) o)) e

  -- ---- sources

  pub source-given : (rs : List Runnable) (source : Source) (left : K) → chooser h.chooser rs ≡ Some (source, left) → is_runnable rs source ≡ true
      → chosen_source (run_rules clock chooser) rs h ≡ Some (record { choice = source; left = record h { chooser = left } })
  source-given rs source left e l =
      legal-is (is_runnable rs) (option_map (by_chooser h) (chooser h.chooser rs)) (by_chooser h (source, left)) (ap (option_map (by_chooser h)) e) l

  pub source-refused : (rs : List Runnable) → chooser h.chooser rs ≡ None → chosen_source (run_rules clock chooser) rs h ≡ None
  source-refused rs e = ap (λ o. legal (is_runnable rs) (option_map (by_chooser h) o)) e

-- ---- the clock beside what a source and an answer are chosen by

abbrev pub with_clock : {C K : Type 0} → C → Held (Unit {0}) K → Held C K
with_clock c h = record { clock = c; chooser = h.chooser; answers = h.answers }

module _ {C K : Type 0} (clock : C → ℕ → Option (ℕ × C)) (chooser : K → List Runnable → Option (Source × K)) (c : C) where
  -- a test after which the choice is legal, or none
  tested-as : {X : Type 0} (f : X → Chosen X (Held C K)) (g : X → Chosen X (Held (Unit {0}) K)) (b : Bool) (x : X) → f x ≡ chosen_as (with_clock c) (g x)
      → cond b (Some (f x)) None ≡ option_map (chosen_as (with_clock c)) (cond b (Some (g x)) None)
  tested-as f g true x e = ap Some e
  tested-as f g false x e = refl

  sources-as : (rs : List Runnable) (h : Held (Unit {0}) K)
      → chosen_source (run_rules clock chooser) rs (with_clock c h) ≡ option_map (chosen_as (with_clock c)) (chosen_source (run_rules no_reading chooser) rs h)
  sources-as rs h = by_choice (chooser h.chooser rs)
    where
      by_choice : (o : Option (Source × K))
          → legal (is_runnable rs) (option_map (by_chooser (with_clock c h)) o) ≡ option_map (chosen_as (with_clock c)) (legal (is_runnable rs) (option_map (by_chooser h) o))
      by_choice None = refl
      by_choice (Some x) = tested-as (λ s. by_chooser (with_clock c h) (s, x.1)) (λ s. by_chooser h (s, x.1)) (is_runnable rs x.0) x.0 refl

  answers-as : (kind : HostKind) (n : ℤ) (h : Held (Unit {0}) K)
      → chosen_answer (run_rules clock chooser) kind n (with_clock c h) ≡ option_map (chosen_as (with_clock c)) (chosen_answer (run_rules no_reading chooser) kind n h)
  answers-as kind n h = by_choice (next_kept (meets kind n) h.answers)
    where
      by_choice : (o : Option (Result ℤ ℤ × List (Result ℤ ℤ)))
          → legal (meets kind n) (option_map (by_port (with_clock c h)) o) ≡ option_map (chosen_as (with_clock c)) (legal (meets kind n) (option_map (by_port h) o))
      by_choice None = refl
      by_choice (Some x) = tested-as (λ a. by_port (with_clock c h) (a, x.1)) (λ a. by_port h (a, x.1)) (meets kind n x.0) x.0 refl

  -- steps 3 to 5 read no clock
  pub serving-as : (call : Caller Page) (until : ℕ) (h : Held (Unit {0}) K) (m : State)
      → from_step_three (run_rules clock chooser) call until (with_clock c h) m ≡ held_as (with_clock c) (from_step_three (run_rules no_reading chooser) call until h m)
  serving-as call until h m = from_step_three-as (with_clock c) (run_rules clock chooser) (run_rules no_reading chooser) call answers-as sources-as until h m

-- what a call does of turns, with more held
pub Turns-as : {C D T : Type 0} {k : Keeping T} (whole : D → C) {before : Shown T} (t : Turned D) {why : Option NoLine} {how : Outcome} {reached : Reached D T}
    → Turns k before t why how reached → Turns k before (held_as whole t) why how (record { state = reached.state; held = whole reached.held; shown = reached.shown })
Turns-as whole (GoesOn m d) h = record { lines = h.lines; ends = λ w. record { outcome = (h.ends w).outcome; state = (h.ends w).state; hosts = (h.ends w).hosts; held = ap whole (h.ends w).held }; fires = h.fires }
Turns-as whole (Ended end m d) h = record { lines = h.lines; ends = λ w. record { outcome = (h.ends w).outcome; state = (h.ends w).state; hosts = (h.ends w).hosts; held = ap whole (h.ends w).held }; fires = h.fires }
Turns-as whole (Stuck at m d) h = record { lines = h.lines; ends = λ w. record { outcome = (h.ends w).outcome; state = (h.ends w).state; hosts = (h.ends w).hosts; held = ap whole (h.ends w).held }; fires = h.fires }

-- ---- the chooser beside what an answer is chosen by

module _ {K : Type 0} (chooser : K → List Runnable → Option (Source × K)) (held : K) where
  -- what is held with these answers
  abbrev pub with_chooser : List (Result ℤ ℤ) → Held (Unit {0}) K
  with_chooser answers = record { clock = tt; chooser = held; answers = answers }

  kept-as : (kind : HostKind) (n : ℤ) (answers : List (Result ℤ ℤ))
      → chosen_answer (run_rules no_reading chooser) kind n (with_chooser answers) ≡ option_map (chosen_as with_chooser) (chosen_answer answer_rules kind n answers)
  kept-as kind n answers = by_choice (next_kept (meets kind n) answers)
    where
      by_test : (b : Bool) (x : Result ℤ ℤ × List (Result ℤ ℤ)) → cond b (Some (by_port (with_chooser answers) x)) None ≡ option_map (chosen_as with_chooser) (cond b (Some (answer_chosen x)) None)
      by_test true x = refl
      by_test false x = refl

      by_choice : (o : Option (Result ℤ ℤ × List (Result ℤ ℤ)))
          → legal (meets kind n) (option_map (by_port (with_chooser answers)) o) ≡ option_map (chosen_as with_chooser) (legal (meets kind n) (option_map answer_chosen o))
      by_choice None = refl
      by_choice (Some x) = by_test (meets kind n x.0) x

  -- a task reads no clock and no chooser
  pub task-as : (call : Caller Page) (source : Source) (m : State) (answers : List (Result ℤ ℤ))
      → perform (run_rules no_reading chooser) call source m (with_chooser answers) ≡ held_as with_chooser (perform answer_rules call source m answers)
  task-as call source m answers = perform-as with_chooser (run_rules no_reading chooser) answer_rules call kept-as source m answers
