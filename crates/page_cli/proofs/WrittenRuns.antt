-- A run by the clock of the written lateness, the chooser of the written policy and the answers to come is the run by the written choices.
use Rattle.std.proofs.Common.{◌≡◌, ℕ, ◌+◌, Bool, true, false, cond, List, [], ◌∷◌, replicate, Some, None, option_map, ℤ, Result, refl, sym, subst}
use Rattle.std.specs.Prelude.{⊤}
use Rattle.page_types.specs.Tree.{Program}
use Rattle.page_types.specs.declared.HostKind.{HostKind}
use Rattle.page_parts.specs.HostClosures.{HostClosure, meets}
use Rattle.page_parts.specs.Setup.{Policy, Fifo, Rank, Fair, Setup}
use Rattle.page_parts.specs.WrittenChoices.{Runnable, is_runnable, policy_source, counts_now, counts_after, Choices, Written, written}
use Rattle.page_base.specs.Readings.{late_reading}
use Rattle.loop_policy.specs.Policies.{PolicyState}
use Rattle.loop_policy.specs.Rules.{first_state, policy_choice}
use Rattle.page_model.specs.Choosing.{Rules, legal, is_reading, chosen_source, chosen_reading, chosen_answer, as_answer, choice_rules}
use Rattle.page_model.specs.Likeness.{SameChoice, ChooseAlike, EndAlike}
use Rattle.page_model.specs.Turns.{run_by, run}
use Rattle.page_model.proofs.ChosenAlone.RunsAlike.{runs-alike}
use Rattle.loop_turn.specs.RunRules.{Held, by_port, run_rules}

abbrev pub WrittenHeld : Type 0
WrittenHeld = Held (List ℕ) PolicyState

abbrev pub written_rules : Rules WrittenHeld
written_rules = run_rules late_reading policy_choice

abbrev held_of : Policy → List ℕ → List ℕ → List (Result ℤ ℤ) → WrittenHeld
held_of policy counts late answers = record { clock = late; chooser = record { policy = policy; counts = counts }; answers = answers }

-- a fair policy alone reads how often each source was passed over
abbrev pub SameCounts : Policy → List ℕ → List ℕ → Type 0
SameCounts Fifo counts others = ⊤
SameCounts (Rank sources) counts others = ⊤
SameCounts (Fair k) counts others = others ≡ counts

-- what clock and chooser hold, with the answers to come, beside written choices
abbrev pub Together : WrittenHeld → Choices → Type 0
Together h c = (counts : List ℕ) × (c ≡ Written h.chooser.policy counts h.clock h.answers) × SameCounts h.chooser.policy h.chooser.counts counts

-- the same choice is legal twice, or never
legal-same : {X C D : Type 0} (Tog : C → D → Type 0) (is_legal : X → Bool) (x : X) (c : C) (d : D) → Tog c d
    → SameChoice Tog (legal is_legal (Some (record { choice = x; left = c }))) (legal is_legal (Some (record { choice = x; left = d })))
legal-same Tog is_legal x c d h = by-case (is_legal x)
  where
    by-case : (b : Bool) → SameChoice Tog (cond b (Some (record { choice = x; left = c })) None) (cond b (Some (record { choice = x; left = d })) None)
    by-case true = (d, refl, h)
    by-case false = refl

source-same : (policy : Policy) (counts others late : List ℕ) (answers : List (Result ℤ ℤ)) (rs : List Runnable) → SameCounts policy counts others
    → SameChoice Together (chosen_source written_rules rs (held_of policy counts late answers)) (chosen_source choice_rules rs (Written policy others late answers))
source-same Fifo counts others late answers rs same =
    legal-same Together (is_runnable rs) (policy_source Fifo counts rs) _ _ (counts_after rs (policy_source Fifo counts rs) (counts_now rs others), refl, tt)
source-same (Rank sources) counts others late answers rs same =
    legal-same Together (is_runnable rs) (policy_source (Rank sources) counts rs) _ _
    (counts_after rs (policy_source (Rank sources) counts rs) (counts_now rs others), refl, tt)
source-same (Fair k) counts others late answers rs same =
    let P : List ℕ → Type 0 = λ o. SameChoice Together (chosen_source written_rules rs (held_of (Fair k) counts late answers)) (chosen_source choice_rules rs (Written (Fair k) o late answers)) in
    subst P (sym same)
    (legal-same Together (is_runnable rs) (policy_source (Fair k) counts rs) _ _
    (counts_after rs (policy_source (Fair k) counts rs) (counts_now rs counts), refl, refl))

reading-same : (policy : Policy) (counts others late : List ℕ) (answers : List (Result ℤ ℤ)) (t : ℕ) → SameCounts policy counts others
    → SameChoice Together (chosen_reading written_rules t (held_of policy counts late answers)) (chosen_reading choice_rules t (Written policy others late answers))
reading-same policy counts others [] answers t same = legal-same Together (is_reading t) t _ _ (others, refl, same)
reading-same policy counts others (lateness ∷ late) answers t same = legal-same Together (is_reading t) (t + lateness) _ _ (others, refl, same)

answer-same : (policy : Policy) (counts others late : List ℕ) (answers : List (Result ℤ ℤ)) (kind : HostKind) (x : ℤ) → SameCounts policy counts others
    → SameChoice Together (chosen_answer written_rules kind x (held_of policy counts late answers)) (chosen_answer choice_rules kind x (Written policy others late answers))
answer-same policy counts others late [] kind x same = refl
answer-same policy counts others late (a ∷ more) kind x same = by-case (meets kind x a)
  where
    by-case : (b : Bool) → SameChoice Together
        (legal (meets kind x) (option_map (by_port (held_of policy counts late (a ∷ more))) (cond b (Some (a, more)) None)))
        (legal (meets kind x) (option_map as_answer (cond b (Some (record { answer = a; left = Written policy others late more })) None)))
    by-case true = legal-same Together (meets kind x) a _ _ (others, refl, same)
    by-case false = refl

written-alike : ChooseAlike written_rules choice_rules Together
written-alike = record {
  source = λ rs h c t. let P : Choices → Type 0 = λ d. SameChoice Together (chosen_source written_rules rs h) (chosen_source choice_rules rs d) in
      subst P (sym t.1) (source-same h.chooser.policy h.chooser.counts t.0 h.clock h.answers rs t.2);
  reading = λ target h c t. let P : Choices → Type 0 = λ d. SameChoice Together (chosen_reading written_rules target h) (chosen_reading choice_rules target d) in
      subst P (sym t.1) (reading-same h.chooser.policy h.chooser.counts t.0 h.clock h.answers target t.2);
  answer = λ kind x h c t. let P : Choices → Type 0 = λ d. SameChoice Together (chosen_answer written_rules kind x h) (chosen_answer choice_rules kind x d) in
      subst P (sym t.1) (answer-same h.chooser.policy h.chooser.counts t.0 h.clock h.answers kind x t.2);
}

start-counts : (policy : Policy) → SameCounts policy (replicate 7 0) (replicate 7 0)
start-counts Fifo = tt
start-counts (Rank sources) = tt
start-counts (Fair k) = refl

-- what is held before the first turn
abbrev pub first_held : Setup → List (Result ℤ ℤ) → WrittenHeld
first_held setup answers = record { clock = setup.late; chooser = first_state setup.policy; answers = answers }

pub written-run : (program : Program) (setup : Setup) (hosts : List HostClosure) (answers : List (Result ℤ ℤ))
    → EndAlike Together (run_by written_rules program setup hosts (first_held setup answers)) (run program setup hosts (written setup answers))
unfolding run
written-run program setup hosts answers =
    runs-alike Together written_rules choice_rules written-alike program setup hosts (first_held setup answers) (written setup answers)
    (replicate 7 0, refl, start-counts setup.policy)
