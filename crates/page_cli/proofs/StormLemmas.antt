-- From the run of a storm to what is written of it.
use Rattle.std.proofs.Common.{◌≡◌, ◌≤◌, ℕ, List, [], ◌∷◌, ◌++◌, reverse, length, Option, Some, None, Result, Ok, ℤ, refl, sym, ap, ◌∙◌, subst, lit≤}
use Rattle.std.proofs.lemmas.List.{reverse-append}
use Rattle.std.specs.Prelude.{IfSome, MatchOption}
use Rattle.page_types.specs.Tree.{Item, Program}
use Rattle.page_types.specs.declared.End.{End}
use Rattle.page_types.specs.Events.{EndLine, Stamped}
use Rattle.page_parts.specs.Setup.{Setup}
use Rattle.page_parts.specs.HostClosures.{HostClosure}
use Rattle.page_parts.specs.WrittenChoices.{Choices, written}
use Rattle.lang_parse.specs.Symbols.{symbols_of}
use Rattle.lang_parse.specs.Grammar.{HasTree}
use Rattle.lang_parse.proofs.Script.{one_tree}
use Rattle.lang_tokens.specs.Seen.{TokenSeen}
use Rattle.lang_ast.specs.NameFaults.{Fault, IsResolved}
use Rattle.lang_names.specs.Told.{seen_fault}
use Rattle.page_model.specs.Choosing.{choice_rules}
use Rattle.page_model.specs.Turns.{Turned, GoesOn, Ended, Stuck, run, run_by, events_of_run, state_of}
use Rattle.page_model.specs.ChoicesAreData.{Continues}
use Rattle.page_model.proofs.ChosenAlone.FurtherChoices.{run-further}
use Rattle.page_model.proofs.ChosenAlone.RunsAlike.{alike-events}
use Rattle.trace_text.specs.Summaries.{Counts, counts_of, count_keeping, seen_counts, last_end, end_after, summarised}
use Rattle.trace_text.specs.declared.summary.Summary.{Summary}
use Rattle.trace_text.proofs.Counting.{lines-counted}
use Rattle.trace_check.proofs.EndLines.{EndsByLine, run-ends-by}
use Rattle.loop_policy.specs.Policies.{PolicyState}
use Rattle.loop_turn.specs.Runs.{DoesRun, PortThen, run_lines}
use Rattle.page_gen.specs.Storm.{storm_script, storm_arrivals}
use Rattle.page_gen.proofs.Running.{storm_is_script}
use Rattle.page_gen.proofs.Setting.{storm_sets_up}
use Rattle.page_cli.specs.declared.answer.Answer.{Answer}
use Rattle.page_cli.specs.declared.answer.Answer.TheVariants as answer
use Rattle.page_cli.specs.Running.{EndsAs}
use Rattle.page_cli.specs.Scripts.{IsScript}
use Rattle.page_cli.specs.Answering.{RefusesFiles}
use Rattle.page_cli.specs.Stormed.{unanswered_run, AsksNone, HasCounts, IsStormOf, AnswersCounts, AnswersStorm}
use Rattle.page_cli.proofs.WrittenRuns.{WrittenHeld, Together, written_rules, first_held, written-run}
use Rattle.page_cli.proofs.RunLemmas.{alike-outcome, ends-as}

-- ---- its texts are not refused

module _ (n : ℕ) (le : n ≤ 100000) where
  pub storm-size : length (storm_script n) ≤ 1048576
  storm-size = (storm_is_script n le).size

  same-tokens : (tokens others : List TokenSeen) → (let r : Result (List TokenSeen) ℕ = Ok tokens in r) ≡ Ok others → tokens ≡ others
  same-tokens tokens others e = cc

  storm-is : IsScript (storm_script n) (storm_is_script n le).tree
  storm-is = let s = storm_is_script n le in record { size = s.size; tokens = s.tokens; tokens_are = s.tokens_are; has_tree = s.has_tree }

  -- a script has one tree
  same-tree : (tree : List Item) → IsScript (storm_script n) tree → (storm_is_script n le).tree ≡ tree
  same-tree tree is =
      let s = storm_is_script n le in
      let P : List TokenSeen → Type 0 = λ ts. HasTree (symbols_of ts) s.tree in
      one_tree (symbols_of is.tokens) s.tree tree (subst P (same-tokens s.tokens is.tokens (sym s.tokens_are ∙ is.tokens_are)) s.has_tree) is.has_tree

  storm-resolved : (tree : List Item) → IsScript (storm_script n) tree → IsResolved tree
  storm-resolved tree is = subst IsResolved (same-tree tree is) (storm_is_script n le).is_resolved

  none-is-some : (f : Fault) → (let o : Option Fault = None in o) ≡ Some f → ⊥
  none-is-some f e = cc

  -- so what is refused is refused for want of memory
  pub storm-accepted : (a : Answer) → RefusesFiles a (storm_script n) storm_arrivals → a ≡ answer.OutOfMemory
  storm-accepted (answer.NoParse at) h = absurd (h.none (storm_is_script n le).tree storm-is)
  storm-accepted (answer.BadName fault) h = absurd (none-is-some (seen_fault fault) (sym (storm-resolved h.tree h.is_script h.first.place) ∙ h.first.here))
  storm-accepted (answer.BadArrivals line) h = absurd (h.1.refused storm_sets_up.lines storm_sets_up.page)
  storm-accepted answer.OutOfMemory h = refl
  storm-accepted a h = absurd h

pub arrivals-size : length storm_arrivals ≤ 1048576
unfolding storm_arrivals
arrivals-size = lit≤ tt

-- ---- how the run ends, by its last line

last_end-append : (before : Option End) (xs : List Stamped) (x : Stamped) → last_end before (xs ++ x ∷ []) ≡ end_after (last_end before xs) x.event
last_end-append before [] x = refl
last_end-append before (y ∷ xs) x = last_end-append (end_after before y.event) xs x

told-last : (events before : List Stamped) (time : ℕ) (end : End) → events ≡ record { time = time; event = EndLine end } ∷ before → last_end None (reverse events) ≡ Some end
told-last events before time end e =
    let last : Stamped = record { time = time; event = EndLine end } in
    ap (λ es. last_end None (reverse es)) e ∙ (ap (last_end None) (reverse-append (last ∷ []) before) ∙ last_end-append None (reverse before) last)

told-end : {C : Type 0} (end : End) (t : Turned C) → EndsAs end t → EndsByLine t → (counts_of (events_of_run t)).end ≡ Some end
told-end end (GoesOn m c) at by = absurd at
told-end end (Ended other m c) at by = told-last m.host.events by.before by.time other by.is ∙ ap Some at
told-end end (Stuck why m c) at by = absurd at

-- ---- the run, and its counts

module _ (program : Program) (setup : Setup) (hosts : List HostClosure) where
  abbrev by_rules : Turned WrittenHeld
  by_rules = run_by written_rules program setup hosts (first_held setup [])

  abbrev by_choices : Turned Choices
  by_choices = unanswered_run program setup hosts

  ends-by : EndsByLine by_choices
  unfolding run
  ends-by = run-ends-by choice_rules program setup hosts (written setup [])

  same_counts : (one other : Counts) → Some one ≡ Some other → one ≡ other
  same_counts one other e = cc

  module _ {clock : List ℕ} {chooser : PolicyState} {port : PortThen} (form : ℕ) (end : End) (counts : Counts)
      (h : DoesRun count_keeping (seen_counts (counts_of [])) (run_lines form by_rules) by_rules (Ok end) clock chooser port (seen_counts counts)) where
    has-ended : EndsAs end by_choices
    has-ended = ends-as end by_choices ((h.ends refl).outcome ∙ sym (alike-outcome Together by_rules by_choices (written-run program setup hosts [])))

    counts-are : counts ≡ counts_of (events_of_run by_choices)
    counts-are =
        same_counts counts (counts_of (events_of_run by_rules)) (h.lines.told.0 ∙ lines-counted (events_of_run by_rules))
        ∙ ap counts_of (sym (alike-events Together by_rules by_choices (written-run program setup hosts [])))

    -- a run that has ended without answers is the same with any, and they are left
    same-state : (t t' : Turned Choices) (answers : List (Result ℤ ℤ)) → EndsAs end t → Continues [] [] answers t t' → state_of t' ≡ state_of t
    same-state (GoesOn m c) t' answers at h = absurd at
    same-state (Ended other m c) t' answers at h = ap state_of h
    same-state (Stuck why m c) t' answers at h = absurd at

    asks-none : AsksNone program setup hosts
    asks-none = λ answers. same-state by_choices (run program setup hosts (written setup answers)) answers has-ended (run-further [] [] answers program setup hosts (written setup []))

    some-end : (one other : End) → Some one ≡ Some other → one ≡ other
    some-end one other e = cc

    -- the summary of the counts tells this end
    pub run-counted : (told : End) (summary : Counts) → summary ≡ counts → summary.end ≡ Some told → HasCounts program setup hosts told summary
    run-counted told summary same is =
        let e : Some end ≡ Some told = sym (told-end end by_choices has-ended ends-by) ∙ (ap (λ (c : Counts). c.end) (sym counts-are) ∙ (ap (λ (c : Counts). c.end) (sym same) ∙ is)) in
        let P : End → Type 0 = λ x. EndsAs x by_choices in
        record { ended = subst P (some-end end told e) has-ended; counts_are = same ∙ counts-are; asks_none = asks-none }

  -- the same of the answers that a port without answers keeps
  pub run-summarised : {clock : List ℕ} {chooser : PolicyState} {port : PortThen} {end : End} {counts : Counts} (o : Option Summary) (form : ℕ) (answers : List (Result ℤ ℤ)) → answers ≡ []
      → (let run = run_by written_rules program setup hosts (first_held setup answers) in DoesRun count_keeping (seen_counts (counts_of [])) (run_lines form run) run (Ok end) clock chooser port (seen_counts counts))
      → MatchOption o (counts.end ≡ None) (λ s. summarised s ≡ counts) → IfSome o (λ s. HasCounts program setup hosts s.end (summarised s))
  run-summarised None form answers none h told = tt
  run-summarised {clock = clock} {chooser = chooser} {port = port} {end = end} {counts = counts} (Some s) form answers none h told =
      let P : List (Result ℤ ℤ) → Type 0 = λ answers. (let run = run_by written_rules program setup hosts (first_held setup answers) in DoesRun count_keeping (seen_counts (counts_of [])) (run_lines form run) run (Ok end) clock chooser port (seen_counts counts)) in
      run-counted form end counts (subst P none h) s.end (summarised s) told refl

-- ---- what is written

pub counts-told : (a : Answer) (n : ℕ) (hosts : List HostClosure) (end : End) (counts : Counts) (old new : Option (List ℕ)) → IsStormOf n hosts end counts → AnswersCounts a end counts old new → AnswersStorm a n hosts old new
counts-told (answer.Ended one) n hosts end counts old new is h =
    let P : End → Type 0 = λ e. IsStormOf n hosts e counts in
    record { counts = counts; is_storm = subst P (sym h.0) is; wrote = h.1 }
counts-told answer.WriteFault n hosts end counts old new is h = record { end = end; counts = counts; is_storm = is; start = h }
counts-told answer.OutOfMemory n hosts end counts old new is h = h
counts-told a n hosts end counts old new is h = absurd h
