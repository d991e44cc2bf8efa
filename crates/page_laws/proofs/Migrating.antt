-- Legal events told in the second form are legal there; without what the first form leaves out they are the events themselves.
use Rattle.std.proofs.Common.{◌≡◌, suc, List, [], ◌∷◌, ◌++◌, reverse, refl, sym, ap, ◌∙◌, subst}
use Rattle.std.proofs.lemmas.List.{reverse-append}
use Rattle.page_types.specs.Tree.{Program}
use Rattle.page_types.specs.Events.{Stamped}
use Rattle.page_parts.specs.Setup.{Setup}
use Rattle.page_parts.specs.HostClosures.{HostClosure}
use Rattle.page_parts.specs.TraceText.{without_by, all_without_by, choices_in}
use Rattle.page_parts.specs.WrittenChoices.{Choices}
use Rattle.lang_meaning.specs.Evaluation.{call_from_outside}
use Rattle.page_model.specs.Operations.{page_operations}
use Rattle.page_model.specs.Choosing.{Rules, choice_rules}
use Rattle.page_model.specs.Turns.{Turned, GoesOn, Ended, Stuck, first_state, run, run_by, events_of_run}
use Rattle.page_model.specs.ChoicesAreData.{HasEnded, with_left, no_choices}
use Rattle.page_model.specs.PageTrace.{EndsWith, IsLegal, told_more, migrated, Migrates}
use Rattle.page_model.proofs.ChosenAlone.Replaying.{run-again}
use Rattle.page_laws.proofs.FirstForm.{turned_less}
use Rattle.page_laws.proofs.FirstFormOperations.{outside-less}
use Rattle.page_laws.proofs.FirstFormTurns.{turns-less}

-- ---- the run in the first form

-- the setup with the first form of a trace
abbrev in_first_form : Setup → Setup
in_first_form setup = record setup { trace = 1 }

-- the run in the first form is the run without what that form leaves out
run_by-less : {C : Type 0} (rules : Rules C) (program : Program) (setup : Setup) (hosts : List HostClosure) (c : C)
    → run_by rules program (in_first_form setup) hosts c ≡ turned_less (run_by rules program setup hosts c)
unfolding run_by
run_by-less rules program setup hosts c =
    turns-less rules (call_from_outside program page_operations) (outside-less program) setup.until (suc setup.fuel) c (first_state program setup hosts)

run-less : (program : Program) (setup : Setup) (hosts : List HostClosure) (c : Choices) → run program (in_first_form setup) hosts c ≡ turned_less (run program setup hosts c)
unfolding run
run-less program setup hosts c = run_by-less choice_rules program setup hosts c

-- so the run in the second form is the run, both without what the first form leaves out
forms-same : (program : Program) (setup : Setup) (hosts : List HostClosure) (c : Choices) → turned_less (run program (told_more setup) hosts c) ≡ turned_less (run program setup hosts c)
forms-same program setup hosts c = sym (run-less program (told_more setup) hosts c) ∙ run-less program setup hosts c

-- ---- its events

all_without_by-append : (xs ys : List Stamped) → all_without_by (xs ++ ys) ≡ all_without_by xs ++ all_without_by ys
all_without_by-append [] ys = refl
all_without_by-append (x ∷ xs) ys = ap (λ l. record x { event = without_by x.event } ∷ l) (all_without_by-append xs ys)

all_without_by-reverse : (xs : List Stamped) → all_without_by (reverse xs) ≡ reverse (all_without_by xs)
all_without_by-reverse [] = refl
all_without_by-reverse (x ∷ xs) =
    let last : Stamped = record x { event = without_by x.event } in
    ap all_without_by (reverse-append (x ∷ []) xs)
    ∙ (all_without_by-append (reverse xs) (x ∷ [])
    ∙ (ap (λ l. l ++ last ∷ []) (all_without_by-reverse xs) ∙ sym (reverse-append (last ∷ []) (all_without_by xs))))

events-less : {C : Type 0} (t : Turned C) → all_without_by (events_of_run t) ≡ events_of_run (turned_less t)
events-less (GoesOn m c) = all_without_by-reverse m.host.events
events-less (Ended end m c) = all_without_by-reverse m.host.events
events-less (Stuck at m c) = all_without_by-reverse m.host.events

-- ---- how it ends

ended-by : {C : Type 0} (es : List Stamped) (t : Turned C) → EndsWith es t → HasEnded t
ended-by es (GoesOn m c) h = absurd h
ended-by es (Ended end m c) h = tt
ended-by es (Stuck at m c) h = absurd h

events-by : {C : Type 0} (es : List Stamped) (t : Turned C) → EndsWith es t → events_of_run t ≡ es
events-by es (GoesOn m c) h = absurd h
events-by es (Ended end m c) h = h
events-by es (Stuck at m c) h = absurd h

ended-less : {C : Type 0} (t : Turned C) → HasEnded t → HasEnded (turned_less t)
ended-less (GoesOn m c) h = absurd h
ended-less (Ended end m c) h = tt
ended-less (Stuck at m c) h = absurd h

less-ended : {C : Type 0} (t : Turned C) → HasEnded (turned_less t) → HasEnded t
less-ended (GoesOn m c) h = absurd h
less-ended (Ended end m c) h = tt
less-ended (Stuck at m c) h = absurd h

ends_with-own : {C D : Type 0} (d : D) (t : Turned C) → HasEnded t → EndsWith (events_of_run t) (with_left d t)
ends_with-own d (GoesOn m c) h = absurd h
ends_with-own d (Ended end m c) h = refl
ends_with-own d (Stuck at m c) h = absurd h

-- the events of a run that ended are legal
own-legal : (program : Program) (setup : Setup) (hosts : List HostClosure) (c : Choices) → HasEnded (run program setup hosts c) → IsLegal program setup hosts (events_of_run (run program setup hosts c))
unfolding run
own-legal program setup hosts c ended =
    let t = run_by choice_rules program setup hosts c in
    subst (EndsWith (events_of_run t)) (sym (run-again choice_rules program setup hosts c)) (ends_with-own no_choices t ended)

-- ---- the law

module _ (program : Program) (setup : Setup) (hosts : List HostClosure) (es : List Stamped) (legal : IsLegal program setup hosts es) where
  more-ended : HasEnded (run program (told_more setup) hosts (choices_in es))
  more-ended =
      let t = run program setup hosts (choices_in es) in
      less-ended (run program (told_more setup) hosts (choices_in es)) (subst HasEnded (sym (forms-same program setup hosts (choices_in es))) (ended-less t (ended-by es t legal)))

  -- in the first form the run is the same without what that form leaves out
  first-same : setup.trace ≡ 1 → run program setup hosts (choices_in es) ≡ turned_less (run program (told_more setup) hosts (choices_in es))
  first-same form = ap (λ n. run program (record setup { trace = n }) hosts (choices_in es)) form ∙ run-less program (told_more setup) hosts (choices_in es)

  pub migrates : Migrates program setup hosts es
  unfolding migrated
  migrates =
      let t = run program setup hosts (choices_in es) in
      let more = run program (told_more setup) hosts (choices_in es) in
      record {
        legal = own-legal program (told_more setup) hosts (choices_in es) more-ended;
        same = λ form. events-less more ∙ (ap (λ t. events_of_run t) (sym (first-same form)) ∙ events-by es t legal);
      }
