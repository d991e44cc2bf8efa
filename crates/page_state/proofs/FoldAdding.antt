-- What is left of an open fold only adds lines.
use Rattle.std.proofs.Common.{◌≡◌, ℕ, List, [], ◌∷◌, refl, ap, ◌∙◌}
use Rattle.std.specs.Prelude.{codes}
use Rattle.page_types.specs.Values.{Value}
use Rattle.page_types.specs.Events.{Stamped}
use Rattle.page_parts.specs.Listeners.{AtSignal, snapshot}
use Rattle.page_model.specs.State.{Page}
use Rattle.page_model.specs.PageSignals.{abort_registrations}
use Rattle.page_model.specs.Additions.{after}
use Rattle.page_model.specs.Folds.{Rest, AbortsLeft, ChangesLeft, fire, rest_from}
use Rattle.page_model.proofs.Adding.Lines.{abort_registrations-adds}
use Rattle.page_events.specs.declared.target.Target.TheVariants.{Signal}
use Rattle.page_folds.specs.Steps.{Stage, Between, Algorithms, ToTell, ToFire, Calling}
use Rattle.page_folds.specs.OfModel.{Kind, OfChange, arguments_of, reason_in, told, stage_meaning}
use Rattle.page_rules.specs.FoldActs.{reached_after}
use Rattle.page_rules.proofs.AddingFolds.{next_listener-adds, rest_from-adds}
use Rattle.page_signals.specs.Signalling.{Open}
use Rattle.page_signals.specs.Laws.{innermost_meaning}

module _ (es : List Stamped) where
  fired-adds : (s : ℕ) (name : List ℕ) (args : List Value) (rest : Rest) (p : Page) → fire s name args rest (rest_from rest) (after es p) ≡ reached_after es (fire s name args rest (rest_from rest) p)
  fired-adds s name args rest p = next_listener-adds es args (snapshot (AtSignal s) name p.listeners) rest (rest_from rest) (rest_from-adds es rest) p

  told-adds : (s : ℕ) (rest : Rest) (p : Page) → told s rest (after es p) ≡ after es (told s rest p)
  told-adds s (AbortsLeft ss) p = refl
  told-adds s (ChangesLeft priority more) p = refl

  stage-adds : (kind : Kind) (stage : Stage) (rest : Rest) (p : Page) → stage_meaning kind stage rest (after es p) ≡ reached_after es (stage_meaning kind stage rest p)
  stage-adds kind Between rest p = rest_from-adds es rest p
  stage-adds kind (Algorithms s left) rest p =
      ap (fire s (codes "abort") (arguments_of kind (Signal s)) rest (rest_from rest)) (abort_registrations-adds es (reason_in kind) left p)
      ∙ fired-adds s (codes "abort") (arguments_of kind (Signal s)) rest (abort_registrations (reason_in kind) left p)
  stage-adds kind (ToTell s before) rest p =
      ap (fire s (codes "prioritychange") (arguments_of (OfChange before) (Signal s)) rest (rest_from rest)) (told-adds s rest p)
      ∙ fired-adds s (codes "prioritychange") (arguments_of (OfChange before) (Signal s)) rest (told s rest p)
  stage-adds kind (ToFire s) rest p = fired-adds s (codes "prioritychange") (arguments_of kind (Signal s)) rest p
  stage-adds kind (Calling target left) rest p = next_listener-adds es (arguments_of kind target) left rest (rest_from rest) (rest_from-adds es rest) p

  pub innermost-adds : (os : List Open) (p : Page) → innermost_meaning os (after es p) ≡ reached_after es (innermost_meaning os p)
  innermost-adds [] p = refl
  innermost-adds (o ∷ os) p = stage-adds o.kind o.fold.stage o.fold.rest p
