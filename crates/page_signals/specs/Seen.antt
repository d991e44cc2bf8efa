-- The types of the code as those of the definitions.
use Rattle.std.specs.Prelude.{◌≡◌, List, [], ◌∷◌, ◌++◌, map, reverse}
use Rattle.page_types.specs.Values.{Value}
use Rattle.page_values.specs.declared.Value as code_values
use Rattle.page_values.specs.Seen.{seen}
use Rattle.page_model.specs.Invoke as model
use Rattle.page_events.specs.declared.target.Target.{Target}
use Rattle.abort_graph.specs.ByValue.{by_value, value_in}
use Rattle.page_folds.specs.declared.folds.Folds.{Folds}
use Rattle.page_folds.specs.Steps.{Parts, OpenFold}
use Rattle.page_folds.specs.Seen.{open_of}
use Rattle.page_folds.specs.OfModel as kinds
use Rattle.page_signals.specs.declared.opened.WhenReported.{WhenReported}
use Rattle.page_signals.specs.declared.opened.WhenReported.TheVariants as when
use Rattle.page_signals.specs.declared.opened.Kind.{Kind}
use Rattle.page_signals.specs.declared.opened.Kind.TheVariants as kind
use Rattle.page_signals.specs.declared.opened.Open as code
use Rattle.page_signals.specs.declared.visit.Visit as code_visits
use Rattle.page_signals.specs.declared.visit.Visit.TheVariants as visit
use Rattle.page_signals.specs.Signalling.{Open, Signalling, with_parts}
use Rattle.page_signals.specs.Steps.{Visit, Algorithm, Listener, Changed, Finished, stepped}

abbrev pub when_seen : WhenReported → model.WhenReported
when_seen when.BeforeCheckpoint = model.BeforeCheckpoint
when_seen when.AfterCheckpoint = model.AfterCheckpoint
when_seen when.Never = model.Never

-- a kind, where these are the values that reasons are the numbers of
abbrev pub kind_seen : List Value → Kind → kinds.Kind
kind_seen values (kind.Dispatch args) = kinds.OfDispatch (map seen args.items)
kind_seen values (kind.Abort n) = kinds.OfAbort (value_in values n)
kind_seen values (kind.Change to before) = kinds.OfChange before

-- these are the arguments of listeners under a fold of this kind, whatever the reasons are
abbrev pub ArgumentsAre : List code_values.Value → Kind → Target → Type 0
ArgumentsAre args which target = (values : List Value) → map seen args ≡ kinds.arguments_of (kind_seen values which) target

-- the target is put behind the other arguments, where it is a signal
abbrev pub AddsTarget : (old new : List code_values.Value) → Target → Type 0
AddsTarget old new target = map seen new ≡ map seen old ++ kinds.target_value target

-- open folds, by their kinds and what is left of each
abbrev pub opens_of : List Value → List code.Open → List OpenFold → List Open
opens_of values [] folds = []
opens_of values (o ∷ os) [] = []
opens_of values (o ∷ os) (fold ∷ folds) =
    record { kind = kind_seen values o.kind; when = when_seen o.when; fold = fold } ∷ opens_of values os folds

-- the parts of folds, with the values that reasons are the numbers of
abbrev pub parts_seen : List Value → Folds → Parts Value
parts_seen values folds =
    record { listeners = folds.listeners; signals = by_value (value_in values) folds.signals; prios = folds.prios }

-- all of it: the kinds of the open folds stand with the innermost one last
abbrev pub signalling_seen : List code_values.Value → Folds → List code.Open → Signalling
signalling_seen reasons folds opened =
    let values = map seen reasons in with_parts (parts_seen values folds) (opens_of values (reverse opened) (open_of folds))

abbrev pub visit_seen : code_visits.Visit → Visit
visit_seen (visit.Algorithm r reason) = Algorithm r (seen reason)
visit_seen (visit.Listener r args) = Listener r (map seen args.items)
visit_seen (visit.Changed s before priority) = Changed s before priority
visit_seen visit.Finished = Finished

-- the innermost fold goes on by one step, from the folds and the opened ones of before to this and those of after
abbrev pub StepsTo : List code_values.Value → (old : Folds) → (old_opened : List code.Open) → code_visits.Visit
    → (new : Folds) → (new_opened : List code.Open) → Type 0
StepsTo reasons old old_opened next new new_opened =
    (visit_seen next, signalling_seen reasons new new_opened) ≡ stepped (signalling_seen reasons old old_opened)
