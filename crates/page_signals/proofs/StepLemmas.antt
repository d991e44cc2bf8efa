-- What the part keeps where a fold goes on.
use Rattle.std.proofs.Common.{◌≡◌, ℕ, ◌-◌, ◌^◌, ◌<◌, List, [], ◌∷◌, Option, Some, None, ap, sym, subst, ◌∙◌, arith}
use Rattle.std.specs.Prelude.{codes, ⊤}
use Rattle.page_types.specs.Values.{Value}
use Rattle.page_types.specs.declared.Priority.{Priority}
use Rattle.page_parts.specs.AbortGraph.{the_signal}
use Rattle.page_parts.specs.TaskSignals.{Prios, followers, begun, ended}
use Rattle.page_parts.specs.Listeners.{Listener, AtSignal, snapshot}
use Rattle.page_model.specs.Folds.{ChangePiece, ChangeOf, EndChange, Rest, AbortsLeft, ChangesLeft}
use Rattle.page_model.specs.FoldBounds.{AllHaveRecords, CanChange}
use Rattle.abort_graph.specs.ByValue.{AreAmong, value_in}
use Rattle.abort_graph.proofs.AmongLemmas.{algorithms_among}
use Rattle.page_events.specs.Dispatching.{next_listening, behind_next}
use Rattle.page_events.specs.declared.target.Target.{Target}
use Rattle.page_events.specs.declared.target.Target.TheVariants.{Signal}
use Rattle.page_folds.specs.declared.step.FoldStep.{FoldStep}
use Rattle.page_folds.specs.declared.step.FoldStep.TheVariants as step
use Rattle.page_folds.specs.Steps.{Parts, Stage, Between, Algorithms, ToTell, ToFire, Calling, OpenFold, Came, Ends, Gives, Standing, listener_next, stage_next, or_then, aborts_from, before_change, change_from, changes_from, change_begun, change_ended, algorithms_taken, rest_from, goes_on, after, stepped as folds_stepped, stepped_in as stepped_with}
use Rattle.page_folds.specs.OfModel.{OfChange, arguments_of, reason_in, parts_by, came_by}
use Rattle.page_folds.proofs.NumberLemmas.{fold-by}
use Rattle.page_signals.specs.Registrations.{AreRegistrations}
use Rattle.page_signals.specs.declared.opened.Kind.{Kind}
use Rattle.page_signals.specs.declared.opened.Kind.TheVariants.{Dispatch, Abort, Change}
use Rattle.page_signals.specs.declared.opened.Open as code
use Rattle.page_signals.specs.Kinds.{to_priority}
use Rattle.page_signals.specs.Signalling.{Open, Signalling, with_parts}
use Rattle.page_signals.specs.Steps.{Visit, Algorithm, Listener as ListenerVisit, Changed, Finished, priority_to, came_after, stepped}
use Rattle.page_signals.specs.Seen.{when_seen, kind_seen, opens_of}
use Rattle.page_signals.specs.Kept.{FollowersHave, HaveReason, RestFits, StageFits, AreOpen, IsKept}
use Rattle.page_signals.proofs.GraphLemmas.{Later, AreWell, own-registrations, later-algorithms, well-algorithms, have-later}
use Rattle.page_signals.proofs.PrioLemmas.{StillHas, still-begun, followers-begun, still-ended, followers-ended, can-still, can-follow}
use Rattle.page_signals.proofs.KeptLemmas.{open-after}

-- the kind of the code after a step
abbrev pub kind_then : Kind → FoldStep → Kind
kind_then kind (step.Algorithm a) = kind
kind_then kind (step.Listener target r) = kind
kind_then kind (step.Changed s before) = Change (to_priority kind before) before
kind_then kind step.Finished = kind

-- a step that is given: an algorithm is a registration
abbrev StepFits : FoldStep → Type 0
StepFits (step.Algorithm a) = a < 2 ^ 32
StepFits (step.Listener target r) = ⊤
StepFits (step.Changed s before) = ⊤
StepFits step.Finished = ⊥

-- ---- a stage

-- what fits the kind before the step fits it then
abbrev RestStays : Kind → FoldStep → Type 0
RestStays kind s = (n : ℕ) (ps : Parts ℕ) (rest : Rest) → RestFits n ps kind rest → RestFits n ps (kind_then kind s) rest

-- a step and the stage after it fit
abbrev GivenFits : Kind → FoldStep → Stage → Type 0
GivenFits kind s stage = StepFits s × StageFits (kind_then kind s) stage × RestStays kind s

abbrev NextFits : Kind → Option (FoldStep × Stage) → Type 0
NextFits kind None = ⊤
NextFits kind (Some a) = GivenFits kind a.0 a.1

calling-fits : (kind : Kind) (target : Target) (left : List ℕ) → StageFits kind (Calling target left)
calling-fits (Dispatch args) target left = tt
calling-fits (Abort r) target left = tt
calling-fits (Change to before) target left = tt

listener-fits : (kind : Kind) (ls : List Listener) (target : Target) (left : List ℕ) → NextFits kind (listener_next ls target left)
listener-fits kind ls target left = by (next_listening ls left)
  where
    by : (o : Option ℕ) → NextFits kind (elim o [ None ↦ None | Some r ↦ Some (step.Listener target r, Calling target (behind_next ls left)) ])
    by None = tt
    by (Some r) = (tt, calling-fits kind target (behind_next ls left), λ n ps rest h. h)

algorithms-fit : (kind : Kind) (s : ℕ) (left : List ℕ) → StageFits kind (Algorithms s left) → AreRegistrations left
algorithms-fit (Dispatch args) s left fits = fits
algorithms-fit (Abort r) s left fits = fits
algorithms-fit (Change to before) s left fits = fits

fit-algorithms : (kind : Kind) (s : ℕ) (left : List ℕ) → AreRegistrations left → StageFits kind (Algorithms s left)
fit-algorithms (Dispatch args) s left fits = fits
fit-algorithms (Abort r) s left fits = fits
fit-algorithms (Change to before) s left fits = fits

told-stays : (to own before : Priority) (n : ℕ) (ps : Parts ℕ) (rest : Rest) → RestFits n ps (Change to own) rest → RestFits n ps (Change to before) rest
told-stays to own before n ps (AbortsLeft left) fits = absurd fits
told-stays to own before n ps (ChangesLeft priority more) fits = fits

stage-fits : (kind : Kind) (ls : List Listener) (stage : Stage) → StageFits kind stage → NextFits kind (stage_next ls stage)
stage-fits kind ls Between fits = tt
stage-fits kind ls (Algorithms s []) fits = listener-fits kind ls (Signal s) (snapshot (AtSignal s) (codes "abort") ls)
stage-fits kind ls (Algorithms s (a ∷ left)) fits =
    let own = algorithms-fit kind s (a ∷ left) fits in (own.0, fit-algorithms kind s left own.1, λ n ps rest h. h)
stage-fits (Dispatch args) ls (ToTell s before) fits = absurd fits
stage-fits (Abort r) ls (ToTell s before) fits = absurd fits
stage-fits (Change to own) ls (ToTell s before) fits = (tt, tt, told-stays to own before)
stage-fits kind ls (ToFire s) fits = listener-fits kind ls (Signal s) (snapshot (AtSignal s) (codes "prioritychange") ls)
stage-fits kind ls (Calling target left) fits = listener-fits kind ls target left

-- ---- what is left

-- parts after a part of a step
pub record Moved (n : ℕ) (old new : Parts ℕ) : Type 0 where
  pub among : AreAmong n new.signals
  pub well : AreWell new.signals
  pub followers : FollowersHave new.prios
  pub later : Later old.signals new.signals
  pub still : StillHas old.prios new.prios

moved-taken : (n : ℕ) (old ps : Parts ℕ) (s : ℕ) → Moved n old ps → Moved n old (algorithms_taken s ps)
moved-taken n old ps s moved =
    record {
      among = algorithms_among n ps.signals s [] moved.among;
      well = well-algorithms ps.signals s [] tt moved.well;
      followers = moved.followers;
      later = λ t r h. later-algorithms ps.signals s [] t r (moved.later t r h);
      still = moved.still;
    }

moved-begun : (n : ℕ) (old ps : Parts ℕ) (s : ℕ) (priority : Priority) → Moved n old ps → Moved n old (change_begun s priority ps)
moved-begun n old ps s priority moved =
    record {
      among = moved.among;
      well = moved.well;
      followers = followers-begun s priority ps.prios moved.followers;
      later = moved.later;
      still = λ t h. still-begun s priority ps.prios t (moved.still t h);
    }

moved-ended : (n : ℕ) (old ps : Parts ℕ) (s : ℕ) → Moved n old ps → Moved n old (change_ended s ps)
moved-ended n old ps s moved =
    record {
      among = moved.among;
      well = moved.well;
      followers = followers-ended s ps.prios moved.followers;
      later = moved.later;
      still = λ t h. still-ended s ps.prios t (moved.still t h);
    }

-- what a fold of a kind comes to fits it
abbrev pub CameFits : ℕ → Kind → Parts ℕ → Came ℕ → Type 0
CameFits n kind old (Ends qs) = Moved n old qs
CameFits n kind old (Gives s fold qs) =
    StepFits s × StageFits (kind_then kind s) fold.stage × RestFits n qs (kind_then kind s) fold.rest × Moved n old qs

or-fits : (n : ℕ) (kind : Kind) (old : Parts ℕ) (o : Option (FoldStep × Stage)) (rest : Rest) (next : Parts ℕ → Came ℕ) (ps : Parts ℕ) → NextFits kind o
    → RestFits n ps kind rest → Moved n old ps → CameFits n kind old (next ps) → CameFits n kind old (or_then o rest next ps)
or-fits n kind old None rest next ps here fits moved later = later
or-fits n kind old (Some a) rest next ps here fits moved later = (here.0, here.1, here.2 n ps rest fits, moved)

aborts-fit : (n r : ℕ) (old : Parts ℕ) (left : List ℕ) (ps : Parts ℕ) → r < n → HaveReason r ps.signals left → Moved n old ps
    → CameFits n (Abort r) old (aborts_from left ps)
aborts-fit n r old [] ps less have moved = moved
aborts-fit n r old (s ∷ left) ps less have moved =
    let own = Algorithms s (the_signal ps.signals s).algorithms in
    let taken = algorithms_taken s ps in
    let have_then = have-later r ps.signals taken.signals left (later-algorithms ps.signals s []) have.1 in
    let moved_then = moved-taken n old ps s moved in
    or-fits n (Abort r) old (stage_next ps.listeners own) (AbortsLeft left) (aborts_from left) taken
    (stage-fits (Abort r) ps.listeners own (own-registrations ps.signals s moved.well)) (less, have_then) moved_then
    (aborts-fit n r old left taken less have_then moved_then)

all-then : (old new : Prios) (ss : List ℕ) → StillHas old new → AllHaveRecords old ss → AllHaveRecords new ss
all-then old new [] still have = tt
all-then old new (s ∷ ss) still have = (still s have.0, all-then old new ss still have.1)

change-fits : (n : ℕ) (to own : Priority) (old : Parts ℕ) (o : Option Priority) (priority : Priority) (chain s : ℕ) (more : List ChangePiece) (ps : Parts ℕ)
    → to ≡ priority → CanChange ps.prios more → Moved n old ps → CameFits n (Change to own) old (changes_from priority more ps)
    → CameFits n (Change to own) old (change_from o priority chain s more (changes_from priority more) ps)
change-fits n to own old None priority chain s more ps same can moved later = later
change-fits n to own old (Some before) priority chain s more ps same can moved later =
    let new = begun s priority ps.prios in
    let still = still-begun s priority ps.prios in (
      tt,
      tt,
      (
        same,
        can-follow new (chain - 1) (followers ps.prios s) (EndChange s ∷ more) (all-then ps.prios new (followers ps.prios s) still (moved.followers s))
            (can-still ps.prios new more still can),
      ),
      moved-begun n old ps s priority moved,
    )

changes-fit : (n : ℕ) (to own : Priority) (old : Parts ℕ) (priority : Priority) (more : List ChangePiece) (ps : Parts ℕ) → to ≡ priority
    → CanChange ps.prios more → Moved n old ps → CameFits n (Change to own) old (changes_from priority more ps)
changes-fit n to own old priority [] ps same can moved = moved
changes-fit n to own old priority (ChangeOf chain s ∷ more) ps same can moved =
    change-fits n to own old (before_change chain ps.prios s priority) priority chain s more ps same can.1 moved
    (changes-fit n to own old priority more ps same can.1 moved)
changes-fit n to own old priority (EndChange s ∷ more) ps same can moved =
    changes-fit n to own old priority more (change_ended s ps) same (can-still ps.prios (ended s ps.prios) more (still-ended s ps.prios) can)
    (moved-ended n old ps s moved)

rest-fits : (n : ℕ) (kind : Kind) (rest : Rest) (ps : Parts ℕ) → RestFits n ps kind rest → Moved n ps ps → CameFits n kind ps (rest_from rest ps)
rest-fits n (Dispatch args) (AbortsLeft []) ps fits moved = moved
rest-fits n (Dispatch args) (AbortsLeft (s ∷ left)) ps fits moved = absurd fits
rest-fits n (Dispatch args) (ChangesLeft priority more) ps fits moved = absurd fits
rest-fits n (Abort r) (AbortsLeft left) ps fits moved = aborts-fit n r ps left ps fits.0 fits.1 moved
rest-fits n (Abort r) (ChangesLeft priority more) ps fits moved = absurd fits
rest-fits n (Change to own) (AbortsLeft left) ps fits moved = absurd fits
rest-fits n (Change to own) (ChangesLeft priority more) ps fits moved = changes-fit n to own ps priority more ps fits.0 fits.1 moved

pub fold-fits : (n : ℕ) (kind : Kind) (fold : OpenFold) (ps : Parts ℕ) → RestFits n ps kind fold.rest → StageFits kind fold.stage → Moved n ps ps
    → CameFits n kind ps (goes_on fold ps)
fold-fits n kind fold ps rest stage moved =
    or-fits n kind ps (stage_next ps.listeners fold.stage) fold.rest (rest_from fold.rest) ps (stage-fits kind ps.listeners fold.stage stage) rest moved
    (rest-fits n kind fold.rest ps rest moved)

-- ---- all folds

-- the open folds after a step
abbrev pub opened_then : code.Open → FoldStep → List code.Open → List code.Open
opened_then o step.Finished os = os
opened_then o (step.Algorithm a) os = o ∷ os
opened_then o (step.Listener target r) os = o ∷ os
opened_then o (step.Changed s before) os = record o { kind = Change (to_priority o.kind before) before } ∷ os

-- what is done next
abbrev pub visit_then : List Value → Kind → FoldStep → Visit
visit_then values kind (step.Algorithm a) = Algorithm a (reason_in (kind_seen values kind))
visit_then values kind (step.Listener target r) = ListenerVisit r (arguments_of (kind_seen values kind) target)
visit_then values kind (step.Changed s before) = Changed s before (to_priority kind before)
visit_then values kind step.Finished = Finished

-- an algorithm that is run is a registration
abbrev pub IsRegistration : FoldStep → Type 0
IsRegistration (step.Algorithm a) = a < 2 ^ 32
IsRegistration (step.Listener target r) = ⊤
IsRegistration (step.Changed s before) = ⊤
IsRegistration step.Finished = ⊤

-- what these folds are seen as
abbrev pub seen_by : List Value → List code.Open → Standing ℕ → Signalling
seen_by values os st = with_parts (parts_by (value_in values) st.parts) (opens_of values os st.folds)

pub record StepKept (n : ℕ) (values : List Value) (o : code.Open) (os : List code.Open) (before : Signalling) (a : FoldStep × Standing ℕ) : Type 0 where
  pub registration : IsRegistration a.0
  pub kept : IsKept n a.1 (opened_then o a.0 os)
  pub seen : stepped before ≡ (visit_then values o.kind a.0, seen_by values (opened_then o a.0 os) a.1)

told-to : (n : ℕ) (qs : Parts ℕ) (to before : Priority) (rest : Rest) → RestFits n qs (Change to before) rest → priority_to before rest ≡ to
told-to n qs to before (AbortsLeft left) fits = absurd fits
told-to n qs to before (ChangesLeft priority more) fits = sym fits.0

module _ (n : ℕ) (values : List Value) (o : code.Open) (os : List code.Open) (ps : Parts ℕ) (around : List OpenFold) (fit : AreOpen n ps os around) where
  -- the fold that goes on, as it is seen
  abbrev opened_seen : OpenFold → Open
  opened_seen fold = record { kind = kind_seen values o.kind; when = when_seen o.when; fold = fold }

  still-open : (qs : Parts ℕ) → Moved n ps qs → AreOpen n qs os around
  still-open qs moved = open-after n n ps qs (record { more = omega arith; later = moved.later; still = moved.still }) os around fit

  still-kept : (qs : Parts ℕ) (folds : List OpenFold) (opened : List code.Open) → Moved n ps qs → AreOpen n qs opened folds
      → IsKept n (record { parts = qs; folds = folds }) opened
  still-kept qs folds opened moved fits =
      record { among = moved.among; sound = moved.well; followers = moved.followers; folds = fits }

  came-kept : (fold : OpenFold) (came : Came ℕ) (before : Signalling) → CameFits n o.kind ps came
      → stepped before ≡ came_after (opened_seen fold) (opens_of values os around) (came_by (value_in values) came)
      → StepKept n values o os before (after came around)
  came-kept fold (Ends qs) before fits same = record { registration = tt; kept = still-kept qs around os fits (still-open qs fits); seen = same }
  came-kept fold (Gives (step.Algorithm a) new qs) before fits same =
      record {
        registration = fits.0;
        kept = still-kept qs (new ∷ around) (o ∷ os) fits.3 (fits.2, fits.1, still-open qs fits.3);
        seen = same;
      }
  came-kept fold (Gives (step.Listener target r) new qs) before fits same =
      record { registration = tt; kept = still-kept qs (new ∷ around) (o ∷ os) fits.3 (fits.2, fits.1, still-open qs fits.3); seen = same }
  came-kept fold (Gives (step.Changed s own) new qs) before fits same =
      let to = to_priority o.kind own in
      let then : code.Open = record o { kind = Change to own } in
      let after_it : Signalling = with_parts (parts_by (value_in values) qs) (record { kind = OfChange own; when = when_seen o.when; fold = new } ∷ opens_of values os around) in
      record {
        registration = tt;
        kept = still-kept qs (new ∷ around) (then ∷ os) fits.3 (fits.2, fits.1, still-open qs fits.3);
        seen = same ∙ ap (λ (q : Priority). (Changed s own q, after_it)) (told-to n qs to own new.rest fits.2);
      }
  came-kept fold (Gives step.Finished new qs) before fits same = absurd fits.0

step-in : (n : ℕ) (values : List Value) (o : code.Open) (os : List code.Open) (ps : Parts ℕ) (folds : List OpenFold)
    → IsKept n (record { parts = ps; folds = folds }) (o ∷ os)
    → StepKept n values o os (seen_by values (o ∷ os) (record { parts = ps; folds = folds })) (stepped_with folds ps)
step-in n values o os ps [] kept = absurd kept.folds
step-in n values o os ps (fold ∷ around) kept =
    let moved : Moved n ps ps = record { among = kept.among; well = kept.sound; followers = kept.followers; later = λ s r h. h; still = λ s h. h } in
    let now : Open = record { kind = kind_seen values o.kind; when = when_seen o.when; fold = fold } in
    came-kept n values o os ps around kept.folds.2 fold (goes_on fold ps) (seen_by values (o ∷ os) (record { parts = ps; folds = fold ∷ around }))
    (fold-fits n o.kind fold ps kept.folds.0 kept.folds.1 moved)
    (ap (came_after now (opens_of values os around)) (fold-by (value_in values) fold ps))

-- the innermost fold goes on, as it is seen
pub step-kept : (n : ℕ) (values : List Value) (o : code.Open) (os : List code.Open) (st : Standing ℕ) (a : FoldStep × Standing ℕ) → a ≡ folds_stepped st
    → IsKept n st (o ∷ os) → StepKept n values o os (seen_by values (o ∷ os) st) a
step-kept n values o os st a e kept =
    let P : FoldStep × Standing ℕ → Type 0 = StepKept n values o os (seen_by values (o ∷ os) st) in
    subst P (sym e) (step-in n values o os st.parts st.folds kept)
