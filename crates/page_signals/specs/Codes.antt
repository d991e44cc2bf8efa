-- The code of the part's value, which its model asks for.
use Rattle.std.specs.Prelude.{◌≡◌, ℕ, zero, suc, Bool, List, Option, None, Some, refl}
use Rattle.std.specs.Coded.{Coded, code_by, coded_bool, coded_list, coded_option, coded×, coded⊎, coded_ℕ}
use mathlib.Core.Logic.{◌⊎◌, inl, inr}
use Rattle.page_types.specs.Values.{Value}
use Rattle.page_types.specs.ValueCode.{coded_value}
use Rattle.page_types.specs.declared.Priority.{Priority}
use Rattle.page_types.specs.contracts.Priority as priority_code
use Rattle.page_parts.specs.AbortGraph.{SignalRecord}
use Rattle.page_parts.specs.TaskSignals.{PrioRecord}
use Rattle.page_parts.specs.Listeners as parts
use Rattle.page_model.specs.Invoke.{WhenReported, BeforeCheckpoint, AfterCheckpoint, Never}
use Rattle.page_model.specs.Folds.{ChangePiece, ChangeOf, EndChange, Rest, AbortsLeft, ChangesLeft}
use Rattle.page_events.specs.declared.target.Target.{Target}
use Rattle.page_events.specs.contracts.Target as target_code
use Rattle.page_folds.specs.Steps.{Stage, Between, Algorithms, ToTell, ToFire, Calling, OpenFold}
use Rattle.page_folds.specs.OfModel.{Kind, OfDispatch, OfAbort, OfChange}
use Rattle.page_signals.specs.Signalling.{Open, Signalling}

abbrev coded_numbers : Coded (List ℕ)
coded_numbers = coded_list coded_ℕ

abbrev coded_priority : Coded Priority
coded_priority = priority_code.the_row.coded

-- ---- signals, priorities, listeners

abbrev coded_signal : Coded (SignalRecord Value)
coded_signal =
    code_by (Option Value × (List ℕ × (List ℕ × List ℕ)))
    (coded× (coded_option coded_value) (coded× coded_numbers (coded× coded_numbers coded_numbers)))
    (λ q. (q.reason, (q.sources, (q.dependents, q.algorithms))))
    (λ t. record { reason = t.0; sources = t.1.0; dependents = t.1.1.0; algorithms = t.1.1.1 })
    (λ _. refl)

abbrev coded_prio : Coded PrioRecord
coded_prio =
    code_by (ℕ × (Priority × (Option ℕ × (List ℕ × Bool))))
    (coded× coded_ℕ (coded× coded_priority (coded× (coded_option coded_ℕ) (coded× coded_numbers coded_bool))))
    (λ r. (r.signal, (r.priority, (r.follows, (r.followers, r.changing)))))
    (λ t. record { signal = t.0; priority = t.1.0; follows = t.1.1.0; followers = t.1.1.1.0; changing = t.1.1.1.1 })
    (λ _. refl)

-- a target by the number of its signal, 0 for the window
abbrev target_number : parts.Target → ℕ
target_number parts.Window = 0
target_number (parts.AtSignal s) = suc s

abbrev target_at : ℕ → parts.Target
target_at zero = parts.Window
target_at (suc s) = parts.AtSignal s

pub target_at-number : (target : parts.Target) → target_at (target_number target) ≡ target
target_at-number parts.Window = refl
target_at-number (parts.AtSignal s) = refl

abbrev coded_listener : Coded parts.Listener
coded_listener =
    code_by (ℕ × (parts.Target × List ℕ))
    (coded× coded_ℕ (coded× (code_by ℕ coded_ℕ target_number target_at target_at-number) coded_numbers))
    (λ l. (l.registration, (l.target, l.name)))
    (λ t. record { registration = t.0; target = t.1.0; name = t.1.1 })
    (λ _. refl)

-- ---- folds

-- a stage as one that has nothing or one signal, or what the others have
abbrev split_stage : Stage → Option ℕ ⊎ ((ℕ × List ℕ) ⊎ ((ℕ × Priority) ⊎ (Target × List ℕ)))
split_stage Between = inl None
split_stage (ToFire s) = inl (Some s)
split_stage (Algorithms s left) = inr (inl (s, left))
split_stage (ToTell s before) = inr (inr (inl (s, before)))
split_stage (Calling target left) = inr (inr (inr (target, left)))

abbrev joined_stage : Option ℕ ⊎ ((ℕ × List ℕ) ⊎ ((ℕ × Priority) ⊎ (Target × List ℕ))) → Stage
joined_stage (inl None) = Between
joined_stage (inl (Some s)) = ToFire s
joined_stage (inr (inl t)) = Algorithms t.0 t.1
joined_stage (inr (inr (inl t))) = ToTell t.0 t.1
joined_stage (inr (inr (inr t))) = Calling t.0 t.1

pub joined_stage-split : (stage : Stage) → joined_stage (split_stage stage) ≡ stage
joined_stage-split Between = refl
joined_stage-split (Algorithms s left) = refl
joined_stage-split (ToTell s before) = refl
joined_stage-split (ToFire s) = refl
joined_stage-split (Calling target left) = refl

abbrev coded_stage : Coded Stage
coded_stage =
    code_by (Option ℕ ⊎ ((ℕ × List ℕ) ⊎ ((ℕ × Priority) ⊎ (Target × List ℕ))))
    (coded⊎ (coded_option coded_ℕ) (coded⊎ (coded× coded_ℕ coded_numbers)
    (coded⊎ (coded× coded_ℕ coded_priority) (coded× target_code.the_row.coded coded_numbers))))
    split_stage joined_stage joined_stage-split

abbrev split_piece : ChangePiece → (ℕ × ℕ) ⊎ ℕ
split_piece (ChangeOf chain s) = inl (chain, s)
split_piece (EndChange s) = inr s

abbrev joined_piece : (ℕ × ℕ) ⊎ ℕ → ChangePiece
joined_piece (inl t) = ChangeOf t.0 t.1
joined_piece (inr s) = EndChange s

pub joined_piece-split : (piece : ChangePiece) → joined_piece (split_piece piece) ≡ piece
joined_piece-split (ChangeOf chain s) = refl
joined_piece-split (EndChange s) = refl

abbrev coded_piece : Coded ChangePiece
coded_piece = code_by ((ℕ × ℕ) ⊎ ℕ) (coded⊎ (coded× coded_ℕ coded_ℕ) coded_ℕ) split_piece joined_piece joined_piece-split

abbrev split_rest : Rest → List ℕ ⊎ (Priority × List ChangePiece)
split_rest (AbortsLeft ss) = inl ss
split_rest (ChangesLeft priority more) = inr (priority, more)

abbrev joined_rest : List ℕ ⊎ (Priority × List ChangePiece) → Rest
joined_rest (inl ss) = AbortsLeft ss
joined_rest (inr t) = ChangesLeft t.0 t.1

pub joined_rest-split : (rest : Rest) → joined_rest (split_rest rest) ≡ rest
joined_rest-split (AbortsLeft ss) = refl
joined_rest-split (ChangesLeft priority more) = refl

abbrev coded_rest : Coded Rest
coded_rest =
    code_by (List ℕ ⊎ (Priority × List ChangePiece)) (coded⊎ coded_numbers (coded× coded_priority (coded_list coded_piece)))
    split_rest joined_rest joined_rest-split

abbrev coded_fold : Coded OpenFold
coded_fold =
    code_by (Stage × Rest) (coded× coded_stage coded_rest)
    (λ fold. (fold.stage, fold.rest)) (λ t. record { stage = t.0; rest = t.1 }) (λ _. refl)

abbrev split_kind : Kind → List Value ⊎ (Value ⊎ Priority)
split_kind (OfDispatch args) = inl args
split_kind (OfAbort reason) = inr (inl reason)
split_kind (OfChange before) = inr (inr before)

abbrev joined_kind : List Value ⊎ (Value ⊎ Priority) → Kind
joined_kind (inl args) = OfDispatch args
joined_kind (inr (inl reason)) = OfAbort reason
joined_kind (inr (inr before)) = OfChange before

pub joined_kind-split : (kind : Kind) → joined_kind (split_kind kind) ≡ kind
joined_kind-split (OfDispatch args) = refl
joined_kind-split (OfAbort reason) = refl
joined_kind-split (OfChange before) = refl

abbrev coded_kind : Coded Kind
coded_kind =
    code_by (List Value ⊎ (Value ⊎ Priority)) (coded⊎ (coded_list coded_value) (coded⊎ coded_value coded_priority))
    split_kind joined_kind joined_kind-split

abbrev when_number : WhenReported → ℕ
when_number BeforeCheckpoint = 0
when_number AfterCheckpoint = 1
when_number Never = 2

abbrev when_at : ℕ → WhenReported
when_at zero = BeforeCheckpoint
when_at (suc zero) = AfterCheckpoint
when_at (suc (suc n)) = Never

pub when_at-number : (when : WhenReported) → when_at (when_number when) ≡ when
when_at-number BeforeCheckpoint = refl
when_at-number AfterCheckpoint = refl
when_at-number Never = refl

abbrev pub coded_open : Coded Open
coded_open =
    code_by (Kind × (WhenReported × OpenFold))
    (coded× coded_kind (coded× (code_by ℕ coded_ℕ when_number when_at when_at-number) coded_fold))
    (λ o. (o.kind, (o.when, o.fold))) (λ t. record { kind = t.0; when = t.1.0; fold = t.1.1 }) (λ _. refl)

-- ---- all

abbrev pub coded_signalling : Coded Signalling
coded_signalling =
    code_by (List (SignalRecord Value) × (List PrioRecord × (List parts.Listener × List Open)))
    (coded× (coded_list coded_signal) (coded× (coded_list coded_prio) (coded× (coded_list coded_listener) (coded_list coded_open))))
    (λ st. (st.signals, (st.prios, (st.listeners, st.folds))))
    (λ t. record { signals = t.0; prios = t.1.0; listeners = t.1.1.0; folds = t.1.1.1 })
    (λ _. refl)
