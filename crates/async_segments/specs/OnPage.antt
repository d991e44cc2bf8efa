-- The page as a host of promises.
use Rattle.std.specs.Prelude.{◌≡◌, ℕ, true, List, length, Some, slice_get}
use Rattle.page_types.specs.Values.{Value}
use Rattle.page_types.specs.Tree.{Program}
use Rattle.page_types.specs.declared.RegKind.TheVariants.{Listener as ListenerKind}
use Rattle.page_parts.specs.Words.{has_number}
use Rattle.lang_meaning.specs.Machine.{Machine}
use Rattle.lang_meaning.specs.Evaluation.{Function, functions_of, number_of, end_of_call, body_of_call}
use Rattle.lang_meaning.specs.HostSteps.{HostRules}
use Rattle.lang_ast.specs.NameFaults.{IsResolved}
use Rattle.page_model.specs.State.{OfKind}
use Rattle.page_model.specs.Folds.{ChangePiece, ChangeOf, EndChange, Rest, AbortsLeft, ChangesLeft, Fold}
use Rattle.page_model.specs.Numbers.{Each, Made, made_by, IsGiven, IsKnown, IsFor, AreGiven, VariablesAreKnown}
use Rattle.page_model.specs.Operations.{all_known}
use Rattle.page_model.specs.PageHost.{Hosting, page_rules, step_op, resume_innermost}
use Rattle.async_segments.specs.Names.{segment_name}
use Rattle.async_segments.specs.Expanded.{expanded}
use Rattle.async_segments.specs.Script.{IsExpansion}
use Rattle.async_segments.specs.Meaning.{AsyncFunction, async_functions, names_of_locals, Part, parts, segment}
use Rattle.async_segments.specs.Promising.{IsStateOf, called_with, begun, around_body}

-- the promise is one that `promise` made
abbrev pub IsMade : Hosting → ℕ → Type 0
IsMade h promise = has_number h.page.script_promises promise ≡ true

-- each promise, signal and controller in these values is one that the page has made
abbrev pub AreKnown : Hosting → List Value → Type 0
AreKnown h vs = all_known (length h.page.notices.promises) (length h.page.signals) vs ≡ true

-- The operations of a page by their table alone, also where an argument holds a number that was not given out.
abbrev pub table_rules : HostRules Hosting
table_rules = record {
  op = λ op args h. step_op h.folds op args h.page;
  resume = λ ticket end h. resume_innermost h.folds end h.page;
}

-- it takes any values
abbrev pub AreAny : Hosting → List Value → Type 0
AreAny h vs = Unit {0}

-- ---- each number was given out

-- a piece of a priority change that is left
abbrev pub PieceIsGiven : Made → ChangePiece → Type 0
PieceIsGiven n (ChangeOf chain s) = IsGiven n.signals s
PieceIsGiven n (EndChange s) = Unit {0}

-- what comes after the listeners of a fold
abbrev pub RestIsGiven : Made → Rest → Type 0
RestIsGiven n (AbortsLeft ss) = Each (IsGiven n.signals) ss
RestIsGiven n (ChangesLeft priority pieces) = Each (PieceIsGiven n) pieces

-- a fold: the arguments of its listeners, those that are left, and what comes then
abbrev pub FoldIsGiven : Made → Fold → Type 0
FoldIsGiven n fold = Each (IsKnown n) fold.args × Each (IsFor (OfKind ListenerKind) n) fold.listeners × RestIsGiven n fold.rest

-- a state: its page, its open folds, and its variables
pub record AllAreGiven (m : Machine Hosting) : Type 0 where
  pub page : AreGiven m.host.page
  pub folds : Each (FoldIsGiven (made_by m.host.page)) m.host.folds
  pub globals : VariablesAreKnown (made_by m.host.page) m.globals
  pub open_calls : Each (VariablesAreKnown (made_by m.host.page)) m.open_calls

-- The function that a segment became does what the segment does around a page, from any state of the program with such numbers,
-- for a promise that `promise` made and with values that are known.
abbrev pub MeansItsSegmentOnPage : Program → AsyncFunction → ℕ → Part → Type 0
MeansItsSegmentOnPage program f k part =
    (depth number : ℕ) (g : Function) (promise : ℕ) (vs : List Value) (awaited : Value) (m : Machine Hosting) →
    number_of (functions_of program.items) (segment_name f.name k) ≡ Some number →
    slice_get (functions_of program.items) number ≡ Some g → length vs ≡ length (names_of_locals f) → IsStateOf program m →
    IsMade m.host promise → AllAreGiven m → Each (IsKnown (made_by m.host.page)) vs → IsKnown (made_by m.host.page) awaited →
    (let w = around_body page_rules program depth in
    let args = called_with part.stored promise vs awaited in
    body_of_call w (Some g) args m ≡ end_of_call (segment w f k part promise awaited (begun g args m)))

-- so do all functions that the segments of a script became
abbrev pub MeansItsSegmentsOnPage : Type 0
MeansItsSegmentsOnPage =
    (bytes written : List ℕ) (e : IsExpansion bytes written) (names : List (List ℕ)) → IsResolved (expanded e.items) →
    (i k : ℕ) (f : AsyncFunction) (part : Part) → slice_get (async_functions e.items) i ≡ Some f →
    slice_get (parts f) k ≡ Some part →
    MeansItsSegmentOnPage (record { items = expanded e.items; names = names }) f k part
