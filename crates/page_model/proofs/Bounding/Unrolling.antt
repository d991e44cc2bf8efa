-- Dispatch, abort and priority change are their first callback and the fold from there.
use Rattle.std.proofs.Common.{◌≡◌, ℕ, zero, suc, Bool, true, false, List, [], ◌∷◌, Option, Some, None, refl, sym, ◌∙◌, cond, ◌||◌}
use Rattle.std.specs.Prelude.{codes}
use Rattle.page_types.specs.Values.{Value, SignalValue}
use Rattle.page_types.specs.Events.{Ret}
use Rattle.page_types.specs.declared.Priority.{Priority}
use Rattle.lang_meaning.specs.Machine.{Done, Gives, Throws, Returns, OutOfFuel, Caller, afterwards, finish, branch}
use Rattle.page_parts.specs.Kinds.{Func}
use Rattle.page_parts.specs.AbortGraph.{marked}
use Rattle.page_parts.specs.TaskSignals.{is_changing, followers, priority_of}
use Rattle.page_parts.specs.Listeners.{Target, AtSignal, snapshot, is_listening}
use Rattle.page_model.specs.State.{Page, State, on_page, the_registration}
use Rattle.page_model.specs.Invoke.{WhenReported, when_reported, end_of_callback, call_back, invoke, in_script, call_begun, call_ended}
use Rattle.page_model.specs.PageSignals.{each_in_turn, call_listener, dispatch, abort_steps, abort, reason_set, run_algorithms, change, change_through, change_begun, change_ended, has_priority, priority_value}
use Rattle.page_model.specs.Folds.{ChangePiece, ChangeOf, EndChange, Rest, AbortsLeft, ChangesLeft, Fold, Reached, Finished, Calls, begin_listener, next_listener, fire, aborts_from, changes_of, each_change, change_from, changes_from, rest_from, go_on, begin_dispatch, begin_abort, begin_change}
use Rattle.page_model.specs.NestedFolds.{nested_changes, nested_rest, nested_fold, nested_reached}

-- ---- what comes afterwards

afterwards-same : (d : Done Page) (f g : State → Done Page) → ((m : State) → f m ≡ g m) → afterwards d f ≡ afterwards d g
afterwards-same (Gives v m) f g k = k m
afterwards-same (Throws v m) f g k = k m
afterwards-same (Returns v m) f g k = k m
afterwards-same (OutOfFuel m) f g k = refl

afterwards-twice : (d : Done Page) (f g : State → Done Page) → afterwards (afterwards d f) g ≡ afterwards d (λ m. afterwards (f m) g)
afterwards-twice (Gives v m) f g = refl
afterwards-twice (Throws v m) f g = refl
afterwards-twice (Returns v m) f g = refl
afterwards-twice (OutOfFuel m) f g = refl

module _ (call : Caller Page) where
  -- where next does what the nested rest does
  abbrev pub Unrolls : (State → Done Page) → (Page → Reached) → Type 0
  Unrolls nested next = (m : State) → nested m ≡ nested_reached call (next m.host) m

  -- what was reached does not depend on the page before
  reached-page : (r : Reached) (m : State) (p : Page) → nested_reached call r (record m { host = p }) ≡ nested_reached call r m
  reached-page (Finished q) m p = refl
  reached-page (Calls f fold q) m p = refl

  module _ (args : List Value) (rest : Rest) (next : Page → Reached) (k : (m : State) → nested_rest call rest m ≡ nested_reached call (next m.host) m) where
    abbrev then : List ℕ → State → Done Page
    then rs m = afterwards (each_in_turn rs (call_listener (in_script call) args) m) (nested_rest call rest)

    one-unrolls : (r : ℕ) (rs : List ℕ) → Unrolls (then rs) (next_listener args rs rest next) → Unrolls (then (r ∷ rs)) (next_listener args (r ∷ rs) rest next)
    one-unrolls r rs again m =
        afterwards-twice (call_listener (in_script call) args r m) (each_in_turn rs (call_listener (in_script call) args)) (nested_rest call rest)
        ∙ by_place (is_listening r m.host.listeners)
      where
        begun : State
        begun = on_page (call_begun r) m

        by_callback : (f : Option Func) (when : WhenReported) → afterwards (end_of_callback finish when (call_back call f args begun)) (then rs)
            ≡ nested_reached call (begin_listener f when args rs rest (next_listener args rs rest next) begun.host) m
        by_callback None when = again (on_page (call_ended Ret) begun) ∙ reached-page (next_listener args rs rest next (call_ended Ret begun.host)) m (call_ended Ret begun.host)
        by_callback (Some f) when = refl

        by_place : (b : Bool) → afterwards (branch b m (invoke (in_script call) r false args) finish) (then rs)
            ≡ nested_reached call (cond b (begin_listener (the_registration m.host r).callback (when_reported (the_registration m.host r).role) args rs rest (next_listener args rs rest next) begun.host) (next_listener args rs rest next m.host)) m
        by_place false = again m
        by_place true = by_callback (the_registration m.host r).callback (when_reported (the_registration m.host r).role)

    listeners-unroll : (rs : List ℕ) → Unrolls (then rs) (next_listener args rs rest next)
    listeners-unroll [] m = k m
    listeners-unroll (r ∷ rs) m = one-unrolls r rs (listeners-unroll rs) m

  -- ---- abort

  aborts-unroll : (ss : List ℕ) → Unrolls (each_in_turn ss (abort_steps (in_script call))) (aborts_from ss)
  aborts-unroll [] m = refl
  aborts-unroll (s ∷ ss) m =
      let begun = on_page (run_algorithms s) m in
      listeners-unroll (SignalValue s ∷ []) (AbortsLeft ss) (aborts_from ss) (aborts-unroll ss) (snapshot (AtSignal s) (codes "abort") begun.host.listeners) begun
      ∙ reached-page (aborts_from (s ∷ ss) m.host) m (run_algorithms s m.host)

  -- ---- priority change

  module _ (priority : Priority) where
    abbrev Changes : (ℕ → State → Done Page) → (ℕ → List ChangePiece → (Page → Reached) → Page → Reached) → Type 0
    Changes change one = (s : ℕ) (more : List ChangePiece) (next : Page → Reached) → Unrolls (nested_changes call priority more) next
        → Unrolls (λ m. afterwards (change s m) (nested_changes call priority more)) (one s more next)

    each-unrolls : (n : ℕ) (one : ℕ → List ChangePiece → (Page → Reached) → Page → Reached) → Changes (change (in_script call) priority n) one
        → (ss : List ℕ) (more : List ChangePiece) (next : Page → Reached) → Unrolls (nested_changes call priority more) next
        → Unrolls (nested_changes call priority (changes_of n ss more)) (each_change one n ss more next)
    each-unrolls n one c [] more next k m = k m
    each-unrolls n one c (s ∷ ss) more next k m =
        c s (changes_of n ss more) (each_change one n ss more next) (each-unrolls n one c ss more next k) m

    -- the changes of several signals, one after another
    each-nests : (n : ℕ) (ss : List ℕ) (more : List ChangePiece) (m : State)
        → afterwards (each_in_turn ss (change (in_script call) priority n) m) (nested_changes call priority more) ≡ nested_changes call priority (changes_of n ss more) m
    each-nests n [] more m = refl
    each-nests n (s ∷ ss) more m =
        afterwards-twice (change (in_script call) priority n s m) (each_in_turn ss (change (in_script call) priority n)) (nested_changes call priority more)
        ∙ afterwards-same (change (in_script call) priority n s m) _ _ (each-nests n ss more)

    module _ (n : ℕ) (c : Changes (change (in_script call) priority n) (change_from priority n)) (s : ℕ) (more : List ChangePiece) (next : Page → Reached) (k : Unrolls (nested_changes call priority more) next) (m : State) where
      abbrev begun : State
      begun = on_page (change_begun s priority) m

      abbrev pieces : List ChangePiece
      pieces = changes_of n (followers m.host.prios s) (EndChange s ∷ more)

      abbrev then_pieces : Page → Reached
      then_pieces = each_change (change_from priority n) n (followers m.host.prios s) (EndChange s ∷ more) (λ q. next (change_ended s q))

      abbrev ending : State → Done Page
      ending m' = afterwards (each_in_turn (followers m.host.prios s) (change (in_script call) priority n) m') (λ m. finish (on_page (change_ended s) m))

      ends : Unrolls (nested_changes call priority (EndChange s ∷ more)) (λ q. next (change_ended s q))
      ends m = k (on_page (change_ended s) m) ∙ reached-page (next (change_ended s m.host)) m (change_ended s m.host)

      ending-nests : (m' : State) → afterwards (ending m') (nested_changes call priority more) ≡ nested_changes call priority pieces m'
      ending-nests m' =
          afterwards-twice (each_in_turn (followers m.host.prios s) (change (in_script call) priority n) m') (λ m. finish (on_page (change_ended s) m)) (nested_changes call priority more)
          ∙ each-nests n (followers m.host.prios s) (EndChange s ∷ more) m'

      through-unrolls : (args : List Value) → afterwards (afterwards (dispatch (in_script call) (AtSignal s) (codes "prioritychange") args begun) ending) (nested_changes call priority more)
          ≡ nested_reached call (fire s (codes "prioritychange") args (ChangesLeft priority pieces) then_pieces begun.host) m
      through-unrolls args =
          afterwards-twice (dispatch (in_script call) (AtSignal s) (codes "prioritychange") args begun) ending (nested_changes call priority more)
          ∙ (afterwards-same (dispatch (in_script call) (AtSignal s) (codes "prioritychange") args begun) _ _ ending-nests
          ∙ (listeners-unroll args (ChangesLeft priority pieces) then_pieces (each-unrolls n (change_from priority n) c (followers m.host.prios s) (EndChange s ∷ more) (λ q. next (change_ended s q)) ends) (snapshot (AtSignal s) (codes "prioritychange") begun.host.listeners) begun
          ∙ reached-page (fire s (codes "prioritychange") args (ChangesLeft priority pieces) then_pieces begun.host) m begun.host))

      by_passing : (b : Bool) → afterwards (branch b m finish (change_through (in_script call) s priority (change (in_script call) priority n))) (nested_changes call priority more)
          ≡ nested_reached call (cond b (next m.host) (fire s (codes "prioritychange") (SignalValue s ∷ priority_value (priority_of m.host.prios s) ∷ []) (ChangesLeft priority pieces) then_pieces begun.host)) m
      by_passing true = k m
      by_passing false = through-unrolls (SignalValue s ∷ priority_value (priority_of m.host.prios s) ∷ [])

    change-unrolls : (n : ℕ) → Changes (change (in_script call) priority n) (change_from priority n)
    change-unrolls zero s more next k m = k m
    change-unrolls (suc n) s more next k m =
        by_passing n (change-unrolls n) s more next k m (is_changing m.host.prios s || has_priority m.host.prios s priority)

    changes-unroll : (pieces : List ChangePiece) → Unrolls (nested_changes call priority pieces) (changes_from priority pieces)
    changes-unroll [] m = refl
    changes-unroll (ChangeOf n s ∷ more) m = change-unrolls n s more (changes_from priority more) (changes-unroll more) m
    changes-unroll (EndChange s ∷ more) m =
        changes-unroll more (on_page (change_ended s) m) ∙ reached-page (changes_from priority more (change_ended s m.host)) m (change_ended s m.host)

  -- ---- folds

  rest-unrolls : (rest : Rest) → Unrolls (nested_rest call rest) (rest_from rest)
  rest-unrolls (AbortsLeft ss) m = aborts-unroll ss m
  rest-unrolls (ChangesLeft priority pieces) m = changes-unroll priority pieces m

  pub fold-unrolls : (fold : Fold) → Unrolls (nested_fold call fold) (go_on fold)
  fold-unrolls fold m = listeners-unroll fold.args fold.rest (rest_from fold.rest) (rest-unrolls fold.rest) fold.listeners m

  afterwards-finish : (m : State) (rs : List ℕ) (f : ℕ → State → Done Page) → afterwards (each_in_turn rs f m) finish ≡ each_in_turn rs f m
  afterwards-finish m [] f = refl
  afterwards-finish m (r ∷ rs) f = afterwards-twice (f r m) (each_in_turn rs f) finish ∙ afterwards-same (f r m) _ _ (λ m. afterwards-finish m rs f)

  pub dispatch-unrolls : (target : Target) (name : List ℕ) (args : List Value) → Unrolls (dispatch (in_script call) target name args) (begin_dispatch target name args)
  dispatch-unrolls target name args m =
      sym (afterwards-finish m (snapshot target name m.host.listeners) (call_listener (in_script call) args))
      ∙ listeners-unroll args (AbortsLeft []) Finished (λ m. refl) (snapshot target name m.host.listeners) m

  pub abort-unrolls : (s : ℕ) (reason : Value) → Unrolls (abort (in_script call) s reason) (begin_abort s reason)
  abort-unrolls s reason m =
      let begun = on_page (reason_set reason (marked s m.host.signals)) m in
      aborts-unroll (marked s m.host.signals) begun ∙ reached-page (begin_abort s reason m.host) m begun.host

  through-finishes : (priority : Priority) (n s : ℕ) (m : State) → afterwards (change_through (in_script call) s priority (change (in_script call) priority n) m) finish ≡ change_through (in_script call) s priority (change (in_script call) priority n) m
  through-finishes priority n s m =
      afterwards-twice (dispatch (in_script call) (AtSignal s) (codes "prioritychange") (SignalValue s ∷ priority_value (priority_of m.host.prios s) ∷ []) (on_page (change_begun s priority) m)) _ finish
      ∙ afterwards-same (dispatch (in_script call) (AtSignal s) (codes "prioritychange") (SignalValue s ∷ priority_value (priority_of m.host.prios s) ∷ []) (on_page (change_begun s priority) m)) _ _
      (λ m'. afterwards-twice (each_in_turn (followers m.host.prios s) (change (in_script call) priority n) m') (λ m. finish (on_page (change_ended s) m)) finish)

  branch-finishes : (b : Bool) (f : State → Done Page) (m : State) → ((m : State) → afterwards (f m) finish ≡ f m) → afterwards (branch b m finish f) finish ≡ branch b m finish f
  branch-finishes true f m k = refl
  branch-finishes false f m k = k m

  -- a change gives unit
  afterwards-change : (priority : Priority) (n s : ℕ) (m : State) → afterwards (change (in_script call) priority n s m) finish ≡ change (in_script call) priority n s m
  afterwards-change priority zero s m = refl
  afterwards-change priority (suc n) s m = branch-finishes (is_changing m.host.prios s || has_priority m.host.prios s priority) _ m (through-finishes priority n s)

  pub change-unrolls-whole : (priority : Priority) (n s : ℕ) → Unrolls (change (in_script call) priority n s) (begin_change priority n s)
  change-unrolls-whole priority n s m = sym (afterwards-change priority n s m) ∙ changes-unroll priority (ChangeOf n s ∷ []) m
