-- Steps of the page as a host do what the nested operations do.
use Rattle.std.proofs.Common.{◌≡◌, ℕ, zero, suc, ◌+◌, ◌*◌, ◌^◌, ◌≤◌, ◌<◌, ◌⊎◌, inl, inr, arith, Bool, true, false, List, [], ◌∷◌, ◌++◌, length, Option, Some, None, refl, ap, sym, subst, cond}
use Rattle.page_types.specs.Values.{Value, UnitValue, FaultValue, items_of}
use Rattle.page_types.specs.declared.FaultName.{FaultName}
use Rattle.page_types.specs.declared.FaultName.TheVariants.{TypeError, NotAllowedError}
use Rattle.page_types.specs.declared.Priority.{Priority}
use Rattle.page_parts.specs.Words.{is_there}
use Rattle.page_parts.specs.Kinds.{controller_in}
use Rattle.page_parts.specs.TaskSignals.{PrioRecord, record_of, priority_of, is_changing}
use Rattle.lang_meaning.specs.Machine.{Machine, hosted, Done, Gives, Throws, Returns, OutOfFuel, afterwards, given, branch, finish, Caller}
use Rattle.lang_meaning.specs.HostSteps.{StepValue, StepThrow, CallbackEnd, CallbackValue, CallbackThrow, Stepped, after_callback, with_host, steps_from}
use Rattle.page_model.specs.State.{Page, State, on_page}
use Rattle.page_model.specs.Invoke.{WhenReported, BeforeCheckpoint, AfterCheckpoint, Never, in_script, end_of_callback}
use Rattle.page_model.specs.PageSignals.{change}
use Rattle.page_model.specs.Operations.{abort_by, change_by, set_priority_by, priority_in, reason_given}
use Rattle.page_model.specs.Folds.{Fold, Reached, Finished, Calls, go_on, callback_ended, begin_abort, begin_change}
use Rattle.page_model.specs.NestedFolds.{nested_fold, nested_reached}
use Rattle.page_model.specs.PageHost.{Hosting, with_folds, reached_step, resume_innermost, step_fault, step_given, step_abort, step_change_by, step_change, page_rules}
use Rattle.page_model.specs.FoldBounds.{fold_left, counted, IsBounded, HasRecord, FoldIsBounded}
use Rattle.page_model.proofs.Bounding.Counting.{near-equal, bounded-near, stays-near}
use Rattle.page_model.proofs.Bounding.Unrolling.{fold-unrolls, abort-unrolls, change-unrolls-whole}
use Rattle.page_model.proofs.Stepping.Reaching.{ReachesFewer, fold-stays, fold-few, fold-reaches, abort-reaches, change-reaches-few}
use Rattle.page_model.proofs.Stepping.Twin.{After, after-same, Twin, wider, TakesOrStays, CallersFollow}

-- the lines of a callback's end leave what is counted
pub ended-counted : (when : WhenReported) (end : CallbackEnd) (p : Page) → counted (callback_ended when end p) ≡ counted p
ended-counted when (CallbackValue v) p = refl
ended-counted BeforeCheckpoint (CallbackThrow v) p = refl
ended-counted AfterCheckpoint (CallbackThrow v) p = refl
ended-counted Never (CallbackThrow v) p = refl

pub steps-value : (call : Caller Hosting) (n : ℕ) (v : Value) (m : Machine Hosting) → steps_from page_rules call n (StepValue v) m ≡ Gives v m
steps-value call zero v m = refl
steps-value call (suc n) v m = refl

pub steps-throw : (call : Caller Hosting) (n : ℕ) (v : Value) (m : Machine Hosting) → steps_from page_rules call n (StepThrow v) m ≡ Throws v m
steps-throw call zero v m = refl
steps-throw call (suc n) v m = refl

-- the steps from what the host answered on
abbrev pub steps_on : Caller Hosting → ℕ → Stepped Hosting → State → Done Hosting
steps_on call n s m = steps_from page_rules call n s.step (with_host s.host (hosted (with_folds []) m))

-- a signal that has a priority
pub record-there : (o : Option PrioRecord) → is_there (elim o [ None ↦ None | Some r ↦ Some r.priority ]) ≡ true → is_there o ≡ true
record-there None e = e
record-there (Some r) e = refl

module _ (call : Caller Page) (call' : Caller Hosting) (c : CallersFollow call call') where
  -- with n callbacks at most, a fold that was reached does by steps what it does nested
  abbrev StepsFollow : ℕ → Type 0
  StepsFollow n = (folds : List Fold) (r : Reached) (m : State) (most : ℕ) → ReachesFewer m.host.prios most r → m.fuel * (2 ^ 64) + most ≤ n
      → Twin folds m (nested_reached call r m) (steps_on call' n (reached_step folds r) m)

  -- a callback ended, and the fold goes on
  goes-on : (n : ℕ) → StepsFollow n → (folds : List Fold) (fold : Fold) (end : CallbackEnd) (m : State) → IsBounded m.host → FoldIsBounded m.host.prios fold → m.fuel * (2 ^ 64) + fold_left (counted m.host) fold ≤ n
      → Twin folds m (nested_fold call fold (on_page (callback_ended fold.when end) m)) (steps_on call' n (resume_innermost (fold ∷ folds) end m.host) m)
  goes-on n again folds fold end m b h few =
      let ended = on_page (callback_ended fold.when end) m in
      let e = ended-counted fold.when end m.host in
      let near = near-equal (counted m.host) (counted ended.host) e in
      let stays = stays-near 0 (counted m.host) (counted ended.host) near in
      let bounded = bounded-near 0 (counted m.host) (counted ended.host) near (let r = b.registrations in omega (arith, r)) b in
      let left = ap (λ k. fold_left k fold) e in
      subst (λ d. Twin folds m d (steps_on call' n (resume_innermost (fold ∷ folds) end m.host) m)) (sym (fold-unrolls call fold ended))
      (wider folds m ended (nested_reached call (go_on fold ended.host) ended) (steps_on call' n (resume_innermost (fold ∷ folds) end m.host) m) (omega arith, stays, bounded)
      (again folds (go_on fold ended.host) ended (fold_left (counted ended.host) fold) (fold-reaches fold ended.host bounded (fold-stays m.host.prios ended.host.prios stays fold h)) (omega (arith, few, left))))

  module _ (n : ℕ) (again : StepsFollow n) (folds : List Fold) (fold : Fold) (m : State) (most : ℕ) (b : IsBounded m.host) (h : FoldIsBounded m.host.prios fold) (less : fold_left (counted m.host) fold < most) (few : m.fuel * (2 ^ 64) + most ≤ suc n) where
    abbrev next : ℕ → CallbackEnd → Machine Hosting → Done Hosting
    next ticket end m = let s = page_rules.resume ticket end m.host in steps_from page_rules call' n s.step (with_host s.host m)

    abbrev rest : Done Page → Done Page
    rest d = afterwards (end_of_callback finish fold.when d) (nested_fold call fold)

    took : (end : CallbackEnd) (r : State) → After m r → r.fuel < m.fuel
        → Twin folds m (nested_fold call fold (on_page (callback_ended fold.when end) r)) (steps_on call' n (resume_innermost (fold ∷ folds) end r.host) r)
    took end r a l =
        let f = fold-stays m.host.prios r.host.prios a.1 fold h in
        let small = fold-few (counted r.host) fold a.2 f in
        wider folds m r (nested_fold call fold (on_page (callback_ended fold.when end) r)) (steps_on call' n (resume_innermost (fold ∷ folds) end r.host) r) a (goes-on n again folds fold end r a.2 f (omega (arith, small, l, few, less)))

    threw : (v : Value) (r : State) → After m r → (r ≡ m) ⊎ (r.fuel < m.fuel)
        → Twin folds m (nested_fold call fold (on_page (callback_ended fold.when (CallbackThrow v)) r)) (steps_on call' n (resume_innermost (fold ∷ folds) (CallbackThrow v) r.host) r)
    threw v r a (inl e) =
        subst (λ r. Twin folds m (nested_fold call fold (on_page (callback_ended fold.when (CallbackThrow v)) r)) (steps_on call' n (resume_innermost (fold ∷ folds) (CallbackThrow v) r.host) r)) (sym e)
        (goes-on n again folds fold (CallbackThrow v) m b h (omega (arith, less, few)))
    threw v r a (inr l) = took (CallbackThrow v) r a l

    callback-follows : (d : Done Page) (d' : Done Hosting) → Twin (fold ∷ folds) m d d' → TakesOrStays m d → (ticket : ℕ) → Twin folds m (rest d) (after_callback next ticket d')
    callback-follows (Gives v r) d' t l ticket = subst (λ x. Twin folds m (rest (Gives v r)) (after_callback next ticket x)) (sym t.1) (took (CallbackValue v) r t.0 l)
    callback-follows (Returns v r) d' t l ticket = subst (λ x. Twin folds m (rest (Returns v r)) (after_callback next ticket x)) (sym t.1) (took (CallbackValue v) r t.0 l)
    callback-follows (Throws v r) d' t l ticket = subst (λ x. Twin folds m (rest (Throws v r)) (after_callback next ticket x)) (sym t.1) (threw v r t.0 l)
    callback-follows (OutOfFuel r) d' t l ticket = (t.0, (t.1.0, ap (after_callback next ticket) t.1.1))

  steps-follow : (n : ℕ) → StepsFollow n
  steps-follow n folds (Finished p) m most h few = ((omega arith, h.1, h.0), steps-value call' n UnitValue (hosted (with_folds folds) (with_host p m)))
  steps-follow zero folds (Calls f fold p) m most h few = let never : ⊥ = (let less = h.3 in omega (arith, less, few)) in absurd never
  steps-follow (suc n) folds (Calls f fold p) m most h few =
      let begun = with_host p m in
      let t = c (fold ∷ folds) f.function (items_of f.bound ++ fold.args) begun h.0 in
      wider folds m begun (nested_reached call (Calls f fold p) m) (steps_on call' (suc n) (reached_step folds (Calls f fold p)) m) (omega arith, h.1, h.0)
      (callback-follows n (steps-follow n) folds fold begun most h.0 h.2 h.3 few (call f.function (items_of f.bound ++ fold.args) begun) _ t.0 t.1 (length folds))

  -- ---- the operations that call

  module _ (folds : List Fold) where
    -- a fault, as a step
    fault-follows : (name : FaultName) (m : State) → IsBounded m.host → (n : ℕ) → Twin folds m (Throws (FaultValue name []) m) (steps_on call' n (step_fault folds name m.host) m)
    fault-follows name m b n = (after-same m b, steps-throw call' n (FaultValue name []) (hosted (with_folds folds) m))

    given-follows : {X : Type 0} (o : Option X) (m : State) → IsBounded m.host → (n : ℕ) (next : X → State → Done Page) (next' : X → Stepped Hosting)
        → ((x : X) → Twin folds m (next x m) (steps_on call' n (next' x) m)) → Twin folds m (given o TypeError m next) (steps_on call' n (step_given folds o m.host next') m)
    given-follows None m b n next next' k = fault-follows TypeError m b n
    given-follows (Some x) m b n next next' k = k x

    pub abort-follows : (v reason : Value) (m : State) → IsBounded m.host → Twin folds m (abort_by (in_script call) v reason m) (steps_on call' (m.fuel * (2 ^ 64) + 2 ^ 64) (step_abort folds v reason m.host) m)
    abort-follows v reason m b =
        given-follows (controller_in v) m b (m.fuel * (2 ^ 64) + 2 ^ 64) _ _
        (λ s. subst (λ d. Twin folds m d (steps_on call' (m.fuel * (2 ^ 64) + 2 ^ 64) (reached_step folds (begin_abort s (reason_given reason) m.host)) m)) (sym (abort-unrolls call s (reason_given reason) m))
        (steps-follow (m.fuel * (2 ^ 64) + 2 ^ 64) folds (begin_abort s (reason_given reason) m.host) m (2 ^ 64) (abort-reaches s (reason_given reason) m.host b) (omega arith)))

    change_by-follows : (s : ℕ) (priority : Priority) (m : State) → IsBounded m.host → Twin folds m (change_by (in_script call) s priority m) (steps_on call' (m.fuel * (2 ^ 64) + 2 ^ 64) (step_change_by folds s priority m.host) m)
    change_by-follows s priority m b = by_record (is_there (priority_of m.host.prios s)) refl
      where
        begins : HasRecord m.host.prios s → Twin folds m (change (in_script call) priority (length m.host.prios) s m) (steps_on call' (m.fuel * (2 ^ 64) + 2 ^ 64) (reached_step folds (begin_change priority (length m.host.prios) s m.host)) m)
        begins e =
            subst (λ d. Twin folds m d (steps_on call' (m.fuel * (2 ^ 64) + 2 ^ 64) (reached_step folds (begin_change priority (length m.host.prios) s m.host)) m)) (sym (change-unrolls-whole call priority (length m.host.prios) s m))
            (steps-follow (m.fuel * (2 ^ 64) + 2 ^ 64) folds (begin_change priority (length m.host.prios) s m.host) m (2 ^ 64) (change-reaches-few priority (length m.host.prios) s m.host b e) (omega arith))

        by_changing : (x : Bool) → HasRecord m.host.prios s → Twin folds m (branch x m (λ m. Throws (FaultValue NotAllowedError []) m) (change (in_script call) priority (length m.host.prios) s))
            (steps_on call' (m.fuel * (2 ^ 64) + 2 ^ 64) (cond x (step_fault folds NotAllowedError m.host) (reached_step folds (begin_change priority (length m.host.prios) s m.host))) m)
        by_changing true e = fault-follows NotAllowedError m b (m.fuel * (2 ^ 64) + 2 ^ 64)
        by_changing false e = begins e

        by_record : (x : Bool) → is_there (priority_of m.host.prios s) ≡ x → Twin folds m (branch x m (λ m. branch (is_changing m.host.prios s) m (λ m. Throws (FaultValue NotAllowedError []) m) (change (in_script call) priority (length m.host.prios) s)) (λ m. Throws (FaultValue TypeError []) m))
            (steps_on call' (m.fuel * (2 ^ 64) + 2 ^ 64) (cond x (cond (is_changing m.host.prios s) (step_fault folds NotAllowedError m.host) (reached_step folds (begin_change priority (length m.host.prios) s m.host))) (step_fault folds TypeError m.host)) m)
        by_record true e = by_changing (is_changing m.host.prios s) (record-there (record_of m.host.prios s) e)
        by_record false e = fault-follows TypeError m b (m.fuel * (2 ^ 64) + 2 ^ 64)

    pub change-follows : (v x : Value) (m : State) → IsBounded m.host → Twin folds m (set_priority_by (in_script call) v x m) (steps_on call' (m.fuel * (2 ^ 64) + 2 ^ 64) (step_change folds v x m.host) m)
    change-follows v x m b =
        given-follows (controller_in v) m b (m.fuel * (2 ^ 64) + 2 ^ 64) _ _
        (λ s. given-follows (priority_in x) m b (m.fuel * (2 ^ 64) + 2 ^ 64) _ _ (λ priority. change_by-follows s priority m b))
