-- Closures with the mark of those that were asked laid over.
use Rattle.std.proofs.Common.{◌≡◌, ◌⊎◌, inl, inr, ℕ, zero, suc, Bool, true, false, not, cond, ◌&&◌, List, [], ◌∷◌, length, Option, None, Some, refl, sym, ap, ◌∙◌}
use Rattle.std.specs.Prelude.{ℤ, IsTrue, slice_get, slice_set, option_map}
use Rattle.std.specs.Option.{option_map_or}
use Rattle.std.proofs.Math.Bool.{false≢true}
use Rattle.page_types.specs.declared.HostMark.{HostMark}
use Rattle.page_types.specs.declared.HostMark.TheVariants.{Live, Queued, Fired, Dropped}
use Rattle.page_parts.specs.HostClosures.{HostClosure, fired}
use Rattle.host_jobs.specs.Closures.{is_live, takes, is_live_at, takes_at, dropped, after_drop, changed_at, fired_at, dropped_at}
use Rattle.host_jobs.specs.Overlay.{queued, queued_where, is_dropped, overlaid, AsksToo, IsLiveOrDropped, queued_at}

-- ---- one closure

live_where : (asked : Bool) (c : HostClosure) → is_live (queued_where asked c).mark ≡ is_live c.mark && not asked
live_where asked c = by c.mark refl asked
  where
    by : (m : HostMark) → c.mark ≡ m → (b : Bool) → is_live (cond (b && is_live m) (queued c) c).mark ≡ is_live m && not b
    by Live e true = refl
    by Live e false = ap is_live e
    by Queued e true = ap is_live e
    by Queued e false = ap is_live e
    by Fired e true = ap is_live e
    by Fired e false = ap is_live e
    by Dropped e true = ap is_live e
    by Dropped e false = ap is_live e

takes_where : (asked : Bool) (c : HostClosure) (x : ℤ) → takes (queued_where asked c) x ≡ takes c x
takes_where asked c x = by (asked && is_live c.mark)
  where
    by : (b : Bool) → takes (cond b (queued c) c) x ≡ takes c x
    by true = refl
    by false = refl

unasked : (c : HostClosure) → queued_where false c ≡ c
unasked c = refl

-- any change of the mark alone is the same of the closure laid over
fired_where : (asked : Bool) (c : HostClosure) → queued_where asked (fired c) ≡ fired (queued_where asked c)
fired_where asked c = by asked (asked && is_live c.mark)
  where
    by : (a b : Bool) → cond (a && false) (queued (fired c)) (fired c) ≡ fired (cond b (queued c) c)
    by true true = refl
    by true false = refl
    by false true = refl
    by false false = refl

dropped_where : (asked : Bool) (c : HostClosure) → dropped (queued_where asked c) ≡ dropped c
dropped_where asked c = by (asked && is_live c.mark)
  where
    by : (b : Bool) → dropped (cond b (queued c) c) ≡ dropped c
    by true = refl
    by false = refl

dropped_stays : (asked : Bool) (c : HostClosure) → queued_where asked (dropped c) ≡ dropped c
dropped_stays true c = refl
dropped_stays false c = refl

dropped_is : (c : HostClosure) → (c.mark ≡ Live) ⊎ (c.mark ≡ Dropped) → after_drop c ≡ dropped c
dropped_is c (inl live) = rw live
dropped_is c (inr was) = rw was

-- ---- all closures

pub closure_is : (asked : ℕ → Bool) (cs : List HostClosure) (k : ℕ) → slice_get (overlaid asked cs) k ≡ option_map (queued_where (asked k)) (slice_get cs k)
closure_is asked [] k = refl
closure_is asked (c ∷ cs) zero = refl
closure_is asked (c ∷ cs) (suc k) = closure_is (λ j. asked (suc j)) cs k

pub live_is : (asked : ℕ → Bool) (cs : List HostClosure) (k : ℕ) → is_live_at (overlaid asked cs) k ≡ is_live_at cs k && not (asked k)
live_is asked [] k = refl
live_is asked (c ∷ cs) zero = live_where (asked 0) c
live_is asked (c ∷ cs) (suc k) = live_is (λ j. asked (suc j)) cs k

pub takes_is : (asked : ℕ → Bool) (cs : List HostClosure) (k : ℕ) (x : ℤ) → takes_at (overlaid asked cs) k x ≡ takes_at cs k x
takes_is asked [] k x = refl
takes_is asked (c ∷ cs) zero x = takes_where (asked 0) c x
takes_is asked (c ∷ cs) (suc k) x = takes_is (λ j. asked (suc j)) cs k x

pub count_is : (asked : ℕ → Bool) (cs : List HostClosure) → length (overlaid asked cs) ≡ length cs
count_is asked [] = refl
count_is asked (c ∷ cs) = ap suc (count_is (λ j. asked (suc j)) cs)

pub same_asked : (old now : ℕ → Bool) (cs : List HostClosure) → ((k : ℕ) → now k ≡ old k) → overlaid now cs ≡ overlaid old cs
same_asked old now [] same = refl
same_asked old now (c ∷ cs) same =
    ap (λ b. queued_where b c ∷ overlaid (λ k. now (suc k)) cs) (same 0) ∙ ap (λ (l : List HostClosure). queued_where (old 0) c ∷ l) (same_asked (λ k. old (suc k)) (λ k. now (suc k)) cs (λ k. same (suc k)))

none_laid : (cs : List HostClosure) → overlaid (λ k. false) cs ≡ cs
none_laid [] = refl
none_laid (c ∷ cs) = ap (λ (l : List HostClosure). c ∷ l) (none_laid cs)

pub none_is : (asked : ℕ → Bool) (cs : List HostClosure) → ((k : ℕ) → asked k ≡ false) → overlaid asked cs ≡ cs
none_is asked cs none = same_asked (λ k. false) asked cs none ∙ none_laid cs

-- ---- a change of closure k

changed_cons : (change : HostClosure → HostClosure) (c : HostClosure) (cs : List HostClosure) (k : ℕ) → changed_at change (c ∷ cs) (suc k) ≡ c ∷ changed_at change cs k
changed_cons change c cs k = by (slice_get cs k)
  where
    by : (o : Option HostClosure) → option_map_or (λ d. c ∷ slice_set cs k (change d)) o (c ∷ cs) ≡ c ∷ option_map_or (λ d. slice_set cs k (change d)) o cs
    by None = refl
    by (Some d) = refl

-- a change of one at the port is a change of the one laid over
change_is : (change over : HostClosure → HostClosure) (asked : ℕ → Bool) (cs : List HostClosure) (k : ℕ)
    → ((c : HostClosure) → slice_get cs k ≡ Some c → queued_where (asked k) (change c) ≡ over (queued_where (asked k) c))
    → overlaid asked (changed_at change cs k) ≡ changed_at over (overlaid asked cs) k
change_is change over asked [] k each = refl
change_is change over asked (c ∷ cs) zero each = ap (λ (d : HostClosure). d ∷ overlaid (λ j. asked (suc j)) cs) (each c refl)
change_is change over asked (c ∷ cs) (suc k) each =
    ap (overlaid asked) (changed_cons change c cs k)
    ∙ ap (λ (l : List HostClosure). queued_where (asked 0) c ∷ l) (change_is change over (λ j. asked (suc j)) cs k each)
    ∙ sym (changed_cons over (queued_where (asked 0) c) (overlaid (λ j. asked (suc j)) cs) k)

pub fired_is : (asked : ℕ → Bool) (cs : List HostClosure) (k : ℕ) → overlaid asked (fired_at cs k) ≡ fired_at (overlaid asked cs) k
fired_is asked cs k = change_is fired fired asked cs k (λ c there. fired_where (asked k) c)

pub drop_is : (asked : ℕ → Bool) (cs : List HostClosure) (k : ℕ) → IsLiveOrDropped cs k → overlaid asked (dropped_at cs k) ≡ changed_at dropped (overlaid asked cs) k
drop_is asked cs k may =
    change_is after_drop dropped asked cs k
    (λ c there. ap (queued_where (asked k)) (dropped_is c (may c there)) ∙ dropped_stays (asked k) c ∙ sym (dropped_where (asked k) c))

-- ---- a closure is asked

pub asked_is : (asked now : ℕ → Bool) (cs : List HostClosure) (k : ℕ) → IsTrue (is_live_at (overlaid asked cs) k) → AsksToo k asked now → overlaid now cs ≡ queued_at (overlaid asked cs) k
asked_is asked now [] k live asks = refl
asked_is asked now (c ∷ cs) zero live asks =
    let rest = same_asked (λ j. asked (suc j)) (λ j. now (suc j)) cs (λ j. asks.others (suc j) (λ e. cc)) in
    ap (λ b. queued_where b c ∷ overlaid (λ j. now (suc j)) cs) asks.this
    ∙ ap (λ (l : List HostClosure). queued_where true c ∷ l) rest
    ∙ ap (λ (d : HostClosure). d ∷ overlaid (λ j. asked (suc j)) cs) (by (asked 0) (is_live c.mark) refl live)
  where
    by : (a b : Bool) → is_live c.mark ≡ b → IsTrue (is_live (cond (a && b) (queued c) c).mark) → cond b (queued c) c ≡ queued (cond (a && b) (queued c) c)
    by true true e live = refl
    by false true e live = refl
    by true false e live = let never : false ≡ true = sym e ∙ live in absurd (false≢true never)
    by false false e live = let never : false ≡ true = sym e ∙ live in absurd (false≢true never)
asked_is asked now (c ∷ cs) (suc k) live asks =
    ap (λ b. queued_where b c ∷ overlaid (λ j. now (suc j)) cs) (asks.others 0 (λ e. cc))
    ∙ ap (λ (l : List HostClosure). queued_where (asked 0) c ∷ l)
    (asked_is (λ j. asked (suc j)) (λ j. now (suc j)) cs k live (record { this = asks.this; others = λ j other. asks.others (suc j) (λ e. other (ap pred' e)) }))
    ∙ sym (changed_cons queued (queued_where (asked 0) c) (overlaid (λ j. asked (suc j)) cs) k)
  where
    pred' : ℕ → ℕ
    pred' zero = zero
    pred' (suc n) = n

-- ---- whether it was dropped

was_dropped_where : (asked : Bool) (c : HostClosure) → (c.mark ≡ Live) ⊎ (c.mark ≡ Dropped) → is_dropped (queued_where asked c).mark ≡ not (is_live c.mark)
was_dropped_where true c (inl live) = rw live
was_dropped_where false c (inl live) = rw live
was_dropped_where true c (inr was) = rw was
was_dropped_where false c (inr was) = rw was

pub was_dropped_is : (asked : ℕ → Bool) (cs : List HostClosure) (k : ℕ) → IsLiveOrDropped cs k
    → option_map (λ c. is_dropped c.mark) (slice_get (overlaid asked cs) k) ≡ option_map (λ c. not (is_live c.mark)) (slice_get cs k)
was_dropped_is asked cs k may = ap (option_map (λ c. is_dropped c.mark)) (closure_is asked cs k) ∙ by (slice_get cs k) refl
  where
    by : (o : Option HostClosure) → slice_get cs k ≡ o → option_map (λ c. is_dropped c.mark) (option_map (queued_where (asked k)) o) ≡ option_map (λ c. not (is_live c.mark)) o
    by None e = refl
    by (Some c) e = ap Some (was_dropped_where (asked k) c (may c e))
