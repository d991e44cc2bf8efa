-- Which closures are fired and dropped where the marks follow the lines.
use Rattle.std.proofs.Common.{reverse, [], ◌∷◌, ◌||◌, ◌≡◌, ◌⊎◌, inl, inr, ℕ, Bool, true, false, List, Option, Some, None, refl, sym, subst, ap, ◌∙◌, slice_get}
use Rattle.std.specs.Prelude.{if◌then◌else◌, option_map}
use Rattle.std.specs.List.{list_any}
use Rattle.std.proofs.lemmas.List.{reverse-append}
use Rattle.std.proofs.lemmas.List.Folds.{list_any-append}
use Rattle.page_types.specs.Events.{Stamped}
use Rattle.page_types.specs.declared.HostMark.{HostMark}
use Rattle.page_types.specs.declared.HostMark.TheVariants.{Live, Queued, Fired, Dropped}
use Rattle.page_parts.specs.HostClosures.{HostClosure}
use Rattle.page_parts.specs.Words.{is_there}
use Rattle.page_model.specs.State.{Page}
use Rattle.page_laws.specs.CallLaws.{is_answer_of}
use Rattle.page_laws.specs.History.{History, some_line, was_dropped}
use Rattle.page_laws.specs.Moves.{IsIn}
use Rattle.page_laws.specs.ClosureMarks.{Ask, ClosuresFollow, Exactly, HasMark, MarksFollow, WasAborted, WasAwaited, WasGivenUp, asker_of, closure_after, has_answered, mark_after, mark_unanswered, unmarked}
use Rattle.page_laws.proofs.ClosureAsks.{asker-found, no_some, unsome}
use Rattle.page_laws.proofs.ClosureSteps.{asker-own}
use Rattle.page_laws.proofs.Finding.{false_true}

-- ---- marks

live_fired : Live ≡ Fired → ⊥
live_fired e = Prim.cc

live_dropped : Live ≡ Dropped → ⊥
live_dropped e = Prim.cc

fired_dropped : Fired ≡ Dropped → ⊥
fired_dropped e = Prim.cc

waiting_fired : (d : Bool) → (if d then Dropped else Queued) ≡ Fired → ⊥
waiting_fired true e = Prim.cc
waiting_fired false e = Prim.cc

queued_dropped : Queued ≡ Dropped → ⊥
queued_dropped e = Prim.cc

module _ (asks : List Ask) (before : List HostClosure) (past : History) (after : List HostClosure) (f : MarksFollow asks before past after) where
  -- the mark of a closure that is there
  record Marked (mark : HostMark) (k : ℕ) : Type 0 where
    closure : HostClosure
    there : slice_get before k ≡ Some closure
    own : mark_after past asks k closure.mark ≡ mark

  marked : (mark : HostMark) (k : ℕ) → HasMark mark after k → Marked mark k
  marked mark k h = by_closure (slice_get before k) refl (sym (ap {A = Option HostClosure} {B = Option HostMark} (λ o. option_map (λ c. c.mark) o) (f.marks k)) ∙ h)
    where
      by_closure : (o : Option HostClosure) → slice_get before k ≡ o → option_map (λ c. c.mark) (option_map (closure_after past asks k) o) ≡ Some mark → Marked mark k
      by_closure None e z = absurd (no_some mark z)
      by_closure (Some c) e z = record { closure = c; there = e; own = unsome (mark_after past asks k c.mark) mark z }

  -- and of one that was there
  record Found (mark : HostMark) (k : ℕ) : Type 0 where
    closure : HostClosure
    there : slice_get before k ≡ Some closure
    own : closure.mark ≡ mark

  found : (mark : HostMark) (k : ℕ) → HasMark mark before k → Found mark k
  found mark k h = by_closure (slice_get before k) refl h
    where
      by_closure : (o : Option HostClosure) → slice_get before k ≡ o → option_map (λ c. c.mark) o ≡ Some mark → Found mark k
      by_closure None e z = absurd (no_some mark z)
      by_closure (Some c) e z = record { closure = c; there = e; own = unsome c.mark mark z }

  remarked : (mark : HostMark) (k : ℕ) (c : HostClosure) → slice_get before k ≡ Some c → mark_after past asks k c.mark ≡ mark → HasMark mark after k
  remarked mark k c e own =
      ap {A = Option HostClosure} {B = Option HostMark} (λ o. option_map (λ c. c.mark) o) (f.marks k ∙ ap (option_map (closure_after past asks k)) e) ∙ ap Some own

  kept-mark : (mark : HostMark) (k : ℕ) (c : HostClosure) → slice_get before k ≡ Some c → c.mark ≡ mark → HasMark mark before k
  kept-mark mark k c e own = ap {A = Option HostClosure} {B = Option HostMark} (λ o. option_map (λ c. c.mark) o) e ∙ ap Some own

  -- what was asked was live
  was-live : (k r : ℕ) → asker_of asks k ≡ Some r → Found Live k
  was-live k r e =
      let a = asker-found asks k r e in
      found Live k (subst (HasMark Live before) a.closure (f.live a.ask a.there))

  not-live : (mark : HostMark) → (Live ≡ mark → ⊥) → (k r : ℕ) → asker_of asks k ≡ Some r → HasMark mark before k → ⊥
  not-live mark n k r e h =
      let a = asker-found asks k r e in
      n (unsome Live mark (sym (subst (HasMark Live before) a.closure (f.live a.ask a.there)) ∙ h))

  asked : (k : ℕ) → (o : Option ℕ) → asker_of asks k ≡ o → is_there o ≡ true → Found Live k
  asked k None e h = absurd (false_true h)
  asked k (Some r) e h = was-live k r e

  -- a mark that no line changed
  same-mark : (mark : HostMark) → (Live ≡ mark → ⊥) → (k : ℕ) → HasMark mark before k → has_answered past k ≡ false → HasMark mark after k
  same-mark mark n k h silent = let c = found mark k h in remarked mark k c.closure c.there (by_asker c.closure.mark (asker_of asks k) refl ∙ c.own)
    where
      by_asker : (m : HostMark) (o : Option ℕ) → asker_of asks k ≡ o → mark_after past asks k m ≡ m
      by_asker m None e =
          ap {A = Bool} {B = HostMark} (λ b. if b then Fired else mark_unanswered past (asker_of asks k) m) silent
          ∙ ap {A = Option ℕ} {B = HostMark} (λ o. mark_unanswered past o m) e
      by_asker m (Some r) e = absurd (not-live mark n k r e h)

  -- ---- fired

  fires : (k : ℕ) → has_answered past k ≡ true → HasMark Fired after k
  fires k h =
      let c = asked k (asker_of asks k) refl (f.answered k h) in
      remarked Fired k c.closure c.there (ap {A = Bool} {B = HostMark} (λ b. if b then Fired else mark_unanswered past (asker_of asks k) c.closure.mark) h)

  fired-before : (k : ℕ) → HasMark Fired after k → HasMark Fired before k ⊎ has_answered past k ≡ true
  fired-before k h = let c = marked Fired k h in by_answer c.closure c.there (has_answered past k) refl (asker_of asks k) refl c.own
    where
      by_answer : (c : HostClosure) → slice_get before k ≡ Some c → (b : Bool) → has_answered past k ≡ b → (o : Option ℕ) → asker_of asks k ≡ o → (if b then Fired else mark_unanswered past o c.mark) ≡ Fired → HasMark Fired before k ⊎ has_answered past k ≡ true
      by_answer c there true q o e z = inr q
      by_answer c there false q None e z = inl (kept-mark Fired k c there z)
      by_answer c there false q (Some r) e z = absurd (waiting_fired (was_dropped past r) z)

  fired-after : (k : ℕ) → HasMark Fired before k ⊎ has_answered past k ≡ true → HasMark Fired after k
  fired-after k (inr h) = fires k h
  fired-after k (inl h) = by_answer (has_answered past k) refl
    where
      by_answer : (b : Bool) → has_answered past k ≡ b → HasMark Fired after k
      by_answer true q = fires k q
      by_answer false q = same-mark Fired live_fired k h q

  pub fired_exactly : (k : ℕ) → Exactly (HasMark Fired after k) (HasMark Fired before k ⊎ has_answered past k ≡ true)
  fired_exactly k = (fired-before k, fired-after k)

  -- ---- dropped

  -- a registration that asked closure k was dropped
  record GivenUp (k : ℕ) : Type 0 where
    ask : Ask
    there : IsIn ask asks
    own : ask.closure ≡ k
    dropped : was_dropped past ask.registration ≡ true

  dropped-before : (k : ℕ) → HasMark Dropped after k → HasMark Dropped before k ⊎ GivenUp k
  dropped-before k h = let c = marked Dropped k h in by_answer c.closure c.there (has_answered past k) refl (asker_of asks k) refl c.own
    where
      by_dropped : (r : ℕ) → asker_of asks k ≡ Some r → (b : Bool) → was_dropped past r ≡ b → (if b then Dropped else Queued) ≡ Dropped → GivenUp k
      by_dropped r e true q z =
          let a = asker-found asks k r e in
          record { ask = a.ask; there = a.there; own = a.closure; dropped = ap (was_dropped past) a.registration ∙ q }
      by_dropped r e false q z = absurd (queued_dropped z)

      by_answer : (c : HostClosure) → slice_get before k ≡ Some c → (b : Bool) → has_answered past k ≡ b → (o : Option ℕ) → asker_of asks k ≡ o → (if b then Fired else mark_unanswered past o c.mark) ≡ Dropped → HasMark Dropped before k ⊎ GivenUp k
      by_answer c there true q o e z = absurd (fired_dropped z)
      by_answer c there false q None e z = inl (kept-mark Dropped k c there z)
      by_answer c there false q (Some r) e z = inr (by_dropped r e (was_dropped past r) refl z)

  dropped-after : (k : ℕ) → HasMark Dropped before k ⊎ GivenUp k → HasMark Dropped after k
  dropped-after k (inl h) = by_answer (has_answered past k) refl
    where
      by_asker : (o : Option ℕ) → asker_of asks k ≡ o → is_there o ≡ true → ⊥
      by_asker None e there = false_true there
      by_asker (Some r) e there = not-live Dropped live_dropped k r e h

      by_answer : (b : Bool) → has_answered past k ≡ b → HasMark Dropped after k
      by_answer true q = absurd (by_asker (asker_of asks k) refl (f.answered k q))
      by_answer false q = same-mark Dropped live_dropped k h q
  dropped-after k (inr g) = by_answer (has_answered past k) refl
    where
      asker : asker_of asks k ≡ Some g.ask.registration
      asker = asker-own asks before past after k g.ask.registration f (record { ask = g.ask; there = g.there; closure = g.own; registration = refl })

      by_answer : (b : Bool) → has_answered past k ≡ b → HasMark Dropped after k
      by_answer true q = absurd (false_true (sym (f.undropped g.ask g.there (ap (has_answered past) g.own ∙ q)) ∙ g.dropped))
      by_answer false q =
          let c = was-live k g.ask.registration asker in
          remarked Dropped k c.closure c.there
          (ap {A = Bool} {B = HostMark} (λ b. if b then Fired else mark_unanswered past (asker_of asks k) c.closure.mark) q
          ∙ (ap {A = Option ℕ} {B = HostMark} (λ o. mark_unanswered past o c.closure.mark) asker
          ∙ ap {A = Bool} {B = HostMark} (λ b. if b then Dropped else Queued) g.dropped))

  -- ---- what does not change

  unmarked_same : (k : ℕ) → option_map unmarked (slice_get after k) ≡ option_map unmarked (slice_get before k)
  unmarked_same k = ap (option_map unmarked) (f.marks k) ∙ by_closure (slice_get before k)
    where
      by_closure : (o : Option HostClosure) → option_map unmarked (option_map (closure_after past asks k) o) ≡ option_map unmarked o
      by_closure None = refl
      by_closure (Some c) = refl

-- ---- lines in their order

any-turned : (test : Stamped → Bool) (past : History) → list_any test (reverse past) ≡ list_any test past
any-turned test [] = refl
any-turned test (e ∷ past) =
    ap (list_any test) (reverse-append (e ∷ []) past)
    ∙ (list_any-append test (reverse past) (e ∷ []) ∙ (ap {A = Bool} {B = Bool} (λ b. b || (test e || false)) (any-turned test past) ∙ by_tests (list_any test past) (test e)))
  where
    by_tests : (b c : Bool) → b || (c || false) ≡ c || b
    by_tests true true = refl
    by_tests true false = refl
    by_tests false true = refl
    by_tests false false = refl

-- the same of the lines in their order
pub fired_in_order : {first last : Page} (k : ℕ) → ClosuresFollow first last → Exactly (HasMark Fired last.hosts k) (HasMark Fired first.hosts k ⊎ some_line (is_answer_of k) (reverse last.events) ≡ true)
fired_in_order {first = first} {last = last} k f =
    subst (λ (b : Bool). Exactly (HasMark Fired last.hosts k) (HasMark Fired first.hosts k ⊎ b ≡ true)) (sym (any-turned (λ e. is_answer_of k e.event) last.events)) (f.fired k)

-- ---- between two pages

pub by_marks : {first last : Page} (asks : List Ask) → ((a : Ask) → IsIn a asks → WasAwaited first last a) → ((a : Ask) → IsIn a asks → was_dropped last.events a.registration ≡ true → WasAborted first last a)
    → MarksFollow asks first.hosts last.events last.hosts → ClosuresFollow first last
by_marks {first = first} {last = last} asks known gone f =
    record {
      asks = asks;
      asked = known;
      follow = f;
      fired = fired_exactly asks first.hosts last.events last.hosts f;
      dropped = λ k. (λ h. told k (dropped-before asks first.hosts last.events last.hosts f k h), λ h. dropped-after asks first.hosts last.events last.hosts f k (untold k h));
      unchanged = unmarked_same asks first.hosts last.events last.hosts f;
    }
  where
    told : (k : ℕ) → HasMark Dropped first.hosts k ⊎ GivenUp asks first.hosts last.events last.hosts f k → HasMark Dropped first.hosts k ⊎ WasGivenUp asks first last k
    told k (inl h) = inl h
    told k (inr g) = inr (record { ask = g.ask; there = g.there; own = g.own; dropped = g.dropped; aborted = gone g.ask g.there g.dropped })

    untold : (k : ℕ) → HasMark Dropped first.hosts k ⊎ WasGivenUp asks first last k → HasMark Dropped first.hosts k ⊎ GivenUp asks first.hosts last.events last.hosts f k
    untold k (inl h) = inl h
    untold k (inr g) = inr (record { ask = g.ask; there = g.there; own = g.own; dropped = g.dropped })
