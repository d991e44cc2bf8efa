-- What is counted of a page, and what changes of it leave within bounds.
use Rattle.std.proofs.Common.{◌≡◌, ℕ, zero, suc, ◌+◌, ◌≤◌, arith, Bool, true, false, List, [], ◌∷◌, map, length, Some, None, refl, ap, sym, subst, ◌∙◌, cond, ◌&&◌}
use Rattle.std.specs.Prelude.{filter, slice_get, slice_set, unwrap_or}
use Rattle.std.proofs.lemmas.List.{length-set}
use Rattle.page_types.specs.Values.{Value}
use Rattle.page_types.specs.Events.{Abort, Event}
use Rattle.page_parts.specs.Words.{and_last, with_numbered, same_bytes}
use Rattle.page_parts.specs.Promises.{Settled, Failed}
use Rattle.page_parts.specs.Notices.{Notices, Noticed, settle_promise}
use Rattle.page_parts.specs.AbortGraph.{Signals, SignalRecord, fresh_signal, the_signal, with_reason, with_algorithms}
use Rattle.page_parts.specs.TaskSignals.{Prios, record_of}
use Rattle.page_parts.specs.Listeners.{Listener, Target, same_target, snapshot}
use Rattle.page_model.specs.State.{Page, emit, emit_each, on_notices, the_registration, context}
use Rattle.page_model.specs.PagePromises as promises
use Rattle.page_model.specs.PageSignals.{has_not_begun, drop_registration, abort_registration, abort_registrations, run_algorithms, reason_value, reason_set}
use Rattle.page_model.specs.FoldBounds.{Counted, counted, AreBounded, HasRecord, AllHaveRecords, times}

-- a signal that has a priority keeps having one
abbrev pub Stays : Prios → Prios → Type 0
Stays ps qs = (s : ℕ) → HasRecord ps s → HasRecord qs s

-- b has so many registrations more than a, and for the rest the same
pub record Near (more : ℕ) (a b : Counted) : Type 0 where
  pub registrations : b.registrations ≡ more + a.registrations
  pub listeners : b.listeners ≡ a.listeners
  pub signals : length b.signals ≡ length a.signals
  pub dependents : (s : ℕ) → (the_signal b.signals s).dependents ≡ (the_signal a.signals s).dependents
  pub prios : b.prios ≡ a.prios

pub near-same : (a : Counted) → Near 0 a a
near-same a = record { registrations = omega arith; listeners = refl; signals = refl; dependents = λ s. refl; prios = refl }

pub near-equal : (a b : Counted) → b ≡ a → Near 0 a b
near-equal a b e = subst (λ c. Near 0 a c) (sym e) (near-same a)

pub near-then : (more : ℕ) (a b c : Counted) → Near more a b → Near 0 b c → Near more a c
near-then more a b c h k =
    record {
      registrations = omega (arith, h.registrations, k.registrations);
      listeners = k.listeners ∙ h.listeners;
      signals = k.signals ∙ h.signals;
      dependents = λ s. k.dependents s ∙ h.dependents s;
      prios = k.prios ∙ h.prios;
    }

pub bounded-near : (more : ℕ) (a b : Counted) → Near more a b → more + a.registrations ≤ 4294967295 → AreBounded a → AreBounded b
bounded-near more a b h few g =
    record {
      registrations = omega (arith, h.registrations, few);
      listeners = let l = ap length h.listeners in omega (arith, h.registrations, l, g.listeners);
      signals = omega (arith, h.signals, g.signals);
      dependents = λ s d. subst (λ ds. times ds d ≤ 1) (sym (h.dependents s)) (g.dependents s d);
      none_ahead = λ s d l. subst (λ ds. times ds d ≡ 0) (sym (h.dependents s)) (g.none_ahead s d (let k = h.signals in omega (arith, l, k)));
      prios = let l = ap length h.prios in omega (arith, l, h.signals, g.prios);
      followers = subst (λ ps. (s : ℕ) → AllHaveRecords ps (elim (record_of ps s) [ None ↦ [] | Some r ↦ r.followers ])) (sym h.prios) g.followers;
    }

pub stays-near : (more : ℕ) (a b : Counted) → Near more a b → Stays a.prios b.prios
stays-near more a b h = subst (λ ps. Stays a.prios ps) (sym h.prios) (λ s k. k)

pub stays-then : (ps qs rs : Prios) → Stays ps qs → Stays qs rs → Stays ps rs
stays-then ps qs rs h k s r = k s (h s r)

-- ---- lists

pub and_last-length : {X : Type 0} (xs : List X) (x : X) → length (and_last xs x) ≡ suc (length xs)
and_last-length [] x = refl
and_last-length (y ∷ xs) x = ap suc (and_last-length xs x)

pub filter-length : {X : Type 0} (test : X → Bool) (xs : List X) → length (filter test xs) ≤ length xs
filter-length test [] = omega arith
filter-length test (x ∷ xs) = by (filter-length test xs) (test x)
  where
    by : length (filter test xs) ≤ length xs → (b : Bool) → length (cond b (x ∷ filter test xs) (filter test xs)) ≤ suc (length xs)
    by h true = omega (arith, h)
    by h false = omega (arith, h)

map-length : {X Y : Type 0} (f : X → Y) (xs : List X) → length (map f xs) ≡ length xs
map-length f [] = refl
map-length f (x ∷ xs) = ap suc (map-length f xs)

-- an event has no more listeners than there are
pub snapshot-length : (target : Target) (name : List ℕ) (ls : List Listener) → length (snapshot target name ls) ≤ length ls
snapshot-length target name ls =
    let test : Listener → Bool = λ l. same_target l.target target && same_bytes l.name name in
    let a = map-length (λ (l : Listener). l.registration) (filter test ls) in
    let b = filter-length test ls in
    omega (arith, a, b)

-- ---- signals

-- what is put in place of an item that is alike leaves all alike
at_place : {X Y : Type 0} (f : X → Y) (xs : List X) (i j : ℕ) (x d : X) → f x ≡ f (unwrap_or (slice_get xs i) d) → f (unwrap_or (slice_get (slice_set xs i x) j) d) ≡ f (unwrap_or (slice_get xs j) d)
at_place f [] i j x d e = refl
at_place f (y ∷ xs) zero zero x d e = e
at_place f (y ∷ xs) zero (suc j) x d e = refl
at_place f (y ∷ xs) (suc i) zero x d e = refl
at_place f (y ∷ xs) (suc i) (suc j) x d e = at_place f xs i j x d e

pub alike-with : (ss : Signals Value) (s t : ℕ) (x : SignalRecord Value) → x.dependents ≡ (the_signal ss s).dependents → (the_signal (with_numbered ss s x) t).dependents ≡ (the_signal ss t).dependents
alike-with ss zero t x e = refl
alike-with ss (suc s) zero x e = refl
alike-with ss (suc s) (suc t) x e = at_place (λ (r : SignalRecord Value). r.dependents) ss s t x fresh_signal e

pub with_numbered-length : {X : Type 0} (xs : List X) (n : ℕ) (x : X) → length (with_numbered xs n x) ≡ length xs
with_numbered-length xs zero x = refl
with_numbered-length xs (suc n) x = length-set xs n x

-- the page with signals that are alike
pub near-signals : (p : Page) (ss : Signals Value) → length ss ≡ length p.signals → ((s : ℕ) → (the_signal ss s).dependents ≡ (the_signal p.signals s).dependents) → Near 0 (counted p) (counted (record p { signals = ss }))
near-signals p ss e h = record { registrations = omega arith; listeners = refl; signals = e; dependents = h; prios = refl }

reasons-length : (reason : Value) (ss : List ℕ) (signals : Signals Value) → length (with_reason reason ss signals) ≡ length signals
reasons-length reason [] signals = refl
reasons-length reason (s ∷ more) signals =
    reasons-length reason more (with_numbered signals s (record (the_signal signals s) { reason = Some reason })) ∙ with_numbered-length signals s _

reasons-alike : (reason : Value) (ss : List ℕ) (signals : Signals Value) (t : ℕ) → (the_signal (with_reason reason ss signals) t).dependents ≡ (the_signal signals t).dependents
reasons-alike reason [] signals t = refl
reasons-alike reason (s ∷ more) signals t =
    reasons-alike reason more (with_numbered signals s (record (the_signal signals s) { reason = Some reason })) t ∙ alike-with signals s t _ refl

-- ---- lines and notices

abbrev pub Leaves : (Page → Page) → Type 0
Leaves f = (p : Page) → counted (f p) ≡ counted p

pub emit_each-leaves : (lines : List Event) → Leaves (emit_each lines)
emit_each-leaves [] p = refl
emit_each-leaves (e ∷ more) p = emit_each-leaves more (emit e p)

pub on_notices-leaves : (f : Notices → Noticed) → Leaves (on_notices f)
on_notices-leaves f p = emit_each-leaves (f p.notices).lines (record p { notices = (f p.notices).notices })

pub settle-leaves : (n : ℕ) (how : Settled) → Leaves (promises.settle n how)
settle-leaves n how p = on_notices-leaves (settle_promise (context p) p.names n how) p

pub cond_of-leaves : (b : Bool) (f g : Page → Page) → Leaves f → Leaves g → Leaves (cond b f g)
cond_of-leaves true f g h k = h
cond_of-leaves false f g h k = k

abort_registration-leaves : (reason : Value) (r : ℕ) → Leaves (abort_registration reason r)
abort_registration-leaves reason r p =
    cond_of-leaves (has_not_begun r p) (drop_registration r) (λ q. q) (λ p. refl) (λ p. refl) (promises.reject (the_registration p r).promise reason p)
    ∙ settle-leaves (the_registration p r).promise (Failed reason) p

abort_registrations-leaves : (reason : Value) (rs : List ℕ) → Leaves (abort_registrations reason rs)
abort_registrations-leaves reason [] p = refl
abort_registrations-leaves reason (r ∷ more) p = abort_registrations-leaves reason more (abort_registration reason r p) ∙ abort_registration-leaves reason r p

pub run_algorithms-near : (s : ℕ) (p : Page) → Near 0 (counted p) (counted (run_algorithms s p))
run_algorithms-near s p =
    let emptied : Page = record p { signals = with_algorithms s [] p.signals } in
    near-then 0 (counted p) (counted emptied) (counted (run_algorithms s p))
    (near-signals p (with_algorithms s [] p.signals) (with_numbered-length p.signals s _) (λ t. alike-with p.signals s t _ refl))
    (near-equal (counted emptied) (counted (run_algorithms s p)) (abort_registrations-leaves (reason_value p s) (the_signal p.signals s).algorithms emptied))

pub reason_set-near : (reason : Value) (ss : List ℕ) (p : Page) → Near 0 (counted p) (counted (reason_set reason ss p))
reason_set-near reason ss p =
    let changed : Page = record p { signals = with_reason reason ss p.signals } in
    near-then 0 (counted p) (counted changed) (counted (reason_set reason ss p))
    (near-signals p (with_reason reason ss p.signals) (reasons-length reason ss p.signals) (reasons-alike reason ss p.signals))
    (near-equal (counted changed) (counted (reason_set reason ss p)) (emit_each-leaves (map Abort ss) changed))
