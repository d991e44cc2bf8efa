-- The records of the code at their places.
use Rattle.std.proofs.Common.{◌≡◌, ◌≢◌, Result, Ok, Err, OnErr, ℕ, ◌<◌, true, false, cond, List, [], ◌∷◌, ◌++◌, length, Option, Some, None, eqb, nat_eq, get_or, slice_set, slice_index_or, refl, sym, ap, subst, ◌∙◌, arith}
use Rattle.std.specs.BTreeMap.{BTreeMap, get, is_at}
use Rattle.std.specs.Cmp.{nat_eq_equiv}
use Rattle.std.specs.List.{IsDistinct}
use Rattle.std.specs.Ordering.{nat_cmp}
use Rattle.std.proofs.lemmas.Bool.Decides.{nat_tests}
use Rattle.std.proofs.lemmas.List.{map-set, map-append, length-map}
use Rattle.std.proofs.Math.ListN.{get_or-map}
use Rattle.std.proofs.Math.Seq.{map-set_same}
use Rattle.std.specs.Option.{option_map}
use Rattle.std.proofs.lemmas.Map.Keys.{IsDistinct-push}
use denote.Enum.Bare.{sameb}
use Rattle.page_types.specs.contracts.Priority.{the_type}
use Rattle.page_types.specs.declared.Priority.{Priority}
use Rattle.page_types.specs.declared.Priority.TheVariants.{Background, UserVisible, UserBlocking}
use Rattle.page_parts.specs.TaskSignals.{PrioRecord, Prios, record_of, changed_at, priority_of, followed, followers, is_changing}
use Rattle.task_signal.specs.declared.prios.Record.{Record}
use Rattle.std.specs.Result.{IsErrAnd}
use Rattle.task_signal.specs.Changes.{IsAnswer, IsStill}
use Rattle.task_signal.specs.declared.prios.Moved.{Moved}
use Rattle.task_signal.specs.declared.fault.ChangeFault.{ChangeFault}
use Rattle.task_signal.specs.declared.fault.ChangeFault.TheVariants.{Is, OutOfMemory}
use Rattle.task_signal.specs.Places.{IsPlaced, place_in, signals}
use Rattle.task_signal.specs.Seen.{record_seen, prios_of}
use Rattle.task_signal.proofs.PlaceLemmas.{found, changed_there, signals_kept, place_of_last, distinct_last}

seen_there : (rs : List Record) (i : ℕ) (d : Record) → get_or (prios_of rs) i (record_seen d) ≡ record_seen (get_or rs i d)
seen_there rs i d = get_or-map record_seen rs i d

module _ (s i : ℕ) (rs : List Record) (place : place_in (signals (prios_of rs)) s ≡ Some i) where
  pub within : i < length rs
  within = subst (λ n. i < n) (length-map rs record_seen) (found s i (prios_of rs) place).0

  -- the record that is read there
  pub read : (r : Record) → r ≡ slice_index_or rs i r → record_of (prios_of rs) s ≡ Some (record_seen r)
  read r is = (found s i (prios_of rs) place).1 (record_seen r) ∙ ap Some (seen_there rs i r ∙ sym (ap record_seen is))

  -- and the one that is written there
  pub written : (f : PrioRecord → PrioRecord) (r new : Record) → IsDistinct nat_eq (signals (prios_of rs)) → r ≡ slice_index_or rs i r → record_seen new ≡ f (record_seen r)
      → prios_of (slice_set rs i new) ≡ changed_at s f (prios_of rs)
  written f r new apart is made =
      let there = made ∙ ap (λ x. f (record_seen x)) is ∙ ap f (sym (seen_there rs i r)) in
      map-set record_seen rs i new ∙ ap (slice_set (prios_of rs) i) there ∙ changed_there s i f (prios_of rs) (record_seen r) place apart

-- a record that is seen as the one that stood there leaves all as it was
pub same_there : (rs : List Record) (i : ℕ) (r new : Record) → r ≡ slice_index_or rs i r → record_seen new ≡ record_seen r → prios_of (slice_set rs i new) ≡ prios_of rs
same_there rs i r new is same = map-set_same record_seen rs i new r (same ∙ ap record_seen is)

pub placed_same : (ps new : Prios) (places : BTreeMap ℕ ℕ) → new ≡ ps → IsPlaced ps places → IsPlaced new places
placed_same ps new places is placed = subst (λ qs. IsPlaced qs places) (sym is) placed

-- what a record that was read tells
module _ (s : ℕ) (ps : Prios) (r : PrioRecord) (is : record_of ps s ≡ Some r) where
  pub priority_read : priority_of ps s ≡ Some r.priority
  priority_read = ap (option_map (λ (r : PrioRecord). r.priority)) is

  pub followed_read : followed ps s ≡ r.follows
  followed_read = ap (λ (o : Option PrioRecord). elim o [ None ↦ None | Some r ↦ r.follows ]) is

  pub followers_read : followers ps s ≡ r.followers
  followers_read = ap (λ (o : Option PrioRecord). elim o [ None ↦ [] | Some r ↦ r.followers ]) is

  pub changing_read : is_changing ps s ≡ r.changing
  changing_read = ap (λ (o : Option PrioRecord). elim o [ None ↦ false | Some r ↦ r.changing ]) is

-- a change that keeps the signals keeps their places
pub placed_changed : (s : ℕ) (f : PrioRecord → PrioRecord) (ps new : Prios) (places : BTreeMap ℕ ℕ) → ((r : PrioRecord) → (f r).signal ≡ r.signal) → new ≡ changed_at s f ps → IsPlaced ps places → IsPlaced new places
placed_changed s f ps new places keeps is placed =
    let same : signals new ≡ signals ps = ap signals is ∙ signals_kept s f keeps ps in
    record {
      distinct = subst (IsDistinct nat_eq) (sym same) placed.distinct;
      placed = λ q. placed.placed q ∙ ap (λ ms. place_in ms q) (sym same);
    }

-- a new signal at the end
pub placed_last : (s : ℕ) (ps new : Prios) (r : PrioRecord) (old places : BTreeMap ℕ ℕ) → r.signal ≡ s → new ≡ ps ++ r ∷ [] → place_in (signals ps) s ≡ None
    → ((q : ℕ) → get nat_cmp places q ≡ cond (is_at (nat_cmp s) q) (Some (length ps)) (get nat_cmp old q)) → IsPlaced ps old → IsPlaced new places
placed_last s ps new r old places is made fresh updates placed =
    let longer : signals new ≡ signals ps ++ s ∷ [] = ap signals made ∙ rw (map-append, is) refl in
    let test : (q : ℕ) → is_at (nat_cmp s) q ≡ eqb s q = λ q. grind (arith, nat_tests) in
    record {
      distinct = subst (IsDistinct nat_eq) (sym longer) (IsDistinct-push nat_eq_equiv (signals ps) s placed.distinct (distinct_last s (signals ps) fresh));
      placed = λ q.
          updates q ∙ ap (λ b. cond b (Some (length ps)) (get nat_cmp old q)) (test q) ∙ ap (cond (eqb s q) (Some (length ps))) (placed.placed q)
          ∙ sym (ap (λ ms. place_in ms q) longer ∙ place_of_last q s (signals ps) fresh ∙ ap (λ n. cond (eqb s q) (Some n) (place_in (signals ps) q)) (length-map ps _));
    }

-- no record, and no place
pub placed_none : (ps : Prios) (places : BTreeMap ℕ ℕ) → ps ≡ [] → places.entries ≡ [] → IsPlaced ps places
unfolding IsDistinct
placed_none ps places none empty = record {
  distinct = rw none tt;
  placed = λ s. rw (none, empty) refl;
}

-- what an error leaves
pub leaves : {T E P : Type 0} (r : Result T E) → P → OnErr r P
leaves (Ok x) p = tt
leaves (Err e) p = p

-- whether two priorities are the same
pub same_if : (a b : Priority) → sameb the_type a b ≡ true → a ≡ b
same_if Background Background h = refl
same_if Background UserVisible h = cc
same_if Background UserBlocking h = cc
same_if UserVisible Background h = cc
same_if UserVisible UserVisible h = refl
same_if UserVisible UserBlocking h = cc
same_if UserBlocking Background h = cc
same_if UserBlocking UserVisible h = cc
same_if UserBlocking UserBlocking h = refl

pub differ_if : (a b : Priority) → sameb the_type a b ≡ false → a ≢ b
differ_if Background Background h e = cc
differ_if Background UserVisible h e = cc
differ_if Background UserBlocking h e = cc
differ_if UserVisible Background h e = cc
differ_if UserVisible UserVisible h e = cc
differ_if UserVisible UserBlocking h e = cc
differ_if UserBlocking Background h e = cc
differ_if UserBlocking UserVisible h e = cc
differ_if UserBlocking UserBlocking h e = cc

-- the record of the signal has another priority
pub other_priority : (s : ℕ) (ps : Prios) (a b : Priority) → priority_of ps s ≡ Some a → a ≢ b → priority_of ps s ≢ Some b
other_priority s ps a b is other e = let same : a ≡ b = cc in other same

-- want of memory is answered where the change would begin
pub wants_memory : (s : ℕ) (p : Priority) (ps : Prios) (r : Result (Option Moved) ChangeFault) → IsErrAnd r (λ e. e ≡ OutOfMemory) → IsStill s ps → priority_of ps s ≢ Some p → IsAnswer s p ps r
wants_memory s p ps (Ok x) h still other = absurd h
wants_memory s p ps (Err OutOfMemory) h still other = (still, other)
wants_memory s p ps (Err (Is changing)) h still other = cc
