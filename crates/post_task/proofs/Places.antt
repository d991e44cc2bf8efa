-- Where the lists of a priority source are.
use Rattle.std.proofs.Common.{◌≡◌, ◌⊎◌, ℕ, suc, ◌≤◌, ◌<◌, Bool, true, false, cond, eqb, List, [], ◌∷◌, ◌++◌, map, length, get_or, set, Option, Some, None, refl, sym, ◌∙◌, ap, subst, inl, inr, arith}
use Rattle.std.specs.Prelude.{IsSome, is_some, Result, Ok, Err, OnOk, OnErr, is_err}
use Rattle.std.specs.BTreeMap.{BTreeMap, get}
use Rattle.std.specs.List.{find}
use Rattle.std.specs.Option.{option_map, option_or}
use Rattle.std.specs.Ordering.{nat_cmp}
use Rattle.std.proofs.lemmas.Bool.{eqb-true}
use Rattle.std.proofs.lemmas.Bool.Decides.{nat_tests}
use Rattle.page_types.specs.declared.Priority.{Priority}
use Rattle.page_types.specs.declared.Priority.TheVariants.{Background, UserVisible, UserBlocking}
use Rattle.page_parts.specs.TaskSignals.{rank, same_priority}
use Rattle.task_pool.specs.Lists.{Lists}
use Rattle.post_task.specs.declared.level.Level.{Level}
use Rattle.post_task.specs.declared.level.PrioSource.{PrioSource}
use Rattle.post_task.specs.declared.level.PrioSource.TheVariants.{Fixed, Signal}
use Rattle.post_task.specs.Waiting.{same_source}
use Rattle.post_task.specs.Levels.{all_queues, has_source, priority_in, place_of, moved_level, HasRoom, AreApart, AreBehind, ListsRise, StandsNext, ArePlaced, AreKept}
use Rattle.post_task.proofs.Best.{any_level}

same_priority-true : (a b : Priority) → same_priority a b ≡ true → a ≡ b
same_priority-true Background Background h = refl
same_priority-true Background UserVisible h = absurd (cc)
same_priority-true Background UserBlocking h = absurd (cc)
same_priority-true UserVisible Background h = absurd (cc)
same_priority-true UserVisible UserVisible h = refl
same_priority-true UserVisible UserBlocking h = absurd (cc)
same_priority-true UserBlocking Background h = absurd (cc)
same_priority-true UserBlocking UserVisible h = absurd (cc)
same_priority-true UserBlocking UserBlocking h = refl

pub same_source-true : (a b : PrioSource) → same_source a b ≡ true → a ≡ b
same_source-true (Fixed a) (Fixed b) h = ap (λ (p : Priority). Fixed p) (same_priority-true a b h)
same_source-true (Signal a) (Signal b) h = ap (λ (s : ℕ). Signal s) (eqb-true a b h)
same_source-true (Fixed a) (Signal b) h = absurd (cc)
same_source-true (Signal a) (Fixed b) h = absurd (cc)

turned : (a b : ℕ) → eqb a b ≡ eqb b a
turned a b = grind (arith, nat_tests)

pub same_source-turned : (a b : PrioSource) → same_source a b ≡ same_source b a
same_source-turned (Fixed a) (Fixed b) = turned (rank a) (rank b)
same_source-turned (Signal a) (Signal b) = turned a b
same_source-turned (Fixed a) (Signal b) = refl
same_source-turned (Signal a) (Fixed b) = refl

place_is : (a b : ℕ) → Some a ≡ Some b → a ≡ b
place_is a b h = cc

no_place : (a : ℕ) → None ≡ Some a → ⊥
no_place a h = cc

-- what is at a place that is found
pub record At (levels : List Level) (source : PrioSource) (place : ℕ) : Type 0 where
  pub within : place < length levels
  pub found : (d : Level) → find (has_source source) levels ≡ Some (get_or levels place d)

at_step : (l : Level) (ls : List Level) (source : PrioSource) (place : ℕ) (b : Bool) (o : Option ℕ) → has_source source l ≡ b → place_of ls source ≡ o → cond b (Some 0) (option_map suc o) ≡ Some place
    → ((n : ℕ) → place_of ls source ≡ Some n → At ls source n) → At (l ∷ ls) source place
at_step l ls source place true o is rest h again =
    let first : place ≡ 0 = sym (place_is 0 place h) in
    let P : ℕ → Type 0 = λ n. At (l ∷ ls) source n in
    subst P (sym first) (record { within = omega arith; found = λ d. ap (λ (b : Bool). cond b (Some l) (find (has_source source) ls)) is })
at_step l ls source place false None is rest h again = absurd (no_place place h)
at_step l ls source place false (Some n) is rest h again =
    let next : place ≡ suc n = sym (place_is (suc n) place h) in
    let a = again n rest in
    let w = a.within in
    let P : ℕ → Type 0 = λ m. At (l ∷ ls) source m in
    subst P (sym next) (record { within = omega (arith, w); found = λ d. ap (λ (b : Bool). cond b (Some l) (find (has_source source) ls)) is ∙ a.found d })

pub at_place : (levels : List Level) (source : PrioSource) (place : ℕ) → place_of levels source ≡ Some place → At levels source place
at_place [] source place h = absurd (no_place place h)
at_place (l ∷ ls) source place h = at_step l ls source place (has_source source l) (place_of ls source) refl refl h (λ n e. at_place ls source n e)

missing_step : (l : Level) (ls : List Level) (source : PrioSource) (b : Bool) (o : Option ℕ) → place_of ls source ≡ o → cond b (Some 0) (option_map suc o) ≡ None → (place_of ls source ≡ None → find (has_source source) ls ≡ None) → cond b (Some l) (find (has_source source) ls) ≡ None
missing_step l ls source true o rest h again = absurd (no_place 0 (sym h))
missing_step l ls source false None rest h again = again rest
missing_step l ls source false (Some n) rest h again = absurd (no_place (suc n) (sym h))

-- a source with no place has no lists
pub missing : (levels : List Level) (source : PrioSource) → place_of levels source ≡ None → find (has_source source) levels ≡ None
missing [] source h = refl
missing (l ∷ ls) source h = missing_step l ls source (has_source source l) (place_of ls source) refl h (missing ls source)

apart_step : (l : Level) (ls : List Level) (source : PrioSource) (b : Bool) (o : Option ℕ) → has_source source l ≡ b → place_of ls source ≡ o → cond b (Some 0) (option_map suc o) ≡ None → (has_source source l ≡ false) × (place_of ls source ≡ None)
apart_step l ls source true o is rest h = absurd (no_place 0 (sym h))
apart_step l ls source false None is rest h = (is, rest)
apart_step l ls source false (Some n) is rest h = absurd (no_place (suc n) (sym h))

split_none : (l : Level) (ls : List Level) (source : PrioSource) → place_of (l ∷ ls) source ≡ None → (has_source source l ≡ false) × (place_of ls source ≡ None)
split_none l ls source h = apart_step l ls source (has_source source l) (place_of ls source) refl refl h

level_none : (o : Option Level) → option_map (λ (level : Level). level.priority) o ≡ None → o ≡ None
level_none None h = refl
level_none (Some l) h = absurd (cc)

pub none_place : (o : Option ℕ) → is_some o ≡ false → o ≡ None
none_place None h = refl
none_place (Some n) h = absurd (cc)

-- a source with a place has lists
pub some_found : (levels : List Level) (source : PrioSource) (o : Option ℕ) (d : Level) → place_of levels source ≡ o → is_some o ≡ true → is_some (find (has_source source) levels) ≡ true
some_found levels source None d is h = absurd (cc)
some_found levels source (Some n) d is h = ap is_some ((at_place levels source n is).found d)

none_in : (levels : List Level) (source : PrioSource) (priority : Priority) → find (has_source source) levels ≡ None → priority_in levels source ≡ Some priority → ⊥
none_in levels source priority none h = let e : None ≡ Some priority = sym (ap (option_map (λ (level : Level). level.priority)) none) ∙ h in cc

-- a fixed priority stands at its place
pub fixed_place : (levels : List Level) (places : BTreeMap ℕ ℕ) (p : Priority) → ArePlaced levels places → priority_in levels (Fixed p) ≡ Some p → (o : Option ℕ) → place_of levels (Fixed p) ≡ o → o ≡ Some (rank p)
fixed_place levels places p a h None is = absurd (none_in levels (Fixed p) p (missing levels (Fixed p) is) h)
fixed_place levels places p a h (Some n) is = ap (λ (m : ℕ). Some m) (a.fixed p n is)

in_queues : (levels : List Level) (s : ℕ) (o : Option ℕ) (d : Level) → IsSome (priority_in levels (Signal s)) → place_of levels (Signal s) ≡ o → is_some o ≡ true
in_queues levels s None d room is = absurd (none_room (find (has_source (Signal s)) levels) (missing levels (Signal s) is) room)
  where
    none_room : (o : Option Level) → o ≡ None → IsSome (option_map (λ (level : Level). level.priority) o) → ⊥
    none_room None e h = cc
    none_room (Some l) e h = cc
in_queues levels s (Some n) d room is = refl

-- a source with room has a place
pub room_place : (levels : List Level) (places : BTreeMap ℕ ℕ) (source : PrioSource) → ArePlaced levels places → ((p : Priority) → priority_in levels (Fixed p) ≡ Some p) → HasRoom levels source → is_some (place_of levels source) ≡ true
room_place levels places (Fixed p) a fixed room = ap is_some (fixed_place levels places p a (fixed p) (place_of levels (Fixed p)) refl)
room_place levels places (Signal s) a fixed room = in_queues levels s (place_of levels (Signal s)) any_level room refl

-- ---- a change of levels that keeps their sources and lists

pub record Keeps (f : Level → Level) : Type 0 where
  pub source : (l : Level) → (f l).source ≡ l.source
  pub plain : (l : Level) → (f l).plain.0 ≡ l.plain.0
  pub continuations : (l : Level) → (f l).continuations.0 ≡ l.continuations.0

pub moved_keeps : (s : ℕ) (p : Priority) → Keeps (moved_level s p)
moved_keeps s p = record {
  source = λ l. elim (has_source (Signal s) l) as (λ t. (cond t (record l { priority = p }) l).source ≡ l.source) [ true ↦ refl | false ↦ refl ];
  plain = λ l. elim (has_source (Signal s) l) as (λ t. (cond t (record l { priority = p }) l).plain.0 ≡ l.plain.0) [ true ↦ refl | false ↦ refl ];
  continuations = λ l. elim (has_source (Signal s) l) as (λ t. (cond t (record l { priority = p }) l).continuations.0 ≡ l.continuations.0) [ true ↦ refl | false ↦ refl ];
}

module _ (f : Level → Level) (keeps : Keeps f) where
  place_kept : (levels : List Level) (source : PrioSource) → place_of (map f levels) source ≡ place_of levels source
  place_kept [] source = refl
  place_kept (l ∷ ls) source =
      ap (λ (x : PrioSource). cond (same_source x source) (Some 0) (option_map suc (place_of (map f ls) source))) (keeps.source l)
      ∙ ap (λ (o : Option ℕ). cond (has_source source l) (Some 0) (option_map suc o)) (place_kept ls source)

  apart_kept : (levels : List Level) → AreApart levels → AreApart (map f levels)
  apart_kept [] a = tt
  apart_kept (l ∷ ls) a = (ap (place_of (map f ls)) (keeps.source l) ∙ place_kept ls l.source ∙ a.0, apart_kept ls a.1)

  behind_kept : (n : ℕ) (levels : List Level) → AreBehind n levels → AreBehind n (map f levels)
  behind_kept n [] a = tt
  behind_kept n (l ∷ ls) a = (subst (λ (m : ℕ). n < m) (sym (keeps.plain l)) a.0, subst (λ (m : ℕ). n < m) (sym (keeps.continuations l)) a.1, behind_kept n ls a.2)

  rise_kept : (levels : List Level) → ListsRise levels → ListsRise (map f levels)
  rise_kept [] a = tt
  rise_kept (l ∷ ls) a =
      let first : (f l).plain.0 < (f l).continuations.0 = omega (arith, a.0, keeps.plain l, keeps.continuations l) in
      (first, subst (λ (m : ℕ). AreBehind m (map f ls)) (sym (keeps.continuations l)) (behind_kept l.continuations.0 ls a.1), rise_kept ls a.2)

  pub placed_kept : (levels : List Level) (places : BTreeMap ℕ ℕ) → ArePlaced levels places → ArePlaced (map f levels) places
  placed_kept levels places a =
      record {
        apart = apart_kept levels a.apart;
        rising = rise_kept levels a.rising;
        fixed = λ p place e. a.fixed p place (sym (place_kept levels (Fixed p)) ∙ e);
        known = λ s. a.known s ∙ sym (place_kept levels (Signal s));
      }

-- ---- the priority of a signal changes at its place

none_step : (l : Level) (s : ℕ) (p : Priority) (ls : List Level) (old : Option Level) (t : Bool) → cond t (Some l) old ≡ None → (old ≡ None → map (moved_level s p) ls ≡ ls) → cond t (record l { priority = p }) l ∷ map (moved_level s p) ls ≡ l ∷ ls
none_step l s p ls old true is h = absurd (cc)
none_step l s p ls old false is h = ap (λ (x : List Level). l ∷ x) (h is)

pub none_moved : (s : ℕ) (p : Priority) (levels : List Level) → find (has_source (Signal s)) levels ≡ None → map (moved_level s p) levels ≡ levels
none_moved s p [] h = refl
none_moved s p (l ∷ ls) h = none_step l s p ls (find (has_source (Signal s)) ls) (same_source l.source (Signal s)) h (λ x. none_moved s p ls x)

moved_step : (l : Level) (ls : List Level) (s place : ℕ) (p : Priority) (d : Level) (b : Bool) (o : Option ℕ) → has_source (Signal s) l ≡ b → place_of ls (Signal s) ≡ o → cond b (Some 0) (option_map suc o) ≡ Some place → place_of ls l.source ≡ None
    → ((n : ℕ) → place_of ls (Signal s) ≡ Some n → map (moved_level s p) ls ≡ set ls n (record (get_or ls n d) { priority = p }))
    → cond b (record l { priority = p }) l ∷ map (moved_level s p) ls ≡ set (l ∷ ls) place (record (get_or (l ∷ ls) place d) { priority = p })
moved_step l ls s place p d true o is rest h apart again =
    let first : 0 ≡ place = place_is 0 place h in
    let none = missing ls (Signal s) (ap (place_of ls) (sym (same_source-true l.source (Signal s) is)) ∙ apart) in
    ap (λ (x : List Level). record l { priority = p } ∷ x) (none_moved s p ls none) ∙ ap (λ (n : ℕ). set (l ∷ ls) n (record (get_or (l ∷ ls) n d) { priority = p })) first
moved_step l ls s place p d false None is rest h apart again = absurd (no_place place h)
moved_step l ls s place p d false (Some n) is rest h apart again =
    let next : suc n ≡ place = place_is (suc n) place h in
    ap (λ (x : List Level). l ∷ x) (again n rest) ∙ ap (λ (m : ℕ). set (l ∷ ls) m (record (get_or (l ∷ ls) m d) { priority = p })) next

pub moved_at : (levels : List Level) (s place : ℕ) (p : Priority) (d : Level) → AreApart levels → place_of levels (Signal s) ≡ Some place → map (moved_level s p) levels ≡ set levels place (record (get_or levels place d) { priority = p })
moved_at [] s place p d a h = absurd (no_place place h)
moved_at (l ∷ ls) s place p d a h = moved_step l ls s place p d (has_source (Signal s) l) (place_of ls (Signal s)) refl refl h a.0 (λ n e. moved_at ls s n p d a.1 e)

-- ---- one more source

or_suc : (a b : Option ℕ) → option_map suc (option_or a b) ≡ option_or (option_map suc a) (option_map suc b)
or_suc None b = refl
or_suc (Some n) b = refl

last_suc : (n : ℕ) (b : Bool) → option_map suc (cond b (Some n) None) ≡ cond b (Some (suc n)) None
last_suc n true = refl
last_suc n false = refl

if_or : (b : Bool) (x y : Option ℕ) → cond b (Some 0) (option_or x y) ≡ option_or (cond b (Some 0) x) y
if_or true x y = refl
if_or false x y = refl

place_push : (ls : List Level) (l : Level) (source : PrioSource) → place_of (ls ++ l ∷ []) source ≡ option_or (place_of ls source) (cond (has_source source l) (Some (length ls)) None)
place_push [] l source = refl
place_push (y ∷ ys) l source =
    ap (λ (o : Option ℕ). cond (has_source source y) (Some 0) (option_map suc o)) (place_push ys l source)
    ∙ ap (cond (has_source source y) (Some 0)) (or_suc (place_of ys source) (cond (has_source source l) (Some (length ys)) None))
    ∙ ap (λ (o : Option ℕ). cond (has_source source y) (Some 0) (option_or (option_map suc (place_of ys source)) o)) (last_suc (length ys) (has_source source l))
    ∙ if_or (has_source source y) (option_map suc (place_of ys source)) (cond (has_source source l) (Some (suc (length ys))) None)

pub none_push : (ls : List Level) (l : Level) (source : PrioSource) → place_of ls source ≡ None → has_source source l ≡ false → place_of (ls ++ l ∷ []) source ≡ None
none_push ls l source none other =
    place_push ls l source ∙ ap (λ (o : Option ℕ). option_or o (cond (has_source source l) (Some (length ls)) None)) none ∙ ap (λ (b : Bool). cond b (Some (length ls)) None) other

apart_push : (ls : List Level) (l : Level) → AreApart ls → place_of ls l.source ≡ None → AreApart (ls ++ l ∷ [])
apart_push [] l a none = (refl, tt)
apart_push (y ∷ ys) l a none =
    let n = split_none y ys l.source none in
    (none_push ys l y.source a.0 (same_source-turned l.source y.source ∙ n.0), apart_push ys l a.1 n.1)

behind_push : (n : ℕ) (ls : List Level) (l : Level) → AreBehind n ls → n < l.plain.0 → n < l.continuations.0 → AreBehind n (ls ++ l ∷ [])
behind_push n [] l a p c = (p, c, tt)
behind_push n (y ∷ ys) l a p c = (a.0, a.1, behind_push n ys l a.2 p c)

fixed_case : (o : Option ℕ) (b : Bool) (n place : ℕ) → option_or o (cond b (Some n) None) ≡ Some place → (o ≡ Some place) ⊎ ((b ≡ true) × (place ≡ n))
fixed_case (Some m) b n place h = inl h
fixed_case None true n place h = inr (refl, sym (place_is n place h))
fixed_case None false n place h = absurd (no_place place h)

next_is : (source : PrioSource) (ls : List Level) (p : Priority) → StandsNext source ls → source ≡ Fixed p → length ls ≡ rank p
next_is source ls p next is = subst (λ (x : PrioSource). StandsNext x ls) is next

known_case : (o : Option ℕ) (b : Bool) (n : ℕ) → (b ≡ true → o ≡ None) → cond b (Some n) o ≡ option_or o (cond b (Some n) None)
known_case None true n h = refl
known_case None false n h = refl
known_case (Some m) true n h = absurd (no_place m (sym (h refl)))
known_case (Some m) false n h = refl

module _ {T : Type 0} where
  pub rise_push : (pool : Lists T) (ls : List Level) (l : Level) → AreKept pool (all_queues ls) → ListsRise ls → length pool.lists ≤ l.plain.0 → l.plain.0 < l.continuations.0 → ListsRise (ls ++ l ∷ [])
  rise_push pool [] l k a p c = (c, tt, tt)
  rise_push pool (y ∷ ys) l k a p c =
      let i = k.3.0 in
      (a.0, behind_push y.continuations.0 ys l a.1 (omega (arith, i, p)) (omega (arith, i, p, c)), rise_push pool ys l k.3.3 a.2 p c)

pub placed_push : (ls : List Level) (l : Level) (old new : BTreeMap ℕ ℕ) (n : ℕ) → ArePlaced ls old → ListsRise (ls ++ l ∷ []) → place_of ls l.source ≡ None → StandsNext l.source ls
    → n ≡ length ls
    → ((s : ℕ) → get nat_cmp new s ≡ cond (same_source l.source (Signal s)) (Some n) (get nat_cmp old s)) → ArePlaced (ls ++ l ∷ []) new
placed_push ls l old new n a rising none next size updates =
    record {
      apart = apart_push ls l a.apart none;
      rising = rising;
      fixed = λ priority place e.
          elim (fixed_case (place_of ls (Fixed priority)) (has_source (Fixed priority) l) (length ls) place (sym (place_push ls l (Fixed priority)) ∙ e)) [
            | inl before ↦ a.fixed priority place before
            | inr last ↦ last.1 ∙ next_is l.source ls priority next (same_source-true l.source (Fixed priority) last.0)
          ];
      known = λ s.
          updates s
          ∙ ap (λ (m : ℕ). cond (same_source l.source (Signal s)) (Some m) (get nat_cmp old s)) size
          ∙ ap (cond (same_source l.source (Signal s)) (Some (length ls))) (a.known s)
          ∙ known_case (place_of ls (Signal s)) (same_source l.source (Signal s)) (length ls) (λ e. ap (place_of ls) (sym (same_source-true l.source (Signal s) e)) ∙ none)
          ∙ sym (place_push ls l (Signal s));
    }

-- the places are known as before
pub placed_still : (ls : List Level) (old new : BTreeMap ℕ ℕ) → ArePlaced ls old → ((s : ℕ) → get nat_cmp new s ≡ get nat_cmp old s) → ArePlaced ls new
placed_still ls old new a same = record { apart = a.apart; rising = a.rising; fixed = a.fixed; known = λ s. same s ∙ a.known s }

undone_case : (o : Option ℕ) (b : Bool) (n : ℕ) → (b ≡ true → o ≡ None) → cond b None (cond b (Some n) o) ≡ o
undone_case o true n h = sym (h refl)
undone_case o false n h = refl

-- a place that was noted and is forgotten again
pub placed_undone : (ls : List Level) (source : PrioSource) (old mid new : BTreeMap ℕ ℕ) (n : ℕ) → ArePlaced ls old → place_of ls source ≡ None
    → ((s : ℕ) → get nat_cmp mid s ≡ cond (same_source source (Signal s)) (Some n) (get nat_cmp old s)) → ((s : ℕ) → get nat_cmp new s ≡ cond (same_source source (Signal s)) None (get nat_cmp mid s)) → ArePlaced ls new
placed_undone ls source old mid new n a none noted forgotten =
    placed_still ls old new a
    (λ s.
    forgotten s
    ∙ ap (cond (same_source source (Signal s)) None) (noted s)
    ∙ undone_case (get nat_cmp old s) (same_source source (Signal s)) n (λ e. a.known s ∙ ap (place_of ls) (sym (same_source-true source (Signal s) e)) ∙ none))

pub placed_none : (levels : List Level) (places : BTreeMap ℕ ℕ) → levels ≡ [] → places.entries ≡ [] → ArePlaced levels places
placed_none levels places none empty =
    let P : List Level → Type 0 = λ ls. ArePlaced ls places in
    subst P (sym none) (record { apart = tt; rising = tt; fixed = λ p place e. absurd (no_place place e); known = λ s. rw empty refl })

-- what a call that was no error ensures
pub was_ok : {A E P : Type 0} (r : Result A E) → is_err r ≡ false → OnOk r P → P
was_ok (Ok x) h p = p
was_ok (Err e) h p = absurd (cc)

-- what one that was an error ensures
pub was_err : {A E P : Type 0} (r : Result A E) → is_err r ≡ true → OnErr r P → P
was_err (Ok x) h p = absurd (cc)
was_err (Err e) h p = p
