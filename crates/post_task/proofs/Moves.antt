-- What waits once a priority has changed, and once a source has got its lists.
use Rattle.std.proofs.Common.{◌≡◌, ◌≢◌, ℕ, zero, suc, ◌+◌, ◌≤◌, ◌<◌, Bool, true, false, cond, List, [], ◌∷◌, ◌++◌, map, length, get_or, set, Option, Some, None, refl, sym, ◌∙◌, ap, subst, arith, length-append}
use Rattle.std.specs.Prelude.{IsSome}
use Rattle.std.specs.List.{find}
use Rattle.std.specs.Option.{option_map, option_or}
use Rattle.std.proofs.lemmas.List.{append_assoc, append-nil, map-append, map-set, get_or-map, get_or_past}
use Rattle.std.proofs.lemmas.List.Folds.{find-append}
use Rattle.std.proofs.lemmas.Bool.{eq-eqb}
use Rattle.page_types.specs.declared.Priority.{Priority}
use Rattle.page_types.specs.declared.Priority.TheVariants.{Background, UserVisible, UserBlocking}
use Rattle.task_pool.specs.Lists.{Entry, Lists, list_of}
use Rattle.post_task.specs.declared.level.Level.{Level}
use Rattle.post_task.specs.declared.level.PrioSource.{PrioSource}
use Rattle.post_task.specs.declared.level.PrioSource.TheVariants.{Fixed, Signal}
use Rattle.post_task.specs.Waiting.{Waiting, moved, same_source}
use Rattle.post_task.specs.declared.tournament.Head.{Head}
use Rattle.post_task.specs.Tournament.{moved_head}
use Rattle.post_task.specs.Heads.{effective_of, head_in, first_of, firsts}
use Rattle.post_task.specs.Levels.{Sched, Queue, queues_of, all_queues, has_source, priority_in, place_of, moved_level, Lone, in_queue, of_queue, waiting_in, waiting, Rises, AreKept, Kept, Added, SameBut}
use Rattle.post_task.proofs.Tasks.{kept_each}
use Rattle.post_task.proofs.Firsts.{firsts_same, first_moved}
use Rattle.post_task.proofs.Places.{none_moved, none_push, same_source-true, same_source-turned}

abbrev pub moved_queue : ℕ → Priority → Queue → Queue
moved_queue s p q = cond (same_source q.source (Signal s)) (record q { priority = p }) q

pub list_stays : (s : ℕ) (p : Priority) (q : Queue) → (moved_queue s p q).list ≡ q.list
list_stays s p q = elim (same_source q.source (Signal s)) as (λ t. (cond t (record q { priority = p }) q).list ≡ q.list) [ true ↦ refl | false ↦ refl ]

queues_moved : (s : ℕ) (p : Priority) (l : Level) → queues_of (moved_level s p l) ≡ map (moved_queue s p) (queues_of l)
queues_moved s p l =
    let plain : Queue = record { source = l.source; priority = l.priority; continuation = false; list = l.plain.0 } in
    let more : Queue = record { source = l.source; priority = l.priority; continuation = true; list = l.continuations.0 } in
    elim (same_source l.source (Signal s)) as (λ t. queues_of (cond t (record l { priority = p }) l) ≡ cond t (record plain { priority = p }) plain ∷ cond t (record more { priority = p }) more ∷ []) [ true ↦ refl | false ↦ refl ]

pub all_moved : (s : ℕ) (p : Priority) (levels : List Level) → all_queues (map (moved_level s p) levels) ≡ map (moved_queue s p) (all_queues levels)
all_moved s p [] = refl
all_moved s p (l ∷ ls) =
    ap (λ (qs : List Queue). qs ++ all_queues (map (moved_level s p) ls)) (queues_moved s p l)
    ∙ ap (λ (qs : List Queue). map (moved_queue s p) (queues_of l) ++ qs) (all_moved s p ls)
    ∙ sym (map-append (moved_queue s p) (queues_of l) (all_queues ls))

lone_moved : (s : ℕ) (p : Priority) (n : ℕ) (qs : List Queue) → Lone n qs → Lone n (map (moved_queue s p) qs)
lone_moved s p n [] l = tt
lone_moved s p n (q ∷ qs) l = (λ e. l.0 (sym (list_stays s p q) ∙ e), lone_moved s p n qs l.1)

signal_only : (x : PrioSource) (s : ℕ) (f : Priority) → same_source x (Signal s) ≡ true → same_source x (Fixed f) ≡ false
signal_only (Fixed a) s f h = absurd (cc)
signal_only (Signal a) s f h = refl

abbrev pub priority_at : Option Level → Option Priority
priority_at o = option_map (λ (level : Level). level.priority) o

fixed_step : (l : Level) (s : ℕ) (p f : Priority) (rest old : Option Level) (t : Bool) → same_source l.source (Signal s) ≡ t → priority_at rest ≡ priority_at old
    → priority_at (cond (has_source (Fixed f) (cond t (record l { priority = p }) l)) (Some (cond t (record l { priority = p }) l)) rest) ≡ priority_at (cond (has_source (Fixed f) l) (Some l) old)
fixed_step l s p f rest old true is h =
    let not_fixed : same_source l.source (Fixed f) ≡ false = signal_only l.source s f is in
    ap (λ (b : Bool). priority_at (cond b (Some (record l { priority = p })) rest)) not_fixed ∙ h ∙ sym (ap (λ (b : Bool). priority_at (cond b (Some l) old)) not_fixed)
fixed_step l s p f rest old false is h =
    elim (has_source (Fixed f) l) as (λ b. priority_at (cond b (Some l) rest) ≡ priority_at (cond b (Some l) old)) [ true ↦ refl | false ↦ h ]

pub fixed_stays : (s : ℕ) (p f : Priority) (levels : List Level) → priority_in (map (moved_level s p) levels) (Fixed f) ≡ priority_in levels (Fixed f)
fixed_stays s p f [] = refl
fixed_stays s p f (l ∷ ls) = fixed_step l s p f (find (has_source (Fixed f)) (map (moved_level s p) ls)) (find (has_source (Fixed f)) ls) (same_source l.source (Signal s)) refl (fixed_stays s p f ls)

room_step : (l : Level) (s : ℕ) (p : Priority) (rest old : Option Level) (t : Bool) → same_source l.source (Signal s) ≡ t → (IsSome old → priority_at rest ≡ Some p) → IsSome (cond t (Some l) old)
    → priority_at (cond (has_source (Signal s) (cond t (record l { priority = p }) l)) (Some (cond t (record l { priority = p }) l)) rest) ≡ Some p
room_step l s p rest old true is h some = ap (λ (b : Bool). priority_at (cond b (Some (record l { priority = p })) rest)) is
room_step l s p rest old false is h some = ap (λ (b : Bool). priority_at (cond b (Some l) rest)) is ∙ h some

pub room_moved : (s : ℕ) (p : Priority) (levels : List Level) → IsSome (find (has_source (Signal s)) levels) → priority_in (map (moved_level s p) levels) (Signal s) ≡ Some p
room_moved s p [] some = absurd (cc)
room_moved s p (l ∷ ls) some =
    room_step l s p (find (has_source (Signal s)) (map (moved_level s p) ls)) (find (has_source (Signal s)) ls) (same_source l.source (Signal s)) refl (λ h. room_moved s p ls h) some

other_step : (l : Level) (s : ℕ) (p : Priority) (source : PrioSource) (rest old : Option Level) (t : Bool) → same_source l.source (Signal s) ≡ t → same_source source (Signal s) ≡ false → priority_at rest ≡ priority_at old
    → priority_at (cond (has_source source (cond t (record l { priority = p }) l)) (Some (cond t (record l { priority = p }) l)) rest) ≡ priority_at (cond (has_source source l) (Some l) old)
other_step l s p source rest old true is other h =
    let not_it : same_source l.source source ≡ false = ap (λ (x : PrioSource). same_source x source) (same_source-true l.source (Signal s) is) ∙ same_source-turned (Signal s) source ∙ other in
    ap (λ (b : Bool). priority_at (cond b (Some (record l { priority = p })) rest)) not_it ∙ h ∙ sym (ap (λ (b : Bool). priority_at (cond b (Some l) old)) not_it)
other_step l s p source rest old false is other h =
    elim (has_source source l) as (λ b. priority_at (cond b (Some l) rest) ≡ priority_at (cond b (Some l) old)) [ true ↦ refl | false ↦ h ]

-- every other source keeps its priority
pub other_moved : (s : ℕ) (p : Priority) (levels : List Level) → SameBut (Signal s) levels (map (moved_level s p) levels)
other_moved s p [] source other = refl
other_moved s p (l ∷ ls) source other =
    other_step l s p source (find (has_source source) (map (moved_level s p) ls)) (find (has_source source) ls) (same_source l.source (Signal s)) refl other (other_moved s p ls source other)

none_else : (o : Option Level) → option_or o None ≡ o
none_else None = refl
none_else (Some l) = refl

other_push : (ls : List Level) (l : Level) (source : PrioSource) → same_source l.source source ≡ false → priority_in (ls ++ l ∷ []) source ≡ priority_in ls source
other_push ls l source other =
    ap priority_at (find-append (has_source source) ls (l ∷ []))
    ∙ ap (λ (b : Bool). priority_at (option_or (find (has_source source) ls) (cond b (Some l) None))) other
    ∙ ap priority_at (none_else (find (has_source source) ls))

pub all-append : (ls : List Level) (l : Level) → all_queues (ls ++ l ∷ []) ≡ all_queues ls ++ queues_of l
all-append [] l = append-nil (queues_of l)
all-append (x ∷ xs) l = ap (λ (qs : List Queue). queues_of x ++ qs) (all-append xs l) ∙ sym (append_assoc (queues_of x) (all_queues xs) (queues_of l))

still_found : (o rest : Option Level) (x : Priority) → priority_at o ≡ Some x → priority_at (option_or o rest) ≡ Some x
still_found None rest x h = absurd (cc)
still_found (Some l) rest x h = h

pub still_fixed : (ls : List Level) (l : Level) (source : PrioSource) (x : Priority) → priority_in ls source ≡ Some x → priority_in (ls ++ l ∷ []) source ≡ Some x
still_fixed ls l source x h = ap priority_at (find-append (has_source source) ls (l ∷ [])) ∙ still_found (find (has_source source) ls) (find (has_source source) (l ∷ [])) x h

same_itself : (x : PrioSource) → same_source x x ≡ true
same_itself (Fixed Background) = refl
same_itself (Fixed UserVisible) = refl
same_itself (Fixed UserBlocking) = refl
same_itself (Signal s) = eq-eqb s s refl

pub found_last : (ls : List Level) (l : Level) (source : PrioSource) → l.source ≡ source → find (has_source source) ls ≡ None → priority_in (ls ++ l ∷ []) source ≡ Some l.priority
found_last ls l source is none =
    ap priority_at (find-append (has_source source) ls (l ∷ []))
    ∙ ap (λ (o : Option Level). priority_at (option_or o (find (has_source source) (l ∷ [])))) none
    ∙ ap (λ (b : Bool). priority_at (cond b (Some l) None)) (ap (λ (x : PrioSource). same_source x source) is ∙ same_itself source)

lone_push : (n : ℕ) (qs : List Queue) (q : Queue) → Lone n qs → q.list ≢ n → Lone n (qs ++ q ∷ [])
lone_push n [] q l h = (h, tt)
lone_push n (x ∷ xs) q l h = (l.0, lone_push n xs q l.1 h)

not_last : (ls : List Level) (l : Level) (source : PrioSource) → find (has_source source) ls ≡ None → same_source l.source source ≡ false → find (has_source source) (ls ++ l ∷ []) ≡ None
not_last ls l source none other =
    find-append (has_source source) ls (l ∷ [])
    ∙ ap (λ (o : Option Level). option_or o (find (has_source source) (l ∷ []))) none
    ∙ ap (λ (b : Bool). cond b (Some l) None) other

pub still_lone : (s : ℕ) (p : Priority) (levels : List Level) (l : ℕ) → Lone l (all_queues levels) → Lone l (all_queues (map (moved_level s p) levels))
still_lone s p levels l lone = subst (λ (qs : List Queue). Lone l qs) (sym (all_moved s p levels)) (lone_moved s p l (all_queues levels) lone)

each_priority : (levels : List Level) (f : Priority) → priority_in levels (Fixed Background) ≡ Some Background → priority_in levels (Fixed UserVisible) ≡ Some UserVisible → priority_in levels (Fixed UserBlocking) ≡ Some UserBlocking → priority_in levels (Fixed f) ≡ Some f
each_priority levels Background a b c = a
each_priority levels UserVisible a b c = b
each_priority levels UserBlocking a b c = c

module _ {T : Type 0} where
  moved_entries : (s : ℕ) (p : Priority) (q : Queue) (es : List (Entry T)) → map (in_queue (moved_queue s p q)) es ≡ map (moved s p) (map (in_queue q) es)
  moved_entries s p q [] = refl
  moved_entries s p q (e ∷ es) =
      let here : in_queue (moved_queue s p q) e ≡ moved s p (in_queue q e) =
      elim (same_source q.source (Signal s)) as (λ t. in_queue (cond t (record q { priority = p }) q) e ≡ cond t (record (in_queue q e) { priority = p }) (in_queue q e)) [ true ↦ refl | false ↦ refl ] in
      ap (λ (w : Waiting T). w ∷ map (in_queue (moved_queue s p q)) es) here ∙ ap (λ (w : List (Waiting T)). moved s p (in_queue q e) ∷ w) (moved_entries s p q es)

  pub waiting_moved : (s : ℕ) (p : Priority) (pool : Lists T) (qs : List Queue) → waiting_in pool (map (moved_queue s p) qs) ≡ map (moved s p) (waiting_in pool qs)
  waiting_moved s p pool [] = refl
  waiting_moved s p pool (q ∷ qs) =
      ap (λ (n : ℕ). map (in_queue (moved_queue s p q)) (list_of pool n) ++ waiting_in pool (map (moved_queue s p) qs)) (list_stays s p q)
      ∙ ap (λ (w : List (Waiting T)). w ++ waiting_in pool (map (moved_queue s p) qs)) (moved_entries s p q (list_of pool q.list))
      ∙ ap (λ (w : List (Waiting T)). map (moved s p) (of_queue pool q) ++ w) (waiting_moved s p pool qs)
      ∙ sym (map-append (moved s p) (of_queue pool q) (waiting_in pool qs))

  kept_moved : (s : ℕ) (p : Priority) (pool : Lists T) (qs : List Queue) → AreKept pool qs → AreKept pool (map (moved_queue s p) qs)
  kept_moved s p pool [] k = tt
  kept_moved s p pool (q ∷ qs) k =
      let stays = sym (list_stays s p q) in (
        subst (λ (n : ℕ). n < length pool.lists) stays k.0,
        subst (λ (n : ℕ). Rises (list_of pool n)) stays k.1,
        subst (λ (n : ℕ). Lone n (map (moved_queue s p) qs)) stays (lone_moved s p q.list qs k.2),
        kept_moved s p pool qs k.3,
      )

  -- the heads of the sources once the priority at a place has changed
  pub firsts_moved : (pool : Lists T) (levels : List Level) (heads : List (Option Head)) (place : ℕ) (p : Priority) (d : Level) → place < length levels → heads ≡ firsts levels pool
      → set heads place (option_map (moved_head p) (get_or heads place None)) ≡ firsts (set levels place (record (get_or levels place d) { priority = p })) pool
  firsts_moved pool levels heads place p d h is =
      let old = firsts levels pool in
      let l = get_or levels place d in
      ap (λ (hs : List (Option Head)). set hs place (option_map (moved_head p) (get_or hs place None))) is
      ∙ ap (λ (o : Option Head). set old place (option_map (moved_head p) o)) (get_or-map (first_of pool) levels place d None h)
      ∙ ap (set old place) (sym (first_moved pool l p))
      ∙ sym (map-set (first_of pool) levels place (record l { priority = p }))

  pub moved_kept : (s : ℕ) (p : Priority) (sched new : Sched) (pool : Lists T) → new.levels ≡ map (moved_level s p) sched.levels → (sched.heads ≡ firsts sched.levels pool → new.heads ≡ firsts new.levels pool) → Kept sched pool → Kept new pool
  moved_kept s p sched new pool is heads k =
      record {
        lists = subst (λ (ls : List Level). AreKept pool (all_queues ls)) (sym is) (subst (λ (qs : List Queue). AreKept pool qs) (sym (all_moved s p sched.levels)) (kept_moved s p pool (all_queues sched.levels) k.lists));
        fixed = λ f. ap (λ (ls : List Level). priority_in ls (Fixed f)) is ∙ fixed_stays s p f sched.levels ∙ k.fixed f;
        heads = heads k.heads;
      }

  pub moved_waiting : (s : ℕ) (p : Priority) (levels : List Level) (pool : Lists T) → waiting (map (moved_level s p) levels) pool ≡ map (moved s p) (waiting levels pool)
  moved_waiting s p levels pool = ap (waiting_in pool) (all_moved s p levels) ∙ waiting_moved s p pool (all_queues levels)

  -- ---- a source gets its lists

  kept_push : (pool : Lists T) (qs : List Queue) (q : Queue) → AreKept pool qs → q.list < length pool.lists → Rises (list_of pool q.list) → Lone q.list qs → AreKept pool (qs ++ q ∷ [])
  kept_push pool [] q k i r l = (i, r, tt, tt)
  kept_push pool (x ∷ xs) q k i r l = (k.0, k.1, lone_push x.list xs q k.2 (λ e. l.0 (sym e)), kept_push pool xs q k.3 i r l.1)

  fresh_lone : (pool : Lists T) (n : ℕ) (qs : List Queue) → AreKept pool qs → length pool.lists ≤ n → Lone n qs
  fresh_lone pool n [] k h = tt
  fresh_lone pool n (q ∷ qs) k h = (λ e. absurd (omega (arith, k.0, h)), fresh_lone pool n qs k.3 h)

  pub same_kept : (old new : Lists T) (qs : List Queue) → length old.lists ≤ length new.lists → ((l : ℕ) → list_of new l ≡ list_of old l) → AreKept old qs → AreKept new qs
  same_kept old new qs more same k = kept_each old new qs more (λ l r. subst (λ (es : List (Entry T)). Rises es) (sym (same l)) r) k

  pub same_waiting_in : (old new : Lists T) (qs : List Queue) → ((l : ℕ) → list_of new l ≡ list_of old l) → waiting_in new qs ≡ waiting_in old qs
  same_waiting_in old new [] same = refl
  same_waiting_in old new (q ∷ qs) same =
      ap (λ (es : List (Entry T)). map (in_queue q) es ++ waiting_in new qs) (same q.list) ∙ ap (λ (w : List (Waiting T)). of_queue old q ++ w) (same_waiting_in old new qs same)

  waiting-append : (pool : Lists T) (xs ys : List Queue) → waiting_in pool (xs ++ ys) ≡ waiting_in pool xs ++ waiting_in pool ys
  waiting-append pool [] ys = refl
  waiting-append pool (x ∷ xs) ys = ap (λ (w : List (Waiting T)). of_queue pool x ++ w) (waiting-append pool xs ys) ∙ sym (append_assoc (of_queue pool x) (waiting_in pool xs) (waiting_in pool ys))

  none_past : (pool : Lists T) (l : ℕ) → length pool.lists ≤ l → list_of pool l ≡ []
  none_past pool l h = get_or_past pool.lists l [] h

  pub added_kept : (old new : List Level) (before after : Lists T) (source : PrioSource) (priority : Priority) → AreKept before (all_queues old) → ((l : ℕ) → list_of after l ≡ list_of before l) → Added old new before after source priority → AreKept after (all_queues new)
  added_kept old new before after source priority k same a =
      let sizes : length after.lists ≡ length before.lists + 2 = ap length a.made.lists ∙ length-append (before.lists ++ [] ∷ []) ([] ∷ []) ∙ ap (λ (n : ℕ). n + 1) (length-append before.lists ([] ∷ [])) ∙ omega arith in
      let second : a.level.continuations.0 ≡ length before.lists + 1 = a.made.continuations ∙ length-append before.lists ([] ∷ []) in
      let plain : Queue = record { source = a.level.source; priority = a.level.priority; continuation = false; list = a.level.plain.0 } in
      let more : Queue = record { source = a.level.source; priority = a.level.priority; continuation = true; list = a.level.continuations.0 } in
      let kept : AreKept after (all_queues old) = same_kept before after (all_queues old) (omega (arith, sizes)) same k in
      let empty = λ (l : ℕ) (h : length before.lists ≤ l). subst (λ (es : List (Entry T)). Rises es) (sym (same l ∙ none_past before l h)) tt in
      let lone_plain : Lone plain.list (all_queues old) = fresh_lone before plain.list (all_queues old) k (omega (arith, a.made.plain)) in
      let lone_more : Lone more.list (all_queues old) = fresh_lone before more.list (all_queues old) k (omega (arith, second)) in
      let one : AreKept after (all_queues old ++ plain ∷ []) = kept_push after (all_queues old) plain kept (omega (arith, a.made.plain, sizes)) (empty plain.list (omega (arith, a.made.plain))) lone_plain in
      let two : AreKept after ((all_queues old ++ plain ∷ []) ++ more ∷ []) =
      kept_push after (all_queues old ++ plain ∷ []) more one (omega (arith, second, sizes)) (empty more.list (omega (arith, second))) (lone_push more.list (all_queues old) plain lone_more (λ e. absurd (omega (arith, a.made.plain, second, e)))) in
      let lists_are : all_queues new ≡ (all_queues old ++ plain ∷ []) ++ more ∷ [] = ap all_queues a.is ∙ all-append old a.level ∙ sym (append_assoc (all_queues old) (plain ∷ []) (more ∷ [])) in
      subst (λ (qs : List Queue). AreKept after qs) (sym lists_are) two

  pub added_waiting : (old new : List Level) (before after : Lists T) (source : PrioSource) (priority : Priority) → ((l : ℕ) → list_of after l ≡ list_of before l) → Added old new before after source priority → waiting new after ≡ waiting old before
  added_waiting old new before after source priority same a =
      let second : a.level.continuations.0 ≡ length before.lists + 1 = a.made.continuations ∙ length-append before.lists ([] ∷ []) in
      let plain : Queue = record { source = a.level.source; priority = a.level.priority; continuation = false; list = a.level.plain.0 } in
      let more : Queue = record { source = a.level.source; priority = a.level.priority; continuation = true; list = a.level.continuations.0 } in
      let first_none : of_queue after plain ≡ [] = ap (map (in_queue plain)) (same plain.list ∙ none_past before plain.list (omega (arith, a.made.plain))) in
      let second_none : of_queue after more ≡ [] = ap (map (in_queue more)) (same more.list ∙ none_past before more.list (omega (arith, second))) in
      ap (λ (ls : List Level). waiting ls after) a.is
      ∙ ap (waiting_in after) (all-append old a.level)
      ∙ waiting-append after (all_queues old) (queues_of a.level)
      ∙ ap (λ (w : List (Waiting T)). waiting_in after (all_queues old) ++ (w ++ (of_queue after more ++ []))) first_none
      ∙ ap (λ (w : List (Waiting T)). waiting_in after (all_queues old) ++ (w ++ [])) second_none
      ∙ append-nil (waiting_in after (all_queues old))
      ∙ same_waiting_in before after (all_queues old) same

  -- no list that was there before is one of the new ones
  pub added_lone : (old new : List Level) (before after : Lists T) (source : PrioSource) (priority : Priority) → Added old new before after source priority → (l : ℕ) → l < length before.lists → Lone l (all_queues old) → Lone l (all_queues new)
  added_lone old new before after source priority a l h lone =
      let second : a.level.continuations.0 ≡ length before.lists + 1 = a.made.continuations ∙ length-append before.lists ([] ∷ []) in
      let plain : Queue = record { source = a.level.source; priority = a.level.priority; continuation = false; list = a.level.plain.0 } in
      let more : Queue = record { source = a.level.source; priority = a.level.priority; continuation = true; list = a.level.continuations.0 } in
      let one : Lone l (all_queues old ++ plain ∷ []) = lone_push l (all_queues old) plain lone (λ e. absurd (omega (arith, a.made.plain, e, h))) in
      let two : Lone l ((all_queues old ++ plain ∷ []) ++ more ∷ []) = lone_push l (all_queues old ++ plain ∷ []) more one (λ e. absurd (omega (arith, second, e, h))) in
      let lists_are : all_queues new ≡ (all_queues old ++ plain ∷ []) ++ more ∷ [] = ap all_queues a.is ∙ all-append old a.level ∙ sym (append_assoc (all_queues old) (plain ∷ []) (more ∷ [])) in
      subst (λ (qs : List Queue). Lone l qs) (sym lists_are) two

  pub three_lone : (l0 l1 l2 l3 : List Level) (p0 p1 p2 p3 : Lists T) → l0 ≡ [] → Added l0 l1 p0 p1 (Fixed Background) Background → Added l1 l2 p1 p2 (Fixed UserVisible) UserVisible → Added l2 l3 p2 p3 (Fixed UserBlocking) UserBlocking
      → length p0.lists ≤ length p1.lists → length p1.lists ≤ length p2.lists → (l : ℕ) → l < length p0.lists → Lone l (all_queues l3)
  three_lone l0 l1 l2 l3 p0 p1 p2 p3 none a b c m1 m2 l h =
      let k0 : Lone l (all_queues l0) = subst (λ (ls : List Level). Lone l (all_queues ls)) (sym none) tt in
      let k1 = added_lone l0 l1 p0 p1 (Fixed Background) Background a l h k0 in
      let k2 = added_lone l1 l2 p1 p2 (Fixed UserVisible) UserVisible b l (omega (arith, h, m1)) k1 in
      added_lone l2 l3 p2 p3 (Fixed UserBlocking) UserBlocking c l (omega (arith, h, m1, m2)) k2

  -- one more empty list changes no list
  pub list_more : (lists : List (List (Entry T))) (l : ℕ) → get_or (lists ++ [] ∷ []) l [] ≡ get_or lists l []
  list_more [] zero = refl
  list_more [] (suc l) = refl
  list_more (list ∷ rest) zero = refl
  list_more (list ∷ rest) (suc l) = list_more rest l

  -- a new source has no first task
  pub firsts_added : (old new : List Level) (before after : Lists T) (source : PrioSource) (priority : Priority) → ((l : ℕ) → list_of after l ≡ list_of before l) → Added old new before after source priority → firsts new after ≡ firsts old before ++ None ∷ []
  firsts_added old new before after source priority same a =
      let second : a.level.continuations.0 ≡ length before.lists + 1 = a.made.continuations ∙ length-append before.lists ([] ∷ []) in
      let plain : list_of after a.level.plain.0 ≡ [] = same a.level.plain.0 ∙ none_past before a.level.plain.0 (omega (arith, a.made.plain)) in
      let more : list_of after a.level.continuations.0 ≡ [] = same a.level.continuations.0 ∙ none_past before a.level.continuations.0 (omega (arith, second)) in
      let none : first_of after a.level ≡ None =
      ap (λ (es : List (Entry T)). option_or (head_in (effective_of a.level.priority true) es) (head_in (effective_of a.level.priority false) (list_of after a.level.plain.0))) more
      ∙ ap (λ (es : List (Entry T)). head_in (effective_of a.level.priority false) es) plain in
      ap (λ (ls : List Level). firsts ls after) a.is
      ∙ map-append (first_of after) old (a.level ∷ [])
      ∙ ap (λ (h : Option Head). firsts old after ++ h ∷ []) none
      ∙ ap (λ (hs : List (Option Head)). hs ++ None ∷ []) (firsts_same before after old (λ q i. same q.list))

  -- where it stands, and what is no source yet
  pub next_after : (old new : List Level) (before after : Lists T) (source : PrioSource) (priority : Priority) → Added old new before after source priority → length new ≡ length old + 1
  next_after old new before after source priority a = ap length a.is ∙ length-append old (a.level ∷ [])

  pub fresh_after : (old new : List Level) (before after : Lists T) (source other : PrioSource) (priority : Priority) → Added old new before after source priority → place_of old other ≡ None → same_source source other ≡ false → place_of new other ≡ None
  fresh_after old new before after source other priority a none differs =
      ap (λ (ls : List Level). place_of ls other) a.is ∙ none_push old a.level other none (ap (λ (x : PrioSource). same_source x other) a.made.source_is ∙ differs)

  -- ---- the three fixed priorities

  pub three_made : (l0 l1 l2 l3 : List Level) (p0 p1 p2 p3 : Lists T) → l0 ≡ [] → Added l0 l1 p0 p1 (Fixed Background) Background → Added l1 l2 p1 p2 (Fixed UserVisible) UserVisible → Added l2 l3 p2 p3 (Fixed UserBlocking) UserBlocking
      → ((l : ℕ) → list_of p1 l ≡ list_of p0 l) → ((l : ℕ) → list_of p2 l ≡ list_of p1 l) → ((l : ℕ) → list_of p3 l ≡ list_of p2 l)
      → AreKept p3 (all_queues l3) × ((f : Priority) → priority_in l3 (Fixed f) ≡ Some f) × (waiting l3 p3 ≡ [])
  three_made l0 l1 l2 l3 p0 p1 p2 p3 none a b c s1 s2 s3 =
      let k0 : AreKept p0 (all_queues l0) = subst (λ (ls : List Level). AreKept p0 (all_queues ls)) (sym none) tt in
      let k1 : AreKept p1 (all_queues l1) = added_kept l0 l1 p0 p1 (Fixed Background) Background k0 s1 a in
      let k2 : AreKept p2 (all_queues l2) = added_kept l1 l2 p1 p2 (Fixed UserVisible) UserVisible k1 s2 b in
      let k3 : AreKept p3 (all_queues l3) = added_kept l2 l3 p2 p3 (Fixed UserBlocking) UserBlocking k2 s3 c in
      let none_in = λ (source : PrioSource). ap (find (has_source source)) none in
      let f1 : priority_in l1 (Fixed Background) ≡ Some Background = ap (λ (ls : List Level). priority_in ls (Fixed Background)) a.is ∙ found_last l0 a.level (Fixed Background) a.made.source_is (none_in (Fixed Background)) ∙ ap (λ (x : Priority). Some x) a.made.priority_is in
      let f2 : priority_in l2 (Fixed Background) ≡ Some Background = ap (λ (ls : List Level). priority_in ls (Fixed Background)) b.is ∙ still_fixed l1 b.level (Fixed Background) Background f1 in
      let f3 : priority_in l3 (Fixed Background) ≡ Some Background = ap (λ (ls : List Level). priority_in ls (Fixed Background)) c.is ∙ still_fixed l2 c.level (Fixed Background) Background f2 in
      let n1 : find (has_source (Fixed UserVisible)) l1 ≡ None = ap (find (has_source (Fixed UserVisible))) a.is ∙ not_last l0 a.level (Fixed UserVisible) (none_in (Fixed UserVisible)) (ap (λ (x : PrioSource). same_source x (Fixed UserVisible)) a.made.source_is) in
      let g2 : priority_in l2 (Fixed UserVisible) ≡ Some UserVisible = ap (λ (ls : List Level). priority_in ls (Fixed UserVisible)) b.is ∙ found_last l1 b.level (Fixed UserVisible) b.made.source_is n1 ∙ ap (λ (x : Priority). Some x) b.made.priority_is in
      let g3 : priority_in l3 (Fixed UserVisible) ≡ Some UserVisible = ap (λ (ls : List Level). priority_in ls (Fixed UserVisible)) c.is ∙ still_fixed l2 c.level (Fixed UserVisible) UserVisible g2 in
      let m1 : find (has_source (Fixed UserBlocking)) l1 ≡ None = ap (find (has_source (Fixed UserBlocking))) a.is ∙ not_last l0 a.level (Fixed UserBlocking) (none_in (Fixed UserBlocking)) (ap (λ (x : PrioSource). same_source x (Fixed UserBlocking)) a.made.source_is) in
      let m2 : find (has_source (Fixed UserBlocking)) l2 ≡ None = ap (find (has_source (Fixed UserBlocking))) b.is ∙ not_last l1 b.level (Fixed UserBlocking) m1 (ap (λ (x : PrioSource). same_source x (Fixed UserBlocking)) b.made.source_is) in
      let h3 : priority_in l3 (Fixed UserBlocking) ≡ Some UserBlocking = ap (λ (ls : List Level). priority_in ls (Fixed UserBlocking)) c.is ∙ found_last l2 c.level (Fixed UserBlocking) c.made.source_is m2 ∙ ap (λ (x : Priority). Some x) c.made.priority_is in (
        k3,
        λ f. each_priority l3 f f3 g3 h3,
        added_waiting l2 l3 p2 p3 (Fixed UserBlocking) UserBlocking s3 c
            ∙ added_waiting l1 l2 p1 p2 (Fixed UserVisible) UserVisible s2 b
            ∙ added_waiting l0 l1 p0 p1 (Fixed Background) Background s1 a
            ∙ ap (λ (ls : List Level). waiting ls p0) none,
      )

  pub three_firsts : (l0 l1 l2 l3 : List Level) (p0 p1 p2 p3 : Lists T) (h0 h1 h2 h3 : List (Option Head)) → l0 ≡ [] → Added l0 l1 p0 p1 (Fixed Background) Background → Added l1 l2 p1 p2 (Fixed UserVisible) UserVisible → Added l2 l3 p2 p3 (Fixed UserBlocking) UserBlocking
      → ((l : ℕ) → list_of p1 l ≡ list_of p0 l) → ((l : ℕ) → list_of p2 l ≡ list_of p1 l) → ((l : ℕ) → list_of p3 l ≡ list_of p2 l)
      → h0 ≡ [] → h1 ≡ h0 ++ None ∷ [] → h2 ≡ h1 ++ None ∷ [] → h3 ≡ h2 ++ None ∷ [] → h3 ≡ firsts l3 p3
  three_firsts l0 l1 l2 l3 p0 p1 p2 p3 h0 h1 h2 h3 none a b c s1 s2 s3 e0 e1 e2 e3 =
      let more = λ (hs : List (Option Head)). hs ++ None ∷ [] in
      let f0 : h0 ≡ firsts l0 p0 = e0 ∙ sym (ap (λ (ls : List Level). firsts ls p0) none) in
      let f1 : h1 ≡ firsts l1 p1 = e1 ∙ ap more f0 ∙ sym (firsts_added l0 l1 p0 p1 (Fixed Background) Background s1 a) in
      let f2 : h2 ≡ firsts l2 p2 = e2 ∙ ap more f1 ∙ sym (firsts_added l1 l2 p1 p2 (Fixed UserVisible) UserVisible s2 b) in
      e3 ∙ ap more f2 ∙ sym (firsts_added l2 l3 p2 p3 (Fixed UserBlocking) UserBlocking s3 c)

  -- ---- a signal gets its lists

  pub signal_kept : (old new : Sched) (before after : Lists T) (source : PrioSource) (priority : Priority) → Kept old before → ((l : ℕ) → list_of after l ≡ list_of before l) → Added old.levels new.levels before after source priority
      → new.heads ≡ old.heads ++ None ∷ [] → Kept new after
  signal_kept old new before after source priority k same a heads =
      record {
        lists = added_kept old.levels new.levels before after source priority k.lists same a;
        fixed = λ f. ap (λ (ls : List Level). priority_in ls (Fixed f)) a.is ∙ still_fixed old.levels a.level (Fixed f) f (k.fixed f);
        heads = heads ∙ ap (λ (hs : List (Option Head)). hs ++ None ∷ []) k.heads ∙ sym (firsts_added old.levels new.levels before after source priority same a);
      }

  pub added_others : (old new : List Level) (before after : Lists T) (source : PrioSource) (priority : Priority) → Added old new before after source priority → SameBut source old new
  added_others old new before after source priority a other differs =
      ap (λ (ls : List Level). priority_in ls other) a.is
      ∙ other_push old a.level other (ap (λ (x : PrioSource). same_source x other) a.made.source_is ∙ same_source-turned source other ∙ differs)

  pub signal_room : (old new : List Level) (before after : Lists T) (s : ℕ) (priority : Priority) → find (has_source (Signal s)) old ≡ None → Added old new before after (Signal s) priority → priority_in new (Signal s) ≡ Some priority
  signal_room old new before after s priority none a =
      ap (λ (ls : List Level). priority_in ls (Signal s)) a.is ∙ found_last old a.level (Signal s) a.made.source_is none ∙ ap (λ (x : Priority). Some x) a.made.priority_is

  pub signal_waiting : (old new : List Level) (before after : Lists T) (s : ℕ) (p priority : Priority) → find (has_source (Signal s)) old ≡ None → ((l : ℕ) → list_of after l ≡ list_of before l) → Added old new before after (Signal s) priority → waiting new after ≡ map (moved s p) (waiting old before)
  signal_waiting old new before after s p priority none same a =
      added_waiting old new before after (Signal s) priority same a
      ∙ ap (λ (ls : List Level). waiting ls before) (sym (none_moved s p old none))
      ∙ moved_waiting s p old before

  pub still_kept : (sched : Sched) (before after : Lists T) → length before.lists ≤ length after.lists → ((l : ℕ) → list_of after l ≡ list_of before l) → Kept sched before → Kept sched after
  still_kept sched before after more same k =
      record {
        lists = same_kept before after (all_queues sched.levels) more same k.lists;
        fixed = k.fixed;
        heads = k.heads ∙ sym (firsts_same before after sched.levels (λ q i. same q.list));
      }
