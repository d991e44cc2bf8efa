-- The first tasks of the sources once a list has changed.
use Rattle.std.proofs.Common.{◌≡◌, ◌≢◌, ℕ, zero, suc, ◌<◌, Bool, true, false, List, [], ◌∷◌, length, get_or, set, Option, Some, refl, sym, ◌∙◌, ap, inl, inr, arith}
use Rattle.std.specs.Option.{option_map, option_or}
use Rattle.page_types.specs.declared.Priority.{Priority}
use Rattle.page_types.specs.declared.Priority.TheVariants.{Background, UserVisible, UserBlocking}
use Rattle.task_pool.specs.Lists.{Entry, Lists, list_of}
use Rattle.post_task.specs.declared.level.Level.{Level}
use Rattle.post_task.specs.declared.tournament.Head.{Head}
use Rattle.post_task.specs.Tournament.{moved_head}
use Rattle.post_task.specs.Levels.{Queue, queue_in, all_queues, HasList, Lone, AreKept}
use Rattle.post_task.specs.Heads.{effective_of, head_in, first_of, firsts}
use Rattle.post_task.proofs.Best.{InQueues, queued_at}

lone_not : (n : ℕ) (qs : List Queue) (q : Queue) → Lone n qs → InQueues q qs → q.list ≢ n
lone_not n [] q l i = absurd i
lone_not n (p ∷ ps) q l i = elim i [ inl e ↦ λ x. l.0 (ap (λ (y : Queue). y.list) e ∙ x) | inr j ↦ lone_not n ps q l.1 j ]

-- a source with this list is one of all
has_queue : (list place : ℕ) (levels : List Level) → HasList list place levels → (q : Queue) × InQueues q (all_queues levels) × (q.list ≡ list)
has_queue list place [] h = absurd h
has_queue list zero (l ∷ ls) h = elim h [ inl e ↦ (queue_in l false, inl refl, e) | inr e ↦ (queue_in l true, inr (inl refl), e) ]
has_queue list (suc place) (l ∷ ls) h = let r = has_queue list place ls h in (r.0, inr (inr r.1), r.2)

-- an effective priority under another priority
moved_more : (old p : Priority) (n : ℕ) → moved_head p (record { effective = effective_of old true; order = n }) ≡ record { effective = effective_of p true; order = n }
moved_more Background p n = refl
moved_more UserVisible p n = refl
moved_more UserBlocking p n = refl

moved_plain : (old p : Priority) (n : ℕ) → moved_head p (record { effective = effective_of old false; order = n }) ≡ record { effective = effective_of p false; order = n }
moved_plain Background p n = refl
moved_plain UserVisible p n = refl
moved_plain UserBlocking p n = refl

module _ {T : Type 0} where
  -- no other source has a list of the one at this place
  pub has_only : (pool : Lists T) (levels : List Level) (place : ℕ) (d : Level) (b : Bool) → AreKept pool (all_queues levels) → place < length levels → (other : ℕ) → other ≢ place → HasList (queue_in (get_or levels place d) b).list other levels → ⊥
  has_only pool [] place d b k h other differs has = absurd has
  has_only pool (l ∷ ls) zero d b k h zero differs has = differs refl
  has_only pool (l ∷ ls) zero d false k h (suc other) differs has =
      let r = has_queue l.plain.0 other ls has in
      lone_not l.plain.0 (all_queues ls) r.0 k.2.1 r.1 r.2
  has_only pool (l ∷ ls) zero d true k h (suc other) differs has =
      let r = has_queue l.continuations.0 other ls has in
      lone_not l.continuations.0 (all_queues ls) r.0 k.3.2 r.1 r.2
  has_only pool (l ∷ ls) (suc place) d b k h zero differs has =
      let q = queue_in (get_or ls place d) b in
      let queued = queued_at ls place d b (omega (arith, h)) in
      elim has [
        | inl e ↦ lone_not l.plain.0 (all_queues ls) q k.2.1 queued (sym e)
        | inr e ↦ lone_not l.continuations.0 (all_queues ls) q k.3.2 queued (sym e)
      ]
  has_only pool (l ∷ ls) (suc place) d b k h (suc other) differs has =
      has_only pool ls place d b k.3.3 (omega (arith, h)) other (λ e. differs (ap suc e)) has

  first_same : (old new : Lists T) (l : Level) → list_of new l.plain.0 ≡ list_of old l.plain.0 → list_of new l.continuations.0 ≡ list_of old l.continuations.0 → first_of new l ≡ first_of old l
  first_same old new l plain more =
      ap (λ (es : List (Entry T)). option_or (head_in (effective_of l.priority true) es) (head_in (effective_of l.priority false) (list_of new l.plain.0))) more
      ∙ ap (λ (es : List (Entry T)). option_or (head_in (effective_of l.priority true) (list_of old l.continuations.0)) (head_in (effective_of l.priority false) es)) plain

  -- every list of theirs is as it was
  pub firsts_same : (old new : Lists T) (levels : List Level) → ((q : Queue) → InQueues q (all_queues levels) → list_of new q.list ≡ list_of old q.list) → firsts levels new ≡ firsts levels old
  firsts_same old new [] same = refl
  firsts_same old new (l ∷ ls) same =
      ap (λ (h : Option Head). h ∷ firsts ls new) (first_same old new l (same (queue_in l false) (inl refl)) (same (queue_in l true) (inr (inl refl))))
      ∙ ap (λ (hs : List (Option Head)). first_of old l ∷ hs) (firsts_same old new ls (λ q i. same q (inr (inr i))))

  -- a list has changed that no source has
  pub firsts_none : (old new : Lists T) (levels : List Level) (list : ℕ) → ((k : ℕ) → k ≢ list → list_of new k ≡ list_of old k) → ((place : ℕ) → HasList list place levels → ⊥) → firsts levels new ≡ firsts levels old
  firsts_none old new [] list same none = refl
  firsts_none old new (l ∷ ls) list same none =
      ap (λ (h : Option Head). h ∷ firsts ls new) (first_same old new l (same l.plain.0 (λ e. none 0 (inl e))) (same l.continuations.0 (λ e. none 0 (inr e))))
      ∙ ap (λ (hs : List (Option Head)). first_of old l ∷ hs) (firsts_none old new ls list same (λ place h. none (suc place) h))

  -- a list has changed that no source but this one has
  pub firsts_set : (old new : Lists T) (levels : List Level) (list found : ℕ) (d : Level) → ((k : ℕ) → k ≢ list → list_of new k ≡ list_of old k) → ((place : ℕ) → place ≢ found → HasList list place levels → ⊥) → found < length levels
      → set (firsts levels old) found (first_of new (get_or levels found d)) ≡ firsts levels new
  firsts_set old new [] list found d same others h = absurd (omega (arith, h))
  firsts_set old new (l ∷ ls) list zero d same others h =
      ap (λ (hs : List (Option Head)). first_of new l ∷ hs) (sym (firsts_none old new ls list same (λ place x. others (suc place) (λ e. absurd (omega (arith, e))) x)))
  firsts_set old new (l ∷ ls) list (suc found) d same others h =
      let not_here = others 0 (λ e. absurd (omega (arith, e))) in
      ap (λ (hs : List (Option Head)). first_of old l ∷ hs) (firsts_set old new ls list found d same (λ place differs x. others (suc place) (λ e. differs (omega (arith, e))) x) (omega (arith, h)))
      ∙ ap (λ (x : Option Head). x ∷ firsts ls new) (sym (first_same old new l (same l.plain.0 (λ e. not_here (inl e))) (same l.continuations.0 (λ e. not_here (inr e)))))

  -- ---- a priority changes, in the lists

  moved_lists : (old p : Priority) (cs ps : List (Entry T)) → option_or (head_in (effective_of p true) cs) (head_in (effective_of p false) ps) ≡ option_map (moved_head p) (option_or (head_in (effective_of old true) cs) (head_in (effective_of old false) ps))
  moved_lists old p [] [] = refl
  moved_lists old p [] (x ∷ xs) = ap (λ (h : Head). Some h) (sym (moved_plain old p x.number))
  moved_lists old p (c ∷ cs) ps = ap (λ (h : Head). Some h) (sym (moved_more old p c.number))

  pub first_moved : (pool : Lists T) (l : Level) (p : Priority) → first_of pool (record l { priority = p }) ≡ option_map (moved_head p) (first_of pool l)
  first_moved pool l p = moved_lists l.priority p (list_of pool l.continuations.0) (list_of pool l.plain.0)
