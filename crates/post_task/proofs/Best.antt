-- The winner among the first tasks of the sources is the first of all tasks that wait.
use Rattle.std.proofs.Common.{◌≡◌, ◌⊎◌, ℕ, zero, suc, ◌+◌, ◌*◌, ◌≤◌, ◌<◌, Bool, true, false, ◌||◌, ◌&&◌, ◌==◌, nat_lt, List, [], ◌∷◌, ◌++◌, map, length, get_or, Option, Some, None, refl, sym, ◌∙◌, ap, subst, inl, inr, arith}
use Rattle.std.specs.Option.{option_or}
use Rattle.std.proofs.lemmas.Bool.Decides.{nat_tests}
use Rattle.page_types.specs.declared.Priority.{Priority}
use Rattle.page_types.specs.declared.Priority.TheVariants.{Background, UserVisible, UserBlocking}
use Rattle.page_parts.specs.TaskSignals.{rank}
use Rattle.task_pool.specs.Lists.{Entry, Lists, list_of}
use Rattle.post_task.specs.declared.level.Level.{Level}
use Rattle.post_task.specs.declared.level.PrioSource.TheVariants.{Fixed}
use Rattle.post_task.specs.declared.tournament.Head.{Head}
use Rattle.post_task.specs.declared.tournament.Winner.{Winner}
use Rattle.post_task.specs.Waiting.{Waiting, effective, Among, IsFirst}
use Rattle.post_task.specs.Levels.{Queue, queue_in, queues_of, all_queues, in_queue, of_queue, waiting_in, Above, Rises, AreKept}
use Rattle.post_task.specs.Heads.{effective_of, head_in, first_of, firsts}
use Rattle.post_task.specs.Tournament.{goes_before, head_at, HasNone, Wins, is_odd}

-- a head comes before a task of this effective priority and order, or is the same
abbrev pub Beats : Head → ℕ → ℕ → Type 0
Beats h e n = (e ≤ h.effective) × (e ≡ h.effective → h.order ≤ n)

before_false : (x y u v : ℕ) → (nat_lt y x || ((x == y) && nat_lt u v)) ≡ false → (x ≤ y) × (x ≡ y → v ≤ u)
before_false x y u v h = (grind (arith, nat_tests), λ e. grind (arith, nat_tests))

beaten : (b h : Head) → goes_before b h ≡ false → Beats h b.effective b.order
beaten b h e = before_false b.effective h.effective b.order h.order e

head_is : (a b : Head) → Some a ≡ Some b → a ≡ b
head_is a b h = cc

no_head : (a : Head) → None ≡ Some a → ⊥
no_head a h = cc

either : (a b : Option Head) (h : Head) → option_or a b ≡ Some h → (a ≡ Some h) ⊎ (b ≡ Some h)
either None b h e = inr e
either (Some x) b h e = inl e

-- the effective priority of a continuation is odd
odd_is : (p : Priority) (b : Bool) → is_odd (effective_of p b) ≡ b
odd_is Background true = refl
odd_is Background false = refl
odd_is UserVisible true = refl
odd_is UserVisible false = refl
odd_is UserBlocking true = refl
odd_is UserBlocking false = refl

abbrev pub queue_rank : Queue → ℕ
queue_rank q = effective_of q.priority q.continuation

-- one of these queues
abbrev pub InQueues : Queue → List Queue → Type 0
InQueues q [] = ⊥
InQueues q (p ∷ ps) = (p ≡ q) ⊎ InQueues q ps

queue_more : (q : Queue) (l : Level) (qs : List Queue) → InQueues q qs → InQueues q (queues_of l ++ qs)
queue_more q l qs i = inr (inr i)

queue_here : (l : Level) (b : Bool) (qs : List Queue) → InQueues (queue_in l b) (queues_of l ++ qs)
queue_here l false qs = inl refl
queue_here l true qs = inr (inl refl)

-- a source at its place has its queues among all
pub queued_at : (levels : List Level) (place : ℕ) (d : Level) (b : Bool) → place < length levels → InQueues (queue_in (get_or levels place d) b) (all_queues levels)
queued_at [] place d b h = absurd (omega arith)
queued_at (l ∷ ls) zero d b h = queue_here l b (all_queues ls)
queued_at (l ∷ ls) (suc place) d b h = queue_more (queue_in (get_or ls place d) b) l (all_queues ls) (queued_at ls place d b (omega (arith, h)))

-- some source, where one is asked for
pub any_level : Level
any_level = record { source = Fixed Background; priority = Background; plain = record { 0 = 0 }; continuations = record { 0 = 0 } }

module _ {T : Type 0} where
  abbrev pub EachBeaten : Head → ℕ → List (Entry T) → Type 0
  EachBeaten h e [] = Unit {0}
  EachBeaten h e (x ∷ xs) = Beats h e x.number × EachBeaten h e xs

  abbrev pub AllBeaten : Lists T → Head → List Queue → Type 0
  AllBeaten pool h [] = Unit {0}
  AllBeaten pool h (q ∷ qs) = EachBeaten h (queue_rank q) (list_of pool q.list) × AllBeaten pool h qs

  later_beaten : (h : Head) (e n : ℕ) (es : List (Entry T)) → Beats h e n → Above n es → EachBeaten h e es
  later_beaten h e n [] b a = tt
  later_beaten h e n (x ∷ xs) b a = ((b.0, λ same. omega (arith, b.1 same, a.0)), later_beaten h e n xs b a.1)

  lower_beaten : (h : Head) (e : ℕ) (es : List (Entry T)) → e < h.effective → EachBeaten h e es
  lower_beaten h e [] b = tt
  lower_beaten h e (x ∷ xs) b = ((omega (arith, b), λ same. absurd (omega (arith, b, same))), lower_beaten h e xs b)

  list_beaten : (h : Head) (e : ℕ) (es : List (Entry T)) → Rises es → ((b : Head) → head_in e es ≡ Some b → Beats h b.effective b.order) → EachBeaten h e es
  list_beaten h e [] r beats = tt
  list_beaten h e (x ∷ xs) r beats =
      let first : Beats h e x.number = beats (record { effective = e; order = x.number }) refl in
      (first, later_beaten h e x.number xs first r.0)

  source_beaten : (h : Head) (r : ℕ) (cs ps : List (Entry T)) → Rises cs → Rises ps → ((b : Head) → option_or (head_in (r + 1) cs) (head_in (r + 0) ps) ≡ Some b → Beats h b.effective b.order)
      → EachBeaten h (r + 0) ps × EachBeaten h (r + 1) cs
  source_beaten h r [] ps rc rp beats = (list_beaten h (r + 0) ps rp beats, tt)
  source_beaten h r (c ∷ cs) ps rc rp beats =
      let all = list_beaten h (r + 1) (c ∷ cs) rc beats in
      (lower_beaten h (r + 0) ps (omega (arith, all.0.0)), all)

  all_beaten : (pool : Lists T) (levels : List Level) (h : Head) → AreKept pool (all_queues levels) → ((place : ℕ) (b : Head) → head_at (firsts levels pool) place ≡ Some b → Beats h b.effective b.order) → AllBeaten pool h (all_queues levels)
  all_beaten pool [] h k beats = tt
  all_beaten pool (l ∷ ls) h k beats =
      let here = source_beaten h (2 * rank l.priority) (list_of pool l.continuations.0) (list_of pool l.plain.0) k.3.1 k.1 (beats 0) in
      (here.0, (here.1, all_beaten pool ls h k.3.3 (λ place b e. beats (suc place) b e)))

  no_first : (e : ℕ) (es : List (Entry T)) → head_in e es ≡ None → es ≡ []
  no_first e [] h = refl
  no_first e (x ∷ xs) h = absurd (no_head (record { effective = e; order = x.number }) (sym h))

  none_of : (r : ℕ) (cs ps : List (Entry T)) → option_or (head_in (r + 1) cs) (head_in (r + 0) ps) ≡ None → (cs ≡ []) × (ps ≡ [])
  none_of r [] ps h = (refl, no_first (r + 0) ps h)
  none_of r (c ∷ cs) ps h = absurd (no_head (record { effective = r + 1; order = c.number }) (sym h))

  pub nothing : (pool : Lists T) (levels : List Level) → HasNone (firsts levels pool) → waiting_in pool (all_queues levels) ≡ []
  nothing pool [] none = refl
  nothing pool (l ∷ ls) none =
      let both = none_of (2 * rank l.priority) (list_of pool l.continuations.0) (list_of pool l.plain.0) (none 0) in
      let rest = waiting_in pool (all_queues ls) in
      ap (λ (es : List (Entry T)). map (in_queue (queue_in l false)) es ++ (of_queue pool (queue_in l true) ++ rest)) both.1
      ∙ ap (λ (es : List (Entry T)). map (in_queue (queue_in l true)) es ++ rest) both.0
      ∙ nothing pool ls (λ place. none (suc place))

  -- the queue that a head is from
  pub record FromQueue (pool : Lists T) (level : Level) (h : Head) : Type 0 where
    pub continuation : Bool
    pub entry : Entry T
    pub rest : List (Entry T)
    pub is : list_of pool (queue_in level continuation).list ≡ entry ∷ rest
    pub rank_is : h.effective ≡ effective_of level.priority continuation
    pub order : h.order ≡ entry.number
    pub odd : is_odd h.effective ≡ continuation

  record First (e : ℕ) (es : List (Entry T)) (h : Head) : Type 0 where
    entry : Entry T
    rest : List (Entry T)
    is : es ≡ entry ∷ rest
    rank_is : h.effective ≡ e
    order : h.order ≡ entry.number

  first_in : (e : ℕ) (es : List (Entry T)) (h : Head) → head_in e es ≡ Some h → First e es h
  first_in e [] h is = absurd (no_head h is)
  first_in e (x ∷ xs) h is =
      let same = head_is (record { effective = e; order = x.number }) h is in
      record { entry = x; rest = xs; is = refl; rank_is = ap (λ (y : Head). y.effective) (sym same); order = ap (λ (y : Head). y.order) (sym same) }

  from_first : (pool : Lists T) (level : Level) (h : Head) (b : Bool) → First (effective_of level.priority b) (list_of pool (queue_in level b).list) h → FromQueue pool level h
  from_first pool level h b f =
      record {
        continuation = b;
        entry = f.entry;
        rest = f.rest;
        is = f.is;
        rank_is = f.rank_is;
        order = f.order;
        odd = ap is_odd f.rank_is ∙ odd_is level.priority b;
      }

  from_level : (pool : Lists T) (level : Level) (h : Head) → first_of pool level ≡ Some h → FromQueue pool level h
  from_level pool level h is =
      elim (either (head_in (effective_of level.priority true) (list_of pool level.continuations.0)) (head_in (effective_of level.priority false) (list_of pool level.plain.0)) h is) [
        | inl e ↦ from_first pool level h true (first_in (effective_of level.priority true) (list_of pool level.continuations.0) h e)
        | inr e ↦ from_first pool level h false (first_in (effective_of level.priority false) (list_of pool level.plain.0) h e)
      ]

  -- the source at the place of a head has that head
  pub standing : (pool : Lists T) (levels : List Level) (place : ℕ) (h : Head) → head_at (firsts levels pool) place ≡ Some h → (place < length levels) × ((d : Level) → first_of pool (get_or levels place d) ≡ Some h)
  standing pool [] place h is = absurd (no_head h is)
  standing pool (l ∷ ls) zero h is = (omega arith, λ d. is)
  standing pool (l ∷ ls) (suc place) h is = let s = standing pool ls place h is in (omega (arith, s.0), s.1)

  pub among-append_left : (t : Waiting T) (xs ys : List (Waiting T)) → Among t xs → Among t (xs ++ ys)
  among-append_left t [] ys i = absurd i
  among-append_left t (x ∷ xs) ys i = elim i [ inl e ↦ inl e | inr j ↦ inr (among-append_left t xs ys j) ]

  pub among-append_right : (t : Waiting T) (xs ys : List (Waiting T)) → Among t ys → Among t (xs ++ ys)
  among-append_right t [] ys i = i
  among-append_right t (x ∷ xs) ys i = inr (among-append_right t xs ys i)

  among-append : (t : Waiting T) (xs ys : List (Waiting T)) → Among t (xs ++ ys) → Among t xs ⊎ Among t ys
  among-append t [] ys i = inr i
  among-append t (x ∷ xs) ys i = elim i [ inl e ↦ inl (inl e) | inr j ↦ elim (among-append t xs ys j) [ inl k ↦ inl (inr k) | inr k ↦ inr k ] ]

  pub among_queue : (pool : Lists T) (qs : List Queue) (q : Queue) (t : Waiting T) → InQueues q qs → Among t (of_queue pool q) → Among t (waiting_in pool qs)
  among_queue pool [] q t i a = absurd i
  among_queue pool (p ∷ ps) q t i a =
      elim i [
        | inl e ↦ among-append_left t (of_queue pool p) (waiting_in pool ps) (subst (λ (x : Queue). Among t (of_queue pool x)) (sym e) a)
        | inr j ↦ among-append_right t (of_queue pool p) (waiting_in pool ps) (among_queue pool ps q t j a)
      ]

  map_beaten : (h : Head) (q : Queue) (es : List (Entry T)) (u : Waiting T) → EachBeaten h (queue_rank q) es → Among u (map (in_queue q) es) → Beats h (effective u) u.order
  map_beaten h q [] u b i = absurd i
  map_beaten h q (e ∷ es) u b i =
      elim i [
        | inl x ↦ subst (λ (y : Waiting T). Beats h (effective y) y.order) x b.0
        | inr j ↦ map_beaten h q es u b.1 j
      ]

  among_beaten : (pool : Lists T) (h : Head) (qs : List Queue) (u : Waiting T) → AllBeaten pool h qs → Among u (waiting_in pool qs) → Beats h (effective u) u.order
  among_beaten pool h [] u b i = absurd i
  among_beaten pool h (q ∷ qs) u b i =
      elim (among-append u (of_queue pool q) (waiting_in pool qs) i) [
        | inl j ↦ map_beaten h q (list_of pool q.list) u b.0 j
        | inr j ↦ among_beaten pool h qs u b.1 j
      ]

  -- the winner is the first task
  pub record Best (pool : Lists T) (levels : List Level) (level : Level) (h : Head) : Type 0 where
    pub from : FromQueue pool level h
    pub queued : InQueues (queue_in level from.continuation) (all_queues levels)
    pub first : IsFirst (in_queue (queue_in level from.continuation) from.entry) (waiting_in pool (all_queues levels))

  pub best : (pool : Lists T) (levels : List Level) (w : Winner) (d : Level) → AreKept pool (all_queues levels) → Wins (firsts levels pool) w → Best pool levels (get_or levels w.place d) w.head
  best pool levels w d k wins =
      let h = w.head in
      let s = standing pool levels w.place h wins.stands in
      let level = get_or levels w.place d in
      let f = from_level pool level h (s.1 d) in
      let q = queue_in level f.continuation in
      let qs = all_queues levels in
      let queued = queued_at levels w.place d f.continuation s.0 in
      let all = all_beaten pool levels h k (λ place b e. beaten b h (wins.first place b e)) in
      let here : Among (in_queue q f.entry) (of_queue pool q) =
      subst (λ (es : List (Entry T)). Among (in_queue q f.entry) (map (in_queue q) es)) (sym f.is) (inl refl) in
      record {
        from = f;
        queued = queued;
        first = record {
          waits = among_queue pool qs q (in_queue q f.entry) queued here;
          greatest = λ u a. let b = among_beaten pool h qs u all a in subst (λ (n : ℕ). effective u ≤ n) f.rank_is b.0;
          least = λ u a same.
              let b = among_beaten pool h qs u all a in
              subst (λ (n : ℕ). n ≤ u.order) f.order (b.1 (same ∙ sym f.rank_is));
        };
      }
