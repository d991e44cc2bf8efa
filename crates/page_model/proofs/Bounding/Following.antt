-- Following is one deep, at first and whatever a page does; so the bound of a priority change suffices.
use Rattle.std.proofs.Common.{◌≡◌, ℕ, suc, ◌≤◌, ◌<◌, Bool, true, false, List, [], ◌∷◌, Option, Some, None, option_map, refl, ap, sym, subst, ◌∙◌, cond, ◌||◌, ◌⊎◌, inl, inr, ⊎_elim, arith, eqb-true, ne_eqb, eq-eqb}
use Rattle.std.specs.Prelude.{◌==◌}
use Rattle.std.proofs.lemmas.Bool.{cases_lt}
use Rattle.page_types.specs.declared.Priority.{Priority}
use Rattle.page_parts.specs.Words.{and_last, has_number, is_there}
use Rattle.page_parts.specs.TaskSignals.{PrioRecord, Prios, record_of, followed, followers, changed_at, give, depend}
use Rattle.page_model.specs.Bounds.{FollowsOnce}

-- ---- the records of signals

signal-found : (ps : Prios) (x : ℕ) (r : PrioRecord) → record_of ps x ≡ Some r → r.signal ≡ x
signal-found [] x r e = absurd Prim.cc
signal-found (q ∷ ps) x r e = by_test (q.signal == x) refl (signal-found ps x r) e
  where
    by_test : (b : Bool) → (q.signal == x) ≡ b → (record_of ps x ≡ Some r → r.signal ≡ x) → cond b (Some q) (record_of ps x) ≡ Some r → r.signal ≡ x
    by_test true h more e = let same : q ≡ r = Prim.cc in subst (λ (r : PrioRecord). r.signal ≡ x) same (eqb-true q.signal x h)
    by_test false h more e = more e

-- a change of s is one of its record
module _ (s : ℕ) (f : PrioRecord → PrioRecord) (keeps : (r : PrioRecord) → (f r).signal ≡ r.signal) where
  record-other : (x : ℕ) → (s == x) ≡ false → (ps : Prios) → record_of (changed_at s f ps) x ≡ record_of ps x
  record-other x ne [] = refl
  record-other x ne (r ∷ ps) = by_own (r.signal == s) refl (record-other x ne ps)
    where
      by_own : (b : Bool) → (r.signal == s) ≡ b → record_of (changed_at s f ps) x ≡ record_of ps x → record_of (cond b (f r) r ∷ changed_at s f ps) x ≡ record_of (r ∷ ps) x
      by_own true e h =
          let own : r.signal ≡ s = eqb-true r.signal s e in
          let not_r : (r.signal == x) ≡ false = subst (λ n. (n == x) ≡ false) (sym own) ne in
          let not_f : ((f r).signal == x) ≡ false = subst (λ n. (n == x) ≡ false) (sym (keeps r)) not_r in
          ap (λ b. cond b (Some (f r)) (record_of (changed_at s f ps) x)) not_f ∙ (h ∙ sym (ap (λ b. cond b (Some r) (record_of ps x)) not_r))
      by_own false e h = ap (λ o. cond (r.signal == x) (Some r) o) h

  record-own : (ps : Prios) → record_of (changed_at s f ps) s ≡ option_map f (record_of ps s)
  record-own [] = refl
  record-own (r ∷ ps) = by_own (r.signal == s) refl (record-own ps)
    where
      by_own : (b : Bool) → (r.signal == s) ≡ b → record_of (changed_at s f ps) s ≡ option_map f (record_of ps s) → record_of (cond b (f r) r ∷ changed_at s f ps) s ≡ option_map f (cond b (Some r) (record_of ps s))
      by_own true e h = ap (λ n. cond (n == s) (Some (f r)) (record_of (changed_at s f ps) s)) (keeps r) ∙ ap (λ b. cond b (Some (f r)) (record_of (changed_at s f ps) s)) e
      by_own false e h = ap (λ b. cond b (Some r) (record_of (changed_at s f ps) s)) e ∙ h

-- a record at the end
last-other : (r : PrioRecord) (x : ℕ) → (r.signal == x) ≡ false → (ps : Prios) → record_of (and_last ps r) x ≡ record_of ps x
last-other r x ne [] = ap (λ b. cond b (Some r) None) ne
last-other r x ne (q ∷ ps) = ap (λ o. cond (q.signal == x) (Some q) o) (last-other r x ne ps)

last-own : (r : PrioRecord) (ps : Prios) → record_of ps r.signal ≡ None → record_of (and_last ps r) r.signal ≡ Some r
last-own r [] e = ap (λ b. cond b (Some r) None) (eq-eqb r.signal r.signal refl)
last-own r (q ∷ ps) e = by_test (q.signal == r.signal) (last-own r ps) e
  where
    by_test : (b : Bool) → (record_of ps r.signal ≡ None → record_of (and_last ps r) r.signal ≡ Some r) → cond b (Some q) (record_of ps r.signal) ≡ None → cond b (Some q) (record_of (and_last ps r) r.signal) ≡ Some r
    by_test true more e = absurd Prim.cc
    by_test false more e = more e

none_of : {X : Type 0} (o : Option X) → is_there o ≡ false → o ≡ None
none_of None e = refl
none_of (Some x) e = absurd Prim.cc

-- what a record, where there is one, says of following
abbrev pub follows_of : Option PrioRecord → Option ℕ
follows_of o = elim o [ None ↦ None | Some r ↦ r.follows ]

abbrev pub followers_of : Option PrioRecord → List ℕ
followers_of o = elim o [ None ↦ [] | Some r ↦ r.followers ]

-- a change that leaves following as it is
module _ (s : ℕ) (f : PrioRecord → PrioRecord) (keeps : (r : PrioRecord) → (f r).signal ≡ r.signal) (follows : (r : PrioRecord) → (f r).follows ≡ r.follows) (followers_same : (r : PrioRecord) → (f r).followers ≡ r.followers) where
  follows_of-map : (o : Option PrioRecord) → follows_of (option_map f o) ≡ follows_of o
  follows_of-map None = refl
  follows_of-map (Some r) = follows r

  followers_of-map : (o : Option PrioRecord) → followers_of (option_map f o) ≡ followers_of o
  followers_of-map None = refl
  followers_of-map (Some r) = followers_same r

  by_number : {A : Type 0} (read : Option PrioRecord → A) → ((o : Option PrioRecord) → read (option_map f o) ≡ read o) → (ps : Prios) (x : ℕ) → read (record_of (changed_at s f ps) x) ≡ read (record_of ps x)
  by_number read same ps x = by_test (s == x) refl
    where
      by_test : (b : Bool) → (s == x) ≡ b → read (record_of (changed_at s f ps) x) ≡ read (record_of ps x)
      by_test true e = subst (λ x. read (record_of (changed_at s f ps) x) ≡ read (record_of ps x)) (eqb-true s x e) (ap read (record-own s f keeps ps) ∙ same (record_of ps s))
      by_test false e = ap read (record-other s f keeps x e ps)

  none-map : (o : Option PrioRecord) → is_there (option_map f o) ≡ is_there o
  none-map None = refl
  none-map (Some r) = refl

  pub changed-once : (ps : Prios) (n : ℕ) → FollowsOnce ps n → FollowsOnce (changed_at s f ps) n
  changed-once ps n h =
      record {
        follow = λ a b e. subst (λ o. is_there o ≡ true) (sym (by_number follows_of follows_of-map ps b)) (h.follow a b (subst (λ l. has_number l b ≡ true) (by_number followers_of followers_of-map ps a) e));
        back = λ a b e. subst (λ l. has_number l a ≡ true) (sym (by_number followers_of followers_of-map ps b)) (h.back a b (sym (by_number follows_of follows_of-map ps a) ∙ e));
        alone = λ a e. by_number followers_of followers_of-map ps a ∙ h.alone a (subst (λ o. is_there o ≡ true) (by_number follows_of follows_of-map ps a) e);
        known = λ a less. none_of (record_of (changed_at s f ps) a) (by_number is_there none-map ps a ∙ ap is_there (h.known a less));
      }

  pub changed-lasts : (ps : Prios) (x : ℕ) → is_there (followed ps x) ≡ true → is_there (followed (changed_at s f ps) x) ≡ true
  changed-lasts ps x e = subst (λ o. is_there o ≡ true) (sym (by_number follows_of follows_of-map ps x)) e

-- ---- a new signal with a priority

abbrev fresh : ℕ → Priority → PrioRecord
fresh s priority = record { signal = s; priority = priority; follows = None; followers = []; changing = false }

module _ (s : ℕ) (priority : Priority) (ps : Prios) (new : record_of ps s ≡ None) where
  given-other : (x : ℕ) → (s == x) ≡ false → record_of (give s priority ps) x ≡ record_of ps x
  given-other x ne = last-other (fresh s priority) x ne ps

  given-own : record_of (give s priority ps) s ≡ Some (fresh s priority)
  given-own = last-own (fresh s priority) ps new

  given-follows : (x : ℕ) → followed (give s priority ps) x ≡ followed ps x
  given-follows x = by_test (s == x) refl
    where
      by_test : (b : Bool) → (s == x) ≡ b → followed (give s priority ps) x ≡ followed ps x
      by_test true e = subst (λ x. followed (give s priority ps) x ≡ followed ps x) (eqb-true s x e) (ap follows_of given-own ∙ sym (ap follows_of new))
      by_test false e = ap follows_of (given-other x e)

  given-followers : (x : ℕ) → followers (give s priority ps) x ≡ followers ps x
  given-followers x = by_test (s == x) refl
    where
      by_test : (b : Bool) → (s == x) ≡ b → followers (give s priority ps) x ≡ followers ps x
      by_test true e = subst (λ x. followers (give s priority ps) x ≡ followers ps x) (eqb-true s x e) (ap followers_of given-own ∙ sym (ap followers_of new))
      by_test false e = ap followers_of (given-other x e)

pub given-once : (n : ℕ) (priority : Priority) (ps : Prios) → FollowsOnce ps n → FollowsOnce (give (suc n) priority ps) (suc n)
given-once n priority ps h =
    let new : record_of ps (suc n) ≡ None = h.known (suc n) (omega arith) in
    record {
      follow = λ a b e. subst (λ o. is_there o ≡ true) (sym (given-follows (suc n) priority ps new b)) (h.follow a b (subst (λ l. has_number l b ≡ true) (given-followers (suc n) priority ps new a) e));
      back = λ a b e. subst (λ l. has_number l a ≡ true) (sym (given-followers (suc n) priority ps new b)) (h.back a b (sym (given-follows (suc n) priority ps new a) ∙ e));
      alone = λ a e. given-followers (suc n) priority ps new a ∙ h.alone a (subst (λ o. is_there o ≡ true) (given-follows (suc n) priority ps new a) e);
      known = λ a less. given-other (suc n) priority ps new a (ne_eqb (suc n) a (λ e. absurd (omega arith))) ∙ h.known a (omega arith);
    }

pub given-lasts : (n : ℕ) (priority : Priority) (ps : Prios) → FollowsOnce ps n → (x : ℕ) → is_there (followed ps x) ≡ true → is_there (followed (give (suc n) priority ps) x) ≡ true
given-lasts n priority ps h x e = subst (λ o. is_there o ≡ true) (sym (given-follows (suc n) priority ps (h.known (suc n) (omega arith)) x)) e

-- ---- and follows another signal

-- a number is that of the new signal, that of the followed one, or another
data Which (s on x : ℕ) : Type 0 where
  is_new : s ≡ x → Which s on x
  is_on : on ≡ x → Which s on x
  is_other : (s == x) ≡ false → (on == x) ≡ false → Which s on x

which : (s on x : ℕ) → Which s on x
which s on x = by_tests (s == x) (on == x) refl refl
  where
    by_tests : (a b : Bool) → (s == x) ≡ a → (on == x) ≡ b → Which s on x
    by_tests true b e e' = is_new (eqb-true s x e)
    by_tests false true e e' = is_on (eqb-true on x e')
    by_tests false false e e' = is_other e e'

has-last : (ns : List ℕ) (n b : ℕ) → has_number (and_last ns n) b ≡ true → (has_number ns b ≡ true) ⊎ (n ≡ b)
has-last [] n b e = by_test (n == b) refl e
  where
    by_test : (t : Bool) → (n == b) ≡ t → (t || false) ≡ true → (has_number [] b ≡ true) ⊎ (n ≡ b)
    by_test true h e = inr (eqb-true n b h)
    by_test false h e = absurd Prim.cc
has-last (m ∷ ns) n b e = by_test (m == b) (has-last ns n b) e
  where
    by_test : (t : Bool) → (has_number (and_last ns n) b ≡ true → (has_number ns b ≡ true) ⊎ (n ≡ b)) → (t || has_number (and_last ns n) b) ≡ true → ((t || has_number ns b) ≡ true) ⊎ (n ≡ b)
    by_test true more e = inl refl
    by_test false more e = more e

last-has : (ns : List ℕ) (n b : ℕ) → has_number ns b ≡ true → has_number (and_last ns n) b ≡ true
last-has [] n b e = absurd Prim.cc
last-has (m ∷ ns) n b e = by_test (m == b) (last-has ns n b) e
  where
    by_test : (t : Bool) → (has_number ns b ≡ true → has_number (and_last ns n) b ≡ true) → (t || has_number ns b) ≡ true → (t || has_number (and_last ns n) b) ≡ true
    by_test true more e = refl
    by_test false more e = more e

last-own_number : (ns : List ℕ) (n : ℕ) → has_number (and_last ns n) n ≡ true
last-own_number [] n = ap (λ t. t || false) (eq-eqb n n refl)
last-own_number (m ∷ ns) n = by_test (m == n) (last-own_number ns n)
  where
    by_test : (t : Bool) → has_number (and_last ns n) n ≡ true → (t || has_number (and_last ns n) n) ≡ true
    by_test true h = refl
    by_test false h = h

pub true_false : {A : Type 0} {b : Bool} → b ≡ true → b ≡ false → A
true_false e e' = absurd Prim.cc

pub apart : (s x : ℕ) → (s ≡ x → ⊥) → (s == x) ≡ false
apart s x ne = by_test (s == x) refl
  where
    by_test : (b : Bool) → (s == x) ≡ b → (s == x) ≡ false
    by_test true e = absurd (ne (eqb-true s x e))
    by_test false e = e

module _ (n on : ℕ) (priority : Priority) (ps : Prios) (h : FollowsOnce ps n) (top : followed ps on ≡ None) (there : is_there (record_of ps on) ≡ true) where
  abbrev s : ℕ
  s = suc n

  abbrev to_on : PrioRecord → PrioRecord
  to_on r = record r { follows = Some on }

  abbrev with_new : PrioRecord → PrioRecord
  with_new r = record r { followers = and_last r.followers s }

  abbrev given_ps : Prios
  given_ps = give s priority ps

  abbrev followed_ps : Prios
  followed_ps = changed_at on with_new given_ps

  abbrev after : Prios
  after = depend s on given_ps

  new : record_of ps s ≡ None
  new = h.known s (omega arith)

  s_not_on : s ≡ on → ⊥
  s_not_on e = true_false (subst (λ x. is_there (record_of ps x) ≡ true) (sym e) there) (ap is_there new)

  new-record : record_of after s ≡ Some (to_on (fresh s priority))
  new-record = record-own s to_on (λ r. refl) followed_ps ∙ ap (option_map to_on) (record-other on with_new (λ r. refl) s (apart on s (λ e. s_not_on (sym e))) given_ps ∙ given-own s priority ps new)

  on-record : record_of after on ≡ option_map with_new (record_of ps on)
  on-record = record-other s to_on (λ r. refl) on (apart s on s_not_on) followed_ps ∙ (record-own on with_new (λ r. refl) given_ps ∙ ap (option_map with_new) (given-other s priority ps new on (apart s on s_not_on)))

  other-record : (x : ℕ) → (s == x) ≡ false → (on == x) ≡ false → record_of after x ≡ record_of ps x
  other-record x e e' = record-other s to_on (λ r. refl) x e followed_ps ∙ (record-other on with_new (λ r. refl) x e' given_ps ∙ given-other s priority ps new x e)

  follows-with : (o : Option PrioRecord) → follows_of (option_map with_new o) ≡ follows_of o
  follows-with None = refl
  follows-with (Some r) = refl

  followers-with : (o : Option PrioRecord) → is_there o ≡ true → followers_of (option_map with_new o) ≡ and_last (followers_of o) s
  followers-with None e = absurd Prim.cc
  followers-with (Some r) e = refl

  on-follows : followed after on ≡ None
  on-follows = ap follows_of on-record ∙ (follows-with (record_of ps on) ∙ top)

  on-followers : followers after on ≡ and_last (followers ps on) s
  on-followers = ap followers_of on-record ∙ followers-with (record_of ps on) there

  pub depend-lasts : (x : ℕ) → is_there (followed ps x) ≡ true → is_there (followed after x) ≡ true
  depend-lasts x e = by_which (which s on x)
    where
      by_which : Which s on x → is_there (followed after x) ≡ true
      by_which (is_new p) = subst (λ x. is_there (followed after x) ≡ true) p (ap (λ o. is_there (follows_of o)) new-record)
      by_which (is_on p) = true_false (subst (λ x. is_there (followed ps x) ≡ true) (sym p) e) (ap is_there top)
      by_which (is_other p q) = subst (λ o. is_there (follows_of o) ≡ true) (sym (other-record x p q)) e

  grows : (x a : ℕ) → has_number (followers ps x) a ≡ true → has_number (followers after x) a ≡ true
  grows x a e = by_which (which s on x)
    where
      by_which : Which s on x → has_number (followers after x) a ≡ true
      by_which (is_new p) = true_false (subst (λ x. has_number (followers ps x) a ≡ true) (sym p) e) (ap (λ o. has_number (followers_of o) a) new)
      by_which (is_on p) = subst (λ x. has_number (followers after x) a ≡ true) p (subst (λ l. has_number l a ≡ true) (sym on-followers) (last-has (followers ps on) s a (subst (λ x. has_number (followers ps x) a ≡ true) (sym p) e)))
      by_which (is_other p q) = subst (λ o. has_number (followers_of o) a ≡ true) (sym (other-record x p q)) e

  depend-follow : (x t : ℕ) → has_number (followers after x) t ≡ true → is_there (followed after t) ≡ true
  depend-follow x t e = by_which (which s on x)
    where
      by_either : (has_number (followers ps on) t ≡ true) ⊎ (s ≡ t) → is_there (followed after t) ≡ true
      by_either = ⊎_elim (λ e. depend-lasts t (h.follow on t e)) (λ p. subst (λ x. is_there (followed after x) ≡ true) p (ap (λ o. is_there (follows_of o)) new-record))

      by_which : Which s on x → is_there (followed after t) ≡ true
      by_which (is_new p) = true_false (subst (λ x. has_number (followers after x) t ≡ true) (sym p) e) (ap (λ o. has_number (followers_of o) t) new-record)
      by_which (is_on p) = by_either (has-last (followers ps on) s t (subst (λ l. has_number l t ≡ true) on-followers (subst (λ x. has_number (followers after x) t ≡ true) (sym p) e)))
      by_which (is_other p q) = depend-lasts t (h.follow x t (subst (λ o. has_number (followers_of o) t ≡ true) (other-record x p q) e))

  some_same : {a b : ℕ} → Some a ≡ Some b → a ≡ b
  some_same e = Prim.cc

  depend-back : (x t : ℕ) → followed after x ≡ Some t → has_number (followers after t) x ≡ true
  depend-back x t e = by_which (which s on x)
    where
      by_which : Which s on x → has_number (followers after t) x ≡ true
      by_which (is_new p) =
          let same : on ≡ t = some_same (sym (ap follows_of new-record) ∙ subst (λ x. followed after x ≡ Some t) (sym p) e) in
          subst (λ t. has_number (followers after t) x ≡ true) same (subst (λ x. has_number (followers after on) x ≡ true) p (subst (λ l. has_number l s ≡ true) (sym on-followers) (last-own_number (followers ps on) s)))
      by_which (is_on p) = true_false (ap is_there (subst (λ x. followed after x ≡ Some t) (sym p) e)) (ap is_there on-follows)
      by_which (is_other p q) = grows t x (h.back x t (sym (ap follows_of (other-record x p q)) ∙ e))

  depend-alone : (x : ℕ) → is_there (followed after x) ≡ true → followers after x ≡ []
  depend-alone x e = by_which (which s on x)
    where
      by_which : Which s on x → followers after x ≡ []
      by_which (is_new p) = subst (λ x. followers after x ≡ []) p (ap followers_of new-record)
      by_which (is_on p) = true_false (subst (λ x. is_there (followed after x) ≡ true) (sym p) e) (ap is_there on-follows)
      by_which (is_other p q) = ap followers_of (other-record x p q) ∙ h.alone x (subst (λ o. is_there (follows_of o) ≡ true) (other-record x p q) e)

  on_known : on ≤ n
  on_known = by_order (cases_lt n on)
    where
      by_order : (n < on) ⊎ (on ≤ n) → on ≤ n
      by_order = ⊎_elim (λ less. true_false there (ap is_there (h.known on less))) (λ le. le)

  depend-known : (x : ℕ) → s < x → record_of after x ≡ None
  depend-known x less = by_which (which s on x)
    where
      by_which : Which s on x → record_of after x ≡ None
      by_which (is_new p) = absurd (omega arith)
      by_which (is_on p) = absurd (let le = on_known in omega arith)
      by_which (is_other p q) = other-record x p q ∙ h.known x (omega arith)

  pub depend-once : FollowsOnce after s
  depend-once = record { follow = depend-follow; back = depend-back; alone = depend-alone; known = depend-known }
