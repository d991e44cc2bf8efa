-- What each call on priorities keeps.
use Rattle.std.proofs.Common.{◌≡◌, ℕ, Bool, true, false, cond, List, [], ◌∷◌, Option, None, Some, is_some, refl, ap, sym, subst, ◌∙◌}
use Rattle.std.specs.Prelude.{◌==◌, IsTrue, option_map}
use Rattle.std.proofs.lemmas.Bool.{false≢true}
use Rattle.page_types.specs.declared.Priority.{Priority}
use Rattle.page_parts.specs.Words.{and_last, is_there}
use Rattle.page_parts.specs.TaskSignals.{PrioRecord, Prios, record_of, followers, changed_at, give, depend, begun, ended}
use Rattle.page_model.specs.Folds.{ChangePiece, ChangeOf, EndChange, changes_of}
use Rattle.page_model.specs.FoldBounds.{HasRecord, AllHaveRecords, CanChange}
use Rattle.task_signal.specs.Changes.{HasPriority}
use Rattle.page_folds.specs.AtRest.{still, at_rest}
use Rattle.page_signals.specs.Kept.{FollowersHave}

-- a signal that has a record has one later too
abbrev pub StillHas : Prios → Prios → Type 0
StillHas old new = (s : ℕ) → HasRecord old s → HasRecord new s

there-at : (b : Bool) (x : PrioRecord) (o o' : Option PrioRecord) → (is_there o ≡ true → is_there o' ≡ true)
    → is_there (cond b (Some x) o) ≡ true → is_there (cond b (Some x) o') ≡ true
there-at true x o o' more h = refl
there-at false x o o' more h = more h

has-last : (ps : Prios) (r : PrioRecord) → StillHas ps (and_last ps r)
has-last [] r s h = cc
has-last (x ∷ ps) r s h = there-at (x.signal == s) x (record_of ps s) (record_of (and_last ps r) s) (has-last ps r s) h

-- what the first record and the others give
followers-at : (x : PrioRecord) (rest : Prios) (t : ℕ) (b : Bool) → (x.signal == t) ≡ b → followers (x ∷ rest) t ≡ cond b x.followers (followers rest t)
followers-at x rest t b e = ap (λ c. elim (cond c (Some x) (record_of rest t)) as (λ _. List ℕ) [ None ↦ [] | Some r ↦ r.followers ]) e ∙ by b
  where
    by : (b : Bool) → elim (cond b (Some x) (record_of rest t)) as (λ _. List ℕ) [ None ↦ [] | Some r ↦ r.followers ] ≡ cond b x.followers (followers rest t)
    by true = refl
    by false = refl

followers-none : (r : PrioRecord) (t : ℕ) → r.followers ≡ [] → followers (r ∷ []) t ≡ []
followers-none r t e = by (r.signal == t)
  where
    by : (b : Bool) → elim (cond b (Some r) None) as (λ _. List ℕ) [ None ↦ [] | Some x ↦ x.followers ] ≡ []
    by true = e
    by false = refl

followers-last : (ps : Prios) (r : PrioRecord) (t : ℕ) → r.followers ≡ [] → followers (and_last ps r) t ≡ followers ps t
followers-last [] r t e = followers-none r t e
followers-last (x ∷ ps) r t e = by (x.signal == t) (followers-last ps r t e)
  where
    by : (b : Bool) → followers (and_last ps r) t ≡ followers ps t
        → elim (cond b (Some x) (record_of (and_last ps r) t)) as (λ _. List ℕ) [ None ↦ [] | Some y ↦ y.followers ]
        ≡ elim (cond b (Some x) (record_of ps t)) as (λ _. List ℕ) [ None ↦ [] | Some y ↦ y.followers ]
    by true again = refl
    by false again = again

pub all-still : (old new : Prios) (ss : List ℕ) → StillHas old new → AllHaveRecords old ss → AllHaveRecords new ss
all-still old new [] still have = tt
all-still old new (s ∷ ss) still have = (still s have.0, all-still old new ss still have.1)

pub followers-by : (old new : Prios) → StillHas old new → ((t : ℕ) → followers new t ≡ followers old t) → FollowersHave old → FollowersHave new
followers-by old new still same have t = rw (same t) (all-still old new (followers old t) still (have t))

pub can-still : (old new : Prios) (more : List ChangePiece) → StillHas old new → CanChange old more → CanChange new more
can-still old new [] still can = tt
can-still old new (ChangeOf n s ∷ more) still can = (still s can.0, can-still old new more still can.1)
can-still old new (EndChange s ∷ more) still can = can-still old new more still can

-- ---- a first priority

pub still-give : (s : ℕ) (priority : Priority) (ps : Prios) → StillHas ps (give s priority ps)
still-give s priority ps = has-last ps (record { signal = s; priority = priority; follows = None; followers = []; changing = false })

pub followers-give : (s : ℕ) (priority : Priority) (ps : Prios) → FollowersHave ps → FollowersHave (give s priority ps)
followers-give s priority ps =
    followers-by ps (give s priority ps) (still-give s priority ps)
    (λ t. followers-last ps (record { signal = s; priority = priority; follows = None; followers = []; changing = false }) t refl)

-- ---- a record that is changed

module _ (s : ℕ) (f : PrioRecord → PrioRecord) (same_signal : (r : PrioRecord) → (f r).signal ≡ r.signal) where
  signal-at : (r : PrioRecord) (b : Bool) → (cond b (f r) r).signal ≡ r.signal
  signal-at r true = same_signal r
  signal-at r false = refl

  pub still-changed : (ps : Prios) → StillHas ps (changed_at s f ps)
  still-changed [] t h = h
  still-changed (r ∷ rs) t h = by (r.signal == t) refl h (still-changed rs t)
    where
      by : (b : Bool) → (r.signal == t) ≡ b → HasRecord (r ∷ rs) t → (HasRecord rs t → HasRecord (changed_at s f rs) t) → HasRecord (changed_at s f (r ∷ rs)) t
      by true e h again = rw (signal-at r (r.signal == s), e) refl
      by false e h again = rw (signal-at r (r.signal == s), e) (again (rw e at h))

  -- where each record keeps its followers, or has one more that has a record
  module _ (qs : Prios) (keeps : (r : PrioRecord) → AllHaveRecords qs r.followers → AllHaveRecords qs (f r).followers) where
    keeps-at : (r : PrioRecord) (b : Bool) → AllHaveRecords qs r.followers → AllHaveRecords qs (cond b (f r) r).followers
    keeps-at r true have = keeps r have
    keeps-at r false have = have

    pub followers-changed : (ps : Prios) (t : ℕ) → AllHaveRecords qs (followers ps t) → AllHaveRecords qs (followers (changed_at s f ps) t)
    followers-changed [] t have = have
    followers-changed (r ∷ rs) t have = by (r.signal == t) refl have (followers-changed rs t)
      where
        by : (b : Bool) → (r.signal == t) ≡ b → AllHaveRecords qs (followers (r ∷ rs) t)
            → (AllHaveRecords qs (followers rs t) → AllHaveRecords qs (followers (changed_at s f rs) t))
            → AllHaveRecords qs (followers (changed_at s f (r ∷ rs)) t)
        by true e have again =
            subst (AllHaveRecords qs) (sym (followers-at (cond (r.signal == s) (f r) r) (changed_at s f rs) t true (ap (λ n. n == t) (signal-at r (r.signal == s)) ∙ e)))
            (keeps-at r (r.signal == s) (subst (AllHaveRecords qs) (followers-at r rs t true e) have))
        by false e have again =
            subst (AllHaveRecords qs) (sym (followers-at (cond (r.signal == s) (f r) r) (changed_at s f rs) t false (ap (λ n. n == t) (signal-at r (r.signal == s)) ∙ e)))
            (again (subst (AllHaveRecords qs) (followers-at r rs t false e) have))

-- ---- following

pub record-has : (ps : Prios) (s : ℕ) → HasPriority s ps → HasRecord ps s
record-has ps s has = by (record_of ps s) has
  where
    by : (o : Option PrioRecord) → IsTrue (is_some (option_map (λ (r : PrioRecord). r.priority) o)) → is_there o ≡ true
    by None h = absurd (false≢true h)
    by (Some r) h = refl

all-and : (ps : Prios) (ss : List ℕ) (s : ℕ) → AllHaveRecords ps ss → HasRecord ps s → AllHaveRecords ps (and_last ss s)
all-and ps [] s have here = (here, tt)
all-and ps (t ∷ ss) s have here = (have.0, all-and ps ss s have.1 here)

pub still-depend : (s on : ℕ) (ps : Prios) → StillHas ps (depend s on ps)
still-depend s on ps t h =
    still-changed s (λ r. record r { follows = Some on }) (λ r. refl) (changed_at on (λ r. record r { followers = and_last r.followers s }) ps) t
    (still-changed on (λ r. record r { followers = and_last r.followers s }) (λ r. refl) ps t h)

pub followers-depend : (s on : ℕ) (ps : Prios) → HasRecord ps s → FollowersHave ps → FollowersHave (depend s on ps)
followers-depend s on ps has have t =
    let new = depend s on ps in
    followers-changed s (λ r. record r { follows = Some on }) (λ r. refl) new (λ r h. h)
    (changed_at on (λ r. record r { followers = and_last r.followers s }) ps) t
    (followers-changed on (λ r. record r { followers = and_last r.followers s }) (λ r. refl) new
    (λ r h. all-and new r.followers s h (still-depend s on ps s has)) ps t
    (all-still ps new (followers ps t) (still-depend s on ps) (have t)))

-- ---- changes

pub still-begun : (s : ℕ) (priority : Priority) (ps : Prios) → StillHas ps (begun s priority ps)
still-begun s priority = still-changed s (λ r. record r { priority = priority; changing = true }) (λ r. refl)

pub followers-begun : (s : ℕ) (priority : Priority) (ps : Prios) → FollowersHave ps → FollowersHave (begun s priority ps)
followers-begun s priority ps have t =
    let new = begun s priority ps in
    followers-changed s (λ r. record r { priority = priority; changing = true }) (λ r. refl) new (λ r h. h) ps t
    (all-still ps new (followers ps t) (still-begun s priority ps) (have t))

pub still-ended : (s : ℕ) (ps : Prios) → StillHas ps (ended s ps)
still-ended s = still-changed s (λ r. record r { changing = false }) (λ r. refl)

pub followers-ended : (s : ℕ) (ps : Prios) → FollowersHave ps → FollowersHave (ended s ps)
followers-ended s ps have t =
    let new = ended s ps in
    followers-changed s (λ r. record r { changing = false }) (λ r. refl) new (λ r h. h) ps t
    (all-still ps new (followers ps t) (still-ended s ps) (have t))

-- the followers of a signal may be changed, before other pieces
pub can-follow : (ps : Prios) (chain : ℕ) (ss : List ℕ) (more : List ChangePiece) → AllHaveRecords ps ss → CanChange ps more
    → CanChange ps (changes_of chain ss more)
can-follow ps chain [] more have can = can
can-follow ps chain (s ∷ ss) more have can = (have.0, can-follow ps chain ss more have.1 can)

-- ---- changes that have ended

there-rest : (ps : Prios) (t : ℕ) → is_there (record_of (at_rest ps) t) ≡ is_there (record_of ps t)
there-rest [] t = refl
there-rest (r ∷ rs) t = by (r.signal == t) (there-rest rs t)
  where
    by : (b : Bool) → is_there (record_of (at_rest rs) t) ≡ is_there (record_of rs t)
        → is_there (cond b (Some (still r)) (record_of (at_rest rs) t)) ≡ is_there (cond b (Some r) (record_of rs t))
    by true again = refl
    by false again = again

followers-rest : (ps : Prios) (t : ℕ) → followers (at_rest ps) t ≡ followers ps t
followers-rest [] t = refl
followers-rest (r ∷ rs) t = by (r.signal == t) (followers-rest rs t)
  where
    by : (b : Bool) → followers (at_rest rs) t ≡ followers rs t
        → elim (cond b (Some (still r)) (record_of (at_rest rs) t)) as (λ _. List ℕ) [ None ↦ [] | Some x ↦ x.followers ]
        ≡ elim (cond b (Some r) (record_of rs t)) as (λ _. List ℕ) [ None ↦ [] | Some x ↦ x.followers ]
    by true again = refl
    by false again = again

-- each signal that follows another has a priority, also where changes have ended
pub followers-at_rest : (old new : Prios) → at_rest new ≡ at_rest old → FollowersHave old → FollowersHave new
followers-at_rest old new e have =
    followers-by old new (λ s h. sym (there-rest new s) ∙ ap (λ ps. is_there (record_of ps s)) e ∙ there-rest old s ∙ h)
    (λ t. sym (followers-rest new t) ∙ ap (λ ps. followers ps t) e ∙ followers-rest old t) have
