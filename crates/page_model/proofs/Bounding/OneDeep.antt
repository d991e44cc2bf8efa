-- Following is one deep whatever a page does; so the bound of a priority change suffices.
use Rattle.std.proofs.Common.{◌≡◌, ℕ, zero, suc, ◌≤◌, Bool, true, false, List, [], ◌∷◌, length, Option, Some, None, option_map, refl, ap, sym, subst, subst₂, ◌∙◌, cond, ◌||◌, arith, eqb-true, eq-eqb}
use Rattle.std.specs.Prelude.{◌==◌, unwrap_or, codes}
use Rattle.page_types.specs.Tree.{Program}
use Rattle.page_types.specs.Values.{SignalValue}
use Rattle.page_types.specs.declared.Priority.{Priority}
use Rattle.page_parts.specs.Words.{has_number, is_there}
use Rattle.page_parts.specs.Listeners.{AtSignal}
use Rattle.page_parts.specs.TaskSignals.{PrioRecord, Prios, record_of, priority_of, is_changing, followed, followers, give, depend, begun, ended}
use Rattle.lang_meaning.specs.Machine.{Done, Gives, Throws, Returns, OutOfFuel, afterwards, finish, branch, value_in, locals, with_local, with_value_in}
use Rattle.page_model.specs.State.{Page, State, on_page}
use Rattle.page_model.specs.Invoke.{Ways}
use Rattle.page_model.specs.PageSignals.{each_in_turn, dispatch, change, change_through, change_begun, change_ended, has_priority, priority_value}
use Rattle.page_model.specs.Operations.{followed_through}
use Rattle.page_model.specs.FuelAndTime.{end_state}
use Rattle.page_model.specs.Bounds.{change_or, FollowsOnce, OneDeep}
use Rattle.page_model.proofs.Holding.Evaluation.{Holds, Every}
use Rattle.page_model.proofs.Bounding.Leaving.{PageKeeping, part}
use Rattle.page_model.proofs.Holding.Runs.{K, WaysGo, Goes, fired-goes, change-goes}
use Rattle.page_model.proofs.Bounding.Following.{changed-once, changed-lasts, given-once, given-lasts, depend-once, depend-lasts, true_false, apart, follows_of}

-- what follows goes on following
abbrev pub Lasts : Prios → Prios → Type 0
Lasts ps qs = (x : ℕ) → is_there (followed ps x) ≡ true → is_there (followed qs x) ≡ true

-- both of two lists of priorities
abbrev pub Onward : Prios → Prios → ℕ → Type 0
Onward ps qs n = Lasts ps qs × FollowsOnce qs n

pub onward_same : (ps : Prios) (n : ℕ) → FollowsOnce ps n → Onward ps ps n
onward_same ps n h = (λ x e. e, h)

pub onward_cond : (b : Bool) (m a c : State) → Onward m.host.prios a.host.prios (length a.host.signals) → Onward m.host.prios c.host.prios (length c.host.signals) → Onward m.host.prios (cond b a c).host.prios (length (cond b a c).host.signals)
onward_cond true m a c h k = h
onward_cond false m a c h k = k

pub onward_part : (p q : Page) → part q ≡ part p → OneDeep p → Onward p.prios q.prios (length q.signals)
onward_part p q e h =
    let prios : q.prios ≡ p.prios = ap (λ x. x.prios) e in
    let signals : length q.signals ≡ length p.signals = ap (λ x. x.signals) e in
    (λ x k. subst (λ ps. is_there (followed ps x) ≡ true) (sym prios) k, subst₂ FollowsOnce (sym prios) (sym signals) h)

pub more_numbers : (ps : Prios) (n k : ℕ) → n ≤ k → FollowsOnce ps n → FollowsOnce ps k
more_numbers ps n k le h = record { follow = h.follow; back = h.back; alone = h.alone; known = λ s less. h.known s (omega arith) }

pub onward_given : (ps : Prios) (n k : ℕ) (priority : Priority) → k ≡ suc n → FollowsOnce ps n → Onward ps (give k priority ps) k
onward_given ps n k priority e h = subst (λ k. Onward ps (give k priority ps) k) (sym e) (given-lasts n priority ps h, given-once n priority ps h)

-- a signal that is followed through another one follows none
pub top_of : (p : Page) (s : ℕ) → OneDeep p → followed p.prios (followed_through p s) ≡ None
top_of p s h = by_followed (followed p.prios s) refl
  where
    by_there : (t : ℕ) → has_number (followers p.prios t) s ≡ true → (o : Option ℕ) → followed p.prios t ≡ o → o ≡ None
    by_there t e None k = refl
    by_there t e (Some u) k = true_false e (ap (λ l. has_number l s) (h.alone t (ap is_there k)))

    by_followed : (o : Option ℕ) → followed p.prios s ≡ o → followed p.prios (unwrap_or o s) ≡ None
    by_followed None e = e
    by_followed (Some t) e = by_there t (h.back s t e) (followed p.prios t) refl

has_record : (o : Option PrioRecord) (now : Priority) → option_map (λ r. r.priority) o ≡ Some now → is_there o ≡ true
has_record None now e = absurd Prim.cc
has_record (Some r) now e = refl

pub onward_following : (p : Page) (k s : ℕ) (priority now : Priority) → k ≡ suc (length p.signals) → priority_of p.prios (followed_through p s) ≡ Some now → OneDeep p → Onward p.prios (depend k (followed_through p s) (give k priority p.prios)) k
onward_following p k s priority now e there h =
    let on = followed_through p s in
    let is_record = has_record (record_of p.prios on) now there in
    subst (λ k. Onward p.prios (depend k on (give k priority p.prios)) k) (sym e)
    (depend-lasts (length p.signals) on priority p.prios h (top_of p s h) is_record, depend-once (length p.signals) on priority p.prios h (top_of p s h) is_record)

pub onward_begun : (ps : Prios) (n s : ℕ) (priority : Priority) → FollowsOnce ps n → Onward ps (begun s priority ps) n
onward_begun ps n s priority h = (
  changed-lasts s (λ r. record r { priority = priority; changing = true }) (λ r. refl) (λ r. refl) (λ r. refl) ps,
  changed-once s (λ r. record r { priority = priority; changing = true }) (λ r. refl) (λ r. refl) (λ r. refl) ps n h,
)

pub onward_ended : (ps : Prios) (n s : ℕ) → FollowsOnce ps n → Onward ps (ended s ps) n
onward_ended ps n s h = (
  changed-lasts s (λ r. record r { changing = false }) (λ r. refl) (λ r. refl) (λ r. refl) ps,
  changed-once s (λ r. record r { changing = false }) (λ r. refl) (λ r. refl) (λ r. refl) ps n h,
)

-- as an order and a property of states
abbrev pub one_deep : PageKeeping
one_deep =
    record {
      states =
          record {
            Le = λ m n. Lasts m.host.prios n.host.prios;
            Good = λ m. OneDeep m.host;
            same = λ m x e. e;
            chain = λ a b c h k x e. k x (h x e);
            assign = λ m x v g. onward_cond (is_there (value_in (locals m.open_calls) x)) m (record m { open_calls = with_local m.open_calls x v }) (record m { globals = with_value_in m.globals x v }) (onward_same m.host.prios (length m.host.signals) g) (onward_same m.host.prios (length m.host.signals) g);
            open_call = λ m xs g. onward_same m.host.prios (length m.host.signals) g;
            close_call = λ m g. onward_same m.host.prios (length m.host.signals) g;
            take = λ m left e g. onward_same m.host.prios (length m.host.signals) g;
          };
      leave = λ m q e g. onward_part m.host q e g;
      pass = λ m t h g. onward_same m.host.prios (length m.host.signals) g;
      count = λ m g. onward_same m.host.prios (length m.host.signals) g;
      more_signals = λ m ss h g. (λ x e. e, more_numbers m.host.prios (length m.host.signals) (length ss) h g);
      give = λ m ss priority h g. onward_given m.host.prios (length m.host.signals) (length ss) priority h g;
      follow = λ m ss priority now s h e g. onward_following m.host (length ss) s priority now h e g;
      begin = λ m s priority g. onward_begun m.host.prios (length m.host.signals) s priority g;
      end = λ m s g. onward_ended m.host.prios (length m.host.signals) s g;
    }

-- where no signal has a priority, none follows
pub no_priorities : (n : ℕ) → FollowsOnce [] n
no_priorities n = record { follow = λ s t e. absurd Prim.cc; back = λ s t e. absurd Prim.cc; alone = λ s e. absurd Prim.cc; known = λ s less. refl }

-- how a step ends keeps following one deep
pub kept_of : (program : Program) (m : State) (d : Done Page) → Holds (K program one_deep) m d → OneDeep (end_state d).host
kept_of program m (Gives v n) h = h.1
kept_of program m (Throws v n) h = h.1
kept_of program m (Returns v n) h = h.1
kept_of program m (OutOfFuel n) h = h.1

-- ---- the bound of a priority change

branch-same : (b : Bool) (m : State) (then else else' : State → Done Page) → else m ≡ else' m → branch b m then else ≡ branch b m then else'
branch-same true m then else else' h = refl
branch-same false m then else else' h = h

record_at : (o : Option PrioRecord) → is_there (follows_of o) ≡ true → is_there o ≡ true
record_at None e = e
record_at (Some r) e = refl

one_record : (ps : Prios) (s : ℕ) → is_there (record_of ps s) ≡ true → 1 ≤ length ps
one_record [] s e = absurd Prim.cc
one_record (r ∷ ps) s e = omega arith

two_records : (ps : Prios) (s t : ℕ) → (s == t) ≡ false → is_there (record_of ps s) ≡ true → is_there (record_of ps t) ≡ true → 2 ≤ length ps
two_records [] s t ne e e' = absurd Prim.cc
two_records (r ∷ []) s t ne e e' = by_tests (r.signal == s) (r.signal == t) refl refl e e'
  where
    by_tests : (a b : Bool) → (r.signal == s) ≡ a → (r.signal == t) ≡ b → is_there (cond a (Some r) None) ≡ true → is_there (cond b (Some r) None) ≡ true → 2 ≤ 1
    by_tests true true p q e e' = true_false (eq-eqb s t (sym (eqb-true r.signal s p) ∙ eqb-true r.signal t q)) ne
    by_tests true false p q e e' = absurd Prim.cc
    by_tests false b p q e e' = absurd Prim.cc
two_records (r ∷ q ∷ ps) s t ne e e' = omega arith

has_priority_record : (o : Option PrioRecord) → is_there (option_map (λ r. r.priority) o) ≡ true → is_there o ≡ true
has_priority_record None e = e
has_priority_record (Some r) e = refl

every_has : (P : ℕ → Type 0) (ns : List ℕ) → ((t : ℕ) → has_number ns t ≡ true → P t) → Every P ns
every_has P [] h = tt
every_has P (n ∷ ns) h = (h n (ap (λ t. t || has_number ns n) (eq-eqb n n refl)), every_has P ns (λ t e. h t (either (n == t) e)))
  where
    either : {b : Bool} (a : Bool) → b ≡ true → (a || b) ≡ true
    either true e = refl
    either false e = e

list_apart : (t : ℕ) (fs : List ℕ) → t ∷ fs ≡ [] → ⊥
list_apart t fs e = Prim.cc

module _ (program : Program) (w : Ways) (a : WaysGo program one_deep w) (priority : Priority) (other : ℕ → State → Done Page) where
  -- a change of s with these followers
  abbrev through : ℕ → List ℕ → (ℕ → State → Done Page) → State → Done Page
  through s fs each m =
      afterwards
      (dispatch w (AtSignal s) (codes "prioritychange") (SignalValue s ∷ priority_value (priority_of m.host.prios s) ∷ []) (on_page (change_begun s priority) m))
      (λ m. afterwards (each_in_turn fs each m) (λ m. finish (on_page (change_ended s) m)))

  alone-agree : (s : ℕ) (each each' : ℕ → State → Done Page) (m : State) → followers m.host.prios s ≡ [] → change_through w s priority each m ≡ change_through w s priority each' m
  alone-agree s each each' m e = ap (λ fs. through s fs each m) e ∙ sym (ap (λ fs. through s fs each' m) e)

  follower-agree : (i j t : ℕ) (m : State) → 1 ≤ i → 1 ≤ j → followers m.host.prios t ≡ [] → change_or other w priority i t m ≡ change w priority j t m
  follower-agree zero j t m h h' e = absurd (omega arith)
  follower-agree (suc i) zero t m h h' e = absurd (omega arith)
  follower-agree (suc i) (suc j) t m h h' e =
      branch-same (is_changing m.host.prios t || has_priority m.host.prios t priority) m finish _ _ (alone-agree t (change_or other w priority i) (change w priority j) m e)

  afterwards-next : (m : State) (d : Done Page) (next next' : State → Done Page) → Holds (K program one_deep) m d → ((n : State) → Lasts m.host.prios n.host.prios → OneDeep n.host → next n ≡ next' n) → afterwards d next ≡ afterwards d next'
  afterwards-next m (Gives v n) next next' h q = q n h.0 h.1
  afterwards-next m (Throws v n) next next' h q = q n h.0 h.1
  afterwards-next m (Returns v n) next next' h q = q n h.0 h.1
  afterwards-next m (OutOfFuel n) next next' h q = refl

  lasting : (fs : List ℕ) (ps qs : Prios) → Lasts ps qs → Every (λ t. is_there (followed ps t) ≡ true) fs → Every (λ t. is_there (followed qs t) ≡ true) fs
  lasting [] ps qs h q = tt
  lasting (t ∷ fs) ps qs h q = (h t q.0, lasting fs ps qs h q.1)

  each-agree : (fs : List ℕ) (each each' : ℕ → State → Done Page) → ((t : ℕ) (m : State) → OneDeep m.host → is_there (followed m.host.prios t) ≡ true → each t m ≡ each' t m) → ((t : ℕ) → Goes program one_deep (each' t))
      → (m : State) → OneDeep m.host → Every (λ t. is_there (followed m.host.prios t) ≡ true) fs → each_in_turn fs each m ≡ each_in_turn fs each' m
  each-agree [] each each' same go m g q = refl
  each-agree (t ∷ fs) each each' same go m g q =
      ap (λ d. afterwards d (λ m. each_in_turn fs each m)) (same t m g q.0)
      ∙ afterwards-next m (each' t m) (λ m. each_in_turn fs each m) (λ m. each_in_turn fs each' m) (go t m g) (λ n le gn. each-agree fs each each' same go n gn (lasting fs m.host.prios n.host.prios le q.1))

  through-agree : (s : ℕ) (each each' : ℕ → State → Done Page) → ((t : ℕ) (m : State) → OneDeep m.host → is_there (followed m.host.prios t) ≡ true → each t m ≡ each' t m) → ((t : ℕ) → Goes program one_deep (each' t))
      → (m : State) → OneDeep m.host → change_through w s priority each m ≡ change_through w s priority each' m
  through-agree s each each' same go m g =
      let fs = followers m.host.prios s in
      afterwards-next m _ (λ n. afterwards (each_in_turn fs each n) (λ m. finish (on_page (change_ended s) m))) (λ n. afterwards (each_in_turn fs each' n) (λ m. finish (on_page (change_ended s) m)))
      (fired-goes program one_deep w a s priority (SignalValue s ∷ priority_value (priority_of m.host.prios s) ∷ []) m g)
      (λ n le gn. ap (λ d. afterwards d (λ m. finish (on_page (change_ended s) m))) (each-agree fs each each' same go n gn (lasting fs m.host.prios n.host.prios le (every_has (λ t. is_there (followed m.host.prios t) ≡ true) fs (λ t e. g.follow s t e)))))

  pub change-agree : (n k s : ℕ) (m : State) → OneDeep m.host → is_there (priority_of m.host.prios s) ≡ true → length m.host.prios ≤ n → length m.host.prios ≤ k → change_or other w priority n s m ≡ change w priority k s m
  change-agree zero k s m g there h h' = absurd (let one = one_record m.host.prios s (has_priority_record (record_of m.host.prios s) there) in omega arith)
  change-agree (suc i) zero s m g there h h' = absurd (let one = one_record m.host.prios s (has_priority_record (record_of m.host.prios s) there) in omega arith)
  change-agree (suc i) (suc j) s m g there h h' =
      branch-same (is_changing m.host.prios s || has_priority m.host.prios s priority) m finish _ _ (by_followers (followers m.host.prios s) refl)
    where
      by_followers : (fs : List ℕ) → followers m.host.prios s ≡ fs → change_through w s priority (change_or other w priority i) m ≡ change_through w s priority (change w priority j) m
      by_followers [] e = alone-agree s (change_or other w priority i) (change w priority j) m e
      by_followers (t ∷ fs) e =
          let follows : is_there (followed m.host.prios t) ≡ true = g.follow s t (ap (λ l. has_number l t) e ∙ ap (λ b. b || has_number fs t) (eq-eqb t t refl)) in
          let not_own : (s == t) ≡ false = apart s t (λ p. list_apart t fs (sym e ∙ (ap (λ x. followers m.host.prios x) p ∙ g.alone t follows))) in
          let two = two_records m.host.prios s t not_own (has_priority_record (record_of m.host.prios s) there) (record_at (record_of m.host.prios t) follows) in
          through-agree s (change_or other w priority i) (change w priority j) (λ t n gn e. follower-agree i j t n (omega arith) (omega arith) (gn.alone t e)) (change-goes program one_deep w a priority j) m g
