-- Listeners by place, and their index by kinds.
use Rattle.std.proofs.Common.{◌≡◌, ℕ, ◌<◌, Bool, true, false, cond, ◌&&◌, ◌||◌, List, [], ◌∷◌, ◌++◌, filter, map, Option, Some, None, eqb, refl, sym, ap, ◌∙◌, nat_cmp}
use Rattle.std.specs.BTreeMap.{BTreeMap, get, is_at, insert_entry}
use Rattle.std.specs.List.{AllByRecursion}
use Rattle.std.specs.Map.{values_of, lookup, remove_entry}
use Rattle.page_parts.specs.Words.{and_last, without, same_bytes, has_number}
use Rattle.page_parts.specs.Listeners as parts
use Rattle.page_parts.specs.Listeners.{snapshot, is_listening, same_target}
use Rattle.keyed_list.specs.declared.keyed.Keyed.{Keyed}
use Rattle.keyed_list.specs.Listed.{keys_in, others, AreBelow}
use Rattle.keyed_list.proofs.ListedLemmas.{insert_last}
use Rattle.page_events.specs.declared.listener.Kind.{Kind}
use Rattle.page_events.specs.Indexed.{kind_cmp, is_for, registrations_in, registrations_of, AreKinds, AddsRegistration, RemovesRegistration, SameRegistrations}
use Rattle.page_events.specs.Seen.{listener_seen, listeners_of, target_at}
use Rattle.page_events.proofs.KindLemmas.{kind_same, signal_is, name_is, alike}
use Rattle.std.specs.HashMap.Eq.{lookup_congr}

-- ---- a listener behind all others

abbrev shown : ℕ × Keyed Kind → ℕ × ℕ
shown e = (e.0, e.1.key)

pub registrations_last : (es : List (ℕ × Keyed Kind)) (s : ℕ) (l : Keyed Kind) (signal : Option ℕ) (name : List ℕ)
    → registrations_in (es ++ (s, l) ∷ []) signal name ≡ cond (is_for signal name l) (and_last (registrations_in es signal name) (s, l.key)) (registrations_in es signal name)
registrations_last [] s l signal name = by (is_for signal name l)
  where
    by : (b : Bool) → map shown (cond b ((s, l) ∷ []) []) ≡ cond b ((s, l.key) ∷ []) []
    by true = refl
    by false = refl
registrations_last (e ∷ es) s l signal name = by (is_for signal name e.1) (is_for signal name l) (registrations_last es s l signal name)
  where
    rest : List (ℕ × Keyed Kind)
    rest = filter (λ (e : ℕ × Keyed Kind). is_for signal name e.1) (es ++ (s, l) ∷ [])

    own : List (ℕ × Keyed Kind)
    own = filter (λ (e : ℕ × Keyed Kind). is_for signal name e.1) es

    by : (b c : Bool) → map shown rest ≡ cond c (and_last (map shown own) (s, l.key)) (map shown own)
        → map shown (cond b (e ∷ rest) rest) ≡ cond c (and_last (map shown (cond b (e ∷ own) own)) (s, l.key)) (map shown (cond b (e ∷ own) own))
    by true true h = ap (λ ks. shown e ∷ ks) h
    by true false h = ap (λ ks. shown e ∷ ks) h
    by false true h = h
    by false false h = h

registrations_below : (n : ℕ) (es : List (ℕ × Keyed Kind)) (signal : Option ℕ) (name : List ℕ) → AreBelow n es → AllByRecursion (λ (e : ℕ × ℕ). e.0 < n) (registrations_in es signal name)
registrations_below n [] signal name below = tt
registrations_below n (e ∷ es) signal name below = by (is_for signal name e.1) (registrations_below n es signal name below.1)
  where
    own : List (ℕ × Keyed Kind)
    own = filter (λ (e : ℕ × Keyed Kind). is_for signal name e.1) es

    by : (b : Bool) → AllByRecursion (λ (e : ℕ × ℕ). e.0 < n) (map shown own) → AllByRecursion (λ (e : ℕ × ℕ). e.0 < n) (map shown (cond b (e ∷ own) own))
    by true h = (below.0, h)
    by false h = h

pub kinds_put : (es : List (ℕ × Keyed Kind)) (s : ℕ) (l : Keyed Kind) (kind : Kind) (old new : BTreeMap Kind (BTreeMap ℕ ℕ))
    → AreBelow s es → AreKinds es old → kind.signal ≡ l.item.signal → kind.name.items ≡ l.item.name.items
    → AddsRegistration kind s l.key old new → AreKinds (and_last es (s, l)) new
kinds_put es s l kind old new below kinds signal name adds q = by (is_at (kind_cmp kind) q) refl
  where
    tests : is_at (kind_cmp kind) q ≡ is_for q.signal q.name.items l
    tests = rw (signal, name) refl

    by : (b : Bool) → is_at (kind_cmp kind) q ≡ b → registrations_of new q ≡ registrations_in (es ++ (s, l) ∷ []) q.signal q.name.items
    by true e =
        let one : kind.signal ≡ q.signal = signal_is kind.signal q.signal kind.name.items q.name.items e in
        let other : kind.name.items ≡ q.name.items = name_is kind.signal q.signal kind.name.items q.name.items e in
        let was : registrations_of old kind ≡ registrations_in es q.signal q.name.items = kinds kind ∙ ap (λ x. registrations_in es x kind.name.items) one ∙ ap (registrations_in es q.signal) other in
        let there : registrations_of new q ≡ insert_entry nat_cmp (registrations_of old kind) s l.key =
        adds q ∙ ap (λ b. cond b (insert_entry nat_cmp (registrations_of old kind) s l.key) (registrations_of old q)) e in
        there ∙ ap (λ rs. insert_entry nat_cmp rs s l.key) was
        ∙ insert_last (registrations_in es q.signal q.name.items) s l.key (registrations_below s es q.signal q.name.items below)
        ∙ sym (registrations_last es s l q.signal q.name.items ∙ ap (λ b. cond b (and_last (registrations_in es q.signal q.name.items) (s, l.key)) (registrations_in es q.signal q.name.items)) (sym tests ∙ e))
    by false e =
        let there : registrations_of new q ≡ registrations_of old q = adds q ∙ ap (λ b. cond b (insert_entry nat_cmp (registrations_of old kind) s l.key) (registrations_of old q)) e in
        there ∙ kinds q
        ∙ sym (registrations_last es s l q.signal q.name.items ∙ ap (λ b. cond b (and_last (registrations_in es q.signal q.name.items) (s, l.key)) (registrations_in es q.signal q.name.items)) (sym tests ∙ e))

pub seen_last : (es : List (ℕ × Keyed Kind)) (s : ℕ) (l : Keyed Kind) → listeners_of (and_last es (s, l)) ≡ and_last (listeners_of es) (listener_seen l)
seen_last [] s l = refl
seen_last (e ∷ es) s l = ap (λ rest. listener_seen e.1 ∷ rest) (seen_last es s l)

-- ---- a listener is taken out

module _ (s : ℕ) (l : Keyed Kind) (signal : Option ℕ) (name : List ℕ) where
  taken_own : is_for signal name l ≡ true → (es : List (ℕ × Keyed Kind)) → lookup (is_at (nat_cmp s)) es ≡ Some l
      → registrations_in (remove_entry (is_at (nat_cmp s)) es) signal name ≡ remove_entry (is_at (nat_cmp s)) (registrations_in es signal name)
  taken_own own [] found = refl
  taken_own own (e ∷ es) found = by (is_at (nat_cmp s) e.0) refl (is_for signal name e.1) refl found (taken_own own es)
    where
      more : List (ℕ × Keyed Kind)
      more = filter (λ (e : ℕ × Keyed Kind). is_for signal name e.1) es

      less : List (ℕ × Keyed Kind)
      less = remove_entry (is_at (nat_cmp s)) es

      by : (b : Bool) → is_at (nat_cmp s) e.0 ≡ b → (c : Bool) → is_for signal name e.1 ≡ c → cond b (Some e.1) (lookup (is_at (nat_cmp s)) es) ≡ Some l
          → (lookup (is_at (nat_cmp s)) es ≡ Some l → registrations_in less signal name ≡ remove_entry (is_at (nat_cmp s)) (map shown more))
          → registrations_in (cond b es (e ∷ less)) signal name ≡ remove_entry (is_at (nat_cmp s)) (map shown (cond c (e ∷ more) more))
      by true h true k found again = rw h refl
      by true h false k found again = let is : e.1 ≡ l = cc in let never : false ≡ true = sym k ∙ ap (is_for signal name) is ∙ own in cc
      by false h true k found again = rw (k, h) (ap (λ rest. shown e ∷ rest) (again found))
      by false h false k found again = rw k (again found)

  taken_other : is_for signal name l ≡ false → (es : List (ℕ × Keyed Kind)) → lookup (is_at (nat_cmp s)) es ≡ Some l
      → registrations_in (remove_entry (is_at (nat_cmp s)) es) signal name ≡ registrations_in es signal name
  taken_other other [] found = refl
  taken_other other (e ∷ es) found = by (is_at (nat_cmp s) e.0) refl (is_for signal name e.1) refl found (taken_other other es)
    where
      more : List (ℕ × Keyed Kind)
      more = filter (λ (e : ℕ × Keyed Kind). is_for signal name e.1) es

      less : List (ℕ × Keyed Kind)
      less = remove_entry (is_at (nat_cmp s)) es

      by : (b : Bool) → is_at (nat_cmp s) e.0 ≡ b → (c : Bool) → is_for signal name e.1 ≡ c → cond b (Some e.1) (lookup (is_at (nat_cmp s)) es) ≡ Some l
          → (lookup (is_at (nat_cmp s)) es ≡ Some l → registrations_in less signal name ≡ map shown more)
          → registrations_in (cond b es (e ∷ less)) signal name ≡ map shown (cond c (e ∷ more) more)
      by true h true k found again = let is : e.1 ≡ l = cc in let never : true ≡ false = sym k ∙ ap (is_for signal name) is ∙ other in cc
      by true h false k found again = refl
      by false h true k found again = rw k (ap (λ rest. shown e ∷ rest) (again found))
      by false h false k found again = rw k (again found)

pub kinds_taken : (es : List (ℕ × Keyed Kind)) (s : ℕ) (l : Keyed Kind) (old new : BTreeMap Kind (BTreeMap ℕ ℕ)) → lookup (is_at (nat_cmp s)) es ≡ Some l
    → AreKinds es old → RemovesRegistration l.item s old new → AreKinds (remove_entry (is_at (nat_cmp s)) es) new
kinds_taken es s l old new found kinds removes q = by (is_at (kind_cmp l.item) q) refl
  where
    by : (b : Bool) → is_at (kind_cmp l.item) q ≡ b → registrations_of new q ≡ registrations_in (remove_entry (is_at (nat_cmp s)) es) q.signal q.name.items
    by true e =
        let one : l.item.signal ≡ q.signal = signal_is l.item.signal q.signal l.item.name.items q.name.items e in
        let other : l.item.name.items ≡ q.name.items = name_is l.item.signal q.signal l.item.name.items q.name.items e in
        let was : registrations_of old l.item ≡ registrations_in es q.signal q.name.items = kinds l.item ∙ ap (λ x. registrations_in es x l.item.name.items) one ∙ ap (registrations_in es q.signal) other in
        removes q ∙ ap (λ b. cond b (remove_entry (is_at (nat_cmp s)) (registrations_of old l.item)) (registrations_of old q)) e
        ∙ ap (remove_entry (is_at (nat_cmp s))) was ∙ sym (taken_own s l q.signal q.name.items e es found)
    by false e =
        removes q ∙ ap (λ b. cond b (remove_entry (is_at (nat_cmp s)) (registrations_of old l.item)) (registrations_of old q)) e
        ∙ kinds q ∙ sym (taken_other s l q.signal q.name.items e es found)

-- a kind of which no listener is known
pub none_known : (m : BTreeMap Kind (BTreeMap ℕ ℕ)) (kind q : Kind) → get kind_cmp m kind ≡ None → is_at (kind_cmp kind) q ≡ true → registrations_of m q ≡ []
none_known m kind q none same =
    let found = lookup_congr (λ x y. is_at (kind_cmp x) y) alike m.entries kind q same in
    ap (λ (o : Option (BTreeMap ℕ ℕ)). elim o as (λ _. List (ℕ × ℕ)) [ None ↦ [] | Some b ↦ b.entries ]) (sym found ∙ none)

-- nothing is left out of none
pub none_left : (m : BTreeMap Kind (BTreeMap ℕ ℕ)) (kind q : Kind) (s : ℕ) → get kind_cmp m kind ≡ None
    → registrations_of m q ≡ cond (is_at (kind_cmp kind) q) (remove_entry (is_at (nat_cmp s)) (registrations_of m kind)) (registrations_of m q)
none_left m kind q s none = by (is_at (kind_cmp kind) q) refl
  where
    no : registrations_of m kind ≡ []
    no = ap (λ (o : Option (BTreeMap ℕ ℕ)). elim o as (λ _. List (ℕ × ℕ)) [ None ↦ [] | Some b ↦ b.entries ]) none

    by : (b : Bool) → is_at (kind_cmp kind) q ≡ b → registrations_of m q ≡ cond b (remove_entry (is_at (nat_cmp s)) (registrations_of m kind)) (registrations_of m q)
    by true e = none_known m kind q none e ∙ sym (ap (remove_entry (is_at (nat_cmp s))) no)
    by false e = refl

-- a kind of which a listener is known
module _ (old new : BTreeMap Kind (BTreeMap ℕ ℕ)) (kind : Kind) (own : BTreeMap ℕ ℕ) (updates : (q : Kind) → get kind_cmp new q ≡ cond (is_at (kind_cmp kind) q) (Some own) (get kind_cmp old q)) where
  pub now_known : (q : Kind) → registrations_of new q ≡ cond (is_at (kind_cmp kind) q) own.entries (registrations_of old q)
  now_known q = ap (λ (o : Option (BTreeMap ℕ ℕ)). elim o as (λ _. List (ℕ × ℕ)) [ None ↦ [] | Some b ↦ b.entries ]) (updates q) ∙ by (is_at (kind_cmp kind) q)
    where
      by : (b : Bool) → (elim (cond b (Some own) (get kind_cmp old q)) as (λ _. List (ℕ × ℕ)) [ None ↦ [] | Some b ↦ b.entries ]) ≡ cond b own.entries (registrations_of old q)
      by true = refl
      by false = refl

  -- written back as they were
  pub as_before : (was : BTreeMap ℕ ℕ) → get kind_cmp old kind ≡ Some was → own.entries ≡ was.entries → SameRegistrations old new
  as_before was had same q = now_known q ∙ by (is_at (kind_cmp kind) q) refl
    where
      by : (b : Bool) → is_at (kind_cmp kind) q ≡ b → cond b own.entries (registrations_of old q) ≡ registrations_of old q
      by true e =
          let found = lookup_congr (λ x y. is_at (kind_cmp x) y) alike old.entries kind q e in
          same ∙ sym (ap (λ (o : Option (BTreeMap ℕ ℕ)). elim o as (λ _. List (ℕ × ℕ)) [ None ↦ [] | Some b ↦ b.entries ]) (sym found ∙ had))
      by false e = refl

pub kinds_same : (es : List (ℕ × Keyed Kind)) (old new : BTreeMap Kind (BTreeMap ℕ ℕ)) → AreKinds es old → SameRegistrations old new → AreKinds es new
kinds_same es old new kinds same q = same q ∙ kinds q

-- ---- all listeners of a registration are taken out

pub seen_others : (r : ℕ) (es : List (ℕ × Keyed Kind)) → listeners_of (others r es) ≡ without (λ (l : parts.Listener). eqb l.registration r) (listeners_of es)
seen_others r [] = refl
seen_others r (e ∷ es) = by (eqb e.1.key r) (seen_others r es)
  where
    by : (b : Bool) → listeners_of (others r es) ≡ without (λ (l : parts.Listener). eqb l.registration r) (listeners_of es)
        → listeners_of (cond b (others r es) (e ∷ others r es)) ≡ cond b (without (λ (l : parts.Listener). eqb l.registration r) (listeners_of es)) (listener_seen e.1 ∷ without (λ (l : parts.Listener). eqb l.registration r) (listeners_of es))
    by true h = h
    by false h = ap (λ rest. listener_seen e.1 ∷ rest) h

-- ---- what the indexes tell

pub is_listed : (r : ℕ) (es : List (ℕ × Keyed Kind)) → has_number (keys_in es) r ≡ is_listening r (listeners_of es)
is_listed r [] = refl
is_listed r (e ∷ es) = ap (λ b. eqb e.1.key r || b) (is_listed r es)

pub registrations_are : (es : List (ℕ × Keyed Kind)) (signal : Option ℕ) (name : List ℕ) → values_of (registrations_in es signal name) ≡ snapshot (target_at signal) name (listeners_of es)
registrations_are [] signal name = refl
registrations_are (e ∷ es) signal name = by (is_for signal name e.1) (kind_same e.1.item.signal signal e.1.item.name.items name) (registrations_are es signal name)
  where
    own : List (ℕ × Keyed Kind)
    own = filter (λ (e : ℕ × Keyed Kind). is_for signal name e.1) es

    by : (b : Bool) → b ≡ (same_target (target_at e.1.item.signal) (target_at signal) && same_bytes e.1.item.name.items name)
        → values_of (map shown own) ≡ snapshot (target_at signal) name (listeners_of es)
        → values_of (map shown (cond b (e ∷ own) own)) ≡ snapshot (target_at signal) name (listeners_of (e ∷ es))
    by true h again = rw (← h) (ap (λ rs. e.1.key ∷ rs) again)
    by false h again = rw (← h) again
