-- How listeners are found by the kind of their events, besides by their registrations.
use Rattle.std.specs.Prelude.{◌≡◌, ℕ, Bool, if◌then◌else◌, List, [], filter, map, Option, None, Some}
use Rattle.std.specs.BTreeMap.{BTreeMap, get, is_at, insert_entry}
use Rattle.std.specs.Cmp.Lexicographic.{slice_cmp}
use Rattle.std.specs.Map.{remove_entry}
use Rattle.std.specs.Option.{option_cmp}
use Rattle.std.specs.Ordering.{is_eq, nat_cmp, ordering_then}
use Rattle.std.specs.declared.cmp.Ordering.{Ordering}
use Rattle.keyed_list.specs.declared.keyed.Keyed.{Keyed}
use Rattle.page_events.specs.declared.listener.Kind.{Kind}

-- kinds of events in their order: by the signal, and then by the name
abbrev pub kind_cmp : (a b : Kind) → Ordering
kind_cmp a b = ordering_then (option_cmp nat_cmp a.signal b.signal) (slice_cmp nat_cmp a.name.items b.name.items)

-- whether a listener is for events of this name at this signal, or at the window where there is none
abbrev pub is_for : Option ℕ → List ℕ → Keyed Kind → Bool
is_for signal name l = is_eq (ordering_then (option_cmp nat_cmp l.item.signal signal) (slice_cmp nat_cmp l.item.name.items name))

-- the registrations for events of this name at this signal or the window, with their places
abbrev pub registrations_in : List (ℕ × Keyed Kind) → Option ℕ → List ℕ → List (ℕ × ℕ)
registrations_in es signal name =
    map (λ (e : ℕ × Keyed Kind). (e.0, e.1.key)) (filter (λ (e : ℕ × Keyed Kind). is_for signal name e.1) es)

-- what the index by kinds has
abbrev pub registrations_of : BTreeMap Kind (BTreeMap ℕ ℕ) → Kind → List (ℕ × ℕ)
registrations_of m q = elim (get kind_cmp m q) [ None ↦ [] | Some b ↦ b.entries ]

-- the index by kinds is that of these listeners
abbrev pub AreKinds : List (ℕ × Keyed Kind) → BTreeMap Kind (BTreeMap ℕ ℕ) → Type 0
AreKinds es m = (q : Kind) → registrations_of m q ≡ registrations_in es q.signal q.name.items

-- ---- what one change does to the index

-- a kind has one more registration
abbrev pub AddsRegistration : (kind : Kind) (place registration : ℕ) (old new : BTreeMap Kind (BTreeMap ℕ ℕ)) → Type 0
AddsRegistration kind place registration old new =
    (q : Kind) → registrations_of new q ≡ (if is_at (kind_cmp kind) q then insert_entry nat_cmp
    (registrations_of old kind) place registration else registrations_of old q)

-- a kind has one registration less
abbrev pub RemovesRegistration : (kind : Kind) (place : ℕ) (old new : BTreeMap Kind (BTreeMap ℕ ℕ)) → Type 0
RemovesRegistration kind place old new =
    (q : Kind) → registrations_of new q ≡ (if is_at (kind_cmp kind) q then remove_entry (is_at (nat_cmp place)) (registrations_of old kind)
    else registrations_of old q)

-- nothing changes
abbrev pub SameRegistrations : (old new : BTreeMap Kind (BTreeMap ℕ ℕ)) → Type 0
SameRegistrations old new = (q : Kind) → registrations_of new q ≡ registrations_of old q
