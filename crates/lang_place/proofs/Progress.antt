-- What was read of a script, and what may still come.
use Rattle.std.proofs.Common.{◌≡◌, ℕ, suc, ◌+◌, ◌<◌, ◌≤◌, List, [], ◌∷◌, ◌++◌, length, take, drop, get_or, map, refl, sym, ap, ◌∙◌, subst, inl, inr, arith, append_assoc, append-nil, drop-cons, add-one, ◌⊎◌, take_all, take-append-drop}
use Rattle.std.proofs.Math.Seq.{take-suc}
use Rattle.std.specs.Prelude.{⊤, true, false, OnOk}
use Rattle.lang_tokens.specs.Seen.{TokenSeen}
use Rattle.lang_place.specs.declared.terminal.Terminal.{Terminal}
use Rattle.lang_place.specs.declared.counting.Count.{Count}
use Rattle.lang_place.specs.declared.recogniser.Recogniser.{Recogniser}
use Rattle.lang_place.specs.declared.expected.Expected.{Expected}
use Rattle.lang_place.specs.declared.expected.Expected.TheVariants as expect
use Rattle.lang_place.specs.declared.expected.Within.TheVariants as within
use Rattle.lang_place.specs.declared.expected.Next.{Next}
use Rattle.lang_place.specs.declared.expected.Next.TheVariants as next
use Rattle.lang_place.specs.Forms.{Form, part, many, Script, Item, rule}
use Rattle.lang_place.specs.Begun.{Begun, by_rule}
use Rattle.lang_place.specs.Terminals.{terminal_of, terminals_of}
use Rattle.lang_place.specs.Counting.{Counts, counted, no_counts, IsWithin, AreWithin}
use Rattle.lang_place.specs.Held.{Holds, HasRoom}
use Rattle.lang_place.specs.Expecting.{BeginsOne, to_read, Reads, Refuses}
use Rattle.lang_place.specs.Place.{BeginsScript, StopsAt, IsPlace}
use Rattle.lang_place.proofs.Derive.{Alike, rule_alike}
use Rattle.lang_place.proofs.Machine.{begins_nothing}

-- these tokens may come, where one of these branches is to come and so much was counted
pub record Goes (bs : List (List Form)) (c : Counts) (ts : List TokenSeen) : Type 0 where
  pub begun : BeginsOne bs (terminals_of ts)
  pub within : AreWithin c ts

pub record Progress (ts : List TokenSeen) (i : ℕ) (bs : List (List Form)) (count : Count) : Type 0 where
  pub counts : Counts
  pub holds : Holds count counts
  pub to : (rest : List TokenSeen) → BeginsScript (take i ts ++ rest) → Goes bs counts rest
  pub from : (rest : List TokenSeen) → Goes bs counts rest → BeginsScript (take i ts ++ rest)

script_to : (us : List Terminal) → Begun (part Script ∷ []) us → BeginsOne ((many (part Item) ∷ []) ∷ []) us
script_to us h = inl ((rule_alike Script []).to us h)

script_from : (us : List Terminal) → BeginsOne ((many (part Item) ∷ []) ∷ []) us → Begun (part Script ∷ []) us
script_from us (inl h) = by_rule Script [] us h
script_from us (inr h) = absurd h

begins_at : (ts : List TokenSeen) (count : Count) → Holds count no_counts → Progress ts 0 ((many (part Item) ∷ []) ∷ []) count
begins_at ts count h = record {
  counts = no_counts;
  holds = h;
  to = λ rest b. record { begun = script_to (terminals_of rest) b.begun; within = b.within };
  from = λ rest g. record { begun = script_from (terminals_of rest) g.begun; within = g.within };
}

first_branches : (n : Next) (later : List Expected) → n ≡ next.Part (expect.Statements within.Script) → later ≡ [] → (many (part Item) ∷ []) ∷ [] ≡ to_read n later
first_branches n later e f = rw e refl

pub progress_begins : (ts : List TokenSeen) (n : Next) (later : List Expected) (count : Count) → n ≡ next.Part (expect.Statements within.Script) → later ≡ [] → Holds count no_counts → Progress ts 0 (to_read n later) count
progress_begins ts n later count e f h = subst (λ bs. Progress ts 0 bs count) (first_branches n later e f) (begins_at ts count h)

one_more : (ts rest : List TokenSeen) (i : ℕ) (x : TokenSeen) → i < length ts → x ≡ get_or ts i x → take (i + 1) ts ++ rest ≡ take i ts ++ (x ∷ rest)
one_more ts rest i x lt e =
    let step : take (suc i) ts ≡ take i ts ++ (get_or ts i x ∷ []) = take-suc ts i x lt in
    let named : take (suc i) ts ≡ take i ts ++ (x ∷ []) = step ∙ ap (λ y. take i ts ++ (y ∷ [])) (sym e) in
    rw add-one (ap (λ zs. zs ++ rest) named ∙ append_assoc (take i ts) (x ∷ []) rest)

pub progress_next : (ts : List TokenSeen) (i : ℕ) (x : TokenSeen) (old new : List (List Form)) (before after : Count) → i < length ts → x ≡ get_or ts i x → Progress ts i old before →
    Reads old (terminal_of x) new → ((c : Counts) → Holds before c → Holds after (counted c (terminal_of x) x.content)) → ((c : Counts) → Holds before c → IsWithin (counted c (terminal_of x) x.content)) →
    Progress ts (i + 1) new after
progress_next ts i x old new before after lt e p reads holds within = record {
  counts = counted p.counts (terminal_of x) x.content;
  holds = holds p.counts p.holds;
  to = λ rest b.
      let g = p.to (x ∷ rest) (subst BeginsScript (one_more ts rest i x lt e) b) in
      record { begun = reads.goes_on (terminals_of rest) g.begun; within = g.within.1 };
  from = λ rest g. subst BeginsScript (sym (one_more ts rest i x lt e)) (p.from (x ∷ rest) (record { begun = reads.comes_from (terminals_of rest) g.begun; within = (within p.counts p.holds, g.within) }));
}

split_at : (ts : List TokenSeen) (i : ℕ) (x : TokenSeen) → i < length ts → x ≡ get_or ts i x → ts ≡ take i ts ++ x ∷ drop (i + 1) ts
split_at ts i x lt e =
    let d : drop i ts ≡ x ∷ drop (i + 1) ts = rw (add-one, drop-cons ts i x) (ap (λ y. y ∷ drop (suc i) ts) (sym e)) in
    sym (take-append-drop i ts) ∙ ap (λ zs. take i ts ++ zs) d

so_far : (ts : List TokenSeen) (i : ℕ) (n : Next) (later : List Expected) (count : Count) → Progress ts i (to_read n later) count → BeginsScript (take i ts)
so_far ts i n later count p = subst BeginsScript (append-nil (take i ts)) (p.from [] (record { begun = begins_nothing n _; within = tt }))

pub stops : (ts : List TokenSeen) (end i : ℕ) (x : TokenSeen) (n : Next) (later : List Expected) (count : Count) (at : ℕ) → i < length ts → x ≡ get_or ts i x → Progress ts i (to_read n later) count → at ≡ x.at →
    Refuses (to_read n later) (terminal_of x) → IsPlace ts end at
stops ts end i x n later count at lt e p place refuses = inl (record {
  before = take i ts;
  token = x;
  more = drop (i + 1) ts;
  split = split_at ts i x lt e;
  begins = so_far ts i n later count p;
  no_more = λ b. refuses.none [] ((p.to (x ∷ []) b).begun);
  place = place;
})

pub overflows : (ts : List TokenSeen) (end i : ℕ) (x : TokenSeen) (n : Next) (later : List Expected) (count : Count) (at : ℕ) → i < length ts → x ≡ get_or ts i x → Progress ts i (to_read n later) count → at ≡ x.at →
    ((c : Counts) → Holds count c → IsWithin (counted c (terminal_of x) x.content) → ⊥) → IsPlace ts end at
overflows ts end i x n later count at lt e p place beyond = inl (record {
  before = take i ts;
  token = x;
  more = drop (i + 1) ts;
  split = split_at ts i x lt e;
  begins = so_far ts i n later count p;
  no_more = λ b. beyond p.counts p.holds ((p.to (x ∷ []) b).within.0);
  place = place;
})

pub ends : (ts : List TokenSeen) (end i : ℕ) (n : Next) (later : List Expected) (count : Count) (at : ℕ) → length ts ≤ i → Progress ts i (to_read n later) count → at ≡ end → IsPlace ts end at
ends ts end i n later count at le p place = inr (subst BeginsScript (take_all i ts le) (so_far ts i n later count p), place)
