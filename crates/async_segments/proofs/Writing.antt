-- Tokens that are written in parts.
use Rattle.std.proofs.Common.{◌≡◌, ℕ, ◌+◌, ◌<◌, List, [], ◌∷◌, ◌++◌, drop, length, map, get_or, Result, Ok, Err, refl, sym, ap, ◌∙◌, append_assoc}
use Rattle.std.specs.Prelude.{IfOk}
use Rattle.std.proofs.lemmas.List.{append-nil, drop_more}
use Rattle.lang_parse.specs.Symbols.{Symbol}
use Rattle.async_segments.specs.declared.written.Written.{Written}
use Rattle.async_segments.specs.Layout.{placeless}
use Rattle.async_segments.specs.Written.{shown, shown_all, Adds, GoesOn}

pub placeless-append : (ms ns : List Symbol) → map placeless (ms ++ ns) ≡ map placeless ms ++ map placeless ns
placeless-append [] ns = refl
placeless-append (m ∷ ms) ns = ap (λ ks. placeless m ∷ ks) (placeless-append ms ns)

pub shown-append : (a b : List Written) → shown_all (a ++ b) ≡ shown_all a ++ shown_all b
shown-append [] b = refl
shown-append (w ∷ a) b = ap (λ ks. shown w ∷ ks) (shown-append a b)

pub adds_none : (a : List Written) → Adds a a []
adds_none a = record { is = sym (append-nil (shown_all a)) }

-- one token more
pub adds_pushed : {a b : List Written} (w : Written) (k : Symbol) → b ≡ a ++ w ∷ [] → shown w ≡ placeless k → Adds a b (k ∷ [])
adds_pushed {a} {b} w k e same = record { is = ap shown_all e ∙ (shown-append a (w ∷ []) ∙ ap (λ z. shown_all a ++ z ∷ []) same) }

pub adds_then : {a b c : List Written} {ms ns : List Symbol} → Adds a b ms → Adds b c ns → Adds a c (ms ++ ns)
adds_then {a} {b} {c} {ms} {ns} f g = record {
  is = g.is ∙ (ap (λ os. os ++ map placeless ns) f.is ∙ (append_assoc (shown_all a) (map placeless ms) (map placeless ns) ∙ ap (λ os. shown_all a ++ os) (sym (placeless-append ms ns))));
}

pub adds_as : {a b : List Written} {ms ns : List Symbol} → ms ≡ ns → Adds a b ms → Adds a b ns
adds_as {a} {b} {ms} {ns} e f = record { is = f.is ∙ ap (λ ks. shown_all a ++ map placeless ks) e }

-- some tokens, and then those of a call that may find no memory
pub then_ok : {E : Type 0} {a b : List Written} {ms : List Symbol} (c : List Written) (ns : List Symbol) (r : Result (Unit {0}) E) → Adds a b ms → IfOk r (λ _. Adds b c ns) → IfOk r (λ _. Adds a c (ms ++ ns))
then_ok c ns (Ok u) f g = adds_then f g
then_ok c ns (Err e) f g = g

-- the tokens of a call, as others
pub ok_as : {E : Type 0} {ms ns : List Symbol} (a b : List Written) (r : Result (Unit {0}) E) → ms ≡ ns → IfOk r (λ _. Adds a b ms) → IfOk r (λ _. Adds a b ns)
ok_as a b (Ok u) e f = adds_as e f
ok_as a b (Err x) e f = f

pub goes_from : (a : List Written) (all : List Symbol) → GoesOn a a all all
goes_from a all = record { is = refl }

pub goes_on : {a b c : List Written} {all ms rest : List Symbol} (left : List Symbol) → left ≡ ms ++ rest → GoesOn a b all left → Adds b c ms → GoesOn a c all rest
goes_on {a} {b} {c} {all} {ms} {rest} left e g f = record {
  is = ap (λ os. os ++ map placeless rest) f.is ∙ (append_assoc (shown_all b) (map placeless ms) (map placeless rest) ∙ (ap (λ os. shown_all b ++ os) (sym (placeless-append ms rest)) ∙ (ap (λ ns. shown_all b ++ map placeless ns) (sym e) ∙ g.is)));
}

pub goes_to : {a b : List Written} {all : List Symbol} (left : List Symbol) → left ≡ [] → GoesOn a b all left → Adds a b all
goes_to {a} {b} {all} left e g = record { is = sym (append-nil (shown_all b)) ∙ (ap (λ ns. shown_all b ++ map placeless ns) (sym e) ∙ g.is) }

-- what is left was added too
pub goes_end : {a b c : List Written} {all last : List Symbol} (left : List Symbol) → left ≡ last → GoesOn a b all left → Adds b c last → Adds a c all
goes_end {a} {b} {c} {all} {last} left e g f = record { is = f.is ∙ (ap (λ ns. shown_all b ++ map placeless ns) (sym e) ∙ g.is) }

-- what is left begins with the item that is looked at
pub front : {X : Type 0} (xs : List X) (i : ℕ) (x : X) → x ≡ get_or xs i x → i < length xs → drop i xs ≡ x ∷ drop (i + 1) xs
front xs i x at lt = drop_more xs i x lt ∙ ap (λ y. y ∷ drop (i + 1) xs) (sym at)
