-- Names that are added in parts.
use Rattle.std.proofs.Common.{◌≡◌, ℕ, suc, ◌+◌, ◌<◌, List, [], ◌∷◌, ◌++◌, drop, length, get_or, Option, Result, Ok, Err, refl, sym, ap, ◌∙◌, append_assoc}
use Rattle.std.specs.Prelude.{IfOk}
use Rattle.std.proofs.lemmas.List.{append-nil, drop_more}
use Rattle.lang_ast.specs.Names.{Mention, inside, count_exprs}
use Rattle.lang_ast.specs.declared.tree.Expr.{Expr}
use Rattle.lang_ast.specs.Seen.{seen_exprs}
use Rattle.lang_names.specs.declared.occurrence.Occurrence.{Occurrence}
use Rattle.lang_names.specs.Collected.{seen_all, Adds, GoesOn}

pub inside-append : (scope : Option ℕ) (ms ns : List Mention) → inside scope (ms ++ ns) ≡ inside scope ms ++ inside scope ns
inside-append scope [] ns = refl
inside-append scope (m ∷ ms) ns = ap (λ os. record { scope = scope; mention = m } ∷ os) (inside-append scope ms ns)

pub adds_none : (scope : Option ℕ) (a : List Occurrence) → Adds scope a a []
adds_none scope a = record { is = sym (append-nil (seen_all a)) }

pub adds_then : {scope : Option ℕ} {a b c : List Occurrence} {ms ns : List Mention} → Adds scope a b ms → Adds scope b c ns → Adds scope a c (ms ++ ns)
adds_then {scope} {a} {b} {c} {ms} {ns} f g = record {
  is = g.is ∙ (ap (λ os. os ++ inside scope ns) f.is ∙ (append_assoc (seen_all a) (inside scope ms) (inside scope ns) ∙ ap (λ os. seen_all a ++ os) (sym (inside-append scope ms ns))));
}

-- some names, and then those of a call that may find no memory
pub then_ok : {E : Type 0} {scope : Option ℕ} {a b : List Occurrence} {ms : List Mention} (c : List Occurrence) (ns : List Mention) (r : Result (Unit {0}) E) → Adds scope a b ms → IfOk r (λ _. Adds scope b c ns) → IfOk r (λ _. Adds scope a c (ms ++ ns))
then_ok c ns (Ok u) f g = adds_then f g
then_ok c ns (Err e) f g = g

pub goes_from : (scope : Option ℕ) (a : List Occurrence) (all : List Mention) → GoesOn scope a a all all
goes_from scope a all = record { is = refl }

pub goes_on : {scope : Option ℕ} {a b c : List Occurrence} {all ms rest : List Mention} (left : List Mention) → left ≡ ms ++ rest → GoesOn scope a b all left → Adds scope b c ms → GoesOn scope a c all rest
goes_on {scope} {a} {b} {c} {all} {ms} {rest} left e g f = record {
  is = ap (λ os. os ++ inside scope rest) f.is ∙ (append_assoc (seen_all b) (inside scope ms) (inside scope rest) ∙ (ap (λ os. seen_all b ++ os) (sym (inside-append scope ms rest)) ∙ (ap (λ ns. seen_all b ++ inside scope ns) (sym e) ∙ g.is)));
}

pub goes_to : {scope : Option ℕ} {a b : List Occurrence} {all : List Mention} (left : List Mention) → left ≡ [] → GoesOn scope a b all left → Adds scope a b all
goes_to {scope} {a} {b} {all} left e g = record { is = sym (append-nil (seen_all b)) ∙ (ap (λ ns. seen_all b ++ inside scope ns) (sym e) ∙ g.is) }

-- what is left begins with the item that is looked at
pub front : {X : Type 0} (xs : List X) (i : ℕ) (x : X) → x ≡ get_or xs i x → i < length xs → drop i xs ≡ x ∷ drop (i + 1) xs
front xs i x at lt = drop_more xs i x lt ∙ ap (λ y. y ∷ drop (i + 1) xs) (sym at)

pub count_seen : (es : List Expr) → count_exprs (seen_exprs es) ≡ length es
count_seen [] = refl
count_seen (e ∷ es) = ap suc (count_seen es)
