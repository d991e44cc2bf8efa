-- What is known after one more name.
use Rattle.std.proofs.Common.{◌≡◌, ℕ, Bool, true, false, List, [], ◌∷◌, ◌++◌, Option, Result, Ok, Err, refl, sym, ap, ◌∙◌}
use Rattle.std.specs.Prelude.{◌&&◌, ◌||◌, IfOk}
use Rattle.page_parts.specs.Words.{same_bytes}
use Rattle.lang_ast.specs.declared.role.Role.{Role}
use Rattle.lang_ast.specs.Names.{Occurrence}
use Rattle.lang_ast.specs.NameFaults.{same_scope, names_as, is_function, is_variable, is_declared_once}
use Rattle.lang_names.specs.Known.{Added, HasAs}
use Rattle.lang_names.specs.Knows.{Knows}
use Rattle.lang_names.specs.declared.name_set.NameSet.{NameSet}
use Rattle.lang_names.specs.declared.names.Names.{Names}

pub map_ok : {E : Type 0} (P Q : Type 0) (r : Result (Unit {0}) E) → (P → Q) → IfOk r (λ _. P) → IfOk r (λ _. Q)
map_ok P Q (Ok u) f p = f p
map_ok P Q (Err e) f p = p

pub map_both_ok : {E : Type 0} (P S Q : Type 0) (r : Result (Unit {0}) E) → (P → S → Q) → IfOk r (λ _. P) → IfOk r (λ _. S) → IfOk r (λ _. Q)
map_both_ok P S Q (Ok u) f p s = f p s
map_both_ok P S Q (Err e) f p s = p

swap : (a b c : Bool) → (b || (a || c)) ≡ (a || (b || c))
swap true true c = refl
swap true false c = refl
swap false true c = refl
swap false false c = refl

last_name : (kind : Role → Bool) (os : List Occurrence) (o : Occurrence) (s : Option ℕ) (x : List ℕ) →
    names_as kind (os ++ o ∷ []) s x ≡ ((kind o.mention.role && same_scope o.scope s && same_bytes o.mention.name x) || names_as kind os s x)
last_name kind [] o s x = refl
last_name kind (p ∷ os) o s x =
    ap (λ b. (kind p.mention.role && same_scope p.scope s && same_bytes p.mention.name x) || b) (last_name kind os o s x)
    ∙ swap (kind o.mention.role && same_scope o.scope s && same_bytes o.mention.name x) (kind p.mention.role && same_scope p.scope s && same_bytes p.mention.name x) (names_as kind os s x)

-- a name that is of the kind was added to the set
pub has_one_more : (kind : Role → Bool) (old new : NameSet) (os : List Occurrence) (o : Occurrence) → kind o.mention.role ≡ true → Added old new o.scope o.mention.name → HasAs kind old os → HasAs kind new (os ++ o ∷ [])
has_one_more kind old new os o is added h = λ s x.
    added s x
    ∙ (ap (λ b. (same_scope o.scope s && same_bytes o.mention.name x) || b) (h s x)
    ∙ (ap (λ b. (b && same_scope o.scope s && same_bytes o.mention.name x) || names_as kind os s x) (sym is) ∙ sym (last_name kind os o s x)))

-- a name that is of another kind changes nothing
pub has_same : (kind : Role → Bool) (set : NameSet) (os : List Occurrence) (o : Occurrence) → kind o.mention.role ≡ false → HasAs kind set os → HasAs kind set (os ++ o ∷ [])
has_same kind set os o other h = λ s x.
    h s x ∙ (ap (λ b. (b && same_scope o.scope s && same_bytes o.mention.name x) || names_as kind os s x) (sym other) ∙ sym (last_name kind os o s x))

-- nothing is named
pub knows_same : (names : Names) (o : Occurrence) → is_function o.mention.role ≡ false → is_variable o.mention.role ≡ false → is_declared_once o.mention.role ≡ false → (os : List Occurrence) → Knows names os → Knows names (os ++ o ∷ [])
knows_same names o f v d os k = record {
  functions = has_same is_function names.functions os o f k.functions;
  variables = has_same is_variable names.variables os o v k.variables;
  declared = has_same is_declared_once names.declared os o d k.declared;
}
