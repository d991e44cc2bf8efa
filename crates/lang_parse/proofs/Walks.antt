-- A first part and then items in a row, as a loop of the parser reads them.
use Rattle.std.proofs.Common.{◌≡◌, ℕ, ◌<◌, ◌≤◌, List, [], ◌∷◌, ◌++◌, length, map, refl, sym, ap, ◌∙◌, subst, arith}
use Rattle.std.proofs.lemmas.List.{map-append, length-map}
use Rattle.std.specs.Prelude.{Result, Ok, Err}
use Rattle.lang_tokens.specs.Seen.{TokenSeen}
use Rattle.page_types.specs.Tree.{Expr}
use Rattle.lang_parse.specs.declared.error.ParseError.{ParseError}
use Rattle.lang_parse.specs.declared.error.ParseError.TheVariants.{NoParse, OutOfMemory}
use Rattle.lang_parse.specs.Symbols.{Symbol, symbol_of, symbols_of}
use Rattle.lang_parse.specs.Parts.{Many, Anything, Reads, Behind}
use Rattle.lang_parse.specs.Deciding.{Never, Ends, Fails, Decides}
use Rattle.lang_parse.proofs.Generic.{Leads, Leads-never, Leads-ends, Leads-trans, Splits, first_ends, Follows, Many-push, many_leads, many_fails, many_ends, behind_leads, Shrinks}
use Rattle.lang_parse.proofs.ExprUnique.{reads_shrink}

-- this part and these items have been read, and whatever else is read goes on from the rest
pub record Walk {X Y Z : Type 0} (A : X → List Symbol → List Symbol → Type 0) (B : Y → List Symbol → List Symbol → Type 0) (R : Z → List Symbol → List Symbol → Type 0) (Stop : List Symbol → Type 0) (ks : List Symbol) (x : X) (ys : List Y) (rest : List Symbol) : Type 0 where
  pub mid : List Symbol
  pub head : A x ks mid
  pub tail : Many B ys mid rest
  pub leads : Leads R Stop (Many B) ks rest
  pub within : length rest ≤ length ks

module _ {X Y Z : Type 0} (A : X → List Symbol → List Symbol → Type 0) (StopA : List Symbol → Type 0) (B : Y → List Symbol → List Symbol → Type 0) (R : Z → List Symbol → List Symbol → Type 0) (Stop : List Symbol → Type 0) (ks : List Symbol) where
  pub walk_begins : {W : Type 0} (f : W → Y) {made : X → List Y → Z} (mid : List Symbol) (x : X) (items : List W) → items ≡ [] → Splits R Stop A StopA (Many B) made ks → Shrinks A → A x ks mid → Ends A StopA ks mid → Walk A B R Stop ks x (map f items) mid
  walk_begins f mid x items e split shrinks a n = subst (λ zs. Walk A B R Stop ks x (map f zs) mid) (sym e) (record { mid = mid; head = a; tail = refl; leads = first_ends mid split n; within = shrinks x ks mid a })

  pub walk_goes_on : {W : Type 0} (f : W → Y) (StopB : List Symbol → Type 0) (x : X) (rest end : List Symbol) (old new : List W) (w : W) → Walk A B R Stop ks x (map f old) rest → new ≡ old ++ w ∷ [] →
      Follows B StopB Stop → B (f w) rest end → length end ≤ length rest → (Stop rest → ⊥) → Ends B StopB rest end → Walk A B R Stop ks x (map f new) end
  walk_goes_on f StopB x rest end old new w p e follows r le more n =
      subst (λ zs. Walk A B R Stop ks x zs end) (sym (map-append f old (w ∷ [])) ∙ ap (map f) (sym e))
      (record {
        mid = p.mid;
        head = p.head;
        tail = Many-push B (map f old) (f w) p.mid rest end p.tail r;
        leads = Leads-trans p.leads (many_leads B StopB Stop follows rest end more n);
        within = omega (arith, p.within);
      })

  pub walk_fails : (StopB : List Symbol → Type 0) (x : X) (rest : List Symbol) (ys : List Y) → Walk A B R Stop ks x ys rest → Follows B StopB Stop → (Stop rest → ⊥) → Never B StopB rest → Never R Stop ks
  walk_fails StopB x rest ys p follows more n = Leads-never p.leads (many_fails B StopB Stop follows rest more n)

  pub walk_ends : (x : X) (rest : List Symbol) (ys : List Y) → Walk A B R Stop ks x ys rest → Never B Anything rest → Ends R Stop ks rest
  walk_ends x rest ys p n = Leads-ends p.leads (many_ends B Anything Stop rest n)

-- ---- errors that are handed on

pub fails_from : {X Y : Type 0} (A : X → List Symbol → List Symbol → Type 0) (StopA : List Symbol → Type 0) (ks : List Symbol) (R : Y → List Symbol → List Symbol → Type 0) (Stop : List Symbol → Type 0) (ls : List Symbol) →
    (Never A StopA ks → Never R Stop ls) → (e : ParseError) → Fails A StopA ks e → Fails R Stop ls e
fails_from A StopA ks R Stop ls f (NoParse left) h = f h
fails_from A StopA ks R Stop ls f OutOfMemory h = tt

pub memory_fails : {X : Type 0} (R : X → List Symbol → List Symbol → Type 0) (Stop : List Symbol → Type 0) (ks : List Symbol) (e : ParseError) → e ≡ OutOfMemory → Fails R Stop ks e
memory_fails R Stop ks e is = subst (Fails R Stop ks) (sym is) tt

pub decides_from : {X Y W : Type 0} (A : X → List Symbol → List Symbol → Type 0) (StopA : List Symbol → Type 0) (ks : List Symbol) (R : Y → List Symbol → List Symbol → Type 0) (Stop : List Symbol → Type 0) (ls : List Symbol) (seen : W → X × List Symbol) (seen' : W → Y × List Symbol) →
    ((w : W) → A (seen w).0 ks (seen w).1 → R (seen' w).0 ls (seen' w).1) → ((w : W) → Ends A StopA ks (seen w).1 → Ends R Stop ls (seen' w).1) → (Never A StopA ks → Never R Stop ls) →
    (r : Result W ParseError) → Decides A StopA ks seen r → Decides R Stop ls seen' r
decides_from A StopA ks R Stop ls seen seen' f g h (Ok w) d = (f w d.0, g w d.1)
decides_from A StopA ks R Stop ls seen seen' f g h (Err e) d = fails_from A StopA ks R Stop ls h e d

-- ---- lengths

pub lt_le : {a b c : ℕ} → b < c → a ≤ b → a < c
lt_le p q = omega arith

pub le_le : {a b c : ℕ} → a ≤ b → b ≤ c → a ≤ c
le_le p q = omega arith

pub lt_weak : {a b : ℕ} → a < b → a ≤ b
lt_weak p = omega arith

pub length-symbols : (ts : List TokenSeen) → length (symbols_of ts) ≡ length ts
length-symbols ts = length-map ts symbol_of

pub shorter : (ts us : List TokenSeen) (k : Symbol) → symbols_of ts ≡ k ∷ symbols_of us → length us < length ts
shorter ts us k e = omega (arith, ap length e, length-symbols ts, length-symbols us)

pub within : (ts us : List TokenSeen) → length (symbols_of us) ≤ length (symbols_of ts) → length us ≤ length ts
within ts us le = omega (arith, le, length-symbols ts, length-symbols us)

pub reads_within : (n : ℕ) (t : Expr) (ts us : List TokenSeen) → Reads n t (symbols_of ts) (symbols_of us) → length us ≤ length ts
reads_within n t ts us r = within ts us (reads_shrink n t (symbols_of ts) (symbols_of us) r)

-- ---- an item behind a symbol

module _ {X : Type 0} (k : Symbol) (R : X → List Symbol → List Symbol → Type 0) (Stop : List Symbol → Type 0) (rest next : List Symbol) (e : rest ≡ k ∷ next) where
  pub item_ends : (end : List Symbol) → Ends R Stop next end → Ends (Behind k R) Stop rest end
  item_ends end n = Leads-ends (behind_leads k rest next e) n

  pub item_fails : Never R Stop next → Never (Behind k R) Stop rest
  item_fails n = Leads-never (behind_leads k rest next e) n

  pub item_read : (x : X) (end : List Symbol) → R x next end → Behind k R x rest end
  item_read x end r = record { mid = next; begins = e; goes_on = r }
