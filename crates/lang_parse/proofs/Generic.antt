-- How parts of the grammar are read one after another: where a reading fails, where it ends, and that it is the only one.
use Rattle.std.proofs.Common.{◌≡◌, ℕ, ◌<◌, ◌≤◌, List, [], ◌∷◌, ◌++◌, Option, Some, None, length, refl, sym, ap, ◌∙◌, subst, arith}
use Rattle.lang_parse.specs.Symbols.{Symbol}
use Rattle.lang_parse.specs.Parts.{Behind, Closed, Both, Many, Perhaps, Anything}
use Rattle.lang_parse.specs.Deciding.{Never, Ends}

-- whatever A reads up to an end, B reads from another place up to that end
pub record Leads {X Y : Type 0} (A : X → List Symbol → List Symbol → Type 0) (Stop : List Symbol → Type 0) (B : Y → List Symbol → List Symbol → Type 0) (ks mid : List Symbol) : Type 0 where
  pub to : (x : X) (end : List Symbol) → A x ks end → Stop end → (y : Y) × B y mid end

pub Leads-never : {X Y : Type 0} {A : X → List Symbol → List Symbol → Type 0} {Stop : List Symbol → Type 0} {B : Y → List Symbol → List Symbol → Type 0} {ks mid : List Symbol} →
    Leads A Stop B ks mid → Never B Stop mid → Never A Stop ks
Leads-never p n = record { none = λ x end a s. let b = p.to x end a s in n.none b.0 end b.1 s }

pub Leads-ends : {X Y : Type 0} {A : X → List Symbol → List Symbol → Type 0} {Stop : List Symbol → Type 0} {B : Y → List Symbol → List Symbol → Type 0} {ks mid rest : List Symbol} →
    Leads A Stop B ks mid → Ends B Stop mid rest → Ends A Stop ks rest
Leads-ends p n = record { same = λ x end a s. let b = p.to x end a s in n.same b.0 end b.1 s }

pub Leads-trans : {X Y Z : Type 0} {A : X → List Symbol → List Symbol → Type 0} {Stop : List Symbol → Type 0} {B : Y → List Symbol → List Symbol → Type 0} {C : Z → List Symbol → List Symbol → Type 0} {ks mid end : List Symbol} →
    Leads A Stop B ks mid → Leads B Stop C mid end → Leads A Stop C ks end
Leads-trans p q = record { to = λ x end a s. let b = p.to x end a s in q.to b.0 end b.1 s }

pub Never-any : {X : Type 0} {R : X → List Symbol → List Symbol → Type 0} {ks : List Symbol} (Stop : List Symbol → Type 0) → Never R Anything ks → Never R Stop ks
Never-any Stop n = record { none = λ x end r s. n.none x end r tt }

pub Ends-any : {X : Type 0} {R : X → List Symbol → List Symbol → Type 0} {ks rest : List Symbol} (Stop : List Symbol → Type 0) → Ends R Anything ks rest → Ends R Stop ks rest
Ends-any Stop n = record { same = λ x end r s. n.same x end r tt }

-- what is read is the only thing, and its end is the only one
pub record Unique {X : Type 0} (R : X → List Symbol → List Symbol → Type 0) (Stop : List Symbol → Type 0) (ks : List Symbol) : Type 0 where
  pub one : (x y : X) (e f : List Symbol) → R x ks e → Stop e → R y ks f → Stop f → (x ≡ y) × (e ≡ f)

pub Unique-any : {X : Type 0} {R : X → List Symbol → List Symbol → Type 0} {ks : List Symbol} (Stop : List Symbol → Type 0) → Unique R Anything ks → Unique R Stop ks
Unique-any Stop u = record { one = λ x y e f r s r' s'. u.one x y e f r tt r' tt }

-- what is read is not longer than it was
abbrev pub Shrinks : {X : Type 0} → (X → List Symbol → List Symbol → Type 0) → Type 0
Shrinks {X} R = (x : X) (ks end : List Symbol) → R x ks end → length end ≤ length ks

-- ---- a part, and then another

-- a reading is a reading of a first part, which stops, and of a second
pub record Halves {X Y Z : Type 0} (A : X → List Symbol → List Symbol → Type 0) (StopA : List Symbol → Type 0) (B : Y → List Symbol → List Symbol → Type 0) (made : X → Y → Z) (z : Z) (ks end : List Symbol) : Type 0 where
  pub first : X
  pub second : Y
  pub mid : List Symbol
  pub a : A first ks mid
  pub stops : StopA mid
  pub b : B second mid end
  pub is : z ≡ made first second

pub record Splits {X Y Z : Type 0} (R : Z → List Symbol → List Symbol → Type 0) (Stop : List Symbol → Type 0) (A : X → List Symbol → List Symbol → Type 0) (StopA : List Symbol → Type 0) (B : Y → List Symbol → List Symbol → Type 0) (made : X → Y → Z) (ks : List Symbol) : Type 0 where
  pub halves : (z : Z) (end : List Symbol) → R z ks end → Stop end → Halves A StopA B made z ks end

module _ {X Y Z : Type 0} {R : Z → List Symbol → List Symbol → Type 0} {Stop : List Symbol → Type 0} {A : X → List Symbol → List Symbol → Type 0} {StopA : List Symbol → Type 0} {B : Y → List Symbol → List Symbol → Type 0} {made : X → Y → Z} {ks : List Symbol} where
  pub first_fails : Splits R Stop A StopA B made ks → Never A StopA ks → Never R Stop ks
  first_fails split n = record { none = λ z end r s. let p = split.halves z end r s in n.none p.first p.mid p.a p.stops }

  pub first_ends : (mid : List Symbol) → Splits R Stop A StopA B made ks → Ends A StopA ks mid → Leads R Stop B ks mid
  first_ends mid split e = record { to = λ z end r s. let p = split.halves z end r s in (p.second, subst (λ m. B p.second m end) (e.same p.first p.mid p.a p.stops) p.b) }

  pub split_unique : Splits R Stop A StopA B made ks → Unique A StopA ks → ((x : X) (mid : List Symbol) → A x ks mid → Unique B Stop mid) → Unique R Stop ks
  split_unique split u v = record {
    one = λ z w e f r s r' s'.
        let p = split.halves z e r s in
        let q = split.halves w f r' s' in
        let h = u.one p.first q.first p.mid q.mid p.a p.stops q.a q.stops in
        let g = (v p.first p.mid p.a).one p.second q.second e f p.b s (subst (λ m. B q.second m f) (sym h.1) q.b) s' in
        (p.is ∙ ap (λ x. made x p.second) h.0 ∙ ap (made q.first) g.0 ∙ sym q.is, g.1);
  }

pub split_both : {X Y : Type 0} (A : X → List Symbol → List Symbol → Type 0) (StopA : List Symbol → Type 0) (B : Y → List Symbol → List Symbol → Type 0) (Stop : List Symbol → Type 0) (ks : List Symbol) →
    ((y : Y) (mid end : List Symbol) → B y mid end → Stop end → StopA mid) → Splits (Both A B) Stop A StopA B (λ x y. (x, y)) ks
split_both A StopA B Stop ks starts = record {
  halves = λ z end r s. record { first = z.0; second = z.1; mid = r.mid; a = r.first; stops = starts z.1 r.mid end r.second s; b = r.second; is = refl };
}

-- ---- behind a symbol, and up to one

cons-tail : (k : Symbol) (a b : List Symbol) → k ∷ a ≡ k ∷ b → a ≡ b
cons-tail k a b e = cc

module _ {X : Type 0} {R : X → List Symbol → List Symbol → Type 0} {Stop : List Symbol → Type 0} (k : Symbol) (ks : List Symbol) where
  pub behind_none : ((mid : List Symbol) → ks ≡ k ∷ mid → ⊥) → Never (Behind k R) Stop ks
  behind_none h = record { none = λ x end r s. h r.mid r.begins }

  pub behind_leads : (mid : List Symbol) → ks ≡ k ∷ mid → Leads (Behind k R) Stop R ks mid
  behind_leads mid e = record { to = λ x end r s. (x, subst (λ m. R x m end) (cons-tail k r.mid mid (sym r.begins ∙ e)) r.goes_on) }

  pub behind_unique : ((mid : List Symbol) → length mid < length ks → Unique R Stop mid) → Unique (Behind k R) Stop ks
  behind_unique u = record {
    one = λ x y e f r s r' s'.
        (u r.mid (omega (arith, ap length r.begins))).one x y e f r.goes_on s
        (subst (λ m. R y m f) (cons-tail k r'.mid r.mid (sym r'.begins ∙ r.begins)) r'.goes_on) s';
  }

module _ {X : Type 0} {R : X → List Symbol → List Symbol → Type 0} (StopR Stop : List Symbol → Type 0) (k : Symbol) (stops : (end : List Symbol) → StopR (k ∷ end)) (ks : List Symbol) where
  pub closed_fails : Never R StopR ks → Never (Closed R k) Stop ks
  closed_fails n = record { none = λ x end r s. n.none x (k ∷ end) r.inner (stops end) }

  pub closed_open : (mid : List Symbol) → Ends R StopR ks mid → ((end : List Symbol) → mid ≡ k ∷ end → ⊥) → Never (Closed R k) Stop ks
  closed_open mid e none = record { none = λ x end r s. none end (sym (e.same x (k ∷ end) r.inner (stops end))) }

  pub closed_ends : (mid rest : List Symbol) → Ends R StopR ks mid → mid ≡ k ∷ rest → Ends (Closed R k) Stop ks rest
  closed_ends mid rest e is = record { same = λ x end r s. cons-tail k end rest (e.same x (k ∷ end) r.inner (stops end) ∙ is) }

  pub closed_unique : Unique R StopR ks → Unique (Closed R k) Stop ks
  closed_unique u = record {
    one = λ x y e f r s r' s'.
        let h = u.one x y (k ∷ e) (k ∷ f) r.inner (stops e) r'.inner (stops f) in
        (h.0, cons-tail k e f h.1);
  }

-- ---- {part}

module _ {X : Type 0} (R : X → List Symbol → List Symbol → Type 0) where
  pub Many-shrinks : Shrinks R → (xs : List X) (ks end : List Symbol) → Many R xs ks end → length end ≤ length ks
  Many-shrinks h [] ks end m = omega (arith, ap length m)
  Many-shrinks h (x ∷ xs) ks end m = omega (arith, h x ks m.0 m.1, Many-shrinks h xs m.0 end m.2)

  pub Many-push : (xs : List X) (x : X) (ks mid end : List Symbol) → Many R xs ks mid → R x mid end → Many R (xs ++ x ∷ []) ks end
  Many-push [] x ks mid end m r = (end, subst (λ z. R x z end) (sym m) r, refl)
  Many-push (y ∷ ys) x ks mid end m r = (m.0, m.1, Many-push ys x m.0 mid end m.2 r)

module _ {X : Type 0} (R : X → List Symbol → List Symbol → Type 0) (StopR Stop : List Symbol → Type 0) where
  -- behind an item, whatever follows in the series stops it
  abbrev pub Follows : Type 0
  Follows = (xs : List X) (mid end : List Symbol) → Many R xs mid end → Stop end → StopR mid

  -- where the series is to stop no item begins
  abbrev pub Begins : Type 0
  Begins = (x : X) (ks end : List Symbol) → R x ks end → Stop ks → ⊥

  pub many_leads : Follows → (rest mid : List Symbol) → (Stop rest → ⊥) → Ends R StopR rest mid → Leads (Many R) Stop (Many R) rest mid
  many_leads follows rest mid more e = record { to = to }
    where
      to : (xs : List X) (end : List Symbol) → Many R xs rest end → Stop end → (ys : List X) × Many R ys mid end
      to [] end m s = absurd (more (subst Stop (sym m) s))
      to (x ∷ xs) end m s = (xs, subst (λ z. Many R xs z end) (e.same x m.0 m.1 (follows xs m.0 end m.2 s)) m.2)

  pub many_fails : Follows → (rest : List Symbol) → (Stop rest → ⊥) → Never R StopR rest → Never (Many R) Stop rest
  many_fails follows rest more n = record { none = none }
    where
      none : (xs : List X) (end : List Symbol) → Many R xs rest end → Stop end → ⊥
      none [] end m s = more (subst Stop (sym m) s)
      none (x ∷ xs) end m s = n.none x m.0 m.1 (follows xs m.0 end m.2 s)

  pub many_ends : (rest : List Symbol) → Never R Anything rest → Ends (Many R) Stop rest rest
  many_ends rest n = record { same = same }
    where
      same : (xs : List X) (end : List Symbol) → Many R xs rest end → Stop end → end ≡ rest
      same [] end m s = sym m
      same (x ∷ xs) end m s = absurd (n.none x m.0 m.1 tt)

  pub many_unique : Follows → Begins → (N : ℕ) → (shorter : (x : X) (ks end : List Symbol) → R x ks end → length end < length ks) →
      ((ks : List Symbol) → length ks ≤ N → Unique R StopR ks) → (ks : List Symbol) → length ks ≤ N → Unique (Many R) Stop ks
  many_unique follows begins N shorter u ks len = record { one = λ xs ys e f m s m' s'. one xs ys ks e f len m s m' s' }
    where
      one : (xs ys : List X) (ks e f : List Symbol) → length ks ≤ N → Many R xs ks e → Stop e → Many R ys ks f → Stop f → (xs ≡ ys) × (e ≡ f)
      one [] [] ks e f len m s m' s' = (refl, sym m ∙ m')
      one [] (y ∷ ys) ks e f len m s m' s' = absurd (begins y ks m'.0 m'.1 (subst Stop (sym m) s))
      one (x ∷ xs) [] ks e f len m s m' s' = absurd (begins x ks m.0 m.1 (subst Stop (sym m') s'))
      one (x ∷ xs) (y ∷ ys) ks e f len m s m' s' =
          let h = (u ks len).one x y m.0 m'.0 m.1 (follows xs m.0 e m.2 s) m'.1 (follows ys m'.0 f m'.2 s') in
          let short : length m.0 ≤ N = omega (arith, len, shorter x ks m.0 m.1) in
          let g = one xs ys m.0 e f short m.2 s (subst (λ z. Many R ys z f) (sym h.1) m'.2) s' in
          (ap (λ z. z ∷ xs) h.0 ∙ ap (λ z. y ∷ z) g.0, g.1)

  -- these items have been read, and whatever else is read goes on from the rest
  pub record Progress (ks : List Symbol) (xs : List X) (rest : List Symbol) : Type 0 where
    pub read : Many R xs ks rest
    pub leads : Leads (Many R) Stop (Many R) ks rest

-- ---- [part]

module _ {X : Type 0} (R : X → List Symbol → List Symbol → Type 0) (Stop : List Symbol → Type 0) where
  pub perhaps_none : (ks : List Symbol) → Never R Anything ks → Ends (Perhaps R) Stop ks ks
  perhaps_none ks n = record { same = same }
    where
      same : (x : Option X) (end : List Symbol) → Perhaps R x ks end → Stop end → end ≡ ks
      same None end p s = sym p
      same (Some x) end p s = absurd (n.none x end p tt)

  pub perhaps_ends : (ks rest : List Symbol) → (Stop ks → ⊥) → Ends R Stop ks rest → Ends (Perhaps R) Stop ks rest
  perhaps_ends ks rest more e = record { same = same }
    where
      same : (x : Option X) (end : List Symbol) → Perhaps R x ks end → Stop end → end ≡ rest
      same None end p s = absurd (more (subst Stop (sym p) s))
      same (Some x) end p s = e.same x end p s

  pub perhaps_fails : (ks : List Symbol) → (Stop ks → ⊥) → Never R Stop ks → Never (Perhaps R) Stop ks
  perhaps_fails ks more n = record { none = none }
    where
      none : (x : Option X) (end : List Symbol) → Perhaps R x ks end → Stop end → ⊥
      none None end p s = more (subst Stop (sym p) s)
      none (Some x) end p s = n.none x end p s

  pub perhaps_unique : ((x : X) (ks end : List Symbol) → R x ks end → Stop ks → ⊥) → (ks : List Symbol) → Unique R Stop ks → Unique (Perhaps R) Stop ks
  perhaps_unique begins ks u = record { one = one }
    where
      one : (x y : Option X) (e f : List Symbol) → Perhaps R x ks e → Stop e → Perhaps R y ks f → Stop f → (x ≡ y) × (e ≡ f)
      one None None e f p s q s' = (refl, sym p ∙ q)
      one None (Some y) e f p s q s' = absurd (begins y ks f q (subst Stop (sym p) s))
      one (Some x) None e f p s q s' = absurd (begins x ks e p (subst Stop (sym q) s'))
      one (Some x) (Some y) e f p s q s' = let h = u.one x y e f p s q s' in (ap Some h.0, h.1)
