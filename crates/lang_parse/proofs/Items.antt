-- Expressions with commas between them, up to the sign that closes them.
use Rattle.std.proofs.Common.{◌≡◌, ℕ, ◌≤◌, List, [], ◌∷◌, ◌++◌, refl, sym, ap, ◌∙◌, subst, arith, codes, false, inl, inr, length, length-append}
use Rattle.page_types.specs.Tree.{Expr}
use Rattle.lang_parse.specs.Symbols.{Symbol, SignOf}
use Rattle.lang_parse.specs.Grammar.{spelling}
use Rattle.lang_parse.specs.Parts.{binding, Stops, Anything, Reads, Closed, Many, Listed, SomeListed, ListEnds, IsCloser, CommaItem}
use Rattle.lang_parse.specs.Deciding.{Never, Ends}
use Rattle.lang_parse.proofs.Generic.{Leads, Leads-trans, Splits, first_ends, Halves, Follows, Begins, Many-push, many_leads, many_fails, many_ends, behind_leads, Leads-never, Leads-ends, closed_fails, closed_open, closed_ends}
use Rattle.lang_parse.proofs.Signs.{head_tag, comma_binds, closing_binds, closing_square_binds}
use Rattle.lang_parse.proofs.Heads.{begins_tree, none_begins}

-- ---- the closing sign

pub closer_ends : (close : List ℕ) → IsCloser close → (end : List Symbol) → ListEnds (SignOf close ∷ end)
closer_ends close i end = elim i [
  | inl e ↦ subst (λ c. ListEnds (SignOf c ∷ end)) (sym e) (record { stops = omega (arith, closing_binds); no_comma = λ rest f. omega (arith, ap head_tag f) })
  | inr e ↦ subst (λ c. ListEnds (SignOf c ∷ end)) (sym e) (record { stops = omega (arith, closing_square_binds); no_comma = λ rest f. omega (arith, ap head_tag f) })
]

pub closer_is : (close : List ℕ) → IsCloser close → begins_tree (SignOf close) ≡ false
closer_is close i = elim i [
  | inl e ↦ subst (λ c. begins_tree (SignOf c) ≡ false) (sym e) refl
  | inr e ↦ subst (λ c. begins_tree (SignOf c) ≡ false) (sym e) refl
]

-- ---- {"," expr}

pub comma_follows : Follows CommaItem (Stops 0) ListEnds
comma_follows [] mid end m s = subst (Stops 0) (sym m) s.stops
comma_follows (x ∷ xs) mid end m s = let le : binding (SignOf (codes ",")) ≤ 0 = omega (arith, comma_binds) in subst (Stops 0) (sym m.1.begins) le

pub comma_begins : Begins CommaItem (Stops 0) ListEnds
comma_begins x ks end r s = s.no_comma r.mid r.begins

pub comma_more : (rest next : List Symbol) → rest ≡ SignOf (codes ",") ∷ next → ListEnds rest → ⊥
comma_more rest next e s = s.no_comma next e

pub split_some : (ks : List Symbol) → Splits SomeListed ListEnds (Reads 0) (Stops 0) (Many CommaItem) (λ x xs. x ∷ xs) ks
split_some ks = record { halves = halves }
  where
    halves : (xs : List Expr) (end : List Symbol) → SomeListed xs ks end → ListEnds end → Halves (Reads 0) (Stops 0) (Many CommaItem) (λ x xs. x ∷ xs) xs ks end
    halves [] end r s = absurd (r.some refl)
    halves (x ∷ xs) end r s = record {
      first = x;
      second = xs;
      mid = r.listed.inner.0;
      a = r.listed.inner.1;
      stops = comma_follows xs r.listed.inner.0 end r.listed.inner.2 s;
      b = r.listed.inner.2;
      is = refl;
    }

-- ---- up to the closing sign

module _ (close : List ℕ) (i : IsCloser close) (ks : List Symbol) where
  pub none_listed : (rest : List Symbol) → ks ≡ SignOf close ∷ rest → Ends (Closed Listed (SignOf close)) Anything ks rest
  none_listed rest e = record { same = λ xs end r s. same xs end r.inner }
    where
      same : (xs : List Expr) (end : List Symbol) → Listed xs ks (SignOf close ∷ end) → end ≡ rest
      same [] end r = let f : SignOf close ∷ end ≡ SignOf close ∷ rest = sym r.inner ∙ e in cc
      same (x ∷ xs) end r = absurd (none_begins x 0 ks r.inner.0 (SignOf close) rest r.inner.1 e (closer_is close i))

  pub some_listed : ((rest : List Symbol) → ks ≡ SignOf close ∷ rest → ⊥) → Leads (Closed Listed (SignOf close)) Anything (Closed SomeListed (SignOf close)) ks ks
  some_listed none = record { to = λ xs end r s. (xs, record { inner = record { some = some xs end r.inner; listed = r.inner } }) }
    where
      some : (xs : List Expr) (end : List Symbol) → Listed xs ks (SignOf close ∷ end) → xs ≡ [] → ⊥
      some [] end r e = none end r.inner
      some (x ∷ xs) end r e = cc

-- ---- the loop

-- these expressions have been read, and whatever else is read goes on from the rest
pub record ListProgress (ks : List Symbol) (xs : List Expr) (rest : List Symbol) : Type 0 where
  pub first : Expr
  pub others : List Expr
  pub mid : List Symbol
  pub are : xs ≡ first ∷ others
  pub head : Reads 0 first ks mid
  pub tail : Many CommaItem others mid rest
  pub leads : Leads SomeListed ListEnds (Many CommaItem) ks rest
  pub within : length rest ≤ length ks

pub list_begins : (ks rest : List Symbol) (x : Expr) (xs : List Expr) → xs ≡ x ∷ [] → Reads 0 x ks rest → Ends (Reads 0) (Stops 0) ks rest → ListProgress ks xs rest
list_begins ks rest x xs e r n = record { first = x; others = []; mid = rest; are = e; head = r; tail = refl; leads = first_ends rest (split_some ks) n; within = omega (arith, ap length r.spelled, length-append (spelling x) rest) }

pub list_goes_on : (ks rest next end : List Symbol) (xs new : List Expr) (y : Expr) → ListProgress ks xs rest → new ≡ xs ++ y ∷ [] → rest ≡ SignOf (codes ",") ∷ next → Reads 0 y next end → Ends (Reads 0) (Stops 0) next end → ListProgress ks new end
list_goes_on ks rest next end xs new y p e f r n =
    let item : CommaItem y rest end = record { mid = next; begins = f; goes_on = r } in
    record {
      first = p.first;
      others = p.others ++ y ∷ [];
      mid = p.mid;
      are = e ∙ ap (λ z. z ++ y ∷ []) p.are;
      head = p.head;
      tail = Many-push CommaItem p.others y p.mid rest end p.tail item;
      leads = Leads-trans p.leads (many_leads CommaItem (Stops 0) ListEnds comma_follows rest end (comma_more rest next f) (item_ends));
      within = omega (arith, p.within, ap length f, ap length r.spelled, length-append (spelling y) end);
    }
  where
    item_ends : Ends CommaItem (Stops 0) rest end
    item_ends = record { same = λ x last q s. let b = (behind_leads {R = Reads 0} {Stop = Stops 0} (SignOf (codes ",")) rest next f).to x last q s in n.same b.0 last b.1 s }

pub list_done : (ks rest : List Symbol) (xs : List Expr) → ListProgress ks xs rest → SomeListed xs ks rest
list_done ks rest xs p = subst (λ zs. SomeListed zs ks rest) (sym p.are) (record { some = λ e. cc; listed = record { inner = (p.mid, p.head, p.tail) } })

pub list_fails : (ks rest next : List Symbol) (xs : List Expr) → ListProgress ks xs rest → rest ≡ SignOf (codes ",") ∷ next → Never (Reads 0) (Stops 0) next → Never SomeListed ListEnds ks
list_fails ks rest next xs p e n = Leads-never p.leads (many_fails CommaItem (Stops 0) ListEnds comma_follows rest (comma_more rest next e)
    (Leads-never (behind_leads {R = Reads 0} {Stop = Stops 0} (SignOf (codes ",")) rest next e) n))

pub list_ends : (ks rest : List Symbol) (xs : List Expr) → ListProgress ks xs rest → ((next : List Symbol) → rest ≡ SignOf (codes ",") ∷ next → ⊥) → Ends SomeListed ListEnds ks rest
list_ends ks rest xs p none = Leads-ends p.leads (many_ends CommaItem Anything ListEnds rest (record { none = λ x end r s. none r.mid r.begins }))

-- ---- the steps of `items`

module _ (close : List ℕ) (i : IsCloser close) (ks : List Symbol) (none : (rest : List Symbol) → ks ≡ SignOf close ∷ rest → ⊥) where
  pub items_fails : Never SomeListed ListEnds ks → Never (Closed Listed (SignOf close)) Anything ks
  items_fails n = Leads-never (some_listed close i ks none) (closed_fails ListEnds Anything (SignOf close) (closer_ends close i) ks n)

  pub items_open : (mid : List Symbol) → Ends SomeListed ListEnds ks mid → ((rest : List Symbol) → mid ≡ SignOf close ∷ rest → ⊥) → Never (Closed Listed (SignOf close)) Anything ks
  items_open mid only unclosed = Leads-never (some_listed close i ks none) (closed_open ListEnds Anything (SignOf close) (closer_ends close i) ks mid only unclosed)

  pub items_ends : (mid rest : List Symbol) → Ends SomeListed ListEnds ks mid → mid ≡ SignOf close ∷ rest → Ends (Closed Listed (SignOf close)) Anything ks rest
  items_ends mid rest only e = Leads-ends (some_listed close i ks none) (closed_ends ListEnds Anything (SignOf close) (closer_ends close i) ks mid rest only e)

pub items_found : (close : List ℕ) (ks mid rest : List Symbol) (xs : List Expr) → SomeListed xs ks mid → mid ≡ SignOf close ∷ rest → Closed Listed (SignOf close) xs ks rest
items_found close ks mid rest xs r e = record { inner = subst (λ z. Listed xs ks z) e r.listed }

pub none_found : (close : List ℕ) (ks rest : List Symbol) (xs : List Expr) → xs ≡ [] → ks ≡ SignOf close ∷ rest → Closed Listed (SignOf close) xs ks rest
none_found close ks rest xs is e = subst (λ zs. Closed Listed (SignOf close) zs ks rest) (sym is) (record { inner = record { inner = e } })
