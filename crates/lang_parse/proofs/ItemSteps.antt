-- The parser's steps through the items of a script.
use Rattle.std.proofs.Common.{◌≡◌, ◌<◌, ◌≤◌, List, [], ◌∷◌, ◌++◌, length, refl, sym, ap, ◌∙◌, subst, arith, codes}
use Rattle.page_types.specs.Tree as Model
use Rattle.page_types.specs.Tree.{Named, Item, FnItem}
use Rattle.lang_ast.specs.Seen.{block_of}
use Rattle.lang_parse.specs.Symbols.{Symbol, WordOf, SignOf}
use Rattle.lang_parse.specs.Parts.{Anything, Closed, Both, Many, NameRead, CommaName, NamesListed, SomeNames, NotComma, StmtRead, BlockRead, Parameters, ItemRead, AtEnd, NotElse}
use Rattle.lang_parse.specs.Deciding.{Never, Ends}
use Rattle.lang_parse.proofs.Generic.{Leads, Leads-never, Leads-ends, Leads-trans, Splits, Halves, first_ends, behind_leads, closed_fails, closed_open, closed_ends, Follows, Many-push, many_leads, many_fails, many_ends, Progress}
use Rattle.lang_parse.proofs.Signs.{head_tag}
use Rattle.lang_parse.proofs.Script.{item_shape, of_function, of_statement, function_read, parameters_unique}
use Rattle.lang_parse.proofs.StmtSteps.{any_fails, any_leads}
use Rattle.lang_parse.proofs.Walks.{length-symbols}
use Rattle.lang_parse.proofs.Lengths.{not_empty as some_left, is_empty as none_left}
use Rattle.std.specs.Prelude.{◌==◌, true, false}
use Rattle.lang_tokens.specs.Seen.{TokenSeen}
use Rattle.lang_parse.specs.Symbols.{symbols_of}

-- ---- names with commas between them

pub split_names : (ks : List Symbol) → Splits SomeNames NotComma NameRead Anything (Many CommaName) (λ x xs. x ∷ xs) ks
split_names ks = record { halves = halves }
  where
    halves : (xs : List Named) (end : List Symbol) → SomeNames xs ks end → NotComma end → Halves NameRead Anything (Many CommaName) (λ x xs. x ∷ xs) xs ks end
    halves [] end r s = absurd (r.some refl)
    halves (x ∷ xs) end r s = record { first = x; second = xs; mid = r.listed.inner.0; a = r.listed.inner.1; stops = tt; b = r.listed.inner.2; is = refl }

pub record NamesProgress (ks : List Symbol) (xs : List Named) (rest : List Symbol) : Type 0 where
  pub first : Named
  pub others : List Named
  pub mid : List Symbol
  pub are : xs ≡ first ∷ others
  pub head : NameRead first ks mid
  pub tail : Many CommaName others mid rest
  pub leads : Leads SomeNames NotComma (Many CommaName) ks rest

name_follows : Follows CommaName Anything NotComma
name_follows xs mid end m s = tt

pub names_begin : (ks rest : List Symbol) (x : Named) (xs : List Named) → xs ≡ x ∷ [] → NameRead x ks rest → Ends NameRead Anything ks rest → NamesProgress ks xs rest
names_begin ks rest x xs e r n = record { first = x; others = []; mid = rest; are = e; head = r; tail = refl; leads = first_ends rest (split_names ks) n }

pub names_go_on : (ks rest next end : List Symbol) (xs new : List Named) (y : Named) → NamesProgress ks xs rest → new ≡ xs ++ y ∷ [] → rest ≡ SignOf (codes ",") ∷ next → NameRead y next end → Ends NameRead Anything next end → NamesProgress ks new end
names_go_on ks rest next end xs new y p e f r n = record {
  first = p.first;
  others = p.others ++ y ∷ [];
  mid = p.mid;
  are = e ∙ ap (λ z. z ++ y ∷ []) p.are;
  head = p.head;
  tail = Many-push CommaName p.others y p.mid rest end p.tail (record { mid = next; begins = f; goes_on = r });
  leads = Leads-trans p.leads (many_leads CommaName Anything NotComma name_follows rest end (λ s. s next f) (Leads-ends (behind_leads {R = NameRead} {Stop = Anything} (SignOf (codes ",")) rest next f) n));
}

pub names_fail : (ks rest next : List Symbol) (xs : List Named) → NamesProgress ks xs rest → rest ≡ SignOf (codes ",") ∷ next → Never NameRead Anything next → Never SomeNames NotComma ks
names_fail ks rest next xs p f n = Leads-never p.leads (many_fails CommaName Anything NotComma name_follows rest (λ s. s next f) (Leads-never (behind_leads {R = NameRead} {Stop = Anything} (SignOf (codes ",")) rest next f) n))

pub names_done : (ks rest : List Symbol) (xs : List Named) → NamesProgress ks xs rest → SomeNames xs ks rest
names_done ks rest xs p = subst (λ zs. SomeNames zs ks rest) (sym p.are) (record { some = λ e. cc; listed = record { inner = (p.mid, p.head, p.tail) } })

pub names_end : (ks rest : List Symbol) (xs : List Named) → NamesProgress ks xs rest → ((next : List Symbol) → rest ≡ SignOf (codes ",") ∷ next → ⊥) → Ends SomeNames NotComma ks rest
names_end ks rest xs p none = Leads-ends p.leads (many_ends CommaName Anything NotComma rest (record { none = λ x end r s. none r.mid r.begins }))

-- ---- parameters

round_ends : (end : List Symbol) → NotComma (SignOf (codes ")") ∷ end)
round_ends end rest e = omega (arith, ap head_tag e)

module _ (ks next : List Symbol) (e : ks ≡ SignOf (codes "(") ∷ next) where
  parameters_leads : Leads Parameters Anything (Closed NamesListed (SignOf (codes ")"))) ks next
  parameters_leads = behind_leads (SignOf (codes "(")) ks next e

  pub no_parameters_found : (xs : List Named) (rest : List Symbol) → xs ≡ [] → next ≡ SignOf (codes ")") ∷ rest → Parameters xs ks rest
  no_parameters_found xs rest is f = subst (λ zs. Parameters zs ks rest) (sym is) (record { mid = next; begins = e; goes_on = record { inner = record { inner = f } } })

  pub no_parameters_end : (rest : List Symbol) → next ≡ SignOf (codes ")") ∷ rest → Ends Parameters Anything ks rest
  no_parameters_end rest f = Leads-ends parameters_leads (record { same = λ xs end r s. same xs end r.inner })
    where
      same : (xs : List Named) (end : List Symbol) → NamesListed xs next (SignOf (codes ")") ∷ end) → end ≡ rest
      same [] end r = let h : SignOf (codes ")") ∷ end ≡ SignOf (codes ")") ∷ rest = sym r.inner ∙ f in cc
      same (x ∷ xs) end r = absurd (omega (arith, ap head_tag (sym f ∙ r.inner.1)))

  module _ (none : (rest : List Symbol) → next ≡ SignOf (codes ")") ∷ rest → ⊥) where
    some_leads : Leads Parameters Anything (Closed SomeNames (SignOf (codes ")"))) ks next
    some_leads = Leads-trans parameters_leads (record { to = λ xs end r s. (xs, record { inner = record { some = some xs end r.inner; listed = r.inner } }) })
      where
        some : (xs : List Named) (end : List Symbol) → NamesListed xs next (SignOf (codes ")") ∷ end) → xs ≡ [] → ⊥
        some [] end r i = none end r.inner
        some (x ∷ xs) end r i = cc

    pub parameters_fail : Never SomeNames NotComma next → Never Parameters Anything ks
    parameters_fail n = Leads-never some_leads (closed_fails NotComma Anything (SignOf (codes ")")) round_ends next n)

    pub parameters_open : (mid : List Symbol) → Ends SomeNames NotComma next mid → ((rest : List Symbol) → mid ≡ SignOf (codes ")") ∷ rest → ⊥) → Never Parameters Anything ks
    parameters_open mid only unclosed = Leads-never some_leads (closed_open NotComma Anything (SignOf (codes ")")) round_ends next mid only unclosed)

    pub parameters_end : (mid rest : List Symbol) → Ends SomeNames NotComma next mid → mid ≡ SignOf (codes ")") ∷ rest → Ends Parameters Anything ks rest
    parameters_end mid rest only f = Leads-ends some_leads (closed_ends NotComma Anything (SignOf (codes ")")) round_ends next mid rest only f)

  pub parameters_found : (xs : List Named) (mid rest : List Symbol) → SomeNames xs next mid → mid ≡ SignOf (codes ")") ∷ rest → Parameters xs ks rest
  parameters_found xs mid rest r f = record { mid = next; begins = e; goes_on = record { inner = subst (λ z. NamesListed xs next z) f r.listed } }

-- ---- functions

-- the parts behind `fn`, and how many parameters there are
pub record FewParts (p : Named × (List Named × List Model.Stmt)) (ks end : List Symbol) : Type 0 where
  pub few : length p.1.0 ≤ 8
  pub parts : Both NameRead (Both Parameters BlockRead) p ks end

tail_same : (k : Symbol) (a b : List Symbol) → k ∷ a ≡ k ∷ b → a ≡ b
tail_same k a b e = cc

pub function_leads : (ks : List Symbol) → Leads ItemRead NotElse FewParts (WordOf (codes "fn") ∷ ks) ks
function_leads ks = record { to = to }
  where
    to : (item : Item) (end : List Symbol) → ItemRead item (WordOf (codes "fn") ∷ ks) end → NotElse end → (p : Named × (List Named × List Model.Stmt)) × FewParts p ks end
    to item end r s =
        let h = of_function item _ end ks (item_shape item _ end r) refl in
        (h.0, record { few = h.2; parts = subst (λ m. Both NameRead (Both Parameters BlockRead) h.0 m end) (tail_same (WordOf (codes "fn")) h.3.mid ks (sym h.3.begins)) h.3.goes_on })

few_leads : (ks : List Symbol) → Leads FewParts NotElse (Both NameRead (Both Parameters BlockRead)) ks ks
few_leads ks = record { to = λ p end r s. (p, r.parts) }

module _ (ks : List Symbol) where
  parts_leads : Leads ItemRead NotElse (Both NameRead (Both Parameters BlockRead)) (WordOf (codes "fn") ∷ ks) ks
  parts_leads = Leads-trans (function_leads ks) (few_leads ks)

  pub function_unnamed : Never NameRead Anything ks → Never ItemRead NotElse (WordOf (codes "fn") ∷ ks)
  function_unnamed n = Leads-never parts_leads (any_fails NameRead (Both Parameters BlockRead) NotElse ks n)

  module _ (m : List Symbol) (only : Ends NameRead Anything ks m) where
    named_leads : Leads ItemRead NotElse (Both Parameters BlockRead) (WordOf (codes "fn") ∷ ks) m
    named_leads = Leads-trans parts_leads (any_leads NameRead (Both Parameters BlockRead) NotElse ks m only)

    pub function_no_parameters : Never Parameters Anything m → Never ItemRead NotElse (WordOf (codes "fn") ∷ ks)
    function_no_parameters n = Leads-never named_leads (any_fails Parameters BlockRead NotElse m n)

    -- too many parameters
    pub function_too_many : (xs : List Named) (n : List Symbol) → Parameters xs m n → 8 < length xs → Never ItemRead NotElse (WordOf (codes "fn") ∷ ks)
    function_too_many xs n r many = Leads-never (function_leads ks) (record { none = none })
      where
        none : (p : Named × (List Named × List Model.Stmt)) (end : List Symbol) → FewParts p ks end → NotElse end → ⊥
        none p end q s =
            let at : q.parts.mid ≡ m = only.same p.0 q.parts.mid q.parts.first tt in
            let a = subst (λ z. Parameters p.1.0 z q.parts.second.mid) at q.parts.second.first in
            let h = (parameters_unique m).one p.1.0 xs q.parts.second.mid n a tt r tt in
            omega (arith, many, q.few, ap length h.0)

    module _ (n : List Symbol) (only' : Ends Parameters Anything m n) where
      pub body_leads : Leads ItemRead NotElse BlockRead (WordOf (codes "fn") ∷ ks) n
      body_leads = Leads-trans named_leads (any_leads Parameters BlockRead NotElse m n only')

pub function_found : (f : Named) (xs : List Named) (ss : List Model.Stmt) (ks m n end : List Symbol) → length xs ≤ 8 → NameRead f ks m → Parameters xs m n → BlockRead ss n end → ItemRead (FnItem f xs (block_of ss)) (WordOf (codes "fn") ∷ ks) end
function_found f xs ss ks m n end few a b c = function_read (f, (xs, ss)) (WordOf (codes "fn") ∷ ks) end few (record { mid = ks; begins = refl; goes_on = record { mid = m; first = a; second = record { mid = n; first = b; second = c } } })

-- ---- a statement as an item

pub statement_leads : (ks : List Symbol) → ((mid : List Symbol) → ks ≡ WordOf (codes "fn") ∷ mid → ⊥) → Leads ItemRead NotElse StmtRead ks ks
statement_leads ks none = record { to = λ item end r s. let h = of_statement item ks end none (item_shape item ks end r) in (h.0, h.2) }

-- ---- the script

pub name_within : (ts us vs : List TokenSeen) (x : Named) → symbols_of ts ≡ SignOf (codes ",") ∷ symbols_of us → NameRead x (symbols_of us) (symbols_of vs) → length vs < length ts
name_within ts us vs x e r = omega (arith, ap length e, ap length r, length-symbols ts, length-symbols us, length-symbols vs)

pub not_empty : (ts : List TokenSeen) → (length ts == 0) ≡ false → AtEnd (symbols_of ts) → ⊥
not_empty ts h e = some_left ts h e

pub items_done : (ks : List Symbol) (ts : List TokenSeen) (xs : List Item) → Progress ItemRead NotElse AtEnd ks xs (symbols_of ts) → (length ts == 0) ≡ true → Many ItemRead xs ks []
items_done ks ts xs p h = subst (λ z. Many ItemRead xs ks z) (none_left ts h) p.read
