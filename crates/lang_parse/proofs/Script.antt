-- The items of a script, and that a text has at most one tree.
use Rattle.std.proofs.Common.{◌≡◌, ◌<◌, ◌≤◌, List, [], ◌∷◌, ◌++◌, length, refl, sym, ap, ◌∙◌, subst, arith, append_assoc, append-nil, codes, length-append}
use Rattle.page_types.specs.Tree.{Named, Stmt, Item, FnItem, StmtItem}
use Rattle.lang_ast.specs.Seen.{block_of}
use Rattle.lang_parse.specs.Symbols.{Symbol, WordOf, SignOf}
use Rattle.lang_parse.specs.Grammar.{name_symbol, in_braces, in_brackets, stmts_spelling, names_behind, names_spelling, item_spelling, script_spelling, AreItems, HasTree}
use Rattle.lang_parse.specs.Parts.{Anything, Both, Many, NameRead, CommaName, NamesListed, StmtRead, BlockRead, Parameters, FnParts, ItemRead, AtEnd, NotElse}
use Rattle.lang_parse.proofs.Generic.{Unique, Follows, Begins, split_unique, split_both, many_unique, behind_unique, closed_unique}
use Rattle.lang_parse.proofs.Signs.{head_tag}
use Rattle.lang_parse.proofs.Blocks.{block_list, block_same, block_read, block_spelled, block_are}
use Rattle.lang_parse.proofs.StmtHeads.{none_begins_stmt, stmt_some, stmt_shorter, block_shorter}
use Rattle.lang_parse.proofs.StmtUnique.{name_unique, stmt_unique, body_unique}

-- ---- [name {"," name}]

pub many_names : (xs : List Named) (end : List Symbol) → Many CommaName xs (names_behind xs ++ end) end
many_names [] end = refl
many_names (x ∷ xs) end = (names_behind xs ++ end, record { mid = name_symbol x ∷ (names_behind xs ++ end); begins = refl; goes_on = refl }, many_names xs end)

pub names_many : (xs : List Named) (ks end : List Symbol) → Many CommaName xs ks end → ks ≡ names_behind xs ++ end
names_many [] ks end m = m
names_many (x ∷ xs) ks end m = m.1.begins ∙ ap (λ z. SignOf (codes ",") ∷ z) (m.1.goes_on ∙ ap (λ z. name_symbol x ∷ z) (names_many xs m.0 end m.2))

names_read : (xs : List Named) (end : List Symbol) → NamesListed xs (names_spelling xs ++ end) end
names_read [] end = record { inner = refl }
names_read (x ∷ xs) end = record { inner = (names_behind xs ++ end, refl, many_names xs end) }

names_spelled : (xs : List Named) (ks end : List Symbol) → NamesListed xs ks end → ks ≡ names_spelling xs ++ end
names_spelled [] ks end r = r.inner
names_spelled (x ∷ xs) ks end r = r.inner.1 ∙ ap (λ z. name_symbol x ∷ z) (names_many xs r.inner.0 end r.inner.2)

-- where the names are closed
abbrev pub Closing : List Symbol → Type 0
Closing ks = (end : List Symbol) × (ks ≡ SignOf (codes ")") ∷ end)

pub comma_name_begins : Begins CommaName Anything Closing
comma_name_begins x ks end r s = omega (arith, ap head_tag (sym r.begins ∙ s.1))

comma_name_shorter : (x : Named) (ks end : List Symbol) → CommaName x ks end → length end < length ks
comma_name_shorter x ks end r = omega (arith, ap length r.begins, ap length r.goes_on)

comma_name_unique : (ks : List Symbol) → Unique CommaName Anything ks
comma_name_unique ks = behind_unique (SignOf (codes ",")) ks (λ mid lt. name_unique Anything mid)

names_unique : (ks : List Symbol) → Unique NamesListed Closing ks
names_unique ks = record { one = one }
  where
    one : (xs ys : List Named) (e f : List Symbol) → NamesListed xs ks e → Closing e → NamesListed ys ks f → Closing f → (xs ≡ ys) × (e ≡ f)
    one [] [] e f r s r' s' = (refl, sym r.inner ∙ r'.inner)
    one [] (y ∷ ys) e f r s r' s' = absurd (omega (arith, ap head_tag (sym s.1 ∙ sym r.inner ∙ r'.inner.1)))
    one (x ∷ xs) [] e f r s r' s' = absurd (omega (arith, ap head_tag (sym s'.1 ∙ sym r'.inner ∙ r.inner.1)))
    one (x ∷ xs) (y ∷ ys) e f r s r' s' =
        let h = (name_unique Anything ks).one x y r.inner.0 r'.inner.0 r.inner.1 tt r'.inner.1 tt in
        let u = many_unique CommaName Anything Closing (λ zs mid end m c. tt) comma_name_begins (length r.inner.0) comma_name_shorter (λ ls le. comma_name_unique ls) r.inner.0 (omega arith) in
        let g = u.one xs ys e f r.inner.2 s (subst (λ z. Many CommaName ys z f) (sym h.1) r'.inner.2) s' in
        (ap (λ z. z ∷ xs) h.0 ∙ ap (λ z. y ∷ z) g.0, g.1)

pub parameters_unique : (ks : List Symbol) → Unique Parameters Anything ks
parameters_unique ks = behind_unique (SignOf (codes "(")) ks (λ mid lt. closed_unique Closing Anything (SignOf (codes ")")) (λ end. (end, refl)) mid (names_unique mid))

-- ---- items

pub data ItemShape (item : Item) (ks end : List Symbol) : Type 0 where
  function : (p : Named × (List Named × List Stmt)) → item ≡ FnItem p.0 p.1.0 (block_of p.1.1) → length p.1.0 ≤ 8 → FnParts p ks end → ItemShape item ks end
  statement : (s : Stmt) → item ≡ StmtItem s → StmtRead s ks end → ItemShape item ks end

pub item_shape : (item : Item) (ks end : List Symbol) → ItemRead item ks end → ItemShape item ks end
item_shape (StmtItem s) ks end r = statement s refl (record { tree = r.tree; spelled = r.spelled })
item_shape (FnItem f xs body) ks end r = function (f, (xs, block_list body)) (ap (FnItem f xs) (sym (block_same body))) r.tree.0 (record {
  mid = name_symbol f ∷ (in_brackets (names_spelling xs) ++ (in_braces (stmts_spelling body) ++ end));
  begins = r.spelled ∙ ap (λ z. WordOf (codes "fn") ∷ name_symbol f ∷ z) (append_assoc (in_brackets (names_spelling xs)) (in_braces (stmts_spelling body)) end);
  goes_on = record {
    mid = in_brackets (names_spelling xs) ++ (in_braces (stmts_spelling body) ++ end);
    first = refl;
    second = record {
      mid = in_braces (stmts_spelling body) ++ end;
      first = record {
        mid = names_spelling xs ++ SignOf (codes ")") ∷ (in_braces (stmts_spelling body) ++ end);
        begins = ap (λ z. SignOf (codes "(") ∷ z) (append_assoc (names_spelling xs) (SignOf (codes ")") ∷ []) (in_braces (stmts_spelling body) ++ end));
        goes_on = record { inner = names_read xs (SignOf (codes ")") ∷ (in_braces (stmts_spelling body) ++ end)) };
      };
      second = block_read body end r.tree.1;
    };
  };
})

pub function_read : (p : Named × (List Named × List Stmt)) (ks end : List Symbol) → length p.1.0 ≤ 8 → FnParts p ks end → ItemRead (FnItem p.0 p.1.0 (block_of p.1.1)) ks end
function_read p ks end few r = record {
  tree = (few, block_are p.1.1 _ _ r.goes_on.second.second);
  spelled = r.begins ∙ ap (λ z. WordOf (codes "fn") ∷ z) (r.goes_on.first ∙ ap (λ z. name_symbol p.0 ∷ z)
      (r.goes_on.second.first.begins ∙ ap (λ z. SignOf (codes "(") ∷ z)
      (names_spelled p.1.0 _ _ r.goes_on.second.first.goes_on.inner ∙ ap (λ z. names_spelling p.1.0 ++ SignOf (codes ")") ∷ z) (block_spelled p.1.1 _ _ r.goes_on.second.second)
      ∙ sym (append_assoc (names_spelling p.1.0) (SignOf (codes ")") ∷ []) (in_braces (stmts_spelling (block_of p.1.1)) ++ end)))
      ∙ sym (append_assoc (in_brackets (names_spelling p.1.0)) (in_braces (stmts_spelling (block_of p.1.1))) end)));
}

pub statement_read : (s : Stmt) (ks end : List Symbol) → StmtRead s ks end → ItemRead (StmtItem s) ks end
statement_read s ks end r = record { tree = r.tree; spelled = r.spelled }

pub of_function : (item : Item) (ks end mid : List Symbol) → ItemShape item ks end → ks ≡ WordOf (codes "fn") ∷ mid → (p : Named × (List Named × List Stmt)) × (item ≡ FnItem p.0 p.1.0 (block_of p.1.1)) × (length p.1.0 ≤ 8) × FnParts p ks end
of_function item ks end mid (function p i few q) f = (p, i, few, q)
of_function item ks end mid (statement s i q) f = absurd (none_begins_stmt s ks end (WordOf (codes "fn")) mid q f refl refl)

pub of_statement : (item : Item) (ks end : List Symbol) → ((mid : List Symbol) → ks ≡ WordOf (codes "fn") ∷ mid → ⊥) → ItemShape item ks end → (s : Stmt) × (item ≡ StmtItem s) × StmtRead s ks end
of_statement item ks end none (function p i few q) = absurd (none q.mid q.begins)
of_statement item ks end none (statement s i q) = (s, i, q)

pub item_shorter : (item : Item) (ks end : List Symbol) → ItemRead item ks end → length end < length ks
item_shorter item ks end r = by_shape (item_shape item ks end r)
  where
    by_shape : ItemShape item ks end → length end < length ks
    by_shape (statement s i q) = stmt_shorter s ks end q
    by_shape (function p i few q) =
        let a = q.goes_on.second.first in
        let n : length q.goes_on.second.mid < length a.mid = omega (arith, ap length (names_spelled p.1.0 a.mid (SignOf (codes ")") ∷ q.goes_on.second.mid) a.goes_on.inner), length-append (names_spelling p.1.0) (SignOf (codes ")") ∷ q.goes_on.second.mid)) in
        omega (arith, ap length q.begins, ap length q.goes_on.first, ap length a.begins, n, block_shorter p.1.1 _ _ q.goes_on.second.second)

-- an item does not begin with `else`, nor with nothing
pub item_begins : Begins ItemRead NotElse AtEnd
item_begins item ks end r s = by_shape (item_shape item ks end r)
  where
    by_shape : ItemShape item ks end → ⊥
    by_shape (statement t i q) = stmt_some t ks end q s
    by_shape (function p i few q) = let h : [] ≡ WordOf (codes "fn") ∷ q.mid = sym s ∙ q.begins in cc

pub item_follows : Follows ItemRead NotElse AtEnd
item_follows [] mid end m s rest e = let h : [] ≡ WordOf (codes "else") ∷ rest = sym s ∙ sym m ∙ e in cc
item_follows (x ∷ xs) mid end m s rest e = by_shape (item_shape x mid m.0 m.1)
  where
    by_shape : ItemShape x mid m.0 → ⊥
    by_shape (statement t i q) = none_begins_stmt t mid m.0 (WordOf (codes "else")) rest q e refl refl
    by_shape (function p i few q) = omega (arith, ap head_tag (sym q.begins ∙ e))

item_unique : (ks : List Symbol) → Unique ItemRead NotElse ks
item_unique ks = record { one = λ t w e f r s r' s'. one t w e f (item_shape t ks e r) s (item_shape w ks f r') s' }
  where
    fn_unique : Unique FnParts NotElse ks
    fn_unique = behind_unique (WordOf (codes "fn")) ks
        (λ mid lt. split_unique (split_both NameRead Anything (Both Parameters BlockRead) NotElse mid (λ y m end b s. tt)) (name_unique Anything mid)
        (λ x m a. split_unique (split_both Parameters Anything BlockRead NotElse m (λ y l end b s. tt)) (parameters_unique m) (λ z l d. body_unique NotElse l)))

    one : (t w : Item) (e f : List Symbol) → ItemShape t ks e → NotElse e → ItemShape w ks f → NotElse f → (t ≡ w) × (e ≡ f)
    one t w e f (function p i few q) s o s' =
        let h = of_function w ks f q.mid o q.begins in
        let g = fn_unique.one p h.0 e f q s h.3 s' in
        (i ∙ ap (λ (z : Named × (List Named × List Stmt)). FnItem z.0 z.1.0 (block_of z.1.1)) g.0 ∙ sym h.1, g.1)
    one t w e f (statement x i q) s o s' =
        let h = of_statement w ks f (λ mid g. none_begins_stmt x ks e (WordOf (codes "fn")) mid q g refl refl) o in
        let g = (stmt_unique ks).one x h.0 e f q s h.2 s' in
        (i ∙ ap StmtItem g.0 ∙ sym h.1, g.1)

-- ---- the script

pub many_items : (items : List Item) (end : List Symbol) → AreItems items → Many ItemRead items (script_spelling items ++ end) end
many_items [] end h = refl
many_items (item ∷ items) end h = (script_spelling items ++ end, record { tree = h.0; spelled = append_assoc (item_spelling item) (script_spelling items) end }, many_items items end h.1)

pub items_are : (items : List Item) (ks end : List Symbol) → Many ItemRead items ks end → AreItems items
items_are [] ks end m = tt
items_are (item ∷ items) ks end m = (m.1.tree, items_are items m.0 end m.2)

pub items_spelled : (items : List Item) (ks end : List Symbol) → Many ItemRead items ks end → ks ≡ script_spelling items ++ end
items_spelled [] ks end m = m
items_spelled (item ∷ items) ks end m = m.1.spelled ∙ ap (λ z. item_spelling item ++ z) (items_spelled items m.0 end m.2) ∙ sym (append_assoc (item_spelling item) (script_spelling items) end)

pub script_read : (ks : List Symbol) (tree : List Item) → AreItems tree → ks ≡ script_spelling tree → Many ItemRead tree ks []
script_read ks tree h e = subst (λ z. Many ItemRead tree z []) (sym (e ∙ sym (append-nil (script_spelling tree)))) (many_items tree [] h)

pub script_unique : (ks : List Symbol) → Unique (Many ItemRead) AtEnd ks
script_unique ks = many_unique ItemRead NotElse AtEnd item_follows item_begins (length ks) item_shorter (λ ls le. item_unique ls) ks (omega arith)

-- the symbols of a script have at most one tree
pub one_tree : (ks : List Symbol) (one other : List Item) → HasTree ks one → HasTree ks other → one ≡ other
one_tree ks one other p q = ((script_unique ks).one one other [] [] (script_read ks one p.items p.spelled) refl (script_read ks other q.items q.spelled) refl).0
