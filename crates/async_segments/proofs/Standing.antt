-- Each symbol of the expansion can stand as a token, and none is the name that stands in place of the two.
use Rattle.std.proofs.Common.{◌≡◌, ℕ, ◌+◌, ◌<◌, ◌≤◌, Bool, true, false, List, [], ◌∷◌, ◌++◌, length, map, Some, refl, sym, ap, subst, arith, append_assoc, length-append}
use Rattle.std.specs.Prelude.{⊤, codes, cond, ◌&&◌, ◌||◌}
use Rattle.page_types.specs.Tree.{Named, Expr, UnitLiteral, Stmt, VarStmt, AssignStmt, ExprStmt, IfStmt, WhileStmt, ReturnStmt, ThrowStmt, TryStmt, Block, no_stmts, with_stmt, ElseIfs, no_else_ifs, with_else_if, ElsePart, no_else, else_block, Item}
use Rattle.std.specs.Char.{is_ascii_digit}
use Rattle.page_values.specs.Names.{is_letter, is_name_byte}
use Rattle.page_parts.specs.Words.{same_bytes, and_last, without, decimal_of}
use Rattle.lang_meaning.specs.Evaluation.{names_in, names_in_stmt, names_in_others, names_in_else, functions_of}
use Rattle.lang_ast.specs.Seen.{exprs_of}
use Rattle.lang_place.specs.NameSets.{has_name}
use Rattle.lang_tokens.specs.Pieces.{words, is_word}
use Rattle.lang_tokens.specs.Meaning.{AllBytes}
use Rattle.lang_tokens.proofs.MeaningLemmas.{by_test, clash}
use Rattle.lang_parse.specs.Symbols.{Symbol, NameAt, WordOf, SignOf}
use Rattle.lang_parse.specs.Grammar.{name_symbol, names_spelling, names_behind, spelling, each_behind, separated, in_brackets, in_braces, stmt_spelling, stmts_spelling, else_ifs_spelling, else_spelling, item_spelling, script_spelling}
use Rattle.async_segments.specs.Marked.{AwaitForm, Alone, Declared, Stored, Returned, Segment, MarkedItem, AsyncFn, Plain, before_await, followed_by, segments_body, statement_of}
use Rattle.async_segments.specs.Names.{new_name, with_new, spellings, segment_name, rejecting_name, is_line, begins_with_line, holds_lines}
use Rattle.async_segments.specs.Expanded.{variable, variables, call, list, one, promise, rejects, resolves, all_in_segment, first_values, starting_body, starting_fn, rejecting_fn, segment_fn, store, going_on, rejecting, waits, end_of, later_fns, segment_fns, locals_in, expanded_item, expanded}
use Rattle.async_segments.specs.Script.{Each, IsSmall, AreSmall}
use Rattle.async_segments.specs.Encoded.{mark_name, is_mark_name}
use Rattle.async_segments.proofs.Flags.{followed_spelling}
use Rattle.async_segments.proofs.Kept.{Same, Fixed, all_same, each_join, each_left, each_right}
use Rattle.async_segments.proofs.SignLemmas.{same_is}
use Rattle.async_segments.proofs.SegmentLemmas.{script-append, async_count}
use Rattle.async_segments.proofs.ItemLemmas.{functions-append}
use Rattle.async_segments.proofs.DecimalLemmas.{decimal_spells, decimal_short}
use Rattle.async_segments.proofs.TokenPieces.{CanStand, listed}
use Rattle.async_segments.proofs.MarkedParts.{head_of, AreParts, IsPart, AllParts}

-- it can stand, and is not the name in place of the two
abbrev pub Stands : Symbol → Type 0
Stands k = CanStand k × (is_mark_name k ≡ false)

abbrev NameStands : List ℕ → Type 0
NameStands x = Stands (NameAt x 0)

abbrev AllStand : List (List ℕ) → Type 0
AllStand [] = ⊤
AllStand (x ∷ xs) = NameStands x × AllStand xs

-- ---- the names, words and signs of each expansion

name_p : NameStands (codes "p__")
name_p = (((refl, (refl, (refl, tt)), omega arith), refl), refl)

name_v : NameStands (codes "v__")
name_v = (((refl, (refl, (refl, tt)), omega arith), refl), refl)

name_e : NameStands (codes "e__")
name_e = (((refl, (refl, (refl, tt)), omega arith), refl), refl)

name_r : NameStands (codes "r__")
name_r = (((refl, (refl, (refl, tt)), omega arith), refl), refl)

name_bind : NameStands (codes "bind")
name_bind = (((refl, (refl, (refl, (refl, tt))), omega arith), refl), refl)

name_then : NameStands (codes "then")
name_then = (((refl, (refl, (refl, (refl, tt))), omega arith), refl), refl)

name_reject : NameStands (codes "reject")
name_reject = (((refl, (refl, (refl, (refl, (refl, (refl, tt))))), omega arith), refl), refl)

name_resolve : NameStands (codes "resolve")
name_resolve = (((refl, (refl, (refl, (refl, (refl, (refl, (refl, tt)))))), omega arith), refl), refl)

name_promise : NameStands (codes "promise")
name_promise = (((refl, (refl, (refl, (refl, (refl, (refl, (refl, tt)))))), omega arith), refl), refl)

name_resolved : NameStands (codes "resolved")
name_resolved = (((refl, (refl, (refl, (refl, (refl, (refl, (refl, (refl, tt))))))), omega arith), refl), refl)

word_fn : Stands (WordOf (codes "fn"))
word_fn = (((refl, (refl, tt), omega arith), refl), refl)

word_var : Stands (WordOf (codes "var"))
word_var = (((refl, (refl, (refl, tt)), omega arith), refl), refl)

word_try : Stands (WordOf (codes "try"))
word_try = (((refl, (refl, (refl, tt)), omega arith), refl), refl)

word_unit : Stands (WordOf (codes "unit"))
word_unit = (((refl, (refl, (refl, (refl, tt))), omega arith), refl), refl)

word_catch : Stands (WordOf (codes "catch"))
word_catch = (((refl, (refl, (refl, (refl, (refl, tt)))), omega arith), refl), refl)

word_return : Stands (WordOf (codes "return"))
word_return = (((refl, (refl, (refl, (refl, (refl, (refl, tt))))), omega arith), refl), refl)

abbrev call_end : Each Stands (SignOf (codes ")") ∷ SignOf (codes ";") ∷ [])
call_end = ((refl, refl), ((refl, refl), tt))

fixed : Fixed Stands
fixed = record {
  var = word_var;
  resolve = (name_resolve, ((refl, refl), (name_p, ((refl, refl), tt))));
  call_end = call_end;
  return_end = (word_return, ((refl, refl), tt));
  unit = word_unit;
}

-- ---- new names of functions

all-append : (a b : List ℕ) → AllBytes is_name_byte a → AllBytes is_name_byte b → AllBytes is_name_byte (a ++ b)
all-append [] b p q = q
all-append (x ∷ a) b p q = (p.0, all-append a b p.1 q)

digits_are : (ds : List ℕ) → AllBytes is_ascii_digit ds → AllBytes is_name_byte ds
digits_are [] p = tt
digits_are (d ∷ ds) p = (or_true (is_letter d) (is_ascii_digit d) p.0, digits_are ds p.1)
  where
    or_true : (x y : Bool) → y ≡ true → (x || y) ≡ true
    or_true true y e = refl
    or_true false y e = e

holds_behind : (a b : List ℕ) → holds_lines (a ++ 95 ∷ 95 ∷ b) ≡ true
holds_behind [] b = refl
holds_behind (x ∷ a) b = or_true (is_line x && begins_with_line (a ++ 95 ∷ 95 ∷ b)) (holds_lines (a ++ 95 ∷ 95 ∷ b)) (holds_behind a b)
  where
    or_true : (x y : Bool) → y ≡ true → (x || y) ≡ true
    or_true true y e = refl
    or_true false y e = e

words_hold_none : (x : List ℕ) → is_word x ≡ true → holds_lines x ≡ false
words_hold_none x e = listed (λ w. holds_lines w ≡ false) x words e (refl, (refl, (refl, (refl, (refl, (refl, (refl, (refl, (refl, (refl, (refl, (refl, tt))))))))))))

no_word : (x : List ℕ) → holds_lines x ≡ true → is_word x ≡ false
no_word x holds = by_test (is_word x) (λ e. absurd (clash (holds_lines x) holds (words_hold_none x e))) (λ e. e)

no_mark : (x : List ℕ) → 3 < length x → same_bytes x mark_name ≡ false
no_mark x long = by_test (same_bytes x mark_name) (λ e. let size = ap length (same_is x mark_name e) in absurd (omega (arith, size, long))) (λ e. e)

-- a name behind which two lines and a few bytes stand
lined : (f tail : List ℕ) → NameStands f → length f ≤ 50 → AllBytes is_name_byte tail → 0 < length tail → length tail ≤ 4 → NameStands (f ++ 95 ∷ 95 ∷ tail)
lined [] tail is few all some short = absurd is.0.0
lined (b ∷ f) tail is few all some short =
    let size = length-append f (95 ∷ 95 ∷ tail) in (
      ((is.0.0.0, all-append f (95 ∷ 95 ∷ tail) is.0.0.1 (refl, (refl, all)), omega (arith, size, few, short)), no_word (b ∷ f ++ 95 ∷ 95 ∷ tail) (holds_behind (b ∷ f) tail)),
      no_mark (b ∷ f ++ 95 ∷ 95 ∷ tail) (omega (arith, size, some)),
    )

segment_stands : (f : List ℕ) (k : ℕ) → NameStands f → length f ≤ 50 → k < 10000 → NameStands (segment_name f k)
segment_stands f k is few small =
    let s = decimal_spells k in
    subst NameStands (sym (append_assoc f (codes "__") (decimal_of k))) (lined f (decimal_of k) is few (digits_are (decimal_of k) s.digits) s.some (decimal_short k small))

rejecting_stands : (f : List ℕ) → NameStands f → length f ≤ 50 → NameStands (rejecting_name f)
rejecting_stands f is few = lined f (codes "r") is few (refl, tt) (omega arith) (omega arith)

-- ---- local names

abbrev opening : List Symbol
opening = SignOf (codes "{") ∷ []

abbrev closing : List Symbol
closing = SignOf (codes "}") ∷ []

names_join : (a b : List (List ℕ)) → AllStand a → AllStand b → AllStand (a ++ b)
names_join [] b p q = q
names_join (x ∷ a) b p q = (p.0, names_join a b p.1 q)

braces_left : (a : List Symbol) → Each Stands (in_braces a) → Each Stands a
braces_left a p = each_left Stands a closing p.1

mutual
  stmt_names : (s : Stmt) → Each Stands (stmt_spelling s) → AllStand (names_in_stmt s)
  stmt_names (VarStmt x e) p = (p.1.0, tt)
  stmt_names (AssignStmt x e) p = tt
  stmt_names (ExprStmt e) p = tt
  stmt_names (IfStmt e block others last) p =
      let head = WordOf (codes "if") ∷ in_brackets (spelling e) in
      let b = in_braces (stmts_spelling block) in let o = else_ifs_spelling others in let l = else_spelling last in
      let most = each_left Stands ((head ++ b) ++ o) l p in
      names_join (names_in block ++ names_in_others others) (names_in_else last)
      (names_join (names_in block) (names_in_others others)
      (block_names block (braces_left (stmts_spelling block) (each_right Stands head b (each_left Stands (head ++ b) o most)))) (others_names others (each_right Stands (head ++ b) o most)))
      (else_names last (each_right Stands ((head ++ b) ++ o) l p))
  stmt_names (WhileStmt e block) p =
      let head = WordOf (codes "while") ∷ in_brackets (spelling e) in
      block_names block (braces_left (stmts_spelling block) (each_right Stands head (in_braces (stmts_spelling block)) p))
  stmt_names (ReturnStmt e) p = tt
  stmt_names (ThrowStmt e) p = tt
  stmt_names (TryStmt block x handler) p =
      let b = WordOf (codes "try") ∷ in_braces (stmts_spelling block) in
      let c = WordOf (codes "catch") ∷ in_brackets (name_symbol x ∷ []) in let h = in_braces (stmts_spelling handler) in
      let front = each_left Stands (b ++ c) h p in
      names_join (names_in block) (x.name ∷ names_in handler) (block_names block (braces_left (stmts_spelling block) (each_left Stands b c front).1))
      ((each_right Stands b c front).1.1.0, block_names handler (braces_left (stmts_spelling handler) (each_right Stands (b ++ c) h p)))

  block_names : (b : Block) → Each Stands (stmts_spelling b) → AllStand (names_in b)
  block_names no_stmts p = tt
  block_names (with_stmt s rest) p = names_join (names_in_stmt s) (names_in rest) (stmt_names s (each_left Stands (stmt_spelling s) (stmts_spelling rest) p)) (block_names rest (each_right Stands (stmt_spelling s) (stmts_spelling rest) p))

  others_names : (others : ElseIfs) → Each Stands (else_ifs_spelling others) → AllStand (names_in_others others)
  others_names no_else_ifs p = tt
  others_names (with_else_if e block others) p =
      let head = WordOf (codes "else") ∷ WordOf (codes "if") ∷ in_brackets (spelling e) in
      let b = in_braces (stmts_spelling block) in let o = else_ifs_spelling others in
      names_join (names_in block) (names_in_others others) (block_names block (braces_left (stmts_spelling block) (each_right Stands head b (each_left Stands (head ++ b) o p)))) (others_names others (each_right Stands (head ++ b) o p))

  else_names : (last : ElsePart) → Each Stands (else_spelling last) → AllStand (names_in_else last)
  else_names no_else p = tt
  else_names (else_block block) p = block_names block (braces_left (stmts_spelling block) p.1)

form_names : (form : AwaitForm) (e : Expr) → Each Stands (before_await form) → AllStand (names_in_stmt (statement_of form e))
form_names Alone e p = tt
form_names (Declared x) e p = (p.1.0, tt)
form_names (Stored x) e p = tt
form_names Returned e p = tt

followed_names : (a b : Block) → AllStand (names_in a) → AllStand (names_in b) → AllStand (names_in (followed_by a b))
followed_names no_stmts b p q = q
followed_names (with_stmt s a) b p q =
    names_join (names_in_stmt s) (names_in (followed_by a b)) (names_left (names_in_stmt s) (names_in a) p) (followed_names a b (names_right (names_in_stmt s) (names_in a) p) q)
  where
    names_left : (a b : List (List ℕ)) → AllStand (a ++ b) → AllStand a
    names_left [] b p = tt
    names_left (x ∷ a) b p = (p.0, names_left a b p.1)

    names_right : (a b : List (List ℕ)) → AllStand (a ++ b) → AllStand b
    names_right [] b p = p
    names_right (x ∷ a) b p = names_right a b p.1

body_names : (ss : List Segment) → AreParts Stands ss → AllStand (names_in (segments_body ss))
body_names [] p = tt
body_names (s ∷ ss) p =
    names_join (names_in_stmt (statement_of s.form s.operand)) (names_in (followed_by s.statements (segments_body ss))) (form_names s.form s.operand p.0)
    (followed_names s.statements (segments_body ss) (block_names s.statements p.1.1.0) (body_names ss p.1.1.1))

behind_stand : (xs : List Named) → Each Stands (names_behind xs) → AllStand (spellings xs)
behind_stand [] p = tt
behind_stand (x ∷ xs) p = (p.1.0, behind_stand xs p.1.1)

parameters_stand : (xs : List Named) → Each Stands (names_spelling xs) → AllStand (spellings xs)
parameters_stand [] p = tt
parameters_stand (x ∷ xs) p = (p.0, behind_stand xs p.1)

last_stands : (names : List (List ℕ)) (x : List ℕ) (known : Bool) → AllStand names → NameStands x → AllStand (cond known names (and_last names x))
last_stands names x true p q = p
last_stands names x false p q = names_join names (x ∷ []) p (q, tt)

new_stand : (names xs : List (List ℕ)) → AllStand names → AllStand xs → AllStand (with_new names xs)
new_stand names [] p q = p
new_stand names (x ∷ xs) p q = new_stand (cond (has_name names x) names (and_last names x)) xs (last_stands names x (has_name names x) p q.0) q.1

locals_stand : (f : Named) (xs : List Named) (first : Block) (others : List Segment) → Each Stands (head_of f xs) → Each Stands (stmts_spelling first) → AreParts Stands others → AllStand (locals_in xs first others)
locals_stand f xs first others head p q =
    let round = SignOf (codes ")") ∷ [] in
    let body = followed_by first (segments_body others) in
    new_stand [] (spellings xs ++ names_in body) tt
    (names_join (spellings xs) (names_in body) (parameters_stand xs (each_left Stands (names_spelling xs) round head.1.1.1)) (followed_names first (segments_body others) (block_names first p) (body_names others q)))

-- ---- expressions of the expansion

abbrev ExprStands : Expr → Type 0
ExprStands e = Each Stands (spelling e)

abbrev ExprsStand : List Expr → Type 0
ExprsStand [] = ⊤
ExprsStand (e ∷ es) = ExprStands e × ExprsStand es

exprs_join : (a b : List Expr) → ExprsStand a → ExprsStand b → ExprsStand (a ++ b)
exprs_join [] b p q = q
exprs_join (e ∷ a) b p q = (p.0, exprs_join a b p.1 q)

exprs_behind : (es : List Expr) → ExprsStand es → Each Stands (each_behind (SignOf (codes ",")) (exprs_of es))
exprs_behind [] p = tt
exprs_behind (e ∷ es) p = ((refl, refl), each_join Stands (spelling e) (each_behind (SignOf (codes ",")) (exprs_of es)) p.0 (exprs_behind es p.1))

exprs_stand : (es : List Expr) → ExprsStand es → Each Stands (separated (exprs_of es))
exprs_stand [] p = tt
exprs_stand (e ∷ es) p = each_join Stands (spelling e) (each_behind (SignOf (codes ",")) (exprs_of es)) p.0 (exprs_behind es p.1)

variables_stand : (xs : List (List ℕ)) → AllStand xs → ExprsStand (variables xs)
variables_stand [] p = tt
variables_stand (x ∷ xs) p = ((p.0, tt), variables_stand xs p.1)

units_stand : (xs : List (List ℕ)) → ExprsStand (map (λ x. UnitLiteral) xs)
units_stand [] = tt
units_stand (x ∷ xs) = ((word_unit, tt), units_stand xs)

call_stands : (f : List ℕ) (args : List Expr) → NameStands f → ExprsStand args → ExprStands (call f args)
call_stands f args name p = (name, ((refl, refl), each_join Stands (separated (exprs_of args)) (SignOf (codes ")") ∷ []) (exprs_stand args p) ((refl, refl), tt)))

list_stands : (es : List Expr) → ExprsStand es → ExprStands (list es)
list_stands es p = ((refl, refl), each_join Stands (separated (exprs_of es)) (SignOf (codes "]") ∷ []) (exprs_stand es p) ((refl, refl), tt))

-- ---- statements

abbrev AreStanding : Block → Type 0
AreStanding b = Each Stands (stmts_spelling b)

alone : (e : Expr) → ExprStands e → AreStanding (one (ExprStmt e))
alone e p = each_join Stands (spelling e ++ SignOf (codes ";") ∷ []) [] (each_join Stands (spelling e) (SignOf (codes ";") ∷ []) p ((refl, refl), tt)) tt

followed_stand : (a b : Block) → AreStanding a → AreStanding b → AreStanding (followed_by a b)
followed_stand a b p q = subst (Each Stands) (sym (followed_spelling a b)) (each_join Stands (stmts_spelling a) (stmts_spelling b) p q)

braces_stand : (a : List Symbol) → Each Stands a → Each Stands (in_braces a)
braces_stand a p = ((refl, refl), each_join Stands a closing p ((refl, refl), tt))

rejects_stand : (x : List ℕ) → NameStands x → AreStanding (one (rejects (variable x)))
rejects_stand x p = alone (call (codes "reject") (promise ∷ variable x ∷ [])) (call_stands (codes "reject") (promise ∷ variable x ∷ []) name_reject ((name_p, tt), ((p, tt), tt)))

resolves_stand : (e : Expr) → ExprStands e → AreStanding (one (resolves e))
resolves_stand e p = alone (call (codes "resolve") (promise ∷ e ∷ [])) (call_stands (codes "resolve") (promise ∷ e ∷ []) name_resolve ((name_p, tt), (p, tt)))

store_stands : (form : AwaitForm) → Each Stands (before_await form) → AreStanding (store form)
store_stands Alone p = tt
store_stands (Declared x) p = (p.1.0, (p.1.1.0, (name_v, ((refl, refl), tt))))
store_stands (Stored x) p = (p.0, (p.1.0, (name_v, ((refl, refl), tt))))
store_stands Returned p = (name_resolve, ((refl, refl), (name_p, ((refl, refl), (name_v, ((refl, refl), ((refl, refl), (word_return, ((refl, refl), tt)))))))))

kept_stands : (b : Block) → AreStanding b → AreStanding (all_in_segment b)
kept_stands b p = let kept : Same Stands (stmts_spelling b) (stmts_spelling (all_in_segment b)) = all_same Stands fixed b in kept.there p

-- ---- the functions

module _ (f : List ℕ) (locals : List (List ℕ)) (name : NameStands f) (few : length f ≤ 50) (all : AllStand locals) where
  waits_stand : (k : ℕ) (e : Expr) → k < 10000 → ExprStands e → AreStanding (one (waits f locals k e))
  waits_stand k e small p =
      let resolved = call (codes "resolved") (e ∷ []) in
      let args = variable (segment_name f k) ∷ list (promise ∷ variables locals) ∷ [] in
      let others = variable (rejecting_name f) ∷ list (promise ∷ []) ∷ [] in
      let going = call_stands (codes "bind") args name_bind ((segment_stands f k name few small, tt), (list_stands (promise ∷ variables locals) ((name_p, tt), variables_stand locals all), tt)) in
      let leading = call_stands (codes "bind") others name_bind ((rejecting_stands f name few, tt), (list_stands (promise ∷ []) ((name_p, tt), tt), tt)) in
      alone (call (codes "then") (resolved ∷ going_on f locals k ∷ rejecting f ∷ []))
      (call_stands (codes "then") (resolved ∷ going_on f locals k ∷ rejecting f ∷ []) name_then (call_stands (codes "resolved") (e ∷ []) name_resolved (p, tt), (going, (leading, tt))))

  end_stands : (k : ℕ) (ss : List Segment) → k < 10000 → AreParts Stands ss → AreStanding (one (end_of f locals k ss))
  end_stands k [] small p = resolves_stand UnitLiteral (word_unit, tt)
  end_stands k (s ∷ ss) small p = waits_stand k s.operand small p.1.0

  new_names_behind : (xs : List (List ℕ)) → AllStand xs → Each Stands (names_behind (map new_name xs))
  new_names_behind [] p = tt
  new_names_behind (x ∷ xs) p = ((refl, refl), (p.0, new_names_behind xs p.1))

  new_names : (xs : List (List ℕ)) → AllStand xs → Each Stands (names_spelling (map new_name xs))
  new_names [] p = tt
  new_names (x ∷ xs) p = (p.0, new_names_behind xs p.1)

  segment_fn_stands : (k : ℕ) (parameters : List (List ℕ)) (body : Block) → k < 10000 → AllStand parameters → AreStanding body → Each Stands (item_spelling (segment_fn f k parameters body))
  segment_fn_stands k parameters body small p q =
      let names = names_spelling (map new_name parameters) in
      let handler = one (rejects (variable (codes "e__"))) in
      let t = TryStmt body (new_name (codes "e__")) handler in
      let b = WordOf (codes "try") ∷ in_braces (stmts_spelling body) in
      let c = WordOf (codes "catch") ∷ in_brackets (NameAt (codes "e__") 0 ∷ []) in
      let h = in_braces (stmts_spelling handler) in
      let statement = each_join Stands (b ++ c) h (each_join Stands b c (word_try, braces_stand (stmts_spelling body) q) (word_catch, ((refl, refl), (name_e, ((refl, refl), tt)))))
      (braces_stand (stmts_spelling handler) (rejects_stand (codes "e__") name_e)) in
      let round = each_join Stands names (SignOf (codes ")") ∷ []) (new_names parameters p) ((refl, refl), tt) in (
        word_fn,
        (
          segment_stands f k name few small,
          each_join Stands (in_brackets names) (in_braces (stmts_spelling (one t))) ((refl, refl), round)
              (braces_stand (stmts_spelling (one t)) (each_join Stands (stmt_spelling t) [] statement tt)),
        ),
      )

  later_stand : (k : ℕ) (ss : List Segment) → k + length ss < 10000 → AreParts Stands ss → Each Stands (script_spelling (later_fns f locals k ss))
  later_stand k [] small p = tt
  later_stand k (s ∷ ss) small p =
      let parameters = codes "p__" ∷ (locals ++ codes "v__" ∷ []) in
      let end = one (end_of f locals (k + 1) ss) in
      let inner = followed_by (all_in_segment s.statements) end in
      let body = followed_by (store s.form) inner in
      each_join Stands (item_spelling (segment_fn f k parameters body)) (script_spelling (later_fns f locals (k + 1) ss))
      (segment_fn_stands k parameters body (omega arith) (name_p, names_join locals (codes "v__" ∷ []) all (name_v, tt))
      (followed_stand (store s.form) inner (store_stands s.form p.0)
      (followed_stand (all_in_segment s.statements) end (kept_stands s.statements p.1.1.0) (end_stands (k + 1) ss (omega arith) p.1.1.1))))
      (later_stand (k + 1) ss (omega arith) p.1.1.1)

  segments_stand : (first : Block) (others : List Segment) → length others < 9999 → AreStanding first → AreParts Stands others → Each Stands (script_spelling (segment_fns f locals first others))
  segments_stand first others small p q =
      let end = one (end_of f locals 1 others) in
      let body = followed_by (all_in_segment first) end in
      each_join Stands (item_spelling (segment_fn f 0 (codes "p__" ∷ locals) body)) (script_spelling (later_fns f locals 1 others))
      (segment_fn_stands 0 (codes "p__" ∷ locals) body (omega arith) (name_p, all) (followed_stand (all_in_segment first) end (kept_stands first p) (end_stands 1 others (omega arith) q)))
      (later_stand 1 others (omega arith) q)

  rejecting_fn_stands : Each Stands (item_spelling (rejecting_fn f))
  rejecting_fn_stands =
      let body = one (rejects (variable (codes "r__"))) in
      (word_fn, (rejecting_stands f name few, ((refl, refl), (name_p, ((refl, refl), (name_r, ((refl, refl), braces_stand (stmts_spelling body) (rejects_stand (codes "r__") name_r))))))))

starting_stands : (f : Named) (xs : List Named) (locals : List (List ℕ)) → Each Stands (head_of f xs) → length f.name ≤ 50 → Each Stands (item_spelling (starting_fn f xs locals))
starting_stands f xs locals head few =
    let round = SignOf (codes ")") ∷ [] in
    let parameters = parameters_stand xs (each_left Stands (names_spelling xs) round head.1.1.1) in
    let values = first_values (spellings xs) locals in
    let c = call (segment_name f.name 0) (promise ∷ values) in
    let body = starting_body f.name (spellings xs) locals in
    let first = stmt_spelling (VarStmt (new_name (codes "p__")) (call (codes "promise") [])) in
    let last = stmts_spelling (one (ReturnStmt (Some promise))) in
    let called = call_stands (segment_name f.name 0) (promise ∷ values) (segment_stands f.name 0 head.1.0 few (omega arith))
    ((name_p, tt), exprs_join (variables (spellings xs)) (map (λ x. UnitLiteral) (without (has_name (spellings xs)) locals)) (variables_stand (spellings xs) parameters) (units_stand (without (has_name (spellings xs)) locals))) in
    let second = each_join Stands (spelling c) (SignOf (codes ";") ∷ []) called ((refl, refl), tt) in
    each_join Stands (head_of f xs) (in_braces (stmts_spelling body)) head
    (braces_stand (stmts_spelling body)
    (each_join Stands first (stmt_spelling (ExprStmt c) ++ last) (word_var, (name_p, ((refl, refl), (name_promise, ((refl, refl), ((refl, refl), ((refl, refl), tt)))))))
    (each_join Stands (stmt_spelling (ExprStmt c)) last second (word_return, (name_p, ((refl, refl), tt))))))

-- ---- the items

abbrev Few : List Item → Type 0
Few items = length (functions_of items) ≤ 4096

item_stands : (item : MarkedItem) → IsPart Stands item → IsSmall item → Few (expanded_item item) → Each Stands (script_spelling (expanded_item item))
item_stands (Plain item) p small few = each_join Stands (item_spelling item) [] p tt
item_stands (AsyncFn at f xs first others) p small few =
    let locals = locals_in xs first others in
    let all = locals_stand f xs first others p.0 p.1.0 p.1.1 in
    let fns = segment_fns f.name locals first others in
    let last = rejecting_fn f.name ∷ [] in
    let count = async_count f xs locals (record { first = first; others = others }) in
    each_join Stands (item_spelling (starting_fn f xs locals)) (script_spelling (fns ++ last)) (starting_stands f xs locals p.0 small.0)
    (subst (Each Stands) (sym (script-append fns last))
    (each_join Stands (script_spelling fns) (script_spelling last) (segments_stand f.name locals p.0.1.0 small.0 all first others (omega (arith, count, few)) p.1.0 p.1.1)
    (each_join Stands (item_spelling (rejecting_fn f.name)) [] (rejecting_fn_stands f.name locals p.0.1.0 small.0 all) tt)))

pub expansion_stands : (items : List MarkedItem) → AllParts Stands items → AreSmall items → length (functions_of (expanded items)) ≤ 4096 → Each Stands (script_spelling (expanded items))
expansion_stands [] p small few = tt
expansion_stands (item ∷ items) p small few =
    let counts = ap length (functions-append (expanded_item item) (expanded items)) in
    let sizes = length-append (functions_of (expanded_item item)) (functions_of (expanded items)) in
    subst (Each Stands) (sym (script-append (expanded_item item) (expanded items)))
    (each_join Stands (script_spelling (expanded_item item)) (script_spelling (expanded items))
    (item_stands item p.0 small.0 (omega (arith, counts, sizes, few))) (expansion_stands items p.1 small.1 (omega (arith, counts, sizes, few))))
