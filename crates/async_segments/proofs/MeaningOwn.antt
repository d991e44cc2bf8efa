-- The names that a script assigns are its own: they hold no `__`, which all names of the expansion do.
use Rattle.std.proofs.Common.{◌≡◌, ℕ, ◌+◌, ◌<◌, Bool, true, false, List, [], ◌∷◌, ◌++◌, map, length, Some, refl, sym, ap, subst, ◌∙◌, arith, append_assoc, length-append}
use Rattle.std.specs.Prelude.{cond, codes, ◌||◌, slice_index}
use Rattle.page_types.specs.Tree.{Named, Expr, Stmt, VarStmt, AssignStmt, ExprStmt, IfStmt, WhileStmt, ReturnStmt, ThrowStmt, TryStmt, Block, no_stmts, with_stmt, ElseIfs, no_else_ifs, with_else_if, ElsePart, no_else, else_block, Item, FnItem, StmtItem}
use Rattle.page_parts.specs.Words.{and_last, same_bytes, is_there}
use Rattle.lang_meaning.specs.Machine.{Variable, value_in}
use Rattle.lang_meaning.specs.Evaluation.{names_in, names_in_stmt, names_in_others, names_in_else, own_body}
use Rattle.lang_parse.specs.Symbols.{Symbol, WordOf, SignOf}
use Rattle.lang_parse.specs.Grammar.{name_symbol, names_spelling, names_behind, spelling, in_braces, in_brackets, stmt_spelling, stmts_spelling, else_ifs_spelling, else_spelling}
use Rattle.lang_place.specs.NameSets.{has_name}
use Rattle.async_segments.specs.Marked.{AwaitForm, Alone, Declared, Stored, Returned, Segment, MarkedItem, AsyncFn, Plain, followed_by, segments_body, before_await, await_spelling, segments_spelling, marked_item_spelling, marked_spelling, statement_of}
use Rattle.async_segments.specs.Names.{holds_lines, with_new, spellings}
use Rattle.async_segments.specs.Expanded.{in_segment, all_in_segment, others_in_segment, else_in_segment, expanded, expanded_item, later_fns, rejecting_fn, locals_in}
use Rattle.async_segments.specs.Script.{IsOwnName, Each}
use Rattle.async_segments.proofs.SignLemmas.{same_is}
use Rattle.async_segments.proofs.MeaningCalls.{AllAssign, BlockAssigns, OthersAssign, ElseAssigns}
use Rattle.async_segments.proofs.MeaningReturns.{IsOwn}
use Rattle.async_segments.proofs.MeaningVariables.{own_apart}
use Rattle.async_segments.proofs.MeaningSegments.{StoresOwn}

-- all names of a list are the script's own
abbrev pub AllOwn : List (List ℕ) → Type 0
AllOwn [] = Unit {0}
AllOwn (x ∷ xs) = IsOwn x × AllOwn xs

pub own-both : (xs ys : List (List ℕ)) → AllOwn xs → AllOwn ys → AllOwn (xs ++ ys)
own-both [] ys p q = q
own-both (x ∷ xs) ys p q = (p.0, own-both xs ys p.1 q)

pub each-first : (P : Symbol → Type 0) (a b : List Symbol) → Each P (a ++ b) → Each P a
each-first P [] b h = tt
each-first P (k ∷ a) b h = (h.0, each-first P a b h.1)

pub each-second : (P : Symbol → Type 0) (a b : List Symbol) → Each P (a ++ b) → Each P b
each-second P [] b h = h
each-second P (k ∷ a) b h = each-second P a b h.1

abbrev Own : List Symbol → Type 0
Own = Each IsOwnName

-- ---- what a spelling tells of the statements

braces : (inner rest : List Symbol) → Own (in_braces inner ++ rest) → Own inner
braces inner rest h = each-first IsOwnName inner (SignOf (codes "}") ∷ []) (each-first IsOwnName (in_braces inner) rest h).1

brackets-rest : (inner rest : List Symbol) → Own (in_brackets inner ++ rest) → Own rest
brackets-rest inner rest h = each-second IsOwnName (in_brackets inner) rest h

braces-rest : (inner rest : List Symbol) → Own (in_braces inner ++ rest) → Own rest
braces-rest inner rest h = each-second IsOwnName (in_braces inner) rest h

braces-alone : (inner : List Symbol) → Own (in_braces inner) → Own inner
braces-alone inner h = each-first IsOwnName inner (SignOf (codes "}") ∷ []) h.1

mutual
  pub stmt-own : (s : Stmt) → Own (stmt_spelling s) → AllAssign IsOwn s
  stmt-own (VarStmt x e) h = h.1.0
  stmt-own (AssignStmt x e) h = h.0
  stmt-own (ExprStmt e) h = tt
  stmt-own (IfStmt e block others last) h =
      let all = in_brackets (spelling e) ++ in_braces (stmts_spelling block) in
      let a = each-first IsOwnName (all ++ else_ifs_spelling others) (else_spelling last) h.1 in (
        block-own block (braces-alone (stmts_spelling block) (brackets-rest (spelling e) (in_braces (stmts_spelling block)) (each-first IsOwnName all (else_ifs_spelling others) a))),
        others-own others (each-second IsOwnName all (else_ifs_spelling others) a),
        else-own last (each-second IsOwnName (all ++ else_ifs_spelling others) (else_spelling last) h.1),
      )
  stmt-own (WhileStmt e block) h = block-own block (braces-alone (stmts_spelling block) (brackets-rest (spelling e) (in_braces (stmts_spelling block)) h.1))
  stmt-own (ReturnStmt e) h = tt
  stmt-own (ThrowStmt e) h = tt
  stmt-own (TryStmt block x handler) h =
      let caught = WordOf (codes "catch") ∷ in_brackets (name_symbol x ∷ []) in
      let a = each-first IsOwnName (in_braces (stmts_spelling block) ++ caught) (in_braces (stmts_spelling handler)) h.1 in (
        block-own block (braces (stmts_spelling block) caught a),
        (each-second IsOwnName (in_braces (stmts_spelling block)) caught a).1.1.0,
        block-own handler (braces-alone (stmts_spelling handler) (each-second IsOwnName (in_braces (stmts_spelling block) ++ caught) (in_braces (stmts_spelling handler)) h.1)),
      )

  pub block-own : (b : Block) → Own (stmts_spelling b) → BlockAssigns IsOwn b
  block-own no_stmts h = tt
  block-own (with_stmt s rest) h = (stmt-own s (each-first IsOwnName (stmt_spelling s) (stmts_spelling rest) h), block-own rest (each-second IsOwnName (stmt_spelling s) (stmts_spelling rest) h))

  others-own : (others : ElseIfs) → Own (else_ifs_spelling others) → OthersAssign IsOwn others
  others-own no_else_ifs h = tt
  others-own (with_else_if e block others) h =
      let all = in_brackets (spelling e) ++ in_braces (stmts_spelling block) in (
        block-own block (braces-alone (stmts_spelling block) (brackets-rest (spelling e) (in_braces (stmts_spelling block)) (each-first IsOwnName all (else_ifs_spelling others) h.1.1))),
        others-own others (each-second IsOwnName all (else_ifs_spelling others) h.1.1),
      )

  else-own : (last : ElsePart) → Own (else_spelling last) → ElseAssigns IsOwn last
  else-own no_else h = tt
  else-own (else_block block) h = block-own block (braces-alone (stmts_spelling block) h.1)

-- ---- the names that statements give

mutual
  pub given-own : (s : Stmt) → AllAssign IsOwn s → AllOwn (names_in_stmt s)
  given-own (VarStmt x e) a = (a, tt)
  given-own (AssignStmt x e) a = tt
  given-own (ExprStmt e) a = tt
  given-own (IfStmt e block others last) a =
      own-both (names_in block ++ names_in_others others) (names_in_else last) (own-both (names_in block) (names_in_others others) (names-own block a.0) (others-given others a.1)) (else-given last a.2)
  given-own (WhileStmt e block) a = names-own block a
  given-own (ReturnStmt e) a = tt
  given-own (ThrowStmt e) a = tt
  given-own (TryStmt block x handler) a = own-both (names_in block) (x.name ∷ names_in handler) (names-own block a.0) (a.1, names-own handler a.2)

  pub names-own : (b : Block) → BlockAssigns IsOwn b → AllOwn (names_in b)
  names-own no_stmts a = tt
  names-own (with_stmt s rest) a = own-both (names_in_stmt s) (names_in rest) (given-own s a.0) (names-own rest a.1)

  others-given : (others : ElseIfs) → OthersAssign IsOwn others → AllOwn (names_in_others others)
  others-given no_else_ifs a = tt
  others-given (with_else_if e block others) a = own-both (names_in block) (names_in_others others) (names-own block a.0) (others-given others a.1)

  else-given : (last : ElsePart) → ElseAssigns IsOwn last → AllOwn (names_in_else last)
  else-given no_else a = tt
  else-given (else_block block) a = names-own block a

pub assigns-both : (a b : Block) → BlockAssigns IsOwn a → BlockAssigns IsOwn b → BlockAssigns IsOwn (followed_by a b)
assigns-both no_stmts b p q = q
assigns-both (with_stmt s a) b p q = (p.0, assigns-both a b p.1 q)

mutual
  pub in-segment-own : (s : Stmt) → AllAssign IsOwn s → BlockAssigns IsOwn (in_segment s)
  in-segment-own (VarStmt x e) a = (a, tt)
  in-segment-own (AssignStmt x e) a = (a, tt)
  in-segment-own (ExprStmt e) a = (tt, tt)
  in-segment-own (IfStmt e block others last) a = ((all-in-segment-own block a.0, others-in-segment-own others a.1, else-in-segment-own last a.2), tt)
  in-segment-own (WhileStmt e block) a = (all-in-segment-own block a, tt)
  in-segment-own (ReturnStmt e) a = (tt, (tt, tt))
  in-segment-own (ThrowStmt e) a = (tt, tt)
  in-segment-own (TryStmt block x handler) a = ((all-in-segment-own block a.0, a.1, all-in-segment-own handler a.2), tt)

  pub all-in-segment-own : (b : Block) → BlockAssigns IsOwn b → BlockAssigns IsOwn (all_in_segment b)
  all-in-segment-own no_stmts a = tt
  all-in-segment-own (with_stmt s rest) a = assigns-both (in_segment s) (all_in_segment rest) (in-segment-own s a.0) (all-in-segment-own rest a.1)

  others-in-segment-own : (others : ElseIfs) → OthersAssign IsOwn others → OthersAssign IsOwn (others_in_segment others)
  others-in-segment-own no_else_ifs a = tt
  others-in-segment-own (with_else_if e block others) a = (all-in-segment-own block a.0, others-in-segment-own others a.1)

  else-in-segment-own : (last : ElsePart) → ElseAssigns IsOwn last → ElseAssigns IsOwn (else_in_segment last)
  else-in-segment-own no_else a = tt
  else-in-segment-own (else_block block) a = all-in-segment-own block a

-- ---- an async function

abbrev pub SegmentsOwn : List Segment → Type 0
SegmentsOwn [] = Unit {0}
SegmentsOwn (s ∷ ss) = StoresOwn (Some s.form) × BlockAssigns IsOwn s.statements × SegmentsOwn ss

form-own : (form : AwaitForm) → Own (before_await form) → StoresOwn (Some form)
form-own Alone h = tt
form-own (Declared x) h = h.1.0
form-own (Stored x) h = h.0
form-own Returned h = tt

pub segments-own : (ss : List Segment) → Own (segments_spelling ss) → SegmentsOwn ss
segments-own [] h = tt
segments-own (s ∷ ss) h =
    let before = before_await s.form ++ await_spelling s.at s.operand in
    let a = each-first IsOwnName (before ++ stmts_spelling s.statements) (segments_spelling ss) h in (
      form-own s.form (each-first IsOwnName (before_await s.form) (await_spelling s.at s.operand) (each-first IsOwnName before (stmts_spelling s.statements) a)),
      block-own s.statements (each-second IsOwnName before (stmts_spelling s.statements) a),
      segments-own ss (each-second IsOwnName (before ++ stmts_spelling s.statements) (segments_spelling ss) h),
    )

statement-own : (form : AwaitForm) (e : Expr) → StoresOwn (Some form) → AllAssign IsOwn (statement_of form e)
statement-own Alone e a = tt
statement-own (Declared x) e a = a
statement-own (Stored x) e a = a
statement-own Returned e a = tt

segments-body-own : (ss : List Segment) → SegmentsOwn ss → BlockAssigns IsOwn (segments_body ss)
segments-body-own [] a = tt
segments-body-own (s ∷ ss) a = (statement-own s.form s.operand a.0, assigns-both s.statements (segments_body ss) a.1 (segments-body-own ss a.2))

names-behind-own : (xs : List Named) → Own (names_behind xs) → AllOwn (spellings xs)
names-behind-own [] h = tt
names-behind-own (x ∷ xs) h = (h.1.0, names-behind-own xs h.1.1)

names-spelling-own : (xs : List Named) → Own (names_spelling xs) → AllOwn (spellings xs)
names-spelling-own [] h = tt
names-spelling-own (x ∷ xs) h = (h.0, names-behind-own xs h.1)

last-own : (names : List (List ℕ)) (x : List ℕ) → AllOwn names → IsOwn x → AllOwn (and_last names x)
last-own names x p q = own-both names (x ∷ []) p (q, tt)

new-by : (b : Bool) (names : List (List ℕ)) (x : List ℕ) → AllOwn names → IsOwn x → AllOwn (cond b names (and_last names x))
new-by true names x p q = p
new-by false names x p q = last-own names x p q

with-new-own : (names xs : List (List ℕ)) → AllOwn names → AllOwn xs → AllOwn (with_new names xs)
with-new-own names [] p q = p
with-new-own names (x ∷ xs) p q = with-new-own (cond (has_name names x) names (and_last names x)) xs (new-by (has_name names x) names x p q.0) q.1

-- what is known of an async function whose names are the script's own
pub record FunctionOwn (xs : List Named) (before : Block) (segments : List Segment) : Type 0 where
  pub parameters : AllOwn (spellings xs)
  pub first : BlockAssigns IsOwn before
  pub others : SegmentsOwn segments
  pub locals : AllOwn (locals_in xs before segments)

pub function-own : (xs : List Named) (first : Block) (others : List Segment) → AllOwn (spellings xs) → BlockAssigns IsOwn first → SegmentsOwn others → FunctionOwn xs first others
function-own xs first others p q r = record {
  parameters = p;
  first = q;
  others = r;
  locals = with-new-own [] (spellings xs ++ names_in (followed_by first (segments_body others))) tt
      (own-both (spellings xs) (names_in (followed_by first (segments_body others))) p (names-own (followed_by first (segments_body others)) (assigns-both first (segments_body others) q (segments-body-own others r))));
}

pub async-own : (at : ℕ) (f : Named) (xs : List Named) (first : Block) (others : List Segment) → Own (marked_item_spelling (AsyncFn at f xs first others)) → FunctionOwn xs first others
async-own at f xs first others h =
    let body = stmts_spelling first ++ segments_spelling others in
    let a = h.1.1.1 in
    let b = braces-alone body (brackets-rest (names_spelling xs) (in_braces body) a) in
    function-own xs first others (names-spelling-own xs (each-first IsOwnName (names_spelling xs) (SignOf (codes ")") ∷ []) (each-first IsOwnName (in_brackets (names_spelling xs)) (in_braces body) a).1))
    (block-own first (each-first IsOwnName (stmts_spelling first) (segments_spelling others) b)) (segments-own others (each-second IsOwnName (stmts_spelling first) (segments_spelling others) b))

-- ---- global variables

body-later : (f : List ℕ) (locals : List (List ℕ)) (k : ℕ) (ss : List Segment) (rest : List Item) → own_body (later_fns f locals k ss ++ rest) ≡ own_body rest
body-later f locals k [] rest = refl
body-later f locals k (s ∷ ss) rest = body-later f locals (k + 1) ss rest

globals-own-item : (item : MarkedItem) → Own (marked_item_spelling item) → (rest : List Item) → AllOwn (names_in (own_body rest)) → AllOwn (names_in (own_body (expanded_item item ++ rest)))
globals-own-item (AsyncFn at f xs first others) h rest p =
    subst (λ b. AllOwn (names_in b)) (sym (ap own_body (append_assoc (later_fns f.name (locals_in xs first others) 1 others) (rejecting_fn f.name ∷ []) rest) ∙ body-later f.name (locals_in xs first others) 1 others (rejecting_fn f.name ∷ rest))) p
globals-own-item (Plain (FnItem f xs body)) h rest p = p
globals-own-item (Plain (StmtItem s)) h rest p = own-both (names_in_stmt s) (names_in (own_body rest)) (given-own s (stmt-own s h)) p

pub globals-own : (items : List MarkedItem) → Own (marked_spelling items) → AllOwn (names_in (own_body (expanded items)))
globals-own [] h = tt
globals-own (item ∷ items) h =
    globals-own-item item (each-first IsOwnName (marked_item_spelling item) (marked_spelling items) h) (expanded items) (globals-own items (each-second IsOwnName (marked_item_spelling item) (marked_spelling items) h))

-- a variable of the expansion is none of these
pub none-there : (vs : List Variable) (x : List ℕ) → AllOwn (map (λ a. a.name) vs) → holds_lines x ≡ true → is_there (value_in vs x) ≡ false
none-there [] x h lines = refl
none-there (a ∷ vs) x h lines = ap (λ b. is_there (cond b (Some a.value) (value_in vs x))) (own_apart a.name x h.0 lines) ∙ none-there vs x h.1 lines

-- ---- names of the expansion

or-right : (a b : Bool) → b ≡ true → (a || b) ≡ true
or-right true b e = refl
or-right false b e = e

pub lines-behind : (f d : List ℕ) → holds_lines (f ++ codes "__" ++ d) ≡ true
lines-behind [] d = refl
lines-behind (b ∷ f) d = or-right _ (holds_lines (f ++ codes "__" ++ d)) (lines-behind f d)

first-is : (c : ℕ) (d : List ℕ) → c ∷ codes "__" ≡ codes "__" ++ d → c ≡ 95
first-is c d e = ap (λ xs. slice_index xs 0) e

impossible : (c : ℕ) (f d : List ℕ) → 0 < length d → (c ≡ 95 → ⊥) → c ∷ codes "__" ≡ f ++ codes "__" ++ d → ⊥
impossible c [] d some other e = other (first-is c d e)
impossible c (b ∷ f) d some other e =
    let n : 3 ≡ length ((b ∷ f) ++ codes "__" ++ d) = ap length e in
    let two : length (codes "__") ≡ 2 = refl in
    omega (arith, n, length-append ((b ∷ f) ++ codes "__") d, length-append (b ∷ f) (codes "__"), two, some)

-- a new function has no name like `p__`
pub new-apart : (c : ℕ) (f d : List ℕ) → 0 < length d → (c ≡ 95 → ⊥) → same_bytes (c ∷ codes "__") (f ++ codes "__" ++ d) ≡ false
new-apart c f d some other = by (same_bytes (c ∷ codes "__") (f ++ codes "__" ++ d)) refl
  where
    by : (b : Bool) → same_bytes (c ∷ codes "__") (f ++ codes "__" ++ d) ≡ b → b ≡ false
    by false e = refl
    by true e = absurd (impossible c f d some other (same_is (c ∷ codes "__") (f ++ codes "__" ++ d) e))
