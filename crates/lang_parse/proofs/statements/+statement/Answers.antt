use Rattle.std.proofs.Common.{◌∷◌, codes, refl, sym, subst, arith}
use Rattle.std.proofs.lemmas.Result.{err_from_is_err_and}
use Rattle.lang_ast.specs.Seen.{seen_stmt}
use Rattle.lang_parse.specs.Symbols.{SignOf, WordOf, symbols_of}
use Rattle.lang_parse.specs.Parts.{Anything, Behind, Both, Many, Perhaps, Condition, BlockRead, BracketedName, Ended, AssignParts, StmtRead, ElseIf, Else, NotElse, NotElseIf, ClosesBlock}
use Rattle.lang_parse.specs.Deciding.{Decides}
use Rattle.lang_parse.proofs.Generic.{Leads-never, Leads-ends, Never-any, Ends-any, behind_none}
use Rattle.lang_parse.proofs.Walks.{fails_from, shorter}
use Rattle.lang_parse.proofs.StmtHeads.{stmt_follows, stmt_shorter, stmt_shrinks, else_if_follows, else_if_shorter, condition_shorter, block_shorter}
use Rattle.lang_parse.proofs.StmtSteps.{any_fails, assign_leads, simple_leads, assign_found, simple_found, while_leads, while_next, while_found, if_leads, if_next, if_others_fail, if_last, if_found, try_leads, try_uncaught, try_unnamed, try_handler, try_found, progress_begins, progress_next, progress_fails, progress_ends, progress_within, stmts_end, block_fails, block_open, block_ends, block_found, else_if_more, else_if_fails, else_if_next, else_if_found, else_if_none, else_if_shrinks, no_else_ends, else_fails, else_ends, else_found, seen_other, tokens_shorter, tokens_within, else_if_within, others_shrink, bracketed_shorter}
use Rattle.lang_parse.proofs.statements.+statement.Goals as goal

pub block-returns-in_default : goal.block-returns-in_default
block-returns-in_default t c = behind_none (SignOf (codes "{")) (symbols_of c.args.tokens.now) (c.in_default.ensures.none refl)

pub block-returns-in_err-statements : goal.block-returns-in_err-statements
block-returns-in_err-statements t c = let p = err_from_is_err_and c.from_residual.result c.from_residual.ensures.1 in
    rw (p.1, p.2) (fails_from (Many StmtRead) ClosesBlock (symbols_of c.in-Some.next.now) BlockRead Anything (symbols_of c.args.tokens.now)
    (block_fails (symbols_of c.args.tokens.now) (symbols_of c.in-Some.next.now) c.in-Some.ensures.found) _ c.in_err-statements.ensures)

pub block-returns-in_default-after_sign : goal.block-returns-in_default-after_sign
block-returns-in_default-after_sign t c = block_open (symbols_of c.args.tokens.now) (symbols_of c.in-Some.next.now) c.in-Some.ensures.found (symbols_of c.in_ok-statements.end.now) c.in_ok-statements.ensures.1 (c.in_default-after_sign.ensures.none refl)

pub block-returns : goal.block-returns
block-returns t c = (
  block_found (symbols_of c.args.tokens.now) (symbols_of c.in-Some.next.now) c.in-Some.ensures.found _ (symbols_of c.in_ok-statements.end.now) _ c.in_ok-statements.ensures.0 c.in-Some-after_sign.ensures.found,
  block_ends (symbols_of c.args.tokens.now) (symbols_of c.in-Some.next.now) c.in-Some.ensures.found (symbols_of c.in_ok-statements.end.now) _ c.in_ok-statements.ensures.1 c.in-Some-after_sign.ensures.found,
)

pub else_ifs-loop-next-init : goal.else_ifs-loop-next-init
else_ifs-loop-next-init t c = progress_begins ElseIf Anything NotElseIf (symbols_of c.args.tokens.now) seen_other c.new-others.result.items c.new-others.ensures.items

pub else_ifs-returns-in_err-condition : goal.else_ifs-returns-in_err-condition
else_ifs-returns-in_err-condition t c = let p = err_from_is_err_and c.from_residual.result c.from_residual.ensures.1 in
    rw (p.1, p.2) (fails_from Condition Anything (symbols_of c.in-Some.next.now) (Many ElseIf) NotElseIf (symbols_of c.args.tokens.now)
    (λ n. progress_fails ElseIf Anything NotElseIf (symbols_of c.args.tokens.now) (symbols_of c.loop-next.rest.now) _ c.loop-next.invariant else_if_follows (else_if_more (symbols_of c.loop-next.rest.now) (symbols_of c.in-Some.next.now) c.in-Some.ensures.found) (else_if_fails (symbols_of c.loop-next.rest.now) (symbols_of c.in-Some.next.now) c.in-Some.ensures.found n)) _ c.in_err-condition.ensures)

pub else_ifs-returns-in_err-block : goal.else_ifs-returns-in_err-block
else_ifs-returns-in_err-block t c = let p = err_from_is_err_and c.from_residual-in_err-block.result c.from_residual-in_err-block.ensures.1 in
    rw (p.1, p.2) (fails_from BlockRead Anything (symbols_of c.in_ok-condition.middle.now) (Many ElseIf) NotElseIf (symbols_of c.args.tokens.now)
    (λ n. progress_fails ElseIf Anything NotElseIf (symbols_of c.args.tokens.now) (symbols_of c.loop-next.rest.now) _ c.loop-next.invariant else_if_follows (else_if_more (symbols_of c.loop-next.rest.now) (symbols_of c.in-Some.next.now) c.in-Some.ensures.found) (Leads-never (else_if_next (symbols_of c.loop-next.rest.now) (symbols_of c.in-Some.next.now) c.in-Some.ensures.found (symbols_of c.in_ok-condition.middle.now) c.in_ok-condition.ensures.1) n)) _ c.in_err-block.ensures)

pub else_ifs-block-requires : goal.else_ifs-block-requires
else_ifs-block-requires t c =
    let a = tokens_within _ c.loop-next.rest.now (progress_within ElseIf Anything NotElseIf (symbols_of c.args.tokens.now) else_if_shrinks (symbols_of c.loop-next.rest.now) _ c.loop-next.invariant) in
    let b = else_if_within _ c.in-Some.next.now c.in-Some.ensures.found in
    let e = tokens_shorter _ c.in_ok-condition.middle.now (condition_shorter _ (symbols_of c.in-Some.next.now) _ c.in_ok-condition.ensures.0) in
    let d = c.decreases in (omega (arith, a, b, e, d), tt)

pub else_ifs-loop-next-smaller : goal.else_ifs-loop-next-smaller
else_ifs-loop-next-smaller t c = tokens_shorter _ c.in_ok-block.end.now (else_if_shorter _ (symbols_of c.loop-next.rest.now) (symbols_of c.in_ok-block.end.now) (else_if_found (symbols_of c.loop-next.rest.now) (symbols_of c.in-Some.next.now) c.in-Some.ensures.found (seen_other (c.in_ok-condition.condition, c.in_ok-block.block)) (symbols_of c.in_ok-condition.middle.now) (symbols_of c.in_ok-block.end.now) c.in_ok-condition.ensures.0 c.in_ok-block.ensures.0))

pub else_ifs-loop-next-preserved : goal.else_ifs-loop-next-preserved
else_ifs-loop-next-preserved t c = progress_next ElseIf Anything NotElseIf (symbols_of c.args.tokens.now) seen_other (symbols_of c.loop-next.rest.now) (symbols_of c.in_ok-block.end.now) c.loop-next.others.items _ (c.in_ok-condition.condition, c.in_ok-block.block) c.loop-next.invariant c.in_ok-push.ensures.items else_if_follows
    (else_if_found (symbols_of c.loop-next.rest.now) (symbols_of c.in-Some.next.now) c.in-Some.ensures.found (seen_other (c.in_ok-condition.condition, c.in_ok-block.block)) (symbols_of c.in_ok-condition.middle.now) (symbols_of c.in_ok-block.end.now) c.in_ok-condition.ensures.0 c.in_ok-block.ensures.0) (else_if_more (symbols_of c.loop-next.rest.now) (symbols_of c.in-Some.next.now) c.in-Some.ensures.found) (Leads-ends (else_if_next (symbols_of c.loop-next.rest.now) (symbols_of c.in-Some.next.now) c.in-Some.ensures.found (symbols_of c.in_ok-condition.middle.now) c.in_ok-condition.ensures.1) c.in_ok-block.ensures.1)

pub else_ifs-returns : goal.else_ifs-returns
else_ifs-returns t c = (c.loop-next.invariant.read, progress_ends ElseIf Anything NotElseIf (symbols_of c.args.tokens.now) (symbols_of c.loop-next.rest.now) _ c.loop-next.invariant (else_if_none (symbols_of c.loop-next.rest.now) (c.in_default.ensures.none refl)))

pub else_part-returns-in_default : goal.else_part-returns-in_default
else_part-returns-in_default t c = (refl, no_else_ends (symbols_of c.args.tokens.now) (c.in_default.ensures.none refl))

pub else_part-returns-in_err-block : goal.else_part-returns-in_err-block
else_part-returns-in_err-block t c = let p = err_from_is_err_and c.from_residual.result c.from_residual.ensures.1 in
    rw (p.1, p.2) (fails_from BlockRead Anything (symbols_of c.in-Some.next.now) (Perhaps Else) NotElse (symbols_of c.args.tokens.now)
    (else_fails (symbols_of c.args.tokens.now) (symbols_of c.in-Some.next.now) c.in-Some.ensures.found) _ c.in_err-block.ensures)

pub else_part-returns : goal.else_part-returns
else_part-returns t c = (else_found (symbols_of c.args.tokens.now) (symbols_of c.in-Some.next.now) c.in-Some.ensures.found _ _ c.in_ok-block.ensures.0, else_ends (symbols_of c.args.tokens.now) (symbols_of c.in-Some.next.now) c.in-Some.ensures.found _ c.in_ok-block.ensures.1)

pub if_statement-returns-in_err-condition : goal.if_statement-returns-in_err-condition
if_statement-returns-in_err-condition t c = let p = err_from_is_err_and c.from_residual.result c.from_residual.ensures.1 in
    rw (p.1, p.2) (fails_from Condition Anything (symbols_of c.args.tokens.now) StmtRead NotElse (WordOf (codes "if") ∷ symbols_of c.args.tokens.now)
    (λ n. Leads-never (if_leads (symbols_of c.args.tokens.now)) (any_fails Condition (Both BlockRead (Both (Many ElseIf) (Perhaps Else))) NotElse (symbols_of c.args.tokens.now) n)) _ c.in_err-condition.ensures)

pub if_statement-returns-in_err-block : goal.if_statement-returns-in_err-block
if_statement-returns-in_err-block t c = let p = err_from_is_err_and c.from_residual-in_err-block.result c.from_residual-in_err-block.ensures.1 in
    rw (p.1, p.2) (fails_from BlockRead Anything (symbols_of c.in_ok-condition.rest.now) StmtRead NotElse (WordOf (codes "if") ∷ symbols_of c.args.tokens.now)
    (λ n. Leads-never (if_next (symbols_of c.args.tokens.now) (symbols_of c.in_ok-condition.rest.now) c.in_ok-condition.ensures.1) (any_fails BlockRead (Both (Many ElseIf) (Perhaps Else)) NotElse (symbols_of c.in_ok-condition.rest.now) n)) _ c.in_err-block.ensures)

pub if_statement-returns-in_err-others : goal.if_statement-returns-in_err-others
if_statement-returns-in_err-others t c = let p = err_from_is_err_and c.from_residual-in_err-others.result c.from_residual-in_err-others.ensures.1 in
    rw (p.1, p.2) (fails_from (Many ElseIf) NotElseIf (symbols_of c.in_ok-block.rest.now) StmtRead NotElse (WordOf (codes "if") ∷ symbols_of c.args.tokens.now)
    (if_others_fail (symbols_of c.args.tokens.now) (symbols_of c.in_ok-condition.rest.now) c.in_ok-condition.ensures.1 (symbols_of c.in_ok-block.rest.now) c.in_ok-block.ensures.1) _ c.in_err-others.ensures)

pub if_statement-returns-in_err-last : goal.if_statement-returns-in_err-last
if_statement-returns-in_err-last t c = let p = err_from_is_err_and c.from_residual-in_err-last.result c.from_residual-in_err-last.ensures.1 in
    rw (p.1, p.2) (fails_from (Perhaps Else) NotElse (symbols_of c.in_ok-others.rest.now) StmtRead NotElse (WordOf (codes "if") ∷ symbols_of c.args.tokens.now)
    (λ n. Leads-never (if_last (symbols_of c.args.tokens.now) (symbols_of c.in_ok-condition.rest.now) c.in_ok-condition.ensures.1 (symbols_of c.in_ok-block.rest.now) c.in_ok-block.ensures.1 (symbols_of c.in_ok-others.rest.now) c.in_ok-others.ensures.1) n) _ c.in_err-last.ensures)

pub if_statement-returns : goal.if_statement-returns
if_statement-returns t c = (
  if_found c.in_ok-condition.condition c.in_ok-block.block c.in_ok-others.others c.in_ok-last.last (symbols_of c.args.tokens.now) (symbols_of c.in_ok-condition.rest.now) (symbols_of c.in_ok-block.rest.now) (symbols_of c.in_ok-others.rest.now) _ c.in_ok-condition.ensures.0 c.in_ok-block.ensures.0 c.in_ok-others.ensures.0 c.in_ok-last.ensures.0,
  Leads-ends (if_last (symbols_of c.args.tokens.now) (symbols_of c.in_ok-condition.rest.now) c.in_ok-condition.ensures.1 (symbols_of c.in_ok-block.rest.now) c.in_ok-block.ensures.1 (symbols_of c.in_ok-others.rest.now) c.in_ok-others.ensures.1) c.in_ok-last.ensures.1,
)

pub if_statement-block-requires : goal.if_statement-block-requires
if_statement-block-requires t c = let a = tokens_shorter _ c.in_ok-condition.rest.now (condition_shorter _ (symbols_of c.args.tokens.now) _ c.in_ok-condition.ensures.0) in let d = c.decreases in (omega (arith, a, d), tt)

pub if_statement-else_ifs-requires : goal.if_statement-else_ifs-requires
if_statement-else_ifs-requires t c = let a = tokens_shorter _ c.in_ok-condition.rest.now (condition_shorter _ (symbols_of c.args.tokens.now) _ c.in_ok-condition.ensures.0) in let b = tokens_shorter _ c.in_ok-block.rest.now (block_shorter _ (symbols_of c.in_ok-condition.rest.now) _ c.in_ok-block.ensures.0) in let d = c.decreases in (omega (arith, a, b, d), tt)

pub if_statement-else_part-requires : goal.if_statement-else_part-requires
if_statement-else_part-requires t c = let a = tokens_shorter _ c.in_ok-condition.rest.now (condition_shorter _ (symbols_of c.args.tokens.now) _ c.in_ok-condition.ensures.0) in let b = tokens_shorter _ c.in_ok-block.rest.now (block_shorter _ (symbols_of c.in_ok-condition.rest.now) _ c.in_ok-block.ensures.0) in let o = tokens_within _ c.in_ok-others.rest.now (others_shrink _ (symbols_of c.in_ok-block.rest.now) _ c.in_ok-others.ensures.0) in let d = c.decreases in (omega (arith, a, b, o, d), tt)

pub statement-returns-in-Some : goal.statement-returns-in-Some
statement-returns-in-Some t c = subst (λ z. Decides StmtRead NotElse z (λ r. (seen_stmt r.0, symbols_of r.1.now)) c.var_statement.result) (sym c.in-Some.ensures.found) c.var_statement.ensures

pub statement-returns-in-Some-after_word : goal.statement-returns-in-Some-after_word
statement-returns-in-Some-after_word t c = subst (λ z. Decides StmtRead NotElse z (λ r. (seen_stmt r.0, symbols_of r.1.now)) c.if_statement.result) (sym c.in-Some-after_word.ensures.found) c.if_statement.ensures

pub statement-returns-in-Some-after_word-2 : goal.statement-returns-in-Some-after_word-2
statement-returns-in-Some-after_word-2 t c = subst (λ z. Decides StmtRead NotElse z (λ r. (seen_stmt r.0, symbols_of r.1.now)) c.while_statement.result) (sym c.in-Some-after_word-2.ensures.found) c.while_statement.ensures

pub statement-returns-in-Some-after_word-3 : goal.statement-returns-in-Some-after_word-3
statement-returns-in-Some-after_word-3 t c = subst (λ z. Decides StmtRead NotElse z (λ r. (seen_stmt r.0, symbols_of r.1.now)) c.return_statement.result) (sym c.in-Some-after_word-3.ensures.found) c.return_statement.ensures

pub statement-returns-in-Some-after_word-4 : goal.statement-returns-in-Some-after_word-4
statement-returns-in-Some-after_word-4 t c = subst (λ z. Decides StmtRead NotElse z (λ r. (seen_stmt r.0, symbols_of r.1.now)) c.throw_statement.result) (sym c.in-Some-after_word-4.ensures.found) c.throw_statement.ensures

pub statement-returns-in-Some-after_word-5 : goal.statement-returns-in-Some-after_word-5
statement-returns-in-Some-after_word-5 t c = subst (λ z. Decides StmtRead NotElse z (λ r. (seen_stmt r.0, symbols_of r.1.now)) c.try_statement.result) (sym c.in-Some-after_word-5.ensures.found) c.try_statement.ensures

pub statement-returns-in_err-name : goal.statement-returns-in_err-name
statement-returns-in_err-name t c = let p = err_from_is_err_and c.from_residual.result c.from_residual.ensures.1 in
    rw (p.1, p.2) (fails_from AssignParts Anything (symbols_of c.args.tokens.now) StmtRead NotElse (symbols_of c.args.tokens.now)
    (λ n. Leads-never (assign_leads (symbols_of c.args.tokens.now) (c.if-begins_assignment.ensures.yes refl)) (Never-any NotElse n)) _ c.in_err-name.ensures)

pub statement-returns-then-begins_assignment : goal.statement-returns-then-begins_assignment
statement-returns-then-begins_assignment t c = (
  assign_found (symbols_of c.args.tokens.now) c.in_ok-name.name c.in_ok-name.value _ c.in_ok-name.ensures.0,
  Leads-ends (assign_leads (symbols_of c.args.tokens.now) (c.if-begins_assignment.ensures.yes refl)) (Ends-any NotElse c.in_ok-name.ensures.1),
)

pub statement-returns-in_err-value : goal.statement-returns-in_err-value
statement-returns-in_err-value t c = let p = err_from_is_err_and c.from_residual-in_err-value.result c.from_residual-in_err-value.ensures.1 in
    rw (p.1, p.2) (fails_from Ended Anything (symbols_of c.args.tokens.now) StmtRead NotElse (symbols_of c.args.tokens.now)
    (λ n. Leads-never (simple_leads (symbols_of c.args.tokens.now) (record {
      no_var = c.in_default.ensures.none refl;
      no_if = c.in_default-after_word.ensures.none refl;
      no_while = c.in_default-after_word-2.ensures.none refl;
      no_return = c.in_default-after_word-3.ensures.none refl;
      no_throw = c.in_default-after_word-4.ensures.none refl;
      no_try = c.in_default-after_word-5.ensures.none refl;
      no_assignment = c.if-begins_assignment.ensures.no refl;
    })) (Never-any NotElse n)) _ c.in_err-value.ensures)

pub statement-returns : goal.statement-returns
statement-returns t c = (
  simple_found (symbols_of c.args.tokens.now) c.in_ok-value.value _ c.in_ok-value.ensures.0,
  Leads-ends (simple_leads (symbols_of c.args.tokens.now) (record {
    no_var = c.in_default.ensures.none refl;
    no_if = c.in_default-after_word.ensures.none refl;
    no_while = c.in_default-after_word-2.ensures.none refl;
    no_return = c.in_default-after_word-3.ensures.none refl;
    no_throw = c.in_default-after_word-4.ensures.none refl;
    no_try = c.in_default-after_word-5.ensures.none refl;
    no_assignment = c.if-begins_assignment.ensures.no refl;
  })) (Ends-any NotElse c.in_ok-value.ensures.1),
)

pub statements-loop-alloc-init : goal.statements-loop-alloc-init
statements-loop-alloc-init t c = progress_begins StmtRead NotElse ClosesBlock (symbols_of c.args.tokens.now) seen_stmt c.new-statements.result.items c.new-statements.ensures.items

pub statements-statement-requires : goal.statements-statement-requires
statements-statement-requires t c = let a = tokens_within _ c.loop-alloc.rest.now (progress_within StmtRead NotElse ClosesBlock (symbols_of c.args.tokens.now) stmt_shrinks (symbols_of c.loop-alloc.rest.now) _ c.loop-alloc.invariant) in let d = c.decreases in (omega (arith, a, d), tt)

pub statements-returns-in_err-statement : goal.statements-returns-in_err-statement
statements-returns-in_err-statement t c = let p = err_from_is_err_and c.from_residual.result c.from_residual.ensures.1 in
    rw (p.1, p.2) (fails_from StmtRead NotElse (symbols_of c.loop-alloc.rest.now) (Many StmtRead) ClosesBlock (symbols_of c.args.tokens.now)
    (λ n. progress_fails StmtRead NotElse ClosesBlock (symbols_of c.args.tokens.now) (symbols_of c.loop-alloc.rest.now) _ c.loop-alloc.invariant stmt_follows (c.loop-alloc-test.ensures.no refl) n) _ c.in_err-statement.ensures)

pub statements-loop-alloc-smaller : goal.statements-loop-alloc-smaller
statements-loop-alloc-smaller t c = tokens_shorter _ c.in_ok-statement.end.now (stmt_shorter _ (symbols_of c.loop-alloc.rest.now) (symbols_of c.in_ok-statement.end.now) c.in_ok-statement.ensures.0)

pub statements-loop-alloc-preserved : goal.statements-loop-alloc-preserved
statements-loop-alloc-preserved t c = progress_next StmtRead NotElse ClosesBlock (symbols_of c.args.tokens.now) seen_stmt (symbols_of c.loop-alloc.rest.now) (symbols_of c.in_ok-statement.end.now) c.loop-alloc.statements.items _ c.in_ok-statement.statement c.loop-alloc.invariant c.in_ok-push.ensures.items stmt_follows c.in_ok-statement.ensures.0 (c.loop-alloc-test.ensures.no refl) c.in_ok-statement.ensures.1

pub statements-returns : goal.statements-returns
statements-returns t c = (c.loop-alloc.invariant.read, stmts_end (symbols_of c.args.tokens.now) (symbols_of c.loop-alloc.rest.now) _ c.loop-alloc.invariant (c.loop-alloc-test.ensures.yes refl))

pub try_statement-returns-in_err-tried : goal.try_statement-returns-in_err-tried
try_statement-returns-in_err-tried t c = let p = err_from_is_err_and c.from_residual.result c.from_residual.ensures.1 in
    rw (p.1, p.2) (fails_from BlockRead Anything (symbols_of c.args.tokens.now) StmtRead NotElse (WordOf (codes "try") ∷ symbols_of c.args.tokens.now)
    (λ n. Leads-never (try_leads (symbols_of c.args.tokens.now)) (any_fails BlockRead (Behind (WordOf (codes "catch")) (Both BracketedName BlockRead)) NotElse (symbols_of c.args.tokens.now) n)) _ c.in_err-tried.ensures)

pub try_statement-returns-in_default : goal.try_statement-returns-in_default
try_statement-returns-in_default t c = try_uncaught (symbols_of c.args.tokens.now) (symbols_of c.in_ok-tried.rest.now) c.in_ok-tried.ensures.1 (c.in_default.ensures.none refl)

pub try_statement-returns-in_err-name : goal.try_statement-returns-in_err-name
try_statement-returns-in_err-name t c = let p = err_from_is_err_and c.from_residual-in_err-name.result c.from_residual-in_err-name.ensures.1 in
    rw (p.1, p.2) (fails_from BracketedName Anything (symbols_of c.in-Some.next.now) StmtRead NotElse (WordOf (codes "try") ∷ symbols_of c.args.tokens.now)
    (try_unnamed (symbols_of c.args.tokens.now) (symbols_of c.in_ok-tried.rest.now) c.in_ok-tried.ensures.1 (symbols_of c.in-Some.next.now) c.in-Some.ensures.found) _ c.in_err-name.ensures)

pub try_statement-returns-in_err-handler : goal.try_statement-returns-in_err-handler
try_statement-returns-in_err-handler t c = let p = err_from_is_err_and c.from_residual-in_err-handler.result c.from_residual-in_err-handler.ensures.1 in
    rw (p.1, p.2) (fails_from BlockRead Anything (symbols_of c.in_ok-name.rest.now) StmtRead NotElse (WordOf (codes "try") ∷ symbols_of c.args.tokens.now)
    (λ n. Leads-never (try_handler (symbols_of c.args.tokens.now) (symbols_of c.in_ok-tried.rest.now) c.in_ok-tried.ensures.1 (symbols_of c.in-Some.next.now) c.in-Some.ensures.found (symbols_of c.in_ok-name.rest.now) c.in_ok-name.ensures.1) (Never-any NotElse n)) _ c.in_err-handler.ensures)

pub try_statement-returns : goal.try_statement-returns
try_statement-returns t c = (
  try_found c.in_ok-tried.tried c.in_ok-name.name c.in_ok-handler.handler (symbols_of c.args.tokens.now) (symbols_of c.in_ok-tried.rest.now) (symbols_of c.in-Some.next.now) (symbols_of c.in_ok-name.rest.now) _ c.in_ok-tried.ensures.0 c.in-Some.ensures.found c.in_ok-name.ensures.0 c.in_ok-handler.ensures.0,
  Leads-ends (try_handler (symbols_of c.args.tokens.now) (symbols_of c.in_ok-tried.rest.now) c.in_ok-tried.ensures.1 (symbols_of c.in-Some.next.now) c.in-Some.ensures.found (symbols_of c.in_ok-name.rest.now) c.in_ok-name.ensures.1) (Ends-any NotElse c.in_ok-handler.ensures.1),
)

pub try_statement-block-requires-2 : goal.try_statement-block-requires-2
try_statement-block-requires-2 t c =
    let a = tokens_shorter _ c.in_ok-tried.rest.now (block_shorter _ (symbols_of c.args.tokens.now) _ c.in_ok-tried.ensures.0) in
    let b = shorter _ c.in-Some.next.now _ c.in-Some.ensures.found in
    let e = tokens_shorter _ c.in_ok-name.rest.now (bracketed_shorter _ (symbols_of c.in-Some.next.now) _ c.in_ok-name.ensures.0) in
    let d = c.decreases in (omega (arith, a, b, e, d), tt)

pub while_statement-returns-in_err-condition : goal.while_statement-returns-in_err-condition
while_statement-returns-in_err-condition t c = let p = err_from_is_err_and c.from_residual.result c.from_residual.ensures.1 in
    rw (p.1, p.2) (fails_from Condition Anything (symbols_of c.args.tokens.now) StmtRead NotElse (WordOf (codes "while") ∷ symbols_of c.args.tokens.now)
    (λ n. Leads-never (while_leads (symbols_of c.args.tokens.now)) (any_fails Condition BlockRead NotElse (symbols_of c.args.tokens.now) n)) _ c.in_err-condition.ensures)

pub while_statement-returns-in_err-block : goal.while_statement-returns-in_err-block
while_statement-returns-in_err-block t c = let p = err_from_is_err_and c.from_residual-in_err-block.result c.from_residual-in_err-block.ensures.1 in
    rw (p.1, p.2) (fails_from BlockRead Anything (symbols_of c.in_ok-condition.rest.now) StmtRead NotElse (WordOf (codes "while") ∷ symbols_of c.args.tokens.now)
    (λ n. Leads-never (while_next (symbols_of c.args.tokens.now) (symbols_of c.in_ok-condition.rest.now) c.in_ok-condition.ensures.1) (Never-any NotElse n)) _ c.in_err-block.ensures)

pub while_statement-block-requires : goal.while_statement-block-requires
while_statement-block-requires t c = let a = tokens_shorter _ c.in_ok-condition.rest.now (condition_shorter _ (symbols_of c.args.tokens.now) _ c.in_ok-condition.ensures.0) in let d = c.decreases in (omega (arith, a, d), tt)

pub while_statement-returns : goal.while_statement-returns
while_statement-returns t c = (
  while_found c.in_ok-condition.condition c.in_ok-block.block (symbols_of c.args.tokens.now) (symbols_of c.in_ok-condition.rest.now) _ c.in_ok-condition.ensures.0 c.in_ok-block.ensures.0,
  Leads-ends (while_next (symbols_of c.args.tokens.now) (symbols_of c.in_ok-condition.rest.now) c.in_ok-condition.ensures.1) (Ends-any NotElse c.in_ok-block.ensures.1),
)
