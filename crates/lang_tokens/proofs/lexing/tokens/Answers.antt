use Rattle.std.proofs.Common.{◌≡◌, ◌+◌, ◌-◌, ◌≤◌, ℕ, [], ◌∷◌, ◌++◌, Result, Err, ap, length, sym, subst, arith}
use Rattle.lang_tokens.specs.declared.piece.Piece.TheVariants.{Gap, Token, Bad}
use Rattle.lang_tokens.specs.declared.fault.BadByte.{BadByte}
use Rattle.lang_tokens.specs.declared.fault.TokensFault.{TokensFault}
use Rattle.lang_tokens.specs.declared.fault.TokensFault.TheVariants.{Is}
use Rattle.lang_tokens.specs.Tokens.{TokenList, tokens_of}
use Rattle.lang_tokens.proofs.CutLemmas.{Lexing, lexing_within, lexing_gap, lexing_token, lexing_held, lexing_bad}
use Rattle.lang_tokens.proofs.lexing.tokens.Goals as goal

bad_place : (n m : ℕ) → ◌≡◌ {A = Result TokenList TokensFault} (Err (Is (record { at = n }))) (Err (Is (record { at = m }))) → n ≡ m
bad_place n m e =
    let same : ◌≡◌ {A = BadByte} (record { at = n }) (record { at = m }) = cc in
    ap (λ (bad : BadByte). bad.at) same

pub overflow_add-at : goal.overflow_add-at
overflow_add-at c = let w = lexing_within c.args.bytes.now c.loop-at.tokens.items c.loop-at.at c.loop-at.invariant c.loop-at-test.true (Gap c.in-Gap.size) c.in-Gap.ensures in let v : c.in-Gap.size ≤ length c.args.bytes.now - c.loop-at.at = w.1 in omega arith

pub loop-at-smaller-in-Gap : goal.loop-at-smaller-in-Gap
loop-at-smaller-in-Gap c = let w = lexing_within c.args.bytes.now c.loop-at.tokens.items c.loop-at.at c.loop-at.invariant c.loop-at-test.true (Gap c.in-Gap.size) c.in-Gap.ensures in omega (arith, w.0, c.loop-at-test.true)

pub loop-at-preserved-in-Gap : goal.loop-at-preserved-in-Gap
loop-at-preserved-in-Gap c = lexing_gap c.args.bytes.now c.loop-at.tokens.items c.loop-at.at c.loop-at.invariant c.loop-at-test.true c.in-Gap.size c.in-Gap.ensures

pub overflow_add-end : goal.overflow_add-end
overflow_add-end c = let w = lexing_within c.args.bytes.now c.loop-at.tokens.items c.loop-at.at c.loop-at.invariant c.loop-at-test.true (Token c.in-Token.kind c.in-Token.size) c.in-Token.ensures in let v : c.in-Token.size ≤ length c.args.bytes.now - c.loop-at.at = w.1 in omega arith

pub slice_bounds-spelling-end : goal.slice_bounds-spelling-end
slice_bounds-spelling-end c = let w = lexing_within c.args.bytes.now c.loop-at.tokens.items c.loop-at.at c.loop-at.invariant c.loop-at-test.true (Token c.in-Token.kind c.in-Token.size) c.in-Token.ensures in let v : c.in-Token.size ≤ length c.args.bytes.now - c.loop-at.at = w.1 in let within : c.loop-at.at + c.in-Token.size ≤ length c.args.bytes.now = omega arith in within

pub new-requires : goal.new-requires
new-requires c = lexing_held c.args.bytes.now c.loop-at.tokens.items c.loop-at.at c.loop-at.invariant c.loop-at-test.true c.in-Token.kind c.in-Token.size c.in_ok-content-in-Token.content.items c.in-Token.ensures c.in_ok-content-in-Token.ensures

pub loop-at-smaller : goal.loop-at-smaller
loop-at-smaller c = let w = lexing_within c.args.bytes.now c.loop-at.tokens.items c.loop-at.at c.loop-at.invariant c.loop-at-test.true (Token c.in-Token.kind c.in-Token.size) c.in-Token.ensures in omega (arith, w.0, c.loop-at-test.true)

pub loop-at-preserved : goal.loop-at-preserved
loop-at-preserved c = subst (λ ts. Lexing c.args.bytes.now ts (c.loop-at.at + c.in-Token.size)) (sym c.in_ok-push-in-Token.ensures.items)
    (subst (λ t. Lexing c.args.bytes.now (c.loop-at.tokens.items ++ t ∷ []) (c.loop-at.at + c.in-Token.size)) (sym c.new.ensures)
    (lexing_token c.args.bytes.now c.loop-at.tokens.items c.loop-at.at c.loop-at.invariant c.loop-at-test.true c.in-Token.kind c.in-Token.size c.in_ok-content-in-Token.content.items c.in-Token.ensures c.in_ok-content-in-Token.ensures))

pub overflow_add-result : goal.overflow_add-result
overflow_add-result c = let w = lexing_within c.args.bytes.now c.loop-at.tokens.items c.loop-at.at c.loop-at.invariant c.loop-at-test.true (Bad c.in-Bad.size) c.in-Bad.ensures in let v : c.in-Bad.size ≤ length c.args.bytes.now - c.loop-at.at = w in omega arith

pub returns-in-Bad-clause-bad : goal.returns-in-Bad-clause-bad
returns-in-Bad-clause-bad c at e =
    subst (λ n. tokens_of c.args.bytes.now ≡ Err n) (bad_place (c.loop-at.at + c.in-Bad.size) at e) (lexing_bad c.args.bytes.now c.loop-at.tokens.items c.loop-at.at c.loop-at.invariant c.loop-at-test.true c.in-Bad.size c.in-Bad.ensures)
