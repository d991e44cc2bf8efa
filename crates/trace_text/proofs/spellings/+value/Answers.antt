use Rattle.std.proofs.Common.{◌≡◌, ◌∷◌, length, Some, None, ◌∙◌, ap, arith}
use Rattle.page_values.specs.Spellings.{IsSpelling}
use Rattle.trace_text.proofs.Rows.{after_comma, after_close, no_row, shorter, closed, open_row}
use Rattle.trace_text.proofs.WholeValues.{answered, inside_closes, closes_no_value, value_flat, value_too_deep, value_nested}
use Rattle.trace_text.proofs.spellings.+value.Goals as goal

pub items_end-returns-in_err-byte : goal.items_end-returns-in_err-byte
items_end-returns-in_err-byte t c =
    let none = c.in_err-byte.ensures.cases in
    rw c.from_residual.ensures (no_row (IsSpelling c.args.deep) c.args.close c.args.bytes.now c.loop-end.rest.now (Some c.in-Some.end.now) c.requires c.loop-end.invariant c.in-Some.ensures
    (λ next e. let f : c.in-Some.end.now ≡ c.args.close ∷ next = cc in omega (arith, none, ap length f))
    (λ next e. let f : c.in-Some.end.now ≡ 44 ∷ next = cc in omega (arith, none, ap length f)))

pub items_end-returns-then-byte-close : goal.items_end-returns-then-byte-close
items_end-returns-then-byte-close t c =
    after_close (IsSpelling c.args.deep) c.args.close c.args.bytes.now c.loop-end.rest.now c.in_ok-byte.more.now c.in-Some.end.now c.requires c.loop-end.invariant c.in-Some.ensures
    (c.in_ok-byte.ensures.cases.0 ∙ ap (λ b. b ∷ c.in_ok-byte.more.now) c.if-byte-close.true)

pub items_end-returns-then-byte-ne44 : goal.items_end-returns-then-byte-ne44
items_end-returns-then-byte-ne44 t c =
    let whole = c.in_ok-byte.ensures.cases.0 in
    no_row (IsSpelling c.args.deep) c.args.close c.args.bytes.now c.loop-end.rest.now (Some c.in-Some.end.now) c.requires c.loop-end.invariant c.in-Some.ensures
    (λ next e. let f : c.in_ok-byte.byte.now ≡ c.args.close = cc whole in c.if-byte-close.false f)
    (λ next e. let f : c.in_ok-byte.byte.now ≡ 44 = cc whole in c.if-byte-ne44.true f)

pub items_end-loop-end-smaller : goal.items_end-loop-end-smaller
items_end-loop-end-smaller t c = shorter (IsSpelling c.args.deep) c.loop-end.rest.now c.in-Some.end.now c.in_ok-byte.more.now c.in_ok-byte.byte.now c.in-Some.ensures c.in_ok-byte.ensures.cases.0

pub items_end-loop-end-preserved : goal.items_end-loop-end-preserved
items_end-loop-end-preserved t c =
    after_comma (IsSpelling c.args.deep) c.args.close c.args.bytes.now c.loop-end.rest.now c.in_ok-byte.more.now c.in-Some.end.now c.requires c.loop-end.invariant c.in-Some.ensures
    (c.in_ok-byte.ensures.cases.0 ∙ ap (λ b. b ∷ c.in_ok-byte.more.now) c.if-byte-ne44.false)

pub items_end-returns : goal.items_end-returns
items_end-returns t c =
    no_row (IsSpelling c.args.deep) c.args.close c.args.bytes.now c.loop-end.rest.now None c.requires c.loop-end.invariant c.in_default.ensures (λ next e. cc) (λ next e. cc)

pub row_end-returns-in-Some : goal.row_end-returns-in-Some
row_end-returns-in-Some t c = closed (IsSpelling c.args.deep) c.args.close c.args.bytes.now c.in-Some.rest.now c.in-Some.ensures (closes_no_value c.args.deep c.args.close c.in-Some.rest.now c.requires)

pub row_end-returns-in-None : goal.row_end-returns-in-None
row_end-returns-in-None t c = open_row (IsSpelling c.args.deep) c.args.close c.args.bytes.now _ c.in-None.ensures c.items_end.ensures

pub value_end-returns-then-deep-eq0 : goal.value_end-returns-then-deep-eq0
value_end-returns-then-deep-eq0 t c = value_too_deep c.args.deep c.args.bytes.now c.in-Some.close c.in-Some.inside.now c.if-deep-eq0.true c.in-Some.ensures

pub value_end-row_end-requires : goal.value_end-row_end-requires
value_end-row_end-requires t c = let d = c.decreases in (omega arith, inside_closes c.args.bytes.now c.in-Some.close c.in-Some.inside.now c.in-Some.ensures)

pub value_end-returns-in-None : goal.value_end-returns-in-None
value_end-returns-in-None t c = value_flat c.args.deep c.args.bytes.now _ c.in-None.ensures (answered _ c.simple_end.result _ c.simple_end.ensures)

pub value_end-returns-else-deep-eq0 : goal.value_end-returns-else-deep-eq0
value_end-returns-else-deep-eq0 t c = let some = c.if-deep-eq0.false in value_nested c.args.deep _ c.args.bytes.now c.in-Some.close c.in-Some.inside.now _ (omega arith) c.in-Some.ensures c.row_end.ensures
