use Rattle.std.proofs.Common.{◌∙◌, sym}
use Rattle.std.proofs.lemmas.Result.{err_from_is_err_and}
use Rattle.lang_ast.specs.Seen.{seen_item}
use Rattle.lang_parse.specs.Symbols.{symbols_of}
use Rattle.lang_parse.specs.Parts.{Many, ItemRead, NotElse, AtEnd}
use Rattle.lang_parse.proofs.Walks.{fails_from}
use Rattle.lang_parse.proofs.Script.{item_follows, item_shorter}
use Rattle.lang_parse.proofs.StmtSteps.{progress_begins, progress_next, progress_fails, tokens_shorter}
use Rattle.lang_parse.proofs.ItemSteps.{not_empty, items_done}
use Rattle.lang_parse.proofs.toplevel.items.Goals as goal

pub loop-rest-init : goal.loop-rest-init
loop-rest-init c = progress_begins ItemRead NotElse AtEnd (symbols_of c.args.tokens.now) seen_item c.new-items.result.items c.new-items.ensures.items

pub returns-in_err-item-clause-none : goal.returns-in_err-item-clause-none
returns-in_err-item-clause-none c = let p = err_from_is_err_and c.from_residual.result c.from_residual.ensures.1 in
    rw (p.1, p.2) (fails_from ItemRead NotElse (symbols_of c.loop-rest.rest.now) (Many ItemRead) AtEnd (symbols_of c.args.tokens.now)
    (λ n. progress_fails ItemRead NotElse AtEnd (symbols_of c.args.tokens.now) (symbols_of c.loop-rest.rest.now) _ c.loop-rest.invariant item_follows (not_empty c.loop-rest.rest.now (sym c.is_empty.ensures ∙ c.loop-rest-test.true)) n) _ c.in_err-item.ensures)

pub loop-rest-smaller : goal.loop-rest-smaller
loop-rest-smaller c = tokens_shorter _ c.in_ok-item.end.now (item_shorter _ (symbols_of c.loop-rest.rest.now) (symbols_of c.in_ok-item.end.now) c.in_ok-item.ensures.0)

pub loop-rest-preserved : goal.loop-rest-preserved
loop-rest-preserved c = progress_next ItemRead NotElse AtEnd (symbols_of c.args.tokens.now) seen_item (symbols_of c.loop-rest.rest.now) (symbols_of c.in_ok-item.end.now) c.loop-rest.items.items _ c.in_ok-item.item c.loop-rest.invariant c.in_ok-push.ensures.items item_follows c.in_ok-item.ensures.0 (not_empty c.loop-rest.rest.now (sym c.is_empty.ensures ∙ c.loop-rest-test.true)) c.in_ok-item.ensures.1

pub returns-clause-found : goal.returns-clause-found
returns-clause-found c = items_done (symbols_of c.args.tokens.now) c.loop-rest.rest.now _ c.loop-rest.invariant (sym c.is_empty.ensures ∙ c.loop-rest-test.false)
