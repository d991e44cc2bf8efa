use Rattle.std.proofs.lemmas.Result.{err_from_is_err_and}
use Rattle.page_cli.proofs.AnswerLemmas.{tokens-refuse, parse-refuses}
use Rattle.page_cli.proofs.reading.read_script.Goals as goal

pub returns-in_err-tokens-clause-fault : goal.returns-in_err-tokens-clause-fault
returns-in_err-tokens-clause-fault c =
    let p = err_from_is_err_and c.from_residual.result c.from_residual.ensures.1 in
    rw (p.1, p.2) (tokens-refuse _ _ c.in_err-tokens.ensures.bad)

pub returns-in_err-tree-clause-fault : goal.returns-in_err-tree-clause-fault
returns-in_err-tree-clause-fault c =
    let p = err_from_is_err_and c.from_residual-in_err-tree.result c.from_residual-in_err-tree.ensures.1 in
    rw (p.1, p.2) (parse-refuses _ _ _ c.in_ok-tokens.ensures.ok c.in_ok-tokens.ensures.byte_count c.in_err-tree.ensures.none c.in_err-tree.ensures.place)
