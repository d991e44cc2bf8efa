use Rattle.std.proofs.Common.{sym, ◌∙◌, arith}
use Rattle.arrivals_text.proofs.Rows.{rank_is}
use Rattle.arrivals_text.proofs.lists.rank.Goals as goal

pub returns-then-lists_all : goal.returns-then-lists_all
returns-then-lists_all c = rank_is c.args.sources.now _ (omega (arith, c.in-len7.len_at_least, c.in-len7.len_below)) (sym c.lists_all.ensures ∙ c.if-lists_all.true)
