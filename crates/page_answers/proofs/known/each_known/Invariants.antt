use Rattle.std.proofs.Common.{◌≡◌, drop}
use Rattle.lang_ast.specs.Hosts.{seen_lent}
use Rattle.page_model.specs.Operations.{all_known}
use Rattle.page_answers.proofs.known.each_known.Given as goal

-- the rest is known exactly where all are
abbrev pub invariant-loop-value : goal.invariant-loop-value
invariant-loop-value l = all_known l.promises l.signals (seen_lent (drop l.value-index l.args)) ≡ all_known l.promises l.signals (seen_lent l.args)
