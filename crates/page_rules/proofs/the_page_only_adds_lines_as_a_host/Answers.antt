use Rattle.page_rules.proofs.RulesAdd.{rules-add}
use Rattle.page_rules.proofs.the_page_only_adds_lines_as_a_host.Goals as goal

pub returns : goal.returns
returns c before ask h = rules-add before ask h
