use Rattle.page_values.specs.Seen.{seen}
use Rattle.page_values.proofs.SpellingsLemmas.{printed-spells}
use Rattle.page_values.proofs.printing.print.Goals as goal

pub returns-clause-spelling : goal.returns-clause-spelling
returns-clause-spelling c =
    λ numbered. printed-spells c.args.names.now (seen c.args.value.now) c.names.ensures.spelled c.in_ok-print_value.ensures.written numbered c.in_ok-print_value.ensures.flat
