use Rattle.std.proofs.Common.{rules, not, ◌∙◌}
use Rattle.std.proofs.lemmas.Fn.{filter_same}
use Rattle.page_parts.specs.Words.{numbered}
use Rattle.page_parts.specs.Promises.{pending_promise}
use Rattle.promise_core.specs.Seen.{records_seen}
use Rattle.promise_core.proofs.HeldLemmas.{filter-not}
use Rattle.promise_core.proofs.promises.unhandled_of.Goals as goal

pub returns : goal.returns
returns c =
    filter_same _ (λ n. not (numbered (records_seen c.args.records.now) n pending_promise).handled) _ (λ x b f h. search rules) _ _ c.retain.ensures.filtered
    ∙ filter-not (λ n. (numbered (records_seen c.args.records.now) n pending_promise).handled) c.args.numbers.items
