use Rattle.promise_core.specs.Seen.{settled_seen}
use Rattle.promise_combine.specs.Seen.{kind_seen}
use Rattle.promise_combine.specs.Answers.{item_by}
use Rattle.promise_combine.proofs.Heavy.{refused_item}
use Rattle.promise_combine.proofs.listing.push_item.Goals as goal

pub returns-in_err-item-clause-refused : goal.returns-in_err-item-clause-refused
returns-in_err-item-clause-refused c =
    refused_item c.from_residual.result c.in_err-item.field-0.0 c.args.room.now (item_by (kind_seen c.args.kind.now) (settled_seen c.args.outcome.now)) c.from_residual.ensures.1 c.in_err-item.ensures
