use Rattle.std.proofs.Common.{◌∙◌, sym}
use Rattle.promise_core.specs.Seen.{settled_seen}
use Rattle.page_notices.specs.Seen.{current}
use Rattle.page_script.proofs.Counting.{settled-count}
use Rattle.page_script.proofs.marked.Marked.settle.Goals as goal

pub invariant_of-self-else-is_err : goal.invariant_of-self-else-is_err
invariant_of-self-else-is_err g c =
    let now = c.args.now in
    c.self.invariant ∙ sym (settled-count now.at.0 (current now.level now.state) c.args.names.now c.args.p (settled_seen c.args.how) c.settle-done.result (sym c.is_err.ensures.value ∙ c.if-is_err.false) c.settle-done.ensures)
