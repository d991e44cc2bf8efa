use Rattle.std.proofs.Common.{◌∙◌, ap, ◌+◌}
use Rattle.page_hosts.specs.Deferred.{given_up_in}
use Rattle.page_hosts.proofs.DeferredLemmas.{one_more}
use Rattle.page_hosts.proofs.deferred.none_given_up.Goals.{else-loop-k-test, then-loop-k-test+else-not-known+in_ok-push+else-k-lt4294967295}
use Rattle.page_hosts.proofs.deferred.none_given_up.Goals as goal

pub loop-k-preserved : goal.loop-k-preserved
loop-k-preserved g c =
    let cs = g.P.HostPort.closures c.args.port.now in (
      c.in_ok-push.ensures.len ∙ ap (λ n. n + 1) c.loop-k.invariant.0,
      ap (λ bs. given_up_in bs cs) c.in_ok-push.ensures.items ∙ one_more c.loop-k.given_up.items cs ∙ c.loop-k.invariant.1,
    )

pub returns-clause-none : goal.returns-clause-none
returns-clause-none g c =
    let cs = g.P.HostPort.closures c.args.port.now in
    elim c.loop-k-test.branch [
      | else-loop-k-test w ↦ rw w.given_up-is c.loop-k.invariant.1
      | then-loop-k-test+else-not-known+in_ok-push+else-k-lt4294967295 w ↦
          rw (w.given_up-is, w.in_ok-push.ensures.items) (one_more c.loop-k.given_up.items cs ∙ c.loop-k.invariant.1)
    ]
