use Rattle.std.proofs.Common.{Option, refl, ap, ◌∙◌}
use Rattle.std.proofs.lemmas.Result.{on_ok_weaker}
use Rattle.page_model.specs.State.{HostTask}
use Rattle.page_model.specs.PageSignals.{drop_closure}
use Rattle.page_state.specs.Standing.{page_of}
use Rattle.page_state.proofs.Waiting.{is_of}
use Rattle.page_state.proofs.state.PageState.drop_net_task.Goals as goal

pub returns-in-Some-clause-dropped : goal.returns-in-Some-clause-dropped
returns-in-Some-clause-dropped g c =
    let s = c.args.self.now in
    on_ok_weaker c.drop_closure.result
    (λ dropped. dropped ∙ ap (λ (o : Option HostTask). record s { hosts = drop_closure o s.hosts }) (c.in-Some.ensures (page_of s) (is_of c.self.inside.tasks s c.self.view_is refl c.self.invariant.0)))
    c.drop_closure.ensures.dropped

pub returns-in-None-clause-dropped : goal.returns-in-None-clause-dropped
returns-in-None-clause-dropped g c =
    let s = c.args.self.now in
    ap (λ (o : Option HostTask). record s { hosts = drop_closure o s.hosts }) (c.in-None.ensures (page_of s) (is_of c.self.inside.tasks s c.self.view_is refl c.self.invariant.0))
