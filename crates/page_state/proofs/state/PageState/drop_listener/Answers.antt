use Rattle.std.proofs.Common.{refl}
use Rattle.page_types.specs.Events.{Drop}
use Rattle.page_state.specs.SignalActs.{unlistened}
use Rattle.page_state.proofs.Telling.{Does-told}
use Rattle.page_state.proofs.state.PageState.drop_listener.Goals as goal

pub returns : goal.returns
returns g c =
    let r = c.args.r in
    Does-told (unlistened r) (λ p. Drop r) (Drop r) c.args.self.now c.unlisten.new.self refl c.unlisten.ensures refl c.emit.ensures
