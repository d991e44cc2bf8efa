use Rattle.std.proofs.Common.{ap, refl}
use Rattle.page_types.specs.Events.{Drop}
use Rattle.page_model.specs.PageTime.{clear_id, registration_with_id}
use Rattle.page_state.proofs.Telling.{Does-told}
use Rattle.page_state.proofs.state.PageState.drop_timer.Goals as goal

pub returns : goal.returns
returns g c =
    let id = c.args.id in
    Does-told (clear_id id) (λ p. Drop (registration_with_id id 1 p.registrations)) _ c.args.self.now c.clear_id.new.self refl c.clear_id.ensures
    (ap Drop c.registration_with_id-r.ensures) c.emit.ensures
