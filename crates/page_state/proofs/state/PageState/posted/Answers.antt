use Rattle.std.proofs.Common.{refl}
use Rattle.page_values.specs.Seen.{seen}
use Rattle.page_model.specs.Operations.{posted}
use Rattle.page_script.proofs.Touching.{posted-only}
use Rattle.page_state.proofs.Acting.{Does-wants}
use Rattle.page_state.proofs.Lifted.{Does-lifted}
use Rattle.page_state.proofs.state.PageState.posted.Goals as goal

pub returns-then-not-is_numbered : goal.returns-then-not-is_numbered
returns-then-not-is_numbered g c = Does-wants g.L.Lines.keeping (posted c.args.port (seen c.args.value)) c.args.self.now c.args.self.now (g.L.Lines.seen c.args.lines.now) refl

pub returns : goal.returns
returns g c = Does-lifted (posted c.args.port (seen c.args.value)) (posted-only c.args.port (seen c.args.value)) c.self.view_is c.post.ensures
