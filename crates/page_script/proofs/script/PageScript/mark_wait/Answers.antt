use Rattle.std.proofs.Common.{refl}
use Rattle.page_types.specs.Events.{Wait}
use Rattle.page_model.specs.Turns.{at_time}
use Rattle.page_script.proofs.Lifting.{Does-line}
use Rattle.page_script.proofs.script.PageScript.mark_wait.Goals as goal

pub returns : goal.returns
returns g c = Does-line (at_time c.args.time.0) (Wait c.args.target.0) c.args.self.now c.set_now.new.self refl c.set_now.ensures c.emit.ensures
