use Rattle.std.proofs.Common.{map, refl, sym, ◌∙◌}
use Rattle.page_values.specs.Seen.{seen}
use Rattle.page_host.specs.StateActs.{RanOut}
use Rattle.page_host.proofs.Composing.{runs-wanted}
use Rattle.page_host.proofs.TaskRuns.{ready-after}
use Rattle.page_host.proofs.FrameSteps.{key-none, key-called, key-wanting}
use Rattle.page_host.proofs.page.Page.visit_key.Goals as goal

pub take_frame-requires : goal.take_frame-requires
take_frame-requires g c = c.requires.running

pub wanting-requires : goal.wanting-requires
wanting-requires g c = c.take_frame.ensures.gone.stopped

pub run_callback-requires : goal.run_callback-requires
run_callback-requires g c = ready-after c.args.machine.now (λ q. refl) c.take_frame.ensures.gone c.requires

pub returns-in_default : goal.returns-in_default
returns-in_default g c = key-none c.args.time.0 c.args.key c.take_frame.ensures.gone c.requires (sym c.in_default.is ∙ c.take_frame.ensures.registration)

pub returns-in_default-timestamp : goal.returns-in_default-timestamp
returns-in_default-timestamp g c =
    key-wanting c.args.time.0 c.args.key c.take_frame.ensures.gone c.in-Some.r (sym c.in-Some.is ∙ c.take_frame.ensures.registration)
    (λ step. runs-wanted step RanOut _ _ c.wanting.ensures.why c.wanting.ensures.stopped)

pub returns : goal.returns
returns g c =
    key-called c.args.time.0 c.args.key c.take_frame.ensures.gone c.in-Some.r (sym c.in-Some.is ∙ c.take_frame.ensures.registration) (map seen c.in-Ok.args.items) c.in-Ok.ensures c.run_callback.ensures
