use Rattle.std.proofs.Common.{◌+◌, ◌*◌, refl}
use Rattle.page_types.specs.Events.{Arm}
use Rattle.page_model.specs.State.{Page, emit}
use Rattle.page_model.specs.PageTime.{run_after}
use Rattle.parallel_items.specs.Seen.{completion_seen}
use Rattle.page_state.proofs.Acting.{Does-leave, Does-next}
use Rattle.page_state.proofs.Telling.{Does-quiet}
use Rattle.signal_operations.proofs.delays.start_after.Goals as goal

pub returns-in_err-tell_delay : goal.returns-in_err-tell_delay
returns-in_err-tell_delay g c =
    let told : Page → Page = λ p. emit (Arm c.args.registration (p.now + c.args.ms * 1000) 0) p in
    Does-leave told (run_after c.args.ms (completion_seen c.args.completion)) _ (λ es p. refl) c.from_residual.ensures.1 c.in_err-tell_delay.ensures

pub returns : goal.returns
returns g c =
    let told : Page → Page = λ p. emit (Arm c.args.registration (p.now + c.args.ms * 1000) 0) p in
    let started : Page → Page = run_after c.args.ms (completion_seen c.args.completion) in
    Does-next told started (λ es p. refl) c.in_ok-tell_delay.ensures
    (Does-quiet g.L.Lines.keeping started c.args.page.now c.run_after.new.self _ c.run_after.result refl c.run_after.ensures.started c.run_after.ensures.memory)
