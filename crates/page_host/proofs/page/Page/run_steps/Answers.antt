use Rattle.std.proofs.Common.{ap, sym, ◌∙◌}
use Rattle.page_values.specs.Seen.{seen}
use Rattle.page_tasks.specs.Seen.{steps_of, timer_task}
use Rattle.page_tasks.specs.declared.page_task.WindowEvent.{WindowEvent}
use Rattle.page_model.specs.State.{RunTimer, TimeOutSignal, FireAtWindow, RunFrame, InvokeIdle, NotifyRejected, NotifyHandled}
use Rattle.page_host.proofs.TaskRuns.{runs-nothing}
use Rattle.page_host.proofs.TaskPerforms.{steps-as, steps-done}
use Rattle.page_host.proofs.page.Page.run_steps.Goals as goal

pub returns-in-RunScript : goal.returns-in-RunScript
returns-in-RunScript g c = steps-as (ap steps_of c.in-RunScript.is) c.run_script.ensures

pub returns-in-RunTimer : goal.returns-in-RunTimer
returns-in-RunTimer g c = steps-done (RunTimer (timer_task c.in-RunTimer.task)) c.run_timer.result (ap steps_of c.in-RunTimer.is) c.run_timer.ensures

pub returns-in-TimeOutSignal : goal.returns-in-TimeOutSignal
returns-in-TimeOutSignal g c = steps-done (TimeOutSignal c.in-TimeOutSignal.s) c.time_out_signal.result (ap steps_of c.in-TimeOutSignal.is) c.time_out_signal.ensures

pub returns-in-FireAtWindow : goal.returns-in-FireAtWindow
returns-in-FireAtWindow g c =
    let event = c.into_inner.result in
    steps-done (FireAtWindow event.name (seen event.value)) c.fire_at_window.result
    (ap steps_of c.in-FireAtWindow.is ∙ ap (λ (x : WindowEvent). FireAtWindow x.name (seen x.value)) (sym c.into_inner.ensures))
    c.fire_at_window.ensures

pub returns-in-RunFrame : goal.returns-in-RunFrame
returns-in-RunFrame g c = steps-done (RunFrame c.in-RunFrame.time.0) c.run_frame.result (ap steps_of c.in-RunFrame.is) c.run_frame.ensures

pub returns-in-InvokeIdle : goal.returns-in-InvokeIdle
returns-in-InvokeIdle g c = steps-done (InvokeIdle) c.invoke_idle.result (ap steps_of c.in-InvokeIdle.is) c.invoke_idle.ensures

pub returns-in-NotifyRejected : goal.returns-in-NotifyRejected
returns-in-NotifyRejected g c = steps-done (NotifyRejected c.in-NotifyRejected.promises.items) c.notify_rejected.result (ap steps_of c.in-NotifyRejected.is) c.notify_rejected.ensures

pub returns-in-NotifyHandled : goal.returns-in-NotifyHandled
returns-in-NotifyHandled g c = steps-done (NotifyHandled c.in-NotifyHandled.p) c.notify_handled.result (ap steps_of c.in-NotifyHandled.is) c.notify_handled.ensures

pub returns-in-IdleTimeout : goal.returns-in-IdleTimeout
returns-in-IdleTimeout g c = steps-as (ap steps_of c.in-IdleTimeout.is) c.time_out_idle.ensures

pub returns-in-AnswerHost : goal.returns-in-AnswerHost
returns-in-AnswerHost g c = steps-as (ap steps_of c.in-AnswerHost.is) (runs-nothing c.args.machine.now c.args.self.now c.requires)
