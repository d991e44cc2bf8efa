use Rattle.page_model.specs.PageSignals.{dispatch, abort, change}
use Rattle.page_model.proofs.Holding.Runs.{dispatch-goes, abort-goes, change-goes}
use Rattle.page_model.proofs.Holding.FuelAndTime.{no_script, forward, goes_forward, ways_forward}
use Rattle.page_model.proofs.fuel_and_time.signals_go_forward.Goals as goal

pub returns-clause-fired : goal.returns-clause-fired
returns-clause-fired c = λ w a target name args. goes_forward no_script (dispatch w target name args) (dispatch-goes no_script forward w (ways_forward no_script w a) target name args)

pub returns-clause-aborted : goal.returns-clause-aborted
returns-clause-aborted c = λ w a s reason. goes_forward no_script (abort w s reason) (abort-goes no_script forward w (ways_forward no_script w a) s reason)

pub returns-clause-changed : goal.returns-clause-changed
returns-clause-changed c = λ w a priority n s. goes_forward no_script (change w priority n s) (change-goes no_script forward w (ways_forward no_script w a) priority n s)
