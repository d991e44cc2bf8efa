use Rattle.std.proofs.Common.{refl}
use Rattle.std.specs.Option.{option_map}
use Rattle.page_model.specs.State.{last_registration}
use Rattle.page_model.specs.Invoke.{register_as}
use Rattle.page_model.specs.Operations.{promised}
use Rattle.page_model.specs.PagePromises.{new_promise, last_promise}
use Rattle.page_model.specs.PageSignals.{watch}
use Rattle.page_values.specs.Seen.{seen_func}
use Rattle.page_state.proofs.Acting.{Does-next, Does-leave, Does-silent}
use Rattle.page_state.proofs.Telling.{Does-wanted}
use Rattle.page_state.proofs.Handled.{Does-read}
use Rattle.page_state.proofs.Signalled.{promising, last_watched-adds, watched_with, watched_with-adds, watch-quiet}
use Rattle.page_state.proofs.state.PageState.promised.Goals as goal

pub returns-in_err-promise-clause-does : goal.returns-in_err-promise-clause-does
returns-in_err-promise-clause-does g c =
    Does-wanted g.L.Lines.keeping (promised c.args.kind (option_map seen_func c.args.callback) c.args.signal) c.args.self.now c.new_promise.new.self _ _ c.from_residual.ensures.1 c.in_err-promise.ensures.memory

pub returns-in_err-r-clause-does : goal.returns-in_err-r-clause-does
returns-in_err-r-clause-does g c =
    let kind = c.args.kind in
    let f = option_map seen_func c.args.callback in
    let signal = c.args.signal in
    let n = c.in_ok-promise.promise in
    let x = promising kind f signal n in
    Does-next new_promise (λ p. watched_with kind f signal (last_promise p) p) (watched_with-adds kind f signal)
    (Does-silent g.L.Lines.keeping new_promise c.args.self.now _ refl c.in_ok-promise.ensures.made)
    (Does-read (watched_with kind f signal) last_promise n c.new_promise.new.self c.in_ok-promise.ensures.number
    (Does-leave (register_as kind x) (λ p. watch signal (last_registration p) p) _ (last_watched-adds signal) c.from_residual-in_err-r.ensures.1 (rw (c.first_alone-callbacks.ensures.the_first, c.first_alone-callbacks.ensures.the_second) at c.in_err-r.ensures.does)))

pub returns-in_err-watch-clause-does : goal.returns-in_err-watch-clause-does
returns-in_err-watch-clause-does g c =
    let kind = c.args.kind in
    let f = option_map seen_func c.args.callback in
    let signal = c.args.signal in
    let n = c.in_ok-promise.promise in
    let x = promising kind f signal n in
    Does-next new_promise (λ p. watched_with kind f signal (last_promise p) p) (watched_with-adds kind f signal)
    (Does-silent g.L.Lines.keeping new_promise c.args.self.now _ refl c.in_ok-promise.ensures.made)
    (Does-read (watched_with kind f signal) last_promise n c.new_promise.new.self c.in_ok-promise.ensures.number
    (Does-next (register_as kind x) (λ p. watch signal (last_registration p) p) (last_watched-adds signal) (rw (c.first_alone-callbacks.ensures.the_first, c.first_alone-callbacks.ensures.the_second) at c.in_ok-r.ensures.does)
    (Does-read (watch signal) last_registration c.in_ok-r.r c.register_as.new.self c.in_ok-r.ensures.number
    (Does-wanted g.L.Lines.keeping (watch signal c.in_ok-r.r) c.register_as.new.self c.watch.new.self _ _ c.from_residual-in_err-watch.ensures.1 c.in_err-watch.ensures.memory))))

pub returns-clause-does : goal.returns-clause-does
returns-clause-does g c =
    let kind = c.args.kind in
    let f = option_map seen_func c.args.callback in
    let signal = c.args.signal in
    let n = c.in_ok-promise.promise in
    let x = promising kind f signal n in
    Does-next new_promise (λ p. watched_with kind f signal (last_promise p) p) (watched_with-adds kind f signal)
    (Does-silent g.L.Lines.keeping new_promise c.args.self.now _ refl c.in_ok-promise.ensures.made)
    (Does-read (watched_with kind f signal) last_promise n c.new_promise.new.self c.in_ok-promise.ensures.number
    (Does-next (register_as kind x) (λ p. watch signal (last_registration p) p) (last_watched-adds signal) (rw (c.first_alone-callbacks.ensures.the_first, c.first_alone-callbacks.ensures.the_second) at c.in_ok-r.ensures.does)
    (Does-read (watch signal) last_registration c.in_ok-r.r c.register_as.new.self c.in_ok-r.ensures.number
    (Does-silent g.L.Lines.keeping (watch signal c.in_ok-r.r) c.register_as.new.self _ (watch-quiet signal c.in_ok-r.r c.register_as.new.self) c.in_ok-watch.ensures.watched))))
