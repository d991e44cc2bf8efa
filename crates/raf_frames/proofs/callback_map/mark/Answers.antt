use Rattle.std.proofs.Common.{None, ◌∙◌, ap, sym}
use Rattle.raf_frames.proofs.CallbackLemmas.{set_absent}
use Rattle.raf_frames.proofs.callback_map.mark.Goals as goal

pub returns-in_err-get_mut-clause-marked : goal.returns-in_err-get_mut-clause-marked
returns-in_err-get_mut-clause-marked c =
    let same = ap (λ m. m.entries) c.get_mut.follows.holds-at-none in
    same ∙ sym (set_absent c.args.handle None c.args.callbacks.now.entries (sym c.in_err-get_mut.ensures.value))
