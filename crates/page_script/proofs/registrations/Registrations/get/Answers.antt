use Rattle.std.proofs.Common.{◌≤◌, length, ◌∙◌, ap, sym, subst, List}
use Rattle.page_parts.specs.Words.{numbered}
use Rattle.page_model.specs.State as model
use Rattle.page_model.specs.State.{no_registration}
use Rattle.page_script.specs.Seen.{registration_seen}
use Rattle.page_script.proofs.Numbering.{numbered_read}
use Rattle.page_script.proofs.registrations.Registrations.get.Goals as goal

pub returns : goal.returns
returns c =
    let r = c.args.r in
    numbered_read registration_seen no_registration c.self.inside.list.items r c.index.result.now c.requires.counted
    (subst (λ (xs : List model.Registration). r ≤ length xs) (sym c.self.view_is) c.requires.made) c.index.ensures
    ∙ ap (λ (xs : List model.Registration). numbered xs r no_registration) c.self.view_is
