use Rattle.std.proofs.Common.{ap, ◌∙◌}
use Rattle.page_parts.specs.Words.{has_number}
use Rattle.page_parts.specs.Listeners.{is_listening}
use Rattle.keyed_list.specs.Listed.{keys_in}
use Rattle.page_events.proofs.IndexLemmas.{is_listed}
use Rattle.page_events.proofs.listeners.Listeners.is_listening.Goals as goal

pub returns : goal.returns
returns c =
    let r = c.args.registration in
    let es = c.self.inside.listed in
    c.contains.ensures ∙ ap (has_number (keys_in es)) c.from.ensures ∙ is_listed r es ∙ ap (is_listening r) c.self.view_is
