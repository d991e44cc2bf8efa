use Rattle.std.proofs.Common.{ap, ◌∙◌}
use Rattle.page_parts.specs.Listeners.{is_listening}
use Rattle.page_events.proofs.IndexLemmas.{is_listed}
use Rattle.page_events.proofs.listeners.Listeners.is_listening_number.Goals as goal

pub returns : goal.returns
returns c = c.contains.ensures ∙ is_listed c.args.number c.self.inside.listed ∙ ap (is_listening c.args.number) c.self.view_is
