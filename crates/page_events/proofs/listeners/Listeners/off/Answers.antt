use Rattle.std.proofs.Common.{ap, ◌∙◌}
use Rattle.page_parts.specs.Listeners.{is_listening, off}
use Rattle.page_events.specs.Seen.{listeners_of}
use Rattle.page_events.proofs.IndexLemmas.{is_listed, seen_others}
use Rattle.page_events.proofs.listeners.Listeners.off.Goals as goal

pub returns-clause-was : goal.returns-clause-was
returns-clause-was c =
    let r = c.args.registration in
    c.take_out.ensures.was ∙ is_listed r c.self.inside.listed ∙ ap (is_listening r) c.self.view_is

pub returns-clause-gone : goal.returns-clause-gone
returns-clause-gone c =
    let r = c.args.registration in
    ap listeners_of c.take_out.ensures.gone ∙ seen_others r c.self.inside.listed ∙ ap (off r) c.self.view_is
