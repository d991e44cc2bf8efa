use Rattle.std.proofs.Common.{ℕ, ◌<◌, ◌≤◌, length, Option, ap, sym, subst, ◌∙◌}
use Rattle.std.specs.Prelude.{IfSome}
use Rattle.page_script.specs.Script.{Script}
use Rattle.page_script.specs.TimerIds.{first_with_id}
use Rattle.page_script.proofs.TimerIdLemmas.{first_made}
use Rattle.page_script.proofs.script.PageScript.registration_with_timer_id.Goals as goal

pub returns-clause-made : goal.returns-clause-made
returns-clause-made c =
    subst (λ (o : Option ℕ). IfSome o (λ r. (0 < r) × (r ≤ length c.args.self.now.registrations)))
    (sym (c.first_with_id.ensures ∙ ap (λ (s : Script). first_with_id c.args.id s.registrations) c.self.view_is))
    (first_made c.args.id c.args.self.now.registrations)
