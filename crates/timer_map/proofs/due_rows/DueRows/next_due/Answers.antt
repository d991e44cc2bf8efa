use Rattle.std.proofs.Common.{ℕ, ap, ◌∙◌}
use Rattle.std.specs.Option.{option_map}
use Rattle.timer_map.specs.Rows.{first_due}
use Rattle.timer_map.proofs.RowLemmas.{first_moment}
use Rattle.timer_map.proofs.due_rows.DueRows.next_due.Goals as goal

pub returns : goal.returns
returns g c =
    let e = c.in_ok-due.ensures in
    first_moment c.self.inside.rows.entries _ c.self.invariant e.first ∙ ap (λ es. option_map (λ (e : ℕ × _). e.0) (first_due es)) c.self.view_is
