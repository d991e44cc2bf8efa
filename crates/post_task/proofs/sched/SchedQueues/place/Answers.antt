use Rattle.std.proofs.Common.{ℕ, List, Some, refl, sym, ◌∙◌, ap, subst}
use Rattle.post_task.specs.declared.level.Level.{Level}
use Rattle.post_task.specs.declared.level.PrioSource.{PrioSource}
use Rattle.post_task.specs.declared.level.PrioSource.TheVariants.{Fixed}
use Rattle.post_task.specs.Levels.{Sched, ArePlaced, place_of}
use Rattle.post_task.proofs.Places.{fixed_place}
use Rattle.post_task.proofs.sched.SchedQueues.place.Goals as goal

pub returns-in-Fixed : goal.returns-in-Fixed
returns-in-Fixed g c =
    let levels = c.args.self.now.levels in
    let p = c.in-Fixed.priority in
    let P : List Level → Type 0 = λ ls. ArePlaced ls c.self.inside.signals in
    let a : ArePlaced levels c.self.inside.signals = subst P (ap (λ (s : Sched). s.levels) c.self.view_is) c.self.invariant.1 in
    ap (λ (n : ℕ). Some n) c.rank.ensures ∙ sym (fixed_place levels c.self.inside.signals p a (c.requires p) (place_of levels (Fixed p)) refl) ∙ ap (λ (x : PrioSource). place_of levels x) (sym c.in-Fixed.is)
