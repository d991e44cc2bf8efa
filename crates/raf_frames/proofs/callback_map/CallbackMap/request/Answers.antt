use Rattle.std.proofs.Common.{◌+◌, Some, nat_eq, ◌∙◌, add-one, subst, ap, arith}
use Rattle.std.specs.List.{IsDistinct}
use Rattle.std.specs.Map.{keys_of}
use Rattle.page_parts.specs.Frames.{Frames}
use Rattle.indexmap.proofs.CallerLemmas.{insert_entry-new}
use Rattle.raf_frames.proofs.CallbackLemmas.{next_is_new, callbacks_pushed, kept_pushed}
use Rattle.raf_frames.proofs.callback_map.CallbackMap.request.Goals as goal

pub overflow_add-self : goal.overflow_add-self
overflow_add-self c = let made = ap (λ (f : Frames). f.made) c.self.view_is in omega (arith, c.self.invariant.bounded, made, c.requires)

pub invariant_of-self-2 : goal.invariant_of-self-2
invariant_of-self-2 c =
    let last = c.self.inside.last_handle in
    let es = c.self.inside.callbacks.entries in
    let new = c.in_ok-insert.ensures.entries ∙ insert_entry-new nat_eq c.self.inside.callbacks (last + 1) (Some c.args.registration) (next_is_new last _ es c.self.invariant) in
    let distinct = subst (λ es. IsDistinct nat_eq (keys_of es)) new c.in_ok-insert.ensures.unique in
    rw new (kept_pushed last c.self.inside.waiting c.args.registration es c.self.invariant distinct)

pub returns-clause-stored : goal.returns-clause-stored
returns-clause-stored c =
    let last = c.self.inside.last_handle in
    let es = c.self.inside.callbacks.entries in
    let new = c.in_ok-insert.ensures.entries ∙ insert_entry-new nat_eq c.self.inside.callbacks (last + 1) (Some c.args.registration) (next_is_new last _ es c.self.invariant) in
    let pushed = callbacks_pushed (last + 1) c.args.registration es in
    rw (← c.self.view_is, new, pushed, add-one)
