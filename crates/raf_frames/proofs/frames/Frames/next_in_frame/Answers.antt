use Rattle.std.proofs.Common.{◌∙◌, sym, ap}
use Rattle.page_parts.specs.Frames.{cancel}
use Rattle.raf_frames.specs.FrameInProgress.{after_next}
use Rattle.raf_frames.proofs.NextLemmas.{registration_in, first_found, first_passed, taken}
use Rattle.raf_frames.proofs.frames.Frames.next_in_frame.Goals as goal

pub returns-in-Some-cancel-clause-registration : goal.returns-in-Some-cancel-clause-registration
returns-in-Some-cancel-clause-registration c =
    let same = c.loop-next.invariant in
    let found = c.in-Some-cancel.ensures.registration ∙ ap (λ f. registration_in f c.in-Some.next) same.0 in
    let f = first_found c.self.inside.map.callbacks c.in-Some.next _ _ _ c.in-Some.ensures.items found in
    let first = sym same.1 ∙ f.1 in
    rw (← c.self.view_is, first, f.3)

pub returns-in-Some-cancel-clause-after : goal.returns-in-Some-cancel-clause-after
returns-in-Some-cancel-clause-after c =
    let same = c.loop-next.invariant in
    let found = c.in-Some-cancel.ensures.registration ∙ ap (λ f. registration_in f c.in-Some.next) same.0 in
    let f = first_found c.self.inside.map.callbacks c.in-Some.next _ _ _ c.in-Some.ensures.items found in
    let first = sym same.1 ∙ f.1 in
    let behind = sym same.2 ∙ f.4 in
    let gone = c.in-Some-cancel.ensures.gone ∙ ap (cancel c.in-Some.next) same.0 in
    rw gone (taken _ f.0 c.in-Some.next _ first f.2 behind ∙ ap after_next c.self.view_is)

pub loop-next-preserved : goal.loop-next-preserved
loop-next-preserved c =
    let same = c.loop-next.invariant in
    let map = c.self.inside.map in
    let none = c.in_default-cancel.ensures.registration ∙ ap (λ f. registration_in f c.in-Some.next) same.0 in
    let passed = first_passed map.callbacks c.in-Some.next _ _ c.in-Some.ensures.items none in
    let gone = c.in_default-cancel.ensures.gone ∙ ap (cancel c.in-Some.next) same.0 ∙ ap (λ cs. record map { callbacks = cs }) passed.0 in
    (gone, passed.1 ∙ same.1, passed.2 ∙ same.2)
