-- Calls on the notices one after another, with the lines of each on the page.
use Rattle.std.proofs.Common.{◌≡◌, List, [], ◌∷◌, ◌++◌, refl, sym, ap, ◌∙◌}
use Rattle.page_types.specs.Events.{Event}
use Rattle.page_parts.specs.Notices.{Notices, Noticed, followed_by}
use Rattle.page_model.specs.State.{Page, emit, emit_each, on_notices}

emit_each-then : (xs ys : List Event) (p : Page) → emit_each (xs ++ ys) p ≡ emit_each ys (emit_each xs p)
emit_each-then [] ys p = refl
emit_each-then (x ∷ xs) ys p = emit_each-then xs ys (emit x p)

emit_each-notices : (xs : List Event) (p : Page) → (emit_each xs p).notices ≡ p.notices
emit_each-notices [] p = refl
emit_each-notices (x ∷ xs) p = emit_each-notices xs (emit x p)

-- lines leave the notices alone, and stay where the notices change
emit_each-with : (xs : List Event) (p : Page) (s : Notices) → record (emit_each xs p) { notices = s } ≡ emit_each xs (record p { notices = s })
emit_each-with [] p s = refl
emit_each-with (x ∷ xs) p s = emit_each-with xs (emit x p) s

pub on_notices-then : (f g : Notices → Noticed) (p : Page) → on_notices (λ s. followed_by (f s) g) p ≡ on_notices g (on_notices f p)
on_notices-then f g p =
    let d = f p.notices in
    let q : Page = record p { notices = d.notices } in
    let here : Notices → Page = λ s. emit_each (g s).lines (record (emit_each d.lines q) { notices = (g s).notices }) in
    emit_each-then d.lines (g d.notices).lines (record p { notices = (g d.notices).notices })
    ∙ (ap (emit_each (g d.notices).lines) (sym (emit_each-with d.lines q (g d.notices).notices))
    ∙ ap here (sym (emit_each-notices d.lines q)))
