-- The open calls of a page are those that its lines tell.
use Rattle.std.proofs.Common.{◌≡◌, ℕ, true, List, [], ◌∷◌, refl, sym, ap, ◌∙◌}
use Rattle.lang_meaning.specs.Evaluation as Evaluation
use Rattle.page_types.specs.Events.{Event, Ret, Throw}
use Rattle.page_model.specs.State.{Page}
use Rattle.page_laws.specs.History.{without_first, open_after, open_registrations}
use Rattle.page_laws.specs.Moves.{is_end, called_by, Moves, here, changing, arming, calling, ending, flagging, running, framing, idling}
use Rattle.page_laws.proofs.Lines.{change-same, change-calls, begins-same, begins-calls}

abbrev Fits : Page → Type 0
Fits p = p.calls ≡ open_registrations p.events

-- the innermost call leaves in the page as in the lines
left-first : (calls : List ℕ) → Evaluation.without_first calls ≡ without_first calls
left-first [] = refl
left-first (r ∷ calls) = refl

ends : (e : Event) → is_end e ≡ true → (calls : List ℕ) → open_after e calls ≡ without_first calls
ends Ret h calls = refl
ends (Throw bs) h calls = refl
ends e h calls = Prim.cc

moves-fit : {p q : Page} → Moves p q → Fits p → Fits q
moves-fit here f = f
moves-fit (changing a c plain) f = change-calls c ∙ (moves-fit a f ∙ sym (change-same c).0)
moves-fit (arming a c e w) f = change-calls e ∙ ((change-calls c ∙ (moves-fit a f ∙ sym (change-same c).0)) ∙ sym (change-same e).0)
moves-fit (calling {q = q} a b w i) f = ap (called_by b ∷◌) (begins-calls b q ∙ (moves-fit a f ∙ sym (begins-same b q).0))
moves-fit (ending {q = q} a e h) f = ap Evaluation.without_first (moves-fit a f) ∙ (left-first (open_registrations q.events) ∙ sym (ends e h (open_registrations q.events)))
moves-fit (flagging a x y z w u v t j) f = v ∙ (moves-fit a f ∙ sym (ap open_registrations y))
moves-fit (running a j others x y nm) f = moves-fit a f
moves-fit (framing a t) f = moves-fit a f
moves-fit (idling a none) f = moves-fit a f

-- from a page with no open call and no lines on
pub calls_told : {p q : Page} → Moves p q → p.calls ≡ [] → p.events ≡ [] → q.calls ≡ open_registrations q.events
calls_told a x y = moves-fit a (x ∙ sym (ap open_registrations y))
