-- Functions of the whole page that are done one after another.
use Rattle.std.proofs.Common.{◌≡◌, ◌∷◌, [], refl, sym, ◌∙◌, ap, Option, Some, None, Result}
use Rattle.std.specs.Result.{IsErrAnd, result_err}
use Rattle.page_types.specs.Events.{Event}
use Rattle.page_model.specs.State.{Page, emit}
use Rattle.page_model.specs.Additions.{after}
use Rattle.trace_text.specs.Line.{Of}
use Rattle.trace_text.specs.declared.lines.NoLine.{NoLine}
use Rattle.trace_text.specs.Given.{Keeping, Seen, Gives}
use Rattle.trace_text.specs.Acts.{At, Does, seq}
use Rattle.trace_text.proofs.Giving.{Gives-none}
use Rattle.trace_text.proofs.Doing.{Does-then, Does-exit}
use Rattle.page_script.specs.PageActs.{bare, lines_of, act, OnlyAdds}
use Rattle.page_script.proofs.Lifting.{lines_of-append, Does-same}

pub act-then : (f g : Page → Page) → OnlyAdds g → (p : Page) → act (λ p. g (f p)) p ≡ seq (act f) (act g) p
unfolding act seq
act-then f g only p =
    let q = f (bare p) in
    let e : g q ≡ after q.events (g (bare q)) = only q.events (bare q) in
    ap (λ r. record { state = bare r; lines = lines_of r.events }) e
    ∙ ap (λ ls. record { state = bare (g (bare q)); lines = ls }) (lines_of-append (g (bare q)).events q.events)

-- a function that was done, and then another, which may stop
pub Does-next : {T : Type 0} {k : Keeping T} {old mid new : At Page T} (f g : Page → Page) {why : Option NoLine} → OnlyAdds g
    → Does k old (act f) None mid → Does k mid (act g) why new → Does k old (act (λ p. g (f p))) why new
Does-next {old = old} f g only h rest = Does-same (seq (act f) (act g)) (act (λ p. g (f p))) (sym (act-then f g only old.state)) (Does-then h rest)

-- the exit of a `?` behind the first one
pub Does-leave : {T X : Type 0} {k : Keeping T} {old new : At Page T} (f g : Page → Page) (r : Result X NoLine) {why : NoLine} → OnlyAdds g
    → IsErrAnd r (λ e. e ≡ why) → Does k old (act f) (Some why) new → Does k old (act (λ p. g (f p))) (result_err r) new
Does-leave {old = old} f g r only is h = Does-same (seq (act f) (act g)) (act (λ p. g (f p))) (sym (act-then f g only old.state)) (Does-exit (act g) r is h)

-- the function that the page asks for
pub Does-asked : {T : Type 0} {k : Keeping T} (choose : Page → Page → Page) (old : At Page T) {new : At Page T} {why : Option NoLine}
    → Does k old (act (choose (bare old.state))) why new → Does k old (act (λ p. choose p p)) why new
unfolding act
Does-asked choose old h = record { lines = h.lines; state = h.state }

-- one line
pub Does-emit : {T : Type 0} {k : Keeping T} (e : Event) (p : Page) {why : Option NoLine} {old new : Seen T} → Gives k old (Of (record { time = p.now; event = e }) ∷ []) why new
    → Does k (record { state = bare p; seen = old }) (act (emit e)) why (record { state = bare p; seen = new })
unfolding act
Does-emit e p h = record { lines = h; state = λ _. refl }

-- nothing
pub Does-idle : {T : Type 0} (k : Keeping T) (p : Page) (seen : Seen T) → Does k (record { state = bare p; seen = seen }) (act (λ q. q)) None (record { state = bare p; seen = seen })
unfolding act
Does-idle k p seen = record { lines = Gives-none k seen; state = λ _. refl }
