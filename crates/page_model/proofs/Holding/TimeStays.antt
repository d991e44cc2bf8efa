-- A test of the form: no call on promises moves the time, whatever the state.
use Rattle.std.proofs.Common.{◌≡◌, ℕ, Bool, true, false, List, [], ◌∷◌, refl, ◌∙◌, cond}
use Rattle.page_types.specs.Events.{Event}
use Rattle.page_parts.specs.Promises.{Settled, Reaction}
use Rattle.page_parts.specs.Notices.{settle_promise, subscribe_promise, is_outstanding}
use Rattle.page_model.specs.State.{Page, emit, emit_each, on_notices, context}
use Rattle.page_model.specs.PagePromises.{settle, subscribe}

now-emit_each : (es : List Event) (p : Page) → (emit_each es p).now ≡ p.now
now-emit_each [] p = refl
now-emit_each (e ∷ es) p = now-emit_each es (emit e p)

now-settle : (n : ℕ) (how : Settled) (p : Page) → (settle n how p).now ≡ p.now
now-settle n how p = now-emit_each (settle_promise (context p) p.names n how p.notices).lines _

now-cond : (b : Bool) (f g : Page → Page) (p : Page) → (f p).now ≡ p.now → (g p).now ≡ p.now → (cond b f g p).now ≡ p.now
now-cond true f g p h k = h
now-cond false f g p h k = k

now-subscribe : (n : ℕ) (r : Reaction) (p : Page) → (subscribe n r p).now ≡ p.now
now-subscribe n r p =
    now-cond (is_outstanding n p.notices) _ (λ q. q) (on_notices (subscribe_promise (context p) n r) p) refl refl ∙ now-emit_each (subscribe_promise (context p) n r p.notices).lines _
