-- No job is run inside a call.
use Rattle.std.proofs.Common.{◌≡◌, ℕ, true, List, [], refl, sym, subst, ap}
use Rattle.page_types.specs.declared.RegKind.TheVariants as kind
use Rattle.page_model.specs.Invoke.{register_as}
use Rattle.page_types.specs.Events.{Event, Run}
use Rattle.page_parts.specs.Promises.{Reaction}
use Rattle.page_parts.specs.Promises as Promises
use Rattle.page_parts.specs.Words.{without}
use Rattle.std.specs.Prelude.{◌==◌}
use Rattle.page_parts.specs.Notices.{Notices, Noticed, changed, subscribe_promise, queue_micro, Context}
use Rattle.page_parts.specs.Promises.{the_promise}
use Rattle.page_model.specs.State.{Page, on_notices, context}
use Rattle.page_model.specs.Numbers.{Each}
use Rattle.page_laws.specs.History.{History, is_rest}
use Rattle.page_laws.specs.CallLaws.{keeps_nesting, is_nil}
use Rattle.page_laws.specs.Moves.{frame_asked, is_aside, is_end, promise_changes, PageChange, elsewhere, told, arm_told, rested, registered, promised, settled, followed, adopted, subscribed, micro_asked, then_asked, answered, dropped, frame_dropped, rejected_taken, noted, Beginning, TheScript, ATimer, AFrame, AnIdle, ALateIdle, AListener, APost, AContinuation, AMicro, AReaction, taken, Waited, Moves, here, changing, arming, calling, ending, flagging, running, framing, idling, task_dropped, enqueued_anew, fell_due, post_fell_due, prio_told}
use Rattle.page_laws.proofs.Lines.{changed-each, emit_each-events}
use Rattle.page_laws.proofs.Scans.{Test, Kept, kept-added}

abbrev pub nesting : Test
nesting past e = keeps_nesting past e.event

-- a line that passes whatever stands before it
abbrev Passes : Event → Type 0
Passes e = (older : History) → keeps_nesting older e ≡ true

aside-passes : (e : Event) → is_aside e ≡ true → Passes e
aside-passes (Run j) h older = Prim.cc
aside-passes e h older = refl

rest-passes : (e : Event) → is_rest e ≡ true → Passes e
rest-passes (Run j) h older = Prim.cc
rest-passes e h older = refl

end-passes : (e : Event) → is_end e ≡ true → Passes e
end-passes (Run j) h older = Prim.cc
end-passes e h older = refl

changed-passes : (current : Context) (names : List (List ℕ)) (n : ℕ) (c : Promises.Change) (s : Notices) → Each Passes (changed current names n c s).lines
changed-passes = changed-each Passes (λ n ok bs. λ older. refl) (λ j what. λ older. refl)

notices-kept : (f : Notices → Noticed) (p : Page) → Each Passes (f p.notices).lines → Kept nesting p.events → Kept nesting (on_notices f p).events
notices-kept f p h k =
    subst (Kept nesting) (sym (emit_each-events (f p.notices).lines (record p { notices = (f p.notices).notices })))
    (kept-added nesting p.now (f p.notices).lines p.events h k)

changes-kept : (n : ℕ) (c : Promises.Change) (p : Page) → Kept nesting p.events → Kept nesting (promise_changes n c p).events
changes-kept n c p k = notices-kept (λ s. changed (context p) p.names n c s) p (changed-passes (context p) p.names n c p.notices) k

subscribed-kept : (n : ℕ) (r : Reaction) (p : Page) → Kept nesting p.events → Kept nesting (on_notices (subscribe_promise (context p) n r) p).events
subscribed-kept n r p k =
    notices-kept (subscribe_promise (context p) n r) p
    (changed-passes (context p) [] n (Promises.subscribe n (the_promise p.notices.promises n) r) (record p.notices { rejected = without (λ m. m == n) p.notices.rejected; outstanding = without (λ m. m == n) p.notices.outstanding })) k

change-kept : {p q : Page} → PageChange p q → Kept nesting p.events → Kept nesting q.events
change-kept (elsewhere c b within) k = subst (Kept nesting) (sym b.events) k
change-kept {p = p} (told e h) k = (aside-passes e h p.events, k)
change-kept (arm_told r due level w well) k = (refl, k)
change-kept {p = p} (rested e h x y z over begun done) k = (rest-passes e h p.events, k)
change-kept (answered source task t answer x y live z b) k = subst (Kept nesting) (sym b.events) (refl, k)
change-kept (registered kind x e unframed u b at) k = subst (Kept nesting) (sym b.events) (refl, k)
change-kept (dropped r d b) k = subst (Kept nesting) (sym b.events) (refl, k)
change-kept (task_dropped r role a e s b) k = subst (Kept nesting) (sym b.events) (refl, k)
change-kept (enqueued_anew kind x t queue e i s n b) k = subst (Kept nesting) (sym b.events) (refl, (refl, k))
change-kept (fell_due r d b by) k = subst (Kept nesting) (sym b.events) (refl, k)
change-kept (post_fell_due start source t queue e role a s n b by) k = subst (Kept nesting) (sym b.events) (refl, (refl, k))
change-kept (prio_told s priority ps c) k = (refl, k)
change-kept (frame_dropped handle c e role) k = (refl, k)
change-kept (frame_asked f) k = (refl, k)
change-kept promised k = k
change-kept {p = p} (settled n how x y) k = changes-kept n (Promises.settle n (the_promise p.notices.promises n) how) p k
change-kept {p = p} (followed n how x y) k = changes-kept n (Promises.settle n (the_promise p.notices.promises n) how) p k
change-kept {p = p} (adopted n from x y) k = changes-kept n (Promises.adopt n (the_promise p.notices.promises n) from) p k
change-kept {p = p} (subscribed n r x y) k = subscribed-kept n r p k
change-kept {p = p} (then_asked n x r e g y) k = subscribed-kept n r (register_as kind.Then x p) (refl, k)
change-kept {p = p} (micro_asked x r e y) k = notices-kept (queue_micro (context p) r) (register_as kind.Micro x p) (λ older. refl, tt) (refl, k)
change-kept rejected_taken k = k
change-kept (noted n) k = k

begins-kept : (b : Beginning) (p : Page) → Waited b p → Kept nesting p.events → Kept nesting (taken b p).events
begins-kept (TheScript source task) p w k = k
begins-kept (ATimer source task t) p w k = k
begins-kept (AFrame key c) p w k = k
begins-kept (AnIdle c others) p w k = (refl, k)
begins-kept (ALateIdle handle c) p w k = k
begins-kept (AListener r) p w k = k
begins-kept (APost t) p w k = (refl, k)
begins-kept (AContinuation t) p w k = (refl, k)
begins-kept (AMicro job others r) p w k = (ap is_nil w.2, k)
begins-kept (AReaction job others of x r) p w k = (ap is_nil w.3, k)

pub moves-kept : {p q : Page} → Moves p q → Kept nesting p.events → Kept nesting q.events
moves-kept here k = k
moves-kept (changing a c plain) k = change-kept c (moves-kept a k)
moves-kept (arming a c d w) k = change-kept d (change-kept c (moves-kept a k))
moves-kept (calling {q = q} a b w i) k = (refl, begins-kept b q w (moves-kept a k))
moves-kept (ending {q = q} a e h) k = (end-passes e h q.events, moves-kept a k)
moves-kept (flagging a x y z w u v t j) k = subst (Kept nesting) (sym y) (moves-kept a k)
moves-kept (running {q = q} a j others x y nm) k = (ap is_nil y, moves-kept a k)
moves-kept (framing a t) k = (refl, moves-kept a k)
moves-kept (idling a none) k = moves-kept a k
