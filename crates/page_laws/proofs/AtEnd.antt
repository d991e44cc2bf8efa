-- A test of the lines before a run's end, where it ends for nothing is left to do: it holds where it holds of each page at its end.
use Rattle.std.proofs.Common.{◌≡◌, ℕ, Bool, true, List, [], refl, sym, subst}
use Rattle.std.specs.Prelude.{◌==◌}
use Rattle.page_types.specs.declared.End.TheVariants.{Done}
use Rattle.page_types.specs.declared.RegKind.TheVariants as kind
use Rattle.page_types.specs.Events.{Event, EndLine}
use Rattle.page_parts.specs.Promises.{Reaction, the_promise}
use Rattle.page_parts.specs.Promises as Promises
use Rattle.page_parts.specs.Words.{without}
use Rattle.page_parts.specs.Notices.{Notices, Noticed, changed, subscribe_promise, queue_micro, Context}
use Rattle.page_model.specs.Invoke.{register_as}
use Rattle.page_model.specs.State.{Page, on_notices, context}
use Rattle.page_model.specs.Numbers.{Each}
use Rattle.page_laws.specs.History.{History}
use Rattle.page_laws.specs.SchedulerLaws.{at_done}
use Rattle.page_laws.specs.Moves.{IsAtEnd, Tells, frame_asked, is_aside, is_end, promise_changes, PageChange, elsewhere, told, arm_told, rested, registered, promised, settled, followed, adopted, subscribed, micro_asked, then_asked, answered, dropped, frame_dropped, rejected_taken, noted, Beginning, TheScript, ATimer, AFrame, AnIdle, ALateIdle, AListener, APost, AContinuation, AMicro, AReaction, taken, Moves, here, changing, arming, calling, ending, flagging, running, framing, idling, task_dropped, enqueued_anew, fell_due, post_fell_due, prio_told}
use Rattle.page_laws.proofs.Framed.{false_true}
use Rattle.page_laws.proofs.Lines.{changed-each, emit_each-events}
use Rattle.page_laws.proofs.Scans.{Test, Kept, kept-added}

module _ (goal : History → Bool) where
  abbrev pub done_test : Test
  done_test past e = at_done goal past e.event

  -- a line that passes whatever stands before it
  abbrev Passes : Event → Type 0
  Passes e = (older : History) → at_done goal older e ≡ true

  aside-passes : (e : Event) → is_aside e ≡ true → Passes e
  aside-passes (EndLine Done) h older = absurd (false_true h)
  aside-passes e h older = refl

  end-passes : (e : Event) → is_end e ≡ true → Passes e
  end-passes (EndLine Done) h older = absurd (false_true h)
  end-passes e h older = refl

  rest-passes : (e : Event) (past : History) → (e ≡ EndLine Done → goal past ≡ true) → at_done goal past e ≡ true
  rest-passes (EndLine Done) past h = h refl
  rest-passes e past h = refl

  changed-passes : (current : Context) (names : List (List ℕ)) (n : ℕ) (c : Promises.Change) (s : Notices) → Each Passes (changed current names n c s).lines
  changed-passes = changed-each Passes (λ n ok bs. λ older. refl) (λ j what. λ older. refl)

  notices-kept : (f : Notices → Noticed) (p : Page) → Each Passes (f p.notices).lines → Kept done_test p.events → Kept done_test (on_notices f p).events
  notices-kept f p h k =
      subst (Kept done_test) (sym (emit_each-events (f p.notices).lines (record p { notices = (f p.notices).notices })))
      (kept-added done_test p.now (f p.notices).lines p.events h k)

  changes-kept : (n : ℕ) (c : Promises.Change) (p : Page) → Kept done_test p.events → Kept done_test (promise_changes n c p).events
  changes-kept n c p k = notices-kept (λ s. changed (context p) p.names n c s) p (changed-passes (context p) p.names n c p.notices) k

  subscribed-kept : (n : ℕ) (r : Reaction) (p : Page) → Kept done_test p.events → Kept done_test (on_notices (subscribe_promise (context p) n r) p).events
  subscribed-kept n r p k =
      notices-kept (subscribe_promise (context p) n r) p
      (changed-passes (context p) [] n (Promises.subscribe n (the_promise p.notices.promises n) r) (record p.notices { rejected = without (λ m. m == n) p.notices.rejected; outstanding = without (λ m. m == n) p.notices.outstanding })) k

  change-kept : {p q : Page} → PageChange p q → (IsAtEnd p → p.notices.jobs ≡ [] → goal p.events ≡ true) → Kept done_test p.events → Kept done_test q.events
  change-kept (elsewhere c b within) end k = subst (Kept done_test) (sym b.events) k
  change-kept {p = p} (told e h) end k = (aside-passes e h p.events, k)
  change-kept (arm_told r due level w well) end k = (refl, k)
  change-kept {p = p} (rested e h x y z over begun done) end k = (rest-passes e p.events (λ z. end (done z) y), k)
  change-kept (answered source task t answer x y live z b) end k = subst (Kept done_test) (sym b.events) (refl, k)
  change-kept (registered kind x e unframed u b at) end k = subst (Kept done_test) (sym b.events) (refl, k)
  change-kept (dropped r d b) end k = subst (Kept done_test) (sym b.events) (refl, k)
  change-kept (task_dropped r role a e s b) end k = subst (Kept done_test) (sym b.events) (refl, k)
  change-kept (enqueued_anew kind x t queue e i s n b) end k = subst (Kept done_test) (sym b.events) (refl, (refl, k))
  change-kept (fell_due r d b by) end k = subst (Kept done_test) (sym b.events) (refl, k)
  change-kept (post_fell_due start source t queue e role a s n b by) end k = subst (Kept done_test) (sym b.events) (refl, (refl, k))
  change-kept (prio_told s priority ps c) end k = (refl, k)
  change-kept (frame_dropped handle c e role) end k = (refl, k)
  change-kept (frame_asked f) end k = (refl, k)
  change-kept promised end k = k
  change-kept {p = p} (settled n how x y) end k = changes-kept n (Promises.settle n (the_promise p.notices.promises n) how) p k
  change-kept {p = p} (followed n how x y) end k = changes-kept n (Promises.settle n (the_promise p.notices.promises n) how) p k
  change-kept {p = p} (adopted n from x y) end k = changes-kept n (Promises.adopt n (the_promise p.notices.promises n) from) p k
  change-kept {p = p} (subscribed n r x y) end k = subscribed-kept n r p k
  change-kept {p = p} (then_asked n x r e g y) end k = subscribed-kept n r (register_as kind.Then x p) (refl, k)
  change-kept {p = p} (micro_asked x r e y) end k = notices-kept (queue_micro (context p) r) (register_as kind.Micro x p) (λ older. refl, tt) (refl, k)
  change-kept rejected_taken end k = k
  change-kept (noted n) end k = k

  begins-kept : (b : Beginning) (p : Page) → Kept done_test p.events → Kept done_test (taken b p).events
  begins-kept (TheScript source task) p k = k
  begins-kept (ATimer source task t) p k = k
  begins-kept (AFrame key c) p k = k
  begins-kept (AnIdle c others) p k = (refl, k)
  begins-kept (ALateIdle handle c) p k = k
  begins-kept (AListener r) p k = k
  begins-kept (APost t) p k = (refl, k)
  begins-kept (AContinuation t) p k = (refl, k)
  begins-kept (AMicro job others r) p k = (refl, k)
  begins-kept (AReaction job others of x r) p k = (refl, k)

  -- the line of what was armed
  arm-kept : {p q s : Page} (c : PageChange p q) (d : PageChange q s) → Tells c d → Kept done_test q.events → Kept done_test s.events
  arm-kept (registered kind x e unframed u b at) (arm_told r due level w well) h k = (refl, k)
  arm-kept (elsewhere c b within) (arm_told r due level w well) h k = (refl, k)
  arm-kept c d h k = elim h [ ]

  pub moves-kept : {p q : Page} → Moves p q → ((r : Page) → Moves p r → IsAtEnd r → r.notices.jobs ≡ [] → goal r.events ≡ true) → Kept done_test p.events → Kept done_test q.events
  moves-kept here h k = k
  moves-kept (changing {q = q} a c plain) h k = change-kept c (h q a) (moves-kept a h k)
  moves-kept (arming {q = q} {r = r} a c d w) h k = arm-kept c d w (change-kept c (h q a) (moves-kept a h k))
  moves-kept (calling {q = q} a b w i) h k = (refl, begins-kept b q (moves-kept a h k))
  moves-kept (ending {q = q} a e h') h k = (end-passes e h' q.events, moves-kept a h k)
  moves-kept (flagging a x y z w u v t j) h k = subst (Kept done_test) (sym y) (moves-kept a h k)
  moves-kept (running a j others x y nm) h k = (refl, moves-kept a h k)
  moves-kept (framing a t) h k = (refl, moves-kept a h k)
  moves-kept (idling a none) h k = moves-kept a h k
