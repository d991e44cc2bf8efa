use Rattle.std.proofs.Common.{◌≡◌, true, false, Ok, Result, ap, subst, sym, arith}
use Rattle.lang_place.specs.Terminals.{terminal_of}
use Rattle.lang_place.specs.Counting.{Counts, counted, IsWithin}
use Rattle.lang_place.specs.Held.{Holds}
use Rattle.lang_place.specs.Place.{IsPlace}
use Rattle.lang_place.specs.Expecting.{to_read, Reads, Refuses}
use Rattle.lang_place.proofs.Progress.{progress_begins, progress_next, stops, overflows, ends}
use Rattle.lang_place.proofs.placing.place.Goals as goal

pub loop-token-init : goal.loop-token-init
loop-token-init c = (c.new-count.ensures.room, progress_begins _ _ _ _ c.new-script.ensures.next c.new-script.ensures.later c.new-count.ensures.holds)

pub returns-then-not-branch : goal.returns-then-not-branch
returns-then-not-branch c =
    let refused = c.in_ok-take.ensures.refused (ap Ok c.if-not-branch.true) in
    let bs = to_read c.loop-token.script.next c.loop-token.script.later.items in
    subst (λ z. IsPlace z c.args.tokens.now.length c.at-at.result) c.items-listed.ensures.value
    (stops c.items-listed.result.now _ c.loop-token.token-index c.token-item.result c.loop-token.script.next c.loop-token.script.later.items _ _ c.loop-token-test.true c.token-item.is c.loop-token.invariant.1 c.at-at.ensures
    (subst (λ t. Refuses bs t) c.terminal_of-terminal.ensures refused))

pub returns-then-not-branch-2 : goal.returns-then-not-branch-2
returns-then-not-branch-2 c =
    let x = c.token-item.result in
    let beyond : (k : Counts) → Holds c.loop-token.count k → IsWithin (counted k (terminal_of x) x.content) → ⊥ =
    λ k h w. c.in_ok-take-2.ensures.beyond (ap Ok c.if-not-branch-2.true) k h
    (subst (λ t. IsWithin (counted k t c.content.result.now)) (sym c.terminal_of-terminal.ensures)
    (subst (λ z. IsWithin (counted k (terminal_of x) z)) (sym c.content.ensures.content) w)) in
    subst (λ z. IsPlace z c.args.tokens.now.length c.at-at.result) c.items-listed.ensures.value
    (overflows c.items-listed.result.now _ c.loop-token.token-index x c.loop-token.script.next c.loop-token.script.later.items _ _ c.loop-token-test.true c.token-item.is c.loop-token.invariant.1 c.at-at.ensures beyond)

pub loop-token-preserved : goal.loop-token-preserved
loop-token-preserved c =
    let x = c.token-item.result in
    let bs = to_read c.loop-token.script.next c.loop-token.script.later.items in
    let new = to_read c.take.new.self.next c.take.new.self.later.items in
    let reads : Reads bs (terminal_of x) new = subst (λ t. Reads bs t new) c.terminal_of-terminal.ensures (c.in_ok-take.ensures.taken (ap Ok c.if-not-branch.false)) in
    let holds : (k : Counts) → Holds c.loop-token.count k → Holds c.take-in-loop-token.new.self (counted k (terminal_of x) x.content) =
    λ k h. subst (λ z. Holds c.take-in-loop-token.new.self (counted k (terminal_of x) z)) c.content.ensures.content
    (subst (λ t. Holds c.take-in-loop-token.new.self (counted k t c.content.result.now)) c.terminal_of-terminal.ensures (c.in_ok-take-2.ensures.holds k h)) in
    let within : (k : Counts) → Holds c.loop-token.count k → IsWithin (counted k (terminal_of x) x.content) =
    λ k h. subst (λ z. IsWithin (counted k (terminal_of x) z)) c.content.ensures.content
    (subst (λ t. IsWithin (counted k t c.content.result.now)) c.terminal_of-terminal.ensures (c.in_ok-take-2.ensures.within (ap Ok c.if-not-branch-2.false) k h)) in (
      c.in_ok-take-2.ensures.room (ap Ok c.if-not-branch-2.false),
      progress_next c.items-listed.result.now c.loop-token.token-index x bs new c.loop-token.count c.take-in-loop-token.new.self c.loop-token-test.true c.token-item.is c.loop-token.invariant.1 reads holds within,
    )

pub returns : goal.returns
returns c = subst (λ z. IsPlace z c.args.tokens.now.length c.length.result) c.items-listed.ensures.value
    (ends c.items-listed.result.now _ c.loop-token.token-index c.loop-token.script.next c.loop-token.script.later.items _ _ c.loop-token-test.false c.loop-token.invariant.1 c.length.ensures)
