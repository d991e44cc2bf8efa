use Rattle.std.proofs.Common.{◌≡◌, true, false, sym, ap, ◌∙◌}
use Rattle.page_parts.specs.Words.{has_number}
use Rattle.page_parts.specs.Listeners.{is_listening}
use Rattle.keyed_list.specs.Listed.{keys_in}
use Rattle.page_events.specs.Seen.{listeners_of}
use Rattle.page_events.proofs.IndexLemmas.{is_listed}
use Rattle.page_events.proofs.NextLemmas.{next_found, behind_found, next_passed, behind_passed}
use Rattle.page_events.proofs.listeners.Listeners.next.Goals as goal

pub returns-then-contains-clause-registration : goal.returns-then-contains-clause-registration
returns-then-contains-clause-registration c =
    let r = c.in-Some.registration in
    let es = c.self.inside.listed in
    let ls = listeners_of es in
    let live : is_listening r ls ≡ true = sym (is_listed r es) ∙ ap (has_number (keys_in es)) (sym c.from.ensures) ∙ sym c.contains.ensures ∙ c.if-contains.true in
    let found = sym (next_found ls r _ _ c.in-Some.ensures.items live) ∙ c.loop-registration.invariant.0 in
    rw (← c.self.view_is, ← c.dispatch.view_is) found

pub returns-then-contains-clause-left : goal.returns-then-contains-clause-left
returns-then-contains-clause-left c =
    let r = c.in-Some.registration in
    let es = c.self.inside.listed in
    let ls = listeners_of es in
    let live : is_listening r ls ≡ true = sym (is_listed r es) ∙ ap (has_number (keys_in es)) (sym c.from.ensures) ∙ sym c.contains.ensures ∙ c.if-contains.true in
    let found = sym (behind_found ls r _ _ c.in-Some.ensures.items live) ∙ c.loop-registration.invariant.1 in
    rw (← c.self.view_is, ← c.dispatch.view_is) found

pub loop-registration-preserved : goal.loop-registration-preserved
loop-registration-preserved c =
    let r = c.in-Some.registration in
    let es = c.self.inside.listed in
    let ls = listeners_of es in
    let gone : is_listening r ls ≡ false = sym (is_listed r es) ∙ ap (has_number (keys_in es)) (sym c.from.ensures) ∙ sym c.contains.ensures ∙ c.if-contains.false in (
      next_passed ls r _ _ c.in-Some.ensures.items gone ∙ c.loop-registration.invariant.0,
      behind_passed ls r _ _ c.in-Some.ensures.items gone ∙ c.loop-registration.invariant.1,
    )
