-- How a call around the page that hands its lines on ended, as a step of the model's page.
use Rattle.std.proofs.Common.{◌≡◌, List, Option, Some, None, ap, ◌∙◌, subst}
use Rattle.page_types.specs.Values.{Value}
use Rattle.lang_meaning.specs.Machine.{Machine, Done, Gives, Throws, Returns, OutOfFuel, hosted, done_hosted}
use Rattle.lang_meaning.specs.Asks.{host_after}
use Rattle.page_model.specs.State.{Page, State}
use Rattle.page_model.specs.Folds.{Fold}
use Rattle.page_model.specs.Hosted.{EndsSame}
use Rattle.page_model.specs.PageHost.{Hosting}
use Rattle.trace_text.specs.declared.lines.NoLine.{NoLine}
use Rattle.trace_text.specs.Line.{Line}
use Rattle.trace_text.specs.Given.{Keeping, Seen, after_all, StopsAmong}
use Rattle.trace_text.specs.Acts.{At}
use Rattle.page_script.specs.PageActs.{bare, lines_of}
use Rattle.page_rules.specs.Lined.{Lined}
use Rattle.page_rules.specs.Ends.{with_lines, EndsLined}
use Rattle.page_host.specs.StateActs.{How, Gave, Threw, RanOut, ended, events_after, Steps, page_in, Unharmed, Harmed}

abbrev value_or : {H : Type 0} → Value → Done H → Value
value_or other (Gives v m) = v
value_or other (Throws v m) = v
value_or other (Returns v m) = v
value_or other (OutOfFuel m) = other

abbrev machine_in : {H : Type 0} → Done H → Machine H
machine_in (Gives v m) = m
machine_in (Throws v m) = m
machine_in (Returns v m) = m
machine_in (OutOfFuel m) = m

module _ {T : Type 0} (k : Keeping T) (told : Option T) (stopped : Option NoLine) (folds : List Fold) where
  -- what is known of an end
  pub record Ended (d : Done Page) (how : How) (m : Machine (Lined T)) : Type 0 where
    pub state : ended how (hosted page_in m) ≡ done_hosted bare d
    pub told_then : m.host.told ≡ after_all k told (lines_of (events_after d))

  pub ended-gives : (v : Value) (m : Machine (Lined T)) (d : Done Page) → EndsLined k told stopped folds d (Gives v m) → Ended d (Gave v) m
  ended-gives v m (Gives w n) e =
      let same : m ≡ with_lines k told stopped folds n = ap machine_in e in
      record { state = ap (λ x. Gives x (hosted page_in m)) (ap (value_or v) e) ∙ ap (λ x. Gives w (hosted page_in x)) same; told_then = ap (λ x. x.host.told) same }
  ended-gives v m (Throws w n) e = absurd (cc)
  ended-gives v m (Returns w n) e = absurd (cc)
  ended-gives v m (OutOfFuel n) e = absurd (let h = e.1 in cc)

  pub ended-throws : (v : Value) (m : Machine (Lined T)) (d : Done Page) → EndsLined k told stopped folds d (Throws v m) → Ended d (Threw v) m
  ended-throws v m (Gives w n) e = absurd (cc)
  ended-throws v m (Throws w n) e =
      let same : m ≡ with_lines k told stopped folds n = ap machine_in e in
      record { state = ap (λ x. Throws x (hosted page_in m)) (ap (value_or v) e) ∙ ap (λ x. Throws w (hosted page_in x)) same; told_then = ap (λ x. x.host.told) same }
  ended-throws v m (Returns w n) e = absurd (cc)
  ended-throws v m (OutOfFuel n) e = absurd (let h = e.1 in cc)

  pub ended-out : (m : Machine (Lined T)) (d : Done Page) → EndsLined k told stopped folds d (OutOfFuel m) → Ended d RanOut m
  ended-out m (Gives w n) e = absurd (cc)
  ended-out m (Throws w n) e = absurd (cc)
  ended-out m (Returns w n) e = absurd (cc)
  ended-out m (OutOfFuel n) e =
      let same : m ≡ with_lines k told stopped e.0 n = ap machine_in e.1 in
      record { state = ap (λ x. OutOfFuel (hosted page_in x)) same; told_then = ap (λ x. x.host.told) same }

-- the lines of the whole call are those of the model's
pub whole-is : (folds : List Fold) (d : Done Page) (x : Done Hosting) → EndsSame folds d x → (host_after x).page.events ≡ events_after d
whole-is folds (Gives v m) x e = ap (λ (y : Done Hosting). (host_after y).page.events) e
whole-is folds (Throws v m) x e = ap (λ (y : Done Hosting). (host_after y).page.events) e
whole-is folds (Returns v m) x e = ap (λ (y : Done Hosting). (host_after y).page.events) e
whole-is folds (OutOfFuel m) x e = ap (λ (y : Done Hosting). (host_after y).page.events) e.1

-- an end as a step, where no line was at fault
pub Steps-ended : {T : Type 0} {k : Keeping T} (stopped : Option NoLine) (folds : List Fold) (step : State → Done Page) (old : At State T) (how : How) (m : Machine (Lined T)) (after : Seen T)
    → Ended k old.seen.told stopped folds (step (hosted bare old.state)) how m → after.told ≡ m.host.told → Unharmed old.seen after
    → Steps k old step None how (record { state = hosted page_in m; seen = after })
Steps-ended stopped folds step old how m after e told u = record {
  lines = record { told = (told ∙ e.told_then, u.is_told); later = u.later; failed = λ w. absurd (cc); differs = u.refusals };
  state = λ w. e.state;
}

-- a call that stopped among the lines of the model's
pub Steps-stopped : {T : Type 0} {k : Keeping T} (step : State → Done Page) (old : At State T) (why : NoLine) (how : How) (new : At State T) (whole : List Line)
    → whole ≡ lines_of (events_after (step (hosted bare old.state))) → StopsAmong k why old.seen.told whole new.seen.told → Harmed why old.seen new.seen
    → Steps k old step (Some why) how new
Steps-stopped {k = k} step old why how new whole is among h = record {
  lines = record { told = subst (λ ls. StopsAmong k why old.seen.told ls new.seen.told) is among; later = h.later; failed = h.failed; differs = h.refusals };
  state = λ w. absurd (cc);
}
