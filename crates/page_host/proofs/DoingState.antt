-- Steps of the script machine one after another.
use Rattle.std.proofs.Common.{◌≡◌, List, ◌++◌, refl, sym, ◌∙◌, ap, subst, Option, Some, None}
use Rattle.page_types.specs.Values.{UnitValue}
use Rattle.page_types.specs.Events.{Stamped}
use Rattle.lang_meaning.specs.Machine.{hosted, done_hosted, Done, Gives, Throws, Returns, OutOfFuel, finish}
use Rattle.page_model.specs.State.{Page, State, on_page}
use Rattle.page_model.specs.Additions.{after}
use Rattle.trace_text.specs.declared.lines.NoLine.{NoLine}
use Rattle.trace_text.specs.Given.{Keeping, Gives as TakesLines}
use Rattle.trace_text.specs.Acts.{At, Does}
use Rattle.page_script.specs.PageActs.{bare, act, lines_of}
use Rattle.page_host.specs.StateActs.{How, Gave, Threw, Returned, RanOut, ended, events_after, Steps}
use Rattle.trace_text.proofs.Giving.{Gives-then, Gives-stop}
use Rattle.page_script.proofs.Lifting.{lines_of-append}

-- what comes behind a step only adds lines
abbrev pub ThroughAdds : (Done Page → Done Page) → Type 0
ThroughAdds c = (es : List Stamped) (d : Done Page) → c (done_hosted (after es) d) ≡ done_hosted (after es) (c d)

-- an end is its end with no events, with its events before
split : (d : Done Page) → d ≡ done_hosted (after (events_after d)) (done_hosted bare d)
split (Gives v m) = refl
split (Throws v m) = refl
split (Returns v m) = refl
split (OutOfFuel m) = refl

events-after : (es : List Stamped) (d : Done Page) → events_after (done_hosted (after es) d) ≡ events_after d ++ es
events-after es (Gives v m) = refl
events-after es (Throws v m) = refl
events-after es (Returns v m) = refl
events-after es (OutOfFuel m) = refl

bare-after : (es : List Stamped) (d : Done Page) → done_hosted bare (done_hosted (after es) d) ≡ done_hosted bare d
bare-after es (Gives v m) = refl
bare-after es (Throws v m) = refl
bare-after es (Returns v m) = refl
bare-after es (OutOfFuel m) = refl

pub bare-ended : (how : How) (m : State) → done_hosted bare (ended how m) ≡ ended how (hosted bare m)
bare-ended (Gave v) m = refl
bare-ended (Threw v) m = refl
bare-ended (Returned v) m = refl
bare-ended RanOut m = refl

through : (c : Done Page → Done Page) → ThroughAdds c → (d : Done Page) → c d ≡ done_hosted (after (events_after d)) (c (done_hosted bare d))
through c k d = ap c (split d) ∙ k (events_after d) (done_hosted bare d)

through-lines : (c : Done Page → Done Page) → ThroughAdds c → (d : Done Page) → lines_of (events_after (c d)) ≡ lines_of (events_after d) ++ lines_of (events_after (c (done_hosted bare d)))
through-lines c k d =
    ap (λ x. lines_of (events_after x)) (through c k d)
    ∙ (ap lines_of (events-after (events_after d) (c (done_hosted bare d))) ∙ lines_of-append (events_after (c (done_hosted bare d))) (events_after d))

through-bare : (c : Done Page → Done Page) → ThroughAdds c → (d : Done Page) → done_hosted bare (c d) ≡ done_hosted bare (c (done_hosted bare d))
through-bare c k d = ap (done_hosted bare) (through c k d) ∙ bare-after (events_after d) (c (done_hosted bare d))

bare-twice : (d : Done Page) → done_hosted bare (done_hosted bare d) ≡ done_hosted bare d
bare-twice (Gives v m) = refl
bare-twice (Throws v m) = refl
bare-twice (Returns v m) = refl
bare-twice (OutOfFuel m) = refl

-- where a step ended so in a state, it did also in that state with no events
ended-bare : (how : How) (m : State) (d : Done Page) → ended how m ≡ done_hosted bare d → ended how (hosted bare m) ≡ done_hosted bare d
ended-bare how m d e = sym (bare-ended how m) ∙ (ap (done_hosted bare) e ∙ bare-twice d)

-- a step that was done, and then what comes behind it, which may stop
pub Steps-then : {T : Type 0} {k : Keeping T} {old mid new : At State T} (step : State → Done Page) (c : Done Page → Done Page) {why : Option NoLine} {how how' : How} → ThroughAdds c → Steps k old step None how mid → Steps k mid (λ m. c (ended how m)) why how' new → Steps k old (λ m. c (step m)) why how' new
Steps-then {k = k} {old = old} {mid = mid} {new = new} step c {why = why} {how = how} {how' = how'} only h rest =
    let d = step (hosted bare old.state) in
    let e : ended how (hosted bare mid.state) ≡ done_hosted bare d = ended-bare how mid.state d (h.state refl) in
    record {
      lines =
          let P : List _ → Type 0 = λ ls. TakesLines k old.seen ls why new.seen in
          let Q : Done Page → Type 0 = λ x. TakesLines k mid.seen (lines_of (events_after (c x))) why new.seen in
          subst P (sym (through-lines c only d)) (Gives-then (lines_of (events_after (c (done_hosted bare d)))) h.lines (subst Q e rest.lines));
      state = λ w. rest.state w ∙ (ap (λ x. done_hosted bare (c x)) e ∙ sym (through-bare c only d));
    }

-- a step that stopped, where more would have come
pub Steps-stop : {T : Type 0} {k : Keeping T} {old new : At State T} (step : State → Done Page) (c : Done Page → Done Page) {why : NoLine} {how : How} (how' : How) → ThroughAdds c → Steps k old step (Some why) how new → Steps k old (λ m. c (step m)) (Some why) how' new
Steps-stop {k = k} {old = old} {new = new} step c {why = why} how' only h =
    let d = step (hosted bare old.state) in
    record {
      lines =
          let P : List _ → Type 0 = λ ls. TakesLines k old.seen ls (Some why) new.seen in
          subst P (sym (through-lines c only d)) (Gives-stop (lines_of (events_after (c (done_hosted bare d)))) h.lines);
      state = λ w. absurd (cc);
    }

-- a state with the page of a call on the page
abbrev pub with_page : {T : Type 0} → State → At Page T → At State T
with_page m at = record { state = record m { host = at.state }; seen = at.seen }

-- a call on the page is a step
pub Steps-page : {T : Type 0} {k : Keeping T} (m : State) (f : Page → Page) {old new : At Page T} {why : Option NoLine} → Does k old (act f) why new → Steps k (with_page m old) (λ m. finish (on_page f m)) why (Gave UnitValue) (with_page m new)
unfolding act
Steps-page m f h = record { lines = h.lines; state = λ w. ap (λ p. finish (record m { host = p })) (h.state w) }
