-- Steps behind which nothing comes, since fuel ended.
use Rattle.std.proofs.Common.{◌≡◌, refl, sym, ◌∙◌, ap, subst, Option, None}
use Rattle.lang_meaning.specs.Machine.{hosted, done_hosted, Done, Gives, Throws, Returns, OutOfFuel}
use Rattle.page_model.specs.State.{Page, State}
use Rattle.trace_text.specs.declared.lines.NoLine.{NoLine}
use Rattle.trace_text.specs.Given.{Keeping, Gives as TakesLines}
use Rattle.trace_text.specs.Acts.{At}
use Rattle.page_script.specs.PageActs.{bare, lines_of}
use Rattle.page_host.specs.StateActs.{How, RanOut, events_after, Steps}

-- a step that is the same at this state
Steps-is : {T : Type 0} {k : Keeping T} (old : At State T) {new : At State T} (step step' : State → Done Page) {why : Option NoLine} {how : How}
    → step (hosted bare old.state) ≡ step' (hosted bare old.state) → Steps k old step why how new → Steps k old step' why how new
Steps-is {k = k} old {new = new} step step' {why = why} e h = record {
  lines = let P : Done Page → Type 0 = λ d. TakesLines k old.seen (lines_of (events_after d)) why new.seen in subst P e h.lines;
  state = λ w. h.state w ∙ ap (done_hosted bare) e;
}

no_more : (c : Done Page → Done Page) → ((n : State) → c (OutOfFuel n) ≡ OutOfFuel n) → (d : Done Page) (s : State) → OutOfFuel s ≡ done_hosted bare d → d ≡ c d
no_more c stays (Gives v m) s e = absurd (cc)
no_more c stays (Throws v m) s e = absurd (cc)
no_more c stays (Returns v m) s e = absurd (cc)
no_more c stays (OutOfFuel m) s e = sym (stays m)

-- where fuel ended, nothing comes behind
pub Steps-dry : {T : Type 0} {k : Keeping T} (old : At State T) {new : At State T} (step : State → Done Page) (c : Done Page → Done Page) → ((n : State) → c (OutOfFuel n) ≡ OutOfFuel n)
    → Steps k old step None RanOut new → Steps k old (λ m. c (step m)) None RanOut new
Steps-dry old {new = new} step c stays h = Steps-is old step (λ m. c (step m)) (no_more c stays (step (hosted bare old.state)) new.state (h.state refl)) h
