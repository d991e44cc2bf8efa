-- Answers by what an operation tests first, and by how it ends.
use Rattle.std.proofs.Common.{◌≡◌, ℕ, suc, Bool, true, false, [], refl, sym, ◌∙◌, ap, subst, Option, Some, None, Result, Ok, Err}
use Rattle.std.specs.Result.{IsErrAnd}
use Rattle.page_types.specs.Values as model
use Rattle.page_types.specs.Values.{UnitValue, PromiseValue, FaultValue}
use Rattle.page_types.specs.declared.FaultName.{FaultName}
use Rattle.page_types.specs.declared.FaultName.TheVariants.{TypeError, RangeError}
use Rattle.page_parts.specs.Kinds.{a_fault}
use Rattle.lang_meaning.specs.Machine.{Done, Gives as GivesValue, given, branch, throw_fault}
use Rattle.lang_meaning.specs.HostSteps.{StepValue, StepThrow}
use Rattle.lang_ast.specs.declared.host.HostStep.{HostStep}
use Rattle.lang_ast.specs.Steps.{seen_step}
use Rattle.page_model.specs.State.{Page, State}
use Rattle.page_model.specs.PageHost.{bare}
use Rattle.page_model.specs.PagePromises.{last_promise}
use Rattle.page_model.specs.Operations.{does, answers, answers_first, where_left, rejected_with, given_or_rejected}
use Rattle.trace_text.specs.declared.lines.NoLine.{NoLine}
use Rattle.trace_text.specs.declared.lines.NoLine.TheVariants.{OutOfMemory}
use Rattle.trace_text.specs.Given.{Keeping, Seen}
use Rattle.trace_text.specs.Acts.{At}
use Rattle.trace_text.proofs.Giving.{Gives-none}
use Rattle.page_state.specs.Standing.{Standing, page_of}
use Rattle.page_state.specs.PageActs.{on_page, at, Does, IsWanted}
use Rattle.page_answers.specs.Answers.{Answers, done_by, page_then}
use Rattle.page_answers.proofs.Answering.{Answers-stops, Answers-is, Answers-wants}

-- ---- How it ends

-- a fault with an empty text is thrown, and nothing is done
pub Answers-fault : {T : Type 0} (k : Keeping T) (name : FaultName) (old : At Standing T) (st : HostStep) → seen_step st ≡ StepThrow (FaultValue name [])
    → Answers k old (throw_fault name) (Ok st) old
unfolding done_by
Answers-fault k name old st step = record { lines = Gives-none k old.seen; state = refl; step = step; port = refl }

-- a value is given, and nothing is done
pub Answers-same : {T : Type 0} (k : Keeping T) (v : model.Value) (old : At Standing T) (st : HostStep) → seen_step st ≡ StepValue v
    → Answers k old (λ m. GivesValue v m) (Ok st) old
unfolding done_by
Answers-same k v old st step = record { lines = Gives-none k old.seen; state = refl; step = step; port = refl }

-- a change of the page was done, and unit is given
pub Answers-does : {T : Type 0} {k : Keeping T} (F : Page → Page) (old : At Standing T) {new : At Standing T} (st : HostStep) → seen_step st ≡ StepValue UnitValue
    → Does k old (on_page F) None new → Answers k old (does F) (Ok st) new
unfolding on_page done_by
Answers-does F old st step h = record { lines = h.acts.lines; state = h.acts.state refl; step = step; port = h.port }

-- a change of the page was done, and a value is given that the page tells then
pub Answers-tells : {T : Type 0} {k : Keeping T} (v : Page → model.Value) (F : Page → Page) (old : At Standing T) {new : At Standing T} (st : HostStep) → seen_step st ≡ StepValue (v (F (page_of old.state)))
    → Does k old (on_page F) None new → Answers k old (answers v F) (Ok st) new
unfolding on_page done_by
Answers-tells v F old st step h = record { lines = h.acts.lines; state = h.acts.state refl; step = step; port = h.port }

-- a change of the page was done, and the last promise is given
pub Answers-last : {T : Type 0} {k : Keeping T} (F : Page → Page) (old : At Standing T) {new : At Standing T} (n : ℕ) (st : HostStep) → n ≡ last_promise (page_of new.state)
    → seen_step st ≡ StepValue (PromiseValue n) → Does k old (on_page F) None new → Answers k old (answers (λ p. PromiseValue (last_promise p)) F) (Ok st) new
unfolding on_page done_by
Answers-last F old {new = new} n st last step h =
    let is : n ≡ last_promise (F (page_of old.state)) = last ∙ ap (λ (s : Standing). last_promise (page_of s)) (h.acts.state refl) in
    record { lines = h.acts.lines; state = h.acts.state refl; step = step ∙ ap (λ n. StepValue (PromiseValue n)) is; port = h.port }

-- a change of the page was done, and the promise is given that it made first
pub Answers-first : {T : Type 0} {k : Keeping T} (F : Page → Page) (old : At Standing T) {new : At Standing T} (n : ℕ) (st : HostStep) → n ≡ suc (last_promise (page_of old.state))
    → seen_step st ≡ StepValue (PromiseValue n) → Does k old (on_page F) None new → Answers k old (answers_first F) (Ok st) new
unfolding on_page done_by
Answers-first F old n st first step h = record { lines = h.acts.lines; state = h.acts.state refl; step = step ∙ ap (λ n. StepValue (PromiseValue n)) first; port = h.port }

-- the exit of a `?` behind the change that the operation does
pub Answers-exit : {T : Type 0} {k : Keeping T} (f : State → Done Page) (F : Page → Page) (old : At Standing T) {new : At Standing T} (r : Result HostStep NoLine) {why : NoLine}
    → page_then (f (bare (page_of old.state))) ≡ F (page_of old.state) → IsErrAnd r (λ e. e ≡ why) → Does k old (on_page F) (Some why) new → Answers k old f r new
Answers-exit f F old (Ok st) page is h = absurd is
Answers-exit {k = k} f F old {new = new} (Err e) page is h =
    let P : NoLine → Type 0 = λ w. Answers k old f (Err w) new in
    subst P (sym is) (Answers-stops f F old page h)

-- the exit of a `?` for want of memory, before any line
pub Answers-wanted : {T : Type 0} (k : Keeping T) (f : State → Done Page) (s mid : Standing) (seen : Seen T) (r : Result HostStep NoLine) {why : NoLine}
    → IsErrAnd r (λ e. e ≡ why) → IsWanted why s mid → Answers k (at s seen) f r (at mid seen)
Answers-wanted k f s mid seen (Ok st) is memory = absurd is
Answers-wanted k f s mid seen (Err e) is memory =
    let P : NoLine → Type 0 = λ w. Answers k (at s seen) f (Err w) (at mid seen) in
    subst P (sym (is ∙ memory.memory)) (Answers-wants k f s mid seen memory.port)

-- the same where the page stays
pub Answers-wanting : {T : Type 0} (k : Keeping T) (f : State → Done Page) (s : Standing) (seen : Seen T) (r : Result HostStep NoLine) {why : NoLine}
    → IsErrAnd r (λ e. e ≡ why) → why ≡ OutOfMemory → Answers k (at s seen) f r (at s seen)
Answers-wanting k f s seen r is memory = Answers-wanted k f s s seen r is (record { memory = memory; port = refl })

-- ---- What it tests

-- a test that holds
pub Answers-then : {T : Type 0} {k : Keeping T} (test : Page → Bool) (a b : State → Done Page) (old : At Standing T) {new : At Standing T} {r : Result HostStep NoLine} {t : Bool}
    → t ≡ true → t ≡ test (page_of old.state) → Answers k old a r new → Answers k old (λ m. branch (test m.host) m a b) r new
Answers-then test a b old holds is h =
    Answers-is a (λ m. branch (test m.host) m a b) old (ap (λ t. branch t (bare (page_of old.state)) a b) (sym holds ∙ is)) h

-- a test that fails
pub Answers-else : {T : Type 0} {k : Keeping T} (test : Page → Bool) (a b : State → Done Page) (old : At Standing T) {new : At Standing T} {r : Result HostStep NoLine} {t : Bool}
    → t ≡ false → t ≡ test (page_of old.state) → Answers k old b r new → Answers k old (λ m. branch (test m.host) m a b) r new
Answers-else test a b old fails is h =
    Answers-is b (λ m. branch (test m.host) m a b) old (ap (λ t. branch t (bare (page_of old.state)) a b) (sym fails ∙ is)) h

-- the numbers that it takes are left
pub Answers-left : {T : Type 0} {k : Keeping T} (left : Page → Bool) (next : State → Done Page) (old : At Standing T) {new : At Standing T} {r : Result HostStep NoLine} {t : Bool}
    → t ≡ true → t ≡ left (page_of old.state) → Answers k old next r new → Answers k old (λ m. where_left (left m.host) m next) r new
Answers-left left next old holds is h = Answers-then left next (throw_fault RangeError) old holds is h

-- they are not
pub Answers-none_left : {T : Type 0} (k : Keeping T) (left : Page → Bool) (next : State → Done Page) (old : At Standing T) (st : HostStep) {t : Bool}
    → t ≡ false → t ≡ left (page_of old.state) → seen_step st ≡ StepThrow (FaultValue RangeError []) → Answers k old (λ m. where_left (left m.host) m next) (Ok st) old
Answers-none_left k left next old st fails is step = Answers-else left next (throw_fault RangeError) old fails is (Answers-fault k RangeError old st step)

-- an argument of the right kind
pub Answers-given : {T X : Type 0} {k : Keeping T} (o : Option X) (x : X) (name : FaultName) (next : X → State → Done Page) (old : At Standing T) {new : At Standing T} {r : Result HostStep NoLine}
    → Some x ≡ o → Answers k old (next x) r new → Answers k old (λ m. given o name m next) r new
Answers-given o x name next old is h = Answers-is (next x) (λ m. given o name m next) old (ap (λ o. given o name (bare (page_of old.state)) next) is) h

-- one of another kind
pub Answers-not_given : {T X : Type 0} (k : Keeping T) (o : Option X) (name : FaultName) (next : X → State → Done Page) (old : At Standing T) (st : HostStep)
    → None ≡ o → seen_step st ≡ StepThrow (FaultValue name []) → Answers k old (λ m. given o name m next) (Ok st) old
Answers-not_given k o name next old st is step =
    Answers-is (throw_fault name) (λ m. given o name m next) old (ap (λ o. given o name (bare (page_of old.state)) next) is) (Answers-fault k name old st step)

-- an argument of the right kind, where another one rejects
pub Answers-accepted : {T X : Type 0} {k : Keeping T} (o : Option X) (x : X) (next : X → State → Done Page) (old : At Standing T) {new : At Standing T} {r : Result HostStep NoLine}
    → Some x ≡ o → Answers k old (next x) r new → Answers k old (λ m. given_or_rejected o m next) r new
Answers-accepted o x next old is h = Answers-is (next x) (λ m. given_or_rejected o m next) old (ap (λ o. given_or_rejected o (bare (page_of old.state)) next) is) h

-- one of another kind, which rejects
pub Answers-rejected : {T X : Type 0} {k : Keeping T} (o : Option X) (next : X → State → Done Page) (old : At Standing T) {new : At Standing T} {r : Result HostStep NoLine}
    → None ≡ o → Answers k old (rejected_with (a_fault TypeError)) r new → Answers k old (λ m. given_or_rejected o m next) r new
Answers-rejected o next old is h =
    Answers-is (rejected_with (a_fault TypeError)) (λ m. given_or_rejected o m next) old (ap (λ o. given_or_rejected o (bare (page_of old.state)) next) is) h

-- the same value
pub Answers-value : {T : Type 0} {k : Keeping T} (f : model.Value → State → Done Page) (v w : model.Value) (old : At Standing T) {new : At Standing T} {r : Result HostStep NoLine}
    → v ≡ w → Answers k old (f v) r new → Answers k old (f w) r new
Answers-value {k = k} f v w old {new = new} {r = r} is h = let P : model.Value → Type 0 = λ x. Answers k old (f x) r new in subst P is h
