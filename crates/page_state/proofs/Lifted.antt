-- Calls of the script's part as calls on all that a page keeps.
use Rattle.std.proofs.Common.{◌≡◌, ℕ, suc, ◌+◌, length, add-one, false, cond, List, [], ◌∷◌, refl, sym, ◌∙◌, ap, subst, Option, Result, Ok, Err}
use Rattle.std.specs.Prelude.{IfOk, OnOk}
use Rattle.std.specs.Result.{result_err}
use Rattle.page_types.specs.declared.RegKind.{RegKind}
use Rattle.page_types.specs.declared.Source.TheVariants.{Dom}
use Rattle.page_parts.specs.Words.{is_empty}
use Rattle.page_parts.specs.Promises.{pending_promise}
use Rattle.page_notices.specs.Seen.{current}
use Rattle.page_model.specs.State.{NotifyRejected, Page, Registration, queue_task}
use Rattle.page_model.specs.Invoke.{register_as, under, checkpoint_ended}
use Rattle.page_model.specs.PagePromises.{new_promise}
use Rattle.page_model.specs.Operations.{script_promise}
use Rattle.promise_core.proofs.Records.{length-and_last}
use Rattle.trace_text.specs.declared.lines.NoLine.{NoLine}
use Rattle.trace_text.specs.Given.{Keeping, Seen}
use Rattle.trace_text.specs.Acts.{Does as ScriptDoes}
use Rattle.page_script.specs.Script.{Script, script_of}
use Rattle.page_script.specs.Script as parts
use Rattle.page_script.specs.PageActs.{OnlyScript}
use Rattle.page_script.specs.ScriptActs.{on_script, on}
use Rattle.page_script.specs.ScriptActs as script
use Rattle.page_state.specs.Standing.{Standing, page_of, holding}
use Rattle.page_state.specs.PageActs.{on_page, changed_by, at, Does}
use Rattle.page_state.proofs.Acting.{Does-script}

-- a call of the script's part that was done to the page, which is seen as s'
pub Does-lifted : {T : Type 0} {k : Keeping T} (f : Page → Page) {s s' : Standing} {t : Script} {old new : Seen T} {why : Option NoLine} → OnlyScript f → s ≡ s'
    → ScriptDoes k (on s.script old) (on_script f) why (on t new) → Does k (at s' old) (on_page f) why (at (record s { script = t }) new)
Does-lifted {k = k} f {s = s} {t = t} {old = old} {new = new} {why = why} only is h =
    let P : Standing → Type 0 = λ u. Does k (at u old) (on_page f) why (at (record s { script = t }) new) in
    subst P is (Does-script f s only h)

-- one that changes nothing
pub Does-kept : {T : Type 0} {k : Keeping T} (f : Page → Page) {s s' : Standing} {old new : Seen T} {why : Option NoLine} → OnlyScript f → s ≡ s'
    → ScriptDoes k (on s.script old) (on_script f) why (on s.script new) → Does k (at s' old) (on_page f) why (at s' new)
Does-kept {k = k} f {s = s} {old = old} {new = new} {why = why} only is h =
    let P : Standing → Type 0 = λ u. Does k (at u old) (on_page f) why (at u new) in
    subst P is (Does-script f s only h)

-- ---- Numbers

-- the number of a registration that was made
pub registered-number : {T : Type 0} {k : Keeping T} (kind : RegKind) (x : Registration) (s t : Script) (r : Result ℕ NoLine) {old new : Seen T}
    → ScriptDoes k (on s old) (on_script (register_as kind x)) (result_err r) (on t new) → IfOk r (λ n. n ≡ length s.registrations + 1) → IfOk r (λ n. n ≡ length t.registrations)
unfolding on_script
registered-number kind x s t (Ok n) h is =
    is ∙ add-one (length s.registrations) ∙ sym (length-and_last s.registrations x) ∙ sym (ap (λ u. length u.registrations) (h.state refl))
registered-number kind x s t (Err why) h is = tt

-- ---- Changes with no line

-- a change of the script's part, as one of the page, which is seen as s'
pub changed-lifted : (f : Page → Page) {s s' : Standing} {t : Script} → OnlyScript f → s ≡ s' → t ≡ script.changed_by f s.script → record s { script = t } ≡ changed_by f s'
changed-lifted f {s = s} only is e =
    ap (λ u. record s { script = u }) e ∙ sym (ap (λ q. holding q s) (only (page_of s))) ∙ ap (changed_by f) is

-- the number of a promise that was made
pub made-number : (f : Page → Page) (s t : Script) (n : ℕ) → length (f (parts.holding s)).notices.promises ≡ suc (length s.notices.promises)
    → n ≡ length s.notices.promises + 1 → t ≡ script.changed_by f s → n ≡ length t.notices.promises
made-number f s t n one is made = is ∙ add-one (length s.notices.promises) ∙ sym one ∙ sym (ap (λ u. length u.notices.promises) made)

pub new_promise-one : (p : Page) → length (new_promise p).notices.promises ≡ suc (length p.notices.promises)
new_promise-one p = length-and_last p.notices.promises pending_promise

pub script_promise-one : (p : Page) → length (script_promise p).notices.promises ≡ suc (length p.notices.promises)
script_promise-one p = length-and_last p.notices.promises pending_promise

-- a number that is told of before is that of the last promise where there is one more
pub counted-number : (r : Result ℕ NoLine) (before after : ℕ) → IfOk r (λ p. p ≡ before + 1) → OnOk r (after ≡ before + 1) → IfOk r (λ p. p ≡ after)
counted-number (Ok p) before after is count = is ∙ sym count
counted-number (Err why) before after is count = tt

-- ---- The end of a checkpoint

-- of the rejected promises ns, in a checkpoint that ends
abbrev ended_with : List ℕ → (level : ℕ) (state : Option ℕ) → Page → Page
ended_with ns level state p =
    record (cond (is_empty ns) p (queue_task Dom (NotifyRejected ns) (record p { notices = record p.notices { rejected = [] } }))) {
      performing = false;
      level = level;
      scheduling = state;
    }

ended-none : (ns : List ℕ) (level : ℕ) (state : Option ℕ) (s : Standing) → ns ≡ [] → record s { script = script_of (ended_with ns level state (parts.holding s.script)) } ≡ holding (ended_with ns level state (page_of s)) s
ended-none [] level state s e = refl
ended-none (n ∷ ns) level state s e = absurd (cc)

ended-some : (ns : List ℕ) (level : ℕ) (state : Option ℕ) (s : Standing) → is_empty ns ≡ false
    → changed_by (queue_task Dom (NotifyRejected ns)) (record s { script = script_of (ended_with ns level state (parts.holding s.script)) }) ≡ holding (ended_with ns level state (page_of s)) s
ended-some [] level state s e = absurd (cc)
ended-some (n ∷ ns) level state s e = refl

-- no promise was rejected
pub checkpoint-silent : (level : ℕ) (state : Option ℕ) (s mid : Standing) → s.script.notices.rejected ≡ []
    → mid ≡ record s { script = script.changed_by (λ p. checkpoint_ended (under (current level state) p) p) s.script } → mid ≡ changed_by (λ p. checkpoint_ended (under (current level state) p) p) s
checkpoint-silent level state s mid none is = is ∙ ended-none s.script.notices.rejected level state s none

-- some were, and the task was queued
pub checkpoint-queued : {X : Type 0} (level : ℕ) (state : Option ℕ) (s mid new : Standing) (ns : List ℕ) (r : Result X NoLine) → ns ≡ s.script.notices.rejected → is_empty ns ≡ false
    → mid ≡ record s { script = script.changed_by (λ p. checkpoint_ended (under (current level state) p) p) s.script }
    → OnOk r (new ≡ changed_by (queue_task Dom (NotifyRejected ns)) mid) → OnOk r (new ≡ changed_by (λ p. checkpoint_ended (under (current level state) p) p) s)
checkpoint-queued level state s mid new ns (Ok x) from some is done =
    let rejected = s.script.notices.rejected in
    let P : List ℕ → Type 0 = λ ms. is_empty ms ≡ false in
    done ∙ ap (changed_by (queue_task Dom (NotifyRejected ns))) is
    ∙ ap (λ ms. changed_by (queue_task Dom (NotifyRejected ms)) (record s { script = script.changed_by (λ p. checkpoint_ended (under (current level state) p) p) s.script })) from
    ∙ ended-some rejected level state s (subst P from some)
checkpoint-queued level state s mid new ns (Err why) from some is done = tt

-- a change of the script's part in all that a page keeps, which is seen as s'
pub script-lifted : (f : Page → Page) {s s' : Standing} {t : Script} → s ≡ s' → t ≡ script.changed_by f s.script → record s { script = t } ≡ record s' { script = script.changed_by f s'.script }
script-lifted f {s = s} is e = ap (λ u. record s { script = u }) e ∙ ap (λ (u : Standing). record u { script = script.changed_by f u.script }) is
