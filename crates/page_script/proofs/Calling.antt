-- Registrations and calls: a change of the script's part, and then its line.
use Rattle.std.proofs.Common.{◌≡◌, ℕ, suc, ◌+◌, length, add-one, List, [], refl, sym, ◌∙◌, subst, Option, None}
use Rattle.page_types.specs.declared.RegKind.{RegKind}
use Rattle.page_types.specs.Events.{Reg}
use Rattle.page_parts.specs.Words.{and_last}
use Rattle.page_model.specs.State.{Registration, caller, emit}
use Rattle.page_model.specs.Invoke.{register_as}
use Rattle.trace_text.specs.declared.lines.NoLine.{NoLine}
use Rattle.trace_text.specs.Given.{Keeping, Seen}
use Rattle.trace_text.specs.Acts.{At, Does}
use Rattle.page_script.specs.Script.{Script, holding}
use Rattle.page_script.specs.ScriptActs.{on_script, on, read_by}
use Rattle.page_types.specs.Values.{Value}
use Rattle.page_types.specs.Events.{Throw, Report, Log, Turn, Send, Run}
use Rattle.page_types.specs.declared.Source.{Source}
use Rattle.page_parts.specs.Notices.{WaitingJob}
use Rattle.page_model.specs.Operations.{posted}
use Rattle.page_script.specs.Jobs.{begun_of, oldest_begun, taken, IsTaken}
use Rattle.page_parts.specs.Spelling.{spelled}
use Rattle.lang_meaning.specs.Evaluation.{without_first}
use Rattle.page_model.specs.Invoke.{thrown, report}
use Rattle.page_script.specs.Reports.{logged}
use Rattle.page_script.proofs.Lifting.{Does-asked, Does-line, Does-idle}

-- a registration was kept, and then comes its line
pub Does-registered : {T : Type 0} {k : Keeping T} (kind : RegKind) (x : Registration) (r : ℕ) (by : Option ℕ) (s mid : Script) {old : Seen T} {new : At Script T} {why : Option NoLine}
    → r ≡ length s.registrations + 1 → by ≡ read_by caller s → mid ≡ record s { registrations = and_last s.registrations x }
    → Does k (on mid old) (on_script (emit (Reg r kind by))) why new → Does k (on s old) (on_script (register_as kind x)) why new
Does-registered {k = k} kind x r by s mid {old = old} {new = new} {why = why} number from is h =
    let n = suc (length s.registrations) in
    let P : ℕ → Type 0 = λ m. Does k (on mid old) (on_script (emit (Reg m kind by))) why new in
    let Q : Option ℕ → Type 0 = λ b. Does k (on mid old) (on_script (emit (Reg n kind b))) why new in
    Does-asked (λ q p. emit (Reg (suc (length q.registrations)) kind (caller q)) (record p { registrations = and_last p.registrations x })) (on s old)
    (Does-line (λ p. record p { registrations = and_last p.registrations x }) (Reg n kind (caller (holding s))) s mid refl is (subst Q from (subst P (number ∙ add-one (length s.registrations)) h)))

-- the innermost call was closed, and then comes the line of its throw
pub Does-thrown : {T : Type 0} {k : Keeping T} (v : Value) (text : List ℕ) (s mid : Script) {old : Seen T} {new : At Script T} {why : Option NoLine}
    → text ≡ spelled s.names v → mid ≡ record s { calls = without_first s.calls }
    → Does k (on mid old) (on_script (emit (Throw text))) why new → Does k (on s old) (on_script (thrown v)) why new
Does-thrown {k = k} v text s mid {old = old} {new = new} {why = why} from is h =
    let P : List ℕ → Type 0 = λ x. Does k (on mid old) (on_script (emit (Throw x))) why new in
    Does-asked (λ q p. emit (Throw (spelled q.names v)) (record p { calls = without_first p.calls })) (on s old)
    (Does-line (λ p. record p { calls = without_first p.calls }) (Throw (spelled s.names v)) s mid refl is (subst P from h))

-- the line of a report
pub Does-reported : {T : Type 0} {k : Keeping T} (v : Value) (text : List ℕ) (s : Script) {old : Seen T} {new : At Script T} {why : Option NoLine}
    → text ≡ spelled s.names v → Does k (on s old) (on_script (emit (Report text))) why new → Does k (on s old) (on_script (report v)) why new
Does-reported {k = k} v text s {old = old} {new = new} {why = why} from h =
    let P : List ℕ → Type 0 = λ x. Does k (on s old) (on_script (emit (Report x))) why new in
    Does-asked (λ q. emit (Report (spelled q.names v))) (on s old) (subst P from h)

-- the line of a log
pub Does-logged : {T : Type 0} {k : Keeping T} (v : Value) (text : List ℕ) (s : Script) {old : Seen T} {new : At Script T} {why : Option NoLine}
    → text ≡ spelled s.names v → Does k (on s old) (on_script (emit (Log text))) why new → Does k (on s old) (on_script (logged v)) why new
Does-logged {k = k} v text s {old = old} {new = new} {why = why} from h =
    let P : List ℕ → Type 0 = λ x. Does k (on s old) (on_script (emit (Log x))) why new in
    Does-asked (λ q. emit (Log (spelled q.names v))) (on s old) (subst P from h)

-- a message was kept, and then comes its line
pub Does-posted : {T : Type 0} {k : Keeping T} (port : ℕ) (v : Value) (text : List ℕ) (s mid : Script) {old : Seen T} {new : At Script T} {why : Option NoLine}
    → text ≡ spelled s.names v → mid ≡ record s { posts = and_last s.posts (record { port = port; value = v; at = s.now }) }
    → Does k (on mid old) (on_script (emit (Send port text))) why new → Does k (on s old) (on_script (posted port v)) why new
Does-posted {k = k} port v text s mid {old = old} {new = new} {why = why} from is h =
    let P : List ℕ → Type 0 = λ x. Does k (on mid old) (on_script (emit (Send port x))) why new in
    Does-asked (λ q p. emit (Send port (spelled q.names v)) (record p { posts = and_last p.posts (record { port = port; value = v; at = p.now }) })) (on s old)
    (Does-line (λ p. record p { posts = and_last p.posts (record { port = port; value = v; at = p.now }) }) (Send port (spelled s.names v)) s mid refl is (subst P from h))

-- a turn was counted, and then comes its line
pub Does-turn : {T : Type 0} {k : Keeping T} (n : ℕ) (source : Option Source) (s mid : Script) {old : Seen T} {new : At Script T} {why : Option NoLine}
    → n ≡ suc s.turns → mid ≡ record s { turns = suc s.turns }
    → Does k (on mid old) (on_script (emit (Turn n source))) why new
    → Does k (on s old) (on_script (λ p. emit (Turn (suc p.turns) source) (record p { turns = suc p.turns }))) why new
Does-turn {k = k} n source s mid {old = old} {new = new} {why = why} number is h =
    let P : ℕ → Type 0 = λ m. Does k (on mid old) (on_script (emit (Turn m source))) why new in
    Does-asked (λ q p. emit (Turn (suc q.turns) source) (record p { turns = suc p.turns })) (on s old)
    (Does-line (λ p. record p { turns = suc p.turns }) (Turn (suc s.turns) source) s mid refl is (subst P number h))

-- the oldest job was taken, and then comes its line
pub Does-begun : {T : Type 0} {k : Keeping T} (job : WaitingJob) (s mid : Script) {old : Seen T} {new : At Script T} {why : Option NoLine}
    → IsTaken job s mid → Does k (on mid old) (on_script (emit (Run job.number))) why new → Does k (on s old) (on_script oldest_begun) why new
Does-begun {k = k} job s mid {old = old} {new = new} {why = why} is h =
    let P : List WaitingJob → Type 0 = λ jobs. Does k (on s old) (on_script (begun_of jobs)) why new in
    Does-asked (λ q. begun_of q.notices.jobs) (on s old)
    (subst P (sym is.oldest) (Does-line (taken job mid.notices.jobs) (Run job.number) s mid refl is.state h))

-- no job waits
pub Does-no_job : {T : Type 0} (k : Keeping T) (s : Script) (seen : Seen T) → s.notices.jobs ≡ [] → Does k (on s seen) (on_script oldest_begun) None (on s seen)
Does-no_job k s seen none =
    let P : List WaitingJob → Type 0 = λ jobs. Does k (on s seen) (on_script (begun_of jobs)) None (on s seen) in
    Does-asked (λ q. begun_of q.notices.jobs) (on s seen) (subst P (sym none) (Does-idle k s seen))
