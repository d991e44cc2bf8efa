-- Functions of the page that read and change the script's part alone, and those that queue tasks besides.
use Rattle.std.proofs.Common.{ℕ, suc, List, [], ◌∷◌, Option, Some, None, refl}
use Rattle.page_types.specs.Values.{Value}
use Rattle.page_types.specs.declared.RegKind.{RegKind}
use Rattle.page_types.specs.declared.Source.{Source}
use Rattle.page_types.specs.Events.{Event, Turn, Wait}
use Rattle.page_parts.specs.Kinds.{promise_in}
use Rattle.page_parts.specs.Promises.{Settled, Fulfilled, Failed}
use Rattle.page_parts.specs.Notices as parts
use Rattle.page_parts.specs.Notices.{Notices, Noticed, Context, WaitingJob, settle_promise, follow_promise}
use Rattle.page_parts.specs.Combinators.{CombinatorKind, Report, combine, with_report, answer_of, report_answer}
use Rattle.page_model.specs.State.{Registration, SchedulingState, Combining, Element, Page, emit, emit_each, on_notices, context}
use Rattle.page_model.specs.Invoke.{WhenReported, BeforeCheckpoint, AfterCheckpoint, Never, register_as, call_begun, call_ended, thrown, report, report_before, report_after, under, job_begun, checkpoint_begun}
use Rattle.page_model.specs.PagePromises as promises
use Rattle.page_model.specs.PagePromises.{new_promise, last_promise, new_settled}
use Rattle.page_model.specs.PageCombinators as combinators
use Rattle.page_model.specs.PageCombinators.{element_at, combining_at, settle_result, with_combining, report_to, lead_into, with_combinator, combinator_made, with_element, item_made}
use Rattle.page_model.specs.Operations.{script_promise, posted, posts_taken}
use Rattle.page_model.specs.SchedulerTasks.{with_state}
use Rattle.page_model.specs.Tasks.{outstanding_if_unhandled}
use Rattle.page_model.specs.Turns.{at_time}
use Rattle.page_script.specs.Script.{Script, script_of}
use Rattle.page_script.specs.PageActs.{OnlyScript}
use Rattle.page_script.specs.Jobs.{begun_of, oldest_begun}
use Rattle.page_script.specs.Reports.{logged}
use Rattle.page_script.proofs.Lifting.{OnlyScript-then, OnlyScript-none, emit-only}

-- ---- Ways to choose

-- what one way or the other does
pub elim-only : {X : Type 0} (o : Option X) (f : Page → Page) (g : X → Page → Page) → OnlyScript f → ((x : X) → OnlyScript (g x)) → OnlyScript (λ p. elim o [ None ↦ f p | Some x ↦ g x p ])
elim-only None f g h k p = h p
elim-only (Some x) f g h k p = k x p

-- the function that the script's part asks for
pub asked-only : (choose : Script → Page → Page) → ((s : Script) → OnlyScript (choose s)) → OnlyScript (λ p. choose (script_of p) p)
asked-only choose h p = h (script_of p) p

-- ---- The run, registrations and calls

pub register_as-only : (kind : RegKind) (x : Registration) → OnlyScript (register_as kind x)
register_as-only kind x p = refl

pub call_begun-only : (r : ℕ) → OnlyScript (call_begun r)
call_begun-only r p = refl

pub call_ended-only : (line : Event) → OnlyScript (call_ended line)
call_ended-only line p = refl

pub thrown-only : (v : Value) → OnlyScript (thrown v)
thrown-only v p = refl

pub report-only : (v : Value) → OnlyScript (report v)
report-only v p = refl

pub logged-only : (v : Value) → OnlyScript (logged v)
logged-only v p = refl

pub report_before-only : (when : WhenReported) (v : Value) → OnlyScript (report_before when v)
report_before-only BeforeCheckpoint v p = refl
report_before-only AfterCheckpoint v p = refl
report_before-only Never v p = refl

pub report_after-only : (when : WhenReported) (v : Value) → OnlyScript (report_after when v)
report_after-only BeforeCheckpoint v p = refl
report_after-only AfterCheckpoint v p = refl
report_after-only Never v p = refl

pub at_time-only : (t : ℕ) → OnlyScript (at_time t)
at_time-only t p = refl

pub turn-only : (source : Option Source) → OnlyScript (λ p. emit (Turn (suc p.turns) source) (record p { turns = suc p.turns }))
turn-only source p = refl

pub wait-only : (target t : ℕ) → OnlyScript (λ p. emit (Wait target) (at_time t p))
wait-only target t p = refl

pub under-only : (now : Context) → OnlyScript (under now)
under-only now p = refl

pub level-only : (level : ℕ) → OnlyScript (λ p. record p { level = level })
level-only level p = refl

pub scheduling-only : (state : Option ℕ) → OnlyScript (λ p. record p { scheduling = state })
scheduling-only state p = refl

-- ---- Promises and jobs

emit_each-only : (es : List Event) → OnlyScript (emit_each es)
emit_each-only [] p = refl
emit_each-only (e ∷ es) p = OnlyScript-then (emit e) (emit_each es) (emit-only e) (emit_each-only es) p

pub on_notices-only : (f : Notices → Noticed) → OnlyScript (on_notices f)
on_notices-only f p =
    let d = f p.notices in
    OnlyScript-then (λ q. record q { notices = d.notices }) (emit_each d.lines) (λ q. refl) (emit_each-only d.lines) p

pub settle-only : (n : ℕ) (how : Settled) → OnlyScript (promises.settle n how)
settle-only n how p = on_notices-only (settle_promise (context p) p.names n how) p

pub resolve-only : (n : ℕ) (v : Value) → OnlyScript (promises.resolve n v)
resolve-only n v = settle-only n (Fulfilled v)

pub reject-only : (n : ℕ) (v : Value) → OnlyScript (promises.reject n v)
reject-only n v = settle-only n (Failed v)

pub follow-only : (n : ℕ) (how : Settled) → OnlyScript (promises.follow n how)
follow-only n how p = on_notices-only (follow_promise (context p) p.names n how) p

pub queue_micro-only : (n : ℕ) → OnlyScript (λ p. on_notices (parts.queue_micro (context p) n) p)
queue_micro-only n p = on_notices-only (parts.queue_micro (context p) n) p

pub new_promise-only : OnlyScript new_promise
new_promise-only p = refl

pub script_promise-only : OnlyScript script_promise
script_promise-only p = refl

pub new_settled-only : (settle : ℕ → Value → Page → Page) → ((n : ℕ) (v : Value) → OnlyScript (settle n v)) → (v : Value) → OnlyScript (new_settled settle v)
new_settled-only settle h v p = OnlyScript-then new_promise (settle (last_promise (new_promise p)) v) new_promise-only (h (last_promise (new_promise p)) v) p

pub job_begun-only : (job : WaitingJob) (others : List WaitingJob) → OnlyScript (job_begun job others)
job_begun-only job others p = refl

begun_of-only : (jobs : List WaitingJob) → OnlyScript (begun_of jobs)
begun_of-only [] p = refl
begun_of-only (job ∷ others) p = refl

pub oldest_begun-only : OnlyScript oldest_begun
oldest_begun-only p = begun_of-only p.notices.jobs p

pub checkpoint_begun-only : OnlyScript checkpoint_begun
checkpoint_begun-only p = refl

pub outstanding_if_unhandled-only : (n : ℕ) → OnlyScript (outstanding_if_unhandled n)
outstanding_if_unhandled-only n p = refl

-- ---- Scheduling states and messages

pub with_state-only : (s : SchedulingState) → OnlyScript (with_state s)
with_state-only s p = refl

pub posted-only : (port : ℕ) (v : Value) → OnlyScript (posted port v)
posted-only port v p = refl

pub posts_taken-only : OnlyScript posts_taken
posts_taken-only p = refl

-- ---- Combinators

pub settle_result-only : (o : Option Settled) (result : ℕ) → OnlyScript (settle_result o result)
settle_result-only None result p = refl
settle_result-only (Some how) result p = follow-only result how p

pub report_to-only : (c : Combining) (n : ℕ) (r : Report) → OnlyScript (report_to c n r)
report_to-only c n r p =
    let noted = with_combining n (record c { combine = with_report r c.combine }) in
    OnlyScript-then noted (settle_result (report_answer r c.combine) c.result) (λ q. refl) (settle_result-only (report_answer r c.combine) c.result) p

pub element_report-only : (e : Element) (how : Settled) → OnlyScript (combinators.report e how)
element_report-only e how p = report_to-only (combining_at p e.combinator) e.combinator (record { place = e.place; outcome = how }) p

pub lead_into-only : (into : ℕ) (how : Settled) → OnlyScript (lead_into into how)
lead_into-only into how p = elim-only (element_at p into) (promises.follow into how) (λ e. combinators.report e how) (follow-only into how) (λ e. element_report-only e how) p

pub combinator_made-only : (kind : CombinatorKind) (count : ℕ) → OnlyScript (combinator_made kind count)
combinator_made-only kind count p =
    let result = last_promise (new_promise p) in
    OnlyScript-then (λ q. with_combinator (combine kind count) (new_promise q)) (settle_result (answer_of (combine kind count)) result)
    (λ q. refl) (settle_result-only (answer_of (combine kind count)) result) p

pub item_made-only : (v : Value) → OnlyScript (item_made v)
item_made-only v p = elim-only (promise_in v) (new_settled promises.resolve v) (λ n q. q) (new_settled-only promises.resolve resolve-only v) (λ n. OnlyScript-none) p

pub with_element-only : (combinator place : ℕ) → OnlyScript (with_element combinator place)
with_element-only combinator place p = refl
