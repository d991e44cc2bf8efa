-- Laws of every trace: calls, cancels, promises and jobs.
use Rattle.std.specs.Prelude.{◌≡◌, ℕ, suc, ◌+◌, Bool, true, false, not, ◌&&◌, ◌||◌, List, [], ◌∷◌, filter, length, nat_le, ◌==◌}
use Rattle.page_types.specs.declared.RegKind.{RegKind}
use Rattle.page_types.specs.declared.RegKind.TheVariants as kind
use Rattle.page_types.specs.Events.{Queued, MicroJob, ReactJob, AdoptJob, Event, Call, Reg, Due, Job, Run, Settle, Enq, Host, Stamped}
use Rattle.page_laws.specs.History.{History, each_line, some_line, count_lines, is_reg_of, is_job, is_run, is_rest, is_host, has_kind, registered_for, was_called, was_due, was_dropped, open_registrations}

-- ---- Ours: what runs once

-- what a registration is for whose callback runs once at most
abbrev pub is_one_shot : RegKind → Bool
is_one_shot kind.Timeout = true
is_one_shot kind.Frame = true
is_one_shot kind.Idle = true
is_one_shot kind.Post = true
is_one_shot kind.Yield = true
is_one_shot kind.Then = true
is_one_shot kind.Micro = true
is_one_shot k = false

-- what has no callback
abbrev pub has_no_callback : RegKind → Bool
has_no_callback kind.Host = true
has_no_callback kind.Signal = true
has_no_callback k = false

-- whether a registration was made; the script is registration 1, which no line registers
abbrev pub was_made : History → ℕ → Bool
was_made past r = (r == 1) || some_line (is_reg_of r) past

-- whether its callback runs once at most
abbrev pub runs_once : History → ℕ → Bool
runs_once past r = (r == 1) || has_kind is_one_shot past r

abbrev pub may_be_called : History → ℕ → Bool
may_be_called past r = was_made past r && not (has_kind has_no_callback past r) && not (runs_once past r && was_called past r)

-- a registration is new, and what has no callback was not called
abbrev pub may_be_registered : History → ℕ → RegKind → Bool
may_be_registered past r kind = not (some_line (is_reg_of r) past) && not (has_no_callback kind && was_called past r)

abbrev pub is_answer_of : ℕ → Event → Bool
is_answer_of k (Host j x answer) = j == k
is_answer_of k e = false

abbrev pub keeps_once : History → Event → Bool
keeps_once past (Reg r kind by) = may_be_registered past r kind
keeps_once past (Call r) = may_be_called past r
keeps_once past (Host k x answer) = not (some_line (is_answer_of k) past)
keeps_once past e = true

abbrev pub holds_once : List Stamped → Bool
holds_once es = each_line (λ past e. keeps_once past e.event) [] es

-- No registration is made twice, none but the script is called before it is made, the script and what else runs once is
-- called once at most, hosts and timeout signals are never called, and no host closure answers twice.
abbrev pub Once : List Stamped → Type 0
Once es = holds_once es ≡ true

-- ---- Ours: a cancel is a `drop` line

abbrev pub is_answer : Event → Bool
is_answer (Host k x answer) = true
is_answer e = false

-- the host registrations that were due, and those that were due and dropped
abbrev pub due_hosts : History → List ℕ
due_hosts past = filter (was_due past) (registered_for is_host past)

abbrev pub dropped_due_hosts : History → List ℕ
dropped_due_hosts past = filter (was_dropped past) (due_hosts past)

abbrev pub keeps_cancel : History → Event → Bool
keeps_cancel past (Call r) = not (was_dropped past r)
keeps_cancel past (Enq r queue continuation n) = not (was_dropped past r)
keeps_cancel past (Due r) = not (has_kind is_host past r && was_dropped past r)
keeps_cancel past e = true

-- each answer of a host stands for a registration that was due and not dropped
abbrev pub answers_fit : History → Bool
answers_fit past = nat_le (count_lines is_answer past + length (dropped_due_hosts past)) (length (due_hosts past))

abbrev pub holds_cancel : List Stamped → Bool
holds_cancel es = each_line (λ past e. keeps_cancel past e.event && answers_fit (e ∷ past)) [] es

-- After a cancel there is no call, no enqueuing, and for a host no due line. At each line the answers of hosts, with the
-- host registrations that were both due and dropped, are no more than those that were due.
abbrev pub Cancel : List Stamped → Type 0
Cancel es = holds_cancel es ≡ true

-- ---- ECMA-262, "Promise Objects" and "Jobs and Host Operations to Enqueue Jobs"

abbrev pub is_settle_of : ℕ → Event → Bool
is_settle_of p (Settle q ok v) = q == p
is_settle_of p e = false

-- what a job for a reaction needs: its promise is settled
abbrev pub may_be_queued : History → Queued → Bool
may_be_queued past (MicroJob r) = true
may_be_queued past (ReactJob p) = some_line (is_settle_of p) past
may_be_queued past (AdoptJob p) = true

abbrev pub keeps_settled : History → Event → Bool
keeps_settled past (Settle p ok v) = not (some_line (is_settle_of p) past)
keeps_settled past (Job j what) = may_be_queued past what
keeps_settled past e = true

abbrev pub holds_settle_once : List Stamped → Bool
holds_settle_once es = each_line (λ past e. keeps_settled past e.event) [] es

-- No promise is settled twice, and a reaction's job is queued only when its promise is settled.
abbrev pub SettleOnce : List Stamped → Type 0
SettleOnce es = holds_settle_once es ≡ true

abbrev pub is_job_number : ℕ → Event → Bool
is_job_number j (Job k what) = k == j
is_job_number j e = false

-- as many jobs were run as were queued
abbrev pub no_job_waits : History → Bool
no_job_waits past = count_lines is_job past == count_lines is_run past

abbrev pub keeps_jobs : History → Event → Bool
keeps_jobs past (Job j what) = j == suc (count_lines is_job past)
keeps_jobs past (Run j) = (j == suc (count_lines is_run past)) && some_line (is_job_number j) past
keeps_jobs past e = not (is_rest e) || no_job_waits past

abbrev pub holds_jobs_in_order : List Stamped → Bool
holds_jobs_in_order es = each_line (λ past e. keeps_jobs past e.event) [] es

-- Jobs are numbered from 1 as they are queued, and are run in this order, each after it was queued. Between two turns
-- no job waits.
abbrev pub JobsInOrder : List Stamped → Type 0
JobsInOrder es = holds_jobs_in_order es ≡ true

-- ---- HTML, "Event loops: processing model": perform a microtask checkpoint: no script is running then

abbrev pub is_nil : List ℕ → Bool
is_nil [] = true
is_nil (r ∷ rs) = false

abbrev pub keeps_nesting : History → Event → Bool
keeps_nesting past (Run j) = is_nil (open_registrations past)
keeps_nesting past e = true

abbrev pub holds_no_nesting : List Stamped → Bool
holds_no_nesting es = each_line (λ past e. keeps_nesting past e.event) [] es

-- No job is run inside a call.
abbrev pub NoNesting : List Stamped → Type 0
NoNesting es = holds_no_nesting es ≡ true
