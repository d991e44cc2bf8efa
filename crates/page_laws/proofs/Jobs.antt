-- Jobs are numbered and run in order, and none waits between turns.
use Rattle.page_types.specs.declared.RegKind.TheVariants as kind
use Rattle.page_types.specs.declared.RegKind.{RegKind}
use Rattle.page_model.specs.Invoke.{register_as}
use Rattle.std.proofs.Common.{length, ◌≡◌, ℕ, suc, ◌≤◌, Bool, true, false, List, [], ◌∷◌, ◌&&◌, ◌||◌, Option, Some, None, refl, sym, subst, ap, ◌∙◌, cond, arith, nat_le}
use Rattle.std.proofs.lemmas.Bool.{eq-eqb, leb-true, leb-false}
use Rattle.std.specs.Prelude.{◌==◌}
use Rattle.page_types.specs.declared.End.TheVariants.{Done as DoneEnd, Clock as ClockEnd}
use Rattle.page_types.specs.declared.Source.TheVariants.{Sched}
use Rattle.page_model.specs.PageTime.{deadline}
use Rattle.page_types.specs.Events.{Arm, Frame, Drop, Host, Reg, Event, Turn, Call, Ret, Throw, Run, Job, Settle, Period, IdleLine, Wait, EndLine, Due, Enq, Prio}
use Rattle.page_parts.specs.Words.{and_last, without}
use Rattle.page_parts.specs.Promises.{Settled, Fulfilled, Failed, PromiseJob, Reaction}
use Rattle.page_parts.specs.Promises as Promises
use Rattle.page_parts.specs.Notices.{Notices, Noticed, Todo, OfPromise, Micro, WaitingJob, changed, queue_job, queue_jobs, settle_line, promise_changed, subscribe_promise, queue_micro, note_outstanding, Context}
use Rattle.page_parts.specs.Promises.{the_promise}
use Rattle.page_model.specs.State.{Registration, Page, emit_each, on_notices, context, caller, emit}
use Rattle.page_laws.specs.History.{History, count_lines, some_line, is_job, is_run, is_rest}
use Rattle.page_laws.specs.CallLaws.{keeps_jobs, is_job_number}
use Rattle.page_laws.specs.Moves.{frame_asked, registered, is_aside, is_end, promise_changes, PageChange, elsewhere, told, arm_told, rested, promised, settled, followed, adopted, subscribed, micro_asked, then_asked, answered, dropped, frame_dropped, AsBefore, rejected_taken, noted, Beginning, TheScript, ATimer, AFrame, AnIdle, ALateIdle, AListener, APost, AContinuation, AMicro, AReaction, taken, called_by, Waited, Moves, here, changing, arming, calling, ending, flagging, running, framing, idling, task_dropped, enqueued_anew, fell_due, post_fell_due, prio_told}
use Rattle.page_laws.proofs.Lines.{added, added-append, emit_each-events, emit_each-notices}
use Rattle.page_laws.proofs.Scans.{Test, Kept}

abbrev pub in_order : Test
in_order past e = keeps_jobs past e.event

-- jobs in a row: their numbers follow each other behind k, up to the last one
abbrev pub Row : (k last : ℕ) → List WaitingJob → Type 0
Row k last [] = k ≡ last
Row k last (j ∷ js) = j.number ≡ suc k × Row (suc k) last js

-- the promises and jobs fit the lines: as many jobs were made as have lines; those that wait are numbered behind those that ran
pub record JobsFit (s : Notices) (past : History) : Type 0 where
  pub made : s.jobs_made ≡ count_lines is_job past
  pub row : Row (count_lines is_run past) s.jobs_made s.jobs
  pub there : (j : ℕ) → 1 ≤ j → j ≤ count_lines is_job past → some_line (is_job_number j) past ≡ true
  pub kept : Kept in_order past

Row-last : (k last : ℕ) (js : List WaitingJob) (j : WaitingJob) → j.number ≡ suc last → Row k last js → Row k (suc last) (and_last js j)
Row-last k last [] j e h = (e ∙ ap suc (sym h), ap suc h)
Row-last k last (i ∷ js) j e h = (h.0, Row-last (suc k) last js j e h.1)

Row-le : (k last : ℕ) (js : List WaitingJob) → Row k last js → k ≤ last
Row-le k last [] h = omega (arith, h)
Row-le k last (j ∷ js) h = let le = Row-le (suc k) last js h.1 in omega (arith, le)

-- ---- lines

-- a line that tells nothing of jobs and does not stand between turns
abbrev tells_of_jobs : Event → Bool
tells_of_jobs e = is_job e || is_run e || is_rest e

aside-silent : (e : Event) → is_aside e ≡ true → tells_of_jobs e ≡ false
aside-silent (Turn n source) h = Prim.cc
aside-silent (Job j what) h = Prim.cc
aside-silent (Run j) h = Prim.cc
aside-silent (Period d) h = Prim.cc
aside-silent (Wait t) h = Prim.cc
aside-silent (EndLine DoneEnd) h = Prim.cc
aside-silent (EndLine ClockEnd) h = Prim.cc
aside-silent e h = refl

end-silent : (e : Event) → is_end e ≡ true → tells_of_jobs e ≡ false
end-silent Ret h = refl
end-silent (Throw bs) h = refl
end-silent e h = Prim.cc

silent-fits : (e : Event) (now : ℕ) (s : Notices) (past : History) → tells_of_jobs e ≡ false → JobsFit s past → JobsFit s (record { time = now; event = e } ∷ past)
silent-fits (Turn n source) now s past h f = Prim.cc
silent-fits (Job j what) now s past h f = Prim.cc
silent-fits (Run j) now s past h f = Prim.cc
silent-fits (Period d) now s past h f = Prim.cc
silent-fits (Wait t) now s past h f = Prim.cc
silent-fits (EndLine DoneEnd) now s past h f = Prim.cc
silent-fits (EndLine ClockEnd) now s past h f = Prim.cc
silent-fits e now s past h f = record { made = f.made; row = f.row; there = f.there; kept = (refl, f.kept) }

-- a line between turns, where no job waits
rest-fits : (e : Event) (now : ℕ) (s : Notices) (past : History) → is_rest e ≡ true → s.jobs ≡ [] → JobsFit s past → JobsFit s (record { time = now; event = e } ∷ past)
rest-fits e now s past h x f = by_line e h
  where
    even : count_lines is_job past == count_lines is_run past ≡ true
    even = eq-eqb _ _ (sym f.made ∙ sym (subst (Row (count_lines is_run past) s.jobs_made) x f.row))

    by_line : (e : Event) → is_rest e ≡ true → JobsFit s (record { time = now; event = e } ∷ past)
    by_line (Turn n source) h = record { made = f.made; row = f.row; there = f.there; kept = (even, f.kept) }
    by_line (Wait t) h = record { made = f.made; row = f.row; there = f.there; kept = (even, f.kept) }
    by_line (Period d) h = record { made = f.made; row = f.row; there = f.there; kept = (even, f.kept) }
    by_line (EndLine DoneEnd) h = record { made = f.made; row = f.row; there = f.there; kept = (even, f.kept) }
    by_line (EndLine ClockEnd) h = record { made = f.made; row = f.row; there = f.there; kept = (even, f.kept) }
    by_line e h = Prim.cc

-- ---- jobs are queued and run

or-true : (b : Bool) → b || true ≡ true
or-true true = refl
or-true false = refl

job-there : (past : History) (made j : ℕ) → made ≡ count_lines is_job past → ((j : ℕ) → 1 ≤ j → j ≤ count_lines is_job past → some_line (is_job_number j) past ≡ true) → 1 ≤ j → j ≤ suc (count_lines is_job past) → (suc made == j) || some_line (is_job_number j) past ≡ true
job-there past made j e there one le = by_size (nat_le j (count_lines is_job past)) refl
  where
    by_size : (b : Bool) → nat_le j (count_lines is_job past) ≡ b → (suc made == j) || some_line (is_job_number j) past ≡ true
    by_size true h = ap {B = Bool} (λ b. (suc made == j) || b) (there j one (leb-true j (count_lines is_job past) h)) ∙ or-true (suc made == j)
    by_size false h = let more = leb-false j (count_lines is_job past) h in ap {B = Bool} (λ b. b || some_line (is_job_number j) past) (eq-eqb (suc made) j (omega (arith, e, le, more)))

queue_job-fits : (current : Context) (what : Todo) (now : ℕ) (s : Notices) (past : History) → JobsFit s past → JobsFit (queue_job current what s).notices (added now (queue_job current what s).lines past)
queue_job-fits current what now s past f =
    record {
      made = ap suc f.made;
      row = Row-last (count_lines is_run past) s.jobs_made s.jobs _ refl f.row;
      there = λ j one le. job-there past s.jobs_made j f.made f.there one le;
      kept = (eq-eqb (suc s.jobs_made) (suc (count_lines is_job past)) (ap suc f.made), f.kept);
    }

queue_jobs-fit : (current : Context) (jobs : List PromiseJob) (now : ℕ) (s : Notices) (past : History) → JobsFit s past → JobsFit (queue_jobs current jobs s).notices (added now (queue_jobs current jobs s).lines past)
queue_jobs-fit current [] now s past f = f
queue_jobs-fit current (j ∷ jobs) now s past f = queue_jobs-fit current jobs now (queue_job current (OfPromise j) s).notices (added now (queue_job current (OfPromise j) s).lines past) (queue_job-fits current (OfPromise j) now s past f)

-- other promises, with the same jobs
again-fits : (s s' : Notices) (past : History) → s'.jobs ≡ s.jobs → s'.jobs_made ≡ s.jobs_made → JobsFit s past → JobsFit s' past
again-fits s s' past x y f =
    record {
      made = y ∙ f.made;
      row = subst (λ (js : List WaitingJob). Row (count_lines is_run past) s'.jobs_made js) (sym x) (subst (λ (n : ℕ). Row (count_lines is_run past) n s.jobs) (sym y) f.row);
      there = f.there;
      kept = f.kept;
    }

settle_line-fits : (names : List (List ℕ)) (n : ℕ) (o : Option Settled) (now : ℕ) (s : Notices) (past : History) → JobsFit s past → JobsFit s (added now (settle_line names n o) past)
settle_line-fits names n None now s past f = f
settle_line-fits names n (Some (Fulfilled v)) now s past f = silent-fits (Settle n true _) now s past refl f
settle_line-fits names n (Some (Failed v)) now s past f = silent-fits (Settle n false _) now s past refl f

if_settled-fits : (b : Bool) (names : List (List ℕ)) (n : ℕ) (o : Option Settled) (now : ℕ) (s : Notices) (past : History) → JobsFit s past → JobsFit s (added now (cond b (settle_line names n o) []) past)
if_settled-fits true names n o now s past f = settle_line-fits names n o now s past f
if_settled-fits false names n o now s past f = f

changed-fits : (current : Context) (names : List (List ℕ)) (n : ℕ) (c : Promises.Change) (now : ℕ) (s : Notices) (past : History) → JobsFit s past → JobsFit (changed current names n c s).notices (added now (changed current names n c s).lines past)
changed-fits current names n c now s past f =
    let d = promise_changed names n c s in
    let first : JobsFit d.notices (added now d.lines past) =
    if_settled-fits c.settled names n c.promise.outcome now d.notices past (again-fits s d.notices past refl refl f) in
    subst (JobsFit (changed current names n c s).notices) (sym (added-append now d.lines (queue_jobs current c.jobs d.notices).lines past)) (queue_jobs-fit current c.jobs now d.notices (added now d.lines past) first)

-- a job runs
run-fits : (now : ℕ) (s : Notices) (past : History) (j : WaitingJob) (others : List WaitingJob) → s.jobs ≡ j ∷ others → JobsFit s past → JobsFit (record s { jobs = others }) (record { time = now; event = Run j.number } ∷ past)
run-fits now s past j others x f =
    let row : j.number ≡ suc (count_lines is_run past) × Row (suc (count_lines is_run past)) s.jobs_made others = subst (Row (count_lines is_run past) s.jobs_made) x f.row in
    let last = Row-le (suc (count_lines is_run past)) s.jobs_made others row.1 in
    record {
      made = f.made;
      row = row.1;
      there = f.there;
      kept = (both (eq-eqb j.number (suc (count_lines is_run past)) row.0) (f.there j.number (omega (arith, row.0)) (omega (arith, row.0, last, f.made))), f.kept);
    }
  where
    both : {a b : Bool} → a ≡ true → b ≡ true → a && b ≡ true
    both {a = true} x y = y
    both {a = false} x y = x

-- ---- moves

abbrev pub Fits : Page → Type 0
Fits p = JobsFit p.notices p.events

notices-fit : (f : Notices → Noticed) (p : Page) → JobsFit (f p.notices).notices (added p.now (f p.notices).lines p.events) → Fits (on_notices f p)
notices-fit f p h =
    let q : Page = record p { notices = (f p.notices).notices } in
    let lines = (f p.notices).lines in
    subst (λ (s : Notices). JobsFit s (emit_each lines q).events) (sym (emit_each-notices lines q)) (subst (JobsFit (f p.notices).notices) (sym (emit_each-events lines q)) h)

changes-fit : (n : ℕ) (c : Promises.Change) (p : Page) → Fits p → Fits (promise_changes n c p)
changes-fit n c p f = notices-fit (λ s. changed (context p) p.names n c s) p (changed-fits (context p) p.names n c p.now p.notices p.events f)

subscribed-fits : (n : ℕ) (r : Reaction) (p : Page) → Fits p → Fits (on_notices (subscribe_promise (context p) n r) p)
subscribed-fits n r p f =
    let s : Notices = record p.notices { rejected = without (λ m. m == n) p.notices.rejected; outstanding = without (λ m. m == n) p.notices.outstanding } in
    notices-fit (subscribe_promise (context p) n r) p (changed-fits (context p) [] n (Promises.subscribe n (the_promise p.notices.promises n) r) p.now s p.events (again-fits p.notices s p.events refl refl f))

noted-fits : (n : ℕ) (s : Notices) (past : History) → JobsFit s past → JobsFit (note_outstanding n s) past
noted-fits n s past f = by_handled (the_promise s.promises n).handled
  where
    by_handled : (b : Bool) → JobsFit (cond b s (record s { outstanding = and_last s.outstanding n })) past
    by_handled true = f
    by_handled false = again-fits s (record s { outstanding = and_last s.outstanding n }) past refl refl f

before-fits : {p q : Page} → AsBefore p q → Fits p → Fits q
before-fits {p = p} {q = q} b f = subst (λ (s : Notices). JobsFit s q.events) (sym b.notices) (subst (JobsFit p.notices) (sym b.events) f)

registered-fits : (k : RegKind) (x : Registration) (p : Page) → Fits p → Fits (register_as k x p)
registered-fits k x p f = silent-fits (Reg (suc (length p.registrations)) k (caller p)) p.now p.notices p.events refl f

change-fits : {p q : Page} → PageChange p q → Fits p → Fits q
change-fits (elsewhere c b k) f = before-fits b f
change-fits {p = p} (told e h) f = silent-fits e p.now p.notices p.events (aside-silent e h) f
change-fits {p = p} (arm_told r due level w well) f = silent-fits (Arm r due level) p.now p.notices p.events refl f
change-fits {p = p} (rested e h x y z over begun done) f = rest-fits e p.now p.notices p.events h y f
change-fits {p = p} (answered source task t answer x y live z b) f = before-fits b (silent-fits (Host t.closure t.number answer) p.now p.notices p.events refl f)
change-fits {p = p} (registered kind x e unframed u b at) f = before-fits b (registered-fits kind x p f)
change-fits {p = p} (frame_asked g) f = silent-fits (Reg (suc (length p.registrations)) kind.Frame (caller p)) p.now p.notices p.events refl f
change-fits {p = p} (dropped r d b) f = before-fits b (silent-fits (Drop r) p.now p.notices p.events refl f)
change-fits {p = p} (task_dropped r role a e s b) f = before-fits b (silent-fits (Drop r) p.now p.notices p.events refl f)
change-fits {p = p} (enqueued_anew kind x t queue e i s n b) f =
    before-fits b (silent-fits (Enq t.registration queue t.continuation t.order) p.now p.notices (register_as kind x p).events refl (registered-fits kind x p f))
change-fits {p = p} (fell_due r d b by) f = before-fits b (silent-fits (Due r) p.now p.notices p.events refl f)
change-fits {p = p} (post_fell_due start source t queue e role a s n b by) f =
    before-fits b (silent-fits (Enq t.registration queue t.continuation t.order) p.now p.notices (emit (Due t.registration) p).events refl (silent-fits (Due t.registration) p.now p.notices p.events refl f))
change-fits {p = p} (prio_told s priority ps c) f = silent-fits (Prio s priority) p.now p.notices p.events refl f
change-fits {p = p} (frame_dropped handle c e role) f = silent-fits (Drop c.registration) p.now p.notices p.events refl f
change-fits {p = p} promised f = again-fits p.notices _ p.events refl refl f
change-fits {p = p} (settled n how x y) f = changes-fit n (Promises.settle n (the_promise p.notices.promises n) how) p f
change-fits {p = p} (followed n how x y) f = changes-fit n (Promises.settle n (the_promise p.notices.promises n) how) p f
change-fits {p = p} (adopted n from x y) f = changes-fit n (Promises.adopt n (the_promise p.notices.promises n) from) p f
change-fits {p = p} (subscribed n r x y) f = subscribed-fits n r p f
change-fits {p = p} (then_asked n x r e g y) f = subscribed-fits n r (register_as kind.Then x p) (registered-fits kind.Then x p f)
change-fits {p = p} (micro_asked x r e y) f =
    let made = register_as kind.Micro x p in
    notices-fit (queue_micro (context p) r) made (queue_job-fits (context p) (Micro r) p.now p.notices made.events (registered-fits kind.Micro x p f))
change-fits {p = p} rejected_taken f = again-fits p.notices _ p.events refl refl f
change-fits {p = p} (noted n) f = noted-fits n p.notices p.events f

begins-fit : (b : Beginning) (p : Page) → Waited b p → Fits p → Fits (taken b p)
begins-fit (TheScript source task) p w f = f
begins-fit (ATimer source task t) p w f = f
begins-fit (AFrame key c) p w f = f
begins-fit (AnIdle c others) p w f = silent-fits (IdleLine (deadline p.last_idle_start p)) p.now p.notices p.events refl f
begins-fit (ALateIdle handle c) p w f = f
begins-fit (AListener r) p w f = f
begins-fit (APost t) p w f = rest-fits (Turn p.turns (Some Sched)) p.now p.notices p.events refl w.3 f
begins-fit (AContinuation t) p w f = rest-fits (Turn p.turns (Some Sched)) p.now p.notices p.events refl w.3 f
begins-fit (AMicro job others r) p w f = run-fits p.now p.notices p.events job others w.0 f
begins-fit (AReaction job others of x r) p w f = run-fits p.now p.notices p.events job others w.0 f

moves-fit : {p q : Page} → Moves p q → Fits p → Fits q
moves-fit here f = f
moves-fit (changing a c plain) f = change-fits c (moves-fit a f)
moves-fit (arming a c e w) f = change-fits e (change-fits c (moves-fit a f))
moves-fit (calling {q = q} a b w i) f = silent-fits (Call (called_by b)) (taken b q).now (taken b q).notices (taken b q).events refl (begins-fit b q w (moves-fit a f))
moves-fit (ending {q = q} a e h) f = silent-fits e q.now q.notices q.events (end-silent e h) (moves-fit a f)
moves-fit (flagging {q = q} {r = r} a x y z w u v t j) f = subst (λ (s : Notices). JobsFit s r.events) (sym x) (subst (JobsFit q.notices) (sym y) (moves-fit a f))
moves-fit (running {q = q} a j others x y nm) f = run-fits q.now q.notices q.events j others x (moves-fit a f)
moves-fit (framing {q = q} a t) f = silent-fits (Frame t) q.now q.notices q.events refl (moves-fit a f)
moves-fit (idling a none) f = moves-fit a f

-- from a page with no lines and no jobs on, they fit, and jobs go in order
pub fits_later : {p q : Page} → Moves p q → p.events ≡ [] → p.notices.jobs ≡ [] → p.notices.jobs_made ≡ 0 → Fits q
fits_later {p = p} a x y z = moves-fit a (begin p.notices p.events x y z)
  where
    begin : (s : Notices) (past : History) → past ≡ [] → s.jobs ≡ [] → s.jobs_made ≡ 0 → JobsFit s past
    begin s past x y z =
        subst (JobsFit s) (sym x) (record {
          made = z;
          row = subst (λ (js : List WaitingJob). Row 0 s.jobs_made js) (sym y) (sym z);
          there = λ j one le. absurd (omega (arith, one, le));
          kept = tt;
        })

pub jobs_in_order : {p q : Page} → Moves p q → p.events ≡ [] → p.notices.jobs ≡ [] → p.notices.jobs_made ≡ 0 → Kept in_order q.events
jobs_in_order a x y z = (fits_later a x y z).kept
