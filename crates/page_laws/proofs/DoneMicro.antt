-- Where a run ends for nothing is left to do, each job was run, and each microtask callback was called: it waits in its job, and none waits then.
use Rattle.std.proofs.Common.{◌≡◌, ◌⊎◌, inl, inr, ℕ, suc, ◌≤◌, Bool, true, false, ◌&&◌, List, [], ◌∷◌, Option, Some, None, refl, sym, subst, ap, ◌∙◌, arith, zero}
use Rattle.std.proofs.lemmas.Bool.{eq-eqb}
use Rattle.std.specs.Prelude.{◌==◌}
use Rattle.page_types.specs.declared.RegKind.{RegKind}
use Rattle.page_types.specs.declared.RegKind.TheVariants as kind
use Rattle.page_types.specs.Tree.{Program}
use Rattle.page_parts.specs.Setup.{Setup}
use Rattle.page_parts.specs.HostClosures.{HostClosure}
use Rattle.page_parts.specs.Notices.{Notices, Todo, Micro, WaitingJob}
use Rattle.page_parts.specs.TaskSignals.{Prios}
use Rattle.page_model.specs.State.{Page, OfKind, ScriptRole, Role, Registration}
use Rattle.page_model.specs.Turns.{first_page}
use Rattle.page_laws.specs.CallLaws.{no_job_waits}
use Rattle.page_laws.specs.History.{count_lines, has_kind, is_job, is_run, is_some_and, kind_of, registered}
use Rattle.page_laws.specs.TimerLaws.{was_done}
use Rattle.page_laws.specs.SchedulerLaws.{is_micro, micros_are_over}
use Rattle.page_laws.specs.Moves as moves
use Rattle.page_laws.specs.Moves.{role_at, IsIn, Places, Beginning, TheScript, ATimer, AFrame, AnIdle, ALateIdle, AListener, APost, AContinuation, AMicro, AReaction, called_by, taken, FirstPlace, nowhere, at_listener, at_timer, at_delay, at_idle, at_host, fits_first, Waited, Moves}
use Rattle.page_laws.proofs.AtEnd.{done_test, moves-kept}
use Rattle.page_laws.proofs.Deadlines.{all-filter}
use Rattle.page_laws.proofs.DueOrder.{Grounds, first-grounds, grounds-later}
use Rattle.page_laws.proofs.Framed.{false_true}
use Rattle.page_laws.proofs.Jobs as jobs
use Rattle.page_laws.proofs.Over.{Always, Fits, Leaving, WaitOn, is-last, moves-over}
use Rattle.page_laws.proofs.Registered.{kind_in_role, some-line}
use Rattle.page_laws.proofs.Scans.{Test, Kept}

-- a job waits that calls registration r
record HasMicro (r : ℕ) (js : List WaitingJob) : Type 0 where
  job : WaitingJob
  there : IsIn job js
  own : job.what ≡ Micro r

abbrev InJobs : ℕ → Places → Notices → Type 0
InJobs r x s = HasMicro r s.jobs

on-wait : (r : ℕ) (x : Places) (s t : Notices) → WaitOn s t → InJobs r x s → InJobs r x t
on-wait r x s t h w = record { job = w.job; there = h w.job w.there; own = w.own }

no-first : {xs : List Registration} {ps : Prios} {n : ℕ} {x y : Places} (u : FirstPlace xs ps n x y) → fits_first kind.Micro u ≡ true → (s : Notices) → InJobs n y s
no-first nowhere at s = absurd (false_true at)
no-first (at_listener target name q e) at s = absurd (false_true at)
no-first (at_timer a t e first) at s = absurd (false_true at)
no-first (at_delay ms now q source e h) at s = absurd (false_true at)
no-first (at_idle q e) at s = absurd (false_true at)
no-first (at_host c a e there live) at s = absurd (false_true at)

-- the job that leaves is another one, or that of r
behind : (r : ℕ) (job : WaitingJob) (others js : List WaitingJob) → js ≡ job ∷ others → HasMicro r js → (job.what ≡ Micro r) ⊎ HasMicro r others
behind r job others js e w = by_place (subst (IsIn w.job) e w.there)
  where
    by_place : IsIn w.job (job ∷ others) → (job.what ≡ Micro r) ⊎ HasMicro r others
    by_place (inl same) = inl (ap {A = WaitingJob} {B = Todo} (λ j. j.what) (sym same) ∙ w.own)
    by_place (inr i) = inr (record { job = w.job; there = i; own = w.own })

micro-number : (r q : ℕ) → Micro r ≡ Micro q → r ≡ q
micro-number r q e = ap numbers e
  where
    numbers : Todo → ℕ
    numbers (Micro n) = n
    numbers job = 0

called : (b : Beginning) (p : Page) → Always p → Waited b p → (r : ℕ) → role_at p.registrations r ≡ OfKind kind.Micro → HasMicro r p.notices.jobs → (called_by b ≡ r) ⊎ HasMicro r (taken b p).notices.jobs
called (TheScript source task) p g w r role v = inr v
called (ATimer source task t) p g w r role v = inr v
called (AFrame key c) p g w r role v = inr v
called (AnIdle c others) p g w r role v = inr v
called (ALateIdle handle c) p g w r role v = inr v
called (AListener q) p g w r role v = inr v
called (APost t) p g w r role v = inr v
called (AContinuation t) p g w r role v = inr v
called (AMicro job others q) p g w r role v = by_job (behind r job others p.notices.jobs w.0 v)
  where
    by_job : (job.what ≡ Micro r) ⊎ HasMicro r others → (q ≡ r) ⊎ HasMicro r others
    by_job (inl e) = inl (micro-number q r (sym w.1 ∙ e))
    by_job (inr i) = inr i
called (AReaction job others of x q) p g w r role v = by_job (behind r job others p.notices.jobs w.0 v)
  where
    by_job : (job.what ≡ Micro r) ⊎ HasMicro r others → (q ≡ r) ⊎ HasMicro r others
    by_job (inl e) = absurd (false_true (ap moves.is_micro (sym w.1 ∙ e)))
    by_job (inr i) = inr i

ran : (job : WaitingJob) (others : List WaitingJob) (r : ℕ) (x : Places) (s : Notices) → s.jobs ≡ job ∷ others → moves.is_micro job.what ≡ false → HasMicro r s.jobs → HasMicro r others
ran job others r x s e plain v = by_job (behind r job others s.jobs e v)
  where
    by_job : (job.what ≡ Micro r) ⊎ HasMicro r others → HasMicro r others
    by_job (inl z) = absurd (false_true (sym plain ∙ ap moves.is_micro z))
    by_job (inr i) = i

leaving : Leaving kind.Micro true InJobs Always
leaving =
    record {
      first = no-first;
      queued = λ t x s h. absurd (false_true h);
      micro = λ same current r x s. record { job = record { number = suc s.jobs_made; what = Micro r; context = current }; there = is-last (record { number = suc s.jobs_made; what = Micro r; context = current }) s.jobs; own = refl };
      not_frame = λ e. Prim.cc;
      not_then = λ e. Prim.cc;
      jobs = on-wait;
      place = λ p g c made r s role w. inr w;
      others_first = λ u r s w. w;
      others_queued = λ t r x s w. w;
      answer = λ p g source task t e e1 r s w. w;
      due = λ p g d by r s role w. inr w;
      post_due = λ p g start q source e t z r s w. w;
      cancel = λ d r s role w. inr w;
      aborted = λ q p r s w. inr w;
      run = ran;
    }

-- ---- the end

micro_kind : (o : Option RegKind) → is_some_and is_micro o ≡ true → o ≡ Some kind.Micro
micro_kind None h = absurd (false_true h)
micro_kind (Some kind.Micro) h = refl
micro_kind (Some k) h = absurd (false_true h)

micro_role : (role : Role) → kind_in_role role ≡ Some kind.Micro → role ≡ OfKind kind.Micro
micro_role ScriptRole h = Prim.cc
micro_role (OfKind kind.Micro) h = refl
micro_role (OfKind k) h = Prim.cc

both : (a b : Bool) → a ≡ true → b ≡ true → a && b ≡ true
both true b x y = y
both false b x y = absurd (false_true x)

all-over : (p : Page) → Grounds p → Fits kind.Micro true InJobs Always leaving p → jobs.Fits p → p.notices.jobs ≡ [] → micros_are_over p.events ≡ true
all-over p g f j e = both (no_job_waits p.events) _ even (all-filter (has_kind is_micro p.events) (was_done p.events) (registered p.events) each)
  where
    even : count_lines is_job p.events == count_lines is_run p.events ≡ true
    even = eq-eqb _ _ (sym j.made ∙ sym (subst (jobs.Row (count_lines is_run p.events) p.notices.jobs_made) e j.row))

    none : (r : ℕ) → HasMicro r p.notices.jobs → ⊥
    none r w = subst (IsIn w.job) e w.there

    by_place : (r : ℕ) → was_done p.events r ≡ true ⊎ HasMicro r p.notices.jobs → was_done p.events r ≡ true
    by_place r (inl d) = d
    by_place r (inr w) = absurd (none r w)

    by_number : (r : ℕ) → kind_of p.events r ≡ Some kind.Micro → was_done p.events r ≡ true
    by_number zero k = absurd (false_true (sym g.idle.none ∙ some-line p.events 0 kind.Micro k))
    by_number (suc i) k = by_place (suc i) (f (suc i) (omega arith) (micro_role (role_at p.registrations (suc i)) (sym (g.once.kinds.tie (suc i) (omega arith)) ∙ k)))

    each : (r : ℕ) → has_kind is_micro p.events r ≡ true → was_done p.events r ≡ true
    each r is = by_number r (micro_kind (kind_of p.events r) is)

first-fits : (program : Program) (setup : Setup) (hosts : List HostClosure) → Fits kind.Micro true InJobs Always leaving (first_page program setup hosts)
first-fits program setup hosts r one role = absurd (none r one role)
  where
    no_script : ScriptRole ≡ OfKind kind.Micro → ⊥
    no_script e = Prim.cc

    none : (r : ℕ) → 1 ≤ r → role_at (first_page program setup hosts).registrations r ≡ OfKind kind.Micro → ⊥
    none zero one e = absurd (omega (arith, one))
    none (suc zero) one e = no_script e
    none (suc (suc i)) one e = no_script e

abbrev pub micros_over_test : Test
micros_over_test = done_test micros_are_over

pub micros_over_at_end : (program : Program) (setup : Setup) (hosts : List HostClosure) {q : Page} → Moves (first_page program setup hosts) q → Kept micros_over_test q.events
micros_over_at_end program setup hosts a =
    moves-kept micros_are_over a
    (λ r b z none. all-over r (grounds-later b (first-grounds program setup hosts)) (moves-over kind.Micro true InJobs Always leaving refl called (λ p q a g. tt) b tt (first-fits program setup hosts)) (jobs.fits_later b refl refl refl) none) tt
