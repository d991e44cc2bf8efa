-- What the page does with a callback's lines, its jobs and its promises leaves its time, its names and all that is counted.
use Rattle.std.proofs.Common.{◌≡◌, ℕ, Bool, true, false, cond, List, [], ◌∷◌, Option, refl}
use Rattle.page_types.specs.Values.{Value}
use Rattle.page_types.specs.Events.{Event}
use Rattle.page_types.specs.declared.Source.TheVariants.{Dom}
use Rattle.page_parts.specs.Words.{is_empty}
use Rattle.page_parts.specs.Promises.{Settled, Reaction}
use Rattle.page_parts.specs.Notices.{WaitingJob}
use Rattle.page_model.specs.State.{NotifyRejected, Page, no_registration, queue_task}
use Rattle.page_model.specs.PagePromises as promises
use Rattle.page_model.specs.PageCombinators.{lead_into}
use Rattle.page_model.specs.Invoke.{WhenReported, BeforeCheckpoint, AfterCheckpoint, Never, call_begun, call_ended, report_after, checkpoint_begun, checkpoint_ended}
use Rattle.page_model.specs.FoldBounds.{counted}
use Rattle.page_model.proofs.Adding.Combining.{lead_into-related, resolve_derived-related}
use Rattle.page_model.proofs.Bounding.Counting.{settle-leaves}
use Rattle.page_model.proofs.Bounding.Bounded.{subscribe-leaves, relates-leaves}
use Rattle.page_rules.proofs.KeepingTurns.{settle-steady, subscribe-steady, lead_into-steady, resolve_derived-steady}
use Rattle.page_rules.specs.Steady.{SteadyInScript}
use Rattle.page_script.specs.Jobs.{begun_of, oldest_begun}
use Rattle.page_host.specs.Pieces.{threw, derived}

-- what is counted of a page, the script's names and the time stay
pub record IsQuiet (p q : Page) : Type 0 where
  pub counted : counted q ≡ counted p
  pub names : q.names ≡ p.names
  pub now : q.now ≡ p.now

abbrev pub Quiet : (Page → Page) → Type 0
Quiet f = (p : Page) → IsQuiet p (f p)

by-steady : {p q : Page} → counted q ≡ counted p → SteadyInScript p q → IsQuiet p q
by-steady e s = record { counted = e; names = s.stays.stays.names; now = s.now }

pub call_begun-quiet : (r : ℕ) → Quiet (call_begun r)
call_begun-quiet r p = record { counted = refl; names = refl; now = refl }

pub call_ended-quiet : (line : Event) → Quiet (call_ended line)
call_ended-quiet line p = record { counted = refl; names = refl; now = refl }

pub threw-quiet : (when : WhenReported) (v : Value) → Quiet (threw when v)
threw-quiet BeforeCheckpoint v p = record { counted = refl; names = refl; now = refl }
threw-quiet AfterCheckpoint v p = record { counted = refl; names = refl; now = refl }
threw-quiet Never v p = record { counted = refl; names = refl; now = refl }

pub report_after-quiet : (when : WhenReported) (v : Value) → Quiet (report_after when v)
report_after-quiet BeforeCheckpoint v p = record { counted = refl; names = refl; now = refl }
report_after-quiet AfterCheckpoint v p = record { counted = refl; names = refl; now = refl }
report_after-quiet Never v p = record { counted = refl; names = refl; now = refl }

pub oldest_begun-quiet : Quiet oldest_begun
oldest_begun-quiet p = by p.notices.jobs
  where
    by : (jobs : List WaitingJob) → IsQuiet p (begun_of jobs p)
    by [] = record { counted = refl; names = refl; now = refl }
    by (job ∷ others) = record { counted = refl; names = refl; now = refl }

pub settle-quiet : (n : ℕ) (how : Settled) → Quiet (promises.settle n how)
settle-quiet n how p = by-steady (settle-leaves n how p) (settle-steady n how p)

pub lead_into-quiet : (into : ℕ) (how : Settled) → Quiet (lead_into into how)
lead_into-quiet into how p = by-steady (lead_into-related (λ p q. counted q ≡ counted p) relates-leaves into how p) (lead_into-steady into how p)

pub subscribe-quiet : (n : ℕ) (r : Reaction) → Quiet (promises.subscribe n r)
subscribe-quiet n r p = by-steady (subscribe-leaves n r p) (subscribe-steady n r p)

pub derived-quiet : (finally : Bool) (into : ℕ) (how : Settled) (v : Value) → Quiet (derived finally into how v)
derived-quiet finally into how v p =
    let x = record no_registration { finally = finally } in
    by-steady (resolve_derived-related (λ p q. counted q ≡ counted p) relates-leaves x into how v p) (resolve_derived-steady x into how v p)

pub scheduling-quiet : (s : Option ℕ) → Quiet (λ p. record p { scheduling = s })
scheduling-quiet s p = record { counted = refl; names = refl; now = refl }

pub checkpoint_begun-quiet : Quiet checkpoint_begun
checkpoint_begun-quiet p = record { counted = refl; names = refl; now = refl }

ended-quiet : (b : Bool) (before : Page) (p : Page)
    → IsQuiet p (record (cond b p (queue_task Dom (NotifyRejected p.notices.rejected) (record p { notices = record p.notices { rejected = [] } }))) { performing = false; level = before.level; scheduling = before.scheduling })
ended-quiet true before p = record { counted = refl; names = refl; now = refl }
ended-quiet false before p = record { counted = refl; names = refl; now = refl }

pub checkpoint_ended-quiet : (before : Page → Page) → Quiet (λ p. checkpoint_ended (before p) p)
checkpoint_ended-quiet before p = ended-quiet (is_empty p.notices.rejected) (before p) p

silent : (b : Bool) (before : Page) (p : Page)
    → (record (cond b p (queue_task Dom (NotifyRejected p.notices.rejected) (record p { notices = record p.notices { rejected = [] } }))) { performing = false; level = before.level; scheduling = before.scheduling }).events ≡ p.events
silent true before p = refl
silent false before p = refl

-- the end of a checkpoint writes no line
pub checkpoint_ended-silent : (before p : Page) → (checkpoint_ended before p).events ≡ p.events
checkpoint_ended-silent before p = silent (is_empty p.notices.rejected) before p
