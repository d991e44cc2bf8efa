-- What calls tell that settle nothing.
use Rattle.std.proofs.Common.{◌≡◌, ℕ, false, [], Vec, Global, ap, sym, ◌∙◌}
use Rattle.page_parts.specs.Promises as Parts
use Rattle.page_parts.specs.Promises.{no_change}
use Rattle.promise_core.specs.declared.record.Change.{Change}
use Rattle.promise_core.specs.declared.record.Job.{Job}
use Rattle.promise_core.specs.Seen.{jobs_seen}
use Rattle.promise_core.specs.Held.{Held, changed}
use Rattle.page_parts.specs.Promises.{the_promise}
use Rattle.promise_core.specs.Changes.{Tells, Brings}
use Rattle.promise_core.proofs.HeldLemmas.{changed-not}

-- what tells jobs alone
pub tells-jobs : (told : Change) (js : Vec Job Global) (change : Parts.Change) → told ≡ record { settled = false; jobs = js; newly_rejected = false }
    → change.settled ≡ false → change.newly_rejected ≡ false → jobs_seen js.items ≡ change.jobs → Tells told change
tells-jobs told js change is a b jobs =
    record {
      settled = ap (λ t. t.settled) is ∙ sym a;
      jobs = ap (λ t. jobs_seen t.jobs.items) is ∙ jobs;
      newly_rejected = ap (λ t. t.newly_rejected) is ∙ sym b;
    }

-- where nothing happens to a promise, nothing is told
pub brings-nothing : (told : Change) (js : Vec Job Global) (n : ℕ) (s : Held) (change : Parts.Change) → told ≡ record { settled = false; jobs = js; newly_rejected = false }
    → js.items ≡ [] → change ≡ no_change (the_promise s.promises n) → Brings told n change s s
brings-nothing told js n s change is none same =
    record {
      state = sym (ap (λ c. changed n c s) same ∙ changed-not n s);
      tells = tells-jobs told js change is (ap (λ c. c.settled) same) (ap (λ c. c.newly_rejected) same) (ap jobs_seen none ∙ sym (ap (λ c. c.jobs) same));
    }
