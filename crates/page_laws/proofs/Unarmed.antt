-- What was not registered is armed nowhere.
use Rattle.std.proofs.Common.{◌≡◌, inl, inr, ℕ, ◌≤◌, ◌<◌, List, [], ◌∷◌, sym, subst, length, arith}
use Rattle.page_model.specs.State.{Page, Task, Steps, RunTimer, Completion, QueueTimer, EnqueuePost, QueueSignal, Completing, IdleTimer, HostAnswer}
use Rattle.page_model.specs.Numbers.{Each, Made, made_by, StepsAreGiven, TaskIsGiven, CompletionIsGiven, CompletingIsGiven, IdleTimerIsGiven, HostTaskIsGiven}
use Rattle.page_model.proofs.GivenNumbers.Growing.{Held, InTasks, InCompletions, InIdleTimers, InHostAnswers}
use Rattle.page_laws.specs.Moves.{IsIn, HasSteps, IsUnarmed, Places, places, completes_for}

pub each-in : {X : Type 0} (P : X → Type 0) (xs : List X) → Each P xs → (x : X) → IsIn x xs → P x
each-in P [] h x i = elim i [ ]
each-in P (y ∷ ys) h x (inl e) = subst P (sym e) h.0
each-in P (y ∷ ys) h x (inr i) = each-in P ys h.1 x i

steps-given : (n : Made) (steps : Steps) (ts : List Task) → Each (TaskIsGiven n) ts → HasSteps steps ts → StepsAreGiven n steps
steps-given n steps [] h s = elim s [ ]
steps-given n steps (t ∷ ts) h (inl e) = subst (StepsAreGiven n) e h.0.steps
steps-given n steps (t ∷ ts) h (inr s) = steps-given n steps ts h.1 s

completes-given : (n : Made) (c : Completion) → CompletionIsGiven n c → completes_for c ≤ length n.registrations
completes-given n (QueueTimer t) h = h.registration.registration.to_last
completes-given n (EnqueuePost r source) h = h.2.registration.to_last
completes-given n (QueueSignal r s) h = h.0.registration.to_last

-- a number above all registrations
pub unregistered-unarmed : (p : Page) (r : ℕ) → Held (made_by p) p → length p.registrations < r → IsUnarmed r (places p)
unregistered-unarmed p r h le =
    record {
      completions = λ c i e. let a = completes-given (made_by p) c.completion (each-in (CompletingIsGiven (made_by p)) p.completions (h InCompletions) c i).completion in absurd (omega (arith, a, e, le));
      tasks = λ t s e. let a = (steps-given (made_by p) (RunTimer t) p.tasks (h InTasks) s).registration.registration.to_last in absurd (omega (arith, a, e, le));
      idle_timers = λ t i e. let a = (each-in (IdleTimerIsGiven (made_by p)) p.idle_timers (h InIdleTimers) t i).registration.registration.to_last in absurd (omega (arith, a, e, le));
      host_answers = λ a i e. let b = (each-in (λ a. HostTaskIsGiven (made_by p) a.task) p.host_answers (h InHostAnswers) a i).kind.registration.to_last in absurd (omega (arith, b, e, le));
    }

-- at other places with the same of these
pub same-unarmed : (r : ℕ) (x y : Places) → y.completions ≡ x.completions → y.tasks ≡ x.tasks → y.idle_timers ≡ x.idle_timers → y.host_answers ≡ x.host_answers → IsUnarmed r x → IsUnarmed r y
same-unarmed r x y a b c d u =
    record {
      completions = λ k i. u.completions k (subst (λ (cs : List Completing). IsIn k cs) a i);
      tasks = λ t s. u.tasks t (subst (HasSteps (RunTimer t)) b s);
      idle_timers = λ t i. u.idle_timers t (subst (λ (ts : List IdleTimer). IsIn t ts) c i);
      host_answers = λ k i. u.host_answers k (subst (λ (ks : List HostAnswer). IsIn k ks) d i);
    }
