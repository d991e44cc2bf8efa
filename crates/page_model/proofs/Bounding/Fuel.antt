-- The bounds that are units of fuel suffice: for the jobs of a checkpoint, the turns of a loop and the turns of a run.
use Rattle.std.proofs.Common.{◌≡◌, ℕ, zero, suc, ◌≤◌, ◌<◌, Bool, true, false, List, [], ◌∷◌, Option, Some, None, refl, arith}
use Rattle.page_types.specs.Values.{Value}
use Rattle.page_types.specs.Tree.{Program, Expr, Block}
use Rattle.page_types.specs.declared.FaultName.TheVariants.{TypeError}
use Rattle.page_parts.specs.Kinds.{bool_in}
use Rattle.page_parts.specs.Notices.{WaitingJob}
use Rattle.lang_meaning.specs.Machine.{Done, Gives, Throws, Returns, OutOfFuel, and_then, afterwards, finish, given, branch, take_unit, with_fuel, Caller}
use Rattle.lang_meaning.specs.Evaluation.{tested, eval, exec_block, loop_turns, calls, call_from_outside}
use Rattle.page_model.specs.State.{Page, State}
use Rattle.page_model.specs.Invoke.{run_job, begin_job, run_oldest, run_jobs}
use Rattle.page_model.specs.Operations.{page_operations}
use Rattle.page_model.specs.Choosing.{Rules}
use Rattle.page_model.specs.Turns.{Turned, GoesOn, Ended, Stuck, turn, next_turn, turns}
use Rattle.page_model.specs.FuelAndTime.{end_state, Forward, CallsForward, TurnForward}
use Rattle.page_model.specs.Bounds.{run_jobs_or, loop_turns_or, at_depth, turns_or}
use Rattle.page_model.proofs.Holding.Evaluation.{eval-holds, block-holds}
use Rattle.page_model.proofs.Holding.Runs.{K, begun-goes}
use Rattle.page_model.proofs.Holding.Operations.{page_operations-go, calls-go, outside-go}
use Rattle.page_model.proofs.Holding.Turns.{turn-kept}
use Rattle.page_model.proofs.Holding.FuelAndTime.{forward, no_script, forward_of, goes_forward, calls_forward, Took, took_on, took, turn_forward}

-- ---- steps that agree where no more fuel is left than n units

-- the same is done afterwards
afterwards-agree : (n : ℕ) (d : Done Page) (next next' : State → Done Page) → (end_state d).fuel ≤ n → ((m : State) → m.fuel ≤ n → next m ≡ next' m) → afterwards d next ≡ afterwards d next'
afterwards-agree n (Gives v m) next next' h q = q m h
afterwards-agree n (Throws v m) next next' h q = q m h
afterwards-agree n (Returns v m) next next' h q = q m h
afterwards-agree n (OutOfFuel m) next next' h q = refl

and_then-agree : (n : ℕ) (d : Done Page) (next next' : Value → State → Done Page) → (end_state d).fuel ≤ n → ((v : Value) (m : State) → m.fuel ≤ n → next v m ≡ next' v m) → and_then d next ≡ and_then d next'
and_then-agree n (Gives v m) next next' h q = q v m h
and_then-agree n (Throws v m) next next' h q = refl
and_then-agree n (Returns v m) next next' h q = refl
and_then-agree n (OutOfFuel m) next next' h q = refl

branch-agree : (b : Bool) (m : State) (then then' else : State → Done Page) → then m ≡ then' m → branch b m then else ≡ branch b m then' else
branch-agree true m then then' else h = h
branch-agree false m then then' else h = refl

tested-agree : (v : Value) (m : State) (then then' else : State → Done Page) → then m ≡ then' m → tested v m then else ≡ tested v m then' else
tested-agree v m then then' else h = by_value (bool_in v)
  where
    by_value : (o : Option Bool) → given o TypeError m (λ b m. branch b m then else) ≡ given o TypeError m (λ b m. branch b m then' else)
    by_value None = refl
    by_value (Some b) = branch-agree b m then then' else h

-- after a unit of at most n was taken, less than n is left
take_unit-agree : (n : ℕ) (m : State) (next next' : State → Done Page) → m.fuel ≤ n → ((a : State) → suc a.fuel ≤ n → next a ≡ next' a) → take_unit m next ≡ take_unit m next'
take_unit-agree n m next next' h q = by_fuel m.fuel refl
  where
    by_fuel : (fuel : ℕ) → m.fuel ≡ fuel → with_fuel fuel m next ≡ with_fuel fuel m next'
    by_fuel zero e = refl
    by_fuel (suc left) e = q (record m { fuel = left }) (omega arith)

-- ---- jobs

module _ (call : Caller Page) (calls_go : CallsForward call) (other : State → Done Page) where
  oldest-agree : (n : ℕ) (jobs : List WaitingJob) (m : State) (more more' : State → Done Page) → m.fuel ≤ n → ((a : State) → suc a.fuel ≤ n → more a ≡ more' a) → run_oldest call jobs more m ≡ run_oldest call jobs more' m
  oldest-agree n [] m more more' h q = refl
  oldest-agree n (job ∷ others) m more more' h q =
      take_unit-agree n m _ _ h
      (λ a less. afterwards-agree a.fuel (run_job call job.what (begin_job job others a)) more more'
      (forward_of no_script a (run_job call job.what (begin_job job others a)) (begun-goes no_script forward call (calls_forward no_script call calls_go) job others a tt)).fuel
      (λ b le. q b (omega arith)))

  pub run_jobs-agree : (n k : ℕ) (m : State) → m.fuel < n → m.fuel < k → run_jobs_or other call n m ≡ run_jobs call k m
  run_jobs-agree zero k m h h' = absurd (omega arith)
  run_jobs-agree (suc n) zero m h h' = absurd (omega arith)
  run_jobs-agree (suc n) (suc k) m h h' =
      oldest-agree m.fuel m.host.notices.jobs m (run_jobs_or other call n) (run_jobs call k) (omega arith) (λ a less. run_jobs-agree n k a (omega arith) (omega arith))

-- ---- loops

module _ (test body : State → Done Page) (test_goes : Forward test) (body_goes : Forward body) (other : State → Done Page) where
  pub loop_turns-agree : (n k : ℕ) (m : State) → m.fuel < n → m.fuel < k → loop_turns_or other n test body m ≡ loop_turns k test body m
  loop_turns-agree zero k m h h' = absurd (omega arith)
  loop_turns-agree (suc n) zero m h h' = absurd (omega arith)
  loop_turns-agree (suc n) (suc k) m h h' =
      and_then-agree m.fuel (test m) _ _ (test_goes m).fuel
      (λ v a le. tested-agree v a _ _ finish
      (take_unit-agree m.fuel a _ _ le
      (λ b less. and_then-agree b.fuel (body b) _ _ (body_goes b).fuel (λ u r le'. loop_turns-agree n k r (omega arith) (omega arith)))))

pub eval_forward : (program : Program) (depth : ℕ) (e : Expr) → Forward (eval (at_depth program depth) e)
eval_forward program depth e =
    goes_forward program (eval (at_depth program depth) e)
    (eval-holds (K program forward) (calls program page_operations depth) (page_operations (calls program page_operations depth)) (calls-go program forward depth) (page_operations-go program forward (calls program page_operations depth) (calls-go program forward depth)) e)

pub block_forward : (program : Program) (depth : ℕ) (b : Block) → Forward (exec_block (at_depth program depth) b)
block_forward program depth b =
    goes_forward program (exec_block (at_depth program depth) b)
    (block-holds (K program forward) (calls program page_operations depth) (page_operations (calls program page_operations depth)) (calls-go program forward depth) (page_operations-go program forward (calls program page_operations depth) (calls-go program forward depth)) b)

-- ---- the turns of a run

module _ {C : Type 0} (rules : Rules C) (program : Program) (other : State → C → Turned C) where
  abbrev outside : Caller Page
  outside = call_from_outside program page_operations

  next_turn-agree : (n : ℕ) (m : State) (t : Turned C) (next next' : State → C → Turned C) → m.fuel ≤ n → TurnForward m t → ((a : State) (c : C) → suc a.fuel ≤ n → next a c ≡ next' a c) → next_turn t next ≡ next_turn t next'
  next_turn-agree n m (GoesOn a c) next next' h k q = q a c (let less = k.1 in omega arith)
  next_turn-agree n m (Ended end a c) next next' h k q = refl
  next_turn-agree n m (Stuck at a c) next next' h k q = refl

  pub turns-agree : (until n k : ℕ) (m : State) (c : C) → m.fuel < n → m.fuel < k → turns_or other rules outside until n m c ≡ turns rules outside until k m c
  turns-agree until zero k m c h h' = absurd (omega arith)
  turns-agree until (suc n) zero m c h h' = absurd (omega arith)
  turns-agree until (suc n) (suc k) m c h h' =
      next_turn-agree m.fuel m (turn rules outside until m c) _ _ (omega arith)
      (turn_forward program m (turn rules outside until m c) (turn-kept program forward Took took_on took rules outside (outside-go program forward) until m c tt))
      (λ a c less. turns-agree until n k a c (omega arith) (omega arith))
