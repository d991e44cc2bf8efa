-- Steps of a value, a throw or a return that comes back to a frame.
use Rattle.std.proofs.Common.{◌≡◌, ℕ, suc, ◌+◌, ◌*◌, ◌<◌, ◌≤◌, List, [], ◌∷◌, Some, None, true, false, Vec, Global, refl, sym, ap, ◌∙◌, arith}
use Rattle.std.specs.Borrow.{Bor}
use Rattle.page_types.specs.declared.FaultName.TheVariants.{TypeError}
use Rattle.page_types.specs.Values as Model
use Rattle.page_parts.specs.Kinds.{bool_in}
use Rattle.page_values.specs.declared.Value.{Value}
use Rattle.page_values.specs.declared.Value.TheVariants as value
use Rattle.page_values.specs.Seen.{seen}
use Rattle.lang_ast.specs.declared.tree.Named.{Named}
use Rattle.lang_ast.specs.declared.tree.Expr.{Expr}
use Rattle.lang_ast.specs.declared.tree.Stmt.{Stmt}
use Rattle.lang_ast.specs.Seen.{seen_expr, seen_exprs, seen_terms, seen_factors, seen_block}
use Rattle.lang_meaning.specs.Machine.{Machine}
use Rattle.lang_meaning.specs.Evaluation.{Around}
use Rattle.lang_meaning.specs.HostSteps.{HostRules}
use Rattle.lang_meaning.specs.Asks.{Limited}
use Rattle.page_interp.specs.declared.stack.Focus.{Focus}
use Rattle.page_interp.specs.declared.stack.Focus.TheVariants as focus
use Rattle.page_interp.specs.declared.stack.Frame.{Frame}
use Rattle.page_interp.specs.declared.stack.Frame.TheVariants as frame
use Rattle.page_interp.specs.declared.stack.Waiting.{Waiting}
use Rattle.page_interp.specs.declared.stack.Waiting.TheVariants as waiting
use Rattle.page_interp.specs.Frames.{does, focus_size, focus_weight, waiting_weight, FocusIsSound, after_all, meaning_at, steps_left}
use Rattle.page_interp.proofs.Steps.{still}
use Rattle.page_types.specs.Tree.{Program, Exprs, no_exprs, with_expr, SumParts, no_terms, with_term, ProductParts, no_factors, with_factor}
use Rattle.page_interp.specs.Frames.{HaveTurns}
use Rattle.page_interp.specs.Sizes.{program_size}
use Rattle.std.proofs.Common.{◌^◌}
use Rattle.lang_ast.specs.Sizes.{expr_size, exprs_size, terms_size, factors_size, block_size}
use Rattle.page_interp.specs.declared.exit.Store.{Store}
use Rattle.page_interp.specs.declared.stack.Current.{Current}
use Rattle.page_interp.specs.Frames.{Holds, Goes, place}
use Rattle.page_interp.proofs.SmallSteps.{within}
use Rattle.std.proofs.Common.{◌-◌, cond}
use Rattle.page_parts.specs.Words.{is_there}
use Rattle.lang_meaning.specs.Machine as M
use Rattle.lang_meaning.specs.Machine.{OutOfFuel, value_in, with_value_in, finish, assigned}
use Rattle.lang_meaning.specs.Evaluation.{exec_block, eval, loop_turns, without_first}
use Rattle.page_interp.specs.Runs.{variables_of, global_names, count_of_functions, machine_of, around_of}
use Rattle.page_interp.specs.Frames.{depth_of, saved, first, tickets_in, then_frame, frame_weight, frames_weight, state_at}
use Rattle.page_interp.proofs.Steps.{assigned_machine}
use Rattle.page_interp.proofs.Numbered.{write_numbered, cond_numbered}

-- no unit is left: the run ends through all frames
pub after_dry : {T : Type 0} (rules : HostRules T) (p : Program) (fs : List Frame) (ns : List ℕ) (globals locals : List M.Variable) (fuel : ℕ) (host : Limited T)
    → after_all rules p fs ns (OutOfFuel (record { globals = globals; open_calls = locals ∷ saved fs; fuel = fuel; host = host })) ≡ OutOfFuel (record { globals = globals; open_calls = []; fuel = fuel; host = host })
after_dry rules p [] ns globals locals fuel host = refl
after_dry rules p (frame.Wait w ∷ fs) ns globals locals fuel host = after_dry rules p fs (without_first ns) globals locals fuel host
after_dry rules p (frame.Assign x ∷ fs) ns globals locals fuel host = after_dry rules p fs (without_first ns) globals locals fuel host
after_dry rules p (frame.Test e b ∷ fs) ns globals locals fuel host = after_dry rules p fs (without_first ns) globals locals fuel host
after_dry rules p (frame.Turn e b ∷ fs) ns globals locals fuel host = after_dry rules p fs (without_first ns) globals locals fuel host
after_dry rules p (frame.Try x b ∷ fs) ns globals locals fuel host = after_dry rules p fs (without_first ns) globals locals fuel host
after_dry rules p (frame.Open names ls ∷ fs) ns globals locals fuel host = after_dry rules p fs (without_first ns) globals (variables_of names.now ls.items) fuel host
after_dry rules p (frame.Host t ∷ fs) ns globals locals fuel host = after_dry rules p fs (without_first ns) globals locals fuel host

-- a frame that a throw, or a return, passes
abbrev pub PassesThrow : Frame → Type 0
PassesThrow (frame.Wait w) = Unit {0}
PassesThrow (frame.Assign x) = Unit {0}
PassesThrow (frame.Test e b) = Unit {0}
PassesThrow (frame.Turn e b) = Unit {0}
PassesThrow (frame.Try x b) = ⊥
PassesThrow (frame.Open names ls) = ⊥
PassesThrow (frame.Host t) = ⊥

abbrev pub PassesReturn : Frame → Type 0
PassesReturn (frame.Wait w) = Unit {0}
PassesReturn (frame.Assign x) = Unit {0}
PassesReturn (frame.Test e b) = Unit {0}
PassesReturn (frame.Turn e b) = Unit {0}
PassesReturn (frame.Try x b) = Unit {0}
PassesReturn (frame.Open names ls) = ⊥
PassesReturn (frame.Host t) = ⊥

some_exprs : (es : Exprs) → 0 < exprs_size es
some_exprs no_exprs = omega arith
some_exprs (with_expr e es) = omega arith

some_terms : (ts : SumParts) → 0 < terms_size ts
some_terms no_terms = omega arith
some_terms (with_term sign e ts) = omega arith

some_factors : (ts : ProductParts) → 0 < factors_size ts
some_factors no_factors = omega arith
some_factors (with_factor sign e ts) = omega arith

some_weight : (w : Waiting) → 0 < waiting_weight w
some_weight (waiting.Terms ts) = omega (arith, some_terms (seen_terms ts.now))
some_weight (waiting.Factors ts) = omega (arith, some_factors (seen_factors ts.now))
some_weight (waiting.Places es) = omega (arith, some_exprs (seen_exprs es.now))
some_weight w = omega arith

-- with fewer units as many turns are enough
pub turns_less : (fs : List Frame) (ns : List ℕ) (fuel less : ℕ) → less ≤ fuel → HaveTurns fuel fs ns → HaveTurns less fs ns
turns_less [] ns fuel less h k = tt
turns_less (frame.Wait w ∷ fs) ns fuel less h k = (tt, turns_less fs (without_first ns) fuel less h k.1)
turns_less (frame.Assign x ∷ fs) ns fuel less h k = (tt, turns_less fs (without_first ns) fuel less h k.1)
turns_less (frame.Test e b ∷ fs) ns fuel less h k = (within less fuel _ h k.0, turns_less fs (without_first ns) fuel less h k.1)
turns_less (frame.Turn e b ∷ fs) ns fuel less h k = (within (less + 1) (fuel + 1) _ (omega arith) k.0, turns_less fs (without_first ns) fuel less h k.1)
turns_less (frame.Try x b ∷ fs) ns fuel less h k = (tt, turns_less fs (without_first ns) fuel less h k.1)
turns_less (frame.Open names ls ∷ fs) ns fuel less h k = (tt, turns_less fs (without_first ns) fuel less h k.1)
turns_less (frame.Host t ∷ fs) ns fuel less h k = (within ((less + 1) * (2 ^ 64)) ((fuel + 1) * (2 ^ 64)) _ (omega arith) k.0, turns_less fs (without_first ns) fuel less h k.1)

unit_falls : (k size e b fs : ℕ) → e + b ≤ size → k * (2 * size + 8) + (2 * b + ((2 * e + 1) + fs)) < suc k * (2 * size + 8) + (1 + (1 + fs))
unit_falls k size e b fs h = let z : suc k * (2 * size + 8) ≡ k * (2 * size + 8) + (2 * size + 8) = omega arith in rw z (omega (arith, h))

module _ {T : Type 0} (rules : HostRules T) (p : Program) (store : Store) (current : Current) (fs : List Frame) where
  -- a frame goes, and nothing else changes
  pub drop_goes : (fr : Frame) (f0 f : Focus) → saved (fr ∷ fs) ≡ saved fs → depth_of (fr ∷ fs) ≡ depth_of fs → ((ts : List ℕ) → tickets_in (fr ∷ fs) ts ≡ tickets_in fs ts)
      → ((d : Around (Limited T)) (n : ℕ) (m : Machine (Limited T)) → then_frame rules d n fr (does d f0 m) ≡ does d f m)
      → (FocusIsSound (count_of_functions p) f0 → FocusIsSound (count_of_functions p) f) → focus_size f ≤ focus_size f0 → focus_weight f < focus_weight f0 + frame_weight fr
      → Holds p (place store current (fr ∷ fs) f0) → Goes rules p (place store current (fr ∷ fs) f0) (place store current fs f)
  unfolding meaning_at steps_left
  drop_goes fr f0 f e1 e2 e3 same sound size weight h = record {
    means = λ ns k. record {
      numbers = without_first ns;
      enough = k.1;
      same = λ host.
          ap (λ n. after_all rules p fs (without_first ns) (then_frame rules (around_of rules p (depth_of fs)) (first ns) fr (does (around_of rules p n) f0 (state_at p host (place store current (fr ∷ fs) f0))))) e2
          ∙ ap (after_all rules p fs (without_first ns)) (same (around_of rules p (depth_of fs)) (first ns) (state_at p host (place store current (fr ∷ fs) f0)))
          ∙ ap (λ outer. after_all rules p fs (without_first ns) (does (around_of rules p (depth_of fs)) f (machine_of p host store (variables_of current.names.now current.locals.items ∷ outer)))) e1;
    };
    holds = record { depth = h.depth ∙ e2; few = h.few; globals = h.globals; held = h.held; frames = h.frames.2; focus = sound h.focus; size = within _ _ _ size h.size };
    fuel = still store.fuel;
    tickets = λ ts. sym (e3 ts);
    fewer = let w = weight in omega (arith, w);
  }

  pub try_value : (x : Bor Named) (b : Bor (List Stmt)) (v : Value) → Holds p (place store current (frame.Try x b ∷ fs) (focus.Value v)) → Goes rules p (place store current (frame.Try x b ∷ fs) (focus.Value v)) (place store current fs (focus.Value v))
  try_value x b v h = drop_goes (frame.Try x b) (focus.Value v) (focus.Value v) refl refl (λ ts. refl) (λ d n m. refl) (λ s. s) (omega arith) (omega arith) h

  pub pass_throw : (fr : Frame) (v : Value) → PassesThrow fr → Holds p (place store current (fr ∷ fs) (focus.Throw v)) → Goes rules p (place store current (fr ∷ fs) (focus.Throw v)) (place store current fs (focus.Throw v))
  pass_throw (frame.Wait w) v k h = drop_goes (frame.Wait w) (focus.Throw v) (focus.Throw v) refl refl (λ ts. refl) (λ d n m. refl) (λ s. s) (omega arith) (let w = some_weight w in omega (arith, w)) h
  pass_throw (frame.Assign x) v k h = drop_goes (frame.Assign x) (focus.Throw v) (focus.Throw v) refl refl (λ ts. refl) (λ d n m. refl) (λ s. s) (omega arith) (omega arith) h
  pass_throw (frame.Test e b) v k h = drop_goes (frame.Test e b) (focus.Throw v) (focus.Throw v) refl refl (λ ts. refl) (λ d n m. refl) (λ s. s) (omega arith) (omega arith) h
  pass_throw (frame.Turn e b) v k h = drop_goes (frame.Turn e b) (focus.Throw v) (focus.Throw v) refl refl (λ ts. refl) (λ d n m. refl) (λ s. s) (omega arith) (omega arith) h
  pass_throw (frame.Try x b) v k h = absurd k
  pass_throw (frame.Open names ls) v k h = absurd k
  pass_throw (frame.Host t) v k h = absurd k

  pub pass_return : (fr : Frame) (v : Value) → PassesReturn fr → Holds p (place store current (fr ∷ fs) (focus.Return v)) → Goes rules p (place store current (fr ∷ fs) (focus.Return v)) (place store current fs (focus.Return v))
  pass_return (frame.Wait w) v k h = drop_goes (frame.Wait w) (focus.Return v) (focus.Return v) refl refl (λ ts. refl) (λ d n m. refl) (λ s. s) (omega arith) (let w = some_weight w in omega (arith, w)) h
  pass_return (frame.Assign x) v k h = drop_goes (frame.Assign x) (focus.Return v) (focus.Return v) refl refl (λ ts. refl) (λ d n m. refl) (λ s. s) (omega arith) (omega arith) h
  pass_return (frame.Test e b) v k h = drop_goes (frame.Test e b) (focus.Return v) (focus.Return v) refl refl (λ ts. refl) (λ d n m. refl) (λ s. s) (omega arith) (omega arith) h
  pass_return (frame.Turn e b) v k h = drop_goes (frame.Turn e b) (focus.Return v) (focus.Return v) refl refl (λ ts. refl) (λ d n m. refl) (λ s. s) (omega arith) (omega arith) h
  pass_return (frame.Try x b) v k h = drop_goes (frame.Try x b) (focus.Return v) (focus.Return v) refl refl (λ ts. refl) (λ d n m. refl) (λ s. s) (omega arith) (omega arith) h
  pass_return (frame.Open names ls) v k h = absurd k
  pass_return (frame.Host t) v k h = absurd k

  -- the condition of a loop
  pub test_false : (e : Bor Expr) (b : Bor (List Stmt)) (v : Value) → bool_in (seen v) ≡ Some false → Holds p (place store current (frame.Test e b ∷ fs) (focus.Value v)) → Goes rules p (place store current (frame.Test e b ∷ fs) (focus.Value v)) (place store current fs (focus.Value value.Unit))
  test_false e b v q h = drop_goes (frame.Test e b) (focus.Value v) (focus.Value value.Unit) refl refl (λ ts. refl) (λ d n m. rw q refl) (λ s. tt) (omega arith) (omega arith) h

  pub test_no_bool : (e : Bor Expr) (b : Bor (List Stmt)) (v w : Value) → bool_in (seen v) ≡ None → seen w ≡ Model.FaultValue TypeError [] → Holds p (place store current (frame.Test e b ∷ fs) (focus.Value v)) → Goes rules p (place store current (frame.Test e b ∷ fs) (focus.Value v)) (place store current fs (focus.Throw w))
  test_no_bool e b v w q f h = drop_goes (frame.Test e b) (focus.Value v) (focus.Throw w) refl refl (λ ts. refl) (λ d n m. rw (q, f) refl) (λ s. rw f tt) (omega arith) (omega arith) h

  pub test_true : (store1 : Store) (e : Bor Expr) (b : Bor (List Stmt)) (v : Value) (k : ℕ) → bool_in (seen v) ≡ Some true → store.fuel ≡ suc k → store1 ≡ record store { fuel = k }
      → Holds p (place store current (frame.Test e b ∷ fs) (focus.Value v)) → Goes rules p (place store current (frame.Test e b ∷ fs) (focus.Value v)) (place store1 current (frame.Turn e b ∷ fs) (focus.Block b))
  unfolding meaning_at steps_left
  test_true store1 e b v k q u s h = rw s (record {
    means = λ ns t. record { numbers = ns; enough = (let z = t.0 in omega (arith, z, u), turns_less fs (without_first ns) store.fuel k (omega (arith, u)) t.1); same = λ host. rw (q, u) refl };
    holds = record { depth = h.depth; few = h.few; globals = h.globals; held = h.held; frames = h.frames; focus = h.frames.0.1; size = let z = h.frames.1 in omega (arith, z) };
    fuel = omega (arith, u);
    tickets = λ ts. refl;
    fewer = let z = h.frames.1 in rw u (unit_falls k (program_size p) (expr_size (seen_expr e.now)) (block_size (seen_block b.now)) (frames_weight fs) z);
  })

  pub turn_goes : (e e1 : Bor Expr) (b b1 : Bor (List Stmt)) (v : Value) → e1.now ≡ e.now → b1.now ≡ b.now → Holds p (place store current (frame.Turn e b ∷ fs) (focus.Value v)) → Goes rules p (place store current (frame.Turn e b ∷ fs) (focus.Value v)) (place store current (frame.Test e1 b1 ∷ fs) (focus.Expr e1))
  unfolding meaning_at steps_left
  turn_goes e e1 b b1 v q r h = record {
    means = λ ns t. let n = t.0 in let z : first ns ≡ suc (first ns - 1) = omega (arith, n) in
        record { numbers = (first ns - 1) ∷ without_first ns; enough = (omega (arith, n), t.1); same = λ host. rw (q, r) (ap (λ n. after_all rules p fs (without_first ns) (loop_turns n (eval (around_of rules p (depth_of fs)) (seen_expr e.now)) (exec_block (around_of rules p (depth_of fs)) (seen_block b.now)) (state_at p host (place store current (frame.Turn e b ∷ fs) (focus.Value v))))) z) };
    holds = record { depth = h.depth; few = h.few; globals = h.globals; held = h.held; frames = rw (q, r) h.frames; focus = rw q h.frames.0.0; size = let z = h.frames.1 in rw q (omega (arith, z)) };
    fuel = still store.fuel;
    tickets = λ ts. refl;
    fewer = rw q (omega arith);
  }

  pub close_value : (current1 : Current) (names : Bor (List (List ℕ))) (ls : Vec Value Global) (v : Value) → current1.names ≡ names → current1.locals ≡ ls → current1.depth + 1 ≡ current.depth
      → Holds p (place store current (frame.Open names ls ∷ fs) (focus.Value v)) → Goes rules p (place store current (frame.Open names ls ∷ fs) (focus.Value v)) (place store current1 fs (focus.Value value.Unit))
  unfolding meaning_at steps_left
  close_value current1 names ls v n l c h = record {
    means = λ ns k. record { numbers = without_first ns; enough = k.1; same = λ host. rw (n, l) refl };
    holds = record { depth = let z = h.depth in omega (arith, z, c); few = let z = h.few in omega (arith, z, c); globals = h.globals; held = rw (n, l) h.frames.0; frames = h.frames.2; focus = tt; size = h.size };
    fuel = still store.fuel;
    tickets = λ ts. refl;
    fewer = omega arith;
  }

  pub close_throw : (current1 : Current) (names : Bor (List (List ℕ))) (ls : Vec Value Global) (v : Value) → current1.names ≡ names → current1.locals ≡ ls → current1.depth + 1 ≡ current.depth
      → Holds p (place store current (frame.Open names ls ∷ fs) (focus.Throw v)) → Goes rules p (place store current (frame.Open names ls ∷ fs) (focus.Throw v)) (place store current1 fs (focus.Throw v))
  unfolding meaning_at steps_left
  close_throw current1 names ls v n l c h = record {
    means = λ ns k. record { numbers = without_first ns; enough = k.1; same = λ host. rw (n, l) refl };
    holds = record { depth = let z = h.depth in omega (arith, z, c); few = let z = h.few in omega (arith, z, c); globals = h.globals; held = rw (n, l) h.frames.0; frames = h.frames.2; focus = h.focus; size = h.size };
    fuel = still store.fuel;
    tickets = λ ts. refl;
    fewer = omega arith;
  }

  pub close_return : (current1 : Current) (names : Bor (List (List ℕ))) (ls : Vec Value Global) (v : Value) → current1.names ≡ names → current1.locals ≡ ls → current1.depth + 1 ≡ current.depth
      → Holds p (place store current (frame.Open names ls ∷ fs) (focus.Return v)) → Goes rules p (place store current (frame.Open names ls ∷ fs) (focus.Return v)) (place store current1 fs (focus.Value v))
  unfolding meaning_at steps_left
  close_return current1 names ls v n l c h = record {
    means = λ ns k. record { numbers = without_first ns; enough = k.1; same = λ host. rw (n, l) refl };
    holds = record { depth = let z = h.depth in omega (arith, z, c); few = let z = h.few in omega (arith, z, c); globals = h.globals; held = rw (n, l) h.frames.0; frames = h.frames.2; focus = h.focus; size = h.size };
    fuel = still store.fuel;
    tickets = λ ts. refl;
    fewer = omega arith;
  }

  -- a variable takes the value
  assigned_state : (store1 : Store) (current1 : Current) (x : List ℕ) (v : Model.Value) (outer : List (List M.Variable)) → current1.names ≡ current.names
      → variables_of current.names.now current1.locals.items ≡ cond (is_there (value_in (variables_of current.names.now current.locals.items) x)) (with_value_in (variables_of current.names.now current.locals.items) x v) (variables_of current.names.now current.locals.items)
      → variables_of (global_names p) store1.globals.items ≡ cond (is_there (value_in (variables_of current.names.now current.locals.items) x)) (variables_of (global_names p) store.globals.items) (with_value_in (variables_of (global_names p) store.globals.items) x v)
      → store1.fuel ≡ store.fuel → (host : Limited T)
      → assigned (machine_of p host store (variables_of current.names.now current.locals.items ∷ outer)) x v ≡ machine_of p host store1 (variables_of current1.names.now current1.locals.items ∷ outer)
  assigned_state store1 current1 x v outer n q r f host =
      assigned_machine (is_there (value_in (variables_of current.names.now current.locals.items) x)) host store.fuel _ _ _ _ outer x v q r ∙ rw (n, f) refl

  pub assign_goes : (store1 : Store) (current1 : Current) (x : Bor Named) (v : Value) → current1.names ≡ current.names → current1.depth ≡ current.depth
      → variables_of current.names.now current1.locals.items ≡ cond (is_there (value_in (variables_of current.names.now current.locals.items) x.now.name)) (with_value_in (variables_of current.names.now current.locals.items) x.now.name (seen v)) (variables_of current.names.now current.locals.items)
      → variables_of (global_names p) store1.globals.items ≡ cond (is_there (value_in (variables_of current.names.now current.locals.items) x.now.name)) (variables_of (global_names p) store.globals.items) (with_value_in (variables_of (global_names p) store.globals.items) x.now.name (seen v))
      → store1.fuel ≡ store.fuel → Holds p (place store current (frame.Assign x ∷ fs) (focus.Value v)) → Goes rules p (place store current (frame.Assign x ∷ fs) (focus.Value v)) (place store1 current1 fs (focus.Value value.Unit))
  unfolding meaning_at steps_left
  assign_goes store1 current1 x v n d q r f h = record {
    means = λ ns k. record { numbers = without_first ns; enough = rw f k.1; same = λ host. ap (λ m. after_all rules p fs (without_first ns) (finish m)) (assigned_state store1 current1 x.now.name (seen v) (saved fs) n q r f host) };
    holds = record {
      depth = d ∙ h.depth;
      few = rw d h.few;
      globals = rw r (cond_numbered _ (is_there (value_in (variables_of current.names.now current.locals.items) x.now.name)) _ _ h.globals (write_numbered _ _ x.now.name (seen v) h.focus h.globals));
      held = rw (n, q) (cond_numbered _ (is_there (value_in (variables_of current.names.now current.locals.items) x.now.name)) _ _ (write_numbered _ (variables_of current.names.now current.locals.items) x.now.name (seen v) h.focus h.held) h.held);
      frames = h.frames.2;
      focus = tt;
      size = h.size;
    };
    fuel = rw f (still store.fuel);
    tickets = λ ts. refl;
    fewer = rw f (omega arith);
  }

  pub catch_goes : (store1 : Store) (current1 : Current) (x : Bor Named) (b : Bor (List Stmt)) (v : Value) → current1.names ≡ current.names → current1.depth ≡ current.depth
      → variables_of current.names.now current1.locals.items ≡ cond (is_there (value_in (variables_of current.names.now current.locals.items) x.now.name)) (with_value_in (variables_of current.names.now current.locals.items) x.now.name (seen v)) (variables_of current.names.now current.locals.items)
      → variables_of (global_names p) store1.globals.items ≡ cond (is_there (value_in (variables_of current.names.now current.locals.items) x.now.name)) (variables_of (global_names p) store.globals.items) (with_value_in (variables_of (global_names p) store.globals.items) x.now.name (seen v))
      → store1.fuel ≡ store.fuel → Holds p (place store current (frame.Try x b ∷ fs) (focus.Throw v)) → Goes rules p (place store current (frame.Try x b ∷ fs) (focus.Throw v)) (place store1 current1 fs (focus.Block b))
  unfolding meaning_at steps_left
  catch_goes store1 current1 x b v n d q r f h = record {
    means = λ ns k. record { numbers = without_first ns; enough = rw f k.1; same = λ host. ap (λ m. after_all rules p fs (without_first ns) (exec_block (around_of rules p (depth_of fs)) (seen_block b.now) m)) (assigned_state store1 current1 x.now.name (seen v) (saved fs) n q r f host) };
    holds = record {
      depth = d ∙ h.depth;
      few = rw d h.few;
      globals = rw r (cond_numbered _ (is_there (value_in (variables_of current.names.now current.locals.items) x.now.name)) _ _ h.globals (write_numbered _ _ x.now.name (seen v) h.focus h.globals));
      held = rw (n, q) (cond_numbered _ (is_there (value_in (variables_of current.names.now current.locals.items) x.now.name)) _ _ (write_numbered _ (variables_of current.names.now current.locals.items) x.now.name (seen v) h.focus h.held) h.held);
      frames = h.frames.2;
      focus = h.frames.0;
      size = h.frames.1;
    };
    fuel = rw f (still store.fuel);
    tickets = λ ts. refl;
    fewer = rw f (omega arith);
  }
