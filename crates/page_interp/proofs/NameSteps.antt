-- Steps from a name, and from a call by name.
use Rattle.std.proofs.Common.{◌≡◌, ℕ, ◌+◌, List, [], Option, Some, None, Result, Ok, Err, IfOk, Vec, Global, refl, sym, ap, ◌∙◌, arith}
use Rattle.std.specs.Option.{option_map}
use Rattle.std.specs.Borrow.{Bor}
use Rattle.page_types.specs.declared.FaultName.{FaultName}
use Rattle.page_types.specs.declared.FaultName.TheVariants.{TypeError}
use Rattle.page_types.specs.declared.Op.{Op}
use Rattle.page_types.specs.Values as Model
use Rattle.page_values.specs.declared.Value.{Value}
use Rattle.page_values.specs.Seen.{seen}
use Rattle.lang_ast.specs.declared.program.Program.{Program}
use Rattle.lang_ast.specs.SeenProgram.{seen_program}
use Rattle.lang_ast.specs.declared.tree.Named.{Named}
use Rattle.lang_ast.specs.declared.tree.Expr.{Expr}
use Rattle.lang_ast.specs.declared.tree.Expr as E
use Rattle.lang_ast.specs.Calls.{HasCount}
use Rattle.lang_ast.specs.Names.{count_exprs}
use Rattle.lang_ast.specs.Seen.{seen_exprs}
use Rattle.lang_ast.proofs.Trees.{seen-Name, seen-Call}
use Rattle.lang_meaning.specs.OpNames.{op_named}
use Rattle.lang_meaning.specs.Machine.{Machine, Done, Gives, given}
use Rattle.lang_meaning.specs.Evaluation.{Answer, Around, need, answered, called, eval_all, functions_of}
use Rattle.lang_meaning.specs.HostSteps.{HostRules}
use Rattle.lang_meaning.specs.Machine.{value_in, or_else}
use Rattle.page_interp.specs.declared.exit.Exit.{Exit}
use Rattle.page_interp.specs.declared.exit.Store.{Store}
use Rattle.page_interp.specs.declared.stack.Current.{Current}
use Rattle.page_interp.specs.declared.stack.Focus.{Focus}
use Rattle.page_interp.specs.declared.stack.Focus.TheVariants as focus
use Rattle.page_interp.specs.declared.stack.Frame.{Frame}
use Rattle.page_interp.specs.declared.stack.Purpose.{Purpose}
use Rattle.page_interp.specs.declared.stack.Purpose.TheVariants as purpose
use Rattle.page_interp.specs.Answers.{Answers}
use Rattle.page_interp.specs.Runs.{Left, SomeIsNumbered, count_of_functions, around_of, variables_of, call_given}
use Rattle.page_interp.specs.Variables.{named_in, value_at, globals_of}
use Rattle.page_interp.specs.Frames.{used_for, state_at, depth_of, after_all, meaning_at, steps_left, HasArguments, IsAnswer, IsCalled, Holds, Goes, place}
use Rattle.page_interp.proofs.Steps.{still}
use Rattle.page_interp.proofs.Fitting.{call_fits}
use Rattle.page_interp.proofs.Numbered.{need_numbered, or_numbered, read_numbered, function_numbered}
use Rattle.page_interp.proofs.SmallSteps.{under, answer_at}

given_as : {T : Type 0} (o : Option Model.Value) (fault : FaultName) (m : Machine T) → given o fault m Gives ≡ answered (need o fault Ok) m
given_as None fault m = refl
given_as (Some v) fault m = refl

call_by : {T : Type 0} → Around T → Option Op → Option Model.Value → List Model.Value → Machine T → Done T
call_by w o v args m = elim o [ Some op ↦ w.operate op args m | None ↦ given v TypeError m (λ f m. called w.call f args m) ]

used : {T : Type 0} (w : Around T) (o : Option Op) (v : Option Model.Value) (p : Purpose) → IsCalled o v p → call_by w o v ≡ used_for w p
unfolding call_by
used w (Some op) v (purpose.Ask op1) h = ap (λ o. w.operate o) (sym h)
used w None v (purpose.Call o1) h = ap (λ o. call_given w.call o) (sym h)
used w (Some op) v purpose.List h = absurd h
used w (Some op) v (purpose.Call o1) h = absurd h
used w None v purpose.List h = absurd h
used w None v (purpose.Ask op1) h = absurd h

arguments : (count : ℕ) (o : Option Op) (v : Option Model.Value) (p : Purpose) (n : ℕ) → IsCalled o v p → HasCount o n → SomeIsNumbered count v → HasArguments count p n
arguments count (Some op) v (purpose.Ask op1) n h k s = rw h k
arguments count None v (purpose.Call o1) n h k s = rw h s
arguments count (Some op) v purpose.List n h k s = absurd h
arguments count (Some op) v (purpose.Call o1) n h k s = absurd h
arguments count None v purpose.List n h k s = absurd h
arguments count None v (purpose.Ask op1) n h k s = absurd h

module _ (p : Program) (store : Store) (current : Current) (fs : List Frame) where
  pub name_numbered : (f : Focus) (x : List ℕ) → Holds (seen_program p) (place store current fs f) → SomeIsNumbered (count_of_functions (seen_program p)) (named_in p store current.names.now current.locals x)
  name_numbered f x h =
      or_numbered _ (or_else (value_at current.names.now current.locals x) (value_in (globals_of p store) x)) _
      (or_numbered _ (value_at current.names.now current.locals x) (value_in (globals_of p store) x) (read_numbered _ (variables_of current.names.now current.locals.items) x h.held) (read_numbered _ (globals_of p store) x h.globals))
      (function_numbered (functions_of (seen_program p).items) x)

module _ {T : Type 0} (rules : HostRules T) (p : Program) (store : Store) (current : Current) (fs : List Frame) where
  name_answers : (x : Bor Expr) (n : Named) (f : Focus) → x.now ≡ E.Name n → IsAnswer f (need (named_in p store current.names.now current.locals n.name) TypeError Ok)
      → Holds (seen_program p) (place store current fs (focus.Expr x)) → Goes rules (seen_program p) (place store current fs (focus.Expr x)) (place store current fs f)
  unfolding around_of
  name_answers x n f q a h = answer_at rules (seen_program p) store current fs (focus.Expr x) f (need (named_in p store current.names.now current.locals n.name) TypeError Ok) a
      (λ host. rw (q, seen-Name) (given_as (named_in p store current.names.now current.locals n.name) TypeError _))
      (need_numbered _ _ TypeError (name_numbered p store current fs (focus.Expr x) n.name h)) (rw (q, seen-Name) (omega arith)) h

  pub name_goes : {S : Type 0} (result : Result Focus (Exit S)) (l : Left S) (x : Bor Expr) (n : Named) → x.now ≡ E.Name n → IfOk result (λ f. (r : Answer) → Answers l r → IsAnswer f r)
      → Answers l (need (named_in p store current.names.now current.locals n.name) TypeError Ok)
      → IfOk result (λ f. Holds (seen_program p) (place store current fs (focus.Expr x)) → Goes rules (seen_program p) (place store current fs (focus.Expr x)) (place store current fs f))
  name_goes (Ok f) l x n q e a = name_answers x n f q (e _ a)
  name_goes (Err y) l x n q e a = tt

  -- a call by name, whose arguments are next
  pub call_row : (x : Bor Expr) (n : Named) (es : Vec Expr Global) (args row : Bor (List Expr)) (purpose : Purpose) (vs : Vec Value Global) → x.now ≡ E.Call n es → args.now ≡ es.items
      → IsCalled (op_named n.name) (named_in p store current.names.now current.locals n.name) purpose → vs.items ≡ [] → row ≡ args
      → Holds (seen_program p) (place store current fs (focus.Expr x)) → Goes rules (seen_program p) (place store current fs (focus.Expr x)) (place store current fs (focus.Row purpose vs row))
  unfolding around_of meaning_at steps_left call_by
  call_row x n es args row purpose vs q a k e r h =
      let fits = call_fits x.now n es q h.focus in
      let same : row.now ≡ es.items = ap (λ b. b.now) r ∙ a in
      record {
        means = λ ns t. record {
          numbers = ns;
          enough = t;
          same = λ host. ap (after_all rules (seen_program p) fs ns)
              (rw (q, seen-Call, same, e) (ap (λ next. eval_all (around_of rules (seen_program p) (depth_of fs)) (seen_exprs es.items) [] next (state_at (seen_program p) host (place store current fs (focus.Expr x))))
              (used (around_of rules (seen_program p) (depth_of fs)) (op_named n.name) (named_in p store current.names.now current.locals n.name) purpose k)));
        };
        holds = record {
          depth = h.depth;
          few = h.few;
          globals = h.globals;
          held = h.held;
          frames = h.frames;
          focus = (rw (same, e) (let z : 0 + count_exprs (seen_exprs es.items) ≡ count_exprs (seen_exprs es.items) = omega arith in rw z (arguments _ (op_named n.name) _ purpose _ k fits.0 (name_numbered p store current fs (focus.Expr x) n.name h))), rw e tt, rw same fits.1);
          size = let s = h.size in let t = rw (q, seen-Call) at s in rw same (omega (arith, t));
        };
        fuel = still store.fuel;
        tickets = λ ts. refl;
        fewer = under _ _ _ _ (rw (q, seen-Call, same) (omega arith));
      }

-- an operation of this name
pub called_op : (o : Option Op) (op : Op) (v : Option Model.Value) → Some op ≡ o → IsCalled o v (purpose.Ask op)
called_op o op v q = rw (← q) refl

-- what a name stands for that is no operation's
pub called_value : (o : Option Op) (callee : Option Value) (v : Option Model.Value) → None ≡ o → option_map seen callee ≡ v → IsCalled o v (purpose.Call callee)
called_value o callee v q h = rw (← q) h
