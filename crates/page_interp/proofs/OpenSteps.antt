-- How a call opens.
use Rattle.std.proofs.Common.{◌≡◌, ℕ, suc, ◌+◌, ◌*◌, ◌<◌, ◌≤◌, List, ◌∷◌, Option, Some, None, Vec, Global, refl, sym, ap, ◌∙◌, arith, slice_get}
use Rattle.page_types.specs.Values as Model
use Rattle.page_types.specs.Tree.{Program, Block}
use Rattle.page_values.specs.declared.Value.{Value}
use Rattle.lang_ast.specs.Calls.{CallsFit}
use Rattle.lang_ast.specs.Names.{in_block}
use Rattle.lang_ast.specs.Sizes.{block_size}
use Rattle.lang_ast.specs.Steps.{AllNumbered}
use Rattle.lang_meaning.specs.Machine.{Machine}
use Rattle.lang_meaning.specs.Evaluation.{Around, Function, functions_of, exec_block, end_of_call, opened, parameters_with, unit_variables, names_in}
use Rattle.lang_meaning.specs.HostSteps.{HostRules}
use Rattle.lang_meaning.specs.Asks.{Limited}
use Rattle.page_interp.specs.declared.exit.Store.{Store}
use Rattle.page_interp.specs.declared.stack.Current.{Current}
use Rattle.page_interp.specs.declared.stack.Focus.{Focus}
use Rattle.page_interp.specs.declared.stack.Focus.TheVariants as focus
use Rattle.page_interp.specs.declared.stack.Frame.{Frame}
use Rattle.page_interp.specs.declared.stack.Frame.TheVariants as frame
use Rattle.page_interp.specs.Runs.{variables_of, count_of_functions, AreNumberedIn, caller_of, around_of}
use Rattle.page_interp.specs.Sizes.{program_size}
use Rattle.page_interp.specs.Frames.{does, depth_of, state_at, after_all, meaning_at, focus_size, focus_weight, FocusIsSound, IsBody, call_variables, call_body, Holds, Opens, place}
use Rattle.page_interp.proofs.Ranks.{in_program}
use Rattle.page_interp.proofs.Numbered.{frame_numbered, units_numbered, both_numbered}
use Rattle.page_interp.proofs.Calls.{in_function, in_own_body}

record Body (T : Type 0) (body : Block) (f : Focus) : Type 0 where
  same : (d : Around (Limited T)) (m : Machine (Limited T)) → does d f m ≡ exec_block d body m
  sound : (count : ℕ) → CallsFit (in_block body) → FocusIsSound count f
  size : focus_size f ≡ block_size body
  weight : focus_weight f ≡ 2 * block_size body

body_of : {T : Type 0} (body : Block) (f : Focus) → IsBody body f → Body T body f
body_of body (focus.Block ss) h = record { same = λ d m. rw h refl; sound = λ count k. rw h k; size = rw h refl; weight = rw h refl }
body_of body (focus.Items items) h = record { same = λ d m. rw h refl; sound = λ count k. rw h k; size = rw h refl; weight = rw h refl }
body_of body f h = absurd h

pub variables_numbered : (count : ℕ) (o : Option Function) (args : List Model.Value) → AllNumbered count args → AreNumberedIn count (call_variables o args)
variables_numbered count None args h = tt
variables_numbered count (Some f) args h = both_numbered count (parameters_with f.parameters args) (unit_variables (names_in f.body)) (frame_numbered count f.parameters args h) (units_numbered count (names_in f.body))

pub body_small : (p : Program) (function : ℕ) (o : Option Function) → slice_get (functions_of p.items) function ≡ o → block_size (call_body p o) ≤ program_size p
body_small p function None q = omega arith
body_small p function (Some f) q = in_program p function f q

pub call_opens : {T : Type 0} (rules : HostRules T) (p : Program) (d function : ℕ) (args : List Model.Value) (o : Option Function) (k : ℕ) → d < 256 → slice_get (functions_of p.items) function ≡ o → (m : Machine (Limited T)) → m.fuel ≡ suc k
    → caller_of rules p d function args m ≡ end_of_call (exec_block (around_of rules p (d + 1)) (call_body p o) (opened (call_variables o args) (record m { fuel = k })))
call_opens rules p d function args None k lt q m e = in_own_body rules p d function args k lt q m e
call_opens rules p d function args (Some f) k lt q m e = in_function rules p d function args f k lt q m e

module _ {T : Type 0} (rules : HostRules T) (p : Program) where
  pub opens : (store store1 : Store) (current current1 : Current) (ls : Vec Value Global) (fs : List Frame) (function : ℕ) (args : List Model.Value) (g f : Focus) (o : Option Function) (k : ℕ)
      → slice_get (functions_of p.items) function ≡ o → current.depth < 256 → store.fuel ≡ suc k → store1 ≡ record store { fuel = k } → current1.depth ≡ current.depth + 1 → ls ≡ current.locals
      → variables_of current1.names.now current1.locals.items ≡ call_variables o args → IsBody (call_body p o) f → CallsFit (in_block (call_body p o))
      → Holds p (place store current fs g) → AllNumbered (count_of_functions p) args → Opens rules p function args (place store current fs g) (place store1 current1 (frame.Open current.names ls ∷ fs) f)
  unfolding meaning_at
  opens store store1 current current1 ls fs function args g f o k q lt u s c l v b fits h n =
      let body = body_of {T = T} (call_body p o) f b in
      let small = body_small p function o q in
      let deep : depth_of fs < 256 = let z = h.depth in omega (arith, z, lt) in
      rw (s, l) (record {
        means = λ ns host. ap (after_all rules p fs ns)
            (call_opens rules p (depth_of fs) function args o k deep q (state_at p host (place store current fs g)) u
            ∙ rw v (ap end_of_call (sym (body.same (around_of rules p (depth_of fs + 1)) _))));
        frames = refl;
        fuel = omega (arith, u);
        holds = record {
          depth = let z = h.depth in omega (arith, z, c);
          few = let z = h.few in omega (arith, z, c, lt);
          globals = h.globals;
          held = rw v (variables_numbered _ o args n);
          frames = (h.held, omega arith, h.frames);
          focus = body.sound _ fits;
          size = omega (arith, body.size, small);
        };
        light = omega (arith, body.weight, small);
      })
