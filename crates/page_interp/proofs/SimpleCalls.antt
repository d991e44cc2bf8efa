-- Calls that are done at once.
use Rattle.std.proofs.Common.{◌≡◌, ℕ, ◌+◌, ◌<◌, List, [], ◌∷◌, map, slice_get, vec_len, true, Option, Some, Box, Vec, Global, refl, sym, ap, ◌∙◌, arith}
use Rattle.std.specs.Borrow.{Bor}
use Rattle.page_types.specs.Values.{no_values}
use Rattle.page_types.specs.declared.SumSign.{SumSign}
use Rattle.page_types.specs.declared.ProductSign.{ProductSign}
use Rattle.std.specs.Option.{option_map}
use Rattle.std.proofs.lemmas.Option.{slice_get-map}
use Rattle.std.proofs.lemmas.List.{length-map}
use Rattle.lang_meaning.specs.Evaluation.{sum_answer, product_answer, functions_of, names_in}
use Rattle.page_values.specs.declared.Value.{Value}
use Rattle.page_values.specs.declared.Value.TheVariants as value
use Rattle.page_values.specs.Seen.{seen}
use Rattle.lang_ast.specs.Calls.{CallsFit}
use Rattle.lang_ast.specs.Names.{in_block}
use Rattle.lang_ast.specs.Seen.{seen_block, seen_function}
use Rattle.lang_ast.specs.declared.tree.Function.{Function}
use Rattle.lang_ast.specs.SeenProgram.{seen_program}
use Rattle.lang_ast.specs.declared.program.Program as Code
use Rattle.lang_ast.specs.declared.tree.Expr.{Expr}
use Rattle.lang_ast.specs.declared.tree.Expr as E
use Rattle.lang_ast.specs.declared.tree.Stmt.{Stmt}
use Rattle.lang_ast.specs.declared.tree.Stmt as S
use Rattle.lang_meaning.specs.HostSteps.{HostRules}
use Rattle.lang_meaning.specs.OpNames.{op_named}
use Rattle.page_interp.specs.declared.exit.Store.{Store}
use Rattle.page_interp.specs.declared.stack.Current.{Current}
use Rattle.page_interp.specs.declared.stack.Focus.TheVariants as focus
use Rattle.page_interp.specs.declared.stack.Frame.TheVariants as frame
use Rattle.page_interp.specs.declared.stack.Waiting.TheVariants as waiting
use Rattle.page_interp.specs.declared.stack.Purpose.TheVariants as purpose
use Rattle.page_interp.specs.AtOnce.{IsBoolThere, before_stmt, branches}
use Rattle.page_interp.specs.CodeNames.{function_at, names_of_frames}
use Rattle.page_interp.specs.Frames.{place, call_variables, IsAnswer}
use Rattle.page_interp.specs.Runs.{func_of, variables_of, frame_names}
use Rattle.page_interp.specs.Variables.{AreFilled}
use Rattle.page_interp.specs.StackClauses.{BlockBrings, ValueComes, ReturnsValue, AreFound, CallReturns, CallComes, TermsCome, FactorsCome, body_at}
use Rattle.page_interp.proofs.SmallSteps.{pushes_moves, pops_moves, swaps_moves, stays_moves}
use Rattle.page_interp.proofs.StmtSteps.{block_pushes, if_pushes}
use Rattle.page_interp.proofs.ExprSteps.{row_call, sum_pushes, product_pushes, paren_stays}
use Rattle.page_interp.proofs.ValueSteps.{return_pops, terms_last, terms_next, terms_answer, factors_last, factors_next, factors_answer}
use Rattle.page_interp.proofs.NameSteps.{call_row, called_value}
use Rattle.page_interp.proofs.DirectSteps.{direct_goes}
use Rattle.page_interp.proofs.FrameSteps.{pass_return, close_return}
use Rattle.page_interp.proofs.OpenSteps.{opens}
use Rattle.page_interp.proofs.RunSteps.{call_opens}
use Rattle.page_interp.proofs.AtOnce.{goes_trans, goes_on}
use Rattle.page_interp.proofs.BlockSteps.{return_moves, side_moves}

-- a unit is taken, and comes back
pub with_unit : (store : Store) (k : ℕ) → k + 1 ≡ store.fuel → store ≡ record (record store { fuel = k }) { fuel = k + 1 }
with_unit store k q = rw q refl

module _ (p : Code.Program) (n : ℕ) (f : Function) where
  pub body_called : Some (seen_function f) ≡ function_at p n → seen_block f.body.items ≡ body_at p n
  body_called q = rw (← q) refl

  pub fits_called : Some (seen_function f) ≡ function_at p n → CallsFit (in_block (seen_block f.body.items)) → CallsFit (in_block (body_at p n))
  fits_called q h = rw (← q) h

module _ {T : Type 0} (rules : HostRules T) (p : Code.Program) where
  module _ (store store1 : Store) (current : Current) where
    -- a `return` whose value is found
    pub return_found : (s : Stmt) (more : List Stmt) (e : Expr) (v : Value) → s ≡ S.Return (Some e) → ValueComes rules p e store current v store1 → ReturnsValue rules p store current (s ∷ more) v store1
    return_found s more e v is g = λ fs block q h.
        let stmt : Bor Stmt = record { ref_ptr = (0, 0); now = s } in
        let rest : Bor (List Stmt) = record { ref_ptr = (0, 0); now = more } in
        let expr : Bor Expr = record { ref_ptr = (0, 0); now = e } in
        let one = (pushes_moves rules fs (block_pushes block rest stmt q)).goes (seen_program p) store current h in
        let two = (return_moves rules fs stmt rest expr is).goes (seen_program p) store current one.holds in
        let three = g (frame.Wait waiting.Return ∷ fs) expr refl two.holds in
        let four = (pops_moves rules fs (return_pops v)).goes (seen_program p) store1 current three.holds in
        goes_trans rules (seen_program p) _ _ _ one (goes_trans rules (seen_program p) _ _ _ two (goes_trans rules (seen_program p) _ _ _ three four))

    -- a condition that holds, whose block returns
    pub return_inside : (s : Stmt) (more : List Stmt) (t : Expr) (block : Vec Stmt Global) (others : Vec (Expr × Vec Stmt Global) Global) (last : Option (Vec Stmt Global)) (v : Value)
        → s ≡ S.If t block others last → IsBoolThere p store current t true → ReturnsValue rules p store current block.items v store1 → ReturnsValue rules p store current (s ∷ more) v store1
    return_inside s more t block others last v is b r = λ fs whole q h.
        let stmt : Bor Stmt = record { ref_ptr = (0, 0); now = s } in
        let rest : Bor (List Stmt) = record { ref_ptr = (0, 0); now = more } in
        let test : Bor Expr = record { ref_ptr = (0, 0); now = t } in
        let side : Bor (List Stmt) = record { ref_ptr = (0, 0); now = block.items } in
        let elses : Bor (List (Expr × Vec Stmt Global)) = record { ref_ptr = (0, 0); now = others.items } in
        let end : Bor (Option (Vec Stmt Global)) = record { ref_ptr = (0, 0); now = last } in
        let yes = value.Bool true in
        let one = (pushes_moves rules fs (block_pushes whole rest stmt q)).goes (seen_program p) store current h in
        let two = (pushes_moves rules (before_stmt rest fs) (if_pushes stmt test t block others last side elses end is refl refl refl refl)).goes (seen_program p) store current one.holds in
        let three = direct_goes rules p store current (branches side elses end rest fs) test yes b two.holds in
        let four = (side_moves rules fs yes side elses end rest (Some true) (focus.Block side) refl refl).goes (seen_program p) store current three.holds in
        let five = r (before_stmt rest fs) side refl four.holds in
        let six = pass_return rules (seen_program p) store1 current fs (frame.Wait (waiting.Stmts rest)) v tt five.holds in
        goes_trans rules (seen_program p) _ _ _ one (goes_trans rules (seen_program p) _ _ _ two (goes_trans rules (seen_program p) _ _ _ three (goes_trans rules (seen_program p) _ _ _ four (goes_trans rules (seen_program p) _ _ _ five six))))

    -- an expression in brackets
    pub paren_comes : (e inner : Expr) (x : Box Expr Global) (v : Value) → e ≡ E.Paren x → inner ≡ x.value → ValueComes rules p inner store current v store1 → ValueComes rules p e store current v store1
    paren_comes e inner x v is a g = λ fs expr q h.
        let part : Bor Expr = record { ref_ptr = (0, 0); now = inner } in
        let one = (stays_moves rules fs (paren_stays expr part x (q ∙ is) a)).goes (seen_program p) store current h in
        goes_trans rules (seen_program p) _ _ _ one (g fs part refl one.holds)

  module _ (store store1 store2 : Store) (current : Current) where
    -- the first term, and then the further ones
    pub sum_comes : (e first : Expr) (x : Box Expr Global) (es : Vec (SumSign × Expr) Global) (ts : List (SumSign × Expr)) (u v : Value) → e ≡ E.Sum x es → first ≡ x.value → ts ≡ es.items
        → ValueComes rules p first store current u store1 → TermsCome rules p ts store1 current u v store2 → ValueComes rules p e store current v store2
    sum_comes e first x es ts u v is a b g t = λ fs expr q h.
        let part : Bor Expr = record { ref_ptr = (0, 0); now = first } in
        let terms : Bor (List (SumSign × Expr)) = record { ref_ptr = (0, 0); now = ts } in
        let one = (pushes_moves rules fs (sum_pushes expr part terms x es (q ∙ is) a b)).goes (seen_program p) store current h in
        let two = g (frame.Wait (waiting.Terms terms) ∷ fs) part refl one.holds in
        goes_trans rules (seen_program p) _ _ _ one (goes_trans rules (seen_program p) _ _ _ two (t fs terms refl two.holds))

    pub product_comes : (e first : Expr) (x : Box Expr Global) (es : Vec (ProductSign × Expr) Global) (ts : List (ProductSign × Expr)) (u v : Value) → e ≡ E.Product x es → first ≡ x.value → ts ≡ es.items
        → ValueComes rules p first store current u store1 → FactorsCome rules p ts store1 current u v store2 → ValueComes rules p e store current v store2
    product_comes e first x es ts u v is a b g t = λ fs expr q h.
        let part : Bor Expr = record { ref_ptr = (0, 0); now = first } in
        let factors : Bor (List (ProductSign × Expr)) = record { ref_ptr = (0, 0); now = ts } in
        let one = (pushes_moves rules fs (product_pushes expr part factors x es (q ∙ is) a b)).goes (seen_program p) store current h in
        let two = g (frame.Wait (waiting.Factors factors) ∷ fs) part refl one.holds in
        goes_trans rules (seen_program p) _ _ _ one (goes_trans rules (seen_program p) _ _ _ two (t fs factors refl two.holds))

    -- one term more
    pub terms_on : (t : SumSign × Expr) (more : List (SumSign × Expr)) (s x s1 v : Value) → ValueComes rules p t.1 store current x store1 → IsAnswer (focus.Value s1) (sum_answer t.0 (seen s) (seen x))
        → TermsCome rules p more store1 current s1 v store2 → TermsCome rules p (t ∷ more) store current s v store2
    terms_on t more s x s1 v g a c = λ fs terms q h.
        let term : Bor (SumSign × Expr) = record { ref_ptr = (0, 0); now = t } in
        let rest : Bor (List (SumSign × Expr)) = record { ref_ptr = (0, 0); now = more } in
        let expr : Bor Expr = record { ref_ptr = (0, 0); now = t.1 } in
        let one = (swaps_moves rules fs (terms_next s terms rest term expr q refl)).goes (seen_program p) store current h in
        let two = g (frame.Wait (waiting.Term s t.0 rest) ∷ fs) expr refl one.holds in
        let three = (swaps_moves rules fs (terms_answer x s t.0 rest (focus.Value s1) a)).goes (seen_program p) store1 current two.holds in
        goes_trans rules (seen_program p) _ _ _ one (goes_trans rules (seen_program p) _ _ _ two (goes_trans rules (seen_program p) _ _ _ three (c fs rest refl three.holds)))

    pub factors_on : (t : ProductSign × Expr) (more : List (ProductSign × Expr)) (s x s1 v : Value) → ValueComes rules p t.1 store current x store1 → IsAnswer (focus.Value s1) (product_answer t.0 (seen s) (seen x))
        → FactorsCome rules p more store1 current s1 v store2 → FactorsCome rules p (t ∷ more) store current s v store2
    factors_on t more s x s1 v g a c = λ fs factors q h.
        let factor : Bor (ProductSign × Expr) = record { ref_ptr = (0, 0); now = t } in
        let rest : Bor (List (ProductSign × Expr)) = record { ref_ptr = (0, 0); now = more } in
        let expr : Bor Expr = record { ref_ptr = (0, 0); now = t.1 } in
        let one = (swaps_moves rules fs (factors_next s factors rest factor expr q refl)).goes (seen_program p) store current h in
        let two = g (frame.Wait (waiting.Factor s t.0 rest) ∷ fs) expr refl one.holds in
        let three = (swaps_moves rules fs (factors_answer x s t.0 rest (focus.Value s1) a)).goes (seen_program p) store1 current two.holds in
        goes_trans rules (seen_program p) _ _ _ one (goes_trans rules (seen_program p) _ _ _ two (goes_trans rules (seen_program p) _ _ _ three (c fs rest refl three.holds)))

  module _ (store : Store) (current : Current) where
    pub terms_end : (ts : List (SumSign × Expr)) (v : Value) → ts ≡ [] → TermsCome rules p ts store current v v store
    terms_end ts v e = λ fs terms q h. (pops_moves rules fs (terms_last v terms (q ∙ e))).goes (seen_program p) store current h

    pub factors_end : (ts : List (ProductSign × Expr)) (v : Value) → ts ≡ [] → FactorsCome rules p ts store current v v store
    factors_end ts v e = λ fs factors q h. (pops_moves rules fs (factors_last v factors (q ∙ e))).goes (seen_program p) store current h

  -- the body of a call brings it to a `return`
  pub call_returns : (less less1 store2 : Store) (current inner inner1 : Current) (n : ℕ) (args : Vec Value Global) (body left : List Stmt) (v : Value) → current.depth < 256 → inner.depth ≡ current.depth + 1
      → variables_of inner.names.now inner.locals.items ≡ call_variables (function_at p n) (map seen args.items) → seen_block body ≡ body_at p n → CallsFit (in_block (body_at p n))
      → BlockBrings rules p less inner body less1 inner1 left → ReturnsValue rules p less1 inner1 left v store2 → CallReturns rules p n args less current v store2
  call_returns less less1 store2 current inner inner1 n args body left v room deep vars is fits brings returns = λ fs callee q h.
      let block : Bor (List Stmt) = record { ref_ptr = (0, 0); now = body } in
      let rest : Bor (List Stmt) = record { ref_ptr = (0, 0); now = left } in
      let fs1 = frame.Open current.names current.locals ∷ fs in
      let store = record less { fuel = less.fuel + 1 } in
      let op = opens rules (seen_program p) store less current inner current.locals fs n (map seen args.items) (focus.Call callee args) (focus.Block block) (function_at p n) less.fuel refl room (omega arith) refl deep refl vars is fits h h.focus.1 in
      let one = call_opens rules (seen_program p) store current fs callee args (record { function = n; bound = no_values }) (map seen args.items) (place less inner fs1 (focus.Block block)) (ap func_of q) refl op in
      let two = brings fs1 block rest refl refl one.holds in
      let three = returns fs1 rest refl two.holds in
      let depth : current.depth + 1 ≡ inner1.depth = let a = three.holds.depth in let b = h.depth in omega (arith, a, b) in
      let four = close_return rules (seen_program p) store2 inner1 fs current current.names current.locals v refl refl depth three.holds in
      goes_trans rules (seen_program p) _ _ _ (goes_on rules (seen_program p) _ _ _ one two) (goes_trans rules (seen_program p) _ _ _ three four)

  -- a call by the name of a function
  pub call_comes : (store less store2 : Store) (current : Current) (args : List Expr) (n : ℕ) (vs : Vec Value Global) (v : Value) → AreFound rules p store current args vs → store ≡ record less { fuel = less.fuel + 1 }
      → CallReturns rules p n vs less current v store2 → CallComes rules p n args store current v store2
  call_comes store less store2 current args n vs v found unit returns = λ e name es is a op there fs expr q h.
      let callee = Some (value.Fun (record { function = n; bound = no_values })) in
      let row : Bor (List Expr) = record { ref_ptr = (0, 0); now = args } in
      let end : Bor (List Expr) = record { ref_ptr = (0, 0); now = [] } in
      let one = call_row rules p store current fs expr name es row row (purpose.Call callee) found.none (q ∙ is) a (called_value (op_named name.name) callee _ (sym op) (sym there)) found.empty refl h in
      let two = found.brings fs (purpose.Call callee) row end refl refl one.holds in
      let three = (stays_moves rules fs (row_call callee vs end refl)).goes (seen_program p) store current two.holds in
      let four = returns fs callee refl (rw unit at three.holds) in
      goes_trans rules (seen_program p) _ _ _ (goes_on rules (seen_program p) _ _ _ one two) (goes_trans rules (seen_program p) _ _ _ three (rw unit four))

named_at : (p : Code.Program) (n : ℕ) (f : Function) (names : List (List ℕ)) → Some (seen_function f) ≡ function_at p n → slice_get (names_of_frames p) n ≡ Some names → names ≡ frame_names (seen_function f)
named_at p n f names q named =
    let h : Some names ≡ Some (frame_names (seen_function f)) = sym named ∙ slice_get-map frame_names (functions_of (seen_program p).items) n ∙ ap (option_map frame_names) (sym q) in
    cc

-- the variables with which a function is called by its number
pub called_locals : (p : Code.Program) (n n' : ℕ) (f : Function) (names : List (List ℕ)) (args locals : Vec Value Global) → n' ≡ vec_len f.parameters → Some (seen_function f) ≡ function_at p n → slice_get (names_of_frames p) n ≡ Some names → AreFilled names n' args locals
    → variables_of names locals.items ≡ call_variables (function_at p n) (map seen args.items)
called_locals p n n' f names args locals many q named filled = rw (← q)
    (filled (seen_function f).parameters (names_in (seen_function f).body) (named_at p n f names q named) (many ∙ f.parameters.ok.0 ∙ sym (length-map f.parameters.items (λ x. x.name))))
