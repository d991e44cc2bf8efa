-- Worked examples of what segments do, which compute.
use Rattle.std.proofs.Common.{◌≡◌, List, [], ◌∷◌, Some, None, refl}
use Rattle.std.specs.Prelude.{codes, pos}
use Rattle.page_types.specs.declared.Op.{Op}
use Rattle.page_types.specs.declared.Op.TheVariants.{Log, ResolveOp, RejectOp, Resolved, Then}
use Rattle.page_types.specs.Values.{Value, UnitValue, IntValue, TextValue, FunValue, PromiseValue, values_of}
use Rattle.page_types.specs.Tree.{Number, TextLiteral, UnitLiteral, Call, no_exprs, with_expr, ExprStmt, ThrowStmt, ReturnStmt, no_stmts, with_stmt, Program}
use Rattle.lang_meaning.specs.Machine.{Machine, Gives}
use Rattle.lang_meaning.specs.HostSteps.{HostRules, StepValue}
use Rattle.async_segments.specs.Marked.{Alone, MarkedItem, AsyncFn}
use Rattle.async_segments.specs.Expanded.{expanded}
use Rattle.async_segments.specs.Meaning.{AsyncFunction, Part, segment}
use Rattle.async_segments.specs.Promising.{around_body}

-- a host that answers unit, and what it was asked, the last first
abbrev Asked : Type 0
Asked = List (Op × List Value)

abbrev keeps_asks : HostRules Asked
keeps_asks = record {
  op = λ op args h. record { step = StepValue UnitValue; host = (op, args) ∷ h };
  resume = λ ticket end h. record { step = StepValue UnitValue; host = h };
}

-- async fn f() { log("a"); await unit; log("c"); return 3; }
abbrev awaiting : List MarkedItem
awaiting = AsyncFn 0 (record { name = codes "f"; at = 9 }) [] (with_stmt (ExprStmt (Call (record { name = codes "log"; at = 15 }) (with_expr (TextLiteral (codes "a")) no_exprs))) no_stmts)
    (record {
      at = 25;
      form = Alone;
      operand = UnitLiteral;
      statements = with_stmt (ExprStmt (Call (record { name = codes "log"; at = 37 }) (with_expr (TextLiteral (codes "c")) no_exprs)))
          (with_stmt (ReturnStmt (Some (Number (pos 3)))) no_stmts);
    } ∷ []) ∷ []

-- the function, and its two segments
abbrev f : AsyncFunction
f = record {
  name = codes "f";
  parameters = [];
  first = with_stmt (ExprStmt (Call (record { name = codes "log"; at = 15 }) (with_expr (TextLiteral (codes "a")) no_exprs))) no_stmts;
  others = [];
}

abbrev first_segment : Part
first_segment = record {
  stored = None;
  statements = with_stmt (ExprStmt (Call (record { name = codes "log"; at = 15 }) (with_expr (TextLiteral (codes "a")) no_exprs))) no_stmts;
  awaits = Some UnitLiteral;
}

abbrev second_segment : Part
second_segment = record {
  stored = Some Alone;
  statements = with_stmt (ExprStmt (Call (record { name = codes "log"; at = 37 }) (with_expr (TextLiteral (codes "c")) no_exprs)))
      (with_stmt (ReturnStmt (Some (Number (pos 3)))) no_stmts);
  awaits = None;
}

-- one that throws
abbrev throwing : Part
throwing = record { stored = Some Alone; statements = with_stmt (ThrowStmt (Number (pos 7))) no_stmts; awaits = None }

abbrev program : Program
program = record { items = expanded awaiting; names = [] }

abbrev with_asks : Asked → Machine Asked
with_asks asks = record { globals = []; open_calls = [] ∷ []; fuel = 5; host = asks }

-- f, f__0, f__1 and f__r are the functions 0 to 3. Of the promise that `resolved` answered, here unit, the second segment takes the value.
first_waits : segment (around_body keeps_asks program 10) f 0 first_segment 1 UnitValue (with_asks []) ≡ Gives UnitValue (with_asks (
    (Then, UnitValue ∷ FunValue 2 (values_of (PromiseValue 1 ∷ [])) ∷ FunValue 3 (values_of (PromiseValue 1 ∷ [])) ∷ []) ∷
    (Resolved, UnitValue ∷ []) ∷ (Log, TextValue (codes "a") ∷ []) ∷ []))
first_waits = refl

second_resolves : segment (around_body keeps_asks program 10) f 1 second_segment 1 UnitValue (with_asks []) ≡ Gives UnitValue (with_asks (
    (ResolveOp, PromiseValue 1 ∷ IntValue (pos 3) ∷ []) ∷ (Log, TextValue (codes "c") ∷ []) ∷ []))
second_resolves = refl

a_throw_rejects : segment (around_body keeps_asks program 10) f 1 throwing 1 UnitValue (with_asks []) ≡ Gives UnitValue (with_asks (
    (RejectOp, PromiseValue 1 ∷ IntValue (pos 7) ∷ []) ∷ []))
a_throw_rejects = refl
