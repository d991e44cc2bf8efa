use Rattle.std.proofs.Common.{sym}
use Rattle.lang_ast.specs.Seen.{seen_name}
use Rattle.page_types.specs.Tree.{AssignStmt}
use Rattle.async_segments.specs.Expanded.{awaited_value}
use Rattle.async_segments.proofs.Writing.{then_ok, ok_as, adds_none}
use Rattle.async_segments.proofs.Flags.{one_spelling, resolving_spelling}
use Rattle.async_segments.proofs.segments.write_store.Goals as goal

pub returns-in-Alone : goal.returns-in-Alone
returns-in-Alone c = rw c.in-Alone.is (adds_none c.args.into.now.items)

pub returns-in-Declared : goal.returns-in-Declared
returns-in-Declared c = rw c.in-Declared.is (ok_as _ _ c.write_stored.result (sym (one_spelling (AssignStmt (seen_name c.in-Declared.x.now) awaited_value))) c.write_stored.ensures)

pub returns-in-Stored : goal.returns-in-Stored
returns-in-Stored c = rw c.in-Stored.is (ok_as _ _ c.write_stored-in-Stored.result (sym (one_spelling (AssignStmt (seen_name c.in-Stored.x.now) awaited_value))) c.write_stored-in-Stored.ensures)

pub returns-in_ok-write_call_end-in-Returned : goal.returns-in_ok-write_call_end-in-Returned
returns-in_ok-write_call_end-in-Returned c = rw c.in-Returned.is (ok_as _ _ c.write_return.result (sym (resolving_spelling awaited_value))
    (then_ok _ _ c.write_return.result c.in_ok-write_resolve-in-Returned.ensures (then_ok _ _ c.write_return.result c.in_ok-name-in-Returned.ensures
    (then_ok _ _ c.write_return.result c.in_ok-write_call_end-in-Returned.ensures c.write_return.ensures))))
