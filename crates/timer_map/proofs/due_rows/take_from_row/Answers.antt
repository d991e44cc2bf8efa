use Rattle.std.proofs.Common.{◌≡◌, Some, None, sym, ap, subst, ◌∙◌, rules}
use Rattle.std.proofs.lemmas.Bool.{eqb-true}
use Rattle.std.specs.BTreeMap.{get, is_at}
use Rattle.std.specs.Map.{remove_entry}
use Rattle.timer_map.specs.Rows.{values_of_rows, AreFilled}
use Rattle.timer_map.proofs.RowLemmas.{due_cmp, row_is_there, taken_value, others_left, row_left, filled_here, filled_left, emptied, left_over}
use Rattle.timer_map.proofs.due_rows.take_from_row.Goals as goal

pub returns-in_err-row-clause-value : goal.returns-in_err-row-clause-value
returns-in_err-row-clause-value g c =
    let none : get due_cmp c.args.rows.now c.args.due ≡ None = search rules in
    absurd (row_is_there c.args.due c.args.rows.now.entries c.requires.filled c.requires.first none)

pub returns-in_err-row-clause-left : goal.returns-in_err-row-clause-left
returns-in_err-row-clause-left g c =
    let none : get due_cmp c.args.rows.now c.args.due ≡ None = search rules in
    absurd (row_is_there c.args.due c.args.rows.now.entries c.requires.filled c.requires.first none)

pub returns-then-is_empty-clause-value : goal.returns-then-is_empty-clause-value
returns-then-is_empty-clause-value g c =
    let had : get due_cmp c.args.rows.now c.args.due ≡ Some c.in_ok-row.row.now = search rules in
    let e = c.pop_front-first.ensures in
    taken_value c.args.due c.in_ok-row.row.now c.pop_front-first.new.self c.args.rows.now.entries _ c.requires.filled c.requires.first had e.items e.rest

pub returns-then-is_empty-clause-left : goal.returns-then-is_empty-clause-left
returns-then-is_empty-clause-left g c =
    let had : get due_cmp c.args.rows.now c.args.due ≡ Some c.in_ok-row.row.now = search rules in
    let w = c.pop_front-first.new.self in
    let none = emptied w.items (sym w.ok.0 ∙ eqb-true w.len 0 (sym c.is_empty.ensures ∙ c.if-is_empty.true)) in
    let left = row_left c.args.due c.in_ok-row.row.now w c.args.rows.now.entries c.requires.filled c.requires.first had c.pop_front-first.ensures.rest none in
    ap values_of_rows (c.remove.ensures.entries ∙ ap (remove_entry (is_at (due_cmp c.args.due))) (c.get_mut.follows.holds w).0) ∙ left

pub returns-then-is_empty-clause-filled : goal.returns-then-is_empty-clause-filled
returns-then-is_empty-clause-filled g c =
    let w = c.pop_front-first.new.self in
    let left = filled_left c.args.due c.in_ok-row.row.now w c.args.rows.now.entries c.requires.filled c.requires.first in
    subst AreFilled (sym (c.remove.ensures.entries ∙ ap (remove_entry (is_at (due_cmp c.args.due))) (c.get_mut.follows.holds w).0)) left

pub returns-else-is_empty-clause-value : goal.returns-else-is_empty-clause-value
returns-else-is_empty-clause-value g c =
    let had : get due_cmp c.args.rows.now c.args.due ≡ Some c.in_ok-row.row.now = search rules in
    let e = c.pop_front-first.ensures in
    taken_value c.args.due c.in_ok-row.row.now c.pop_front-first.new.self c.args.rows.now.entries _ c.requires.filled c.requires.first had e.items e.rest

pub returns-else-is_empty-clause-left : goal.returns-else-is_empty-clause-left
returns-else-is_empty-clause-left g c =
    let had : get due_cmp c.args.rows.now c.args.due ≡ Some c.in_ok-row.row.now = search rules in
    let w = c.pop_front-first.new.self in
    ap values_of_rows (c.get_mut.follows.holds w).0 ∙ others_left c.args.due c.in_ok-row.row.now w c.args.rows.now.entries c.requires.filled c.requires.first had c.pop_front-first.ensures.rest

pub returns-else-is_empty-clause-filled : goal.returns-else-is_empty-clause-filled
returns-else-is_empty-clause-filled g c =
    let w = c.pop_front-first.new.self in
    let some = left_over w.len w.items w.ok.0 (sym c.is_empty.ensures ∙ c.if-is_empty.false) in
    subst AreFilled (sym (c.get_mut.follows.holds w).0) (filled_here c.args.due w c.args.rows.now.entries some c.requires.filled)
