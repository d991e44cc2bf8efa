use Rattle.std.proofs.Common.{◌≡◌, ◌<◌, Option, Some, None, List, [], ◌∷◌, ◌++◌, true, sym, ap, subst, ◌∙◌, rules}
use Rattle.std.proofs.lemmas.Bool.{eqb-true}
use Rattle.std.specs.BTreeMap.{get, is_at}
use Rattle.std.specs.Map.{remove_entry}
use Rattle.std.specs.Option.{is_some, option_to_list}
use Rattle.timer_map.specs.Rows.{values_of_rows, AreFilled}
use Rattle.timer_map.proofs.RowLemmas.{due_cmp, filled_here, filled_found, emptied, left_over}
use Rattle.timer_map.proofs.BackLemmas.{without_last, taken_back, last_left, emptied_row, filled_without, row_was_there}
use Rattle.timer_map.proofs.due_rows.take_back_from_row.Goals as goal

-- the value that leaves a row is its last one
last_one : {X : Type 0} (r : Option X) (ws xs : List X) → is_some r ≡ true → xs ≡ ws ++ option_to_list r → (x : X) × (xs ≡ ws ++ x ∷ [])
last_one None ws xs some items = cc
last_one (Some x) ws xs some items = (x, items)

pub returns-in_default-clause-back : goal.returns-in_default-clause-back
returns-in_default-clause-back g c = λ v es is.
    let none : get due_cmp c.args.rows.now c.args.due ≡ None = search rules in
    absurd (row_was_there c.args.due v es c.args.rows.now.entries is none)

pub returns-then-is_empty-clause-back : goal.returns-then-is_empty-clause-back
returns-then-is_empty-clause-back g c = λ v es is.
    let had : get due_cmp c.args.rows.now c.args.due ≡ Some c.in-Some.row.now = search rules in
    let w = c.pop_back.new.self in
    let full = filled_found c.args.due c.in-Some.row.now c.args.rows.now.entries had c.requires in
    let last = last_one c.pop_back.result w.items c.in-Some.row.now.items (c.pop_back.ensures.variant.1 (subst (λ n. 0 < n) (sym c.in-Some.row.now.ok.0) full)) c.pop_back.ensures.items in
    let left = last_left c.args.due c.in-Some.row.now w last.0 c.args.rows.now.entries had last.1 c.get_mut.ensures.ordered c.requires in
    let none = emptied w.items (sym w.ok.0 ∙ eqb-true w.len 0 (sym c.is_empty.ensures ∙ c.if-is_empty.true)) in
    ap values_of_rows (c.remove.ensures.entries ∙ ap (remove_entry (is_at (due_cmp c.args.due))) (c.get_mut.follows.holds w).0)
    ∙ sym (emptied_row (is_at (due_cmp c.args.due)) w c.args.rows.now.entries none)
    ∙ sym left ∙ ap (without_last c.args.due.0) is ∙ taken_back c.args.due.0 v es

pub returns-then-is_empty-clause-filled : goal.returns-then-is_empty-clause-filled
returns-then-is_empty-clause-filled g c =
    let w = c.pop_back.new.self in
    let left = filled_without (is_at (due_cmp c.args.due)) w c.args.rows.now.entries c.requires in
    subst AreFilled (sym (c.remove.ensures.entries ∙ ap (remove_entry (is_at (due_cmp c.args.due))) (c.get_mut.follows.holds w).0)) left

pub returns-else-is_empty-clause-back : goal.returns-else-is_empty-clause-back
returns-else-is_empty-clause-back g c = λ v es is.
    let had : get due_cmp c.args.rows.now c.args.due ≡ Some c.in-Some.row.now = search rules in
    let w = c.pop_back.new.self in
    let full = filled_found c.args.due c.in-Some.row.now c.args.rows.now.entries had c.requires in
    let last = last_one c.pop_back.result w.items c.in-Some.row.now.items (c.pop_back.ensures.variant.1 (subst (λ n. 0 < n) (sym c.in-Some.row.now.ok.0) full)) c.pop_back.ensures.items in
    let left = last_left c.args.due c.in-Some.row.now w last.0 c.args.rows.now.entries had last.1 c.get_mut.ensures.ordered c.requires in
    ap values_of_rows (c.get_mut.follows.holds w).0 ∙ sym left ∙ ap (without_last c.args.due.0) is ∙ taken_back c.args.due.0 v es

pub returns-else-is_empty-clause-filled : goal.returns-else-is_empty-clause-filled
returns-else-is_empty-clause-filled g c =
    let w = c.pop_back.new.self in
    let some = left_over w.len w.items w.ok.0 (sym c.is_empty.ensures ∙ c.if-is_empty.false) in
    subst AreFilled (sym (c.get_mut.follows.holds w).0) (filled_here c.args.due w c.args.rows.now.entries some c.requires)
