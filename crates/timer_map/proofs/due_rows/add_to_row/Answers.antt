use Rattle.std.proofs.Common.{◌≡◌, ◌<◌, Result, Ok, Err, OnErr, Some, None, [], ◌∷◌, ◌++◌, length, sym, ap, subst, ◌∙◌, rules, arith}
use Rattle.std.specs.BTreeMap.{BTreeMap, get, insert_entry}
use Rattle.timer_map.specs.Rows.{values_of_rows, AreFilled}
use Rattle.timer_map.proofs.RowLemmas.{due_cmp, added_new, filled_new, added_here, filled_here, same_here, filled_found}
use Rattle.timer_map.proofs.due_rows.add_to_row.Goals as goal

on_err : {T E P : Type 0} (r : Result T E) → P → OnErr r P
on_err (Ok x) p = tt
on_err (Err e) p = p

pub returns-in_err-push_back-clause-filled : goal.returns-in_err-push_back-clause-filled
returns-in_err-push_back-clause-filled g c =
    let had : get due_cmp c.args.rows.now c.args.due ≡ Some c.in-Some.row.now = search rules in
    let full = filled_found c.args.due c.in-Some.row.now c.args.rows.now.entries had c.requires in
    let items = c.in_err-push_back.ensures.items in
    let some : 0 < length c.push_back.new.self.items = rw items full in
    subst AreFilled (sym (c.get_mut.follows.holds c.push_back.new.self).0) (filled_here c.args.due c.push_back.new.self c.args.rows.now.entries some c.requires)

pub returns-in_err-push_back-clause-err : goal.returns-in_err-push_back-clause-err
returns-in_err-push_back-clause-err g c =
    let had : get due_cmp c.args.rows.now c.args.due ≡ Some c.in-Some.row.now = search rules in
    let same = same_here c.args.due c.in-Some.row.now c.push_back.new.self c.args.rows.now.entries had c.in_err-push_back.ensures.items in
    on_err _ (ap values_of_rows (c.get_mut.follows.holds c.push_back.new.self).0 ∙ same)

pub returns-in-Some-clause-added : goal.returns-in-Some-clause-added
returns-in-Some-clause-added g c =
    let had : get due_cmp c.args.rows.now c.args.due ≡ Some c.in-Some.row.now = search rules in
    let here = added_here c.args.due c.in-Some.row.now c.push_back.new.self c.args.value c.args.rows.now.entries had c.in_ok-push_back.ensures.items c.get_mut.ensures.ordered c.requires in
    ap values_of_rows (c.get_mut.follows.holds c.push_back.new.self).0 ∙ here

pub returns-in-Some-clause-filled : goal.returns-in-Some-clause-filled
returns-in-Some-clause-filled g c =
    let items = c.in_ok-push_back.ensures.items in
    let some : 0 < length c.push_back.new.self.items = rw items (grind (arith)) in
    subst AreFilled (sym (c.get_mut.follows.holds c.push_back.new.self).0) (filled_here c.args.due c.push_back.new.self c.args.rows.now.entries some c.requires)

pub returns-clause-added : goal.returns-clause-added
returns-clause-added g c =
    let none : get due_cmp c.args.rows.now c.args.due ≡ None = search rules in
    let kept : c.get_mut.follows.lender-at-none ≡ c.args.rows.now = search rules in
    let items : c.push_back-2.new.self.items ≡ c.args.value ∷ [] = c.in_ok-push_back-2.ensures.items ∙ ap (λ is. is ++ c.args.value ∷ []) c.new-row.ensures.items in
    let new = added_new c.args.due c.push_back-2.new.self c.args.value c.args.rows.now.entries items none c.requires in
    ap values_of_rows (c.in_ok-insert.ensures.entries ∙ ap (λ (m : BTreeMap _ _). insert_entry due_cmp m.entries c.args.due c.push_back-2.new.self) kept) ∙ new

pub returns-clause-filled : goal.returns-clause-filled
returns-clause-filled g c =
    let kept : c.get_mut.follows.lender-at-none ≡ c.args.rows.now = search rules in
    let items : c.push_back-2.new.self.items ≡ c.args.value ∷ [] = c.in_ok-push_back-2.ensures.items ∙ ap (λ is. is ++ c.args.value ∷ []) c.new-row.ensures.items in
    let some : 0 < length c.push_back-2.new.self.items = rw items (grind (arith)) in
    subst AreFilled (sym (c.in_ok-insert.ensures.entries ∙ ap (λ (m : BTreeMap _ _). insert_entry due_cmp m.entries c.args.due c.push_back-2.new.self) kept)) (filled_new c.args.due c.push_back-2.new.self c.args.rows.now.entries some c.requires)
