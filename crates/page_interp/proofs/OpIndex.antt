-- What an index of operations tells after one more name was put in.
use Rattle.std.proofs.Common.{◌≡◌, ℕ, List, [], Vec, Global, Option, Some, None, IfSome, true, false, refl, sym, subst, ◌∙◌}
use Rattle.std.specs.Ordering.{is_eq, nat_cmp}
use Rattle.std.specs.Cmp.{eq_by_cmp_equiv}
use Rattle.std.specs.Cmp.Lexicographic.{slice_cmp, bytes_decides, nat_list_cmp_total}
use Rattle.std.specs.Str.{bytes_eq}
use Rattle.std.specs.BTreeMap.{BTreeMap, UpdatesBy}
use Rattle.std.proofs.lemmas.Bool.{cases_Bool}
use Rattle.std.proofs.lemmas.Map.Text.{is_eq-slice_cmp}
use mathlib.Core.Logic.{⊎_elim}
use Rattle.page_types.specs.declared.Op.{Op}
use Rattle.lang_meaning.specs.OpNames.{op_named}
use Rattle.page_interp.specs.OpIndex.{op_at, AreNamed}
use Rattle.page_interp.proofs.NameIndex.{other_entries, apart}

abbrev Index : Type 0
Index = BTreeMap (Vec ℕ Global) (Option Op)

apart_in_order : (bs cs ks : List ℕ) → bytes_eq bs cs ≡ false → is_eq (slice_cmp nat_cmp bs ks) ≡ true → is_eq (slice_cmp nat_cmp cs ks) ≡ false
apart_in_order bs cs ks n y = is_eq-slice_cmp cs ks ∙ apart bs cs ks n (sym (is_eq-slice_cmp bs ks) ∙ y)

pub no_ops : (m : Index) → m.entries ≡ [] → AreNamed m
no_ops m e = λ x op q. let h : op_at m x ≡ None = rw e refl in cc

if_some : (o : Option (Option Op)) (x : List ℕ) → ((op : Option Op) → o ≡ Some op → op ≡ op_named x) → IfSome o (λ op. op ≡ op_named x)
if_some (Some op) x h = h op refl
if_some None x h = tt

told : (o : Option (Option Op)) (x : List ℕ) (op : Option Op) → IfSome o (λ op. op ≡ op_named x) → o ≡ Some op → op ≡ op_named x
told (Some op1) x op h q = cc
told None x op h q = cc

pub one_more_op : (name : List ℕ) (op : Option Op) (m n : Index) → op ≡ op_named name → UpdatesBy (λ x y. slice_cmp nat_cmp x.items y.items) (λ k. slice_cmp nat_cmp name k.items) m n (Some op) → AreNamed m → AreNamed n
one_more_op name op m n e put before = λ x found q.
    told (op_at n x) x found
    (⊎_elim
    (λ y. subst (λ l. IfSome (op_at n l) (λ op. op ≡ op_named l)) ((bytes_decides name x).0 y) (subst (λ o. IfSome o (λ op. op ≡ op_named name)) (sym put.1) e))
    (λ f. subst (λ o. IfSome o (λ op. op ≡ op_named x)) (sym (other_entries _ _ _ _ put.3 _ (λ a b. (eq_by_cmp_equiv nat_list_cmp_total).congr x a.items b.items) (λ k. apart_in_order name x k.items f))) (if_some (op_at m x) x (before x)))
    (cases_Bool (bytes_eq name x)))
    q
