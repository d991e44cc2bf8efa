use Rattle.std.proofs.Common.{◌≡◌, ◌<◌, ◌^◌, List, [], ◌∷◌, length, Some, Ok, ap, sym, ◌∙◌, refl, rules, suc}
use Rattle.std.specs.Prelude.{pos}
use Rattle.std.specs.Int.{w64}
use mir.Val.{to_z}
use Rattle.std.proofs.lemmas.Int.{to_z_pos}
use Rattle.page_types.specs.Values as Model
use Rattle.page_types.specs.Values.{IntValue, ListValue, Values, items_of, values_of}
use Rattle.page_parts.specs.Kinds.{list_in}
use Rattle.page_values.specs.Seen.{seen, seen_all}
use Rattle.page_values.specs.declared.Value.{Value}
use Rattle.lang_meaning.specs.PureOperations.{length_answer}
use Rattle.page_pure.proofs.functions.length_of.Goals as goal

same_count : (xs : List Value) → length (items_of (seen_all xs)) ≡ length xs
same_count [] = refl
same_count (x ∷ xs) = ap suc (same_count xs)

count_list : (v : Model.Value) (vs : Values) (xs : List Value) → list_in v ≡ Some vs → seen_all xs ≡ vs → length xs < 2 ^ 63 → length_answer v ≡ Ok (IntValue (to_z w64 (length xs)))
count_list (ListValue ws) vs xs e f h =
    let same : seen_all xs ≡ ws = cc in
    let n : length (items_of ws) ≡ length xs = ap (λ vs. length (items_of vs)) (sym same) ∙ same_count xs in
    rw (to_z_pos w64 (length xs) h) (ap (λ n. Ok (IntValue (pos n))) n)
count_list v vs xs e f h = cc

pub returns-in-Some-as_list : goal.returns-in-Some-as_list
returns-in-Some-as_list c = count_list (seen c.args.value.now) _ c.items.result.now c.in-Some-as_list.ensures c.items.ensures.items (search rules)
