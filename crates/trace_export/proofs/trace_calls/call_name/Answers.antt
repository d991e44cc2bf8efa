use Rattle.std.proofs.Common.{◌≡◌, ◌++◌, [], ◌∷◌, ap, sym, ◌∙◌, subst, append_assoc}
use Rattle.std.specs.Prelude.{IsTrue}
use Rattle.page_parts.specs.Words.{decimal_of}
use Rattle.page_values.specs.Texts.{is_text}
use Rattle.trace_export.specs.Calls.{name_of, call_word_of}
use Rattle.trace_export.proofs.NameTexts.{name_text}
use Rattle.trace_export.proofs.trace_calls.call_name.Goals as goal

pub new-requires : goal.new-requires
new-requires c =
    let number = decimal_of c.args.registration in
    let word = call_word_of c.args.registration c.args.kind in
    let whole : c.print_number.new.into.items ≡ name_of c.args.registration c.args.kind =
    c.in_ok-print_number.ensures
    ∙ ap (λ xs. xs ++ number) (c.in_ok-push.ensures.items ∙ ap (λ xs. xs ++ 32 ∷ []) (c.in_ok-extend_from_slice.ensures.items ∙ ap (λ xs. xs ++ c.call_word.result.now) c.new-name.ensures.items ∙ c.call_word.ensures))
    ∙ append_assoc word (32 ∷ []) number
    in
    subst (λ xs. IsTrue (is_text xs)) (sym whole) (name_text c.args.registration c.args.kind)
