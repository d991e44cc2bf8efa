use Rattle.std.proofs.Common.{[], ◌∷◌, ◌++◌, inl, inr, refl, sym, ap, ◌∙◌}
use Rattle.std.specs.Option.{option_copied}
use Rattle.page_signals.proofs.signals.reason_number.Goals as goal

pub returns-in-Some-clause-number : goal.returns-in-Some-clause-number
returns-in-Some-clause-number c = inl (sym c.reason.ensures ∙ ap option_copied c.in-Some.is, refl)

pub returns-clause-number : goal.returns-clause-number
returns-clause-number c =
    inr (
      sym c.reason.ensures ∙ ap option_copied c.in_default.is,
      c.in_ok-number.ensures.number ∙ c.args.reasons.now.ok.0,
      c.push_reserved.ensures.items ∙ ap (λ xs. xs ++ c.args.reason ∷ []) c.in_ok-number.ensures.items,
    )
