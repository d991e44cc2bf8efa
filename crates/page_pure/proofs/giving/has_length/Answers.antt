use Rattle.std.proofs.Common.{refl, inl, inr}
use Rattle.page_pure.proofs.giving.has_length.Goals as goal

pub returns-in-Text : goal.returns-in-Text
returns-in-Text c = (λ t. elim c.in-Text.is [ inl e ↦ rw e.1 (_, refl) | inr e ↦ rw e.1 (_, refl) ], λ h. refl)

pub returns-in-Text-2 : goal.returns-in-Text-2
returns-in-Text-2 c = (λ t. elim c.in-Text.is [ inl e ↦ rw e.1 (_, refl) | inr e ↦ rw e.1 (_, refl) ], λ h. refl)
