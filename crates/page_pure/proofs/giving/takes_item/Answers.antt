use Rattle.std.proofs.Common.{ap, sym, ◌∙◌}
use Rattle.std.proofs.lemmas.Bool.{false≢true}
use Rattle.page_values.specs.Seen.{seen}
use Rattle.page_pure.proofs.Fitting.{push-fits, push-light, push-flat}
use Rattle.page_pure.proofs.giving.takes_item.Goals as goal

pub returns-then-is_light : goal.returns-then-is_light
returns-then-is_light c =
    let l = seen c.args.list.now in
    let v = seen c.args.item.now in (
      λ flat. push-fits l c.in-List.field-0 v (ap seen c.in-List.is) (c.is_light.ensures.0 c.if-is_light.true) (c.is_flat.ensures.0 flat),
      λ h. c.is_flat.ensures.1 (push-flat l v h),
    )

pub returns-else-is_light : goal.returns-else-is_light
returns-else-is_light c = (
  λ light. absurd (false≢true (sym c.if-is_light.false ∙ light)),
  λ h. c.is_light.ensures.1 (push-light (seen c.args.list.now) (seen c.args.item.now) h),
)
