use Rattle.std.proofs.Common.{◌++◌, map, ap, ◌∙◌}
use Rattle.std.proofs.lemmas.List.{map-append}
use Rattle.page_values.specs.Seen.{seen}
use Rattle.page_interp.proofs.Frames.{seen_items_of}
use Rattle.page_interp.proofs.values.joined.Goals as goal

pub returns : goal.returns
returns c = rw c.in_ok-append.ensures.items (map-append seen c.into_items-all.result.items c.args.args.items ∙ ap (λ vs. vs ++ map seen c.args.args.items) (seen_items_of c.into_items-all.result.items c.args.bound c.into_items-all.ensures.items))
