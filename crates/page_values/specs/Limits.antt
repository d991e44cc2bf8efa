-- How heavy the items of a list may be.
use Rattle.std.specs.Prelude.{◌≤◌}
use Rattle.page_types.specs.Values.{Values}
use Rattle.page_parts.specs.Kinds.{all_weights, greatest_nesting}

-- With these items a list weighs at most 65,536, and lists nest at most 64 deep in it.
abbrev pub AreLight : Values → Type 0
AreLight vs = (all_weights vs ≤ 65535) × (greatest_nesting vs ≤ 63)
