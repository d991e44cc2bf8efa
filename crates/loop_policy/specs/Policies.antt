-- The policies of the code as those of the definitions, and what a chooser by a policy holds.
use Rattle.std.specs.Prelude.{ℕ, Bool, true, ◌&&◌, ◌==◌, nat_le, length, List}
use Rattle.std.specs.List.{list_all, list_any}
use Rattle.page_types.specs.declared.Source.{Source}
use Rattle.page_parts.specs.Setup as setup
use Rattle.page_parts.specs.Sources.{default_list, same_source}
use Rattle.loop_policy.specs.declared.policy.Policy.{Policy}
use Rattle.loop_policy.specs.declared.policy.Policy.TheVariants.{Fifo, Rank, Fair}

abbrev pub policy_of : Policy → setup.Policy
policy_of Fifo = setup.Fifo
policy_of (Rank sources) = setup.Rank sources
policy_of (Fair k) = setup.Fair k

-- seven sources, among them each one: so each stands there once
abbrev pub lists_each : List Source → Bool
lists_each sources = length sources == 7 && list_all (λ s. list_any (same_source s) sources) default_list

-- a rank lists each source once, and the K of a fair policy is from 1 to 1000
abbrev pub is_policy : setup.Policy → Bool
is_policy setup.Fifo = true
is_policy (setup.Rank sources) = lists_each sources
is_policy (setup.Fair k) = nat_le 1 k && nat_le k 1000

-- a policy, and how often each source was passed over, in the order of the default list
pub record PolicyState : Type 0 where
  pub policy : setup.Policy
  pub counts : List ℕ
