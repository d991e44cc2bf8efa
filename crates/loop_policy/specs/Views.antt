-- What a chooser sees.
use Rattle.std.specs.Prelude.{◌≡◌, ℕ, false, List, Option, None, option_map, filter_map, slice_index_or}
use Rattle.page_types.specs.declared.Source.{Source}
use Rattle.page_parts.specs.Words.{is_empty}
use Rattle.page_parts.specs.Sources.{default_list, source_number}
use Rattle.page_parts.specs.WrittenChoices.{Runnable}
use Rattle.loop_policy.specs.declared.view.View.{View}

-- the number of the first task of a source
abbrev pub first_of : List (Option ℕ) → Source → Option ℕ
first_of first source = slice_index_or first (source_number source) None

-- the sources of a list that have a runnable task, each with the number of its first one
abbrev pub listed : (Source → Option ℕ) → List Source → List Runnable
listed first sources = filter_map (λ s. option_map (λ n. record { source = s; first = n }) (first s)) sources

-- the sources with a runnable task, in the order of the default list
unfoldable pub runnables : View → List Runnable
runnables view = listed (first_of view.first) default_list

-- some source has a runnable task
abbrev pub HasRunnable : View → Type 0
HasRunnable view = is_empty (runnables view) ≡ false

-- the picks that a recorded chooser still has, and how often it has refused
pub record Picks : Type 0 where
  pub left : List Source
  pub refusals : ℕ
