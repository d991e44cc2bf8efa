-- The free choices of a run: which source is served, what the clock reads, what a host closure answers.
use Rattle.std.specs.Prelude.{ℕ, suc, ◌+◌, ◌^◌, Bool, true, false, if◌then◌else◌, ◌&&◌, List, [], ◌∷◌, map, replicate, Option, Some, None, ℤ, nat_lt, nat_le, slice_index, find, filter, unwrap_or, Result}
use Rattle.page_types.specs.declared.Source.{Source}
use Rattle.page_types.specs.declared.Source.TheVariants.{User}
use Rattle.page_parts.specs.HostClosures.{meets}
use Rattle.page_types.specs.declared.HostKind.{HostKind}
use Rattle.page_parts.specs.Setup.{Policy, Fifo, Rank, Fair, Setup}
use Rattle.page_parts.specs.Sources.{default_list, source_number, same_source}

-- ---- HTML, "Event loops: processing model" leaves open which task queue is served. Ours: the policies by which it is chosen

-- a source with a runnable task, and the number of its first task
pub record Runnable : Type 0 where
  pub source : Source
  pub first : ℕ

-- whether a source has a runnable task
abbrev pub is_runnable : List Runnable → Source → Bool
is_runnable rs source = elim (find (λ r. same_source r.source source) rs) [ None ↦ false | Some r ↦ true ]

-- ---- Ours: the written policy

-- the source of least first task, among these and the best so far
abbrev pub least_first : Source → ℕ → List Runnable → Source
least_first best n [] = best
least_first best n (r ∷ rs) = if nat_lt r.first n then least_first r.source r.first rs else least_first best n rs

-- the source whose first task has the least number
abbrev pub by_fifo : List Runnable → Source
by_fifo [] = User
by_fifo (r ∷ rs) = least_first r.source r.first rs

-- the first source of the list that has a runnable task
abbrev pub by_rank : List Source → List Runnable → Source
by_rank sources rs = unwrap_or (find (is_runnable rs) sources) User

-- the count of a source
abbrev pub count_of : List ℕ → Source → ℕ
count_of counts source = slice_index counts (source_number source)

-- the counts at a choice: those of sources without a runnable task become 0
abbrev pub counts_now : List Runnable → List ℕ → List ℕ
counts_now rs counts = map (λ s. if is_runnable rs s then count_of counts s else 0) default_list

-- the source of greatest count, among these and the best so far; the earlier one where counts are equal
abbrev pub greatest_from : List ℕ → Source → List Source → Source
greatest_from counts best [] = best
greatest_from counts best (s ∷ more) = greatest_from counts (if nat_lt (count_of counts best) (count_of counts s) then s else best) more

-- the source of greatest count in a list
abbrev pub greatest : List ℕ → List Source → Option Source
greatest counts [] = None
greatest counts (s ∷ more) = Some (greatest_from counts s more)

-- the greatest count of at least k, ties by the default list, which also decides where there is none
abbrev pub by_fair : ℕ → List ℕ → List Runnable → Source
by_fair k counts rs =
    unwrap_or (greatest counts (filter (λ s. is_runnable rs s && nat_le k (count_of counts s)) default_list)) (by_rank default_list rs)

-- the counts after a choice: 0 for the chosen source, one more for each other source with a runnable task
abbrev pub counts_after : List Runnable → Source → List ℕ → List ℕ
counts_after rs chosen counts =
    map (λ s. if same_source s chosen then 0 else if is_runnable rs s then suc (count_of counts s) else 0) default_list

-- the source that the policy gives
abbrev pub policy_source : Policy → List ℕ → List Runnable → Source
policy_source Fifo counts rs = by_fifo rs
policy_source (Rank sources) counts rs = by_rank sources rs
policy_source (Fair k) counts rs = by_fair k (counts_now rs counts) rs

-- ---- Ours: what a run does not decide by itself

-- A run goes by three lists, each used on its own; or by the written policy and lateness, with a list of host answers.
pub data Choices : Type 0 where
  Recorded : (sources : List Source) (readings : List ℕ) (answers : List (Result ℤ ℤ)) → Choices
  Written : (policy : Policy) (counts late : List ℕ) (answers : List (Result ℤ ℤ)) → Choices

-- the written choices of a setup
abbrev pub written : Setup → List (Result ℤ ℤ) → Choices
written setup answers = Written setup.policy (replicate 7 0) setup.late answers

-- a source, and the choices that are left
pub record PickedSource : Type 0 where
  pub source : Source
  pub left : Choices

-- a reading of the clock, and the choices that are left
pub record PickedReading : Type 0 where
  pub reading : ℕ
  pub left : Choices

-- an answer of a host closure, and the choices that are left
pub record PickedAnswer : Type 0 where
  pub answer : Result ℤ ℤ
  pub left : Choices

-- the next source: none where it is absent or has no runnable task
abbrev pub next_source : List Runnable → Choices → Option PickedSource
next_source rs (Recorded [] readings answers) = None
next_source rs (Recorded (s ∷ sources) readings answers) =
    if is_runnable rs s then Some (record { source = s; left = Recorded sources readings answers }) else None
next_source rs (Written policy counts late answers) =
    let s = policy_source policy counts rs in
    Some (record { source = s; left = Written policy (counts_after rs s (counts_now rs counts)) late answers })

-- the next reading: none where it is absent, below the target or not below 2 ^ 63
abbrev pub next_reading : ℕ → Choices → Option PickedReading
next_reading target (Recorded sources [] answers) = None
next_reading target (Recorded sources (t ∷ readings) answers) =
    if nat_le target t && nat_lt t (2 ^ 63) then Some (record { reading = t; left = Recorded sources readings answers }) else None
next_reading target (Written policy counts [] answers) = Some (record { reading = target; left = Written policy counts [] answers })
next_reading target (Written policy counts (l ∷ late) answers) =
    Some (record { reading = target + l; left = Written policy counts late answers })

-- the first answer of a list, where it meets the relation
abbrev pub first_answer : HostKind → ℤ → List (Result ℤ ℤ) → (List (Result ℤ ℤ) → Choices) → Option PickedAnswer
first_answer kind x [] left = None
first_answer kind x (a ∷ answers) left = if meets kind x a then Some (record { answer = a; left = left answers }) else None

-- the next host answer: none where it is absent or does not meet the relation
abbrev pub next_answer : HostKind → ℤ → Choices → Option PickedAnswer
next_answer kind x (Recorded sources readings answers) = first_answer kind x answers (Recorded sources readings)
next_answer kind x (Written policy counts late answers) = first_answer kind x answers (Written policy counts late)
