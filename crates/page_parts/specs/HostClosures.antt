-- Host closures: what they answer, and how far each has come.
use Rattle.std.specs.Prelude.{Bool, true, false, ℤ, ◌+ℤ◌, ◌*ℤ◌, neg_ℤ, Result, Ok, Err}
use Rattle.page_types.specs.declared.HostKind.{HostKind}
use Rattle.page_types.specs.declared.HostKind.TheVariants.{Square, Double, Negate, Fail, Any}
use Rattle.page_types.specs.declared.HostMark.{HostMark}
use Rattle.page_types.specs.declared.HostMark.TheVariants.{Fired}
use Rattle.page_parts.specs.Words.{same_int}

-- ---- Ours: closures of the host, which a script asks for an answer on a number

-- a closure: the relation that its answers meet, the least and the greatest number that it takes, and how far it has come
pub record HostClosure : Type 0 where
  pub kind : HostKind
  pub low : ℤ
  pub high : ℤ
  pub mark : HostMark

-- whether the answer is Ok of this number
abbrev pub is_ok_of : ℤ → Result ℤ ℤ → Bool
is_ok_of x (Ok y) = same_int x y
is_ok_of x (Err y) = false

-- whether the answer is Err of this number
abbrev pub is_err_of : ℤ → Result ℤ ℤ → Bool
is_err_of x (Ok y) = false
is_err_of x (Err y) = same_int x y

-- whether an answer meets the kind's relation
abbrev pub meets : HostKind → ℤ → Result ℤ ℤ → Bool
meets Square x answer = is_ok_of (x *ℤ x) answer
meets Double x answer = is_ok_of (x +ℤ x) answer
meets Negate x answer = is_ok_of (neg_ℤ x) answer
meets Fail x answer = is_err_of x answer
meets Any x answer = true

-- the closure after it was fired
abbrev pub fired : HostClosure → HostClosure
fired c = record c { mark = Fired }
