-- All promises and the rejected ones, and what calls do to them.
use Rattle.std.specs.Prelude.{ℕ, zero, suc, Bool, false, true, if◌then◌else◌, ◌&&◌, List, [], ◌∷◌, ◌<◌, ◌≤◌, length, nat_lt, ◌==◌, Option, ◌≡◌, refl}
use Rattle.std.specs.Coded.{Coded, code_by, coded_bool, coded_list, coded_option, coded×, coded⊎, coded_ℕ}
use mathlib.Core.Logic.{◌⊎◌, inl, inr}
use Rattle.page_types.specs.Values.{Value}
use Rattle.page_types.specs.ValueCode.{coded_value}
use Rattle.page_parts.specs.Words.{and_last, without, numbered, with_numbered}
use Rattle.page_parts.specs.Promises.{PromiseRecord, Settled, Fulfilled, Failed, Reaction, Change, pending_promise}

-- all promises in the order of their numbers, and those about to be notified about
pub record Held : Type 0 where
  pub promises : List PromiseRecord
  pub rejected : List ℕ

-- before the first call
abbrev pub nothing_held : Held
nothing_held = record { promises = []; rejected = [] }

-- promise number n was made
pub record IsMade (s : Held) (n : ℕ) : Type 0 where
  pub counted : 0 < n
  pub within : n ≤ length s.promises

-- a new pending promise, at the end
abbrev pub made : Held → Held
made s = record s { promises = and_last s.promises pending_promise }

-- promise number n changes so, and no other; where it is newly rejected it joins the list of those
abbrev pub changed : ℕ → Change → Held → Held
changed n c s =
    record {
      promises = with_numbered s.promises n c.promise;
      rejected = if c.newly_rejected then and_last s.rejected n else s.rejected;
    }

-- the numbers, with n behind them where it is newly rejected
abbrev pub with_rejected : (newly_rejected : Bool) → ℕ → List ℕ → List ℕ
with_rejected newly_rejected n rejected = if newly_rejected then and_last rejected n else rejected

-- promise number n is not to be notified about
abbrev pub no_longer_rejected : ℕ → Held → Held
no_longer_rejected n s = record s { rejected = without (λ m. m == n) s.rejected }

-- those of the numbers whose promises are not handled
abbrev pub unhandled : List PromiseRecord → List ℕ → List ℕ
unhandled ps ns = without (λ n. (numbered ps n pending_promise).handled) ns

-- whether the numbers are from 1 to `most`
abbrev pub all_within : ℕ → List ℕ → Bool
all_within most [] = true
all_within most (zero ∷ ns) = false
all_within most (suc n ∷ ns) = nat_lt n most && all_within most ns

-- ---- The codes that a model of these asks for

abbrev split_settled : Settled → Value ⊎ Value
split_settled (Fulfilled v) = inl v
split_settled (Failed v) = inr v

abbrev joined_settled : Value ⊎ Value → Settled
joined_settled (inl v) = Fulfilled v
joined_settled (inr v) = Failed v

pub joined-split : (how : Settled) → joined_settled (split_settled how) ≡ how
joined-split (Fulfilled v) = refl
joined-split (Failed v) = refl

abbrev pub coded_settled : Coded Settled
coded_settled = code_by (Value ⊎ Value) (coded⊎ coded_value coded_value) split_settled joined_settled joined-split

abbrev pub coded_reaction : Coded Reaction
coded_reaction =
    code_by (Option ℕ × (ℕ × Option ℕ)) (coded× (coded_option coded_ℕ) (coded× coded_ℕ (coded_option coded_ℕ)))
    (λ r. (r.registration, (r.into, r.state))) (λ t. record { registration = t.0; into = t.1.0; state = t.1.1 }) (λ _. refl)

abbrev pub coded_record : Coded PromiseRecord
coded_record =
    code_by (Option Settled × (Bool × (Bool × List Reaction)))
    (coded× (coded_option coded_settled) (coded× coded_bool (coded× coded_bool (coded_list coded_reaction))))
    (λ q. (q.outcome, (q.locked, (q.handled, q.reactions))))
    (λ t. record { outcome = t.0; locked = t.1.0; handled = t.1.1.0; reactions = t.1.1.1 })
    (λ _. refl)

abbrev pub coded_held : Coded Held
coded_held =
    code_by (List PromiseRecord × List ℕ) (coded× (coded_list coded_record) (coded_list coded_ℕ))
    (λ s. (s.promises, s.rejected)) (λ t. record { promises = t.0; rejected = t.1 }) (λ _. refl)
