-- How the meaning of a part goes into the meaning of the whole.
use Rattle.std.proofs.Common.{◌≡◌, ℕ, zero, suc, ◌+◌, ◌≤◌, List, ◌∷◌, Option, Some, None, Bool, true, false, cond, refl, sym, ap, ◌∙◌, subst, arith}
use Rattle.page_types.specs.Values as Model
use Rattle.lang_meaning.specs.Machine as M
use Rattle.lang_meaning.specs.Machine.{Machine, Done, OutOfFuel, with_value_in}
use Rattle.lang_meaning.specs.HostSteps.{HostRules, Ask}
use Rattle.lang_meaning.specs.Asks.{Limited, limited, Reaches, IsPassed, unasked, after_ask, IsRefused}
use Rattle.page_interp.specs.Runs.{Ended, gives, throws, returns, no_fuel, done, Left, ends, refused, no_memory, more, Comes, Stands, IsDry, WhereSettled, Refuses, LeftIsNumbered, Scope, IsReady, Moment, Runs}

pub still : (n : ℕ) → n ≤ n
still n = omega arith

module _ {U : Type 0} where
  pub settled_same : (l : Left U) (x : List ℕ) → WhereSettled l (x ≡ x)
  settled_same (ends (gives d)) x = refl
  settled_same (ends (throws d)) x = refl
  settled_same (ends (returns d)) x = refl
  settled_same (ends no_fuel) x = tt
  settled_same (refused s) x = tt
  settled_same no_memory x = tt

  pub refuses_trans : (l : Left U) (x y z : ℕ) (last : Option U) → y ≡ x → Refuses l y z last → Refuses l x z last
  refuses_trans (ends e) x y z last p q = q ∙ p
  refuses_trans (refused s) x y z last p q = (rw (← p) q.0, q.1)
  refuses_trans no_memory x y z last p q = q ∙ p

pub more_some : (n k : ℕ) → more n (Some k) ≡ Some (n + k)
more_some zero k = let e : k ≡ 0 + k = omega arith in ap Some e
more_some (suc n) k = let e : suc (n + k) ≡ suc n + k = omega arith in rw (more_some n k) (ap Some e)

pub more_more : (n m : ℕ) (left : Option ℕ) → more (n + m) left ≡ more n (more m left)
more_more zero m left = let e : 0 + m ≡ m = omega arith in ap (λ i. more i left) e
more_more (suc n) m left = let e : suc n + m ≡ suc (n + m) = omega arith in ap (λ i. more i left) e ∙ ap (λ k. elim k [ None ↦ None | Some k ↦ Some (suc k) ]) (more_more n m left)

-- what f does stops with the host as it stands here
pub record StopsAs {T : Type 0} (d : Done (Limited T)) (s : Machine (Limited T)) : Type 0 where
  pub state : Machine (Limited T)
  pub stops : d ≡ OutOfFuel state
  pub host : state.host ≡ s.host

module _ {T : Type 0} where
  -- a state from which g stops as f does from another, after so many asks more
  pub record Within (f : Machine (Limited T) → Done (Limited T)) (b : Machine T) (g : Machine (Limited T) → Done (Limited T)) (a : Machine T) : Type 0 where
    pub asks : ℕ
    pub stops : (n : ℕ) (s : Machine (Limited T)) → f (limited (Some n) b) ≡ OutOfFuel s → StopsAs (g (limited (more asks (Some n)) a)) s

  pub reaches_within : {f g : Machine (Limited T) → Done (Limited T)} {a b : Machine T} (i : Within f b g a) (n : ℕ) (ask : Ask) (before : T) → Reaches f b n ask before → Reaches g a (i.asks + n) ask before
  reaches_within {g = g} {a = a} i n ask before r =
      let s = i.stops n r.state r.stops in
      record { state = s.state; stops = subst (λ k. g (limited k a) ≡ OutOfFuel s.state) (more_some i.asks n) s.stops; host = s.host ∙ r.host }

  pub passed_within : {R : HostRules T} {f g : Machine (Limited T) → Done (Limited T)} {a b : Machine T} (told : T) → Within f b g a → IsPassed R g a b.host → IsPassed R f b told → IsPassed R g a told
  passed_within {R = R} {g = g} {a = a} told i p (unasked e) = subst (λ t. IsPassed R g a t) (sym e) p
  passed_within told i p (after_ask n ask before r e) = after_ask (i.asks + n) ask before (reaches_within i n ask before r) e

  refused_within : {leaves : Ask → T → T → Type 0} {f g : Machine (Limited T) → Done (Limited T)} {a b : Machine T} (told : T) → Within f b g a → IsRefused leaves f b told → IsRefused leaves g a told
  refused_within told i r = record { n = i.asks + r.n; ask = r.ask; before = r.before; reached = reaches_within i r.n r.ask r.before r.reached; left = r.left }

  pub stands_within : {S : Type 0} {R : HostRules T} (leaves : Ask → T → T → Type 0) {f g : Machine (Limited T) → Done (Limited T)} {a b : Machine T} (l : Left S) (told : T) → Within f b g a → IsPassed R g a b.host → Stands R leaves l f b told → Stands R leaves l g a told
  stands_within leaves (ends e) told i p s = passed_within told i p s
  stands_within leaves (refused stop) told i p s = refused_within told i s
  stands_within leaves no_memory told i p s = passed_within told i p s

  -- what comes after a first part with so many asks
  pub comes_after : {S : Type 0} (f g : Machine (Limited T) → Done (Limited T)) (a b c : Machine T) (asks : ℕ) → ((left : Option ℕ) → f (limited (more asks left) a) ≡ g (limited left b)) → (l : Left S) → Comes g b l c → Comes f a l c
  comes_after f g a b c asks q (ends e) y = record { asks = asks + y.asks; ends = λ left. ap (λ k. f (limited k a)) (more_more asks y.asks left) ∙ q (more y.asks left) ∙ y.ends left }
  comes_after f g a b c asks q (refused stop) y = tt
  comes_after f g a b c asks q no_memory y = tt

module _ {T U : Type 0} where
  -- what holds at once, and changes nothing
  pub runs_at : {w : Scope T} {f : Machine (Limited T) → Done (Limited T)} {a : Moment T U} (e : Ended) → IsReady w a → LeftIsNumbered {S = U} w.count (ends e) → IsDry {S = U} (ends e) a.machine.fuel → ((left : Option ℕ) → f (limited left a.machine) ≡ done e (limited left a.machine)) → Runs w f a (ends e) a
  runs_at {a = a} e k n d h = record { meaning = record { asks = 0; ends = h }; stands = unasked refl; fuel = still a.machine.fuel; dry = d; tickets = settled_same {U = U} (ends e) a.now.tickets; refusals = refl; ready = k; numbered = n }

  -- want of memory
  pub no_memory_at : {w : Scope T} {f : Machine (Limited T) → Done (Limited T)} {a : Moment T U} → IsReady w a → Runs w f a no_memory a
  no_memory_at {a = a} k = record { meaning = tt; stands = unasked refl; fuel = still a.machine.fuel; dry = tt; tickets = tt; refusals = refl; ready = k; numbered = tt }

pub assigned_machine : {T : Type 0} (b : Bool) (told : T) (fuel : ℕ) (globals globals' locals locals' : List M.Variable) (outer : List (List M.Variable)) (x : List ℕ) (v : Model.Value)
    → locals' ≡ cond b (with_value_in locals x v) locals → globals' ≡ cond b globals (with_value_in globals x v)
    → ◌≡◌ {A = Machine T} (cond b (record { globals = globals; open_calls = with_value_in locals x v ∷ outer; fuel = fuel; host = told }) (record { globals = with_value_in globals x v; open_calls = locals ∷ outer; fuel = fuel; host = told }))
    (record { globals = globals'; open_calls = locals' ∷ outer; fuel = fuel; host = told })
assigned_machine true told fuel globals globals' locals locals' outer x v p q = rw (p, q) refl
assigned_machine false told fuel globals globals' locals locals' outer x v p q = rw (p, q) refl
