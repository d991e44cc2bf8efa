-- The tree of places: what is right after a change, and that its first node knows the winner.
use Rattle.std.proofs.Common.{◌≡◌, ◌≢◌, ◌⊎◌, ℕ, zero, suc, ◌+◌, ◌*◌, ◌-◌, ◌/◌, ◌≤◌, ◌<◌, Bool, true, false, cond, ◌||◌, ◌&&◌, ◌==◌, nat_lt, List, [], ◌∷◌, ◌++◌, map, length, get_or, set, Option, Some, None, refl, sym, ◌∙◌, ap, subst, inl, inr, arith}
use Rattle.std.specs.Prelude.{MatchOption}
use Rattle.std.specs.Option.{option_map}
use Rattle.std.proofs.lemmas.Bool.{cases_eq}
use Rattle.std.proofs.lemmas.Bool.Decides.{nat_tests}
use Rattle.std.proofs.lemmas.List.{get_or-set_same, get_or-set_other, get_or_past, length-set}
use Rattle.std.proofs.Math.ListN.{get_or-map}
use Rattle.std.proofs.Math.Seq.{map-set_same}
use Rattle.post_task.specs.declared.tournament.Head.{Head}
use Rattle.post_task.specs.declared.tournament.Winner.{Winner}
use Rattle.post_task.specs.declared.tournament.Node.{Node}
use Rattle.post_task.specs.Tournament.{goes_before, head_at, HasNone, Wins}
use Rattle.post_task.specs.Tree.{better, own_of, no_node, node_at, own_at, best_at, champion, IsRightAt, IsRight, IsRightBut, mended}

-- ---- nodes after a change

module _ (nodes : List Node) (at : ℕ) (x : Node) (within : at < length nodes) where
  here : node_at (set nodes at x) at ≡ x
  here = get_or-set_same nodes at x no_node within

  elsewhere : (i : ℕ) → i ≢ at → node_at (set nodes at x) i ≡ node_at nodes i
  elsewhere i differs = get_or-set_other nodes at i x no_node differs

-- the winner below a node
abbrev pub below : List Node → ℕ → Option Winner
below nodes i = better (best_at nodes (2 * i + 1)) (best_at nodes (2 * i + 2))

-- the one that goes first of a node's own and this one
abbrev pub from : ℕ → Option Winner → Node → Option Winner
from i rest node = better (option_map (λ head. record { place = i; head = head }) node.own) rest

below_same : (nodes : List Node) (at i : ℕ) (x : Node) → at < length nodes → 2 * i + 1 ≢ at → 2 * i + 2 ≢ at → below (set nodes at x) i ≡ below nodes i
below_same nodes at i x within left right =
    ap (λ (n : Node). better n.best (best_at (set nodes at x) (2 * i + 2))) (elsewhere nodes at x within (2 * i + 1) left)
    ∙ ap (λ (n : Node). better (best_at nodes (2 * i + 1)) n.best) (elsewhere nodes at x within (2 * i + 2) right)

right_here : (nodes : List Node) (at : ℕ) → at < length nodes → IsRightAt (mended nodes at) at
right_here nodes at within =
    let x : Node = record (node_at nodes at) { best = champion nodes at } in
    let left : 2 * at + 1 ≢ at = λ e. absurd (omega (arith, e)) in
    let right : 2 * at + 2 ≢ at = λ e. absurd (omega (arith, e)) in
    ap (λ (n : Node). n.best) (here nodes at x within)
    ∙ sym (ap (from at (below (set nodes at x) at)) (here nodes at x within) ∙ ap (λ (rest : Option Winner). from at rest x) (below_same nodes at at x within left right))

-- a node that is mended leaves each node right but the one above it
pub right_after : (nodes : List Node) (at : ℕ) → at < length nodes → IsRightBut at nodes → (i : ℕ) → 2 * i + 1 ≢ at → 2 * i + 2 ≢ at → IsRightAt (mended nodes at) i
right_after nodes at within right i left second =
    let x : Node = record (node_at nodes at) { best = champion nodes at } in
    elim (cases_eq i at) [
      | inl same ↦
          let Q : ℕ → Type 0 = λ k. IsRightAt (mended nodes at) k in
          subst Q (sym same) (right_here nodes at within)
      | inr differs ↦
          let node = elsewhere nodes at x within i differs in
          ap (λ (n : Node). n.best) node
          ∙ right i differs
          ∙ sym (ap (from i (below (set nodes at x) i)) node ∙ ap (λ (rest : Option Winner). from i rest (node_at nodes i)) (below_same nodes at i x within left second))
    ]

pub right_above : (nodes : List Node) (at : ℕ) → 0 < at → at < length nodes → IsRightBut at nodes → IsRightBut ((at - 1) / 2) (mended nodes at)
right_above nodes at some within right i differs = right_after nodes at within right i (λ e. differs (omega (arith, e, some))) (λ e. differs (omega (arith, e, some)))

pub right_all : (nodes : List Node) → 0 < length nodes → IsRightBut 0 nodes → IsRight (mended nodes 0)
right_all nodes within right i = right_after nodes 0 within right i (λ e. absurd (omega (arith, e))) (λ e. absurd (omega (arith, e)))

-- the heads of the places stay
pub mended_own : (nodes : List Node) (at : ℕ) → map own_of (mended nodes at) ≡ map own_of nodes
mended_own nodes at = map-set_same own_of nodes at (record (node_at nodes at) { best = champion nodes at }) no_node refl

pub mended_length : (nodes : List Node) (at : ℕ) → length (mended nodes at) ≡ length nodes
mended_length nodes at = length-set nodes at (record (node_at nodes at) { best = champion nodes at })

-- the node of a place, whatever stands behind the last one
pub node_within : (nodes : List Node) (at : ℕ) (d : Node) → at < length nodes → get_or nodes at d ≡ node_at nodes at
node_within [] at d h = absurd (omega arith)
node_within (node ∷ rest) zero d h = refl
node_within (node ∷ rest) (suc at) d h = node_within rest at d (omega (arith, h))

-- a head that is set leaves each other node right
pub right_but_set : (nodes : List Node) (at : ℕ) (x : Node) → at < length nodes → x.best ≡ best_at nodes at → IsRight nodes → IsRightBut at (set nodes at x)
right_but_set nodes at x within best right i differs =
    let bests = λ (k : ℕ). elim (cases_eq k at) as (λ _. best_at (set nodes at x) k ≡ best_at nodes k) [
      | inl same ↦ ap (best_at (set nodes at x)) same ∙ ap (λ (n : Node). n.best) (here nodes at x within) ∙ best ∙ ap (best_at nodes) (sym same)
      | inr other ↦ ap (λ (n : Node). n.best) (elsewhere nodes at x within k other)
    ] in
    let node = elsewhere nodes at x within i differs in
    let rest : below (set nodes at x) i ≡ below nodes i =
    ap (λ (o : Option Winner). better o (best_at (set nodes at x) (2 * i + 2))) (bests (2 * i + 1)) ∙ ap (better (best_at nodes (2 * i + 1))) (bests (2 * i + 2)) in
    ap (λ (n : Node). n.best) node ∙ right i ∙ sym (ap (from i (below (set nodes at x) i)) node ∙ ap (λ (o : Option Winner). from i o (node_at nodes i)) rest)

-- one more place
push_node : (nodes : List Node) (i : ℕ) → node_at (nodes ++ no_node ∷ []) i ≡ node_at nodes i
push_node [] zero = refl
push_node [] (suc i) = refl
push_node (x ∷ xs) zero = refl
push_node (x ∷ xs) (suc i) = push_node xs i

pub right_push : (nodes : List Node) → IsRight nodes → IsRight (nodes ++ no_node ∷ [])
right_push nodes right i =
    let more = nodes ++ no_node ∷ [] in
    let best = λ (k : ℕ). ap (λ (n : Node). n.best) (push_node nodes k) in
    let rest : below more i ≡ below nodes i =
    ap (λ (o : Option Winner). better o (best_at more (2 * i + 2))) (best (2 * i + 1)) ∙ ap (better (best_at nodes (2 * i + 1))) (best (2 * i + 2)) in
    best i ∙ right i ∙ sym (ap (from i (below more i)) (push_node nodes i) ∙ ap (λ (o : Option Winner). from i o (node_at nodes i)) rest)

-- ---- who goes first

pub last_false : (x y z u v w : ℕ) → (nat_lt y x || ((x == y) && nat_lt u v)) ≡ false → (nat_lt z y || ((y == z) && nat_lt v w)) ≡ false → (nat_lt z x || ((x == z) && nat_lt u w)) ≡ false
last_false x y z u v w a b = grind (arith, nat_tests)

pub itself_false : (x u : ℕ) → (nat_lt x x || ((x == x) && nat_lt u u)) ≡ false
itself_false x u = grind (arith, nat_tests)

pub turned_false : (x y u v : ℕ) → (nat_lt y x || ((x == y) && nat_lt u v)) ≡ true → (nat_lt x y || ((y == x) && nat_lt v u)) ≡ false
turned_false x y u v a = grind (arith, nat_tests)

not_itself : (a : Head) → goes_before a a ≡ false
not_itself a = itself_false a.effective a.order

not_behind : (a b c : Head) → goes_before a b ≡ false → goes_before b c ≡ false → goes_before a c ≡ false
not_behind a b c x y = last_false a.effective b.effective c.effective a.order b.order c.order x y

winner_is : (a b : Winner) → Some a ≡ Some b → a ≡ b
winner_is a b h = cc

no_winner : (a : Winner) → None ≡ Some a → ⊥
no_winner a h = cc

-- a winner that this head does not go before
pub record Holds (o : Option Winner) (h : Head) : Type 0 where
  pub winner : Winner
  pub is : o ≡ Some winner
  pub first : goes_before h winner.head ≡ false

chosen : (a b : Winner) (h : Head) (t : Bool) → goes_before b.head a.head ≡ t → goes_before h a.head ≡ false → Holds (cond t (Some b) (Some a)) h
chosen a b h true t first = record { winner = b; is = refl; first = not_behind h a.head b.head first (turned_false b.head.effective a.head.effective b.head.order a.head.order t) }
chosen a b h false t first = record { winner = a; is = refl; first = first }

chosen_new : (a b : Winner) (h : Head) (t : Bool) → goes_before b.head a.head ≡ t → goes_before h b.head ≡ false → Holds (cond t (Some b) (Some a)) h
chosen_new a b h true t first = record { winner = b; is = refl; first = first }
chosen_new a b h false t first = record { winner = a; is = refl; first = not_behind h b.head a.head first t }

old_holds : (o new : Option Winner) (h : Head) → Holds o h → Holds (better o new) h
old_holds None new h x = absurd (no_winner x.winner x.is)
old_holds (Some a) None h x = x
old_holds (Some a) (Some b) h x = chosen a b h (goes_before b.head a.head) refl (subst (λ (w : Winner). goes_before h w.head ≡ false) (sym (winner_is a x.winner x.is)) x.first)

new_holds : (o new : Option Winner) (h : Head) → Holds new h → Holds (better o new) h
new_holds None new h x = x
new_holds (Some a) None h x = absurd (no_winner x.winner x.is)
new_holds (Some a) (Some b) h x = chosen_new a b h (goes_before b.head a.head) refl (subst (λ (w : Winner). goes_before h w.head ≡ false) (sym (winner_is b x.winner x.is)) x.first)

held : (a b : Option Winner) (h : Head) → a ≡ b → Holds a h → Holds b h
held a b h e x = subst (λ (o : Option Winner). Holds o h) e x

-- up to the first node
climbs : (nodes : List Node) → IsRight nodes → (fuel at : ℕ) (h : Head) → at ≤ fuel → Holds (best_at nodes at) h → Holds (best_at nodes 0) h
climbs nodes right zero at h few x = let top : at ≡ 0 = omega arith in held (best_at nodes at) (best_at nodes 0) h (ap (best_at nodes) top) x
climbs nodes right (suc fuel) zero h few x = x
climbs nodes right (suc fuel) (suc n) h few x =
    let up = n / 2 in
    let under : Holds (below nodes up) h = elim (cases_eq (suc n) (2 * up + 1)) [
      | inl odd ↦ old_holds (best_at nodes (2 * up + 1)) (best_at nodes (2 * up + 2)) h (held (best_at nodes (suc n)) (best_at nodes (2 * up + 1)) h (ap (best_at nodes) odd) x)
      | inr other ↦
          let even : suc n ≡ 2 * up + 2 = omega (arith, other) in
          new_holds (best_at nodes (2 * up + 1)) (best_at nodes (2 * up + 2)) h (held (best_at nodes (suc n)) (best_at nodes (2 * up + 2)) h (ap (best_at nodes) even) x)
    ] in
    let here : Holds (champion nodes up) h = new_holds (own_at nodes up) (below nodes up) h under in
    climbs nodes right fuel up h (omega (arith, few)) (held (champion nodes up) (best_at nodes up) h (sym (right up)) here)

own_holds : (nodes : List Node) (at : ℕ) (h : Head) → (node_at nodes at).own ≡ Some h → Holds (own_at nodes at) h
own_holds nodes at h e =
    let w : Winner = record { place = at; head = h } in
    record { winner = w; is = ap (option_map (λ head. record { place = at; head = head })) e; first = not_itself h }

-- each head is known at the first node
known : (nodes : List Node) → IsRight nodes → (at : ℕ) (h : Head) → (node_at nodes at).own ≡ Some h → Holds (best_at nodes 0) h
known nodes right at h e =
    let here : Holds (champion nodes at) h = old_holds (own_at nodes at) (below nodes at) h (own_holds nodes at h e) in
    climbs nodes right at at h (omega arith) (held (champion nodes at) (best_at nodes at) h (sym (right at)) here)

either_is : (a b w : Winner) (t : Bool) → cond t (Some b) (Some a) ≡ Some w → (Some a ≡ Some w) ⊎ (Some b ≡ Some w)
either_is a b w true e = inr e
either_is a b w false e = inl e

either : (a b : Option Winner) (w : Winner) → better a b ≡ Some w → (a ≡ Some w) ⊎ (b ≡ Some w)
either None b w e = inr e
either (Some a) None w e = inl e
either (Some a) (Some b) w e = either_is a b w (goes_before b.head a.head) e

own_is : (at : ℕ) (o : Option Head) (w : Winner) → option_map (λ head. record { place = at; head = head }) o ≡ Some w → (w.place ≡ at) × (o ≡ Some w.head)
own_is at None w e = absurd (no_winner w e)
own_is at (Some h) w e =
    let same = winner_is (record { place = at; head = h }) w e in
    (ap (λ (x : Winner). x.place) (sym same), ap (λ (x : Winner). Some x.head) same)

-- what a node says stands at its place
stands : (nodes : List Node) → IsRight nodes → (fuel at : ℕ) (w : Winner) → length nodes ≤ at + fuel → best_at nodes at ≡ Some w → (node_at nodes w.place).own ≡ Some w.head
stands nodes right zero at w few is =
    let past : node_at nodes at ≡ no_node = get_or_past nodes at no_node (omega (arith, few)) in
    absurd (no_winner w (sym (ap (λ (n : Node). n.best) past) ∙ is))
stands nodes right (suc fuel) at w few is =
    elim (either (own_at nodes at) (below nodes at) w (sym (right at) ∙ is)) [
      | inl own ↦ let o = own_is at (node_at nodes at).own w own in ap (λ (n : ℕ). (node_at nodes n).own) o.0 ∙ o.1
      | inr rest ↦
          elim (either (best_at nodes (2 * at + 1)) (best_at nodes (2 * at + 2)) w rest) [
            | inl left ↦ stands nodes right fuel (2 * at + 1) w (omega (arith, few)) left
            | inr second ↦ stands nodes right fuel (2 * at + 2) w (omega (arith, few)) second
          ]
    ]

seen : (nodes : List Node) (at : ℕ) → head_at (map own_of nodes) at ≡ (node_at nodes at).own
seen nodes at = get_or-map own_of nodes at no_node

none_known : (nodes : List Node) → IsRight nodes → best_at nodes 0 ≡ None → (at : ℕ) (o : Option Head) → (node_at nodes at).own ≡ o → o ≡ None
none_known nodes right none at None e = refl
none_known nodes right none at (Some h) e = let k = known nodes right at h e in absurd (no_winner k.winner (sym none ∙ k.is))

-- the first node knows who goes first of all
pub first_knows : (nodes : List Node) → IsRight nodes → (result : Option Winner) → result ≡ best_at nodes 0 → MatchOption result (HasNone (map own_of nodes)) (Wins (map own_of nodes))
first_knows nodes right None is = λ at. seen nodes at ∙ none_known nodes right (sym is) at (node_at nodes at).own refl
first_knows nodes right (Some w) is =
    record {
      stands = seen nodes w.place ∙ stands nodes right (length nodes) 0 w (omega arith) (sym is);
      first = λ at h e.
          let k = known nodes right at h (sym (seen nodes at) ∙ e) in
          subst (λ (x : Winner). goes_before h x.head ≡ false) (winner_is k.winner w (sym k.is ∙ sym is)) k.first;
    }
