-- The visits of a frame's keys, by its next callback.
use Rattle.std.proofs.Common.{◌≡◌, ℕ, List, [], ◌∷◌, Option, Some, None, refl, ◌∙◌, ap}
use Rattle.page_parts.specs.Frames.{Frames, Callback, callback_in}
use Rattle.raf_frames.specs.FrameInProgress.{FrameInProgress, first_waiting, behind_first, next_callback}
use Rattle.raf_frames.specs.InTurn.{Visits, AreInTurn, called, from_next}
use Rattle.raf_frames.proofs.NextLemmas.{handle_found}

module _ {S D : Type 0} (v : Visits S D) (turn : AreInTurn v) where
  -- a callback is called, and then these keys are visited
  abbrev gone_on : S → List ℕ → Option Callback → D
  gone_on s behind None = v.finish s
  gone_on s behind (Some c) = v.afterwards (v.call c s) (v.in_turn behind)

  visits_left : (map : Frames) (left : List ℕ) (s : S) → v.frames s ≡ map → v.in_turn left s ≡ gone_on s (behind_first map.callbacks left) (first_waiting map.callbacks left)
  visits_left map [] s is = turn.none s
  visits_left map (key ∷ keys) s is =
      turn.next key keys s
      ∙ ap (λ (m : Frames). v.afterwards (called v (callback_in m.callbacks key) s) (v.in_turn keys)) is
      ∙ by (callback_in map.callbacks key) (visits_left map keys s is)
    where
      by : (o : Option Callback) → v.in_turn keys s ≡ gone_on s (behind_first map.callbacks keys) (first_waiting map.callbacks keys)
          → v.afterwards (called v o s) (v.in_turn keys)
          ≡ gone_on s (elim o as (λ _. List ℕ) [ None ↦ behind_first map.callbacks keys | Some c ↦ keys ]) (elim o as (λ _. Option Callback) [ None ↦ first_waiting map.callbacks keys | Some c ↦ Some c ])
      by None rest = turn.goes_on s (v.in_turn keys) ∙ rest
      by (Some c) rest = refl

  from_next_is : (f : FrameInProgress) (s : S) (o : Option Callback) → gone_on s (behind_first f.map.callbacks f.left) o ≡ from_next v f o s
  from_next_is f s None = refl
  from_next_is f s (Some c) = refl

  pub visits_by_next : (f : FrameInProgress) (s : S) → v.frames s ≡ f.map → v.in_turn f.left s ≡ from_next v f (next_callback f) s
  visits_by_next f s is = visits_left f.map f.left s is ∙ from_next_is f s (first_waiting f.map.callbacks f.left)

-- the next callback is the one that the map has at its handle
pub next_is_there : (cs : List Callback) (left : List ℕ) (c : Callback) → first_waiting cs left ≡ Some c → callback_in cs c.handle ≡ Some c
next_is_there cs [] c next = cc
next_is_there cs (key ∷ keys) c next = by (callback_in cs key) refl (next_is_there cs keys c) next
  where
    by : (o : Option Callback) → callback_in cs key ≡ o → (first_waiting cs keys ≡ Some c → callback_in cs c.handle ≡ Some c)
        → (elim o as (λ _. Option Callback) [ None ↦ first_waiting cs keys | Some d ↦ Some d ]) ≡ Some c → callback_in cs c.handle ≡ Some c
    by None e rest next = rest next
    by (Some d) e rest next =
        let found : callback_in cs key ≡ Some c = e ∙ next in
        ap (λ n. callback_in cs n) (handle_found key cs c found) ∙ found
