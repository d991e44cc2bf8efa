-- Where no task is runnable, there is a target exactly where something is pending.
use Rattle.std.proofs.Common.{◌≡◌, ℕ, ◌+◌, max, Bool, true, false, not, ◌&&◌, ◌||◌, List, [], ◌∷◌, ◌++◌, map, Option, Some, None, option_map, refl, ap, sym, subst, ◌∙◌, cond, nat_lt, arith, lt-ltb}
use Rattle.std.specs.List.{cons_option}
use Rattle.page_types.specs.declared.Source.TheVariants.{User, Render}
use Rattle.page_parts.specs.Words.{is_empty, is_there, least}
use Rattle.page_parts.specs.Setup.{Arrival}
use Rattle.page_parts.specs.Frames.{next_multiple}
use Rattle.page_parts.specs.Timers.{first_of}
use Rattle.page_parts.specs.IdleCallbacks.{waits, at_most}
use Rattle.page_model.specs.State.{Page}
use Rattle.page_model.specs.PageTime.{first_task, next_frame, deadline, idle_moment}
use Rattle.page_model.specs.Parallel.{Item, HostItem, TimerItem, IdleItem, arrival_items, frame_items, items_in_order, first_item, first_item_of}
use Rattle.page_model.specs.View.{runnable_at, view}
use Rattle.page_model.specs.Turns.{is_pending, target}

empty-nil : {X : Type 0} (xs : List X) → is_empty xs ≡ true → xs ≡ []
empty-nil [] e = refl
empty-nil (x ∷ xs) e = absurd Prim.cc

empty-append : {X : Type 0} (xs ys : List X) → is_empty (xs ++ ys) ≡ (is_empty xs && is_empty ys)
empty-append [] ys = refl
empty-append (x ∷ xs) ys = refl

empty-map : {X Y : Type 0} (f : X → Y) (xs : List X) → is_empty (map f xs) ≡ is_empty xs
empty-map f [] = refl
empty-map f (x ∷ xs) = refl

empty-arrivals : (n : ℕ) (xs : List Arrival) → is_empty (arrival_items n xs) ≡ is_empty xs
empty-arrivals n [] = refl
empty-arrivals n (x ∷ xs) = refl

and-same : (a a' b b' : Bool) → a ≡ a' → b ≡ b' → (a && b) ≡ (a' && b')
and-same a a' b b' e k = ap (λ x. x && b) e ∙ ap (λ x. a' && x) k

-- ---- no render task waits

none_there : {X : Type 0} (o : Option X) (xs : List X) → is_empty (cons_option o xs) ≡ true → is_there o ≡ false × is_empty xs ≡ true
none_there None xs e = (refl, e)
none_there (Some x) xs e = absurd Prim.cc

there-mapped : {X Y Z : Type 0} (f : X → Y) (g : Y → Z) (o : Option X) → is_there (option_map g (option_map f o)) ≡ is_there o
there-mapped f g None = refl
there-mapped f g (Some x) = refl

no-render : (p : Page) → is_empty (view p) ≡ true → is_there (first_task Render p.tasks) ≡ false
no-render p e = sym (there-mapped _ _ (first_task Render p.tasks)) ∙ (none_there (runnable_at p Render) _ (none_there (runnable_at p User) _ e).1).0

-- ---- the items

empty-frame : (p : Page) → is_empty (view p) ≡ true → is_empty (frame_items (next_frame p)) ≡ is_empty p.frames.callbacks
empty-frame p e =
    ap (λ b. is_empty (frame_items (cond (is_empty p.frames.callbacks || b) None (Some (next_multiple p.refresh_period (max p.frames_since p.last_opportunity)))))) (no-render p e)
    ∙ by_callbacks (is_empty p.frames.callbacks) (next_multiple p.refresh_period (max p.frames_since p.last_opportunity))
  where
    by_callbacks : (b : Bool) (t : ℕ) → is_empty (frame_items (cond (b || false) None (Some t))) ≡ b
    by_callbacks true t = refl
    by_callbacks false t = refl

-- whether there is no item
abbrev none : Page → Bool
none p = is_empty p.arrivals && is_empty p.host_answers && is_empty p.timers.active && is_empty p.idle_timers && is_empty p.frames.callbacks

empty-items : (p : Page) → is_empty (view p) ≡ true → is_empty (items_in_order p) ≡ none p
unfolding none
empty-items p e =
    let arrivals : List Item = arrival_items 1 p.arrivals in
    let answers : List Item = map (λ a. record { due = a.due; what = HostItem a }) p.host_answers in
    let timers : List Item = map (λ t. record { due = t.due; what = TimerItem t }) p.timers.active in
    let idles : List Item = map (λ t. record { due = t.due; what = IdleItem t }) p.idle_timers in
    let frames : List Item = frame_items (next_frame p) in
    let two = empty-append arrivals answers ∙ and-same _ _ _ _ (empty-arrivals 1 p.arrivals) (empty-map _ p.host_answers) in
    let three = empty-append (arrivals ++ answers) timers ∙ and-same _ _ _ _ two (empty-map _ p.timers.active) in
    let four = empty-append (arrivals ++ answers ++ timers) idles ∙ and-same _ _ _ _ three (empty-map _ p.idle_timers) in
    empty-append (arrivals ++ answers ++ timers ++ idles) frames ∙ and-same _ _ _ _ four (empty-frame p e)

there-first : (xs : List Item) → is_there (option_map (λ a. a.due) (first_item_of xs)) ≡ not (is_empty xs)
there-first [] = refl
there-first (a ∷ xs) = refl

there-least : (a b : Option ℕ) → is_there (least a b) ≡ (is_there a || is_there b)
there-least None b = refl
there-least (Some a) None = refl
there-least (Some a) (Some b) = refl

-- ---- the idle moment, where there is no item

and_right : (a b : Bool) → (a && b) ≡ true → b ≡ true
and_right true b e = e
and_right false b e = absurd Prim.cc

and_left : (a b : Bool) → (a && b) ≡ true → a ≡ true
and_left true b e = refl
and_left false b e = e

there-if : {X : Type 0} (b : Bool) (x : X) → is_there (cond b (Some x) None) ≡ b
there-if true x = refl
there-if false x = refl

and_true : (a b : Bool) → b ≡ true → (a && b) ≡ a
and_true true b e = e
and_true false b e = refl

-- with no active timer and no frame callback an idle period has its 50 milliseconds
has_length : (p : Page) (t : ℕ) → p.timers.active ≡ [] → is_empty p.frames.callbacks ≡ true → nat_lt t (deadline t p) ≡ true
has_length p t timers frames =
    subst (λ xs. nat_lt t (at_most (at_most (t + 50000) (option_map (λ a. a.due) (first_of xs))) (cond (is_empty p.frames.callbacks) None (Some (p.last_opportunity + p.refresh_period)))) ≡ true)
    (sym timers)
    (subst (λ b. nat_lt t (at_most (t + 50000) (cond b None (Some (p.last_opportunity + p.refresh_period)))) ≡ true) (sym frames) (lt-ltb t (t + 50000) (omega arith)))

pub target-pending : (p : Page) → is_empty (view p) ≡ true → is_there (target p) ≡ is_pending p
unfolding none
target-pending p e =
    there-least (option_map (λ a. a.due) (first_item p)) (idle_moment p)
    ∙ (ap (λ b. b || is_there (idle_moment p)) (there-first (items_in_order p) ∙ ap not (empty-items p e)) ∙ by_items (none p) refl)
  where
    by_items : (b : Bool) → none p ≡ b → (not b || is_there (idle_moment p)) ≡ (not b || waits p.idle)
    by_items false k = refl
    by_items true k =
        let two = is_empty p.arrivals && is_empty p.host_answers in
        let three = two && is_empty p.timers.active in
        let four = three && is_empty p.idle_timers in
        let timers = empty-nil p.timers.active (and_right two (is_empty p.timers.active) (and_left three (is_empty p.idle_timers) (and_left four (is_empty p.frames.callbacks) k))) in
        let frames = and_right four (is_empty p.frames.callbacks) k in
        let start = max p.now p.idle_period_end in
        there-if (waits p.idle && nat_lt start (deadline start p)) start ∙ and_true (waits p.idle) _ (has_length p start timers frames)
