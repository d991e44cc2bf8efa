-- The parallel items that are due are taken one after another.
use Rattle.std.proofs.Common.{◌≡◌, ◌<◌, ℕ, ◌+◌, Bool, true, false, cond, List, [], length, Result, refl, sym, ◌∙◌, ap, subst, Option, Some, None, arith}
use Rattle.std.specs.Prelude.{option_map, nat_le}
use Rattle.std.specs.Result.{IsErrAnd, result_err}
use Rattle.page_types.specs.Events.{Due}
use Rattle.page_parts.specs.Words.{is_there}
use Rattle.page_model.specs.State.{PrioSource, Completion, QueueTimer, EnqueuePost, QueueSignal, Completing, Page, the_registration, emit}
use Rattle.page_model.specs.PageSignals.{is_aborted_source}
use Rattle.page_model.specs.PageTime.{next_frame, completion_of, without_timer}
use Rattle.page_model.specs.SchedulerTasks.{enqueue}
use Rattle.page_model.specs.Parallel.{Item, ItemKind, ArrivalItem, HostItem, TimerItem, IdleItem, FrameItem, frame_items, first_item_of, first_item, complete, complete_at, take_item, due_item, take_due, item_count, parallel}
use Rattle.page_model.specs.Additions.{after}
use Rattle.page_model.proofs.Adding.Lines.{cond_of-adds}
use Rattle.page_model.proofs.Adding.Turns.{parallel-adds}
use Rattle.page_model.proofs.Holding.Evaluation.{IfThere}
use Rattle.page_model.proofs.Bounding.Items.{items_waiting, items-within, Known, due-known, taken-items, take_due-agree}
use Rattle.trace_text.specs.declared.lines.NoLine.{NoLine}
use Rattle.trace_text.specs.Given.{Keeping, Seen}
use Rattle.trace_text.specs.Acts.{At}
use Rattle.page_script.specs.PageActs.{OnlyAdds}
use Rattle.parallel_items.specs.InParallel.{waiting_of, with_waiting}
use Rattle.parallel_items.specs.Items.{first_waiting, due_of, earlier, Taken, TakenArrival, TakenAnswer, TakenCompletion, TakenIdleTimeout, taken_by, left_by, taken_of, left_of}
use Rattle.parallel_items.specs.Laws.{done_with, is_before, FirstIs, FrameIsFirst}
use Rattle.page_state.specs.Standing.{Standing, page_of, holding}
use Rattle.page_state.specs.PageActs.{on_page, changed_by, at, Does}
use Rattle.page_state.specs.ItemActs.{item_taken, post_completed, before_due}
use Rattle.page_state.proofs.Acting.{Does-last, Does-next, Does-leave, Does-is, Does-silent}

-- ---- a delayed `postTask`

-- what comes behind its line
abbrev pub post_rest : Bool → (registration : ℕ) → PrioSource → Page → Page
post_rest b r source = cond b (λ q. q) (enqueue r source false)

pub post_rest-adds : (b : Bool) (r : ℕ) (source : PrioSource) → OnlyAdds (post_rest b r source)
post_rest-adds b r source es = cond_of-adds es b (λ q. q) (enqueue r source false) (λ p. refl) (λ p. refl)

pub Does-post : {T : Type 0} {k : Keeping T} (b : Bool) (r : ℕ) (source : PrioSource) (s : Standing) {old : Seen T} {new : At Standing T} {why : Option NoLine}
    → b ≡ is_aborted_source (page_of s) (the_registration (page_of s) r).signal
    → Does k (at s old) (on_page (λ p. post_rest b r source (emit (Due r) p))) why new → Does k (at s old) (on_page (post_completed r source)) why new
Does-post b r source s {old = old} is h =
    Does-is (λ p. post_rest b r source (emit (Due r) p)) (post_completed r source) (at s old) (ap (λ b. post_rest b r source (emit (Due r) (page_of s))) is) h

-- ---- what is done with an item only adds lines

complete-adds : (c : Completion) → OnlyAdds (complete c)
complete-adds (QueueTimer t) es p = refl
complete-adds (EnqueuePost r source) es p = by (the_registration p r).signal
  where
    by : (s : Option ℕ) → post_rest (is_aborted_source (after es p) s) r source (emit (Due r) (after es p)) ≡ after es (post_rest (is_aborted_source p s) r source (emit (Due r) p))
    by None = refl
    by (Some s) = post_rest-adds (is_aborted_source p (Some s)) r source es (emit (Due r) p)
complete-adds (QueueSignal r s) es p = refl

done_with-adds : (t : Taken) → OnlyAdds (done_with (Some t))
done_with-adds (TakenArrival a) es p = refl
done_with-adds (TakenAnswer t) es p = refl
done_with-adds (TakenCompletion c) es p = complete-adds c es p
done_with-adds (TakenIdleTimeout handle r) es p = refl

-- ---- one item

none_taken : (what : ItemKind) (cs : List Completing) (t : Taken) → Some t ≡ taken_by what cs → what ≡ FrameItem → ⊥
none_taken what cs t given is = let never : Some t ≡ None = given ∙ ap (λ w. taken_by w cs) is in Prim.cc

takes : (what : ItemKind) (p : Page) → (what ≡ FrameItem → ⊥)
    → take_item what p ≡ done_with (taken_by what p.completions) (with_waiting (left_by what (waiting_of p)) p)
takes (ArrivalItem n a) p other = refl
takes (HostItem a) p other = refl
takes (TimerItem t) p other = by (completion_of p.completions t.start)
  where
    by : (o : Option Completion) → complete_at o (without_timer t.start p) ≡ done_with (option_map TakenCompletion o) (without_timer t.start p)
    by None = refl
    by (Some c) = refl
takes (IdleItem t) p other = refl
takes FrameItem p other = absurd (other refl)

module _ {T : Type 0} {k : Keeping T} (s mid : Standing) where
  pub Does-item : (o : Option Item) (t : Taken) {old : Seen T} {new : At Standing T} {why : Option NoLine}
      → due_item s.script.now (first_item (page_of s)) ≡ o → Some t ≡ taken_of o s.waiting.completions → mid ≡ record s { waiting = left_of o s.waiting }
      → Does k (at mid old) (on_page (done_with (Some t))) why new → Does k (at s old) (on_page item_taken) why new
  Does-item None t due given left h = absurd (let never : ⊥ = Prim.cc in never)
  Does-item (Some i) t {old = old} due given left h =
      let p = page_of s in
      let leave : Page → Page = λ p. with_waiting (left_by i.what (waiting_of p)) p in
      let is : done_with (Some t) (leave p) ≡ item_taken p =
      ap (λ g. done_with g (leave p)) given
      ∙ sym (takes i.what p (none_taken i.what s.waiting.completions t given))
      ∙ sym (ap (λ o. elim o as (λ _. Page) [ None ↦ p | Some a ↦ take_item a.what p ]) due) in
      Does-is (λ p. done_with (Some t) (leave p)) item_taken (at s old) is
      (Does-next leave (done_with (Some t)) (done_with-adds t) (Does-silent k leave s old refl left) h)

  pub Does-no_item : (o : Option Item) (seen : Seen T)
      → due_item s.script.now (first_item (page_of s)) ≡ o → false ≡ is_there o → mid ≡ record s { waiting = left_of o s.waiting }
      → Does k (at s seen) (on_page item_taken) None (at mid seen)
  Does-no_item (Some i) seen due none left = absurd (let never : ⊥ = Prim.cc in never)
  Does-no_item None seen due none left =
      let p = page_of s in
      Does-is (λ p. p) item_taken (at s seen) (sym (ap (λ o. elim o as (λ _. Page) [ None ↦ p | Some a ↦ take_item a.what p ]) due))
      (Does-silent k (λ p. p) s seen refl left)

-- ---- all items

-- where an item is due, the rest is taken behind it
rest_taken : (p : Page) (o : Option Item) → due_item p.now (first_item p) ≡ o → is_there o ≡ true → parallel (item_taken p) ≡ parallel p
rest_taken p None due there = absurd (let never : ⊥ = Prim.cc in never)
rest_taken p (Some a) due there =
    let q : Page = take_item a.what p in
    let n : ℕ = length p.arrivals + length p.host_answers + length p.timers.active + length p.idle_timers in
    let P : Option Item → Type 0 = λ o. IfThere (λ (i : Item). Known p i.what) o in
    let known : Known p a.what = subst P due (due-known p) in
    let less = taken-items p a.what known in
    let within = items-within p in
    ap parallel (ap (λ o. elim o as (λ _. Page) [ None ↦ p | Some b ↦ take_item b.what p ]) due)
    ∙ take_due-agree (item_count q) n q (items-within q) (omega arith)
    ∙ sym (ap (λ o. elim o as (λ _. Page) [ None ↦ p | Some b ↦ take_due n (take_item b.what p) ]) due)

-- where none is due, nothing is taken
none_due : (p : Page) (o : Option Item) → due_item p.now (first_item p) ≡ o → is_there o ≡ false → item_taken p ≡ parallel p
none_due p None due there =
    let n : ℕ = length p.arrivals + length p.host_answers + length p.timers.active + length p.idle_timers in
    ap (λ o. elim o as (λ _. Page) [ None ↦ p | Some b ↦ take_item b.what p ]) due
    ∙ sym (ap (λ o. elim o as (λ _. Page) [ None ↦ p | Some b ↦ take_due n (take_item b.what p) ]) due)
none_due p (Some a) due there = absurd (let never : ⊥ = Prim.cc in never)

-- an item that is taken leaves fewer
fewer_taken : (p : Page) (o : Option Item) → due_item p.now (first_item p) ≡ o → is_there o ≡ true → items_waiting (item_taken p) < items_waiting p
fewer_taken p None due there = absurd (let never : ⊥ = Prim.cc in never)
fewer_taken p (Some a) due there =
    let P : Option Item → Type 0 = λ o. IfThere (λ (i : Item). Known p i.what) o in
    let known : Known p a.what = subst P due (due-known p) in
    let less = taken-items p a.what known in
    let Q : Page → Type 0 = λ q. items_waiting q < items_waiting p in
    subst Q (sym (ap (λ o. elim o as (λ _. Page) [ None ↦ p | Some b ↦ take_item b.what p ]) due)) (omega arith)

module _ {T : Type 0} {k : Keeping T} (s : Standing) {old : Seen T} where
  -- an item was taken, and then the others
  pub Does-more : {mid new : At Standing T} {why : Option NoLine} → true ≡ is_there (due_item s.script.now (first_item (page_of s)))
      → Does k (at s old) (on_page item_taken) None mid → Does k mid (on_page parallel) why new → Does k (at s old) (on_page parallel) why new
  Does-more there h rest =
      Does-is (λ p. parallel (item_taken p)) parallel (at s old) (rest_taken (page_of s) _ refl (sym there))
      (Does-next item_taken parallel parallel-adds h rest)

  -- none was due
  pub Does-all : {new : At Standing T} {why : Option NoLine} → false ≡ is_there (due_item s.script.now (first_item (page_of s)))
      → Does k (at s old) (on_page item_taken) why new → Does k (at s old) (on_page parallel) why new
  Does-all none h = Does-is item_taken parallel (at s old) (none_due (page_of s) _ refl (sym none)) h

  -- the exit of a `?` among the lines of an item
  pub Does-stopped : {X : Type 0} {new : At Standing T} (r : Result X NoLine) {why : NoLine} → IsErrAnd r (λ e. e ≡ why)
      → Does k (at s old) (on_page item_taken) (Some why) new → Does k (at s old) (on_page parallel) (result_err r) new
  Does-stopped {new = new} r {why = why} is h = by (is_there (due_item s.script.now (first_item (page_of s)))) refl
    where
      by : (b : Bool) → is_there (due_item s.script.now (first_item (page_of s))) ≡ b → Does k (at s old) (on_page parallel) (result_err r) new
      by true due =
          Does-is (λ p. parallel (item_taken p)) parallel (at s old) (rest_taken (page_of s) _ refl due)
          (Does-leave item_taken parallel r parallel-adds is h)
      by false due = Does-all (sym due) (Does-last r is h)

  pub fewer : {mid : At Standing T} → true ≡ is_there (due_item s.script.now (first_item (page_of s))) → Does k (at s old) (on_page item_taken) None mid
      → items_waiting (page_of mid.state) < items_waiting (page_of s)
  unfolding on_page
  fewer there h =
      let P : Standing → Type 0 = λ t. items_waiting (page_of t) < items_waiting (page_of s) in
      subst P (sym (h.acts.state refl)) (fewer_taken (page_of s) _ refl (sym there))

-- ---- the rendering opportunity

-- it is taken with no line
frame_silent : (p : Page) (t : ℕ) (b : Bool) → p.events ≡ [] → (elim (cond {A = Option Item} b (Some (record { due = t; what = FrameItem })) None) as (λ _. Page) [ None ↦ p | Some a ↦ take_item a.what p ]).events ≡ []
frame_silent p t true none = none
frame_silent p t false none = none

pub frame_is_silent : (t : ℕ) (s : Standing) → first_item (page_of s) ≡ Some (record { due = t; what = FrameItem }) → (item_taken (page_of s)).events ≡ []
frame_is_silent t s first =
    ap (λ o. (elim (due_item s.script.now o) as (λ _. Page) [ None ↦ page_of s | Some a ↦ take_item a.what (page_of s) ]).events) first
    ∙ frame_silent (page_of s) t (nat_le t s.script.now) refl

-- it is due, or not
pub frame_due : (t : ℕ) (b : Bool) (s : Standing) → first_item (page_of s) ≡ Some (record { due = t; what = FrameItem }) → nat_le t s.script.now ≡ b
    → is_there (due_item s.script.now (first_item (page_of s))) ≡ b
frame_due t b s first le = ap (λ o. is_there (due_item s.script.now o)) first ∙ by (nat_le t s.script.now) ∙ le
  where
    by : (c : Bool) → is_there (cond {A = Option Item} c (Some (record { due = t; what = FrameItem })) None) ≡ c
    by true = refl
    by false = refl

pub frame_taken : (t : ℕ) (s : Standing) → first_item (page_of s) ≡ Some (record { due = t; what = FrameItem }) → nat_le t s.script.now ≡ true
    → changed_by item_taken s ≡ changed_by (take_item FrameItem) s
frame_taken t s first le =
    let p = page_of s in
    ap (λ o. holding (elim (due_item s.script.now o) as (λ _. Page) [ None ↦ p | Some a ↦ take_item a.what p ]) s) first
    ∙ ap (λ b. holding (elim (cond {A = Option Item} b (Some (record { due = t; what = FrameItem })) None) as (λ _. Page) [ None ↦ p | Some a ↦ take_item a.what p ]) s) le

pub frame_waits : (t : ℕ) (s : Standing) → first_item (page_of s) ≡ Some (record { due = t; what = FrameItem }) → nat_le t s.script.now ≡ false
    → changed_by item_taken s ≡ s
frame_waits t s first le =
    let p = page_of s in
    ap (λ o. holding (elim (due_item s.script.now o) as (λ _. Page) [ None ↦ p | Some a ↦ take_item a.what p ]) s) first
    ∙ ap (λ b. holding (elim (cond {A = Option Item} b (Some (record { due = t; what = FrameItem })) None) as (λ _. Page) [ None ↦ p | Some a ↦ take_item a.what p ]) s) le

-- ---- which item is first

earlier_none : (o : Option Item) → earlier o None ≡ o
earlier_none None = refl
earlier_none (Some a) = refl

-- with no rendering opportunity the first of the others is the first
pub first_of_others : (s : Standing) → FirstIs (page_of s) → next_frame (page_of s) ≡ None → first_item (page_of s) ≡ first_waiting s.waiting
first_of_others s is none =
    is ∙ ap (λ o. earlier (first_waiting s.waiting) (first_item_of (frame_items o))) none ∙ earlier_none (first_waiting s.waiting)

before_is : (t : ℕ) (o : Option Item) → is_before t o ≡ before_due t (due_of o)
before_is t None = refl
before_is t (Some a) = refl

pub first_by : (t : ℕ) (b : Bool) (s : Standing) → FrameIsFirst t (page_of s) → next_frame (page_of s) ≡ Some t → before_due t (due_of (first_waiting s.waiting)) ≡ b
    → first_item (page_of s) ≡ cond b (Some (record { due = t; what = FrameItem })) (first_waiting s.waiting)
first_by t b s is there before =
    is there ∙ ap (λ b. cond b (Some (record { due = t; what = FrameItem })) (first_waiting s.waiting)) (before_is t (first_waiting s.waiting) ∙ before)
