-- What evaluation keeps: the numbers are given, and what happens is a row of moves, behind which the same calls are open.
use Rattle.page_model.specs.Invoke.{call_begun, call_ended}
use Rattle.std.proofs.Common.{◌≡◌, ℕ, Bool, true, false, List, ◌∷◌, refl, cond, ◌∙◌}
use Rattle.page_types.specs.Tree.{Program}
use Rattle.page_types.specs.Values.{Value}
use Rattle.page_types.specs.Events.{Event}
use Rattle.page_parts.specs.Words.{is_there}
use Rattle.lang_meaning.specs.Machine.{assigned, value_in, with_value_in, locals, with_local}
use Rattle.page_model.specs.State.{Page, State, on_page, emit}
use Rattle.page_model.specs.Numbers.{IsFor, made_by, Grows, IsKnown}
use Rattle.page_model.proofs.GivenNumbers.Growing.{Grows-same, Grows-then, IsKnown-grows, Held, Onward, stays}
use Rattle.page_model.proofs.GivenNumbers.Evaluation as numbers
use Rattle.page_model.proofs.GivenNumbers.Evaluation.{Good, on_page-good, assign-good}
use Rattle.page_laws.specs.History.{open_registrations, open_after, without_first}
use Rattle.page_laws.specs.Moves.{is_aside, is_end, Changes, nothing, with_change, told, Beginning, called_by, role_of, taken, Waited, Moves, here, calling, ending}
use Rattle.page_laws.proofs.Going.{Keeping}
use Rattle.page_laws.proofs.Moving.{moves-then, moves_of}
use Rattle.page_laws.proofs.Lines.{Same, same-then, changes-same, begins-same}
use Rattle.page_laws.proofs.Intervals.{PostsStay, TimersKept, TimersWait, changes-timers, kept-later, timers-same, timers-then}
use Rattle.page_laws.proofs.Tracking.{Told, Tracks, changes-track, told-by, told-then, tracks-same, tracks-then}
use Rattle.page_laws.proofs.Idling.{GoesOn, all-go, begins-go, ended-goes}
use Rattle.page_laws.proofs.Framed.{FramesKept, kept-same, kept-then, changes-kept, begins-kept, ended-kept}

-- numbers that were given stay, and a row of moves goes on, behind which the same calls are open; of the frame callbacks that wait then,
-- those that waited before keep their mark; an idle period goes on; intervals go on waiting, or their ids are live; and the nesting level
-- follows the lines
abbrev pub Le : State → State → Type 0
Le m r = Grows (made_by m.host) (made_by r.host) × Moves m.host r.host × Same m.host r.host × FramesKept m.host r.host × GoesOn m.host r.host × TimersKept m.host r.host × Tracks m.host r.host

-- the same, but for the timers and the nesting level
abbrev pub Loose : State → State → Type 0
Loose m r = Grows (made_by m.host) (made_by r.host) × Moves m.host r.host × Same m.host r.host × FramesKept m.host r.host × GoesOn m.host r.host

-- the same between turns, where an idle period may start
abbrev pub Lasts : State → State → Type 0
Lasts m r = Grows (made_by m.host) (made_by r.host) × Moves m.host r.host × Same m.host r.host × FramesKept m.host r.host × TimersWait m.host r.host × PostsStay m.host r.host

pub lasting : (m r : State) → Le m r → Lasts m r
lasting m r le = (le.0, le.1, le.2, le.3, le.5.waits, le.5.posts)

pub loose : (m r : State) → Le m r → Loose m r
loose m r le = (le.0, le.1, le.2, le.3, le.4)

pub loose-then : (a b c : State) → Loose a b → Loose b c → Loose a c
loose-then a b c g h = (Grows-then (made_by a.host) (made_by b.host) (made_by c.host) g.0 h.0, moves-then g.1 h.1, same-then a.host b.host c.host g.2 h.2, kept-then a.host b.host c.host g.3 h.3, λ x. h.4 (g.4 x))

pub lasts-then : (a b c : State) → Lasts a b → Lasts b c → Lasts a c
lasts-then a b c g h = (Grows-then (made_by a.host) (made_by b.host) (made_by c.host) g.0 h.0, moves-then g.1 h.1, same-then a.host b.host c.host g.2 h.2, kept-then a.host b.host c.host g.3 h.3, λ k hand w. h.4 (kept-later g.1 k) hand (g.4 k hand w), λ pend w. h.5 pend (g.5 pend w))

-- a row of moves goes on until fuel ends, and the levels of timers follow
abbrev pub Stop : State → State → Type 0
Stop m r = Moves m.host r.host × Told m.host r.host

abbrev pub Reached : State → State → Type 0
Reached m r = Le m r × Good r

pub le-same : (m : State) → Le m m
le-same m = (Grows-same (made_by m.host), here, (refl, refl, refl), kept-same m.host m.host refl refl refl, λ x. x, timers-same m.host m.host refl refl refl refl, tracks-same m.host)

pub le-then : (a b c : State) → Le a b → Le b c → Le a c
le-then a b c g h = (Grows-then (made_by a.host) (made_by b.host) (made_by c.host) g.0 h.0, moves-then g.1 h.1, same-then a.host b.host c.host g.2 h.2, kept-then a.host b.host c.host g.3 h.3, λ x. h.4 (g.4 x), timers-then g.1 g.5 h.5, tracks-then a.host b.host c.host g.2 g.6 h.6)

pub moved_assign : (m : State) (x : List ℕ) (v : Value) → Good m → IsKnown (made_by m.host) v → Reached m (assigned m x v)
moved_assign m x v g h =
    let a = assign-good m x v g h in
    let b = by_place (is_there (value_in (locals m.open_calls) x)) in
    ((a.0, b.0, b.1, b.2, b.3, b.4, b.5), a.1)
  where
    by_place : (b : Bool) → let n = cond b (record m { open_calls = with_local m.open_calls x v }) (record m { globals = with_value_in m.globals x v }) in Moves m.host n.host × Same m.host n.host × FramesKept m.host n.host × GoesOn m.host n.host × TimersKept m.host n.host × Tracks m.host n.host
    by_place true = (here, (refl, refl, refl), kept-same m.host m.host refl refl refl, λ x. x, timers-same m.host m.host refl refl refl refl, tracks-same m.host)
    by_place false = (here, (refl, refl, refl), kept-same m.host m.host refl refl refl, λ x. x, timers-same m.host m.host refl refl refl refl, tracks-same m.host)

-- what evaluation keeps
abbrev pub keeping : (program : Program) → Keeping Page program
keeping program =
    let k = numbers.keeping program in
    record {
      Le = Le;
      Good = Good;
      Val = λ v m. IsKnown (made_by m.host) v;
      Stop = Stop;
      stop = λ m n le g. (le.1, told-by m.host n.host le.2 le.6.follows);
      stop_later = λ a b c le h. (moves-then le.1 h.0, told-then a.host b.host c.host le.2 le.6.follows h.1);
      stop_closed = λ m n h. h;
      same = le-same;
      chain = le-then;
      later = λ v a b le h. IsKnown-grows (made_by a.host) (made_by b.host) le.0 v h;
      assign = moved_assign;
      open_call = λ m xs g h. let a = k.open_call m xs g h in ((a.0, here, (refl, refl, refl), kept-same m.host m.host refl refl refl, λ x. x, timers-same m.host m.host refl refl refl refl, tracks-same m.host), a.1);
      close_call = λ m g. let a = k.close_call m g in ((a.0, here, (refl, refl, refl), kept-same m.host m.host refl refl refl, λ x. x, timers-same m.host m.host refl refl refl refl, tracks-same m.host), a.1);
      take = λ m left e g. let a = k.take m left e g in ((a.0, here, (refl, refl, refl), kept-same m.host m.host refl refl refl, λ x. x, timers-same m.host m.host refl refl refl refl, tracks-same m.host), a.1);
      unit_value = k.unit_value;
      bool_value = k.bool_value;
      int_value = k.int_value;
      text_value = k.text_value;
      fault_value = k.fault_value;
      read = k.read;
      named = k.named;
      bound = k.bound;
      sum = k.sum;
      product = k.product;
      compare = k.compare;
      unary = k.unary;
      item = k.item;
      list = k.list;
    }

-- ---- pages

-- a page that is reached by a row of changes, with its numbers given
abbrev pub Onto : Page → Page → Type 0
Onto p q = Onward (made_by p) q × Changes p q

-- a change of the page
pub on_page-reached : (m : State) (f : Page → Page) → Good m → Onto m.host (f m.host) → Reached m (on_page f m)
on_page-reached m f g o = let a = on_page-good m f g o.0 in ((a.0, moves_of o.1, changes-same o.1, changes-kept o.1, all-go o.1, changes-timers o.1, changes-track o.1), a.1)

-- a line that opens and ends no call
pub told-onto : (e : Event) (p : Page) → is_aside e ≡ true → Held (made_by p) p → Onto p (emit e p)
told-onto e p x h = (stays p h, with_change nothing (told e x) tt)

-- the state in which the callback that waited there is called
abbrev pub entered : Beginning → State → State
entered b m = on_page (λ p. call_begun (called_by b) (taken b p)) m

-- a call that has ended, behind where its callback was taken
pub call_over : (b : Beginning) (m s : State) (e : Event) → is_end e ≡ true → ((calls : List ℕ) → open_after e calls ≡ without_first calls) → Grows (made_by m.host) (made_by (taken b m.host)) → Waited b m.host → IsFor (role_of b) (made_by m.host) (called_by b) → Le (entered b m) s → Loose m (on_page (call_ended e) s)
call_over b m s e x y g w k le =
    let same = begins-same b m.host in
    (Grows-then (made_by m.host) (made_by (taken b m.host)) (made_by s.host) g le.0, ending (moves-then (calling here b w k) le.1) e x, (y (open_registrations s.host.events) ∙ (first_gone (open_registrations s.host.events) (open_registrations (taken b m.host).events) le.2.0 ∙ same.0), le.2.1 ∙ same.1, le.2.2 ∙ same.2), kept-then m.host (entered b m).host (call_ended e s.host) (begins-kept b m.host w) (kept-then (entered b m).host s.host (call_ended e s.host) le.3 (ended-kept e s.host x)), λ z. ended-goes e s.host x (le.4 (begins-go b m.host z)))
  where
    first_gone : (calls before : List ℕ) → calls ≡ called_by b ∷ before → without_first calls ≡ before
    first_gone calls before e = Prim.rw e refl
