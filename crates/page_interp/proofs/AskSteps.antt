-- How a run goes on where the host is asked.
use Rattle.std.proofs.Common.{◌≡◌, ℕ, ◌+◌, ◌≤◌, List, [], Option, Some, Result, Ok, Err, IfErr, refl, sym, ap, ◌∙◌, arith}
use Rattle.page_types.specs.Counts.{Rose}
use Rattle.page_types.specs.Tree.{Program}
use Rattle.lang_ast.specs.Hosts.{HostNow}
use Rattle.lang_meaning.specs.Machine.{Machine, Done, OutOfFuel}
use Rattle.lang_meaning.specs.Evaluation.{Around}
use Rattle.lang_meaning.specs.HostSteps.{HostStep, HostRules, Ask, on_ask}
use Rattle.lang_meaning.specs.Asks.{Limited, limited, limited_host, stopped_at, ask_limited, unasked, after_ask}
use Rattle.page_interp.specs.declared.exit.Exit.{Exit}
use Rattle.page_interp.specs.declared.exit.Exit.TheVariants as exit
use Rattle.page_interp.specs.declared.exit.Store.{Store}
use Rattle.page_interp.specs.declared.stack.Current.{Current}
use Rattle.page_interp.specs.declared.stack.Focus.{Focus}
use Rattle.page_interp.specs.declared.stack.Frame.{Frame}
use Rattle.page_interp.specs.Runs.{Left, ends, refused, no_memory, gives, throws, returns, no_fuel, Is, Comes, Stands, WhereSettled, Refuses, IsUnsettled, exit_left, call_left, more, Scope, outside, IsReady, Moment, moment_of, Runs, Asks, AreNumberedIn, globals_in, count_of_functions, around_of}
use Rattle.page_interp.specs.Frames.{does, depth_of, tickets_in, after_all, begun, meaning_at, state_at, moment_at, focus_weight, steps_left, Place, Goes, Halts, IsOwn, Stood, Advances, Finishes, Leaves}
use Rattle.page_interp.proofs.Steps.{still, more_more, passed_within, comes_after, stands_within, refuses_trans, settled_same}
use Rattle.page_interp.proofs.Calls.{end_dry, end_numbered, asked_once}
use Rattle.page_interp.proofs.FrameSteps.{after_dry}

settled_both : {S : Type 0} (l : Left S) (x y z : List ℕ) → WhereSettled l (y ≡ x) → WhereSettled l (z ≡ y) → WhereSettled l (z ≡ x)
settled_both (ends (gives v)) x y z p q = q ∙ p
settled_both (ends (throws v)) x y z p q = q ∙ p
settled_both (ends (returns v)) x y z p q = q ∙ p
settled_both (ends no_fuel) x y z p q = tt
settled_both (refused s) x y z p q = tt
settled_both no_memory x y z p q = tt

pub never_settled : {S : Type 0} (X : Type 0) (x : Exit S) → IsUnsettled x → WhereSettled (call_left (exit_left x)) X
never_settled X (exit.Throw v) u = absurd u
never_settled X (exit.Return v) u = absurd u
never_settled X exit.Fuel u = tt
never_settled X (exit.Host stop) u = tt
never_settled X exit.OutOfMemory u = tt

module _ {T S : Type 0} where
  pub asks_trans : {w : Scope T} {f g k : Machine (Limited T) → Done (Limited T)} {a b c : Moment T S} → Asks w f g a b → Asks w g k b c → Asks w f k a c
  asks_trans {f = f} {a = a} {c = c} i j = record {
    asks = i.asks + j.asks;
    comes = λ left. ap (λ l. f (limited l a.machine)) (more_more i.asks j.asks left) ∙ i.comes (more j.asks left) ∙ j.comes left;
    stands = passed_within c.machine.host (record { asks = i.asks; stops = λ n s e. record { state = s; stops = i.comes (Some n) ∙ e; host = refl } }) i.stands j.stands;
    fuel = omega (arith, i.fuel, j.fuel);
    refusals = j.refusals ∙ i.refusals;
    ready = j.ready;
  }

  pub asks_same : {w : Scope T} {f g : Machine (Limited T) → Done (Limited T)} {a : Moment T S} → ((left : Option ℕ) → f (limited left a.machine) ≡ g (limited left a.machine)) → IsReady w a → Asks w f g a a
  asks_same {a = a} q k = record { asks = 0; comes = q; stands = unasked refl; fuel = still a.machine.fuel; refusals = refl; ready = k }

  pub asks_runs : {w : Scope T} {f g : Machine (Limited T) → Done (Limited T)} {a b c : Moment T S} {l : Left S} → Asks w f g a b → Runs w g b l c → WhereSettled l (b.now.tickets ≡ a.now.tickets) → Runs w f a l c
  asks_runs {f = f} {g = g} {a = a} {b = b} {c = c} {l = l} i y t = record {
    meaning = comes_after f g a.machine b.machine c.machine i.asks i.comes l y.meaning;
    stands = stands_within _ l c.machine.host (record { asks = i.asks; stops = λ n s e. record { state = s; stops = i.comes (Some n) ∙ e; host = refl } }) i.stands y.stands;
    fuel = omega (arith, i.fuel, y.fuel);
    dry = y.dry;
    tickets = settled_both l a.now.tickets b.now.tickets c.now.tickets t y.tickets;
    refusals = refuses_trans l a.now.refusals b.now.refusals c.now.refusals c.now.last_stop i.refusals y.refusals;
    ready = y.ready;
    numbered = y.numbered;
  }

  comes_is : (l : Left S) (f : Machine (Limited T) → Done (Limited T)) (a b : Machine T) → ((left : Option ℕ) → Is (f (limited left a)) l (limited left b)) → Comes f a l b
  comes_is (ends e) f a b q = record { asks = 0; ends = q }
  comes_is (refused stop) f a b q = tt
  comes_is no_memory f a b q = tt

  own_stands : (rules : HostRules T) (leaves : Ask → T → T → Type 0) (x : Exit S) (f : Machine (Limited T) → Done (Limited T)) (a : Machine T) → IsOwn (exit_left x) → Stands rules leaves (call_left (exit_left x)) f a a.host
  own_stands rules leaves (exit.Throw v) f a o = unasked refl
  own_stands rules leaves (exit.Return v) f a o = unasked refl
  own_stands rules leaves exit.Fuel f a o = unasked refl
  own_stands rules leaves (exit.Host stop) f a o = absurd o
  own_stands rules leaves exit.OutOfMemory f a o = unasked refl

own_refuses : {S : Type 0} (x : Exit S) (n : ℕ) (last : Option S) → IsOwn (exit_left x) → Refuses (call_left (exit_left x)) n n last
own_refuses (exit.Throw v) n last o = refl
own_refuses (exit.Return v) n last o = refl
own_refuses exit.Fuel n last o = refl
own_refuses (exit.Host stop) n last o = absurd o
own_refuses exit.OutOfMemory n last o = refl

outermost_tickets : {S : Type 0} (x : Exit S) (fs : List Frame) (h ts : List ℕ) → WhereSettled (exit_left x) (fs ≡ []) → h ≡ tickets_in fs ts → WhereSettled (call_left (exit_left x)) (h ≡ ts)
outermost_tickets (exit.Throw v) fs h ts q e = e ∙ ap (λ fs. tickets_in fs ts) q
outermost_tickets (exit.Return v) fs h ts q e = e ∙ ap (λ fs. tickets_in fs ts) q
outermost_tickets exit.Fuel fs h ts q e = tt
outermost_tickets (exit.Host stop) fs h ts q e = tt
outermost_tickets exit.OutOfMemory fs h ts q e = tt

module _ {T S : Type 0} (rules : HostRules T) (leaves : Ask → T → T → Type 0) (p : Program) (ts : List ℕ) where
  -- a step that does not ask the host
  pub goes_advances : (h : HostNow T S) (a b : Place) → Stood rules leaves p ts h a → Goes rules p a b → Advances rules leaves p ts (λ d. does d a.focus) (focus_weight a.focus) h a h b
  unfolding meaning_at moment_of steps_left
  goes_advances h a b s g =
      let ready : IsReady (outside rules leaves p) (moment_at p h b) = record { functions = s.ready.functions; room = let r = s.ready.room in let f = g.fuel in omega (arith, r, f); globals = g.holds.globals; held = tt } in
      record {
        means = λ ns k. let m = g.means ns k in record { numbers = m.numbers; enough = m.enough; asks = record { asks = 0; comes = λ left. m.same (limited_host left h.told); stands = unasked refl; fuel = g.fuel; refusals = refl; ready = ready } };
        stood = record { holds = g.holds; ready = ready; tickets = s.tickets ∙ sym (g.tickets ts) };
        fewer = g.fewer;
      }

  -- the last step, where it does not ask the host
  pub halts_finishes : (h : HostNow T S) (a : Place) (x : Exit S) (store : Store) → Stood rules leaves p ts h a → Halts rules p a x store → Finishes rules leaves p ts (λ d. does d a.focus) h a x h store
  unfolding meaning_at moment_of
  halts_finishes h a x store s g = record {
    runs = λ ns k. record {
      meaning = comes_is (call_left (exit_left x)) _ _ _ (λ left. g.means ns k (limited_host left h.told));
      stands = own_stands rules leaves x _ _ g.own;
      fuel = g.fuel;
      dry = end_dry (exit_left x) store.fuel g.dry;
      tickets = settled_same (call_left (exit_left x)) h.tickets;
      refusals = own_refuses x h.refusals h.last_stop g.own;
      ready = record { functions = s.ready.functions; room = let r = s.ready.room in let f = g.fuel in omega (arith, r, f); globals = g.globals; held = tt };
      numbered = end_numbered _ (exit_left x) g.numbered;
    };
    tickets = outermost_tickets x a.frames h.tickets ts g.outermost s.tickets;
  }

  -- no memory, with the global variables as they stand then
  pub memory_ends : (f : Around (Limited T) → Machine (Limited T) → Done (Limited T)) (h : HostNow T S) (a : Place) (store : Store) → IsReady (outside rules leaves p) (moment_at p h a) → AreNumberedIn (count_of_functions p) (globals_in p store) → store.fuel ≤ a.store.fuel
      → Finishes rules leaves p ts f h a exit.OutOfMemory h store
  unfolding moment_of
  memory_ends f h a store k g l = record {
    runs = λ ns t. record {
      meaning = tt;
      stands = unasked refl;
      fuel = l;
      dry = tt;
      tickets = tt;
      refusals = refl;
      ready = record { functions = k.functions; room = let r = k.room in omega (arith, r, l); globals = g; held = tt };
      numbered = tt;
    };
    tickets = tt;
  }

  -- no memory, with the global variables as before
  pub memory_finishes : (f : Around (Limited T) → Machine (Limited T) → Done (Limited T)) (h : HostNow T S) (a : Place) (store : Store) → IsReady (outside rules leaves p) (moment_at p h a) → store.globals ≡ a.store.globals → store.fuel ≤ a.store.fuel
      → Finishes rules leaves p ts f h a exit.OutOfMemory h store
  unfolding moment_of
  memory_finishes f h a store k g l = memory_ends f h a store k (rw g k.globals) l

  -- no unit of fuel
  pub dry_finishes : (f : Around (Limited T) → Machine (Limited T) → Done (Limited T)) (h : HostNow T S) (a : Place) (store : Store) → IsReady (outside rules leaves p) (moment_at p h a) → store.globals ≡ a.store.globals → store.fuel ≤ a.store.fuel → a.store.fuel ≡ 0
      → ((host : Limited T) → f (around_of rules p (depth_of a.frames)) (state_at p host a) ≡ OutOfFuel (state_at p host a)) → Finishes rules leaves p ts f h a exit.Fuel h store
  unfolding moment_of
  dry_finishes f h a store k g l z dry = record {
    runs = λ ns t. let none : store.fuel ≡ a.store.fuel = omega (arith, l, z) in record {
      meaning = record { asks = 0; ends = λ left. ap (after_all rules p a.frames ns) (dry (limited_host left h.told)) ∙ after_dry rules p a.frames ns _ _ _ (limited_host left h.told) ∙ rw (g, none) refl };
      stands = unasked refl;
      fuel = l;
      dry = omega (arith, l, z);
      tickets = tt;
      refusals = refl;
      ready = record { functions = k.functions; room = let r = k.room in omega (arith, r, l); globals = rw g k.globals; held = tt };
      numbered = tt;
    };
    tickets = tt;
  }

  -- the host refuses
  pub refused_finishes : (ask : Ask) (next : Around (Limited T) → HostStep → Machine (Limited T) → Done (Limited T)) (h h1 : HostNow T S) (a : Place) (stop : S)
      → Rose h.refusals h1.refusals → h1.last_stop ≡ Some stop → leaves ask h.told h1.told → IsReady (outside rules leaves p) (moment_at p h1 a)
      → Finishes rules leaves p ts (λ d m. ask_limited rules ask m (next d)) h a (exit.Host stop) h1 a.store
  unfolding moment_of
  refused_finishes ask next h h1 a stop r q l k = record {
    runs = λ ns t. record {
      meaning = tt;
      stands = record { n = 0; ask = ask; before = h.told; reached = record { state = _; stops = after_dry rules p a.frames ns _ _ _ (stopped_at ask h.told); host = refl }; left = l };
      fuel = still a.store.fuel;
      dry = tt;
      tickets = tt;
      refusals = (r, q);
      ready = record { functions = k.functions; room = k.room; globals = k.globals; held = tt };
      numbered = tt;
    };
    tickets = tt;
  }

  -- the host is asked once
  pub asks_once : (ask : Ask) (next : Around (Limited T) → HostStep → Machine (Limited T) → Done (Limited T)) (step : HostStep) (h h1 : HostNow T S) (a : Place) (ns : List ℕ)
      → on_ask rules ask h.told ≡ record { step = step; host = h1.told } → h1.refusals ≡ h.refusals → IsReady (outside rules leaves p) (moment_at p h1 a)
      → Asks (outside rules leaves p) (begun rules p ns a.frames (λ d m. ask_limited rules ask m (next d))) (begun rules p ns a.frames (λ d. next d step)) (moment_at p h a) (moment_at p h1 a)
  unfolding moment_of
  asks_once ask next step h h1 a ns q r k = record {
    asks = 1;
    comes = λ left. ap (after_all rules p a.frames ns) (asked_once rules ask (state_at p h.told a) step h1.told (next (around_of rules p (depth_of a.frames))) q left);
    stands = after_ask 0 ask h.told (record { state = _; stops = after_dry rules p a.frames ns _ _ _ (stopped_at ask h.told); host = refl }) (sym (ap (λ s. s.host) q));
    fuel = still a.store.fuel;
    refusals = r;
    ready = k;
  }

  -- what f begins comes to what g begins
  pub leaves_trans : (f g : Around (Limited T) → Machine (Limited T) → Done (Limited T)) (w : ℕ) (h h1 : HostNow T S) (a : Place) (result : Result Focus (Exit S)) (h' : HostNow T S) (store : Store) (current : Current) (fs : List Frame)
      → ((ns : List ℕ) → Asks (outside rules leaves p) (begun rules p ns a.frames f) (begun rules p ns a.frames g) (moment_at p h a) (moment_at p h1 a))
      → IfErr result IsUnsettled → Leaves rules leaves p ts g w h1 a result h' store current fs → Leaves rules leaves p ts f w h a result h' store current fs
  leaves_trans f g w h h1 a (Ok x) h' store current fs i u y = record { means = λ ns k. let m = y.means ns k in record { numbers = m.numbers; enough = m.enough; asks = asks_trans (i ns) m.asks }; stood = y.stood; fewer = y.fewer }
  leaves_trans f g w h h1 a (Err x) h' store current fs i u y = record { runs = λ ns k. asks_runs (i ns) (y.runs ns k) (never_settled _ x u); tickets = never_settled _ x u }
