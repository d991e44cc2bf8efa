-- Each step of the innermost fold, as a part of what is left of it.
use Rattle.std.proofs.Common.{◌≡◌, ℕ, ◌<◌, Bool, true, false, cond, List, refl, sym, ◌∙◌, ap, subst, Option, Some, None}
use Rattle.page_types.specs.Values.{Value}
use Rattle.page_types.specs.Events.{Prio}
use Rattle.page_types.specs.declared.Priority.{Priority}
use Rattle.page_parts.specs.Kinds.{Func}
use Rattle.page_model.specs.State.{Page, the_registration, emit}
use Rattle.page_model.specs.PageSignals.{abort_registration, drop_registration, has_not_begun}
use Rattle.page_model.specs.PagePromises.{reject}
use Rattle.page_script.proofs.Touching.{reject-only}
use Rattle.trace_text.specs.Given.{Keeping, Seen}
use Rattle.page_signals.specs.Steps.{Algorithm, Listener, Changed, Finished, stepped, to_visit}
use Rattle.page_signals.specs.Kept.{AreFitting}
use Rattle.page_model.specs.Folds.{Finished as Done}
use Rattle.page_signals.specs.Laws.{innermost_meaning, listener_meaning}
use Rattle.page_state.specs.Standing.{Standing, page_of, signals_of, SignalFields}
use Rattle.page_state.specs.PageActs.{on_page, at, Does}
use Rattle.page_state.specs.FoldActs.{signalling_in, having, called_or_ended, listener_called}
use Rattle.page_state.proofs.Reaching.{visit-is}

module _ (s mid : Standing) (before : AreFitting (signalling_in s)) (after : AreFitting (signalling_in mid)) (others : mid ≡ having (signalling_in mid) s) where
  pub algorithm-is : (r : ℕ) (reason : Value) → (Algorithm r reason, signalling_in mid) ≡ stepped (signalling_in s)
      → innermost_meaning s.folds (page_of s) ≡ innermost_meaning mid.folds (abort_registration reason r (page_of mid))
  algorithm-is r reason is =
      visit-is s (Algorithm r reason) (signalling_in mid) is before after
      ∙ ap (λ t. innermost_meaning mid.folds (abort_registration reason r (page_of t))) (sym others)

  pub changed-is : (n : ℕ) (own priority : Priority) → (Changed n own priority, signalling_in mid) ≡ stepped (signalling_in s)
      → innermost_meaning s.folds (page_of s) ≡ innermost_meaning mid.folds (emit (Prio n priority) (page_of mid))
  changed-is n own priority is =
      visit-is s (Changed n own priority) (signalling_in mid) is before after
      ∙ ap (λ t. innermost_meaning mid.folds (emit (Prio n priority) (page_of t))) (sym others)

  pub listener-is : (r : ℕ) (args : List Value) → (Listener r args, signalling_in mid) ≡ stepped (signalling_in s)
      → innermost_meaning s.folds (page_of s) ≡ listener_meaning mid.folds r args (page_of mid)
  listener-is r args is =
      visit-is s (Listener r args) (signalling_in mid) is before after ∙ ap (λ t. listener_meaning mid.folds r args (page_of t)) (sym others)

  pub finished-is : (Finished, signalling_in mid) ≡ stepped (signalling_in s) → innermost_meaning s.folds (page_of s) ≡ Done (page_of mid)
  finished-is is = visit-is s Finished (signalling_in mid) is before after ∙ ap (λ t. Done (page_of t)) (sym others)

-- what a step does to the page is no change of its signals
abbrev pub KeepsSignals : (Page → Page) → Type 0
KeepsSignals g = (p : Page) → signals_of (g p) ≡ signals_of p

pub abort-keeps : (reason : Value) (r : ℕ) → KeepsSignals (abort_registration reason r)
abort-keeps reason r p = by (has_not_begun r p) (reject (the_registration p r).promise reason p) ∙ ap signals_of (reject-only (the_registration p r).promise reason p)
  where
    by : (b : Bool) (q : Page) → signals_of (cond b (drop_registration r) (λ q. q) q) ≡ signals_of q
    by true q = refl
    by false q = refl

pub line-keeps : (s : ℕ) (priority : Priority) → KeepsSignals (emit (Prio s priority))
line-keeps s priority p = refl

pub call-keeps : (r : ℕ) → KeepsSignals (listener_called r)
call-keeps r p = by (the_registration p r).callback
  where
    by : (f : Option Func) → signals_of (called_or_ended f r p) ≡ signals_of p
    by None = refl
    by (Some f) = refl

pub falls-then : {T : Type 0} {k : Keeping T} (g : Page → Page) (s mid last : Standing) {old seen : Seen T} → KeepsSignals g → to_visit (signalling_in mid) < to_visit (signalling_in s)
    → Does k (at mid old) (on_page g) None (at last seen) → to_visit (signalling_in last) < to_visit (signalling_in s)
unfolding on_page
falls-then g s mid last keeps less done =
    let P : Standing → Type 0 = λ t. to_visit (signalling_in t) < to_visit (signalling_in s) in
    let Q : SignalFields → Type 0 = λ f. to_visit (record { signals = f.signals; prios = f.prios; listeners = f.listeners; folds = mid.folds }) < to_visit (signalling_in s) in
    subst P (sym (done.acts.state refl)) (subst Q (sym (keeps (page_of mid))) less)
