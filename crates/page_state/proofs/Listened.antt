-- The call of a listener, where it has a callback and where it has none.
use Rattle.std.proofs.Common.{◌≡◌, ℕ, refl, Option, Some, None}
use Rattle.page_parts.specs.Kinds.{Func}
use Rattle.page_types.specs.Events.{Ret}
use Rattle.page_model.specs.State.{Page, the_registration}
use Rattle.page_model.specs.Invoke.{WhenReported, when_reported, call_begun, call_ended}
use Rattle.page_state.specs.FoldActs.{Called, called_with, called_by, called_or_ended, listener_called}

pub no-callback : (o : Option Func) (when : WhenReported) → None ≡ called_with o when → o ≡ None
no-callback None when e = refl
no-callback (Some f) when e = Prim.cc

pub called-none : (p : Page) (r : ℕ) → None ≡ called_by p r → call_ended Ret (call_begun r p) ≡ listener_called r p
called-none p r none = by (the_registration p r).callback (no-callback (the_registration p r).callback (when_reported (the_registration p r).role) none)
  where
    by : (o : Option Func) → o ≡ None → call_ended Ret (call_begun r p) ≡ called_or_ended o r p
    by None e = refl
    by (Some f) e = Prim.cc

pub called-some : (p : Page) (r : ℕ) (c : Called) → Some c ≡ called_by p r → call_begun r p ≡ listener_called r p
called-some p r c some = by (the_registration p r).callback (when_reported (the_registration p r).role) some
  where
    by : (o : Option Func) (when : WhenReported) → Some c ≡ called_with o when → call_begun r p ≡ called_or_ended o r p
    by None when e = Prim.cc
    by (Some f) when e = refl
