-- What is plain names nothing that was made.
use Rattle.std.proofs.Common.{◌≡◌, ℕ, Bool, true, false, refl}
use Rattle.std.specs.Prelude.{◌&&◌}
use Rattle.std.proofs.lemmas.Bool.{false≢true}
use Rattle.page_types.specs.Values.{Value, UnitValue, BoolValue, IntValue, TextValue, ListValue, FunValue, PromiseValue, SignalValue, ControllerValue, DeadlineValue, FaultValue, Values, no_values, with_value}
use Rattle.page_values.specs.Plain.{is_plain, are_plain}
use Rattle.page_model.specs.Operations.{is_known, are_known}

follows : (a b c d : Bool) → (a ≡ true → c ≡ true) → (b ≡ true → d ≡ true) → (a && b) ≡ true → (c && d) ≡ true
follows true b true d f g p = g p
follows true b false d f g p = absurd (false≢true (f refl))
follows false b c d f g p = absurd (false≢true p)

mutual
  value-known : (promises signals : ℕ) (v : Value) → is_plain v ≡ true → is_known promises signals v ≡ true
  value-known promises signals UnitValue p = refl
  value-known promises signals (BoolValue b) p = refl
  value-known promises signals (IntValue n) p = refl
  value-known promises signals (TextValue bs) p = refl
  value-known promises signals (ListValue vs) p = plain-known promises signals vs p
  value-known promises signals (FunValue f vs) p = absurd (false≢true p)
  value-known promises signals (PromiseValue n) p = absurd (false≢true p)
  value-known promises signals (SignalValue n) p = absurd (false≢true p)
  value-known promises signals (ControllerValue n) p = absurd (false≢true p)
  value-known promises signals (DeadlineValue t) p = refl
  value-known promises signals (FaultValue name bs) p = refl

  -- whatever number of promises and signals were made
  pub plain-known : (promises signals : ℕ) (vs : Values) → are_plain vs ≡ true → are_known promises signals vs ≡ true
  plain-known promises signals no_values p = refl
  plain-known promises signals (with_value v vs) p =
      follows (is_plain v) (are_plain vs) (is_known promises signals v) (are_known promises signals vs) (value-known promises signals v) (plain-known promises signals vs) p
