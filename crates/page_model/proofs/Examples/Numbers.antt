-- What the law on given numbers refuses and what it allows.
use Rattle.std.proofs.Common.{List, [], ◌∷◌, arith, ◌≡◌, true, false, refl}
use Rattle.page_types.specs.Values.{PromiseValue, SignalValue, ListValue, no_values, with_value, UnitValue}
use Rattle.page_types.specs.Tree.{Program}
use Rattle.page_parts.specs.Setup.{Setup}
use Rattle.page_parts.specs.HostClosures.{HostClosure}
use Rattle.page_model.specs.Turns.{first_state, first_page}
use Rattle.page_model.specs.Numbers.{Made, nothing_made, IsKnown, AllAreGiven}
use Rattle.page_types.specs.declared.Op.TheVariants.{Then, Len, Busy}
use Rattle.page_model.specs.Operations.{may_operate}

-- no promise has number 0
never_zero : (n : Made) → ¬ (IsKnown n (PromiseValue 0))
never_zero n h = omega (arith, h.from_one)

-- before a promise is made, none has number 1
none_yet : ¬ (IsKnown nothing_made (PromiseValue 1))
none_yet h = omega (arith, h.to_last)

-- of two signals the second is known, also in a list, and a third is not
two_signals : Made
two_signals = record nothing_made { signals = 2 }

second_known : IsKnown two_signals (ListValue (with_value (SignalValue 2) no_values))
unfolding two_signals
second_known = (record { from_one = omega arith; to_last = omega arith }, tt)

third_unknown : ¬ (IsKnown two_signals (ListValue (with_value (SignalValue 3) no_values)))
unfolding two_signals
third_unknown h = omega (arith, h.0.to_last)

-- a first state in which a variable held a promise would break the law
stray : (program : Program) (setup : Setup) (hosts : List HostClosure) → ¬ (AllAreGiven (record (first_state program setup hosts) { globals = record { name = []; value = PromiseValue 1 } ∷ [] }))
stray program setup hosts h = omega (arith, h.globals.0.to_last)

-- before a promise is made no operation looks at one, wherever in its arguments it stands; `busy` asks for no number
no_handler_yet : (program : Program) (setup : Setup) (hosts : List HostClosure) → may_operate (first_page program setup hosts) Then (PromiseValue 1 ∷ UnitValue ∷ UnitValue ∷ []) ≡ false
no_handler_yet program setup hosts = refl

no_length_yet : (program : Program) (setup : Setup) (hosts : List HostClosure) → may_operate (first_page program setup hosts) Len (ListValue (with_value (PromiseValue 1) no_values) ∷ []) ≡ false
no_length_yet program setup hosts = refl

busy_asks_for_none : (program : Program) (setup : Setup) (hosts : List HostClosure) → may_operate (first_page program setup hosts) Busy (PromiseValue 1 ∷ []) ≡ true
busy_asks_for_none program setup hosts = refl
