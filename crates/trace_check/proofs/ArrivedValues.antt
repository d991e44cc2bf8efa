-- The values that arrive by a setup are unit, Bools, integers and texts, which hold no numbers of promises, signals or the like.
use Rattle.std.proofs.Common.{◌≡◌, ◌&&◌, Bool, true, false, List, [], ◌∷◌, refl}
use Rattle.page_types.specs.Values.{Value, UnitValue, BoolValue, IntValue, TextValue, ListValue, FunValue, PromiseValue, SignalValue, ControllerValue, DeadlineValue, FaultValue}
use Rattle.page_parts.specs.Setup.{Arrival}
use Rattle.page_model.specs.Numbers.{Each, IsKnown, nothing_made, HoldsNoNumbers}
use Rattle.arrivals_text.specs.Limits.{may_arrive, is_arrival, are_arrivals}
use Rattle.arrivals_text.specs.Seen.{settings_of}
use Rattle.arrivals_text.specs.declared.setup.PageSetup.{PageSetup}

-- a value that may arrive holds none
pub value-known : (v : Value) → may_arrive v ≡ true → IsKnown nothing_made v
value-known UnitValue h = tt
value-known (BoolValue b) h = tt
value-known (IntValue n) h = tt
value-known (TextValue text) h = tt
value-known (ListValue vs) h = absurd (cc)
value-known (FunValue f vs) h = absurd (cc)
value-known (PromiseValue n) h = absurd (cc)
value-known (SignalValue n) h = absurd (cc)
value-known (ControllerValue n) h = absurd (cc)
value-known (DeadlineValue t) h = tt
value-known (FaultValue name text) h = tt

left : (a b : Bool) → (a && b) ≡ true → a ≡ true
left true b h = refl
left false b h = absurd (cc)

pub right : (a b : Bool) → (a && b) ≡ true → b ≡ true
right true b h = h
right false b h = absurd (cc)

arrivals-known : (arrivals : List Arrival) → are_arrivals arrivals ≡ true → Each (λ a. IsKnown nothing_made a.value) arrivals
arrivals-known [] h = tt
arrivals-known (a ∷ arrivals) h =
    let within = left (is_arrival a) (are_arrivals arrivals) h in
    (value-known a.value (right _ (may_arrive a.value) (right _ _ within)), arrivals-known arrivals (right (is_arrival a) (are_arrivals arrivals) h))

-- what arrives in a page's setup is within its limits
pub holds-no-numbers : (setup : PageSetup) → HoldsNoNumbers (settings_of setup).setup
holds-no-numbers setup = arrivals-known (settings_of setup).setup.arrivals setup.arrives
