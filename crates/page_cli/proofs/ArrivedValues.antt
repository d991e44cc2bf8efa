-- What an arrivals file sets up carries no numbers of promises, signals or the like.
use Rattle.std.proofs.Common.{◌≡◌, ℕ, true, List, [], ◌∷◌, map, filter, Option, Some, None, sym, subst}
use Rattle.std.specs.List.{filter_map, cons_option}
use Rattle.std.specs.Option.{IfSome}
use Rattle.page_parts.specs.Setup.{Arrival}
use Rattle.page_model.specs.Numbers.{Each, IsKnown, nothing_made, HoldsNoNumbers}
use Rattle.arrivals_text.specs.Arrivals.{Line, PageLine, TraceLine, PolicyLine, FuelLine, UntilLine, RefreshLine, LateLine, RoomLine, HostLine, ArrivalLine, Settings, SetsUp, line_at, says_something, arrival_in, lines_of}
use Rattle.arrivals_text.specs.Limits.{may_arrive, is_arrival}
use Rattle.arrivals_text.proofs.Within.{LineWithin, line_within}
use Rattle.trace_check.proofs.ArrivedValues.{value-known, right}

abbrev ArrivesKnown : Arrival → Type 0
ArrivesKnown a = IsKnown nothing_made a.value

arrival-known : (a : Arrival) → is_arrival a ≡ true → ArrivesKnown a
arrival-known a h = value-known a.value (right _ (may_arrive a.value) (right _ _ h))

-- ---- lines

line-known : (line : Line) → LineWithin line → (arrivals : List Arrival) → Each ArrivesKnown arrivals → Each ArrivesKnown (cons_option (arrival_in line) arrivals)
line-known (PageLine n) w arrivals h = h
line-known TraceLine w arrivals h = h
line-known (PolicyLine policy) w arrivals h = h
line-known (FuelLine n) w arrivals h = h
line-known (UntilLine n) w arrivals h = h
line-known (RefreshLine n) w arrivals h = h
line-known (LateLine late) w arrivals h = h
line-known (RoomLine n) w arrivals h = h
line-known (HostLine host) w arrivals h = h
line-known (ArrivalLine a) w arrivals h = (arrival-known a w, h)

spelled-within : (o : Option Line) (line : Line) → IfSome o LineWithin → o ≡ Some line → LineWithin line
spelled-within None line h is = absurd (cc)
spelled-within (Some other) line h is = let same : other ≡ line = cc in subst LineWithin same h

lines-known : (file : List (List ℕ)) (lines : List Line) → map line_at file ≡ map Some lines → Each ArrivesKnown (filter_map arrival_in lines)
lines-known file [] h = tt
lines-known [] (line ∷ lines) h = absurd (cc)
lines-known (bytes ∷ file) (line ∷ lines) h =
    line-known line (spelled-within (line_at bytes) line (line_within bytes) cc) (filter_map arrival_in lines) (lines-known file lines cc)

-- ---- what a file sets up

pub holds-no-numbers : (arrivals : List ℕ) (settings : Settings) → SetsUp arrivals settings → HoldsNoNumbers settings.setup
holds-no-numbers arrivals settings h =
    let P : Settings → Type 0 = λ s. HoldsNoNumbers s.setup in
    subst P (sym h.sets) (lines-known (filter says_something (lines_of arrivals)) h.lines h.page.spelled)
