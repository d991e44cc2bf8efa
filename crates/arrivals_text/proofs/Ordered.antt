-- The settings of lines that follow each other are within the limits.
use Rattle.std.proofs.Common.{◌≡◌, ℕ, ◌≤◌, ◌&&◌, Bool, true, false, List, [], ◌∷◌, map, filter, Option, Some, None, Result, Ok, Err, refl, ap, ◌∙◌, subst, arith}
use Rattle.std.specs.List.{filter_map, cons_option}
use Rattle.std.specs.Option.{IfSome}
use Rattle.std.proofs.lemmas.List.Elements.{All-nil}
use Rattle.page_parts.specs.Setup.{Latency, Arrival, is_not_after, are_in_order}
use Rattle.page_base.specs.Readings.{AreShort}
use Rattle.loop_policy.specs.Policies.{is_policy}
use Rattle.arrivals_text.specs.Arrivals.{Line, PageLine, TraceLine, PolicyLine, FuelLine, UntilLine, RefreshLine, LateLine, RoomLine, HostLine, ArrivalLine, Settings, line_at, says_something, place_of, may_follow, rank_of, follow, last_or, form_in, trace_in, policy_in, fuel_in, until_in, refresh_in, late_in, room_in, latency_in, arrival_in, settings_after, default_settings, lines_of}
use Rattle.arrivals_text.specs.Limits.{is_below, are_latencies, are_arrivals}
use Rattle.arrivals_text.specs.Reading.{IsWithin, goes, settled}
use Rattle.arrivals_text.specs.declared.place.Place.{Place}
use Rattle.arrivals_text.specs.declared.place.Place.TheVariants as place
use Rattle.arrivals_text.proofs.Within.{LineWithin, line_within}
use Rattle.arrivals_text.proofs.Pages.{lines_read}

abbrev AllWithin : List Line → Type 0
AllWithin [] = Unit {0}
AllWithin (line ∷ lines) = LineWithin line × AllWithin lines

some_within : (o : Option Line) (line : Line) → IfSome o LineWithin → o ≡ Some line → LineWithin line
some_within None line h is = cc
some_within (Some l) line h is = let e : l ≡ line = cc in subst LineWithin e h

words_within : (words : List (List ℕ)) (lines : List Line) → map line_at words ≡ map Some lines → AllWithin lines
words_within words [] h = tt
words_within [] (line ∷ lines) h = cc
words_within (bytes ∷ words) (line ∷ lines) h = (some_within (line_at bytes) line (line_within bytes) cc, words_within words lines cc)

pick : {X : Type 0} (P : X → Type 0) (d : X) (o : Option X) (xs : List X) → IfSome o P → P d → ((d : X) → P d → P (last_or d xs)) → P (last_or d (cons_option o xs))
pick P d None xs h start more = more d start
pick P d (Some x) xs h start more = more x h

last_within : {X : Type 0} (P : X → Type 0) (read : Line → Option X) (own : (line : Line) → LineWithin line → IfSome (read line) P) (lines : List Line) → AllWithin lines → (d : X) → P d
    → P (last_or d (filter_map read lines))
last_within P read own [] w d h = h
last_within P read own (line ∷ lines) w d h = pick P d (read line) (filter_map read lines) (own line w.0) h (λ e. last_within P read own lines w.1 e)

and_true : (a b : Bool) → a ≡ true → b ≡ true → (a && b) ≡ true
and_true a b h k = rw (h, k) refl

-- ---- order

host_last : (k : ℕ) (next : Place) → may_follow (place.Host k) next ≡ true → 9 ≤ rank_of next
host_last k place.Start h = cc
host_last k place.Page h = cc
host_last k place.Trace h = cc
host_last k place.Policy h = cc
host_last k place.Fuel h = cc
host_last k place.Until h = cc
host_last k place.Refresh h = cc
host_last k place.Late h = cc
host_last k place.Room h = cc
host_last k (place.Host l) h = omega arith
host_last k (place.At t) h = omega arith

arrival_last : (t : ℕ) (next : Place) → may_follow (place.At t) next ≡ true → 10 ≤ rank_of next
arrival_last t place.Start h = cc
arrival_last t place.Page h = cc
arrival_last t place.Trace h = cc
arrival_last t place.Policy h = cc
arrival_last t place.Fuel h = cc
arrival_last t place.Until h = cc
arrival_last t place.Refresh h = cc
arrival_last t place.Late h = cc
arrival_last t place.Room h = cc
arrival_last t (place.Host l) h = cc
arrival_last t (place.At u) h = omega arith

-- what may come behind a place
abbrev Rises : Place → List Latency → Type 0
Rises (place.Host k) hosts = is_below k hosts ≡ true
Rises (place.At t) hosts = hosts ≡ []
Rises other hosts = Unit {0}

abbrev Comes : Place → List Arrival → Type 0
Comes (place.At t) arrivals = is_not_after t arrivals ≡ true
Comes other arrivals = Unit {0}

early : (last next : Place) (hosts : List Latency) → may_follow last next ≡ true → rank_of next ≤ 8 → Rises last hosts
early (place.Host k) next hosts h le = absurd (omega (arith, host_last k next h))
early (place.At t) next hosts h le = absurd (omega (arith, arrival_last t next h))
early place.Start next hosts h le = tt
early place.Page next hosts h le = tt
early place.Trace next hosts h le = tt
early place.Policy next hosts h le = tt
early place.Fuel next hosts h le = tt
early place.Until next hosts h le = tt
early place.Refresh next hosts h le = tt
early place.Late next hosts h le = tt
early place.Room next hosts h le = tt

not_yet : (last next : Place) (arrivals : List Arrival) → may_follow last next ≡ true → rank_of next ≤ 9 → Comes last arrivals
not_yet (place.At t) next arrivals h le = absurd (omega (arith, arrival_last t next h))
not_yet (place.Host k) next arrivals h le = tt
not_yet place.Start next arrivals h le = tt
not_yet place.Page next arrivals h le = tt
not_yet place.Trace next arrivals h le = tt
not_yet place.Policy next arrivals h le = tt
not_yet place.Fuel next arrivals h le = tt
not_yet place.Until next arrivals h le = tt
not_yet place.Refresh next arrivals h le = tt
not_yet place.Late next arrivals h le = tt
not_yet place.Room next arrivals h le = tt

host_rises : (last : Place) (host : Latency) (hosts : List Latency) → may_follow last (place.Host host.closure) ≡ true → Rises last (host ∷ hosts)
host_rises (place.Host k) host hosts h = h
host_rises (place.At t) host hosts h = cc
host_rises place.Start host hosts h = tt
host_rises place.Page host hosts h = tt
host_rises place.Trace host hosts h = tt
host_rises place.Policy host hosts h = tt
host_rises place.Fuel host hosts h = tt
host_rises place.Until host hosts h = tt
host_rises place.Refresh host hosts h = tt
host_rises place.Late host hosts h = tt
host_rises place.Room host hosts h = tt

no_more_hosts : (last : Place) (hosts : List Latency) → hosts ≡ [] → Rises last hosts
no_more_hosts (place.Host k) hosts h = ap (is_below k) h
no_more_hosts (place.At t) hosts h = h
no_more_hosts place.Start hosts h = tt
no_more_hosts place.Page hosts h = tt
no_more_hosts place.Trace hosts h = tt
no_more_hosts place.Policy hosts h = tt
no_more_hosts place.Fuel hosts h = tt
no_more_hosts place.Until hosts h = tt
no_more_hosts place.Refresh hosts h = tt
no_more_hosts place.Late hosts h = tt
no_more_hosts place.Room hosts h = tt

arrival_comes : (last : Place) (a : Arrival) (arrivals : List Arrival) → may_follow last (place.At a.at) ≡ true → Comes last (a ∷ arrivals)
arrival_comes (place.At t) a arrivals h = h
arrival_comes (place.Host k) a arrivals h = tt
arrival_comes place.Start a arrivals h = tt
arrival_comes place.Page a arrivals h = tt
arrival_comes place.Trace a arrivals h = tt
arrival_comes place.Policy a arrivals h = tt
arrival_comes place.Fuel a arrivals h = tt
arrival_comes place.Until a arrivals h = tt
arrival_comes place.Refresh a arrivals h = tt
arrival_comes place.Late a arrivals h = tt
arrival_comes place.Room a arrivals h = tt

nothing_comes : (last : Place) → Comes last []
nothing_comes (place.At t) = refl
nothing_comes place.Start = tt
nothing_comes place.Page = tt
nothing_comes place.Trace = tt
nothing_comes place.Policy = tt
nothing_comes place.Fuel = tt
nothing_comes place.Until = tt
nothing_comes place.Refresh = tt
nothing_comes place.Late = tt
nothing_comes place.Room = tt
nothing_comes (place.Host k) = tt

record Ordered (last : Place) (lines : List Line) : Type 0 where
  pub latencies : are_latencies (filter_map latency_in lines) ≡ true
  pub rises : Rises last (filter_map latency_in lines)
  pub arrivals : are_arrivals (filter_map arrival_in lines) ≡ true
  pub in_order : are_in_order (filter_map arrival_in lines) ≡ true
  pub comes : Comes last (filter_map arrival_in lines)

both : (a b : Bool) → (a && b) ≡ true → (a ≡ true) × (b ≡ true)
both true b h = (refl, h)
both false b h = cc

no_order : (last : Place) → Ordered last []
no_order last = record { latencies = refl; rises = no_more_hosts last [] refl; arrivals = refl; in_order = refl; comes = nothing_comes last }

-- a line that is no host and no arrival
other_line : (last : Place) (line : Line) (lines : List Line) → filter_map latency_in (line ∷ lines) ≡ filter_map latency_in lines → filter_map arrival_in (line ∷ lines) ≡ filter_map arrival_in lines
    → rank_of (place_of line) ≤ 8 → may_follow last (place_of line) ≡ true → Ordered (place_of line) lines → Ordered last (line ∷ lines)
other_line last line lines hosts arrivals le h rest = record {
  latencies = ap are_latencies hosts ∙ rest.latencies;
  rises = early last (place_of line) (filter_map latency_in (line ∷ lines)) h le;
  arrivals = ap are_arrivals arrivals ∙ rest.arrivals;
  in_order = ap are_in_order arrivals ∙ rest.in_order;
  comes = not_yet last (place_of line) (filter_map arrival_in (line ∷ lines)) h (omega arith);
}

ordered_step : (last : Place) (line : Line) (lines : List Line) → LineWithin line → may_follow last (place_of line) ≡ true → Ordered (place_of line) lines → Ordered last (line ∷ lines)
ordered_step last (PageLine n) lines w h rest = other_line last (PageLine n) lines refl refl (omega arith) h rest
ordered_step last TraceLine lines w h rest = other_line last TraceLine lines refl refl (omega arith) h rest
ordered_step last (PolicyLine p) lines w h rest = other_line last (PolicyLine p) lines refl refl (omega arith) h rest
ordered_step last (FuelLine n) lines w h rest = other_line last (FuelLine n) lines refl refl (omega arith) h rest
ordered_step last (UntilLine n) lines w h rest = other_line last (UntilLine n) lines refl refl (omega arith) h rest
ordered_step last (RefreshLine n) lines w h rest = other_line last (RefreshLine n) lines refl refl (omega arith) h rest
ordered_step last (LateLine late) lines w h rest = other_line last (LateLine late) lines refl refl (omega arith) h rest
ordered_step last (RoomLine n) lines w h rest = other_line last (RoomLine n) lines refl refl (omega arith) h rest
ordered_step last (HostLine host) lines w h rest = record {
  latencies = and_true _ _ w (and_true _ _ rest.rises rest.latencies);
  rises = host_rises last host (filter_map latency_in lines) h;
  arrivals = rest.arrivals;
  in_order = rest.in_order;
  comes = not_yet last (place.Host host.closure) (filter_map arrival_in lines) h (omega arith);
}
ordered_step last (ArrivalLine a) lines w h rest = record {
  latencies = rest.latencies;
  rises = no_more_hosts last (filter_map latency_in lines) rest.rises;
  arrivals = and_true _ _ w rest.arrivals;
  in_order = and_true _ _ rest.comes rest.in_order;
  comes = arrival_comes last a (filter_map arrival_in lines) h;
}

ordered : (last : Place) (lines : List Line) → AllWithin lines → follow last lines ≡ true → Ordered last lines
ordered last [] w h = no_order last
ordered last (line ∷ lines) w h =
    let parts = both (may_follow last (place_of line)) (follow (place_of line) lines) h in
    ordered_step last line lines w.0 parts.0 (ordered (place_of line) lines w.1 parts.1)

-- ---- the settings

form_own : (line : Line) → LineWithin line → IfSome (form_in line) (λ n. (1 ≤ n) × (n ≤ 2))
form_own (PageLine n) w = w
form_own TraceLine w = tt
form_own (PolicyLine p) w = tt
form_own (FuelLine n) w = tt
form_own (UntilLine n) w = tt
form_own (RefreshLine n) w = tt
form_own (LateLine late) w = tt
form_own (RoomLine n) w = tt
form_own (HostLine host) w = tt
form_own (ArrivalLine a) w = tt

trace_own : (line : Line) → LineWithin line → IfSome (trace_in line) (λ n. (1 ≤ n) × (n ≤ 2))
trace_own (PageLine n) w = tt
trace_own TraceLine w = (omega arith, omega arith)
trace_own (PolicyLine p) w = tt
trace_own (FuelLine n) w = tt
trace_own (UntilLine n) w = tt
trace_own (RefreshLine n) w = tt
trace_own (LateLine late) w = tt
trace_own (RoomLine n) w = tt
trace_own (HostLine host) w = tt
trace_own (ArrivalLine a) w = tt

policy_own : (line : Line) → LineWithin line → IfSome (policy_in line) (λ policy. is_policy policy ≡ true)
policy_own (PageLine n) w = tt
policy_own TraceLine w = tt
policy_own (PolicyLine p) w = w
policy_own (FuelLine n) w = tt
policy_own (UntilLine n) w = tt
policy_own (RefreshLine n) w = tt
policy_own (LateLine late) w = tt
policy_own (RoomLine n) w = tt
policy_own (HostLine host) w = tt
policy_own (ArrivalLine a) w = tt

fuel_own : (line : Line) → LineWithin line → IfSome (fuel_in line) (λ n. (1 ≤ n) × (n ≤ 10000000))
fuel_own (PageLine n) w = tt
fuel_own TraceLine w = tt
fuel_own (PolicyLine p) w = tt
fuel_own (FuelLine n) w = w
fuel_own (UntilLine n) w = tt
fuel_own (RefreshLine n) w = tt
fuel_own (LateLine late) w = tt
fuel_own (RoomLine n) w = tt
fuel_own (HostLine host) w = tt
fuel_own (ArrivalLine a) w = tt

until_own : (line : Line) → LineWithin line → IfSome (until_in line) (λ n. (1 ≤ n) × (n ≤ 1000000000000))
until_own (PageLine n) w = tt
until_own TraceLine w = tt
until_own (PolicyLine p) w = tt
until_own (FuelLine n) w = tt
until_own (UntilLine n) w = w
until_own (RefreshLine n) w = tt
until_own (LateLine late) w = tt
until_own (RoomLine n) w = tt
until_own (HostLine host) w = tt
until_own (ArrivalLine a) w = tt

refresh_own : (line : Line) → LineWithin line → IfSome (refresh_in line) (λ n. (1 ≤ n) × (n ≤ 240))
refresh_own (PageLine n) w = tt
refresh_own TraceLine w = tt
refresh_own (PolicyLine p) w = tt
refresh_own (FuelLine n) w = tt
refresh_own (UntilLine n) w = tt
refresh_own (RefreshLine n) w = w
refresh_own (LateLine late) w = tt
refresh_own (RoomLine n) w = tt
refresh_own (HostLine host) w = tt
refresh_own (ArrivalLine a) w = tt

late_own : (line : Line) → LineWithin line → IfSome (late_in line) AreShort
late_own (PageLine n) w = tt
late_own TraceLine w = tt
late_own (PolicyLine p) w = tt
late_own (FuelLine n) w = tt
late_own (UntilLine n) w = tt
late_own (RefreshLine n) w = tt
late_own (LateLine late) w = w
late_own (RoomLine n) w = tt
late_own (HostLine host) w = tt
late_own (ArrivalLine a) w = tt

room_own : (line : Line) → LineWithin line → IfSome (room_in line) (λ n. n ≤ 1000000)
room_own (PageLine n) w = tt
room_own TraceLine w = tt
room_own (PolicyLine p) w = tt
room_own (FuelLine n) w = tt
room_own (UntilLine n) w = tt
room_own (RefreshLine n) w = tt
room_own (LateLine late) w = tt
room_own (RoomLine n) w = w
room_own (HostLine host) w = tt
room_own (ArrivalLine a) w = tt

lines_within : (lines : List Line) → AllWithin lines → follow place.Start lines ≡ true → IsWithin (settings_after default_settings lines)
lines_within lines w h =
    let order = ordered place.Start lines w h in
    record {
      has_form = last_within (λ n. (1 ≤ n) × (n ≤ 2)) form_in form_own lines w 1 (omega arith, omega arith);
      has_trace = last_within (λ n. (1 ≤ n) × (n ≤ 2)) trace_in trace_own lines w 1 (omega arith, omega arith);
      is_policy = last_within (λ policy. is_policy policy ≡ true) policy_in policy_own lines w _ refl;
      has_fuel = last_within (λ n. (1 ≤ n) × (n ≤ 10000000)) fuel_in fuel_own lines w 1000000 (omega arith, omega arith);
      has_end = last_within (λ n. (1 ≤ n) × (n ≤ 1000000000000)) until_in until_own lines w 10000000 (omega arith, omega arith);
      has_rate = last_within (λ n. (1 ≤ n) × (n ≤ 240)) refresh_in refresh_own lines w 60 (omega arith, omega arith);
      is_short = last_within AreShort late_in late_own lines w [] (All-nil (λ (n : ℕ). n ≤ 1000000));
      has_room = last_within (λ n. n ≤ 1000000) room_in room_own lines w 0 (omega arith);
      rises = order.latencies;
      arrives = order.arrivals;
      in_order = order.in_order;
    }

within_by : (s : Settings) (file : List (List ℕ)) (r : Result (List Line) ℕ) → goes place.Start file ≡ r → settled 0 default_settings r ≡ Ok s → IsWithin s
within_by s file (Ok lines) is e =
    let h = lines_read file place.Start lines is in
    let same : settings_after default_settings lines ≡ s = cc in
    subst IsWithin same (lines_within lines (words_within (filter says_something file) lines h.spells) h.in_order)
within_by s file (Err n) is e = cc

-- what a file sets is within the limits
pub page_within : (bytes : List ℕ) (s : Settings) → settled 0 default_settings (goes place.Start (lines_of bytes)) ≡ Ok s → IsWithin s
page_within bytes s e = within_by s (lines_of bytes) (goes place.Start (lines_of bytes)) refl e
