-- A file, line by line.
use Rattle.std.proofs.Common.{◌≡◌, ℕ, ◌+◌, true, false, cond, List, [], ◌∷◌, ◌++◌, Option, Some, None, Result, Ok, Err, refl, ap, sym, ◌∙◌, arith, append_assoc, append-nil}
use Rattle.std.specs.List.{filter_map}
use Rattle.std.proofs.lemmas.List.Elements.{filter_map-append}
use Rattle.arrivals_text.specs.Arrivals.{Line, Settings, settings_after, last_or, form_in, trace_in, policy_in, fuel_in, until_in, refresh_in, late_in, room_in, latency_in, arrival_in}
use Rattle.arrivals_text.specs.Reading.{step, last_place, is_start, further, goes, settled, IsTaken}
use Rattle.arrivals_text.specs.declared.place.Place.{Place}

last_or-append : {X : Type 0} (d : X) (xs ys : List X) → last_or d (xs ++ ys) ≡ last_or (last_or d xs) ys
last_or-append d [] ys = refl
last_or-append d (x ∷ xs) ys = last_or-append x xs ys

last_in : {X : Type 0} (read : Line → Option X) (d : X) (xs ys : List Line) → last_or d (filter_map read (xs ++ ys)) ≡ last_or (last_or d (filter_map read xs)) (filter_map read ys)
last_in read d xs ys = ap (last_or d) (filter_map-append read xs ys) ∙ last_or-append d (filter_map read xs) (filter_map read ys)

rows_in : {X : Type 0} (read : Line → Option X) (front : List X) (xs ys : List Line) → front ++ filter_map read (xs ++ ys) ≡ (front ++ filter_map read xs) ++ filter_map read ys
rows_in read front xs ys = ap (λ more. front ++ more) (filter_map-append read xs ys) ∙ sym (append_assoc front (filter_map read xs) (filter_map read ys))

pub after_both : (s : Settings) (xs ys : List Line) → settings_after s (xs ++ ys) ≡ settings_after (settings_after s xs) ys
after_both s xs ys =
    rw (
      last_in form_in s.setup.form xs ys,
      last_in trace_in s.setup.trace xs ys,
      last_in policy_in s.setup.policy xs ys,
      last_in fuel_in s.setup.fuel xs ys,
      last_in until_in s.setup.until xs ys,
      last_in refresh_in s.setup.refresh xs ys,
      last_in late_in s.setup.late xs ys,
      last_in room_in s.room xs ys,
      rows_in latency_in s.setup.latencies xs ys,
      rows_in arrival_in s.setup.arrivals xs ys,
    ) refl

settled_further : (n : ℕ) (s : Settings) (lines : List Line) (r : Result (List Line) ℕ) → settled n s (further lines r) ≡ settled (n + 1) (settings_after s lines) r
settled_further n s lines (Ok more) = ap Ok (after_both s lines more)
settled_further n s lines (Err good) = let e : n + (good + 1) + 1 ≡ n + 1 + good + 1 = omega arith in ap Err e

abbrev goes_on : Place → Option (List Line) → List (List ℕ) → Result (List Line) ℕ
goes_on last taken file = elim taken [ None ↦ Err 0 | Some lines ↦ further lines (goes (last_place last lines) file) ]

next_by : (n : ℕ) (last next : Place) (old new : Settings) (file : List (List ℕ)) (taken : Option (List Line)) → IsTaken taken last old (Some next) new
    → settled (n + 1) new (goes next file) ≡ settled n old (goes_on last taken file)
next_by n last next old new file None is = cc
next_by n last next old new file (Some lines) is =
    let there : next ≡ last_place last lines = let e = is.0 in cc in
    ap (λ p. settled (n + 1) new (goes p file)) there ∙ ap (λ s. settled (n + 1) s (goes (last_place last lines) file)) is.1 ∙ sym (settled_further n old lines (goes (last_place last lines) file))

-- a line was taken
pub goes_next : (n : ℕ) (last next : Place) (old new : Settings) (bytes : List ℕ) (file : List (List ℕ)) → IsTaken (step last bytes) last old (Some next) new
    → settled (n + 1) new (goes next file) ≡ settled n old (goes last (bytes ∷ file))
goes_next n last next old new bytes file is = next_by n last next old new file (step last bytes) is

stop_by : (n : ℕ) (last : Place) (old new : Settings) (file : List (List ℕ)) (taken : Option (List Line)) → IsTaken taken last old None new
    → settled n old (goes_on last taken file) ≡ Err (n + 1)
stop_by n last old new file None is = let e : n + 0 + 1 ≡ n + 1 = omega arith in ap Err e
stop_by n last old new file (Some lines) is = let e = is.0 in cc

-- a line was refused
pub goes_stop : (n : ℕ) (last : Place) (old new : Settings) (bytes : List ℕ) (file : List (List ℕ)) → IsTaken (step last bytes) last old None new
    → settled n old (goes last (bytes ∷ file)) ≡ Err (n + 1)
goes_stop n last old new bytes file is = stop_by n last old new file (step last bytes) is

pub goes_end : (n : ℕ) (last : Place) (s : Settings) → is_start last ≡ false → settled n s (goes last []) ≡ Ok s
goes_end n last s out = ap (λ b. settled n s (cond b (Err 0) (Ok []))) out ∙ rw (append-nil s.setup.latencies, append-nil s.setup.arrivals) refl

pub goes_nowhere : (n : ℕ) (last : Place) (s : Settings) → is_start last ≡ true → settled n s (goes last []) ≡ Err (n + 1)
goes_nowhere n last s out = let e : n + 0 + 1 ≡ n + 1 = omega arith in ap (λ b. settled n s (cond b (Err 0) (Ok []))) out ∙ ap Err e
