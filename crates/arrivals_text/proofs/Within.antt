-- What a file sets is within the limits.
use Rattle.std.proofs.Common.{◌≡◌, ℕ, ◌≤◌, ◌&&◌, ◌||◌, Bool, true, false, cond, List, [], ◌∷◌, length, map, find, Option, Some, None, refl, ap, arith, nat_le, All, codes}
use Rattle.std.specs.List.{list_any}
use Rattle.std.specs.Option.{option_map, IfSome}
use Rattle.std.proofs.lemmas.Bool.Decides.{nat_tests}
use Rattle.std.proofs.lemmas.List.Elements.{All-nil, All-cons}
use Rattle.page_types.specs.declared.Source.{Source}
use Rattle.page_types.specs.declared.Source.TheVariants.{User, Net, Dom, Timer, Render, Sched, Idle}
use Rattle.page_types.specs.Values.{Value, UnitValue, BoolValue, IntValue, TextValue}
use Rattle.page_parts.specs.Words.{is_empty}
use Rattle.page_parts.specs.Setup.{Policy, Fifo, Rank, Fair, Latency, Arrival}
use Rattle.page_parts.specs.Sources.{same_source}
use Rattle.page_parts.specs.TraceText.{source_text}
use Rattle.page_base.specs.Decimals.{number_at, number_of, digits_of, is_canonical, after_digits}
use Rattle.page_base.specs.Readings.{AreShort}
use Rattle.page_values.specs.Names.{is_name}
use Rattle.loop_policy.specs.Policies.{is_policy, lists_each}
use Rattle.page_base.specs.Fields.{◌>>=◌, where_true, read_or, behind, is_word, cut_at}
use Rattle.arrivals_text.specs.Fields.{all_of, words_of, number_in, source_among, sources_at, rank_at, fair_at, policy_at, late_at, latency_at, text_at, parts_at, int_at, value_at, arrival_at}
use Rattle.arrivals_text.specs.Arrivals.{Line, PageLine, TraceLine, PolicyLine, FuelLine, UntilLine, RefreshLine, LateLine, RoomLine, HostLine, ArrivalLine, line_at}
use Rattle.arrivals_text.specs.Limits.{may_arrive, is_arrival}

-- ---- what holds of an answer, where there is one

if_cond : {X : Type 0} (P : X → Type 0) (b : Bool) (x y : Option X) → IfSome x P → IfSome y P → IfSome (cond b x y) P
if_cond P true x y h k = h
if_cond P false x y h k = k

if_else : {X : Type 0} (P : X → Type 0) (o : Option (List ℕ)) (read : List ℕ → Option X) (other : Option X) → ((rest : List ℕ) → IfSome (read rest) P) → IfSome other P → IfSome (read_or o read other) P
if_else P None read other h k = k
if_else P (Some rest) read other h k = h rest

if_map : {X Y : Type 0} (Q : X → Type 0) (P : Y → Type 0) (f : X → Y) (o : Option X) → ((x : X) → Q x → P (f x)) → IfSome o Q → IfSome (option_map f o) P
if_map Q P f None h k = k
if_map Q P f (Some x) h k = h x k

if_then : {X Y : Type 0} (Q : X → Type 0) (P : Y → Type 0) (o : Option X) (next : X → Option Y) → IfSome o Q → ((x : X) → Q x → IfSome (next x) P) → IfSome (o >>= next) P
if_then Q P None next h k = h
if_then Q P (Some x) next h k = k x h

if_where : {X : Type 0} (P : X → Type 0) (b : Bool) (x : X) → (b ≡ true → P x) → IfSome (where_true b x) P
if_where P true x h = h refl
if_where P false x h = tt

abbrev Any : {X : Type 0} → X → Type 0
Any x = Unit {0}

any : {X : Type 0} (o : Option X) → IfSome o Any
any None = tt
any (Some x) = tt

all_front : {X : Type 0} → Option X → Option (List X) → Option (List X)
all_front None more = None
all_front (Some x) more = option_map (λ xs. x ∷ xs) more

all_of_first : {X : Type 0} (o : Option X) (answers : List (Option X)) (P : List X → Type 0) → IfSome (all_front o (all_of answers)) P → IfSome (all_of (o ∷ answers)) P
unfolding all_front
all_of_first None answers P h = h
all_of_first (Some x) answers P h = h

if_front : {X : Type 0} (P : X → Type 0) (o : Option X) (more : Option (List X)) → IfSome o P → IfSome more (All P) → IfSome (all_front o more) (All P)
unfolding all_front
if_front P None more h k = tt
if_front P (Some x) None h k = tt
if_front P (Some x) (Some xs) h k = All-cons P x xs h k

if_all : {X : Type 0} (P : X → Type 0) (read : List ℕ → Option X) (words : List (List ℕ)) → ((word : List ℕ) → IfSome (read word) P) → IfSome (all_of (map read words)) (All P)
if_all P read [] h = All-nil P
if_all P read (word ∷ words) h = all_of_first (read word) (map read words) (All P) (if_front P (read word) (all_of (map read words)) (h word) (if_all P read words h))

-- ---- fields

at_most : (most n : ℕ) (b : Bool) → nat_le n most ≡ b → (c : Bool) → IfSome (cond (c && b) (Some n) None) (λ n. n ≤ most)
at_most most n true is true = grind (arith, nat_tests)
at_most most n true is false = tt
at_most most n false is true = tt
at_most most n false is false = tt

within_most : (most n : ℕ) (b : Bool) → IfSome (cond (b && nat_le n most) (Some n) None) (λ n. n ≤ most)
within_most most n b = at_most most n (nat_le n most) refl b

low_of : (b : Bool) (low n : ℕ) → (b && nat_le low n) ≡ true → low ≤ n
low_of true low n h = grind (arith, nat_tests)
low_of false low n h = cc

either : (a b : Bool) → b ≡ true → (a || b) ≡ true
either true b h = refl
either false b h = h

few : (n : ℕ) → 1 ≤ n → n ≤ 1000 → (nat_le 1 n && nat_le n 1000) ≡ true
few n h k = grind (arith, nat_tests)

short : (o : Option ℕ) → IfSome o (λ n. (0 ≤ n) × (n ≤ 1000000)) → IfSome o (λ n. n ≤ 1000000)
short None h = tt
short (Some n) h = h.1

both_small : (a b : ℕ) → a ≤ 4095 → b ≤ 1000000000 → (nat_le a 4095 && nat_le b 1000000000) ≡ true
both_small a b h k = grind (arith, nat_tests)

all_four : (a b c d : Bool) → a ≡ true → b ≡ true → c ≡ true → d ≡ true → ((a && b) && (c && d)) ≡ true
all_four a b c d e f g h = rw (e, f, g, h) refl

not_late : (t : ℕ) → t ≤ 1000000000000 → nat_le t 1000000000000 ≡ true
not_late t h = grind (arith, nat_tests)

four : (at : ℕ) (source : Source) (name : List ℕ) (value : Value) → at ≤ 1000000000000 → list_any (same_source source) (User ∷ Net ∷ Dom ∷ []) ≡ true → is_name name ≡ true → may_arrive value ≡ true
    → is_arrival (record { at = at; source = source; name = name; value = value }) ≡ true
four at source name value small among named fits = all_four _ _ _ _ (not_late at small) among named fits

numbers_within : (low high : ℕ) (bytes : List ℕ) → IfSome (number_in low high bytes) (λ n. (low ≤ n) × (n ≤ high))
unfolding number_in
numbers_within low high bytes =
    if_then (λ n. n ≤ high) (λ n. (low ≤ n) × (n ≤ high)) (number_at high bytes) (λ n. where_true (is_empty (after_digits bytes) && nat_le low n) n)
    (within_most high (number_of (digits_of bytes)) (is_canonical (digits_of bytes)))
    (λ n le. if_where (λ n. (low ≤ n) × (n ≤ high)) (is_empty (after_digits bytes) && nat_le low n) n (λ t. (low_of (is_empty (after_digits bytes)) low n t, le)))

same_self : (s : Source) → same_source s s ≡ true
same_self User = refl
same_self Net = refl
same_self Dom = refl
same_self Timer = refl
same_self Render = refl
same_self Sched = refl
same_self Idle = refl

found_more : (s x : Source) (xs : List Source) → list_any (same_source s) xs ≡ true → list_any (same_source s) (x ∷ xs) ≡ true
found_more s x xs h = either (same_source s x) (list_any (same_source s) xs) h

found_first : (s : Source) (xs : List Source) → list_any (same_source s) (s ∷ xs) ≡ true
found_first s xs = ap (λ b. b || list_any (same_source s) xs) (same_self s)

weaken : (o : Option Source) (x : Source) (xs : List Source) → IfSome o (λ s. list_any (same_source s) xs ≡ true) → IfSome o (λ s. list_any (same_source s) (x ∷ xs) ≡ true)
weaken None x xs h = tt
weaken (Some s) x xs h = found_more s x xs h

source_step : (test : Source → Bool) (x : Source) (xs : List Source) (b : Bool) → IfSome (find test xs) (λ s. list_any (same_source s) xs ≡ true)
    → IfSome (cond b (Some x) (find test xs)) (λ s. list_any (same_source s) (x ∷ xs) ≡ true)
source_step test x xs true h = found_first x xs
source_step test x xs false h = weaken (find test xs) x xs h

sources_within : (test : Source → Bool) (xs : List Source) → IfSome (find test xs) (λ s. list_any (same_source s) xs ≡ true)
sources_within test [] = tt
sources_within test (x ∷ xs) = source_step test x xs (test x) (sources_within test xs)

source_within : (sources : List Source) (word : List ℕ) → IfSome (source_among sources word) (λ s. list_any (same_source s) sources ≡ true)
unfolding source_among
source_within sources word = sources_within (λ s. is_word (source_text (Some s)) word) sources

-- ---- lines

policy_within : (bytes : List ℕ) → IfSome (policy_at bytes) (λ policy. is_policy policy ≡ true)
unfolding policy_at fair_at rank_at
policy_within bytes =
    let P : Policy → Type 0 = λ policy. is_policy policy ≡ true in
    if_cond P (is_word (codes "fifo") bytes) (Some Fifo) _ refl
    (if_else P (behind (codes "fair ") bytes) fair_at _
    (λ rest. if_map (λ n. (1 ≤ n) × (n ≤ 1000)) P Fair (number_in 1 1000 rest) (λ n h. few n h.0 h.1) (numbers_within 1 1000 rest))
    (if_else P (behind (codes "rank ") bytes) rank_at None
    (λ rest. if_then Any P (sources_at rest) (λ sources. where_true (lists_each sources) (Rank sources)) (any (sources_at rest)) (λ sources h. if_where P (lists_each sources) (Rank sources) (λ t. t)))
    tt))

late_within : (bytes : List ℕ) → IfSome (late_at bytes) AreShort
unfolding late_at
late_within bytes = if_all (λ n. n ≤ 1000000) (number_in 0 1000000) (words_of bytes) (λ word. short (number_in 0 1000000 word) (numbers_within 0 1000000 word))

latency_within : (bytes : List ℕ) → IfSome (latency_at bytes) (λ host. (nat_le host.closure 4095 && nat_le host.latency 1000000000) ≡ true)
unfolding latency_at
latency_within bytes =
    let P : Latency → Type 0 = λ host. (nat_le host.closure 4095 && nat_le host.latency 1000000000) ≡ true in
    if_then Any P (cut_at 32 bytes) _ (any (cut_at 32 bytes)) (λ word t.
    if_then (λ n. (0 ≤ n) × (n ≤ 4095)) P (number_in 0 4095 word.0) _ (numbers_within 0 4095 word.0) (λ closure small.
    if_then (λ n. (0 ≤ n) × (n ≤ 1000000000)) P (number_in 0 1000000000 word.1) _ (numbers_within 0 1000000000 word.1) (λ latency low. both_small closure latency small.1 low.1)))

text_within : (bytes : List ℕ) → IfSome (text_at bytes) (λ text. nat_le (length text) 65535 ≡ true)
unfolding text_at
text_within bytes = if_then Any (λ text. nat_le (length text) 65535 ≡ true) (parts_at bytes) _ (any (parts_at bytes)) (λ text t. if_where (λ text. nat_le (length text) 65535 ≡ true) (nat_le (length text) 65535) text (λ h. h))

value_within : (bytes : List ℕ) → IfSome (value_at bytes) (λ value. may_arrive value ≡ true)
unfolding value_at
value_within bytes =
    let P : Value → Type 0 = λ value. may_arrive value ≡ true in
    if_cond P (is_word (codes "unit") bytes) (Some UnitValue) _ refl
    (if_cond P (is_word (codes "true") bytes) (Some (BoolValue true)) _ refl
    (if_cond P (is_word (codes "false") bytes) (Some (BoolValue false)) _ refl
    (if_else P (behind (codes "\"") bytes) (λ parts. option_map TextValue (text_at parts)) (option_map IntValue (int_at bytes))
    (λ parts. if_map (λ text. nat_le (length text) 65535 ≡ true) P TextValue (text_at parts) (λ text h. h) (text_within parts))
    (if_map Any P IntValue (int_at bytes) (λ n h. refl) (any (int_at bytes))))))

arrival_within : (bytes : List ℕ) → IfSome (arrival_at bytes) (λ a. is_arrival a ≡ true)
unfolding arrival_at
arrival_within bytes =
    let P : Arrival → Type 0 = λ a. is_arrival a ≡ true in
    if_then Any P (cut_at 32 bytes) _ (any (cut_at 32 bytes)) (λ time t1.
    if_then (λ n. (0 ≤ n) × (n ≤ 1000000000000)) P (number_in 0 1000000000000 time.0) _ (numbers_within 0 1000000000000 time.0) (λ at small.
    if_then Any P (cut_at 32 time.1) _ (any (cut_at 32 time.1)) (λ word t2.
    if_then (λ s. list_any (same_source s) (User ∷ Net ∷ Dom ∷ []) ≡ true) P (source_among (User ∷ Net ∷ Dom ∷ []) word.0) _ (source_within (User ∷ Net ∷ Dom ∷ []) word.0) (λ source among.
    if_then Any P (cut_at 32 word.1) _ (any (cut_at 32 word.1)) (λ name t3.
    if_then (λ n. is_name n ≡ true) P (where_true (is_name name.0) name.0) _ (if_where (λ n. is_name n ≡ true) (is_name name.0) name.0 (λ h. h)) (λ named is.
    if_then (λ v. may_arrive v ≡ true) P (value_at name.1) _ (value_within name.1) (λ value fits. four at source named value small.1 among is fits)))))))

-- a line within the limits
abbrev pub LineWithin : Line → Type 0
LineWithin (PageLine n) = (1 ≤ n) × (n ≤ 2)
LineWithin TraceLine = Unit {0}
LineWithin (PolicyLine policy) = is_policy policy ≡ true
LineWithin (FuelLine n) = (1 ≤ n) × (n ≤ 10000000)
LineWithin (UntilLine n) = (1 ≤ n) × (n ≤ 1000000000000)
LineWithin (RefreshLine n) = (1 ≤ n) × (n ≤ 240)
LineWithin (LateLine late) = AreShort late
LineWithin (RoomLine n) = n ≤ 1000000
LineWithin (HostLine host) = (nat_le host.closure 4095 && nat_le host.latency 1000000000) ≡ true
LineWithin (ArrivalLine a) = is_arrival a ≡ true

pub line_within : (bytes : List ℕ) → IfSome (line_at bytes) LineWithin
unfolding line_at
line_within bytes =
    if_else LineWithin (behind (codes "page ") bytes) _ _ (λ rest. if_map (λ n. (1 ≤ n) × (n ≤ 2)) LineWithin PageLine (number_in 1 2 rest) (λ x h. h) (numbers_within 1 2 rest))
    (if_cond LineWithin (is_word (codes "trace 2") bytes) (Some TraceLine) _ tt
    (if_else LineWithin (behind (codes "policy ") bytes) _ _ (λ rest. if_map (λ policy. is_policy policy ≡ true) LineWithin PolicyLine (policy_at rest) (λ x h. h) (policy_within rest))
    (if_else LineWithin (behind (codes "fuel ") bytes) _ _ (λ rest. if_map (λ n. (1 ≤ n) × (n ≤ 10000000)) LineWithin FuelLine (number_in 1 10000000 rest) (λ x h. h) (numbers_within 1 10000000 rest))
    (if_else LineWithin (behind (codes "until ") bytes) _ _ (λ rest. if_map (λ n. (1 ≤ n) × (n ≤ 1000000000000)) LineWithin UntilLine (number_in 1 1000000000000 rest) (λ x h. h) (numbers_within 1 1000000000000 rest))
    (if_else LineWithin (behind (codes "refresh ") bytes) _ _ (λ rest. if_map (λ n. (1 ≤ n) × (n ≤ 240)) LineWithin RefreshLine (number_in 1 240 rest) (λ x h. h) (numbers_within 1 240 rest))
    (if_else LineWithin (behind (codes "late ") bytes) _ _ (λ rest. if_map AreShort LineWithin LateLine (late_at rest) (λ x h. h) (late_within rest))
    (if_else LineWithin (behind (codes "room ") bytes) _ _ (λ rest. if_map (λ n. (0 ≤ n) × (n ≤ 1000000)) LineWithin RoomLine (number_in 0 1000000 rest) (λ x h. h.1) (numbers_within 0 1000000 rest))
    (if_else LineWithin (behind (codes "host ") bytes) _ _ (λ rest. if_map (λ host. (nat_le host.closure 4095 && nat_le host.latency 1000000000) ≡ true) LineWithin HostLine (latency_at rest) (λ x h. h) (latency_within rest))
    (if_else LineWithin (behind (codes "at ") bytes) _ None (λ rest. if_map (λ a. is_arrival a ≡ true) LineWithin ArrivalLine (arrival_at rest) (λ x h. h) (arrival_within rest)) tt)))))))))
