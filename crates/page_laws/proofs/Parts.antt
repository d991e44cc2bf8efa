-- The law of timers and that of how runs end hold where all their parts hold.
use Rattle.std.proofs.Common.{◌≡◌, ℕ, Bool, true, false, not, ◌&&◌, ◌||◌, List, [], ◌∷◌, Option, Some, None, refl, ap, cond, filter, nat_le, ◌-◌}
use Rattle.std.specs.List.{list_all}
use Rattle.std.specs.Prelude.{◌==◌}
use Rattle.page_types.specs.declared.RegKind.{RegKind}
use Rattle.page_types.specs.declared.RegKind.TheVariants as kind
use Rattle.page_types.specs.declared.End.TheVariants.{Done, Clock, Fuel}
use Rattle.page_types.specs.Events.{Event, Arm, Call, Due, Turn, Run, EndLine, Stamped}
use Rattle.page_laws.specs.History.{History, each_line, has_kind, is_frame, is_idle, is_some_and, is_timer, kind_of, registered, was_dropped}
use Rattle.page_laws.specs.SchedulerLaws.{EndParts, EndsTruly, armed_ever, at_done, continuations_are_over, frames_are_over, hosts_have_answered, idles_are_over, intervals_are_over, is_interval, is_micro, is_over_as, is_posted, is_timeout, is_yield, keeps_arms_due, keeps_end, keeps_limits, micros_are_over, posts_are_over, timeouts_are_over, was_each_due}
use Rattle.page_laws.specs.TimerLaws.{TimerParts, TimersInOrder, has_no_level, is_delay, keeps_clamps, keeps_due, keeps_due_order, keeps_firing, keeps_levels, keeps_timers, level_due, was_done}
use Rattle.page_laws.proofs.Framed.{false_true}
use Rattle.page_laws.proofs.Scans.{Test}

left : (a b : Bool) → a && b ≡ true → a ≡ true
left true b h = refl
left false b h = h

right : (a b : Bool) → a && b ≡ true → b ≡ true
right true b h = h
right false b h = absurd (false_true h)

both : (a b : Bool) → a ≡ true → b ≡ true → a && b ≡ true
both true b x y = y
both false b x y = x

-- a line that passes two tests passes a third, and so do all
each-two : (s t u : Test) → ((past : History) (e : Stamped) → s past e ≡ true → t past e ≡ true → u past e ≡ true) → (past : History) (es : List Stamped) → each_line s past es ≡ true → each_line t past es ≡ true → each_line u past es ≡ true
each-two s t u h past [] a b = refl
each-two s t u h past (e ∷ es) a b =
    both (u past e) (each_line u (e ∷ past) es) (h past e (left (s past e) _ a) (left (t past e) _ b)) (each-two s t u h (e ∷ past) es (right (s past e) _ a) (right (t past e) _ b))

-- both tests
two : Test → Test → Test
two s t past e = s past e && t past e

join : (s t : Test) (es : List Stamped) → each_line s [] es ≡ true → each_line t [] es ≡ true → each_line (two s t) [] es ≡ true
unfolding two
join s t es a b = each-two s t (two s t) (λ past e x y. both (s past e) (t past e) x y) [] es a b

-- ---- timers

timers-line : (form : ℕ) (past : History) (now : ℕ) (e : Event) → keeps_due past now e ≡ true → keeps_due_order past e ≡ true → keeps_firing past e ≡ true → keeps_clamps past now e ≡ true → keeps_levels form past e ≡ true → keeps_timers form past now e ≡ true
timers-line form past now (Arm r due level) a b c d l = by_kind (has_kind is_timer past r) refl d l
  where
    by_kind : (t : Bool) → has_kind is_timer past r ≡ t → cond t (nat_le now due && is_delay (due - now) level) (not (has_kind has_no_level past r) || (level == 0)) ≡ true → not t || is_some_and (λ n. n == level) (level_due form past r) ≡ true
        → cond t (is_some_and (λ n. n == level) (level_due form past r) && nat_le now due && is_delay (due - now) level) (not (has_kind has_no_level past r) || (level == 0)) ≡ true
    by_kind true e d l =
        both (is_some_and (λ n. n == level) (level_due form past r) && nat_le now due) (is_delay (due - now) level)
        (both (is_some_and (λ n. n == level) (level_due form past r)) (nat_le now due) l (left (nat_le now due) (is_delay (due - now) level) d)) (right (nat_le now due) (is_delay (due - now) level) d)
    by_kind false e d l = d
timers-line form past now (Due r) a b c d l = both _ _ a b
timers-line form past now (Call r) a b c d l = c
timers-line form past now e a b c d l = refl

pub timers_by_parts : (form : ℕ) (es : List Stamped) → TimerParts form es → TimersInOrder form es
unfolding two
timers_by_parts form es p =
    let due : Test = λ past e. keeps_due past e.time e.event in
    let order : Test = λ past e. keeps_due_order past e.event in
    let firing : Test = λ past e. keeps_firing past e.event in
    let clamps : Test = λ past e. keeps_clamps past e.time e.event in
    let levels : Test = λ past e. keeps_levels form past e.event in
    each-two (two due order) (two firing (two clamps levels)) (λ past e. keeps_timers form past e.time e.event)
    (λ past e x y.
    let z = right (firing past e) (clamps past e && levels past e) y in
    timers-line form past e.time e.event (left (due past e) (order past e) x) (right (due past e) (order past e) x) (left (firing past e) (clamps past e && levels past e) y) (left (clamps past e) (levels past e) z) (right (clamps past e) (levels past e) z))
    [] es (join due order es p.armed p.order) (join firing (two clamps levels) es p.firing (join clamps levels es p.clamps p.levels))

-- ---- how runs end

-- what is asked of those that pass a test is asked of the first, where it passes
head-of : (f test : ℕ → Bool) (r : ℕ) (rs : List ℕ) → list_all test (filter f (r ∷ rs)) ≡ true → f r ≡ true → test r ≡ true
head-of f test r rs h e = left (test r) (list_all test (filter f rs)) (by_test (f r) e h)
  where
    by_test : (b : Bool) → b ≡ true → list_all test (cond b (r ∷ filter f rs) (filter f rs)) ≡ true → test r && list_all test (filter f rs) ≡ true
    by_test true q h = h
    by_test false q h = absurd (false_true q)

tail-of : (f test : ℕ → Bool) (r : ℕ) (rs : List ℕ) → list_all test (filter f (r ∷ rs)) ≡ true → list_all test (filter f rs) ≡ true
tail-of f test r rs h = by_test (f r) h
  where
    by_test : (b : Bool) → list_all test (cond b (r ∷ filter f rs) (filter f rs)) ≡ true → list_all test (filter f rs) ≡ true
    by_test true h = right (test r) (list_all test (filter f rs)) h
    by_test false h = h

-- of these registrations, each is over as its kind asks
record AllOver (past : History) (rs : List ℕ) : Type 0 where
  timeouts : list_all (was_done past) (filter (has_kind is_timeout past) rs) ≡ true
  intervals : list_all (was_dropped past) (filter (has_kind is_interval past) rs) ≡ true
  frames : list_all (was_done past) (filter (has_kind is_frame past) rs) ≡ true
  idles : list_all (was_done past) (filter (has_kind is_idle past) rs) ≡ true
  posts : list_all (was_done past) (filter (has_kind is_posted past) rs) ≡ true
  continuations : list_all (was_done past) (filter (has_kind is_yield past) rs) ≡ true
  micros : list_all (was_done past) (filter (has_kind is_micro past) rs) ≡ true

over-all : (past : History) (rs : List ℕ) → AllOver past rs → list_all (λ r. is_over_as past r (kind_of past r)) rs ≡ true
over-all past [] h = refl
over-all past (r ∷ rs) h =
    both (is_over_as past r (kind_of past r)) (list_all (λ r. is_over_as past r (kind_of past r)) rs) (by_kind (kind_of past r) refl)
    (over-all past rs (record {
      timeouts = tail-of (has_kind is_timeout past) (was_done past) r rs h.timeouts;
      intervals = tail-of (has_kind is_interval past) (was_dropped past) r rs h.intervals;
      frames = tail-of (has_kind is_frame past) (was_done past) r rs h.frames;
      idles = tail-of (has_kind is_idle past) (was_done past) r rs h.idles;
      posts = tail-of (has_kind is_posted past) (was_done past) r rs h.posts;
      continuations = tail-of (has_kind is_yield past) (was_done past) r rs h.continuations;
      micros = tail-of (has_kind is_micro past) (was_done past) r rs h.micros;
    }))
  where
    by_kind : (o : Option RegKind) → kind_of past r ≡ o → is_over_as past r o ≡ true
    by_kind None e = refl
    by_kind (Some kind.Timeout) e = head-of (has_kind is_timeout past) (was_done past) r rs h.timeouts (ap (is_some_and is_timeout) e)
    by_kind (Some kind.Interval) e = head-of (has_kind is_interval past) (was_dropped past) r rs h.intervals (ap (is_some_and is_interval) e)
    by_kind (Some kind.Frame) e = head-of (has_kind is_frame past) (was_done past) r rs h.frames (ap (is_some_and is_frame) e)
    by_kind (Some kind.Idle) e = head-of (has_kind is_idle past) (was_done past) r rs h.idles (ap (is_some_and is_idle) e)
    by_kind (Some kind.Post) e = head-of (has_kind is_posted past) (was_done past) r rs h.posts (ap (is_some_and is_posted) e)
    by_kind (Some kind.Yield) e = head-of (has_kind is_yield past) (was_done past) r rs h.continuations (ap (is_some_and is_yield) e)
    by_kind (Some kind.Micro) e = head-of (has_kind is_micro past) (was_done past) r rs h.micros (ap (is_some_and is_micro) e)
    by_kind (Some k) e = refl

-- what each part asks of a line
record LineParts (until fuel : ℕ) (past : History) (now : ℕ) (e : Event) : Type 0 where
  arms : keeps_arms_due past e ≡ true
  timeouts : at_done timeouts_are_over past e ≡ true
  intervals : at_done intervals_are_over past e ≡ true
  frames : at_done frames_are_over past e ≡ true
  idles : at_done idles_are_over past e ≡ true
  posts : at_done posts_are_over past e ≡ true
  continuations : at_done continuations_are_over past e ≡ true
  micros : at_done micros_are_over past e ≡ true
  hosts : at_done hosts_have_answered past e ≡ true
  limits : keeps_limits until fuel past now e ≡ true

ends-line : (until fuel : ℕ) (past : History) (now : ℕ) (e : Event) → LineParts until fuel past now e → keeps_end until fuel past now e ≡ true
ends-line until fuel past now (EndLine Done) p =
    both (list_all (λ r. is_over_as past r (kind_of past r)) (registered past) && list_all (was_each_due past) (armed_ever past)) (hosts_have_answered past)
    (both (list_all (λ r. is_over_as past r (kind_of past r)) (registered past)) (list_all (was_each_due past) (armed_ever past))
    (over-all past (registered past) (record { timeouts = p.timeouts; intervals = p.intervals; frames = p.frames; idles = p.idles; posts = p.posts; continuations = p.continuations; micros = right _ _ p.micros })) p.arms)
    p.hosts
ends-line until fuel past now (EndLine Fuel) p = refl
ends-line until fuel past now (EndLine Clock) p = p.limits
ends-line until fuel past now (Turn n source) p = p.limits
ends-line until fuel past now (Run j) p = p.limits
ends-line until fuel past now e p = refl

pub ends_by_parts : (until fuel : ℕ) (es : List Stamped) → EndParts until fuel es → EndsTruly until fuel es
ends_by_parts until fuel es p = from [] es p.arms p.timeouts p.intervals p.frames p.idles p.posts p.continuations p.micros p.hosts p.limits
  where
    done : (History → Bool) → Test
    done test past e = at_done test past e.event

    from : (past : History) (es : List Stamped) → each_line (λ past e. keeps_arms_due past e.event) past es ≡ true → each_line (λ past e. at_done timeouts_are_over past e.event) past es ≡ true → each_line (λ past e. at_done intervals_are_over past e.event) past es ≡ true
        → each_line (λ past e. at_done frames_are_over past e.event) past es ≡ true → each_line (λ past e. at_done idles_are_over past e.event) past es ≡ true → each_line (λ past e. at_done posts_are_over past e.event) past es ≡ true → each_line (λ past e. at_done continuations_are_over past e.event) past es ≡ true
        → each_line (λ past e. at_done micros_are_over past e.event) past es ≡ true → each_line (λ past e. at_done hosts_have_answered past e.event) past es ≡ true → each_line (λ past e. keeps_limits until fuel past e.time e.event) past es ≡ true
        → each_line (λ past e. keeps_end until fuel past e.time e.event) past es ≡ true
    from past [] a b c d f g h i j k = refl
    from past (e ∷ es) a b c d f g h i j k =
        both (keeps_end until fuel past e.time e.event) (each_line (λ past e. keeps_end until fuel past e.time e.event) (e ∷ past) es)
        (ends-line until fuel past e.time e.event (record {
          arms = left _ _ a;
          timeouts = left _ _ b;
          intervals = left _ _ c;
          frames = left _ _ d;
          idles = left _ _ f;
          posts = left _ _ g;
          continuations = left _ _ h;
          micros = left _ _ i;
          hosts = left _ _ j;
          limits = left _ _ k;
        }))
        (from (e ∷ past) es (right _ _ a) (right _ _ b) (right _ _ c) (right _ _ d) (right _ _ f) (right _ _ g) (right _ _ h) (right _ _ i) (right _ _ j) (right _ _ k))
