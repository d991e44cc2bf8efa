-- Laws of every trace: timers, animation frames and idle periods.
use Rattle.std.specs.Prelude.{◌≡◌, ℕ, suc, ◌+◌, ◌-◌, ◌%◌, Bool, true, false, if◌then◌else◌, not, ◌&&◌, ◌||◌, List, [], ◌∷◌, Option, Some, None, nat_lt, nat_le, ◌==◌}
use Rattle.std.specs.List.{list_all}
use Rattle.page_types.specs.declared.RegKind.{RegKind}
use Rattle.page_types.specs.declared.RegKind.TheVariants as kind
use Rattle.page_types.specs.Events.{Event, Call, Arm, Due, Period, IdleLine, Frame, Stamped}
use Rattle.page_laws.specs.History.{History, each_line, some_line, count_lines, is_call_of, is_reg_of, is_due_of, is_period, is_rest, is_some_and, is_timer, is_frame, is_idle, is_delayed, has_kind, registered_for, was_called, was_due, was_dropped, armed_for, level_of, active, open_registrations, calls_in, this_turn, before_last, last_line}

-- ---- HTML, "Timers"

-- what is armed with level 0, since it is no timer
abbrev pub has_no_level : RegKind → Bool
has_no_level kind.Idle = true
has_no_level kind.Post = true
has_no_level kind.Signal = true
has_no_level kind.Host = true
has_no_level k = false

-- the last one, if there is one: of open calls the outermost, of the calls of a turn the first
abbrev pub outermost : List ℕ → Option ℕ
outermost [] = None
outermost (r ∷ []) = Some r
outermost (r ∷ s ∷ rs) = outermost (s ∷ rs)

abbrev pub level_above : Option ℕ → Option ℕ
level_above None = None
level_above (Some level) = Some (suc level)

abbrev pub level_under : History → ℕ → Option ℕ → Option ℕ
level_under past r None = level_above (level_of past r)
level_under past r (Some parent) = if has_kind is_timer past parent then level_above (level_of past parent) else Some 1

-- In the first form the parent of a timer that is armed is the outermost call, if that is of a timer; where no call is
-- open, it is the timer itself, which is armed again.
abbrev pub level_by_call : History → ℕ → Option ℕ
level_by_call past r = level_under past r (outermost (open_registrations past))

abbrev pub level_of_turn : History → Option ℕ → Option ℕ
level_of_turn past None = Some 1
level_of_turn past (Some parent) = level_under past parent (Some parent)

-- In the second form, in which microtasks inherit, it is the first call of the turn, if that is of a timer.
abbrev pub level_by_turn : History → Option ℕ
level_by_turn past = level_of_turn past (outermost (calls_in (this_turn past)))

-- one more than the level last armed for the parent, and 1 where there is none
abbrev pub level_due : (form : ℕ) → History → ℕ → Option ℕ
level_due form past r = if form == 2 then level_by_turn past else level_by_call past r

-- a whole number of milliseconds, and 4 at least from level 7 on
abbrev pub is_delay : (delay level : ℕ) → Bool
is_delay delay level = (delay % 1000 == 0) && (nat_lt level 7 || nat_le 4000 delay)

abbrev pub arms_well : (form : ℕ) → History → (now r due level : ℕ) → Bool
arms_well form past now r due level =
    if has_kind is_timer past r
    then is_some_and (λ n. n == level) (level_due form past r) && nat_le now due && is_delay (due - now) level
    else not (has_kind has_no_level past r) || (level == 0)

-- each of these that was armed before, for no later time, has been due since
abbrev pub all_due : (older : History) → (r due : ℕ) → (newer : History) → Bool
all_due older r due newer =
    list_all (λ a. (a == r) || not (is_some_and (λ t. nat_le t due) (armed_for older a)) || was_due newer a) (active older)

abbrev pub armed_passes : ℕ → Event → (older newer : History) → Bool
armed_passes r (Arm q due level) older newer = not (q == r) || all_due older r due newer
armed_passes r e older newer = true

-- Whatever was active when a registration was armed, and for no later time, is due before it. The lines go back to
-- where it was due before; `newer` holds those that came after them.
abbrev pub passes_none : ℕ → (newer past : History) → Bool
passes_none r newer [] = true
passes_none r newer (e ∷ past) =
    if is_due_of r e.event then true
    else armed_passes r e.event past newer && passes_none r (e ∷ newer) past

abbrev pub is_due_now : History → (now r : ℕ) → Bool
is_due_now past now r = is_some_and (λ due. nat_le due now) (armed_for past r)

abbrev pub goes_in_order : History → ℕ → Bool
goes_in_order past r = not (has_kind is_delayed past r) || passes_none r [] past

-- a timer is called no more often than it was due
abbrev pub may_fire : History → ℕ → Bool
may_fire past r = not (has_kind is_timer past r) || nat_lt (count_lines (is_call_of r) past) (count_lines (is_due_of r) past)

abbrev pub keeps_timers : (form : ℕ) → History → ℕ → Event → Bool
keeps_timers form past now (Arm r due level) = arms_well form past now r due level
keeps_timers form past now (Due r) = is_due_now past now r && goes_in_order past r
keeps_timers form past now (Call r) = may_fire past r
keeps_timers form past now e = true

abbrev pub holds_timers_in_order : (form : ℕ) → List Stamped → Bool
holds_timers_in_order form es = each_line (λ past e. keeps_timers form past e.time e.event) [] es

-- What is due was armed for that time or an earlier one, and was not due since. Of two that are active at one line, the
-- one that was armed first is due first, unless it was armed for a later time. A timer is called no more often than it
-- is due. A timer's level is one more than that of its parent, or 1; it is armed for a whole number of milliseconds,
-- and from level 7 on for 4 at least.
abbrev pub TimersInOrder : (form : ℕ) → List Stamped → Type 0
TimersInOrder form es = holds_timers_in_order form es ≡ true

abbrev pub keeps_firing : History → Event → Bool
keeps_firing past (Call r) = may_fire past r
keeps_firing past e = true

abbrev pub holds_fire_when_due : List Stamped → Bool
holds_fire_when_due es = each_line (λ past e. keeps_firing past e.event) [] es

-- A part of that law by itself: a timer is called no more often than it is due.
abbrev pub TimersFireWhenDue : List Stamped → Type 0
TimersFireWhenDue es = holds_fire_when_due es ≡ true

abbrev pub keeps_due : History → ℕ → Event → Bool
keeps_due past now (Due r) = is_due_now past now r
keeps_due past now e = true

abbrev pub holds_due_when_armed : List Stamped → Bool
holds_due_when_armed es = each_line (λ past e. keeps_due past e.time e.event) [] es

-- Another part of it by itself: what is due was armed for that time or an earlier one, and was not due since.
abbrev pub DueWhenArmed : List Stamped → Type 0
DueWhenArmed es = holds_due_when_armed es ≡ true

abbrev pub keeps_due_order : History → Event → Bool
keeps_due_order past (Due r) = goes_in_order past r
keeps_due_order past e = true

abbrev pub holds_due_in_order : List Stamped → Bool
holds_due_in_order es = each_line (λ past e. keeps_due_order past e.event) [] es

-- A third part of it by itself: of two that are active at one line, the one that was armed first is due first, unless it
-- was armed for a later time.
abbrev pub DueInOrder : List Stamped → Type 0
DueInOrder es = holds_due_in_order es ≡ true

abbrev pub is_clamped : History → (now r due level : ℕ) → Bool
is_clamped past now r due level =
    if has_kind is_timer past r then nat_le now due && is_delay (due - now) level
    else not (has_kind has_no_level past r) || (level == 0)

abbrev pub keeps_clamps : History → ℕ → Event → Bool
keeps_clamps past now (Arm r due level) = is_clamped past now r due level
keeps_clamps past now e = true

abbrev pub holds_timers_clamped : List Stamped → Bool
holds_timers_clamped es = each_line (λ past e. keeps_clamps past e.time e.event) [] es

-- A fourth part of it by itself: a timer is armed for a whole number of milliseconds, and from level 7 on for 4 at
-- least; idle callbacks, posted tasks, signals and hosts are armed with level 0.
abbrev pub TimersClamped : List Stamped → Type 0
TimersClamped es = holds_timers_clamped es ≡ true

abbrev pub keeps_levels : (form : ℕ) → History → Event → Bool
keeps_levels form past (Arm r due level) = not (has_kind is_timer past r) || is_some_and (λ n. n == level) (level_due form past r)
keeps_levels form past e = true

abbrev pub holds_levels : (form : ℕ) → List Stamped → Bool
holds_levels form es = each_line (λ past e. keeps_levels form past e.event) [] es

-- A fifth part of it by itself: a timer's level is one more than that of its parent, or 1.
abbrev pub LevelsFollow : (form : ℕ) → List Stamped → Type 0
LevelsFollow form es = holds_levels form es ≡ true

-- All its parts.
pub record TimerParts (form : ℕ) (es : List Stamped) : Type 0 where
  pub armed : DueWhenArmed es
  pub order : DueInOrder es
  pub firing : TimersFireWhenDue es
  pub clamps : TimersClamped es
  pub levels : LevelsFollow form es

-- ---- HTML, "Animation frames": run the animation frame callbacks

abbrev pub is_frame_line : Event → Bool
is_frame_line (Frame t) = true
is_frame_line e = false

abbrev pub is_reg_before : ℕ → Option History → Bool
is_reg_before r older = is_some_and (λ past. some_line (is_reg_of r) past) older

-- the turn has its frame line, before which the callback was requested, and those called in it before have lower numbers
abbrev pub may_be_drawn : History → ℕ → Bool
may_be_drawn past r =
    some_line is_frame_line (this_turn past) && is_reg_before r (before_last is_frame_line past)
    && list_all (λ q. not (has_kind is_frame past q) || nat_lt q r) (calls_in (this_turn past))

abbrev pub was_done : History → ℕ → Bool
was_done past r = was_called past r || was_dropped past r

abbrev pub framed_at : Event → (older all : History) → Bool
framed_at (Frame t) older all = list_all (was_done all) (registered_for is_frame older)
framed_at e older all = true

-- the callbacks that were requested before a frame line, among these lines, were called or dropped
abbrev pub all_framed : (all past : History) → Bool
all_framed all [] = true
all_framed all (e ∷ past) = if is_rest e.event then true else framed_at e.event past all && all_framed all past

abbrev pub keeps_frames : History → Event → Bool
keeps_frames past (Call r) = not (has_kind is_frame past r) || may_be_drawn past r
keeps_frames past e = not (is_rest e) || all_framed past past

abbrev pub holds_frames_in_order : List Stamped → Bool
holds_frames_in_order es = each_line (λ past e. keeps_frames past e.event) [] es

-- A frame callback is called behind the frame line of its turn, and was requested before that line. The calls of a turn
-- go in the order of the requests. By the next line between turns every callback that was requested before a frame line
-- was called or dropped.
abbrev pub FramesInOrder : List Stamped → Type 0
FramesInOrder es = holds_frames_in_order es ≡ true

-- ---- requestIdleCallback, "Start an idle period algorithm" and "Invoke idle callbacks algorithm"

abbrev pub is_idle_line : Event → Bool
is_idle_line (IdleLine d) = true
is_idle_line e = false

abbrev pub period_in : Stamped → Event → Option ℕ → Option ℕ
period_in e (Period d) earlier = Some e.time
period_in e other earlier = earlier

-- when the last idle period began
abbrev pub period_start : History → Option ℕ
period_start [] = None
period_start (e ∷ past) = period_in e e.event (period_start past)

-- no active registration is armed for an earlier time than the deadline
abbrev pub none_earlier : History → ℕ → Bool
none_earlier past d = list_all (λ r. not (is_some_and (λ due. nat_lt due d) (armed_for past r))) (active past)

abbrev pub is_deadline : History → (now d : ℕ) → Bool
is_deadline past now d = is_some_and (λ start. nat_le d (start + 50000)) (period_start past) && nat_lt now d && none_earlier past d

abbrev pub called_idly : Event → History → List ℕ → List ℕ
called_idly (Call r) past more = if last_line is_idle_line past then r ∷ more else more
called_idly e past more = more

-- the calls that stand directly behind an idle line
abbrev pub idle_calls : History → List ℕ
idle_calls [] = []
idle_calls (e ∷ past) = called_idly e.event past (idle_calls past)

-- in an idle period: requested before the period, and behind those that were called in one before
abbrev pub may_be_idle : History → ℕ → Bool
may_be_idle past r = is_reg_before r (before_last is_period past) && list_all (λ q. nat_lt q r) (idle_calls past)

-- else its timeout is over
abbrev pub idle_well : History → ℕ → Bool
idle_well past r =
    if last_line is_idle_line past then has_kind is_idle past r && may_be_idle past r else not (has_kind is_idle past r) || was_due past r

abbrev pub keeps_idle : History → ℕ → Event → Bool
keeps_idle past now (Call r) = idle_well past r
keeps_idle past now (IdleLine d) = not (last_line is_idle_line past) && is_deadline past now d
keeps_idle past now e = not (last_line is_idle_line past)

abbrev pub holds_idle_deadlines : List Stamped → Bool
holds_idle_deadlines es = each_line (λ past e. keeps_idle past e.time e.event) [] es

-- An idle line has a deadline that is after its time, no later than 50 milliseconds behind the start of the last
-- period, and no later than any active registration. Directly behind it an idle callback is called, which was requested
-- before that period; these calls go in the order of the requests. Every other idle callback is called after it was due.
abbrev pub IdleDeadlines : List Stamped → Type 0
IdleDeadlines es = holds_idle_deadlines es ≡ true
