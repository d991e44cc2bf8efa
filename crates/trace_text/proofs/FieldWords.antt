-- Words, read and written.
use Rattle.std.proofs.Common.{◌≡◌, ℕ, Bool, true, false, cond, List, [], ◌∷◌, ◌++◌, Option, Some, None, refl, ap, subst, ◌∙◌, arith}
use Rattle.std.specs.Prelude.{codes, find, option_map}
use Rattle.page_types.specs.declared.Source.{Source}
use Rattle.page_types.specs.declared.Source.TheVariants.{User, Net, Dom, Timer, Render, Sched, Idle}
use Rattle.page_types.specs.declared.End.{End}
use Rattle.page_types.specs.declared.End.TheVariants.{Done as DoneEnd, Fuel as FuelEnd, Clock as ClockEnd}
use Rattle.page_types.specs.declared.RegKind.{RegKind}
use Rattle.page_types.specs.declared.RegKind.TheVariants.{Timeout as TimeoutKind, Interval as IntervalKind, Frame as FrameKind, Idle as IdleKind, Post as PostKind, Yield as YieldKind, Host as HostKind, Listener as ListenerKind, Then as ThenKind, Micro as MicroKind, Signal as SignalKind}
use Rattle.page_types.specs.declared.Priority.{Priority}
use Rattle.page_types.specs.declared.Priority.TheVariants.{Background, UserVisible, UserBlocking}
use Rattle.page_types.specs.Events.{Queued, MicroJob, ReactJob, AdoptJob, QueueName, FixedQueue, SignalQueue}
use Rattle.page_parts.specs.Words.{decimal_of}
use Rattle.page_parts.specs.Spelling.{priority_text}
use Rattle.page_parts.specs.TraceText.{source_text, end_text, kind_text}
use Rattle.trace_text.specs.Trace.{IsCount, QueuedFits, QueueFits}
use Rattle.page_base.specs.Fields.{behind, is_word}
use Rattle.trace_text.specs.LineReading.{count_at, source_at, kind_at, priority_at, end_at, how_at, form_at, queue_at, queued_at, all_sources, all_kinds, all_priorities, all_ends}
use Rattle.trace_text.proofs.Cutting.{lacks, word_whole, map_then, or_then, word_then}
use Rattle.trace_text.proofs.Counts.{count_sound, count_complete, lacks-decimal}

found_step : {X : Type 0} (test : X → Bool) (x y : X) (rest : Option X) (t : Bool) → test x ≡ t → (rest ≡ Some y → test y ≡ true) → cond t (Some x) rest ≡ Some y → test y ≡ true
found_step test x y rest true same more is = let e : x ≡ y = cc in subst (λ z. test z ≡ true) e same
found_step test x y rest false same more is = more is

found : {X : Type 0} (test : X → Bool) (xs : List X) (y : X) → find test xs ≡ Some y → test y ≡ true
found test [] y is = absurd (cc)
found test (x ∷ xs) y is = found_step test x y (find test xs) (test x) refl (found test xs y) is

pub source_sound : (x : Option Source) (w : List ℕ) → source_at w ≡ Some x → w ≡ source_text x
unfolding source_at
source_sound x w is = word_whole (source_text x) w (found (λ y. is_word (source_text y) w) all_sources x is)

pub source_complete : (x : Option Source) → source_at (source_text x) ≡ Some x
unfolding source_at is_word
source_complete None = refl
source_complete (Some User) = refl
source_complete (Some Net) = refl
source_complete (Some Dom) = refl
source_complete (Some Timer) = refl
source_complete (Some Render) = refl
source_complete (Some Sched) = refl
source_complete (Some Idle) = refl

pub source_free : (x : Option Source) → lacks 10 (source_text x) ≡ true
source_free None = refl
source_free (Some User) = refl
source_free (Some Net) = refl
source_free (Some Dom) = refl
source_free (Some Timer) = refl
source_free (Some Render) = refl
source_free (Some Sched) = refl
source_free (Some Idle) = refl

pub kind_sound : (x : RegKind) (w : List ℕ) → kind_at w ≡ Some x → w ≡ kind_text x
unfolding kind_at
kind_sound x w is = word_whole (kind_text x) w (found (λ y. is_word (kind_text y) w) all_kinds x is)

pub kind_complete : (x : RegKind) → kind_at (kind_text x) ≡ Some x
unfolding kind_at is_word
kind_complete TimeoutKind = refl
kind_complete IntervalKind = refl
kind_complete FrameKind = refl
kind_complete IdleKind = refl
kind_complete PostKind = refl
kind_complete YieldKind = refl
kind_complete HostKind = refl
kind_complete ListenerKind = refl
kind_complete ThenKind = refl
kind_complete MicroKind = refl
kind_complete SignalKind = refl

pub kind_free : (x : RegKind) → lacks 10 (kind_text x) ≡ true
kind_free TimeoutKind = refl
kind_free IntervalKind = refl
kind_free FrameKind = refl
kind_free IdleKind = refl
kind_free PostKind = refl
kind_free YieldKind = refl
kind_free HostKind = refl
kind_free ListenerKind = refl
kind_free ThenKind = refl
kind_free MicroKind = refl
kind_free SignalKind = refl

pub kind_spaceless : (x : RegKind) → lacks 32 (kind_text x) ≡ true
kind_spaceless TimeoutKind = refl
kind_spaceless IntervalKind = refl
kind_spaceless FrameKind = refl
kind_spaceless IdleKind = refl
kind_spaceless PostKind = refl
kind_spaceless YieldKind = refl
kind_spaceless HostKind = refl
kind_spaceless ListenerKind = refl
kind_spaceless ThenKind = refl
kind_spaceless MicroKind = refl
kind_spaceless SignalKind = refl

pub priority_sound : (x : Priority) (w : List ℕ) → priority_at w ≡ Some x → w ≡ priority_text x
unfolding priority_at
priority_sound x w is = word_whole (priority_text x) w (found (λ y. is_word (priority_text y) w) all_priorities x is)

pub priority_complete : (x : Priority) → priority_at (priority_text x) ≡ Some x
unfolding priority_at is_word
priority_complete Background = refl
priority_complete UserVisible = refl
priority_complete UserBlocking = refl

pub priority_free : (x : Priority) → lacks 10 (priority_text x) ≡ true
priority_free Background = refl
priority_free UserVisible = refl
priority_free UserBlocking = refl

pub end_sound : (x : End) (w : List ℕ) → end_at w ≡ Some x → w ≡ end_text x
unfolding end_at
end_sound x w is = word_whole (end_text x) w (found (λ y. is_word (end_text y) w) all_ends x is)

pub end_complete : (x : End) → end_at (end_text x) ≡ Some x
unfolding end_at is_word
end_complete DoneEnd = refl
end_complete FuelEnd = refl
end_complete ClockEnd = refl

pub end_free : (x : End) → lacks 10 (end_text x) ≡ true
end_free DoneEnd = refl
end_free FuelEnd = refl
end_free ClockEnd = refl

spaceless_priority : (x : Priority) → lacks 32 (priority_text x) ≡ true
spaceless_priority Background = refl
spaceless_priority UserVisible = refl
spaceless_priority UserBlocking = refl

-- ---- `ok` and `err`, `cont` and `task`

abbrev pub how_word : Bool → List ℕ
how_word true = codes "ok"
how_word false = codes "err"

abbrev pub form_word : Bool → List ℕ
form_word true = codes "cont"
form_word false = codes "task"

pub how_sound : (x : Bool) (w : List ℕ) → how_at w ≡ Some x → w ≡ how_word x
unfolding how_at
how_sound x w is =
    word_then (λ w. w ≡ how_word x) (codes "ok") w true (cond (is_word (codes "err") w) (Some false) None) x is
    (λ e. ap how_word e)
    (λ e. word_then (λ w. w ≡ how_word x) (codes "err") w false None x e (λ e. ap how_word e) (λ e. absurd (cc)))

pub how_complete : (x : Bool) → how_at (how_word x) ≡ Some x
unfolding how_at is_word
how_complete true = refl
how_complete false = refl

pub form_sound : (x : Bool) (w : List ℕ) → form_at w ≡ Some x → w ≡ form_word x
unfolding form_at
form_sound x w is =
    word_then (λ w. w ≡ form_word x) (codes "cont") w true (cond (is_word (codes "task") w) (Some false) None) x is
    (λ e. ap form_word e)
    (λ e. word_then (λ w. w ≡ form_word x) (codes "task") w false None x e (λ e. ap form_word e) (λ e. absurd (cc)))

pub form_complete : (x : Bool) → form_at (form_word x) ≡ Some x
unfolding form_at is_word
form_complete true = refl
form_complete false = refl

pub how_free : (byte : Bool) (x : Bool) → lacks (cond byte 10 32) (how_word x) ≡ true
how_free true true = refl
how_free true false = refl
how_free false true = refl
how_free false false = refl

pub form_free : (byte : Bool) (x : Bool) → lacks (cond byte 10 32) (form_word x) ≡ true
form_free true true = refl
form_free true false = refl
form_free false true = refl
form_free false false = refl

-- ---- queues

-- the word of a queue
abbrev pub queue_word : QueueName → List ℕ
queue_word (FixedQueue priority) = priority_text priority
queue_word (SignalQueue s) = codes "s" ++ decimal_of s

abbrev IsQueue : QueueName → List ℕ → Type 0
IsQueue q w = QueueFits q × (w ≡ queue_word q)

pub queue_sound : (q : QueueName) (w : List ℕ) → queue_at w ≡ Some q → IsQueue q w
unfolding queue_at
queue_sound q w is =
    or_then (IsQueue q) (codes "s") w (λ digits. option_map SignalQueue (count_at digits)) (option_map FixedQueue (priority_at w)) q is
    (λ rest e.
    map_then (IsQueue q (codes "s" ++ rest)) (count_at rest) SignalQueue q e
    (λ n o e. let read = count_sound n rest o in subst (λ q. IsQueue q (codes "s" ++ rest)) e (read.0, ap (λ xs. codes "s" ++ xs) read.1)))
    (λ e.
    map_then (IsQueue q w) (priority_at w) FixedQueue q e
    (λ p o e. subst (λ q. IsQueue q w) e (tt, priority_sound p w o)))

signal_reads : (n : ℕ) (w : List ℕ) → count_at w ≡ Some n → queue_at (codes "s" ++ w) ≡ Some (SignalQueue n)
unfolding queue_at behind
signal_reads n w is = rw is refl

pub queue_complete : (q : QueueName) → QueueFits q → queue_at (queue_word q) ≡ Some q
unfolding queue_at behind priority_at is_word
queue_complete (FixedQueue Background) fits = refl
queue_complete (FixedQueue UserVisible) fits = refl
queue_complete (FixedQueue UserBlocking) fits = refl
queue_complete (SignalQueue s) fits = signal_reads s (decimal_of s) (count_complete s fits)

pub queue_free : (q : QueueName) → QueueFits q → lacks 10 (queue_word q) ≡ true
queue_free (FixedQueue priority) fits = priority_free priority
queue_free (SignalQueue s) fits = lacks-decimal 10 s (omega arith) fits

pub queue_spaceless : (q : QueueName) → QueueFits q → lacks 32 (queue_word q) ≡ true
queue_spaceless (FixedQueue priority) fits = spaceless_priority priority
queue_spaceless (SignalQueue s) fits = lacks-decimal 32 s (omega arith) fits

-- ---- what a job was queued for

-- the word and the number, without the space before them
abbrev pub queued_word : Queued → List ℕ
queued_word (MicroJob r) = codes "micro " ++ decimal_of r
queued_word (ReactJob n) = codes "react " ++ decimal_of n
queued_word (AdoptJob n) = codes "adopt " ++ decimal_of n

abbrev IsQueued : Queued → List ℕ → Type 0
IsQueued q w = QueuedFits q × (w ≡ queued_word q)

queued_by : (start : List ℕ) (make : ℕ → Queued) → ((n : ℕ) → IsCount n → QueuedFits (make n)) → ((n : ℕ) → start ++ decimal_of n ≡ queued_word (make n)) → (q : Queued) (rest : List ℕ) → option_map make (count_at rest) ≡ Some q → IsQueued q (start ++ rest)
queued_by start make fits text q rest is =
    map_then (IsQueued q (start ++ rest)) (count_at rest) make q is
    (λ n o e. let read = count_sound n rest o in subst (λ q. IsQueued q (start ++ rest)) e (fits n read.0, ap (λ xs. start ++ xs) read.1 ∙ text n))

pub queued_sound : (q : Queued) (w : List ℕ) → queued_at w ≡ Some q → IsQueued q w
unfolding queued_at
queued_sound q w is =
    or_then (IsQueued q) (codes "micro ") w (λ digits. option_map MicroJob (count_at digits)) _ q is (queued_by (codes "micro ") MicroJob (λ n h. h) (λ n. refl) q)
    (λ e. or_then (IsQueued q) (codes "react ") w (λ digits. option_map ReactJob (count_at digits)) _ q e (queued_by (codes "react ") ReactJob (λ n h. h) (λ n. refl) q)
    (λ e. or_then (IsQueued q) (codes "adopt ") w (λ digits. option_map AdoptJob (count_at digits)) None q e (queued_by (codes "adopt ") AdoptJob (λ n h. h) (λ n. refl) q) (λ e. absurd (cc))))

micro_reads : (n : ℕ) (w : List ℕ) → count_at w ≡ Some n → queued_at (codes "micro " ++ w) ≡ Some (MicroJob n)
unfolding queued_at behind
micro_reads n w is = rw is refl

react_reads : (n : ℕ) (w : List ℕ) → count_at w ≡ Some n → queued_at (codes "react " ++ w) ≡ Some (ReactJob n)
unfolding queued_at behind
react_reads n w is = rw is refl

adopt_reads : (n : ℕ) (w : List ℕ) → count_at w ≡ Some n → queued_at (codes "adopt " ++ w) ≡ Some (AdoptJob n)
unfolding queued_at behind
adopt_reads n w is = rw is refl

pub queued_complete : (q : Queued) → QueuedFits q → queued_at (queued_word q) ≡ Some q
queued_complete (MicroJob r) fits = micro_reads r (decimal_of r) (count_complete r fits)
queued_complete (ReactJob n) fits = react_reads n (decimal_of n) (count_complete n fits)
queued_complete (AdoptJob n) fits = adopt_reads n (decimal_of n) (count_complete n fits)

pub queued_free : (q : Queued) → QueuedFits q → lacks 10 (queued_word q) ≡ true
queued_free (MicroJob r) fits = lacks-decimal 10 r (omega arith) fits
queued_free (ReactJob n) fits = lacks-decimal 10 n (omega arith) fits
queued_free (AdoptJob n) fits = lacks-decimal 10 n (omega arith) fits
