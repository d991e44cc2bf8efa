-- One line is read as the line of an event, or is the line of none.
use Rattle.std.proofs.Common.{◌≡◌, ℕ, true, List, [], ◌∷◌, ◌++◌, Option, Some, None, refl, ap, sym, subst, ◌∙◌, arith, append_assoc, IsTrue}
use Rattle.page_types.specs.Events.{Event, Stamped}
use Rattle.page_parts.specs.Words.{decimal_of}
use Rattle.page_parts.specs.TraceText.{event_text, line_text}
use Rattle.trace_text.specs.Trace.{EventFits, IsForm, is_of_form, Fits}
use Rattle.page_base.specs.Fields.{◌>>=◌, cut_at}
use Rattle.trace_text.specs.LineReading.{count_at, numbered_at, worded_at, valued_at, IsTested, IsEventRead, body_of, IsRead}
use Rattle.trace_text.proofs.Cutting.{lacks, lacks-append, cut_front, cut_whole}
use Rattle.trace_text.proofs.Counts.{count_sound, count_complete, lacks-decimal}
use Rattle.trace_text.proofs.EventsRead.{event_at, numbered_sound, worded_sound, valued_sound}
use Rattle.trace_text.proofs.EventsWritten.{event_read, event_free}

-- ---- events

pub numbered_read : (form : ℕ) (t : List ℕ) (e : Event) → numbered_at t ≡ Some e → IsEventRead form t (Some e)
numbered_read form t e is = numbered_sound form e t is

pub worded_read : (form : ℕ) (t : List ℕ) (e : Event) → IsForm form → worded_at form t ≡ Some e → IsEventRead form t (Some e)
worded_read form t e known is = worded_sound form e t known is

valued_is : (form : ℕ) (t : List ℕ) (o : Option Event) → valued_at t ≡ o → numbered_at t ≡ None → worded_at form t ≡ None → event_at form t ≡ o
unfolding event_at
valued_is form t o is n w = rw (n, w) is

valued_by : (form : ℕ) (t : List ℕ) (o r : Option Event) → valued_at t ≡ o → numbered_at t ≡ None → worded_at form t ≡ None → IsTested o r → IsEventRead form t r
valued_by form t None None is n w tested = λ e fits formed text.
    let read : event_at form t ≡ Some e = ap (event_at form) text ∙ event_read form e fits formed in
    let none = valued_is form t None is n w in
    absurd (cc)
valued_by form t None (Some e) is n w tested = absurd (cc)
valued_by form t (Some e) None is n w tested = λ other fits formed text.
    let read : event_at form t ≡ Some other = ap (event_at form) text ∙ event_read form other fits formed in
    let this = valued_is form t (Some e) is n w in
    let same : other ≡ e = cc in
    tested (subst EventFits same fits)
valued_by form t (Some e) (Some r) is n w tested =
    let sound = valued_sound form e t is in
    (subst EventFits (sym tested.0) tested.1, subst (λ e. IsTrue (is_of_form form e)) (sym tested.0) sound.0, sound.1 ∙ ap event_text (sym tested.0))

pub valued_read : (form : ℕ) (t : List ℕ) (r : Option Event) → numbered_at t ≡ None → worded_at form t ≡ None → IsTested (valued_at t) r → IsEventRead form t r
valued_read form t r n w tested = valued_by form t (valued_at t) r refl n w tested

-- ---- lines

-- the time and the event of a line without its LF, in a form
unfoldable pub stamped_at : ℕ → List ℕ → Option Stamped
stamped_at form line = do
  first ← cut_at 32 line
  time ← count_at first.0
  event ← event_at form first.1
  Some (record { time = time; event = event })

body_cut : (form : ℕ) (e : Stamped) → Fits form e → cut_at 32 (body_of e) ≡ Some (decimal_of e.time, event_text e.event)
body_cut form e fits = cut_front 32 (decimal_of e.time) (event_text e.event) (lacks-decimal 32 e.time (omega arith) fits.0)

stamped_by : (form : ℕ) (line a r : List ℕ) (n : ℕ) (event : Event) → cut_at 32 line ≡ Some (a, r) → count_at a ≡ Some n → event_at form r ≡ Some event → stamped_at form line ≡ Some (record { time = n; event = event })
unfolding stamped_at
stamped_by form line a r n event cut count read = rw (cut, count, read) refl

-- each line is read back
pub body_read : (form : ℕ) (e : Stamped) → Fits form e → stamped_at form (body_of e) ≡ Some e
body_read form e fits = stamped_by form (body_of e) (decimal_of e.time) (event_text e.event) e.time e.event (body_cut form e fits) (count_complete e.time fits.0) (event_read form e.event fits.1 fits.2)

pub one_body : (form : ℕ) (e other : Stamped) → Fits form e → Fits form other → body_of e ≡ body_of other → e ≡ other
one_body form e other h k same =
    let read = body_read form e h in
    let again = body_read form other k in
    let both : Some e ≡ Some other = sym read ∙ ap (stamped_at form) same ∙ again in
    cc

pub no_space : (form : ℕ) (line : List ℕ) → cut_at 32 line ≡ None → IsRead form line None
no_space form line none = λ e fits text. let cut = ap (cut_at 32) text ∙ body_cut form e fits in absurd (cc)

abbrev the_parts : List ℕ → List ℕ → List ℕ × List ℕ
the_parts a r = (a, r)

some_same : {X : Type 0} (x y : X) → Some x ≡ Some y → x ≡ y
some_same x y h = cc

parts_are : (form : ℕ) (line a r : List ℕ) (e : Stamped) → cut_at 32 line ≡ Some (a, r) → Fits form e → line ≡ body_of e → the_parts a r ≡ the_parts (decimal_of e.time) (event_text e.event)
parts_are form line a r e cut fits text =
    let other = ap (cut_at 32) text ∙ body_cut form e fits in
    some_same (the_parts a r) (the_parts (decimal_of e.time) (event_text e.event)) (sym cut ∙ other)

pub no_time : (form : ℕ) (line a r : List ℕ) → cut_at 32 line ≡ Some (a, r) → count_at a ≡ None → IsRead form line None
no_time form line a r cut none = λ e fits text.
    let parts = parts_are form line a r e cut fits text in
    let count : count_at a ≡ Some e.time = ap (λ c. count_at c.0) parts ∙ count_complete e.time fits.0 in
    absurd (cc)

pub no_event : (form : ℕ) (line a r : List ℕ) → cut_at 32 line ≡ Some (a, r) → IsEventRead form r None → IsRead form line None
no_event form line a r cut none = λ e fits text. none e.event fits.1 fits.2 (ap (λ c. c.1) (parts_are form line a r e cut fits text))

pub line_read : (form : ℕ) (line a r : List ℕ) (n : ℕ) (e : Event) → cut_at 32 line ≡ Some (a, r) → count_at a ≡ Some n → IsEventRead form r (Some e) → IsRead form line (Some (record { time = n; event = e }))
line_read form line a r n e cut count event =
    let time = count_sound n a count in
    ((time.0, event.0, event.1), cut_whole 32 line a r cut ∙ ap (λ x. x ++ 32 ∷ r) time.1 ∙ ap (λ x. decimal_of n ++ 32 ∷ x) event.2)

-- ---- a line at the front of some bytes

body_free : (form : ℕ) (e : Stamped) → Fits form e → lacks 10 (body_of e) ≡ true
body_free form e fits = lacks-append 10 (decimal_of e.time) (32 ∷ event_text e.event) (lacks-decimal 10 e.time (omega arith) fits.0) (event_free e.event fits.1)

text_body : (e : Stamped) (more : List ℕ) → line_text e ++ more ≡ body_of e ++ 10 ∷ more
text_body e more = append_assoc (body_of e) (10 ∷ []) more

pub line_cut : (form : ℕ) (e : Stamped) (more : List ℕ) → Fits form e → cut_at 10 (line_text e ++ more) ≡ Some (body_of e, more)
line_cut form e more fits = ap (cut_at 10) (text_body e more) ∙ cut_front 10 (body_of e) more (body_free form e fits)

pub line_there : (e : Stamped) (line rest after : List ℕ) → line ≡ body_of e → cut_at 10 rest ≡ Some (line, after) → rest ≡ line_text e ++ after
line_there e line rest after is cut = cut_whole 10 rest line after cut ∙ ap (λ x. x ++ 10 ∷ after) is ∙ sym (text_body e after)
