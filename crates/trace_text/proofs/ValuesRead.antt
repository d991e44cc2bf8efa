-- Events whose value is tested.
use Rattle.std.proofs.Common.{◌≡◌, ℕ, Bool, List, Option, Some, None, Result, Ok, Err, refl, ap, sym, subst, IfOk}
use Rattle.std.specs.Prelude.{codes, option_map}
use Rattle.page_types.specs.Events.{Event, Throw, Report, Log, Settle, Send}
use Rattle.trace_text.specs.Trace.{IsPrinted, EventFits}
use Rattle.page_base.specs.Fields.{behind, cut_at}
use Rattle.trace_text.specs.LineReading.{count_at, how_at, settle_at, send_at, valued_at, IsValueRead, IsTested}
use Rattle.trace_text.proofs.Counts.{count_sound}

tested_by : (make : List ℕ → Event) (v : List ℕ) (r : Option (List ℕ)) → (EventFits (make v) → IsPrinted v) → (IsPrinted v → EventFits (make v)) → IsValueRead v r → IsTested (Some (make v)) (option_map make r)
tested_by make v None out back read = λ fits. read (out fits)
tested_by make v (Some x) out back read = (ap make read.0, back read.1)

pub tested_value : (o : Option Event) (make : List ℕ → Event) (v : List ℕ) (r : Option (List ℕ)) → o ≡ Some (make v) → (EventFits (make v) → IsPrinted v) → (IsPrinted v → EventFits (make v)) → IsValueRead v r → IsTested o (option_map make r)
tested_value o make v r is out back read = subst (λ o. IsTested o (option_map make r)) (sym is) (tested_by make v r out back read)

settle_by : (w a r b v : List ℕ) (n : ℕ) (ok : Bool) → cut_at 32 w ≡ Some (a, r) → cut_at 32 r ≡ Some (b, v) → count_at a ≡ Some n → how_at b ≡ Some ok → settle_at w ≡ Some (Settle n ok v)
unfolding settle_at
settle_by w a r b v n ok first second count how = rw (first, second, count, how) refl

pub tested_settle : (w a r b v : List ℕ) (n : ℕ) (ok : Bool) (value : Option (List ℕ)) → cut_at 32 w ≡ Some (a, r) → cut_at 32 r ≡ Some (b, v) → Some n ≡ count_at a → Some ok ≡ how_at b → IsValueRead v value
    → IsTested (settle_at w) (option_map (Settle n ok) value)
tested_settle w a r b v n ok value first second count how read =
    tested_value (settle_at w) (Settle n ok) v value (settle_by w a r b v n ok first second (sym count) (sym how)) (λ h. h.1) (λ h. ((count_sound n a (sym count)).0, h)) read

send_by : (w a v : List ℕ) (n : ℕ) → cut_at 32 w ≡ Some (a, v) → count_at a ≡ Some n → send_at w ≡ Some (Send n v)
unfolding send_at
send_by w a v n first count = rw (first, count) refl

pub tested_send : (w a v : List ℕ) (n : ℕ) (value : Option (List ℕ)) → cut_at 32 w ≡ Some (a, v) → Some n ≡ count_at a → IsValueRead v value → IsTested (send_at w) (option_map (Send n) value)
tested_send w a v n value first count read = tested_value (send_at w) (Send n) v value (send_by w a v n first (sym count)) (λ h. h.1) (λ h. ((count_sound n a (sym count)).0, h)) read

throw_by : (t v : List ℕ) → behind (codes "throw ") t ≡ Some v → valued_at t ≡ Some (Throw v)
unfolding valued_at
throw_by t v is = rw is refl

report_by : (t v : List ℕ) → behind (codes "throw ") t ≡ None → behind (codes "report ") t ≡ Some v → valued_at t ≡ Some (Report v)
unfolding valued_at
report_by t v none is = rw (none, is) refl

log_by : (t v : List ℕ) → behind (codes "throw ") t ≡ None → behind (codes "report ") t ≡ None → behind (codes "log ") t ≡ Some v → valued_at t ≡ Some (Log v)
unfolding valued_at
log_by t v none other is = rw (none, other, is) refl

pub tested_throw : (t v : List ℕ) (value : Option (List ℕ)) → behind (codes "throw ") t ≡ Some v → IsValueRead v value → IsTested (valued_at t) (option_map Throw value)
tested_throw t v value is read = tested_value (valued_at t) Throw v value (throw_by t v is) (λ h. h) (λ h. h) read

pub tested_report : (t v : List ℕ) (value : Option (List ℕ)) → behind (codes "throw ") t ≡ None → behind (codes "report ") t ≡ Some v → IsValueRead v value → IsTested (valued_at t) (option_map Report value)
tested_report t v value none is read = tested_value (valued_at t) Report v value (report_by t v none is) (λ h. h) (λ h. h) read

pub tested_log : (t v : List ℕ) (value : Option (List ℕ)) → behind (codes "throw ") t ≡ None → behind (codes "report ") t ≡ None → behind (codes "log ") t ≡ Some v → IsValueRead v value → IsTested (valued_at t) (option_map Log value)
tested_log t v value none other is read = tested_value (valued_at t) Log v value (log_by t v none other is) (λ h. h) (λ h. h) read

pub if_ok : {A E : Type 0} (P Q : A → Type 0) (r : Result A E) → ((a : A) → P a → Q a) → IfOk r P → IfOk r Q
if_ok P Q (Ok a) f h = f a h
if_ok P Q (Err e) f h = tt
