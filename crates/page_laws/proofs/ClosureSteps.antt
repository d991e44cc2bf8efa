-- What an abort, an answer and other lines do to the marks of closures.
use Rattle.std.proofs.Common.{◌≡◌, ℕ, ℤ, Bool, true, false, List, [], ◌∷◌, ◌||◌, Option, Some, None, Result, refl, sym, ap, ◌∙◌, cond, eqb-true, slice_get}
use Rattle.std.specs.Prelude.{◌==◌, if◌then◌else◌, option_map}
use Rattle.std.proofs.lemmas.Bool.{eq-eqb}
use Rattle.page_types.specs.declared.HostMark.{HostMark}
use Rattle.page_types.specs.declared.HostMark.TheVariants.{Queued, Fired, Dropped}
use Rattle.page_types.specs.Events.{Event, Reg, Due, Drop, Host}
use Rattle.page_parts.specs.HostClosures.{HostClosure, fired}
use Rattle.page_parts.specs.Words.{is_there}
use Rattle.page_model.specs.Numbers.{Each}
use Rattle.page_model.specs.PageSignals.{closure_dropped, drop_at, drop_closure}
use Rattle.page_model.specs.State.{HostTask}
use Rattle.page_model.specs.Turns.{not_dropped}
use Rattle.page_laws.specs.History.{History, was_dropped}
use Rattle.page_laws.specs.Moves.{IsIn, fired_at}
use Rattle.page_laws.specs.ClosureMarks.{Ask, MarksFollow, asker_of, closure_after, has_answered, mark_after, mark_unanswered}
use Rattle.page_laws.proofs.Cancelled.{unless}
use Rattle.page_laws.proofs.ClosureAsks.{AskFound, asker-there, changed_at, changed-get, drop-same, same-marks}
use Rattle.page_laws.proofs.Finding.{false_true, true_false}
use Rattle.page_laws.proofs.HostAnswers.{Silent}
use Rattle.page_laws.proofs.Lines.{added}

-- ---- lines that tell nothing of closures

pub silent-follows : (e : Event) (now : ℕ) (asks : List Ask) (before : List HostClosure) (past : History) (after : List HostClosure) → Silent e → MarksFollow asks before past after → MarksFollow asks before (record { time = now; event = e } ∷ past) after
silent-follows (Reg r kind by) now asks before past after h f = Prim.cc
silent-follows (Due r) now asks before past after h f = Prim.cc
silent-follows (Drop r) now asks before past after h f = Prim.cc
silent-follows (Host k x answer) now asks before past after h f = Prim.cc
silent-follows e now asks before past after h f =
    record { askers = f.askers; one_closure = f.one_closure; one_asker = f.one_asker; live = f.live; answered = f.answered; undropped = f.undropped; marks = f.marks }

pub added-follows : (now : ℕ) (es : List Event) (asks : List Ask) (before : List HostClosure) (past : History) (after : List HostClosure) → Each Silent es → MarksFollow asks before past after → MarksFollow asks before (added now es past) after
added-follows now [] asks before past after h f = f
added-follows now (e ∷ es) asks before past after h f = added-follows now es asks before (record { time = now; event = e } ∷ past) after h.1 (silent-follows e now asks before past after h.0 f)

pub due-follows : (r now : ℕ) (asks : List Ask) (before : List HostClosure) (past : History) (after : List HostClosure) → MarksFollow asks before past after → MarksFollow asks before (record { time = now; event = Due r } ∷ past) after
due-follows r now asks before past after f =
    record { askers = f.askers; one_closure = f.one_closure; one_asker = f.one_asker; live = f.live; answered = f.answered; undropped = f.undropped; marks = f.marks }

-- and drop nothing
pub silent-dropped : (e : Event) (now r : ℕ) (past : History) → Silent e → was_dropped (record { time = now; event = e } ∷ past) r ≡ was_dropped past r
silent-dropped (Drop q) now r past h = Prim.cc
silent-dropped e now r past h = refl

pub added-dropped : (now : ℕ) (es : List Event) (r : ℕ) (past : History) → Each Silent es → was_dropped (added now es past) r ≡ was_dropped past r
added-dropped now [] r past h = refl
added-dropped now (e ∷ es) r past h = added-dropped now es r (record { time = now; event = e } ∷ past) h.1 ∙ silent-dropped e now r past h.0

-- the registration that asked a closure
pub asker-own : (asks : List Ask) (before : List HostClosure) (past : History) (after : List HostClosure) (k r : ℕ) → MarksFollow asks before past after → AskFound asks k r → asker_of asks k ≡ Some r
asker-own asks before past after k r f found =
    let a = found.ask in
    ap (asker_of asks) (sym found.closure)
    ∙ (asker-there asks a (λ b j same. ap {A = Ask} {B = ℕ} (λ x. x.registration) (f.one_asker b a j found.there same)) found.there ∙ ap Some found.registration)

-- ---- an abort

-- whether the closure that was asked is this one
abbrev pub closes : Option HostTask → (k : ℕ) → Bool
closes None k = false
closes (Some t) k = t.closure == k

drop-get : (o : Option HostTask) (hosts : List HostClosure) (k : ℕ) → slice_get (drop_closure o hosts) k ≡ cond (closes o k) (option_map closure_dropped (slice_get hosts k)) (slice_get hosts k)
drop-get None hosts k = refl
drop-get (Some t) hosts k = ap {A = List HostClosure} {B = Option HostClosure} (λ hs. slice_get hs k) (by_closure (slice_get hosts t.closure)) ∙ changed-get closure_dropped hosts t.closure k
  where
    by_closure : (o : Option HostClosure) → drop_at t.closure o hosts ≡ changed_at closure_dropped t.closure o hosts
    by_closure None = refl
    by_closure (Some c) = refl

drops-get : (o u : Option HostTask) (hosts : List HostClosure) (k : ℕ) → slice_get (drop_closure o (drop_closure u hosts)) k ≡ cond (closes o k || closes u k) (option_map closure_dropped (slice_get hosts k)) (slice_get hosts k)
drops-get o u hosts k =
    drop-get o (drop_closure u hosts) k
    ∙ (ap {A = Option HostClosure} {B = Option HostClosure} (λ g. cond (closes o k) (option_map closure_dropped g) g) (drop-get u hosts k) ∙ by_tests (closes o k) (closes u k) (slice_get hosts k))
  where
    twice : (g : Option HostClosure) → option_map closure_dropped (option_map closure_dropped g) ≡ option_map closure_dropped g
    twice None = refl
    twice (Some c) = refl

    by_tests : (b d : Bool) (g : Option HostClosure) → cond b (option_map closure_dropped (cond d (option_map closure_dropped g) g)) (cond d (option_map closure_dropped g) g) ≡ cond (b || d) (option_map closure_dropped g) g
    by_tests true true g = twice g
    by_tests true false g = refl
    by_tests false d g = refl

-- a line drops registration r, and its closure goes with it
pub aborted-follows : (r now : ℕ) (asks : List Ask) (before : List HostClosure) (past : History) (after : List HostClosure) (o u : Option HostTask)
    → ((k : ℕ) → closes o k || closes u k ≡ true → AskFound asks k r × has_answered past k ≡ false)
    → ((a : Ask) → IsIn a asks → a.registration ≡ r → closes o a.closure || closes u a.closure ≡ true)
    → MarksFollow asks before past after → MarksFollow asks before (record { time = now; event = Drop r } ∷ past) (drop_closure o (drop_closure u after))
aborted-follows r now asks before past after o u closed opens f =
    record {
      askers = f.askers;
      one_closure = f.one_closure;
      one_asker = f.one_asker;
      live = f.live;
      answered = f.answered;
      undropped = λ a i h. by_number a i h (r == a.registration) refl;
      marks = λ k. drops-get o u after k ∙ by_test k (closes o k || closes u k) refl;
    }
  where
    lines : History
    lines = record { time = now; event = Drop r } ∷ past

    by_number : (a : Ask) → IsIn a asks → has_answered past a.closure ≡ true → (b : Bool) → (r == a.registration) ≡ b → b || was_dropped past a.registration ≡ false
    by_number a i h true q = absurd (false_true (sym (closed a.closure (opens a i (sym (eqb-true r a.registration q)))).1 ∙ h))
    by_number a i h false q = f.undropped a i h

    now_dropped : (k : ℕ) (m : HostMark) → AskFound asks k r → has_answered past k ≡ false → mark_after lines asks k m ≡ Dropped
    now_dropped k m found silent =
        ap {A = Bool} {B = HostMark} (λ b. if b then Fired else mark_unanswered lines (asker_of asks k) m) silent
        ∙ (ap {A = Option ℕ} {B = HostMark} (λ o. mark_unanswered lines o m) (asker-own asks before past after k r f found)
        ∙ ap {A = Bool} {B = HostMark} (λ b. if b || was_dropped past r then Dropped else Queued) (eq-eqb r r refl))

    dead : (k : ℕ) (g : Option HostClosure) → AskFound asks k r → has_answered past k ≡ false → option_map closure_dropped (option_map (closure_after past asks k) g) ≡ option_map (closure_after lines asks k) g
    dead k None found silent = refl
    dead k (Some c) found silent = ap {A = HostMark} {B = Option HostClosure} (λ m. Some (record c { mark = m })) (sym (now_dropped k c.mark found silent))

    by_test : (k : ℕ) (b : Bool) → closes o k || closes u k ≡ b → cond b (option_map closure_dropped (slice_get after k)) (slice_get after k) ≡ option_map (closure_after lines asks k) (slice_get before k)
    by_test k true q = let z = closed k q in ap (option_map closure_dropped) (f.marks k) ∙ dead k (slice_get before k) z.0 z.1
    by_test k false q =
        f.marks k
        ∙ same-marks (closure_after past asks k) (closure_after lines asks k)
        (λ c. ap {A = HostMark} {B = HostClosure} (λ m. record c { mark = m })
        (sym (drop-same r now past asks k (λ a i e own. false_true (sym q ∙ (ap {A = ℕ} {B = Bool} (λ n. closes o n || closes u n) (sym e) ∙ opens a i own))) c.mark))) (slice_get before k)

-- ---- an answer

-- where the registration was dropped before it answered, so was the closure
dropped-mark : (asks : List Ask) (before : List HostClosure) (past : History) (after : List HostClosure) (k r : ℕ) → MarksFollow asks before past after → AskFound asks k r → has_answered past k ≡ false → was_dropped past r ≡ true → is_there (not_dropped (slice_get after k)) ≡ false
dropped-mark asks before past after k r f found silent gone =
    ap {A = Option HostClosure} {B = Bool} (λ o. is_there (not_dropped o)) (f.marks k) ∙ by_closure (slice_get before k)
  where
    dead : (m : HostMark) → mark_after past asks k m ≡ Dropped
    dead m =
        ap {A = Bool} {B = HostMark} (λ b. if b then Fired else mark_unanswered past (asker_of asks k) m) silent
        ∙ (ap {A = Option ℕ} {B = HostMark} (λ o. mark_unanswered past o m) (asker-own asks before past after k r f found)
        ∙ ap {A = Bool} {B = HostMark} (λ b. if b then Dropped else Queued) gone)

    by_closure : (o : Option HostClosure) → is_there (not_dropped (option_map (closure_after past asks k) o)) ≡ false
    by_closure None = refl
    by_closure (Some c) = ap {A = HostMark} {B = Bool} (λ m. is_there (not_dropped (Some (record c { mark = m })))) (dead c.mark)

pub answered-follows : (k now r : ℕ) (x : ℤ) (answer : Result ℤ ℤ) (asks : List Ask) (before : List HostClosure) (past : History) (after : List HostClosure) → AskFound asks k r → has_answered past k ≡ false → is_there (not_dropped (slice_get after k)) ≡ true
    → MarksFollow asks before past after → MarksFollow asks before (record { time = now; event = Host k x answer } ∷ past) (fired_at k (slice_get after k) after)
answered-follows k now r x answer asks before past after found silent live f =
    record {
      askers = f.askers;
      one_closure = f.one_closure;
      one_asker = f.one_asker;
      live = f.live;
      answered = λ j h. by_answer j (k == j) refl h;
      undropped = λ a i h. by_asker a i (k == a.closure) refl h;
      marks = λ j. ap {A = List HostClosure} {B = Option HostClosure} (λ hs. slice_get hs j) (by_closure (slice_get after k)) ∙ (changed-get fired after k j ∙ by_mark j (k == j) refl);
    }
  where
    lines : History
    lines = record { time = now; event = Host k x answer } ∷ past

    stays : was_dropped past r ≡ false
    stays = unless (was_dropped past r) (λ gone. true_false (sym live ∙ dropped-mark asks before past after k r f found silent gone))

    by_answer : (j : ℕ) (b : Bool) → (k == j) ≡ b → b || has_answered past j ≡ true → is_there (asker_of asks j) ≡ true
    by_answer j true q h = ap {A = ℕ} {B = Bool} (λ n. is_there (asker_of asks n)) (sym (eqb-true k j q)) ∙ ap {A = Option ℕ} {B = Bool} is_there (asker-own asks before past after k r f found)
    by_answer j false q h = f.answered j h

    by_asker : (a : Ask) → IsIn a asks → (b : Bool) → (k == a.closure) ≡ b → b || has_answered past a.closure ≡ true → was_dropped past a.registration ≡ false
    by_asker a i true q h =
        let same = f.one_asker a found.ask i found.there (sym (eqb-true k a.closure q) ∙ sym found.closure) in
        ap {A = ℕ} {B = Bool} (was_dropped past) (ap {A = Ask} {B = ℕ} (λ y. y.registration) same ∙ found.registration) ∙ stays
    by_asker a i false q h = f.undropped a i h

    by_closure : (o : Option HostClosure) → fired_at k o after ≡ changed_at fired k o after
    by_closure None = refl
    by_closure (Some c) = refl

    fires : (j : ℕ) → (k == j) ≡ true → (g : Option HostClosure) → option_map fired (option_map (closure_after past asks j) g) ≡ option_map (closure_after lines asks j) g
    fires j q None = refl
    fires j q (Some c) =
        ap {A = Bool} {B = Option HostClosure} (λ b. Some (record c { mark = if b || has_answered past j then Fired else mark_unanswered past (asker_of asks j) c.mark })) (sym q)

    by_mark : (j : ℕ) (b : Bool) → (k == j) ≡ b → cond b (option_map fired (slice_get after j)) (slice_get after j) ≡ option_map (closure_after lines asks j) (slice_get before j)
    by_mark j true q = ap (option_map fired) (f.marks j) ∙ fires j q (slice_get before j)
    by_mark j false q =
        f.marks j
        ∙ same-marks (closure_after past asks j) (closure_after lines asks j)
        (λ c. ap {A = Bool} {B = HostClosure} (λ b. record c { mark = if b || has_answered past j then Fired else mark_unanswered past (asker_of asks j) c.mark }) (sym q)) (slice_get before j)
