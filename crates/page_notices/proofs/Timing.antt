-- Calls on the notices with their lines, one after another.
use Rattle.std.proofs.Common.{◌≡◌, ℕ, List, [], ◌∷◌, ◌++◌, refl, sym, ◌∙◌, ap, subst, inl, arith, Option, Some, None, Result, Ok, Err}
use Rattle.std.specs.Result.{IsErrAnd, result_err}
use Rattle.page_types.specs.Events.{Event}
use Rattle.page_parts.specs.Notices.{Notices, Noticed, followed_by}
use Rattle.trace_text.specs.Line.{Line, Of}
use Rattle.trace_text.specs.declared.lines.NoLine.{NoLine}
use Rattle.trace_text.specs.declared.lines.NoLine.TheVariants.{OutOfMemory}
use Rattle.trace_text.specs.Given.{Keeping, Seen, StopsAmong, Gives}
use Rattle.trace_text.specs.Acts.{Act, At, Does}
use Rattle.trace_text.proofs.Giving.{Gives-then, Gives-stop}
use Rattle.page_notices.specs.Steps.{lines_at, timed, on}

lines_at-append : (t : ℕ) (xs ys : List Event) → lines_at t (xs ++ ys) ≡ lines_at t xs ++ lines_at t ys
lines_at-append t [] ys = refl
lines_at-append t (x ∷ xs) ys = ap (λ ls. Of (record { time = t; event = x }) ∷ ls) (lines_at-append t xs ys)

-- want of memory before the next line
pub Does-memory : {S T : Type 0} (k : Keeping T) (act : Act S) (old new : S) (seen : Seen T) → Does k (record { state = old; seen = seen }) act (Some OutOfMemory) (record { state = new; seen = seen })
Does-memory k act old new seen = record {
  lines = record { told = anywhere (act old).lines; later = omega arith; failed = λ w. absurd (cc); differs = refl };
  state = λ w. absurd (cc);
}
  where
    anywhere : (lines : List Line) → StopsAmong k OutOfMemory seen.told lines seen.told
    anywhere [] = (tt, refl)
    anywhere (line ∷ lines) = inl refl

-- a call that was done, and then another, which may stop
pub Does-followed : {T : Type 0} {k : Keeping T} (t : ℕ) (a b : Notices → Noticed) {s mid : Notices} {old seen : Seen T} {new : At Notices T} {why : Option NoLine}
    → Does k (on s old) (timed t a) None (on mid seen) → Does k (on mid seen) (timed t b) why new
    → Does k (on s old) (timed t (λ s. followed_by (a s) b)) why new
Does-followed {k = k} t a b {s = s} {mid = mid} {seen = seen} {new = new} {why = why} h g =
    let e : mid ≡ (a s).notices = h.state refl in
    record {
      lines = rw (lines_at-append t (a s).lines (b (a s).notices).lines)
          (Gives-then (lines_at t (b (a s).notices).lines) h.lines (let P : _ → Type 0 = λ m. Gives k seen (lines_at t (b m).lines) why new.seen in subst P e g.lines));
      state = λ w. g.state w ∙ ap (λ m. (b m).notices) e;
    }

-- a call that stopped, where another would have followed
pub Does-followed_stop : {T : Type 0} {k : Keeping T} (t : ℕ) (a b : Notices → Noticed) {s : Notices} {old : Seen T} {new : At Notices T} {why : NoLine}
    → Does k (on s old) (timed t a) (Some why) new
    → Does k (on s old) (timed t (λ s. followed_by (a s) b)) (Some why) new
Does-followed_stop t a b {s = s} h = record {
  lines = rw (lines_at-append t (a s).lines (b (a s).notices).lines) (Gives-stop (lines_at t (b (a s).notices).lines) h.lines);
  state = λ w. absurd (cc);
}

-- the exit of a `?` behind a call that stopped, as the reason tells
pub Does-leaves : {S T X : Type 0} {k : Keeping T} {old new : At S T} {act : Act S} (r : Result X NoLine) {why : NoLine} → IsErrAnd r (λ e. e ≡ why) → Does k old act (Some why) new → Does k old act (result_err r) new
Does-leaves (Ok x) is h = absurd is
Does-leaves {k = k} {old = old} {new = new} {act = act} (Err e) is h =
    let P : NoLine → Type 0 = λ w. Does k old act (Some w) new in
    subst P (sym is) h
