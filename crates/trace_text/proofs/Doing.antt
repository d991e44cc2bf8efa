-- Acts that are done one after another.
use Rattle.std.proofs.Common.{◌≡◌, [], ◌∷◌, refl, sym, ◌∙◌, ap, subst, Option, Some, None, Result, Ok, Err}
use Rattle.std.specs.Result.{IsErrAnd, result_err}
use Rattle.trace_text.specs.Line.{Line}
use Rattle.trace_text.specs.declared.lines.NoLine.{NoLine}
use Rattle.trace_text.specs.Given.{Keeping, Seen, Gives}
use Rattle.trace_text.specs.Acts.{Act, At, Does, give, seq, skip, by, lift}
use Rattle.trace_text.proofs.Giving.{Gives-none, Gives-then, Gives-stop}

pub Does-skip : {S T : Type 0} (k : Keeping T) (at : At S T) → Does k at skip None at
Does-skip k at = record { lines = Gives-none k at.seen; state = λ _. refl }

-- an act that was done, and then another, which may stop
pub Does-then : {S T : Type 0} {k : Keeping T} {old mid new : At S T} {a b : Act S} {why : Option NoLine} → Does k old a None mid → Does k mid b why new → Does k old (seq a b) why new
unfolding seq
Does-then {k = k} {old = old} {mid = mid} {new = new} {a = a} {b = b} {why = why} h g =
    let e = h.state refl in
    record {
      lines = Gives-then (b (a old.state).state).lines h.lines (let P : _ → Type 0 = λ s. Gives k mid.seen (b s).lines why new.seen in subst P e g.lines);
      state = λ w. g.state w ∙ ap (λ s. (b s).state) e;
    }

-- an act that stopped, where another would have followed
pub Does-stop : {S T : Type 0} {k : Keeping T} {old new : At S T} {a : Act S} (b : Act S) {why : NoLine} → Does k old a (Some why) new → Does k old (seq a b) (Some why) new
unfolding seq
Does-stop {old = old} {a = a} b h = record {
  lines = Gives-stop (b (a old.state).state).lines h.lines;
  state = λ w. absurd (cc);
}

-- the exit of a `?` behind the call that stopped
pub Does-exit : {S T X : Type 0} {k : Keeping T} {old new : At S T} {a : Act S} (b : Act S) (r : Result X NoLine) {why : NoLine} → IsErrAnd r (λ e. e ≡ why) → Does k old a (Some why) new → Does k old (seq a b) (result_err r) new
Does-exit b (Ok x) is h = absurd is
Does-exit {k = k} {old = old} {new = new} {a = a} b (Err e) is h =
    let P : NoLine → Type 0 = λ w. Does k old (seq a b) (Some w) new in
    subst P (sym is) (Does-stop b h)

-- the same where nothing follows
pub Does-last : {S T X : Type 0} {k : Keeping T} {old new : At S T} {a : Act S} (r : Result X NoLine) {why : NoLine} → IsErrAnd r (λ e. e ≡ why) → Does k old a (Some why) new → Does k old a (result_err r) new
Does-last (Ok x) is h = absurd is
Does-last {k = k} {old = old} {new = new} {a = a} (Err e) is h =
    let P : NoLine → Type 0 = λ w. Does k old a (Some w) new in
    subst P (sym is) h

-- what closes the goals of a sequence of calls
pub ruleset doing = (Does-skip, Does-then, Does-exit, Does-last)

-- a call on a part of a state
pub Does-lift : {R S T : Type 0} {k : Keeping T} (get : R → S) (set : S → R → R) {act : Act S} {why : Option NoLine} (r : R) {old new : Seen T} {s : S} → Does k (record { state = get r; seen = old }) act why (record { state = s; seen = new }) → Does k (record { state = r; seen = old }) (lift get set act) why (record { state = set s r; seen = new })
Does-lift get set r h = record { lines = h.lines; state = λ w. ap (λ s. set s r) (h.state w) }

-- the act that the state asks for
pub Does-by : {S T : Type 0} {k : Keeping T} (choose : S → Act S) {why : Option NoLine} (old : At S T) {new : At S T} → Does k old (choose old.state) why new → Does k old (by choose) why new
Does-by choose old h = record { lines = h.lines; state = h.state }

-- a call that stopped says nothing of the state
pub Does-anywhere : {S T : Type 0} {k : Keeping T} {old : At S T} {act : Act S} {why : NoLine} {s : S} (t : S) {seen : Seen T} → Does k old act (Some why) (record { state = s; seen = seen }) → Does k old act (Some why) (record { state = t; seen = seen })
Does-anywhere t h = record { lines = h.lines; state = λ w. absurd (cc) }

-- one line, and no change
pub Does-give : {S T : Type 0} {k : Keeping T} (line : S → Line) (s : S) {why : Option NoLine} {old new : Seen T} → Gives k old (line s ∷ []) why new → Does k (record { state = s; seen = old }) (give line) why (record { state = s; seen = new })
Does-give line s h = record { lines = h; state = λ _. refl }
