-- Lines of aborts and abort steps of registrations, one after another.
use Rattle.std.proofs.Common.{◌≡◌, ℕ, ◌+◌, ◌<◌, ◌≤◌, length, List, [], ◌∷◌, map, drop, get_or, sym, subst, Option, Some, None, Result}
use Rattle.std.specs.Result.{IsErrAnd, result_err}
use Rattle.std.proofs.lemmas.List.{at_drop_more, at_drop_all}
use Rattle.page_types.specs.Values.{Value}
use Rattle.page_types.specs.Events.{Abort}
use Rattle.page_model.specs.State.{emit, emit_each}
use Rattle.page_model.specs.PageSignals.{abort_registration, abort_registrations}
use Rattle.page_model.proofs.Adding.Lines.{emit_each-adds, abort_registrations-adds}
use Rattle.trace_text.specs.declared.lines.NoLine.{NoLine}
use Rattle.trace_text.specs.Given.{Keeping, Seen}
use Rattle.trace_text.specs.Acts.{Act, At}
use Rattle.page_state.specs.Standing.{Standing}
use Rattle.page_state.specs.PageActs.{on_page, at, Does}
use Rattle.page_state.proofs.Acting.{Does-next, Does-leave, Does-idle}

-- ---- lines

-- the lines that are left, from a place on
abbrev pub lines_left : (i : ℕ) → List ℕ → Act Standing
lines_left i ss = on_page (emit_each (map Abort (drop i ss)))

module _ {T : Type 0} {k : Keeping T} (ss : List ℕ) (i : ℕ) (s : Standing) {old : Seen T} (within : i < length ss) where
  pub Does-line : {mid new : At Standing T} {why : Option NoLine} → Does k (at s old) (on_page (emit (Abort (get_or ss i 0)))) None mid
      → Does k mid (lines_left (i + 1) ss) why new → Does k (at s old) (lines_left i ss) why new
  Does-line {new = new} {why = why} given h =
      let more = map Abort (drop (i + 1) ss) in
      let P : Act Standing → Type 0 = λ a. Does k (at s old) a why new in
      subst P (sym (at_drop_more (λ ys. on_page (emit_each (map Abort ys))) ss i 0 within))
      (Does-next (emit (Abort (get_or ss i 0))) (emit_each more) (λ es p. emit_each-adds es more p) given h)

  pub Does-no_line : {X : Type 0} {new : At Standing T} (r : Result X NoLine) {why : NoLine} → IsErrAnd r (λ e. e ≡ why)
      → Does k (at s old) (on_page (emit (Abort (get_or ss i 0)))) (Some why) new → Does k (at s old) (lines_left i ss) (result_err r) new
  Does-no_line {new = new} r err h =
      let more = map Abort (drop (i + 1) ss) in
      let P : Act Standing → Type 0 = λ a. Does k (at s old) a (result_err r) new in
      subst P (sym (at_drop_more (λ ys. on_page (emit_each (map Abort ys))) ss i 0 within))
      (Does-leave (emit (Abort (get_or ss i 0))) (emit_each more) r (λ es p. emit_each-adds es more p) err h)

pub Does-all_lines : {T : Type 0} (k : Keeping T) (ss : List ℕ) (i : ℕ) (s : Standing) (lines : Seen T) → length ss ≤ i → Does k (at s lines) (lines_left i ss) None (at s lines)
Does-all_lines k ss i s lines past =
    let P : Act Standing → Type 0 = λ a. Does k (at s lines) a None (at s lines) in
    subst P (sym (at_drop_all (λ ys. on_page (emit_each (map Abort ys))) ss i past)) (Does-idle k s lines)

-- ---- abort steps

module _ {T : Type 0} {k : Keeping T} (reason v : Value) (copied : v ≡ reason) (r : ℕ) (before more : List ℕ) (is : before ≡ r ∷ more) (s : Standing) {old : Seen T} where
  pub Does-aborted : {mid new : At Standing T} {why : Option NoLine} → Does k (at s old) (on_page (abort_registration v r)) None mid
      → Does k mid (on_page (abort_registrations reason more)) why new → Does k (at s old) (on_page (abort_registrations reason before)) why new
  Does-aborted {mid = mid} {new = new} {why = why} done h =
      let P : List ℕ → Type 0 = λ rs. Does k (at s old) (on_page (abort_registrations reason rs)) why new in
      let Q : Value → Type 0 = λ x. Does k (at s old) (on_page (abort_registration x r)) None mid in
      subst P (sym is) (Does-next (abort_registration reason r) (abort_registrations reason more) (λ es p. abort_registrations-adds es reason more p) (subst Q copied done) h)

  pub Does-not_aborted : {X : Type 0} {new : At Standing T} (e : Result X NoLine) {why : NoLine} → IsErrAnd e (λ x. x ≡ why)
      → Does k (at s old) (on_page (abort_registration v r)) (Some why) new → Does k (at s old) (on_page (abort_registrations reason before)) (result_err e) new
  Does-not_aborted {new = new} e {why = why} err h =
      let P : List ℕ → Type 0 = λ rs. Does k (at s old) (on_page (abort_registrations reason rs)) (result_err e) new in
      let Q : Value → Type 0 = λ x. Does k (at s old) (on_page (abort_registration x r)) (Some why) new in
      subst P (sym is) (Does-leave (abort_registration reason r) (abort_registrations reason more) e (λ es p. abort_registrations-adds es reason more p) err (subst Q copied h))

pub Does-none_left : {T : Type 0} (k : Keeping T) (reason : Value) (rs : List ℕ) (s : Standing) (seen : Seen T) → rs ≡ [] → Does k (at s seen) (on_page (abort_registrations reason rs)) None (at s seen)
Does-none_left k reason rs s seen e =
    let P : List ℕ → Type 0 = λ rs. Does k (at s seen) (on_page (abort_registrations reason rs)) None (at s seen) in
    subst P (sym e) (Does-idle k s seen)
