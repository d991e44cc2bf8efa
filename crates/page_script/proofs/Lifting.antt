-- From what is done to the script's part to what is done to a whole page, and acts that are done one after another.
use Rattle.std.proofs.Common.{◌≡◌, ℕ, List, [], ◌∷◌, ◌++◌, map, append_assoc, refl, sym, ◌∙◌, ap, subst, Option, Some, None, Result}
use Rattle.std.specs.Prelude.{reverse}
use Rattle.std.proofs.lemmas.List.{reverse-append}
use Rattle.std.specs.Result.{IsErrAnd, result_err}
use Rattle.page_types.specs.Events.{Stamped, Event}
use Rattle.page_model.specs.State.{Page, emit}
use Rattle.page_model.specs.Additions.{after}
use Rattle.trace_text.specs.Line.{Of}
use Rattle.trace_text.specs.declared.lines.NoLine.{NoLine}
use Rattle.trace_text.specs.declared.lines.NoLine.TheVariants.{OutOfMemory}
use Rattle.trace_text.specs.Given.{Keeping, Seen, Gives}
use Rattle.trace_text.specs.Acts.{Piece, Act, At, Does, seq}
use Rattle.trace_text.proofs.Giving.{Gives-none}
use Rattle.trace_text.proofs.Doing.{Does-then, Does-exit, Does-last}
use Rattle.page_notices.proofs.Timing.{Does-memory}
use Rattle.page_script.specs.Script.{Script, script_of, with_script, holding}
use Rattle.page_script.specs.PageActs.{bare, lines_of, act, OnlyAdds, spread, OnlyScript}
use Rattle.page_script.specs.ScriptActs.{on_script, on, changed_by}

-- ---- Lists of events

pub append_none : {X : Type 0} (xs : List X) → xs ++ [] ≡ xs
append_none [] = refl
append_none (x ∷ xs) = ap (λ ys. x ∷ ys) (append_none xs)

map_append : (xs ys : List Stamped) → map Of (xs ++ ys) ≡ map Of xs ++ map Of ys
map_append [] ys = refl
map_append (x ∷ xs) ys = ap (λ zs. Of x ∷ zs) (map_append xs ys)

pub lines_of-append : (xs ys : List Stamped) → lines_of (xs ++ ys) ≡ lines_of ys ++ lines_of xs
lines_of-append xs ys = ap (map Of) (reverse-append xs ys) ∙ map_append (reverse ys) (reverse xs)

-- ---- Functions that touch the script's part alone

-- they only add lines
pub OnlyScript-adds : (f : Page → Page) → OnlyScript f → OnlyAdds f
OnlyScript-adds f only es p =
    let made = f (holding (script_of p)) in
    only (after es p)
    ∙ (ap (λ events. record (with_script (script_of made) p) { events = events }) (sym (append_assoc made.events p.events es))
    ∙ sym (ap (after es) (only p)))

-- one, and then another
pub OnlyScript-then : (f g : Page → Page) → OnlyScript f → OnlyScript g → OnlyScript (λ p. g (f p))
OnlyScript-then f g only_f only_g p =
    let made = f (holding (script_of p)) in
    let next = g (holding (script_of made)) in
    ap g (only_f p) ∙ only_g (spread made p)
    ∙ (ap (λ events. record (with_script (script_of next) p) { events = events }) (sym (append_assoc next.events made.events p.events))
    ∙ sym (ap (λ q. spread q p) (only_g made)))

-- nothing
pub OnlyScript-none : OnlyScript (λ p. p)
OnlyScript-none p = refl

-- one line
pub emit-only : (e : Event) → OnlyScript (emit e)
emit-only e p = refl

-- ---- Acts one after another

-- two acts that are the same at this state
pub Does-same : {S T : Type 0} {k : Keeping T} {old new : At S T} (a b : Act S) {why : Option NoLine} → a old.state ≡ b old.state → Does k old a why new → Does k old b why new
Does-same {k = k} {old = old} {new = new} a b {why = why} e h = record {
  lines = let P : Piece _ → Type 0 = λ x. Gives k old.seen x.lines why new.seen in subst P e h.lines;
  state = λ w. h.state w ∙ ap (λ x. x.state) e;
}

-- an act on the script's part, and then another
on_script-then : (f g : Page → Page) → OnlyScript g → (s : Script) → on_script (λ p. g (f p)) s ≡ seq (on_script f) (on_script g) s
unfolding on_script seq
on_script-then f g only s =
    let made = f (holding s) in
    let next = g (holding (script_of made)) in
    ap (λ q. record { state = script_of q; lines = lines_of q.events }) (only made)
    ∙ ap (λ ls. record { state = script_of next; lines = ls }) (lines_of-append next.events made.events)

-- an act on the script's part that was done, and then another, which may stop
pub Does-next : {T : Type 0} {k : Keeping T} {old mid new : At Script T} (f g : Page → Page) {why : Option NoLine} → OnlyScript g
    → Does k old (on_script f) None mid → Does k mid (on_script g) why new → Does k old (on_script (λ p. g (f p))) why new
Does-next {old = old} f g only h rest = Does-same (seq (on_script f) (on_script g)) (on_script (λ p. g (f p))) (sym (on_script-then f g only old.state)) (Does-then h rest)

-- the exit of a `?` behind the first one
pub Does-leave : {T X : Type 0} {k : Keeping T} {old new : At Script T} (f g : Page → Page) (r : Result X NoLine) {why : NoLine} → OnlyScript g
    → IsErrAnd r (λ e. e ≡ why) → Does k old (on_script f) (Some why) new → Does k old (on_script (λ p. g (f p))) (result_err r) new
Does-leave {old = old} f g r only is h = Does-same (seq (on_script f) (on_script g)) (on_script (λ p. g (f p))) (sym (on_script-then f g only old.state)) (Does-exit (on_script g) r is h)

-- the function that the state asks for
pub Does-asked : {T : Type 0} {k : Keeping T} (choose : Page → Page → Page) (old : At Script T) {new : At Script T} {why : Option NoLine}
    → Does k old (on_script (choose (holding old.state))) why new → Does k old (on_script (λ p. choose p p)) why new
unfolding on_script
Does-asked choose old h = record { lines = h.lines; state = h.state }

-- a change with no line
pub Does-silent : {T : Type 0} (k : Keeping T) (f : Page → Page) (s : Script) (seen : Seen T) {mid : Script} → (f (holding s)).events ≡ []
    → mid ≡ changed_by f s → Does k (on s seen) (on_script f) None (on mid seen)
unfolding on_script
Does-silent k f s seen {mid = mid} none is = record {
  lines = let P : List Stamped → Type 0 = λ es. Gives k seen (lines_of es) None seen in subst P (sym none) (Gives-none k seen);
  state = λ _. is;
}

-- a change with no line, and then one line
pub Does-line : {T : Type 0} {k : Keeping T} (f : Page → Page) (e : Event) (s mid : Script) {old : Seen T} {new : At Script T} {why : Option NoLine} → (f (holding s)).events ≡ []
    → mid ≡ changed_by f s → Does k (on mid old) (on_script (emit e)) why new → Does k (on s old) (on_script (λ p. emit e (f p))) why new
Does-line {k = k} f e s mid {old = old} none is h = Does-next f (emit e) (emit-only e) (Does-silent k f s old none is) h

-- one line, and no change
pub Does-emit : {T : Type 0} {k : Keeping T} (e : Event) (s : Script) {time : ℕ} {old new : Seen T} {why : Option NoLine} → time ≡ s.now
    → Gives k old (Of (record { time = time; event = e }) ∷ []) why new → Does k (on s old) (on_script (emit e)) why (on s new)
unfolding on_script
Does-emit {k = k} e s {old = old} {new = new} {why = why} is h = record {
  lines = let P : ℕ → Type 0 = λ t. Gives k old (Of (record { time = t; event = e }) ∷ []) why new in subst P is h;
  state = λ _. refl;
}

-- the exit of a `?` for want of memory, before any line
pub Does-wants : {T X : Type 0} (k : Keeping T) (f : Page → Page) (s mid : Script) (seen : Seen T) (r : Result X NoLine) {why : NoLine} → IsErrAnd r (λ e. e ≡ why) → why ≡ OutOfMemory
    → Does k (on s seen) (on_script f) (result_err r) (on mid seen)
Does-wants k f s mid seen r {why = why} is memory =
    let P : NoLine → Type 0 = λ w. Does k (on s seen) (on_script f) (Some w) (on mid seen) in
    Does-last r is (subst P (sym memory) (Does-memory k (on_script f) s mid seen))

-- nothing
pub Does-idle : {T : Type 0} (k : Keeping T) (s : Script) (seen : Seen T) → Does k (on s seen) (on_script (λ p. p)) None (on s seen)
unfolding on_script
Does-idle k s seen = record { lines = Gives-none k seen; state = λ _. refl }

-- ---- The whole page

-- what is done to the script's part is done to a page that has this part, of which every other field stays
pub Does-script : {T : Type 0} {k : Keeping T} (f : Page → Page) (p : Page) {s : Script} {old new : Seen T} {why : Option NoLine} → OnlyScript f
    → Does k (on (script_of p) old) (on_script f) why (on s new)
    → Does k (record { state = bare p; seen = old }) (act f) why (record { state = with_script s (bare p); seen = new })
unfolding on_script act
Does-script {k = k} f p {old = old} {new = new} {why = why} only h =
    let made = f (holding (script_of p)) in
    record {
      lines =
          let P : List Stamped → Type 0 = λ es. Gives k old (lines_of es) why new in
          subst P (sym (ap (λ q. q.events) (only (bare p)) ∙ append_none made.events)) h.lines;
      state = λ w. ap (λ t. with_script t (bare p)) (h.state w) ∙ sym (ap bare (only (bare p)));
    }
