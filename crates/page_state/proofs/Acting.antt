-- Functions of the page that are done to all that it keeps, one after another and by its parts.
use Rattle.std.proofs.Common.{◌≡◌, List, [], refl, sym, ◌∙◌, ap, subst, Option, Some, None, Result}
use Rattle.std.specs.Result.{IsErrAnd, result_err}
use Rattle.page_types.specs.Events.{Stamped}
use Rattle.page_model.specs.State.{Page}
use Rattle.page_model.specs.Additions.{after}
use Rattle.trace_text.specs.declared.lines.NoLine.{NoLine}
use Rattle.trace_text.specs.declared.lines.NoLine.TheVariants.{OutOfMemory}
use Rattle.trace_text.specs.Given.{Keeping, Seen, Gives}
use Rattle.trace_text.specs.Acts.{Act, At, seq, Does as ScriptDoes}
use Rattle.trace_text.proofs.Giving.{Gives-none}
use Rattle.page_notices.proofs.Timing.{Does-memory}
use Rattle.page_script.specs.Script.{Script}
use Rattle.page_script.specs.Script as parts
use Rattle.page_script.specs.PageActs.{lines_of, OnlyAdds, OnlyScript}
use Rattle.page_script.specs.ScriptActs.{on_script, on}
use Rattle.page_script.proofs.Lifting.{append_none, lines_of-append}
use Rattle.page_script.proofs.Lifting as acts
use Rattle.trace_text.proofs.Doing as acts_done
use Rattle.page_state.specs.Standing.{Standing, page_of, port_of, holding}
use Rattle.page_state.specs.PageActs.{on_page, changed_by, at, Does}

-- ---- Acts of all that a page keeps

-- two acts that are the same here
pub Does-same : {T : Type 0} {k : Keeping T} {old new : At Standing T} (a b : Act Standing) {why : Option NoLine} → a old.state ≡ b old.state → Does k old a why new → Does k old b why new
Does-same a b e h = record { acts = acts.Does-same a b e h.acts; port = h.port }

-- an act that was done, and then another, which may stop
pub Does-then : {T : Type 0} {k : Keeping T} {old mid new : At Standing T} {a b : Act Standing} {why : Option NoLine} → Does k old a None mid → Does k mid b why new → Does k old (seq a b) why new
Does-then h g = record { acts = acts_done.Does-then h.acts g.acts; port = g.port ∙ h.port }

-- the exit of a `?` behind the call that stopped
pub Does-exit : {T X : Type 0} {k : Keeping T} {old new : At Standing T} {a : Act Standing} (b : Act Standing) (r : Result X NoLine) {why : NoLine}
    → IsErrAnd r (λ e. e ≡ why) → Does k old a (Some why) new → Does k old (seq a b) (result_err r) new
Does-exit b r is h = record { acts = acts_done.Does-exit b r is h.acts; port = h.port }

-- the same where nothing follows
pub Does-last : {T X : Type 0} {k : Keeping T} {old new : At Standing T} {a : Act Standing} (r : Result X NoLine) {why : NoLine}
    → IsErrAnd r (λ e. e ≡ why) → Does k old a (Some why) new → Does k old a (result_err r) new
Does-last r is h = record { acts = acts_done.Does-last r is h.acts; port = h.port }

-- ---- One after another

on_page-then : (f g : Page → Page) → OnlyAdds g → (s : Standing) → on_page (λ p. g (f p)) s ≡ seq (on_page f) (on_page g) s
unfolding on_page seq
on_page-then f g only s =
    let q = f (page_of s) in
    let mid = holding q s in
    let e : g q ≡ after q.events (g (page_of mid)) = only q.events (page_of mid) in
    ap (λ r. record { state = holding r s; lines = lines_of r.events }) e
    ∙ ap (λ ls. record { state = holding (g (page_of mid)) s; lines = ls }) (lines_of-append (g (page_of mid)).events q.events)

-- a function that was done, and then another, which may stop
pub Does-next : {T : Type 0} {k : Keeping T} {old mid new : At Standing T} (f g : Page → Page) {why : Option NoLine} → OnlyAdds g
    → Does k old (on_page f) None mid → Does k mid (on_page g) why new → Does k old (on_page (λ p. g (f p))) why new
Does-next {old = old} f g only h rest = Does-same (seq (on_page f) (on_page g)) (on_page (λ p. g (f p))) (sym (on_page-then f g only old.state)) (Does-then h rest)

-- the exit of a `?` behind the first one
pub Does-leave : {T X : Type 0} {k : Keeping T} {old new : At Standing T} (f g : Page → Page) (r : Result X NoLine) {why : NoLine} → OnlyAdds g
    → IsErrAnd r (λ e. e ≡ why) → Does k old (on_page f) (Some why) new → Does k old (on_page (λ p. g (f p))) (result_err r) new
Does-leave {old = old} f g r only is h = Does-same (seq (on_page f) (on_page g)) (on_page (λ p. g (f p))) (sym (on_page-then f g only old.state)) (Does-exit (on_page g) r is h)

-- the function that the page asks for
pub Does-asked : {T : Type 0} {k : Keeping T} (choose : Page → Page → Page) (old : At Standing T) {new : At Standing T} {why : Option NoLine}
    → Does k old (on_page (choose (page_of old.state))) why new → Does k old (on_page (λ p. choose p p)) why new
unfolding on_page
Does-asked choose old h = record { acts = record { lines = h.acts.lines; state = h.acts.state }; port = h.port }

-- a function that is the same at this page
pub Does-is : {T : Type 0} {k : Keeping T} (f g : Page → Page) (old : At Standing T) {new : At Standing T} {why : Option NoLine} → f (page_of old.state) ≡ g (page_of old.state)
    → Does k old (on_page f) why new → Does k old (on_page g) why new
unfolding on_page
Does-is f g old e h = Does-same (on_page f) (on_page g) (ap (λ q. record { state = holding q old.state; lines = lines_of q.events }) e) h

-- nothing
pub Does-idle : {T : Type 0} (k : Keeping T) (s : Standing) (seen : Seen T) → Does k (at s seen) (on_page (λ p. p)) None (at s seen)
unfolding on_page
Does-idle k s seen = record { acts = record { lines = Gives-none k seen; state = λ _. refl }; port = refl }

-- a change with no line
pub Does-silent : {T : Type 0} (k : Keeping T) (f : Page → Page) (s : Standing) (seen : Seen T) {mid : Standing} → (f (page_of s)).events ≡ []
    → mid ≡ changed_by f s → Does k (at s seen) (on_page f) None (at mid seen)
unfolding on_page
Does-silent k f s seen none is = record {
  acts = record {
    lines = let P : List Stamped → Type 0 = λ es. Gives k seen (lines_of es) None seen in subst P (sym none) (Gives-none k seen);
    state = λ _. is;
  };
  port = ap port_of is;
}

-- want of memory, before any line
pub Does-wants : {T : Type 0} (k : Keeping T) (f : Page → Page) (s mid : Standing) (seen : Seen T) → port_of mid ≡ port_of s → Does k (at s seen) (on_page f) (Some OutOfMemory) (at mid seen)
Does-wants k f s mid seen port = record { acts = Does-memory k (on_page f) s mid seen; port = port }

-- ---- The script's part

-- what is done to the script's part is done to the page, of which every other field stays
pub Does-script : {T : Type 0} {k : Keeping T} (f : Page → Page) (s : Standing) {t : Script} {old new : Seen T} {why : Option NoLine} → OnlyScript f
    → ScriptDoes k (on s.script old) (on_script f) why (on t new) → Does k (at s old) (on_page f) why (at (record s { script = t }) new)
unfolding on_script on_page
Does-script {k = k} f s {old = old} {new = new} {why = why} only h =
    let made = f (parts.holding s.script) in
    record {
      acts = record {
        lines =
            let P : List Stamped → Type 0 = λ es. Gives k old (lines_of es) why new in
            subst P (sym (ap (λ q. q.events) (only (page_of s)) ∙ append_none made.events)) h.lines;
        state = λ w. ap (λ t. record s { script = t }) (h.state w) ∙ sym (ap (λ q. holding q s) (only (page_of s)));
      };
      port = refl;
    }
