-- Changes with no line, and the line of an event behind one.
use Rattle.std.proofs.Common.{◌≡◌, [], refl, sym, ap, subst, ◌∙◌, Option, Some, Result, Ok, Err}
use Rattle.std.specs.Prelude.{IfErr, OnOk}
use Rattle.std.specs.Result.{IsErrAnd, result_err}
use Rattle.page_types.specs.Events.{Event}
use Rattle.page_model.specs.State.{Page, emit}
use Rattle.trace_text.specs.declared.lines.NoLine.{NoLine}
use Rattle.trace_text.specs.declared.lines.NoLine.TheVariants.{OutOfMemory}
use Rattle.trace_text.specs.Given.{Keeping, Seen}
use Rattle.trace_text.specs.Acts.{At}
use Rattle.page_script.specs.PageActs.{OnlyAdds}
use Rattle.page_state.specs.Standing.{Standing, page_of, port_of}
use Rattle.page_state.specs.PageActs.{on_page, changed_by, at, Does, IsWanted}
use Rattle.page_state.proofs.Acting.{Does-last, Does-next, Does-is, Does-silent, Does-wants}

pub emit-adds : (e : Event) → OnlyAdds (emit e)
emit-adds e es p = refl

-- a change with no line, and then the line of the event that the page asks for
pub Does-told : {T : Type 0} {k : Keeping T} (f : Page → Page) (event : Page → Event) (e : Event) (s mid : Standing) {old : Seen T} {new : At Standing T} {why : Option NoLine}
    → (f (page_of s)).events ≡ [] → mid ≡ changed_by f s → e ≡ event (page_of s)
    → Does k (at mid old) (on_page (emit e)) why new → Does k (at s old) (on_page (λ p. emit (event p) (f p))) why new
Does-told {k = k} f event e s mid {old = old} none done is h =
    Does-is (λ p. emit e (f p)) (λ p. emit (event p) (f p)) (at s old) (ap (λ e. emit e (f (page_of s))) is)
    (Does-next f (emit e) (emit-adds e) (Does-silent k f s old none done) h)

-- memory was wanting, and nothing was done
pub wanted-still : {why : NoLine} {s : Standing} → why ≡ OutOfMemory → IsWanted why s s
wanted-still memory = record { memory = memory; port = refl }

-- memory was wanting behind what left the host port alone
pub wanted-then : {why : NoLine} {s mid new : Standing} → port_of mid ≡ port_of s → IsWanted why mid new → IsWanted why s new
wanted-then port w = record { memory = w.memory; port = w.port ∙ port }

-- the exit of a `?` for want of memory, before any line
pub Does-wanted : {T X : Type 0} (k : Keeping T) (f : Page → Page) (s mid : Standing) (seen : Seen T) (r : Result X NoLine) {why : NoLine} → IsErrAnd r (λ e. e ≡ why) → IsWanted why s mid
    → Does k (at s seen) (on_page f) (result_err r) (at mid seen)
Does-wanted k f s mid seen r {why = why} is memory =
    let P : NoLine → Type 0 = λ w. Does k (at s seen) (on_page f) (Some w) (at mid seen) in
    Does-last r is (subst P (sym memory.memory) (Does-wants k f s mid seen memory.port))

-- a call that changes the page with no line, or wants memory
pub Does-quiet : {T X : Type 0} (k : Keeping T) (f : Page → Page) (s mid : Standing) (seen : Seen T) (r : Result X NoLine) → (f (page_of s)).events ≡ []
    → OnOk r (mid ≡ changed_by f s) → IfErr r (λ why. IsWanted why s mid) → Does k (at s seen) (on_page f) (result_err r) (at mid seen)
Does-quiet k f s mid seen (Ok x) none done memory = Does-silent k f s seen none done
Does-quiet k f s mid seen (Err e) none done memory =
    let P : NoLine → Type 0 = λ w. Does k (at s seen) (on_page f) (Some w) (at mid seen) in
    subst P (sym memory.memory) (Does-wants k f s mid seen memory.port)
