-- Reports to combinators.
use Rattle.std.proofs.Common.{◌≡◌, ℕ, Option, Some, None, refl, subst}
use Rattle.std.specs.Prelude.{find, ◌==◌}
use Rattle.page_parts.specs.Promises.{Settled}
use Rattle.page_parts.specs.Combinators.{Report, with_report, report_answer}
use Rattle.page_model.specs.State as m
use Rattle.page_model.specs.State.{Element}
use Rattle.page_model.specs.PagePromises as promises
use Rattle.page_model.specs.PageCombinators.{element_at, combining_at, settle_result, with_combining, report_to, report, lead_into}
use Rattle.trace_text.specs.declared.lines.NoLine.{NoLine}
use Rattle.trace_text.specs.Given.{Keeping, Seen}
use Rattle.trace_text.specs.Acts.{At, Does}
use Rattle.page_script.specs.Script.{Script, holding}
use Rattle.page_script.specs.ScriptActs.{on_script, on, changed_by}
use Rattle.page_script.proofs.Lifting.{Does-next, Does-asked, Does-silent}
use Rattle.page_script.proofs.Touching.{settle_result-only}

-- the combinator with this report
abbrev reported : Report → m.Combining → m.Combining
reported r c = record c { combine = with_report r c.combine }

-- a report was noted, and then comes what it brings
pub Does-report : {T : Type 0} {k : Keeping T} (e : Element) (how : Settled) (s mid : Script) (result : ℕ) (answer : Option Settled) {old : Seen T} {new : At Script T} {why : Option NoLine}
    → let c = combining_at (holding s) e.combinator in
    let r : Report = record { place = e.place; outcome = how } in
    result ≡ c.result → answer ≡ report_answer r c.combine → mid ≡ changed_by (with_combining e.combinator (reported r c)) s
    → Does k (on mid old) (on_script (settle_result answer result)) why new → Does k (on s old) (on_script (report e how)) why new
Does-report {k = k} e how s mid result answer {old = old} {new = new} {why = why} to brings is h =
    let c = combining_at (holding s) e.combinator in
    let r : Report = record { place = e.place; outcome = how } in
    let P : ℕ → Type 0 = λ n. Does k (on mid old) (on_script (settle_result answer n)) why new in
    let Q : Option Settled → Type 0 = λ o. Does k (on mid old) (on_script (settle_result o c.result)) why new in
    let noted = with_combining e.combinator (reported r c) in
    let next = settle_result (report_answer r c.combine) c.result in
    Does-asked (λ q. report_to (combining_at q e.combinator) e.combinator r) (on s old)
    (Does-next noted next (settle_result-only (report_answer r c.combine) c.result) (Does-silent k noted s old refl is) (subst Q brings (subst P to h)))

-- an outcome is led into what a promise is
pub Does-led : {T : Type 0} {k : Keeping T} (into : ℕ) (how : Settled) (s : Script) (o : Option Element) {old : Seen T} {new : At Script T} {why : Option NoLine}
    → o ≡ find (λ e. e.promise == into) s.elements
    → Does k (on s old) (on_script (λ p. elim o [ None ↦ promises.follow into how p | Some e ↦ report e how p ])) why new
    → Does k (on s old) (on_script (lead_into into how)) why new
Does-led {k = k} into how s o {old = old} {new = new} {why = why} is h =
    let P : Option Element → Type 0 = λ o. Does k (on s old) (on_script (λ p. elim o [ None ↦ promises.follow into how p | Some e ↦ report e how p ])) why new in
    Does-asked (λ q p. elim (element_at q into) [ None ↦ promises.follow into how p | Some e ↦ report e how p ]) (on s old) (subst P is h)
