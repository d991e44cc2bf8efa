use Rattle.std.proofs.Common.{ℕ, List, ◌∙◌, ap, Option, Some, None}
use Rattle.page_types.specs.declared.FaultName.TheVariants.{TypeError}
use Rattle.page_types.specs.declared.Priority.{Priority}
use Rattle.page_parts.specs.TaskSignals.{priority_of}
use Rattle.lang_meaning.specs.Machine.{Done, given}
use Rattle.page_model.specs.State.{Page, State}
use Rattle.page_model.specs.PageHost.{bare}
use Rattle.page_model.specs.Operations.{any_following, any_with_priority}
use Rattle.page_state.specs.Standing.{page_of}
use Rattle.page_state.specs.PageActs.{at}
use Rattle.page_answers.proofs.Answering.{Answers-is}
use Rattle.page_answers.proofs.Choosing.{Answers-fault}
use Rattle.signal_operations.proofs.making.any_following.Goals as goal

-- the same with the signal that is followed and its priority
abbrev following : List ℕ → (on : ℕ) → Option Priority → State → Done Page
following ss on priority m = given priority TypeError m (λ priority m. any_with_priority ss priority (Some on) m)

pub returns-in-Some : goal.returns-in-Some
returns-in-Some g c =
    let ss = c.args.of.now in
    let p = page_of c.args.page.now in
    let on = c.followed_through-on.result in
    let old = at c.args.page.now (g.L.Lines.seen c.args.lines.now) in
    Answers-is (following ss on (Some c.in-Some.priority)) (any_following ss c.args.s) old
    (ap (λ (o : Option Priority). following ss on o (bare p)) c.in-Some.ensures ∙ ap (λ (n : ℕ). following ss n (priority_of p.prios n) (bare p)) c.followed_through-on.ensures)
    c.any_with_priority.ensures

pub returns-in-None : goal.returns-in-None
returns-in-None g c =
    let ss = c.args.of.now in
    let p = page_of c.args.page.now in
    let on = c.followed_through-on.result in
    let old = at c.args.page.now (g.L.Lines.seen c.args.lines.now) in
    Answers-is (following ss on None) (any_following ss c.args.s) old
    (ap (λ (o : Option Priority). following ss on o (bare p)) c.in-None.ensures ∙ ap (λ (n : ℕ). following ss n (priority_of p.prios n) (bare p)) c.followed_through-on.ensures)
    (Answers-fault g.L.Lines.keeping TypeError old c.throw.result c.throw.ensures)
