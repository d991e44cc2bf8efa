-- What the laws say: what a call does to the script's part it does to a page that has this part.
use Rattle.std.specs.Prelude.{Option, None}
use Rattle.page_model.specs.State.{Page}
use Rattle.trace_text.specs.declared.lines.NoLine.{NoLine}
use Rattle.trace_text.specs.Given.{Keeping, Seen}
use Rattle.trace_text.specs.Acts.{Does}
use Rattle.page_script.specs.Script.{Script, script_of, with_script, holding}
use Rattle.page_script.specs.PageActs.{act, bare, OnlyAdds, OnlyScript, OnlyScriptAndTasks, queue_each, on_page}
use Rattle.page_script.specs.ScriptActs.{on, on_script}

-- f, where it touches the script's part alone, is done to a page by doing it to this part
abbrev pub IsDoneToPages : {T : Type 0} → Keeping T → (f : Page → Page) → Type 0
IsDoneToPages {T} k f =
    (p : Page) (s : Script) (old new : Seen T) (why : Option NoLine) → OnlyScript f
    → Does k (on (script_of p) old) (on_script f) why (on s new)
    → Does k (on_page (bare p) old) (act f) why (on_page (with_script s (bare p)) new)

-- the same where f queues tasks besides: those that it queues on a page with no other task are queued
abbrev pub IsDoneWithTasks : {T : Type 0} → Keeping T → (f : Page → Page) → Type 0
IsDoneWithTasks {T} k f =
    (p : Page) (s : Script) (old new : Seen T) (why : Option NoLine) → OnlyScriptAndTasks f
    → Does k (on (script_of p) old) (on_script f) why (on s new)
    → Does k (on_page (bare p) old) (act f) why
    (on_page (queue_each (f (holding (script_of p))).tasks (with_script s (bare p))) new)

-- one function of this kind after another is such a function again
abbrev pub Composes : (only : (Page → Page) → Type 0) → Type 0
Composes only = (f g : Page → Page) → only f → only g → only (λ p. g (f p))

-- g is done to the script's part after f, where it touches this part alone
abbrev pub FollowsOnScript : {T : Type 0} → Keeping T → (f g : Page → Page) → Type 0
FollowsOnScript {T} k f g =
    (s mid new : Script) (old seen after : Seen T) (why : Option NoLine) → OnlyScript g
    → Does k (on s old) (on_script f) None (on mid seen)
    → Does k (on mid seen) (on_script g) why (on new after)
    → Does k (on s old) (on_script (λ p. g (f p))) why (on new after)

-- g is done to a page after f, where it only adds lines
abbrev pub FollowsOnPage : {T : Type 0} → Keeping T → (f g : Page → Page) → Type 0
FollowsOnPage {T} k f g =
    (p mid new : Page) (old seen after : Seen T) (why : Option NoLine) → OnlyAdds g
    → Does k (on_page p old) (act f) None (on_page mid seen)
    → Does k (on_page mid seen) (act g) why (on_page new after)
    → Does k (on_page p old) (act (λ p. g (f p))) why (on_page new after)
