-- A script around the page that hands its lines on does what it does around the page that keeps its events.
use Rattle.std.proofs.Common.{◌≡◌, List, Option, sym, ap, ◌∙◌}
use Rattle.page_types.specs.Events.{Stamped}
use Rattle.page_types.specs.Tree.{Program}
use Rattle.lang_meaning.specs.Evaluation.{call_from_outside}
use Rattle.lang_meaning.specs.HostSteps.{AskOp, AskResume, Stepped, host_operations}
use Rattle.lang_meaning.specs.Following.{CallsFollow}
use Rattle.page_model.specs.PageHost.{Hosting, page_rules}
use Rattle.trace_text.specs.declared.lines.NoLine.{NoLine}
use Rattle.trace_text.specs.Given.{Keeping, after_all}
use Rattle.trace_text.proofs.Giving.{after_all-append}
use Rattle.page_script.proofs.Lifting.{lines_of-append}
use Rattle.page_script.specs.PageActs.{lines_of}
use Rattle.page_rules.specs.Lined.{bare_hosting, handed_on, lined_rules, lined, hosting_after, stepped_by, RulesFollow}
use Rattle.page_rules.proofs.RulesAdd.{rules-add}
use Rattle.page_rules.proofs.FollowingRules.{calls-follow-rules}

-- the step of a page that has no events, and then its lines behind others
handed-on : {T : Type 0} (k : Keeping T) (told : Option T) (stopped : Option NoLine) (es : List Stamped) (page : Hosting) (s : Stepped Hosting)
    → handed_on k (record { hosting = page; told = after_all k told (lines_of es); stopped = stopped }) s ≡ stepped_by (lined k told stopped) (stepped_by (hosting_after es) s)
handed-on k told stopped es page s =
    ap (λ t. record { step = s.step; host = record { hosting = bare_hosting s.host; told = t; stopped = stopped } })
    (sym (ap (after_all k told) (lines_of-append s.host.page.events es) ∙ after_all-append k told (lines_of es) (lines_of s.host.page.events)))

pub lined-follows : {T : Type 0} (k : Keeping T) (told : Option T) (stopped : Option NoLine) → RulesFollow (lined k told stopped) page_rules (lined_rules k)
lined-follows k told stopped (AskOp op args) h =
    handed-on k told stopped h.page.events (bare_hosting h) (page_rules.op op args (bare_hosting h))
    ∙ ap (stepped_by (lined k told stopped)) (sym (rules-add h.page.events (AskOp op args) (bare_hosting h)))
lined-follows k told stopped (AskResume ticket end) h =
    handed-on k told stopped h.page.events (bare_hosting h) (page_rules.resume ticket end (bare_hosting h))
    ∙ ap (stepped_by (lined k told stopped)) (sym (rules-add h.page.events (AskResume ticket end) (bare_hosting h)))

pub calls-lined : {T : Type 0} (k : Keeping T) (told : Option T) (stopped : Option NoLine) (program : Program)
    → CallsFollow (lined k told stopped) (call_from_outside program (host_operations page_rules)) (call_from_outside program (host_operations (lined_rules k)))
calls-lined k told stopped program = calls-follow-rules (lined k told stopped) page_rules (lined_rules k) (lined-follows k told stopped) program 256
