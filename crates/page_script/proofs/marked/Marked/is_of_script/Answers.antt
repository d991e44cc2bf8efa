use Rattle.std.proofs.Common.{◌∙◌, ap, sym, inl, inr}
use Rattle.page_parts.specs.Words.{has_number, numbered}
use Rattle.page_script.specs.declared.parts.Mark.TheVariants.{Plain}
use Rattle.page_script.specs.Marks.{Marked}
use Rattle.page_script.proofs.Marking.{is_script, script_told}
use Rattle.page_script.proofs.marked.Marked.is_of_script.Goals as goal

pub returns-in-OfScript : goal.returns-in-OfScript
returns-in-OfScript c =
    sym (ap is_script c.in-OfScript.is)
    ∙ script_told c.self.inside.marks.items c.args.p c.mark_of.result c.requires (c.mark_of.ensures ∙ ap (λ ms. numbered ms c.args.p Plain) c.deref.ensures.value)
    ∙ ap (λ (s : Marked). has_number s.script_promises c.args.p) c.self.view_is

pub returns-in-Plain : goal.returns-in-Plain
returns-in-Plain c =
    elim c.in-Plain.is [ inl plain ↦ sym (ap is_script plain) | inr element ↦ sym (ap is_script element.2) ]
    ∙ script_told c.self.inside.marks.items c.args.p c.mark_of.result c.requires (c.mark_of.ensures ∙ ap (λ ms. numbered ms c.args.p Plain) c.deref.ensures.value)
    ∙ ap (λ (s : Marked). has_number s.script_promises c.args.p) c.self.view_is
