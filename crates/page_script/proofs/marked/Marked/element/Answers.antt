use Rattle.std.proofs.Common.{◌∙◌, ap, sym, inl, inr}
use Rattle.std.specs.Prelude.{find, ◌==◌}
use Rattle.page_parts.specs.Words.{numbered}
use Rattle.page_script.specs.declared.parts.Mark.TheVariants.{Plain}
use Rattle.page_script.specs.Marks.{Marked}
use Rattle.page_script.proofs.Marking.{element_by, element_told}
use Rattle.page_script.proofs.marked.Marked.element.Goals as goal

pub returns-in-Element : goal.returns-in-Element
returns-in-Element c =
    sym (ap (element_by c.args.p) c.in-Element.is)
    ∙ element_told c.self.inside.marks.items c.args.p c.mark_of.result c.requires (c.mark_of.ensures ∙ ap (λ ms. numbered ms c.args.p Plain) c.deref.ensures.value)
    ∙ ap (λ (s : Marked). find (λ e. e.promise == c.args.p) s.elements) c.self.view_is

pub returns-in-Plain : goal.returns-in-Plain
returns-in-Plain c =
    elim c.in-Plain.is [ inl plain ↦ sym (ap (element_by c.args.p) plain) | inr script ↦ sym (ap (element_by c.args.p) script) ]
    ∙ element_told c.self.inside.marks.items c.args.p c.mark_of.result c.requires (c.mark_of.ensures ∙ ap (λ ms. numbered ms c.args.p Plain) c.deref.ensures.value)
    ∙ ap (λ (s : Marked). find (λ e. e.promise == c.args.p) s.elements) c.self.view_is
