use Rattle.std.proofs.Common.{sym, ◌∙◌, ap, rules, ◌<◌, ◌^◌, length}
use Rattle.lang_meaning.specs.Evaluation.{functions_of, number_of}
use Rattle.lang_ast.specs.SeenProgram.{seen_program}
use Rattle.page_interp.specs.Places.{place_of}
use Rattle.page_interp.proofs.Frames.{number_place, place_within}
use Rattle.page_interp.proofs.code.Code.number_of.Goals as goal

pub overflow_cast-result : goal.overflow_cast-result
overflow_cast-result c =
    let within = place_within c.self.inside.functions c.args.name.now c.in-Some.place (sym c.place.ensures ∙ c.in-Some.is) in
    let few : length c.self.inside.functions < 2 ^ 32 = c.self.invariant.few in
    search (rules, within, few)

pub returns-in-Some : goal.returns-in-Some
returns-in-Some c =
    sym c.in-Some.is ∙ c.place.ensures ∙ ap (λ names. place_of names c.args.name.now) c.self.invariant.functions_named
    ∙ number_place (functions_of (seen_program c.self.inside.program.now).items) c.args.name.now
    ∙ ap (λ p. number_of (functions_of (seen_program p).items) c.args.name.now) c.self.view_is

pub returns-in-None : goal.returns-in-None
returns-in-None c =
    sym c.in-None.is ∙ c.place.ensures ∙ ap (λ names. place_of names c.args.name.now) c.self.invariant.functions_named
    ∙ number_place (functions_of (seen_program c.self.inside.program.now).items) c.args.name.now
    ∙ ap (λ p. number_of (functions_of (seen_program p).items) c.args.name.now) c.self.view_is
