use Rattle.std.proofs.Common.{◌∙◌, [], ◌∷◌, ap, map, arith}
use Rattle.std.proofs.lemmas.List.{map-append}
use Rattle.page_values.specs.Seen.{seen}
use Rattle.page_values.specs.declared.Value.TheVariants.{Unit}
use Rattle.lang_meaning.specs.Evaluation.{parameters_with}
use Rattle.page_interp.proofs.Frames.{padded_more, padded_end, padded_start}
use Rattle.page_interp.proofs.variables.locals_for.Goals as goal

pub loop-locals-preserved : goal.loop-locals-preserved
loop-locals-preserved c =
    rw c.in_ok-push.ensures.items (ap (parameters_with c.args.names.now) (map-append seen c.loop-locals.locals.items (Unit ∷ [])) ∙ padded_more c.args.names.now (map seen c.loop-locals.locals.items) ∙ c.loop-locals.invariant)

pub returns : goal.returns
returns c = λ xs ys n p. padded_end c.args.names.now c.loop-locals.locals.items (omega arith) ∙ c.loop-locals.invariant ∙ rw (n, p) (padded_start xs ys c.args.args.items)
