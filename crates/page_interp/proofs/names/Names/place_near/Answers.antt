use Rattle.std.proofs.Common.{sym, ◌∙◌, ap, arith}
use Rattle.page_interp.specs.Places.{place_of}
use Rattle.page_interp.proofs.NameIndex.{once_place}
use Rattle.page_interp.proofs.names.Names.place_near.Goals as goal

pub returns-then-same_text : goal.returns-then-same_text
returns-then-same_text c =
    sym (once_place c.self.inside.names.items c.args.near c.index.result.now c.args.name.now (c.self.invariant.apart c.if-self.true) c.index.ensures (omega arith) (sym c.same_text.ensures ∙ c.if-same_text.true))
    ∙ ap (λ names. place_of names c.args.name.now) c.self.view_is
