use Rattle.std.proofs.Common.{ap, ◌∙◌, nat_eq}
use Rattle.std.specs.Prelude.{◌&&◌, ◌||◌}
use Rattle.std.specs.Option.{option_eq}
use Rattle.std.specs.Cmp.Lexicographic.{pointwise}
use Rattle.lang_names.specs.Known.{has_name}
use Rattle.lang_names.proofs.Keys.{key_same, or_by_cond}
use Rattle.lang_names.proofs.name_set.NameSet.add.Goals as goal

pub returns : goal.returns
returns c = λ s x.
    c.in_ok-insert.ensures.updates.0 (s, record { ref_ptr = (0, 0); now = x })
    ∙ (or_by_cond (option_eq nat_eq c.args.scope s && pointwise nat_eq c.bytes.result.now x) (has_name c.args.self.now s x)
    ∙ ap (λ b. b || has_name c.args.self.now s x) (ap (λ bs. option_eq nat_eq c.args.scope s && pointwise nat_eq bs x) c.bytes.ensures.bytes ∙ key_same c.args.scope s c.args.name.now x))
