use Rattle.std.proofs.Common.{◌≡◌, ◌∷◌, [], ◌++◌, subst, rules}
use Rattle.lang_place.specs.NameSets.{HoldsNames}
use Rattle.lang_place.proofs.NameLists.{holds_more}
use Rattle.lang_place.proofs.counting.add_name.Goals as goal

pub returns : goal.returns
returns c =
    let same : c.in_ok-bytes.bytes.items ≡ c.args.name.now = search rules in
    record {
      more = λ xs h. subst (λ z. HoldsNames c.insert.new.self.keys (xs ++ z ∷ [])) same
          (holds_more c.args.globals.now.keys c.insert.new.self.keys c.in_ok-bytes.bytes xs c.in_ok-insert.field-0 h c.in_ok-insert.ensures.added c.in_ok-insert.ensures.updates.0 c.in_ok-insert.ensures.len);
    }
