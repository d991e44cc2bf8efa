use Rattle.std.proofs.Common.{[], ◌∷◌, ◌++◌, length, refl, ◌∙◌, ap, arith, length-append}
use Rattle.task_pool.specs.Lists.{Lists, list_of}
use Rattle.post_task.proofs.Moves.{list_more}
use Rattle.post_task.proofs.sched.new_level.Goals as goal

pub returns-clause-made : goal.returns-clause-made
returns-clause-made g c =
    record {
      source_is = refl;
      priority_is = refl;
      plain = c.in_ok-plain.ensures.id;
      continuations = c.in_ok-continuations.ensures.id ∙ ap (λ (p : Lists g.row.T.Denot). length p.lists) c.in_ok-plain.ensures.made;
      lists =
          ap (λ (p : Lists g.row.T.Denot). p.lists) c.in_ok-continuations.ensures.made
          ∙ ap (λ (p : Lists g.row.T.Denot). p.lists ++ [] ∷ []) c.in_ok-plain.ensures.made;
    }

pub returns-clause-lists : goal.returns-clause-lists
returns-clause-lists g c l =
    ap (λ (p : Lists g.row.T.Denot). list_of p l) c.in_ok-continuations.ensures.made
    ∙ list_more c.new_list.new.self.lists l
    ∙ ap (λ (p : Lists g.row.T.Denot). list_of p l) c.in_ok-plain.ensures.made
    ∙ list_more c.args.pool.now.lists l

pub returns-in_err-continuations-clause-lists : goal.returns-in_err-continuations-clause-lists
returns-in_err-continuations-clause-lists g c l =
    ap (λ (p : Lists g.row.T.Denot). list_of p l) (c.in_err-continuations.ensures.err ∙ c.in_ok-plain.ensures.made) ∙ list_more c.args.pool.now.lists l

pub returns-in_err-plain-clause-lists : goal.returns-in_err-plain-clause-lists
returns-in_err-plain-clause-lists g c l = ap (λ (p : Lists g.row.T.Denot). list_of p l) c.in_err-plain.ensures.err

pub returns-clause-spare : goal.returns-clause-spare
returns-clause-spare g c =
    ap (λ (p : Lists g.row.T.Denot). p.spare) c.in_ok-continuations.ensures.made ∙ ap (λ (p : Lists g.row.T.Denot). p.spare) c.in_ok-plain.ensures.made

pub returns-in_err-continuations-clause-spare : goal.returns-in_err-continuations-clause-spare
returns-in_err-continuations-clause-spare g c = ap (λ (p : Lists g.row.T.Denot). p.spare) (c.in_err-continuations.ensures.err ∙ c.in_ok-plain.ensures.made)

pub returns-in_err-plain-clause-spare : goal.returns-in_err-plain-clause-spare
returns-in_err-plain-clause-spare g c = ap (λ (p : Lists g.row.T.Denot). p.spare) c.in_err-plain.ensures.err

pub returns-clause-inserts : goal.returns-clause-inserts
returns-clause-inserts g c =
    ap (λ (p : Lists g.row.T.Denot). p.inserts) c.in_ok-continuations.ensures.made ∙ ap (λ (p : Lists g.row.T.Denot). p.inserts) c.in_ok-plain.ensures.made

pub returns-in_err-continuations-clause-inserts : goal.returns-in_err-continuations-clause-inserts
returns-in_err-continuations-clause-inserts g c = ap (λ (p : Lists g.row.T.Denot). p.inserts) (c.in_err-continuations.ensures.err ∙ c.in_ok-plain.ensures.made)

pub returns-in_err-plain-clause-inserts : goal.returns-in_err-plain-clause-inserts
returns-in_err-plain-clause-inserts g c = ap (λ (p : Lists g.row.T.Denot). p.inserts) c.in_err-plain.ensures.err

pub returns-clause-more : goal.returns-clause-more
returns-clause-more g c =
    let first = ap (λ (p : Lists g.row.T.Denot). length p.lists) c.in_ok-plain.ensures.made in
    let second = ap (λ (p : Lists g.row.T.Denot). length p.lists) c.in_ok-continuations.ensures.made in
    omega (arith, first, second, length-append c.args.pool.now.lists ([] ∷ []), length-append c.new_list.new.self.lists ([] ∷ []))

pub returns-in_err-continuations-clause-more : goal.returns-in_err-continuations-clause-more
returns-in_err-continuations-clause-more g c =
    let first = ap (λ (p : Lists g.row.T.Denot). length p.lists) (c.in_err-continuations.ensures.err ∙ c.in_ok-plain.ensures.made) in
    omega (arith, first, length-append c.args.pool.now.lists ([] ∷ []))

pub returns-in_err-plain-clause-more : goal.returns-in_err-plain-clause-more
returns-in_err-plain-clause-more g c =
    let same = ap (λ (p : Lists g.row.T.Denot). length p.lists) c.in_err-plain.ensures.err in
    omega (arith, same)
