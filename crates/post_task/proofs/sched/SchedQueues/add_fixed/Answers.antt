use Rattle.std.proofs.Common.{ℕ, ◌+◌, List, length, refl, sym, ◌∙◌, ap, subst}
use Rattle.page_types.specs.declared.Priority.TheVariants.{Background, UserVisible, UserBlocking}
use Rattle.post_task.specs.declared.level.Level.{Level}
use Rattle.post_task.specs.declared.level.PrioSource.TheVariants.{Fixed}
use Rattle.post_task.specs.Levels.{AreKept, all_queues, place_of}
use Rattle.post_task.proofs.Moves.{three_made, three_firsts, three_lone, next_after, fresh_after, added_kept}
use Rattle.post_task.proofs.Stays.{three_signals}
use Rattle.post_task.proofs.sched.SchedQueues.add_fixed.Goals as goal

pub returns-clause-kept : goal.returns-clause-kept
returns-clause-kept g c =
    let made =
    three_made c.args.self.now.levels c.add.new.self.levels c.add-2.new.self.levels c.add-3.new.self.levels c.args.pool.now c.add.new.pool c.add-2.new.pool c.add-3.new.pool
    c.requires.none c.in_ok-add.ensures.added c.in_ok-add-2.ensures.added c.in_ok-add-3.ensures.added c.in_ok-add.ensures.lists c.in_ok-add-2.ensures.lists c.in_ok-add-3.ensures.lists in
    record {
      lists = made.0;
      fixed = made.1;
      heads =
          three_firsts c.args.self.now.levels c.add.new.self.levels c.add-2.new.self.levels c.add-3.new.self.levels c.args.pool.now c.add.new.pool c.add-2.new.pool c.add-3.new.pool
          c.args.self.now.heads c.add.new.self.heads c.add-2.new.self.heads c.add-3.new.self.heads
          c.requires.none c.in_ok-add.ensures.added c.in_ok-add-2.ensures.added c.in_ok-add-3.ensures.added c.in_ok-add.ensures.lists c.in_ok-add-2.ensures.lists c.in_ok-add-3.ensures.lists
          c.requires.heads c.in_ok-add.ensures.head c.in_ok-add-2.ensures.head c.in_ok-add-3.ensures.head;
    }

pub returns-clause-empty : goal.returns-clause-empty
returns-clause-empty g c =
    (three_made c.args.self.now.levels c.add.new.self.levels c.add-2.new.self.levels c.add-3.new.self.levels c.args.pool.now c.add.new.pool c.add-2.new.pool c.add-3.new.pool
    c.requires.none c.in_ok-add.ensures.added c.in_ok-add-2.ensures.added c.in_ok-add-3.ensures.added c.in_ok-add.ensures.lists c.in_ok-add-2.ensures.lists c.in_ok-add-3.ensures.lists).2

pub returns-clause-signals : goal.returns-clause-signals
returns-clause-signals g c s =
    three_signals c.args.self.now.levels c.add.new.self.levels c.add-2.new.self.levels c.add-3.new.self.levels c.args.pool.now c.add.new.pool c.add-2.new.pool c.add-3.new.pool
    c.requires.none c.in_ok-add.ensures.added c.in_ok-add-2.ensures.added c.in_ok-add-3.ensures.added s

pub add-requires-clause-next : goal.add-requires-clause-next
add-requires-clause-next g c =
    ap length c.requires.none

pub add-requires-clause-fresh : goal.add-requires-clause-fresh
add-requires-clause-fresh g c =
    ap (λ (ls : List Level). place_of ls (Fixed Background)) c.requires.none

pub add-requires-clause-kept : goal.add-requires-clause-kept
add-requires-clause-kept g c =
    subst (λ (ls : List Level). AreKept c.args.pool.now (all_queues ls)) (sym c.requires.none) tt

pub add-requires-2-clause-next : goal.add-requires-2-clause-next
add-requires-2-clause-next g c =
    next_after c.args.self.now.levels c.add.new.self.levels c.args.pool.now c.add.new.pool (Fixed Background) Background c.in_ok-add.ensures.added ∙ ap (λ (n : ℕ). n + 1) (ap length c.requires.none)

pub add-requires-2-clause-fresh : goal.add-requires-2-clause-fresh
add-requires-2-clause-fresh g c =
    fresh_after c.args.self.now.levels c.add.new.self.levels c.args.pool.now c.add.new.pool (Fixed Background) (Fixed UserVisible) Background c.in_ok-add.ensures.added (ap (λ (ls : List Level). place_of ls (Fixed UserVisible)) c.requires.none) refl

pub add-requires-2-clause-kept : goal.add-requires-2-clause-kept
add-requires-2-clause-kept g c =
    added_kept c.args.self.now.levels c.add.new.self.levels c.args.pool.now c.add.new.pool (Fixed Background) Background (subst (λ (ls : List Level). AreKept c.args.pool.now (all_queues ls)) (sym c.requires.none) tt) c.in_ok-add.ensures.lists c.in_ok-add.ensures.added

pub add-requires-3-clause-next : goal.add-requires-3-clause-next
add-requires-3-clause-next g c =
    next_after c.add.new.self.levels c.add-2.new.self.levels c.add.new.pool c.add-2.new.pool (Fixed UserVisible) UserVisible c.in_ok-add-2.ensures.added ∙ ap (λ (n : ℕ). n + 1) (next_after c.args.self.now.levels c.add.new.self.levels c.args.pool.now c.add.new.pool (Fixed Background) Background c.in_ok-add.ensures.added ∙ ap (λ (n : ℕ). n + 1) (ap length c.requires.none))

pub add-requires-3-clause-fresh : goal.add-requires-3-clause-fresh
add-requires-3-clause-fresh g c =
    fresh_after c.add.new.self.levels c.add-2.new.self.levels c.add.new.pool c.add-2.new.pool (Fixed UserVisible) (Fixed UserBlocking) UserVisible c.in_ok-add-2.ensures.added
    (fresh_after c.args.self.now.levels c.add.new.self.levels c.args.pool.now c.add.new.pool (Fixed Background) (Fixed UserBlocking) Background c.in_ok-add.ensures.added (ap (λ (ls : List Level). place_of ls (Fixed UserBlocking)) c.requires.none) refl) refl

pub add-requires-3-clause-kept : goal.add-requires-3-clause-kept
add-requires-3-clause-kept g c =
    added_kept c.add.new.self.levels c.add-2.new.self.levels c.add.new.pool c.add-2.new.pool (Fixed UserVisible) UserVisible
    (added_kept c.args.self.now.levels c.add.new.self.levels c.args.pool.now c.add.new.pool (Fixed Background) Background (subst (λ (ls : List Level). AreKept c.args.pool.now (all_queues ls)) (sym c.requires.none) tt) c.in_ok-add.ensures.lists c.in_ok-add.ensures.added) c.in_ok-add-2.ensures.lists c.in_ok-add-2.ensures.added

pub returns-in_err-add-2-clause-lists : goal.returns-in_err-add-2-clause-lists
returns-in_err-add-2-clause-lists g c l =
    c.in_err-add-2.ensures.lists l ∙ c.in_ok-add.ensures.lists l

pub returns-in_err-add-3-clause-lists : goal.returns-in_err-add-3-clause-lists
returns-in_err-add-3-clause-lists g c l =
    c.in_err-add-3.ensures.lists l ∙ c.in_ok-add-2.ensures.lists l ∙ c.in_ok-add.ensures.lists l

pub returns-clause-lists : goal.returns-clause-lists
returns-clause-lists g c l =
    c.in_ok-add-3.ensures.lists l ∙ c.in_ok-add-2.ensures.lists l ∙ c.in_ok-add.ensures.lists l

pub returns-in_err-add-2-clause-spare : goal.returns-in_err-add-2-clause-spare
returns-in_err-add-2-clause-spare g c =
    c.in_err-add-2.ensures.spare ∙ c.in_ok-add.ensures.spare

pub returns-in_err-add-3-clause-spare : goal.returns-in_err-add-3-clause-spare
returns-in_err-add-3-clause-spare g c =
    c.in_err-add-3.ensures.spare ∙ c.in_ok-add-2.ensures.spare ∙ c.in_ok-add.ensures.spare

pub returns-clause-spare : goal.returns-clause-spare
returns-clause-spare g c =
    c.in_ok-add-3.ensures.spare ∙ c.in_ok-add-2.ensures.spare ∙ c.in_ok-add.ensures.spare

pub returns-in_err-add-2-clause-inserts : goal.returns-in_err-add-2-clause-inserts
returns-in_err-add-2-clause-inserts g c =
    c.in_err-add-2.ensures.inserts ∙ c.in_ok-add.ensures.inserts

pub returns-in_err-add-3-clause-inserts : goal.returns-in_err-add-3-clause-inserts
returns-in_err-add-3-clause-inserts g c =
    c.in_err-add-3.ensures.inserts ∙ c.in_ok-add-2.ensures.inserts ∙ c.in_ok-add.ensures.inserts

pub returns-clause-inserts : goal.returns-clause-inserts
returns-clause-inserts g c =
    c.in_ok-add-3.ensures.inserts ∙ c.in_ok-add-2.ensures.inserts ∙ c.in_ok-add.ensures.inserts

pub returns-clause-made : goal.returns-clause-made
returns-clause-made g c =
    three_lone c.args.self.now.levels c.add.new.self.levels c.add-2.new.self.levels c.add-3.new.self.levels c.args.pool.now c.add.new.pool c.add-2.new.pool c.add-3.new.pool
    c.requires.none c.in_ok-add.ensures.added c.in_ok-add-2.ensures.added c.in_ok-add-3.ensures.added c.in_ok-add.ensures.more c.in_ok-add-2.ensures.more
