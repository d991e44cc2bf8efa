use Rattle.std.proofs.Common.{◌≡◌, true, false, List, [], Option, None, get_or, set, length, sym, ◌∙◌, ap, subst, arith}
use Rattle.std.specs.Prelude.{MatchOption}
use Rattle.post_task.specs.declared.level.Level.{Level}
use Rattle.post_task.specs.declared.tournament.Head.{Head}
use Rattle.post_task.specs.Levels.{Sched, queue_in, waiting, TakesFirst}
use Rattle.post_task.specs.Heads.{firsts}
use Rattle.post_task.specs.Tournament.{HasNone, Wins}
use Rattle.std.proofs.lemmas.List.{length-set}
use Rattle.post_task.proofs.Best.{nothing, standing}
use Rattle.post_task.proofs.Waits.{taken_order}
use Rattle.post_task.proofs.Calls.{kept_as, level_within, winner_inside, taken_inside, taken_kept, taken_firsts, taken_others, taken}
use Rattle.post_task.proofs.sched.SchedQueues.take.Goals as goal

pub returns-in_default-clause-order : goal.returns-in_default-clause-order
returns-in_default-clause-order g c order first =
    let P : List (Option Head) → Type 0 = λ heads. HasNone heads in
    taken_order (waiting c.args.self.now.levels c.args.pool.now) [] None (nothing c.args.pool.now c.args.self.now.levels (subst P (ap (λ (s : Sched). s.heads) c.self.view_is ∙ c.requires.heads) c.in_default.ensures)) order first

pub returns-in_default-clause-first : goal.returns-in_default-clause-first
returns-in_default-clause-first g c =
    let P : List (Option Head) → Type 0 = λ heads. HasNone heads in
    nothing c.args.pool.now c.args.self.now.levels (subst P (ap (λ (s : Sched). s.heads) c.self.view_is ∙ c.requires.heads) c.in_default.ensures)

pub read_first-requires-clause-plain : goal.read_first-requires-clause-plain
read_first-requires-clause-plain g c =
    let w = c.in-Some.winner in
    let level = c.index-level.result.now in
    let levels = c.args.self.now.levels in
    let P : List (Option Head) → Type 0 = λ heads. Wins heads w in
    let wins = subst P (ap (λ (s : Sched). s.heads) c.self.view_is ∙ c.requires.heads) c.in-Some.ensures in
    let is = c.index-level.ensures ∙ ap (λ (s : Sched). get_or s.levels w.place level) c.self.view_is in
    let at = c.list.ensures ∙ ap (λ b. (queue_in level b).list) c.is_continuation.ensures in
    level_within c.pop_front-taken.new.self levels w.place level false
    (taken_kept c.args.pool.now levels w level c.list.result.0 c.requires.lists wins is at c.pop_front-taken.new.self c.pop_front-taken.ensures.gone)
    (winner_inside c.args.pool.now levels w level c.list.result.0 c.requires.lists wins is at) is

pub read_first-requires-clause-continuations : goal.read_first-requires-clause-continuations
read_first-requires-clause-continuations g c =
    let w = c.in-Some.winner in
    let level = c.index-level.result.now in
    let levels = c.args.self.now.levels in
    let P : List (Option Head) → Type 0 = λ heads. Wins heads w in
    let wins = subst P (ap (λ (s : Sched). s.heads) c.self.view_is ∙ c.requires.heads) c.in-Some.ensures in
    let is = c.index-level.ensures ∙ ap (λ (s : Sched). get_or s.levels w.place level) c.self.view_is in
    let at = c.list.ensures ∙ ap (λ b. (queue_in level b).list) c.is_continuation.ensures in
    level_within c.pop_front-taken.new.self levels w.place level true
    (taken_kept c.args.pool.now levels w level c.list.result.0 c.requires.lists wins is at c.pop_front-taken.new.self c.pop_front-taken.ensures.gone)
    (winner_inside c.args.pool.now levels w level c.list.result.0 c.requires.lists wins is at) is

pub returns-clause-kept : goal.returns-clause-kept
returns-clause-kept g c =
    let w = c.in-Some.winner in
    let level = c.index-level.result.now in
    let sched = c.args.self.now in
    let levels = sched.levels in
    let P : List (Option Head) → Type 0 = λ heads. Wins heads w in
    let h = ap (λ (s : Sched). s.heads) c.self.view_is ∙ c.requires.heads in
    let wins = subst P h c.in-Some.ensures in
    let is = c.index-level.ensures ∙ ap (λ (s : Sched). get_or s.levels w.place level) c.self.view_is in
    let at = c.list.ensures ∙ ap (λ b. (queue_in level b).list) c.is_continuation.ensures in
    let new = c.pop_front-taken.new.self in
    let after : Sched = record { levels = c.self.inside.levels.items; heads = c.set.new.self } in
    kept_as levels after new (ap (λ (s : Sched). s.levels) c.self.view_is)
    (taken_kept c.args.pool.now levels w level c.list.result.0 c.requires.lists wins is at new c.pop_front-taken.ensures.gone)
    c.requires.fixed
    (c.set.ensures ∙ ap (λ hs. set hs w.place c.read_first.result) h ∙ ap (set (firsts levels c.args.pool.now) w.place) c.read_first.ensures
    ∙ taken_firsts c.args.pool.now levels w level c.list.result.0 c.requires.lists wins is at new c.pop_front-taken.ensures.gone)

pub returns-clause-order : goal.returns-clause-order
returns-clause-order g c order first =
    let w = c.in-Some.winner in
    let level = c.index-level.result.now in
    let levels = c.args.self.now.levels in
    let P : List (Option Head) → Type 0 = λ heads. Wins heads w in
    let wins = subst P (ap (λ (s : Sched). s.heads) c.self.view_is ∙ c.requires.heads) c.in-Some.ensures in
    let is = c.index-level.ensures ∙ ap (λ (s : Sched). get_or s.levels w.place level) c.self.view_is in
    let at = c.list.ensures ∙ ap (λ b. (queue_in level b).list) c.is_continuation.ensures in
    let new = c.pop_front-taken.new.self in
    taken_order (waiting levels c.args.pool.now) (waiting levels new) c.pop_front-taken.result
    (taken c.args.pool.now levels w level c.list.result.0 c.requires.lists wins is at new c.pop_front-taken.ensures.gone c.pop_front-taken.result c.pop_front-taken.ensures.item) order first

pub returns-clause-first : goal.returns-clause-first
returns-clause-first g c =
    let w = c.in-Some.winner in
    let level = c.index-level.result.now in
    let levels = c.args.self.now.levels in
    let P : List (Option Head) → Type 0 = λ heads. Wins heads w in
    let wins = subst P (ap (λ (s : Sched). s.heads) c.self.view_is ∙ c.requires.heads) c.in-Some.ensures in
    let is = c.index-level.ensures ∙ ap (λ (s : Sched). get_or s.levels w.place level) c.self.view_is in
    let at = c.list.ensures ∙ ap (λ b. (queue_in level b).list) c.is_continuation.ensures in
    let new = c.pop_front-taken.new.self in
    let old = waiting levels c.args.pool.now in
    let Q : List Level → Type 0 = λ ls. MatchOption c.pop_front-taken.result (old ≡ []) (TakesFirst old (waiting ls new)) in
    subst Q (sym (ap (λ (s : Sched). s.levels) c.self.view_is))
    (taken c.args.pool.now levels w level c.list.result.0 c.requires.lists wins is at new c.pop_front-taken.ensures.gone c.pop_front-taken.result c.pop_front-taken.ensures.item)

pub returns-clause-others : goal.returns-clause-others
returns-clause-others g c =
    let w = c.in-Some.winner in
    let level = c.index-level.result.now in
    let levels = c.args.self.now.levels in
    let P : List (Option Head) → Type 0 = λ heads. Wins heads w in
    let wins = subst P (ap (λ (s : Sched). s.heads) c.self.view_is ∙ c.requires.heads) c.in-Some.ensures in
    let is = c.index-level.ensures ∙ ap (λ (s : Sched). get_or s.levels w.place level) c.self.view_is in
    let at = c.list.ensures ∙ ap (λ b. (queue_in level b).list) c.is_continuation.ensures in
    taken_others c.args.pool.now levels w level c.list.result.0 c.requires.lists wins is at c.pop_front-taken.new.self c.pop_front-taken.ensures.gone

pub returns-in_default-clause-kept : goal.returns-in_default-clause-kept
returns-in_default-clause-kept g c = c.requires

pub index-level-requires : goal.index-level-requires
index-level-requires g c =
    let w = c.in-Some.winner in
    let levels = c.args.self.now.levels in
    let P : List (Option Head) → Type 0 = λ heads. Wins heads w in
    let wins = subst P (ap (λ (s : Sched). s.heads) c.self.view_is ∙ c.requires.heads) c.in-Some.ensures in
    let inside = (standing c.args.pool.now levels w.place w.head wins.stands).0 in
    let same = ap (λ (s : Sched). length s.levels) c.self.view_is in
    let len = c.self.inside.levels.ok.0 in
    omega (arith, inside, same, len)

pub pop_front-taken-requires : goal.pop_front-taken-requires
pop_front-taken-requires g c =
    let w = c.in-Some.winner in
    let levels = c.args.self.now.levels in
    let P : List (Option Head) → Type 0 = λ heads. Wins heads w in
    let wins = subst P (ap (λ (s : Sched). s.heads) c.self.view_is ∙ c.requires.heads) c.in-Some.ensures in
    let level = c.index-level.result.now in
    let is = c.index-level.ensures ∙ ap (λ (s : Sched). get_or s.levels w.place level) c.self.view_is in
    let at = c.list.ensures ∙ ap (λ b. (queue_in level b).list) c.is_continuation.ensures in
    taken_inside c.args.pool.now levels w level c.list.result.0 c.requires.lists wins is at

pub set-requires : goal.set-requires
set-requires g c =
    let w = c.in-Some.winner in
    let levels = c.args.self.now.levels in
    let P : List (Option Head) → Type 0 = λ heads. Wins heads w in
    let wins = subst P (ap (λ (s : Sched). s.heads) c.self.view_is ∙ c.requires.heads) c.in-Some.ensures in
    let inside = (standing c.args.pool.now levels w.place w.head wins.stands).0 in
    let same = ap (λ (s : Sched). length s.levels) c.self.view_is in
    let len = c.self.invariant.0 in
    omega (arith, inside, same, len)

pub returns-clause-count : goal.returns-clause-count
returns-clause-count g c = ap length c.pop_front-taken.ensures.gone ∙ length-set c.args.pool.now.lists c.list.result.0 _
