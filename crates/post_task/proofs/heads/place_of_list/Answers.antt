use Rattle.std.proofs.Common.{rules, of_calls, leb}
use Rattle.std.proofs.lemmas.List.Sorted.{IsPartitionedBy-leb, IsPartitionPoint-from_clause}
use Rattle.post_task.specs.declared.level.Level.{Level}
use Rattle.post_task.proofs.Rising.{plain_rises, none_has, others_lack}
use Rattle.post_task.proofs.heads.place_of_list.Goals as goal

pub returns-clause-none : goal.returns-clause-none
returns-clause-none c =
    let levels = c.args.levels.now in
    let list = c.args.list.0 in
    let p = IsPartitionPoint-from_clause (λ (l : Level). leb l.plain.0 list) levels c.partition_point-behind.result c.partition_point-behind.ensures.partitioned (IsPartitionedBy-leb (λ (l : Level). l.plain.0) levels list (plain_rises levels c.requires)) (λ a r f k. search (rules, of_calls)) in
    none_has levels list c.partition_point-behind.result c.checked_sub.result c.requires p c.checked_sub.ensures

pub returns-clause-others : goal.returns-clause-others
returns-clause-others c =
    let levels = c.args.levels.now in
    let list = c.args.list.0 in
    let p = IsPartitionPoint-from_clause (λ (l : Level). leb l.plain.0 list) levels c.partition_point-behind.result c.partition_point-behind.ensures.partitioned (IsPartitionedBy-leb (λ (l : Level). l.plain.0) levels list (plain_rises levels c.requires)) (λ a r f k. search (rules, of_calls)) in
    others_lack levels list c.partition_point-behind.result c.checked_sub.result c.requires p c.partition_point-behind.ensures.bound c.checked_sub.ensures
