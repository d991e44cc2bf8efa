use Rattle.page_laws.proofs.Acts.{gaps_are_moves}
use Rattle.page_laws.proofs.RunLaws.{gaps_follow_levels, laws_of_gaps}
use Rattle.page_laws.proofs.acts_keep_the_laws.Goals as goal

pub returns-clause-moves : goal.returns-clause-moves
returns-clause-moves g c = λ program setup choices list h. gaps_are_moves g.R.Choosing.rules program setup choices list h

pub returns-clause-settling : goal.returns-clause-settling
returns-clause-settling g c = λ program setup choices list h. (laws_of_gaps g.R.Choosing.rules program setup choices list h).0

pub returns-clause-jobs : goal.returns-clause-jobs
returns-clause-jobs g c = λ program setup choices list h. (laws_of_gaps g.R.Choosing.rules program setup choices list h).1

pub returns-clause-nesting : goal.returns-clause-nesting
returns-clause-nesting g c = λ program setup choices list h. (laws_of_gaps g.R.Choosing.rules program setup choices list h).2

pub returns-clause-once : goal.returns-clause-once
returns-clause-once g c = λ program setup choices list h. (laws_of_gaps g.R.Choosing.rules program setup choices list h).3

pub returns-clause-cancels : goal.returns-clause-cancels
returns-clause-cancels g c = λ program setup choices list h. (laws_of_gaps g.R.Choosing.rules program setup choices list h).5

pub returns-clause-priorities : goal.returns-clause-priorities
returns-clause-priorities g c = λ program setup choices list h. (laws_of_gaps g.R.Choosing.rules program setup choices list h).6

pub returns-clause-frames : goal.returns-clause-frames
returns-clause-frames g c = λ program setup choices list h. (laws_of_gaps g.R.Choosing.rules program setup choices list h).7

pub returns-clause-deadlines : goal.returns-clause-deadlines
returns-clause-deadlines g c = λ program setup choices list h. (laws_of_gaps g.R.Choosing.rules program setup choices list h).8

pub returns-clause-firing : goal.returns-clause-firing
returns-clause-firing g c = λ program setup choices list h. (laws_of_gaps g.R.Choosing.rules program setup choices list h).9

pub returns-clause-due_times : goal.returns-clause-due_times
returns-clause-due_times g c = λ program setup choices list h. (laws_of_gaps g.R.Choosing.rules program setup choices list h).10

pub returns-clause-due_order : goal.returns-clause-due_order
returns-clause-due_order g c = λ program setup choices list h. (laws_of_gaps g.R.Choosing.rules program setup choices list h).11

pub returns-clause-clamps : goal.returns-clause-clamps
returns-clause-clamps g c = λ program setup choices list h. (laws_of_gaps g.R.Choosing.rules program setup choices list h).12

pub returns-clause-levels : goal.returns-clause-levels
returns-clause-levels g c = λ program setup choices list h. gaps_follow_levels g.R.Choosing.rules program setup choices list h

pub returns-clause-arms_at_end : goal.returns-clause-arms_at_end
returns-clause-arms_at_end g c = λ program setup choices list h. (laws_of_gaps g.R.Choosing.rules program setup choices list h).13

pub returns-clause-frames_at_end : goal.returns-clause-frames_at_end
returns-clause-frames_at_end g c = λ program setup choices list h. (laws_of_gaps g.R.Choosing.rules program setup choices list h).14

pub returns-clause-idles_at_end : goal.returns-clause-idles_at_end
returns-clause-idles_at_end g c = λ program setup choices list h. (laws_of_gaps g.R.Choosing.rules program setup choices list h).15

pub returns-clause-micros_at_end : goal.returns-clause-micros_at_end
returns-clause-micros_at_end g c = λ program setup choices list h. (laws_of_gaps g.R.Choosing.rules program setup choices list h).16

pub returns-clause-continuations_at_end : goal.returns-clause-continuations_at_end
returns-clause-continuations_at_end g c = λ program setup choices list h. (laws_of_gaps g.R.Choosing.rules program setup choices list h).17

pub returns-clause-timeouts_at_end : goal.returns-clause-timeouts_at_end
returns-clause-timeouts_at_end g c = λ program setup choices list h. (laws_of_gaps g.R.Choosing.rules program setup choices list h).18

pub returns-clause-hosts_at_end : goal.returns-clause-hosts_at_end
returns-clause-hosts_at_end g c = λ program setup choices list h. (laws_of_gaps g.R.Choosing.rules program setup choices list h).19

pub returns-clause-intervals_at_end : goal.returns-clause-intervals_at_end
returns-clause-intervals_at_end g c = λ program setup choices list h. (laws_of_gaps g.R.Choosing.rules program setup choices list h).20

pub returns-clause-posts_at_end : goal.returns-clause-posts_at_end
returns-clause-posts_at_end g c = λ program setup choices list h. (laws_of_gaps g.R.Choosing.rules program setup choices list h).21
