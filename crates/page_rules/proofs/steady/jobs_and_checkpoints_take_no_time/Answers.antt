use Rattle.page_rules.proofs.KeepingTurns.{job_begun-steady, checkpoint_begun-steady, checkpoint_ended-steady}
use Rattle.page_rules.proofs.steady.jobs_and_checkpoints_take_no_time.Goals as goal

pub returns-clause-job : goal.returns-clause-job
returns-clause-job c job others p = job_begun-steady job others p

pub returns-clause-begun : goal.returns-clause-begun
returns-clause-begun c p = checkpoint_begun-steady p

pub returns-clause-ended : goal.returns-clause-ended
returns-clause-ended c before p = checkpoint_ended-steady before p
