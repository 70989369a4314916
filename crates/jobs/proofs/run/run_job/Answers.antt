-- The theorems over jobs that the search does not find by their lemmas.
use Rattle.jobs.proofs.JobLaws.{forgetting_jobs, one_answer_a_line}
use Rattle.jobs.proofs.run.run_job.Goals as goal

pub returns-in-Ok-clause-lines : goal.returns-in-Ok-clause-lines
returns-in-Ok-clause-lines c = one_answer_a_line

pub returns-in-Ok-clause-forgetting : goal.returns-in-Ok-clause-forgetting
returns-in-Ok-clause-forgetting c = forgetting_jobs

pub returns-in-Err-clause-lines : goal.returns-in-Err-clause-lines
returns-in-Err-clause-lines c = one_answer_a_line

pub returns-in-Err-clause-forgetting : goal.returns-in-Err-clause-forgetting
returns-in-Err-clause-forgetting c = forgetting_jobs
