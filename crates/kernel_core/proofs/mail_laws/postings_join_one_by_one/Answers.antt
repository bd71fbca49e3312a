use Rattle.kernel_core.proofs.Sends.{all_sent-append, all_sent-counted}
use Rattle.kernel_core.proofs.mail_laws.postings_join_one_by_one.Goals as goal

pub returns : goal.returns
returns c = record { next = all_sent-append; counted = all_sent-counted }
