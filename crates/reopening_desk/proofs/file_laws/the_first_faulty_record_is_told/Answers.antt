use Rattle.study_market.specs.Records.{records_of}
use Rattle.reopening_desk.proofs.Told.{file-is-said, first-faulty-told}
use Rattle.reopening_desk.proofs.file_laws.the_first_faulty_record_is_told.Goals as goal

pub returns : goal.returns
returns c = record {
  taken = λ traders text orders. file-is-said traders (records_of text) orders;
  refused = λ traders text n. first-faulty-told traders (records_of text) n;
}
