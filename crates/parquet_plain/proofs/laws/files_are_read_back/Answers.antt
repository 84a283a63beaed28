use Rattle.parquet_plain.proofs.EndLemmas.{footer-of-plain}
use Rattle.parquet_plain.proofs.FitLemmas.{writable}
use Rattle.parquet_plain.proofs.PlaceLemmas.{all_parts_stand}
use Rattle.parquet_plain.proofs.laws.files_are_read_back.Goals as goal

pub returns : goal.returns
returns c = record { footers = λ file fits. footer-of-plain file (writable file fits); parts = all_parts_stand }
