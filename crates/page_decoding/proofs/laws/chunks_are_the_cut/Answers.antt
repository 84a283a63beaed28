use Rattle.page_decoding.proofs.CutLemmas.{cut-first}
use Rattle.page_decoding.proofs.laws.chunks_are_the_cut.Goals as goal

pub returns : goal.returns
returns g c = cut-first
