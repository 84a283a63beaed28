use Rattle.std.proofs.Common.{arith}
use Rattle.std.proofs.lemmas.Str.Pattern.{strip_suffix_char}
use Rattle.pq_common.proofs.TextLemmas.{without_last}
use Rattle.pq_common.proofs.types.without_parenthesis.Goals as goal

pub returns : goal.returns
returns c = without_last 41 c.args.text.now c.strip_suffix.result (strip_suffix_char 41 c.args.text.now c.strip_suffix.result c.strip_suffix.ensures.cases (omega arith))
