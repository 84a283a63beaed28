use Rattle.std.proofs.Common.{◌≡◌, length}
use Rattle.put_program.specs.Request.{have_distinct_names}
use Rattle.put_program.proofs.request.have_distinct_names.Given as goal

abbrev pub invariant-loop-rest : goal.invariant-loop-rest
invariant-loop-rest l = have_distinct_names l.fields ≡ have_distinct_names l.rest

abbrev pub decreases-loop-rest : goal.decreases-loop-rest
decreases-loop-rest l = length l.rest
