use Rattle.std.proofs.Common.{◌≡◌, take}
use Rattle.columns_core.proofs.+copy.Given as goal

abbrev pub invariant-copy::copy_of_fields-loop-field :
    goal.invariant-copy::copy_of_fields-loop-field
invariant-copy::copy_of_fields-loop-field l = l.copies.items ≡ take l.field-index l.fields
