use Rattle.std.proofs.Common.{arith}
use Rattle.std.proofs.lemmas.Grind.{common_steps}
use Rattle.columns_core.proofs.+copy_of_array.Goals as goal

pub dictionary::DictionaryArray::try_clone-returns-clause-copy :
    goal.dictionary::DictionaryArray::try_clone-returns-clause-copy
dictionary::DictionaryArray::try_clone-returns-clause-copy t c = grind (arith, common_steps)

pub list::ListArray::try_clone-returns-clause-copy :
    goal.list::ListArray::try_clone-returns-clause-copy
list::ListArray::try_clone-returns-clause-copy t c = grind (arith, common_steps)

pub map_array::MapArray::try_clone-returns-clause-copy :
    goal.map_array::MapArray::try_clone-returns-clause-copy
map_array::MapArray::try_clone-returns-clause-copy t c = grind (arith, common_steps)

pub struct_array::StructArray::try_clone-returns-clause-copy :
    goal.struct_array::StructArray::try_clone-returns-clause-copy
struct_array::StructArray::try_clone-returns-clause-copy t c = grind (arith, common_steps)

pub struct_array::copy_of_arrays-loop-array-preserved :
    goal.struct_array::copy_of_arrays-loop-array-preserved
struct_array::copy_of_arrays-loop-array-preserved t c = grind (arith, common_steps)

pub struct_array::copy_of_arrays-returns-clause-copy :
    goal.struct_array::copy_of_arrays-returns-clause-copy
struct_array::copy_of_arrays-returns-clause-copy t c = grind (arith, common_steps)
