-- The groups that are open while the schema's list is read.
use Rattle.std.specs.Prelude.{ℕ, List, [], ◌∷◌, Option, Some, None, nat_le}
use Rattle.std.specs.List.{flat_map}
use Rattle.std.specs.Borrow.{Bor}
use Rattle.parquet_base.specs.Reading.{◌>>=◌, given}
use Rattle.parquet_meta.specs.declared.schema.SchemaElement.{SchemaElement}
use Rattle.parquet_meta.specs.declared.metadata.Repetition.{Repetition}
use Rattle.parquet_meta.specs.declared.tree.OpenGroup.{OpenGroup}

abbrev pub name_of : Option (Bor (List ℕ)) → List (List ℕ)
name_of None = []
name_of (Some name) = name.now ∷ []

-- the path of what stands in the last of them, the root having no name
abbrev pub path_of : List OpenGroup → List (List ℕ)
path_of groups = flat_map (λ group. name_of group.name) groups

-- the next element so deep, which has a repetition, and those behind it
abbrev pub next_element : ℕ → List SchemaElement → Option (SchemaElement × Repetition × List SchemaElement)
next_element depth [] = None
next_element depth (e ∷ es) = do
  r ← e.repetition
  given (nat_le depth 32) (e, r, es)
