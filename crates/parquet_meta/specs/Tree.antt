-- The schema's list as a tree in depth-first order, and its leaves.
use Rattle.std.specs.Prelude.{ℕ, zero, suc, Bool, true, false, ◌==◌, List, [], ◌∷◌, ◌++◌, Option, Some, None, option_map, unwrap_or}
use Rattle.parquet_base.specs.Reading.{◌>>=◌, given}
use Rattle.parquet_meta.specs.declared.code.TypeCode.{TypeCode}
use Rattle.parquet_meta.specs.declared.code.TypeCode.TheVariants as codes
use Rattle.parquet_meta.specs.declared.metadata.PhysicalType.{PhysicalType}
use Rattle.parquet_meta.specs.declared.metadata.PhysicalType.TheVariants as types
use Rattle.parquet_meta.specs.declared.metadata.ColumnDescriptor.{ColumnDescriptor}
use Rattle.parquet_meta.specs.declared.schema.SchemaElement.{SchemaElement}
use Rattle.parquet_meta.specs.declared.metadata.Repetition.{Repetition}
use Rattle.parquet_meta.specs.declared.metadata.Repetition.TheVariants.{Required, Optional, Repeated}

-- fixed bytes have a length above 0
abbrev pub fixed_of : Option ℕ → Option PhysicalType
fixed_of None = None
fixed_of (Some zero) = None
fixed_of (Some (suc n)) = Some (types.FixedLenByteArray (suc n))

abbrev pub physical_type_of : TypeCode → Option ℕ → Option PhysicalType
physical_type_of codes.Boolean n = Some types.Boolean
physical_type_of codes.Int32 n = Some types.Int32
physical_type_of codes.Int64 n = Some types.Int64
physical_type_of codes.Int96 n = Some types.Int96
physical_type_of codes.Float n = Some types.Float
physical_type_of codes.Double n = Some types.Double
physical_type_of codes.ByteArray n = Some types.ByteArray
physical_type_of codes.FixedLenByteArray n = fixed_of n

-- the path is one name, and the column is not repeated
abbrev pub is_flat : List (List ℕ) → Repetition → Bool
is_flat (name ∷ []) Required = true
is_flat (name ∷ []) Optional = true
is_flat (name ∷ []) Repeated = false
is_flat [] r = false
is_flat (name ∷ other ∷ names) r = false

-- ---- the tree

-- what elements spell: leaves, and the elements after them
abbrev pub Walk : Type 0
Walk = List (List ℕ) → List SchemaElement → Option (List ColumnDescriptor × List SchemaElement)

-- so many neighbours below one path
unfoldable pub neighbours : Walk → ℕ → Walk
neighbours node zero path es = Some ([], es)
neighbours node (suc n) path es = do
  first ← node path es
  others ← neighbours node n path first.1
  Some (first.0 ++ others.0, others.1)

abbrev pub children_of : SchemaElement → ℕ
children_of e = unwrap_or e.children 0

-- a leaf has no children
abbrev pub leaf_of : List (List ℕ) → SchemaElement → Repetition → TypeCode → Option ColumnDescriptor
leaf_of path e r code = do
  t ← physical_type_of code e.type_length
  given (children_of e == 0) (record { path_in_schema = path; primitive_type = record { physical_type = t; logical_type = e.logical_type; repetition = r }; flat = is_flat path r })

-- an element with a type is a leaf, and one without is a group
abbrev pub node_of : Walk → List (List ℕ) → SchemaElement → Option Repetition → Option TypeCode → List SchemaElement → Option (List ColumnDescriptor × List SchemaElement)
node_of below path e None code es = None
node_of below path e (Some r) (Some code) es = option_map (λ leaf. (leaf ∷ [], es)) (leaf_of path e r code)
node_of below path e (Some r) None es = neighbours below (children_of e) path es

-- an element and all below it, at most so deep
unfoldable pub node_within : ℕ → Walk
node_within zero path es = None
node_within (suc depth) path [] = None
node_within (suc depth) path (e ∷ es) = node_of (node_within depth) (path ++ e.name ∷ []) e e.repetition e.physical_type es

-- the tree uses all elements
abbrev pub all_used : Option (List ColumnDescriptor × List SchemaElement) → Option (List ColumnDescriptor)
all_used None = None
all_used (Some (leaves, [])) = Some leaves
all_used (Some (leaves, e ∷ es)) = None

-- what so many children of the root spell
abbrev pub leaves_below : ℕ → List SchemaElement → Option (List ColumnDescriptor)
leaves_below n es = all_used (neighbours (node_within 31) n [] es)

abbrev pub below_root : SchemaElement → Option TypeCode → List SchemaElement → Option (List ColumnDescriptor)
below_root root None es = leaves_below (children_of root) es
below_root root (Some code) es = None

-- The first element is the root, a group. The tree is at most 32 deep, with the root at depth 1.
unfoldable pub leaves : List SchemaElement → Option (List ColumnDescriptor)
leaves [] = None
leaves (root ∷ es) = below_root root root.physical_type es
