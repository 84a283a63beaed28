-- The request that the words of a command line spell.
use Rattle.std.specs.Prelude.{ℕ, Bool, true, false, not, ◌&&◌, ◌==◌, nat_lt, if◌then◌else◌, List, [], ◌∷◌, ◌++◌, length, map, filter_map, take, drop, codes, Option, Some, None, is_some, option_map, option_and_then}
use Rattle.std.specs.List.{list_all, list_any}
use Rattle.std.specs.Option.{option_zip, option_or}
use Rattle.std.specs.Str.{bytes_eq}
use Rattle.columns_core.specs.declared.data_type.DataType.{DataType}
use Rattle.columns_core.specs.declared.data_type.Field.{Field}
use Rattle.pq_common.specs.Spelled.{number, spelled_type, spelled_value}
use Rattle.parquet_scan.specs.declared.bound.Scalar.{Scalar}
use Rattle.parquet_scan.specs.declared.bound.Bound.{Bound}
use Rattle.parquet_scan.specs.Bound.{value_of}
use Rattle.parquet_scan.specs.Request.{Request}

-- ---- items

-- the low or the high end of the bound on a field, with its value as it is written
pub record BoundEnd : Type 0 where
  pub name : List ℕ
  pub is_low : Bool
  pub value : List ℕ

pub data SpelledItem : Type 0 where
  Column : Field → SpelledItem
  End : BoundEnd → SpelledItem

-- whether a low end follows: `>=` stands before a low one and `<=` before a high one
abbrev pub end_sign : List ℕ → Option Bool
end_sign text = if bytes_eq (codes ">=") (take 2 text) then Some true else if bytes_eq (codes "<=") (take 2 text) then Some false else None

-- a bound, split at the first `>=` or `<=`
abbrev pub split_bound : List ℕ → Option BoundEnd
split_bound [] = None
split_bound (byte ∷ rest) =
    option_or (option_map (λ low. record { name = []; is_low = low; value = drop 1 rest }) (end_sign (byte ∷ rest)))
    (option_map (λ (end : BoundEnd). record end { name = byte ∷ end.name }) (split_bound rest))

-- the texts before and after the last colon
abbrev pub split_field : List ℕ → Option (List ℕ × List ℕ)
split_field [] = None
split_field (byte ∷ rest) =
    option_or (option_map (λ (found : List ℕ × List ℕ). (byte ∷ found.0, found.1)) (split_field rest))
    (if byte == 58 then Some ([], rest) else None)

-- A field of this name and a type. A field made from words is nullable.
abbrev pub typed_field : List ℕ → List ℕ → Option Field
typed_field name text = option_map (λ data_type. record { name = name; data_type = data_type; is_nullable = true }) (spelled_type text)

-- a name that is not empty, and a type
abbrev pub named_field : List ℕ × List ℕ → Option Field
named_field parts = if nat_lt 0 (length parts.0) then typed_field parts.0 parts.1 else None

abbrev pub field_of_text : List ℕ → Option Field
field_of_text text = option_and_then named_field (split_field text)

-- a text with `>=` or `<=` is an end, and another a field
abbrev pub item_of : List ℕ → Option SpelledItem
item_of text = option_or (option_map End (split_bound text)) (option_map Column (field_of_text text))

abbrev pub put_in_front : {X : Type 0} → Option X → Option (List X) → Option (List X)
put_in_front {X} first rest = option_map (λ (found : X × List X). found.0 ∷ found.1) (option_zip first rest)

abbrev pub all_items : List (List ℕ) → Option (List SpelledItem)
all_items [] = Some []
all_items (text ∷ texts) = put_in_front (item_of text) (all_items texts)

-- ---- words

-- what a word, or two, stand for
pub data Word : Type 0 where
  ChunkSize : ℕ → Word
  RowLimit : ℕ → Word
  Summary : Word
  Asks : SpelledItem → Word

-- the number behind a name and an equals sign
abbrev pub assigned : List ℕ → List ℕ → Option ℕ
assigned name word = if bytes_eq (take (length name) word) name then number (drop (length name) word) else None

abbrev pub begins_with_dash : List ℕ → Bool
begins_with_dash [] = false
begins_with_dash (first ∷ rest) = first == 45

abbrev pub one_word : List ℕ → Option Word
one_word word =
    option_or (option_map ChunkSize (assigned (codes "--chunk=") word))
    (option_or (option_map RowLimit (assigned (codes "--limit=") word))
    (if bytes_eq word (codes "--summary") then Some Summary else if begins_with_dash word then None else option_map Asks (item_of word)))

abbrev pub two_words : List ℕ → List ℕ → Option Word
two_words word next =
    if bytes_eq word (codes "--chunk") then option_map ChunkSize (number next)
    else if bytes_eq word (codes "--limit") then option_map RowLimit (number next) else None

-- The words from left to right. Behind `--` every word is an item.
abbrev pub read_words : List (List ℕ) → Option (List Word)
read_words [] = Some []
read_words (word ∷ []) = if bytes_eq word (codes "--") then Some [] else put_in_front (one_word word) (Some [])
read_words (word ∷ next ∷ rest) =
    if is_some (two_words word next) then put_in_front (two_words word next) (read_words rest)
    else if bytes_eq word (codes "--") then option_map (map Asks) (all_items (next ∷ rest))
    else put_in_front (one_word word) (read_words (next ∷ rest))

abbrev pub item_of_word : Word → Option SpelledItem
item_of_word (Asks item) = Some item
item_of_word (ChunkSize n) = None
item_of_word (RowLimit n) = None
item_of_word Summary = None

abbrev pub as_chunk_size : Word → Option ℕ
as_chunk_size (ChunkSize n) = Some n
as_chunk_size (RowLimit n) = None
as_chunk_size Summary = None
as_chunk_size (Asks item) = None

abbrev pub as_row_limit : Word → Option ℕ
as_row_limit (RowLimit n) = Some n
as_row_limit (ChunkSize n) = None
as_row_limit Summary = None
as_row_limit (Asks item) = None

abbrev pub as_summary : Word → Option Bool
as_summary Summary = Some true
as_summary (ChunkSize n) = None
as_summary (RowLimit n) = None
as_summary (Asks item) = None

abbrev pub as_field : SpelledItem → Option Field
as_field (Column field) = Some field
as_field (End end) = None

abbrev pub as_end : SpelledItem → Option BoundEnd
as_end (Column field) = None
as_end (End end) = Some end

abbrev pub fields : List SpelledItem → List Field
fields items = filter_map as_field items

abbrev pub ends : List SpelledItem → List BoundEnd
ends items = filter_map as_end items

-- what comes at most once
abbrev pub at_most_one : {X : Type 0} → List X → Option (Option X)
at_most_one [] = Some None
at_most_one (x ∷ []) = Some (Some x)
at_most_one (x ∷ more ∷ rest) = None

-- ---- bounds

-- a low end is asked for, or a high one
abbrev pub is_end : Bool → Bool → Bool
is_end true low = low
is_end false low = not low

-- the value that an end gives to one end of a name's bound
abbrev pub value_for : List ℕ → Bool → BoundEnd → Option (List ℕ)
value_for name low end = if bytes_eq name end.name && is_end low end.is_low then Some end.value else None

abbrev pub values_for : List ℕ → Bool → List BoundEnd → List (List ℕ)
values_for name low ends = filter_map (value_for name low) ends

-- the value of a type that a text spells, where there is a text
abbrev pub end_value : DataType → Option (List ℕ) → Option (Option Scalar)
end_value data_type None = Some None
end_value data_type (Some text) = option_map Some (option_and_then value_of (spelled_value data_type text))

-- At most one value is given, and it is one of the type.
abbrev pub end_of : DataType → List (List ℕ) → Option (Option Scalar)
end_of data_type texts = option_and_then (end_value data_type) (at_most_one texts)

abbrev pub both_ends : List BoundEnd → Field → Option (Option Scalar × Option Scalar)
both_ends ends field = option_zip (end_of field.data_type (values_for field.name true ends)) (end_of field.data_type (values_for field.name false ends))

-- A field with an end has a bound, in front of the others.
abbrev pub with_bound : List ℕ → Option Scalar × Option Scalar → List Bound → List Bound
with_bound name (None, None) bounds = bounds
with_bound name (Some low, high) bounds = record { field = name; low = Some low; high = high } ∷ bounds
with_bound name (None, Some high) bounds = record { field = name; low = None; high = Some high } ∷ bounds

-- one of the fields has this name
abbrev pub has_name : List Field → List ℕ → Bool
has_name fields name = list_any (λ (field : Field). bytes_eq name field.name) fields

-- the bounds of fields whose names did not come before
abbrev pub all_bounds : List BoundEnd → List Field → List Field → Option (List Bound)
all_bounds ends seen [] = Some []
all_bounds ends seen (field ∷ fields) =
    if has_name seen field.name then all_bounds ends (seen ++ field ∷ []) fields
    else option_map (λ (found : (Option Scalar × Option Scalar) × List Bound). with_bound field.name found.0 found.1)
    (option_zip (both_ends ends field) (all_bounds ends (seen ++ field ∷ []) fields))

-- the bounds of all fields, where every end is on a field
abbrev pub bounds_of : List BoundEnd → List Field → Option (List Bound)
bounds_of ends fields = if list_all (λ (end : BoundEnd). has_name fields end.name) ends then all_bounds ends [] fields else None

-- ---- all of it

-- what is asked, and whether only a summary is wanted
pub record Command : Type 0 where
  pub request : Request
  pub summary : Bool

-- the command that fields and ends ask for
abbrev pub command_on : List Field → List BoundEnd → Option ℕ → Option ℕ → Bool → Option Command
command_on fields ends chunk_size limit summary =
    option_map (λ bounds. record {
      request = record { fields = fields; bounds = bounds; chunk_size = chunk_size; limit = limit };
      summary = summary;
    }) (bounds_of ends fields)

abbrev pub command_with : List SpelledItem → Option ℕ → Option ℕ → Bool → Option Command
command_with items chunk_size limit summary = command_on (fields items) (ends items) chunk_size limit summary

abbrev pub command_of_words : List Word → Option Command
command_of_words said =
    option_and_then (λ chunk_size. option_and_then (λ limit. option_and_then (λ summary. command_with (filter_map item_of_word said) chunk_size limit (is_some summary))
    (at_most_one (filter_map as_summary said))) (at_most_one (filter_map as_row_limit said))) (at_most_one (filter_map as_chunk_size said))

-- The first word is the file's, and decides nothing here.
abbrev pub spelled_command : List (List ℕ) → Option Command
spelled_command [] = None
spelled_command (file ∷ words) = option_and_then command_of_words (read_words words)
