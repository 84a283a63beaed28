-- The rows of a file's groups are a number of 63 bits.
use Rattle.std.proofs.Common.{◌≡◌, ℕ, ◌+◌, ◌<◌, ◌^◌, Bool, true, false, List, [], ◌∷◌, Option, Some, None, refl, sym, ap, ◌∙◌, arith, nat_lt, sum_by}
use Rattle.std.proofs.lemmas.Bool.{ltb-true}
use Rattle.std.proofs.lemmas.List.Sums.{sum_by-cons}
use Rattle.std.specs.Prelude.{option_map}
use Rattle.parquet_base.specs.Reading.{◌>>=◌, given}
use Rattle.parquet_meta.specs.File.{columns_of, footer, footer_at, group_of, group_with, meta_data_in, meta_data_of, rows_in_groups}
use Rattle.parquet_meta.specs.Footer.{file_meta_data}
use Rattle.parquet_meta.specs.Front.{value_in}
use Rattle.parquet_meta.specs.Lists.{all_of}
use Rattle.parquet_meta.specs.Places.{bytes_at}
use Rattle.parquet_meta.specs.declared.footer.Footer.{Footer}
use Rattle.parquet_meta.specs.declared.footer.RowGroup.{RowGroup}
use Rattle.parquet_meta.specs.declared.metadata.ColumnChunkMetaData.{ColumnChunkMetaData}
use Rattle.parquet_meta.specs.declared.metadata.ColumnDescriptor.{ColumnDescriptor}
use Rattle.parquet_meta.specs.declared.metadata.FileMetaData.{FileMetaData}
use Rattle.parquet_meta.specs.declared.metadata.Place.{Place}
use Rattle.parquet_meta.specs.declared.metadata.RowGroupMetaData.{RowGroupMetaData}
use Rattle.parquet_meta.proofs.ListLemmas.{one_and}

abbrev file_rows : List RowGroupMetaData → ℕ
file_rows groups = sum_by (λ (group : RowGroupMetaData). group.num_rows) groups

group_rows : (leaves : List ColumnDescriptor) (stored : RowGroup) (group : RowGroupMetaData) → group_of leaves stored ≡ Some group → group.num_rows ≡ stored.num_rows
group_rows leaves stored group e = had (columns_of leaves stored.columns) e
  where
    had : (o : Option (List ColumnChunkMetaData)) → option_map (group_with stored) o ≡ Some group → group.num_rows ≡ stored.num_rows
    had None is = cc
    had (Some columns) is = let same : group_with stored columns ≡ group = cc in sym (ap (λ (g : RowGroupMetaData). g.num_rows) same)

-- the stored groups and the groups have the same rows
same_rows : (leaves : List ColumnDescriptor) (stored : List RowGroup) (groups : List RowGroupMetaData) → all_of (group_of leaves) stored ≡ Some groups → file_rows groups ≡ rows_in_groups stored
unfolding all_of
same_rows leaves [] groups e = let none : [] ≡ groups = cc in sym (ap file_rows none)
same_rows leaves (group ∷ stored) groups e = had (group_of leaves group) refl (all_of (group_of leaves) stored) (λ others is. same_rows leaves stored others is) refl e
  where
    had : (o : Option RowGroupMetaData) → group_of leaves group ≡ o → (os : Option (List RowGroupMetaData)) → ((others : List RowGroupMetaData) → all_of (group_of leaves) stored ≡ Some others → file_rows others ≡ rows_in_groups stored) →
        all_of (group_of leaves) stored ≡ os → one_and o os ≡ Some groups → file_rows groups ≡ rows_in_groups (group ∷ stored)
    had None at os further behind is = cc
    had (Some first) at None further behind is = cc
    had (Some first) at (Some others) further behind is =
        let all : first ∷ others ≡ groups = cc in
        sym (ap file_rows all) ∙ sum_by-cons (λ (g : RowGroupMetaData). g.num_rows) first others
        ∙ ap (λ (n : ℕ). n + file_rows others) (group_rows leaves group first at) ∙ ap (λ (n : ℕ). group.num_rows + n) (further others behind)
        ∙ sym (sum_by-cons (λ (g : RowGroup). g.num_rows) group stored)

stored_rows : (stored : Footer) (metadata : FileMetaData) → meta_data_of stored ≡ Some metadata → file_rows metadata.row_groups < 2 ^ 63
unfolding meta_data_of
stored_rows stored metadata e = had (all_of (group_of stored.columns) stored.row_groups) refl e
  where
    fits : (groups : List RowGroupMetaData) (b : Bool) → all_of (group_of stored.columns) stored.row_groups ≡ Some groups → nat_lt (rows_in_groups stored.row_groups) (2 ^ 63) ≡ b →
        given b (record { num_rows = stored.num_rows; columns = stored.columns; row_groups = groups }) ≡ Some metadata → file_rows metadata.row_groups < 2 ^ 63
    fits groups false made test is = cc
    fits groups true made test is =
        let same : groups ≡ metadata.row_groups = cc in
        omega (arith, ap file_rows same, ltb-true (rows_in_groups stored.row_groups) (2 ^ 63) test, same_rows stored.columns stored.row_groups groups made)

    had : (o : Option (List RowGroupMetaData)) → all_of (group_of stored.columns) stored.row_groups ≡ o →
        (o >>= λ groups. given (nat_lt (rows_in_groups stored.row_groups) (2 ^ 63)) (record { num_rows = stored.num_rows; columns = stored.columns; row_groups = groups })) ≡ Some metadata → file_rows metadata.row_groups < 2 ^ 63
    had None made is = cc
    had (Some groups) made is = fits groups (nat_lt (rows_in_groups stored.row_groups) (2 ^ 63)) made refl is

pub few_rows : (bytes : List ℕ) (metadata : FileMetaData) → footer bytes ≡ Some metadata → sum_by (λ (group : RowGroupMetaData). group.num_rows) metadata.row_groups < 2 ^ 63
unfolding footer meta_data_in
few_rows bytes metadata e = placed (footer_at bytes) e
  where
    stored : (o : Option Footer) → (o >>= meta_data_of) ≡ Some metadata → file_rows metadata.row_groups < 2 ^ 63
    stored None is = cc
    stored (Some words) is = stored_rows words metadata is

    placed : (o : Option Place) → (o >>= λ place. value_in file_meta_data (bytes_at bytes place) >>= λ words. meta_data_of words) ≡ Some metadata → file_rows metadata.row_groups < 2 ^ 63
    placed None is = cc
    placed (Some place) is = stored (value_in file_meta_data (bytes_at bytes place)) is
