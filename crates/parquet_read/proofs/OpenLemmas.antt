-- Columns that are opened to be read in arrays.
use Rattle.std.proofs.Common.{◌≡◌, ◌∙◌, ◌⊎◌, ℕ, ◌^◌, Bool, true, false, List, [], ◌∷◌, ◌++◌, length, map, refl, sym, ap, subst, inl, inr, arith}
use Rattle.std.specs.Prelude.{◌&&◌, nat_lt, min, if◌then◌else◌, Option, Some, None, Result, Ok, Err, IfOk, IfErr, IfSome, OnOk, is_some, option_map}
use Rattle.std.specs.List.{list_all}
use Rattle.std.proofs.lemmas.Bool.{and_from}
use Rattle.std.proofs.lemmas.List.Folds.{list_all-map}
use Rattle.std.proofs.lemmas.List.Sums.{sum_by-cons}
use Rattle.columns_core.specs.Causes.{Cause, ExternalFormat, IsMisfit, IsOneOf, IsWantOfMemory, NotYetImplemented, cause_of, unless}
use Rattle.columns_core.specs.Refusals.{Refuses}
use Rattle.columns_core.specs.declared.data_type.DataType.{DataType}
use Rattle.columns_core.specs.declared.error.Error.{Error}
use Rattle.parquet_base.specs.Intervals.{is_well_shaped, row_count}
use Rattle.parquet_base.specs.Reading.{given}
use Rattle.parquet_meta.specs.Chunks.{chunk_start}
use Rattle.parquet_meta.specs.declared.metadata.PhysicalType.{PhysicalType}
use Rattle.parquet_page.specs.Indexed.{indexed_count, indexed_lent, indexed_pages, indexed_rows}
use Rattle.parquet_page.specs.Lending.{AreOfType, has_data_behind}
use Rattle.parquet_page.specs.Lent.{Lent, are_well_shaped, chunk_lent, lie_within, located_chunk, selected_count}
use Rattle.parquet_page.specs.Reader.{reader_count, reader_lent, reader_pages, reader_rows}
use Rattle.parquet_page.specs.declared.indexed.IndexedPageReader.{IndexedPageReader}
use Rattle.parquet_page.specs.declared.reader.PageReader.{PageReader}
use Rattle.parquet_page.specs.declared.page.FilteredPage.{FilteredPage}
use Rattle.page_decoding.specs.Queue.{IsChunkSize}
use Rattle.page_decoding.proofs.RowLemmas.{one_of-left, one_of-right}
use Rattle.flat_values.specs.ColumnLeft.{ColumnLeft}
use Rattle.flat_values.specs.Conversion.{Conversion}
use Rattle.flat_values.specs.NullChunks.{nulls_left}
use Rattle.flat_binary.specs.Left.{Supply, converted_left}
use Rattle.flat_binary.specs.NullType.{is_null_type}
use Rattle.flat_binary.specs.Begun.{BeginsColumn, IsRefusedPair, column_left}
use Rattle.parquet_read.specs.ColumnPages.{column_pages, rows_to_lend}
use Rattle.parquet_read.specs.Opening.{AreShaped, ChunkBytes, IsRefusal, OpensAsked, OpensPages, are_in_chunk, counted_from, fresh_supply, location_causes, placed_in, size_within, start_behind}
use Rattle.parquet_read.specs.declared.column_pages.ColumnPages.{ColumnPages}
use Rattle.parquet_read.specs.declared.column_pages.ColumnPages.TheVariants.{Located, Whole}

-- ---- refusals

pub refusal_left : (Legal : Type 0) (first rest : List Cause) (e : Error) → IsWantOfMemory e ⊎ IsOneOf first (cause_of e) → IsRefusal Legal (first ++ rest) e
refusal_left Legal first rest e (inl memory) = inl memory
refusal_left Legal first rest e (inr one) = inr (inr (one_of-left first rest (cause_of e) one))

pub refusal_right : (Legal : Type 0) (first rest : List Cause) (e : Error) → IsRefusal Legal rest e → IsRefusal Legal (first ++ rest) e
refusal_right Legal first rest e (inl memory) = inl memory
refusal_right Legal first rest e (inr (inl misfit)) = inr (inl misfit)
refusal_right Legal first rest e (inr (inr one)) = inr (inr (one_of-right first rest (cause_of e) one))

-- what is less than legal is not legal
pub refusal_for : (Legal Own : Type 0) → (Legal → Own) → (causes : List Cause) (e : Error) → IsRefusal Own causes e → IsRefusal Legal causes e
refusal_for Legal Own goes causes e (inl memory) = inl memory
refusal_for Legal Own goes causes e (inr (inl misfit)) = inr (inl (misfit.0, λ legal. misfit.1 (goes legal)))
refusal_for Legal Own goes causes e (inr (inr one)) = inr (inr one)

-- ---- chunk sizes

pub size_stays : (rows : ℕ) (size : Option ℕ) → IsChunkSize size → IsChunkSize (size_within rows size)
size_stays rows None some = tt
size_stays rows (Some size) some = omega (arith, some)

-- ---- pages in their places

pub counts_same : (start : ℕ) (entries : List FilteredPage) → selected_count (map (counted_from start) entries) ≡ selected_count entries
counts_same start [] = refl
counts_same start (entry ∷ entries) =
    let rows = λ (other : FilteredPage). row_count other.selected_rows in
    omega (arith, counts_same start entries, sum_by-cons rows entry entries, sum_by-cons rows (counted_from start entry) (map (counted_from start) entries))

pub shaped_same : (start : ℕ) (entries : List FilteredPage) → are_well_shaped (map (counted_from start) entries) ≡ are_well_shaped entries
shaped_same start entries =
    let shape = λ (entry : FilteredPage). is_well_shaped entry.selected_rows entry.num_rows in
    ap (λ (b : Bool). b && nat_lt (selected_count (map (counted_from start) entries)) (2 ^ 64)) (list_all-map shape (counted_from start) entries)
    ∙ ap (λ (n : ℕ). list_all shape entries && nat_lt n (2 ^ 64)) (counts_same start entries)

pub supply_fresh : (made lent : Lent) (count rows given : ℕ) → made ≡ lent → count ≡ rows → given ≡ 0
    → (let own : Supply = record { pages = made.pages; causes = made.causes; row_count = count; lent = given } in own) ≡ fresh_supply lent rows
supply_fresh made lent count rows given same counted none = rw (same, counted, none) refl

pub whole_opens : (nulls : Bool) (chunk : ChunkBytes) (reader : PageReader)
    → reader_lent reader ≡ chunk_lent chunk.0.descriptor.primitive_type chunk.0.num_values chunk.1 → AreOfType chunk.0.descriptor.primitive_type (reader_pages reader)
    → has_data_behind (reader_pages reader) ≡ true → reader_rows reader ≡ chunk.0.num_values → reader_count reader ≡ 0 → OpensPages nulls chunk None (Ok (Whole reader))
whole_opens nulls chunk reader lends typed ordered rows none = record {
  typed = typed;
  ordered = ordered;
  rows = rows;
  supply = λ _. supply_fresh (reader_lent reader) (chunk_lent chunk.0.descriptor.primitive_type chunk.0.num_values chunk.1) (reader_rows reader) chunk.0.num_values (reader_count reader) lends rows none;
  shaped = tt;
  sound = refl;
  refused = tt;
}

pub located_opens : (chunk : ChunkBytes) (entries placed : List FilteredPage) (reader : IndexedPageReader) → placed ≡ placed_in chunk.0 entries
    → start_behind (chunk_start chunk.0) entries ≡ true → are_well_shaped placed ≡ true → lie_within (length chunk.1) placed ≡ true
    → indexed_lent reader ≡ located_chunk chunk.0.descriptor.primitive_type chunk.1 placed → AreOfType chunk.0.descriptor.primitive_type (indexed_pages reader)
    → has_data_behind (indexed_pages reader) ≡ true → indexed_rows reader ≡ selected_count placed → indexed_count reader ≡ 0 → OpensPages false chunk (Some entries) (Ok (Located reader))
located_opens chunk entries placed reader is behind shaped within lends typed ordered rows none =
    let start = chunk_start chunk.0 in
    let counted : indexed_rows reader ≡ selected_count entries = rows ∙ ap selected_count is ∙ counts_same start entries in
    let lies : lie_within (length chunk.1) (placed_in chunk.0 entries) ≡ true = sym (ap (lie_within (length chunk.1)) is) ∙ within in
    let inside : are_in_chunk chunk entries ≡ true = and_from _ _ behind lies in
    record {
      typed = typed;
      ordered = ordered;
      rows = counted;
      supply = λ _. supply_fresh (indexed_lent reader) (located_chunk chunk.0.descriptor.primitive_type chunk.1 (placed_in chunk.0 entries)) (indexed_rows reader) (selected_count entries) (indexed_count reader)
          (lends ∙ ap (located_chunk chunk.0.descriptor.primitive_type chunk.1) is) counted none;
      shaped = sym (shaped_same start entries) ∙ sym (ap are_well_shaped is) ∙ shaped;
      sound = ap (λ (b : Bool). unless b ExternalFormat) inside;
      refused = tt;
    }

outside : (behind within : Bool) (e : Error) → behind && within ≡ false → cause_of e ≡ Some ExternalFormat → IsOneOf (unless (behind && within) ExternalFormat) (cause_of e)
outside behind within e not_in cause =
    subst (λ (o : Option Cause). IsOneOf (unless (behind && within) ExternalFormat) o) (sym cause)
    (subst (λ (b : Bool). IsOneOf (unless b ExternalFormat) (Some ExternalFormat)) (sym not_in) (0, omega arith, refl))

pub starts_before : (chunk : ChunkBytes) (entries : List FilteredPage) (e : Error) → start_behind (chunk_start chunk.0) entries ≡ false → cause_of e ≡ Some ExternalFormat
    → IsRefusal (AreShaped (Some entries)) (location_causes false chunk (Some entries)) e
starts_before chunk entries e before cause =
    let within = lie_within (length chunk.1) (placed_in chunk.0 entries) in
    inr (inr (outside (start_behind (chunk_start chunk.0) entries) within e (ap (λ (b : Bool). b && within) before) cause))

pub located_refused : (chunk : ChunkBytes) (entries placed : List FilteredPage) (e : Error) → placed ≡ placed_in chunk.0 entries → start_behind (chunk_start chunk.0) entries ≡ true
    → Refuses (are_well_shaped placed) (given (lie_within (length chunk.1) placed) placed) e → IsRefusal (AreShaped (Some entries)) (location_causes false chunk (Some entries)) e
located_refused chunk entries placed e is behind refuses = go (are_well_shaped placed) (lie_within (length chunk.1) placed) refl refl refuses where
  go : (shaped within : Bool) → are_well_shaped placed ≡ shaped → lie_within (length chunk.1) placed ≡ within → Refuses shaped (given within placed) e
      → IsRefusal (AreShaped (Some entries)) (location_causes false chunk (Some entries)) e
  go false within shape lies (inl memory) = inl memory
  go false within shape lies (inr invalid) =
      inr (inl (invalid, λ own. absurd (let bad : true ≡ false = sym own ∙ sym (shaped_same (chunk_start chunk.0) entries) ∙ sym (ap are_well_shaped is) ∙ shape in cc)))
  go true true shape lies (inl memory) = inl memory
  go true true shape lies (inr damaged) = absurd (let bad : Some placed ≡ None = damaged.1 in cc)
  go true false shape lies (inl memory) = inl memory
  go true false shape lies (inr damaged) =
      let out : lie_within (length chunk.1) (placed_in chunk.0 entries) ≡ false = sym (ap (lie_within (length chunk.1)) is) ∙ lies in
      inr (inr (outside (start_behind (chunk_start chunk.0) entries) (lie_within (length chunk.1) (placed_in chunk.0 entries)) e
      (ap (λ (b : Bool). b && lie_within (length chunk.1) (placed_in chunk.0 entries)) behind ∙ out) damaged.0))

-- ---- nulls

pub nulls_refused : (shaped parts : Bool) (all : List FilteredPage) (e : Error) → parts ≡ true → Refuses (shaped && parts) (Some all) e → IsWantOfMemory e ⊎ IsMisfit (shaped ≡ true) e
nulls_refused true true all e is (inl memory) = inl memory
nulls_refused true true all e is (inr damaged) = absurd (let bad : Some all ≡ None = damaged.1 in cc)
nulls_refused false parts all e is (inl memory) = inl memory
nulls_refused false parts all e is (inr invalid) = inr (invalid, λ own. absurd (let bad : false ≡ true = own in cc))
nulls_refused true false all e is refuses = absurd (let bad : false ≡ true = is in cc)

misfit : (entries : List FilteredPage) (e : Error) → IsWantOfMemory e ⊎ IsMisfit (are_well_shaped entries ≡ true) e → IsRefusal (AreShaped (Some entries)) [] e
misfit entries e (inl memory) = inl memory
misfit entries e (inr own) = inr (inl own)

pub nulls_open : (chunk : ChunkBytes) (entries : List FilteredPage) (result : Result ColumnPages Error) → IfOk result (λ pages. AreOfType chunk.0.descriptor.primitive_type (column_pages pages))
    → IfOk result (λ pages. has_data_behind (column_pages pages) ≡ true) → IfOk result (λ pages. rows_to_lend pages ≡ selected_count entries) → OnOk result (are_well_shaped entries ≡ true) → IfErr result (λ e. IsWantOfMemory e ⊎ IsMisfit (are_well_shaped entries ≡ true) e)
    → OpensPages true chunk (Some entries) result
nulls_open chunk entries (Ok pages) typed ordered rows shaped err = record { typed = typed; ordered = ordered; rows = rows; supply = λ own. absurd (let bad : true ≡ false = own in cc); shaped = shaped; sound = refl; refused = tt }
nulls_open chunk entries (Err e) typed ordered rows shaped err = record { typed = tt; ordered = tt; rows = tt; supply = tt; shaped = tt; sound = tt; refused = misfit entries e err }

-- ---- arrays

pub supply_same : (physical : PhysicalType) (data_type : DataType) (size : Option ℕ) (rows : ℕ) (supply own : Supply) (rule : Conversion) → supply.row_count ≡ own.row_count → (is_null_type data_type ≡ false → supply ≡ own)
    → column_left physical data_type size rows supply rule ≡ column_left physical data_type size rows own rule
supply_same physical data_type size rows supply own rule counted same = go (is_null_type data_type) same where
  go : (b : Bool) → (b ≡ false → supply ≡ own)
      → (if b then nulls_left (record { size = size; rows = min rows supply.row_count }) else converted_left physical data_type size rows supply rule)
      ≡ (if b then nulls_left (record { size = size; rows = min rows own.row_count }) else converted_left physical data_type size rows own rule)
  go true same = ap (λ (n : ℕ). nulls_left (record { size = size; rows = min rows n })) counted
  go false same = ap (λ (s : Supply). converted_left physical data_type size rows s rule) (same refl)

not_carried : (columns locations : List Cause) (e : Error) → cause_of e ≡ Some NotYetImplemented → IsOneOf (columns ++ ((NotYetImplemented ∷ []) ++ locations)) (cause_of e)
not_carried columns locations e cause =
    subst (λ (o : Option Cause). IsOneOf (columns ++ ((NotYetImplemented ∷ []) ++ locations)) o) (sym cause)
    (one_of-right columns ((NotYetImplemented ∷ []) ++ locations) (Some NotYetImplemented) (one_of-left (NotYetImplemented ∷ []) locations (Some NotYetImplemented) (0, omega arith, refl)))

pub arrays_begin : {X : Type 0} (left_of : X → ColumnLeft) (Legal : Type 0) (columns locations : List Cause) (made own : Conversion → ColumnLeft) (rule : Option Conversion) (result : Result X Error)
    → Legal → columns ≡ [] → locations ≡ [] → ((conversion : Conversion) → made conversion ≡ own conversion)
    → IfSome rule (λ conversion. BeginsColumn left_of (made conversion) result) → (rule ≡ None → IsRefusedPair result)
    → OpensAsked Legal (columns ++ (unless (is_some rule) NotYetImplemented ++ locations)) left_of (option_map own rule) result
arrays_begin left_of Legal columns locations made own None (Ok arrays) legal flat lie same begins refused = absurd (refused refl)
arrays_begin left_of Legal columns locations made own None (Err e) legal flat lie same begins refused =
    record { legal = tt; sound = tt; begins = tt; refused = inr (inr (not_carried columns locations e (refused refl))) }
arrays_begin left_of Legal columns locations made own (Some conversion) (Ok arrays) legal flat lie same begins refused =
    record { legal = legal; sound = rw (flat, lie) refl; begins = ap (λ (left : ColumnLeft). Some left) (begins.begun ∙ same conversion); refused = tt }
arrays_begin left_of Legal columns locations made own (Some conversion) (Err e) legal flat lie same begins refused =
    record { legal = tt; sound = tt; begins = tt; refused = inl begins.memory }
