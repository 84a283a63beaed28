use Rattle.std.proofs.Common.{◌≡◌, ℕ, Bool, false, true, ◌&&◌, List, Some, Vec, ap, length, map, subst, sym, ◌∙◌}
use Rattle.std.specs.Prelude.{All, IfErr, IfOk, OnOk}
use Rattle.std.specs.declared.alloc.Global.{Global}
use Rattle.std.proofs.lemmas.Result.{IfErr-weaker, IfOk-weaker, on_ok_weaker}
use Rattle.std.proofs.lemmas.List.{length-map}
use Rattle.columns_core.specs.declared.array.Array.{Array}
use Rattle.columns_core.specs.declared.data_type.Field.{Field}
use Rattle.parquet_meta.specs.declared.metadata.ColumnDescriptor.{ColumnDescriptor}
use Rattle.parquet_meta.specs.declared.metadata.FileMetaData.{FileMetaData}
use Rattle.parquet_plain.specs.Description.{PlainFile, descriptor_of}
use Rattle.parquet_plain.specs.File.{chunks_of, meta_data_of_plain, plain_file}
use Rattle.parquet_plain.specs.Short.{are_short_chunks, is_short_footer}
use Rattle.parquet_plain.proofs.ShortLemmas.{and_both, and_second}
use Rattle.parquet_write.specs.Parts.{file_bytes, groups_facts, starts_of, told_of}
use Rattle.parquet_write.specs.Told.{HasColumns}
use Rattle.parquet_write.specs.declared.facts.GroupFacts.{GroupFacts}
use Rattle.parquet_write.specs.declared.parts.Parts.{Parts}
use Rattle.parquet_write.proofs.FileLemmas.{file-is, told-is}
use Rattle.put_program.specs.Put.{column_of_field, is_short_file, put, put_description}
use Rattle.put_program.specs.Request.{FitsTogether, RefusesToPut, columns_of_chunks}
use Rattle.put_program.specs.Typed.{put_groups}
use Rattle.put_program.proofs.FileLemmas.{description-is, err-is, even-groups, file_put, put-is, refuses}
use Rattle.put_program.proofs.file.put_file.Goals as goal

-- where the first chunk begins, chunks that are too large make the file too large
first-large : (begin : ℕ) (file description : PlainFile) → begin ≡ 4 → description ≡ file → are_short_chunks begin (chunks_of file.groups) ≡ false → is_short_file description ≡ false
first-large begin file description four same large =
    ap is_short_file same ∙ ap (λ (b : Bool). b && is_short_footer (meta_data_of_plain file)) (ap (λ (n : ℕ). are_short_chunks n (chunks_of file.groups)) (sym four) ∙ large)

-- so does a footer
footer-large : (file description : PlainFile) (told : FileMetaData) → description ≡ file → told ≡ meta_data_of_plain file → is_short_footer told ≡ false → is_short_file description ≡ false
footer-large file description told same own large =
    ap is_short_file same ∙ and_second (are_short_chunks 4 (chunks_of file.groups)) (is_short_footer (meta_data_of_plain file)) (ap is_short_footer (sym own) ∙ large)

all-short : (begin : ℕ) (file description : PlainFile) (told : FileMetaData) → begin ≡ 4 → description ≡ file → told ≡ meta_data_of_plain file → are_short_chunks begin (chunks_of file.groups) ≡ true →
    is_short_footer told ≡ true → is_short_file description ≡ true
all-short begin file description told four same own short footer =
    ap is_short_file same ∙ and_both (are_short_chunks 4 (chunks_of file.groups)) (is_short_footer (meta_data_of_plain file))
    (ap (λ (n : ℕ). are_short_chunks n (chunks_of file.groups)) (sym four) ∙ short) (ap is_short_footer (sym own) ∙ footer)

pub returns-in_err-groups-clause-refused : goal.returns-in_err-groups-clause-refused
returns-in_err-groups-clause-refused c =
    let fields : List Field = c.as_slice-fields.result.now in
    let chunks : List (List Array) = c.args.chunks.now in
    let page_rows : ℕ = c.args.page_rows in
    let fit : FitsTogether fields chunks page_rows = c.fits_together.ensures.0 c.if-not-fits_together.false in
    let begin : length c.in_ok-parts.parts.chunks.items ≡ 4 = ap length c.in_ok-parts.ensures.begins in
    subst (λ (fs : List Field). IfErr c.from_residual-in_err-groups.result (RefusesToPut fs chunks page_rows)) c.as_slice-fields.ensures
    (err-is c.from_residual-in_err-groups.result (RefusesToPut fields chunks page_rows) c.in_err-groups.field-0.0 c.from_residual-in_err-groups.ensures.1
    (refuses fields chunks page_rows _ _ fit c.in_ok-columns.ensures.written
    (first-large _ (file_put page_rows fields chunks) (put_description fields (columns_of_chunks chunks) page_rows) begin (description-is page_rows fields chunks)) c.in_err-groups.ensures.short.cause))

pub end_file-requires : goal.end_file-requires
end_file-requires c =
    let fields : List Field = c.as_slice-fields.result.now in
    let chunks : List (List Array) = c.args.chunks.now in
    let fit : FitsTogether fields chunks c.args.page_rows = c.fits_together.ensures.0 c.if-not-fits_together.false in
    let columns : length c.deref.result.now ≡ length fields =
    ap length (c.deref.ensures.value ∙ c.in_ok-columns.ensures.columns) ∙ length-map (map column_of_field fields) descriptor_of ∙ length-map fields column_of_field in
    record {
      even = subst (λ (groups : List GroupFacts). All (HasColumns (length c.deref.result.now)) groups) (sym (c.deref-2.ensures.value ∙ c.in_ok-groups.ensures.told))
          (subst (λ (n : ℕ). All (HasColumns n) (groups_facts (starts_of c.in_ok-parts.parts) (put_groups c.args.page_rows fields chunks))) (sym columns)
          (even-groups c.args.page_rows fields (starts_of c.in_ok-parts.parts) chunks fit.each));
    }

pub returns-clause-written : goal.returns-clause-written
returns-clause-written c =
    let fields : List Field = c.as_slice-fields.result.now in
    let chunks : List (List Array) = c.args.chunks.now in
    let page_rows : ℕ = c.args.page_rows in
    let parts : Parts = c.add_groups.new.parts in
    let file : PlainFile = file_put page_rows fields chunks in
    let told = c.deref-2.ensures.value ∙ c.in_ok-groups.ensures.told in
    let bytes : file_bytes parts c.deref.result.now c.deref-2.result.now ≡ plain_file file =
    ap (λ (columns : List ColumnDescriptor). file_bytes parts columns c.deref-2.result.now) (c.deref.ensures.value ∙ c.in_ok-columns.ensures.columns)
    ∙ file-is file c.in_ok-parts.parts parts c.deref-2.result.now c.in_ok-parts.ensures c.in_ok-groups.ensures.adds told in
    subst (λ (fs : List Field). IfOk c.end_file.result (λ (own : Vec ℕ Global). put fs (columns_of_chunks chunks) page_rows ≡ Some own.items)) c.as_slice-fields.ensures
    (IfOk-weaker c.end_file.result _ _ (λ own is. put-is page_rows fields chunks own.items c.in_ok-columns.ensures.written (is ∙ bytes)) c.end_file.ensures.written)

pub returns-clause-tellable : goal.returns-clause-tellable
returns-clause-tellable c =
    let fields : List Field = c.as_slice-fields.result.now in
    let chunks : List (List Array) = c.args.chunks.now in
    let page_rows : ℕ = c.args.page_rows in
    let parts : Parts = c.add_groups.new.parts in
    let file : PlainFile = file_put page_rows fields chunks in
    let begin : length c.in_ok-parts.parts.chunks.items ≡ 4 = ap length c.in_ok-parts.ensures.begins in
    let told : told_of parts c.deref.result.now c.deref-2.result.now ≡ meta_data_of_plain file =
    ap (λ (columns : List ColumnDescriptor). told_of parts columns c.deref-2.result.now) (c.deref.ensures.value ∙ c.in_ok-columns.ensures.columns)
    ∙ told-is file c.in_ok-parts.parts parts c.deref-2.result.now c.in_ok-parts.ensures c.in_ok-groups.ensures.adds (c.deref-2.ensures.value ∙ c.in_ok-groups.ensures.told) in
    subst (λ (fs : List Field). OnOk c.end_file.result (is_short_file (put_description fs (columns_of_chunks chunks) page_rows) ≡ true)) c.as_slice-fields.ensures
    (on_ok_weaker c.end_file.result (all-short _ file (put_description fields (columns_of_chunks chunks) page_rows) _ begin (description-is page_rows fields chunks) told c.in_ok-groups.ensures.short.fits)
    c.end_file.ensures.short.fits)

pub returns-clause-refused : goal.returns-clause-refused
returns-clause-refused c =
    let fields : List Field = c.as_slice-fields.result.now in
    let chunks : List (List Array) = c.args.chunks.now in
    let page_rows : ℕ = c.args.page_rows in
    let parts : Parts = c.add_groups.new.parts in
    let file : PlainFile = file_put page_rows fields chunks in
    let fit : FitsTogether fields chunks page_rows = c.fits_together.ensures.0 c.if-not-fits_together.false in
    let told : told_of parts c.deref.result.now c.deref-2.result.now ≡ meta_data_of_plain file =
    ap (λ (columns : List ColumnDescriptor). told_of parts columns c.deref-2.result.now) (c.deref.ensures.value ∙ c.in_ok-columns.ensures.columns)
    ∙ told-is file c.in_ok-parts.parts parts c.deref-2.result.now c.in_ok-parts.ensures c.in_ok-groups.ensures.adds (c.deref-2.ensures.value ∙ c.in_ok-groups.ensures.told) in
    subst (λ (fs : List Field). IfErr c.end_file.result (RefusesToPut fs chunks page_rows)) c.as_slice-fields.ensures
    (IfErr-weaker c.end_file.result _ _ (λ e cause. refuses fields chunks page_rows _ e fit c.in_ok-columns.ensures.written
    (footer-large file (put_description fields (columns_of_chunks chunks) page_rows) _ (description-is page_rows fields chunks) told) cause) c.end_file.ensures.short.cause)
