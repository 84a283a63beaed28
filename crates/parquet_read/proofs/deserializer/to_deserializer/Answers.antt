use Rattle.std.proofs.Common.{◌≡◌, ◌∙◌, ℕ, Vec, Global, Bor, List, Option, Some, None, length, map, refl, sym, ap, subst, inl, inr, arith}
use Rattle.std.specs.Prelude.{Err, Result, option_map}
use Rattle.std.specs.Option.{ok_or}
use Rattle.std.proofs.lemmas.List.{length-map}
use Rattle.std.proofs.lemmas.Result.{err_from_is_err_and}
use Rattle.columns_core.specs.Causes.{NotYetImplemented, cause_of}
use Rattle.columns_core.specs.declared.error.Error.{Error}
use Rattle.columns_core.specs.declared.error.Error.TheVariants as error
use Rattle.columns_core.specs.declared.error.Part.TheVariants as part
use Rattle.parquet_meta.specs.declared.metadata.ColumnChunkMetaData.{ColumnChunkMetaData}
use Rattle.parquet_page.specs.declared.page.FilteredPage.{FilteredPage}
use Rattle.parquet_read.specs.Opening.{AreShaped, ChunkBytes, OpensAsked, chunk_causes_for, lone, opened_left}
use Rattle.parquet_read.specs.RowGroup.{iter_left}
use Rattle.parquet_read.proofs.FieldLemmas.{lone-map, none_lone, one_opens, own_list, paired_own, paired_shown, shown}
use Rattle.parquet_read.proofs.deserializer.to_deserializer.Goals as goal

-- a chunk whose column is borrowed
abbrev Held : Type 0
Held = Bor ColumnChunkMetaData × Vec ℕ Global

abbrev bytes_of : Held → ChunkBytes
bytes_of chunk = (chunk.0.now, chunk.1.items)

-- where there is no item the error is the one that was named
not_one : (o : Option Held) (e named : Error) → o ≡ None → Err e ≡ ok_or o named → cause_of named ≡ Some NotYetImplemented → cause_of e ≡ Some NotYetImplemented
not_one o e named none value cause =
    let first : Result Held Error = Err e in
    let second : Result Held Error = Err named in
    let own : first ≡ second = value ∙ ap (λ (o : Option Held). ok_or o named) none in
    let same : e ≡ named = cc in
    ap cause_of same ∙ cause

pub returns-in_err-check_request : goal.returns-in_err-check_request
returns-in_err-check_request c =
    let p = err_from_is_err_and c.from_residual.result c.from_residual.ensures.1 in
    let columns = c.args.columns.items in
    let count : c.len.result ≡ length columns = omega (arith, c.len.ensures) in
    let same = count ∙ sym (length-map columns bytes_of) in
    let err = c.in_err-check_request.ensures.err in
    rw (p.1, p.2) (record {
      legal = tt;
      sound = tt;
      begins = tt;
      refused = inr (inl (err.0, λ legal. err.1 (legal.sized, paired_own c.args.pages c.len.result (length (map bytes_of columns)) same legal.paired)));
    })

pub returns-in_err-chunk : goal.returns-in_err-chunk
returns-in_err-chunk c =
    let p = err_from_is_err_and c.from_residual-in_err-chunk.result c.from_residual-in_err-chunk.ensures.1 in
    let columns = c.args.columns.items in
    let lists = option_map shown c.args.pages in
    let e = c.in_err-chunk.field-0.0 in
    let none : lone (map bytes_of columns) ≡ None =
    lone-map bytes_of columns ∙ ap (λ (o : Option Held). option_map bytes_of o) (sym c.lone.ensures ∙ c.in_err-chunk.ensures.ok_part) in
    let cause : cause_of e ≡ Some NotYetImplemented =
    not_one c.lone.result e (error.NotYetImplemented part.Schema) c.in_err-chunk.ensures.ok_part c.in_err-chunk.ensures.value refl in
    rw (p.1, p.2) (none_lone iter_left c.args.field.data_type c.args.chunk_size c.args.num_rows lists (map bytes_of columns) e none cause)

pub returns : goal.returns
returns c =
    let columns = c.args.columns.items in
    let chunks = map bytes_of columns in
    let held = c.in_ok-chunk.chunk in
    let chunk = bytes_of held in
    let own : lone columns ≡ Some held = sym c.lone.ensures ∙ c.in_ok-chunk.ensures.ok_part in
    let one = lone-map bytes_of columns ∙ ap (λ (o : Option Held). option_map bytes_of o) own in
    let count : c.len.result ≡ length columns = omega (arith, c.len.ensures) in
    let same = count ∙ sym (length-map columns bytes_of) in
    let asked = c.in_ok-check_request.ensures.ok in
    let data_type = c.args.field.data_type in
    let size = c.args.chunk_size in
    let rows = c.args.num_rows in
    let lists = option_map shown c.args.pages in
    one_opens iter_left data_type size rows lists chunks chunk c.open_chunk.result one asked.0 (paired_shown c.args.pages c.len.result (length chunks) same asked.1)
    (subst (λ (entries : Option (List FilteredPage)). OpensAsked (AreShaped entries) (chunk_causes_for data_type entries chunk) iter_left (opened_left data_type size rows entries chunk) c.open_chunk.result)
    (own_list c.args.pages c.lone_list-pages.result c.lone_list-pages.ensures) c.open_chunk.ensures)
