use Rattle.std.proofs.Common.{◌∙◌, ℕ, map, refl, sym, ap}
use Rattle.std.proofs.lemmas.Result.{err_from_is_err_and}
use Rattle.columns_core.specs.declared.error.Error.TheVariants as error
use Rattle.columns_core.specs.declared.error.Part.TheVariants as part
use Rattle.parquet_read.specs.Opening.{counted_from, start_behind}
use Rattle.parquet_read.proofs.OpenLemmas.{located_opens, located_refused, starts_before}
use Rattle.parquet_read.proofs.locations.open_located.Goals as goal

pub returns-then-not-start_behind : goal.returns-then-not-start_behind
returns-then-not-start_behind c =
    let pages = c.args.pages.items in
    let start = ap (λ (range : ℕ × ℕ). range.0) c.byte_range-start.ensures in
    let before = sym (ap (λ (n : ℕ). start_behind n pages) start) ∙ sym (ap (start_behind c.byte_range-start.result.0) c.deref.ensures.value) ∙ sym c.start_behind.ensures ∙ c.if-not-start_behind.true in
    record { typed = tt; ordered = tt; rows = tt; supply = tt; shaped = tt; sound = tt; refused = starts_before (c.args.column.now, c.args.bytes.items) pages (error.ExternalFormat part.Location) before refl }

pub returns-in_err-reader : goal.returns-in_err-reader
returns-in_err-reader c =
    let pages = c.args.pages.items in
    let p = err_from_is_err_and c.from_residual.result c.from_residual.ensures.1 in
    let start = ap (λ (range : ℕ × ℕ). range.0) c.byte_range-start.ensures in
    let behind = sym (ap (λ (n : ℕ). start_behind n pages) start) ∙ sym (ap (start_behind c.byte_range-start.result.0) c.deref.ensures.value) ∙ sym c.start_behind.ensures ∙ c.if-not-start_behind.false in
    let placed = c.counted_from-placed.ensures ∙ ap (λ (n : ℕ). map (counted_from n) pages) start in
    rw (p.1, p.2) (record {
      typed = tt;
      ordered = tt;
      rows = tt;
      supply = tt;
      shaped = tt;
      sound = tt;
      refused = located_refused (c.args.column.now, c.args.bytes.items) pages c.counted_from-placed.result.items c.in_err-reader.field-0.0 placed behind c.in_err-reader.ensures.refusal;
    })

pub returns : goal.returns
returns c =
    let pages = c.args.pages.items in
    let e = c.in_ok-reader.ensures in
    let start = ap (λ (range : ℕ × ℕ). range.0) c.byte_range-start.ensures in
    let behind = sym (ap (λ (n : ℕ). start_behind n pages) start) ∙ sym (ap (start_behind c.byte_range-start.result.0) c.deref.ensures.value) ∙ sym c.start_behind.ensures ∙ c.if-not-start_behind.false in
    let placed = c.counted_from-placed.ensures ∙ ap (λ (n : ℕ). map (counted_from n) pages) start in
    located_opens (c.args.column.now, c.args.bytes.items) pages c.counted_from-placed.result.items c.in_ok-reader.reader placed behind e.shaped e.lies e.lends e.typed e.ordered e.rows e.lent
