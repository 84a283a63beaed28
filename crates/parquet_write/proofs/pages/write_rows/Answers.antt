use Rattle.std.proofs.Common.{◌≡◌, ◌≤◌, ℕ, ◌^◌, List, Option, ◌++◌, inr, ap, ◌∙◌, arith, length, length-append}
use Rattle.std.specs.List.{slice_range}
use Rattle.parquet_page.specs.Stored.{Stored}
use Rattle.parquet_page.proofs.RefusalLemmas.{when_ok, when_refused}
use Rattle.parquet_plain.specs.Columns.{Written, written_page}
use Rattle.parquet_plain.specs.Description.{PlainPage, page_bytes}
use Rattle.parquet_plain.specs.Short.{is_short_page}
use Rattle.parquet_plain.proofs.RowLemmas.{length-rows}
use Rattle.parquet_plain.proofs.ShortLemmas.{body_is_long, page_has_many_rows, page_is_long, page_is_short}
use Rattle.parquet_write.specs.Items.{unnamed_column}
use Rattle.parquet_write.proofs.AnswerLemmas.{writes_nothing}
use Rattle.parquet_write.proofs.PagingLemmas.{body-of-page, body_of, page-is-written, rows-of-page}
use Rattle.parquet_write.proofs.pages.write_rows.Goals as goal

pub returns-in_err-rows-clause-written : goal.returns-in_err-rows-clause-written
returns-in_err-rows-clause-written g c =
    let to : Written = unnamed_column (g.I.Items.type_ c.args.items.now) (g.I.Items.at_most c.args.items.now) c.args.paging in
    let rows : List (Option Stored) = slice_range (g.I.Items.items c.args.items.now) c.args.from c.args.to in
    let many = length-rows c.args.from c.args.to (g.I.Items.items c.args.items.now) c.requires.within in
    let large : 2 ^ 31 ≤ (written_page to rows).rows = omega (arith, c.in_err-rows.ensures.err.1, rows-of-page to rows, many) in
    writes_nothing (page_bytes (written_page to rows)) (is_short_page (written_page to rows)) c.args.out.now c.from_residual.result c.args.out.now c.in_err-rows.field-0.0 c.from_residual.ensures.1 (inr (c.in_err-rows.ensures.err.0, page_has_many_rows (written_page to rows) large))

pub returns-in_err-to_short-clause-written : goal.returns-in_err-to_short-clause-written
returns-in_err-to_short-clause-written g c =
    let to : Written = unnamed_column (g.I.Items.type_ c.args.items.now) (g.I.Items.at_most c.args.items.now) c.args.paging in
    let rows : List (Option Stored) = slice_range (g.I.Items.items c.args.items.now) c.args.from c.args.to in
    let large : 2 ^ 31 ≤ length (written_page to rows).body = omega (arith, c.in_err-to_short.ensures.err.1, c.len.ensures, ap length c.in_ok-write_body.ensures, ap length (body-of-page to rows)) in
    writes_nothing (page_bytes (written_page to rows)) (is_short_page (written_page to rows)) c.args.out.now (c.from_residual-in_err-to_short).result c.args.out.now c.in_err-to_short.field-0.0 (c.from_residual-in_err-to_short).ensures.1 (inr (c.in_err-to_short.ensures.err.0, body_is_long (written_page to rows) large))

pub returns : goal.returns
returns g c =
    let to : Written = unnamed_column (g.I.Items.type_ c.args.items.now) (g.I.Items.at_most c.args.items.now) c.args.paging in
    let rows : List (Option Stored) = slice_range (g.I.Items.items c.args.items.now) c.args.from c.args.to in
    let page : PlainPage = written_page to rows in
    let out : List ℕ = c.args.out.now.items in
    let many : c.in_ok-rows.rows ≡ length rows = omega (arith, c.in_ok-rows.ensures.same, length-rows c.args.from c.args.to (g.I.Items.items c.args.items.now) c.requires.within) in
    let body : c.deref.result.now ≡ body_of to rows = c.deref.ensures.value ∙ c.in_ok-write_body.ensures in
    let whole : c.write_page.new.out.items ≡ out ++ page_bytes page =
    c.in_ok-write_page.ensures.written ∙ ap (λ (bs : List ℕ). out ++ bs) (page-is-written to rows c.in_ok-rows.rows c.deref.result.now many body) in
    let long = ap length whole ∙ length-append out (page_bytes page) in
    let few = rows-of-page to rows in
    record {
      written = record {
        written = when_ok c.to_short-3.result _ _ c.to_short-3.ensures.same (λ n same. whole);
        short = record {
          fits = when_ok c.to_short-3.result _ _ c.to_short-3.ensures.few
              (λ n short. page_is_short page (omega (arith, c.in_ok-rows.ensures.same, c.in_ok-rows.ensures.few, many, few)) (omega (arith, short, c.len-2.ensures, c.len-start.ensures, long)));
          cause = when_refused c.to_short-3.result _ _ c.to_short-3.ensures.err
              (λ e err. inr (err.0, page_is_long page (omega (arith, err.1, c.len-2.ensures, c.len-start.ensures, long))));
        };
      };
      size = when_ok c.to_short-3.result _ _ c.to_short-3.ensures.same (λ n same. omega (arith, same, c.len-2.ensures, c.len-start.ensures, long));
    }
