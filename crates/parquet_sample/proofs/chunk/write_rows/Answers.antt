use Rattle.std.proofs.Common.{◌≡◌, ℕ, List, ◌++◌, Option, sym, ap, ◌∙◌, arith, length, length-append}
use Rattle.parquet_plain.specs.Description.{PlainPage, page_bytes}
use Rattle.parquet_plain.specs.Columns.{written_page}
use Rattle.parquet_plain.specs.Structs.{page_header_bytes}
use Rattle.parquet_plain.specs.declared.ends.Ends.{Ends}
use Rattle.parquet_sample.specs.Parts.{sample_page}
use Rattle.parquet_sample.specs.Writing.{body_from}
use Rattle.parquet_sample.proofs.PageLemmas.{page-is}
use Rattle.parquet_write.specs.declared.facts.PageFacts.{PageFacts}
use Rattle.parquet_sample.proofs.chunk.write_rows.Goals as goal

pub returns-clause-written : goal.returns-clause-written
returns-clause-written c =
    let body : c.deref.result.now ≡ body_from c.args.column c.args.first c.args.rows =
    c.deref.ensures.value ∙ c.in_ok-write_body.ensures.written ∙ ap (λ (bs : List ℕ). bs ++ body_from c.args.column c.args.first c.args.rows) c.clear.ensures.items in
    c.in_ok-write_page.ensures.written ∙ ap (λ (bs : List ℕ). c.args.out.now.items ++ (page_header_bytes c.args.rows (length bs) ++ bs)) body
    ∙ ap (λ (bs : List ℕ). c.args.out.now.items ++ bs) (sym (page-is c.args.column c.args.first c.args.rows))

pub returns-clause-told : goal.returns-clause-told
unfolding written_page
returns-clause-told c =
    let body : c.deref.result.now ≡ body_from c.args.column c.args.first c.args.rows =
    c.deref.ensures.value ∙ c.in_ok-write_body.ensures.written ∙ ap (λ (bs : List ℕ). bs ++ body_from c.args.column c.args.first c.args.rows) c.clear.ensures.items in
    let page : PlainPage = sample_page c.args.column c.args.first c.args.rows in
    let out : List ℕ = c.args.out.now.items in
    let whole : c.write_page.new.out.items ≡ out ++ page_bytes page =
    c.in_ok-write_page.ensures.written ∙ ap (λ (bs : List ℕ). out ++ (page_header_bytes c.args.rows (length bs) ++ bs)) body
    ∙ ap (λ (bs : List ℕ). out ++ bs) (sym (page-is c.args.column c.args.first c.args.rows)) in
    let size : c.in_ok-size.size ≡ length (page_bytes page) = omega (arith, c.in_ok-size.ensures, c.len.ensures, c.len-start.ensures, ap length whole, length-append out (page_bytes page)) in
    let fact : ℕ → ℕ → ℕ → ℕ → Option Ends → PageFacts = λ o s r n e. record { offset = o; size = s; first_row = r; nulls = n; ends = e } in
    let at : c.len-start.result ≡ length out = omega (arith, c.len-start.ensures) in
    ap (λ (o : ℕ). fact o c.in_ok-size.size c.from.result c.null_count.result c.in_ok-ends.ends) at
    ∙ ap (λ (s : ℕ). fact (length out) s c.from.result c.null_count.result c.in_ok-ends.ends) size
    ∙ ap (λ (r : ℕ). fact (length out) (length (page_bytes page)) r c.null_count.result c.in_ok-ends.ends) c.from.ensures
    ∙ ap (λ (n : ℕ). fact (length out) (length (page_bytes page)) c.args.row n c.in_ok-ends.ends) c.null_count.ensures
    ∙ ap (λ (e : Option Ends). fact (length out) (length (page_bytes page)) c.args.row page.nulls e) c.in_ok-ends.ensures
