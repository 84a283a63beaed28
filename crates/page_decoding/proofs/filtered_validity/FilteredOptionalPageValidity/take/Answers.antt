use Rattle.std.proofs.Common.{rules, ◌≡◌, [], ℕ, ap, subst, length, arith, length-append}
use Rattle.std.specs.Prelude.{replicate}
use Rattle.std.proofs.lemmas.List.{length-replicate}
use Rattle.parquet_page.specs.Content.{data_content}
use Rattle.parquet_page.specs.Runs.{run_rows}
use Rattle.parquet_page.specs.SliceLeft.{GivesSliceRows as SliceGives}
use Rattle.page_decoding.specs.FilteredLeft.{optional_places}
use Rattle.page_decoding.proofs.PlaceLemmas.{none-left, run-of}
use Rattle.page_decoding.proofs.WalkLemmas.{slice-given}
use Rattle.page_decoding.proofs.filtered_validity.FilteredOptionalPageValidity.take.Goals as goal

pub returns-in_err-run-clause-ended : goal.returns-in_err-run-clause-ended
returns-in_err-run-clause-ended c =
    let over : optional_places c.args.self.now.places (data_content c.args.page.now) ≡ [] = none-left (optional_places c.args.self.now.places (data_content c.args.page.now)) c.in_err-run.ensures.run.0 in
    search rules

pub next-requires-2-clause-limit : goal.next-requires-2-clause-limit
next-requires-2-clause-limit c =
    let run = c.in_ok-run.run' in
    let page = data_content c.args.page.now in
    let own = run-of c.args.limit (optional_places c.args.self.now.places page) (optional_places c.next.new.self page) run c.in_ok-run.ensures.run c.in_ok-run.ensures.longest in
    let count : c.rows-count.result ≡ run_rows run = c.rows-count.ensures in
    omega (arith, count, own.some)

pub overflow_add-self : goal.overflow_add-self
overflow_add-self c =
    let run = c.in_ok-run.run' in
    let page = data_content c.args.page.now in
    let own = run-of c.args.limit (optional_places c.args.self.now.places page) (optional_places c.next.new.self page) run c.in_ok-run.ensures.run c.in_ok-run.ensures.longest in
    let count : c.rows-count.result ≡ run_rows run = c.rows-count.ensures in
    omega (arith, count, c.requires.fits, ap length own.begins.split, length-append (replicate (run_rows run) own.kind) (optional_places c.next.new.self page), length-replicate (run_rows run) own.kind)

pub returns-clause-run : goal.returns-clause-run
returns-clause-run c =
    let page = data_content c.args.page.now in
    run-of c.args.limit (optional_places c.args.self.now.places page) (optional_places c.next.new.self page) c.in_ok-run.run' c.in_ok-run.ensures.run c.in_ok-run.ensures.longest

pub returns-clause-given : goal.returns-clause-given
returns-clause-given c =
    let run = c.in_ok-run.run' in
    let page = data_content c.args.page.now in
    let own = run-of c.args.limit (optional_places c.args.self.now.places page) (optional_places c.next.new.self page) run c.in_ok-run.ensures.run c.in_ok-run.ensures.longest in
    let count : c.rows-count.result ≡ run_rows run = c.rows-count.ensures in
    let G : ℕ → Type 0 = λ n. SliceGives n c.args.rows.now c.args.self.now.rows c.next-2.new.self c.next-2.result in
    slice-given (run_rows run) c.args.rows.now c.args.self.now.rows c.next-2.new.self c.next-2.result (subst G count c.next-2.ensures.run) own.some (omega (arith, own.begins.most, c.requires.most))
