use Rattle.std.proofs.Common.{◌≡◌, ◌∙◌, ap, length, sym, take}
use Rattle.std.proofs.Math.Seq.{take-length}
use Rattle.parquet_page.specs.Content.{data_content}
use Rattle.parquet_page.specs.Levels.{present_count}
use Rattle.parquet_page.proofs.ValidityLemmas.{length-all}
use Rattle.page_decoding.specs.FilteredLeft.{optional_places}
use Rattle.page_decoding.proofs.FilteredLemmas.{stored-plan}
use Rattle.page_decoding.proofs.filtered_validity.FilteredOptionalPageValidity.stored_count.Goals as goal

pub returns : goal.returns
returns c =
    let self = c.args.self.now in
    let page = data_content c.args.page.now in
    let places = optional_places self.places page in
    let rows : c.len-rows.result ≡ length places = c.len-rows.ensures page c.requires.page.levels ∙ length-all places in
    c.pass.ensures.present ∙ ap (λ n. present_count (take n places)) rows ∙ ap present_count (take-length places) ∙ sym (stored-plan page.selected self.row places)
