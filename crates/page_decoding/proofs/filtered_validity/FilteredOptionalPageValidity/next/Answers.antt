use Rattle.std.proofs.Common.{◌≡◌, ◌∙◌, ◌+◌, [], ◌∷◌, None, ap, sym, take, arith}
use Rattle.std.specs.Prelude.{option_map}
use Rattle.parquet_base.specs.Intervals.{interval}
use Rattle.parquet_page.specs.Content.{data_content, header_values}
use Rattle.parquet_page.proofs.ValidityLemmas.{length-all}
use Rattle.page_decoding.specs.FilteredLeft.{intervals_of, optional_places}
use Rattle.page_decoding.proofs.FilteredLemmas.{whole-is}
use Rattle.page_decoding.proofs.filtered_validity.FilteredOptionalPageValidity.next.Goals as goal

pub overflow_add-count : goal.overflow_add-count
overflow_add-count c =
    let page = data_content c.args.page.now in
    let old = c.args.self.now in
    let size = c.len.ensures page c.requires.page.levels ∙ length-all (optional_places old.places page) in
    omega (arith, size, c.requires.page.row, c.requires.page.fits)

pub next_of-requires-in-None-clause-rows : goal.next_of-requires-in-None-clause-rows
next_of-requires-in-None-clause-rows c =
    let page = data_content c.args.page.now in
    let old = c.args.self.now in
    let count = old.row + c.len.result in
    let size = c.len.ensures page c.requires.page.levels ∙ length-all (optional_places old.places page) in
    let all : count ≡ header_values page.header = omega (arith, size, c.requires.page.row) in
    let none : page.selected ≡ None = ap (option_map (λ rows. rows.now)) c.in-None.is in
    ap (λ x. take c.min.result (x ∷ [])) c.new.ensures
    ∙ ap (λ n. take n (interval 0 count ∷ [])) c.min.ensures
    ∙ whole-is count
    ∙ ap (λ n. intervals_of n None) all
    ∙ ap (intervals_of (header_values page.header)) (sym none)
