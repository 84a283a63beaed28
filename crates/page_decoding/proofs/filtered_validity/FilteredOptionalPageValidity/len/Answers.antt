use Rattle.std.proofs.Common.{◌∙◌, ap, length, sym}
use Rattle.page_decoding.specs.FilteredLeft.{optional_places, selected_rows}
use Rattle.page_decoding.proofs.FilteredLemmas.{kept-rows}
use Rattle.page_decoding.proofs.filtered_validity.FilteredOptionalPageValidity.len.Goals as goal

pub returns : goal.returns
returns c page is =
    let self = c.args.self.now in
    c.len.ensures (selected_rows page) is.intervals ∙ ap length is.rows ∙ sym (kept-rows page.selected self.row (optional_places self.places page))
