use Rattle.std.proofs.Common.{◌≡◌, ◌∙◌, sym, subst, Option, None}
use Rattle.std.specs.Prelude.{MatchOption}
use Rattle.parquet_page.specs.Lent.{wanted_page}
use Rattle.parquet_page.specs.Parts.{Fills}
use Rattle.parquet_page.specs.declared.found.FoundPage.{FoundPage}
use Rattle.parquet_page.proofs.PartLemmas.{dictionary_is_no_data, fills, has_other_count, is_shorter, no_wanted_page}
use Rattle.parquet_page.proofs.parts.find_wanted.Goals as goal

pub returns-in_err-found : goal.returns-in_err-found
returns-in_err-found c =
    let none = no_wanted_page c.args.entry.now c.args.part.now c.if-part-entry.false c.in_err-found.ensures in
    subst (λ (result : Option FoundPage). MatchOption result (wanted_page c.args.entry.now c.args.part.now ≡ None) (Fills c.args.entry.now c.args.part.now)) (sym c.from_residual.ensures) none

pub returns-then-found-part : goal.returns-then-found-part
returns-then-found-part c =
    is_shorter c.args.entry.now c.args.part.now c.in_ok-found.found c.in-Data.header c.if-part-entry.false c.in_ok-found.ensures c.in-Data.is c.if-found-part.true

pub returns-then-value_count-entry : goal.returns-then-value_count-entry
returns-then-value_count-entry c =
    has_other_count c.args.entry.now c.args.part.now c.in_ok-found.found c.in-Data.header c.if-part-entry.false c.in_ok-found.ensures c.in-Data.is (λ same. c.if-value_count-entry.true (c.value_count.ensures ∙ same))

pub returns-else-value_count-entry : goal.returns-else-value_count-entry
returns-else-value_count-entry c =
    fills c.args.entry.now c.args.part.now c.in_ok-found.found c.in-Data.header c.if-part-entry.false c.in_ok-found.ensures c.in-Data.is c.if-found-part.false (sym c.value_count.ensures ∙ c.if-value_count-entry.false)

pub returns-in-Dictionary : goal.returns-in-Dictionary
returns-in-Dictionary c =
    dictionary_is_no_data c.args.entry.now c.args.part.now c.in_ok-found.found c.in-Dictionary.num_values c.in-Dictionary.encoding c.if-part-entry.false c.in_ok-found.ensures c.in-Dictionary.is
