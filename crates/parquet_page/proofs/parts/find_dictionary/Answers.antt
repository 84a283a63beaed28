use Rattle.std.proofs.Common.{◌∙◌, sym}
use Rattle.parquet_page.proofs.PartLemmas.{begins_with_dictionary, data_is_no_dictionary, no_dictionary, other_entries}
use Rattle.parquet_page.proofs.parts.find_dictionary.Goals as goal

pub returns-in_default : goal.returns-in_default
returns-in_default c others = no_dictionary c.args.part.now others _ (sym c.is_empty.ensures ∙ c.if-is_empty.false) c.in_default.ensures

pub returns-in-Data : goal.returns-in-Data
returns-in-Data c others = data_is_no_dictionary c.args.part.now others _ c.in-Some.found c.in-Data.field-0 (sym c.is_empty.ensures ∙ c.if-is_empty.false) c.in-Some.ensures c.in-Data.is

pub returns-then-not-has_readable_entries : goal.returns-then-not-has_readable_entries
returns-then-not-has_readable_entries c others =
    other_entries c.args.part.now others _ c.in-Some.found (sym c.is_empty.ensures ∙ c.if-is_empty.false) c.in-Some.ensures c.in_default-kind.not-Data (sym c.has_readable_entries.ensures ∙ c.if-not-has_readable_entries.true)

pub returns : goal.returns
returns c others =
    begins_with_dictionary c.args.part.now others c.in-Some.found (sym c.is_empty.ensures ∙ c.if-is_empty.false) c.in-Some.ensures c.in_default-kind.not-Data (sym c.has_readable_entries.ensures ∙ c.if-not-has_readable_entries.false)
