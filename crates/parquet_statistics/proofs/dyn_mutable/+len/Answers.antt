use Rattle.std.proofs.Common.{◌∙◌, List, ap, length, sym}
use Rattle.std.specs.Prelude.{option_copied, slice_get}
use Rattle.parquet_statistics.specs.Made.{made_by}
use Rattle.parquet_statistics.specs.declared.dyn_mutable.DynMutable.{DynMutable}
use Rattle.parquet_statistics.proofs.BuilderLemmas.{count_of_dictionary, count_of_flat, count_of_list, count_of_struct, first_count, none_count}
use Rattle.parquet_statistics.proofs.dyn_mutable.+len.Goals as goal

pub DynMutable::len-returns-in-Flat : goal.DynMutable::len-returns-in-Flat
DynMutable::len-returns-in-Flat t c = c.len.ensures ∙ sym (count_of_flat c.in-Flat.builder) ∙ ap (λ (builder : DynMutable). length (made_by builder).cells) (sym c.in-Flat.is)

pub DynMutableDictionary::len-returns : goal.DynMutableDictionary::len-returns
DynMutableDictionary::len-returns t c = c.len.ensures ∙ ap (λ (builder : DynMutable). length (made_by builder).cells) c.deref.ensures ∙ sym (count_of_dictionary c.args.self.now)

pub DynMutableListArray::len-returns : goal.DynMutableListArray::len-returns
DynMutableListArray::len-returns t c = c.len.ensures ∙ ap (λ (builder : DynMutable). length (made_by builder).cells) c.deref.ensures ∙ sym (count_of_list c.args.self.now)

pub DynMutableStructArray::len-returns-in-None : goal.DynMutableStructArray::len-returns-in-None
DynMutableStructArray::len-returns-in-None t c =
    sym (count_of_struct c.args.self.now ∙ none_count c.args.self.now.inner.items (ap (λ (items : List DynMutable). slice_get items 0) (sym c.deref.ensures.value) ∙ sym c.first.ensures.value ∙ ap option_copied c.in-None.is))

pub DynMutableStructArray::len-returns-in-Some : goal.DynMutableStructArray::len-returns-in-Some
DynMutableStructArray::len-returns-in-Some t c =
    c.len.ensures
    ∙ sym (count_of_struct c.args.self.now ∙ first_count c.args.self.now.inner.items c.in-Some.first.now (ap (λ (items : List DynMutable). slice_get items 0) (sym c.deref.ensures.value) ∙ sym c.first.ensures.value ∙ ap option_copied c.in-Some.is))
