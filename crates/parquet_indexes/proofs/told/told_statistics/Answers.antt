use Rattle.std.proofs.Common.{◌≡◌, ◌∙◌, sym, false}
use Rattle.std.specs.Prelude.{is_some}
use Rattle.columns_core.specs.DictionaryType.{entry_type}
use Rattle.parquet_indexes.proofs.FlatTypes.{ready}
use Rattle.parquet_indexes.proofs.told.told_statistics.Goals as goal

pub statistics_of_pages-requires-clause-flat : goal.statistics_of_pages-requires-clause-flat
statistics_of_pages-requires-clause-flat c =
    let own : is_some (entry_type c.args.data_type.now) ≡ false = sym c.is_dictionary.ensures ∙ c.if-is_dictionary.false in
    (ready c.args.stored.now c.args.data_type.now own c.args.index.now c.in_ok-pages.pages.items c.in_ok-pages.ensures.ok c.in_ok-pages.ensures.ends).flat

pub statistics_of_pages-requires-clause-typed : goal.statistics_of_pages-requires-clause-typed
statistics_of_pages-requires-clause-typed c =
    let own : is_some (entry_type c.args.data_type.now) ≡ false = sym c.is_dictionary.ensures ∙ c.if-is_dictionary.false in
    rw c.deref.ensures.value (ready c.args.stored.now c.args.data_type.now own c.args.index.now c.in_ok-pages.pages.items c.in_ok-pages.ensures.ok c.in_ok-pages.ensures.ends).typed

pub statistics_of_pages-requires-clause-fit : goal.statistics_of_pages-requires-clause-fit
statistics_of_pages-requires-clause-fit c =
    let own : is_some (entry_type c.args.data_type.now) ≡ false = sym c.is_dictionary.ensures ∙ c.if-is_dictionary.false in
    rw c.deref.ensures.value (ready c.args.stored.now c.args.data_type.now own c.args.index.now c.in_ok-pages.pages.items c.in_ok-pages.ensures.ok c.in_ok-pages.ensures.ends).fit
