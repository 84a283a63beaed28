use Rattle.std.proofs.Common.{◌∙◌, sym, subst}
use Rattle.std.specs.List.{AllByRecursion}
use Rattle.columns_core.specs.declared.data_type.DataType.{Decimal}
use Rattle.column_ends.specs.Laws.{AreEndsOf}
use Rattle.parquet_indexes.proofs.DecimalLemmas.{decimal_pages_typed}
use Rattle.parquet_indexes.proofs.fixed_len_binary.decimal_statistics.Goals as goal

pub statistics_of_pages-requires-clause-typed : goal.statistics_of_pages-requires-clause-typed
statistics_of_pages-requires-clause-typed c =
    subst (AllByRecursion (AreEndsOf (Decimal c.args.precision c.args.scale))) (c.in_ok-pages.ensures.pages ∙ sym c.deref.ensures.value)
    (decimal_pages_typed c.args.precision c.args.scale c.args.indexes.now c.in_ok-pages.ensures.ok)
