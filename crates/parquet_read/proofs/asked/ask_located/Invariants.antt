use Rattle.std.proofs.Common.{map, Vec, Global}
use Rattle.std.specs.Prelude.{Some}
use Rattle.parquet_page.specs.declared.page.FilteredPage.{FilteredPage}
use Rattle.parquet_read.specs.Asked.{asked_fields}
use Rattle.parquet_read.proofs.AskedLemmas.{IsAsked}
use Rattle.parquet_read.proofs.asked.ask_located.Given as goal

abbrev pub invariant-fields : goal.invariant-fields
invariant-fields l =
    let shown = map (λ (own : Vec (Vec FilteredPage Global) Global). map (λ (one : Vec FilteredPage Global). one.items) own.items) in
    IsAsked l.asked.items (asked_fields l.limit l.field-iterator.rest.items (Some (shown l.rest.rest.items))) (asked_fields l.limit l.fn.fields.items (Some (shown l.fn.lists.items)))
