use Rattle.std.proofs.Common.{◌≡◌, ◌+◌, ◌∙◌, ◌++◌, ◌∷◌, [], All, List, ℕ, Option, Some, get_or, length, map, drop, rules, arith, ap, subst, sym}
use Rattle.std.specs.Prelude.{IfSome}
use Rattle.std.proofs.lemmas.List.{get_or_default, map-append}
use Rattle.std.proofs.lemmas.Result.{err_from_is_err_and}
use Rattle.std.proofs.lemmas.List.Elements.{All-push}
use Rattle.columns_core.specs.Array.{cells, column_of, data_type_of}
use Rattle.columns_core.specs.declared.cell.Cell.{Cell}
use Rattle.columns_core.specs.declared.data_type.DataType.{DataType}
use Rattle.columns_core.specs.declared.data_type.Field.{Field}
use Rattle.parquet_base.specs.Intervals.{rows_of}
use Rattle.parquet_base.specs.Pieces.{cut}
use Rattle.parquet_scan.specs.Causes.{causes_of_column}
use Rattle.parquet_scan.specs.Cells.{given_column}
use Rattle.parquet_scan.specs.Costs.{lent_of_column, taken_of_column}
use Rattle.parquet_scan.specs.Counting.{AreLocationsOf}
use Rattle.parquet_scan.specs.Scan.{RisesBy, RisesJustBy}
use Rattle.parquet_scan.proofs.CallLemmas.{refuses}
use Rattle.parquet_scan.proofs.CostLemmas.{rises_all, rises_more}
use Rattle.parquet_scan.proofs.ExactCounts.{just_all, just_more}
use Rattle.parquet_scan.proofs.ScanLemmas.{in_item, made_more, none_more}
use Rattle.parquet_scan.proofs.reading.read_columns.Goals as goal

pub returns-in_err-arrays-clause-reads : goal.returns-in_err-arrays-clause-reads
returns-in_err-arrays-clause-reads g c =
    let p = err_from_is_err_and c.from_residual.result c.from_residual.ensures.1 in
    let group = c.args.rows.group.now in
    let fields = c.args.asked.fields.now in
    let i = c.loop-i.i in
    let field = get_or fields i c.index-asked-i.result in
    let at = get_or_default fields i c.index-asked-i.result field c.loop-i-test.true in
    let column : List ℕ → Field → _ = λ bytes. causes_of_column c.args.asked.by_pages c.args.asked.chunk_size bytes group (rows_of c.args.rows.runs.now) in
    rw (p.1, p.2) (refuses c.loop-i.invariant.keeps c.in_err-arrays.ensures.reads
    (in_item (g.S.Source.told c.args.source.now) column fields i field c.loop-i-test.true at))

pub loop-i-preserved : goal.loop-i-preserved
loop-i-preserved g c =
    let told = g.S.Source.told c.args.source.now in
    let by_pages = c.args.asked.by_pages in
    let group = c.args.rows.group.now in
    let rows = rows_of c.args.rows.runs.now in
    let pieces = cut c.args.asked.chunk_size rows in
    let fields = c.args.asked.fields.now in
    let i = c.loop-i.i in
    let field = get_or fields i c.index-asked-i.result in
    let at = get_or_default fields i c.index-asked-i.result field c.loop-i-test.true in
    let arrays = c.in_ok-arrays.arrays in
    let column : List ℕ → Field → List (Option (DataType × List Cell)) = λ bytes field. map (λ rows. given_column by_pages bytes group rows field) pieces in
    let same = c.loop-i.invariant.keeps.same in
    let own = subst (λ (told : Option (List ℕ)). IfSome told (λ bytes. causes_of_column by_pages c.args.asked.chunk_size bytes group rows field ≡ [])) same c.in_ok-arrays.ensures.reads.ok in
    let is = subst (λ (told : Option (List ℕ)). IfSome told (λ bytes. column bytes field ≡ map (λ array. Some (column_of array)) arrays.items)) same c.in_ok-arrays.ensures.columns in
    let lent = subst (λ (told : Option (List ℕ)). RisesJustBy told c.loop-i.steps c.read_field.new.steps (λ bytes. lent_of_column by_pages bytes group rows field)) same c.in_ok-arrays.ensures.lent in
    let taken = subst (λ (told : Option (List ℕ)). RisesBy told (g.S.Source.taken c.loop-i.source) (g.S.Source.taken c.read_field.new.source) (λ bytes. taken_of_column by_pages bytes group rows field)) same c.in_ok-arrays.ensures.taken in
    let made = map (λ column. map (λ array. Some (column_of array)) column.items) c.loop-i.columns.items in
    let more : map (λ column. map (λ array. Some (column_of array)) column.items) c.push.new.self.items ≡ made ++ map (λ array. Some (column_of array)) arrays.items ∷ []
    = ap (map (λ column. map (λ array. Some (column_of array)) column.items)) c.in_ok-push.ensures.items ∙ map-append (λ column. map (λ array. Some (column_of array)) column.items) c.loop-i.columns.items (arrays ∷ []) in
    let typed : map (λ column. map data_type_of column.items) c.push.new.self.items ≡ map (λ column. map data_type_of column.items) c.loop-i.columns.items ++ map data_type_of arrays.items ∷ []
    = ap (map (λ column. map data_type_of column.items)) c.in_ok-push.ensures.items ∙ map-append (λ column. map data_type_of column.items) c.loop-i.columns.items (arrays ∷ []) in
    record {
      keeps = search rules;
      quiet = c.in_ok-arrays.ensures.reads.quiet ∙ c.loop-i.invariant.quiet;
      none = none_more told (λ bytes. causes_of_column by_pages c.args.asked.chunk_size bytes group rows) fields i field c.loop-i-test.true at c.loop-i.invariant.none own;
      columns = subst (λ (made : List (List (Option (DataType × List Cell)))). IfSome told (λ bytes. map (column bytes) fields ≡ made ++ map (column bytes) (drop (i + 1) fields))) (sym more)
          (made_more told column fields i field made (map (λ array. Some (column_of array)) arrays.items) c.loop-i-test.true at c.loop-i.invariant.columns is);
      lent = just_more told (λ bytes. lent_of_column by_pages bytes group rows) fields i field c.args.steps.now c.loop-i.steps c.read_field.new.steps c.loop-i-test.true at c.loop-i.invariant.lent lent;
      taken = rises_more told (λ bytes. taken_of_column by_pages bytes group rows) fields i field (g.S.Source.taken c.args.source.now) (g.S.Source.taken c.loop-i.source) (g.S.Source.taken c.read_field.new.source) c.loop-i-test.true at c.loop-i.invariant.taken taken;
      count = search rules;
      counts = subst (λ columns. All (λ column. map (λ array. length (cells array)) column.items ≡ map length pieces) columns) (sym c.in_ok-push.ensures.items)
          (All-push (λ column. map (λ array. length (cells array)) column.items ≡ map length pieces) c.loop-i.columns.items arrays c.loop-i.invariant.counts c.in_ok-arrays.ensures.counts);
      types = subst (λ (made : List (List DataType)). map (λ (field : Field). map (λ _. field.data_type) pieces) fields ≡ made ++ map (λ (field : Field). map (λ _. field.data_type) pieces) (drop (i + 1) fields)) (sym typed)
          (made_more (Some []) (λ bytes (field : Field). map (λ _. field.data_type) pieces) fields i field (map (λ column. map data_type_of column.items) c.loop-i.columns.items) (map data_type_of arrays.items) c.loop-i-test.true at
          c.loop-i.invariant.types c.in_ok-arrays.ensures.types);
      ticks = search rules;
      pages = search rules;
    }

pub read_field-requires-clause-located : goal.read_field-requires-clause-located
read_field-requires-clause-located g c by_pages column named =
    let group = c.args.rows.group.now in
    let fields = c.args.asked.fields.now in
    let i = c.loop-i.i in
    let field = get_or fields i c.index-asked-i.result in
    let are = c.requires.located by_pages i field c.loop-i-test.true (get_or_default fields i c.index-asked-i.result field c.loop-i-test.true) column named in
    subst (λ (told : Option (List ℕ)). AreLocationsOf told group column c.locations_of_field-of_field.result.now) (sym c.loop-i.invariant.keeps.same)
    (subst (AreLocationsOf (g.S.Source.told c.args.source.now) group column) (sym c.locations_of_field-of_field.ensures) are)

pub returns-clause-lent : goal.returns-clause-lent
returns-clause-lent g c =
    let by_pages = c.args.asked.by_pages in
    let group = c.args.rows.group.now in
    just_all (g.S.Source.told c.args.source.now) (λ bytes. lent_of_column by_pages bytes group (rows_of c.args.rows.runs.now)) c.args.asked.fields.now c.loop-i.i c.args.steps.now c.loop-i.steps (omega arith) c.loop-i.invariant.lent

pub returns-clause-taken : goal.returns-clause-taken
returns-clause-taken g c =
    let by_pages = c.args.asked.by_pages in
    let group = c.args.rows.group.now in
    rises_all (g.S.Source.told c.args.source.now) (λ bytes. taken_of_column by_pages bytes group (rows_of c.args.rows.runs.now)) c.args.asked.fields.now c.loop-i.i (g.S.Source.taken c.args.source.now) (g.S.Source.taken c.loop-i.source) (omega arith) c.loop-i.invariant.taken
