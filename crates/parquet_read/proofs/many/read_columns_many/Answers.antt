use Rattle.std.proofs.Common.{◌≡◌, ◌∙◌, ◌⊎◌, ℕ, Vec, Global, List, [], true, false, length, map, refl, sym, ap, subst, inl, arith}
use Rattle.std.specs.Prelude.{◌&&◌, IfOk}
use Rattle.std.specs.List.{list_all}
use Rattle.std.proofs.lemmas.Bool.{and_parts}
use Rattle.std.proofs.lemmas.Result.{IfOk-weaker, err_from_is_err_and}
use Rattle.columns_core.specs.Causes.{IsOneOf, IsWantOfMemory, cause_of, is_empty}
use Rattle.flat_binary.specs.declared.array_iter.ArrayIter.{ArrayIter}
use Rattle.flat_values.specs.ColumnLeft.{ColumnLeft}
use Rattle.parquet_meta.specs.Source.{Finds}
use Rattle.parquet_read.specs.Asked.{AskedField, GroupReading, are_shaped_pages, asked_fields, asked_outline, fields_causes, fields_left, group_reading, have_one_list, is_chunk_size, is_legal_reading, is_shaped_field}
use Rattle.parquet_read.specs.Opening.{outline_of}
use Rattle.parquet_read.specs.RowGroup.{iter_left}
use Rattle.parquet_read.specs.declared.column_pages.ColumnPages.{ColumnPages}
use Rattle.parquet_read.proofs.FoundLemmas.{finds_memory}
use Rattle.parquet_read.proofs.ListLemmas.{lists_shown}
use Rattle.parquet_read.proofs.OutlineLemmas.{asked_types, none_lent_known, rows_known, sizes_known, types_known}
use Rattle.parquet_read.proofs.PlaceLemmas.{asked_shaped}
use Rattle.parquet_read.proofs.ReadableLemmas.{asked_count, causes_refused, illegal_refused, illegal_unread, is_sized, memory_left, not_unreadable, readable_none}
use Rattle.parquet_read.proofs.many.read_columns_many.Goals as goal

abbrev Arrays : Type 0
Arrays = Vec (ArrayIter ColumnPages) Global

abbrev lefts : Arrays → List ColumnLeft
lefts arrays = map iter_left arrays.items

-- what is known of the columns, whatever the source gives
abbrev AreAsked : GroupReading → List AskedField → Arrays → Type 0
AreAsked reading asked arrays = map (λ own. outline_of (iter_left own)) arrays.items ≡ map (asked_outline reading) asked

pub returns-in_err-check_reading-clause-refused : goal.returns-in_err-check_reading-clause-refused
returns-in_err-check_reading-clause-refused g c =
    let lists = lists_shown c.args.pages in
    let fields = c.args.fields.items in
    let count : c.len.result ≡ length fields = omega (arith, c.len.ensures) in
    let err = c.in_err-check_reading.ensures.err in
    let p = err_from_is_err_and c.from_residual.result c.from_residual.ensures.1 in
    rw (p.1, p.2) (λ _. (
      refl,
      illegal_refused (is_legal_reading c.args.chunk_size (length fields) lists)
          (fields_causes (group_reading c.args.row_group.now c.args.chunk_size c.args.limit) (asked_fields c.args.limit fields lists)) c.in_err-check_reading.field-0.0 err.0
          (subst (λ (n : ℕ). is_legal_reading c.args.chunk_size n lists ≡ false) count err.1),
    ))

pub returns-in_err-check_reading-clause-found : goal.returns-in_err-check_reading-clause-found
returns-in_err-check_reading-clause-found g c = λ readable.
    let lists = lists_shown c.args.pages in
    let fields = c.args.fields.items in
    let count : c.len.result ≡ length fields = omega (arith, c.len.ensures) in
    illegal_unread (is_legal_reading c.args.chunk_size (length fields) lists)
    (is_empty (fields_causes (group_reading c.args.row_group.now c.args.chunk_size c.args.limit) (asked_fields c.args.limit fields lists)))
    (subst (λ (n : ℕ). is_legal_reading c.args.chunk_size n lists ≡ false) count c.in_err-check_reading.ensures.err.1) readable

pub returns-in_err-asked-clause-refused : goal.returns-in_err-asked-clause-refused
returns-in_err-asked-clause-refused g c =
    let p = err_from_is_err_and c.from_residual-in_err-asked.result c.from_residual-in_err-asked.ensures.1 in
    rw (p.1, p.2) (λ _. (refl, inl c.in_err-asked.ensures.memory))

pub returns-in_err-asked-clause-found : goal.returns-in_err-asked-clause-found
returns-in_err-asked-clause-found g c = λ readable.
    let p = err_from_is_err_and c.from_residual-in_err-asked.result c.from_residual-in_err-asked.ensures.1 in
    let all = fields_left (group_reading c.args.row_group.now c.args.chunk_size c.args.limit) (asked_fields c.args.limit c.args.fields.items (lists_shown c.args.pages)) in
    let faults = g.S.Source.faults c.args.source.now in
    rw (p.1, p.2) (finds_memory lefts all (g.S.Source.told c.args.source.now) faults faults c.in_err-asked.field-0.0 c.in_err-asked.ensures.memory)

pub returns-in_err-check_fields-clause-refused : goal.returns-in_err-check_fields-clause-refused
returns-in_err-check_fields-clause-refused g c =
    let lists = lists_shown c.args.pages in
    let fields = c.args.fields.items in
    let reading = group_reading c.args.row_group.now c.args.chunk_size c.args.limit in
    let e = c.in_err-check_fields.field-0.0 in
    let same = c.deref.ensures.value ∙ c.in_ok-asked.ensures.asked in
    let cause = subst (λ (l : List AskedField). IsWantOfMemory e ⊎ IsOneOf (fields_causes reading l) (cause_of e)) same c.in_err-check_fields.ensures.cause in
    let p = err_from_is_err_and c.from_residual-in_err-check_fields.result c.from_residual-in_err-check_fields.ensures.1 in
    rw (p.1, p.2) (λ _. (refl, causes_refused (is_legal_reading c.args.chunk_size (length fields) lists ≡ true) (fields_causes reading (asked_fields c.args.limit fields lists)) e cause))

pub returns-in_err-check_fields-clause-found : goal.returns-in_err-check_fields-clause-found
returns-in_err-check_fields-clause-found g c = λ readable.
    let lists = lists_shown c.args.pages in
    let fields = c.args.fields.items in
    let reading = group_reading c.args.row_group.now c.args.chunk_size c.args.limit in
    let causes = fields_causes reading (asked_fields c.args.limit fields lists) in
    let e = c.in_err-check_fields.field-0.0 in
    let same = c.deref.ensures.value ∙ c.in_ok-asked.ensures.asked in
    let cause = subst (λ (l : List AskedField). IsWantOfMemory e ⊎ IsOneOf (fields_causes reading l) (cause_of e)) same c.in_err-check_fields.ensures.cause in
    let memory = memory_left causes e (readable_none (is_legal_reading c.args.chunk_size (length fields) lists) causes readable) cause in
    let p = err_from_is_err_and c.from_residual-in_err-check_fields.result c.from_residual-in_err-check_fields.ensures.1 in
    let faults = g.S.Source.faults c.args.source.now in
    rw (p.1, p.2) (finds_memory lefts (fields_left reading (asked_fields c.args.limit fields lists)) (g.S.Source.told c.args.source.now) faults faults e memory)

pub open_fields-requires : goal.open_fields-requires
open_fields-requires g c =
    let lists = lists_shown c.args.pages in
    let fields = c.args.fields.items in
    let size = c.args.chunk_size in
    let reading = group_reading c.args.row_group.now size c.args.limit in
    let count : c.len.result ≡ length fields = omega (arith, c.len.ensures) in
    let legal = subst (λ (n : ℕ). is_legal_reading size n lists ≡ true) count c.in_ok-check_reading.ensures.ok in
    let both = and_parts (is_chunk_size size) (have_one_list (length fields) lists && are_shaped_pages lists) legal in
    record {
      size = is_sized size both.0;
      shaped = subst (λ (l : List AskedField). list_all is_shaped_field l ≡ true) (sym c.in_ok-asked.ensures.asked) (asked_shaped c.args.limit fields lists (and_parts (have_one_list (length fields) lists) (are_shaped_pages lists) both.1).1);
      readable = subst (λ (l : List AskedField). fields_causes reading l ≡ []) c.deref.ensures.value c.in_ok-check_fields.ensures.ok;
    }

pub returns-clause-refused : goal.returns-clause-refused
returns-clause-refused g c = λ not.
    let lists = lists_shown c.args.pages in
    let fields = c.args.fields.items in
    let reading = group_reading c.args.row_group.now c.args.chunk_size c.args.limit in
    let count : c.len.result ≡ length fields = omega (arith, c.len.ensures) in
    let legal = subst (λ (n : ℕ). is_legal_reading c.args.chunk_size n lists ≡ true) count c.in_ok-check_reading.ensures.ok in
    let none = subst (λ (l : List AskedField). fields_causes reading l ≡ []) (c.deref.ensures.value ∙ c.in_ok-asked.ensures.asked) c.in_ok-check_fields.ensures.ok in
    not_unreadable (is_legal_reading c.args.chunk_size (length fields) lists) (fields_causes reading (asked_fields c.args.limit fields lists)) legal none not

pub returns-clause-found : goal.returns-clause-found
returns-clause-found g c = λ readable.
    let reading = group_reading c.args.row_group.now c.args.chunk_size c.args.limit in
    subst (λ (l : List AskedField). Finds lefts (fields_left reading l) (g.S.Source.told c.args.source.now) (g.S.Source.faults c.args.source.now) (g.S.Source.faults c.open_fields.new.source) c.open_fields.result)
    c.in_ok-asked.ensures.asked c.open_fields.ensures.found

pub returns-clause-each : goal.returns-clause-each
returns-clause-each g c =
    let lists = lists_shown c.args.pages in
    let fields = c.args.fields.items in
    let count : c.len.result ≡ length fields = omega (arith, c.len.ensures) in
    let legal = subst (λ (n : ℕ). is_legal_reading c.args.chunk_size n lists ≡ true) count c.in_ok-check_reading.ensures.ok in
    let one = (and_parts (have_one_list (length fields) lists) (are_shaped_pages lists) (and_parts (is_chunk_size c.args.chunk_size) _ legal).1).0 in
    subst (λ (n : ℕ). IfOk c.open_fields.result (λ arrays. length arrays.items ≡ n)) (ap length c.in_ok-asked.ensures.asked ∙ asked_count c.args.limit fields lists one) c.open_fields.ensures.each

pub returns-clause-typed : goal.returns-clause-typed
returns-clause-typed g c =
    let lists = lists_shown c.args.pages in
    let fields = c.args.fields.items in
    let reading = group_reading c.args.row_group.now c.args.chunk_size c.args.limit in
    let asked = asked_fields c.args.limit fields lists in
    let count : c.len.result ≡ length fields = omega (arith, c.len.ensures) in
    let legal = subst (λ (n : ℕ). is_legal_reading c.args.chunk_size n lists ≡ true) count c.in_ok-check_reading.ensures.ok in
    let one = (and_parts (have_one_list (length fields) lists) (are_shaped_pages lists) (and_parts (is_chunk_size c.args.chunk_size) _ legal).1).0 in
    let known = subst (λ (l : List AskedField). IfOk c.open_fields.result (AreAsked reading l)) c.in_ok-asked.ensures.asked c.open_fields.ensures.outlines in
    IfOk-weaker c.open_fields.result (AreAsked reading asked) _ (λ arrays known. types_known iter_left reading asked arrays.items fields (asked_types c.args.limit fields lists one) known) known

pub returns-clause-sized : goal.returns-clause-sized
returns-clause-sized g c =
    let reading = group_reading c.args.row_group.now c.args.chunk_size c.args.limit in
    let asked = asked_fields c.args.limit c.args.fields.items (lists_shown c.args.pages) in
    let known = subst (λ (l : List AskedField). IfOk c.open_fields.result (AreAsked reading l)) c.in_ok-asked.ensures.asked c.open_fields.ensures.outlines in
    IfOk-weaker c.open_fields.result (AreAsked reading asked) _ (λ arrays known. sizes_known iter_left reading asked arrays.items known) known

pub returns-clause-counted : goal.returns-clause-counted
returns-clause-counted g c =
    let reading = group_reading c.args.row_group.now c.args.chunk_size c.args.limit in
    let asked = asked_fields c.args.limit c.args.fields.items (lists_shown c.args.pages) in
    let known = subst (λ (l : List AskedField). IfOk c.open_fields.result (AreAsked reading l)) c.in_ok-asked.ensures.asked c.open_fields.ensures.outlines in
    IfOk-weaker c.open_fields.result (AreAsked reading asked) _ (λ arrays known. rows_known iter_left reading asked arrays.items known) known

pub returns-clause-fresh : goal.returns-clause-fresh
returns-clause-fresh g c =
    let reading = group_reading c.args.row_group.now c.args.chunk_size c.args.limit in
    let asked = c.in_ok-asked.asked.items in
    IfOk-weaker c.open_fields.result (AreAsked reading asked) _ (λ arrays known. none_lent_known iter_left reading asked arrays.items known) c.open_fields.ensures.outlines

pub returns-clause-taken : goal.returns-clause-taken
returns-clause-taken g c = rw c.in_ok-asked.ensures.asked at c.open_fields.ensures.taken
