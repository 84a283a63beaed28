use Rattle.std.proofs.Common.{◌≡◌, ◌++◌, ◌∙◌, ap}
use Rattle.std.proofs.lemmas.Result.{err_from_is_err_and}
use Rattle.inspect_program.specs.Columns.{columns_text}
use Rattle.inspect_program.specs.Guess.{are_single}
use Rattle.inspect_program.proofs.FileLemmas.{file_told, groups_of, reads_any, reads_none, text_told}
use Rattle.inspect_program.proofs.file.text_of.Goals as goal

pub returns-in_err-push_groups-clause-reads : goal.returns-in_err-push_groups-clause-reads
returns-in_err-push_groups-clause-reads g c =
    let p = err_from_is_err_and c.from_residual-in_err-push_groups.result c.from_residual-in_err-push_groups.ensures.1 in
    let metadata = c.args.metadata.now in
    let same : c.deref-2.result.now ≡ are_single metadata.columns = c.deref-2.ensures.value ∙ c.in_ok-singles.ensures ∙ ap are_single c.as_slice-columns.ensures in
    rw (p.1, p.2) (reads_none (file_told metadata c.deref-2.result.now _ _ _ same (groups_of c.deref-2.result.now c.as_slice.ensures c.in_err-push_groups.ensures)))

pub returns-in_err-push_groups-clause-taken : goal.returns-in_err-push_groups-clause-taken
returns-in_err-push_groups-clause-taken g c =
    let metadata = c.args.metadata.now in
    let same : c.deref-2.result.now ≡ are_single metadata.columns = c.deref-2.ensures.value ∙ c.in_ok-singles.ensures ∙ ap are_single c.as_slice-columns.ensures in
    (file_told metadata c.deref-2.result.now _ _ _ same (groups_of c.deref-2.result.now c.as_slice.ensures c.in_err-push_groups.ensures)).taken

pub returns-clause-reads : goal.returns-clause-reads
returns-clause-reads g c =
    let metadata = c.args.metadata.now in
    let same : c.deref-2.result.now ≡ are_single metadata.columns = c.deref-2.ensures.value ∙ c.in_ok-singles.ensures ∙ ap are_single c.as_slice-columns.ensures in
    reads_any c.push_groups.new.text (file_told metadata c.deref-2.result.now _ _ _ same (groups_of c.deref-2.result.now c.as_slice.ensures c.in_ok-push_groups.ensures))

pub returns-clause-text : goal.returns-clause-text
returns-clause-text g c =
    let metadata = c.args.metadata.now in
    let same : c.deref-2.result.now ≡ are_single metadata.columns = c.deref-2.ensures.value ∙ c.in_ok-singles.ensures ∙ ap are_single c.as_slice-columns.ensures in
    let front : c.push_columns.new.text ≡ columns_text metadata.columns =
    c.in_ok-push_columns.ensures ∙ (λ i. c.new-text.ensures i ++ columns_text (c.as_slice-columns.ensures i)) in
    text_told (g.S.Source.told c.args.source.now) metadata c.push_columns.new.text c.push_groups.new.text front
    (file_told metadata c.deref-2.result.now _ _ _ same (groups_of c.deref-2.result.now c.as_slice.ensures c.in_ok-push_groups.ensures)).adds

pub returns-clause-taken : goal.returns-clause-taken
returns-clause-taken g c =
    let metadata = c.args.metadata.now in
    let same : c.deref-2.result.now ≡ are_single metadata.columns = c.deref-2.ensures.value ∙ c.in_ok-singles.ensures ∙ ap are_single c.as_slice-columns.ensures in
    (file_told metadata c.deref-2.result.now _ _ _ same (groups_of c.deref-2.result.now c.as_slice.ensures c.in_ok-push_groups.ensures)).taken
