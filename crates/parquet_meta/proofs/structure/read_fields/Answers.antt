use Rattle.std.proofs.Common.{◌≡◌, rules, sym, ◌∙◌, to_z, of_z}
use Rattle.std.specs.Int.{w16}
use Rattle.std.proofs.lemmas.Int.{to_z-of_z}
use Rattle.std.proofs.lemmas.Result.{err_from_is_err_and}
use Rattle.parquet_meta.proofs.Steps.{refuses-on, fields_by-none, fields_by-end, reading-none, goes_on, goes_on-smaller}
use Rattle.parquet_meta.proofs.structure.read_fields.Goals as goal

pub returns-in_err-header : goal.returns-in_err-header
returns-in_err-header g c =
    let p = err_from_is_err_and c.from_residual.result c.from_residual.ensures.1 in
    rw (p.1, p.2) (sym c.fields.invariant.same ∙ fields_by-none g.S.Structure.field c.fields.into (to_z w16 c.fields.previous-bits) c.fields.compact.rest c.in_err-header.ensures.0)

pub returns-in_err-read_field : goal.returns-in_err-read_field
returns-in_err-read_field g c =
    let header = rw c.in-Some.is at c.in_ok-header.ensures.0 in
    let p = err_from_is_err_and c.from_residual-in_err-read_field.result c.from_residual-in_err-read_field.ensures.1 in
    rw (p.1, p.2) (refuses-on _ _ _ _
    (λ none. reading-none g.S.Structure.field c.args.into.now c.args.compact.now c.fields.into (to_z w16 c.fields.previous-bits) c.fields.compact _ _ c.next_field.new.self c.fields.invariant header none)
    c.in_err-read_field.ensures)

pub fields-smaller : goal.fields-smaller
fields-smaller g c =
    let header = rw c.in-Some.is at c.in_ok-header.ensures.0 in
    goes_on-smaller g.S.Structure.field c.fields.into (to_z w16 c.fields.previous-bits) c.fields.compact _ _ c.next_field.new.self c.read_field.new.self c.read_field.new.compact header c.in_ok-read_field.ensures.0

pub fields-preserved : goal.fields-preserved
fields-preserved g c =
    let header = rw c.in-Some.is at c.in_ok-header.ensures.0 in
    let same : to_z w16 (of_z w16 c.in-Some.header.id) ≡ c.in-Some.header.id = search (rules, to_z-of_z) in
    rw same (goes_on g.S.Structure.field c.args.into.now c.args.compact.now c.fields.into (to_z w16 c.fields.previous-bits) c.fields.compact _ _ c.next_field.new.self c.read_field.new.self c.read_field.new.compact
    c.fields.invariant header c.in_ok-header.ensures.1 c.in_ok-read_field.ensures.0 c.in_ok-read_field.ensures.1)

pub returns : goal.returns
returns g c =
    let header = rw c.in_default.is at c.in_ok-header.ensures.0 in
    (sym c.fields.invariant.same ∙ fields_by-end g.S.Structure.field c.fields.into (to_z w16 c.fields.previous-bits) c.fields.compact.rest _ header, c.in_ok-header.ensures.1 ∙ c.fields.invariant.whole)
