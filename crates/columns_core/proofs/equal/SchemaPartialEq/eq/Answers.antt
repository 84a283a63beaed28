use Rattle.std.proofs.Common.{ap, ◌∙◌, sym}
use Rattle.columns_core.specs.Same.{same_by}
use Rattle.columns_core.specs.declared.data_type.Schema.{Schema}
use Rattle.columns_core.specs.contracts.data_type.Schema.{the_row}
use Rattle.columns_core.proofs.equal.SchemaPartialEq.eq.Goals as goal

pub returns : goal.returns
returns c = same_by the_row.coded c.args.self.now c.args.other.now c.is_same_fields.result (
  λ h. ap (λ fields. record { fields = fields }) (sym c.as_slice.ensures ∙ c.is_same_fields.ensures.0 h ∙ c.as_slice-2.ensures),
  λ e. c.is_same_fields.ensures.1 (c.as_slice.ensures ∙ ap (λ (schema : Schema). schema.fields) e ∙ sym c.as_slice-2.ensures),
)
