use Rattle.std.proofs.Common.{◌∙◌, map, sym, ap}
use Rattle.parquet_read.proofs.AskedLemmas.{asked_all, asked_on, no_items, whole_of}
use Rattle.parquet_read.proofs.asked.ask_whole.Goals as goal

pub fields-preserved : goal.fields-preserved
fields-preserved c =
    let steps = rw c.in-Some.is at c.next.ensures.steps in
    let asked = rw steps.0 at c.fields.invariant in
    rw c.in_ok-push.ensures.items (asked_on c.fields.asked.items (map whole_of c.next.new.self.rest.items) (map whole_of c.args.fields.items) (whole_of c.in-Some.field) asked)

pub returns : goal.returns
returns c =
    let none = no_items c.fields.field-iterator.rest.items (sym c.fields.field-iterator.rest.ok.0 ∙ c.in-None.ensures.steps.0) in
    asked_all c.fields.asked.items (map whole_of c.fields.field-iterator.rest.items) (map whole_of c.args.fields.items) (ap (map whole_of) none) c.fields.invariant
