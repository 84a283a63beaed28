use Rattle.std.proofs.Common.{◌∙◌, List, Option, Some, Vec, Global, ap, map, sym}
use Rattle.parquet_read.specs.Asked.{HeldLists, held_lists}
use Rattle.parquet_read.specs.GroupReader.{all_lists}
use Rattle.parquet_read.specs.Groups.{have_all_lists}
use Rattle.parquet_read.proofs.groups_left.has_all_lists.Goals as goal

pub returns-in-Some : goal.returns-in-Some
returns-in-Some c =
    c.has_lists.ensures ∙ ap (λ (l : List HeldLists). have_all_lists c.args.groups c.args.fields (Some (map held_lists l))) c.deref.ensures.value
    ∙ sym (ap (λ (pages : Option (Vec HeldLists Global)). have_all_lists c.args.groups c.args.fields (all_lists pages)) c.in-Some.is)
