use Rattle.std.proofs.Common.{None}
use Rattle.parquet_meta.specs.declared.metadata.PrimitiveType.{PrimitiveType}
use Rattle.parquet_meta.specs.declared.metadata.PhysicalType.TheVariants.{Boolean}
use Rattle.parquet_meta.specs.declared.metadata.Repetition.TheVariants.{Required}
use Rattle.parquet_page.proofs.FirstLemmas.{found_first, none_first, refused_behind, takes_behind}
use Rattle.parquet_page.proofs.LocatedLemmas.{begins_inside, fills_inside, refused_page, takes_dictionary, takes_page}
use Rattle.parquet_page.proofs.located.Located.open.Goals as goal

-- a page is found whatever the type
any_type : PrimitiveType
any_type = record { physical_type = Boolean; logical_type = None; repetition = Required }

pub returns-in-Some-clause-opens : goal.returns-in-Some-clause-opens
returns-in-Some-clause-opens c type =
    let s = c.args.self.now in
    takes_dictionary type s.parts s.entries.items s.next s.count c.in-Some.found _ (found_first type s _ c.in-Some.found c.in-Some.is (c.in_ok-found.ensures type))

pub returns-in-Some-clause-there : goal.returns-in-Some-clause-there
returns-in-Some-clause-there c =
    let s = c.args.self.now in
    let begins = found_first any_type s _ c.in-Some.found c.in-Some.is (c.in_ok-found.ensures any_type) in
    record { entry = c.requires; inside = begins_inside s.parts s.entries.items s.next c.in-Some.found _ begins.1 }

pub returns-in_default-find_data-clause-opens : goal.returns-in_default-find_data-clause-opens
returns-in_default-find_data-clause-opens c type =
    let s = c.args.self.now in
    refused_behind _ _ _ (none_first type s _ c.in_default.is (c.in_ok-found.ensures type)) (refused_page type s.parts s.next s.entries.items _ c.requires c.in_default-find_data.ensures)

pub returns-clause-opens : goal.returns-clause-opens
returns-clause-opens c type =
    let s = c.args.self.now in
    takes_behind _ _ _ _ _ _ (none_first type s _ c.in_default.is (c.in_ok-found.ensures type))
    (takes_page type s.parts s.entries.items s.next s.count c.in-Some-find_data.found c.requires s.shaped s.sum c.in-Some-find_data.ensures)

pub returns-clause-there : goal.returns-clause-there
returns-clause-there c =
    let s = c.args.self.now in
    record { entry = c.requires; inside = fills_inside s.parts s.entries.items s.next c.in-Some-find_data.found c.in-Some-find_data.ensures }
