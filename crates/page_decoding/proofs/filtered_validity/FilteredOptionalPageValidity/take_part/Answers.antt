use Rattle.std.proofs.Common.{rules, ◌≡◌, [], ℕ, ap, subst, length, arith, length-append}
use Rattle.parquet_page.specs.Content.{data_content}
use Rattle.parquet_page.specs.SliceLeft.{GivesSliceRows as SliceGives}
use Rattle.parquet_page.specs.ValidityParts.{part_rows}
use Rattle.page_decoding.specs.FilteredLeft.{optional_places}
use Rattle.page_decoding.proofs.PlaceLemmas.{none-left, part-of, whole-of}
use Rattle.page_decoding.proofs.WalkLemmas.{slice-given}
use Rattle.page_decoding.proofs.filtered_validity.FilteredOptionalPageValidity.take_part.Goals as goal

pub returns-in_err-part-clause-ended : goal.returns-in_err-part-clause-ended
returns-in_err-part-clause-ended c =
    let over : optional_places c.args.self.now.places (data_content c.args.page.now) ≡ [] = none-left (optional_places c.args.self.now.places (data_content c.args.page.now)) c.in_err-part.ensures.part.0 in
    search rules

pub next-requires-clause-limit : goal.next-requires-clause-limit
next-requires-clause-limit c =
    let part = c.in_ok-part.part in
    let page = data_content c.args.page.now in
    let own = part-of c.args.limit (optional_places c.args.self.now.places page) (optional_places c.next_part.new.self page) part c.in_ok-part.ensures.part in
    omega (arith, c.rows-given.ensures, own.some)

pub overflow_add-self : goal.overflow_add-self
overflow_add-self c =
    let part = c.in_ok-part.part in
    let page = data_content c.args.page.now in
    let behind = optional_places c.next_part.new.self page in
    let own = part-of c.args.limit (optional_places c.args.self.now.places page) behind part c.in_ok-part.ensures.part in
    omega (arith, c.rows-given.ensures, c.requires.fits, ap length own.split, length-append own.places behind, own.count)

pub returns-clause-part : goal.returns-clause-part
returns-clause-part c =
    let page = data_content c.args.page.now in
    part-of c.args.limit (optional_places c.args.self.now.places page) (optional_places c.next_part.new.self page) c.in_ok-part.part c.in_ok-part.ensures.part

pub returns-clause-given : goal.returns-clause-given
returns-clause-given c =
    let part = c.in_ok-part.part in
    let page = data_content c.args.page.now in
    let own = part-of c.args.limit (optional_places c.args.self.now.places page) (optional_places c.next_part.new.self page) part c.in_ok-part.ensures.part in
    let G : ℕ → Type 0 = λ n. SliceGives n c.args.rows.now c.args.self.now.rows c.next.new.self c.next.result in
    slice-given (part_rows part) c.args.rows.now c.args.self.now.rows c.next.new.self c.next.result (subst G c.rows-given.ensures c.next.ensures.run) own.some (omega (arith, own.most, c.requires.most))

pub returns-clause-whole : goal.returns-clause-whole
returns-clause-whole c =
    let page = data_content c.args.page.now in
    whole-of c.args.limit page c.args.self.now.places c.next_part.new.self c.in_ok-part.part c.in_ok-part.ensures.part c.in_ok-part.ensures.longest
