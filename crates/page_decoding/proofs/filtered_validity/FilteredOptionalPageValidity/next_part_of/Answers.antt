use Rattle.std.proofs.Common.{◌+◌, arith}
use Rattle.parquet_page.specs.Content.{data_content}
use Rattle.page_decoding.proofs.WalkLemmas.{GoesPart, next-rows, stands-there, taken-part}
use Rattle.page_decoding.proofs.filtered_validity.FilteredOptionalPageValidity.next_part_of.Goals as goal

pub overflow_add-self : goal.overflow_add-self
overflow_add-self c =
    let page = data_content c.args.page.now in
    let next = next-rows c.args.limit page c.args.rows.now c.args.self.now c.next.new.self c.in-Some.passed c.in-Some.taken c.requires.page c.requires.rows c.in-Some.ensures.run in
    omega (arith, next.fits)

pub returns-in-Some-clause-part : goal.returns-in-Some-clause-part
returns-in-Some-clause-part c =
    let page = data_content c.args.page.now in
    let old = c.args.self.now in
    let first = old.place + c.in-Some.passed in
    let next = next-rows c.args.limit page c.args.rows.now old c.next.new.self c.in-Some.passed c.in-Some.taken c.requires.page c.requires.rows c.in-Some.ensures.run in
    let stands = stands-there page first c.in-Some.taken old c.requires.page next.near c.if-self-passed.true in
    let took = c.take_part.ensures in
    let goes : GoesPart c.args.limit page old c.take_part.new.self c.take_part.result = taken-part c.args.limit page c.args.rows.now first c.in-Some.taken old old c.take_part.new.self c.take_part.result next.rest c.requires.rows stands next.some next.most next.split took.ended took.part took.whole took.given took.row took.place took.page took.walk in
    goes.part

pub returns-in-Some-clause-page : goal.returns-in-Some-clause-page
returns-in-Some-clause-page c =
    let page = data_content c.args.page.now in
    let old = c.args.self.now in
    let first = old.place + c.in-Some.passed in
    let next = next-rows c.args.limit page c.args.rows.now old c.next.new.self c.in-Some.passed c.in-Some.taken c.requires.page c.requires.rows c.in-Some.ensures.run in
    let stands = stands-there page first c.in-Some.taken old c.requires.page next.near c.if-self-passed.true in
    let took = c.take_part.ensures in
    let goes : GoesPart c.args.limit page old c.take_part.new.self c.take_part.result = taken-part c.args.limit page c.args.rows.now first c.in-Some.taken old old c.take_part.new.self c.take_part.result next.rest c.requires.rows stands next.some next.most next.split took.ended took.part took.whole took.given took.row took.place took.page took.walk in
    goes.is_page

pub returns-in-Some-clause-longest : goal.returns-in-Some-clause-longest
returns-in-Some-clause-longest c =
    let page = data_content c.args.page.now in
    let old = c.args.self.now in
    let first = old.place + c.in-Some.passed in
    let next = next-rows c.args.limit page c.args.rows.now old c.next.new.self c.in-Some.passed c.in-Some.taken c.requires.page c.requires.rows c.in-Some.ensures.run in
    let stands = stands-there page first c.in-Some.taken old c.requires.page next.near c.if-self-passed.true in
    let took = c.take_part.ensures in
    let goes : GoesPart c.args.limit page old c.take_part.new.self c.take_part.result = taken-part c.args.limit page c.args.rows.now first c.in-Some.taken old old c.take_part.new.self c.take_part.result next.rest c.requires.rows stands next.some next.most next.split took.ended took.part took.whole took.given took.row took.place took.page took.walk in
    goes.longest
