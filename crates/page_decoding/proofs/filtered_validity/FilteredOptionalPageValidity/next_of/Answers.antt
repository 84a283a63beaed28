use Rattle.std.proofs.Common.{◌∙◌, ◌+◌, ◌-◌, arith, Some}
use Rattle.parquet_page.specs.Content.{data_content}
use Rattle.parquet_page.proofs.ValidityLemmas.{length-all}
use Rattle.page_decoding.specs.FilteredLeft.{optional_places}
use Rattle.page_decoding.proofs.WalkLemmas.{Goes, Leaves, ends, next-rows, no-rows, passes-gap, stands-at, taken-rows}
use Rattle.page_decoding.proofs.filtered_validity.FilteredOptionalPageValidity.next_of.Goals as goal

pub pass-requires-clause-fits : goal.pass-requires-clause-fits
pass-requires-clause-fits c =
    let page = data_content c.args.page.now in
    let old = c.args.self.now in
    let is = c.requires.page in
    let size = c.len-left.ensures page is.levels ∙ length-all (optional_places old.places page) in
    omega (arith, size, is.row, is.fits)

pub returns-in_default-clause-run : goal.returns-in_default-clause-run
returns-in_default-clause-run c =
    let page = data_content c.args.page.now in
    let old = c.args.self.now in
    let is = c.requires.page in
    let size = c.len-left.ensures page is.levels ∙ length-all (optional_places old.places page) in
    let over = no-rows c.args.limit page c.args.rows.now old c.next.new.self c.requires.rows c.in_default.ensures.run in
    let leaves : Leaves page c.len-left.result old c.pass.new.self = record { levels = c.pass.ensures.page; left = c.pass.ensures.left; row = c.pass.ensures.row; same_rows = c.pass.ensures.rows; place = c.pass.ensures.place } in
    let goes : Goes c.args.limit page old c.pass.new.self c.pass.result = ends c.args.limit page c.len-left.result old c.pass.new.self c.pass.result is over size leaves c.pass.ensures.run in
    goes.run

pub returns-in_default-clause-longest : goal.returns-in_default-clause-longest
returns-in_default-clause-longest c =
    let page = data_content c.args.page.now in
    let old = c.args.self.now in
    let is = c.requires.page in
    let size = c.len-left.ensures page is.levels ∙ length-all (optional_places old.places page) in
    let over = no-rows c.args.limit page c.args.rows.now old c.next.new.self c.requires.rows c.in_default.ensures.run in
    let leaves : Leaves page c.len-left.result old c.pass.new.self = record { levels = c.pass.ensures.page; left = c.pass.ensures.left; row = c.pass.ensures.row; same_rows = c.pass.ensures.rows; place = c.pass.ensures.place } in
    let goes : Goes c.args.limit page old c.pass.new.self c.pass.result = ends c.args.limit page c.len-left.result old c.pass.new.self c.pass.result is over size leaves c.pass.ensures.run in
    goes.longest

pub returns-in_default-clause-page : goal.returns-in_default-clause-page
returns-in_default-clause-page c =
    let page = data_content c.args.page.now in
    let old = c.args.self.now in
    let is = c.requires.page in
    let size = c.len-left.ensures page is.levels ∙ length-all (optional_places old.places page) in
    let over = no-rows c.args.limit page c.args.rows.now old c.next.new.self c.requires.rows c.in_default.ensures.run in
    let leaves : Leaves page c.len-left.result old c.pass.new.self = record { levels = c.pass.ensures.page; left = c.pass.ensures.left; row = c.pass.ensures.row; same_rows = c.pass.ensures.rows; place = c.pass.ensures.place } in
    let goes : Goes c.args.limit page old c.pass.new.self c.pass.result = ends c.args.limit page c.len-left.result old c.pass.new.self c.pass.result is over size leaves c.pass.ensures.run in
    goes.is_page

pub overflow_add-gap : goal.overflow_add-gap
overflow_add-gap c =
    let page = data_content c.args.page.now in
    let old = c.args.self.now in
    let is = c.requires.page in
    let first = old.place + c.in-Some.passed in
    let next = next-rows c.args.limit page c.args.rows.now old c.next.new.self c.in-Some.passed c.in-Some.taken is c.requires.rows c.in-Some.ensures.run in
    omega (arith, next.fits)

pub overflow_sub-gap : goal.overflow_sub-gap
overflow_sub-gap c =
    let page = data_content c.args.page.now in
    let old = c.args.self.now in
    let is = c.requires.page in
    let first = old.place + c.in-Some.passed in
    let next = next-rows c.args.limit page c.args.rows.now old c.next.new.self c.in-Some.passed c.in-Some.taken is c.requires.rows c.in-Some.ensures.run in
    next.near.low

pub pass-requires-2-clause-fits : goal.pass-requires-2-clause-fits
pass-requires-2-clause-fits c =
    let page = data_content c.args.page.now in
    let old = c.args.self.now in
    let is = c.requires.page in
    let first = old.place + c.in-Some.passed in
    let next = next-rows c.args.limit page c.args.rows.now old c.next.new.self c.in-Some.passed c.in-Some.taken is c.requires.rows c.in-Some.ensures.run in
    omega (arith, next.near.low, next.fits)

pub take-requires-clause-fits : goal.take-requires-clause-fits
take-requires-clause-fits c =
    let page = data_content c.args.page.now in
    let old = c.args.self.now in
    let is = c.requires.page in
    let first = old.place + c.in-Some.passed in
    let next = next-rows c.args.limit page c.args.rows.now old c.next.new.self c.in-Some.passed c.in-Some.taken is c.requires.rows c.in-Some.ensures.run in
    let leaves : Leaves page (first - old.row) old c.pass-2.new.self = record { levels = c.pass-2.ensures.page; left = c.pass-2.ensures.left; row = c.pass-2.ensures.row; same_rows = c.pass-2.ensures.rows; place = c.pass-2.ensures.place } in
    let stands = stands-at page first c.in-Some.taken old c.pass-2.new.self is next.near leaves c.in-None.ensures.run in
    omega (arith, stands.is_page.row, stands.is_page.fits)

pub returns-in-Some-pass-clause-run : goal.returns-in-Some-pass-clause-run
returns-in-Some-pass-clause-run c =
    let page = data_content c.args.page.now in
    let old = c.args.self.now in
    let is = c.requires.page in
    let first = old.place + c.in-Some.passed in
    let next = next-rows c.args.limit page c.args.rows.now old c.next.new.self c.in-Some.passed c.in-Some.taken is c.requires.rows c.in-Some.ensures.run in
    let leaves : Leaves page (first - old.row) old c.pass-2.new.self = record { levels = c.pass-2.ensures.page; left = c.pass-2.ensures.left; row = c.pass-2.ensures.row; same_rows = c.pass-2.ensures.rows; place = c.pass-2.ensures.place } in
    let goes : Goes c.args.limit page old c.pass-2.new.self (Some c.in-Some-pass.run') = passes-gap c.args.limit page first c.in-Some.taken old c.pass-2.new.self c.in-Some-pass.run' is next.near leaves c.in-Some-pass.ensures.run in
    goes.run

pub returns-in-Some-pass-clause-longest : goal.returns-in-Some-pass-clause-longest
returns-in-Some-pass-clause-longest c =
    let page = data_content c.args.page.now in
    let old = c.args.self.now in
    let is = c.requires.page in
    let first = old.place + c.in-Some.passed in
    let next = next-rows c.args.limit page c.args.rows.now old c.next.new.self c.in-Some.passed c.in-Some.taken is c.requires.rows c.in-Some.ensures.run in
    let leaves : Leaves page (first - old.row) old c.pass-2.new.self = record { levels = c.pass-2.ensures.page; left = c.pass-2.ensures.left; row = c.pass-2.ensures.row; same_rows = c.pass-2.ensures.rows; place = c.pass-2.ensures.place } in
    let goes : Goes c.args.limit page old c.pass-2.new.self (Some c.in-Some-pass.run') = passes-gap c.args.limit page first c.in-Some.taken old c.pass-2.new.self c.in-Some-pass.run' is next.near leaves c.in-Some-pass.ensures.run in
    goes.longest

pub returns-in-Some-pass-clause-page : goal.returns-in-Some-pass-clause-page
returns-in-Some-pass-clause-page c =
    let page = data_content c.args.page.now in
    let old = c.args.self.now in
    let is = c.requires.page in
    let first = old.place + c.in-Some.passed in
    let next = next-rows c.args.limit page c.args.rows.now old c.next.new.self c.in-Some.passed c.in-Some.taken is c.requires.rows c.in-Some.ensures.run in
    let leaves : Leaves page (first - old.row) old c.pass-2.new.self = record { levels = c.pass-2.ensures.page; left = c.pass-2.ensures.left; row = c.pass-2.ensures.row; same_rows = c.pass-2.ensures.rows; place = c.pass-2.ensures.place } in
    let goes : Goes c.args.limit page old c.pass-2.new.self (Some c.in-Some-pass.run') = passes-gap c.args.limit page first c.in-Some.taken old c.pass-2.new.self c.in-Some-pass.run' is next.near leaves c.in-Some-pass.ensures.run in
    goes.is_page

pub returns-in-None-clause-run : goal.returns-in-None-clause-run
returns-in-None-clause-run c =
    let page = data_content c.args.page.now in
    let old = c.args.self.now in
    let is = c.requires.page in
    let first = old.place + c.in-Some.passed in
    let next = next-rows c.args.limit page c.args.rows.now old c.next.new.self c.in-Some.passed c.in-Some.taken is c.requires.rows c.in-Some.ensures.run in
    let leaves : Leaves page (first - old.row) old c.pass-2.new.self = record { levels = c.pass-2.ensures.page; left = c.pass-2.ensures.left; row = c.pass-2.ensures.row; same_rows = c.pass-2.ensures.rows; place = c.pass-2.ensures.place } in
    let stands = stands-at page first c.in-Some.taken old c.pass-2.new.self is next.near leaves c.in-None.ensures.run in
    let goes : Goes c.args.limit page old c.take.new.self c.take.result = taken-rows c.args.limit page c.args.rows.now first c.in-Some.taken old c.pass-2.new.self c.take.new.self c.take.result next.rest c.requires.rows stands next.some next.most next.split c.take.ensures.ended c.take.ensures.run c.take.ensures.given c.take.ensures.row c.take.ensures.place c.take.ensures.page c.take.ensures.walk in
    goes.run

pub returns-in-None-clause-longest : goal.returns-in-None-clause-longest
returns-in-None-clause-longest c =
    let page = data_content c.args.page.now in
    let old = c.args.self.now in
    let is = c.requires.page in
    let first = old.place + c.in-Some.passed in
    let next = next-rows c.args.limit page c.args.rows.now old c.next.new.self c.in-Some.passed c.in-Some.taken is c.requires.rows c.in-Some.ensures.run in
    let leaves : Leaves page (first - old.row) old c.pass-2.new.self = record { levels = c.pass-2.ensures.page; left = c.pass-2.ensures.left; row = c.pass-2.ensures.row; same_rows = c.pass-2.ensures.rows; place = c.pass-2.ensures.place } in
    let stands = stands-at page first c.in-Some.taken old c.pass-2.new.self is next.near leaves c.in-None.ensures.run in
    let goes : Goes c.args.limit page old c.take.new.self c.take.result = taken-rows c.args.limit page c.args.rows.now first c.in-Some.taken old c.pass-2.new.self c.take.new.self c.take.result next.rest c.requires.rows stands next.some next.most next.split c.take.ensures.ended c.take.ensures.run c.take.ensures.given c.take.ensures.row c.take.ensures.place c.take.ensures.page c.take.ensures.walk in
    goes.longest

pub returns-in-None-clause-page : goal.returns-in-None-clause-page
returns-in-None-clause-page c =
    let page = data_content c.args.page.now in
    let old = c.args.self.now in
    let is = c.requires.page in
    let first = old.place + c.in-Some.passed in
    let next = next-rows c.args.limit page c.args.rows.now old c.next.new.self c.in-Some.passed c.in-Some.taken is c.requires.rows c.in-Some.ensures.run in
    let leaves : Leaves page (first - old.row) old c.pass-2.new.self = record { levels = c.pass-2.ensures.page; left = c.pass-2.ensures.left; row = c.pass-2.ensures.row; same_rows = c.pass-2.ensures.rows; place = c.pass-2.ensures.place } in
    let stands = stands-at page first c.in-Some.taken old c.pass-2.new.self is next.near leaves c.in-None.ensures.run in
    let goes : Goes c.args.limit page old c.take.new.self c.take.result = taken-rows c.args.limit page c.args.rows.now first c.in-Some.taken old c.pass-2.new.self c.take.new.self c.take.result next.rest c.requires.rows stands next.some next.most next.split c.take.ensures.ended c.take.ensures.run c.take.ensures.given c.take.ensures.row c.take.ensures.place c.take.ensures.page c.take.ensures.walk in
    goes.is_page
