use Rattle.parquet_page.proofs.HeaderLemmas.{from_place, no_header, short_body, finds}
use Rattle.parquet_page.proofs.found.find_page.Goals as goal

pub returns-in_default : goal.returns-in_default
returns-in_default c = no_header _ (rw (← from_place c.args.place c.args.bytes.now) c.in_default.ensures.spelled)

pub returns-then-rest-header : goal.returns-then-rest-header
returns-then-rest-header c = short_body _ c.in-Ok.rest.now c.in-Ok.header (rw (← from_place c.args.place c.args.bytes.now) c.in-Ok.ensures.spelled) c.if-rest-header.true

pub returns : goal.returns
returns c =
    let bytes = c.args.bytes.now in
    let place = c.args.place in
    let read = c.in-Ok.ensures in
    finds bytes place c.in-Ok.rest.now c.in-Ok.header c.requires (rw (← from_place place bytes) read.spelled) c.if-rest-header.false (rw (← from_place place bytes) read.ends) (rw (← from_place place bytes) read.takes)
