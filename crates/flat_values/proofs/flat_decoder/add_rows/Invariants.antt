use Rattle.std.proofs.Common.{◌≡◌, ◌++◌, drop, length, map, take}
use Rattle.std.specs.Option.{option_copied}
use Rattle.parquet_page.specs.Content.{data_content}
use Rattle.page_decoding.specs.FilteredLeft.{filtered_steps}
use Rattle.page_decoding.specs.Outcome.{Given}
use Rattle.flat_values.specs.FlatLeft.{IsStateOf, given_along, values_left}
use Rattle.flat_values.proofs.flat_decoder.add_rows.Given as goal

abbrev pub invariant-loop-wanted : goal.invariant-loop-wanted
invariant-loop-wanted g l =
    let shown = g.V.Decoded.DecodedState.shown in
    let left = g.V.Values.left l.values (option_copied l.dict) in
    let page = data_content l.page in
    let now = given_along (filtered_steps l.walk page) (values_left (left l.bytes) l.place) in
    let before = given_along (filtered_steps l.initial.walk page) (values_left (left l.bytes) l.initial.place) in
    record {
      state : IsStateOf (g.V.Values.is_over l.values) left l.bytes l.walk l.place page;
      own : g.V.Values.is_own l.values l.decoded;
      rows : map Given (shown l.decoded) ++ take l.wanted now ≡ map Given (shown l.initial.decoded) ++ take l.initial.wanted before;
      rest : drop l.wanted now ≡ drop l.initial.wanted before;
    }

abbrev pub decreases-loop-wanted : goal.decreases-loop-wanted
decreases-loop-wanted g l = length (filtered_steps l.walk (data_content l.page))
