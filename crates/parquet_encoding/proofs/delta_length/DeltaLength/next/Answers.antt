use Rattle.std.proofs.Common.{rules, ℕ, List, ◌+◌, ◌-◌, ◌∙◌, sym, ap, length, drop, slice_get, Some, arith}
use Rattle.parquet_encoding.specs.DeltaLeft.{delta_left, numbers}
use Rattle.parquet_encoding.specs.JoinedLeft.{joined_left, length_within}
use Rattle.parquet_encoding.proofs.StepLemmas.{some_is}
use Rattle.parquet_encoding.proofs.SumLemmas.{same_number}
use Rattle.parquet_encoding.proofs.JoinedLemmas.{is_left, strings_within, left_of, strings_from, next_string, no_string, none_behind, no_room}
use Rattle.parquet_encoding.proofs.delta_length.DeltaLength.next.Goals as goal

pub next-requires : goal.next-requires
unfolding joined_left
next-requires c = (is_left (delta_left c.args.self.now.lengths c.args.bytes.now) c.args.self.now.next c.args.bytes.now c.requires).there

pub returns-in_err-number-clause-value : goal.returns-in_err-number-clause-value
unfolding joined_left
returns-in_err-number-clause-value c =
    let s = c.args.self.now in
    let none = no_string (delta_left s.lengths c.args.bytes.now) s.next c.args.bytes.now c.requires (sym c.in_err-number.ensures.value) in
    c.from_residual.ensures ∙ ap (λ (places : List (ℕ × ℕ)). slice_get places 0) (sym none.1)

pub returns-in_err-number-clause-rest : goal.returns-in_err-number-clause-rest
unfolding joined_left
returns-in_err-number-clause-rest c =
    let s = c.args.self.now in
    none_behind (delta_left s.lengths c.args.bytes.now) (delta_left c.next.new.self c.args.bytes.now) s.next c.args.bytes.now c.requires (sym c.in_err-number.ensures.value) c.in_err-number.ensures.rest

pub overflow_sub-bytes : goal.overflow_sub-bytes
unfolding joined_left
overflow_sub-bytes c =
    strings_within c.args.self.now.next _ c.args.bytes.now _ (is_left (delta_left c.args.self.now.lengths c.args.bytes.now) c.args.self.now.next c.args.bytes.now c.requires).strings

pub unreachable-requires : goal.unreachable-requires
unfolding joined_left
unreachable-requires c =
    let s = c.args.self.now in
    let same = same_number c.in_ok-number.number (search rules) in
    let e = next_string (delta_left s.lengths c.args.bytes.now) s.next c.args.bytes.now c.in_ok-number.number c.requires (sym c.in_ok-number.ensures.value) in
    no_room _ _ (sym (ap (length_within (length c.args.bytes.now - s.next)) same) ∙ c.in_default.ensures) e.found

pub returns-clause-value : goal.returns-clause-value
unfolding joined_left
returns-clause-value c =
    let s = c.args.self.now in
    let same = same_number c.in_ok-number.number (search rules) in
    let e = next_string (delta_left s.lengths c.args.bytes.now) s.next c.args.bytes.now c.in_ok-number.number c.requires (sym c.in_ok-number.ensures.value) in
    let long = some_is c.in-Ok.length e.long (sym c.in-Ok.ensures ∙ ap (length_within (length c.args.bytes.now - s.next)) same ∙ e.found) in
    ap (λ long. Some (s.next, long)) long ∙ sym e.place

pub returns-clause-within : goal.returns-clause-within
unfolding joined_left
returns-clause-within c =
    let s = c.args.self.now in
    let same = same_number c.in_ok-number.number (search rules) in
    let e = next_string (delta_left s.lengths c.args.bytes.now) s.next c.args.bytes.now c.in_ok-number.number c.requires (sym c.in_ok-number.ensures.value) in
    let long = some_is c.in-Ok.length e.long (sym c.in-Ok.ensures ∙ ap (length_within (length c.args.bytes.now - s.next)) same ∙ e.found) in
    omega (arith, e.within, long)

pub returns-clause-rest : goal.returns-clause-rest
unfolding joined_left
returns-clause-rest c =
    let s = c.args.self.now in
    let same = same_number c.in_ok-number.number (search rules) in
    let e = next_string (delta_left s.lengths c.args.bytes.now) s.next c.args.bytes.now c.in_ok-number.number c.requires (sym c.in_ok-number.ensures.value) in
    let long = some_is c.in-Ok.length e.long (sym c.in-Ok.ensures ∙ ap (length_within (length c.args.bytes.now - s.next)) same ∙ e.found) in
    ap (λ o. left_of o (s.next + c.in-Ok.length) c.args.bytes.now) c.in_ok-number.ensures.rest
    ∙ ap (λ n. strings_from (s.next + n) (drop 1 (numbers s.lengths c.args.bytes.now)) c.args.bytes.now) long ∙ e.left
