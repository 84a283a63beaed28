use Rattle.std.proofs.Common.{◌∙◌, sym, ap, [], drop, Some, arith}
use Rattle.std.specs.Prelude.{slice_get, unwrap_or}
use Rattle.parquet_encoding.specs.PlainLeft.{strings_left}
use Rattle.parquet_encoding.proofs.StringLemmas.{strings_within, has_string, no_string, first_string_left, others_left}
use Rattle.parquet_encoding.proofs.plain_bytes.PlainBytes.next.Goals as goal

pub returns-then-self-eq0-clause-value : goal.returns-then-self-eq0-clause-value
unfolding strings_left
returns-then-self-eq0-clause-value c =
    let s = c.args.self.now in
    sym (ap (λ o. slice_get (unwrap_or o []) 0) (no_string s.next s.left c.args.bytes.now c.if-self-eq0.true c.requires))

pub returns-then-self-eq0-clause-rest : goal.returns-then-self-eq0-clause-rest
unfolding strings_left
returns-then-self-eq0-clause-rest c =
    let s = c.args.self.now in
    let none = no_string s.next s.left c.args.bytes.now c.if-self-eq0.true c.requires in
    none ∙ ap Some (sym (ap (λ o. drop 1 (unwrap_or o [])) none))

pub string_at-requires : goal.string_at-requires
unfolding strings_left
string_at-requires c = strings_within c.args.self.now.next c.args.self.now.left c.args.bytes.now c.requires

pub unreachable-requires : goal.unreachable-requires
unfolding strings_left
unreachable-requires c = has_string c.args.self.now.next c.args.self.now.left c.args.bytes.now c.requires (omega arith) c.in_default.ensures.err

pub returns-clause-value : goal.returns-clause-value
unfolding strings_left
returns-clause-value c = first_string_left c.args.self.now.next c.args.self.now.left c.args.bytes.now c.in-Ok.place (omega arith) c.in-Ok.ensures.ok c.requires

pub returns-clause-rest : goal.returns-clause-rest
unfolding strings_left
returns-clause-rest c = others_left c.args.self.now.next c.args.self.now.left c.args.bytes.now c.in-Ok.place (omega arith) c.in-Ok.ensures.ok c.requires
