use Rattle.std.proofs.Common.{◌≡◌, ◌-◌, ◌∙◌, ℕ, replicate, take, min, inl, inr, ap, sym, arith}
use Rattle.std.proofs.lemmas.Bool.{cases_lt}
use Rattle.std.proofs.lemmas.List.{drop-replicate, length-replicate, take-replicate, take_all}
use Rattle.columns_core.specs.declared.cell.Cell.{Null}
use Rattle.page_decoding.specs.Queue.{first_chunk, later_chunks}
use Rattle.parquet_scan.proofs.group_column.first_rows.Goals as goal

taken : {X : Type 0} (size left : ℕ) (x : X) → take size (replicate left x) ≡ replicate (min size left) x
taken size left x = elim (cases_lt size left) [
  | inl less ↦ (let n : min size left ≡ size = omega (arith, less) in take-replicate size left x (omega (arith, less)) ∙ ap (λ n. replicate n x) (sym n))
  | inr more ↦ (let n : min size left ≡ left = omega (arith, more) in take_all size (replicate left x) (omega (arith, more, length-replicate left x)) ∙ ap (λ n. replicate n x) (sym n))
]

pub returns-in-Some-clause-first : goal.returns-in-Some-clause-first
returns-in-Some-clause-first c =
    let rows : min c.in-Some.size c.args.left ≡ c.min.result = omega arith in
    ap (λ size. first_chunk size (replicate c.args.left Null)) c.in-Some.is ∙ taken c.in-Some.size c.args.left Null ∙ ap (λ n. replicate n Null) rows

pub returns-in-Some-clause-later : goal.returns-in-Some-clause-later
returns-in-Some-clause-later c =
    let rest : c.args.left - c.in-Some.size ≡ c.args.left - c.min.result = omega arith in
    ap (λ size. later_chunks size (replicate c.args.left Null)) c.in-Some.is ∙ drop-replicate c.in-Some.size c.args.left Null ∙ ap (λ n. replicate n Null) rest
