use Rattle.std.proofs.Common.{◌≡◌, ℕ, List, Option, ◌++◌, ap, sym, ◌∙◌, append_assoc, arith, is_some, length, map}
use Rattle.std.specs.Int.{w32, to_le_bytes}
use Rattle.std.specs.List.{slice_range}
use Rattle.parquet_meta.specs.declared.metadata.Repetition.{Repetition}
use Rattle.parquet_page.specs.Stored.{Stored}
use Rattle.parquet_plain.specs.Bodies.{level_bytes, levels_of}
use Rattle.parquet_plain.proofs.BodyLemmas.{four-bytes}
use Rattle.parquet_write.proofs.pages.write_levels_of.Goals as goal

pub returns-in_ok-extend_from_slice-in-Optional-2 : goal.returns-in_ok-extend_from_slice-in-Optional-2
returns-in_ok-extend_from_slice-in-Optional-2 g c =
    let rows : List (Option Stored) = slice_range (g.I.Items.items c.args.items.now) c.args.from c.args.to in
    let levels : List ℕ = level_bytes (map is_some rows) in
    let body : List ℕ = c.args.room.now.body.items in
    let own : c.write_levels.new.levels.items ≡ levels = (c.in_ok-write_levels-in-Optional).ensures.written ∙ ap (λ (bs : List ℕ). bs ++ levels) c.clear.ensures.items in
    let long : (c.in_ok-length-in-Optional).length ≡ length levels = omega (arith, (c.in_ok-length-in-Optional).ensures.same, c.len.ensures, ap length own) in
    let front : c.extend_from_slice.new.self.items ≡ body ++ to_le_bytes w32 (length levels) =
    (c.in_ok-extend_from_slice-in-Optional).ensures.items ∙ ap (λ (bs : List ℕ). body ++ bs) (c.to_le_bytes.ensures ∙ ap (to_le_bytes w32) long) in
    (c.in_ok-extend_from_slice-in-Optional-2).ensures.items ∙ ap (λ (bs : List ℕ). bs ++ c.deref.result.now) front
    ∙ ap (λ (bs : List ℕ). (body ++ to_le_bytes w32 (length levels)) ++ bs) (c.deref.ensures.value ∙ own)
    ∙ append_assoc body (to_le_bytes w32 (length levels)) levels
    ∙ ap (λ (bs : List ℕ). body ++ (bs ++ levels)) (sym (four-bytes (length levels)))
    ∙ ap (λ (repetition : Repetition). body ++ levels_of repetition rows) (sym c.in-Optional.is)
