-- The bodies of rows are those of their items.
use Rattle.std.proofs.Common.{◌≡◌, ℕ, pos, Bool, true, false, cond, not, List, [], ◌∷◌, ◌++◌, refl, ap, ◌∙◌, length, map}
use Rattle.std.specs.Prelude.{is_some, Some, None}
use Rattle.std.specs.Int.{w32, w64, cast_unsigned, to_le_bytes}
use Rattle.std.specs.List.{flat_map, range_with_len}
use Rattle.parquet_page.specs.Stored.{Number}
use Rattle.parquet_plain.specs.Bodies.{body_bytes, level_bytes, number_octets, octets_of, present, values_bytes, with_length}
use Rattle.parquet_plain.proofs.BodyLemmas.{eight-bytes, four-bytes}
use Rattle.parquet_sample.specs.Rows.{are_present, id_bytes, qty_bytes, text_bytes}
use Rattle.parquet_sample.specs.Sample.{id_item, is_absent, name_text, qty_item, quantity, name_item}
use Rattle.parquet_sample.specs.Writing.{body_from, items_from, written_of}
use Rattle.parquet_sample.specs.declared.column.SampleColumn.{SampleColumn}
use Rattle.parquet_sample.specs.declared.column.SampleColumn.TheVariants.{Id, Qty, Name}

ids : (ns : List ℕ) → flat_map (number_octets 8 (cast_unsigned w64)) (present (map id_item ns)) ≡ flat_map id_bytes ns
ids [] = refl
ids (n ∷ ns) = ap (λ (bs : List ℕ). bs ++ flat_map (number_octets 8 (cast_unsigned w64)) (present (map id_item ns))) (eight-bytes n) ∙ ap (λ (bs : List ℕ). id_bytes n ++ bs) (ids ns)

texts : (ns : List ℕ) → flat_map (λ value. with_length (octets_of value)) (present (map name_item ns)) ≡ flat_map text_bytes ns
texts [] = refl
texts (n ∷ ns) =
    ap (λ (bs : List ℕ). (bs ++ name_text n) ++ flat_map (λ value. with_length (octets_of value)) (present (map name_item ns))) (four-bytes (length (name_text n)))
    ∙ ap (λ (bs : List ℕ). text_bytes n ++ bs) (texts ns)

abbrev QtyBytes : List ℕ → Type 0
QtyBytes ns = flat_map (number_octets 4 (cast_unsigned w32)) (present (map qty_item ns)) ≡ flat_map qty_bytes ns

qtys-next : (b : Bool) (n : ℕ) (ns : List ℕ) → QtyBytes ns →
    flat_map (number_octets 4 (cast_unsigned w32)) (present (cond b None (Some (Number (pos (quantity n)))) ∷ map qty_item ns)) ≡ cond b [] (to_le_bytes w32 (quantity n)) ++ flat_map qty_bytes ns
qtys-next true n ns others = others
qtys-next false n ns others =
    ap (λ (bs : List ℕ). bs ++ flat_map (number_octets 4 (cast_unsigned w32)) (present (map qty_item ns))) (four-bytes (quantity n)) ∙ ap (λ (bs : List ℕ). to_le_bytes w32 (quantity n) ++ bs) others

qtys : (ns : List ℕ) → QtyBytes ns
qtys [] = refl
qtys (n ∷ ns) = qtys-next (is_absent n) n ns (qtys ns)

abbrev Levels : List ℕ → Type 0
Levels ns = map is_some (map qty_item ns) ≡ map (λ n. not (is_absent n)) ns

levels-next : (b : Bool) (n : ℕ) (ns : List ℕ) → Levels ns → is_some (cond b None (Some (Number (pos (quantity n))))) ∷ map is_some (map qty_item ns) ≡ not b ∷ map (λ n. not (is_absent n)) ns
levels-next true n ns others = ap (λ (bs : List Bool). false ∷ bs) others
levels-next false n ns others = ap (λ (bs : List Bool). true ∷ bs) others

levels : (ns : List ℕ) → Levels ns
levels [] = refl
levels (n ∷ ns) = levels-next (is_absent n) n ns (levels ns)

pub body-is : (column : SampleColumn) (first rows : ℕ) →
    body_bytes (written_of column).column.type.physical_type (written_of column).column.type.repetition (items_from column first rows) ≡ body_from column first rows
unfolding body_bytes values_bytes
body-is Id first rows = ids (range_with_len first rows)
body-is Qty first rows =
    let ns : List ℕ = range_with_len first rows in
    ap (λ (bs : List Bool). with_length (level_bytes bs) ++ flat_map (number_octets 4 (cast_unsigned w32)) (present (map qty_item ns))) (levels ns)
    ∙ ap (λ (bs : List ℕ). (bs ++ level_bytes (are_present first rows)) ++ flat_map (number_octets 4 (cast_unsigned w32)) (present (map qty_item ns))) (four-bytes (length (level_bytes (are_present first rows))))
    ∙ ap (λ (bs : List ℕ). (to_le_bytes w32 (length (level_bytes (are_present first rows))) ++ level_bytes (are_present first rows)) ++ bs) (qtys ns)
body-is Name first rows = texts (range_with_len first rows)
