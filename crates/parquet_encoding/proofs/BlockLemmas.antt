-- Blocks of miniblocks, one behind another.
use Rattle.std.proofs.Common.{◌≡◌, ℕ, zero, suc, ◌+◌, ◌-◌, ◌*◌, ◌/◌, ◌%◌, ◌<◌, ◌≤◌, min, leb, ◌&&◌, List, [], ◌∷◌, ◌++◌, length, take, drop, get_or, Option, Some, None, refl, sym, ap, ◌∙◌, arith, append_assoc, length-append, ℤ, pos, ◌+ℤ◌, ◌⊎◌, inl, inr}
use Rattle.std.proofs.Math.Nat.{mul-div_cancel}
use Rattle.std.proofs.lemmas.Bool.{le-leb, lt-leb, and_from, and_left, and_right}
use Rattle.std.proofs.lemmas.List.{length-drop, drop-drop, drop_more, length-map}
use Rattle.parquet_base.specs.Reading.{◌>>=◌, given, map_value}
use Rattle.parquet_base.specs.Varint.{varint, varint_within, zigzag}
use Rattle.parquet_base.proofs.BytesLemmas.{AreBytes}
use Rattle.parquet_encoding.specs.Bits.{packed}
use Rattle.parquet_encoding.specs.Places.{bytes_from, VarintAt}
use Rattle.parquet_encoding.specs.DeltaBinary.{deltas_of, miniblocks, first_block, blocks}
use Rattle.parquet_encoding.proofs.BitsLemmas.{packed-drop, length-packed}
use Rattle.parquet_encoding.proofs.StepLemmas.{bind_some, some_is, same_steps}
use Rattle.parquet_encoding.proofs.HybridLemmas.{varint-shorter}

-- ---- one miniblock

pub length-deltas_of : (least : ℤ) (numbers : List ℕ) → length (deltas_of least numbers) ≡ length numbers
length-deltas_of least numbers = length-map numbers (λ number. least +ℤ pos number)

abbrev pub with_own : List ℤ → List ℤ × List ℕ → Option (List ℤ × List ℕ)
with_own own others = Some (own ++ others.0, others.1)

-- a miniblock of which deltas are wanted
miniblock_step : (size : ℕ) (least : ℤ) (count width : ℕ) (widths body : List ℕ) → 0 < count → width ≤ 64 → size * width / 8 ≤ length body
    → miniblocks size least count (width ∷ widths) body
    ≡ (miniblocks size least (count - size) widths (drop (size * width / 8) body) >>= with_own (deltas_of least (packed body width 0 (min size count))))
unfolding miniblocks
miniblock_step size least zero width widths body positive narrow fits = absurd (omega arith)
miniblock_step size least (suc count) width widths body positive narrow fits =
    rw (and_from (leb width 64) (leb (size * width / 8) (length body)) (le-leb _ _ narrow) (le-leb _ _ fits)) refl

miniblock_stops : (size : ℕ) (least : ℤ) (count width : ℕ) (widths body : List ℕ) → 0 < count → (64 < width) ⊎ (length body < size * width / 8) → miniblocks size least count (width ∷ widths) body ≡ None
unfolding miniblocks
miniblock_stops size least zero width widths body positive bad = absurd (omega arith)
miniblock_stops size least (suc count) width widths body positive (inl wide) = rw (and_left (leb width 64) (leb (size * width / 8) (length body)) (lt-leb _ _ wide)) refl
miniblock_stops size least (suc count) width widths body positive (inr short) = rw (and_right (leb width 64) (leb (size * width / 8) (length body)) (lt-leb _ _ short)) refl

no_more : (size : ℕ) (least : ℤ) (count : ℕ) (body : List ℕ) → miniblocks size least count [] body ≡ Some ([], body)
unfolding miniblocks
no_more size least zero body = refl
no_more size least (suc count) body = refl

none_wanted : (size : ℕ) (least : ℤ) (widths body : List ℕ) → miniblocks size least 0 widths body ≡ Some ([], body)
unfolding miniblocks
none_wanted size least widths body = refl

-- ---- as many turns as there are bytes are enough

miniblocks-shorter : (size : ℕ) (least : ℤ) (count : ℕ) (widths body : List ℕ) (own : List ℤ × List ℕ) → miniblocks size least count widths body ≡ Some own → length own.1 ≤ length body
unfolding miniblocks
miniblocks-shorter size least zero widths body own e = let same = some_is ([], body) own e in rw (← same) (omega arith)
miniblocks-shorter size least (suc count) [] body own e = let same = some_is ([], body) own e in rw (← same) (omega arith)
miniblocks-shorter size least (suc count) (width ∷ widths) body own e =
    let numbers = bind_some (given (leb width 64 && leb (size * width / 8) (length body)) (packed body width 0 (min size (suc count))))
    (λ numbers. miniblocks size least (suc count - size) widths (drop (size * width / 8) body) >>= with_own (deltas_of least numbers)) own e in
    let others = bind_some (miniblocks size least (suc count - size) widths (drop (size * width / 8) body)) (with_own (deltas_of least numbers.0)) own numbers.2 in
    let same = some_is _ own others.2 in
    let shorter = miniblocks-shorter size least (suc count - size) widths (drop (size * width / 8) body) others.0 others.1 in
    rw (← same) (omega (arith, length-drop (size * width / 8) body))

first_block-shorter : (size parts count : ℕ) (bytes : List ℕ) (own : List ℤ × List ℕ) → first_block size parts count bytes ≡ Some own → length own.1 < length bytes
unfolding first_block
first_block-shorter size parts count bytes own e =
    let least = bind_some (varint bytes) (λ least. given (leb parts (length least.1)) (take parts least.1) >>= λ widths. miniblocks size (zigzag least.0) count widths (drop parts least.1)) own e in
    let widths = bind_some (given (leb parts (length least.0.1)) (take parts least.0.1)) (λ widths. miniblocks size (zigzag least.0.0) count widths (drop parts least.0.1)) own least.2 in
    let shorter = varint-shorter bytes least.0 least.1 in
    let rest = miniblocks-shorter size (zigzag least.0.0) count widths.0 (drop parts least.0.1) own widths.2 in
    omega (arith, length-drop parts least.0.1)

-- the blocks behind some deltas
abbrev pub onward : ℕ → ℕ → ℕ → ℕ → List ℤ × List ℕ → Option (List ℤ × List ℕ)
onward limit size parts count own = blocks limit size parts (count - length own.0) own.1 >>= with_own own.0

no_bytes : (limit size parts : ℕ) (bytes : List ℕ) (count : ℕ) → length bytes ≤ 0 → blocks limit size parts (suc count) bytes ≡ None
unfolding blocks first_block varint varint_within
no_bytes zero size parts bytes count h = refl
no_bytes (suc limit) size parts [] count h = refl
no_bytes (suc limit) size parts (byte ∷ bytes) count h = absurd (omega arith)

blocks-limit : (a b size parts : ℕ) (bytes : List ℕ) (count : ℕ) → length bytes ≤ a → length bytes ≤ b → blocks a size parts count bytes ≡ blocks b size parts count bytes
unfolding blocks
blocks-limit zero zero size parts bytes zero h k = refl
blocks-limit zero (suc b) size parts bytes zero h k = refl
blocks-limit (suc a) zero size parts bytes zero h k = refl
blocks-limit (suc a) (suc b) size parts bytes zero h k = refl
blocks-limit zero b size parts bytes (suc count) h k = no_bytes zero size parts bytes count (omega arith) ∙ sym (no_bytes b size parts bytes count (omega arith))
blocks-limit (suc a) zero size parts bytes (suc count) h k = no_bytes (suc a) size parts bytes count (omega arith)
blocks-limit (suc a) (suc b) size parts bytes (suc count) h k =
    same_steps (first_block size parts (suc count) bytes) (onward a size parts (suc count)) (onward b size parts (suc count)) (λ first e.
    let shorter = first_block-shorter size parts (suc count) bytes first e in
    ap (λ r. r >>= with_own first.0) (blocks-limit a b size parts first.1 (suc count - length first.0) (omega arith) (omega arith)))

no_block : (size parts count : ℕ) → first_block size parts count [] ≡ None
unfolding first_block varint varint_within
no_block size parts count = refl

-- the first block, and the others
blocks_step : (limit size parts : ℕ) (bytes : List ℕ) (count : ℕ) → length bytes ≤ limit → 0 < count → blocks limit size parts count bytes ≡ (first_block size parts count bytes >>= onward limit size parts count)
unfolding blocks
blocks_step limit size parts bytes zero h positive = absurd (omega arith)
blocks_step zero size parts [] (suc count) h positive = sym (ap (λ r. r >>= onward 0 size parts (suc count)) (no_block size parts (suc count)))
blocks_step zero size parts (byte ∷ bytes) (suc count) h positive = absurd (omega arith)
blocks_step (suc limit) size parts bytes (suc count) h positive =
    same_steps (first_block size parts (suc count) bytes) (onward limit size parts (suc count)) (onward (suc limit) size parts (suc count)) (λ first e.
    let shorter = first_block-shorter size parts (suc count) bytes first e in
    ap (λ r. r >>= with_own first.0) (blocks-limit limit (suc limit) size parts first.1 (suc count - length first.0) (omega arith) (omega arith)))

no_blocks : (limit size parts : ℕ) (bytes : List ℕ) → blocks limit size parts 0 bytes ≡ Some ([], bytes)
unfolding blocks
no_blocks zero size parts bytes = refl
no_blocks (suc limit) size parts bytes = refl

-- ---- the bytes of a miniblock

pub body_is : (size width : ℕ) → size % 32 ≡ 0 → size / 8 * width ≡ size * width / 8
body_is size width whole =
    let eight : size ≡ size / 8 * 8 = omega arith in
    let product : size * width ≡ size / 8 * width * 8 = ap (λ n. n * width) eight ∙ omega arith in
    sym (ap (λ n. n / 8) product ∙ mul-div_cancel (size / 8 * width) (omega arith))

-- ---- what is left behind a miniblock

abbrev pub behind_of : ℕ → ℕ → ℤ → ℕ → ℕ → ℕ → ℕ → List ℕ → Option (List ℤ × List ℕ)
behind_of size parts least count widths k next bytes =
    given (leb (widths + k) (length bytes)) (take k (drop widths bytes)) >>= λ own. bytes_from next bytes >>= λ body. miniblocks size least count own body >>= onward (length bytes) size parts count

behind_is : (size parts : ℕ) (least : ℤ) (count widths k next : ℕ) (bytes : List ℕ) → widths + k ≤ length bytes → next ≤ length bytes
    → behind_of size parts least count widths k next bytes ≡ (miniblocks size least count (take k (drop widths bytes)) (drop next bytes) >>= onward (length bytes) size parts count)
behind_is size parts least count widths k next bytes inside within = rw (le-leb _ _ inside, le-leb _ _ within) refl

take_first : (k n : ℕ) (bytes : List ℕ) → n < length bytes → 0 < k → take k (drop n bytes) ≡ get_or bytes n 0 ∷ take (k - 1) (drop (n + 1) bytes)
take_first zero n bytes inside positive = absurd (omega arith)
take_first (suc k) n bytes inside positive = let one : suc k - 1 ≡ k = omega arith in rw one (ap (take (suc k)) (drop_more bytes n 0 inside))

-- the deltas of a miniblock before those behind it
joined : (limit size parts count many : ℕ) (own : List ℤ) (o p : Option (List ℤ × List ℕ)) → o ≡ p → length own ≡ many
    → (o >>= with_own own >>= onward limit size parts count) ≡ map_value (λ others. own ++ others) (p >>= onward limit size parts (count - many))
joined limit size parts count many own None p e long = rw (← e) refl
joined limit size parts count many own (Some first) p e long =
    rw (← e) (ap (λ r. r >>= with_own (own ++ first.0)) (ap (λ n. blocks limit size parts n first.1) counts) ∙ moved (blocks limit size parts (count - many - length first.0) first.1))
  where
    counts : count - length (own ++ first.0) ≡ count - many - length first.0
    counts = omega (arith, length-append own first.0)

    moved : (r : Option (List ℤ × List ℕ)) → (r >>= with_own (own ++ first.0)) ≡ map_value (λ others. own ++ others) (r >>= with_own first.0)
    moved None = refl
    moved (Some others) = ap (λ whole. Some (whole, others.1)) (append_assoc own first.0 others.0)

-- the next miniblock of the block
pub part_opens : (size parts : ℕ) (least : ℤ) (count widths k next width body many : ℕ) (bytes : List ℕ) → AreBytes bytes → widths + k ≤ length bytes → next ≤ length bytes → 0 < count → 0 < k
    → width ≡ get_or bytes widths 0 → width ≤ 64 → body ≡ size * width / 8 → body ≤ length bytes - next → many ≡ min size count
    → behind_of size parts least count widths k next bytes
    ≡ map_value (λ others. deltas_of least (packed bytes width (8 * next + 0) many) ++ others) (behind_of size parts least (count - many) (widths + 1) (k - 1) (next + body) bytes)
part_opens size parts least count widths k next width body many bytes fits inside within positive some is-width narrow is-body room is-many =
    let rest = drop next bytes in
    let own = deltas_of least (packed bytes width (8 * next + 0) many) in
    let inside' : widths + 1 + (k - 1) ≤ length bytes = omega arith in
    let within' : next + body ≤ length bytes = omega arith in
    let there : size * width / 8 ≤ length rest = omega (arith, length-drop next bytes) in
    let left : count - size ≡ count - many = omega arith in
    let first : take k (drop widths bytes) ≡ width ∷ take (k - 1) (drop (widths + 1) bytes) =
    take_first k widths bytes (omega arith) some ∙ ap (λ w. w ∷ take (k - 1) (drop (widths + 1) bytes)) (sym is-width) in
    let numbers : packed rest width 0 (min size count) ≡ packed bytes width (8 * next + 0) many = ap (packed rest width 0) (sym is-many) ∙ packed-drop bytes next width 0 many fits in
    let others : miniblocks size least (count - size) (take (k - 1) (drop (widths + 1) bytes)) (drop (size * width / 8) rest) ≡ miniblocks size least (count - many) (take (k - 1) (drop (widths + 1) bytes)) (drop (next + body) bytes) =
    ap (λ n. miniblocks size least n (take (k - 1) (drop (widths + 1) bytes)) (drop (size * width / 8) rest)) left
    ∙ ap (miniblocks size least (count - many) (take (k - 1) (drop (widths + 1) bytes))) (ap (λ n. drop n rest) (sym is-body) ∙ drop-drop body next bytes) in
    behind_is size parts least count widths k next bytes inside within
    ∙ ap (λ ws. miniblocks size least count ws rest >>= onward (length bytes) size parts count) first
    ∙ ap (λ o. o >>= onward (length bytes) size parts count) (miniblock_step size least count width (take (k - 1) (drop (widths + 1) bytes)) rest positive narrow there)
    ∙ ap (λ n. miniblocks size least (count - size) (take (k - 1) (drop (widths + 1) bytes)) (drop (size * width / 8) rest) >>= with_own (deltas_of least n) >>= onward (length bytes) size parts count) numbers
    ∙ joined (length bytes) size parts count many own _ _ others (length-deltas_of least (packed bytes width (8 * next + 0) many) ∙ length-packed bytes width (8 * next + 0) many)
    ∙ ap (map_value (λ others. own ++ others)) (sym (behind_is size parts least (count - many) (widths + 1) (k - 1) (next + body) bytes inside' within'))

pub part_stops : (size parts : ℕ) (least : ℤ) (count widths k next width : ℕ) (bytes : List ℕ) → widths + k ≤ length bytes → next ≤ length bytes → 0 < count → 0 < k
    → width ≡ get_or bytes widths 0 → (64 < width) ⊎ (length bytes - next < size * width / 8) → behind_of size parts least count widths k next bytes ≡ None
part_stops size parts least count widths k next width bytes inside within positive some is-width bad =
    let first : take k (drop widths bytes) ≡ width ∷ take (k - 1) (drop (widths + 1) bytes) =
    take_first k widths bytes (omega arith) some ∙ ap (λ w. w ∷ take (k - 1) (drop (widths + 1) bytes)) (sym is-width) in
    let bad' : (64 < width) ⊎ (length (drop next bytes) < size * width / 8) = elim bad [ inl wide ↦ inl wide | inr short ↦ inr (omega (arith, length-drop next bytes)) ] in
    behind_is size parts least count widths k next bytes inside within
    ∙ ap (λ ws. miniblocks size least count ws (drop next bytes) >>= onward (length bytes) size parts count) first
    ∙ ap (λ o. o >>= onward (length bytes) size parts count) (miniblock_stops size least count width (take (k - 1) (drop (widths + 1) bytes)) (drop next bytes) positive bad')

with_nothing : (o : Option (List ℤ × List ℕ)) → (o >>= with_own []) ≡ o
with_nothing None = refl
with_nothing (Some own) = refl

-- no miniblock of the block is left: those behind it are the next blocks
pub behind_block : (size parts : ℕ) (least : ℤ) (count widths k next : ℕ) (bytes : List ℕ) → k ≡ 0 → widths + k ≤ length bytes → next ≤ length bytes
    → behind_of size parts least count widths k next bytes ≡ blocks (length bytes) size parts count (drop next bytes)
behind_block size parts least count widths k next bytes none inside within =
    let all : count - 0 ≡ count = omega arith in
    behind_is size parts least count widths k next bytes inside within
    ∙ ap (λ n. miniblocks size least count (take n (drop widths bytes)) (drop next bytes) >>= onward (length bytes) size parts count) none
    ∙ ap (λ o. o >>= onward (length bytes) size parts count) (no_more size least count (drop next bytes))
    ∙ ap (λ n. blocks (length bytes) size parts n (drop next bytes) >>= with_own []) all
    ∙ with_nothing (blocks (length bytes) size parts count (drop next bytes))

-- the next block
pub block_opens : (size parts : ℕ) (least : ℤ) (count widths k next number at : ℕ) (bytes : List ℕ) → k ≡ 0 → widths + k ≤ length bytes → next ≤ length bytes → 0 < count
    → VarintAt bytes next (number, at) → at + parts ≤ length bytes
    → behind_of size parts (zigzag number) count at parts (at + parts) bytes ≡ behind_of size parts least count widths k next bytes
unfolding first_block
block_opens size parts least count widths k next number at bytes none inside within positive there enough =
    let rest = drop at bytes in
    let room : parts ≤ length rest = omega (arith, length-drop at bytes) in
    let short : length (drop next bytes) ≤ length bytes = omega (arith, length-drop next bytes) in
    let first : first_block size parts count (drop next bytes) ≡ miniblocks size (zigzag number) count (take parts rest) (drop (at + parts) bytes) =
    ap (λ o. o >>= λ least. given (leb parts (length least.1)) (take parts least.1) >>= λ widths. miniblocks size (zigzag least.0) count widths (drop parts least.1)) there.value
    ∙ rw (le-leb parts (length rest) room, drop-drop parts at bytes) refl in
    behind_is size parts (zigzag number) count at parts (at + parts) bytes enough enough
    ∙ ap (λ o. o >>= onward (length bytes) size parts count) (sym first)
    ∙ sym (behind_block size parts least count widths k next bytes none inside within ∙ blocks_step (length bytes) size parts (drop next bytes) count short positive)

pub block_stops : (size parts : ℕ) (least : ℤ) (count widths k next : ℕ) (bytes : List ℕ) → k ≡ 0 → widths + k ≤ length bytes → next ≤ length bytes → 0 < count
    → first_block size parts count (drop next bytes) ≡ None → behind_of size parts least count widths k next bytes ≡ None
block_stops size parts least count widths k next bytes none inside within positive stops =
    let short : length (drop next bytes) ≤ length bytes = omega (arith, length-drop next bytes) in
    behind_block size parts least count widths k next bytes none inside within
    ∙ blocks_step (length bytes) size parts (drop next bytes) count short positive ∙ ap (λ o. o >>= onward (length bytes) size parts count) stops

pub no_least : (size parts count : ℕ) (rest : List ℕ) → varint rest ≡ None → first_block size parts count rest ≡ None
unfolding first_block
no_least size parts count rest none = rw none refl

pub no_widths : (size parts count next number at : ℕ) (bytes : List ℕ) → VarintAt bytes next (number, at) → length bytes - at < parts → first_block size parts count (drop next bytes) ≡ None
unfolding first_block
no_widths size parts count next number at bytes there few =
    let missing : length (drop at bytes) < parts = omega (arith, length-drop at bytes) in
    ap (λ o. o >>= λ least. given (leb parts (length least.1)) (take parts least.1) >>= λ widths. miniblocks size (zigzag least.0) count widths (drop parts least.1)) there.value
    ∙ rw (lt-leb parts (length (drop at bytes)) missing) refl

-- nothing is wanted any more
pub behind_none : (size parts : ℕ) (least : ℤ) (count widths k next : ℕ) (bytes : List ℕ) → count ≡ 0 → widths + k ≤ length bytes → next ≤ length bytes
    → behind_of size parts least count widths k next bytes ≡ Some ([], drop next bytes)
behind_none size parts least count widths k next bytes none inside within =
    behind_is size parts least count widths k next bytes inside within
    ∙ ap (λ n. miniblocks size least n (take k (drop widths bytes)) (drop next bytes) >>= onward (length bytes) size parts n) none
    ∙ ap (λ o. o >>= onward (length bytes) size parts 0) (none_wanted size least (take k (drop widths bytes)) (drop next bytes))
    ∙ with_nothing (blocks (length bytes) size parts 0 (drop next bytes)) ∙ no_blocks (length bytes) size parts (drop next bytes)
