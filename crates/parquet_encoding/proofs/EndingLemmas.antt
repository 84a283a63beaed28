-- What is read ends where the bytes after it begin.
use Rattle.std.proofs.Common.{◌≡◌, ℕ, zero, suc, ◌-◌, ◌*◌, ◌/◌, ◌^◌, ◌==◌, ◌≤◌, min, leb, nat_lt, Bool, true, false, cond, ◌&&◌, List, [], ◌∷◌, length, take, drop, Option, Some, None, refl, ℤ}
use Rattle.std.specs.Prelude.{IfSome}
use Rattle.std.proofs.lemmas.Bool.{leb-true}
use Rattle.parquet_base.specs.Reading.{◌>>=◌, given, map_value, IsEnd}
use Rattle.parquet_base.specs.Varint.{varint_within, varint, zigzag}
use Rattle.parquet_base.proofs.EndLemmas.{IsEnd_all, IsEnd_drop, IsEnd_through, IsEnd_cons}
use Rattle.parquet_encoding.specs.Bits.{packed}
use Rattle.parquet_encoding.specs.DeltaBinary.{is_block, miniblocks, first_block, blocks, running_sums, shape_at, delta_binary}

-- the bytes after what is read are an end of the whole
abbrev pub Ends : {A : Type 0} → List ℕ → Option (A × List ℕ) → Type 0
Ends whole o = IfSome o (λ x. IsEnd whole x.1)

ends_bind : {A B : Type 0} (whole : List ℕ) (o : Option (A × List ℕ)) (f : A × List ℕ → Option (B × List ℕ)) → Ends whole o → ((x : A × List ℕ) → IsEnd whole x.1 → Ends whole (f x)) → Ends whole (o >>= f)
ends_bind whole None f p q = tt
ends_bind whole (Some x) f p q = q x p

ends_given : {A B : Type 0} (whole : List ℕ) (b : Bool) (x : A) (f : A → Option (B × List ℕ)) → (b ≡ true → Ends whole (f x)) → Ends whole (given b x >>= f)
ends_given whole true x f q = q refl
ends_given whole false x f q = tt

ends_map : {A B : Type 0} (whole : List ℕ) (f : A → B) (o : Option (A × List ℕ)) → Ends whole o → Ends whole (map_value f o)
ends_map whole f None p = tt
ends_map whole f (Some x) p = p

ends_cond : {A : Type 0} (whole : List ℕ) (b : Bool) (x y : Option (A × List ℕ)) → Ends whole x → Ends whole y → Ends whole (cond b x y)
ends_cond whole true x y p q = p
ends_cond whole false x y p q = q

varint_within-ends : (whole : List ℕ) (most : ℕ) (bytes : List ℕ) → IsEnd whole bytes → Ends whole (varint_within most bytes)
unfolding varint_within
varint_within-ends whole zero bytes end = tt
varint_within-ends whole (suc most) [] end = tt
varint_within-ends whole (suc most) (byte ∷ bytes) end =
    let behind = IsEnd_through whole (byte ∷ bytes) bytes end (IsEnd_cons byte bytes) in
    ends_cond whole (nat_lt byte 128) _ _ behind (ends_map whole _ (varint_within most bytes) (varint_within-ends whole most bytes behind))

varint-ends : (whole bytes : List ℕ) → IsEnd whole bytes → Ends whole (varint bytes)
unfolding varint
varint-ends whole bytes end = ends_bind whole (varint_within 10 bytes) _ (varint_within-ends whole 10 bytes end) (λ n behind. ends_cond whole (nat_lt n.0 (2 ^ 64)) (Some n) None behind tt)

ends_drop : (whole bytes : List ℕ) (n : ℕ) → IsEnd whole bytes → n ≤ length bytes → IsEnd whole (drop n bytes)
ends_drop whole bytes n end few = IsEnd_through whole bytes (drop n bytes) end (IsEnd_drop n bytes few)

miniblocks-ends : (whole : List ℕ) (size : ℕ) (least : ℤ) (count : ℕ) (widths body : List ℕ) → IsEnd whole body → Ends whole (miniblocks size least count widths body)
unfolding miniblocks
miniblocks-ends whole size least zero widths body end = end
miniblocks-ends whole size least (suc count) [] body end = end
miniblocks-ends whole size least (suc count) (width ∷ widths) body end =
    ends_given whole (leb width 64 && leb (size * width / 8) (length body)) (packed body width 0 (min size (suc count))) _ (λ fits.
    let behind = ends_drop whole body (size * width / 8) end (leb-true _ _ (second (leb width 64) _ fits)) in
    ends_bind whole (miniblocks size least (suc count - size) widths (drop (size * width / 8) body)) _ (miniblocks-ends whole size least (suc count - size) widths (drop (size * width / 8) body) behind) (λ others end. end))
  where
    second : (a b : Bool) → a && b ≡ true → b ≡ true
    second true b e = e
    second false b e = absurd cc

first_block-ends : (whole : List ℕ) (size parts count : ℕ) (bytes : List ℕ) → IsEnd whole bytes → Ends whole (first_block size parts count bytes)
unfolding first_block
first_block-ends whole size parts count bytes end =
    ends_bind whole (varint bytes) _ (varint-ends whole bytes end) (λ least behind.
    ends_given whole (leb parts (length least.1)) (take parts least.1) _ (λ fits.
    miniblocks-ends whole size (zigzag least.0) count (take parts least.1) (drop parts least.1) (ends_drop whole least.1 parts behind (leb-true _ _ fits))))

blocks-ends : (whole : List ℕ) (limit size parts count : ℕ) (bytes : List ℕ) → IsEnd whole bytes → Ends whole (blocks limit size parts count bytes)
unfolding blocks
blocks-ends whole zero size parts zero bytes end = end
blocks-ends whole (suc limit) size parts zero bytes end = end
blocks-ends whole zero size parts (suc count) bytes end = tt
blocks-ends whole (suc limit) size parts (suc count) bytes end =
    ends_bind whole (first_block size parts (suc count) bytes) _ (first_block-ends whole size parts (suc count) bytes end) (λ first behind.
    ends_bind whole (blocks limit size parts (suc count - length first.0) first.1) _ (blocks-ends whole limit size parts (suc count - length first.0) first.1 behind) (λ others end. end))

pub delta_binary-ends : (count : ℕ) (bytes : List ℕ) → Ends bytes (delta_binary count bytes)
unfolding delta_binary shape_at
delta_binary-ends count bytes =
    ends_bind bytes (shape_at bytes) _
    (ends_bind bytes (varint bytes) _ (varint-ends bytes bytes (IsEnd_all bytes)) (λ values behind.
    ends_bind bytes (varint values.1) _ (varint-ends bytes values.1 behind) (λ parts behind.
    ends_bind bytes (varint parts.1) _ (varint-ends bytes parts.1 behind) (λ total behind.
    given_ends (is_block values.0 parts.0) _ behind)))) (λ shape behind.
    ends_bind bytes (varint shape.1) _ (varint-ends bytes shape.1 behind) (λ first behind.
    ends_bind bytes (blocks (length bytes) shape.0.size shape.0.miniblocks (count - 1) first.1) _ (blocks-ends bytes (length bytes) shape.0.size shape.0.miniblocks (count - 1) first.1 behind) (λ deltas behind.
    given_ends (shape.0.total == count) (take count (running_sums (zigzag first.0) deltas.0), deltas.1) behind)))
  where
    given_ends : {A : Type 0} (b : Bool) (x : A × List ℕ) → IsEnd bytes x.1 → Ends bytes (given b x)
    given_ends true x end = end
    given_ends false x end = tt
