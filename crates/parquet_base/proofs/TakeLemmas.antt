-- How many bytes reading takes at least.
use Rattle.std.proofs.Common.{ℕ, zero, suc, ◌+◌, ◌^◌, ◌≤◌, Bool, true, false, cond, List, [], ◌∷◌, Option, Some, None, arith, length, nat_lt}
use Rattle.parquet_base.specs.Reading.{◌>>=◌, map_value, Takes}
use Rattle.parquet_base.specs.Varint.{varint_within, varint}

pub Takes-cond : {A : Type 0} (k : ℕ) (bytes : List ℕ) (b : Bool) (x y : Option (A × List ℕ)) → Takes k bytes x → Takes k bytes y → Takes k bytes (cond b x y)
Takes-cond k bytes true x y p q = p
Takes-cond k bytes false x y p q = q

pub Takes-map : {A B : Type 0} (k : ℕ) (bytes : List ℕ) (f : A → B) (o : Option (A × List ℕ)) → Takes k bytes o → Takes k bytes (map_value f o)
Takes-map k bytes f None p = tt
Takes-map k bytes f (Some x) p = p

-- reading that goes on with fewer bytes
pub Takes-from : {A : Type 0} (j k : ℕ) (bytes rest : List ℕ) (o : Option (A × List ℕ)) → j + length rest ≤ length bytes → Takes k rest o → Takes (j + k) bytes o
Takes-from j k bytes rest None h p = tt
Takes-from j k bytes rest (Some x) h p = omega arith

pub Takes-bind : {A B : Type 0} (j k : ℕ) (bytes : List ℕ) (o : Option (A × List ℕ)) (f : A × List ℕ → Option (B × List ℕ)) →
    Takes j bytes o → ((x : A × List ℕ) → Takes k x.1 (f x)) → Takes (j + k) bytes (o >>= f)
Takes-bind j k bytes None f p q = tt
Takes-bind j k bytes (Some x) f p q = Takes-from j k bytes x.1 (f x) p (q x)

pub Takes-less : {A : Type 0} (j k : ℕ) (bytes : List ℕ) (o : Option (A × List ℕ)) → k ≤ j → Takes j bytes o → Takes k bytes o
Takes-less j k bytes None le p = tt
Takes-less j k bytes (Some x) le p = omega arith

varint_within-takes : (most : ℕ) (bytes : List ℕ) → Takes 1 bytes (varint_within most bytes)
unfolding varint_within
varint_within-takes zero bytes = tt
varint_within-takes (suc most) [] = tt
varint_within-takes (suc most) (byte ∷ bytes) =
    Takes-cond 1 (byte ∷ bytes) (nat_lt byte 128) _ _ (omega arith)
    (Takes-map 1 (byte ∷ bytes) _ (varint_within most bytes) (Takes-from 0 1 (byte ∷ bytes) bytes (varint_within most bytes) (omega arith) (varint_within-takes most bytes)))

pub varint-takes : (bytes : List ℕ) → Takes 1 bytes (varint bytes)
unfolding varint
varint-takes bytes = Takes-bind 1 0 bytes (varint_within 10 bytes) _ (varint_within-takes 10 bytes) (λ x. Takes-cond 0 x.1 (nat_lt x.0 (2 ^ 64)) (Some x) None (omega arith) tt)
