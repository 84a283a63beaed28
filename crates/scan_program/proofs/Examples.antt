-- Worked examples of the definitions.
use Rattle.std.proofs.Common.{◌≡◌, refl, pos, true, false, [], ◌∷◌}
use Rattle.std.specs.Prelude.{codes, Some, None}
use Rattle.std.specs.Fmt.{digits}
use denote.Hole.Carrier
use Rattle.columns_core.specs.declared.cell.Cell.{Int, Text, Bytes}
use Rattle.columns_core.specs.declared.data_type.DataType as type
use Rattle.parquet_scan.specs.declared.bound.Scalar.TheVariants as scalar
use Rattle.parquet_base.specs.Intervals.{interval}
use Rattle.pq_common.specs.CellText.{cell_text}
use Rattle.scan_program.specs.Report.{report}
use Rattle.scan_program.specs.Sampled.{sample_of}
use Rattle.scan_program.specs.Words.{spelled_command}

no_words : spelled_command [] ≡ None
no_words = refl

one_field : spelled_command (codes "x" ∷ codes "a:Int32" ∷ [])
    ≡ Some (record { request = record { fields = record { name = codes "a"; data_type = type.Int32; is_nullable = true } ∷ []; bounds = []; chunk_size = None; limit = None }; summary = false })
one_field = refl

two_ends : spelled_command (codes "x" ∷ codes "a:Int32" ∷ codes "a>=12" ∷ codes "a<=18" ∷ codes "--limit=5" ∷ codes "--summary" ∷ [])
    ≡ Some (record {
      request = record {
        fields = record { name = codes "a"; data_type = type.Int32; is_nullable = true } ∷ [];
        bounds = record { field = codes "a"; low = Some (scalar.Int (pos 12)); high = Some (scalar.Int (pos 18)) } ∷ [];
        chunk_size = None;
        limit = Some 5;
      };
      summary = true;
    })
unfolding type.out-DataType denote.Hole.Carrier.out
two_ends = refl

not_a_number : spelled_command (codes "x" ∷ codes "a:Int32" ∷ codes "a>=x" ∷ []) ≡ None
unfolding type.out-DataType denote.Hole.Carrier.out
not_a_number = refl

no_such_type : spelled_command (codes "x" ∷ codes "a:Float32" ∷ []) ≡ None
no_such_type = refl

no_such_field : spelled_command (codes "x" ∷ codes "b>=1" ∷ codes "a:Int32" ∷ []) ≡ None
no_such_field = refl

limit_twice : spelled_command (codes "x" ∷ codes "a:Int32" ∷ codes "--limit" ∷ codes "5" ∷ codes "--limit" ∷ codes "6" ∷ []) ≡ None
limit_twice = refl

six_rows : sample_of (codes "@sample:6:0") ≡ Some (6, 0)
six_rows = refl

leading_zeros : sample_of (codes "@sample:0000000007:4294967295") ≡ Some (7, 4294967295)
leading_zeros = refl

past_32_bits : sample_of (codes "@sample:4294967296:0") ≡ None
past_32_bits = refl

eleven_digits : sample_of (codes "@sample:00000000006:0") ≡ None
eleven_digits = refl

no_seed : sample_of (codes "@sample:6:") ≡ None
no_seed = refl

one_colon_more : sample_of (codes "@sample:6:0:0") ≡ None
one_colon_more = refl

cells : cell_text (Text (codes "a\"b")) ≡ codes "\"a\\x22b\""
cells = refl

bytes : cell_text (Bytes (0 ∷ 255 ∷ [])) ≡ codes "0x00ff"
bytes = refl

five_rows : report false ((5, interval 0 5 ∷ []) ∷ []) (((type.Int32, Int (pos 10) ∷ Int (pos 12) ∷ []) ∷ []) ∷ []) 2 1
    ≡ codes "group 0 5 0+5\nchunk 2\n10\n12\n"
unfolding digits
five_rows = refl

no_rows : report true ((5, []) ∷ (3, interval 0 1 ∷ interval 2 1 ∷ []) ∷ []) [] 0 0 ≡ codes "group 0 5 -\ngroup 1 3 0+1 2+1\nrows 0\npages 0\n"
unfolding digits
no_rows = refl
