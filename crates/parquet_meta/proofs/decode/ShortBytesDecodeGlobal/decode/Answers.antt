use Rattle.parquet_meta.proofs.decode.ShortBytesDecodeGlobal.decode.Goals as goal

pub returns : goal.returns
returns c = λ context. rw c.in_ok-from_slice.ensures.same (c.in_ok-bytes.ensures context)
