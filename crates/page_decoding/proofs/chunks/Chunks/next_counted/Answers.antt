use Rattle.page_decoding.proofs.chunks.Chunks.next_counted.Goals as goal

pub returns-clause-chunk : goal.returns-clause-chunk
returns-clause-chunk g c = rw (← c.self.view_is) c.read_chunk.ensures.chunk
