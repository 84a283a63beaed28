-- Sinks in memory: what they were given, and which of their calls fail.
use Rattle.std.specs.Prelude.{ℕ, ◌-◌, Bool, ◌&&◌, ◌||◌, ◌==◌, nat_lt, List, [], ◌++◌, length, take}
use Rattle.std.specs.List.{list_any}
use Rattle.parquet_meta.specs.Source.{raised}

-- what it was given, how much it can take in all, and how often a call failed
pub record Memory : Type 0 where
  pub bytes : List ℕ
  pub capacity : ℕ
  pub faults : ℕ

abbrev pub empty_memory : ℕ → Memory
empty_memory capacity = record { bytes = []; capacity = capacity; faults = 0 }

abbrev pub room : Memory → ℕ
room memory = memory.capacity - length memory.bytes

-- as much of a piece as there is room for
abbrev pub with_piece : Memory → List ℕ → Memory
with_piece memory piece = record memory { bytes = memory.bytes ++ take (room memory) piece }

-- one more, up to the greatest number that a count can show
abbrev pub one_more : ℕ → ℕ
one_more count = raised count 1

abbrev pub with_fault : Memory → Memory
with_fault memory = record memory { faults = one_more memory.faults }

-- there is something to take, and no room
abbrev pub is_full_for : Memory → List ℕ → Bool
is_full_for memory piece = room memory == 0 && nat_lt 0 (length piece)

-- A sink some of whose calls fail: how many calls there were, and the numbers of those that fail. The first
-- call has the number 1.
pub record FailingCalls : Type 0 where
  pub memory : Memory
  pub calls : ℕ
  pub failing : List ℕ

-- the next call is one that fails
abbrev pub fails_next : FailingCalls → Bool
fails_next sink = list_any (λ call. call == one_more sink.calls) sink.failing

-- it fails, or there is no room
abbrev pub refuses_next : FailingCalls → List ℕ → Bool
refuses_next sink piece = fails_next sink || is_full_for sink.memory piece

-- the sink after one more call, which left the memory so
abbrev pub after_call : FailingCalls → Memory → FailingCalls
after_call sink memory = record sink { memory = memory; calls = one_more sink.calls }
