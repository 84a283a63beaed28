-- What a tool is handed by the system.
use Rattle.std.specs.Prelude.{◌≡◌, ◌⊎◌, ℕ, List, [], ◌∷◌}
use Rattle.std.specs.declared.io.ErrorKind.{ErrorKind}
use Rattle.std.specs.declared.io.ErrorKind.TheVariants.{InvalidData}
use Rattle.pq_common.specs.declared.status.Status.{Status}
use Rattle.pq_common.specs.declared.status.Status.TheVariants.{Words, Memory}

-- the first word, or the empty text
abbrev pub first_word : List (List ℕ) → List ℕ
first_word [] = []
first_word (word ∷ words) = word

-- how a run ends that is not handed its words: one of them is no text, or memory ran out
abbrev pub ending_without_words : ErrorKind → Status
ending_without_words InvalidData = Words
ending_without_words kind = Memory

-- No other ending comes before the run.
abbrev pub EndsAtTheEdge : Status → Type 0
EndsAtTheEdge status = (status ≡ Words) ⊎ (status ≡ Memory)
