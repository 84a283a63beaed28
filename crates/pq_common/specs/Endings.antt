-- The ways in which a run ends: the number and the text of each, and what it tells of the call that does the work.
use Rattle.std.specs.Prelude.{ℕ, Bool, true, false, List, codes}
use Rattle.columns_core.specs.declared.error.Error.{Error}
use Rattle.columns_core.specs.declared.error.Error.TheVariants as error
use Rattle.pq_common.specs.declared.status.Status.{Status}
use Rattle.pq_common.specs.declared.status.Status.TheVariants.{Done, Words, Argument, NotCarried, Damaged, NotValid, Range, Reading, Writing, Memory}

abbrev pub status_number : Status → ℕ
status_number Done = 0
status_number Words = 2
status_number Argument = 3
status_number NotCarried = 4
status_number Damaged = 5
status_number NotValid = 6
status_number Range = 7
status_number Reading = 8
status_number Writing = 9
status_number Memory = 10

-- of faulty words how the tool is used
abbrev pub text_for : List ℕ → Status → List ℕ
text_for usage Done = codes "ok"
text_for usage Words = usage
text_for usage Argument = codes "the request does not fit the file"
text_for usage NotCarried = codes "not carried"
text_for usage Damaged = codes "the file is damaged"
text_for usage NotValid = codes "a text or key is not valid"
text_for usage Range = codes "a value is out of range"
text_for usage Reading = codes "reading failed"
text_for usage Writing = codes "writing failed"
text_for usage Memory = codes "out of memory"

-- the status for each kind of error
abbrev pub status_of_error : Error → Status
status_of_error (error.InvalidArgumentError part) = Argument
status_of_error (error.NotYetImplemented part) = NotCarried
status_of_error (error.ExternalFormat part) = Damaged
status_of_error (error.OutOfSpec part) = NotValid
status_of_error error.Overflow = Range
status_of_error error.Io = Reading
status_of_error error.OutOfMemory = Memory

-- A run that ends so had an answer of the call that does the work: its text was written, or a front of it.
abbrev pub has_answer : Status → Bool
has_answer Done = true
has_answer Writing = true
has_answer Words = false
has_answer Argument = false
has_answer NotCarried = false
has_answer Damaged = false
has_answer NotValid = false
has_answer Range = false
has_answer Reading = false
has_answer Memory = false

-- A run that ends so was refused by that call.
abbrev pub is_refusal : Status → Bool
is_refusal Done = false
is_refusal Words = false
is_refusal Writing = false
is_refusal Memory = false
is_refusal Argument = true
is_refusal NotCarried = true
is_refusal Damaged = true
is_refusal NotValid = true
is_refusal Range = true
is_refusal Reading = true
