-- Why a code is refused.
use Rattle.std.specs.Prelude.{◌≡◌, ⊤, ℕ, List, Some}
use Rattle.code_moves.specs.declared.faults.CodeError.{CodeError}
use Rattle.code_moves.specs.declared.faults.CodeError.TheVariants.{BadLine, UnknownWord, TooFar, NoEnd, OutOfMemory}
use Rattle.code_moves.specs.Meaning.{code_refusal_of}

-- an error tells the first fault of a code; want of memory tells nothing
abbrev pub IsRefusalOf : List ℕ → CodeError → Type 0
IsRefusalOf bytes OutOfMemory = ⊤
IsRefusalOf bytes (BadLine n) = code_refusal_of bytes ≡ Some (BadLine n)
IsRefusalOf bytes (UnknownWord n) = code_refusal_of bytes ≡ Some (UnknownWord n)
IsRefusalOf bytes (TooFar n) = code_refusal_of bytes ≡ Some (TooFar n)
IsRefusalOf bytes (NoEnd n) = code_refusal_of bytes ≡ Some (NoEnd n)
