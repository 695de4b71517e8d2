-- What is laid of a burning order.
use Rattle.std.specs.Prelude.{◌≡◌, ℕ, List, ◌++◌, ◌+◌, length}

pub record Course : Type 0 where
  -- the edges whose place in the burning order is settled, in that order
  pub done : List ℕ
  -- those that burn after them, the top of the stack first
  pub stack : List ℕ
  -- how many edges either may have
  pub room : ℕ

-- the burning order so far
abbrev pub order_of : Course → List ℕ
order_of r = r.done ++ r.stack

-- the stack has grown on top, and nothing else has changed
abbrev pub StackGrows : Course → Course → Type 0
StackGrows r later = (more : List ℕ) × (later ≡ record r { stack = more ++ r.stack })

-- an edge counts once in the stack and twice when it is done
abbrev pub weight : Course → ℕ
weight r = length r.done + (length r.done + length r.stack)
