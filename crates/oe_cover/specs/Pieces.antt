-- Lists that stand one behind the other in one list, told by where each ends.
use Rattle.std.specs.Prelude.{◌≡◌, ℕ, ◌-◌, ◌<◌, List, [], ◌∷◌, zero, suc, take, drop}

-- the pieces of `items` that end at these places; the first begins at `first`
abbrev pub pieces : List ℕ → ℕ → List ℕ → List (List ℕ)
pieces items first [] = []
pieces items first (end ∷ ends) = take (end - first) (drop first items) ∷ pieces items end ends

-- none of them is empty, and the last one ends at `behind`
abbrev pub AreEnds : ℕ → List ℕ → ℕ → Type 0
AreEnds first [] behind = first ≡ behind
AreEnds first (end ∷ ends) behind = (first < end) × AreEnds end ends behind

-- where the piece at place i begins
abbrev pub begins_at : ℕ → List ℕ → ℕ → ℕ
begins_at first ends zero = first
begins_at first [] (suc i) = first
begins_at first (end ∷ ends) (suc i) = begins_at end ends i
