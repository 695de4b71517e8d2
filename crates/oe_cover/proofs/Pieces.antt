-- What holds of pieces of a list.
use Rattle.std.proofs.Common.{arith, ◌≡◌, ◌≢◌, ◌≤◌, ◌<◌, ◌+◌, ◌-◌, ℕ, zero, suc, List, [], ◌∷◌, ◌++◌, length, take, drop, get_or, Some, refl, sym, ap, ◌∙◌}
use Rattle.std.specs.Prelude.{slice_get, All}
use Rattle.std.proofs.lemmas.List.{length-drop, take-append-le, drop-append-le, drop_at, take_all}
use Rattle.std.specs.List.{AllByRecursion}
use Rattle.std.proofs.lemmas.List.Elements.{All-take, All-drop, All-from_recursion}
use Rattle.oe_cover.specs.Pieces.{pieces, AreEnds, begins_at}

-- each end lies before the last one
pub ends_below : (first : ℕ) (ends : List ℕ) (behind : ℕ) → AreEnds first ends behind → first ≤ behind
ends_below first [] behind are = omega (arith, are)
ends_below first (end ∷ ends) behind are = omega (arith, are.0, ends_below end ends behind are.1)

-- as many pieces as ends
pub length-pieces : (items : List ℕ) (first : ℕ) (ends : List ℕ) → length (pieces items first ends) ≡ length ends
length-pieces items first [] = refl
length-pieces items first (end ∷ ends) = ap suc (length-pieces items end ends)

-- one more end
pub ends_grow : (first : ℕ) (ends : List ℕ) (behind more : ℕ) → AreEnds first ends behind → behind < more → AreEnds first (ends ++ more ∷ []) more
ends_grow first [] behind more are less = (omega (arith, are, less), refl)
ends_grow first (end ∷ ends) behind more are less = (are.0, ends_grow end ends behind more are.1 less)

-- what stands behind all pieces is none of theirs
pieces_stay : (items more : List ℕ) (first : ℕ) (ends : List ℕ) → AreEnds first ends (length items) → pieces (items ++ more) first ends ≡ pieces items first ends
pieces_stay items more first [] are = refl
pieces_stay items more first (end ∷ ends) are =
    let below = ends_below end ends (length items) are.1 in
    let rest : drop first (items ++ more) ≡ drop first items ++ more = drop-append-le first items more (omega (arith, are.0, below)) in
    let piece : take (end - first) (drop first (items ++ more)) ≡ take (end - first) (drop first items) =
    ap (take (end - first)) rest ∙ take-append-le (end - first) (drop first items) more (omega (arith, length-drop first items, below, are.0)) in
    ap (λ p. p ∷ pieces (items ++ more) end ends) piece ∙ ap (λ ps. take (end - first) (drop first items) ∷ ps) (pieces_stay items more end ends are.1)

pieces_behind : (items : List ℕ) (first : ℕ) (ends : List ℕ) (behind more : ℕ) → AreEnds first ends behind →
    pieces items first (ends ++ more ∷ []) ≡ pieces items first ends ++ take (more - behind) (drop behind items) ∷ []
pieces_behind items first [] behind more are = ap (λ b. take (more - b) (drop b items) ∷ []) are
pieces_behind items first (end ∷ ends) behind more are = ap (λ ps. take (end - first) (drop first items) ∷ ps) (pieces_behind items end ends behind more are.1)

-- one more piece, up to the end of the list
pub pieces_grow : (items more : List ℕ) (ends : List ℕ) → AreEnds 0 ends (length items) →
    pieces (items ++ more) 0 (ends ++ (length items + length more) ∷ []) ≡ pieces items 0 ends ++ more ∷ []
pieces_grow items more ends are =
    let last : take (length items + length more - length items) (drop (length items) (items ++ more)) ≡ more =
    ap (take (length items + length more - length items)) (drop_at items more (length items) refl) ∙ take_all (length items + length more - length items) more (omega arith) in
    pieces_behind (items ++ more) 0 ends (length items) (length items + length more) are
    ∙ ap (λ ps. ps ++ take (length items + length more - length items) (drop (length items) (items ++ more)) ∷ []) (pieces_stay items more 0 ends are)
    ∙ ap (λ p. pieces items 0 ends ++ p ∷ []) last

-- it begins where the one before it ends
pub begins_behind : (first : ℕ) (ends : List ℕ) (i d : ℕ) → i < length ends → begins_at first ends (suc i) ≡ get_or ends i d
begins_behind first [] i d within = absurd (omega (arith, within))
begins_behind first (end ∷ ends) zero d within = refl
begins_behind first (end ∷ ends) (suc i) d within = begins_behind end ends i d (omega (arith, within))

-- and what stands there
pub piece_at : (items : List ℕ) (first : ℕ) (ends : List ℕ) (i d : ℕ) → i < length ends →
    slice_get (pieces items first ends) i ≡ Some (take (get_or ends i d - begins_at first ends i) (drop (begins_at first ends i) items))
piece_at items first [] i d within = absurd (omega (arith, within))
piece_at items first (end ∷ ends) zero d within = refl
piece_at items first (end ∷ ends) (suc i) d within = piece_at items end ends i d (omega (arith, within))

pub piece_within : (first : ℕ) (ends : List ℕ) (behind i d : ℕ) → AreEnds first ends behind → i < length ends →
    (begins_at first ends i < get_or ends i d) × (get_or ends i d ≤ behind)
piece_within first [] behind i d are within = absurd (omega (arith, within))
piece_within first (end ∷ ends) behind zero d are within = (are.0, ends_below end ends behind are.1)
piece_within first (end ∷ ends) behind (suc i) d are within = piece_within end ends behind i d are.1 (omega (arith, within))

-- where a piece begins, told by the one before it
pub begins_where_ends : (ends : List ℕ) (i : ℕ) → i ≢ 0 → i < length ends → get_or ends (i - 1) 0 ≡ begins_at 0 ends i
begins_where_ends ends zero some within = absurd (some refl)
begins_where_ends ends (suc i) some within =
    let before : suc i - 1 ≡ i = omega arith in
    ap (λ k. get_or ends k 0) before ∙ sym (begins_behind 0 ends i 0 (omega (arith, within)))

take-nil : {X : Type 0} (n : ℕ) → take {A = X} n [] ≡ []
take-nil zero = refl
take-nil (suc n) = refl

-- the first elements, and some more of them
pub take_further : {X : Type 0} (xs : List X) (n m : ℕ) → n ≤ m → take m xs ≡ take n xs ++ take (m - n) (drop n xs)
take_further xs zero m less = ap (λ k. take k xs) (omega arith)
take_further [] (suc n) zero less = absurd (omega (arith, less))
take_further [] (suc n) (suc m) less = sym (take-nil (suc m - suc n))
take_further (x ∷ xs) (suc n) zero less = absurd (omega (arith, less))
take_further (x ∷ xs) (suc n) (suc m) less =
    let same : m - n ≡ suc m - suc n = omega arith in
    ap (λ front. x ∷ front) (take_further xs n m (omega (arith, less)) ∙ ap (λ k. take n xs ++ take k (drop n xs)) same)

-- what holds of all elements holds of those of each piece
pub pieces_hold : (P : ℕ → Type 0) (items : List ℕ) (first : ℕ) (ends : List ℕ) → All P items → All (All P) (pieces items first ends)
pieces_hold P items first ends all = All-from_recursion (All P) (pieces items first ends) (each first ends)
  where
    each : (from : ℕ) (rest : List ℕ) → AllByRecursion (All P) (pieces items from rest)
    each from [] = tt
    each from (end ∷ rest) = (All-take P (end - from) (drop from items) (All-drop P from items all), each end rest)
