-- Where the elements stand that a selection takes.
use Rattle.std.proofs.Common.{arith, ◌≡◌, ℕ, zero, suc, ◌≤◌, ◌<◌, List, [], ◌∷◌, take, refl, sym, ap, subst}
use Rattle.std.specs.Prelude.{slice_get, Some, Contains}
use Rattle.std.specs.List.{AllZip}
use Rattle.std.proofs.lemmas.Option.{none-some, same_Some}
use Rattle.nest_base.proofs.ListReads.{read_from_Contains}
use Rattle.nest_base.specs.Selection.{Selects, none, taken, passed}

-- x is the element at place i of the list, and the one at place k of what is selected
pub record IsPlaced {X : Type 0} (P : X → Type 0) (xs ys : List X) (i k : ℕ) (x : X) : Type 0 where
  pub in_all : slice_get xs i ≡ Some x
  pub selected : slice_get ys k ≡ Some x
  pub has : P x
  pub front : Selects P (take i xs) (take k ys)

-- each selected element stands in the list
pub placed_in : {X : Type 0} (P : X → Type 0) {xs ys : List X} → Selects P xs ys → (k : ℕ) (x : X) → slice_get ys k ≡ Some x → (i : ℕ) × IsPlaced P xs ys i k x
placed_in P none k x at = absurd (none-some x at)
placed_in P (taken {x = y} p h) zero x at = (0, record { in_all = at; selected = at; has = subst P (same_Some y x at) p; front = none })
placed_in P (taken p h) (suc k) x at = let (i, r) = placed_in P h k x at in
    (suc i, record { in_all = r.in_all; selected = r.selected; has = r.has; front = taken p r.front })
placed_in P (passed p h) k x at = let (i, r) = placed_in P h k x at in
    (suc i, record { in_all = r.in_all; selected = r.selected; has = r.has; front = passed p r.front })

-- each element of the list that has P is selected
pub placed_at : {X : Type 0} (P : X → Type 0) {xs ys : List X} → Selects P xs ys → (i : ℕ) (x : X) → slice_get xs i ≡ Some x → P x → (k : ℕ) × IsPlaced P xs ys i k x
placed_at P none i x at has = absurd (none-some x at)
placed_at P (taken p h) zero x at has = (0, record { in_all = at; selected = at; has = has; front = none })
placed_at P (taken p h) (suc i) x at has = let (k, r) = placed_at P h i x at has in
    (suc k, record { in_all = r.in_all; selected = r.selected; has = r.has; front = taken p r.front })
placed_at P (passed {x = y} p h) zero x at has = absurd (p (subst P (sym (same_Some y x at)) has))
placed_at P (passed p h) (suc i) x at has = let (k, r) = placed_at P h i x at has in
    (k, record { in_all = r.in_all; selected = r.selected; has = r.has; front = passed p r.front })

-- two lists place by place, read at one place
pub read_second : {X Y : Type 0} (R : X → Y → Type 0) (xs : List X) (ys : List Y) → AllZip R xs ys → (k : ℕ) (x : X) → slice_get xs k ≡ Some x →
    (y : Y) × (slice_get ys k ≡ Some y) × R x y
read_second R [] [] zip k x at = absurd (none-some x at)
read_second R [] (y ∷ ys) zip k x at = absurd zip
read_second R (z ∷ xs) [] zip k x at = absurd zip
read_second R (z ∷ xs) (y ∷ ys) zip zero x at = (y, refl, subst (λ w. R w y) (same_Some z x at) zip.0)
read_second R (z ∷ xs) (y ∷ ys) zip (suc k) x at = read_second R xs ys zip.1 k x at

pub read_first : {X Y : Type 0} (R : X → Y → Type 0) (xs : List X) (ys : List Y) → AllZip R xs ys → (k : ℕ) (y : Y) → slice_get ys k ≡ Some y →
    (x : X) × (slice_get xs k ≡ Some x) × R x y
read_first R [] [] zip k y at = absurd (none-some y at)
read_first R [] (y ∷ ys) zip k z at = absurd zip
read_first R (x ∷ xs) [] zip k y at = absurd zip
read_first R (x ∷ xs) (y ∷ ys) zip zero z at = (x, refl, subst (R x) (same_Some y z at) zip.0)
read_first R (x ∷ xs) (y ∷ ys) zip (suc k) z at = read_first R xs ys zip.1 k z at

pub take_zip : {X Y : Type 0} (R : X → Y → Type 0) (k : ℕ) (xs : List X) (ys : List Y) → AllZip R xs ys → AllZip R (take k xs) (take k ys)
take_zip R zero xs ys zip = tt
take_zip R (suc k) [] [] zip = tt
take_zip R (suc k) [] (y ∷ ys) zip = absurd zip
take_zip R (suc k) (x ∷ xs) [] zip = absurd zip
take_zip R (suc k) (x ∷ xs) (y ∷ ys) zip = (zip.0, take_zip R k xs ys zip.1)

-- the first of the first
pub take_less : {X : Type 0} (j i : ℕ) (xs : List X) → j ≤ i → take j (take i xs) ≡ take j xs
take_less zero i xs less = refl
take_less (suc j) zero xs less = absurd (omega (arith, less))
take_less (suc j) (suc i) [] less = refl
take_less (suc j) (suc i) (x ∷ xs) less = ap (λ l. x ∷ l) (take_less j i xs (omega (arith, less)))

pub read_of_take : {X : Type 0} (n : ℕ) (xs : List X) (k : ℕ) (x : X) → slice_get (take n xs) k ≡ Some x → (k < n) × (slice_get xs k ≡ Some x)
read_of_take zero xs k x at = absurd (none-some x at)
read_of_take (suc n) [] k x at = absurd (none-some x at)
read_of_take (suc n) (y ∷ xs) zero x at = (omega (arith), at)
read_of_take (suc n) (y ∷ xs) (suc k) x at = let (less, there) = read_of_take n xs k x at in (omega (arith, less), there)

-- what is among the first n stands at a place below n
pub read_in_front : {X : Type 0} (n : ℕ) (xs : List X) (x : X) → Contains (take n xs) x → (k : ℕ) × (k < n) × (slice_get xs k ≡ Some x)
read_in_front n xs x stands =
    let (k, at) = read_from_Contains (take n xs) x stands in
    let (less, there) = read_of_take n xs k x at in
    (k, less, there)
