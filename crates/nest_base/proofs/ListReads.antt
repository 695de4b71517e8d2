-- What stands at a place of a list.
use Rattle.std.proofs.Common.{arith, ◌≡◌, ◌≢◌, ◌⊎◌, inl, inr, ℕ, zero, suc, ◌+◌, ◌-◌, ◌<◌, ◌≤◌, List, [], ◌∷◌, ◌++◌, length, length-append, map, take, drop, length-take, length-drop, get_or, set, refl, sym, ap, subst, ◌∙◌}
use Rattle.std.specs.Prelude.{Some, slice_get, Contains, All, AllPairs, option_map}
use Rattle.std.proofs.lemmas.Option.{none-some, same_Some, slice_get_within, slice_get-get_or, get_or_from_slice_get, slice_get-map}
use Rattle.std.proofs.lemmas.List.Elements.{All-contains}

-- each place below the length has an element
pub read_below : {X : Type 0} (xs : List X) (k : ℕ) → k < length xs → (x : X) × (slice_get xs k ≡ Some x)
read_below [] k h = absurd (omega arith)
read_below (x ∷ xs) zero h = (x, refl)
read_below (x ∷ xs) (suc k) h = read_below xs k (omega arith)

-- and it has one alone
pub one_read : {X : Type 0} (xs : List X) (k : ℕ) (x y : X) → slice_get xs k ≡ Some x → slice_get xs k ≡ Some y → x ≡ y
one_read xs k x y is_x is_y = same_Some x y (sym is_x ∙ is_y)

pub Contains-from_read : {X : Type 0} (xs : List X) (k : ℕ) (x : X) → slice_get xs k ≡ Some x → Contains xs x
Contains-from_read xs k x at = (k, slice_get_within xs k x at, get_or_from_slice_get xs k x x at)

pub read_from_Contains : {X : Type 0} (xs : List X) (x : X) → Contains xs x → (k : ℕ) × (slice_get xs k ≡ Some x)
read_from_Contains xs x (k, within, is) = (k, slice_get-get_or xs k x within ∙ ap Some is)

-- the relation of elements that stand apart
pub AllPairs-reads : {X : Type 0} (R : X → X → Type 0) (xs : List X) (i j : ℕ) (x y : X) → AllPairs R xs → i < j →
    slice_get xs i ≡ Some x → slice_get xs j ≡ Some y → R x y
AllPairs-reads R xs i j x y pairs less at_x at_y =
    rw (get_or_from_slice_get xs i x x at_x, get_or_from_slice_get xs j y x at_y) at (pairs i j x less (slice_get_within xs j y at_y))

pub AllPairs-from_reads : {X : Type 0} (R : X → X → Type 0) (xs : List X) →
    ((i j : ℕ) (x y : X) → i < j → slice_get xs i ≡ Some x → slice_get xs j ≡ Some y → R x y) → AllPairs R xs
AllPairs-from_reads R xs h i j d less within =
    h i j (get_or xs i d) (get_or xs j d) less (slice_get-get_or xs i d (omega arith)) (slice_get-get_or xs j d within)

-- reads of an image
pub read-map : {X Y : Type 0} (f : X → Y) (xs : List X) (k : ℕ) (x : X) → slice_get xs k ≡ Some x → slice_get (map f xs) k ≡ Some (f x)
read-map f xs k x at = slice_get-map f xs k ∙ ap (option_map f) at

pub read_of_map : {X Y : Type 0} (f : X → Y) (xs : List X) (k : ℕ) (y : Y) → slice_get (map f xs) k ≡ Some y → (x : X) × (slice_get xs k ≡ Some x) × (f x ≡ y)
read_of_map f [] k y at = absurd (none-some y at)
read_of_map f (x ∷ xs) zero y at = (x, refl, same_Some (f x) y at)
read_of_map f (x ∷ xs) (suc k) y at = read_of_map f xs k y at

-- reads of a slice
pub read-drop : {X : Type 0} (n : ℕ) (xs : List X) (k : ℕ) → slice_get (drop n xs) k ≡ slice_get xs (n + k)
read-drop zero xs k = ap (slice_get xs) (omega arith)
read-drop (suc n) [] k = refl
read-drop (suc n) (x ∷ xs) k =
    let next : suc (n + k) ≡ suc n + k = omega arith in
    read-drop n xs k ∙ ap (slice_get (x ∷ xs)) next

pub read-take : {X : Type 0} (n : ℕ) (xs : List X) (k : ℕ) → k < n → slice_get (take n xs) k ≡ slice_get xs k
read-take zero xs k h = absurd (omega arith)
read-take (suc n) [] k h = refl
read-take (suc n) (x ∷ xs) zero h = refl
read-take (suc n) (x ∷ xs) (suc k) h = read-take n xs k (omega arith)

-- reads of a list with one element more at its end
pub read-front : {X : Type 0} (xs ys : List X) (k : ℕ) → k < length xs → slice_get (xs ++ ys) k ≡ slice_get xs k
read-front [] ys k h = absurd (omega arith)
read-front (x ∷ xs) ys zero h = refl
read-front (x ∷ xs) ys (suc k) h = read-front xs ys k (omega arith)

pub read_pushed : {X : Type 0} (xs : List X) (y : X) → slice_get (xs ++ y ∷ []) (length xs) ≡ Some y
read_pushed [] y = refl
read_pushed (x ∷ xs) y = read_pushed xs y

pub read_kept : {X : Type 0} (xs : List X) (y : X) (k : ℕ) (x : X) → slice_get xs k ≡ Some x → slice_get (xs ++ y ∷ []) k ≡ Some x
read_kept xs y k x at = read-front xs (y ∷ []) k (slice_get_within xs k x at) ∙ at

pub read_of_pushed : {X : Type 0} (xs : List X) (y : X) (k : ℕ) (z : X) → slice_get (xs ++ y ∷ []) k ≡ Some z →
    (slice_get xs k ≡ Some z) ⊎ ((k ≡ length xs) × (y ≡ z))
read_of_pushed [] y zero z at = inr (refl, same_Some y z at)
read_of_pushed [] y (suc k) z at = absurd (none-some z at)
read_of_pushed (x ∷ xs) y zero z at = inl at
read_of_pushed (x ∷ xs) y (suc k) z at = elim (read_of_pushed xs y k z at) [
  | inl old ↦ inl old
  | inr last ↦ inr (ap suc last.0, last.1)
]

pub AllPairs-pushed : {X : Type 0} (R : X → X → Type 0) (xs : List X) (y : X) → AllPairs R xs →
    ((k : ℕ) (x : X) → slice_get xs k ≡ Some x → R x y) → AllPairs R (xs ++ y ∷ [])
AllPairs-pushed {X} R xs y pairs before = AllPairs-from_reads R (xs ++ y ∷ []) (λ i j x z less at_x at_z. of i j x z less (read_of_pushed xs y i x at_x) (read_of_pushed xs y j z at_z) at_z)
  where
    of : (i j : ℕ) (x z : X) → i < j → (slice_get xs i ≡ Some x) ⊎ ((i ≡ length xs) × (y ≡ x)) →
        (slice_get xs j ≡ Some z) ⊎ ((j ≡ length xs) × (y ≡ z)) → slice_get (xs ++ y ∷ []) j ≡ Some z → R x z
    of i j x z less (inl at_x) (inl at_z) within = AllPairs-reads R xs i j x z pairs less at_x at_z
    of i j x z less (inl at_x) (inr (last, is)) within = subst (R x) is (before i x at_x)
    of i j x z less (inr (last, is)) other within =
        absurd (omega (arith, slice_get_within (xs ++ y ∷ []) j z within, length-append xs (y ∷ [])))

-- reads of a list in which one element is written
pub read_written : {X : Type 0} (xs : List X) (k : ℕ) (x : X) → k < length xs → slice_get (set xs k x) k ≡ Some x
read_written [] k x h = absurd (omega arith)
read_written (y ∷ xs) zero x h = refl
read_written (y ∷ xs) (suc k) x h = read_written xs k x (omega arith)

pub read_unwritten : {X : Type 0} (xs : List X) (k j : ℕ) (x : X) → j ≢ k → slice_get (set xs k x) j ≡ slice_get xs j
read_unwritten [] k j x ne = refl
read_unwritten (y ∷ xs) zero zero x ne = absurd (ne refl)
read_unwritten (y ∷ xs) zero (suc j) x ne = refl
read_unwritten (y ∷ xs) (suc k) zero x ne = refl
read_unwritten (y ∷ xs) (suc k) (suc j) x ne = read_unwritten xs k j x (λ e. ne (ap suc e))

pub All-read : {X : Type 0} (P : X → Type 0) (xs : List X) (k : ℕ) (x : X) → All P xs → slice_get xs k ≡ Some x → P x
All-read P xs k x all at = All-contains P xs x all (Contains-from_read xs k x at)

pub All-from_reads : {X : Type 0} (P : X → Type 0) (xs : List X) → ((k : ℕ) (x : X) → slice_get xs k ≡ Some x → P x) → All P xs
All-from_reads P xs h k d within = h k (get_or xs k d) (slice_get-get_or xs k d within)

-- the elements from place f on to before place b
abbrev pub between : {X : Type 0} → ℕ → ℕ → List X → List X
between f b xs = take (b - f) (drop f xs)

pub length-between : {X : Type 0} (f b : ℕ) (xs : List X) → f ≤ b → b ≤ length xs → f + length (between f b xs) ≡ b
length-between f b xs p q = omega (arith, length-take (b - f) (drop f xs), length-drop f xs)

pub read-between : {X : Type 0} (f b k : ℕ) (xs : List X) → f + k < b → slice_get (between f b xs) k ≡ slice_get xs (f + k)
read-between f b k xs p = read-take (b - f) (drop f xs) k (omega arith) ∙ read-drop f xs k

-- and each read of a slice is one of the list
pub read_of_between : {X : Type 0} (f b k : ℕ) (x : X) (xs : List X) → f ≤ b → b ≤ length xs → slice_get (between f b xs) k ≡ Some x → (f + k < b) × (slice_get xs (f + k) ≡ Some x)
read_of_between f b k x xs p q at =
    let below : f + k < b = omega (arith, slice_get_within (between f b xs) k x at, length-between f b xs p q) in
    (below, sym (read-between f b k xs below) ∙ at)

pub AllPairs-between : {X : Type 0} (R : X → X → Type 0) (f b : ℕ) (xs : List X) → f ≤ b → b ≤ length xs → AllPairs R xs → AllPairs R (between f b xs)
AllPairs-between R f b xs p q pairs = AllPairs-from_reads R (between f b xs) (λ i j x y less at_x at_y.
    AllPairs-reads R xs (f + i) (f + j) x y pairs (omega arith) (read_of_between f b i x xs p q at_x).1 (read_of_between f b j y xs p q at_y).1)
