-- Lists that go together, element by element.
use Rattle.std.proofs.Common.{◌≡◌, inl, inr, ℕ, List, [], ◌∷◌, subst, subst₂}
use Rattle.std.specs.Prelude.{Contains, Some, slice_get, MatchOption, IsSomeAnd}
use Rattle.std.specs.List.{AllZip}
use Rattle.std.proofs.lemmas.Slice.Zip.{AllZip-left}
use Rattle.nest_base.proofs.Lists.{Contains-head, Contains-later, Contains-cases, Contains-none}

-- what holds of each pair
pub AllZip-weaker : {X Y : Type 0} (R S : X → Y → Type 0) (xs : List X) (ys : List Y) → ((x : X) (y : Y) → Contains xs x → R x y → S x y) →
    AllZip R xs ys → AllZip S xs ys
AllZip-weaker R S [] [] f zip = zip
AllZip-weaker R S [] (y ∷ ys) f zip = absurd zip
AllZip-weaker R S (x ∷ xs) [] f zip = absurd zip
AllZip-weaker R S (x ∷ xs) (y ∷ ys) f zip =
    (f x y (Contains-head x xs) zip.0, AllZip-weaker R S xs ys (λ z w c. f z w (Contains-later x z xs c)) zip.1)

-- an element of the first list goes with one of the second
pub goes_with : {X Y : Type 0} (R : X → Y → Type 0) (xs : List X) (ys : List Y) → AllZip R xs ys → (x : X) → Contains xs x → (y : Y) × R x y
goes_with R [] ys zip x c = absurd (Contains-none x c)
goes_with R (z ∷ xs) [] zip x c = absurd zip
goes_with R (z ∷ xs) (y ∷ ys) zip x c = elim (Contains-cases z x xs c) [
  | inl e ↦ (y, subst (λ w. R w y) e zip.0)
  | inr m ↦ goes_with R xs ys zip.1 x m
]

-- elements at one place go together
pub go_together : {X Y : Type 0} (R : X → Y → Type 0) (xs : List X) (ys : List Y) → AllZip R xs ys → (k : ℕ) (x : X) (y : Y) →
    slice_get xs k ≡ Some x → slice_get ys k ≡ Some y → R x y
go_together R xs ys zip k x y at_x at_y =
    subst₂ (λ a b. MatchOption a (Unit {0}) (λ z. IsSomeAnd b (R z))) at_x at_y (AllZip-left R xs ys zip k)
