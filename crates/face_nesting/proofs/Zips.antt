-- Lists that go together, read place by place.
use Rattle.std.proofs.Common.{◌≡◌, ℕ, zero, suc, List, [], ◌∷◌, refl, subst}
use Rattle.std.specs.Prelude.{Some, slice_get}
use Rattle.std.specs.List.{AllZip}
use Rattle.std.proofs.lemmas.Option.{none-some, same_Some}

-- what stands in the first list where the second has y
pub zip_first : {X Y : Type 0} (R : X → Y → Type 0) (xs : List X) (ys : List Y) (k : ℕ) (y : Y) → AllZip R xs ys → slice_get ys k ≡ Some y →
    (x : X) × (slice_get xs k ≡ Some x) × R x y
zip_first R xs [] k y zip at = absurd (none-some y at)
zip_first R [] (y ∷ ys) k z zip at = absurd zip
zip_first R (x ∷ xs) (y ∷ ys) zero z zip at = (x, refl, subst (R x) (same_Some y z at) zip.0)
zip_first R (x ∷ xs) (y ∷ ys) (suc k) z zip at = zip_first R xs ys k z zip.1 at

-- and in the second where the first has x
pub zip_second : {X Y : Type 0} (R : X → Y → Type 0) (xs : List X) (ys : List Y) (k : ℕ) (x : X) → AllZip R xs ys → slice_get xs k ≡ Some x →
    (y : Y) × (slice_get ys k ≡ Some y) × R x y
zip_second R [] ys k x zip at = absurd (none-some x at)
zip_second R (x ∷ xs) [] k z zip at = absurd zip
zip_second R (x ∷ xs) (y ∷ ys) zero z zip at = (y, refl, subst (λ a. R a y) (same_Some x z at) zip.0)
zip_second R (x ∷ xs) (y ∷ ys) (suc k) z zip at = zip_second R xs ys k z zip.1 at
