-- What holds of each burning order.
use Rattle.std.specs.Prelude.{◌≡◌, ◌≢◌, ℕ, ◌<◌, List, Option, length, All, AllPairs}
use Rattle.plate_nesting.specs.Order.{IsBurningOrder}

-- no component burns twice
abbrev pub EachIsBurntOnce : Type 0
EachIsBurntOnce = (parents : List (Option ℕ)) (order : List ℕ) → IsBurningOrder parents order → AllPairs (λ c d. c ≢ d) order

-- nothing burns that isn't a component
abbrev pub EachIsWithin : Type 0
EachIsWithin = (parents : List (Option ℕ)) (order : List ℕ) → IsBurningOrder parents order → All (λ c. c < length parents) order

-- components burn in one order alone
abbrev pub OrderIsOne : Type 0
OrderIsOne = (parents : List (Option ℕ)) (xs ys : List ℕ) → IsBurningOrder parents xs → IsBurningOrder parents ys → xs ≡ ys
