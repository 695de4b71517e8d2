-- Lists without repeats are no longer than lists that hold images of their elements, or numbers below a bound.
use Rattle.std.proofs.Common.{arith, ◌≡◌, ◌≢◌, ◌≤◌, ◌<◌, ℕ, List, length, map, subst}
use Rattle.std.specs.Prelude.{Contains, All, AllPairs}
use Rattle.std.specs.List.{range_with_len}
use Rattle.std.proofs.lemmas.List.{length-map}
use Rattle.std.proofs.lemmas.List.FromFn.{length-range_with_len, get_or-range_with_len}
use Rattle.std.proofs.lemmas.List.Elements.{All-contains}
use Rattle.nest_base.proofs.Fewer.{fewer}
use Rattle.plate_edges.proofs.Lists.{AllPairs-map, origin_in}
use Rattle.nest_base.proofs.ListReads.{Contains-from_read, AllPairs-reads, AllPairs-from_reads}

-- where elements are told apart by what a map makes of them
pub fewer-map : {X Y : Type 0} (f : X → Y) (xs : List X) (ys : List Y) → AllPairs (λ x y. x ≢ y) xs →
    ((x y : X) → Contains xs x → Contains xs y → f x ≡ f y → x ≡ y) → ((x : X) → Contains xs x → Contains ys (f x)) → length xs ≤ length ys
fewer-map {X} {Y} f xs ys apart one held =
    let images : AllPairs (λ (a b : Y). a ≢ b) (map f xs) = AllPairs-map (λ (a b : Y). a ≢ b) f xs
    (AllPairs-from_reads (λ x y. f x ≢ f y) xs
    (λ i j x y less at_x at_y same. AllPairs-reads (λ a b. a ≢ b) xs i j x y apart less at_x at_y (one x y (Contains-from_read xs i x at_x) (Contains-from_read xs j y at_y) same))) in
    let kept : (y : Y) → Contains (map f xs) y → Contains ys y = λ y c. let x = origin_in f xs y c in subst (Contains ys) x.2 (held x.0 x.1) in
    omega (arith, fewer (map f xs) ys images kept, length-map xs f)

-- lists without repeats of numbers below n are no longer than n
pub few_below : (n : ℕ) (xs : List ℕ) → All (λ x. x < n) xs → AllPairs (λ x y. x ≢ y) xs → length xs ≤ n
few_below n xs below once =
    let long = length-range_with_len 0 n in
    let less = All-contains (λ y. y < n) xs in
    omega (arith, long, fewer xs (range_with_len 0 n) once (λ x stands. (x, omega (arith, less x below stands, long), omega (arith, get_or-range_with_len 0 n x x (less x below stands)))))
