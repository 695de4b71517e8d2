-- What holds of the numbers of the things in a list, said of the things.
use Rattle.std.proofs.Common.{List, map}
use Rattle.std.specs.Prelude.{All, AllPairs}
use Rattle.nest_base.proofs.ListReads.{read-map, All-read, All-from_reads, AllPairs-reads, AllPairs-from_reads}

pub All-from_map : {X Y : Type 0} (P : Y → Type 0) (f : X → Y) (xs : List X) → All P (map f xs) → All (λ x. P (f x)) xs
All-from_map P f xs all = All-from_reads (λ x. P (f x)) xs (λ k x at. All-read P (map f xs) k (f x) all (read-map f xs k x at))

pub AllPairs-from_map : {X Y : Type 0} (R : Y → Y → Type 0) (f : X → Y) (xs : List X) → AllPairs R (map f xs) → AllPairs (λ x y. R (f x) (f y)) xs
AllPairs-from_map R f xs pairs =
    AllPairs-from_reads (λ x y. R (f x) (f y)) xs
    (λ i j x y less at_x at_y. AllPairs-reads R (map f xs) i j (f x) (f y) pairs less (read-map f xs i x at_x) (read-map f xs j y at_y))
