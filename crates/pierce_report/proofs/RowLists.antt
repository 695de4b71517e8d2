-- Rows in the order of components.
use Rattle.std.proofs.Common.{arith, ◌≡◌, ℕ, ◌+◌, List, [], ◌∷◌, ◌++◌, length, map, take, refl, sym, ap, subst, ◌∙◌}
use Rattle.std.specs.Prelude.{Some, slice_get, sum}
use Rattle.std.specs.List.{AllZip}
use Rattle.std.proofs.lemmas.List.{map_push}
use Rattle.std.proofs.lemmas.List.Sums.{sum_by_push}
use Rattle.nest_base.proofs.ListReads.{one_read}
use Rattle.face_nesting.proofs.Prefixes.{take_read}
use Rattle.face_nesting.proofs.Zips.{zip_second}
use Rattle.pierce_report.specs.declared.rows.Numbers.{Numbers}
use Rattle.pierce_report.specs.Report.{Row, total_bound}
use Rattle.pierce_report.specs.Rows.{row_of, rows_of}

pub length_zip : {X Y : Type 0} (R : X → Y → Type 0) (xs : List X) (ys : List Y) → AllZip R xs ys → length ys ≡ length xs
length_zip R [] [] zip = refl
length_zip R [] (y ∷ ys) zip = absurd zip
length_zip R (x ∷ xs) [] zip = absurd zip
length_zip R (x ∷ xs) (y ∷ ys) zip = omega (arith, length_zip R xs ys zip.1)

-- what goes with the thing at a place
pub zip_read : {X Y : Type 0} (R : X → Y → Type 0) (xs : List X) (ys : List Y) (k : ℕ) (x : X) (y : Y) → AllZip R xs ys → slice_get xs k ≡ Some x → slice_get ys k ≡ Some y → R x y
zip_read R xs ys k x y zip at_x at_y =
    let found = zip_second R xs ys k x zip at_x in
    subst (R x) (one_read ys k found.0 y found.1 at_y) found.2

pub bound_more : (numbers : List Numbers) (k : ℕ) (n : Numbers) → slice_get numbers k ≡ Some n →
    total_bound (rows_of (take (k + 1) numbers)) ≡ total_bound (rows_of (take k numbers)) + n.bound
bound_more numbers k n at =
    let bound : Row → ℕ = λ r. r.bound in
    let first = take k numbers in
    let rows : rows_of (take (k + 1) numbers) ≡ rows_of first ++ row_of n ∷ [] = ap rows_of (take_read numbers k n at) ∙ map_push row_of first n in
    let bounds : map bound (rows_of (take (k + 1) numbers)) ≡ map bound (rows_of first) ++ n.bound ∷ [] = ap (map bound) rows ∙ map_push bound (rows_of first) (row_of n) in
    ap sum bounds ∙ sum_by_push (λ (b : ℕ). b) (map bound (rows_of first)) n.bound

pub pierces_are : (numbers : List Numbers) → map (λ (r : Row). r.pierces) (rows_of numbers) ≡ map (λ (n : Numbers). n.pierces) numbers
pierces_are [] = refl
pierces_are (n ∷ numbers) = ap (λ l. n.pierces ∷ l) (pierces_are numbers)

-- rows that say so much, each with its pierces
pub with_pierces : {X : Type 0} (R : X → Row → Type 0) (S : X → ℕ → Type 0) (xs : List X) (numbers : List Numbers) (counts : List ℕ) →
    AllZip (λ x (n : Numbers). R x (row_of n)) xs numbers → AllZip S xs counts → map (λ (n : Numbers). n.pierces) numbers ≡ counts →
    AllZip (λ x (r : Row). R x r × S x r.pierces) xs (rows_of numbers)
with_pierces {X} R S xs numbers counts rows pierces same = of xs numbers rows (subst (AllZip S xs) (sym same) pierces)
  where
    of : (xs : List X) (numbers : List Numbers) → AllZip (λ x (n : Numbers). R x (row_of n)) xs numbers → AllZip S xs (map (λ (n : Numbers). n.pierces) numbers) →
        AllZip (λ x (r : Row). R x r × S x r.pierces) xs (rows_of numbers)
    of [] [] rows pierces = tt
    of [] (n ∷ numbers) rows pierces = absurd rows
    of (x ∷ xs) [] rows pierces = absurd rows
    of (x ∷ xs) (n ∷ numbers) rows pierces = ((rows.0, pierces.0), of xs numbers rows.1 pierces.1)
