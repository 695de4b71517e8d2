-- Counts by number in a list, as things are counted one by one.
use Rattle.std.proofs.Common.{arith, ◌≡◌, ◌≢◌, inl, inr, ℕ, zero, suc, ◌+◌, ◌<◌, cond, List, [], ◌∷◌, length, set, replicate, get_or, refl, sym, ap, subst, ◌∙◌}
use Rattle.std.specs.Prelude.{Some, slice_get, sum}
use Rattle.std.specs.List.{AllZip}
use Rattle.std.proofs.lemmas.Bool.{cases_eq, eq-eqb, ne_eqb}
use Rattle.std.proofs.lemmas.List.{length-set}
use Rattle.std.proofs.lemmas.List.Sums.{sum_by-set, sum_by-cons}
use Rattle.std.proofs.lemmas.Option.{same_Some, slice_get_within, slice_get_read, get_or_from_slice_get}
use Rattle.rotation_systems.specs.RotationSystem.{total}
use Rattle.nest_base.proofs.ListReads.{read_written, read_unwritten}
use Rattle.pierce_bound.proofs.Tallies.{counted_for, total_more}

-- the counts of m numbers, by the first n things
pub record AreTallied (place weight : ℕ → ℕ) (m n : ℕ) (counts : List ℕ) : Type 0 where
  pub as_many : length counts ≡ m
  pub told : (c : ℕ) → c < m → slice_get counts c ≡ Some (total (counted_for place weight c) n)
  pub in_all : sum counts ≡ total weight n

elsewhere : (place weight : ℕ → ℕ) (c k : ℕ) → c ≢ place k → counted_for place weight c k ≡ 0
elsewhere place weight c k other = ap (λ b. cond b (weight k) 0) (ne_eqb (place k) c (λ e. other (sym e)))

there : (place weight : ℕ → ℕ) (k : ℕ) → counted_for place weight (place k) k ≡ weight k
there place weight k = ap (λ b. cond b (weight k) 0) (eq-eqb (place k) (place k) refl)

-- the number that was read of c is its count
pub count_read : (place weight : ℕ → ℕ) (m n : ℕ) (counts : List ℕ) (c old : ℕ) → AreTallied place weight m n counts → c < m → old ≡ get_or counts c old →
    (slice_get counts c ≡ Some old) × (old ≡ total (counted_for place weight c) n)
count_read place weight m n counts c old are within is =
    let at : slice_get counts c ≡ Some old = slice_get_read counts (length counts) c old refl (omega (arith, within, are.as_many)) is in
    (at, same_Some old (total (counted_for place weight c) n) (sym at ∙ are.told c within))

module _ (place weight : ℕ → ℕ) (m n old : ℕ) (counts : List ℕ) (are : AreTallied place weight m n counts) (below : place n < m) (at : slice_get counts (place n) ≡ Some old) where
  its_own : slice_get (set counts (place n) (old + weight n)) (place n) ≡ Some (total (counted_for place weight (place n)) (n + 1))
  its_own =
      let f = counted_for place weight (place n) in
      let so_far : old ≡ total f n = same_Some old (total f n) (sym at ∙ are.told (place n) below) in
      let is : old + weight n ≡ total f (n + 1) = omega (arith, so_far, total_more f n, there place weight n) in
      read_written counts (place n) (old + weight n) (omega (arith, below, are.as_many)) ∙ ap Some is

  others : (c : ℕ) → c < m → c ≢ place n → slice_get (set counts (place n) (old + weight n)) c ≡ Some (total (counted_for place weight c) (n + 1))
  others c within other =
      let f = counted_for place weight c in
      let is : total f n ≡ total f (n + 1) = omega (arith, total_more f n, elsewhere place weight c n other) in
      read_unwritten counts (place n) c (old + weight n) other ∙ are.told c within ∙ ap Some is

  sum_more : sum (set counts (place n) (old + weight n)) ≡ total weight (n + 1)
  sum_more =
      let written = sum_by-set (λ (k : ℕ). k) counts (place n) (old + weight n) 0 (omega (arith, below, are.as_many)) in
      omega (arith, written, get_or_from_slice_get counts (place n) old 0 at, are.in_all, total_more weight n)

  -- one thing more
  pub one_more : AreTallied place weight m (n + 1) (set counts (place n) (old + weight n))
  one_more = record {
    as_many = length-set counts (place n) (old + weight n) ∙ are.as_many;
    told = λ c within. elim (cases_eq c (place n)) [
      | inl is ↦ subst (λ d. slice_get (set counts (place n) (old + weight n)) d ≡ Some (total (counted_for place weight d) (n + 1))) (sym is) its_own
      | inr other ↦ others c within other
    ];
    in_all = sum_more;
  }

length-none : (k : ℕ) → length (replicate {A = ℕ} k 0) ≡ k
length-none zero = refl
length-none (suc k) = omega (arith, length-none k)

read_none : (k c : ℕ) → c < k → slice_get (replicate {A = ℕ} k 0) c ≡ Some 0
read_none zero c below = absurd (omega arith)
read_none (suc k) zero below = refl
read_none (suc k) (suc c) below = read_none k c (omega arith)

sum-none : (k : ℕ) → sum (replicate {A = ℕ} k 0) ≡ 0
sum-none zero = refl
sum-none (suc k) = omega (arith, sum_by-cons (λ (n : ℕ). n) 0 (replicate k 0), sum-none k)

-- nothing is counted at first
pub none_tallied : (place weight : ℕ → ℕ) (m : ℕ) (counts : List ℕ) → counts ≡ replicate m 0 → AreTallied place weight m 0 counts
none_tallied place weight m counts is = rw is (record {
  as_many = length-none m;
  told = λ c within. read_none m c within;
  in_all = sum-none m;
})

AllZip-from_reads : {X Y : Type 0} (R : X → Y → Type 0) (xs : List X) (ys : List Y) → length ys ≡ length xs →
    ((k : ℕ) (x : X) → slice_get xs k ≡ Some x → (y : Y) × (slice_get ys k ≡ Some y) × R x y) → AllZip R xs ys
AllZip-from_reads R [] [] as_many told = tt
AllZip-from_reads R [] (y ∷ ys) as_many told = absurd (omega (arith, as_many))
AllZip-from_reads R (x ∷ xs) [] as_many told = absurd (omega (arith, as_many))
AllZip-from_reads R (x ∷ xs) (y ∷ ys) as_many told =
    let first = told 0 x refl in
    (subst (R x) (sym (same_Some y first.0 first.1)) first.2, AllZip-from_reads R xs ys (omega (arith, as_many)) (λ k z at. told (suc k) z at))

-- what holds of each count
pub all_tallied : {X : Type 0} (R : X → ℕ → Type 0) (place weight : ℕ → ℕ) (n : ℕ) (xs : List X) (counts : List ℕ) → AreTallied place weight (length xs) n counts →
    ((c : ℕ) (x : X) → slice_get xs c ≡ Some x → R x (total (counted_for place weight c) n)) → AllZip R xs counts
all_tallied R place weight n xs counts are holds = AllZip-from_reads R xs counts are.as_many (λ c x at.
    (total (counted_for place weight c) n, are.told c (slice_get_within xs c x at), holds c x at))
