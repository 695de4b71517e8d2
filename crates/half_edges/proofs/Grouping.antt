-- The runs of a list: each place belongs to one, and one place more either goes on with the last run or begins one.
use Rattle.std.proofs.Common.{arith, ◌≡◌, ◌≢◌, ◌⊎◌, inl, inr, ℕ, ◌+◌, ◌-◌, ◌<◌, ◌≤◌, List, [], ◌∷◌, ◌++◌, length, length-append, sym, ap, subst, ◌∙◌}
use Rattle.std.specs.Prelude.{Some, slice_get, All, AllPairs, Contains, IfSome}
use Rattle.std.proofs.lemmas.Bool.{cases_order, cases_eq}
use Rattle.std.proofs.lemmas.Option.{slice_get_within}
use Rattle.std.proofs.lemmas.List.Elements.{All-push, All-weaker}
use Rattle.nest_base.specs.declared.places.Point.{Point}
use Rattle.nest_base.specs.Order.{IsMarkedBefore}
use Rattle.half_edges.specs.Runs.{IsInRun, AreAllRuns}
use Rattle.nest_base.proofs.ListReads.{read_below, one_read, AllPairs-reads, AllPairs-pushed, read_pushed, read_kept, read_of_pushed, All-read, read_from_Contains}
use Rattle.nest_base.proofs.Orders.{IsMarkedBefore-irrefl, IsMarkedBefore-trans}

-- the runs of the first n places, where `at` is the vertex of each place
pub record AreRuns (at : ℕ → Point) (n : ℕ) (vertices : List Point) (starts : List ℕ) : Type 0 where
  pub as_many : length starts ≡ length vertices
  pub few : length vertices ≤ n
  pub in_order : AllPairs IsMarkedBefore vertices
  pub rising : AllPairs (λ i j. i < j) starts
  pub begun : All (λ first. first < n) starts
  pub stands : (j : ℕ) → j < n → (v : ℕ) × IsInRun starts j v × (slice_get vertices v ≡ Some (at j))

-- no place belongs to an earlier run than another one to which it belongs
not_earlier : (starts : List ℕ) (j u v : ℕ) → AllPairs (λ i k. i < k) starts → IsInRun starts j u → IsInRun starts j v → u < v → ⊥
not_earlier starts j u v rising in_u in_v less =
    let next = read_below starts (u + 1) (omega (arith, slice_get_within starts v in_v.first in_v.begins)) in
    let before : j < next.0 = in_u.before_next next.0 next.1 in
    let later : next.0 ≤ in_v.first = of next.0 next.1 (cases_eq (u + 1) v) in
    omega (arith, in_v.not_before)
  where
    of : (behind : ℕ) → slice_get starts (u + 1) ≡ Some behind → (u + 1 ≡ v) ⊎ (u + 1 ≢ v) → behind ≤ in_v.first
    of behind at (inl same) =
        let one : behind ≡ in_v.first = one_read starts v behind in_v.first (ap (slice_get starts) (sym same) ∙ at) in_v.begins in omega arith
    of behind at (inr other) =
        let less : behind < in_v.first = AllPairs-reads (λ i k. i < k) starts (u + 1) v behind in_v.first rising (omega arith) at in_v.begins in omega arith

-- a place belongs to one run
pub one_run : (starts : List ℕ) (j u v : ℕ) → AllPairs (λ i k. i < k) starts → IsInRun starts j u → IsInRun starts j v → u ≡ v
one_run starts j u v rising in_u in_v = elim (cases_order u v) [
  | inl same ↦ same
  | inr (inl less) ↦ absurd (not_earlier starts j u v rising in_u in_v less)
  | inr (inr more) ↦ absurd (not_earlier starts j v u rising in_v in_u more)
]

-- the place where a run begins belongs to it
pub in_run_at_start : (starts : List ℕ) (v first : ℕ) → AllPairs (λ i k. i < k) starts → slice_get starts v ≡ Some first → IsInRun starts first v
in_run_at_start starts v first rising at = record {
  first = first;
  begins = at;
  not_before = omega arith;
  before_next = λ behind next. AllPairs-reads (λ i k. i < k) starts v (v + 1) first behind rising (omega arith) at next;
}

-- a run ends after its start
pub run_is_some : (starts : List ℕ) (v first behind : ℕ) → AllPairs (λ i k. i < k) starts → slice_get starts v ≡ Some first → slice_get starts (v + 1) ≡ Some behind → first < behind
run_is_some starts v first behind rising begins ends = AllPairs-reads (λ i k. i < k) starts v (v + 1) first behind rising (omega arith) begins ends

-- and the places between belong to it
pub in_run_between : (starts : List ℕ) (j v first behind : ℕ) → slice_get starts v ≡ Some first → slice_get starts (v + 1) ≡ Some behind → first ≤ j → j < behind → IsInRun starts j v
in_run_between starts j v first behind begins ends after before = record {
  first = first;
  begins = begins;
  not_before = after;
  before_next = λ next there. let same : behind ≡ next = one_read starts (v + 1) behind next ends there in omega arith;
}

-- the vertex of a run is that of the place where it begins
vertex_met : (at : ℕ → Point) (n : ℕ) (vertices : List Point) (starts : List ℕ) (v : ℕ) (p : Point) → AreRuns at n vertices starts →
    slice_get vertices v ≡ Some p → (j : ℕ) × (j < n) × (at j ≡ p)
vertex_met at n vertices starts v p runs is = of (read_below starts v (omega (arith, slice_get_within vertices v p is, runs.as_many)))
  where
    of : (first : ℕ) × (slice_get starts v ≡ Some first) → (j : ℕ) × (j < n) × (at j ≡ p)
    of (first, begins) =
        let below : first < n = All-read (λ k. k < n) starts v first runs.begun begins in
        let run = runs.stands first below in
        let same : run.0 ≡ v = one_run starts first run.0 v runs.rising run.1 (in_run_at_start starts v first runs.rising begins) in
        (first, below, one_read vertices v (at first) p (ap (slice_get vertices) (sym same) ∙ run.2) is)

-- one place more of the vertex of the last run
AreRuns-same : (at : ℕ → Point) (n v : ℕ) (vertices : List Point) (starts : List ℕ) → AreRuns at n vertices starts →
    v + 1 ≡ length vertices → slice_get vertices v ≡ Some (at n) → AreRuns at (n + 1) vertices starts
AreRuns-same at n v vertices starts runs last is = record {
  as_many = runs.as_many;
  few = omega (arith, runs.few);
  in_order = runs.in_order;
  rising = runs.rising;
  begun = All-weaker (λ k. k < n) (λ k. k < n + 1) (λ k below. omega arith) starts runs.begun;
  stands = λ j below. of j below (cases_eq j n);
}
  where
    here : (first : ℕ) × (slice_get starts v ≡ Some first) → IsInRun starts n v
    here (first, begins) =
        let below : first < n = All-read (λ k. k < n) starts v first runs.begun begins in
        record {
          first = first;
          begins = begins;
          not_before = omega arith;
          before_next = λ behind next. absurd (omega (arith, slice_get_within starts (v + 1) behind next, runs.as_many));
        }

    of : (j : ℕ) → j < n + 1 → (j ≡ n) ⊎ (j ≢ n) → (v : ℕ) × IsInRun starts j v × (slice_get vertices v ≡ Some (at j))
    of j below (inl now) =
        (v, subst (λ k. IsInRun starts k v) (sym now) (here (read_below starts v (omega (arith, runs.as_many)))), is ∙ ap (λ k. Some (at k)) (sym now))
    of j below (inr before) = runs.stands j (omega arith)

-- with one start more a place before it still belongs to its run
run_kept : (starts : List ℕ) (n j v : ℕ) → j < n → IsInRun starts j v → IsInRun (starts ++ n ∷ []) j v
run_kept starts n j v below run = record {
  first = run.first;
  begins = read_kept starts n v run.first run.begins;
  not_before = run.not_before;
  before_next = λ behind next. elim (read_of_pushed starts n (v + 1) behind next) [
    | inl old ↦ run.before_next behind old
    | inr new ↦ let is_n : n ≡ behind = new.1 in omega arith
  ];
}

rising_more : (at : ℕ → Point) (n : ℕ) (vertices : List Point) (starts : List ℕ) → AreRuns at n vertices starts → AllPairs (λ i j. i < j) (starts ++ n ∷ [])
rising_more at n vertices starts runs =
    AllPairs-pushed (λ i j. i < j) starts n runs.rising (λ k first begins. All-read (λ f. f < n) starts k first runs.begun begins)

-- so far the runs are those of places whose vertices come before a further one, and that of the last isn't it
module _ (at : ℕ → Point) (n : ℕ) (vertices : List Point) (starts : List ℕ) (runs : AreRuns at n vertices starts)
    (not_after : (j : ℕ) → j < n → IsMarkedBefore (at j) (at n) ⊎ (at j ≡ at n))
    (is_new : (v : ℕ) (q : Point) → v + 1 ≡ length vertices → slice_get vertices v ≡ Some q → q ≢ at n) where
  last_before : (v : ℕ) (q : Point) → v + 1 ≡ length vertices → slice_get vertices v ≡ Some q → IsMarkedBefore q (at n)
  last_before v q last is = of (vertex_met at n vertices starts v q runs is)
    where
      of : (j : ℕ) × (j < n) × (at j ≡ q) → IsMarkedBefore q (at n)
      of (j, below, same) = elim (not_after j below) [
        | inl before ↦ subst (λ p. IsMarkedBefore p (at n)) same before
        | inr equal ↦ absurd (is_new v q last is (sym same ∙ equal))
      ]

  each_before : (v : ℕ) (q : Point) → slice_get vertices v ≡ Some q → IsMarkedBefore q (at n)
  each_before v q is = of (cases_eq (v + 1) (length vertices)) (read_below vertices (length vertices - 1) (omega (arith, slice_get_within vertices v q is)))
    where
      of : (v + 1 ≡ length vertices) ⊎ (v + 1 ≢ length vertices) → (p : Point) × (slice_get vertices (length vertices - 1) ≡ Some p) → IsMarkedBefore q (at n)
      of (inl last) found = last_before v q last is
      of (inr other) (p, found) =
          IsMarkedBefore-trans q p (at n)
          (AllPairs-reads IsMarkedBefore vertices v (length vertices - 1) q p runs.in_order (omega (arith, slice_get_within vertices v q is)) is found)
          (last_before (length vertices - 1) p (omega (arith, slice_get_within vertices v q is)) found)

  new_run : IsInRun (starts ++ n ∷ []) n (length vertices)
  new_run = record {
    first = n;
    begins = ap (slice_get (starts ++ n ∷ [])) (sym runs.as_many) ∙ read_pushed starts n;
    not_before = omega arith;
    before_next = λ behind next.
        absurd (omega (arith, runs.as_many, length-append starts (n ∷ []), slice_get_within (starts ++ n ∷ []) (length vertices + 1) behind next));
  }

  -- one place more that begins a run
  AreRuns-more : AreRuns at (n + 1) (vertices ++ at n ∷ []) (starts ++ n ∷ [])
  AreRuns-more = record {
    as_many = omega (arith, runs.as_many, length-append starts (n ∷ []), length-append vertices (at n ∷ []));
    few = omega (arith, runs.few, length-append vertices (at n ∷ []));
    in_order = AllPairs-pushed IsMarkedBefore vertices (at n) runs.in_order each_before;
    rising = rising_more at n vertices starts runs;
    begun = All-push (λ k. k < n + 1) starts n (All-weaker (λ k. k < n) (λ k. k < n + 1) (λ k below. omega arith) starts runs.begun) (omega arith);
    stands = λ j below. of j below (cases_eq j n);
  }
    where
      of : (j : ℕ) → j < n + 1 → (j ≡ n) ⊎ (j ≢ n) →
          (v : ℕ) × IsInRun (starts ++ n ∷ []) j v × (slice_get (vertices ++ at n ∷ []) v ≡ Some (at j))
      of j below (inl now) = (
        length vertices,
        subst (λ k. IsInRun (starts ++ n ∷ []) k (length vertices)) (sym now) new_run,
        read_pushed vertices (at n) ∙ ap (λ k. Some (at k)) (sym now),
      )
      of j below (inr before) =
          let old = runs.stands j (omega arith) in
          (old.0, run_kept starts n j old.0 (omega arith) old.1, read_kept vertices (at n) old.0 (at j) old.2)

-- behind the last run all end
pub AreAllRuns-from : (at : ℕ → Point) (n : ℕ) (vertices : List Point) (starts : List ℕ) → AreRuns at n vertices starts → AreAllRuns at n vertices (starts ++ n ∷ [])
AreAllRuns-from at n vertices starts runs = record {
  one_more = omega (arith, runs.as_many, length-append starts (n ∷ []));
  few = runs.few;
  in_order = runs.in_order;
  rising = rising_more at n vertices starts runs;
  ends = ap (slice_get (starts ++ n ∷ [])) (sym runs.as_many) ∙ read_pushed starts n;
  stands = λ j below. let old = runs.stands j below in (old.0, run_kept starts n j old.0 below old.1, old.2);
}

-- a step of the search for runs: the place n has the vertex p, which is the last one met, or is new
pub AreRuns-goes_on : (at : ℕ → Point) (n : ℕ) (p : Point) (met vertices : List Point) (starts : List ℕ) → p ≡ at n → met ≡ vertices → AreRuns at n vertices starts →
    IfSome (slice_get met (length met - 1)) (λ q. q ≡ p) × (0 < length met) → AreRuns at (n + 1) vertices starts
AreRuns-goes_on at n p met vertices starts is_p same runs last = of (read_below vertices (length vertices - 1) (omega (arith, ap length same, last.1)))
  where
    of : (q : Point) × (slice_get vertices (length vertices - 1) ≡ Some q) → AreRuns at (n + 1) vertices starts
    of (q, found) =
        let is_last : IfSome (slice_get vertices (length vertices - 1)) (λ r. r ≡ p) =
        subst (λ (l : List Point). IfSome (slice_get l (length l - 1)) (λ r. r ≡ p)) same last.0 in
        let q_is : q ≡ p = rw found at is_last in
        AreRuns-same at n (length vertices - 1) vertices starts runs (omega (arith, ap length same, last.1)) (found ∙ ap Some (q_is ∙ is_p))

-- one that differs from the last one is none of those met
last_differs : (p q : Point) (met vertices : List Point) (v : ℕ) → met ≡ vertices → IfSome (slice_get met (length met - 1)) (λ r. r ≢ p) → v + 1 ≡ length vertices → slice_get vertices v ≡ Some q → q ≢ p
last_differs p q met vertices v same other last is =
    let back : length met - 1 ≡ v = omega (arith, ap length same) in
    let found : slice_get met (length met - 1) ≡ Some q = ap (slice_get met) back ∙ ap (λ (l : List Point). slice_get l v) same ∙ is in
    rw found at other

module _ (at : ℕ → Point) (n : ℕ) (p : Point) (met vertices : List Point) (starts : List ℕ) (is_p : p ≡ at n) (same : met ≡ vertices) (runs : AreRuns at n vertices starts)
    (not_after : (j : ℕ) → j < n → IsMarkedBefore (at j) (at n) ⊎ (at j ≡ at n)) (other : IfSome (slice_get met (length met - 1)) (λ q. q ≢ p)) where
  new : (v : ℕ) (q : Point) → v + 1 ≡ length vertices → slice_get vertices v ≡ Some q → q ≢ at n
  new v q last is e = last_differs p q met vertices v same other last is (e ∙ sym is_p)

  pub AreRuns-begins : AreRuns at (n + 1) (vertices ++ p ∷ []) (starts ++ n ∷ [])
  AreRuns-begins = subst (λ q. AreRuns at (n + 1) (vertices ++ q ∷ []) (starts ++ n ∷ [])) (sym is_p) (AreRuns-more at n vertices starts runs not_after new)

  pub begins_anew : Contains vertices p → ⊥
  begins_anew there =
      let v = read_from_Contains vertices p there in
      IsMarkedBefore-irrefl p (at n) (each_before at n vertices starts runs not_after new v.0 p v.1) is_p
