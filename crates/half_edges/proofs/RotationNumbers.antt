-- The numbers written for the half-edges of a rotation, one after another, and rotation after rotation.
use Rattle.std.proofs.Common.{arith, ◌≡◌, ◌≢◌, ◌⊎◌, inl, inr, ℕ, ◌+◌, ◌-◌, ◌<◌, ◌≤◌, List, length, set, length-set, refl, sym, ap, subst, ◌∙◌}
use Rattle.std.specs.Prelude.{Some, slice_get, AllPairs}
use Rattle.std.proofs.lemmas.Bool.{cases_eq, cases_order}
use Rattle.std.proofs.lemmas.Option.{slice_get_within}
use Rattle.nest_base.specs.declared.numbers.Side.{Side}
use Rattle.nest_base.specs.declared.numbers.VertexId.{VertexId}
use Rattle.half_edges.specs.Runs.{IsInRun, NumbersRotation}
use Rattle.nest_base.proofs.ListReads.{one_read, AllPairs-reads, read_written, read_unwritten, between, read-between, read_of_between}
use Rattle.half_edges.proofs.Grouping.{one_run, run_is_some, in_run_between}

-- each half-edge of the first n runs has the number of its run as its origin, and its place there as its position
pub record AreNumbered (all : List Side) (starts : List ℕ) (n : ℕ) (origins : List VertexId) (positions : List ℕ) : Type 0 where
  pub origin_of : (j v : ℕ) (s : Side) → v < n → slice_get all j ≡ Some s → IsInRun starts j v → slice_get origins s.0 ≡ Some (record { 0 = v })
  pub position_of : (j v : ℕ) (s : Side) → v < n → slice_get all j ≡ Some s → (run : IsInRun starts j v) → slice_get positions s.0 ≡ Some (j - run.first)

pub NumbersRotation-none : {X : Type 0} (value : ℕ → X) (rotation : List Side) (xs : List X) → NumbersRotation value rotation 0 xs xs
NumbersRotation-none value rotation xs = record {
  as_long = refl;
  written = λ k s below at. absurd (omega arith);
  kept = λ t others. refl;
}

-- one more is written, for a half-edge that is none of those before
pub NumbersRotation-more : {X : Type 0} (value : ℕ → X) (rotation : List Side) (n : ℕ) (s : Side) (old new : List X) → AllPairs (λ a b. a.0 ≢ b.0) rotation →
    slice_get rotation n ≡ Some s → s.0 < length old → NumbersRotation value rotation n old new → NumbersRotation value rotation (n + 1) old (set new s.0 (value n))
NumbersRotation-more {X} value rotation n s old new apart here within so_far = record {
  as_long = omega (arith, length-set new s.0 (value n), so_far.as_long);
  written = λ k t below at. of k t below at (cases_eq k n);
  kept = λ t others. read_unwritten new s.0 t (value n) (λ e. others n s (omega arith) here (sym e)) ∙ so_far.kept t (λ k r below at. others k r (omega arith) at);
}
  where
    of : (k : ℕ) (t : Side) → k < n + 1 → slice_get rotation k ≡ Some t → (k ≡ n) ⊎ (k ≢ n) → slice_get (set new s.0 (value n)) t.0 ≡ Some (value k)
    of k t below at (inl last) =
        let same : s ≡ t = one_read rotation n s t here (ap (slice_get rotation) (sym last) ∙ at) in
        ap (λ (r : Side). slice_get (set new s.0 (value n)) r.0) (sym same) ∙ read_written new s.0 (value n) (omega (arith, so_far.as_long)) ∙ ap (λ m. Some (value m)) (sym last)
    of k t below at (inr before) =
        read_unwritten new s.0 t.0 (value n) (AllPairs-reads (λ a b. a.0 ≢ b.0) rotation k n t s apart (omega arith) at here) ∙ so_far.written k t (omega arith) at

module _ (all : List Side) (starts : List ℕ) (apart : AllPairs (λ (s : Side) (t : Side). s.0 ≢ t.0) all) (rising : AllPairs (λ i j. i < j) starts)
    (v first behind : ℕ) (begins : slice_get starts v ≡ Some first) (ends : slice_get starts (v + 1) ≡ Some behind) (within : behind ≤ length all) where
  not_turned : first ≤ behind
  not_turned = let less = run_is_some starts v first behind rising begins ends in omega arith

  -- what stands at a place of the run stands in its rotation
  in_rotation : (j : ℕ) (s : Side) → slice_get all j ≡ Some s → IsInRun starts j v → (k : ℕ) × (first + k ≡ j) × (slice_get (between first behind all) k ≡ Some s)
  in_rotation j s at run =
      let same : run.first ≡ first = one_read starts v run.first first run.begins begins in
      let before : j < behind = run.before_next behind ends in
      let sum : first + (j - first) ≡ j = omega (arith, run.not_before) in
      (j - first, sum, read-between first behind (j - first) all (omega arith) ∙ ap (slice_get all) sum ∙ at)

  -- what stands at a place of another run doesn't
  not_in_rotation : (j u : ℕ) (s : Side) → u ≢ v → slice_get all j ≡ Some s → IsInRun starts j u →
      (k : ℕ) (t : Side) → slice_get (between first behind all) k ≡ Some t → t.0 ≢ s.0
  not_in_rotation j u s other at run k t there same =
      let found = read_of_between first behind k t all not_turned within there in
      elim (cases_order (first + k) j) [
        | inl one ↦ other (one_run starts j u v rising run (subst (λ m. IsInRun starts m v) one (in_run_between starts (first + k) v first behind begins ends (omega arith) found.0)))
        | inr (inl less) ↦ AllPairs-reads (λ (a : Side) (b : Side). a.0 ≢ b.0) all (first + k) j t s apart less found.1 at same
        | inr (inr more) ↦ AllPairs-reads (λ (a : Side) (b : Side). a.0 ≢ b.0) all j (first + k) s t apart more at found.1 (sym same)
      ]

  -- the rotation of one run more is numbered
  pub AreNumbered-more : (origins new_origins : List VertexId) (positions new_positions : List ℕ) → AreNumbered all starts v origins positions →
      NumbersRotation (λ k. record { 0 = v }) (between first behind all) (length (between first behind all)) origins new_origins →
      NumbersRotation (λ k. k) (between first behind all) (length (between first behind all)) positions new_positions →
      AreNumbered all starts (v + 1) new_origins new_positions
  AreNumbered-more origins new_origins positions new_positions so_far with_origins with_positions = record {
    origin_of = λ j u s below at run. origin j u s below at run (cases_eq u v);
    position_of = λ j u s below at run. position j u s below at run (cases_eq u v);
  }
    where
      origin : (j u : ℕ) (s : Side) → u < v + 1 → slice_get all j ≡ Some s → IsInRun starts j u → (u ≡ v) ⊎ (u ≢ v) → slice_get new_origins s.0 ≡ Some (record { 0 = u })
      origin j u s below at run (inl now) =
          let here = in_rotation j s at (subst (IsInRun starts j) now run) in
          with_origins.written here.0 s (slice_get_within (between first behind all) here.0 s here.2) here.2 ∙ ap (λ m. Some (record { 0 = m })) (sym now)
      origin j u s below at run (inr other) =
          with_origins.kept s.0 (λ k t less there. not_in_rotation j u s other at run k t there) ∙ so_far.origin_of j u s (omega arith) at run

      position : (j u : ℕ) (s : Side) → u < v + 1 → slice_get all j ≡ Some s → (run : IsInRun starts j u) → (u ≡ v) ⊎ (u ≢ v) → slice_get new_positions s.0 ≡ Some (j - run.first)
      position j u s below at run (inl now) =
          let here = in_rotation j s at (subst (IsInRun starts j) now run) in
          let same : run.first ≡ first = one_read starts v run.first first (ap (slice_get starts) (sym now) ∙ run.begins) begins in
          let steps : here.0 ≡ j - run.first = omega (arith, here.1) in
          with_positions.written here.0 s (slice_get_within (between first behind all) here.0 s here.2) here.2 ∙ ap Some steps
      position j u s below at run (inr other) =
          with_positions.kept s.0 (λ k t less there. not_in_rotation j u s other at run k t there) ∙ so_far.position_of j u s (omega arith) at run
