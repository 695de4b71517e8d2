-- The first half-edge that leaves an odd vertex, when one more half-edge is looked at.
use Rattle.std.proofs.Common.{arith, ◌≡◌, inl, inr, ℕ, ◌<◌, ◌≤◌, List, [], ◌∷◌, ◌++◌, length, sym, subst}
use Rattle.std.specs.Prelude.{◌↔◌, Bool, false, Contains, IfNone, IfSome, IsTrue, Option, None, Some}
use Rattle.std.proofs.lemmas.Bool.{cases_lt}
use Rattle.std.proofs.lemmas.Option.{slice_get_within}
use Rattle.std.proofs.lemmas.List.Elements.{Contains-push_cases}
use Rattle.nest_base.specs.declared.numbers.Side.{Side}
use Rattle.half_edges.specs.Graph.{Graph, origin_of}
use Rattle.nest_base.proofs.ListReads.{Contains-from_read, read_pushed, read_kept, read_of_pushed}
use Rattle.cover_plan.specs.Laws.{LeavesOdd}
use Rattle.oe_cover.specs.Starts.{IsFirstOdd, NoneLeavesOdd, FirstOddIs}

module _ (graph : Graph) (xs : List ℕ) (y : ℕ) where
  pub none_more : NoneLeavesOdd graph xs → (LeavesOdd graph y → ⊥) → NoneLeavesOdd graph (xs ++ y ∷ [])
  none_more none even t stands odd = elim (Contains-push_cases xs y t stands) [
    | inl old ↦ none t old odd
    | inr same ↦ even (subst (LeavesOdd graph) (sym same) odd)
  ]

  -- the first one so far stays first
  pub stays_first : (s : ℕ) → IsFirstOdd graph xs s → (LeavesOdd graph y → origin_of graph s ≤ origin_of graph y) → IsFirstOdd graph (xs ++ y ∷ []) s
  stays_first s is later = record {
    place = is.place;
    stands = read_kept xs y is.place s is.stands;
    odd = is.odd;
    least = λ t stands odd. elim (Contains-push_cases xs y t stands) [
      | inl old ↦ is.least t old odd
      | inr same ↦ subst (λ (u : ℕ). origin_of graph s ≤ origin_of graph u) same (later (subst (LeavesOdd graph) (sym same) odd))
    ];
    earliest = λ k t at odd from. elim (read_of_pushed xs y k t at) [
      | inl old ↦ is.earliest k t old odd from
      | inr last ↦ omega (arith, last.0, slice_get_within xs is.place s is.stands)
    ];
  }

  -- or the new one is first: all that leave odd vertices leave later ones
  pub is_first : LeavesOdd graph y → ((t : ℕ) → Contains xs t → LeavesOdd graph t → origin_of graph y < origin_of graph t) → IsFirstOdd graph (xs ++ y ∷ []) y
  is_first odd before = record {
    place = length xs;
    stands = read_pushed xs y;
    odd = odd;
    least = λ t stands odd_t. elim (Contains-push_cases xs y t stands) [
      | inl old ↦ omega (arith, before t old odd_t)
      | inr same ↦ subst (λ (u : ℕ). origin_of graph y ≤ origin_of graph u) same (omega arith)
    ];
    earliest = λ k t at odd_t from. elim (read_of_pushed xs y k t at) [
      | inl old ↦ absurd (omega (arith, before t (Contains-from_read xs k t old) odd_t, from))
      | inr last ↦ omega (arith, last.0)
    ];
  }

-- what the two tests of a half-edge tell: whether it leaves an odd vertex, and whether this comes before
module _ (graph : Graph) (xs : List ℕ) (y : Side) where
  pub becomes_first : (first : Option Side) → FirstOddIs graph xs first → LeavesOdd graph y.0 → (before : Bool) →
      IfSome first (λ t. IsTrue before ↔ (origin_of graph y.0 < origin_of graph t.0)) → IsTrue before → FirstOddIs graph (xs ++ y.0 ∷ []) (Some y)
  becomes_first None none odd before told comes = is_first graph xs y.0 odd (λ t stands odd_t. absurd (none t stands odd_t))
  becomes_first (Some s) is odd before told comes = is_first graph xs y.0 odd (λ t stands odd_t. omega (arith, told.0 comes, is.least t stands odd_t))

  pub even_is_passed : (first : Option Side) → FirstOddIs graph xs first → (LeavesOdd graph y.0 → ⊥) → FirstOddIs graph (xs ++ y.0 ∷ []) first
  even_is_passed None none even = none_more graph xs y.0 none even
  even_is_passed (Some s) is even = stays_first graph xs y.0 s.0 is (λ odd. absurd (even odd))

  pub later_is_passed : (first : Option Side) → FirstOddIs graph xs first → (before : Bool) → IfNone first (IsTrue before) →
      IfSome first (λ t. IsTrue before ↔ (origin_of graph y.0 < origin_of graph t.0)) → before ≡ false → FirstOddIs graph (xs ++ y.0 ∷ []) first
  later_is_passed None none before sure told later = absurd (cc (sure, later))
  later_is_passed (Some s) is before sure told later = stays_first graph xs y.0 s.0 is (λ odd. elim (cases_lt (origin_of graph y.0) (origin_of graph s.0)) [
    | inl less ↦ absurd (cc (told.1 less, later))
    | inr least ↦ least
  ])
