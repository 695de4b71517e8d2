-- The least edge that isn't burnt, found out one by one.
use Rattle.std.proofs.Common.{arith, ◌≡◌, ◌⊎◌, ℕ, ◌+◌, ◌<◌, ◌≤◌, Bool, true, false, List, inl, inr, length, sym, subst}
use Rattle.std.specs.Prelude.{Option, Some, None, IfSome, IfNone, slice_get}
use Rattle.std.proofs.lemmas.Bool.{true≢false, cases_lt}
use Rattle.std.proofs.lemmas.Option.{slice_get_within}
use Rattle.nest_base.specs.declared.places.Edge.{Edge}
use Rattle.nest_base.proofs.ListReads.{one_read}
use Rattle.plate_edges.specs.Edges.{IsEdgeBefore}
use Rattle.plate_edges.proofs.Orders.{by_order, IsEdgeBefore-asym, IsEdgeBefore-trans}
use Rattle.replay_check.specs.Burning.{IsUnburntAt, IsLeastUnburnt}

-- what comes before e comes before f too, where f doesn't come before e
before_other : (g e f : Edge) → IsEdgeBefore g e → (IsEdgeBefore f e → ⊥) → IsEdgeBefore g f
before_other g e f before not_less = by_order e.low f.low
    (λ less. IsEdgeBefore-trans g e f before (inl less))
    (λ low. by_order e.high f.high
    (λ less. IsEdgeBefore-trans g e f before (inr (low, less)))
    (λ high. subst (IsEdgeBefore g) (λ i. record { low = low i; high = high i }) before)
    (λ more. absurd (not_less (inr (sym low, more)))))
    (λ more. absurd (not_less (inl more)))

-- e is the least of those of the first n edges that aren't burnt
pub record IsLeastOfFirst (edges : List Edge) (flags : List Bool) (n : ℕ) (e : Edge) : Type 0 where
  pub place : ℕ
  pub unburnt : IsUnburntAt edges flags place e
  pub least : (k : ℕ) (f : Edge) → k < n → IsUnburntAt edges flags k f → IsEdgeBefore f e → ⊥

-- all of the first n edges are burnt
abbrev pub AreFirstBurnt : List Edge → List Bool → ℕ → Type 0
AreFirstBurnt edges flags n = (k : ℕ) (e : Edge) → k < n → IsUnburntAt edges flags k e → ⊥

-- what is the least so far
pub record IsLeastSoFar (edges : List Edge) (flags : List Bool) (n : ℕ) (found : Option Edge) : Type 0 where
  pub some : IfSome found (IsLeastOfFirst edges flags n)
  pub none : IfNone found (AreFirstBurnt edges flags n)

-- r is the lesser of what was found and e
pub record IsLesser (found : Option Edge) (e r : Edge) : Type 0 where
  pub alone : IfNone found (r ≡ e)
  pub one : IfSome found (λ f. (r ≡ e) ⊎ (r ≡ f))
  pub first : IfSome found (λ f. (IsEdgeBefore e r → ⊥) × (IsEdgeBefore f r → ⊥))

module _ (edges : List Edge) (flags : List Bool) (n : ℕ) where
  -- a place among one more is one of the places before, or the last
  by_place : {P : Type 0} (k : ℕ) → k < n + 1 → (k < n → P) → (k ≡ n → P) → P
  by_place k below before last = elim (cases_lt k n) [ inl less ↦ before less | inr least ↦ last (omega arith) ]

  -- no flag says both
  not_both : slice_get flags n ≡ Some true → slice_get flags n ≡ Some false → ⊥
  not_both burnt unburnt = true≢false (one_read flags n true false burnt unburnt)

  -- an edge that is burnt changes nothing
  pub least_past_burnt : (found : Option Edge) → slice_get flags n ≡ Some true → IsLeastSoFar edges flags n found →
      IsLeastSoFar edges flags (n + 1) found
  least_past_burnt None burnt so_far = record {
    some = tt;
    none = λ k e below unburnt. by_place k below
        (λ less. so_far.none k e less unburnt)
        (λ same. not_both burnt (subst (λ i. slice_get flags i ≡ Some false) same unburnt.1));
  }
  least_past_burnt (Some e) burnt so_far = record {
    some = record {
      place = so_far.some.place;
      unburnt = so_far.some.unburnt;
      least = λ k f below unburnt before. by_place k below
          (λ less. so_far.some.least k f less unburnt before)
          (λ same. not_both burnt (subst (λ i. slice_get flags i ≡ Some false) same unburnt.1));
    };
    none = tt;
  }

  module _ (e r : Edge) (unburnt : IsUnburntAt edges flags n e) where
    -- the unburnt edge at place n is e
    one_edge : (k : ℕ) (f : Edge) → k ≡ n → IsUnburntAt edges flags k f → f ≡ e
    one_edge k f same other = one_read edges n f e (subst (λ i. slice_get edges i ≡ Some f) same other.0) unburnt.0

    not_itself : IsEdgeBefore e e → ⊥
    not_itself h = IsEdgeBefore-asym e e h h

    -- the lesser of what was found and of an edge that isn't burnt is found next
    pub least_past_unburnt : (found : Option Edge) → IsLeastSoFar edges flags n found → IsLesser found e r →
        IsLeastSoFar edges flags (n + 1) (Some r)
    least_past_unburnt None so_far lesser = record {
      some = record {
        place = n;
        unburnt = subst (IsUnburntAt edges flags n) (sym lesser.alone) unburnt;
        least = λ k f below other before. by_place k below
            (λ less. so_far.none k f less other)
            (λ same. not_itself (subst (IsEdgeBefore e) lesser.alone (subst (λ g. IsEdgeBefore g r) (one_edge k f same other) before)));
      };
      none = tt;
    }
    least_past_unburnt (Some g) so_far lesser = record {
      some = record {
        place = place.0;
        unburnt = place.1;
        least = λ k f below other before. by_place k below
            (λ less. so_far.some.least k f less other (before_other f r g before lesser.first.1))
            (λ same. lesser.first.0 (subst (λ h. IsEdgeBefore h r) (one_edge k f same other) before));
      };
      none = tt;
    } where
      place : (k : ℕ) × IsUnburntAt edges flags k r
      place = elim lesser.one [
        | inl same ↦ (n, subst (IsUnburntAt edges flags n) (sym same) unburnt)
        | inr same ↦ (so_far.some.place, subst (IsUnburntAt edges flags so_far.some.place) (sym same) so_far.some.unburnt)
      ]

  -- what is found so far of all edges is the least
  pub least_of_all : (found : Option Edge) → length edges ≤ n → IsLeastSoFar edges flags n found → IfSome found (IsLeastUnburnt edges flags)
  least_of_all None end so_far = tt
  least_of_all (Some e) end so_far = record {
    place = so_far.some.place;
    unburnt = so_far.some.unburnt;
    least = λ k f unburnt. so_far.some.least k f (omega (arith, slice_get_within edges k f unburnt.0)) unburnt;
  }

  -- and where nothing is found so far of all edges, all are burnt
  pub none_of_all : (found : Option Edge) → length edges ≤ n → IsLeastSoFar edges flags n found →
      IfNone found ((k : ℕ) (e : Edge) → IsUnburntAt edges flags k e → ⊥)
  none_of_all None end so_far = λ k e unburnt. so_far.none k e (omega (arith, slice_get_within edges k e unburnt.0)) unburnt
  none_of_all (Some e) end so_far = tt
