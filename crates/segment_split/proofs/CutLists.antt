-- The list of the cut points of a segment.
use Rattle.std.proofs.Common.{◌≡◌, ℕ, List, [], IsPermutation, IsSorted, inl, inr}
use Rattle.std.specs.Prelude.{Contains}
use Rattle.std.specs.declared.cmp.Ordering.TheVariants.{Less}
use Rattle.std.specs.List.Retain.{IsFiltered, DiffersFromLast}
use Rattle.nest_base.specs.declared.places.Point.{Point}
use Rattle.nest_base.specs.declared.places.Segment.{Segment}
use Rattle.nest_base.specs.Order.{IsBefore, place_cmp}
use Rattle.nest_base.specs.Selection.{EnumeratesBy}
use Rattle.nest_base.proofs.Comparisons.{place_order, places_apart}
use Rattle.nest_base.proofs.Lists.{Contains-none}
use Rattle.plate_edges.specs.Cuts.{HasLength, IsCutPoint}
use Rattle.segment_split.specs.CutPoints.{AddsPlaces}
use Rattle.segment_split.proofs.ByComparison.{place_eq, place_ties, less_is_before}
use Rattle.segment_split.proofs.CutsByAll.{IsCutByOne, cut_is_by_one, by_one_is_cut}
use Rattle.segment_split.proofs.Deduplicated.{deduplicated, enumerates_too}

-- the places at which segments cut one of them are its cut points, once they are in order without repeats
pub cut_list : (segments : List Segment) (s : Segment) → HasLength s → Contains segments s → (n : ℕ) (before between after : List Point) →
    AddsPlaces (IsCutByOne segments s) n [] before → IsPermutation before between → IsSorted place_cmp between → IsFiltered (DiffersFromLast place_eq) [] between after →
    EnumeratesBy IsBefore (IsCutPoint segments s) after
cut_list segments s long among n before between after added moved sorted filtered =
    enumerates_too (λ p q. place_cmp p q ≡ Less) IsBefore (Contains before) (IsCutPoint segments s) less_is_before
    (λ q. (
      λ c. elim ((added.are_all q).0 c) [ inl none ↦ absurd (Contains-none q none) | inr cut ↦ by_one_is_cut segments s among q cut ],
      λ cut. (added.are_all q).1 (inr (cut_is_by_one segments s long q cut)),
    ))
    after (deduplicated place_order place_ties places_apart before between after moved sorted filtered)
