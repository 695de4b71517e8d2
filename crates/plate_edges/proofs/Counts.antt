-- Segments have one number of pieces.
use Rattle.std.proofs.Common.{◌≡◌, ℕ, List, [], ◌∷◌, length, sum, refl, sym, ap, ap₂, ◌∙◌}
use Rattle.std.specs.List.{AllZip}
use Rattle.std.proofs.lemmas.List.Sorted.{IsPermutation-sym, Contains-permutation, length_permutation}
use Rattle.nest_base.specs.declared.places.Segment.{Segment}
use Rattle.nest_base.specs.Selection.{Enumerates}
use Rattle.plate_edges.specs.Edges.{IsEdgeBefore}
use Rattle.plate_edges.specs.Laws.{PiecesAreOneNumber}
use Rattle.plate_edges.specs.Pieces.{IsOrderedPieceOf, HasPieces}
use Rattle.plate_edges.proofs.Lists.{same_elements}
use Rattle.plate_edges.proofs.Orders.{IsEdgeBefore-is_strict}
use Rattle.plate_edges.proofs.Sorts.{IsStrictOrder, Sorted, sorted}

-- two lists of all things that have a property, each once, are equally long
pub same_number : {X : Type 0} (R : X → X → Type 0) → IsStrictOrder R → (P : X → Type 0) (xs ys : List X) → Enumerates P xs → Enumerates P ys → length xs ≡ length ys
same_number R order P xs ys h k =
    let us : Sorted R xs = sorted R order xs h.each_once in
    let vs : Sorted R ys = sorted R order ys k.each_once in
    let same : us.list ≡ vs.list = same_elements R order.asym us.list vs.list us.in_order vs.in_order
    (λ z c. Contains-permutation ys vs.list z vs.same ((k.are_all z).1 ((h.are_all z).0 (Contains-permutation us.list xs z (IsPermutation-sym xs us.list us.same) c))))
    (λ z c. Contains-permutation xs us.list z us.same ((h.are_all z).1 ((k.are_all z).0 (Contains-permutation vs.list ys z (IsPermutation-sym ys vs.list vs.same) c)))) in
    sym (length_permutation xs us.list us.same) ∙ ap length same ∙ length_permutation ys vs.list vs.same

pub one_count : (segments : List Segment) (s : Segment) (m n : ℕ) → HasPieces segments s m → HasPieces segments s n → m ≡ n
one_count segments s m n (xs, h, e) (ys, k, f) =
    sym e ∙ same_number IsEdgeBefore IsEdgeBefore-is_strict (IsOrderedPieceOf segments s) xs ys h k ∙ f

same_counts : (segments some : List Segment) (ms ns : List ℕ) → AllZip (HasPieces segments) some ms → AllZip (HasPieces segments) some ns → ms ≡ ns
same_counts segments [] [] [] h k = refl
same_counts segments [] [] (n ∷ ns) h k = absurd k
same_counts segments [] (m ∷ ms) ns h k = absurd h
same_counts segments (s ∷ some) [] ns h k = absurd h
same_counts segments (s ∷ some) (m ∷ ms) [] h k = absurd k
same_counts segments (s ∷ some) (m ∷ ms) (n ∷ ns) h k = ap₂ (λ x xs. x ∷ xs) (one_count segments s m n h.0 k.0) (same_counts segments some ms ns h.1 k.1)

pub one_number_of_pieces : PiecesAreOneNumber
one_number_of_pieces segments m n (ms, h, e) (ns, k, f) = sym e ∙ ap sum (same_counts segments segments ms ns h k) ∙ f
