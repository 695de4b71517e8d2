-- A segment with three cut points has two pieces.
use Rattle.std.proofs.Common.{◌≡◌, ◌≢◌, ◌⊎◌, [], ◌∷◌, List, inl, inr, refl, sym, ap, subst, ◌∙◌}
use Rattle.std.specs.Prelude.{Contains}
use Rattle.std.proofs.lemmas.List.Elements.{All-nil, All-cons}
use Rattle.std.proofs.lemmas.List.Kept.{AllPairs-cons}
use Rattle.nest_base.specs.declared.places.Point.{Point}
use Rattle.nest_base.specs.declared.places.Segment.{Segment}
use Rattle.nest_base.specs.declared.places.Edge.{Edge}
use Rattle.nest_base.specs.Order.{IsBefore}
use Rattle.nest_base.proofs.Lists.{Contains-head, Contains-later, Contains-cases, Contains-none, AllPairs-none}
use Rattle.nest_base.proofs.Orders.{IsBefore-asym, IsBefore-irrefl}
use Rattle.plate_edges.specs.Cuts.{IsCutPoint}
use Rattle.plate_edges.specs.Pieces.{IsOrderedPieceOf, HasPieces}
use Rattle.plate_edges.proofs.Insides.{between_inside, inside_between}
use Rattle.plate_edges.proofs.Orders.{IsBefore-trans, same_edge}
use Rattle.plate_edges.proofs.Places.{at_place}

-- the cut points of s are p, q and r, in order
pub record HasThreeCuts (segments : List Segment) (s : Segment) (p q r : Point) : Type 0 where
  pub low : IsBefore p q
  pub high : IsBefore q r
  pub at_p : IsCutPoint segments s p
  pub at_q : IsCutPoint segments s q
  pub at_r : IsCutPoint segments s r
  pub only : (v : Point) → IsCutPoint segments s v → (v ≡ p) ⊎ ((v ≡ q) ⊎ (v ≡ r))

pub lower_piece : (segments : List Segment) (s : Segment) (p q r : Point) → HasThreeCuts segments s p q r → IsOrderedPieceOf segments s (record { low = p; high = q })
lower_piece segments s p q r h = (
  h.low,
  record {
    low_cut = h.at_p;
    high_cut = h.at_q;
    uncut = λ v cut inside. elim (h.only v cut) [
      | inl at_p ↦ inside.1 (at_place v p at_p)
      | inr (inl at_q) ↦ inside.2 (at_place v q at_q)
      | inr (inr at_r) ↦ IsBefore-asym q r h.high (subst (λ u. IsBefore u q) at_r (between_inside p v q h.low inside).1)
    ];
  },
)

pub upper_piece : (segments : List Segment) (s : Segment) (p q r : Point) → HasThreeCuts segments s p q r → IsOrderedPieceOf segments s (record { low = q; high = r })
upper_piece segments s p q r h = (
  h.high,
  record {
    low_cut = h.at_q;
    high_cut = h.at_r;
    uncut = λ v cut inside. elim (h.only v cut) [
      | inl at_p ↦ IsBefore-asym p q h.low (subst (λ u. IsBefore q u) at_p (between_inside q v r h.high inside).0)
      | inr (inl at_q) ↦ inside.1 (at_place v q at_q)
      | inr (inr at_r) ↦ inside.2 (at_place v r at_r)
    ];
  },
)

-- and there is no other piece
pub one_of_two : (segments : List Segment) (s : Segment) (p q r : Point) → HasThreeCuts segments s p q r → (e : Edge) → IsOrderedPieceOf segments s e →
    (record { low = p; high = q } ≡ e) ⊎ (record { low = q; high = r } ≡ e)
one_of_two segments s p q r h e (order, piece) = cases (h.only e.low piece.low_cut) (h.only e.high piece.high_cut)
  where
    not : (u v : Point) → e.low ≡ v → e.high ≡ u → (u ≡ v) ⊎ IsBefore u v → ⊥
    not u v low high (inl same) = IsBefore-irrefl e.low e.high order (low ∙ sym same ∙ sym high)
    not u v low high (inr less) = IsBefore-asym u v less (subst (IsBefore v) high (subst (λ w. IsBefore w e.high) low order))

    cases : (e.low ≡ p) ⊎ ((e.low ≡ q) ⊎ (e.low ≡ r)) → (e.high ≡ p) ⊎ ((e.high ≡ q) ⊎ (e.high ≡ r)) →
        (record { low = p; high = q } ≡ e) ⊎ (record { low = q; high = r } ≡ e)
    cases (inl l) (inl k) = absurd (not p p l k (inl refl))
    cases (inl l) (inr (inl k)) = inl (same_edge (sym l) (sym k))
    cases (inl l) (inr (inr k)) = absurd (piece.uncut q h.at_q
        (inside_between s.a s.b e.low q e.high piece.low_cut.0 h.at_q.0 piece.high_cut.0 (subst (λ w. IsBefore w q) (sym l) h.low) (subst (IsBefore q) (sym k) h.high)))
    cases (inr (inl l)) (inl k) = absurd (not p q l k (inr h.low))
    cases (inr (inl l)) (inr (inl k)) = absurd (not q q l k (inl refl))
    cases (inr (inl l)) (inr (inr k)) = inr (same_edge (sym l) (sym k))
    cases (inr (inr l)) (inl k) = absurd (not p r l k (inr (IsBefore-trans p q r h.low h.high)))
    cases (inr (inr l)) (inr (inl k)) = absurd (not q r l k (inr h.high))
    cases (inr (inr l)) (inr (inr k)) = absurd (not r r l k (inl refl))

-- so it has two
pub two_pieces : (segments : List Segment) (s : Segment) (p q r : Point) → HasThreeCuts segments s p q r → HasPieces segments s 2
two_pieces segments s p q r h =
    let e : Edge = record { low = p; high = q } in
    let f : Edge = record { low = q; high = r } in
    let apart : e ≢ f = λ same. IsBefore-irrefl p q h.low (ap (λ (g : Edge). g.low) same) in (
      e ∷ f ∷ [],
      record {
        each_once = AllPairs-cons (λ x y. x ≢ y) e (f ∷ []) (All-cons (λ y. e ≢ y) f [] apart (All-nil (λ y. e ≢ y)))
            (AllPairs-cons (λ x y. x ≢ y) f [] (All-nil (λ y. f ≢ y)) (AllPairs-none (λ x y. x ≢ y)));
        are_all = λ g. (
          (λ c. elim (Contains-cases e g (f ∷ []) c) [
            | inl first ↦ subst (IsOrderedPieceOf segments s) first (lower_piece segments s p q r h)
            | inr later ↦ elim (Contains-cases f g [] later) [
              | inl second ↦ subst (IsOrderedPieceOf segments s) second (upper_piece segments s p q r h)
              | inr none ↦ absurd (Contains-none g none)
            ]
          ]),
          (λ piece. elim (one_of_two segments s p q r h g piece) [
            | inl first ↦ subst (Contains (e ∷ f ∷ [])) first (Contains-head e (f ∷ []))
            | inr second ↦ subst (Contains (e ∷ f ∷ [])) second (Contains-later e f (f ∷ []) (Contains-head f []))
          ]),
        );
      },
      refl,
    )
