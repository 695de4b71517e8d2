-- Each half-edge lies in the component of some mark vertex, where of each component it's told which edges lie in it.
use Rattle.std.proofs.Common.{arith, ◌≡◌, ◌⊎◌, inl, inr, ℕ, List, [], ◌∷◌, map, refl, sym, subst}
use Rattle.std.specs.Prelude.{Contains}
use Rattle.std.specs.List.{AllZip}
use Rattle.std.proofs.lemmas.Int.{ints, by_lt_z}
use Rattle.nest_base.specs.declared.places.Point.{Point}
use Rattle.nest_base.specs.declared.places.Edge.{Edge}
use Rattle.nest_base.specs.declared.drawing.Name.{Name}
use Rattle.nest_base.specs.Order.{IsMarkedBefore}
use Rattle.nest_base.specs.Plane.{HalfEdge}
use Rattle.nest_base.specs.Walks.{here}
use Rattle.nest_base.specs.Selection.{Selects, none, taken, passed}
use Rattle.nest_base.proofs.ListReads.{Contains-from_read, read-map}
use Rattle.nest_base.proofs.Lists.{Contains-head, Contains-later, Contains-cases, Contains-none}
use Rattle.nest_base.proofs.Orders.{IsMarkedBefore-irrefl, IsMarkedBefore-trans}
use Rattle.nest_base.proofs.Points.{same_place}
use Rattle.nest_base.proofs.Walks.{Walk-then, Walk-back}
use Rattle.plate_sides.specs.HalfEdges.{forth, IsHalfEdge, IsVertex}
use Rattle.plate_sides.specs.Components.{SameComponent, IsMark, IsIn}
use Rattle.plate_sides.proofs.Components.{edge_is_in}
use Rattle.plate_sides.proofs.Vertices.{joined_is_vertex}
use Rattle.pierce_report.specs.Report.{Row, IsRowOf, IsReport}
use Rattle.half_edges.specs.Numbers.{half_edges_of}
use Rattle.half_edges.proofs.Numbers.{side_from_half_edge}

-- of two places one comes first
compared : (a b : Point) → (a ≡ b) ⊎ (IsMarkedBefore a b ⊎ IsMarkedBefore b a)
compared a b =
    by_lt_z a.x b.x (λ west. inr (inl (inl west))) (λ not_west.
    by_lt_z b.x a.x (λ east. inr (inr (inl east))) (λ not_east.
    let level : a.x ≡ b.x = omega (arith, ints) in
    by_lt_z b.y a.y (λ north. inr (inl (inr (level, north)))) (λ not_north.
    by_lt_z a.y b.y (λ south. inr (inr (inr (sym level, south)))) (λ not_south. inl (same_place level (omega (arith, ints)))))))

-- of the things in a list that have P, and one more, it can't be that none comes first
first_of : (P : Point → Type 0) (places : List Point) (v : Point) → P v →
    ((u : Point) → P u → ((w : Point) → Contains places w → P w → IsMarkedBefore w u → ⊥) → ⊥) → ⊥
first_of P [] v is never = never v is (λ w c. absurd (Contains-none w c))
first_of P (x ∷ places) v is never = first_of P places v is (λ u is_u first.
    let not_x : P x → IsMarkedBefore x u → ⊥ = λ is_x before. never x is_x (λ w c is_w earlier. elim (Contains-cases x w places c) [
      | inl same ↦ IsMarkedBefore-irrefl w x earlier (sym same)
      | inr later ↦ first w later is_w (IsMarkedBefore-trans w x u earlier before)
    ]) in
    never u is_u (λ w c is_w earlier. elim (Contains-cases x w places c) [
      | inl same ↦ not_x (subst P (sym same) is_w) (subst (λ p. IsMarkedBefore p u) (sym same) earlier)
      | inr later ↦ first w later is_w earlier
    ]))

-- where things are selected, it's told of each whether it is one of them
told : {X : Type 0} (P : X → Type 0) {all some : List X} → Selects P all some → (x : X) → Contains all x → P x ⊎ (P x → ⊥)
told P none x c = absurd (Contains-none x c)
told P (taken {x = y} {xs} p h) x c = elim (Contains-cases y x xs c) [ inl same ↦ inl (subst P same p) | inr later ↦ told P h x later ]
told P (passed {x = y} {xs} p h) x c = elim (Contains-cases y x xs c) [ inl same ↦ inr (λ q. p (subst P (sym same) q)) | inr later ↦ told P h x later ]

module _ (edges : List Edge) where
  -- the vertices, each as often as half-edges leave it
  abbrev vertices : List Point
  vertices = map (λ (h : HalfEdge). h.from) (half_edges_of edges)

  stands : (v : Point) → IsVertex edges v → Contains vertices v
  stands v (h, (is, leaves)) =
      let s = side_from_half_edge edges h is in
      subst (Contains vertices) leaves (Contains-from_read vertices s.0 h.from (read-map (λ (g : HalfEdge). g.from) (half_edges_of edges) s.0 h s.1))

  -- it can't be that a vertex lies in the component of no mark vertex
  some_mark : (v : Point) → IsVertex edges v → ((mark : Point) → IsMark edges mark → SameComponent edges v mark → ⊥) → ⊥
  some_mark v is never = first_of (λ u. SameComponent edges v u) vertices v here (λ u joined first. never u (is_mark u joined first) joined)
    where
      is_mark : (u : Point) → SameComponent edges v u → ((w : Point) → Contains vertices w → SameComponent edges v w → IsMarkedBefore w u → ⊥) → IsMark edges u
      is_mark u joined first = record {
        vertex = joined_is_vertex edges is (Walk-back joined);
        first = λ w walk.
            let before = first w (stands w (joined_is_vertex edges is (Walk-back (Walk-then joined (Walk-back walk))))) (Walk-then joined (Walk-back walk)) in
            elim (compared w u) [
              | inl same ↦ inl same
              | inr (inl earlier) ↦ absurd (before earlier)
              | inr (inr later) ↦ inr later
            ];
      }

  -- an edge lies in the component of one of these vertices, or of none
  found_among : (IsPierces : Point → ℕ → Type 0) (some : List Point) (rows : List Row) →
      AllZip (λ mark (r : Row). IsRowOf edges mark r × IsPierces mark r.pierces) some rows → (e : Edge) → Contains edges e →
      ((mark : Point) × Contains some mark × IsIn edges mark (forth e)) ⊎ ((mark : Point) → Contains some mark → IsIn edges mark (forth e) → ⊥)
  found_among IsPierces [] rows zip e among = inr (λ mark c. absurd (Contains-none mark c))
  found_among IsPierces (mark ∷ some) [] zip e among = absurd zip
  found_among IsPierces (mark ∷ some) (row ∷ rows) zip e among = elim (told (λ f. IsIn edges mark (forth f)) zip.0.0.has_edges.1 e among) [
    | inl inside ↦ inl (mark, Contains-head mark some, inside)
    | inr outside ↦ elim (found_among IsPierces some rows zip.1 e among) [
      | inl found ↦ inl (found.0, Contains-later mark found.0 some found.1, found.2)
      | inr never ↦ inr (λ other c inside. elim (Contains-cases mark other some c) [
        | inl same ↦ outside (subst (λ m. IsIn edges m (forth e)) (sym same) inside)
        | inr later ↦ never other later inside
      ])
    ]
  ]

  -- so each half-edge lies in that of a mark vertex
  pub marked : {names : List Name} {IsPierces : Point → ℕ → Type 0} {report : List ℕ} → IsReport edges names IsPierces report →
      (s : HalfEdge) → IsHalfEdge edges s → (mark : Point) × IsMark edges mark × IsIn edges mark s
  marked {IsPierces = IsPierces} reported s (e, among, of_e) = elim (found_among IsPierces reported.marks reported.rows reported.are_rows e among) [
    | inl found ↦ (found.0, (reported.are_marks.are_all found.0).0 found.1, edge_is_in edges found.0 e (forth e) s (inl refl) of_e found.2)
    | inr never ↦ absurd (some_mark s.from (s, ((e, among, of_e), refl)) (λ mark is_mark joined.
        never mark ((reported.are_marks.are_all mark).1 is_mark) (edge_is_in edges mark e s (forth e) of_e (inl refl) ((e, among, of_e), joined))))
  ]
