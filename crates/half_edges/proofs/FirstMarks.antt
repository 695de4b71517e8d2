-- The first vertex of each component that is met is its mark vertex.
use Rattle.std.proofs.Common.{arith, ◌≡◌, ◌≢◌, inl, inr, ℕ, ◌+◌, ◌<◌, ◌≤◌, List, [], ◌∷◌, ◌++◌, length, get_or, refl, sym, ap, subst, ◌∙◌, below_more}
use Rattle.std.specs.Prelude.{Some, slice_get, Contains, AllPairs}
use Rattle.std.proofs.lemmas.Bool.{cases_order}
use Rattle.std.proofs.lemmas.List.{length_push}
use Rattle.std.proofs.lemmas.List.Elements.{Contains-push_cases}
use Rattle.std.proofs.lemmas.List.Quantifiers.{all_pairs_push}
use Rattle.std.proofs.lemmas.Option.{slice_get_within, slice_get-get_or}
use Rattle.nest_base.specs.declared.places.Point.{Point}
use Rattle.nest_base.specs.declared.places.Edge.{Edge}
use Rattle.nest_base.specs.Order.{IsMarkedBefore}
use Rattle.nest_base.proofs.Lists.{Contains-none}
use Rattle.nest_base.proofs.Walks.{Walk-keeps, Walk-back}
use Rattle.plate_sides.specs.Components.{IsJoinedTo, SameComponent, IsMark}
use Rattle.plate_sides.proofs.HalfEdges.{twin_is_half_edge}
use Rattle.half_edges.specs.Layouts.{AreVertices}
use Rattle.half_edges.specs.Graph.{AreComponents}
use Rattle.half_edges.specs.Floods.{none, component_at, IsFlood, AreKept}
use Rattle.nest_base.proofs.ListReads.{one_read, Contains-from_read, read_from_Contains, AllPairs-reads}
use Rattle.nest_base.proofs.Orders.{IsMarkedBefore-asym}

-- p is a vertex whose component has no number
abbrev IsBare : List Point → List ℕ → Point → Type 0
IsBare vertices components p = (v : ℕ) × (slice_get vertices v ≡ Some p) × (component_at components v ≡ none)

-- where nothing waits, the neighbours of a vertex that has no number have none
bare_joined : (edges : List Edge) (vertices : List Point) (components : List ℕ) (marks : List Point) (p q : Point) →
    AreVertices edges vertices → IsFlood edges vertices components marks [] → IsJoinedTo edges p q → IsBare vertices components q → IsBare vertices components p
bare_joined edges vertices components marks p q are f join (w, at_w, bare) =
    let found = read_from_Contains vertices p ((are.are_all p).1 (record { from = p; to = q }, (join, refl))) in
    elim (f.closed found.0 w (record { place = p; other = q; at_place = found.1; at_other = at_w; edge = join })) [
      | inl none_too ↦ (found.0, found.1, none_too)
      | inr (inl alike) ↦ (found.0, found.1, alike ∙ bare)
      | inr (inr waiting) ↦ absurd (Contains-none found.0 waiting)
    ]

-- nor have any of its component
bare_component : (edges : List Edge) (vertices : List Point) (components : List ℕ) (marks : List Point) (p q : Point) →
    AreVertices edges vertices → IsFlood edges vertices components marks [] → SameComponent edges q p → IsBare vertices components p → IsBare vertices components q
bare_component edges vertices components marks p q are f walk bare =
    Walk-keeps (IsBare vertices components)
    (λ a b join. (λ at_a. bare_joined edges vertices components marks b a are f (twin_is_half_edge edges (record { from = a; to = b }) join) at_a, bare_joined edges vertices components marks a b are f join))
    walk bare

-- the first vertex without a number is a mark vertex
pub new_mark : (edges : List Edge) (vertices : List Point) (components : List ℕ) (marks : List Point) (v : ℕ) (p : Point) →
    AreVertices edges vertices → IsFlood edges vertices components marks [] → ((j : ℕ) → j < v → component_at components j ≢ none) →
    slice_get vertices v ≡ Some p → component_at components v ≡ none → IsMark edges p
new_mark edges vertices components marks v p are f before at bare = record {
  vertex = (are.are_all p).0 (Contains-from_read vertices v p at);
  first = λ q walk.
      let found = bare_component edges vertices components marks p q are f walk (v, at, bare) in
      elim (cases_order found.0 v) [
        | inl same ↦ inl (one_read vertices v q p (ap (slice_get vertices) (sym same) ∙ found.1) at)
        | inr (inl less) ↦ absurd (before found.0 less found.2)
        | inr (inr more) ↦ inr (AllPairs-reads IsMarkedBefore vertices v found.0 p q are.in_order more at found.1)
      ];
}

-- the marks are mark vertices, in order, that stand among the first v vertices
pub record AreFirstMarks (edges : List Edge) (vertices : List Point) (v : ℕ) (marks : List Point) : Type 0 where
  pub in_order : AllPairs IsMarkedBefore marks
  pub each : (m : Point) → Contains marks m → (i : ℕ) × (i < v) × (slice_get vertices i ≡ Some m) × IsMark edges m

pub no_first_marks : (edges : List Edge) (vertices : List Point) → AreFirstMarks edges vertices 0 []
no_first_marks edges vertices = record {
  in_order = λ i j d less within. absurd (omega arith);
  each = λ m stands. absurd (Contains-none m stands);
}

pub same_first_marks : (edges : List Edge) (vertices : List Point) (v : ℕ) (marks : List Point) → AreFirstMarks edges vertices v marks → AreFirstMarks edges vertices (v + 1) marks
same_first_marks edges vertices v marks h = record {
  in_order = h.in_order;
  each = λ m stands. let e = h.each m stands in (e.0, omega (arith, e.1), e.2, e.3);
}

pub more_first_marks : (edges : List Edge) (vertices : List Point) (v : ℕ) (marks : List Point) (p : Point) → AreVertices edges vertices →
    AreFirstMarks edges vertices v marks → slice_get vertices v ≡ Some p → IsMark edges p → AreFirstMarks edges vertices (v + 1) (marks ++ p ∷ [])
more_first_marks edges vertices v marks p are h at is = record {
  in_order = all_pairs_push IsMarkedBefore marks p h.in_order
      (λ k d within.
      let e = h.each (get_or marks k d) (Contains-from_read marks k (get_or marks k d) (slice_get-get_or marks k d within)) in
      AllPairs-reads IsMarkedBefore vertices e.0 v (get_or marks k d) p are.in_order e.1 e.2 at);
  each = λ m stands. elim (Contains-push_cases marks p m stands) [
    | inl before ↦ let e = h.each m before in (e.0, omega (arith, e.1), e.2, e.3)
    | inr same ↦ (v, omega arith, at ∙ ap Some same, subst (IsMark edges) same is)
  ];
}

-- two mark vertices of one component are one
pub one_mark : (edges : List Edge) (m n : Point) → IsMark edges m → IsMark edges n → SameComponent edges m n → m ≡ n
one_mark edges m n is_m is_n walk = elim (is_n.first m walk) [
  | inl same ↦ same
  | inr later ↦ elim (is_m.first n (Walk-back walk)) [
    | inl same ↦ sym same
    | inr earlier ↦ absurd (IsMarkedBefore-asym m n earlier later)
  ]
]

-- once all vertices have a number
pub components_found : (edges : List Edge) (vertices : List Point) (components : List ℕ) (marks : List Point) → AreVertices edges vertices →
    IsFlood edges vertices components marks [] → AreFirstMarks edges vertices (length vertices) marks → ((j : ℕ) → j < length vertices → component_at components j ≢ none) →
    AreComponents edges vertices components marks
components_found edges vertices components marks are f firsts numbered = record {
  are_marks = record {
    in_order = firsts.in_order;
    are_all = λ x. (
      λ stands. (firsts.each x stands).3,
      λ is.
          let found = read_from_Contains vertices x ((are.are_all x).1 is.vertex) in
          let led = f.leads found.0 x found.1 (numbered found.0 (slice_get_within vertices found.0 x found.1)) in
          let stands = Contains-from_read marks (component_at components found.0) led.0 led.1 in
          subst (Contains marks) (sym (one_mark edges x led.0 is (firsts.each led.0 stands).3 led.2)) stands,
    );
  };
  as_many = f.as_many;
  leads = λ v p at.
      let within = slice_get_within vertices v p at in
      let led = f.leads v p at (numbered v within) in
      (component_at components v, led.0, slice_get-get_or components v none (omega (arith, f.as_many, within)), led.1, led.2);
}

-- what holds once the first v vertices have a number
pub record AreNumbered (known : List Edge → Type 0) (vertices : List Point) (v : ℕ) (components : List ℕ) (marks : List Point) (found : List ℕ) : Type 0 where
  pub as_many : length components ≡ length vertices
  pub few : length marks ≤ v
  pub empty : found ≡ []
  pub numbered : (j : ℕ) → j < v → component_at components j ≢ none
  pub flood : (edges : List Edge) → known edges → IsFlood edges vertices components marks []
  pub firsts : (edges : List Edge) → known edges → AreFirstMarks edges vertices v marks

-- before the first one
pub numbers_begun : (known : List Edge → Type 0) (vertices : List Point) (components : List ℕ) (marks : List Point) (found : List ℕ) →
    length components ≡ length vertices → ((v : ℕ) → component_at components v ≡ none) → marks ≡ [] → found ≡ [] → AreNumbered known vertices 0 components marks found
numbers_begun known vertices components marks found as_many bare no_marks none_found = record {
  as_many = as_many;
  few = omega (arith, ap length no_marks);
  empty = none_found;
  numbered = λ j less. absurd (omega arith);
  flood = λ edges is. record {
    as_many = as_many;
    leads = λ v p at numbered. absurd (numbered (bare v));
    closed = λ v w join. inl (bare v);
    last = λ v waiting. absurd (Contains-none v waiting);
  };
  firsts = λ edges is. rw no_marks (no_first_marks edges vertices);
}

-- v had a number
pub numbers_passed : (known : List Edge → Type 0) (vertices : List Point) (v : ℕ) (components : List ℕ) (marks : List Point) (found : List ℕ) →
    AreNumbered known vertices v components marks found → component_at components v ≢ none → AreNumbered known vertices (v + 1) components marks found
numbers_passed known vertices v components marks found s has = record {
  as_many = s.as_many;
  few = omega (arith, s.few);
  empty = s.empty;
  numbered = below_more _ _ s.numbered has;
  flood = s.flood;
  firsts = λ edges is. same_first_marks edges vertices v marks (s.firsts edges is);
}

-- v had none, and its component was found
pub numbers_more : (known : List Edge → Type 0) (vertices : List Point) (v : ℕ) (p : Point) (components : List ℕ) (marks : List Point) (found : List ℕ)
    (later : List ℕ) (later_marks : List Point) (more : List ℕ) (edges : List Edge) → known edges →
    ((edges : List Edge) → known edges → AreVertices edges vertices) → AreNumbered known vertices v components marks found → slice_get vertices v ≡ Some p → component_at components v ≡ none →
    later_marks ≡ marks ++ p ∷ [] → more ≡ [] → AreKept components later → component_at later v ≢ none → ((edges : List Edge) → known edges → IsFlood edges vertices later later_marks []) →
    AreNumbered known vertices (v + 1) later later_marks more
numbers_more known vertices v p components marks found later later_marks more edges is are s at bare marks_are none_waits kept has flood = record {
  as_many = (flood edges is).as_many;
  few = omega (arith, s.few, ap length marks_are, length_push marks p);
  empty = none_waits;
  numbered = below_more _ _ (λ j less none_now. s.numbered j less (sym (kept j (s.numbered j less)) ∙ none_now)) has;
  flood = flood;
  firsts = λ other known_too. rw marks_are
      (more_first_marks other vertices v marks p (are other known_too) (s.firsts other known_too) at
      (new_mark other vertices components marks v p (are other known_too) (s.flood other known_too) s.numbered at bare));
}
