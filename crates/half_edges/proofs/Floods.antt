-- Components while they are being found: what one more vertex does, and what holds at the end.
use Rattle.std.proofs.Common.{arith, ◌≡◌, ◌≢◌, ◌⊎◌, inl, inr, ℕ, ◌+◌, ◌<◌, ◌≤◌, List, [], ◌∷◌, ◌++◌, length, get_or, set, sym, ap, subst, ◌∙◌, get_or-set_same, get_or-set_other, length-set}
use Rattle.std.specs.Prelude.{Some, slice_get, Contains}
use Rattle.std.proofs.lemmas.Bool.{cases_eq, cases_lt}
use Rattle.std.proofs.lemmas.Option.{slice_get_within}
use Rattle.std.proofs.lemmas.List.{length_push, get_or_past}
use Rattle.std.proofs.lemmas.List.Elements.{Contains-append_left, Contains-push, Contains-push_cases}
use Rattle.nest_base.specs.declared.places.Point.{Point}
use Rattle.nest_base.specs.declared.places.Edge.{Edge}
use Rattle.nest_base.specs.Walks.{here, against}
use Rattle.nest_base.proofs.Lists.{Contains-head, Contains-later, Contains-cases, Contains-none}
use Rattle.plate_sides.specs.Components.{SameComponent}
use Rattle.plate_sides.proofs.HalfEdges.{twin_is_half_edge}
use Rattle.nest_base.proofs.ListReads.{one_read, read_pushed, read_kept}
use Rattle.half_edges.specs.Floods.{none, component_at, Joins, IsFlood, GetsNumber, AreKept}

pub Joins-turned : (edges : List Edge) (vertices : List Point) (v w : ℕ) → Joins edges vertices v w → Joins edges vertices w v
Joins-turned edges vertices v w j =
    record { place = j.other; other = j.place; at_place = j.at_other; at_other = j.at_place; edge = twin_is_half_edge edges (record { from = j.place; to = j.other }) j.edge }

-- the numbers after the vertex w was given the number c
pub component_at-set : (components : List ℕ) (w c v : ℕ) → w < length components →
    ((v ≡ w) × (component_at (set components w c) v ≡ c)) ⊎ ((v ≢ w) × (component_at (set components w c) v ≡ component_at components v))
component_at-set components w c v within = elim (cases_eq v w) [
  | inl same ↦ inl (same, subst (λ n. get_or (set components w c) n none ≡ c) (sym same) (get_or-set_same components w c none within))
  | inr other ↦ inr (other, get_or-set_other components w v c none other)
]

-- others keep theirs
pub set_keeps : (components : List ℕ) (w c : ℕ) → w < length components → component_at components w ≡ none → AreKept components (set components w c)
set_keeps components w c within bare v numbered = elim (component_at-set components w c v within) [
  | inl (same, is) ↦ absurd (numbered (ap (component_at components) same ∙ bare))
  | inr (other, is) ↦ is
]

-- and w has c
pub set_gives : (components : List ℕ) (w c : ℕ) → w < length components → component_at (set components w c) w ≡ c
set_gives components w c within = get_or-set_same components w c none within

at_or_past : (components : List ℕ) (v : ℕ) → (v < length components) ⊎ (component_at components v ≡ none)
at_or_past components v = elim (cases_lt v (length components)) [ inl less ↦ inl less | inr more ↦ inr (get_or_past components v none more) ]

-- what is known of a vertex that gets the number c, when the vertices in `old` were waiting and those in `new` will be
pub record IsReached (edges : List Edge) (vertices : List Point) (components : List ℕ) (marks later : List Point) (old new : List ℕ) (w c : ℕ) : Type 0 where
  pub within : w < length components
  pub had_none : component_at components w ≡ none
  pub some : c ≢ none
  pub newest : c + 1 ≡ length later
  pub marks_stay : (k : ℕ) (m : Point) → slice_get marks k ≡ Some m → slice_get later k ≡ Some m
  pub leads : (p : Point) → slice_get vertices w ≡ Some p → (mark : Point) × (slice_get later c ≡ Some mark) × SameComponent edges p mark
  pub old_last : (v : ℕ) → Contains old v → component_at components v ≡ c
  pub old_stay : (v : ℕ) → Contains old v → Contains new v
  pub waits : Contains new w
  pub no_more : (v : ℕ) → Contains new v → Contains old v ⊎ (w ≡ v)

flood_reached : (edges : List Edge) (vertices : List Point) (components : List ℕ) (marks later : List Point) (old new : List ℕ) (w c : ℕ) →
    IsFlood edges vertices components marks old → IsReached edges vertices components marks later old new w c → IsFlood edges vertices (set components w c) later new
flood_reached edges vertices components marks later old new w c f r = record {
  as_many = length-set components w c ∙ f.as_many;
  leads = λ v p at numbered. elim (component_at-set components w c v r.within) [
    | inl (same, is) ↦ rw is (r.leads p (subst (λ n. slice_get vertices n ≡ Some p) same at))
    | inr (other, is) ↦ rw is (let led = f.leads v p at (λ e. numbered (is ∙ e)) in (led.0, r.marks_stay (component_at components v) led.0 led.1, led.2))
  ];
  closed = λ v x join. elim (component_at-set components w c v r.within) [
    | inl (same, is) ↦ inr (inr (subst (Contains new) (sym same) r.waits))
    | inr (other, is) ↦ elim (f.closed v x join) [
      | inl bare ↦ inl (is ∙ bare)
      | inr (inl alike) ↦ elim (component_at-set components w c x r.within) [
        | inl (same, at) ↦ inl (is ∙ alike ∙ ap (component_at components) same ∙ r.had_none)
        | inr (apart, at) ↦ inr (inl (is ∙ alike ∙ sym at))
      ]
      | inr (inr waiting) ↦ inr (inr (r.old_stay v waiting))
    ]
  ];
  last = λ v waiting. elim (component_at-set components w c v r.within) [
    | inl (same, is) ↦ rw is r.newest
    | inr (other, is) ↦ elim (r.no_more v waiting) [
      | inl before ↦ rw (is, r.old_last v before) r.newest
      | inr same ↦ absurd (other (sym same))
    ]
  ];
}

-- at the beginning of a component
pub flood_begun : (edges : List Edge) (vertices : List Point) (components : List ℕ) (marks : List Point) (v : ℕ) (p : Point) →
    IsFlood edges vertices components marks [] → slice_get vertices v ≡ Some p → component_at components v ≡ none → length marks < none →
    IsFlood edges vertices (set components v (length marks)) (marks ++ p ∷ []) (v ∷ [])
flood_begun edges vertices components marks v p f at bare few =
    flood_reached edges vertices components marks (marks ++ p ∷ []) [] (v ∷ []) v (length marks) f (record {
      within = omega (arith, f.as_many, slice_get_within vertices v p at);
      had_none = bare;
      some = λ e. omega arith;
      newest = sym (length_push marks p);
      marks_stay = read_kept marks p;
      leads = λ q is. (p, read_pushed marks p, subst (λ r. SameComponent edges r p) (one_read vertices v p q at is) here);
      old_last = λ w waiting. absurd (Contains-none w waiting);
      old_stay = λ w waiting. absurd (Contains-none w waiting);
      waits = Contains-head v [];
      no_more = λ w waiting. elim (Contains-cases v w [] waiting) [ inl same ↦ inr same | inr more ↦ inl more ];
    })

-- the same, after the vertex was reached with the number c
pub flood_started : (edges : List Edge) (vertices : List Point) (components : List ℕ) (marks : List Point) (later more : List ℕ) (v c : ℕ) (p : Point) →
    IsFlood edges vertices components marks [] → slice_get vertices v ≡ Some p → component_at components v ≡ none → length marks < none → c ≡ length marks →
    GetsNumber components [] v c later more → IsFlood edges vertices later (marks ++ p ∷ []) more
flood_started edges vertices components marks later more v c p f at bare few is (inl (had_none, given, waits)) =
    rw (given, waits, is) (flood_begun edges vertices components marks v p f at bare few)
flood_started edges vertices components marks later more v c p f at bare few is (inr (numbered, given, waits)) = absurd (numbered bare)

pub reach_gives : (components found : List ℕ) (v c : ℕ) (later more : List ℕ) → v < length components → component_at components v ≡ none → GetsNumber components found v c later more →
    AreKept components later × (component_at later v ≡ c)
reach_gives components found v c later more within bare (inl (had_none, given, waits)) = rw given (set_keeps components v c within bare, set_gives components v c within)
reach_gives components found v c later more within bare (inr (numbered, given, waits)) = absurd (numbered bare)

-- an open vertex gives its number to a neighbour
pub flood_spread : (edges : List Edge) (vertices : List Point) (components : List ℕ) (marks : List Point) (u w c : ℕ) (found : List ℕ) →
    IsFlood edges vertices components marks (u ∷ found) → Joins edges vertices u w → component_at components w ≡ none → length marks ≤ none → c + 1 ≡ length marks →
    IsFlood edges vertices (set components w c) marks (u ∷ found ++ w ∷ [])
flood_spread edges vertices components marks u w c found f join bare few newest =
    let at_u : component_at components u + 1 ≡ length marks = f.last u (Contains-head u found) in
    let same : component_at components u ≡ c = omega arith in
    let led = f.leads u join.place join.at_place (λ e. omega arith) in
    flood_reached edges vertices components marks marks (u ∷ found) (u ∷ found ++ w ∷ []) w c f (record {
      within = omega (arith, f.as_many, slice_get_within vertices w join.other join.at_other);
      had_none = bare;
      some = λ e. omega arith;
      newest = newest;
      marks_stay = λ k m is. is;
      leads = λ p is. (led.0, ap (slice_get marks) (sym same) ∙ led.1, subst (λ r. SameComponent edges r led.0) (one_read vertices w join.other p join.at_other is) (against join.edge led.2));
      old_last = λ v waiting. omega (arith, f.last v waiting);
      old_stay = λ v waiting. Contains-append_left (u ∷ found) (w ∷ []) v waiting;
      waits = Contains-push (u ∷ found) w;
      no_more = λ v waiting. Contains-push_cases (u ∷ found) w v waiting;
    })

-- a neighbour of an open vertex that has a number has the same
pub flood_meets : (edges : List Edge) (vertices : List Point) (components : List ℕ) (marks : List Point) (u w : ℕ) (found : List ℕ) →
    IsFlood edges vertices components marks (u ∷ found) → Joins edges vertices u w → component_at components w ≢ none → component_at components w ≡ component_at components u
flood_meets edges vertices components marks u w found f join numbered = elim (f.closed w u (Joins-turned edges vertices u w join)) [
  | inl bare ↦ absurd (numbered bare)
  | inr (inl alike) ↦ alike
  | inr (inr waiting) ↦ omega (arith, f.last w waiting, f.last u (Contains-head u found))
]

-- a vertex all of whose neighbours have its number waits no longer
pub flood_done : (edges : List Edge) (vertices : List Point) (components : List ℕ) (marks : List Point) (u : ℕ) (found : List ℕ) →
    IsFlood edges vertices components marks (u ∷ found) → ((w : ℕ) → Joins edges vertices u w → component_at components w ≡ component_at components u) →
    IsFlood edges vertices components marks found
flood_done edges vertices components marks u found f all = record {
  as_many = f.as_many;
  leads = f.leads;
  closed = λ v w join. elim (f.closed v w join) [
    | inl bare ↦ inl bare
    | inr (inl alike) ↦ inr (inl alike)
    | inr (inr waiting) ↦ elim (Contains-cases u v found waiting) [
      | inl same ↦ inr (inl (ap (component_at components) (sym same) ∙ sym (all w (subst (λ n. Joins edges vertices n w) (sym same) join))))
      | inr more ↦ inr (inr more)
    ]
  ];
  last = λ v waiting. f.last v (Contains-later u v found waiting);
}

-- the order in which vertices wait doesn't matter
flood_same : (edges : List Edge) (vertices : List Point) (components : List ℕ) (marks : List Point) (old new : List ℕ) →
    ((v : ℕ) → Contains old v → Contains new v) → ((v : ℕ) → Contains new v → Contains old v) →
    IsFlood edges vertices components marks old → IsFlood edges vertices components marks new
flood_same edges vertices components marks old new there back f = record {
  as_many = f.as_many;
  leads = f.leads;
  closed = λ v w join. elim (f.closed v w join) [
    | inl bare ↦ inl bare
    | inr (inl alike) ↦ inr (inl alike)
    | inr (inr waiting) ↦ inr (inr (there v waiting))
  ];
  last = λ v waiting. f.last v (back v waiting);
}

-- the last of those that wait is taken
pub flood_taken : (edges : List Edge) (vertices : List Point) (components : List ℕ) (marks : List Point) (found rest : List ℕ) (u : ℕ) → found ≡ rest ++ u ∷ [] →
    IsFlood edges vertices components marks found → IsFlood edges vertices components marks (u ∷ rest)
flood_taken edges vertices components marks found rest u is f = flood_same edges vertices components marks (rest ++ u ∷ []) (u ∷ rest)
    (λ v waiting. elim (Contains-push_cases rest u v waiting) [
      | inl before ↦ Contains-later u v rest before
      | inr same ↦ subst (Contains (u ∷ rest)) same (Contains-head u rest)
    ])
    (λ v waiting. elim (Contains-cases u v rest waiting) [
      | inl same ↦ subst (Contains (rest ++ u ∷ [])) same (Contains-push rest u)
      | inr before ↦ Contains-append_left rest (u ∷ []) v before
    ])
    (subst (IsFlood edges vertices components marks) is f)

-- what waits is a vertex
pub flood_within : (edges : List Edge) (vertices : List Point) (components : List ℕ) (marks : List Point) (u : ℕ) (found : List ℕ) →
    IsFlood edges vertices components marks (u ∷ found) → length marks ≤ none → u < length vertices
flood_within edges vertices components marks u found f few = elim (at_or_past components u) [
  | inl within ↦ omega (arith, within, f.as_many)
  | inr past ↦ absurd (omega (arith, past, f.last u (Contains-head u found)))
]
