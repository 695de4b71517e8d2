-- Lead-ins: straight cuts in scrap, to the vertex where a trail begins.
use Rattle.std.specs.Prelude.{◌≡◌, ◌≢◌, ◌⊎◌, ℤ, pos, negsuc, ◌+ℤ◌, ◌*ℤ◌, List, [], ◌∷◌, ◌++◌, Option, Some, None, All, Contains, map}
use Rattle.nest_base.specs.declared.places.Point.{Point}
use Rattle.nest_base.specs.declared.places.Edge.{Edge}
use Rattle.nest_base.specs.Plane.{RationalPoint, IsAt, IsOn, HalfEdge, direction, heading}
use Rattle.nest_base.specs.Turn.{IsInsideAngle}
use Rattle.plate_sides.specs.HalfEdges.{IsNextCcw}
use Rattle.plate_sides.specs.Links.{At}
use Rattle.plate_parts.specs.declared.leads.Lead.{Lead}
use Rattle.plate_parts.specs.Parts.{IsScrap}

-- the two corners of a half-edge at its first vertex
pub data Hand : Type 0 where
  Left : Hand
  Right : Hand

-- a corner of s lies between a and b: the left one between s and the next counterclockwise, the right one between the next clockwise and s. It
-- belongs to the face of a
abbrev pub IsCorner : List Edge → HalfEdge → Hand → HalfEdge → HalfEdge → Type 0
IsCorner edges s Left a b = (a ≡ s) × IsNextCcw edges s b
IsCorner edges s Right a b = (b ≡ s) × IsNextCcw edges a s

-- the segment from q to v has no point but v in common with the segment from a to b
abbrev pub TouchesAtMostAt : Point → Point → Point → Point → Type 0
TouchesAtMostAt v q a b = (p : RationalPoint) → IsOn p q v → IsOn p a b → IsAt p v

-- a lead-in from q to the vertex of the corner between a and b fits this corner
pub record Fits (edges : List Edge) (names : List Point) (earlier : List Lead) (q : Point) (a b : HalfEdge) : Type 0 where
  pub apart : q ≢ a.from
  pub in_corner : IsInsideAngle (heading a) (direction a.from q) (heading b)
  pub in_scrap : IsScrap edges names (At a)
  pub off_edges : (e : Edge) → Contains edges e → TouchesAtMostAt a.from q e.low e.high
  pub off_earlier : (l : Lead) → Contains earlier l → TouchesAtMostAt a.from q l.from l.to

abbrev pub FitsHand : List Edge → List Point → List Lead → HalfEdge → Hand → Point → Type 0
FitsHand edges names earlier s hand q = (a : HalfEdge) × (b : HalfEdge) × IsCorner edges s hand a b × Fits edges names earlier q a b

-- it is free before s: it fits one of the two corners of s
abbrev pub IsFreeLeadIn : List Edge → List Point → List Lead → HalfEdge → Point → Type 0
IsFreeLeadIn edges names earlier s q = FitsHand edges names earlier s Left q ⊎ FitsHand edges names earlier s Right q

-- sixteen ways to go, counterclockwise from east
abbrev pub sixteen_ways : List Point
sixteen_ways =
    record { x = pos 2; y = pos 0 } ∷ record { x = pos 2; y = pos 1 } ∷ record { x = pos 2; y = pos 2 } ∷ record { x = pos 1; y = pos 2 } ∷
    record { x = pos 0; y = pos 2 } ∷ record { x = negsuc 0; y = pos 2 } ∷ record { x = negsuc 1; y = pos 2 } ∷ record { x = negsuc 1; y = pos 1 } ∷
    record { x = negsuc 1; y = pos 0 } ∷ record { x = negsuc 1; y = negsuc 0 } ∷ record { x = negsuc 1; y = negsuc 1 } ∷ record { x = negsuc 0; y = negsuc 1 } ∷
    record { x = pos 0; y = negsuc 1 } ∷ record { x = pos 1; y = negsuc 1 } ∷ record { x = pos 2; y = negsuc 1 } ∷ record { x = pos 2; y = negsuc 0 } ∷ []

-- the place that lies k times this way from v
abbrev pub away_from : Point → ℤ → Point → Point
away_from v k way = record { x = v.x +ℤ (way.x *ℤ k); y = v.y +ℤ (way.y *ℤ k) }

-- the places around v that are tried as the beginning of a lead-in, in micrometres: long lead-ins before short ones
abbrev pub tried_around : Point → List Point
tried_around v = map (away_from v (pos 2000)) sixteen_ways ++ map (away_from v (pos 500)) sixteen_ways

-- the first of the places that fits, or that none does
pub data IsFirstFit (fits : Point → Type 0) (places : List Point) : Option Point → Type 0 where
  first : (before after : List Point) {q : Point} → places ≡ before ++ q ∷ after → All (λ p. fits p → ⊥) before → fits q →
      IsFirstFit fits places (Some q)
  none : All (λ p. fits p → ⊥) places → IsFirstFit fits places None

-- the first of 64 tries: the 32 places in the left corner, then in the right one
pub data IsFirstLeadIn (edges : List Edge) (names : List Point) (earlier : List Lead) (s : HalfEdge) (answer : Option Point) : Type 0 where
  left : (q : Point) → answer ≡ Some q → IsFirstFit (FitsHand edges names earlier s Left) (tried_around s.from) (Some q) →
      IsFirstLeadIn edges names earlier s answer
  right : IsFirstFit (FitsHand edges names earlier s Left) (tried_around s.from) None →
      IsFirstFit (FitsHand edges names earlier s Right) (tried_around s.from) answer → IsFirstLeadIn edges names earlier s answer

-- the lead-in of a chain that begins with s, where it has one
abbrev pub with_lead : HalfEdge → Option Point → List Lead → List Lead
with_lead s None earlier = earlier
with_lead s (Some q) earlier = earlier ++ record { from = q; to = s.from } ∷ []

-- the lead-ins of chains that begin with these half-edges, each the first try that is free with all before it
pub data AreFirstLeadIns (edges : List Edge) (names : List Point) : List Lead → List HalfEdge → List (Option Point) → Type 0 where
  none : {earlier : List Lead} → AreFirstLeadIns edges names earlier [] []
  next : {earlier : List Lead} {s : HalfEdge} {firsts : List HalfEdge} {lead : Option Point} {leads : List (Option Point)} →
      IsFirstLeadIn edges names earlier s lead → AreFirstLeadIns edges names (with_lead s lead earlier) firsts leads →
      AreFirstLeadIns edges names earlier (s ∷ firsts) (lead ∷ leads)
