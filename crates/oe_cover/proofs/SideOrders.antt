-- Where an order of half-edges goes on, told by the vertices that are read.
use Rattle.std.proofs.Common.{arith, ◌≡◌, ◌<◌, ◌+◌, ℕ, Bool, List, length, get_or, sym, ap, ap₂, ◌∙◌}
use Rattle.std.proofs.lemmas.List.{get_or-map}
use Rattle.nest_base.specs.declared.numbers.Side.{Side}
use Rattle.rotation_systems.specs.RotationSystem.{to}
use Rattle.rotation_systems.specs.Twins.{twin_number}
use Rattle.half_edges.specs.Graph.{Graph, rotations_of, origin_of}
use Rattle.nest_base.specs.NumberLists.{side_numbers}
use Rattle.face_nesting.proofs.NumbersOf.{side_number}
use Rattle.oe_cover.proofs.Cuts.{said_at}

pub number_at : (order : List Side) (i : ℕ) (d : Side) → i < length order → get_or (side_numbers order) i 0 ≡ (get_or order i d).0
number_at order i d within = get_or-map side_number order i d 0 within

-- the vertices to which the half-edge at place i leads, and that the next one leaves
pub record AreMet (graph : Graph) (order : List Side) (d : Side) (i u v : ℕ) : Type 0 where
  pub within : i + 1 < length order
  pub leads : u ≡ origin_of graph (twin_number (get_or order i d).0)
  pub leaves : v ≡ origin_of graph (get_or order (i + 1) d).0

leads_to : {graph : Graph} {order : List Side} {d : Side} {i u v : ℕ} → AreMet graph order d i u v → to (rotations_of graph) (get_or (side_numbers order) i 0) ≡ u
leads_to {graph} {order} {d} {i} met = ap (λ s. origin_of graph (twin_number s)) (number_at order i d (omega (arith, met.within))) ∙ sym met.leads

is_left : {graph : Graph} {order : List Side} {d : Side} {i u v : ℕ} → AreMet graph order d i u v → origin_of graph (get_or (side_numbers order) (i + 1) 0) ≡ v
is_left {graph} {order} {d} {i} met = ap (origin_of graph) (number_at order (i + 1) d met.within) ∙ sym met.leaves

-- so what a rule says of them it says at that place of the order
pub said_there : {graph : Graph} {order : List Side} {d : Side} {i u v : ℕ} (rule : ℕ → ℕ → Bool) → AreMet graph order d i u v → said_at rule (rotations_of graph) (side_numbers order) i ≡ rule u v
said_there rule met = ap₂ rule (leads_to met) (is_left met)
