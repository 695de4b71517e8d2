use Rattle.std.proofs.Common.{◌≡◌, ◌≢◌, ◌∙◌, [], ◌∷◌, sym, ap, subst, ◌<◌, ℕ, List}
use Rattle.std.proofs.lemmas.Bool.{eqb-true, eqb-false}
use Rattle.rotation_systems.specs.RotationSystem.{to}
use Rattle.half_edges.specs.Graph.{rotations_of, origin_of}
use Rattle.cover_walks.specs.Choices.{HasUnburnt, IsReference}
use Rattle.component_route.specs.declared.choice.Reference.{Reference}
use Rattle.component_route.specs.Scans.{burnt_in}
use Rattle.component_route.proofs.References.{rotation_here, top_in, top_reference, corner_reference}
use Rattle.component_route.proofs.finish.reference_at.Goals as goal
use Rattle.component_route.proofs.finish.reference_at.Goals.{in-Some+else-eq, in_default}

pub from-requires : goal.from-requires
from-requires c =
    let (o, f, h, e) = c.requires.known in
    subst (λ g. c.in-Some.top.0 < g.sides) (sym (rotation_here o c.args.start.0 f c.args.graph.now c.args.route.now h))
    (top_in o c.args.start.0 f c.args.graph.now c.args.route.now h c.in-Some.top.0 c.in-Some.ensures.some.0 c.in-Some.ensures.some.1)

pub returns-then-eq : goal.returns-then-eq
returns-then-eq c o f h e =
    let x = c.args.graph.now in
    let r = c.args.route.now in
    let here = rotation_here o c.args.start.0 f x r h in
    let same : c.from.result.0 ≡ c.from-in-Some.result.0 = eqb-true c.from.result.0 c.from-in-Some.result.0 (sym c.eq.ensures ∙ c.if-eq.true) in
    let at : origin_of o c.in-Some.top.0 ≡ to (rotations_of o) f =
    sym (ap (λ g. g.from c.in-Some.top.0) here) ∙ (sym c.from.ensures.number ∙ (same ∙ (c.from-in-Some.ensures.number ∙ (ap (λ g. g.from c.args.at.0) here ∙ e)))) in
    subst (λ (q : Reference). IsReference (rotations_of o) c.args.start.0 r.stack (to (rotations_of o) f) q.left.0 q.right.0) (sym c.at.ensures)
    (top_reference o c.args.start.0 f x r h c.in-Some.top.0 c.in-Some.ensures.some.0 c.in-Some.ensures.some.1 at)

pub returns : goal.returns
returns c o f h e =
    let x = c.args.graph.now in
    let r = c.args.route.now in
    let here = rotation_here o c.args.start.0 f x r h in
    let at : origin_of x c.args.at.0 ≡ to (rotations_of o) f = ap (λ g. g.from c.args.at.0) here ∙ e in
    let apart : (s : ℕ) (rest : List ℕ) → r.stack ≡ s ∷ rest → origin_of o s ≢ to (rotations_of o) f =
    λ s rest top q. elim c.match-top.branch [
      | in-Some+else-eq w ↦
          let is : s ≡ w.in-Some.top.0 = let a = w.in-Some.ensures.some.1 in cc in
          let leaves : origin_of x w.in-Some.top.0 ≡ origin_of o s = ap (λ g. g.from w.in-Some.top.0) here ∙ ap (origin_of o) (sym is) in
          eqb-false w.from.result.0 w.from-in-Some.result.0 (sym w.eq.ensures ∙ w.if-eq.false) (w.from.ensures.number ∙ (leaves ∙ (q ∙ (sym at ∙ sym w.from-in-Some.ensures.number))))
      | in_default w ↦ let a : r.stack ≡ [] = w.in_default.ensures.none in cc
    ] in
    corner_reference o c.args.start.0 f x r h (subst (HasUnburnt (rotations_of x) (burnt_in x)) at c.requires.free) apart c.ccw.result.0 c.ccw.ensures.number
