use Rattle.std.proofs.Common.{arith, inl, inr, take, refl, sym, subst}
use Rattle.std.proofs.lemmas.Bool.{true≢false}
use Rattle.std.proofs.lemmas.List.{take_all}
use Rattle.std.proofs.lemmas.List.Elements.{Contains-push_cases}
use Rattle.plate_parts.specs.Parts.{IsOnDrawing}
use Rattle.std.specs.Prelude.{Contains}
use Rattle.nest_base.specs.Plane.{IsOn, rational}
use Rattle.nest_base.proofs.ListReads.{Contains-from_read}
use Rattle.face_nesting.proofs.Prefixes.{take_read}
use Rattle.face_nesting.proofs.places.is_on_edge.Goals as goal

pub returns-then-between : goal.returns-then-between
returns-then-between c = (λ _. (c.edge-edge.result, Contains-from_read c.args.graph.now.edges c.loop-k.k c.edge-edge.result c.edge-edge.ensures.edge, c.if-between.ensures.0 refl), λ _. refl)

pub loop-k-preserved : goal.loop-k-preserved
loop-k-preserved c (e, among, on) =
    let edges = c.args.graph.now.edges in
    elim (Contains-push_cases (take c.loop-k.k edges) c.edge-edge.result e (subst (λ l. Contains l e) (take_read edges c.loop-k.k c.edge-edge.result c.edge-edge.ensures.edge) among)) [
      | inl before ↦ c.loop-k.invariant (e, before, on)
      | inr last ↦ true≢false (sym (c.if-between.ensures.1 (subst (λ x. IsOn (rational c.args.p) x.low x.high) (sym last) on)))
    ]

pub returns : goal.returns
returns c =
    let edges = c.args.graph.now.edges in
    let all = take_all c.loop-k.k edges (omega (arith, c.loop-k-test.false, c.count-k-end.ensures.count)) in
    (λ h. absurd (true≢false (sym h)), λ on. absurd (c.loop-k.invariant (subst (λ l. IsOnDrawing l c.args.p) (sym all) on)))
