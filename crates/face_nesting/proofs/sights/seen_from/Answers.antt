use Rattle.std.proofs.Common.{arith, take, Some, None, refl, sym, subst, ◌∙◌}
use Rattle.std.proofs.lemmas.Bool.{true≢false}
use Rattle.std.proofs.lemmas.List.{take_all}
use Rattle.plate_sides.specs.Links.{SeesNone}
use Rattle.face_nesting.proofs.SeenSoFar.{IsNearestOf, nearest_unmet, nearest_first, nearest_taken, nearest_kept, nearest_at, nearest_within, nearest_is_seen}
use Rattle.face_nesting.proofs.sights.seen_from.Goals as goal
use Rattle.face_nesting.proofs.sights.seen_from.Goals.{in-None, in-Some, then-is_first, else-is_first}

pub loop-k-preserved-then-not-west_of : goal.loop-k-preserved-then-not-west_of
loop-k-preserved-then-not-west_of g c =
    let edges = g.E.EdgeList.edges c.args.edges.now in
    nearest_unmet edges c.loop-k.k c.edge-e.result c.edge-e.ensures.edge c.args.p
    (λ d down met. absurd (true≢false (sym (c.if-not-west_of.ensures.met.1 (d, down, met))))) c.loop-k.nearest c.loop-k.invariant

pub edge-requires-clause-within : goal.edge-requires-clause-within
edge-requires-clause-within g c =
    let edges = g.E.EdgeList.edges c.args.edges.now in
    nearest_within edges (take c.loop-k.k edges) c.args.p c.in-Some.n (subst (IsNearestOf edges (take c.loop-k.k edges) c.args.p) c.in-Some.is c.loop-k.invariant)

pub edge-requires-2-clause-within : goal.edge-requires-2-clause-within
edge-requires-2-clause-within g c =
    let edges = g.E.EdgeList.edges c.args.edges.now in
    nearest_within edges (take c.loop-k.k edges) c.args.p c.in_ok-k.k (subst (IsNearestOf edges (take c.loop-k.k edges) c.args.p) c.in_ok-k.was c.loop-k.invariant)

pub downward-requires : goal.downward-requires
downward-requires g c =
    let edges = g.E.EdgeList.edges c.args.edges.now in
    let within = nearest_within edges (take c.loop-k.k edges) c.args.p c.in_ok-k.k (subst (IsNearestOf edges (take c.loop-k.k edges) c.args.p) c.in_ok-k.was c.loop-k.invariant) in
    omega (arith, within, c.count-k-end.ensures.few)

pub loop-k-preserved : goal.loop-k-preserved
loop-k-preserved g c =
    let edges = g.E.EdgeList.edges c.args.edges.now in
    let k = c.loop-k.k in
    let p = c.args.p in
    let at = c.edge-e.ensures.edge in
    let met = c.if-not-west_of.ensures.met.0 refl in
    elim c.match-nearest.branch [
      | in-None w ↦
          let none : SeesNone (take k edges) p = subst (IsNearestOf edges (take k edges) p) w.in-None.is c.loop-k.invariant in
          elim c.if-is_first.branch [
            | then-is_first v ↦ rw v.nearest-is (nearest_first edges k _ at p met.0 met.1 met.2 none)
            | else-is_first v ↦ absurd (true≢false (sym w.is_first-is ∙ v.if-is_first.false))
          ]
      | in-Some w ↦
          let known = subst (IsNearestOf edges (take k edges) p) w.in-Some.is c.loop-k.invariant in
          let nearer = w.is_nearer-is_first.ensures.nearer met.0 known.side met.1 (nearest_at edges (take k edges) p w.in-Some.n known w.edge.result w.edge.ensures.edge) in
          elim c.if-is_first.branch [
            | then-is_first v ↦ rw v.nearest-is (nearest_taken edges k _ at p met.0 met.1 met.2 w.in-Some.n known (nearer.0 (sym w.is_first-is ∙ v.if-is_first.true)))
            | else-is_first v ↦ rw (v.nearest-is ∙ w.nearest-is) (nearest_kept edges k _ at p met.0 met.1 met.2 w.in-Some.n known (λ near. true≢false (sym (nearer.1 near) ∙ sym w.is_first-is ∙ v.if-is_first.false)))
          ]
    ]

pub returns-in_err-k-clause-none : goal.returns-in_err-k-clause-none
returns-in_err-k-clause-none g c =
    let edges = g.E.EdgeList.edges c.args.edges.now in
    let all = take_all c.loop-k.k edges (omega (arith, c.loop-k-test.false, c.count-k-end.ensures.count)) in
    rw c.from_residual.ensures (subst (λ l. IsNearestOf edges l c.args.p None) all (subst (IsNearestOf edges (take c.loop-k.k edges) c.args.p) c.in_err-k.was c.loop-k.invariant))

pub returns-clause-found : goal.returns-clause-found
returns-clause-found g c =
    let edges = g.E.EdgeList.edges c.args.edges.now in
    let all = take_all c.loop-k.k edges (omega (arith, c.loop-k-test.false, c.count-k-end.ensures.count)) in
    let known = subst (λ l. IsNearestOf edges l c.args.p (Some c.in_ok-k.k)) all (subst (IsNearestOf edges (take c.loop-k.k edges) c.args.p) c.in_ok-k.was c.loop-k.invariant) in
    (known.side, c.downward.ensures edges known.side c.edge-2.ensures.edge (nearest_at edges edges c.args.p c.in_ok-k.k known c.edge-2.result c.edge-2.ensures.edge), nearest_is_seen edges c.args.p c.in_ok-k.k known)
