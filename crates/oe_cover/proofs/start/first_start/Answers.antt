use Rattle.std.proofs.Common.{get_or, subst, sym}
use Rattle.std.specs.Prelude.{Contains}
use Rattle.std.proofs.lemmas.Option.{slice_get-get_or}
use Rattle.nest_base.proofs.ListReads.{read-map, Contains-from_read}
use Rattle.nest_base.specs.NumberLists.{side_numbers}
use Rattle.face_nesting.specs.Nesting.{cycle_at}
use Rattle.face_nesting.proofs.NumbersOf.{side_number}
use Rattle.oe_cover.specs.Starts.{FirstOddIs, IsFirstStart, IsLawfulStart}
use Rattle.oe_cover.proofs.FirstStarts.{cycle_below, start_is, start_is_lawful, may_start}
use Rattle.oe_cover.proofs.start.first_start.Goals as goal
use Rattle.oe_cover.proofs.start.first_start.Goals.{After-unwrap_or}

pub first_odd-requires : goal.first_odd-requires
first_odd-requires c k d within =
    let sides = c.outer_sides.result.now in
    let s = get_or sides k d in
    let stands : Contains (side_numbers sides) s.0 = Contains-from_read (side_numbers sides) k s.0 (read-map side_number sides k s (slice_get-get_or sides k d within)) in
    cycle_below c.args.graph.now c.args.faces.now c.args.c.0 s.0 c.requires.cycles c.requires.within (subst (λ cycle. Contains cycle s.0) c.outer_sides.ensures stands)

-- what is found
found : (c : After-unwrap_or) → IsFirstStart c.args.graph.now (cycle_at c.args.faces.now c.args.c.0) c.unwrap_or.result.0
found c =
    let told = subst (λ cycle. FirstOddIs c.args.graph.now cycle c.first_odd.result) c.outer_sides.ensures c.first_odd.ensures in
    subst (λ s. IsFirstStart c.args.graph.now (cycle_at c.args.faces.now c.args.c.0) s.0) (sym c.unwrap_or.ensures)
    (start_is c.args.graph.now c.args.faces.now c.args.c.0 c.first_odd.result c.mark_side.result told c.mark_side.ensures)

pub returns-clause-first : goal.returns-clause-first
returns-clause-first c = found (goal.at.returns-clause-first c).After-unwrap_or

-- it is a half-edge at which the cover may start
lawful : (c : After-unwrap_or) → IsLawfulStart c.args.graph.now (cycle_at c.args.faces.now c.args.c.0) c.unwrap_or.result.0
lawful c = start_is_lawful c.args.graph.now (cycle_at c.args.faces.now c.args.c.0) c.unwrap_or.result.0 (found c)

pub returns-clause-lawful : goal.returns-clause-lawful
returns-clause-lawful c = lawful (goal.at.returns-clause-lawful c).After-unwrap_or

pub returns-clause-start : goal.returns-clause-start
returns-clause-start c plane mark h at side =
    may_start c.args.graph.now c.args.faces.now c.args.c.0 c.unwrap_or.result.0 mark h plane c.requires.cycles at side (lawful (goal.at.returns-clause-start c).After-unwrap_or)

pub returns-clause-within : goal.returns-clause-within
returns-clause-within c =
    cycle_below c.args.graph.now c.args.faces.now c.args.c.0 c.unwrap_or.result.0 c.requires.cycles c.requires.within
    (lawful (goal.at.returns-clause-within c).After-unwrap_or).stands
