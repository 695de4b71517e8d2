-- The next chain is one of those that are wanting.
use Rattle.std.proofs.Common.{arith, ◌≡◌, ◌+◌, ◌-◌, ℕ, List, length, length-append, length-take, length-drop, [], ◌∷◌, ◌++◌, take, drop, append_assoc, sym, ap, ◌∙◌}
use Rattle.std.proofs.lemmas.List.{length-map}
use Rattle.half_edges.specs.Graph.{rotations_of}
use Rattle.oe_cover.specs.Cuts.{chains_by}
use Rattle.nest_base.specs.NumberLists.{side_numbers}
use Rattle.face_nesting.proofs.NumbersOf.{side_number, side_numbers-between}
use Rattle.oe_cover.specs.Drafts.{chains_in}
use Rattle.oe_cover.proofs.Pieces.{take_further}
use Rattle.oe_cover.proofs.Cuts.{chain_from}
use Rattle.oe_cover.proofs.draft.Draft.push_order.Goals as goal

-- one chain more is appended, and one less is wanting
moved_over : (before after : List (List ℕ)) (chain : List ℕ) (rest wanting all : List (List ℕ)) → after ≡ before ++ chain ∷ [] → wanting ≡ chain ∷ rest → before ++ wanting ≡ all →
    after ++ rest ≡ all
moved_over before after chain rest wanting all pushed next together = ap (λ chains. chains ++ rest) pushed ∙ append_assoc before (chain ∷ []) rest ∙ ap (λ chains. before ++ chains) (sym next) ∙ together

pub push_chain-requires-clause-known : goal.push_chain-requires-clause-known
push_chain-requires-clause-known g c =
    let (room, is, few, fits) = c.requires.known in
    let (within, chains, sides, keeps) = c.loop-first.invariant in
    let order = c.args.order.now in
    let first = c.loop-first.first in
    let behind = c.chain_end-behind.result in
    let so_far : length c.loop-first.self.sides.items ≡ length c.args.self.now.sides.items + length (take first order) = ap length sides ∙ length-append c.args.self.now.sides.items (take first order) in
    (room, keeps room is, few, omega (arith, fits, so_far, length-take first order, length-take (behind - first) (drop first order), length-drop first order, c.chain_end-behind.ensures.bound, c.chain_end-behind.ensures.some))

pub push_chain-requires-clause-some : goal.push_chain-requires-clause-some
push_chain-requires-clause-some g c =
    let order = c.args.order.now in
    let first = c.loop-first.first in
    let behind = c.chain_end-behind.result in
    omega (arith, length-take (behind - first) (drop first order), length-drop first order, c.chain_end-behind.ensures.bound, c.chain_end-behind.ensures.some)

pub loop-first-preserved : goal.loop-first-preserved
loop-first-preserved g c =
    let (within, chains, sides, keeps) = c.loop-first.invariant in
    let graph = rotations_of c.args.graph.now in
    let order = c.args.order.now in
    let numbers = side_numbers order in
    let first = c.loop-first.first in
    let behind = c.chain_end-behind.result in
    let chain = side_numbers (take (behind - first) (drop first order)) in (
      c.chain_end-behind.ensures.bound,
      λ rule is.
          let rest = chains_by rule graph (drop behind numbers) in
          let next : chains_by rule graph (drop first numbers) ≡ chain ∷ rest =
          chain_from rule graph numbers first behind (omega (arith, c.loop-first-test.true, length-map order side_number)) (c.chain_end-behind.ensures.long rule is)
          ∙ ap (λ numbers_of. numbers_of ∷ rest) (sym (side_numbers-between order first behind)) in
          moved_over (chains_in c.loop-first.self) (chains_in c.push_chain.new.self) chain rest (chains_by rule graph (drop first numbers))
          (chains_in c.args.self.now ++ chains_by rule graph numbers) c.push_chain.ensures.chains next (chains rule is),
      c.push_chain.ensures.sides ∙ ap (λ xs. xs ++ take (behind - first) (drop first order)) sides
          ∙ append_assoc c.args.self.now.sides.items (take first order) (take (behind - first) (drop first order))
          ∙ ap (λ xs. c.args.self.now.sides.items ++ xs) (sym (take_further order first behind (omega (arith, c.chain_end-behind.ensures.some)))),
      λ room is. c.push_chain.ensures.room room (keeps room is),
    )
