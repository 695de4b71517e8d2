use Rattle.std.proofs.Common.{arith, rules, ◌≡◌, ◌<◌, ◌+◌, length, [], ◌∷◌, ◌++◌, ap, ◌∙◌, vec_len, vec_capacity}
use Rattle.oe_cover.proofs.GrownDrafts.{ends_few, IsAppended, chains_grow, draft_grows}
use Rattle.oe_cover.proofs.draft.Draft.push_chain.Goals as goal
use Rattle.oe_cover.proofs.draft.Draft.push_chain.Goals.{After-unwrap-2}

-- fewer ends than half-edges, once the chain is pushed
pub unwrap-requires-2 : goal.unwrap-requires-2
unwrap-requires-2 c =
    let (room, is, few, fits) = c.requires.known in
    let less : vec_len c.args.self.now.ends < vec_capacity c.args.self.now.ends = omega (arith, is.ends, fits, c.requires.some, ends_few 0 c.args.self.now.ends.items (length c.args.self.now.sides.items) is.are_ends) in
    c.push.ensures.succeeds less

appended : (c : After-unwrap-2) → IsAppended c.args.self.now (record { sides = c.extend_from_slice.new.self; ends = c.push.new.self }) c.args.chain.now
appended c = record {
  some = c.requires.some;
  sides = search rules;
  ends =
      let pushed : c.push.new.self.items ≡ c.args.self.now.ends.items ++ c.len.result ∷ [] = search rules in
      let long : vec_len c.extend_from_slice.new.self ≡ vec_len c.args.self.now.sides + length c.args.chain.now = search rules in
      pushed ∙ ap (λ n. c.args.self.now.ends.items ++ n ∷ []) (omega (arith, c.len.ensures, long));
  sides_room = c.extend_from_slice.ensures.capacity;
  ends_room = c.push.ensures.capacity;
}

pub returns-clause-chains : goal.returns-clause-chains
returns-clause-chains c =
    let (room, is, few, fits) = c.requires.known in
    chains_grow c.args.self.now (record { sides = c.extend_from_slice.new.self; ends = c.push.new.self }) c.args.chain.now room is (appended (goal.at.returns-clause-chains c).After-unwrap-2)

pub returns-clause-room : goal.returns-clause-room
returns-clause-room c = λ room is. draft_grows c.args.self.now (record { sides = c.extend_from_slice.new.self; ends = c.push.new.self }) c.args.chain.now room is (appended (goal.at.returns-clause-room c).After-unwrap-2)
