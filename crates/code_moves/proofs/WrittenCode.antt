-- What is written for chains burns these chains.
use Rattle.std.proofs.Common.{◌≡◌, List, [], ◌++◌, map, ap, ◌∙◌}
use Rattle.std.specs.Prelude.{flat_map, All}
use Rattle.std.specs.List.{AllByRecursion}
use Rattle.std.proofs.lemmas.List.{append-nil, map-append}
use Rattle.std.proofs.lemmas.List.Elements.{recursion_from_All}
use Rattle.nest_base.specs.declared.places.Point.{Point}
use Rattle.nest_base.specs.Range.{IsWithin}
use Rattle.code_moves.specs.declared.moves.Move.{Move}
use Rattle.code_moves.specs.BurntChains.{CanBeWritten, burnt_legs, begins_lighting, BurnsChains}
use Rattle.code_moves.specs.CodeText.{code_text}
use Rattle.code_moves.specs.Meaning.{code_range, code_refusal_of, moves_of, refusal_from, moves_from, content_or_empty}
use Rattle.code_moves.specs.Moves.{way, lit_moves}
use Rattle.code_moves.specs.Words.{Word, Words}
use Rattle.micron_decimals.proofs.Bytes.{all_imply}
use Rattle.code_moves.proofs.CodeLines.{IsWritable, head_lines, chain_lines, tail_lines, code_lines, code_is_lines, lines_of-code_text}
use Rattle.code_moves.proofs.Pieces.{unlit, Done, then_done, refusal_in, refusal_of_lines, contents_of_lines}
use Rattle.code_moves.proofs.Steps.{ends}
use Rattle.code_moves.proofs.Chains.{writable, AreCodePlaces, written_chain, end_of_all, end_is_code_place, does_chains, origin, origin_is_code_place, does_head}

-- all but the tail
abbrev front_lines : List (List Point) → List (List Word)
front_lines chains = head_lines ++ flat_map chain_lines chains

does_front : (chains : List (List Point)) → AllByRecursion AreCodePlaces chains →
    Done [] (map Words (front_lines chains)) (flat_map burnt_legs chains) (flat_map (λ places. begins_lighting (burnt_legs places)) chains) (unlit (end_of_all origin chains))
does_front chains h = then_done [] (unlit origin) (unlit (end_of_all origin chains)) head_lines (flat_map chain_lines chains) [] (flat_map burnt_legs chains) [] (flat_map (λ places. begins_lighting (burnt_legs places)) chains)
    does_head (does_chains origin chains h)

all_writable : (chains : List (List Point)) → All CanBeWritten chains → AllByRecursion (AllByRecursion IsWritable) chains
all_writable chains h = all_imply CanBeWritten (AllByRecursion IsWritable) (λ places within. all_imply (IsWithin code_range) IsWritable writable places (recursion_from_All (IsWithin code_range) places within)) chains (recursion_from_All CanBeWritten chains h)

refusal_is : (chains : List (List Point)) → AllByRecursion (AllByRecursion IsWritable) chains → code_refusal_of (code_text chains) ≡ refusal_in [] (map Words (front_lines chains) ++ map Words tail_lines)
unfolding code_refusal_of
refusal_is chains h = ap (refusal_from []) (lines_of-code_text chains h) ∙ refusal_of_lines [] (code_lines chains) (code_is_lines chains h) ∙ ap (refusal_in []) (map-append Words (front_lines chains) tail_lines)

moves_are : (chains : List (List Point)) → AllByRecursion (AllByRecursion IsWritable) chains → moves_of (code_text chains) ≡ moves_from [] (map Words (front_lines chains) ++ map Words tail_lines)
unfolding moves_of
moves_are chains h = ap (λ lines. moves_from [] (map content_or_empty lines)) (lines_of-code_text chains h) ∙ ap (moves_from []) (contents_of_lines (code_lines chains) (code_is_lines chains h)) ∙ ap (moves_from []) (map-append Words (front_lines chains) tail_lines)

-- the theorem
pub written_code_burns : (chains : List (List Point)) → All CanBeWritten chains → BurnsChains chains (code_text chains)
written_code_burns chains h =
    let written = all_imply CanBeWritten AreCodePlaces written_chain chains (recursion_from_All CanBeWritten chains h) in
    let writable_places = all_writable chains h in
    let front = does_front chains written in
    let end = ends (end_of_all origin chains) front.later (end_is_code_place origin chains origin_is_code_place written) front.stands in
    let burns : lit_moves (moves_of (code_text chains)) ≡ front.burns =
    ap lit_moves (moves_are chains writable_places) ∙ front.leads.burnt (map Words tail_lines) ∙ ap (λ r. front.burns ++ r) end.burns_nothing ∙ append-nil front.burns in
    record {
      accepted = refusal_is chains writable_places ∙ front.leads.accepted (map Words tail_lines) ∙ end.accepted;
      ways = ap (map way) burns ∙ front.ways_are;
      lightings = ap (map (λ (m : Move). m.fresh)) burns ∙ front.fresh_are;
    }
