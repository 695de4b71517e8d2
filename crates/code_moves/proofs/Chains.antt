-- What the chains of written code do, one behind the other.
use Rattle.std.proofs.Common.{arith, ◌≡◌, ◌≤◌, ℕ, Bool, true, false, List, [], ◌∷◌, map, ℤ, pos, negsuc, refl, subst}
use Rattle.std.specs.Prelude.{flat_map, unsigned_abs}
use Rattle.std.specs.List.{AllByRecursion}
use Rattle.std.proofs.lemmas.Bool.{le-leb}
use Rattle.std.proofs.lemmas.Int.{ints}
use Rattle.std.proofs.lemmas.List.Elements.{recursion_from_All}
use Rattle.nest_base.specs.declared.places.Point.{Point}
use Rattle.nest_base.specs.Order.{is_place}
use Rattle.nest_base.specs.Plane.{HalfEdge}
use Rattle.nest_base.specs.Range.{IsNear, IsWithin}
use Rattle.nest_base.proofs.Lists.{last_of}
use Rattle.nest_base.proofs.Points.{Decides-is_place}
use Rattle.code_moves.specs.BurntChains.{CanBeWritten, or_spot, burnt_legs, begins_lighting}
use Rattle.code_moves.specs.Meaning.{code_range}
use Rattle.code_moves.specs.Words.{Words}
use Rattle.micron_decimals.proofs.Bytes.{all_imply}
use Rattle.micron_decimals.proofs.WrittenNumbers.{written_number}
use Rattle.code_moves.proofs.BurntLegs.{moving, moving_by}
use Rattle.code_moves.proofs.CodeLines.{travel, burn, torch_words, burn_lines, chain_lines, units_words, feed_words, head_lines, IsWritable}
use Rattle.code_moves.proofs.Pieces.{unlit, burning, Done, Does, then_does}
use Rattle.code_moves.proofs.Steps.{IsCodePlace, does_nothing, does_travel, does_light, does_burn, does_stay, does_put_out, does_put_out_on_spot}

near_abs : (n : ℕ) (z : ℤ) → IsNear n z → unsigned_abs z ≤ n
near_abs n (pos k) h = omega (arith, ints, h.0, h.1)
near_abs n (negsuc k) h = omega (arith, ints, h.0, h.1)

-- a place within the range can be written
pub writable : (p : Point) → IsWithin code_range p → IsWritable p
writable p h = record { x = omega (arith, near_abs code_range p.x h.x); y = omega (arith, near_abs code_range p.y h.y) }

-- and is read as it is written
pub code_place : (p : Point) → IsWithin code_range p → IsCodePlace p
code_place p h = record {
  near_x = le-leb (unsigned_abs p.x) code_range (near_abs code_range p.x h.x);
  near_y = le-leb (unsigned_abs p.y) code_range (near_abs code_range p.y h.y);
  read_x = (written_number p.x (writable p h).x).read;
  read_y = (written_number p.y (writable p h).y).read;
}

abbrev pub AreCodePlaces : List Point → Type 0
AreCodePlaces places = AllByRecursion IsCodePlace places

-- no leg but the first of a lighting is fresh
abbrev not_fresh : List HalfEdge → List Bool
not_fresh hs = map (λ _. false) hs

-- on from p, where the torch has burnt already, and put out at the end
does_rest : (p : Point) (places : List Point) → IsCodePlace p → AreCodePlaces places →
    Does (burning true p) (burn_lines places) (moving (p ∷ places)) (not_fresh (moving (p ∷ places))) (unlit (last_of p places))
does_rest p [] h k = does_put_out p h
does_rest p (q ∷ places) h k = by_place (is_place q p) refl (does_rest q places k.0 k.1)
  where
    by_place : (stays : Bool) → is_place q p ≡ stays →
        Does (burning true q) (burn_lines places) (moving (q ∷ places)) (not_fresh (moving (q ∷ places))) (unlit (last_of q places)) →
        Does (burning true p) (burn_lines (q ∷ places)) (moving_by stays p q places) (not_fresh (moving_by stays p q places)) (unlit (last_of q places))
    by_place true is rest = then_does (burning true p) (burning true q) (unlit (last_of q places)) (burn q ∷ []) (burn_lines places)
        [] (moving (q ∷ places)) [] (not_fresh (moving (q ∷ places))) (does_stay true p q is k.0) rest
    by_place false is rest = then_does (burning true p) (burning true q) (unlit (last_of q places)) (burn q ∷ []) (burn_lines places)
        (record { from = p; to = q } ∷ []) (moving (q ∷ places)) (false ∷ []) (not_fresh (moving (q ∷ places))) (does_burn true p q is k.0) rest

-- on from p, where it was lit, and has burnt nothing yet
does_lit : (p : Point) (places : List Point) → IsCodePlace p → AreCodePlaces places →
    Does (burning false p) (burn_lines places) (burnt_legs (p ∷ places)) (begins_lighting (burnt_legs (p ∷ places))) (unlit (last_of p places))
does_lit p [] h k = does_put_out_on_spot p h
does_lit p (q ∷ places) h k = by_place (is_place q p) refl (does_lit q places k.0 k.1)
  where
    by_place : (stays : Bool) → is_place q p ≡ stays →
        Does (burning false q) (burn_lines places) (burnt_legs (q ∷ places)) (begins_lighting (burnt_legs (q ∷ places))) (unlit (last_of q places)) →
        Does (burning false p) (burn_lines (q ∷ places)) (or_spot p (moving_by stays p q places)) (begins_lighting (or_spot p (moving_by stays p q places))) (unlit (last_of q places))
    by_place true is rest =
        let At : Point → Type 0 = λ x. Does (burning false p) (burn_lines (q ∷ places)) (or_spot x (moving (q ∷ places))) (begins_lighting (or_spot x (moving (q ∷ places)))) (unlit (last_of q places)) in
        subst At ((Decides-is_place q p).0 is) (then_does (burning false p) (burning false q) (unlit (last_of q places)) (burn q ∷ []) (burn_lines places)
        [] (burnt_legs (q ∷ places)) [] (begins_lighting (burnt_legs (q ∷ places))) (does_stay false p q is k.0) rest)
    by_place false is rest = then_does (burning false p) (burning true q) (unlit (last_of q places)) (burn q ∷ []) (burn_lines places)
        (record { from = p; to = q } ∷ []) (moving (q ∷ places)) (true ∷ []) (not_fresh (moving (q ∷ places))) (does_burn false p q is k.0) (does_rest q places k.0 k.1)

-- a chain from p on: one lighting
does_chain : (o p : Point) (places : List Point) → AreCodePlaces (p ∷ places) →
    Does (unlit o) (chain_lines (p ∷ places)) (burnt_legs (p ∷ places)) (begins_lighting (burnt_legs (p ∷ places))) (unlit (last_of p places))
does_chain o p places h =
    let ways = burnt_legs (p ∷ places) in
    let lit = then_does (unlit p) (burning false p) (unlit (last_of p places)) (torch_words 51 ∷ []) (burn_lines places) [] ways [] (begins_lighting ways) (does_light p h.0) (does_lit p places h.0 h.1) in
    then_does (unlit o) (unlit p) (unlit (last_of p places)) (travel p ∷ []) (torch_words 51 ∷ burn_lines places) [] ways [] (begins_lighting ways) (does_travel o p h.0) lit

-- where a chain ends that is written while the torch is at o
abbrev pub end_of : Point → List Point → Point
end_of o [] = o
end_of o (p ∷ places) = last_of p places

abbrev pub end_of_all : Point → List (List Point) → Point
end_of_all o [] = o
end_of_all o (places ∷ chains) = end_of_all (end_of o places) chains

last_is_code_place : (p : Point) (places : List Point) → IsCodePlace p → AreCodePlaces places → IsCodePlace (last_of p places)
last_is_code_place p [] h k = h
last_is_code_place p (q ∷ places) h k = last_is_code_place q places k.0 k.1

pub written_chain : (places : List Point) → CanBeWritten places → AreCodePlaces places
written_chain places h = all_imply (IsWithin code_range) IsCodePlace code_place places (recursion_from_All (IsWithin code_range) places h)

pub end_is_code_place : (o : Point) (chains : List (List Point)) → IsCodePlace o → AllByRecursion AreCodePlaces chains → IsCodePlace (end_of_all o chains)
end_is_code_place o [] h k = h
end_is_code_place o ([] ∷ chains) h k = end_is_code_place o chains h k.1
end_is_code_place o ((p ∷ places) ∷ chains) h k = end_is_code_place (last_of p places) chains (last_is_code_place p places k.0.0 k.0.1) k.1

-- the chains, one behind the other
pub does_chains : (o : Point) (chains : List (List Point)) → AllByRecursion AreCodePlaces chains →
    Does (unlit o) (flat_map chain_lines chains) (flat_map burnt_legs chains) (flat_map (λ places. begins_lighting (burnt_legs places)) chains) (unlit (end_of_all o chains))
does_chains o [] h = does_nothing (unlit o)
does_chains o ([] ∷ chains) h = does_chains o chains h.1
does_chains o ((p ∷ places) ∷ chains) h = then_does (unlit o) (unlit (last_of p places)) (unlit (end_of_all (last_of p places) chains))
    (chain_lines (p ∷ places)) (flat_map chain_lines chains) (burnt_legs (p ∷ places)) (flat_map burnt_legs chains)
    (begins_lighting (burnt_legs (p ∷ places))) (flat_map (λ places. begins_lighting (burnt_legs places)) chains)
    (does_chain o p places h.0) (does_chains (last_of p places) chains h.1)

-- where the torch stands at the beginning
abbrev pub origin : Point
origin = record { x = pos 0; y = pos 0 }

pub origin_is_code_place : IsCodePlace origin
origin_is_code_place = code_place origin (record { x = (omega (arith, ints), omega (arith, ints)); y = (omega (arith, ints), omega (arith, ints)) })

-- the head, at the beginning
pub does_head : Done [] (map Words head_lines) [] [] (unlit origin)
does_head = record {
  later = Words feed_words ∷ Words units_words ∷ [];
  burns = [];
  leads = record { accepted = λ rest. refl; burnt = λ rest. refl };
  stands = record { absolute = refl; lit = refl; burnt = refl; place = refl };
  ways_are = refl;
  fresh_are = refl;
}
