-- Pieces of code, one behind the other: what each burns, and where it leaves the torch.
use Rattle.std.proofs.Common.{◌≡◌, ℕ, ◌+◌, Bool, true, false, cond, List, [], ◌∷◌, ◌++◌, length, map, Option, Some, None, refl, sym, ap, subst, ◌∙◌}
use Rattle.std.specs.Prelude.{unwrap_or}
use Rattle.std.specs.List.{AllByRecursion}
use Rattle.std.proofs.lemmas.List.{append_assoc, map-append}
use Rattle.std.proofs.lemmas.List.Elements.{filter-append}
use Rattle.nest_base.specs.declared.places.Point.{Point}
use Rattle.nest_base.specs.Plane.{HalfEdge}
use Rattle.code_moves.specs.declared.moves.Move.{Move}
use Rattle.code_moves.specs.declared.faults.CodeFault.{CodeFault}
use Rattle.code_moves.specs.declared.faults.CodeError.{CodeError}
use Rattle.code_moves.specs.declared.faults.CodeError.TheVariants.{NoEnd}
use Rattle.code_moves.specs.Words.{Word, Content, Words}
use Rattle.code_moves.specs.History.{is_lit, is_absolute, place_after, has_burnt, is_ended}
use Rattle.code_moves.specs.Meaning.{moves_at, moves_from, content_or_empty, line_fault, or_fault, refusal_from}
use Rattle.code_moves.specs.Moves.{way, lit_moves}
use Rattle.code_moves.proofs.LineWords.{line_text}
use Rattle.code_moves.proofs.CodeLines.{IsLine, content_of-line_text}

-- the first fault of lines whose words are known
abbrev pub refusal_in : List Content → List Content → Option CodeError
refusal_in earlier [] = Some (NoEnd (length earlier + 1))
refusal_in earlier (l ∷ lines) = or_fault (line_fault (Some l) earlier) (length earlier + 1) (cond (is_ended (l ∷ earlier)) None (refusal_in (l ∷ earlier) lines))

-- the same, from what a line holds
abbrev refusal_at : Option Content → List Content → List (List ℕ) → Option CodeError
refusal_at o earlier lines = or_fault (line_fault o earlier) (length earlier + 1) (cond (is_ended (unwrap_or o (Words []) ∷ earlier)) None (refusal_from (unwrap_or o (Words []) ∷ earlier) lines))

-- lines of words have the faults and the moves of their words
pub refusal_of_lines : (earlier : List Content) (lines : List (List Word)) → AllByRecursion IsLine lines → refusal_from earlier (map line_text lines) ≡ refusal_in earlier (map Words lines)
refusal_of_lines earlier [] h = refl
refusal_of_lines earlier (ws ∷ lines) h = ap (λ o. refusal_at o earlier (map line_text lines)) (content_of-line_text ws h.0)
    ∙ ap (λ later. or_fault (line_fault (Some (Words ws)) earlier) (length earlier + 1) (cond (is_ended (Words ws ∷ earlier)) None later)) (refusal_of_lines (Words ws ∷ earlier) lines h.1)

pub contents_of_lines : (lines : List (List Word)) → AllByRecursion IsLine lines → map content_or_empty (map line_text lines) ≡ map Words lines
contents_of_lines [] h = refl
contents_of_lines (ws ∷ lines) h = ap (λ o. unwrap_or o (Words []) ∷ map content_or_empty (map line_text lines)) (content_of-line_text ws h.0) ∙ ap (λ r. Words ws ∷ r) (contents_of_lines lines h.1)

-- the torch, between two lines: lit or not, whether it has burnt since it was lit, and where it stands
pub record Torch : Type 0 where
  pub lit : Bool
  pub burnt : Bool
  pub place : Point

-- out at p
abbrev pub unlit : Point → Torch
unlit p = record { lit = false; burnt = false; place = p }

-- lit at p
abbrev pub burning : Bool → Point → Torch
burning burnt p = record { lit = true; burnt = burnt; place = p }

-- so it stands behind these lines, the latest first, and places are absolute
pub record StandsBehind (earlier : List Content) (torch : Torch) : Type 0 where
  pub absolute : is_absolute earlier ≡ true
  pub lit : is_lit earlier ≡ torch.lit
  pub burnt : has_burnt earlier ≡ torch.burnt
  pub place : place_after earlier ≡ torch.place

-- behind the earlier lines these go on to `later` with no fault and no end, and burn these moves
pub record Leads (earlier lines : List Content) (burns : List Move) (later : List Content) : Type 0 where
  pub accepted : (rest : List Content) → refusal_in earlier (lines ++ rest) ≡ refusal_in later rest
  pub burnt : (rest : List Content) → lit_moves (moves_from earlier (lines ++ rest)) ≡ burns ++ lit_moves (moves_from later rest)

pub one_line_leads : (l : Content) (earlier : List Content) (burns : List Move) → line_fault (Some l) earlier ≡ None → is_ended (l ∷ earlier) ≡ false → lit_moves (moves_at l earlier) ≡ burns →
    Leads earlier (l ∷ []) burns (l ∷ earlier)
one_line_leads l earlier burns f e b = record {
  accepted = λ rest. goes_on (line_fault (Some l) earlier) (length earlier + 1) (is_ended (l ∷ earlier)) (refusal_in (l ∷ earlier) rest) f e;
  burnt = λ rest. burns_on (moves_at l earlier) burns (is_ended (l ∷ earlier)) (moves_from (l ∷ earlier) rest) b e;
}
  where
    goes_on : (fault : Option CodeFault) (n : ℕ) (ended : Bool) (later : Option CodeError) → fault ≡ None → ended ≡ false → or_fault fault n (cond ended None later) ≡ later
    goes_on fault n ended later f e = rw (f, e) refl

    burns_on : (here burns : List Move) (ended : Bool) (later : List Move) → lit_moves here ≡ burns → ended ≡ false → lit_moves (here ++ cond ended [] later) ≡ burns ++ lit_moves later
    burns_on here burns ended later b e = rw e (filter-append (λ (m : Move). m.lit) here later ∙ ap (λ r. r ++ lit_moves later) b)

join_leads : (a b c xs ys : List Content) (burns more : List Move) → Leads a xs burns b → Leads b ys more c → Leads a (xs ++ ys) (burns ++ more) c
join_leads a b c xs ys burns more h k = record {
  accepted = λ rest. ap (λ lines. refusal_in a lines) (append_assoc xs ys rest) ∙ h.accepted (ys ++ rest) ∙ k.accepted rest;
  burnt = λ rest. ap (λ lines. lit_moves (moves_from a lines)) (append_assoc xs ys rest) ∙ h.burnt (ys ++ rest) ∙ ap (λ r. burns ++ r) (k.burnt rest)
      ∙ sym (append_assoc burns more (lit_moves (moves_from c rest)));
}

-- what a piece of code does behind the earlier lines: its lit moves go these ways, these of them are fresh, and so it leaves the torch
pub record Done (earlier lines : List Content) (ways : List HalfEdge) (fresh : List Bool) (after : Torch) : Type 0 where
  pub later : List Content
  pub burns : List Move
  pub leads : Leads earlier lines burns later
  pub stands : StandsBehind later after
  pub ways_are : map way burns ≡ ways
  pub fresh_are : map (λ (m : Move). m.fresh) burns ≡ fresh

-- it does so wherever the torch stands so before
abbrev pub Does : Torch → List (List Word) → List HalfEdge → List Bool → Torch → Type 0
Does before lines ways fresh after = (earlier : List Content) → StandsBehind earlier before → Done earlier (map Words lines) ways fresh after

-- one piece, and then another
pub then_done : (earlier : List Content) (b c : Torch) (xs ys : List (List Word)) (ways more : List HalfEdge) (fresh later : List Bool) →
    Done earlier (map Words xs) ways fresh b → Does b ys more later c → Done earlier (map Words (xs ++ ys)) (ways ++ more) (fresh ++ later) c
then_done earlier b c xs ys ways more fresh later first k =
    let second = k first.later first.stands in
    let P : List Content → Type 0 = λ lines. Done earlier lines (ways ++ more) (fresh ++ later) c in
    subst P (sym (map-append Words xs ys)) (record {
      later = second.later;
      burns = first.burns ++ second.burns;
      leads = join_leads earlier first.later second.later (map Words xs) (map Words ys) first.burns second.burns first.leads second.leads;
      stands = second.stands;
      ways_are = map-append way first.burns second.burns ∙ ap (λ r. r ++ map way second.burns) first.ways_are ∙ ap (λ r. ways ++ r) second.ways_are;
      fresh_are = map-append (λ (m : Move). m.fresh) first.burns second.burns ∙ ap (λ r. r ++ map (λ (m : Move). m.fresh) second.burns) first.fresh_are ∙ ap (λ r. fresh ++ r) second.fresh_are;
    })

pub then_does : (a b c : Torch) (xs ys : List (List Word)) (ways more : List HalfEdge) (fresh later : List Bool) → Does a xs ways fresh b → Does b ys more later c → Does a (xs ++ ys) (ways ++ more) (fresh ++ later) c
then_does a b c xs ys ways more fresh later h k = λ earlier s. then_done earlier b c xs ys ways more fresh later (h earlier s) k
