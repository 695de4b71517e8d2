-- Pairs and refusals that have come stay.
use Rattle.std.proofs.Common.{arith, ◌≡◌, ℕ, true, false, List, [], ◌∷◌, ◌++◌, length, inl, inr, refl, sym, ap, ◌∙◌, Some, None}
use Rattle.std.specs.Prelude.{Option, ◌==◌}
use Rattle.std.specs.Str.Lines.{strip_carriage_return}
use Rattle.std.proofs.lemmas.Bool.{cases_Bool, cases_lt, eqb-true}
use Rattle.std.proofs.lemmas.List.{append-nil, append_assoc, nil_from_length}
use Rattle.nest_base.specs.Lines.{unended}
use Rattle.dxf_groups.specs.declared.answers.GroupError.{GroupError}
use Rattle.dxf_groups.specs.declared.answers.Stop.{Stop}
use Rattle.dxf_groups.specs.declared.answers.Stop.TheVariants.{AtEof, AtFault, BeforeCode, BeforeValue}
use Rattle.dxf_groups.specs.Pairs.{Pair, is_binary, without_comments, pairs_of, at_the_end, fault_of, group_refusal_of}
use Rattle.dxf_groups.specs.Steps.{line_behind, pair_of}
use Rattle.dxf_groups.specs.Taking.{reading_so_far, stop_so_far, pairs_so_far, newest, is_open}
use Rattle.dxf_groups.specs.Laws.{listed, PairsComeOneByOne, EndGivesTheRest, PairsStay, RefusalStays}
use Rattle.dxf_groups.proofs.Head.{head_front, head_by_last}
use Rattle.dxf_groups.proofs.Newest.{newest-listed, without_comments-line, completed-push}
use Rattle.dxf_groups.proofs.State.{reading_so_far-binary, open_text}
use Rattle.dxf_groups.proofs.SoFar.{reading_so_far-closed, reading_so_far-lf, reading_so_far-other}
use Rattle.dxf_groups.proofs.Ends.{read_pairs-closed, read_pairs-bare, read_pairs-line}

-- later pairs are the earlier ones, and one more or none
abbrev Grows : List Pair → List Pair → Type 0
Grows before now = (o : Option Pair) × (now ≡ before ++ listed o)

grows_same : (pairs now : List Pair) → now ≡ pairs → Grows pairs now
grows_same pairs now h = (None, h ∙ sym (append-nil pairs))

-- which is then the newest
grows_newest : (before now : List Pair) → Grows before now → now ≡ before ++ listed (newest before now)
grows_newest before now (o, h) = h ∙ ap (λ p. before ++ listed p) (sym (ap (λ all. newest before all) h ∙ newest-listed before o))

-- no pair stands before the front of a binary drawing
front_pairs : pairs_so_far head_front ≡ []
unfolding reading_so_far
front_pairs = refl

byte_completes_head : (b : List ℕ) (c : ℕ) → is_binary b ≡ false → is_binary (b ++ c ∷ []) ≡ true → Grows (pairs_so_far b) (pairs_so_far (b ++ c ∷ []))
byte_completes_head b c before now = grows_same (pairs_so_far b) (pairs_so_far (b ++ c ∷ []))
    (ap (λ read. without_comments read.pairs) (reading_so_far-binary (b ++ c ∷ []) now) ∙ sym (ap pairs_so_far (head_by_last b c before now).0 ∙ front_pairs))

byte_is_lf : (b : List ℕ) → is_open (stop_so_far b) ≡ true → Grows (pairs_so_far b) (pairs_so_far (b ++ 10 ∷ []))
byte_is_lf b h =
    let line = strip_carriage_return (unended b) in (
      pair_of (line_behind (stop_so_far b) line),
      ap (λ read. without_comments read.pairs) (reading_so_far-lf b h) ∙ without_comments-line (reading_so_far b).pairs (stop_so_far b) line,
    )

byte_grows : (b : List ℕ) (c : ℕ) → Grows (pairs_so_far b) (pairs_so_far (b ++ c ∷ []))
byte_grows b c = elim (cases_Bool (is_open (stop_so_far b))) [
  | inr shut ↦ grows_same (pairs_so_far b) (pairs_so_far (b ++ c ∷ [])) (ap (λ read. without_comments read.pairs) (reading_so_far-closed b c shut))
  | inl free ↦ elim (cases_Bool (is_binary (b ++ c ∷ []))) [
    | inl now ↦ byte_completes_head b c (open_text b free).text now
    | inr text ↦ elim (cases_Bool (c == 10)) [
      | inl lf ↦ rw (eqb-true c 10 lf) (byte_is_lf b free)
      | inr other ↦ grows_same (pairs_so_far b) (pairs_so_far (b ++ c ∷ [])) (ap (λ read. without_comments read.pairs) (reading_so_far-other b c free other text))
    ]
  ]
]

end_grows : (b : List ℕ) → Grows (pairs_so_far b) (pairs_of b)
end_grows b = elim (cases_Bool (is_open (stop_so_far b))) [
  | inr shut ↦ grows_same (pairs_so_far b) (pairs_of b) (ap (λ read. without_comments read.pairs) (read_pairs-closed b shut))
  | inl free ↦ elim (cases_lt 0 (length (unended b))) [
    | inl some ↦ (
      pair_of (line_behind (stop_so_far b) (unended b)),
      ap (λ read. without_comments read.pairs) (read_pairs-line b free some) ∙ without_comments-line (reading_so_far b).pairs (stop_so_far b) (unended b),
    )
    | inr none ↦ grows_same (pairs_so_far b) (pairs_of b) (ap (λ read. without_comments read.pairs) (read_pairs-bare b free (nil_from_length (unended b) (omega arith))))
  ]
]

pub come_one_by_one : PairsComeOneByOne
come_one_by_one b c =
    grows_newest (pairs_so_far b) (pairs_so_far (b ++ c ∷ [])) (byte_grows b c) ∙ ap (λ o. pairs_so_far b ++ listed o) (sym (completed-push b c))

pub end_gives_rest : EndGivesTheRest
end_gives_rest b = grows_newest (pairs_so_far b) (pairs_of b) (end_grows b)

stay_so_far : (more b : List ℕ) → (later : List Pair) × (pairs_so_far (b ++ more) ≡ pairs_so_far b ++ later)
stay_so_far [] b = ([], ap pairs_so_far (append-nil b) ∙ sym (append-nil (pairs_so_far b)))
stay_so_far (c ∷ more) b =
    let rest = stay_so_far more (b ++ c ∷ []) in
    let first = byte_grows b c in (
      listed first.0 ++ rest.0,
      ap pairs_so_far (sym (append_assoc b (c ∷ []) more)) ∙ rest.1 ∙ ap (λ p. p ++ rest.0) first.1 ∙ append_assoc (pairs_so_far b) (listed first.0) rest.0,
    )

pub pairs_that_came_stay : PairsStay
pairs_that_came_stay b more =
    let so_far = stay_so_far more b in
    let last = end_grows (b ++ more) in
    (so_far.0 ++ listed last.0, last.1 ∙ ap (λ p. p ++ listed last.0) so_far.1 ∙ append_assoc (pairs_so_far b) so_far.0 (listed last.0))

-- behind `0 EOF` or a refusal nothing changes, whatever follows
pub closed_stays : (more b : List ℕ) → is_open (stop_so_far b) ≡ false → reading_so_far (b ++ more) ≡ reading_so_far b
closed_stays [] b h = ap reading_so_far (append-nil b)
closed_stays (c ∷ more) b h =
    let one = reading_so_far-closed b c h in
    ap reading_so_far (sym (append_assoc b (c ∷ []) more)) ∙ closed_stays more (b ++ c ∷ []) (ap (λ read. is_open read.stop) one ∙ h) ∙ one

-- behind `0 EOF` or a refusal, whatever follows
pub group_refusal_of-closed : (b more : List ℕ) → is_open (stop_so_far b) ≡ false → group_refusal_of (b ++ more) ≡ fault_of (at_the_end (stop_so_far b))
group_refusal_of-closed b more h =
    let same = closed_stays more b h in
    ap (λ read. fault_of (at_the_end read.stop)) (read_pairs-closed (b ++ more) (ap (λ read. is_open read.stop) same ∙ h) ∙ same)

fault_closes : (stop : Stop) (e : GroupError) → fault_of stop ≡ Some e → (is_open stop ≡ false) × (fault_of (at_the_end stop) ≡ Some e)
fault_closes AtEof e h = absurd (cc)
fault_closes (AtFault f) e h = (refl, h)
fault_closes (BeforeCode n) e h = absurd (cc)
fault_closes (BeforeValue code n) e h = absurd (cc)

pub refusal_that_came_stays : RefusalStays
refusal_that_came_stays b more e h = let shut = fault_closes (stop_so_far b) e h in group_refusal_of-closed b more shut.0 ∙ shut.1
