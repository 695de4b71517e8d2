-- The report, line by line.
use Rattle.std.proofs.Common.{arith, ◌≡◌, inl, inr, ℕ, zero, suc, ◌+◌, ◌/◌, ◌%◌, ◌<◌, ◌^◌, Bool, true, false, cond, List, [], ◌∷◌, ◌++◌, append_assoc, map, get_or, refl, sym, ap, subst, ◌∙◌, lit<}
use Rattle.std.specs.Prelude.{All, Contains, flat_map, codes, decimal, ◌==◌, not, nat_lt, ◌||◌, if◌then◌else◌}
use Rattle.std.specs.Fmt.{digits, digits_onto, digit_glyph}
use Rattle.std.specs.List.{AllByRecursion, list_all, slice_split}
use Rattle.std.proofs.lemmas.Bool.{ne_eqb, not-true, true≢false}
use Rattle.std.proofs.lemmas.Fmt.{decimal_injective}
use Rattle.std.proofs.lemmas.List.{append_cancel_left}
use Rattle.std.proofs.lemmas.List.Elements.{All-weaker, All-append, All-from_recursion, Contains-append_right, Contains-append_cases}
use Rattle.std.proofs.lemmas.List.Splits.{slice_split_at}
use Rattle.std.proofs.lemmas.List.Sums.{AllPass-from_list_all}
use Rattle.nest_base.specs.Lines.{parts_of}
use Rattle.nest_base.proofs.Lists.{Contains-head, Contains-cases, Contains-none}
use Rattle.pierce_report.specs.Report.{Row, PartRow, rows_text, part_text, report_text, total_pierces, total_bound}
use Rattle.pierce_report.specs.Shown.{shown_byte, shown}
use Rattle.nest_commands.specs.Circle.{totals_line, TellsTotal}

-- no byte of the text is b
record Lacks (b : ℕ) (text : List ℕ) : Type 0 where
  each : All (λ c. (c == b) ≡ false) text

nothing : {b : ℕ} → Lacks b []
nothing {b} = record { each = All-from_recursion (λ c. (c == b) ≡ false) [] tt }

also : {b : ℕ} {one other : List ℕ} → Lacks b one → Lacks b other → Lacks b (one ++ other)
also {b} {one} {other} h k = record { each = All-append (λ c. (c == b) ≡ false) one other h.each k.each }

-- as a test tells
tested : {b : ℕ} (text : List ℕ) → list_all (λ c. not (c == b)) text ≡ true → Lacks b text
tested {b} text e = record {
  each = All-weaker (λ c. not (c == b) ≡ true) (λ c. (c == b) ≡ false) (λ c h. not-true (c == b) h) text (AllPass-from_list_all (λ c. not (c == b)) text e);
}

-- a digit is no byte before `0`
digit_is_other : (b d : ℕ) → b < 48 → (digit_glyph false d == b) ≡ false
digit_is_other b d small = of (nat_lt d 10)
  where
    of : (below : Bool) → (cond below (48 + d) (87 + d) == b) ≡ false
    of true = ne_eqb (48 + d) b (λ e. omega (arith, e, small))
    of false = ne_eqb (87 + d) b (λ e. omega (arith, e, small))

digits_lack : (b : ℕ) → b < 48 → (k n : ℕ) (text : List ℕ) → AllByRecursion (λ c. (c == b) ≡ false) text →
    AllByRecursion (λ c. (c == b) ≡ false) (digits_onto k 10 false n text)
digits_lack b small zero n text h = h
digits_lack b small (suc k) n text h =
    let more = digit_glyph false (n % 10) ∷ text in
    let lacks : AllByRecursion (λ c. (c == b) ≡ false) more = (digit_is_other b (n % 10) small, h) in
    of (n / 10 == 0) more (digits_onto k 10 false (n / 10) more) lacks (digits_lack b small k (n / 10) more lacks)
  where
    of : (last : Bool) (one other : List ℕ) → AllByRecursion (λ c. (c == b) ≡ false) one → AllByRecursion (λ c. (c == b) ≡ false) other →
        AllByRecursion (λ c. (c == b) ≡ false) (cond last one other)
    of true one other h k = h
    of false one other h k = k

-- so no number has a line's end or a blank
number_lacks : {b : ℕ} (n : ℕ) → b < 48 → Lacks b (decimal n)
unfolding digits
number_lacks {b} n small = record { each = All-from_recursion (λ c. (c == b) ≡ false) (decimal n) (digits_lack b small 64 n [] tt) }

-- nor is a line's end shown
shown_is_other : (c : ℕ) → (shown_byte c == 10) ≡ false
shown_is_other c = of (nat_lt c 32 || nat_lt 126 c) refl
  where
    of : (other : Bool) → (nat_lt c 32 || nat_lt 126 c) ≡ other → (cond other 63 c == 10) ≡ false
    of true is = refl
    of false is = ne_eqb c 10 (λ e. true≢false (subst (λ d. (nat_lt d 32 || nat_lt 126 d) ≡ false) e is))

shown_lacks : (text : List ℕ) → Lacks 10 (shown text)
shown_lacks text = record { each = All-from_recursion (λ c. (c == 10) ≡ false) (shown text) (by text) }
  where
    by : (text : List ℕ) → AllByRecursion (λ c. (c == 10) ≡ false) (shown text)
    by [] = tt
    by (c ∷ text) = (shown_is_other c, by text)

-- the line of a component
abbrev row_line : ℕ → Row → List ℕ
row_line number r =
    codes "component " ++ decimal number ++ codes " edges " ++ decimal r.edges ++ codes " odd " ++ decimal r.odd ++
    codes " bound " ++ decimal r.bound ++ codes " limit " ++ decimal r.limit ++ codes " pierces " ++ decimal r.pierces

abbrev row_lines : ℕ → List Row → List (List ℕ)
row_lines number [] = []
row_lines number (r ∷ rows) = row_line number r ∷ row_lines (number + 1) rows

-- and of a name
abbrev part_line : PartRow → List ℕ
part_line p = codes "part " ++ shown p.text ++ codes " rank " ++ decimal p.rank

abbrev last_line : Bool → List ℕ
last_line fewest = if fewest then codes "fewest" else codes "not shown fewest"

-- none of them has a line's end
field : {front : List ℕ} → Lacks 10 front → (label : List ℕ) → list_all (λ c. not (c == 10)) label ≡ true → (n : ℕ) → Lacks 10 (front ++ label ++ decimal n)
field h label e n = also (also h (tested label e)) (number_lacks n (lit< tt))

row_lacks : (number : ℕ) (r : Row) → Lacks 10 (row_line number r)
row_lacks number r =
    let head = field (field nothing (codes "component ") refl number) (codes " edges ") refl r.edges in
    let middle = field (field head (codes " odd ") refl r.odd) (codes " bound ") refl r.bound in
    field (field middle (codes " limit ") refl r.limit) (codes " pierces ") refl r.pierces

part_lacks : (p : PartRow) → Lacks 10 (part_line p)
part_lacks p = field (also (tested (codes "part ") refl) (shown_lacks p.text)) (codes " rank ") refl p.rank

totals_lack : (pierces bound : ℕ) → Lacks 10 (totals_line pierces bound)
totals_lack pierces bound = field (field nothing (codes "total pierces ") refl pierces) (codes " bound ") refl bound

last_lacks : (fewest : Bool) → Lacks 10 (last_line fewest)
last_lacks true = tested (codes "fewest") refl
last_lacks false = tested (codes "not shown fewest") refl

-- so these lines are what stands between the line's ends
first_part : (line rest : List ℕ) → Lacks 10 line → parts_of (line ++ 10 ∷ rest) ≡ line ∷ parts_of rest
first_part line rest lacks = slice_split_at (λ b. b == 10) line 10 rest lacks.each refl

grouped : (line more rest : List ℕ) → line ++ 10 ∷ [] ++ more ++ rest ≡ line ++ 10 ∷ (more ++ rest)
grouped line more rest = simp append_assoc refl

parts_of_rows : (number : ℕ) (rows : List Row) (rest : List ℕ) → parts_of (rows_text number rows ++ rest) ≡ row_lines number rows ++ parts_of rest
parts_of_rows number [] rest = refl
parts_of_rows number (r ∷ rows) rest =
    let more = rows_text (number + 1) rows in
    ap parts_of (grouped (row_line number r) more rest) ∙ first_part (row_line number r) (more ++ rest) (row_lacks number r)
    ∙ ap (λ lines. row_line number r ∷ lines) (parts_of_rows (number + 1) rows rest)

parts_of_parts : (parts : List PartRow) (rest : List ℕ) → parts_of (flat_map part_text parts ++ rest) ≡ map part_line parts ++ parts_of rest
parts_of_parts [] rest = refl
parts_of_parts (p ∷ parts) rest =
    let more = flat_map part_text parts in
    ap parts_of (grouped (part_line p) more rest) ∙ first_part (part_line p) (more ++ rest) (part_lacks p)
    ∙ ap (λ lines. part_line p ∷ lines) (parts_of_parts parts rest)

all_grouped : (rows parts a b c d e : List ℕ) →
    rows ++ parts ++ a ++ b ++ c ++ d ++ 10 ∷ [] ++ e ++ 10 ∷ [] ≡ rows ++ (parts ++ (a ++ b ++ c ++ d ++ 10 ∷ (e ++ 10 ∷ [])))
all_grouped rows parts a b c d e = simp append_assoc refl

-- those of the whole report
abbrev lines_of_report : List Row → List PartRow → ℕ → ℕ → Bool → List (List ℕ)
lines_of_report rows parts pierces bound fewest = row_lines 1 rows ++ (map part_line parts ++ totals_line pierces bound ∷ last_line fewest ∷ [] ∷ [])

parts_of_report : (rows : List Row) (parts : List PartRow) →
    parts_of (report_text rows parts) ≡ lines_of_report rows parts (total_pierces rows) (total_bound rows) (total_pierces rows == total_bound rows)
parts_of_report rows parts =
    let pierces = total_pierces rows in
    let bound = total_bound rows in
    let last = last_line (pierces == bound) in
    let line = totals_line pierces bound in
    let behind = line ++ 10 ∷ (last ++ 10 ∷ []) in
    let ends : parts_of behind ≡ line ∷ last ∷ [] ∷ [] = first_part line (last ++ 10 ∷ []) (totals_lack pierces bound)
    ∙ ap (λ lines. line ∷ lines) (first_part last [] (last_lacks (pierces == bound))) in
    ap parts_of (all_grouped (rows_text 1 rows) (flat_map part_text parts) (codes "total pierces ") (decimal pierces) (codes " bound ") (decimal bound) last)
    ∙ parts_of_rows 1 rows (flat_map part_text parts ++ behind)
    ∙ ap (λ lines. row_lines 1 rows ++ lines) (parts_of_parts parts behind ∙ ap (λ lines. map part_line parts ++ lines) ends)

-- the report tells its total
pub tells_total : (rows : List Row) (parts : List PartRow) → TellsTotal (report_text rows parts) (total_pierces rows)
tells_total rows parts =
    let line = totals_line (total_pierces rows) (total_bound rows) in
    let last = last_line (total_pierces rows == total_bound rows) ∷ [] ∷ [] in (
      total_bound rows,
      subst (λ lines. Contains lines line) (sym (parts_of_report rows parts))
          (Contains-append_right (row_lines 1 rows) (map part_line parts ++ line ∷ last) line
          (Contains-append_right (map part_line parts) (line ∷ last) line (Contains-head line last))),
    )

-- the other lines begin otherwise
abbrev begins : List ℕ → ℕ
begins text = get_or text 0 0

no_row : (pierces bound number : ℕ) (rows : List Row) → Contains (row_lines number rows) (totals_line pierces bound) → ⊥
no_row pierces bound number [] c = Contains-none (totals_line pierces bound) c
no_row pierces bound number (r ∷ rows) c = elim (Contains-cases (row_line number r) (totals_line pierces bound) (row_lines (number + 1) rows) c) [
  | inl same ↦ let first : 99 ≡ 116 = ap begins same in omega (arith, first)
  | inr later ↦ no_row pierces bound (number + 1) rows later
]

no_part : (pierces bound : ℕ) (parts : List PartRow) → Contains (map part_line parts) (totals_line pierces bound) → ⊥
no_part pierces bound [] c = Contains-none (totals_line pierces bound) c
no_part pierces bound (p ∷ parts) c = elim (Contains-cases (part_line p) (totals_line pierces bound) (map part_line parts) c) [
  | inl same ↦ let first : 112 ≡ 116 = ap begins same in omega (arith, first)
  | inr later ↦ no_part pierces bound parts later
]

no_last : (pierces bound : ℕ) (fewest : Bool) → Contains (last_line fewest ∷ [] ∷ []) (totals_line pierces bound) → ⊥
no_last pierces bound fewest c = elim (Contains-cases (last_line fewest) (totals_line pierces bound) ([] ∷ []) c) [
  | inl same ↦ of fewest same
  | inr later ↦ elim (Contains-cases [] (totals_line pierces bound) [] later) [
    | inl same ↦ let first : 0 ≡ 116 = ap begins same in omega (arith, first)
    | inr further ↦ Contains-none (totals_line pierces bound) further
  ]
]
  where
    of : (fewest : Bool) → last_line fewest ≡ totals_line pierces bound → ⊥
    of true same = let first : 102 ≡ 116 = ap begins same in omega (arith, first)
    of false same = let first : 110 ≡ 116 = ap begins same in omega (arith, first)

same_first : (one other : List ℕ) (lines more : List (List ℕ)) → one ∷ lines ≡ other ∷ more → one ≡ other
same_first one other lines more e = cc

-- one line of totals tells one number
one_number : (m n a b : ℕ) → totals_line m a ≡ totals_line n b → decimal m ≡ decimal n
one_number m n a b same =
    let behind : decimal m ++ 32 ∷ (codes "bound " ++ decimal a) ≡ decimal n ++ 32 ∷ (codes "bound " ++ decimal b) =
    append_cancel_left (codes "total pierces ") _ _ (grouped_line (codes "total pierces ") (decimal m) (codes "bound ") (decimal a) ∙ same
    ∙ sym (grouped_line (codes "total pierces ") (decimal n) (codes "bound ") (decimal b))) in
    same_first (decimal m) (decimal n) _ _ (sym (up_to_blank m (codes "bound " ++ decimal a))
    ∙ ap (slice_split (λ c. c == 32)) behind ∙ up_to_blank n (codes "bound " ++ decimal b))
  where
    grouped_line : (x y z w : List ℕ) → x ++ (y ++ 32 ∷ (z ++ w)) ≡ x ++ y ++ (32 ∷ z) ++ w
    grouped_line x y z w = simp append_assoc refl

    up_to_blank : (n : ℕ) (rest : List ℕ) → slice_split (λ c. c == 32) (decimal n ++ 32 ∷ rest) ≡ decimal n ∷ slice_split (λ c. c == 32) rest
    up_to_blank n rest = slice_split_at (λ c. c == 32) (decimal n) 32 rest (number_lacks n (lit< tt)).each refl

-- so the report tells no other number
told_is_total : (rows : List Row) (parts : List PartRow) (m : ℕ) → TellsTotal (report_text rows parts) m → decimal m ≡ decimal (total_pierces rows)
told_is_total rows parts m (bound, c) =
    let line = totals_line m bound in
    let total = totals_line (total_pierces rows) (total_bound rows) in
    let fewest = total_pierces rows == total_bound rows in
    let stands = subst (λ lines. Contains lines line) (parts_of_report rows parts) c in
    elim (Contains-append_cases (row_lines 1 rows) (map part_line parts ++ total ∷ last_line fewest ∷ [] ∷ []) line stands) [
      | inl of_row ↦ absurd (no_row m bound 1 rows of_row)
      | inr behind ↦ elim (Contains-append_cases (map part_line parts) (total ∷ last_line fewest ∷ [] ∷ []) line behind) [
        | inl of_part ↦ absurd (no_part m bound parts of_part)
        | inr further ↦ elim (Contains-cases total line (last_line fewest ∷ [] ∷ []) further) [
          | inl same ↦ one_number m (total_pierces rows) bound (total_bound rows) (sym same)
          | inr last ↦ absurd (no_last m bound fewest last)
        ]
      ]
    ]

pub one_total : (rows : List Row) (parts : List PartRow) (m n : ℕ) → m < 2 ^ 64 → n < 2 ^ 64 →
    TellsTotal (report_text rows parts) m → TellsTotal (report_text rows parts) n → m ≡ n
one_total rows parts m n m_small n_small tells tells_too =
    decimal_injective m n m_small n_small (told_is_total rows parts m tells ∙ sym (told_is_total rows parts n tells_too))
