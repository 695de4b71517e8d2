-- The lines of parts, one after another, and what their rows say.
use Rattle.std.proofs.Common.{arith, ◌≡◌, ℕ, zero, suc, ◌+◌, List, [], ◌∷◌, ◌++◌, length, take, sym, ap, ◌∙◌}
use Rattle.std.specs.Prelude.{Some, slice_get, flat_map}
use Rattle.std.proofs.lemmas.List.{flat_map_more}
use Rattle.std.proofs.lemmas.Option.{same_Some, none-some}
use Rattle.face_nesting.proofs.Prefixes.{take_read}
use Rattle.nest_base.specs.declared.drawing.Name.{Name}
use Rattle.pierce_report.specs.Report.{PartRow, part_text}
use Rattle.pierce_report.specs.Parts.{part_row, part_rows}

-- the row at a place
pub part_rows_read : (ranks faces : List ℕ) (names : List Name) (i face : ℕ) (name : Name) → slice_get faces i ≡ Some face → slice_get names i ≡ Some name →
    slice_get (part_rows ranks faces names) i ≡ Some (part_row ranks face name)
part_rows_read ranks [] names i face name at_face at_name = absurd (none-some face at_face)
part_rows_read ranks (f ∷ faces) [] i face name at_face at_name = absurd (none-some name at_name)
part_rows_read ranks (f ∷ faces) (n ∷ names) zero face name at_face at_name =
    ap (λ g. Some (part_row ranks g n)) (same_Some f face at_face) ∙ ap (λ m. Some (part_row ranks face m)) (same_Some n name at_name)
part_rows_read ranks (f ∷ faces) (n ∷ names) (suc i) face name at_face at_name = part_rows_read ranks faces names i face name at_face at_name

-- as many as names
pub part_rows_long : (ranks faces : List ℕ) (names : List Name) → length faces ≡ length names → length (part_rows ranks faces names) ≡ length names
part_rows_long ranks [] names as_many = as_many
part_rows_long ranks (f ∷ faces) [] as_many = absurd (omega (arith, as_many))
part_rows_long ranks (f ∷ faces) (n ∷ names) as_many = omega (arith, part_rows_long ranks faces names (omega (arith, as_many)))

-- one more line behind those of the first i parts
pub next_part : (rows : List PartRow) (i : ℕ) (r : PartRow) (old before after : List ℕ) → slice_get rows i ≡ Some r →
    before ≡ old ++ flat_map part_text (take i rows) → after ≡ before ++ part_text r → after ≡ old ++ flat_map part_text (take (i + 1) rows)
next_part rows i r old before after at is_before is_after =
    is_after ∙ ap (λ front. front ++ part_text r) is_before ∙ flat_map_more part_text old (take i rows) r ∙
    ap (λ first. old ++ flat_map part_text first) (sym (take_read rows i r at))
