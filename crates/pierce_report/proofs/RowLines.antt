-- The lines of components, one after another.
use Rattle.std.proofs.Common.{arith, ◌≡◌, ℕ, ◌+◌, List, [], ◌∷◌, ◌++◌, length, take, append-nil, append_assoc, ap, sym, ◌∙◌}
use Rattle.std.specs.Prelude.{Some, slice_get}
use Rattle.std.proofs.lemmas.List.{length-take-le}
use Rattle.std.proofs.lemmas.Option.{slice_get_within}
use Rattle.face_nesting.proofs.Prefixes.{take_read}
use Rattle.pierce_report.specs.Report.{Row, row_text, rows_text}

-- the line of one more component stands behind those before it, with the next number
one_more_row : (n : ℕ) (rows : List Row) (r : Row) → rows_text n (rows ++ r ∷ []) ≡ rows_text n rows ++ row_text (n + length rows) r
one_more_row n [] r =
    let number : n ≡ n + 0 = omega arith in
    append-nil (row_text n r) ∙ ap (λ m. row_text m r) number
one_more_row n (first ∷ rows) r =
    let number : n + 1 + length rows ≡ n + length (first ∷ rows) = omega arith in
    let later : rows_text (n + 1) (rows ++ r ∷ []) ≡ rows_text (n + 1) rows ++ row_text (n + length (first ∷ rows)) r =
    one_more_row (n + 1) rows r ∙ ap (λ m. rows_text (n + 1) rows ++ row_text m r) number in
    ap (λ l. row_text n first ++ l) later ∙ sym (append_assoc (row_text n first) (rows_text (n + 1) rows) (row_text (n + length (first ∷ rows)) r))

-- one more line behind those of the first k components
pub next_row : (rows : List Row) (k : ℕ) (r : Row) (old before after : List ℕ) → slice_get rows k ≡ Some r → before ≡ old ++ rows_text 1 (take k rows) →
    after ≡ before ++ row_text (k + 1) r → after ≡ old ++ rows_text 1 (take (k + 1) rows)
next_row rows k r old before after at is_before is_after =
    let first = take k rows in
    let number : 1 + length first ≡ k + 1 = omega (arith, length-take-le k rows (omega (arith, slice_get_within rows k r at))) in
    let lines : rows_text 1 (take (k + 1) rows) ≡ rows_text 1 first ++ row_text (k + 1) r =
    ap (rows_text 1) (take_read rows k r at) ∙ one_more_row 1 first r ∙ ap (λ m. rows_text 1 first ++ row_text m r) number in
    is_after ∙ ap (λ front. front ++ row_text (k + 1) r) is_before ∙ append_assoc old (rows_text 1 first) (row_text (k + 1) r) ∙ ap (λ l. old ++ l) (sym lines)
