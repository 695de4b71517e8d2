-- The top of the stack is the last of its list.
use Rattle.std.proofs.Common.{◌≡◌, ◌<◌, ◌+◌, ◌-◌, List, [], ◌∷◌, ◌++◌, sym, ap, ◌∙◌, arith, length, reverse, take, get_or, Some}
use Rattle.std.specs.Prelude.{slice_get}
use Rattle.std.proofs.lemmas.List.{take_more, take_all, reverse-append, map-append}
use Rattle.std.proofs.lemmas.Option.{get_or_from_slice_get, slice_get_within}
use Rattle.nest_base.specs.declared.numbers.Side.{Side}
use Rattle.nest_base.specs.NumberLists.{side_numbers}

pub top_first : (rest : List Side) (s : Side) → reverse (side_numbers (rest ++ (s ∷ []))) ≡ s.0 ∷ reverse (side_numbers rest)
top_first rest s = ap reverse (map-append (λ (t : Side). t.0) rest (s ∷ [])) ∙ reverse-append (side_numbers rest) (s.0 ∷ [])

pub last_first : (items : List Side) (s : Side) → slice_get items (length items - 1) ≡ Some s → reverse (side_numbers items) ≡ s.0 ∷ reverse (side_numbers (take (length items - 1) items))
last_first items s e =
    let n = length items - 1 in
    let b : n < length items = slice_get_within items n s e in
    let whole : take (n + 1) items ≡ items = take_all (n + 1) items (omega arith) in
    let split : take (n + 1) items ≡ take n items ++ (get_or items n s ∷ []) = take_more items n s b in
    let is : get_or items n s ≡ s = get_or_from_slice_get items n s s e in
    ap (λ l. reverse (side_numbers l)) (sym whole ∙ (split ∙ ap (λ t. take n items ++ (t ∷ [])) is)) ∙ top_first (take n items) s
