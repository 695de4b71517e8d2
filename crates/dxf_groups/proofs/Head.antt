-- Lists that begin alike, and the front of a binary drawing.
use Rattle.std.proofs.Common.{arith, ◌≡◌, ℕ, ◌+◌, ◌<◌, ◌≤◌, Bool, true, false, cond, suc, List, [], ◌∷◌, ◌++◌, length, take, refl, sym, ap, ◌∙◌, inl, inr}
use Rattle.std.specs.Prelude.{nat_eq, slice_index, codes}
use Rattle.std.specs.List.{common_prefix_len}
use Rattle.std.proofs.lemmas.Bool.{cases_lt, eqb-true, eq-eqb, ne_eqb, both_ways}
use Rattle.std.proofs.lemmas.List.{length-append, length-take, take-append-le, take_all, same_from_push}
use Rattle.std.proofs.lemmas.Slice.Eq.{bytes_eq-Decides}
use Rattle.dxf_groups.specs.Pairs.{binary_head, is_binary}

on_cons : (t : Bool) (m k n : ℕ) → cond t (1 + m) 0 ≡ suc n → (m ≡ n → k ≡ m + 1) → cond t (1 + k) 0 ≡ cond t (1 + m) 0 + 1
on_cons true m k n e h = omega (arith, h (omega arith))
on_cons false m k n e h = absurd (omega arith)

off_cons : (t : Bool) (m k : ℕ) → (t ≡ true → k ≡ m) → cond t (1 + k) 0 ≡ cond t (1 + m) 0
off_cons true m k h = ap (λ n. 1 + n) (h refl)
off_cons false m k h = refl

-- xs stands at the front of ys, and c goes on with it
pub common_prefix_len-on : (xs ys : List ℕ) (c : ℕ) → common_prefix_len nat_eq xs ys ≡ length xs → length xs < length ys → slice_index ys (length xs) ≡ c →
    common_prefix_len nat_eq (xs ++ c ∷ []) ys ≡ common_prefix_len nat_eq xs ys + 1
common_prefix_len-on [] [] c all short next = absurd (omega arith)
common_prefix_len-on [] (y ∷ ys) c all short next = rw (eq-eqb c y (sym next)) (omega arith)
common_prefix_len-on (x ∷ xs) [] c all short next = absurd (omega arith)
common_prefix_len-on (x ∷ xs) (y ∷ ys) c all short next =
    on_cons (nat_eq x y) (common_prefix_len nat_eq xs ys) (common_prefix_len nat_eq (xs ++ c ∷ []) ys) (length xs) all (λ e. common_prefix_len-on xs ys c e (omega arith) next)

-- it doesn't, or c doesn't
pub common_prefix_len-off : (xs ys : List ℕ) (c : ℕ) → (common_prefix_len nat_eq xs ys ≡ length xs → length xs < length ys → slice_index ys (length xs) ≡ c → ⊥) →
    common_prefix_len nat_eq (xs ++ c ∷ []) ys ≡ common_prefix_len nat_eq xs ys
common_prefix_len-off [] [] c off = refl
common_prefix_len-off [] (y ∷ ys) c off = rw (ne_eqb c y (λ e. off refl (omega arith) (sym e))) refl
common_prefix_len-off (x ∷ xs) [] c off = refl
common_prefix_len-off (x ∷ xs) (y ∷ ys) c off =
    off_cons (nat_eq x y) (common_prefix_len nat_eq xs ys) (common_prefix_len nat_eq (xs ++ c ∷ []) ys)
    (λ same. common_prefix_len-off xs ys c (λ all short next. off (rw same (omega arith)) (omega arith) next))

whole_cons : (t : Bool) (m n : ℕ) → cond t (1 + m) 0 ≡ suc n → (t ≡ true) × (m ≡ n)
whole_cons true m n e = (refl, omega arith)
whole_cons false m n e = absurd (omega arith)

-- lists of one length that are alike from end to end
pub common_prefix_len-whole : (xs ys : List ℕ) → common_prefix_len nat_eq xs ys ≡ length xs → length xs ≡ length ys → xs ≡ ys
common_prefix_len-whole [] [] all same = refl
common_prefix_len-whole [] (y ∷ ys) all same = absurd (omega arith)
common_prefix_len-whole (x ∷ xs) [] all same = absurd (omega arith)
common_prefix_len-whole (x ∷ xs) (y ∷ ys) all same =
    let h = whole_cons (nat_eq x y) (common_prefix_len nat_eq xs ys) (length xs) all in
    let first : x ≡ y = eqb-true x y h.0 in
    let rest : xs ≡ ys = common_prefix_len-whole xs ys h.1 (omega arith) in
    cc

begins : (b : List ℕ) → is_binary b ≡ true → take 18 b ≡ binary_head
begins b h = (bytes_eq-Decides (take 18 b) binary_head).0 h

long_enough : (b : List ℕ) → is_binary b ≡ true → 18 ≤ length b
long_enough b h =
    let n : length (take 18 b) ≡ 18 = ap length (begins b h) in
    omega (arith, length-take 18 b)

-- the front of a binary drawing stays
pub is_binary-append : (b more : List ℕ) → is_binary b ≡ true → is_binary (b ++ more) ≡ true
is_binary-append b more h = (bytes_eq-Decides (take 18 (b ++ more)) binary_head).1 (take-append-le 18 b more (long_enough b h) ∙ begins b h)

-- all bytes of that front but the last
abbrev pub head_front : List ℕ
head_front = codes "AutoCAD Binary DX"

-- a byte that completes it
pub head_by_last : (b : List ℕ) (c : ℕ) → is_binary b ≡ false → is_binary (b ++ c ∷ []) ≡ true → (b ≡ head_front) × (c ≡ 70)
head_by_last b c before now = elim (cases_lt (length b) 18) [
  | inl short ↦ same_from_push b head_front c 70 (sym (take_all 18 (b ++ c ∷ []) (omega (arith, length-append b (c ∷ [])))) ∙ begins (b ++ c ∷ []) now)
  | inr long ↦ absurd (both_ways (is_binary b) before ((bytes_eq-Decides (take 18 b) binary_head).1 (sym (take-append-le 18 b (c ∷ []) long) ∙ begins (b ++ c ∷ []) now)))
]
