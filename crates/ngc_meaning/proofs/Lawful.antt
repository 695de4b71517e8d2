-- Lines are lawful by their words one after the other.
use Rattle.std.proofs.Common.{arith, ◌≡◌, ℕ, zero, suc, ◌+◌, ◌≤◌, Bool, true, false, List, [], ◌∷◌, ◌++◌, refl, sym, ap, ◌∙◌, append_assoc}
use Rattle.std.specs.Prelude.{◌&&◌, ◌||◌, not, nat_eq, nat_le, nat_lt, drop, filter, length, cond, count_by, if◌then◌else◌}
use Rattle.std.specs.List.{list_all, list_any}
use Rattle.std.proofs.lemmas.Bool.{and_parts, leb-true, false≢true}
use Rattle.std.proofs.lemmas.Grind.{common_steps}
use Rattle.std.proofs.lemmas.List.{append-nil, length-append}
use Rattle.std.proofs.lemmas.List.Elements.{filter-append}
use Rattle.std.proofs.lemmas.List.Folds.{list_all-append}
use Rattle.std.proofs.lemmas.List.Sums.{length-filter}
use Rattle.code_moves.specs.Words.{Word, has_letter, is_motion, is_dwell, is_unit, is_distance, is_torch, is_end, once_a_line, is_short, is_negative, is_amount, is_label, are_lawful}
use Rattle.ngc_meaning.specs.Blocks.{is_empty, fits_behind, are_consistent}
use Rattle.ngc_meaning.specs.Machines.{agree}

-- what are_lawful asks, but for the pairing of G4 and P
abbrev lawful_so_far : List Word → Bool
lawful_so_far ws =
    list_all (λ (is_kind : Word → Bool). nat_le (count_by is_kind ws) 1) once_a_line
    && list_all (λ w. not (is_label w)) (drop 1 ws) && list_all (λ w. not (is_label w) || is_short w) ws
    && list_all (λ w. not (is_amount w) || not (is_negative w)) ws

combine : (a b c d k e s m l : Bool) → ((a && k) && (b && (e || l)) && (c && (l || s)) && (d && m)) ≡ (a && b && c && d && (k && (l || (e && s)) && m))
combine true true true d true true s m true = refl
combine true true true d true true true m false = refl
combine true true true true true true false m false = refl
combine true true true false true true false m false = refl
combine true true false d true true s m l = refl
combine true true true d true false s m true = refl
combine true true false d true false s m true = refl
combine true true true true true false s m false = refl
combine true true true false true false s m false = refl
combine true true false d true false s m false = refl
combine true false c d true e s m l = refl
combine true true true true false e s m l = refl
combine true true true false false e s m l = refl
combine true true false d false e s m l = refl
combine true false c d false e s m l = refl
combine false b c d k e s m l = refl

any_of : (p : Word → Bool) (ws : List Word) → nat_lt 0 (length (filter p ws)) ≡ list_any p ws
any_of p [] = refl
any_of p (w ∷ ws) = by (p w) (any_of p ws)
  where
    by : (t : Bool) → nat_lt 0 (length (filter p ws)) ≡ list_any p ws → nat_lt 0 (length (cond t (w ∷ filter p ws) (filter p ws))) ≡ (t || list_any p ws)
    by true h = grind (arith, common_steps)
    by false h = h

-- some word is of a kind where their number isn't 0
any_is : (p : Word → Bool) (ws : List Word) → nat_lt 0 (count_by p ws) ≡ list_any p ws
any_is p ws = ap (nat_lt 0) (sym (length-filter p ws)) ∙ any_of p ws

count_push : (p : Word → Bool) (ws : List Word) (w : Word) → count_by p (ws ++ w ∷ []) ≡ count_by p ws + (if p w then 1 else 0)
count_push p ws w = sym (length-filter p (ws ++ w ∷ [])) ∙ ap length (filter-append p ws (w ∷ [])) ∙ length-append (filter p ws) (filter p (w ∷ [])) ∙ ap (λ n. n + length (filter p (w ∷ []))) (length-filter p ws) ∙ ap (λ n. count_by p ws + n) (by (p w))
  where
    by : (t : Bool) → length (cond t (w ∷ []) []) ≡ (if t then 1 else 0)
    by true = refl
    by false = refl

once_by : (t : Bool) (n : ℕ) → nat_le (n + (if t then 1 else 0)) 1 ≡ (nat_le n 1 && not (t && nat_lt 0 n))
once_by true zero = refl
once_by true (suc zero) = refl
once_by true (suc (suc n)) = grind (arith, common_steps)
once_by false n = ap (λ k. nat_le k 1) (none n) ∙ by (nat_le n 1)
  where
    none : (n : ℕ) → n + 0 ≡ n
    none n = omega arith

    by : (t : Bool) → t ≡ (t && true)
    by true = refl
    by false = refl

-- one kind, with one more word
once_more : (k : Word → Bool) (ws : List Word) (w : Word) → nat_le (count_by k (ws ++ w ∷ [])) 1 ≡ (nat_le (count_by k ws) 1 && not (k w && list_any k ws))
once_more k ws w = ap (λ n. nat_le n 1) (count_push k ws w) ∙ once_by (k w) (count_by k ws) ∙ ap (λ t. nat_le (count_by k ws) 1 && not (k w && t)) (any_is k ws)

four : (a b c d : Bool) → (a && b && (c && d)) ≡ (a && c && (b && d))
four true true c d = refl
four true false true d = refl
four true false false d = refl
four false b c d = refl

each_once_more : (ks : List (Word → Bool)) (ws : List Word) (w : Word) → list_all (λ (k : Word → Bool). nat_le (count_by k (ws ++ w ∷ [])) 1) ks
    ≡ (list_all (λ (k : Word → Bool). nat_le (count_by k ws) 1) ks && list_all (λ (k : Word → Bool). not (k w && list_any k ws)) ks)
each_once_more [] ws w = refl
each_once_more (k ∷ ks) ws w =
    ap (λ t. t && list_all (λ (j : Word → Bool). nat_le (count_by j (ws ++ w ∷ [])) 1) ks) (once_more k ws w)
    ∙ ap (λ t. (nat_le (count_by k ws) 1 && not (k w && list_any k ws)) && t) (each_once_more ks ws w)
    ∙ four (nat_le (count_by k ws) 1) (not (k w && list_any k ws)) (list_all (λ (j : Word → Bool). nat_le (count_by j ws) 1) ks) (list_all (λ (j : Word → Bool). not (j w && list_any j ws)) ks)

and_true : (t : Bool) → (t && true) ≡ t
and_true true = refl
and_true false = refl

all_more : (p : Word → Bool) (ws : List Word) (w : Word) → list_all p (ws ++ w ∷ []) ≡ (list_all p ws && p w)
all_more p ws w = list_all-append p ws (w ∷ []) ∙ ap (λ t. list_all p ws && t) (and_true (p w))

-- labels, with one more word
first_more : (p : Word → Bool) (ws : List Word) (w : Word) → list_all p (drop 1 (ws ++ w ∷ [])) ≡ (list_all p (drop 1 ws) && (is_empty ws || p w))
first_more p [] w = refl
first_more p (v ∷ ws) w = all_more p ws w

lawful_more : (ws : List Word) (w : Word) → lawful_so_far (ws ++ w ∷ []) ≡ (lawful_so_far ws && fits_behind ws w)
lawful_more ws w =
    rw (each_once_more once_a_line ws w, first_more (λ v. not (is_label v)) ws w, all_more (λ v. not (is_label v) || is_short v) ws w, all_more (λ v. not (is_amount v) || not (is_negative v)) ws w)
    (combine (list_all (λ (k : Word → Bool). nat_le (count_by k ws) 1) once_a_line) (list_all (λ v. not (is_label v)) (drop 1 ws)) (list_all (λ v. not (is_label v) || is_short v) ws)
    (list_all (λ v. not (is_amount v) || not (is_negative v)) ws) (list_all (λ (k : Word → Bool). not (k w && list_any k ws)) once_a_line) (is_empty ws) (is_short w) (not (is_amount w) || not (is_negative w)) (not (is_label w)))

lawful_behind : (before ws : List Word) → lawful_so_far (before ++ ws) ≡ (lawful_so_far before && are_consistent before ws)
lawful_behind before [] = ap lawful_so_far (append-nil before) ∙ sym (and_true (lawful_so_far before))
lawful_behind before (w ∷ ws) =
    ap lawful_so_far (sym (append_assoc before (w ∷ []) ws)) ∙ lawful_behind (before ++ w ∷ []) ws
    ∙ ap (λ t. t && are_consistent (before ++ w ∷ []) ws) (lawful_more before w) ∙ and_assoc (lawful_so_far before) (fits_behind before w) (are_consistent (before ++ w ∷ []) ws)
  where
    and_assoc : (a b c : Bool) → (a && b && c) ≡ (a && (b && c))
    and_assoc true b c = refl
    and_assoc false b c = refl

-- the words of a line are lawful where they are consistent, and G4 and P come together
pub lawful_is : (ws : List Word) → are_lawful ws ≡ (are_consistent [] ws && nat_eq (count_by is_dwell ws) (count_by (has_letter 80) ws))
lawful_is ws = ap (λ t. t && nat_eq (count_by is_dwell ws) (count_by (has_letter 80) ws)) (lawful_behind [] ws)

pub inconsistent : (ws : List Word) → are_consistent [] ws ≡ false → are_lawful ws ≡ false
inconsistent ws h = lawful_is ws ∙ rw h refl

-- of each there is at most one, so there are as many where they are there together
paired : (m n : ℕ) → m ≤ 1 → n ≤ 1 → nat_eq m n ≡ agree (nat_lt 0 m) (nat_lt 0 n)
paired zero zero h k = refl
paired zero (suc zero) h k = refl
paired (suc zero) zero h k = refl
paired (suc zero) (suc zero) h k = refl
paired (suc (suc m)) n h k = absurd (omega (arith, h))
paired zero (suc (suc n)) h k = absurd (omega (arith, k))
paired (suc zero) (suc (suc n)) h k = absurd (omega (arith, k))

second_and_tenth : (a b c d e f g h i j rest : Bool) → (a && (b && (c && (d && (e && (f && (g && (h && (i && (j && rest)))))))))) ≡ true → (b ≡ true) × (j ≡ true)
second_and_tenth true true true true true true true true true j rest k = (refl, (and_parts j rest k).0)
second_and_tenth false b c d e f g h i j rest k = absurd (false≢true k)
second_and_tenth true false c d e f g h i j rest k = absurd (false≢true k)
second_and_tenth true true false d e f g h i j rest k = absurd (false≢true k)
second_and_tenth true true true false e f g h i j rest k = absurd (false≢true k)
second_and_tenth true true true true false f g h i j rest k = absurd (false≢true k)
second_and_tenth true true true true true false g h i j rest k = absurd (false≢true k)
second_and_tenth true true true true true true false h i j rest k = absurd (false≢true k)
second_and_tenth true true true true true true true false i j rest k = absurd (false≢true k)
second_and_tenth true true true true true true true true false j rest k = absurd (false≢true k)

-- what holds of each kind, holds of these two
dwell_and_time : (p : (Word → Bool) → Bool) → list_all p once_a_line ≡ true → (p is_dwell ≡ true) × (p (has_letter 80) ≡ true)
dwell_and_time p h = second_and_tenth (p is_motion) (p is_dwell) (p is_unit) (p is_distance) (p is_torch) (p is_end) (p (has_letter 78)) (p (has_letter 70)) (p (has_letter 83)) (p (has_letter 80)) _ h

pub dwells_are_paired : (ws : List Word) → are_consistent [] ws ≡ true → nat_eq (count_by is_dwell ws) (count_by (has_letter 80) ws) ≡ agree (list_any is_dwell ws) (list_any (has_letter 80) ws)
dwells_are_paired ws h =
    let once : lawful_so_far ws ≡ true = lawful_behind [] ws ∙ h in
    let each = dwell_and_time (λ k. nat_le (count_by k ws) 1) (first once) in
    paired (count_by is_dwell ws) (count_by (has_letter 80) ws) (leb-true (count_by is_dwell ws) 1 each.0) (leb-true (count_by (has_letter 80) ws) 1 each.1)
    ∙ ap (λ t. agree t (nat_lt 0 (count_by (has_letter 80) ws))) (any_is is_dwell ws) ∙ ap (agree (list_any is_dwell ws)) (any_is (has_letter 80) ws)
  where
    front : (a b c d : Bool) → (a && b && c && d) ≡ true → a ≡ true
    front true b c d e = refl
    front false b c d e = e

    first : lawful_so_far ws ≡ true → list_all (λ (k : Word → Bool). nat_le (count_by k ws) 1) once_a_line ≡ true
    first e = front (list_all (λ (k : Word → Bool). nat_le (count_by k ws) 1) once_a_line) (list_all (λ w. not (is_label w)) (drop 1 ws)) (list_all (λ w. not (is_label w) || is_short w) ws)
        (list_all (λ w. not (is_amount w) || not (is_negative w)) ws) e
