-- Bytes of which none passes a test, and where one of a list does.
use Rattle.std.proofs.Common.{arith, ◌≡◌, ℕ, suc, ◌+◌, ◌-◌, Bool, true, false, List, [], ◌∷◌, ◌++◌, length, take, drop, refl, ap, ◌∙◌}
use Rattle.std.specs.List.{AllByRecursion, prefix_len, suffix_len, position_or_len, before_first, after_first}
use Rattle.std.proofs.lemmas.List.{take_all, take_at}
use Rattle.std.proofs.lemmas.List.Elements.{All-from_recursion}
use Rattle.std.proofs.lemmas.List.Sums.{suffix_len_is}

-- no byte passes p
abbrev pub NonePass : (ℕ → Bool) → List ℕ → Type 0
NonePass p xs = AllByRecursion (λ b. p b ≡ false) xs

-- what each implies for itself, all imply for themselves
pub all_imply : {X : Type 0} (P Q : X → Type 0) → ((x : X) → P x → Q x) → (xs : List X) → AllByRecursion P xs → AllByRecursion Q xs
all_imply P Q f [] h = tt
all_imply P Q f (x ∷ xs) h = (f x h.0, all_imply P Q f xs h.1)

pub all-append : {X : Type 0} (P : X → Type 0) (xs ys : List X) → AllByRecursion P xs → AllByRecursion P ys → AllByRecursion P (xs ++ ys)
all-append P [] ys h k = k
all-append P (x ∷ xs) ys h k = (h.0, all-append P xs ys h.1 k)

pub prefix_len_none : (p : ℕ → Bool) (xs : List ℕ) → NonePass p xs → prefix_len p xs ≡ 0
prefix_len_none p [] h = refl
prefix_len_none p (x ∷ xs) h = rw h.0 refl

pub suffix_len_none : (p : ℕ → Bool) (xs : List ℕ) → NonePass p xs → suffix_len p xs ≡ 0
suffix_len_none p xs h = suffix_len_is p xs (length xs) 0 (omega arith) (λ k u v. absurd (omega (arith, u, v))) (λ u. All-from_recursion (λ b. p b ≡ false) xs h (length xs - 1) 0 (omega (arith, u))) ∙ omega arith

drop_front : (xs : List ℕ) (y : ℕ) (ys : List ℕ) → drop (suc (length xs)) (xs ++ y ∷ ys) ≡ ys
drop_front [] y ys = refl
drop_front (x ∷ xs) y ys = drop_front xs y ys

-- where the first byte stands that passes
position_none : (p : ℕ → Bool) (xs : List ℕ) → NonePass p xs → position_or_len p xs ≡ length xs
position_none p [] h = refl
position_none p (x ∷ xs) h = rw h.0 (omega (arith, position_none p xs h.1))

position_at : (p : ℕ → Bool) (xs : List ℕ) (y : ℕ) (ys : List ℕ) → NonePass p xs → p y ≡ true → position_or_len p (xs ++ y ∷ ys) ≡ length xs
position_at p [] y ys h k = rw k refl
position_at p (x ∷ xs) y ys h k = rw h.0 (omega (arith, position_at p xs y ys h.1 k))

pub before_first_none : (p : ℕ → Bool) (xs : List ℕ) → NonePass p xs → before_first p xs ≡ xs
before_first_none p xs h = ap (λ n. take n xs) (position_none p xs h) ∙ take_all (length xs) xs (omega arith)

-- y is the first byte that passes
pub before_first_at : (p : ℕ → Bool) (xs : List ℕ) (y : ℕ) (ys : List ℕ) → NonePass p xs → p y ≡ true → before_first p (xs ++ y ∷ ys) ≡ xs
before_first_at p xs y ys h k = ap (λ n. take n (xs ++ y ∷ ys)) (position_at p xs y ys h k) ∙ take_at xs (y ∷ ys) (length xs) refl

pub after_first_at : (p : ℕ → Bool) (xs : List ℕ) (y : ℕ) (ys : List ℕ) → NonePass p xs → p y ≡ true → after_first p (xs ++ y ∷ ys) ≡ ys
after_first_at p xs y ys h k = ap (λ n. drop (n + 1) (xs ++ y ∷ ys)) (position_at p xs y ys h k) ∙ ap (λ n. drop n (xs ++ y ∷ ys)) (one_more (length xs)) ∙ drop_front xs y ys
  where
    one_more : (n : ℕ) → n + 1 ≡ suc n
    one_more n = omega arith
