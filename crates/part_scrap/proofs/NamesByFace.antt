-- The names of faces, told one by one.
use Rattle.std.proofs.Common.{arith, ◌≡◌, inl, inr, ◌+◌, ◌<◌, ℕ, List, [], ◌∷◌, ◌++◌, Option, Some, None, length, take, set, length-set, sym, ap, subst, ◌∙◌}
use Rattle.std.specs.Prelude.{slice_get}
use Rattle.std.proofs.lemmas.Bool.{cases_eq}
use Rattle.std.proofs.lemmas.List.{length-take-le}
use Rattle.std.proofs.lemmas.Option.{none-some, same_Some, slice_get_within}
use Rattle.nest_base.proofs.ListReads.{one_read, read-take, read_written, read_unwritten, read_kept, read_of_pushed, read_pushed}
use Rattle.face_nesting.proofs.Prefixes.{take_read}
use Rattle.part_scrap.specs.Naming.{AreNamesOf}
use Rattle.part_scrap.specs.Refusals.{IsFirstTwice}

-- a face doesn't have two names
pub one_name : (names : List (Option ℕ)) (f i j : ℕ) → slice_get names f ≡ Some (Some i) → slice_get names f ≡ Some (Some j) → i ≡ j
one_name names f i j at_i at_j = same_Some i j (one_read names f (Some i) (Some j) at_i at_j)

-- nor is it told at once that it has none
pub some_name : (names : List (Option ℕ)) (f i : ℕ) → slice_get names f ≡ Some None → slice_get names f ≡ Some (Some i) → ⊥
some_name names f i none some = none-some i (one_read names f None (Some i) none some)

module _ {count : ℕ} (named : List ℕ) (names : List (Option ℕ)) (k f : ℕ) (at : slice_get named k ≡ Some f) (known : AreNamesOf count (take k named) names) where
  long : length (take k named) ≡ k
  long = length-take-le k named (omega (arith, slice_get_within named k f at))

  more : take (k + 1) named ≡ take k named ++ f ∷ []
  more = take_read named k f at

  -- one name more
  module _ (free : slice_get names f ≡ Some None) where
    within : f < length names
    within = slice_get_within names f None free

    told_more : (g i : ℕ) → slice_get (set names f (Some k)) g ≡ Some (Some i) → slice_get (take k named ++ f ∷ []) i ≡ Some g
    told_more g i is = elim (cases_eq g f) [
      | inl same ↦
          let written = subst (λ n. slice_get (set names f (Some k)) n ≡ Some (Some k)) (sym same) (read_written names f (Some k) within) in
          let number : k ≡ i = one_name (set names f (Some k)) g k i written is in
          subst (λ n. slice_get (take k named ++ f ∷ []) n ≡ Some g) (long ∙ number) (read_pushed (take k named) f ∙ ap Some (sym same))
      | inr other ↦ read_kept (take k named) f i g ((known.told g i).0 (sym (read_unwritten names f g (Some k) other) ∙ is))
    ]

    told_back : (g i : ℕ) → slice_get (take k named ++ f ∷ []) i ≡ Some g → slice_get (set names f (Some k)) g ≡ Some (Some i)
    told_back g i is = elim (read_of_pushed (take k named) f i g is) [
      | inl before ↦
          let old = (known.told g i).1 before in
          read_unwritten names f g (Some k) (λ same. some_name names f i free (subst (λ n. slice_get names n ≡ Some (Some i)) same old)) ∙ old
      | inr (last, same) ↦
          let number : k ≡ i = sym long ∙ sym last in
          subst (λ n. slice_get (set names f (Some k)) n ≡ Some (Some i)) same (read_written names f (Some k) within ∙ ap (λ n. Some (Some n)) number)
    ]

    pub names_more : AreNamesOf count (take (k + 1) named) (set names f (Some k))
    names_more = record {
      as_many = length-set names f (Some k) ∙ known.as_many;
      told = λ g i. (
        λ is. subst (λ l. slice_get l i ≡ Some g) (sym more) (told_more g i is),
        λ is. told_back g i (subst (λ l. slice_get l i ≡ Some g) more is),
      );
    }

  -- a face that an earlier name has
  module _ (i : ℕ) (taken : slice_get names f ≡ Some (Some i)) where
    earlier : slice_get (take k named) i ≡ Some f
    earlier = (known.told f i).0 taken

    pub is_earlier : i < k
    is_earlier = omega (arith, slice_get_within (take k named) i f earlier, long)

    pub first_twice : IsFirstTwice named i k
    first_twice = record {
      number = f;
      first = sym (read-take k named i is_earlier) ∙ earlier;
      second = at;
      in_order = is_earlier;
      once_before = λ a b x a_b b_k at_a at_b.
          let name_a = (known.told x a).1 (read-take k named a (omega (arith, a_b, b_k)) ∙ at_a) in
          let name_b = (known.told x b).1 (read-take k named b b_k ∙ at_b) in
          omega (arith, a_b, one_name names x a b name_a name_b);
    }
