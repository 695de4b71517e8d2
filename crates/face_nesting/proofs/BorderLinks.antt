-- The half-edges of each face, linked one to another: what one more half-edge does.
use Rattle.std.proofs.Common.{arith, ◌≡◌, inl, inr, ℕ, ◌+◌, List, [], ◌∷◌, ◌++◌, length, set, sym, ap, subst, ◌∙◌}
use Rattle.std.specs.Prelude.{Option, Some, None, slice_get}
use Rattle.std.proofs.lemmas.Bool.{cases_eq}
use Rattle.std.proofs.lemmas.Option.{none-some, same_Some, slice_get_within}
use Rattle.nest_base.specs.declared.numbers.Side.{Side}
use Rattle.nest_base.proofs.ListReads.{one_read, read_of_pushed, read_written, read_unwritten}
use Rattle.face_nesting.specs.Ranks.{IsLastBelow, AreLinked}

-- one more of another face leaves the last one
last_stays : (faces : List ℕ) (f n e : ℕ) (last : Option Side) → slice_get faces n ≡ Some e → (f ≡ e → ⊥) → IsLastBelow faces f n last → IsLastBelow faces f (n + 1) last
last_stays faces f n e last at other is = record {
  below = omega (arith, is.below);
  of_face = is.of_face;
  is_last = λ s from below at_s. elim (cases_eq s n) [
    | inl same ↦ other (one_read faces n f e (subst (λ k. slice_get faces k ≡ Some f) same at_s) at)
    | inr less ↦ is.is_last s from (omega arith) at_s
  ];
}

-- and one of its own is the last then
last_next : (faces : List ℕ) (f : ℕ) (s : Side) → slice_get faces s.0 ≡ Some f → IsLastBelow faces f (s.0 + 1) (Some s)
last_next faces f s at = record {
  below = omega arith;
  of_face = λ t is. subst (λ (u : Side). slice_get faces u.0 ≡ Some f) (same_Some s t is) at;
  is_last = λ t from below at_t. omega (arith, from, below);
}

pub linked_more : (faces : List ℕ) (n f : ℕ) (last before : List (Option Side)) (old : Option Side) (s : Side) → AreLinked faces n last before → length before ≡ n →
    slice_get faces n ≡ Some f → slice_get last f ≡ Some old → s.0 ≡ n → AreLinked faces (n + 1) (set last f (Some s)) (before ++ old ∷ [])
linked_more faces n f last before old s linked long at at_f number = record {
  lasts = λ g t at_g. elim (cases_eq g f) [
    | inl same ↦
        let is : Some s ≡ t = one_read (set last f (Some s)) f (Some s) t (read_written last f (Some s) (slice_get_within last f old at_f)) (subst (λ k. slice_get (set last f (Some s)) k ≡ Some t) same at_g) in
        subst (IsLastBelow faces g (n + 1)) is
        (subst (λ k. IsLastBelow faces k (n + 1) (Some s)) (sym same) (subst (λ k. IsLastBelow faces f (k + 1) (Some s)) number (last_next faces f s (ap (slice_get faces) number ∙ at))))
    | inr other ↦ last_stays faces g n f t at other (linked.lasts g t (sym (read_unwritten last f g (Some s) other) ∙ at_g))
  ];
  befores = λ t g u at_t face. elim (read_of_pushed before old t u at_t) [
    | inl earlier ↦ linked.befores t g u earlier face
    | inr (here, same) ↦
        let place : t ≡ n = omega (arith, here, long) in
        let is : f ≡ g = one_read faces n f g at (subst (λ k. slice_get faces k ≡ Some g) place face) in
        subst (λ k. IsLastBelow faces g k u) (sym place) (subst (IsLastBelow faces g n) same (subst (λ k. IsLastBelow faces k n old) is (linked.lasts f old at_f)))
  ];
}
