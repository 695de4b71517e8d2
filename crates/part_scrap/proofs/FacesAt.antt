-- Faces at places, by number: one number is one face.
use Rattle.std.proofs.Common.{◌≡◌, ◌↔◌, ℕ, List, sym, subst, ◌∙◌}
use Rattle.std.specs.Prelude.{Some, slice_get, slice_index}
use Rattle.std.proofs.lemmas.Option.{get_or_from_slice_get}
use Rattle.nest_base.specs.declared.places.Point.{Point}
use Rattle.nest_base.specs.declared.places.Edge.{Edge}
use Rattle.nest_base.specs.Walks.{here}
use Rattle.nest_base.proofs.Walks.{Walk-then, Walk-back}
use Rattle.plate_sides.specs.Links.{Node, Outer, At}
use Rattle.plate_sides.specs.Nesting.{SeesOne}
use Rattle.plate_sides.specs.Reach.{SameFace}
use Rattle.plate_parts.specs.Parts.{IsFaceAt, HaveOneFace}
use Rattle.face_nesting.specs.Nesting.{AreFaces}
use Rattle.face_nesting.specs.Places.{HasFaceNumber, IsFaceNumberAt}

module _ {edges : List Edge} {faces : List ℕ} (are_faces : AreFaces edges faces) where
  index_is : (s f : ℕ) → slice_get faces s ≡ Some f → slice_index faces s ≡ f
  index_is s f at = get_or_from_slice_get faces s f 0 at

  -- two nodes have one number exactly where they have one face
  pub one_number : (m n : Node) (f g : ℕ) → HasFaceNumber edges faces m f → HasFaceNumber edges faces n g → (f ≡ g) ↔ SameFace edges m n
  one_number Outer Outer f g is_f is_g = (λ _. here, λ _. is_f ∙ sym is_g)
  one_number Outer (At h) f g is_f (t, side, at) =
      let outside = are_faces.outside t h side in
      (λ same. Walk-back (outside.0 (index_is t g at ∙ sym same ∙ is_f)), λ walk. is_f ∙ sym (outside.1 (Walk-back walk)) ∙ index_is t g at)
  one_number (At h) Outer f g (s, side, at) is_g =
      let outside = are_faces.outside s h side in
      (λ same. outside.0 (index_is s f at ∙ same ∙ is_g), λ walk. sym (index_is s f at) ∙ outside.1 walk ∙ sym is_g)
  one_number (At h) (At k) f g (s, side, at) (t, other, there) =
      let joined = are_faces.joined s t h k side other in
      (λ same. joined.0 (index_is s f at ∙ same ∙ sym (index_is t g there)), λ walk. sym (index_is s f at) ∙ joined.1 walk ∙ index_is t g there)

  module _ (sees_one : SeesOne edges) where
    -- the face of a node is the face at p exactly where they have one number
    pub number_at : (p : Point) (n : Node) (f g : ℕ) → IsFaceNumberAt edges faces p f → HasFaceNumber edges faces n g → (f ≡ g) ↔ IsFaceAt edges p n
    number_at p n f g (seen, sees, has) is_g =
        let one = one_number seen n f g has is_g in (
          λ same. (seen, sees, one.0 same),
          λ at. one.1 (subst (λ m. SameFace edges m n) (sees_one p at.0 seen at.1 sees) at.2),
        )

    -- two places have one face exactly where that has one number
    pub one_face_at : (p q : Point) (f g : ℕ) → IsFaceNumberAt edges faces p f → IsFaceNumberAt edges faces q g → (f ≡ g) ↔ HaveOneFace edges p q
    one_face_at p q f g (seen, sees, has) (other, sees_other, has_other) =
        let one = one_number seen other f g has has_other in (
          λ same. (other, (seen, sees, one.0 same), (other, sees_other, here)),
          λ (n, at_p, at_q).
              let walk_p = subst (λ m. SameFace edges m n) (sees_one p at_p.0 seen at_p.1 sees) at_p.2 in
              let walk_q = subst (λ m. SameFace edges m n) (sees_one q at_q.0 other at_q.1 sees_other) at_q.2 in
              one.1 (Walk-then walk_p (Walk-back walk_q)),
        )
