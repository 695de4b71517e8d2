-- Nearer is transitive among half-edges that fall.
use Rattle.std.proofs.Common.{arith, ◌≡◌, ℤ, pos, ◌*ℤ◌, ◌<ℤ◌, inl, inr, ap}
use Rattle.std.proofs.lemmas.Int.{ints}
use Rattle.nest_base.specs.declared.places.Point.{Point}
use Rattle.nest_base.specs.Plane.{HalfEdge}
use Rattle.nest_base.specs.Sight.{IsNearer, fall, drift, x_at}
use Rattle.nest_base.proofs.Differences.{diff_of, diffs, diff_same}
use Rattle.plate_nesting.proofs.Factors.{mul_less, less_of_mul, eq_of_mul}

turned_twice : (a b c : ℤ) → a *ℤ (b *ℤ c) ≡ c *ℤ (b *ℤ a)
turned_twice a b c = rw (diff_of a, diff_of b, diff_of c) (simp diffs (diff_same _ _ _ _ (omega arith)))

-- x over d, y over e, z over f
less_less : (x d y e z f : ℤ) → pos 0 <ℤ d → pos 0 <ℤ e → pos 0 <ℤ f → (y *ℤ d) <ℤ (x *ℤ e) → (z *ℤ e) <ℤ (y *ℤ f) → (z *ℤ d) <ℤ (x *ℤ f)
less_less x d y e z f pd pe pf h k =
    let one = mul_less f (y *ℤ d) (x *ℤ e) pf h in
    let two = mul_less d (z *ℤ e) (y *ℤ f) pd k in
    less_of_mul e (z *ℤ d) (x *ℤ f) pe (omega (arith, ints, one, two, turned_twice f y d, turned_twice f x e, turned_twice d z e))

less_equal : (x d y e z f : ℤ) → pos 0 <ℤ d → pos 0 <ℤ e → pos 0 <ℤ f → (y *ℤ d) <ℤ (x *ℤ e) → (z *ℤ e) ≡ (y *ℤ f) → (z *ℤ d) <ℤ (x *ℤ f)
less_equal x d y e z f pd pe pf h k =
    let one = mul_less f (y *ℤ d) (x *ℤ e) pf h in
    let two : d *ℤ (z *ℤ e) ≡ d *ℤ (y *ℤ f) = ap (λ n. d *ℤ n) k in
    less_of_mul e (z *ℤ d) (x *ℤ f) pe (omega (arith, ints, one, two, turned_twice f y d, turned_twice f x e, turned_twice d z e))

equal_less : (x d y e z f : ℤ) → pos 0 <ℤ d → pos 0 <ℤ e → pos 0 <ℤ f → (y *ℤ d) ≡ (x *ℤ e) → (z *ℤ e) <ℤ (y *ℤ f) → (z *ℤ d) <ℤ (x *ℤ f)
equal_less x d y e z f pd pe pf h k =
    let one : f *ℤ (y *ℤ d) ≡ f *ℤ (x *ℤ e) = ap (λ n. f *ℤ n) h in
    let two = mul_less d (z *ℤ e) (y *ℤ f) pd k in
    less_of_mul e (z *ℤ d) (x *ℤ f) pe (omega (arith, ints, one, two, turned_twice f y d, turned_twice f x e, turned_twice d z e))

equal_equal : (x d y e z f : ℤ) → pos 0 <ℤ e → (y *ℤ d) ≡ (x *ℤ e) → (z *ℤ e) ≡ (y *ℤ f) → (z *ℤ d) ≡ (x *ℤ f)
equal_equal x d y e z f pe h k =
    let one : f *ℤ (y *ℤ d) ≡ f *ℤ (x *ℤ e) = ap (λ n. f *ℤ n) h in
    let two : d *ℤ (z *ℤ e) ≡ d *ℤ (y *ℤ f) = ap (λ n. d *ℤ n) k in
    eq_of_mul e (z *ℤ d) (x *ℤ f) pe (omega (arith, ints, one, two, turned_twice f y d, turned_twice f x e, turned_twice d z e))

pub nearer_then : (p : Point) (d e f : HalfEdge) → pos 0 <ℤ fall d → pos 0 <ℤ fall e → pos 0 <ℤ fall f → IsNearer p d e → IsNearer p e f → IsNearer p d f
nearer_then p d e f pd pe pf (inl h) (inl k) = inl (less_less (x_at p.y d) (fall d) (x_at p.y e) (fall e) (x_at p.y f) (fall f) pd pe pf h k)
nearer_then p d e f pd pe pf (inl h) (inr k) = inl (less_equal (x_at p.y d) (fall d) (x_at p.y e) (fall e) (x_at p.y f) (fall f) pd pe pf h k.0)
nearer_then p d e f pd pe pf (inr h) (inl k) = inl (equal_less (x_at p.y d) (fall d) (x_at p.y e) (fall e) (x_at p.y f) (fall f) pd pe pf h.0 k)
nearer_then p d e f pd pe pf (inr h) (inr k) = inr (
  equal_equal (x_at p.y d) (fall d) (x_at p.y e) (fall e) (x_at p.y f) (fall f) pe h.0 k.0,
  less_less (drift d) (fall d) (drift e) (fall e) (drift f) (fall f) pd pe pf h.1 k.1,
)
