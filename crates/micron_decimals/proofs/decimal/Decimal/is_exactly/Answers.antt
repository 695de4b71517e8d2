use Rattle.std.proofs.Common.{arith, rules, ◌≡◌, ◌&&◌, Bool, true, false, drop, ℤ, pos, negsuc, to_z, of_z, FitsSigned, refl, sym, ap, subst, ◌∙◌}
use Rattle.std.specs.Prelude.{unsigned_abs}
use Rattle.std.specs.Int.{w64, w128, int_max}
use Rattle.std.specs.List.{list_all}
use Rattle.std.specs.Ordering.{int_eq}
use Rattle.std.proofs.lemmas.Bool.{false_from_ne_true, and_right}
use Rattle.std.proofs.lemmas.Bool.Decides.{Decides-int_eq}
use Rattle.std.proofs.lemmas.Int.{ints, clamps, to_z-of_z}
use Rattle.micron_decimals.specs.Decimals.{Decimal, signed, is_exactly}
use Rattle.micron_decimals.specs.Places.{IsReadable, digits_of, is_zero, with_clamped_power}
use Rattle.micron_decimals.proofs.Exactness.{not_before_first}
use Rattle.micron_decimals.proofs.Exponents.{exactly_by}
use Rattle.micron_decimals.proofs.decimal.Decimal.is_exactly.Goals as goal
use Rattle.micron_decimals.proofs.decimal.Decimal.is_exactly.Goals.{After-from}

max_place : (z m : ℤ) → FitsSigned w128 z → FitsSigned w128 m → m ≡ int_max (to_z w128 (of_z w128 z)) (pos 0) → unsigned_abs (to_z w128 (of_z w128 m)) ≡ not_before_first z
max_place (pos p) m f g e = omega (arith, ints, clamps, f, g, e)
max_place (negsuc p) m f g e = omega (arith, ints, clamps, f, g, e)

-- what is read, by the digits behind the point and the number before it
both : (c : After-from) (d : Decimal) → with_clamped_power d ≡ c.args.self.now →
    (list_all is_zero (drop (unsigned_abs (to_z w128 (of_z w128 c.max-place.result))) (digits_of c.args.self.now)) && int_eq c.signed.result c.args.whole) ≡ is_exactly d c.args.whole
both c d e =
    let p = c.args.self.now in
    let fits : FitsSigned w128 c.place.result = search rules in
    let max_fits : FitsSigned w128 c.max-place.result = search rules in
    exactly_by d p c.args.whole c.signed.result (unsigned_abs (to_z w128 (of_z w128 c.max-place.result))) (subst IsReadable c.self.view_is c.self.invariant) e c.requires
    (max_place c.place.result c.max-place.result fits max_fits c.max-place.ensures.value ∙ ap not_before_first c.place.ensures)
    (c.signed.ensures ∙ ap (λ (q : Decimal). signed q.negative c.front.result) c.self.view_is ∙ ap (λ n. signed p.negative n) c.front.ensures)

whole_is : (c : After-from) → c.from.result ≡ c.args.whole
whole_is c = c.from.ensures ∙ to_z-of_z w64 c.args.whole c.ranges.whole

pub returns-then-signed-from : goal.returns-then-signed-from
returns-then-signed-from c = λ d e.
    let other : int_eq c.signed.result c.args.whole ≡ false =
    false_from_ne_true (int_eq c.signed.result c.args.whole) (λ y. c.if-signed-from.true (ap (λ z. of_z w128 z) ((Decides-int_eq c.signed.result c.args.whole).0 y ∙ sym (whole_is (goal.at.returns-then-signed-from c).After-from)))) in
    sym (and_right (list_all is_zero (drop (unsigned_abs (to_z w128 (of_z w128 c.max-place.result))) (digits_of c.args.self.now))) (int_eq c.signed.result c.args.whole) other)
    ∙ both (goal.at.returns-then-signed-from c).After-from d e

pub returns : goal.returns
returns c = λ d e.
    let fits : FitsSigned w128 c.signed.result = search rules in
    let from_fits : FitsSigned w128 c.from.result = search rules in
    let one : c.signed.result ≡ c.from.result = sym (to_z-of_z w128 c.signed.result fits) ∙ ap (λ n. to_z w128 n) c.if-signed-from.false ∙ to_z-of_z w128 c.from.result from_fits in
    let same : int_eq c.signed.result c.args.whole ≡ true = (Decides-int_eq c.signed.result c.args.whole).1 (one ∙ whole_is (goal.at.returns c).After-from) in
    c.ends_before.ensures ∙ and_one (list_all is_zero (drop (unsigned_abs (to_z w128 (of_z w128 c.max-place.result))) (digits_of c.args.self.now)))
    ∙ ap (λ t. list_all is_zero (drop (unsigned_abs (to_z w128 (of_z w128 c.max-place.result))) (digits_of c.args.self.now)) && t) (sym same)
    ∙ both (goal.at.returns c).After-from d e
  where
    and_one : (b : Bool) → b ≡ (b && true)
    and_one true = refl
    and_one false = refl
