use Rattle.std.proofs.Common.{arith, ◌≡◌, pos, ◌∙◌, sym, refl}
use Rattle.std.proofs.lemmas.Int.{ints}
use Rattle.nest_base.specs.Plane.{IsOn, rational}
use Rattle.nest_base.proofs.Points.{on_place, line_of_place, across_place, up_place}
use Rattle.nest_base.proofs.places.between.Goals as goal

pub returns-then-cross-ne0 : goal.returns-then-cross-ne0
returns-then-cross-ne0 c =
    let p = c.args.p in
    let s = c.args.s.now in
    let zero : IsOn (rational p) s.a s.b → c.cross.result ≡ pos 0 = λ on. c.cross.ensures ∙ line_of_place p s.a s.b on in
    (λ impossible. cc, λ on. let z = zero on in absurd (omega (arith, ints, z)))

pub returns-then-not-is_across : goal.returns-then-not-is_across
returns-then-not-is_across c =
    let p = c.args.p in
    let s = c.args.s.now in
    let across = rw c.if-not-is_across.true at c.is_across.ensures in
    (λ impossible. cc, λ on. across.1 (across_place p s.a s.b on))

pub returns : goal.returns
returns c =
    let p = c.args.p in
    let s = c.args.s.now in
    let zero : c.cross.result ≡ pos 0 = omega (arith, ints) in
    let across = rw c.if-not-is_across.false at c.is_across.ensures in
    (λ up. on_place p s.a s.b (sym c.cross.ensures ∙ zero) (across.0 refl) (c.is_up.ensures.0 up), λ on. c.is_up.ensures.1 (up_place p s.a s.b on))
