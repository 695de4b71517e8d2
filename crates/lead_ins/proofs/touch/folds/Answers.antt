use Rattle.std.proofs.Common.{arith, ◌≡◌, pos, inl, inr, sym, refl, ◌∙◌}
use Rattle.std.proofs.lemmas.Bool.{iff_false}
use Rattle.std.proofs.lemmas.Int.{ints}
use Rattle.lead_ins.proofs.touch.folds.Goals as goal

pub returns-then-lie_aside : goal.returns-then-lie_aside
returns-then-lie_aside c =
    let zero : c.cross.result ≡ pos 0 = omega (arith, ints) in
    (λ yes. record { straight = sym c.cross.ensures ∙ zero; one_way = inl (c.lie_aside.ensures.0 c.if-lie_aside.true) }, λ fold. refl)

pub returns : goal.returns
returns c =
    let zero : c.cross.result ≡ pos 0 = omega (arith, ints) in (
      λ yes. record { straight = sym c.cross.ensures ∙ zero; one_way = inr (c.lie_above.ensures.0 yes) },
      λ fold. elim fold.one_way [
        | inl across ↦ absurd (iff_false c.lie_aside.ensures c.if-lie_aside.false across)
        | inr up ↦ c.lie_above.ensures.1 up
      ],
    )
