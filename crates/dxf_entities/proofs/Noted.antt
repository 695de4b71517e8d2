-- What is looked at of a pair in any case.
use Rattle.std.proofs.Common.{◌≡◌, Bool, cond, pos, Option, Some, None, sym, ap, ◌∙◌}
use Rattle.std.specs.Prelude.{codes}
use Rattle.std.specs.Option.{option_or}
use Rattle.std.specs.Ordering.{int_eq}
use Rattle.dxf_groups.specs.Pairs.{Pair, has_code, is_pair}
use Rattle.dxf_entities.specs.declared.space.Space.{Space}
use Rattle.dxf_entities.specs.Refusals.{space_at}
use Rattle.dxf_entities.specs.EntityBuilder.{EntitySoFar, noted}

-- the first pair that tells the space
pub space_told : (known : Option Space) (p : Pair) (s : Space) → known ≡ None → p.code ≡ pos 67 → s ≡ space_at p → Some s ≡ option_or known (cond (int_eq p.code (pos 67)) (Some (space_at p)) None)
space_told known p s none code is =
    ap (λ (x : Space). Some x) is
    ∙ ap (λ b. cond b (Some (space_at p)) None) (sym (ap (λ n. int_eq n (pos 67)) code))
    ∙ ap (λ o. option_or o (cond (int_eq p.code (pos 67)) (Some (space_at p)) None)) (sym none)

-- both, as they're written
pub noted_by : (p : Pair) (h : EntitySoFar) (opening : Option Bool) (space : Option Space) → opening ≡ option_or h.opening (Some (is_pair 2 (codes "ENTITIES") p)) →
    space ≡ option_or h.space (cond (has_code 67 p) (Some (space_at p)) None) → record h { opening = opening; space = space } ≡ noted p h
noted_by p h opening space e f = λ i. record h { opening = e i; space = f i }
