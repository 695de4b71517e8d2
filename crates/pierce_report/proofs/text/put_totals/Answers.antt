use Rattle.std.proofs.Common.{◌≡◌, ℕ, List, [], ◌∷◌, ◌++◌, append_assoc, codes}
use Rattle.std.specs.Fmt.{decimal}
use Rattle.std.proofs.lemmas.Result.{IfOk-equal}
use Rattle.pierce_report.proofs.text.put_totals.Goals as goal

-- one piece after another
joined : (out a p b q one two : List ℕ) → one ≡ out ++ a ++ p → two ≡ one ++ b ++ q → two ++ 10 ∷ [] ≡ out ++ (a ++ p ++ b ++ q ++ 10 ∷ [])
joined out a p b q one two first second = rw (second, first) (simp append_assoc)

pub returns : goal.returns
returns c =
    IfOk-equal c.push.result c.push.new.self _ _ c.push.ensures.ok
    (joined c.args.out.now (codes "total pierces ") (decimal c.args.pierces) (codes " bound ") (decimal c.args.bound) c.put_number.new.out c.put_number-2.new.out
    c.in_ok-put_number.ensures c.in_ok-put_number-2.ensures)
