-- A burning order has each number once, each below the number of components, and there is only one.
use Rattle.std.proofs.Common.{arith, ◌≡◌, ℕ, ◌<◌, List, [], ◌∷◌, ◌++◌, length, get_or, take, get_or-take, length-take, le_antisymm, append-nil, refl, sym, ap, subst, ◌∙◌}
use Rattle.std.specs.Prelude.{Contains, Option}
use Rattle.std.proofs.Math.Seq.{append_snoc}
use Rattle.std.proofs.lemmas.List.Elements.{All-contains_itself}
use Rattle.plate_nesting.specs.Order.{IsBurningOrder, IsFront}
use Rattle.plate_nesting.specs.OneOrder.{EachIsBurntOnce, EachIsWithin, OrderIsOne}
use Rattle.plate_nesting.proofs.Fronts.{ready_at}

front_of : (parents : List (Option ℕ)) (order : List ℕ) → IsBurningOrder parents order → IsFront parents order
front_of parents order is = record { ready = is.ready; least = is.least }

-- a component stands in front of each later place
in_front : (order : List ℕ) (i j d : ℕ) → i < j → j < length order → Contains (take j order) (get_or order i d)
in_front order i j d less within =
    subst (Contains (take j order)) (get_or-take j order i d less) (All-contains_itself (take j order) i d (omega (arith, length-take j order)))

pub each_is_burnt_once : EachIsBurntOnce
each_is_burnt_once parents order is i j d less within same =
    (ready_at parents order j d (front_of parents order is) within).unfinished (subst (Contains (take j order)) same (in_front order i j d less within))

pub each_is_within : EachIsWithin
each_is_within parents order is j d within = (ready_at parents order j d (front_of parents order is) within).within

-- two orders with one front go on alike
same_later : (parents : List (Option ℕ)) (xs ys front later others : List ℕ) → IsBurningOrder parents xs → IsBurningOrder parents ys →
    xs ≡ front ++ later → ys ≡ front ++ others → later ≡ others
same_later parents xs ys front [] [] is_x is_y cut_x cut_y = refl
same_later parents xs ys front [] (y ∷ others) is_x is_y cut_x cut_y =
    let ready = is_y.ready front y others cut_y in
    absurd (ready.unfinished (subst (λ l. Contains l y) (cut_x ∙ append-nil front) (is_x.all y ready.within)))
same_later parents xs ys front (x ∷ later) [] is_x is_y cut_x cut_y =
    let ready = is_x.ready front x later cut_x in
    absurd (ready.unfinished (subst (λ l. Contains l x) (cut_y ∙ append-nil front) (is_y.all x ready.within)))
same_later parents xs ys front (x ∷ later) (y ∷ others) is_x is_y cut_x cut_y =
    let same : x ≡ y = le_antisymm (is_x.least front x later cut_x y (is_y.ready front y others cut_y)) (is_y.least front y others cut_y x (is_x.ready front x later cut_x)) in
    let rest = same_later parents xs ys (front ++ x ∷ []) later others is_x is_y (cut_x ∙ sym (append_snoc front x later))
    (cut_y ∙ ap (λ n. front ++ n ∷ others) (sym same) ∙ sym (append_snoc front x others)) in
    ap (λ l. x ∷ l) rest ∙ ap (λ n. n ∷ others) same

pub burning_order_is_one : OrderIsOne
burning_order_is_one parents xs ys is_x is_y = same_later parents xs ys [] xs ys is_x is_y refl refl
