-- Events in order: their segments and names, and the first refusal.
use Rattle.std.proofs.Common.{arith, ◌≡◌, ℕ, zero, suc, ◌-◌, ◌≤◌, List, [], ◌∷◌, ◌++◌, length, ap, ◌∙◌, Some, None}
use Rattle.std.proofs.lemmas.List.Elements.{filter_map-append}
use Rattle.dxf_entities.specs.declared.error.DrawingError.{DrawingError}
use Rattle.dxf_drawing.specs.Events.{Event, Draws, Names, Refuses}
use Rattle.dxf_drawing.specs.Drawings.{segment_in, name_in, segments_in, names_in, refusal_in}

pub segments_in-append : (xs ys : List Event) → segments_in (xs ++ ys) ≡ segments_in xs ++ segments_in ys
segments_in-append xs ys = filter_map-append segment_in xs ys

pub names_in-append : (xs ys : List Event) → names_in (xs ++ ys) ≡ names_in xs ++ names_in ys
names_in-append xs ys = filter_map-append name_in xs ys

-- a refusal stays
pub refusal_in-stays : (a b : ℕ) (xs ys : List Event) (e : DrawingError) → refusal_in a b xs ≡ Some e → refusal_in a b (xs ++ ys) ≡ Some e
refusal_in-stays a b [] ys e h = absurd (cc)
refusal_in-stays a b (Refuses f ∷ xs) ys e h = h
refusal_in-stays zero b (Draws s ∷ xs) ys e h = h
refusal_in-stays (suc a) b (Draws s ∷ xs) ys e h = refusal_in-stays a b xs ys e h
refusal_in-stays a zero (Names n ∷ xs) ys e h = h
refusal_in-stays a (suc b) (Names n ∷ xs) ys e h = refusal_in-stays a b xs ys e h

less_none : (n : ℕ) → n ≡ n - 0
less_none n = omega arith

less_one : (n m : ℕ) → n - m ≡ suc n - suc m
less_one n m = omega arith

-- without one, there is room for all so far, and what follows has the room that is left
pub segments_fit : (a b : ℕ) (xs : List Event) → refusal_in a b xs ≡ None → length (segments_in xs) ≤ a
segments_fit a b [] h = omega arith
segments_fit a b (Refuses f ∷ xs) h = absurd (cc)
segments_fit zero b (Draws s ∷ xs) h = absurd (cc)
segments_fit (suc a) b (Draws s ∷ xs) h = omega (arith, segments_fit a b xs h)
segments_fit a zero (Names n ∷ xs) h = absurd (cc)
segments_fit a (suc b) (Names n ∷ xs) h = segments_fit a b xs h

pub names_fit : (a b : ℕ) (xs : List Event) → refusal_in a b xs ≡ None → length (names_in xs) ≤ b
names_fit a b [] h = omega arith
names_fit a b (Refuses f ∷ xs) h = absurd (cc)
names_fit zero b (Draws s ∷ xs) h = absurd (cc)
names_fit (suc a) b (Draws s ∷ xs) h = names_fit a b xs h
names_fit a zero (Names n ∷ xs) h = absurd (cc)
names_fit a (suc b) (Names n ∷ xs) h = omega (arith, names_fit a b xs h)

pub refusal_in-append : (a b : ℕ) (xs ys : List Event) → refusal_in a b xs ≡ None →
    refusal_in a b (xs ++ ys) ≡ refusal_in (a - length (segments_in xs)) (b - length (names_in xs)) ys
refusal_in-append a b [] ys h = ap (λ n. refusal_in n b ys) (less_none a) ∙ ap (λ n. refusal_in (a - 0) n ys) (less_none b)
refusal_in-append a b (Refuses f ∷ xs) ys h = absurd (cc)
refusal_in-append zero b (Draws s ∷ xs) ys h = absurd (cc)
refusal_in-append (suc a) b (Draws s ∷ xs) ys h = refusal_in-append a b xs ys h ∙ ap (λ n. refusal_in n (b - length (names_in xs)) ys) (less_one a (length (segments_in xs)))
refusal_in-append a zero (Names n ∷ xs) ys h = absurd (cc)
refusal_in-append a (suc b) (Names n ∷ xs) ys h = refusal_in-append a b xs ys h ∙ ap (λ m. refusal_in (a - length (segments_in xs)) m ys) (less_one b (length (names_in xs)))
