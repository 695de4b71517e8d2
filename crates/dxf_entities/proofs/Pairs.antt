-- What one more pair changes in an entity.
use Rattle.std.proofs.Common.{◌≡◌, Bool, true, false, cond, List, [], ◌∷◌, ◌++◌, ℤ, pos, ℕ, Option, Some, None, refl, ap, ◌∙◌}
use Rattle.std.specs.Prelude.{◌||◌, not, filter, find, filter_map, option_map, is_some, slice_get}
use Rattle.std.specs.List.{list_any, cons_option}
use Rattle.std.specs.Option.{option_or}
use Rattle.std.specs.Ordering.{int_eq}
use Rattle.std.proofs.lemmas.List.Elements.{filter-append, filter_map-append}
use Rattle.std.proofs.lemmas.List.Folds.{find-append}
use Rattle.dxf_groups.specs.Pairs.{Pair}
use Rattle.dxf_entities.specs.Refusals.{counted, first}

-- a pair with this code has come
abbrev pub has_come : ℤ → List Pair → Bool
has_come code pairs = list_any (λ (q : Pair). int_eq q.code code) pairs

-- a pair that is last, unless its code has come
abbrev pub last_new : Bool → Pair → List Pair
last_new come p = cond come [] (p ∷ [])

last_filtered : (test : Pair → Bool) (same come : Bool) (p : Pair) → test p ≡ not same → filter test (last_new come p) ≡ last_new (same || come) p
last_filtered test true true p e = refl
last_filtered test false true p e = refl
last_filtered test true false p e = ap (λ b. cond b (p ∷ []) []) e
last_filtered test false false p e = ap (λ b. cond b (p ∷ []) []) e

pub counted_more : (pairs : List Pair) (p : Pair) → counted (pairs ++ p ∷ []) ≡ counted pairs ++ last_new (has_come p.code pairs) p
counted_more [] p = refl
counted_more (q ∷ pairs) p =
    let test = λ (r : Pair). not (int_eq q.code r.code) in
    ap (λ (ps : List Pair). q ∷ ps)
    (ap (filter test) (counted_more pairs p)
    ∙ filter-append test (counted pairs) (last_new (has_come p.code pairs) p)
    ∙ ap (λ (ps : List Pair). filter test (counted pairs) ++ ps) (last_filtered test (int_eq q.code p.code) (has_come p.code pairs) p refl))

first_append : {X : Type 0} (xs ys : List X) → first (xs ++ ys) ≡ option_or (first xs) (first ys)
first_append [] ys = refl
first_append (x ∷ xs) ys = refl

first_last : {X : Type 0} (h : Pair → Option X) (come : Bool) (p : Pair) → first (filter_map h (last_new come p)) ≡ cond come None (h p)
first_last h true p = refl
first_last h false p = first_of_one (h p)
  where
    first_of_one : {X : Type 0} (o : Option X) → first (cons_option o []) ≡ o
    first_of_one None = refl
    first_of_one (Some x) = refl

-- the first of what the pairs give that count
pub first_counted_more : {X : Type 0} (h : Pair → Option X) (pairs : List Pair) (p : Pair) →
    first (filter_map h (counted (pairs ++ p ∷ []))) ≡ option_or (first (filter_map h (counted pairs))) (cond (has_come p.code pairs) None (h p))
first_counted_more h pairs p =
    let tail = last_new (has_come p.code pairs) p in
    ap (λ (ps : List Pair). first (filter_map h ps)) (counted_more pairs p)
    ∙ ap first (filter_map-append h (counted pairs) tail)
    ∙ first_append (filter_map h (counted pairs)) (filter_map h tail)
    ∙ ap (λ o. option_or (first (filter_map h (counted pairs))) o) (first_last h (has_come p.code pairs) p)

map_or : {X Y : Type 0} (f : X → Y) (a b : Option X) → option_map f (option_or a b) ≡ option_or (option_map f a) (option_map f b)
map_or f None b = refl
map_or f (Some x) b = refl

map_found : {Y : Type 0} (f : Pair → Y) (b : Bool) (p : Pair) → option_map f (cond b (Some p) None) ≡ cond b (Some (f p)) None
map_found f true p = refl
map_found f false p = refl

-- what the first pair gives that passes a test
pub first_found_more : {Y : Type 0} (f : Pair → Y) (test : Pair → Bool) (pairs : List Pair) (p : Pair) →
    option_map f (find test (pairs ++ p ∷ [])) ≡ option_or (option_map f (find test pairs)) (cond (test p) (Some (f p)) None)
first_found_more f test pairs p =
    ap (option_map f) (find-append test pairs (p ∷ []))
    ∙ map_or f (find test pairs) (cond (test p) (Some p) None)
    ∙ ap (λ o. option_or (option_map f (find test pairs)) o) (map_found f (test p) p)

-- what the first pair gives
pub first_pair_more : {Y : Type 0} (f : Pair → Y) (pairs : List Pair) (p : Pair) →
    option_map f (slice_get (pairs ++ p ∷ []) 0) ≡ option_or (option_map f (slice_get pairs 0)) (Some (f p))
first_pair_more f [] p = refl
first_pair_more f (q ∷ pairs) p = refl

-- a pair with a code has come where one is found
pub come_is_found : (pairs : List Pair) (n : ℕ) → has_come (pos n) pairs ≡ is_some (find (λ (q : Pair). int_eq q.code (pos n)) pairs)
come_is_found [] n = refl
come_is_found (q ∷ pairs) n = by_test (int_eq q.code (pos n)) q (has_come (pos n) pairs) (find (λ (r : Pair). int_eq r.code (pos n)) pairs) (come_is_found pairs n)
  where
    by_test : (b : Bool) (q : Pair) (come : Bool) (found : Option Pair) → come ≡ is_some found → (b || come) ≡ is_some (cond b (Some q) found)
    by_test true q come found e = refl
    by_test false q come found e = e
