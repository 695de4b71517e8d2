-- Bytes of which none passes a test, counted; and what holds of each element that is made of others.
use Rattle.std.proofs.Common.{◌≡◌, ℕ, Bool, List, [], ◌∷◌, length, refl, sym, ap, ◌∙◌}
use Rattle.std.specs.Prelude.{count_by, map}
use Rattle.std.specs.List.{AllByRecursion, filter}
use Rattle.std.proofs.lemmas.List.Sums.{length-filter}
use Rattle.micron_decimals.proofs.Bytes.{NonePass}

pub all-map : {X Y : Type 0} (P : X → Type 0) (Q : Y → Type 0) (f : X → Y) → ((x : X) → P x → Q (f x)) → (xs : List X) → AllByRecursion P xs → AllByRecursion Q (map f xs)
all-map P Q f g [] h = tt
all-map P Q f g (x ∷ xs) h = (g x h.0, all-map P Q f g xs h.1)

filter_none : (p : ℕ → Bool) (xs : List ℕ) → NonePass p xs → filter p xs ≡ []
filter_none p [] h = refl
filter_none p (x ∷ xs) h = rw h.0 (filter_none p xs h.1)

pub count_by_none : (p : ℕ → Bool) (xs : List ℕ) → NonePass p xs → count_by p xs ≡ 0
count_by_none p xs h = sym (length-filter p xs) ∙ ap length (filter_none p xs h)
