-- What holds of each element of a list, found out one by one.
use Rattle.std.proofs.Common.{◌≡◌, ◌≤◌, ◌+◌, ℕ, List, length, take, sym, subst}
use Rattle.std.specs.Prelude.{All, Contains, Some, slice_get}
use Rattle.std.proofs.lemmas.List.{take_all}
use Rattle.std.proofs.lemmas.List.Elements.{All-contains, All-more}
use Rattle.std.proofs.lemmas.Option.{slice_get_within, get_or_from_slice_get}
use Rattle.nest_base.proofs.ListReads.{Contains-from_read}

module _ {X : Type 0} (P : X → Type 0) (xs : List X) (i : ℕ) where
  -- it holds of one more
  pub holds_of_more : (x : X) → slice_get xs i ≡ Some x → P x → All P (take i xs) → All P (take (i + 1) xs)
  holds_of_more x at holds before = All-more P xs i x (slice_get_within xs i x at) before (subst P (sym (get_or_from_slice_get xs i x x at)) holds)

  -- of all
  pub holds_of_all : length xs ≤ i → All P (take i xs) → (x : X) → Contains xs x → P x
  holds_of_all end before x = All-contains P xs x (subst (All P) (take_all i xs end) before)

  -- or not of one
  pub fails_at : (x : X) → slice_get xs i ≡ Some x → (P x → ⊥) → ((y : X) → Contains xs y → P y) → ⊥
  fails_at x at fails each = fails (each x (Contains-from_read xs i x at))
