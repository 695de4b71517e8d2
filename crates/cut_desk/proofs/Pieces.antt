-- A file that is read and written piece by piece.
use Rattle.std.proofs.Common.{arith, ◌≡◌, ℕ, zero, suc, ◌+◌, ◌<◌, ◌≤◌, List, ◌++◌, length, take, drop, ap, ◌∙◌, sym, refl, length-append, append_assoc}
use Rattle.std.proofs.Math.Seq.{take-add, take-length}
use Rattle.std.proofs.lemmas.List.{length-take-le}
use Rattle.std.specs.Prelude.{Some, None}
use Rattle.std.specs.declared.option.Option.{Option}
use Rattle.cut_desk.specs.Outside.{Told, Outside, Later, SameFiles, SameOthers, WhereTold, IsPiece, print_more, after_write, made_of}

-- the file begins with these bytes
pub record BeginsWith (file bytes : List ℕ) : Type 0 where
  pub short : length bytes ≤ length file
  pub front : bytes ≡ take (length bytes) file

-- a front of the file and the piece behind it make a longer front
front_grows : (file bytes buffer : List ℕ) (count : ℕ) → count ≤ length buffer → BeginsWith file bytes → IsPiece file (length bytes) buffer count → BeginsWith file (bytes ++ take count buffer)
front_grows file bytes buffer count room front piece =
    let within : length bytes + count ≤ length file = piece.within front.short in
    let size : length (bytes ++ take count buffer) ≡ length bytes + count = length-append bytes (take count buffer) ∙ ap (λ n. length bytes + n) (length-take-le count buffer room) in
    record {
      short = omega (arith, within, size);
      front = rw (size, take-add (length bytes) count file, ← front.front, ← piece.front) refl;
    }

-- the same where the file is told
pub told_front_grows : (held : Told) (bytes buffer : List ℕ) (count : ℕ) → count ≤ length buffer → WhereTold held (λ file. BeginsWith file bytes) → WhereTold held (λ file. IsPiece file (length bytes) buffer count) → WhereTold held (λ file. BeginsWith file (bytes ++ take count buffer))
told_front_grows None bytes buffer count room front piece = tt
told_front_grows (Some None) bytes buffer count room front piece = tt
told_front_grows (Some (Some file)) bytes buffer count room front piece = front_grows file bytes buffer count room front piece

-- what two calls in a row keep
pub later_again : (a b c : Outside) → Later a b → Later b c → Later a c
later_again a b c p q = record {
  reads = λ name. omega (arith, p.reads name, q.reads name);
  writes = λ name. omega (arith, p.writes name, q.writes name);
  prints = omega (arith, p.prints, q.prints);
}

pub same_again : (a b c : Outside) → SameFiles a b → SameFiles b c → SameFiles a c
same_again a b c p q = record { files = λ name. q.files name ∙ p.files name; printed = q.printed ∙ p.printed }

pub others_again : (name : List ℕ) (a b c : Outside) → SameOthers name a b → SameOthers name b c → SameOthers name a c
others_again name a b c p q = record { files = λ other differs. q.files other differs ∙ p.files other differs; printed = q.printed ∙ p.printed }

print_again : (old : Option (List ℕ)) (a b : List ℕ) → print_more (print_more old a) b ≡ print_more old (a ++ b)
print_again None a b = refl
print_again (Some before) a b = ap (λ bytes. Some bytes) (append_assoc before a b)

-- a front of the bytes was printed, and then the next piece
pub prints_on : (old mid new : Option (List ℕ)) (bytes : List ℕ) (done count : ℕ) → mid ≡ print_more old (take done bytes) → new ≡ print_more mid (take count (drop done bytes)) → new ≡ print_more old (take (done + count) bytes)
prints_on old mid new bytes done count so_far next =
    next ∙ ap (λ known. print_more known (take count (drop done bytes))) so_far ∙ print_again old (take done bytes) (take count (drop done bytes)) ∙ ap (print_more old) (sym (take-add done count bytes))

begins : (old : Told) (bytes : List ℕ) → after_write old 0 bytes ≡ made_of old bytes
begins None bytes = refl
begins (Some None) bytes = refl
begins (Some (Some file)) bytes = refl

continues : (old : Told) (a b : List ℕ) (n : ℕ) → length a ≡ n → after_write (made_of old a) n b ≡ made_of old (a ++ b)
continues None a b n size = refl
continues (Some file) a b n size = ap (λ front. Some (Some (front ++ b))) (ap (λ k. take k a) (sym size) ∙ take-length a)

-- the file holds a front of the bytes, and then the next piece is written
pub writes_on : (old mid new : Told) (bytes : List ℕ) (done count : ℕ) → done ≤ length bytes → (done ≡ 0 → mid ≡ old) → (0 < done → mid ≡ made_of old (take done bytes)) → new ≡ after_write mid done (take count (drop done bytes)) → new ≡ made_of old (take (done + count) bytes)
writes_on old mid new bytes zero count within untouched begun next =
    next ∙ ap (λ held. after_write held 0 (take count (drop 0 bytes))) (untouched refl) ∙ begins old (take count (drop 0 bytes)) ∙ ap (made_of old) (sym (take-add 0 count bytes))
writes_on old mid new bytes (suc d) count within untouched begun next =
    let done : ℕ = suc d in
    let size : length (take done bytes) ≡ done = length-take-le done bytes within in
    next ∙ ap (λ held. after_write held done (take count (drop done bytes))) (begun (omega arith)) ∙ continues old (take done bytes) (take count (drop done bytes)) done size ∙ ap (made_of old) (sym (take-add done count bytes))
