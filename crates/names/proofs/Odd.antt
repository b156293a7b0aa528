-- A name's bytes, as a part of the file has them.
use Prim.Native.Nat.{ℕ, suc, ◌+◌, ◌-◌, ◌≤◌, ◌<◌}
use mathlib.Core.Path.{◌≡◌, refl, ap, ◌∙◌}
use mathlib.Core.Bool.{Bool, true, false}
use mathlib.Core.List.{List, [], ◌∷◌}
use native.Mathlib.Omega.{arith}
use lib.ListN.{length, get_or, take, drop, length-drop}
use lib.Seq.{length-take-le}
use Rattle.std.proofs.lemmas.List.{get_or-take, get_or-drop}
use Rattle.std.specs.Prelude.{◌||◌}
use Rattle.std.specs.List.{list_any}
use Rattle.base.specs.Base.{◌or◌, some_of, some}
use Rattle.rules.specs.Records.{len_at, next_at}
use Rattle.names_rules.specs.Names.{is_odd}
use Rattle.names.specs.Odd.{odd_byte}

-- a test of each entry, where p says of numbers from a on what the test says of the entries
any_of : (t p : ℕ → Bool) (s : List ℕ) (a : ℕ) → ((i : ℕ) → i < length s → t (get_or s i 0) ≡ p (a + i)) → list_any t s ≡ some_of p a (length s)
unfolding some_of ◌or◌
any_of t p [] a h = refl
any_of t p (x ∷ s) a h =
    let e : t x ≡ p a = h 0 (omega arith) ∙ ap p (omega arith) in
    let r : list_any t s ≡ some_of p (a + 1) (length s) =
    any_of t p s (a + 1) (λ i l. h (suc i) (omega arith) ∙ ap p (omega arith))
    in
    rw (e, r) (either_one (p a) _)
  where
    either_one : (b c : Bool) → b || c ≡ b or c
    either_one true c = refl
    either_one false c = refl

-- the bytes from a to before e, tested
any_odd : (s : List ℕ) (a e : ℕ) → a ≤ e → e ≤ length s → list_any odd_byte (take (e - a) (drop a s)) ≡ some a e (is_odd s)
unfolding some is_odd odd_byte
any_odd s a e l r =
    let n : length (take (e - a) (drop a s)) ≡ e - a = length-take-le (e - a) (drop a s) (omega (arith, length-drop a s)) in
    rw n at
    (any_of odd_byte (is_odd s) (take (e - a) (drop a s)) a
    (λ i k. ap odd_byte (get_or-take (e - a) (drop a s) i 0 (omega (arith, n)) ∙ get_or-drop a s i 0)))

-- .. of the record at `at`, by its length field as it was read
pub name-test : (s : List ℕ) (at : ℕ) {len : ℕ} → len ≡ len_at s at → 7 ≤ len → at + 2 + len ≤ length s → {r : Bool}
    → r ≡ list_any odd_byte (take (at + 2 + len - (at + 8)) (drop (at + 8) s)) → r ≡ some (at + 8) (next_at s at) (is_odd s)
name-test s at {len} e l m h = h ∙ any_odd s (at + 8) (at + 2 + len) (omega arith) m ∙ rw e
