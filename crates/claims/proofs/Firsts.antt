-- The first number that passes a test: what a search through a range finds.
use Prim.Native.Nat.{ℕ, zero, suc, ◌+◌}
use mathlib.Core.Bool.{Bool, true, false, cond}
use mathlib.Core.Path.{◌≡◌, refl, ◌∙◌}
use native.Mathlib.Nat.{sub-zero}
use Rattle.std.proofs.Common.{Option, None, Some}
use Rattle.std.specs.Option.{unwrap_or, option_map}
use Rattle.std.specs.List.{find, range_with_len}
use Rattle.base.specs.Base.{pick, first_of, first}

found_or : (p : ℕ → Bool) (d a n : ℕ) → unwrap_or (find p (range_with_len a n)) d ≡ first_of d p a n
unfolding first_of pick
found_or p d a zero = refl
found_or p d a (suc n) = chosen (p a) _ (found_or p d (a + 1) n)
  where
    chosen : (b : Bool) (o : Option ℕ) {r : ℕ} → unwrap_or o d ≡ r → unwrap_or (cond b (Some a) o) d ≡ pick b a r
    chosen true o e = refl
    chosen false o e = e

pub found-first : (p : ℕ → Bool) (n : ℕ) (r : Option ℕ) → option_map (λ x. x) r ≡ find p (range_with_len 0 n) → unwrap_or r n ≡ first n 0 n p
unfolding first
found-first p n r e = rw (sub-zero n) (same r ∙ rw e (found_or p n 0 n))
  where
    same : (o : Option ℕ) → unwrap_or o n ≡ unwrap_or (option_map (λ x. x) o) n
    same None = refl
    same (Some x) = refl
