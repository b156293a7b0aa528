-- A history's basic pairs are such as the laws of vectors ask for.
use Prim.Native.Nat.{ℕ, ◌<◌}
use mathlib.Core.Path.{◌≡◌, refl}
use mathlib.Core.Bool.{true}
use native.Mathlib.Omega.{arith}
use borrow.Author.Tests.{eq-eqb, lt-ltb}
use Rattle.base.proofs.Tests.{both, or_left, or_right}
use Rattle.theory.specs.Order.{Forces}
use Rattle.rules.specs.History.{History, size, committed}
use Rattle.rules.specs.Levels.{is_start, is_session, basic}
use Rattle.rules.proofs.Committed.{committed_0, committed_below}
use Rattle.rules.proofs.Forced.{basic-committed}
use Rattle.vectors_rules.specs.Latest.{Basics}
use Rattle.vectors_rules.specs.Vectors.{session_no}

module _ (h : History) where
  -- 0 before every other
  start_basic : (b : ℕ) → committed h b ≡ true → (b ≡ 0 → ⊥) → basic h 0 b ≡ true
  unfolding basic is_start
  start_basic b c n = or_left _ _ (or_left _ _ (both _ _ (both _ _ (eq-eqb 0 0 refl) (lt-ltb 0 b (omega (arith, n)))) c))

  -- an earlier transaction before each later one of its session
  session-basic : (a b : ℕ) → 0 < a → a < b → committed h a ≡ true → committed h b ≡ true → session_no h a ≡ session_no h b → basic h a b ≡ true
  unfolding basic is_session session_no
  session-basic a b z l ca cb e =
      or_left _ _ (or_right _ _ (both _ _ (both _ _ (both _ _ (both _ _ (lt-ltb 0 a z) (lt-ltb a b l)) ca) cb) (eq-eqb _ _ e)))

  pub basic_forces : Forces (size h) (committed h) (basic h)
  basic_forces =
      record {
        some = omega arith;
        zero_in = committed_0 h;
        first_in = λ a b e. let c = (basic-committed h a b e).first in (committed_below h a c, c);
        second_in = λ a b e. let c = (basic-committed h a b e).second in (committed_below h b c, c);
        start = λ b l c n. start_basic b c n;
      }

  pub basics : Basics (size h) (committed h) (session_no h) (basic h)
  basics = record { forces = basic_forces; session = λ a b z l _ ca cb e. session-basic a b z l ca cb e }
