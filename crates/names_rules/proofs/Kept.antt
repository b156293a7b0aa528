-- A program keeps 32,769 bytes of a names file at most: the first 32,769 are refused, and end `read` lines, as the whole file is and does.
use Prim.Native.Nat.{ℕ, ◌≤◌, ◌<◌}
use mathlib.Core.Path.{◌≡◌, ap, sym, ◌∙◌}
use mathlib.Core.List.{List}
use mathlib.Core.Logic.{⊎_elim}
use native.Mathlib.Omega.{arith}
use lib.ListN.{length, take, length-take}
use lib.Seq.{take_all}
use Rattle.base.proofs.Tests.{split}
use Rattle.names_rules.specs.Names.{checked, refusal}
use Rattle.names_rules.proofs.Walking.{too_long}

kept-all : (s : List ℕ) → length s ≤ 32768 → take 32769 s ≡ s
kept-all s h = take_all 32769 s (omega arith)

pub kept-checked : (s : List ℕ) → checked (take 32769 s) ≡ checked s
kept-checked s =
    ⊎_elim (λ (h : 32768 < length s). too_long (take 32769 s) (omega (arith, length-take 32769 s)) ∙ sym (too_long s h))
    (λ (h : length s ≤ 32768). ap checked (kept-all s h)) (split 32768 (length s))

module _ (own shared : List ℕ) where
  pub kept-refusal : refusal (take 32769 own) (take 32769 shared) ≡ refusal own shared
  kept-refusal = rw (kept-checked own, kept-checked shared)
