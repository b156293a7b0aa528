-- A front that is copied byte by byte.
use Prim.Native.Nat.{ℕ, ◌+◌, ◌<◌}
use mathlib.Core.Path.{◌≡◌, ap, ◌∙◌}
use mathlib.Core.List.{List, [], ◌∷◌, ◌++◌}
use native.Mathlib.Numerals.{add-one}
use lib.ListN.{length, get_or, take, set}
use lib.Seq.{take-suc}
use Rattle.base.proofs.Fill.{Appended, one, appended_then}

pub front_more : (s : List ℕ) {o b : List ℕ} (i : ℕ) → i < length s → i < length b → Appended o 0 b i (take i s)
    → Appended o 0 (set b i (get_or s i 0)) (i + 1) (take (i + 1) s)
front_more s {o} {b} i hs hb x =
    let e : take (i + 1) s ≡ take i s ++ (get_or s i 0 ∷ []) = ap (λ (n : ℕ). take n s) (add-one i) ∙ take-suc s i 0 hs in
    rw e (appended_then x (one b i (get_or s i 0) hb))
