-- The table of bytes as it fills.
use Prim.Native.Nat.{ℕ, zero, suc, ◌+◌, ◌<◌, ◌≤◌}
use mathlib.Core.Path.{◌≡◌, ap, ◌∙◌}
use mathlib.Core.List.{List, [], ◌∷◌}
use native.Mathlib.Omega.{arith}
use lib.ListN.{length, get_or, set, drop, get_or-append}
use Rattle.base.proofs.Searches.{singles_length, singles_at}
use Rattle.base.proofs.Fill.{Appended, Filling, fill_start, fill_step, fill_end, appended-length, one}
use Rattle.rules.specs.History.{History, op_count}
use Rattle.reads.specs.Verdicts.{verdict_of, verdict_at, verdicts, Classified}

pub verdicts-length : (h : History) → length (verdicts h) ≡ op_count h
unfolding verdicts verdict_at
verdicts-length h = singles_length (verdict_of h) 1 (op_count h + 1) ∙ omega arith

verdicts-entry : (h : History) (i : ℕ) → i < op_count h → get_or (verdicts h) i 0 ≡ verdict_of h (suc i)
unfolding verdicts verdict_at
verdicts-entry h i l = singles_at (verdict_of h) 0 1 (op_count h + 1) i (omega arith) ∙ ap (verdict_of h) (omega arith)

-- the whole table
pub classified : (o k : List ℕ) (h : History) → length o ≡ 1025 → Appended o 1 k (op_count h + 1) (verdicts h) → Classified o k h
classified [] k h l x = absurd (omega arith)
classified (y ∷ o) k h l x = record { is = x; judged = record { room = appended-length x ∙ l; is = at } }
  where
    at : (i : ℕ) → 1 ≤ i → i ≤ op_count h → get_or k i 0 ≡ verdict_of h i
    at zero a b = absurd (omega arith)
    at (suc i) a b =
        ap (λ (l : List ℕ). get_or l (suc i) 0) x.is ∙ get_or-append (verdicts h) (drop (op_count h + 1) (y ∷ o)) 0 i (omega (arith, verdicts-length h))
        ∙ verdicts-entry h i (omega arith)

-- a loop that has come to operation i, and has made k of o
abbrev pub Classifying : History → List ℕ → List ℕ → ℕ → Type 0
Classifying h o k i = Filling (verdict_at h) 1 (op_count h + 1) o 1 i k i

module _ (h : History) (o : List ℕ) (room : length o ≡ 1025) where
  pub classify_start : Classifying h o o 1
  classify_start = fill_start (verdict_at h) 1 (op_count h + 1) o 1 (omega (arith, room))

  module _ {k : List ℕ} {i : ℕ} (x : Classifying h o k i) where
    pub classify_next : (v : ℕ) → op_count h ≤ 1024 → i ≤ op_count h → v ≡ verdict_of h i → Classifying h o (set k i v) (i + 1)
    unfolding verdict_at
    classify_next v few l e =
        fill_step (verdict_at h) 1 (op_count h + 1) o 1 x (omega arith) (rw (← e) (one k i v (omega (arith, room, appended-length x.is))))

    pub classify_end : op_count h < i → i ≤ op_count h + 1 → Classified o k h
    unfolding verdicts
    classify_end a b =
        let e : i ≡ op_count h + 1 = omega arith in
        classified o k h room (rw e at (fill_end (verdict_at h) 1 (op_count h + 1) o 1 x (omega arith)))
