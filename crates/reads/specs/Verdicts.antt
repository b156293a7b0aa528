-- What is to be known of each operation, in one byte.
use Rattle.std.specs.Prelude.{ℕ, ◌+◌, ◌≤◌, ◌≡◌, Bool, List, [], ◌∷◌, length, get_or, eqb}
use Rattle.base.specs.Base.{◌and◌, pick, listed}
use Rattle.base.proofs.Fill.{Appended}
use Rattle.rules.specs.History.{History, op, op_count, source_of}
use Rattle.rules.specs.Reads.{wrote_between, kind_of, is_finding, is_external}

-- operation i is a write of the key x
unfoldable pub writes_key_at : History → ℕ → ℕ → Bool
writes_key_at h x i = (op h i).is_write and eqb (op h i).key x

-- operation j's transaction writes x above operation a, by j or an earlier operation
unfoldable pub wrote_up_to : History → ℕ → ℕ → ℕ → Bool
wrote_up_to h x a j = wrote_between h (op h j).tx x a (j + 1)

-- operation i: 8 + the source of a clean external read; the kind of an unclean read, 1 to 6; else 0 (a write, a clean internal read, or a read that is
-- not judged)
unfoldable pub verdict_of : History → ℕ → ℕ
verdict_of h i = pick (is_external h i) (8 + source_of h i) (pick (is_finding h i) (kind_of h i) 0)

-- a byte for each operation
unfoldable pub verdict_at : History → ℕ → List ℕ
verdict_at h i = verdict_of h i ∷ []

unfoldable pub verdicts : History → List ℕ
verdicts h = listed 1 (op_count h + 1) (verdict_at h)

-- entry i of k is operation i's
pub record Judged (k : List ℕ) (h : History) : Type 0 where
  pub room : length k ≡ 1025
  pub is : (i : ℕ) → 1 ≤ i → i ≤ op_count h → get_or k i 0 ≡ verdict_of h i

-- o became k: entry 0 and those behind the last operation's stay
pub record Classified (o k : List ℕ) (h : History) : Type 0 where
  pub is : Appended o 1 k (op_count h + 1) (verdicts h)
  pub judged : Judged k h
