-- Document 01, "Lists and order", with document 02's last field of a finding: what the two lists of a rejection hold, in their own terms.
use Rattle.std.specs.Prelude.{ℕ, ◌+◌, ◌*◌, ◌<◌, ◌≡◌, List, length, get_or}
use Rattle.theory.specs.Entries.{AllOf}
use Rattle.rules.specs.Numbers.{le}
use Rattle.rules.specs.History.{History, op}
use Rattle.rules.specs.Outcome.{Pair}
use Rattle.demand2.specs.Kinds.{JudgedRead, HasKind, Clean}
use Rattle.demand3.specs.Forced.{ListedPair, Reasons}
use Rattle.demand3.specs.Writes.{WriteNumber}

-- ── entries ──

-- an unclean read
pub record Finding (h : History) (i : ℕ) : Type 0 where
  pub judged : JudgedRead h i
  pub unclean : Clean h i → ⊥

-- the findings, "by operation number": every unclean read once, nothing else
abbrev pub Findings : History → List ℕ → Type 0
Findings h = AllOf ◌<◌ (Finding h)

-- by first and then second
pub data PairBefore (p q : Pair) : Type 0 where
  by_first : p.one < q.one → PairBefore p q
  by_second : p.one ≡ q.one → p.two < q.two → PairBefore p q

-- the pair is listed
abbrev pub PairListed : History → ℕ → Pair → Type 0
PairListed h level p = ListedPair h level p.one p.two

-- the listed pairs: every one once, nothing else
abbrev pub Pairs : History → ℕ → List Pair → Type 0
Pairs h level = AllOf PairBefore (PairListed h level)

-- ── bytes ──

-- the bytes l hold the entries xs, each in as many bytes as the width says; d stands past the end
pub record Spelt {A : Type 0} (width : ℕ) (At : List ℕ → ℕ → A → Type 0) (d : A) (xs : List A) (l : List ℕ) : Type 0 where
  pub long : length l ≡ width * length xs
  pub bytes : (k : ℕ) → get_or l k 0 < 256
  pub each : (j : ℕ) → j < length xs → At l j (get_or xs j d)

-- "Finding ..: transaction, kind, operation number (2 bytes little-endian)"; "A finding becomes 6 bytes, with that number last (2 bytes)": the j-th of l is
-- of read i
pub record FindingAt (h : History) (l : List ℕ) (j i : ℕ) : Type 0 where
  pub transaction : get_or l (6 * j) 0 ≡ (op h i).tx
  pub kind : HasKind h i (get_or l (6 * j + 1) 0)
  pub number : le 2 l (6 * j + 2) ≡ i
  pub write : WriteNumber h i (get_or l (6 * j + 1) 0) (le 2 l (6 * j + 4))

-- "Pair, 4 bytes: first, second, reasons, 0.": the j-th of l is of p
pub record PairAt (h : History) (level : ℕ) (l : List ℕ) (j : ℕ) (p : Pair) : Type 0 where
  pub first : get_or l (4 * j) 0 ≡ p.one
  pub second : get_or l (4 * j + 1) 0 ≡ p.two
  pub reasons : Reasons h level p.one p.two (get_or l (4 * j + 2) 0)
  pub zero : get_or l (4 * j + 3) 0 ≡ 0

-- stands past the end of a list of pairs
abbrev pub no_pair : Pair
no_pair = record { one = 0; two = 0 }

-- the list of findings as bytes
abbrev pub FindingBytes : History → List ℕ → List ℕ → Type 0
FindingBytes h = Spelt 6 (FindingAt h) 0

-- the list of pairs as bytes
abbrev pub PairBytes : History → ℕ → List Pair → List ℕ → Type 0
PairBytes h level = Spelt 4 (PairAt h level) no_pair
