-- What `judge` prints of any bytes, in the document's own terms. How a line is spelt is `text/specs/Lines.antt`.
use Rattle.std.specs.Prelude.{ℕ, ◌≤◌, ◌≡◌, List, [], ◌∷◌, ◌++◌, length, take}
use Rattle.rules.specs.Numbers.{over}
use Rattle.rules.specs.History.{History, op}
use Rattle.rules.specs.Outcome.{Pair}
use Rattle.text.specs.Lines.{refused_line, rejected_line, accepted_line, read_line, pair_line}
use Rattle.demand1.specs.Rows.{Refuses, HasHistory}
use Rattle.demand2.specs.Kinds.{HasKind, AllClean}
use Rattle.demand2.specs.Axiom.{FirstShown}
use Rattle.demand3.specs.Forced.{Reasons}
use Rattle.demand3.specs.Writes.{WriteNumber}
use Rattle.demand3.specs.Lists.{Findings, Pairs}
use Rattle.demand3.specs.Rejected.{Fault}

-- "Then `read T OP KIND` lines": one for each of these reads, with its kind; and its write, "as a fourth field"
pub data ReadsPrinted (h : History) : List ℕ → List ℕ → Type 0 where
  no_read : ReadsPrinted h [] []
  one_read : {i k w : ℕ} {is xs : List ℕ} → HasKind h i k → WriteNumber h i k w → ReadsPrinted h is xs
      → ReadsPrinted h (i ∷ is) (read_line (op h i).tx i k w ++ xs)

-- "then `pair A B REASONS` lines": one for each of these pairs, with the sum of its reasons
pub data PairsPrinted (h : History) (level : ℕ) : List Pair → List ℕ → Type 0 where
  no_pair : PairsPrinted h level [] []
  one_pair : {p : Pair} {n : ℕ} {ps : List Pair} {xs : List ℕ} → Reasons h level p.one p.two n → PairsPrinted h level ps xs
      → PairsPrinted h level (p ∷ ps) (pair_line p.one p.two n ++ xs)

-- "one block a level. First line: `rc`, `ra` or `tcc`, then `accepted` and the order, or `rejected`, findings count, pairs count."
pub data BlockPrinted (h : History) (level : ℕ) : List ℕ → Type 0 where
  on_acceptance : {o : List ℕ} → AllClean h → FirstShown h level o → BlockPrinted h level (accepted_line level o)
  on_rejection : {is xs ys : List ℕ} {ps : List Pair} → Fault h level → Findings h is → Pairs h level ps → ReadsPrinted h is xs → PairsPrinted h level ps ys
      → BlockPrinted h level (rejected_line level (length is) (length ps) ++ (xs ++ ys))

-- "A refused trace prints only `refused NO PLACE`."
pub data Prints (s : List ℕ) : List ℕ → Type 0 where
  on_refusal : {n p : ℕ} → Refuses s n p → Prints s (refused_line n p)
  on_reading : {h : History} {x y z : List ℕ} → HasHistory s h → BlockPrinted h 1 x → BlockPrinted h 2 y → BlockPrinted h 3 z
      → Prints s (x ++ (y ++ z))

-- of the trace s that text was put over o, as far as o reaches, which made b of it; n, which is answered, is its length. No text is longer than 1,048,576 bytes,
-- so with room for as many the first n bytes are all of it (`text-whole`)
pub record TextPut (s o b : List ℕ) (n : ℕ) : Type 0 where
  pub text : List ℕ
  pub prints : Prints s text
  pub long : n ≡ length text
  pub short : n ≤ 1048576
  pub is : b ≡ over (take (length o) text) o
