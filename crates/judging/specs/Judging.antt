-- What each part of the call answers, and what it leaves in the buffers that it may write.
use Rattle.std.specs.Prelude.{ℕ, ◌≤◌, ◌≡◌, List, length, take}
use Rattle.rules.specs.History.{History, size}
use Rattle.rules.specs.Reading.{read}
use Rattle.rules.specs.Outcome.{findings, order, reported, outcome, acceptance, rejection, judged_read}
use Rattle.rules.specs.Outcome.{Answer}
use Rattle.table.specs.Table.{history_of}
use Rattle.sifting.specs.Lists.{pair_count}
use Rattle.judging.specs.declared.Counts.{Counts}

-- ── what is worked out ──

-- how many findings and listed pairs there are, where l has the listed pairs
pub record Counted (h l : List ℕ) (n : Counts) : Type 0 where
  pub found : n.findings ≡ length (findings (history_of h))
  pub found_few : n.findings ≤ 1024
  pub listed : n.pairs ≡ pair_count l (size (history_of h))
  pub listed_few : n.pairs ≤ 16384

-- the order by the document's rule fills the first n bytes of b
pub record Arranged (h : History) (level : ℕ) (b : List ℕ) (n : ℕ) : Type 0 where
  pub long : n ≡ length (order h level)
  pub shown : take n b ≡ order h level
  pub room : n ≤ length b

-- ── what is answered ──

-- on acceptance: the answer r, and the order's buffer o, which became o2; the lists' buffers stay, whatever they hold
pub record OnAcceptance (h : History) (level : ℕ) (o o2 : List ℕ) (r : Answer) : Type 0 where
  pub is : (f p : List ℕ) → outcome (reported r) f p o2 ≡ acceptance h level f p o

-- on rejection: the answer r, and the lists' buffers f and p, which became f2 and p2; the order's buffer stays
pub record OnRejection (h : History) (level : ℕ) (f p f2 p2 : List ℕ) (r : Answer) : Type 0 where
  pub is : (o : List ℕ) → outcome (reported r) f2 p2 o ≡ rejection h level f p o

-- on either, of a trace that was read
pub record OnReading (h : History) (level : ℕ) (f p o f2 p2 o2 : List ℕ) (r : Answer) : Type 0 where
  pub is : (notes : ℕ) → outcome (reported r) f2 p2 o2 ≡ judged_read (read h notes) level f p o
