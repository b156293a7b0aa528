-- Document 02, "Orders from elsewhere", cases: the orders that document 01's cases show, each no and each two of them at once, claims of every wrong shape,
-- transactions that count and that do not, refusals before everything else: one table. Then how answers are told. The statements are in proofs/.
use Rattle.std.specs.Prelude.{ℕ, zero, suc, List, [], ◌∷◌, ◌++◌, map, get_or}
use Prim.Native.String.{String}
use Rattle.rules.specs.Traces.{r, w, block, whole, T, U}
use Rattle.rules.specs.Cases.{table}
use Rattle.text.specs.Lines.{text}
use Rattle.claims_rules.specs.Claims.{Reply, holds, no_read, no_members, no_pair, declined, claimed}
use Rattle.claims_rules.specs.Lines.{reply_line}
use Rattle.claims_rules.specs.Numbers.{reply_no, reply_bytes, claimed_in_numbers}

pub record ClaimCase : Type 0 where
  pub bytes : List ℕ
  pub level : ℕ
  pub order : List ℕ
  pub said : Reply

abbrev claims : List ℕ → ℕ → List ℕ → Reply → ClaimCase
claims s l o x = record { bytes = s; level = l; order = o; said = x }

-- the trace of the case of that number, of document 01's
abbrev P : ℕ → List ℕ
P k = get_or ([] ∷ map (λ c. c.bytes) table) k []

-- P13 with T3 r9=9 r8=8, two reads that nobody wrote
abbrev P13and : List ℕ
P13and = whole 3 (T 1 (r 2 7 ∷ w 1 5 ∷ []) ++ T 2 (r 1 5 ∷ w 2 7 ∷ []) ++ T 3 (r 9 9 ∷ r 8 8 ∷ []))

-- T1 w1=5 w2=6 aborted; T2 unanswered w1=7; T3 r1=7; T4 unanswered w1=8: 0, 2 and 3 count
abbrev counted : List ℕ
counted = whole 4 (block 1 0 (w 1 5 ∷ w 2 6 ∷ []) ++ U 2 (w 1 7 ∷ []) ++ T 3 (r 1 7 ∷ []) ++ U 4 (w 1 8 ∷ []))

abbrev pub claim_table : List ClaimCase
claim_table =
    claims (P 1) 1 (0 ∷ []) holds
    ∷ claims (P 4) 3 (0 ∷ 1 ∷ []) holds
    ∷ claims (P 10) 1 (0 ∷ 1 ∷ 2 ∷ 3 ∷ []) holds
    ∷ claims (P 12) 2 (0 ∷ 1 ∷ 2 ∷ 3 ∷ []) holds
    ∷ claims (P 16) 1 (0 ∷ 2 ∷ 1 ∷ 3 ∷ []) holds
    -- a lawful order that `judge` does not show
    ∷ claims (whole 2 (T 1 (w 1 5 ∷ []) ++ T 2 (w 2 6 ∷ []))) 3 (0 ∷ 2 ∷ 1 ∷ []) holds
    -- pairs: the least by first, then by second; both ways round one of two is left
    ∷ claims (P 16) 1 (0 ∷ 1 ∷ 2 ∷ 3 ∷ []) (no_pair 2 1)
    ∷ claims (P 16) 1 (0 ∷ 3 ∷ 2 ∷ 1 ∷ []) (no_pair 1 3)
    ∷ claims (P 16) 1 (0 ∷ 3 ∷ 1 ∷ 2 ∷ []) (no_pair 1 3)
    ∷ claims (P 16) 1 (0 ∷ 1 ∷ 3 ∷ 2 ∷ []) (no_pair 2 1)
    ∷ claims (P 16) 2 (0 ∷ 2 ∷ 1 ∷ 3 ∷ []) (no_pair 1 2)
    ∷ claims (P 16) 2 (0 ∷ 1 ∷ 2 ∷ 3 ∷ []) (no_pair 2 1)
    ∷ claims (P 12) 3 (0 ∷ 1 ∷ 2 ∷ 3 ∷ []) (no_pair 1 0)
    ∷ claims (P 13) 1 (0 ∷ 1 ∷ 2 ∷ []) (no_pair 2 1)
    -- members: empty, too short, too long, a repetition, begun elsewhere, one that does not exist
    ∷ claims (P 1) 1 [] no_members
    ∷ claims (P 4) 1 (0 ∷ []) no_members
    ∷ claims (P 4) 1 (1 ∷ []) no_members
    ∷ claims (P 4) 1 (1 ∷ 0 ∷ []) no_members
    ∷ claims (P 4) 1 (0 ∷ 1 ∷ 1 ∷ []) no_members
    ∷ claims (P 4) 1 (0 ∷ 0 ∷ 1 ∷ []) no_members
    ∷ claims (P 4) 1 (0 ∷ 1 ∷ 2 ∷ []) no_members
    ∷ claims (P 4) 1 (0 ∷ 1 ∷ 255 ∷ []) no_members
    ∷ claims (P 16) 1 (2 ∷ 0 ∷ 1 ∷ 3 ∷ []) no_members
    -- who counts
    ∷ claims counted 3 (0 ∷ 2 ∷ 3 ∷ []) holds
    ∷ claims counted 3 (0 ∷ 3 ∷ 2 ∷ []) (no_pair 2 3)
    ∷ claims counted 3 (0 ∷ 3 ∷ []) no_members
    ∷ claims counted 3 (0 ∷ 1 ∷ 2 ∷ 3 ∷ []) no_members
    ∷ claims counted 3 (0 ∷ 2 ∷ 3 ∷ 4 ∷ []) no_members
    -- a read before members and pairs, the first operation too; members before pairs
    ∷ claims (whole 1 (T 1 (r 1 5 ∷ []))) 1 (0 ∷ 1 ∷ []) (no_read 1)
    ∷ claims P13and 1 (0 ∷ 1 ∷ 2 ∷ 3 ∷ []) (no_read 5)
    ∷ claims P13and 1 [] (no_read 5)
    ∷ claims (P 13) 1 (0 ∷ 2 ∷ 1 ∷ 2 ∷ []) no_members
    ∷ claims (P 16) 1 (1 ∷ 0 ∷ 2 ∷ 3 ∷ []) no_members
    -- "Refusals: 1 to 11", before anything else
    ∷ claims P13and 0 [] (declined 1 0)
    ∷ claims [] 4 (0 ∷ []) (declined 1 0)
    ∷ claims [] 1 (0 ∷ []) (declined 3 0)
    ∷ claims (P 1 ++ (7 ∷ [])) 1 (0 ∷ []) (declined 11 10)
    ∷ []

abbrev pub now_claimed : ClaimCase → ClaimCase
now_claimed c = claims c.bytes c.level c.order (claimed c.bytes c.level c.order)

-- ── how an answer is told ──

-- each answer as a line, and in bytes for C, with room for all five numbers
pub record ToldCase : Type 0 where
  pub said : Reply
  pub printed : List ℕ
  pub number : ℕ
  pub spelt : List ℕ

abbrev tells : Reply → String → ℕ → List ℕ → ToldCase
tells x line n b = record { said = x; printed = text line; number = n; spelt = b }

-- a number below 65,536 in four bytes
abbrev pub low : ℕ → ℕ → List ℕ
low a b = a ∷ b ∷ 0 ∷ 0 ∷ []

abbrev pub none : List ℕ
none = 0 ∷ 0 ∷ 0 ∷ 0 ∷ []

abbrev pub told_table : List ToldCase
told_table =
    tells holds "yes\n" 1 (none ++ none ++ none ++ none ++ none)
    ∷ tells (no_read 1024) "no read 1024\n" 2 (low 0 4 ++ none ++ none ++ none ++ none)
    ∷ tells no_members "no members\n" 3 (none ++ none ++ none ++ none ++ none)
    ∷ tells (no_pair 0 127) "no pair 0 127\n" 4 (none ++ none ++ low 127 0 ++ none ++ none)
    ∷ tells (no_pair 126 3) "no pair 126 3\n" 4 (none ++ low 126 0 ++ low 3 0 ++ none ++ none)
    ∷ tells (declined 2 32768) "refused 2 32768\n" 5 (none ++ none ++ none ++ low 2 0 ++ low 0 128)
    ∷ []

abbrev pub now_told : ToldCase → ToldCase
now_told c = record { said = c.said; printed = reply_line c.said; number = reply_no c.said; spelt = reply_bytes c.said }

-- ── the slice for C, in part ──

-- room for so many bytes, all of them 9
abbrev pub room : ℕ → List ℕ
room zero = []
room (suc n) = 9 ∷ room n

-- P12 at level 3, claimed 0 1 2 3, which is no for the pair 1 0: what a slice of n bytes then holds
abbrev pub held_by : ℕ → List ℕ
held_by n = (claimed_in_numbers (P 12) 3 (0 ∷ 1 ∷ 2 ∷ 3 ∷ []) (room n)).numbers
