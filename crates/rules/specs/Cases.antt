-- Document 01, "Traces worked by hand": P1 to P14 with cases 15 and 16, each at the three levels, as one table. Its statement is in proofs/.
use Rattle.std.specs.Prelude.{ℕ}
use mathlib.Core.List.{List, [], ◌∷◌, ◌++◌}
use Rattle.rules.specs.Outcome.{Outcome, judged}
use Rattle.rules.specs.Traces.{whole, block, T, r, w, read, pair, room, refuses_in, accepts_in, rejects_in}

-- a trace and its outcomes at levels 1, 2 and 3, with buffers of 16 bytes
pub record Case : Type 0 where
  pub bytes : List ℕ
  pub rc : Outcome
  pub ra : Outcome
  pub tcc : Outcome

abbrev pub case : List ℕ → Outcome → Outcome → Outcome → Case
case b x y z = record { bytes = b; rc = x; ra = y; tcc = z }

abbrev pub all : List ℕ → Outcome → Case
all b x = case b x x x

abbrev pub refuses_with : ℕ → ℕ → Outcome
refuses_with = refuses_in 16 16 16

abbrev pub accepts_with : List ℕ → Outcome
accepts_with = accepts_in 16 16 16

abbrev pub rejects_with : List ℕ → List ℕ → Outcome
rejects_with = rejects_in 16 16 16

-- 1 before 2 and 2 before 1, both for rivals
abbrev pub swapped : List ℕ
swapped = pair 1 2 8 ++ pair 2 1 8

abbrev pub table : List Case
table =
    -- P1 end only
    all (whole 0 []) (accepts_with (0 ∷ []))
    -- P2 no bytes
    ∷ all [] (refuses_with 3 0)
    -- P3 T1 r1=5
    ∷ all (whole 1 (T 1 (r 1 5 ∷ []))) (rejects_with (read 1 1 1 0) [])
    -- P4 T1 r1=0
    ∷ all (whole 1 (T 1 (r 1 0 ∷ []))) (accepts_with (0 ∷ 1 ∷ []))
    -- P5 T1 w1=5 aborted; T2 r1=5
    ∷ all (whole 2 (block 1 0 (w 1 5 ∷ []) ++ T 2 (r 1 5 ∷ []))) (rejects_with (read 2 2 2 1) [])
    -- P6 T1 r1=5 w1=5
    ∷ all (whole 1 (T 1 (r 1 5 ∷ w 1 5 ∷ []))) (rejects_with (read 1 1 3 2) [])
    -- P7 T1 w1=5 w1=6 r1=5
    ∷ all (whole 1 (T 1 (w 1 5 ∷ w 1 6 ∷ r 1 5 ∷ []))) (rejects_with (read 1 3 4 1) [])
    -- P8 T1 w1=5; T2 w1=6 r1=5
    ∷ all (whole 2 (T 1 (w 1 5 ∷ []) ++ T 2 (w 1 6 ∷ r 1 5 ∷ []))) (rejects_with (read 2 3 5 1) [])
    -- P9 T1 w1=5 w1=6; T2 r1=5
    ∷ all (whole 2 (T 1 (w 1 5 ∷ w 1 6 ∷ []) ++ T 2 (r 1 5 ∷ []))) (rejects_with (read 2 3 6 1) [])
    -- P10 T1 w1=5; T2 w1=6; T3 r1=5 r1=6
    ∷ case (whole 3 (T 1 (w 1 5 ∷ []) ++ T 2 (w 1 6 ∷ []) ++ T 3 (r 1 5 ∷ r 1 6 ∷ []))) (accepts_with (0 ∷ 1 ∷ 2 ∷ 3 ∷ [])) (rejects_with [] swapped)
    (rejects_with [] swapped)
    -- P11 as P10, T3 reads 5, 6, 5
    ∷ all (whole 3 (T 1 (w 1 5 ∷ []) ++ T 2 (w 1 6 ∷ []) ++ T 3 (r 1 5 ∷ r 1 6 ∷ r 1 5 ∷ []))) (rejects_with [] swapped)
    -- P12 T1 w1=5; T2 r1=5 w2=7; T3 r2=7 r1=0
    ∷ case (whole 3 (T 1 (w 1 5 ∷ []) ++ T 2 (r 1 5 ∷ w 2 7 ∷ []) ++ T 3 (r 2 7 ∷ r 1 0 ∷ []))) (accepts_with (0 ∷ 1 ∷ 2 ∷ 3 ∷ []))
    (accepts_with (0 ∷ 1 ∷ 2 ∷ 3 ∷ [])) (rejects_with [] (pair 0 1 9 ++ pair 1 0 8))
    -- P13 T1 r2=7 w1=5; T2 r1=5 w2=7
    ∷ all (whole 2 (T 1 (r 2 7 ∷ w 1 5 ∷ []) ++ T 2 (r 1 5 ∷ w 2 7 ∷ []))) (rejects_with [] (pair 1 2 4 ++ pair 2 1 4))
    -- P14 one session: T1 w1=5; T2 r1=0
    ∷ case (whole 2 (T 1 (w 1 5 ∷ []) ++ T 1 (r 1 0 ∷ []))) (accepts_with (0 ∷ 1 ∷ 2 ∷ [])) (rejects_with [] (pair 0 1 1 ++ pair 1 0 8))
    (rejects_with [] (pair 0 1 1 ++ pair 1 0 8))
    -- 15 T1 r1=0 w1=5; T2 r1=0 w1=6
    ∷ all (whole 2 (T 1 (r 1 0 ∷ w 1 5 ∷ []) ++ T 2 (r 1 0 ∷ w 1 6 ∷ []))) (accepts_with (0 ∷ 1 ∷ 2 ∷ []))
    -- 16 T1 w1=11 w2=21; T2 w1=12 w2=22; T3 r1=12 r2=21
    ∷ case (whole 3 (T 1 (w 1 11 ∷ w 2 21 ∷ []) ++ T 2 (w 1 12 ∷ w 2 22 ∷ []) ++ T 3 (r 1 12 ∷ r 2 21 ∷ [])))
    (accepts_with (0 ∷ 2 ∷ 1 ∷ 3 ∷ [])) (rejects_with [] swapped) (rejects_with [] swapped)
    ∷ []

-- how a case comes out
abbrev pub found : Case → Case
found c =
    case c.bytes (judged c.bytes 1 (room 16) (room 16) (room 16)) (judged c.bytes 2 (room 16) (room 16) (room 16))
    (judged c.bytes 3 (room 16) (room 16) (room 16))
