-- Request Seven's cases: each decision with its counts and buffers, buffers one byte short, slices for the counts of every kind of length, numbers that are no
-- level; and the strongest level of the worked traces. As in document 01's tables: a table each, whose statement is in proofs/.
use Rattle.std.specs.Prelude.{ℕ, ◌-◌, List, [], ◌∷◌, ◌++◌, length}
use Rattle.rules.specs.Traces.{trace, opens, r, w, r_of, w_of, closes_of, note, whole, overlapping, T, U, read, pair, room}
use Rattle.rules.specs.Cases.{swapped}
use Rattle.deciding.specs.Deciding.{Decided, decided_as, decided, strongest_no, strongest}

-- ── traces ──

-- end only; T1 r1=5
abbrev P1 : List ℕ
P1 = whole 0 []

abbrev P3 : List ℕ
P3 = whole 1 (T 1 (r 1 5 ∷ []))

-- T1 w1=5; T2 w1=6; T3 r1=5 r1=6
abbrev P10 : List ℕ
P10 = whole 3 (T 1 (w 1 5 ∷ []) ++ T 2 (w 1 6 ∷ []) ++ T 3 (r 1 5 ∷ r 1 6 ∷ []))

-- T1 w1=5; T2 r1=5 w2=7; T3 r2=7 r1=0
abbrev P12 : List ℕ
P12 = whole 3 (T 1 (w 1 5 ∷ []) ++ T 2 (r 1 5 ∷ w 2 7 ∷ []) ++ T 3 (r 2 7 ∷ r 1 0 ∷ []))

-- T1 r2=7 w1=5; T2 r1=5 w2=7; and with T3 r9=9, a read that nobody wrote beside the two pairs
abbrev P13 : List ℕ
P13 = whole 2 (T 1 (r 2 7 ∷ w 1 5 ∷ []) ++ T 2 (r 1 5 ∷ w 2 7 ∷ []))

abbrev P13and : List ℕ
P13and = whole 3 (T 1 (r 2 7 ∷ w 1 5 ∷ []) ++ T 2 (r 1 5 ∷ w 2 7 ∷ []) ++ T 3 (r 9 9 ∷ []))

abbrev circle : List ℕ
circle = pair 1 2 4 ++ pair 2 1 4

-- T1 w1=11 w2=21; T2 w1=12 w2=22; T3 r1=12 r2=21
abbrev case16 : List ℕ
case16 = whole 3 (T 1 (w 1 11 ∷ w 2 21 ∷ []) ++ T 2 (w 1 12 ∷ w 2 22 ∷ []) ++ T 3 (r 1 12 ∷ r 2 21 ∷ []))

-- four notes of 64 bytes and no end
abbrev four_notes : List ℕ
four_notes = trace 0 (note (room 64) ∷ note (room 64) ∷ note (room 64) ∷ note (room 64) ∷ [])

-- ── decisions ──

-- a trace, a level, the lengths of the four buffers, and what is decided
pub record DecideCase : Type 0 where
  pub bytes : List ℕ
  pub level : ℕ
  pub f : ℕ
  pub p : ℕ
  pub o : ℕ
  pub c : ℕ
  pub out : Decided

abbrev decide_case : List ℕ → ℕ → ℕ → ℕ → ℕ → ℕ → Decided → DecideCase
decide_case s l f p o c x = record { bytes = s; level = l; f = f; p = p; o = o; c = c; out = x }

-- a number below 256 in four bytes; five of them
abbrev low : ℕ → List ℕ
low n = n ∷ 0 ∷ 0 ∷ 0 ∷ []

abbrev five : ℕ → ℕ → ℕ → ℕ → ℕ → List ℕ
five f p o n at = low f ++ low p ++ low o ++ low n ++ low at

-- with 20 bytes for the counts
abbrev promotes : List ℕ → ℕ → ℕ → ℕ → ℕ → List ℕ → DecideCase
promotes s l f p o x = decide_case s l f p o 20 (decided_as 1 (room f) (room p) (x ++ room (o - length x)) (five 0 0 (length x) 0 0))

abbrev holds : List ℕ → ℕ → ℕ → ℕ → ℕ → ℕ → List ℕ → ℕ → List ℕ → DecideCase
holds s l f p o n x m y = decide_case s l f p o 20 (decided_as 2 (x ++ room (f - length x)) (y ++ room (p - length y)) (room o) (five n m 0 0 0))

abbrev no_trace : List ℕ → ℕ → ℕ → ℕ → ℕ → ℕ → ℕ → DecideCase
no_trace s l f p o n at = decide_case s l f p o 20 (decided_as 3 (room f) (room p) (room o) (five 0 0 0 n at))

-- a read and two pairs at level 3, with a slice of c bytes that then holds x
abbrev cut : ℕ → List ℕ → DecideCase
cut c x = decide_case P13and 3 6 8 0 c (decided_as 2 (read 3 5 1 0) circle [] x)

abbrev pub decide_table : List DecideCase
decide_table =
    -- an acceptance needs no list buffers, and bytes behind the order do not change
    promotes P1 1 0 0 1 (0 ∷ [])
    ∷ promotes P10 1 6 8 6 (0 ∷ 1 ∷ 2 ∷ 3 ∷ [])
    ∷ promotes case16 1 0 0 4 (0 ∷ 2 ∷ 1 ∷ 3 ∷ [])
    ∷ promotes P12 2 0 0 4 (0 ∷ 1 ∷ 2 ∷ 3 ∷ [])
    -- a rejection needs no order buffer
    ∷ holds P3 3 6 0 0 1 (read 1 1 1 0) 0 []
    ∷ holds P10 2 0 9 2 0 [] 2 swapped
    ∷ holds P12 3 0 8 0 0 [] 2 (pair 0 1 9 ++ pair 1 0 8)
    ∷ holds P13and 1 7 9 1 1 (read 3 5 1 0) 2 circle
    -- "Refusals: 01's": no trace, with number and place; 12, 13 and 14 one byte short
    ∷ no_trace [] 1 6 8 4 3 0
    ∷ no_trace (P1 ++ (7 ∷ [])) 3 6 8 4 11 10
    ∷ no_trace P3 3 5 8 4 12 6
    ∷ no_trace P13and 3 6 7 4 13 8
    ∷ no_trace P1 2 6 8 0 14 1
    -- "the level is not 1, 2 or 3": 257 and 4294967297 are not 1
    ∷ no_trace P1 0 6 8 4 1 0
    ∷ no_trace P1 4 6 8 4 1 0
    ∷ no_trace P1 257 6 8 4 1 0
    ∷ no_trace P1 4294967297 6 8 4 1 0
    -- a place of two bytes: 288
    ∷ decide_case four_notes 1 0 0 0 20 (decided_as 3 [] [] [] (low 0 ++ low 0 ++ low 0 ++ low 3 ++ (32 ∷ 1 ∷ 0 ∷ 0 ∷ [])))
    -- a slice that is shorter gets the counts that fit whole; behind the five nothing changes
    ∷ cut 0 []
    ∷ cut 3 (room 3)
    ∷ cut 4 (low 1)
    ∷ cut 7 (low 1 ++ room 3)
    ∷ cut 8 (low 1 ++ low 2)
    ∷ cut 19 (low 1 ++ low 2 ++ low 0 ++ low 0 ++ room 3)
    ∷ cut 20 (five 1 2 0 0 0)
    ∷ cut 25 (five 1 2 0 0 0 ++ room 5)
    ∷ []

abbrev pub now_decided : DecideCase → DecideCase
now_decided x =
    decide_case x.bytes x.level x.f x.p x.o x.c (decided x.bytes x.level (room x.f) (room x.p) (room x.o) (room x.c))

-- ── the strongest level ──

-- a trace and the number that is answered
pub record StrongestCase : Type 0 where
  pub bytes : List ℕ
  pub answer : ℕ

abbrev strongest_case : List ℕ → ℕ → StrongestCase
strongest_case s n = record { bytes = s; answer = n }

abbrev pub strongest_table : List StrongestCase
strongest_table =
    strongest_case P1 3
    -- "0 if none": an unclean read, and pairs at every level
    ∷ strongest_case P3 0
    ∷ strongest_case P13 0
    ∷ strongest_case P10 1
    ∷ strongest_case P12 2
    -- P14 one session: T1 w1=5; T2 r1=0
    ∷ strongest_case (whole 2 (T 1 (w 1 5 ∷ []) ++ T 1 (r 1 0 ∷ []))) 1
    ∷ strongest_case case16 1
    -- P12 in edition 2, overlapping, and with an unanswered commit in place of the first
    ∷ strongest_case (overlapping 3 (opens 1 ∷ opens 2 ∷ opens 3 ∷ r_of 3 2 7 ∷ r_of 2 1 5 ∷ w_of 1 1 5 ∷ w_of 2 2 7 ∷ r_of 3 1 0 ∷ closes_of 3 1 ∷ closes_of 2 1 ∷ closes_of 1 1 ∷ [])) 2
    ∷ strongest_case (whole 3 (U 1 (w 1 5 ∷ []) ++ T 2 (r 1 5 ∷ w 2 7 ∷ []) ++ T 3 (r 2 7 ∷ r 1 0 ∷ []))) 2
    -- .. "or on refusal"
    ∷ strongest_case [] 0
    ∷ strongest_case (P1 ++ (7 ∷ [])) 0
    ∷ strongest_case four_notes 0
    ∷ []

abbrev pub now_strongest : StrongestCase → StrongestCase
now_strongest x = strongest_case x.bytes (strongest_no (strongest x.bytes))
