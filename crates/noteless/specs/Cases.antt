-- Request Six's cases: a trace with notes, the same with other texts, and the same without its notes are judged alike. As in document 01's tables: a table and
-- one statement.
use Rattle.std.specs.Prelude.{ℕ, ◌≡◌, refl, List, [], ◌∷◌, ◌++◌, map}
use Rattle.std.proofs.Common.{arith}
use Rattle.rules.specs.Traces.{record_of, trace, opens, r, w, closes, ends, note, T, block, read, pair}
use Rattle.rules.proofs.Edges.{as_they_should}
use Rattle.rules.specs.Cases.{Case, case, all, found, accepts_with, rejects_with}
use Rattle.noteless.specs.Without.{none, left_out, kept, WithoutNotes}

-- P12: T1 w1=5; T2 r1=5 w2=7; T3 r2=7 r1=0, with a note before, one inside and two behind a transaction; its serials wrap
abbrev noted : List ℕ → List ℕ
noted p =
    trace 4294967294
    (note p ∷ opens 1 ∷ w 1 5 ∷ note [] ∷ closes 1 ∷ opens 2 ∷ r 1 5 ∷ w 2 7 ∷ closes 1 ∷ note p ∷ note p ∷ opens 3 ∷ r 2 7 ∷ r 1 0 ∷ closes 1 ∷ ends 3 ∷ [])

-- the same records but for the notes, with serials from n on
abbrev bare : ℕ → List ℕ
bare n = trace n (T 1 (w 1 5 ∷ []) ++ T 2 (r 1 5 ∷ w 2 7 ∷ []) ++ T 3 (r 2 7 ∷ r 1 0 ∷ []) ++ (ends 3 ∷ []))

-- P5: T1 w1=5 aborted; T2 r1=5, with a note before each operation
abbrev unclean : List ℕ → List ℕ
unclean p = trace 0 (opens 1 ∷ note p ∷ w 1 5 ∷ closes 0 ∷ opens 2 ∷ note p ∷ r 1 5 ∷ closes 1 ∷ ends 2 ∷ [])

-- P12's outcome, whatever the texts
abbrev as_p12 : List ℕ → Case
as_p12 s = case s (accepts_with (0 ∷ 1 ∷ 2 ∷ 3 ∷ [])) (accepts_with (0 ∷ 1 ∷ 2 ∷ 3 ∷ [])) (rejects_with [] (pair 0 1 9 ++ pair 1 0 8))

abbrev pub noted_table : List Case
noted_table =
    -- a text that is a whole record, and another of that length
    as_p12 (noted (record_of 0 (ends 0)))
    ∷ as_p12 (noted (255 ∷ 0 ∷ 255 ∷ 0 ∷ 255 ∷ 0 ∷ 255 ∷ 0 ∷ 255 ∷ 0 ∷ []))
    ∷ as_p12 (bare 7)
    -- operations have the numbers that they have without notes
    ∷ all (unclean (1 ∷ [])) (rejects_with (read 2 2 2 1) [])
    ∷ all (unclean (2 ∷ [])) (rejects_with (read 2 2 2 1) [])
    ∷ all (trace 3 (block 1 0 (w 1 5 ∷ []) ++ T 2 (r 1 5 ∷ []) ++ (ends 2 ∷ []))) (rejects_with (read 2 2 2 1) [])
    ∷ []

pub as_without_notes : map found noted_table ≡ noted_table
unfolding as_they_should
as_without_notes = refl

-- the third is the first without its notes, its serials closed up
pub bare_without : (p : List ℕ) → WithoutNotes 7 (noted p) (bare 7)
unfolding trace
bare_without p =
    record {
      low = omega arith;
      next = 19;
      records =
          left_out 4294967294 p
          (kept 4294967295 (opens 1) (omega arith) (λ e. omega arith)
          (kept 0 (w 1 5) (omega arith) (λ e. omega arith)
          (left_out 1 []
          (kept 2 (closes 1) (omega arith) (λ e. omega arith)
          (kept 3 (opens 2) (omega arith) (λ e. omega arith)
          (kept 4 (r 1 5) (omega arith) (λ e. omega arith)
          (kept 5 (w 2 7) (omega arith) (λ e. omega arith)
          (kept 6 (closes 1) (omega arith) (λ e. omega arith) (left_out 7 p (left_out 8 p (kept 9 (opens 3) (omega arith) (λ e. omega arith) (kept 10 (r 2 7) (omega arith) (λ e. omega arith) (kept 11 (r 1 0) (omega arith) (λ e. omega arith) (kept 12 (closes 1) (omega arith) (λ e. omega arith) (kept 13 (ends 3) (omega arith) (λ e. omega arith) none)))))))))))))));
    }
