-- Document 01, "Traces worked by hand", as they are printed: P1 to P14 with cases 15 and 16, one table. And lines with longer numbers than those have. The
-- statements are in proofs/.
use Rattle.std.specs.Prelude.{ℕ, List, [], ◌∷◌, ◌++◌, map, get_or}
use Prim.Native.String.{String}
use Rattle.rules.specs.Traces.{whole, T, r, w}
use Rattle.rules.specs.Cases.{table}
use Rattle.text.specs.Lines.{text, decimal, refused_line, rejected_line, accepted_line, read_line, notes_line}
use Rattle.text.specs.Answer.{answer_text}

-- a trace and its text
pub record Printed : Type 0 where
  pub bytes : List ℕ
  pub printed : List ℕ

abbrev prints : List ℕ → String → Printed
prints b s = record { bytes = b; printed = text s }

-- the trace of the case of that number
abbrev P : ℕ → List ℕ
P k = get_or ([] ∷ map (λ c. c.bytes) table) k []

abbrev pub text_table : List Printed
text_table =
    -- end only
    prints (P 1) "rc accepted 0\nra accepted 0\ntcc accepted 0\n"
    -- no bytes
    ∷ prints (P 2) "refused 3 0\n"
    -- T1 r1=5
    ∷ prints (P 3) "rc rejected 1 0\nread 1 1 1 0\nra rejected 1 0\nread 1 1 1 0\ntcc rejected 1 0\nread 1 1 1 0\n"
    -- T1 r1=0
    ∷ prints (P 4) "rc accepted 0 1\nra accepted 0 1\ntcc accepted 0 1\n"
    -- T1 w1=5 aborted; T2 r1=5
    ∷ prints (P 5) "rc rejected 1 0\nread 2 2 2 1\nra rejected 1 0\nread 2 2 2 1\ntcc rejected 1 0\nread 2 2 2 1\n"
    -- T1 r1=5 w1=5
    ∷ prints (P 6) "rc rejected 1 0\nread 1 1 3 2\nra rejected 1 0\nread 1 1 3 2\ntcc rejected 1 0\nread 1 1 3 2\n"
    -- T1 w1=5 w1=6 r1=5
    ∷ prints (P 7) "rc rejected 1 0\nread 1 3 4 1\nra rejected 1 0\nread 1 3 4 1\ntcc rejected 1 0\nread 1 3 4 1\n"
    -- T1 w1=5; T2 w1=6 r1=5
    ∷ prints (P 8) "rc rejected 1 0\nread 2 3 5 1\nra rejected 1 0\nread 2 3 5 1\ntcc rejected 1 0\nread 2 3 5 1\n"
    -- T1 w1=5 w1=6; T2 r1=5
    ∷ prints (P 9) "rc rejected 1 0\nread 2 3 6 1\nra rejected 1 0\nread 2 3 6 1\ntcc rejected 1 0\nread 2 3 6 1\n"
    -- T1 w1=5; T2 w1=6; T3 r1=5 r1=6
    ∷ prints (P 10) "rc accepted 0 1 2 3\nra rejected 0 2\npair 1 2 8\npair 2 1 8\ntcc rejected 0 2\npair 1 2 8\npair 2 1 8\n"
    -- as P10, T3 reads 5, 6, 5
    ∷ prints (P 11) "rc rejected 0 2\npair 1 2 8\npair 2 1 8\nra rejected 0 2\npair 1 2 8\npair 2 1 8\ntcc rejected 0 2\npair 1 2 8\npair 2 1 8\n"
    -- T1 w1=5; T2 r1=5 w2=7; T3 r2=7 r1=0
    ∷ prints (P 12) "rc accepted 0 1 2 3\nra accepted 0 1 2 3\ntcc rejected 0 2\npair 0 1 9\npair 1 0 8\n"
    -- T1 r2=7 w1=5; T2 r1=5 w2=7
    ∷ prints (P 13) "rc rejected 0 2\npair 1 2 4\npair 2 1 4\nra rejected 0 2\npair 1 2 4\npair 2 1 4\ntcc rejected 0 2\npair 1 2 4\npair 2 1 4\n"
    -- one session: T1 w1=5; T2 r1=0
    ∷ prints (P 14) "rc accepted 0 1 2\nra rejected 0 2\npair 0 1 1\npair 1 0 8\ntcc rejected 0 2\npair 0 1 1\npair 1 0 8\n"
    -- T1 r1=0 w1=5; T2 r1=0 w1=6
    ∷ prints (P 15) "rc accepted 0 1 2\nra accepted 0 1 2\ntcc accepted 0 1 2\n"
    -- T1 w1=11 w2=21; T2 w1=12 w2=22; T3 r1=12 r2=21: 187 bytes in, seven lines out
    ∷ prints (P 16) "rc accepted 0 2 1 3\nra rejected 0 2\npair 1 2 8\npair 2 1 8\ntcc rejected 0 2\npair 1 2 8\npair 2 1 8\n"
    -- both lists in one block: T1 r2=7 w1=5; T2 r1=5 w2=7 r3=9
    ∷ prints (whole 2 (T 1 (r 2 7 ∷ w 1 5 ∷ []) ++ T 2 (r 1 5 ∷ w 2 7 ∷ r 3 9 ∷ [])))
    "rc rejected 1 2\nread 2 5 1 0\npair 1 2 4\npair 2 1 4\nra rejected 1 2\nread 2 5 1 0\npair 1 2 4\npair 2 1 4\ntcc rejected 1 2\nread 2 5 1 0\npair 1 2 4\npair 2 1 4\n"
    ∷ []

-- what a trace prints
abbrev pub to_print : Printed → Printed
to_print c = record { bytes = c.bytes; printed = answer_text c.bytes }

-- ── numbers of one digit, two, and more ──

abbrev pub line_table : List (List ℕ)
line_table =
    decimal 0
    ∷ decimal 9
    ∷ decimal 10
    ∷ decimal 1024
    ∷ refused_line 2 32768
    ∷ accepted_line 1 (0 ∷ 127 ∷ [])
    ∷ rejected_line 3 10 16256
    ∷ read_line 127 1024 6 1023
    ∷ notes_line 0
    ∷ notes_line 4094
    ∷ []
