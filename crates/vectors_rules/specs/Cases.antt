-- Request Nine's vectors, computed: what each transaction's has, and that it says the same as the table of basic reachability. As in document 01's tables: a table
-- and one statement.
use Rattle.std.specs.Prelude.{ℕ, ◌≡◌, refl, Bool, true, false, List, [], ◌∷◌, ◌++◌, map}
use Rattle.base.specs.Base.{those, numbered}
use Rattle.rules.specs.History.{History, tx_count, size}
use Rattle.rules.specs.Reading.{Reading, refused, read, reading}
use Rattle.rules.specs.Levels.{leads}
use Rattle.rules.specs.Traces.{opens, r, w, r_of, w_of, closes_of, block, T, U, whole, overlapping}
use Rattle.rules.proofs.Edges.{as_they_should}
use Rattle.vectors_rules.specs.Latest.{knows, latest, greater, with_own, told, loops, cyclic}
use Rattle.vectors_rules.specs.Vectors.{session_no, latest_of, vector_of, told_by, basic_cycle}

-- of a transaction: its vector at some sessions, without its own entry and with it, and who leads to it besides 0, as the vectors say and by the table
pub record Line : Type 0 where
  pub known : List ℕ
  pub own : List ℕ
  pub said : List ℕ
  pub led : List ℕ

abbrev line : List ℕ → List ℕ → List ℕ → List ℕ → Line
line k o x y = record { known = k; own = o; said = x; led = y }

-- both say the same
abbrev same : List ℕ → List ℕ → List ℕ → Line
same k o x = line k o x x

-- a trace, sessions, whether basic pairs form a cycle, and a line for each transaction
pub record VectorCase : Type 0 where
  pub bytes : List ℕ
  pub sessions : List ℕ
  pub cycle : Bool
  pub lines : List Line

abbrev vector_case : List ℕ → List ℕ → Bool → List Line → VectorCase
vector_case b s c l = record { bytes = b; sessions = s; cycle = c; lines = l }

-- entries at two sessions and at three
abbrev two : ℕ → ℕ → List ℕ
two x y = x ∷ y ∷ []

abbrev three : ℕ → ℕ → ℕ → List ℕ
three x y z = x ∷ y ∷ z ∷ []

abbrev pub vector_table : List VectorCase
vector_table =
    -- figure 5 of sources 000 and 002 with 5 transactions in place of 100: session 1 has t1 (1), t2 (2), t3 (5), t4 (6), t5 (7), session 2 has t101 (3) and
    -- t102 (4), which t3 reads. Their vectors count in each session: Vec[t101] = <0, 1> and Vec[t3] = <3, 2> are 0 3 and 5 4 here. t3 also reads from t2 a key
    -- that t101 writes, so that t101 comes before t2: no basic pair, and t2's vector has nothing of session 2
    vector_case
    (whole 7 (T 1 [] ++ T 1 (w 1 6 ∷ []) ++ T 2 (w 1 5 ∷ []) ++ T 2 (w 2 7 ∷ []) ++ T 1 (r 1 6 ∷ r 2 7 ∷ []) ++ T 1 [] ++ T 1 [])) (two 1 2) false
    (same (two 0 0) (two 1 0) []
    ∷ same (two 1 0) (two 2 0) (1 ∷ [])
    ∷ same (two 0 0) (two 0 3) []
    ∷ same (two 0 3) (two 0 4) (3 ∷ [])
    ∷ same (two 2 4) (two 5 4) (1 ∷ 2 ∷ 3 ∷ 4 ∷ [])
    ∷ same (two 5 4) (two 6 4) (1 ∷ 2 ∷ 3 ∷ 4 ∷ 5 ∷ [])
    ∷ same (two 6 4) (two 7 4) (1 ∷ 2 ∷ 3 ∷ 4 ∷ 5 ∷ 6 ∷ [])
    ∷ [])
    -- no transaction; one, and a session that nobody has
    ∷ vector_case (whole 0 []) (two 0 1) false []
    ∷ vector_case (whole 1 (T 1 (r 1 0 ∷ []))) (three 0 1 9) false (same (three 0 0 0) (three 0 1 0) [] ∷ [])
    -- P12 T1 w1=5; T2 r1=5 w2=7; T3 r2=7 r1=0
    ∷ vector_case (whole 3 (T 1 (w 1 5 ∷ []) ++ T 2 (r 1 5 ∷ w 2 7 ∷ []) ++ T 3 (r 2 7 ∷ r 1 0 ∷ []))) (three 1 2 3) false
    (same (three 0 0 0) (three 1 0 0) [] ∷ same (three 1 0 0) (three 1 2 0) (1 ∷ []) ∷ same (three 1 2 0) (three 1 2 3) (1 ∷ 2 ∷ []) ∷ [])
    -- two sessions that know each other's first: T1 w1=5; T2 w2=6; T3 r2=6; T4 r1=5
    ∷ vector_case (whole 4 (T 1 (w 1 5 ∷ []) ++ T 2 (w 2 6 ∷ []) ++ T 1 (r 2 6 ∷ []) ++ T 2 (r 1 5 ∷ []))) (two 1 2) false
    (same (two 0 0) (two 1 0) [] ∷ same (two 0 0) (two 0 2) [] ∷ same (two 1 2) (two 3 2) (1 ∷ 2 ∷ []) ∷ same (two 1 2) (two 1 4) (1 ∷ 2 ∷ []) ∷ [])
    -- a read that is not clean gives no pair: T1 w1=5 w1=6; T2 r1=5
    ∷ vector_case (whole 2 (T 1 (w 1 5 ∷ w 1 6 ∷ []) ++ T 2 (r 1 5 ∷ []))) (two 1 2) false (same (two 0 0) (two 1 0) [] ∷ same (two 0 0) (two 0 2) [] ∷ [])
    -- a cycle: P13 T1 r2=7 w1=5; T2 r1=5 w2=7, and a third behind the first. What is known by the definition says the same as the table
    ∷ vector_case (whole 3 (T 1 (r 2 7 ∷ w 1 5 ∷ []) ++ T 2 (r 1 5 ∷ w 2 7 ∷ []) ++ T 1 [])) (two 1 2) true
    (same (two 1 2) (two 1 2) (1 ∷ 2 ∷ []) ∷ same (two 1 2) (two 1 2) (1 ∷ 2 ∷ []) ∷ same (two 1 2) (two 3 2) (1 ∷ 2 ∷ []) ∷ [])
    -- .. in one session, whose first reads from its second
    ∷ vector_case (whole 2 (T 1 (r 1 5 ∷ []) ++ T 1 (w 1 5 ∷ []))) (two 1 2) true (same (two 2 0) (two 2 0) (1 ∷ 2 ∷ []) ∷ same (two 2 0) (two 2 0) (1 ∷ 2 ∷ []) ∷ [])
    -- an aborted one between two of its session, the later of which is read: it leads nowhere, though its number is below the entry
    ∷ vector_case (whole 4 (T 1 (w 1 5 ∷ []) ++ block 1 0 (w 2 6 ∷ []) ++ T 1 (w 3 7 ∷ []) ++ T 2 (r 3 7 ∷ []))) (two 1 2) false
    (same (two 0 0) (two 1 0) [] ∷ same (two 0 0) (two 0 0) [] ∷ same (two 1 0) (two 3 0) (1 ∷ []) ∷ same (two 3 0) (two 3 4) (1 ∷ 3 ∷ []) ∷ [])
    -- unanswered ones: the first counts, since the third reads it, the second does not
    ∷ vector_case (whole 4 (U 1 (w 1 5 ∷ []) ++ U 1 (w 2 6 ∷ []) ++ T 2 (r 1 5 ∷ []) ++ T 1 [])) (two 1 2) false
    (same (two 0 0) (two 1 0) [] ∷ same (two 0 0) (two 0 0) [] ∷ same (two 1 0) (two 1 3) (1 ∷ []) ∷ same (two 1 0) (two 4 0) (1 ∷ []) ∷ [])
    -- edition 2: the first reads from the second, which is open beside it, and the third, of the second's session, from the first; sessions 0 and 65,535
    ∷ vector_case
    (overlapping 3 (opens 65535 ∷ opens 0 ∷ w_of 0 1 5 ∷ r_of 65535 1 5 ∷ closes_of 0 1 ∷ opens 0 ∷ w_of 65535 2 6 ∷ r_of 0 2 6 ∷ closes_of 65535 1 ∷ closes_of 0 1 ∷ []))
    (two 0 65535) false
    (same (two 2 0) (two 2 1) (2 ∷ []) ∷ same (two 0 0) (two 2 0) [] ∷ same (two 2 1) (two 3 1) (1 ∷ 2 ∷ []) ∷ [])
    -- .. P12 with the last opened first: T1 r2=7; T2 r1=5 w2=7; T3 w1=5
    ∷ vector_case
    (overlapping 3 (opens 1 ∷ opens 2 ∷ opens 3 ∷ w_of 3 1 5 ∷ r_of 2 1 5 ∷ w_of 2 2 7 ∷ r_of 1 2 7 ∷ closes_of 1 1 ∷ closes_of 2 1 ∷ closes_of 3 1 ∷ []))
    (three 1 2 3) false
    (same (three 0 2 3) (three 1 2 3) (2 ∷ 3 ∷ []) ∷ same (three 0 0 3) (three 0 2 3) (3 ∷ []) ∷ same (three 0 0 0) (three 0 0 3) [] ∷ [])
    -- .. the second reads from the third, so it knows the first too, which is of that one's session
    ∷ vector_case
    (overlapping 4 (opens 1 ∷ opens 2 ∷ closes_of 1 1 ∷ opens 1 ∷ w_of 1 1 5 ∷ r_of 2 1 5 ∷ closes_of 2 1 ∷ opens 2 ∷ closes_of 1 1 ∷ closes_of 2 1 ∷ [])) (two 1 2) false
    (same (two 0 0) (two 1 0) [] ∷ same (two 3 0) (two 3 2) (1 ∷ 3 ∷ []) ∷ same (two 1 0) (two 3 0) (1 ∷ []) ∷ same (two 3 2) (two 3 4) (1 ∷ 2 ∷ 3 ∷ []) ∷ [])
    ∷ []

-- what is computed of transaction t
unfoldable pub line_of : History → List ℕ → ℕ → Line
line_of h ss t = line (map (latest_of h t) ss) (map (vector_of h t) ss) (those 1 (size h) (λ a. told_by h a t)) (those 1 (size h) (λ a. leads h a t))

-- of what was read
unfoldable pub is_cyclic : Reading → Bool
is_cyclic (refused n p) = false
is_cyclic (read h notes) = basic_cycle h

unfoldable pub lines_of : List ℕ → Reading → List Line
lines_of ss (refused n p) = []
lines_of ss (read h notes) = numbered (tx_count h) (line_of h ss)

abbrev pub now_known : VectorCase → VectorCase
now_known c = vector_case c.bytes c.sessions (is_cyclic (reading c.bytes)) (lines_of c.sessions (reading c.bytes))

pub as_known : map now_known vector_table ≡ vector_table
unfolding as_they_should knows latest greater with_own told loops cyclic session_no latest_of vector_of told_by basic_cycle line_of is_cyclic lines_of
as_known = refl
