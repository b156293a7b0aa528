-- Who writes the keys that are read, by buckets, computed; and whole traces with different keys that share a bucket. A table and a statement each.
use Rattle.std.specs.Prelude.{ℕ, ◌≡◌, refl, Bool, true, false, List, [], ◌∷◌, ◌++◌, map}
use Rattle.rules.specs.History.{History, Tx, Op}
use Rattle.rules.specs.Traces.{whole, T, r, w, pair}
use Rattle.rules.proofs.Edges.{as_they_should}
use Rattle.rules.specs.Cases.{Case, case, all, accepts_with, rejects_with, swapped, found}
use Rattle.keys.specs.Keys.{bucket_of, reads_into, key_below, key_read, reads_other, is_shared, is_entered, writes_into, wrote, writers}

-- ── who writes a key that is read ──

abbrev by : ℕ → Bool → ℕ → ℕ → Op
by t is_write x v = record { tx = t; is_write = is_write; key = x; value = v }

-- committed, each in a session of its own
abbrev committed : ℕ → Tx
committed t = record { session = t; status = 1 }

-- T1 w1=7; T2 w129=8 w2=9; T3 r1=7 r3=0; T4 w131=5; T5 and what it does
abbrev ending : List Op → History
ending last =
    record {
      txs = committed 1 ∷ committed 2 ∷ committed 3 ∷ committed 4 ∷ committed 5 ∷ [];
      ops = by 1 true 1 7 ∷ by 2 true 129 8 ∷ by 2 true 2 9 ∷ by 3 false 1 7 ∷ by 3 false 3 0 ∷ by 4 true 131 5 ∷ last;
    }

-- the first six bits of a row: whether the bucket is shared, and transactions 1 to 5
abbrev row : History → ℕ → List Bool
row h b = map (writers h b) (0 ∷ 1 ∷ 2 ∷ 3 ∷ 4 ∷ 5 ∷ [])

-- the rows of the buckets 1, 2 and 3
abbrev rows : History → List (List Bool)
rows h = map (row h) (1 ∷ 2 ∷ 3 ∷ [])

abbrev pub computed : List (List (List Bool))
computed = rows (ending []) ∷ rows (ending (by 5 false 129 8 ∷ [])) ∷ rows (ending (by 5 true 3 6 ∷ by 5 false 2 9 ∷ [])) ∷ []

-- the keys 1 and 129 share bucket 1, 3 and 131 bucket 3
pub as_entered :
    computed
    -- of bucket 1 the key 1 is read: T1 writes it. Nobody reads 2, and nobody writes 3
    ≡ ((false ∷ true ∷ false ∷ false ∷ false ∷ false ∷ [])
    ∷ (false ∷ false ∷ false ∷ false ∷ false ∷ false ∷ [])
    ∷ (false ∷ false ∷ false ∷ false ∷ false ∷ false ∷ [])
    ∷ [])
    -- T5 r129=8: both keys of bucket 1 are read, so that it is shared, and has T2 as well
    ∷ ((true ∷ true ∷ true ∷ false ∷ false ∷ false ∷ [])
    ∷ (false ∷ false ∷ false ∷ false ∷ false ∷ false ∷ [])
    ∷ (false ∷ false ∷ false ∷ false ∷ false ∷ false ∷ [])
    ∷ [])
    -- T5 w3=6 r2=9: bucket 2 has T2, bucket 3 T5, and not T4
    ∷ ((false ∷ true ∷ false ∷ false ∷ false ∷ false ∷ [])
    ∷ (false ∷ false ∷ true ∷ false ∷ false ∷ false ∷ [])
    ∷ (false ∷ false ∷ false ∷ false ∷ false ∷ true ∷ [])
    ∷ [])
    ∷ []
unfolding as_they_should bucket_of reads_into key_below key_read reads_other is_shared is_entered writes_into wrote writers
as_entered = refl

-- ── traces ──

-- a session has T2 write the key that T3 reads as 0: so 0, 1 and 2 stand on a cycle
abbrev turned : List ℕ
turned = pair 0 1 1 ++ pair 0 2 1 ++ pair 1 2 2 ++ pair 2 0 8

-- keys 1 and 129: whoever writes the one is no rival for a read of the other
abbrev pub shared : List Case
shared =
    -- P10 with two keys: T1 w1=5; T2 w129=6; T3 r1=5 r129=6
    all (whole 3 (T 1 (w 1 5 ∷ []) ++ T 2 (w 129 6 ∷ []) ++ T 3 (r 1 5 ∷ r 129 6 ∷ []))) (accepts_with (0 ∷ 1 ∷ 2 ∷ 3 ∷ []))
    -- P12 with another: T1 w129=5; T2 r129=5 w2=7; T3 r2=7 r1=0
    ∷ all (whole 3 (T 1 (w 129 5 ∷ []) ++ T 2 (r 129 5 ∷ w 2 7 ∷ []) ++ T 3 (r 2 7 ∷ r 1 0 ∷ []))) (accepts_with (0 ∷ 1 ∷ 2 ∷ 3 ∷ []))
    -- P14 with another, one session: T1 w129=5; T2 r1=0
    ∷ all (whole 2 (T 1 (w 129 5 ∷ []) ++ T 1 (r 1 0 ∷ []))) (accepts_with (0 ∷ 1 ∷ 2 ∷ []))
    -- .. and a rival behind it: T1 w129=5; T2 w1=6; T3 r1=0
    ∷ case (whole 3 (T 1 (w 129 5 ∷ []) ++ T 1 (w 1 6 ∷ []) ++ T 1 (r 1 0 ∷ []))) (accepts_with (0 ∷ 1 ∷ 2 ∷ 3 ∷ [])) (rejects_with [] turned)
    (rejects_with [] turned)
    -- 16 with two keys of one bucket, torn all the same: T1 w1=11 w129=21; T2 w1=12 w129=22; T3 r1=12 r129=21
    ∷ case (whole 3 (T 1 (w 1 11 ∷ w 129 21 ∷ []) ++ T 2 (w 1 12 ∷ w 129 22 ∷ []) ++ T 3 (r 1 12 ∷ r 129 21 ∷ [])))
    (accepts_with (0 ∷ 2 ∷ 1 ∷ 3 ∷ [])) (rejects_with [] swapped) (rejects_with [] swapped)
    ∷ []

pub as_judged : map found shared ≡ shared
unfolding as_they_should
as_judged = refl
