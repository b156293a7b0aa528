-- Document 01, "Clean reads and the six kinds".
use Rattle.std.specs.Prelude.{ℕ, ◌+◌, Bool, not, [], ◌∷◌, ltb, eqb}
use Rattle.base.specs.Base.{◌and◌, ◌or◌, some, row, first_fit}
use Rattle.rules.specs.History.{History, op, op_count, origin_of, source_of, committed}

-- operation j is a write of the key x in transaction t
unfoldable pub writes_at : History → ℕ → ℕ → ℕ → Bool
writes_at h t x j = (op h j).is_write and eqb (op h j).tx t and eqb (op h j).key x

-- t writes x by an operation whose number is above a and below e
unfoldable pub wrote_between : History → ℕ → ℕ → ℕ → ℕ → Bool
wrote_between h t x a e = some (a + 1) e (writes_at h t x)

-- "It gets the first kind that fits": operation i, of t, reads the value v of x, which write number w, of transaction u, wrote (w = 0: none did)
unfoldable pub kind_by : History → ℕ → ℕ → ℕ → ℕ → ℕ → ℕ → ℕ
kind_by h i t x v w u =
    let written = not (eqb w 0) in
    let own = written and eqb u t in
    let other = written and not (eqb u t) in
    first_fit
    -- "Thin air: v is not 0 and no write has (x, v)."
    (row (not (eqb v 0) and not written) 1
    -- "Aborted: that write is in another transaction, which aborted."
    ∷ row (other and not (committed h u)) 2
    -- "Future: that write is in t, after the read."
    ∷ row (own and ltb i w) 3
    -- "Not my last: that write is in t, before the read, with another write of x between."
    ∷ row (own and ltb w i and wrote_between h t x w i) 4
    -- "Not my own: v is 0 or its write is in another, committed transaction, and t wrote x before the read."
    ∷ row ((eqb v 0 or (other and committed h u)) and wrote_between h t x 0 i) 5
    -- "Intermediate: that write is in another committed transaction, which later wrote x again."
    ∷ row (other and committed h u and wrote_between h u x w (op_count h + 1)) 6
    ∷ [])

-- the kind of read i; 0: "Otherwise it is clean"
unfoldable pub kind_of : History → ℕ → ℕ
kind_of h i = kind_by h i (op h i).tx (op h i).key (op h i).value (origin_of h i) (source_of h i)

-- "Each read in a committed transaction t is judged." "Reads of aborted transactions are not judged."
unfoldable pub is_judged : History → ℕ → Bool
is_judged h i = not (op h i).is_write and committed h (op h i).tx

-- an unclean read
unfoldable pub is_finding : History → ℕ → Bool
is_finding h i = is_judged h i and ltb 0 (kind_of h i)

-- a clean read, "internal when t itself wrote the value, else external"
unfoldable pub is_external : History → ℕ → Bool
is_external h i = is_judged h i and eqb (kind_of h i) 0 and not (eqb (source_of h i) (op h i).tx)

-- operation i is a clean external read in t from a: "from the write's transaction, or from transaction 0 when v is 0"
unfoldable pub reads_from : History → ℕ → ℕ → ℕ → Bool
reads_from h t a i = is_external h i and eqb (op h i).tx t and eqb (source_of h i) a
