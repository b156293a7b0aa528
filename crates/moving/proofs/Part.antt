-- Part of a history: some transactions, and the operations that have some numbers, in the order of those.
use Prim.Native.Nat.{ℕ, zero, suc, ◌+◌}
use mathlib.Core.Path.{◌≡◌, refl, ap, sym}
use mathlib.Core.List.{List, [], ◌∷◌, ◌++◌, map}
use native.Mathlib.Omega.{arith}
use lib.ListN.{length, get_or, length-append, length-map, get_or-map}
use Rattle.theory.specs.Entries.{In}
use Rattle.theory.proofs.Entries.{entry_in}
use Rattle.rules.specs.History.{History, Tx, op, tx_count, op_count, current, opened, closed, with_op}
use Rattle.rules.proofs.History.{close_ops, close_latest}
use Rattle.demand1.specs.Lawful.{IsOp}
use Rattle.writing.proofs.Grown.{open_current}
use Rattle.writing.proofs.Lengths.{map_append}
use Rattle.moving.specs.Renumbering.{in_blocks, as_blocks}

abbrev pub partial : History → List Tx → List ℕ → History
partial h ts ns = record { txs = ts; ops = map (op h) ns }

-- all, as blocks
pub blocks_part : (h : History) → as_blocks h ≡ partial h h.txs (in_blocks h)
unfolding as_blocks
blocks_part h = refl

-- these transactions and one more, of session s, which is open
abbrev pub open_txs : List Tx → ℕ → List Tx
open_txs ts s = ts ++ (record { session = s; status = 3 } ∷ [])

module _ (h : History) (ts : List Tx) (ns : List ℕ) where
  -- ── its operations ──

  pub part_count : op_count (partial h ts ns) ≡ length ns
  part_count = length-map ns (op h)

  -- operation j is the one that has the j-th number
  pub part_at : (j : ℕ) → op (partial h ts ns) j ≡ op h (get_or (0 ∷ ns) j 0)
  unfolding op
  part_at j = get_or-map (op h) (0 ∷ ns) j 0

  pub part_in : (j : ℕ) → IsOp (partial h ts ns) j → In (get_or (0 ∷ ns) j 0) ns
  part_in zero o = absurd (omega (arith, o.from))
  part_in (suc j) o = entry_in ns j 0 (omega (arith, o.to, part_count))

  -- ── how it grows ──

  pub part_op : (i : ℕ) → with_op (partial h ts ns) (op h i) ≡ partial h ts (ns ++ (i ∷ []))
  unfolding with_op
  part_op i = ap (λ os. record { txs = ts; ops = os }) (sym (map_append (op h) ns (i ∷ [])))

  module _ (s : ℕ) where
    -- with one more that is open
    abbrev pub in_open : History
    in_open = partial h (open_txs ts s) ns

    pub part_open : opened (partial h ts ns) s ≡ in_open
    unfolding opened
    part_open = refl

    pub part-current : current in_open ≡ length ts + 1
    part-current = rw part_open at (open_current (partial h ts ns) s)

    pub part_close : (c : ℕ) → closed in_open (current in_open) c ≡ partial h (ts ++ (record { session = s; status = c } ∷ [])) ns
    part_close c =
        let n : length ts + 1 ≡ tx_count in_open = sym (length-append ts (record { session = s; status = 3 } ∷ [])) in
        rw (part-current, n)
        (λ i. record { txs = close_latest in_open c ts (record { session = s; status = 3 }) refl i; ops = close_ops in_open (tx_count in_open) c i })
