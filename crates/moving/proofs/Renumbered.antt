-- As blocks a history has the same operations, with other numbers.
use Prim.Native.Nat.{ℕ, ◌<◌, ◌≤◌}
use mathlib.Core.Path.{◌≡◌, ap, ◌∙◌}
use mathlib.Core.List.{◌∷◌}
use native.Mathlib.Omega.{arith}
use Rattle.theory.proofs.Places.{place_at}
use Rattle.theory.proofs.Ascending.{entry_place, ascends_at, ascends_place}
use Rattle.rules.specs.History.{History, op, op_count}
use Rattle.demand1.specs.Lawful.{IsOp, LawfulHistory}
use Rattle.moving.specs.Renumbering.{in_blocks, new_number, old_number, as_blocks}
use Rattle.moving.proofs.Blocks.{Before, in_earlier, in_same, before_one, blocks_in, blocks_ascend, blocks_once, blocks_long, all_in}
use Rattle.moving.proofs.Part.{blocks_part, part_count, part_at, part_in}

-- operation j is the one that had its old number
pub blocks_at : (h : History) (j : ℕ) → op (as_blocks h) j ≡ op h (old_number h j)
unfolding old_number
blocks_at h j = ap (λ (g : History). op g j) (blocks_part h) ∙ part_at h h.txs (in_blocks h) j

-- what comes before another is of no later transaction
before-turn : {h : History} {i j : ℕ} → Before h i j → (op h i).tx ≤ (op h j).tx
before-turn (in_earlier l) = omega arith
before-turn (in_same e l) = omega arith

module _ {h : History} (w : LawfulHistory h) where
  pub blocks_count : op_count (as_blocks h) ≡ op_count h
  blocks_count = ap (λ (g : History). op_count g) (blocks_part h) ∙ part_count h h.txs (in_blocks h) ∙ blocks_long w

  -- ── the new numbers ──

  pub new_none : new_number h 0 ≡ 0
  unfolding new_number
  new_none = blocks_once w 0 (omega arith)

  pub new_in : (i : ℕ) → i ≤ op_count h → new_number h i ≤ op_count h
  unfolding new_number
  new_in i l = omega (arith, entry_place (all_in w i l), blocks_long w)

  -- what comes before another has a lower one
  pub new-before : (i j : ℕ) → i ≤ op_count h → j ≤ op_count h → Before h i j → new_number h i < new_number h j
  unfolding new_number
  new-before i j a b = ascends_place (before_one h) (0 ∷ in_blocks h) (blocks_ascend w) i j (all_in w i a) (all_in w j b)

  -- ── the old ones ──

  pub old_op : (j : ℕ) → IsOp (as_blocks h) j → IsOp h (old_number h j)
  unfolding as_blocks old_number
  old_op j o = (blocks_in w (old_number h j)).0 (part_in h h.txs (in_blocks h) j o)

  old_before : (i j : ℕ) → i < j → j ≤ op_count h → Before h (old_number h i) (old_number h j)
  unfolding old_number
  old_before i j l m = ascends_at (0 ∷ in_blocks h) 0 (blocks_ascend w) i j l (omega (arith, blocks_long w))

  -- ── there and back ──

  pub old_new : (i : ℕ) → i ≤ op_count h → old_number h (new_number h i) ≡ i
  unfolding new_number old_number
  old_new i l = place_at i (0 ∷ in_blocks h) (entry_place (all_in w i l))

  pub new_old : (j : ℕ) → j ≤ op_count h → new_number h (old_number h j) ≡ j
  unfolding new_number old_number
  new_old j l = blocks_once w j (omega (arith, blocks_long w))

  -- the operations follow their transactions' order
  pub in_turn : (i j : ℕ) → IsOp (as_blocks h) i → IsOp (as_blocks h) j → i < j → (op (as_blocks h) i).tx ≤ (op (as_blocks h) j).tx
  in_turn i j o p l = rw (blocks_at h i, blocks_at h j) (before-turn (old_before i j l (omega (arith, p.to, blocks_count))))
