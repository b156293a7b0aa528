-- A history grows by an open, an operation or a close; the operations of a lawful one may come in the order of blocks.
use Prim.Native.Nat.{ℕ, ◌+◌, ◌<◌, ◌≤◌}
use mathlib.Core.Path.{◌≡◌, refl, ap, sym, ◌∙◌}
use mathlib.Core.Bool.{Bool, true, false}
use mathlib.Core.List.{List, [], ◌∷◌, ◌++◌}
use mathlib.Core.Logic.{⊎_elim}
use native.Mathlib.Omega.{arith}
use lib.ListN.{length, get_or}
use Rattle.base.specs.Base.{pick}
use Rattle.base.proofs.Tests.{ifso, split}
use Rattle.rules.specs.History.{History, Tx, Op, op, tx_count, op_count, current, write_of, opened, closed, with_op}
use Rattle.rules.specs.Reading.{entered}
use Rattle.rules.specs.declared.Event.{Event}
use Rattle.rules.specs.declared.Event.TheVariants.{Open, Close}
use Rattle.demand1.specs.Lawful.{IsWrite, LawfulHistory}
use Rattle.demand1.proofs.Checks.{write_found}
use Rattle.writing.specs.Listing.{op_step}
use Rattle.writing.proofs.Rows.{Taken, open_taken, read_taken, write_taken, close_taken}
use Rattle.writing.proofs.Grown.{Grown, grown_step}
use Rattle.moving.proofs.Blocks.{NextNumber}
use Rattle.moving.proofs.Part.{partial, part_count, part_at, part_in, open_txs, in_open, part-current}

-- ── one step ──

-- o may come next: its transaction is open, there is room, and a write has a value and is new
pub record MayCome (g : History) (o : Op) : Type 0 where
  pub is_open : 0 < current g
  pub its_own : o.tx ≡ current g
  pub room : op_count g < 1024
  pub not_zero : o.is_write ≡ true → 0 < o.value
  pub new : o.is_write ≡ true → write_of g o.key o.value ≡ 0

op_taken : {g : History} {o : Op} → MayCome g o → Taken g (op_step o)
unfolding op_step pick
op_taken {o = o} m =
    ifso o.is_write (λ (t : o.is_write ≡ true). rw t (write_taken m.is_open (m.not_zero t) m.room (m.new t)))
    (λ (t : o.is_write ≡ false). rw t (read_taken m.is_open m.room))

op-entered : (g : History) (o : Op) → entered g o.tx (op_step o) ≡ with_op g o
unfolding op_step pick entered
op-entered g o = by o.is_write
  where
    by : (b : Bool) → let u : Op = record { tx = o.tx; is_write = b; key = o.key; value = o.value } in entered g u.tx (op_step u) ≡ with_op g u
    by true = refl
    by false = refl

module _ {es : List Event} {g : History} (r : Grown es g) where
  pub grown_open : (s : ℕ) → current g ≡ 0 → tx_count g < 127 → Grown (es ++ (Open s ∷ [])) (opened g s)
  unfolding entered
  grown_open s c l = grown_step (Open s) r (open_taken c l)

  pub grown_op : (o : Op) → MayCome g o → Grown (es ++ (op_step o ∷ [])) (with_op g o)
  grown_op o m =
      let e = ap (λ (t : ℕ). entered g t (op_step o)) (sym m.its_own) ∙ op-entered g o in rw e at (grown_step (op_step o) r (op_taken m))

  pub grown_close : (c : ℕ) → 0 < current g → c ≤ 2 → Grown (es ++ (Close c ∷ [])) (closed g (current g) c)
  unfolding entered
  grown_close c p l = grown_step (Close c) r (close_taken p l)

-- ── the next of h's operations ──

module _ {h : History} (w : LawfulHistory h) {ns : List ℕ} {i : ℕ} (n : NextNumber h ns i) where
  -- as a write
  this_write : (op h i).is_write ≡ true → IsWrite h (op h i).key (op h i).value i
  this_write e = record { is_op = n.is_op; is_write = e; of_key = refl; of_value = refl }

  has_value : (op h i).is_write ≡ true → 0 < (op h i).value
  has_value e =
      ⊎_elim (λ l. l) (λ l. let z : (op h i).value ≡ 0 = omega arith in absurd (w.not_zero (op h i).key i (rw z at (this_write e)))) (split 0 (op h i).value)

  module _ (ts : List Tx) where
    -- a write among those so far
    old_write : (x v j : ℕ) → IsWrite (partial h ts ns) x v j → IsWrite h x v (get_or (0 ∷ ns) j 0)
    old_write x v j k =
        let e = part_at h ts ns j in
        record {
          is_op = n.ops (get_or (0 ∷ ns) j 0) (part_in h ts ns j k.is_op);
          is_write = rw (← e) k.is_write;
          of_key = rw (← e) k.of_key;
          of_value = rw (← e) k.of_value;
        }

    -- has not its key and value
    write_new : (op h i).is_write ≡ true → write_of (partial h ts ns) (op h i).key (op h i).value ≡ 0
    write_new e = ⊎_elim (λ l. absurd (twice l)) (λ l. omega arith) (split 0 j)
      where
        j : ℕ
        j = write_of (partial h ts ns) (op h i).key (op h i).value

        twice : 0 < j → ⊥
        twice l =
            let k = write_found (partial h ts ns) (op h i).key (op h i).value l in
            let same = w.one_write (op h i).key (op h i).value (get_or (0 ∷ ns) j 0) i (old_write (op h i).key (op h i).value j k) (this_write e) in
            n.new (rw same at (part_in h ts ns j k.is_op))

  -- it may come next in its transaction
  pub may_come : (ts : List Tx) (s : ℕ) → (op h i).tx ≡ length ts + 1 → MayCome (in_open h ts ns s) (op h i)
  may_come ts s e =
      record {
        is_open = omega (arith, part-current h ts ns s);
        its_own = e ∙ sym (part-current h ts ns s);
        room = omega (arith, part_count h (open_txs ts s) ns, n.room, w.few_ops);
        not_zero = has_value;
        new = write_new (open_txs ts s);
      }
