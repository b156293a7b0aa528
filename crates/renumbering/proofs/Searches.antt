-- A search over all operations, or over those of one transaction between two of its own, finds the same under the new numbers.
use Prim.Native.Nat.{ℕ, ◌+◌, ◌≤◌}
use mathlib.Core.Path.{◌≡◌, ap, sym, ◌∙◌}
use mathlib.Core.Bool.{Bool, true}
use mathlib.Core.Logic.{◌↔◌}
use native.Mathlib.Omega.{arith}
use Rattle.base.specs.Base.{some}
use Rattle.base.proofs.Moves.{Lies, OneToOne, some_one_to_one}
use Rattle.rules.specs.History.{History, op, op_count}
use Rattle.demand1.specs.Lawful.{IsOp}
use Rattle.demand1.proofs.Events.{at_least, below}
use Rattle.renumbering.specs.Renumbering.{Renumbers}
use Rattle.renumbering.proofs.Numbers.{in_order}

module _ {to back : ℕ → ℕ} {h g : History} (r : Renumbers to back h g) where
  -- a is a bound of a search in h, b of the same in g: the operations that pass lie from a on exactly if, by their new numbers, from b on
  pub record Meets (p : ℕ → Bool) (a b : ℕ) : Type 0 where
    pub first : 1 ≤ a
    pub first_to : 1 ≤ b
    pub last : a ≤ op_count h + 1
    pub last_to : b ≤ op_count g + 1
    pub same : (i : ℕ) → IsOp h i → p i ≡ true → (a ≤ i) ↔ (b ≤ to i)

  -- the first number, and the one past the last
  pub meets_first : (p : ℕ → Bool) → Meets p 1 1
  meets_first p =
      record {
        first = omega arith;
        first_to = omega arith;
        last = omega arith;
        last_to = omega arith;
        same = λ i o t. (λ _. (r.to_op i o).from, λ _. o.from);
      }

  pub meets_end : (p : ℕ → Bool) → Meets p (op_count h + 1) (op_count g + 1)
  meets_end p =
      record {
        first = omega arith;
        first_to = omega arith;
        last = omega arith;
        last_to = omega arith;
        same = λ i o t. (λ l. absurd (omega (arith, o.to)), λ l. absurd (omega (arith, (r.to_op i o).to)));
      }

  -- an operation of the transaction whose operations alone pass, and the number past it
  module _ (p : ℕ → Bool) (k : ℕ) (o : IsOp h k) (own : (i : ℕ) → p i ≡ true → (op h i).tx ≡ (op h k).tx) where
    pub meets_op : Meets p k (to k)
    meets_op =
        let n = r.to_op k o in
        record {
          first = o.from;
          first_to = n.from;
          last = omega (arith, o.to);
          last_to = omega (arith, n.to);
          same = λ i q t. in_order r k i o q (sym (own i t));
        }

    pub meets_past : Meets p (k + 1) (to k + 1)
    meets_past =
        let n = r.to_op k o in
        record {
          first = omega arith;
          first_to = omega arith;
          last = omega (arith, o.to);
          last_to = omega (arith, n.to);
          same =
              λ i q t.
              let e = in_order r i k q o (own i t) in (
                λ l. at_least _ _ (λ m. omega (arith, e.1 (omega arith))),
                λ l. at_least _ _ (λ m. omega (arith, e.0 (omega arith))),
              );
        }

  -- the operations that pass between two such bounds are one-to-one
  one_to_one : (p q : ℕ → Bool) → ((i : ℕ) → IsOp h i → q (to i) ≡ p i) → {a b e d : ℕ} → Meets p a b → Meets p e d → OneToOne to back p q a e b d
  one_to_one p q same {a} {b} {e} {d} m n =
      record {
        there = λ i l. there i (op_in l) l;
        here = λ j l. here j (op_to l) l;
        back_to = λ i l. r.back_to i (op_in l);
        to_back = λ j l. r.to_back j (op_to l);
      }
    where
      op_in : {i : ℕ} → Lies p a e i → IsOp h i
      op_in l = record { from = omega (arith, m.first, l.from); to = omega (arith, n.last, l.to) }

      op_to : {j : ℕ} → Lies q b d j → IsOp g j
      op_to l = record { from = omega (arith, m.first_to, l.from); to = omega (arith, n.last_to, l.to) }

      there : (i : ℕ) → IsOp h i → Lies p a e i → Lies q b d (to i)
      there i o l =
          record {
            from = (m.same i o l.passes).0 l.from;
            to = below _ _ (λ k. omega (arith, l.to, (n.same i o l.passes).1 k));
            passes = same i o ∙ l.passes;
          }

      here : (j : ℕ) → IsOp g j → Lies q b d j → Lies p a e (back j)
      here j o l =
          let i = back j in
          let u = r.back_op j o in
          let z = r.to_back j o in
          let t : p i ≡ true = sym (same i u) ∙ ap q z ∙ l.passes in
          record {
            from = (m.same i u t).1 (omega (arith, z, l.from));
            to = below _ _ (λ k. omega (arith, z, l.to, (n.same i u t).0 k));
            passes = t;
          }

  pub some-moved : (p q : ℕ → Bool) → ((i : ℕ) → IsOp h i → q (to i) ≡ p i) → {a b e d : ℕ} → Meets p a b → Meets p e d → some b d q ≡ some a e p
  some-moved p q same m n = some_one_to_one (one_to_one p q same m n)

  -- over all operations
  pub some-all : (p q : ℕ → Bool) → ((i : ℕ) → IsOp h i → q (to i) ≡ p i) → some 1 (op_count g + 1) q ≡ some 1 (op_count h + 1) p
  some-all p q same = some-moved p q same (meets_first p) (meets_end p)

  pub one_to_one_all : (p q : ℕ → Bool) → ((i : ℕ) → IsOp h i → q (to i) ≡ p i) → OneToOne to back p q 1 (op_count h + 1) 1 (op_count g + 1)
  one_to_one_all p q same = one_to_one p q same (meets_first p) (meets_end p)
