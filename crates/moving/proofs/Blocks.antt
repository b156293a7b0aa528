-- The numbers of a history's operations, transaction by transaction: each has its place there, once.
use Prim.Native.Nat.{ℕ, ◌+◌, ◌<◌, ◌≤◌}
use mathlib.Core.Path.{◌≡◌, refl, ap, sym, ◌∙◌}
use mathlib.Core.Bool.{true, false, false≢true}
use mathlib.Core.List.{List, ◌∷◌, ◌++◌}
use mathlib.Core.Logic.{⊎_elim, ◌↔◌}
use native.Mathlib.Omega.{arith}
use lib.ListN.{length, get_or, length-append}
use borrow.Author.Tests.{eqb-true, eq-eqb}
use Rattle.base.specs.Base.{pick, count, those}
use Rattle.base.proofs.Tests.{split}
use Rattle.base.proofs.Searches.{singles_length}
use Rattle.theory.specs.Entries.{In, here, there, Ascends, next, AllOf}
use Rattle.theory.specs.Order.{place, Lawful}
use Rattle.theory.proofs.Entries.{in_front, in_back, entry_in, among_iff, listed_ascends, those-all_of, those-length}
use Rattle.theory.proofs.Ascending.{entry_place, ascends_by, ascends_across, ascends_once}
use Rattle.theory.proofs.Order.{lawful_length}
use Rattle.rules.specs.History.{History, op, op_count, size}
use Rattle.rules.proofs.History.{op_0}
use Rattle.demand1.specs.Lawful.{IsOp, LawfulHistory}
use Rattle.moving.specs.Renumbering.{is_op_of, numbers_of, in_blocks}

-- ── the order ──

-- operation i comes before operation j where transactions are blocks
pub data Before (h : History) (i j : ℕ) : Type 0 where
  in_earlier : (op h i).tx < (op h j).tx → Before h i j
  in_same : (op h i).tx ≡ (op h j).tx → i < j → Before h i j

pub before_one : (h : History) (i j : ℕ) → Before h i j → Before h j i → ⊥
before_one h i j (in_earlier a) (in_earlier b) = omega arith
before_one h i j (in_earlier a) (in_same e b) = omega arith
before_one h i j (in_same e a) (in_earlier b) = omega arith
before_one h i j (in_same e a) (in_same d b) = omega arith

-- ── one transaction's numbers ──

-- i is the number of an operation of t
pub record OpOf (h : History) (t i : ℕ) : Type 0 where
  pub is_op : IsOp h i
  pub of_tx : (op h i).tx ≡ t

module _ (h : History) (t : ℕ) where
  numbers_all : AllOf ◌<◌ (OpOf h t) (numbers_of h t)
  unfolding numbers_of is_op_of
  numbers_all =
      those-all_of (is_op_of h t) 1 (op_count h + 1)
      (λ i. (
        λ o. (o.is_op.from, omega (arith, o.is_op.to), eq-eqb (op h i).tx t o.of_tx),
        λ a b e. record { is_op = record { from = a; to = omega arith }; of_tx = eqb-true (op h i).tx t e },
      ))

  pub numbers_in : (i : ℕ) → In i (numbers_of h t) ↔ OpOf h t i
  numbers_in = numbers_all.entries

  numbers_ascend : Ascends (Before h) (numbers_of h t)
  numbers_ascend =
      ascends_by (numbers_of h t) numbers_all.ascend (λ i j a b l. in_same (((numbers_in i).0 a).of_tx ∙ sym ((numbers_in j).0 b).of_tx) l)

-- ── the numbers of all ──

-- i may come next behind the numbers ns: each is an operation's, and i is none of them
pub record NextNumber (h : History) (ns : List ℕ) (i : ℕ) : Type 0 where
  pub is_op : IsOp h i
  pub ops : (j : ℕ) → In j ns → IsOp h j
  pub new : In i ns → ⊥
  pub room : length ns < op_count h

-- all numbers below n are n
count-all : (n : ℕ) → count 0 n (λ i. true) ≡ n
unfolding those pick
count-all n = sym (those-length (λ i. true) n 0) ∙ singles_length (λ i. i) 0 n ∙ omega arith

module _ {h : History} (w : LawfulHistory h) where
  -- they are the operations' numbers
  pub blocks_in : (i : ℕ) → In i (in_blocks h) ↔ IsOp h i
  unfolding in_blocks
  blocks_in i = (
    λ m. let k = (among_iff (numbers_of h) (size h) 1 i).0 m in ((numbers_in h k.at i).0 k.is).is_op,
    λ o.
        let t = w.in_tx i o in
        (among_iff (numbers_of h) (size h) 1 i).1
        (record { at = (op h i).tx; from = t.from; to = omega (arith, t.to); is = (numbers_in h (op h i).tx i).1 (record { is_op = o; of_tx = refl }) }),
  )

  -- with 0, which no operation has, they go on to the last operation's
  pub all_in : (i : ℕ) → i ≤ op_count h → In i (0 ∷ in_blocks h)
  all_in i l = ⊎_elim (λ a. there ((blocks_in i).1 (record { from = a; to = l }))) (λ a. here (omega arith)) (split 0 i)

  in_all : {i : ℕ} → In i (0 ∷ in_blocks h) → i ≤ op_count h
  in_all (here e) = omega arith
  in_all {i} (there m) = ((blocks_in i).0 m).to

  -- they are in order, 0 first
  pub before-first : (i : ℕ) → IsOp h i → Before h 0 i
  before-first i o = in_earlier (omega (arith, op_0 h, (w.in_tx i o).from))

  pub blocks_ascend : Ascends (Before h) (0 ∷ in_blocks h)
  unfolding in_blocks
  blocks_ascend =
      next (λ i m. before-first i ((blocks_in i).0 m))
      (listed_ascends (Before h) (numbers_of h) (size h) 1 (numbers_ascend h)
      (λ t u i j l a b. in_earlier (omega (arith, ((numbers_in h t i).0 a).of_tx, ((numbers_in h u j).0 b).of_tx))))

  -- each once
  pub blocks_once : (j : ℕ) → j < length (0 ∷ in_blocks h) → place (get_or (0 ∷ in_blocks h) j 0) (0 ∷ in_blocks h) ≡ j
  blocks_once = ascends_once (before_one h) (0 ∷ in_blocks h) blocks_ascend

  -- so they are as many as the operations: an order of all, in which no pair is forced
  blocks_order : Lawful (op_count h + 1) (λ i. true) (λ i j. false) (0 ∷ in_blocks h)
  blocks_order =
      record {
        lists = λ j l. (omega (arith, in_all (entry_in (0 ∷ in_blocks h) j 0 l)), refl);
        once = blocks_once;
        has = λ i l _. entry_place (all_in i (omega arith));
        first = blocks_once 0 (omega arith);
        before = λ i j e. absurd (false≢true e);
      }

  pub blocks_long : length (in_blocks h) ≡ op_count h
  blocks_long = omega (arith, lawful_length blocks_order, count-all (op_count h + 1))

  -- the number behind those of the first part
  pub blocks_next : (ns rest : List ℕ) (i : ℕ) → in_blocks h ≡ ns ++ (i ∷ rest) → NextNumber h ns i
  blocks_next ns rest i q =
      record {
        is_op = (blocks_in i).0 (rw q (in_back ns (here refl)));
        ops = λ j m. (blocks_in j).0 (rw q (in_front (i ∷ rest) m));
        new = λ m. let r = ascends_across (0 ∷ ns) (rw q at blocks_ascend) i i (there m) (here refl) in before_one h i i r r;
        room = omega (arith, ap length q, length-append ns (i ∷ rest), blocks_long);
      }
