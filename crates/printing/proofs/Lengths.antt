-- How long the text of a history that was read can be.
use Prim.Native.Nat.{ℕ, ◌+◌, ◌≤◌, ◌<◌}
use mathlib.Core.Path.{◌≡◌, refl, ap, ◌∙◌}
use mathlib.Core.Bool.{Bool}
use mathlib.Core.List.{List, [], ◌++◌}
use native.Mathlib.Omega.{arith}
use lib.ListN.{length, length-append}
use Rattle.base.specs.Base.{pick, joined}
use Rattle.base.proofs.Searches.{listed_most, joined_one, joined-none, joined-listed, joined-those}
use Rattle.base.proofs.Tests.{pick_both}
use Rattle.theory.specs.Leads.{is_listed}
use Rattle.theory.proofs.Order.{rest_below}
use Rattle.rules.specs.History.{History, op, op_count, size, origin_of, committed}
use Rattle.rules.specs.Reading.{Reading, refused, read, reading}
use Rattle.rules.specs.Reads.{kind_of, is_finding}
use Rattle.rules.proofs.Kind.{kind-le}
use Rattle.rules.proofs.Origin.{origin_less}
use Rattle.rules.specs.Levels.{is_start, is_session, is_read, is_rival, forced, reasons}
use Rattle.rules.specs.Outcome.{Pair, findings, pairs_of, pairs, order, is_accepted}
use Rattle.demand1.specs.Lawful.{LawfulHistory}
use Rattle.demand1.proofs.Readings.{refuses_iff}
use Rattle.demand1.proofs.Lengths.{findings_few, entry, entries_of, pairs_few, order_few, refused_small, lawful_reading}
use Rattle.text.specs.Lines.{rejected_line, accepted_line}
use Rattle.text.specs.Answer.{finding_text, pair_text, block_text, reading_text, answer_text}
use Rattle.text.proofs.Lines.{refused_length, rejected_length, accepted_length, read_length, pair-length}

-- ── lists of parts ──

-- a list in three parts
three_parts : (a b c : List ℕ) → length (a ++ (b ++ c)) ≡ length a + (length b + length c)
three_parts a b c = length-append a (b ++ c) ∙ ap (λ (n : ℕ). length a + n) (length-append b c)

-- ── numbers ──

reason_most : (b : Bool) (n : ℕ) → pick b n 0 ≤ n
reason_most b n = pick_both (λ (m : ℕ). m ≤ n) b (omega arith) (omega arith)

all-reasons : (h : History) (level a b : ℕ) → reasons h level a b ≤ 15
unfolding reasons
all-reasons h level a b =
    omega (arith, reason_most (is_start h a b) 1, reason_most (is_session h a b) 2, reason_most (is_read h a b) 4, reason_most (is_rival h level a b) 8)

-- ── a history that was read ──

module _ {h : History} (ok : LawfulHistory h) where
  -- the lines of its findings
  findings-text : length (joined (finding_text h) (findings h)) ≤ 25600
  unfolding findings finding_text
  findings-text =
      rw (joined-those (finding_text h) (is_finding h) (op_count h + 1) 1)
      (omega (
        arith,
        ok.few_ops,
        listed_most (λ i. pick (is_finding h i) (finding_text h i) []) 25 (op_count h + 1) 1
            (λ i a b.
            let t = ok.in_tx i (record { from = a; to = omega arith }) in
            pick_both (λ (l : List ℕ). length l ≤ 25) (is_finding h i)
            (read_length (op h i).tx i (kind_of h i) (origin_of h i) (omega (arith, t.to, ok.few_txs)) (omega (arith, ok.few_ops))
            (omega (arith, kind-le h i)) (omega (arith, origin_less h i, ok.few_ops)))
            (omega arith)),
      ))

  module _ (level : ℕ) where
    -- the lines of its pairs
    row-text : (a : ℕ) → a < size h → length (joined (pair_text h level) (pairs_of h level a)) ≤ 2176
    unfolding pair_text
    row-text a l =
        rw (entries_of h level a, joined-listed (pair_text h level) (entry h level a) (size h) 0)
        (omega (
          arith,
          ok.few_txs,
          listed_most (λ b. joined (pair_text h level) (entry h level a b)) 17 (size h) 0
              (λ b _ m.
              pick_both (λ (l : List Pair). length (joined (pair_text h level) l) ≤ 17) (is_listed (size h) (forced h level) a b)
              (rw (joined_one (pair_text h level) (record { one = a; two = b }))
              (pair-length a b (reasons h level a b) (omega (arith, ok.few_txs)) (omega (arith, ok.few_txs)) (omega (arith, all-reasons h level a b))))
              (rw (joined-none (pair_text h level)) (omega arith))),
        ))

    pairs-text : length (joined (pair_text h level) (pairs h level)) ≤ 278528
    unfolding pairs
    pairs-text =
        rw (joined-listed (pair_text h level) (pairs_of h level) (size h) 0)
        (omega (arith, ok.few_txs, listed_most (λ a. joined (pair_text h level) (pairs_of h level a)) 2176 (size h) 0 (λ a _ l. row-text a l)))

    -- the line of its order
    order-text : length (accepted_line level (order h level)) ≤ 525
    unfolding order
    order-text =
        omega (arith, order_few ok level, accepted_length level (order h level) (λ i l. omega (arith, ok.few_txs, rest_below (size h) (committed h) (forced h level) [] i l)))

    block_short : length (block_text h level) ≤ 304192
    unfolding block_text
    block_short =
        pick_both (λ (t : List ℕ). length t ≤ 304192) (is_accepted h level) (omega (arith, order-text))
        (omega (arith, three_parts (rejected_line level (length (findings h)) (length (pairs h level))) (joined (finding_text h) (findings h)) (joined (pair_text h level) (pairs h level)), rejected_length (length (findings h)) (length (pairs h level)) (omega (arith, findings_few ok)) (omega (arith, pairs_few ok level)) level, findings-text, pairs-text))

-- ── the text ──

reading_short : (s : List ℕ) (q : Reading) → reading s ≡ q → length (reading_text q) ≤ 1048576
unfolding reading_text
reading_short s (refused n p) e =
    let m = refused_small ((refuses_iff s n p).0 e) in omega (arith, refused_length n p (omega (arith, m.0)) (omega (arith, m.1)))
reading_short s (read h notes) e =
    let ok = lawful_reading s e in
    omega (arith, three_parts (block_text h 1) (block_text h 2) (block_text h 3), block_short ok 1, block_short ok 2, block_short ok 3)

-- the longest text is shorter than the buffer that the programs have for it
pub answer_short : (s : List ℕ) → length (answer_text s) ≤ 1048576
unfolding answer_text
answer_short s = reading_short s (reading s) refl
