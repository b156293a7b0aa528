-- A history is accepted exactly if some choice of outcomes for its unanswered transactions makes it accepted.
use Prim.Native.Nat.{ℕ}
use mathlib.Core.Path.{◌≡◌, sym, ◌∙◌}
use mathlib.Core.Bool.{Bool}
use mathlib.Core.Logic.{◌↔◌}
use lib.Dec.{eqb}
use native.Mathlib.Omega.{arith}
use borrow.Author.Tests.{eqb-true, eqb-false, eq-eqb}
use Rattle.base.proofs.Tests.{ifso}
use Rattle.rules.specs.History.{History, tx, op, committed}
use Rattle.demand1.specs.Lawful.{Over, says_aborted, says_committed, says_unanswered, LawfulHistory}
use Rattle.demand2.specs.Counts.{ReadsValueOf, Counts, by_status, by_reader}
use Rattle.demand2.specs.Kinds.{WriteOf, JudgedRead, aborted, AllClean}
use Rattle.demand2.proofs.Counts.{counts_iff, counts_stable}
use Rattle.choices.specs.Choices.{outcome_of, chosen}
use Rattle.choices.specs.Accepting.{AcceptedAt, AcceptedByChoice}
use Rattle.choices.proofs.Chosen.{status-chosen, status-kept, status-answered, outcome_says, chosen-op-count, chosen-op, chosen-count, chosen-session, chosen-status, chosen_lawful}
use Rattle.choices.proofs.Alike.{Alike, alike_back, reads_value, read_write, judged-read, read_of, Within, clean_within, order_within}

module _ (f : ℕ → Bool) (h : History) where
  -- a choice changes statuses only
  chosen_alike : Alike h (chosen f h)
  chosen_alike =
      record {
        count = sym (chosen-op-count f h);
        same = λ i. sym (chosen-op f h i);
        txs = sym (chosen-count f h);
        sessions = λ t. sym (chosen-session f h t);
      }

  -- the status of a transaction with a choice: the one that it had, unless that is 2
  kept-status : (t : ℕ) {n : ℕ} → (tx h t).status ≡ n → (n ≡ 2 → ⊥) → (tx (chosen f h) t).status ≡ n
  kept-status t e d = chosen-status f h t ∙ status-kept f t (λ q. d (sym e ∙ q)) ∙ e

  chosen_of : (t : ℕ) → (tx h t).status ≡ 2 → (tx (chosen f h) t).status ≡ outcome_of f t
  chosen_of t e = chosen-status f h t ∙ status-chosen f t e

  -- so none is unanswered, and who counts has status 1
  says_so : {t : ℕ} → Counts (chosen f h) t → (tx (chosen f h) t).status ≡ 1
  says_so (by_status e) = e
  says_so {t} (by_reader e r d v) = absurd (status-answered f t _ (sym (chosen-status f h t) ∙ e))

module _ {h : History} (ok : LawfulHistory h) where
  -- the writer of a value that is read is a transaction that is over
  writer_over : {a u : ℕ} → ReadsValueOf h a u → Over (tx h u).status
  writer_over v = let w = v.is_write.is_op in rw v.in_writer at (ok.is_over _ (ok.in_tx _ w))

  -- ── a choice that is accepted contains the smallest set ──

  module _ (f : ℕ → Bool) (clean : AllClean (chosen f h)) where
    contains : {t : ℕ} → Counts h t → Counts (chosen f h) t
    contains {t} (by_status e) = by_status (kept-status f h t e (λ q. omega arith))
    contains (by_reader {a} {u} e r d v) = vouched (contains r)
      where
        vouched : Counts (chosen f h) a → Counts (chosen f h) u
        vouched c =
            let x = reads_value (chosen_alike f h) v in
            counts_stable (chosen_lawful f h ok) u
            (λ n.
            let j = judged-read x c in
            clean x.read j 2 (aborted (read_write x) (λ q. d (sym x.in_reader ∙ sym q)) n))

    sources : {a u : ℕ} → Counts h a → (a ≡ u → ⊥) → ReadsValueOf h a u → Counts (chosen f h) u → Counts h u
    sources {a} {u} r d v c = go (writer_over v)
      where
        go : Over (tx h u).status → Counts h u
        go (says_aborted e) = absurd (omega (arith, says_so f h c, kept-status f h u e (λ q. omega arith)))
        go (says_committed e) = by_status e
        go (says_unanswered e) = by_reader e r d v

    pub smallest_within : Within h (chosen f h)
    smallest_within = record { alike = chosen_alike f h; counts = contains; sources = sources }

  -- ── the smallest set is a choice ──

  abbrev smallest : History
  smallest = chosen (committed h) h

  -- its outcomes are those of who counts
  counts_chosen : {t : ℕ} → Counts h t → Counts smallest t
  counts_chosen {t} c = go c
    where
      go : Counts h t → Counts smallest t
      go (by_status e) = by_status (kept-status (committed h) h t e (λ q. omega arith))
      go (by_reader e r d v) =
          by_status (chosen_of (committed h) h t e ∙ eqb-true _ 1 (outcome_says (committed h) t ∙ (counts_iff ok t).1 c))

  chosen_counts : {t : ℕ} → Counts smallest t → Counts h t
  chosen_counts {t} c =
      let e = says_so (committed h) h c in
      ifso (eqb (tx h t).status 2)
      (λ q.
      let o : outcome_of (committed h) t ≡ 1 = sym (chosen_of (committed h) h t (eqb-true _ 2 q)) ∙ e in
      (counts_iff ok t).0 (sym (outcome_says (committed h) t) ∙ eq-eqb _ 1 o))
      (λ q. by_status (sym (status-kept (committed h) t (eqb-false _ 2 q)) ∙ sym (chosen-status (committed h) h t) ∙ e))

  pub within_smallest : Within smallest h
  within_smallest =
      record { alike = alike_back (chosen_alike (committed h) h); counts = chosen_counts; sources = λ r d v c. counts_chosen c }

  -- ── the theorem ──

  pub by_choice_iff : (level : ℕ) → AcceptedAt h level ↔ AcceptedByChoice h level
  by_choice_iff level = (
    λ a.
        record {
          choice = committed h;
          accepted =
              record {
                clean = clean_within within_smallest a.clean;
                ordered = order_within within_smallest (chosen_lawful (committed h) h ok) a.clean a.ordered;
              };
        },
    λ b.
        let w = smallest_within b.choice b.accepted.clean in
        record { clean = clean_within w b.accepted.clean; ordered = order_within w ok b.accepted.clean b.accepted.ordered },
  )

-- so an unanswered one gives no aborted read: whose write an aborted read has said that it aborted
pub aborted_said : {h : History} → LawfulHistory h → {i : ℕ} → JudgedRead h i → {u w : ℕ} → WriteOf h u (op h i).key (op h i).value w
    → (u ≡ (op h i).tx → ⊥) → (Counts h u → ⊥) → (tx h u).status ≡ 0
aborted_said {h} ok j {u} k d n = go (writer_over ok (read_of j k))
  where
    go : Over (tx h u).status → (tx h u).status ≡ 0
    go (says_aborted e) = e
    go (says_committed e) = absurd (n (by_status e))
    go (says_unanswered e) = absurd (n (by_reader e j.in_committed (λ q. d (sym q)) (read_of j k)))
