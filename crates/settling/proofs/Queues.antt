-- Laws of the queue, and of a mark that is set.
use Prim.Native.Nat.{ℕ, ◌+◌, ◌*◌, ◌/◌, ◌%◌, ◌≤◌, ◌<◌}
use mathlib.Core.Path.{◌≡◌, refl, ap, sym, ◌∙◌}
use mathlib.Core.Bool.{Bool, true, false}
use mathlib.Core.List.{List}
use mathlib.Core.Logic.{⊎_elim}
use native.Mathlib.Omega.{arith}
use native.Mathlib.Decide.{ℕ_discrete}
use lib.ListN.{length, get_or, set, length-set}
use lib.Seq.{get_or-set_same, get_or-set_other}
use lib.Dec.{eqb}
use borrow.Author.Tests.{eqb-true, eqb-false}
use Rattle.base.specs.Base.{pick}
use Rattle.base.proofs.Tests.{clash, split}
use Rattle.base.proofs.Searches.{count_same, count-zero, count_most, count_less}
use Rattle.rules.specs.History.{History, tx_count, size}
use Rattle.table.specs.Table.{history_of, marked, mark_tx, Held, HasTx, Becomes}
use Rattle.table.proofs.Stores.{mark_word, mark_elsewhere, mark_this, mark-other}
use Rattle.settling.specs.Settling.{TxPassing, Stands, Queue, Remarked, MarkTops}

-- ── the queue ──

pub queue_none : {x : History} {s : ℕ → Bool} {q : List ℕ} → length q ≡ 128 → ((t : ℕ) → 1 ≤ t → s t ≡ false) → Queue x s q 0
queue_none {x} {s} l none =
    record {
      room = l;
      many = sym (count-zero s (size x) 1 (λ i a b. none i a));
      each = λ i b. absurd (omega arith);
      all = λ t p. absurd (clash p.passes (none t p.from));
    }

module _ {x : History} {s : ℕ → Bool} {q : List ℕ} {n : ℕ} (k : Queue x s q n) where
  pub queue_few : n ≤ tx_count x
  queue_few = omega (arith, k.many, count_most s (size x) 1)

  -- only what the test says of transactions counts
  pub queue_same : (r : ℕ → Bool) → ((t : ℕ) → 1 ≤ t → t ≤ tx_count x → r t ≡ s t) → Queue x r q n
  queue_same r e =
      record {
        room = k.room;
        many = k.many ∙ sym (count_same r s (size x) 1 (λ i a b. e i a (omega arith)));
        each =
            λ i l. let p = k.each i l in record { from = p.from; to = p.to; passes = e _ p.from p.to ∙ p.passes };
        all =
            λ t p. k.all t (record { from = p.from; to = p.to; passes = sym (e t p.from p.to) ∙ p.passes });
      }

  -- one more
  module _ (r : ℕ → Bool) (u : ℕ) (a : 1 ≤ u) (b : u ≤ tx_count x) (low : n < 128) (old : s u ≡ false) (new : r u ≡ true)
      (rest : (t : ℕ) → (t ≡ u → ⊥) → r t ≡ s t) where
    place_old : (i : ℕ) → i < n → get_or (set q n u) i 0 ≡ get_or q i 0
    place_old i l = get_or-set_other q n i u 0 (λ e. omega arith)

    place-new : get_or (set q n u) n 0 ≡ u
    place-new = get_or-set_same q n u 0 (omega (arith, k.room))

    passes_on : (t : ℕ) → TxPassing x s t → TxPassing x r t
    passes_on t p =
        record { from = p.from; to = p.to; passes = rest t (λ e. clash (rw e at p.passes) old) ∙ p.passes }

    stands_on : (t : ℕ) → Dec (t ≡ u) → TxPassing x r t → Stands (set q n u) (n + 1) t
    stands_on t (yes e) p = record { at = n; to = omega arith; is = place-new ∙ sym e }
    stands_on t (no d) p =
        let o = k.all t (record { from = p.from; to = p.to; passes = sym (rest t d) ∙ p.passes }) in
        record { at = o.at; to = omega (arith, o.to); is = place_old o.at o.to ∙ o.is }

    pub queue_more : Queue x r (set q n u) (n + 1)
    queue_more =
        record {
          room = length-set q n u ∙ k.room;
          many = omega (arith, k.many, count_less r s u (size x) 1 a (omega arith) new old (λ i l. rest i));
          each =
              λ i l.
              ⊎_elim (λ m. rw (place_old i m) (passes_on _ (k.each i m)))
              (λ m. let e : i ≡ n = omega arith in rw (e, place-new) (record { from = a; to = b; passes = new }))
              (split i n);
          all = λ t. stands_on t (ℕ_discrete t u);
        }

-- ── a mark ──

pub remarked_none : {h : List ℕ} → Remarked h h
remarked_none = record { same = refl; under = λ k. refl; rest = λ k d. refl }

pub remarked_then : {h g f : List ℕ} → Remarked h g → Remarked g f → Remarked h f
remarked_then a b =
    record {
      same = b.same ∙ a.same;
      under = λ k. b.under k ∙ a.under k;
      rest = λ k d. b.rest k (rw a.same d) ∙ a.rest k d;
    }

-- where nothing stands above the mark's place, the word is what stands under it, and the mark
pub word_whole : (h : List ℕ) (t : ℕ) (b : Bool) → MarkTops h t → marked h t ≡ b
    → get_or h t 0 ≡ get_or h t 0 % 536870912 + 536870912 * pick b 1 0
unfolding marked pick
word_whole h t true l e = omega (arith, eqb-true (get_or h t 0 / 536870912 % 2) 1 e)
word_whole h t false l e = omega (arith, eqb-false (get_or h t 0 / 536870912 % 2) 1 e)

-- the words of the table where t is marked
module _ {h g : List ℕ} {t : ℕ} (c : ℕ) (l : c < 2) (p : HasTx h t) (e : g ≡ mark_tx h t c) where
  word_this : get_or g t 0 ≡ get_or h t 0 % 536870912 + 536870912 * c
  unfolding mark_tx
  word_this = rw e (mark_word h t c p l)

  word_other : (k : ℕ) → (k ≡ t → ⊥) → get_or g k 0 ≡ get_or h k 0
  unfolding mark_tx
  word_other k d = rw e (mark_elsewhere h t c p l k d)

  word_under : (k : ℕ) → Dec (k ≡ t) → get_or g k 0 % 536870912 ≡ get_or h k 0 % 536870912
  word_under k (yes q) = rw q (omega (arith, word_this))
  word_under k (no d) = omega (arith, word_other k d)

  word_tops : (k : ℕ) → Dec (k ≡ t) → ((k ≡ t → ⊥) → MarkTops h k) → MarkTops g k
  word_tops k (yes q) o = rw q (omega (arith, word_this))
  word_tops k (no d) o = omega (arith, word_other k d, o d)

-- g is h, but that t has the mark exactly if b
pub record MarkedAs (h g : List ℕ) (t : ℕ) (b : Bool) : Type 0 where
  pub held : Held g
  pub remarked : Remarked h g
  pub this : marked g t ≡ b
  pub other : (k : ℕ) → (k ≡ t → ⊥) → marked g k ≡ marked h k
  pub tops : (k : ℕ) → ((k ≡ t → ⊥) → MarkTops h k) → MarkTops g k

pub marked_as : {h g : List ℕ} {t : ℕ} (c : ℕ) → c < 2 → HasTx h t → Becomes g (mark_tx h t c) (history_of h) → MarkedAs h g t (eqb c 1)
marked_as {h} {g} {t} c l p b =
    record {
      held = b.holds.held;
      remarked =
          record {
            same = b.holds.is;
            under = λ k. word_under c l p b.is k (ℕ_discrete k t);
            rest = λ k d. word_other c l p b.is k (λ e. d (omega (arith, p.from)) (omega (arith, p.to)));
          };
      this = ap (λ (w : List ℕ). marked w t) b.is ∙ mark_this h t c p l;
      other = λ k d. ap (λ (w : List ℕ). marked w k) b.is ∙ mark-other h t c p l k d;
      tops = λ k. word_tops c l p b.is k (ℕ_discrete k t);
    }
