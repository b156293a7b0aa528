-- The first pass: those that said so.
use Prim.Native.Nat.{ℕ, ◌+◌, ◌≤◌, ◌<◌}
use mathlib.Core.Path.{◌≡◌, sym, ◌∙◌}
use mathlib.Core.Bool.{Bool, true, false}
use mathlib.Core.List.{List}
use mathlib.Core.Logic.{⊎_elim}
use native.Mathlib.Omega.{arith}
use native.Mathlib.Decide.{ℕ_discrete}
use lib.ListN.{length}
use borrow.Author.Tests.{lt-ltb, le-ltb}
use Rattle.base.proofs.Tests.{is_false, both, and_on, and_no_left, and_no_right, split}
use Rattle.theory.specs.Reached.{from}
use Rattle.rules.specs.History.{History, tx, tx_count, says_committed}
use Rattle.rules.proofs.Committed.{says_iff}
use Rattle.table.specs.Table.{history_of, mark_tx, Held, HasTx, Becomes}
use Rattle.settling.specs.Settling.{Queue, Admitted, said_below, Begun, Begins, Marks}
use Rattle.settling.proofs.Queues.{queue_none, queue_few, queue_same, queue_more, remarked_then, MarkedAs, marked_as}

-- ── one transaction more ──

module _ (x : History) (t : ℕ) where
  -- t is not below itself; with it, those below t + 1 are those below t, and it where it said so
  not_yet : said_below x t t ≡ false
  unfolding said_below
  not_yet = and_no_left _ _ (le-ltb t t (omega arith))

  said_here : says_committed x t ≡ true → said_below x (t + 1) t ≡ true
  unfolding said_below
  said_here e = both _ _ (lt-ltb t (t + 1) (omega arith)) e

  said-other : (k : ℕ) → (k ≡ t → ⊥) → said_below x (t + 1) k ≡ said_below x t k
  unfolding said_below
  said-other k d =
      ⊎_elim (λ l. rw (lt-ltb k t l, lt-ltb k (t + 1) (omega arith)))
      (λ g. let m : t + 1 ≤ k = ⊎_elim (λ l. omega arith) (λ l. absurd (d (omega arith))) (split t k) in rw (le-ltb k t g, le-ltb k (t + 1) m)) (split k t)

  said-not : says_committed x t ≡ false → (k : ℕ) → Dec (k ≡ t) → said_below x (t + 1) k ≡ said_below x t k
  unfolding said_below
  said-not e k (yes q) = rw q (and_no_right _ _ e ∙ sym not_yet)
  said-not e k (no d) = said-other k d

  -- before the first none is below, behind the last each is
  none_said : 1 ≤ t → said_below x 1 t ≡ false
  unfolding said_below
  none_said a = and_no_left _ _ (le-ltb t 1 a)

  all_said : (e : ℕ) → t < e → said_below x e t ≡ says_committed x t
  unfolding said_below
  all_said e l = and_on _ _ (lt-ltb t e l)

-- ── the pass ──

pub begun_start : {h q : List ℕ} → Held h → length q ≡ 128 → Begun h q 0 1
begun_start {h} p l =
    record { held = p; said = λ t a b. absurd (omega arith); tops = λ t a b. absurd (omega arith); queue = queue_none l (none_said (history_of h)) }

module _ {h q : List ℕ} {n t : ℕ} (p : HasTx h t) (s : Begun h q n t) where
  -- there is room for it
  pub begun_room : n < 128
  begun_room = omega (arith, queue_few s.queue, p.held.few)

  -- t has its mark, and the queue is told
  begin-next : {g o : List ℕ} {r : ℕ} {b : Bool} → MarkedAs h g t b → b ≡ says_committed (history_of h) t
      → Queue (history_of h) (said_below (history_of h) (t + 1)) o r → Begins h g o r (t + 1)
  begin-next m e k =
      record {
        remarked = m.remarked;
        begun =
            record {
              held = m.held;
              said =
                  λ i a b.
                  rw m.remarked.same
                  (⊎_elim (λ l. m.other i (λ z. omega arith) ∙ s.said i a l) (λ l. let z : i ≡ t = omega arith in rw z (m.this ∙ e)) (split i t));
              tops = λ i a b. m.tops i (λ d. ⊎_elim (λ l. s.tops i a l) (λ l. absurd (d (omega arith))) (split i t));
              queue = rw m.remarked.same k;
            };
      }

  -- its status is c
  module _ {c : ℕ} (i : c ≡ (tx (history_of h) t).status) where
    says : c ≡ 1 → says_committed (history_of h) t ≡ true
    says e = (says_iff (history_of h) t).1 (sym i ∙ e)

    says_not : (c ≡ 1 → ⊥) → says_committed (history_of h) t ≡ false
    says_not d = is_false _ (λ e. d (i ∙ (says_iff (history_of h) t).0 e))

  pub begin-said : {g o : List ℕ} {r c : ℕ} → c ≡ (tx (history_of h) t).status → c ≡ 1 → Admitted h q n t g o r → Begins h g o r (t + 1)
  begin-said i f a =
      let e = says i f in
      begin-next (marked_as 1 (omega arith) p a.marks) (sym e)
      (rw (a.queue, a.end)
      (queue_more s.queue _ t p.from p.to begun_room (not_yet _ t) (said_here _ t e) (said-other _ t)))

  pub begin-not : {g : List ℕ} {c : ℕ} → c ≡ (tx (history_of h) t).status → (c ≡ 1 → ⊥) → Becomes g (mark_tx h t 0) (history_of h)
      → Begins h g q n (t + 1)
  begin-not i d b =
      let e = says_not i d in
      begin-next (marked_as 0 (omega arith) p b) (sym e) (queue_same s.queue _ (λ k _ _. said-not _ t e k (ℕ_discrete k t)))

-- behind the last
pub begun_end : {h q : List ℕ} {n e : ℕ} → e ≡ tx_count (history_of h) + 1 → Begun h q n e → Marks h q n
begun_end {h} {e = e} l s =
    record {
      held = s.held;
      right = λ t p. from (sym (s.said t p.from (omega (arith, p.to))) ∙ p.passes);
      said = λ t p. s.said t p.from (omega (arith, p.to)) ∙ p.passes;
      tops = λ t a b. s.tops t a (omega arith);
      queue =
          queue_same s.queue _
          (λ t a b. s.said t a (omega arith) ∙ sym (all_said (history_of h) t e (omega arith)));
    }

pub begins-then : {h g f q o : List ℕ} {n e m d : ℕ} → Begins h g q n e → Begins g f o m d → Begins h f o m d
begins-then a b = record { remarked = remarked_then a.remarked b.remarked; begun = b.begun }
