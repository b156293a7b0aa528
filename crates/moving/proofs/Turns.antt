-- A lawful history's steps give its transactions, one after the other, and its operations as blocks.
use Prim.Native.Nat.{ℕ, suc, ◌+◌, ◌<◌, ◌≤◌}
use mathlib.Core.Path.{◌≡◌, refl, ap, sym, ◌∙◌}
use mathlib.Core.List.{List, [], ◌∷◌, ◌++◌, append_assoc, append-nil}
use native.Mathlib.Omega.{arith}
use lib.ListN.{length}
use lib.Seq.{ext_get_or}
use Rattle.base.specs.Base.{listed, joined}
use Rattle.base.proofs.Searches.{downward, listed-step, listed_end, listed_split, listed_more, singles_length, singles_at, joined-those}
use Rattle.theory.specs.Entries.{In, here, there}
use Rattle.rules.specs.History.{History, Tx, no_tx, tx, op, op_count, size, current, closed}
use Rattle.rules.specs.declared.Event.{Event}
use Rattle.rules.specs.declared.Event.TheVariants.{Open, Close}
use Rattle.demand1.specs.Lawful.{IsTx, LawfulHistory}
use Rattle.demand1.proofs.Lawful.{over_most}
use Rattle.writing.specs.Listing.{op_step, op_step_of, tx_steps, history_steps}
use Rattle.writing.proofs.Told.{tx-steps, close_one}
use Rattle.writing.proofs.Grown.{Grown, grown_none, empty-current, close_current}
use Rattle.moving.specs.Renumbering.{is_op_of, numbers_of, in_blocks}
use Rattle.moving.proofs.Blocks.{numbers_in, blocks_next}
use Rattle.moving.proofs.Part.{open_txs, partial, part_op, in_open, part_open, part-current, part_close}
use Rattle.moving.proofs.Growing.{grown_open, grown_op, grown_close, may_come}

module _ (h : History) where
  -- ── steps ──

  -- those of the operations that have some numbers
  abbrev steps_of : List ℕ → List Event
  steps_of = joined (λ i. op_step (op h i) ∷ [])

  steps_of_lem : (t : ℕ) → steps_of (numbers_of h t) ≡ listed 1 (op_count h + 1) (op_step_of h t)
  unfolding numbers_of is_op_of op_step_of
  steps_of_lem t = joined-those (λ i. op_step (op h i) ∷ []) (is_op_of h t) (op_count h + 1) 1

  -- those of a transaction that is over
  over-steps : (t : ℕ) → (tx h t).status ≤ 2 → tx_steps h t ≡ Open (tx h t).session ∷ (steps_of (numbers_of h t) ++ (Close (tx h t).status ∷ []))
  over-steps t l = tx-steps h t ∙ rw (steps_of_lem t, close_one h t (tx h t).status refl l)

  -- ── what they give ──

  -- the steps es give these transactions and operations, and leave none open
  pub record GrowsTo (es : List Event) (ts : List Tx) (ns : List ℕ) : Type 0 where
    pub grown : Grown es (partial h ts ns)
    pub over : current (partial h ts ns) ≡ 0

  -- the transactions below e
  abbrev txs_below : ℕ → List Tx
  txs_below e = listed 1 e (λ t. tx h t ∷ [])

  txs_whole : txs_below (size h) ≡ h.txs
  unfolding tx
  txs_whole =
      ext_get_or no_tx (txs_below (size h)) h.txs (singles_length (tx h) 1 (size h) ∙ omega arith)
      (λ i l.
      let e : 1 + i ≡ suc i = omega arith in
      singles_at (tx h) no_tx 1 (size h) i (omega (arith, singles_length (tx h) 1 (size h))) ∙ ap (tx h) e)

  -- their steps give them
  abbrev GrowsBelow : ℕ → Type 0
  GrowsBelow e = GrowsTo (listed 1 e (tx_steps h)) (txs_below e) (listed 1 e (numbers_of h))

  grows_none : GrowsBelow 1
  grows_none =
      rw (listed_end (tx_steps h) 1 1 (omega arith), listed_end (λ t. tx h t ∷ []) 1 1 (omega arith), listed_end (numbers_of h) 1 1 (omega arith))
      (record { grown = grown_none; over = empty-current })

module _ {h : History} (w : LawfulHistory h) where
  -- ── one transaction ──

  -- its operations, those with the numbers ms, from its open on
  ops_given : (ts : List Tx) (s : ℕ) (ms ns rest : List ℕ) {es : List Event} → in_blocks h ≡ ns ++ (ms ++ rest)
      → ((i : ℕ) → In i ms → (op h i).tx ≡ length ts + 1) → Grown es (in_open h ts ns s) → Grown (es ++ steps_of h ms) (in_open h ts (ns ++ ms) s)
  unfolding joined
  ops_given ts s [] ns rest {es} q own g = rw (append-nil es, append-nil ns) g
  ops_given ts s (i ∷ ms) ns rest {es} q own g =
      rw (← append_assoc es (op_step (op h i) ∷ []) (steps_of h ms), ← append_assoc ns (i ∷ []) ms)
      (ops_given ts s ms (ns ++ (i ∷ [])) rest (q ∙ sym (append_assoc ns (i ∷ []) (ms ++ rest))) (λ j m. own j (there m))
      (rw (part_op h (open_txs ts s) ns i) at (grown_op g (op h i) (may_come w (blocks_next w ns (ms ++ rest) i q) ts s (own i (here refl))))))

  tx_given : (t : ℕ) → IsTx h t → (ts : List Tx) (ns rest : List ℕ) {es : List Event} → length ts + 1 ≡ t → in_blocks h ≡ ns ++ (numbers_of h t ++ rest)
      → GrowsTo h es ts ns → GrowsTo h (es ++ tx_steps h t) (ts ++ (tx h t ∷ [])) (ns ++ numbers_of h t)
  tx_given t i ts ns rest {es} n q c =
      record { grown = rw (steps, ← closing) (grown_close given status inside low); over = rw (← closing) (close_current g status inside low) }
    where
      session : ℕ
      session = (tx h t).session

      status : ℕ
      status = (tx h t).status

      ms : List ℕ
      ms = numbers_of h t

      g : History
      g = in_open h ts (ns ++ ms) session

      given : Grown ((es ++ (Open session ∷ [])) ++ steps_of h ms) g
      given =
          ops_given ts session ms ns rest q (λ j m. ((numbers_in h t j).0 m).of_tx ∙ sym n)
          (rw (part_open h ts ns session) at (grown_open c.grown session c.over (omega (arith, i.to, w.few_txs))))

      low : status ≤ 2
      low = over_most (w.is_over t i)

      inside : 0 < current g
      inside = omega (arith, part-current h ts (ns ++ ms) session)

      closing : closed g (current g) status ≡ partial h (ts ++ (tx h t ∷ [])) (ns ++ ms)
      closing = part_close h ts (ns ++ ms) session status

      steps : es ++ tx_steps h t ≡ ((es ++ (Open session ∷ [])) ++ steps_of h ms) ++ (Close status ∷ [])
      steps =
          rw (over-steps h t low, append_assoc es (Open session ∷ []) (steps_of h ms))
          (sym (append_assoc es (Open session ∷ steps_of h ms) (Close status ∷ [])))

  -- ── all of them ──

  grows_next : (e : ℕ) → 1 ≤ e → e < size h → GrowsBelow h e → GrowsBelow h (e + 1)
  unfolding in_blocks
  grows_next e a l c =
      rw (listed_more (tx_steps h) e 1 a, listed_more (λ t. tx h t ∷ []) e 1 a, listed_more (numbers_of h) e 1 a)
      (tx_given e (record { from = a; to = omega arith }) (txs_below h e) (listed 1 e (numbers_of h)) (listed (e + 1) (size h) (numbers_of h))
      (omega (arith, singles_length (tx h) 1 e)) (listed_split (numbers_of h) e (size h) 1 a (omega arith) ∙ rw (listed-step (numbers_of h) e (size h) l)) c)

  pub grows_all : GrowsTo h (history_steps h) h.txs (in_blocks h)
  unfolding history_steps in_blocks
  grows_all = rw (txs_whole h) at (on 1 (omega arith) (omega arith) (grows_none h))
    where
      on : (e : ℕ) → 1 ≤ e → e ≤ size h → GrowsBelow h e → GrowsBelow h (size h)
      on =
          downward (λ e. 1 ≤ e → e ≤ size h → GrowsBelow h e → GrowsBelow h (size h)) (size h)
          (λ e g a l c. let q : e ≡ size h = omega arith in rw (← q) c) (λ e k ih a l c. ih (omega arith) (omega arith) (grows_next e a k c))
