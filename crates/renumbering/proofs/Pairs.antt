-- Every level forces the same pairs, for the same reasons.
use Prim.Native.Nat.{ℕ}
use mathlib.Core.Path.{◌≡◌, fun_ext}
use mathlib.Core.Bool.{true}
use borrow.Author.Tests.{eqb-true}
use Rattle.base.specs.Base.{some}
use Rattle.base.proofs.Tests.{and_left, and_right}
use Rattle.rules.specs.History.{History, op}
use Rattle.rules.specs.Reads.{reads_from}
use Rattle.rules.specs.Levels.{is_start, is_session, is_read, basic, leads, writes_key, sees, settles, is_rival, forced, reasons}
use Rattle.demand1.specs.Lawful.{IsOp, LawfulHistory}
use Rattle.renumbering.specs.Renumbering.{Renumbers}
use Rattle.renumbering.proofs.Numbers.{same_tx, same_size}
use Rattle.renumbering.proofs.Searches.{meets_first, meets_end, meets_op, some-moved, some-all}
use Rattle.renumbering.proofs.Origins.{same_source}
use Rattle.renumbering.proofs.Committed.{same-committed}
use Rattle.renumbering.proofs.Kind.{same-wrote, same_external, same_reads_from}

reads_own : (h : History) (b a i : ℕ) → reads_from h b a i ≡ true → (op h i).tx ≡ b
unfolding reads_from
reads_own h b a i e = eqb-true _ b (and_right _ _ (and_left _ _ e))

module _ {to back : ℕ → ℕ} {h g : History} (ok : LawfulHistory h) (r : Renumbers to back h g) where
  -- ── basic pairs, and what they lead to ──

  pub same_start : is_start g ≡ is_start h
  unfolding is_start
  same_start = fun_ext (λ a. fun_ext (λ b. rw (same-committed ok r)))

  pub same-session : is_session g ≡ is_session h
  unfolding is_session
  same-session = fun_ext (λ a. fun_ext (λ b. rw (same-committed ok r, same_tx r)))

  pub same_read : is_read g ≡ is_read h
  unfolding is_read
  same_read =
      fun_ext (λ a. fun_ext (λ b. some-all r (reads_from h b a) (reads_from g b a) (λ i o. same_reads_from ok r i o b a)))

  pub same-basic : basic g ≡ basic h
  unfolding basic
  same-basic = fun_ext (λ a. fun_ext (λ b. rw (same_start, same-session, same_read)))

  pub same-leads : leads g ≡ leads h
  unfolding leads
  same-leads = fun_ext (λ a. fun_ext (λ b. rw (same-basic, same_size r)))

  -- ── rivals ──

  same_writes_key : writes_key g ≡ writes_key h
  unfolding writes_key
  same_writes_key = fun_ext (λ t. fun_ext (λ x. rw (same-wrote r t x 0 0 (meets_first r _) (meets_end r _))))

  -- reads of i's transaction before i
  same_earlier : (t2 i : ℕ) → IsOp h i → some 1 (to i) (reads_from g (op h i).tx t2) ≡ some 1 i (reads_from h (op h i).tx t2)
  same_earlier t2 i o =
      let t = (op h i).tx in
      some-moved r (reads_from h t t2) (reads_from g t t2) (λ j q. same_reads_from ok r j q t t2) (meets_first r _)
      (meets_op r _ i o (reads_own h t t2))

  module _ (level : ℕ) where
    pub same-sees : (t2 i : ℕ) → IsOp h i → sees g level t2 (op g (to i)).tx (to i) ≡ sees h level t2 (op h i).tx i
    unfolding sees
    same-sees t2 i o = rw (r.same_op i o, same_earlier t2 i o, same-basic, same-leads)

    pub same-settles : (t2 t1 i : ℕ) → IsOp h i → settles g level t2 t1 (to i) ≡ settles h level t2 t1 i
    unfolding settles
    same-settles t2 t1 i o = rw (same-sees t2 i o, same_external ok r i o, same_source ok r i o, r.same_op i o, same_writes_key)

    pub same_rival : is_rival g level ≡ is_rival h level
    unfolding is_rival
    same_rival =
        fun_ext (λ t2. fun_ext (λ t1. rw (same-committed ok r, some-all r (settles h level t2 t1) (settles g level t2 t1) (same-settles t2 t1))))

    -- ── all of them ──

    pub same-forced : forced g level ≡ forced h level
    unfolding forced
    same-forced = fun_ext (λ a. fun_ext (λ b. rw (same-basic, same_rival)))

    pub same-reasons : reasons g level ≡ reasons h level
    unfolding reasons
    same-reasons = fun_ext (λ a. fun_ext (λ b. rw (same_start, same-session, same_read, same_rival)))
