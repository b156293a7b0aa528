-- Who counts is computed: the function is right, the set is the smallest, and the rule's "exactly if" holds of it.
use Prim.Native.Nat.{ℕ, ◌<◌}
use mathlib.Core.Path.{◌≡◌, refl, ap, sym, ◌∙◌}
use mathlib.Core.Bool.{true, false}
use mathlib.Core.Logic.{◌↔◌}
use native.Mathlib.Omega.{arith}
use Rattle.base.proofs.Tests.{is_false, is_true, clash}
use Rattle.theory.specs.Reached.{Reached, from, on}
use Rattle.theory.proofs.Reached.{reached_within}
use Rattle.rules.specs.History.{History, tx, size, says_committed, vouches, committed, origin_of}
use Rattle.rules.proofs.History.{status_0}
use Rattle.rules.proofs.Origin.{source_is, source_none}
use Rattle.rules.proofs.Committed.{Vouches, says_iff, vouches_iff, committed_iff, committed_below}
use Rattle.demand1.specs.Lawful.{LawfulHistory}
use Rattle.demand2.specs.Counts.{ReadsValueOf, Counts, by_status, by_reader, ClosedUnder, Smallest, ExactlyIfRead}
use Rattle.demand2.proofs.Origin.{origin_there, origin_only}

-- ── the smallest set ──

module _ (h : History) where
  counts_within : (Q : ℕ → Type 0) → ClosedUnder h Q → {t : ℕ} → Counts h t → Q t
  counts_within Q c (by_status e) = c.has _ e
  counts_within Q c (by_reader e r d v) = c.gains _ _ e (counts_within Q c r) d v

  pub counts_smallest : Smallest h (Counts h)
  counts_smallest =
      record {
        closed = record { has = λ t e. by_status e; gains = λ a u e r d v. by_reader e r d v };
        within = λ Q c t. counts_within Q c;
      }

  -- "exactly if a transaction counted as committed, other than itself, reads one of its values"
  pub counts_exactly : {u : ℕ} → (tx h u).status ≡ 2 → ExactlyIfRead h (Counts h) u
  counts_exactly {u} e = (at, λ r. by_reader e r.1 r.2 r.3)
    where
      at : Counts h u → (a : ℕ) × Counts h a × (a ≡ u → ⊥) × ReadsValueOf h a u
      at (by_status f) = absurd (omega arith)
      at (by_reader f r d v) = (_, r, d, v)

-- ── what is computed ──

module _ {h : History} (ok : LawfulHistory h) where
  -- the test for one that vouches for an unanswered one is right
  vouches_reads : {a u : ℕ} → Vouches h a u → ReadsValueOf h a u
  vouches_reads {a} {u} v =
      let t = v.takes in
      record {
        read = v.by;
        is_op = record { from = v.from; to = v.to };
        is_read = t.is_read;
        in_reader = t.in_reader;
        write = origin_of h v.by;
        is_write =
            origin_there h v.by
            (λ z.
            let n : u ≡ 0 = sym t.of_writer ∙ source_none h v.by z in
            omega (arith, v.unanswered, ap (λ (t : ℕ). (tx h t).status) n, status_0 h));
        in_writer = source_is h v.by _ refl ∙ t.of_writer;
      }

  reads_vouches : {a u : ℕ} → (tx h u).status ≡ 2 → (a ≡ u → ⊥) → ReadsValueOf h a u → Vouches h a u
  reads_vouches s d v =
      record {
        unanswered = s;
        other = d;
        by = v.read;
        from = v.is_op.from;
        to = v.is_op.to;
        takes =
            record {
              is_read = v.is_read;
              in_reader = v.in_reader;
              of_writer = sym (source_is h v.read _ (sym (origin_only h v.read ok v.is_write))) ∙ v.in_writer;
            };
      }

  counts_reached : {t : ℕ} → Counts h t → Reached (says_committed h) (vouches h) t
  counts_reached (by_status e) = from ((says_iff h _).1 e)
  counts_reached (by_reader e r d v) = on (counts_reached r) ((vouches_iff h _ _).1 (reads_vouches e d v))

  reached_counts : {t : ℕ} → Reached (says_committed h) (vouches h) t → Counts h t
  reached_counts =
      reached_within (Counts h) (λ a e. by_status ((says_iff h a).0 e))
      (λ a b r e. let v = (vouches_iff h a b).0 e in by_reader v.unanswered r v.other (vouches_reads v))

  -- it is right, and so what is computed is the smallest set
  pub counts_iff : (t : ℕ) → (committed h t ≡ true) ↔ Counts h t
  counts_iff t = (λ e. reached_counts ((committed_iff h t).0 e), λ r. (committed_iff h t).1 (counts_reached r))

  pub committed-smallest : Smallest h (λ t. committed h t ≡ true)
  committed-smallest =
      record {
        closed =
            record {
              has = λ t e. (counts_iff t).1 (by_status e);
              gains = λ a u e r d v. (counts_iff u).1 (by_reader e ((counts_iff a).0 r) d v);
            };
        within = λ Q c t e. counts_within h Q c ((counts_iff t).0 e);
      }

  pub counts_not : (t : ℕ) → (committed h t ≡ false) ↔ (Counts h t → ⊥)
  counts_not t = (λ e r. clash ((counts_iff t).1 r) e, λ d. is_false _ (λ e. d ((counts_iff t).0 e)))

  -- what counts is a transaction's number; who is not known not to count does
  pub counts_below : {t : ℕ} → Counts h t → t < size h
  counts_below {t} r = committed_below h t ((counts_iff t).1 r)

  pub counts_stable : (t : ℕ) → ((Counts h t → ⊥) → ⊥) → Counts h t
  counts_stable t d = (counts_iff t).0 (is_true _ (λ e. d ((counts_not t).0 e)))
