-- The lists that are written are the definition's.
use Prim.Native.Nat.{ℕ, ◌+◌, ◌*◌, ◌<◌, ◌≤◌}
use mathlib.Core.Path.{◌≡◌, refl, ap, sym, ◌∙◌}
use mathlib.Core.List.{List, [], ◌∷◌}
use native.Mathlib.Omega.{arith}
use lib.ListN.{length}
use Rattle.base.proofs.Fill.{Appended}
use Rattle.rules.specs.History.{History, tx_count}
use Rattle.rules.specs.Numbers.{over}
use Rattle.rules.specs.Outcome.{findings, finding_list, pairs, pair_list, rejecting, reported, outcome}
use Rattle.rules.specs.Outcome.{Answer}
use Rattle.std.specs.Prelude.{Ok, Err}
use Rattle.rules.specs.Refusals.{refusal_at}
use Rattle.rules.specs.declared.Cause.TheVariants.{FindingsRoom, PairsRoom}
use Rattle.rules.specs.declared.Ruling.TheVariants.{Rejected}
use Rattle.rules.proofs.Numbers.{appended-over}
use Rattle.rules.proofs.Lists.{findings-long, pairs-long}
use Rattle.rules.proofs.Outcome.{none-empty, is_accepted_lem, found_rejected, listed_rejected, judged_accepted, judged_rejected, rejection_short, rejection_short_pairs, rejection-fits}
use Rattle.table.specs.Table.{history_of}
use Rattle.sifting.specs.Lists.{pair_count, pairs_in, Judging}
use Rattle.sifting.proofs.Levels.{told-pairs, told-count}
use Rattle.judging.specs.declared.Counts.{Counts}
use Rattle.judging.specs.Judging.{Counted, OnAcceptance, OnRejection, OnReading}

-- x: the number of transactions
pub counted : {h l : List ℕ} {n : Counts} {x : ℕ} → x ≡ tx_count (history_of h) → (n.findings ≡ length (findings (history_of h))) × (n.findings ≤ 1024)
    → (n.pairs ≡ pair_count l (x + 1)) × (n.pairs ≤ 16384) → Counted h l n
counted {l = l} e a b = record { found = a.0; found_few = a.1; listed = b.0 ∙ ap (λ (y : ℕ). pair_count l (y + 1)) e; listed_few = b.1 }

module _ {h l r v : List ℕ} {n : Counts} (m : Counted h l n) (level : ℕ) (j : Judging h l r v level) where
  abbrev H : History
  H = history_of h

  -- both counts, and the lists' lengths
  pairs-count : n.pairs ≡ length (pairs H level)
  pairs-count = m.listed ∙ told-count j

  findings-bytes : 6 * n.findings ≡ length (finding_list H)
  findings-bytes = omega (arith, m.found, findings-long H)

  pairs-bytes : 4 * n.pairs ≡ length (pair_list H level)
  pairs-bytes = omega (arith, pairs-count, pairs-long H level)

  -- ── rejection, with buffers fo and po ──

  module _ (fo po : List ℕ) where
    pub reject_findings : length fo < 6 * n.findings → OnRejection H level fo po fo po (Err (refusal_at FindingsRoom (6 * n.findings)))
    unfolding reported
    reject_findings q = record { is = λ o. rw findings-bytes (sym (rejection_short level fo po o H (omega (arith, findings-bytes)))) }

    module _ (q : 6 * n.findings ≤ length fo) where
      pub reject_pairs : length po < 4 * n.pairs → OnRejection H level fo po fo po (Err (refusal_at PairsRoom (4 * n.pairs)))
      unfolding reported
      reject_pairs l2 =
          record {
            is =
                λ o.
                rw pairs-bytes
                (sym (rejection_short_pairs level fo po o H (omega (arith, findings-bytes)) (omega (arith, pairs-bytes))));
          }

      pub reject_fits : 4 * n.pairs ≤ length po → {fo2 po2 : List ℕ} {a b : ℕ} → Appended fo 0 fo2 a (finding_list H) → Appended po 0 po2 b (pairs_in H l r v)
          → OnRejection H level fo po fo2 po2 (Ok (Rejected n.findings n.pairs))
      unfolding reported
      reject_fits l2 x y =
          record {
            is =
                λ o.
                rw (m.found, pairs-count, appended-over x, appended-over (rw (told-pairs j) at y))
                (sym (rejection-fits level fo po o H (omega (arith, findings-bytes)) (omega (arith, pairs-bytes))));
          }

-- ── where no pair is listed ──

same-rejection : {a b c d : ℕ} {f g p q : List ℕ} (o : List ℕ) → a ≡ b → c ≡ d → f ≡ g → p ≡ q → outcome (rejecting a c) f p o ≡ outcome (rejecting b d) g q o
same-rejection o x y z w = rw (x, y, z, w)

module _ (h : History) (level : ℕ) (none : pairs h level ≡ []) {n : ℕ} (found : n ≡ length (findings h)) where
  no_bytes : length (pair_list h level) ≡ 0
  no_bytes = omega (arith, pairs-long h level, ap length none)

  nothing-over : (p : List ℕ) → over (pair_list h level) p ≡ p
  unfolding over
  nothing-over p = rw (none-empty (pair_list h level) no_bytes)

  module _ (fo po : List ℕ) where
    pub reads_short : length fo < 6 * n → OnRejection h level fo po fo po (Err (refusal_at FindingsRoom (6 * n)))
    unfolding reported
    reads_short l =
        let e : 6 * n ≡ length (finding_list h) = omega (arith, found, findings-long h) in
        record { is = λ o. rw e (sym (rejection_short level fo po o h (omega arith))) }

    pub reads_fit : 6 * n ≤ length fo → {fo2 : List ℕ} {a : ℕ} → Appended fo 0 fo2 a (finding_list h) → OnRejection h level fo po fo2 po (Ok (Rejected n 0))
    unfolding reported
    reads_fit l x =
        record {
          is =
              λ o.
              same-rejection o found (sym (ap length none)) (appended-over x) (sym (nothing-over po))
              ∙ sym (rejection-fits level fo po o h (omega (arith, found, findings-long h)) (omega (arith, no_bytes)));
        }

  -- "Accepted: no finding and no listed pair"
  module _ {fo po oo : List ℕ} {r : Answer} where
    pub placed_accepts : n ≡ 0 → {oo2 : List ℕ} → OnAcceptance h level oo oo2 r → OnReading h level fo po oo fo po oo2 r
    placed_accepts e a =
        record { is = λ notes. a.is fo po ∙ sym (judged_accepted level fo po oo h notes (is_accepted_lem h level (omega (arith, found)) (omega (arith, ap length none)))) }

    pub placed_rejects : (n ≡ 0 → ⊥) → {fo2 : List ℕ} → OnRejection h level fo po fo2 po r → OnReading h level fo po oo fo2 po oo r
    placed_rejects e a = record { is = λ notes. a.is oo ∙ sym (judged_rejected level fo po oo h notes (found_rejected h level (omega (arith, e, found)))) }

-- ── where the order lacks a transaction ──

module _ (h : History) (level : ℕ) {fo po oo fo2 po2 : List ℕ} {r : Answer} where
  pub listed_rejects : (pairs h level ≡ [] → ⊥) → OnRejection h level fo po fo2 po2 r → OnReading h level fo po oo fo2 po2 oo r
  listed_rejects some a =
      record { is = λ notes. a.is oo ∙ sym (judged_rejected level fo po oo h notes (listed_rejected h level (has_entry (pairs h level) some))) }
    where
      has_entry : {A : Type 0} (l : List A) → (l ≡ [] → ⊥) → 0 < length l
      has_entry [] n = absurd (n refl)
      has_entry (x ∷ l) n = omega arith
