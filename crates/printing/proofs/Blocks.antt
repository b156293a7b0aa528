-- The blocks: what each answer of the judge prints, and how they make the whole text.
use Prim.Native.Nat.{ℕ, ◌*◌, ◌≤◌}
use mathlib.Core.Path.{◌≡◌, refl, ap, sym, ◌∙◌}
use mathlib.Core.List.{List}
use native.Mathlib.Omega.{arith}
use lib.ListN.{length, take, drop}
use lib.Seq.{take_at}
use Rattle.base.proofs.Tests.{pick_on, pick_off}
use Rattle.rules.specs.Numbers.{over}
use Rattle.rules.specs.History.{History}
use Rattle.rules.specs.Reading.{refused, reading}
use Rattle.rules.specs.Outcome.{finding_list, pair_list, order}
use Rattle.rules.proofs.Lists.{findings-long, pairs-long}
use Rattle.demand1.specs.Lawful.{LawfulHistory}
use Rattle.demand1.proofs.Lengths.{lawful_reading}
use Rattle.text.specs.Lines.{refused_line, accepted_line}
use Rattle.text.specs.Answer.{block_text, reading_text, answer_text}
use Rattle.table.specs.Table.{history_of}
use Rattle.show.specs.Laid.{Put, Short}
use Rattle.show.proofs.Laws.{laid-over}
use Rattle.forcing.specs.Forcing.{ReadInto}
use Rattle.entries.proofs.Entries.{over_most}
use Rattle.printing.specs.Printing.{Written, Taken, blocks_text, rejected_text}
use Rattle.printing.proofs.Lengths.{answer_short}
use Rattle.printing.proofs.Entries.{findings_lines, pairs_lines}
use Rattle.printing.proofs.Judged.{new_findings, new_pairs, new_order, AcceptedBy, RejectedBy}

pub taken_lawful : {h k : List ℕ} → Taken h k → LawfulHistory (history_of h)
taken_lawful x = lawful_reading x.s x.from.reads

-- ── one block ──

module _ {h : History} {level n : ℕ} {O : List ℕ} (x : AcceptedBy h level n O) where
  pub order_there : n ≤ length O
  order_there = rw x.shown (omega (arith, x.long, over_most (order h level) new_order))

  -- the order stands at the front
  front : take n O ≡ order h level
  unfolding over
  front = rw (x.shown, x.long) (take_at (order h level) (drop (length (order h level)) new_order) _ refl)

  pub block_accepted : block_text h level ≡ accepted_line level (take n O)
  unfolding block_text
  block_accepted = rw front (pick_on _ _ _ x.accepted)

module _ {h : History} {level n m : ℕ} {F P : List ℕ} (x : RejectedBy h level n m F P) where
  pub findings_there : 6 * n ≤ length F
  findings_there = rw x.findings (omega (arith, x.found, findings-long h, over_most (finding_list h) new_findings))

  pub pairs_there : 4 * m ≤ length P
  pairs_there = rw x.pairs (omega (arith, x.listed, pairs-long h level, over_most (pair_list h level) new_pairs))

  pub block_rejected : block_text h level ≡ rejected_text level n m F P
  unfolding block_text rejected_text
  block_rejected =
      rw (x.findings, x.pairs, x.found, x.listed, findings_lines h new_findings, pairs_lines h new_pairs level) (pick_off _ _ _ x.rejected)

module _ {t u : List ℕ} (e : t ≡ u) {at : ℕ} where
  pub block-fits : Short at t → Short at u
  block-fits x = rw e at x

  pub block-put : {o b : List ℕ} {n : ℕ} → Put o at b n u → Put o at b n t
  block-put x = rw e x

-- ── the whole ──

module _ (s : List ℕ) where
  pub refused_text : {n p : ℕ} → reading s ≡ refused n p → answer_text s ≡ refused_line n p
  unfolding answer_text reading_text
  refused_text e = ap reading_text e

  pub read-text : {h k : List ℕ} → ReadInto s h k → answer_text s ≡ blocks_text (history_of h)
  unfolding answer_text reading_text
  read-text x = ap reading_text x.reads

  module _ {t : List ℕ} (e : answer_text s ≡ t) where
    pub text-fits : Short 0 t
    text-fits = record { bound = omega (arith, answer_short s, ap length e) }

    -- the text was put at the front
    pub text-written : {o b : List ℕ} {n : ℕ} → Put o 0 b n t → Written s o b n
    text-written {o} x =
        record {
          end = omega (arith, x.end, ap length e);
          short = omega (arith, x.end, answer_short s, ap length e);
          is = x.is ∙ laid-over o t ∙ ap (λ (u : List ℕ). over (take (length o) u) o) (sym e);
        }
