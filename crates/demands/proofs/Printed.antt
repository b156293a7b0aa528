-- The text that is computed is what the document says is printed, and no other text is.
use Prim.Native.Nat.{ℕ, ◌≤◌}
use mathlib.Core.Path.{◌≡◌, refl, ap}
use mathlib.Core.List.{List, [], ◌∷◌}
use mathlib.Core.Logic.{◌↔◌}
use native.Mathlib.Omega.{arith}
use lib.ListN.{length, take}
use Rattle.base.specs.Base.{joined}
use Rattle.base.proofs.Tests.{ifso, pick_on, pick_off}
use Rattle.theory.specs.Entries.{In, here, there}
use Rattle.rules.specs.Numbers.{over}
use Rattle.rules.specs.History.{History}
use Rattle.rules.specs.Reading.{Reading, refused, read, reading}
use Rattle.rules.specs.Outcome.{Pair, findings, pairs, is_accepted}
use Rattle.rules.proofs.Numbers.{over-whole}
use Rattle.text.specs.Lines.{accepted_line}
use Rattle.text.specs.Answer.{finding_text, pair_text, block_text, reading_text, answer_text}
use Rattle.demand1.specs.Lawful.{LawfulHistory}
use Rattle.demand1.proofs.Lawful.{lawful_history}
use Rattle.demand1.proofs.Readings.{refuses_iff, has_read, one_outcome, history_one}
use Rattle.demand2.proofs.Accepted.{has_order_iff, accepted_iff, order-first, first_only}
use Rattle.demand3.specs.Lists.{Finding}
use Rattle.demand3.proofs.Findings.{kind_one, finding_kind, finding_write, findings_are, findings_one}
use Rattle.demand3.proofs.Writes.{write_one}
use Rattle.demand3.proofs.Forced.{reasons_are, reasons_one}
use Rattle.demand3.proofs.Pairs.{pairs_are, pairs_one}
use Rattle.demand3.proofs.Traces.{fault_iff, no_fault_iff}
use Rattle.demands.specs.Printed.{ReadsPrinted, no_read, one_read, PairsPrinted, no_pair, one_pair, BlockPrinted, on_acceptance, on_rejection, Prints, on_refusal, on_reading, TextPut}

-- ── lines ──

-- one text of these reads
reads_one : {h : History} {is xs ys : List ℕ} → ReadsPrinted h is xs → ReadsPrinted h is ys → xs ≡ ys
reads_one no_read no_read = refl
reads_one {h} (one_read x m p) (one_read y n q) = let e = kind_one x y in rw (e, write_one (rw e at m) n, reads_one p q)

-- and of these pairs
pairs-text_one : {h : History} {level : ℕ} {ps : List Pair} {xs ys : List ℕ} → PairsPrinted h level ps xs → PairsPrinted h level ps ys → xs ≡ ys
pairs-text_one no_pair no_pair = refl
pairs-text_one (one_pair x p) (one_pair y q) = rw (reasons_one x y, pairs-text_one p q)

module _ {h : History} (ok : LawfulHistory h) where
  reads_printed : (is : List ℕ) → ((i : ℕ) → In i is → Finding h i) → ReadsPrinted h is (joined (finding_text h) is)
  unfolding joined finding_text
  reads_printed [] f = no_read
  reads_printed (i ∷ is) f = let x = f i (here refl) in one_read (finding_kind ok x) (finding_write ok x) (reads_printed is (λ j m. f j (there m)))

  module _ {level : ℕ} (low : 1 ≤ level) (high : level ≤ 3) where
    pairs_printed : (ps : List Pair) → PairsPrinted h level ps (joined (pair_text h level) ps)
    unfolding joined pair_text
    pairs_printed [] = no_pair
    pairs_printed (p ∷ ps) = one_pair (reasons_are ok low high p.one p.two) (pairs_printed ps)

    -- ── blocks ──

    block_printed : BlockPrinted h level (block_text h level)
    unfolding block_text
    block_printed =
        ifso (is_accepted h level)
        (λ t. rw (pick_on (is_accepted h level) _ _ t) (on_acceptance ((accepted_iff ok low high).0 t).0 (order-first ok low high t)))
        (λ t.
        rw (pick_off (is_accepted h level) _ _ t)
        (on_rejection ((fault_iff ok low high).0 t) (findings_are ok) (pairs_are ok low high) (reads_printed (findings h) (λ i m. ((findings_are ok).entries i).0 m)) (pairs_printed (pairs h level))))

    block_one : {x y : List ℕ} → BlockPrinted h level x → BlockPrinted h level y → x ≡ y
    block_one (on_acceptance c f) (on_acceptance d g) = ap (accepted_line level) (first_only f g)
    block_one (on_acceptance {o} c f) (on_rejection x a b u v) =
        absurd ((no_fault_iff ok low high).1 (c, (has_order_iff ok low high c).1 (o, f.shows)) x)
    block_one (on_rejection x a b u v) (on_acceptance {o} c f) =
        absurd ((no_fault_iff ok low high).1 (c, (has_order_iff ok low high c).1 (o, f.shows)) x)
    block_one (on_rejection {is} {xs} {ys} {ps} x a b u v) (on_rejection {is = js} {xs = xs'} {ys = ys'} {ps = qs} y c d w z) =
        let e = findings_one a c in
        let g = pairs_one b d in
        let m = reads_one (rw e at u) w in
        let n = pairs-text_one (rw g at v) z in
        rw (e, g, m, n)

-- ── the whole ──

module _ (s : List ℕ) where
  -- what is computed of a reading is printed
  prints-reading : (r : Reading) → reading s ≡ r → Prints s (reading_text r)
  unfolding reading_text
  prints-reading (refused n p) e = on_refusal ((refuses_iff s n p).0 e)
  prints-reading (read h notes) e =
      let i = has_read e in
      let ok = lawful_history i in
      on_reading i (block_printed ok (omega arith) (omega arith)) (block_printed ok (omega arith) (omega arith)) (block_printed ok (omega arith) (omega arith))

  prints_it : Prints s (answer_text s)
  unfolding answer_text
  prints_it = prints-reading (reading s) refl

  -- and nothing else is
  prints_one : {x y : List ℕ} → Prints s x → Prints s y → x ≡ y
  prints_one (on_refusal {n} {p} a) (on_refusal {n = m} {p = q} b) = let e = (one_outcome s).one_refusal n p m q a b in rw (e.0, e.1)
  prints_one (on_refusal {n} {p} a) (on_reading {h} r u v w) = absurd ((one_outcome s).not_both n p h r.notes a r.reads)
  prints_one (on_reading {h} r u v w) (on_refusal {n} {p} a) = absurd ((one_outcome s).not_both n p h r.notes a r.reads)
  prints_one (on_reading r u v w) (on_reading q a b c) =
      let e = history_one r q in
      let ok = lawful_history r in
      rw (
        block_one ok (omega arith) (omega arith) u (rw (← e) at a),
        block_one ok (omega arith) (omega arith) v (rw (← e) at b),
        block_one ok (omega arith) (omega arith) w (rw (← e) at c),
      )

  -- so the text is the one that the document says
  pub prints_iff : (t : List ℕ) → (answer_text s ≡ t) ↔ Prints s t
  prints_iff t = (λ e. rw e at prints_it, λ p. prints_one prints_it p)

-- whoever lent room for any text has all of it
pub text-whole : {s o b : List ℕ} {n : ℕ} → TextPut s o b n → 1048576 ≤ length o → Prints s (take n b)
text-whole {s} {o} x h =
    let e : take (length x.text) (over (take (length o) x.text) o) ≡ x.text = over-whole x.text o (omega (arith, x.long, x.short)) in
    rw (x.is, x.long, e) x.prints
