-- Candidates, word by word and as rows.
use Prim.Native.Nat.{ℕ, ◌+◌, ◌-◌, ◌*◌, ◌/◌, ◌%◌, ◌<◌, ◌≤◌}
use mathlib.Core.Path.{◌≡◌, refl, sym, ◌∙◌}
use mathlib.Core.Bool.{Bool, true, false, not}
use mathlib.Core.List.{List}
use mathlib.Core.Logic.{⊎_elim}
use native.Mathlib.Omega.{arith}
use lib.Bits.{bit_and, bit_or}
use lib.ListN.{get_or}
use Rattle.base.specs.Base.{◌and◌, ◌or◌}
use Rattle.base.proofs.Tests.{split, and_no_right}
use Rattle.rules.specs.History.{History, op}
use Rattle.table.specs.Table.{history_of, HasOp}
use Rattle.bits.specs.Bits.{test_bit, lacks, Minus, bit_of, Holds, row_of, Alone}
use Rattle.bits.proofs.Words.{test_bit-zero, test_bit-and, test_bit_or}
use Rattle.bits.proofs.Smallest.{row_in_low, row_in_high}
use Rattle.pairs.specs.Pairs.{Ready}
use Rattle.pairs.proofs.Pairs.{byte_clean, byte_origin}
use Rattle.keys.specs.Keys.{bucket_of, writers}
use Rattle.keys.proofs.Keys.{writers-all}
use Rattle.rivals.specs.Rivals.{can_rival, is_tried, is_candidate, Candidates}
use Rattle.rivals.proofs.Hits.{other_untried, not_tried}

-- ── one word ──

-- bit y of a row's word
word_bit : (t : List ℕ) (a half y : ℕ) → y < 64 → test_bit (get_or t (2 * a + half) 0) y ≡ bit_of t a (64 * half + y)
unfolding bit_of
word_bit t a half y l =
    let e : (64 * half + y) / 64 ≡ half = omega arith in
    let m : (64 * half + y) % 64 ≡ y = omega arith in
    rw (e, m)

sift : (l w b e : Bool) → (l and w) and not (b or e) ≡ l and (true and not e and not b and w)
unfolding ◌and◌ ◌or◌
sift false w b e = refl
sift true true true true = refl
sift true true true false = refl
sift true true false true = refl
sift true true false false = refl
sift true false true true = refl
sift true false true false = refl
sift true false false true = refl
sift true false false false = refl

module _ {h k : List ℕ} {i : ℕ} (p : Ready h k) (o : HasOp h i) (v : List ℕ) (left half : ℕ) where
  pub candidates_none : get_or k i 0 < 8 → Candidates (history_of h) v i left half 0
  candidates_none l =
      record { is = λ y m. test_bit-zero y ∙ sym (and_no_right _ _ (not_tried (history_of h) v (64 * half + y) i (other_untried p o v (64 * half + y) l))) }

  pub candidates_are : {w : List ℕ} {b zero own r : ℕ} → Holds w (writers (history_of h)) → half < 2 → 8 ≤ get_or k i 0 → b ≡ bucket_of (op (history_of h) i).key → b < 128
      → Alone 0 half zero → Alone (get_or k i 0 - 8) half own
      → Minus (bit_and left (bit_or (get_or w (2 * b + half) 0) zero)) (bit_or (get_or v (2 * (get_or k i 0 - 8) + half) 0) own) r
      → Candidates (history_of h) v i left half r
  unfolding lacks is_candidate is_tried can_rival
  candidates_are {w} {b} {zero} {own} q two l e few z a m =
      record {
        is =
            λ y s.
            m.is y
            ∙ rw (test_bit-and left (bit_or (get_or w (2 * b + half) 0) zero) y, test_bit_or (get_or v (2 * (get_or k i 0 - 8) + half) 0) own y)
            (rw (test_bit_or (get_or w (2 * b + half) 0) zero y, word_bit w b half y s, word_bit v (get_or k i 0 - 8) half y s, z.is y s, a.is y s)
            (rw (q.is b (64 * half + y) few (omega arith), writers-all (history_of h) b (64 * half + y), byte_origin p o l, byte_clean p o l, e)
            (sift (test_bit left y) _ _ _)));
      }

-- ── both words of a row ──

module _ {h : History} {v : List ℕ} {i lo hi a b : ℕ} where
  pub row_candidates : Candidates h v i lo 0 a → Candidates h v i hi 1 b → (t2 : ℕ) → t2 < 128 → row_of a b t2 ≡ row_of lo hi t2 and is_candidate h v t2 i
  row_candidates p q t2 l =
      ⊎_elim
      (λ s.
      let e : 64 * 0 + t2 ≡ t2 = omega arith in
      row_in_low a b t2 s ∙ p.is t2 s ∙ rw (e, row_in_low lo hi t2 s))
      (λ s.
      let e : 64 * 1 + (t2 - 64) ≡ t2 = omega arith in
      row_in_high a b t2 s l ∙ q.is (t2 - 64) (omega arith) ∙ rw (e, row_in_high lo hi t2 s l))
      (split t2 64)
