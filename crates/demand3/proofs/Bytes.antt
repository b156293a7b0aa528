-- The two lists as bytes: entries of one width, as the documents spell them, and no other bytes do.
use Prim.Native.Nat.{ℕ, zero, suc, ◌+◌, ◌-◌, ◌*◌, ◌/◌, ◌%◌, ◌<◌, ◌≤◌}
use mathlib.Core.Path.{◌≡◌, refl, ap, sym, ◌∙◌}
use mathlib.Core.List.{List, [], ◌∷◌, ◌++◌}
use mathlib.Core.Logic.{⊎_elim}
use native.Mathlib.Omega.{arith}
use native.Mathlib.Nat.{mul-suc}
use lib.ListN.{length, get_or}
use lib.Seq.{ext_get_or}
use Rattle.base.specs.Base.{joined}
use Rattle.base.proofs.Tests.{split}
use Rattle.base.proofs.Searches.{joined_at}
use Rattle.theory.specs.Entries.{In, here, there}
use Rattle.theory.proofs.Entries.{entry_in}
use Rattle.rules.specs.Numbers.{le}
use Rattle.rules.specs.History.{History}
use Rattle.rules.specs.Outcome.{Pair, findings, finding_bytes, finding_list, pairs, pair_bytes, pair_list}
use Rattle.rules.proofs.Numbers.{le_same}
use Rattle.rules.proofs.Lists.{findings-long, pairs-long}
use Rattle.rules.proofs.Origin.{origin_less}
use Rattle.demand1.specs.Lawful.{LawfulHistory}
use Rattle.demand3.specs.Lists.{Finding, Spelt, no_pair, FindingBytes, PairBytes}
use Rattle.demand3.proofs.Findings.{kind_most, kind_one, finding_kind, finding_write, findings_are}
use Rattle.demand3.proofs.Writes.{write_one}
use Rattle.demand3.proofs.Forced.{reasons_are, reasons_one, reasons_most}
use Rattle.demand3.proofs.Pairs.{listed_members, pairs_are}

-- ── entries of one width ──

-- every entry is a byte
abbrev pub Shorter : List ℕ → Type 0
Shorter l = (k : ℕ) → get_or l k 0 < 256

-- two lists of bytes in one are bytes
below_append : (l k : List ℕ) → Shorter l → Shorter k → Shorter (l ++ k)
below_append [] k u v i = v i
below_append (x ∷ l) k u v zero = u zero
below_append (x ∷ l) k u v (suc i) = below_append l k (λ j. u (suc j)) v i

-- .. one by one
abbrev pub EachByte : List ℕ → Type 0
EachByte [] = Unit
EachByte (x ∷ l) = (x < 256) × EachByte l

pub each_shorter : (l : List ℕ) → EachByte l → Shorter l
each_shorter [] u k = omega arith
each_shorter (x ∷ l) u zero = u.0
each_shorter (x ∷ l) u (suc k) = each_shorter l u.1 k

module _ {A : Type 0} (f : A → List ℕ) where
  -- what is joined of bytes is bytes
  pub joined_below : (xs : List A) → ((x : A) → In x xs → Shorter (f x)) → Shorter (joined f xs)
  unfolding joined
  joined_below [] h = λ k. omega arith
  joined_below (x ∷ xs) h = below_append (f x) (joined f xs) (h x (here refl)) (joined_below xs (λ y i. h y (there i)))

-- entry j of b, of six bytes: two of one byte and two numbers of two; of four bytes
pub record SixAt (b : List ℕ) (j t k n w : ℕ) : Type 0 where
  pub one : get_or b (6 * j) 0 ≡ t
  pub two : get_or b (6 * j + 1) 0 ≡ k
  pub three : le 2 b (6 * j + 2) ≡ n
  pub five : le 2 b (6 * j + 4) ≡ w

pub record FourAt (b : List ℕ) (j t k n w : ℕ) : Type 0 where
  pub one : get_or b (4 * j) 0 ≡ t
  pub two : get_or b (4 * j + 1) 0 ≡ k
  pub three : get_or b (4 * j + 2) 0 ≡ n
  pub four : get_or b (4 * j + 3) 0 ≡ w

-- what is joined has such entries
module _ {A : Type 0} (f : A → List ℕ) (d : A) (xs : List A) {j : ℕ} (l : j < length xs) {t k n w : ℕ} where
  pub six_at : ((x : A) → length (f x) ≡ 6) → f (get_or xs j d) ≡ t ∷ k ∷ n % 256 ∷ n / 256 ∷ w % 256 ∷ w / 256 ∷ [] → SixAt (joined f xs) j t k n w
  unfolding le
  six_at long is =
      let e : 6 * j ≡ 6 * j + 0 = omega arith in
      record {
        one = rw e (byte 0 (omega arith));
        two = byte 1 (omega arith);
        three = number 2 (omega arith) ∙ omega arith;
        five = number 4 (omega arith) ∙ omega arith;
      }
    where
      byte : (r : ℕ) → r < 6 → get_or (joined f xs) (6 * j + r) 0 ≡ get_or (t ∷ k ∷ n % 256 ∷ n / 256 ∷ w % 256 ∷ w / 256 ∷ []) r 0
      byte r b = joined_at f 6 long d 0 xs j r l b ∙ ap (λ (m : List ℕ). get_or m r 0) is

      number : (r : ℕ) → r + 1 < 6 → le 2 (joined f xs) (6 * j + r) ≡ le 2 (t ∷ k ∷ n % 256 ∷ n / 256 ∷ w % 256 ∷ w / 256 ∷ []) r
      number r g =
          le_same 2 (joined f xs) (t ∷ k ∷ n % 256 ∷ n / 256 ∷ w % 256 ∷ w / 256 ∷ []) (6 * j + r) r
          (λ i b. let e : 6 * j + r + i ≡ 6 * j + (r + i) = omega arith in rw e (byte (r + i) (omega arith)))

  pub four-at : ((x : A) → length (f x) ≡ 4) → f (get_or xs j d) ≡ t ∷ k ∷ n ∷ w ∷ [] → FourAt (joined f xs) j t k n w
  four-at long is =
      let e : 4 * j ≡ 4 * j + 0 = omega arith in
      record { one = rw e (byte 0 (omega arith)); two = byte 1 (omega arith); three = byte 2 (omega arith); four = byte 3 (omega arith) }
    where
      byte : (r : ℕ) → r < 4 → get_or (joined f xs) (4 * j + r) 0 ≡ get_or (t ∷ k ∷ n ∷ w ∷ []) r 0
      byte r b = joined_at f 4 long d 0 xs j r l b ∙ ap (λ (m : List ℕ). get_or m r 0) is

-- ── the lists ──

module _ {h : History} (ok : LawfulHistory h) where
  -- a transaction is below 128, a kind at most 6, and an operation number at most 1,024
  finding_below : (i : ℕ) → Finding h i → Shorter (finding_bytes h i)
  unfolding finding_bytes
  finding_below i x =
      let j = x.judged in
      let t = ok.in_tx i (record { from = j.from; to = j.to }) in
      each_shorter (finding_bytes h i) (
        omega (arith, t.to, ok.few_txs),
        (omega (arith, kind_most (finding_kind ok x)), (omega arith, (omega (arith, j.to, ok.few_ops), (omega arith, (omega (arith, origin_less h i, ok.few_ops), tt))))),
      )

  -- the list of findings, as the documents spell it
  pub findings-spelt : FindingBytes h (findings h) (finding_list h)
  unfolding finding_list finding_bytes
  findings-spelt =
      record {
        long = findings-long h;
        bytes = joined_below (finding_bytes h) (findings h) (λ i m. finding_below i (((findings_are ok).entries i).0 m));
        each =
            λ j l.
            let i = get_or (findings h) j 0 in
            let x = ((findings_are ok).entries i).0 (entry_in (findings h) j 0 l) in
            let b = six_at (finding_bytes h) 0 (findings h) l (λ i. refl) refl in
            record {
              transaction = b.one;
              kind = rw b.two (finding_kind ok x);
              number = b.three;
              write = rw (b.two, b.five) (finding_write ok x);
            };
      }

  module _ {level : ℕ} (low : 1 ≤ level) (high : level ≤ 3) where
    -- transactions are below 128, and reasons sum up to 15 at most
    pair_below : (p : Pair) → In p (pairs h level) → Shorter (pair_bytes h level p)
    unfolding pair_bytes
    pair_below p i =
        let m = listed_members ok low high (((pairs_are ok low high).entries p).0 i) in
        each_shorter (pair_bytes h level p) (
          omega (arith, m.0.below, ok.few_txs),
          (omega (arith, m.1.below, ok.few_txs), (omega (arith, reasons_most (reasons_are ok low high p.one p.two)), (omega arith, tt))),
        )

    -- the list of pairs, as the document spells it
    pub pairs-spelt : PairBytes h level (pairs h level) (pair_list h level)
    unfolding pair_list pair_bytes
    pairs-spelt =
        record {
          long = pairs-long h level;
          bytes = joined_below (pair_bytes h level) (pairs h level) pair_below;
          each =
              λ j l.
              let p = get_or (pairs h level) j no_pair in
              let b = four-at (pair_bytes h level) no_pair (pairs h level) l (λ q. refl) refl in
              record {
                first = b.one;
                second = b.two;
                reasons = rw b.three (reasons_are ok low high p.one p.two);
                zero = b.four;
              };
        }

-- ── no other bytes ──

-- byte i of n entries of width w: byte r of entry j
record Within (w n i : ℕ) : Type 0 where
  entry : ℕ
  byte : ℕ
  entry_less : entry < n
  byte_less : byte < w
  is : i ≡ w * entry + byte

within : (w n i : ℕ) → i < w * n → Within w n i
within w zero i l = absurd (omega arith)
within w (suc n) i l =
    ⊎_elim (λ a. let x = within w n i a in record { entry = x.entry; byte = x.byte; entry_less = omega (arith, x.entry_less); byte_less = x.byte_less; is = x.is })
    (λ a. record { entry = n; byte = i - w * n; entry_less = omega arith; byte_less = omega (arith, mul-suc w n); is = omega arith }) (split i (w * n))

module _ {A : Type 0} {w : ℕ} {At : List ℕ → ℕ → A → Type 0} {d : A} {xs : List A} {l k : List ℕ} (x : Spelt w At d xs l) (y : Spelt w At d xs k) where
  -- where the entries leave each of their bytes, they leave the list
  spelt_one : ((j : ℕ) → j < length xs → (r : ℕ) → r < w → get_or l (w * j + r) 0 ≡ get_or k (w * j + r) 0) → l ≡ k
  spelt_one h =
      ext_get_or 0 l k (x.long ∙ sym y.long)
      (λ i b. let p = within w (length xs) i (omega (arith, x.long)) in rw p.is (h p.entry p.entry_less p.byte p.byte_less))

-- two bytes that spell one number are the same
bytes_one : (l k : List ℕ) (n : ℕ) → Shorter l → Shorter k → le 2 l n ≡ le 2 k n → (get_or l n 0 ≡ get_or k n 0) × (get_or l (n + 1) 0 ≡ get_or k (n + 1) 0)
unfolding le
bytes_one l k n u v e = (omega (arith, u n, v n, u (n + 1), v (n + 1)), omega (arith, u n, v n, u (n + 1), v (n + 1)))

-- entries that have the same in both lists leave one list
module _ {A : Type 0} {At : List ℕ → ℕ → A → Type 0} {d : A} {xs : List A} {l k : List ℕ} where
  pub six_one : Spelt 6 At d xs l → Spelt 6 At d xs k
      → ((j : ℕ) → j < length xs → SixAt l j (get_or k (6 * j) 0) (get_or k (6 * j + 1) 0) (le 2 k (6 * j + 2)) (le 2 k (6 * j + 4))) → l ≡ k
  six_one x y h = spelt_one x y (λ j b. at j (h j b))
    where
      at : (j : ℕ) → SixAt l j (get_or k (6 * j) 0) (get_or k (6 * j + 1) 0) (le 2 k (6 * j + 2)) (le 2 k (6 * j + 4))
          → (r : ℕ) → r < 6 → get_or l (6 * j + r) 0 ≡ get_or k (6 * j + r) 0
      at j p zero g = let e : 6 * j + 0 ≡ 6 * j = omega arith in rw e p.one
      at j p (suc zero) g = p.two
      at j p (suc (suc zero)) g = (bytes_one l k (6 * j + 2) x.bytes y.bytes p.three).0
      at j p (suc (suc (suc zero))) g =
          let e : 6 * j + 2 + 1 ≡ 6 * j + 3 = omega arith in rw e at (bytes_one l k (6 * j + 2) x.bytes y.bytes p.three).1
      at j p (suc (suc (suc (suc r)))) g =
          let n = bytes_one l k (6 * j + 4) x.bytes y.bytes p.five in
          ⊎_elim (λ a. let e : 6 * j + suc (suc (suc (suc r))) ≡ 6 * j + 4 = omega arith in rw e n.0)
          (λ a. let e : 6 * j + suc (suc (suc (suc r))) ≡ 6 * j + 4 + 1 = omega arith in rw e n.1) (split r 1)

  pub four_one : Spelt 4 At d xs l → Spelt 4 At d xs k
      → ((j : ℕ) → j < length xs → FourAt l j (get_or k (4 * j) 0) (get_or k (4 * j + 1) 0) (get_or k (4 * j + 2) 0) (get_or k (4 * j + 3) 0)) → l ≡ k
  four_one x y h = spelt_one x y (λ j b. at j (h j b))
    where
      at : (j : ℕ) → FourAt l j (get_or k (4 * j) 0) (get_or k (4 * j + 1) 0) (get_or k (4 * j + 2) 0) (get_or k (4 * j + 3) 0)
          → (r : ℕ) → r < 4 → get_or l (4 * j + r) 0 ≡ get_or k (4 * j + r) 0
      at j p zero g = let e : 4 * j + 0 ≡ 4 * j = omega arith in rw e p.one
      at j p (suc zero) g = p.two
      at j p (suc (suc zero)) g = p.three
      at j p (suc (suc (suc zero))) g = p.four
      at j p (suc (suc (suc (suc r)))) g = absurd (omega arith)

-- the same findings are spelt by the same bytes
pub finding_bytes_one : {h : History} {is l k : List ℕ} → FindingBytes h is l → FindingBytes h is k → l ≡ k
finding_bytes_one x y =
    six_one x y
    (λ j b.
    let p = x.each j b in
    let q = y.each j b in
    let e = kind_one p.kind q.kind in
    record {
      one = p.transaction ∙ sym q.transaction;
      two = e;
      three = p.number ∙ sym q.number;
      five = write_one (rw e at p.write) q.write;
    })

-- and the same pairs
pub pair-bytes_one : {h : History} {level : ℕ} {ps : List Pair} {l k : List ℕ} → PairBytes h level ps l → PairBytes h level ps k → l ≡ k
pair-bytes_one x y =
    four_one x y
    (λ j b.
    let p = x.each j b in
    let q = y.each j b in
    record {
      one = p.first ∙ sym q.first;
      two = p.second ∙ sym q.second;
      three = reasons_one p.reasons q.reasons;
      four = p.zero ∙ sym q.zero;
    })
