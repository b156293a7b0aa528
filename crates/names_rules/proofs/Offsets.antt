-- The offsets of a lawful file's records: how many they are, that each has its record, that their keys ascend; and the record that has a key.
use Prim.Native.Nat.{ℕ, zero, suc, ◌+◌, ◌*◌, ◌≤◌, ◌<◌}
use mathlib.Core.Path.{◌≡◌, refl, sym, ◌∙◌, subst}
use mathlib.Core.Bool.{true, false}
use mathlib.Core.Logic.{⊎_elim}
use mathlib.Core.List.{List, [], ◌∷◌}
use native.Mathlib.Omega.{arith}
use lib.ListN.{length, get_or}
use lib.Dec.{eqb}
use borrow.Author.Tests.{eqb-true, eqb-false, eq-eqb, ne_eqb}
use Rattle.base.proofs.Tests.{ifso, split, pick_on, pick_off}
use Rattle.rules.specs.Records.{next_at}
use Rattle.names_rules.specs.Names.{key_at, check_from, checked, offsets_from, offsets, with_key, record_with}
use Rattle.std.specs.Prelude.{Ok}
use Rattle.names_rules.proofs.Walking.{NameFits, fit, check_on, check_passed, offsets_end, offsets_on, lawful_short, lawful_front}

-- ── the walk past a lawful file's records ──

-- what holds where no record is left, and at a record if it holds behind it, holds of the whole walk: of where it starts, of the least key that may come there,
-- and of the offsets from there on
pub walked : (s : List ℕ) (P : ℕ → ℕ → List ℕ → Type 0) → ((at low : ℕ) → at ≤ length s → P at low [])
    → ((at low : ℕ) (l : List ℕ) → at < length s → NameFits s at low → P (next_at s at) (key_at s at + 1) l → P at low (at ∷ l)) → (f at low : ℕ) → at ≤ length s
    → check_from f s at low ≡ Ok tt → P at low (offsets_from f s at)
unfolding offsets_from
walked s P end on zero at low w g = end at low w
walked s P end on (suc f) at low w g =
    ⊎_elim
    (λ (l : at < length s).
    let n = check_passed s at low f l g in
    let x = fit s at low n in
    subst (P at low) (sym (offsets_on s at f l))
    (on at low (offsets_from f s (next_at s at)) l x
    (walked s P end on f (next_at s at) (key_at s at + 1) x.room (sym (check_on s at low f l n) ∙ g))))
    (λ (h : length s ≤ at). subst (P at low) (sym (offsets_end s at (suc f) h)) (end at low w)) (split at (length s))

-- records at these offsets fit, their keys being at least low, and ascend
record Ascending (s : List ℕ) (low : ℕ) (l : List ℕ) : Type 0 where
  fits : (i : ℕ) → i < length l → NameFits s (get_or l i 0) low
  ascend : (i j : ℕ) → i < j → j < length l → key_at s (get_or l i 0) < key_at s (get_or l j 0)

ascending_more : (s : List ℕ) (at low : ℕ) (l : List ℕ) → NameFits s at low → Ascending s (key_at s at + 1) l → Ascending s low (at ∷ l)
ascending_more s at low l x y = record { fits = here; ascend = there }
  where
    here : (i : ℕ) → i < suc (length l) → NameFits s (get_or (at ∷ l) i 0) low
    here zero h = x
    here (suc i) h =
        let z = y.fits i (omega arith) in
        record { least = z.least; most = z.most; room = z.room; kind = z.kind; name = z.name; ascends = omega (arith, x.ascends, z.ascends) }

    there : (i j : ℕ) → i < j → j < suc (length l) → key_at s (get_or (at ∷ l) i 0) < key_at s (get_or (at ∷ l) j 0)
    there i zero a b = absurd (omega arith)
    there zero (suc j) a b = let z = y.fits j (omega arith) in omega (arith, z.ascends)
    there (suc i) (suc j) a b = y.ascend i j (omega arith) (omega arith)

module _ (s : List ℕ) (g : checked s ≡ Ok tt) where
  -- "length (7 to 46)": a record has 9 bytes or more, so there are 3,640 at most
  pub offsets_most : length (offsets s) ≤ 3640
  unfolding offsets
  offsets_most =
      let h : 9 * length (offsets_from (length s) s 0) + 0 ≤ length s =
      walked s (λ at low l. 9 * length l + at ≤ length s) (λ at low w. omega arith) (λ at low l k x r. omega (arith, x.least)) (length s) 0 0 (omega arith) (lawful_front s g) in
      omega (arith, lawful_short s g)

  ascending : Ascending s 0 (offsets s)
  unfolding offsets
  ascending =
      walked s (λ at low l. Ascending s low l) (λ at low w. record { fits = λ i h. absurd (omega arith); ascend = λ i j a b. absurd (omega arith) })
      (λ at low l k x r. ascending_more s at low l x r) (length s) 0 0 (omega arith) (lawful_front s g)

  -- at each offset is a record that fits
  pub offset_fits : (i : ℕ) → i < length (offsets s) → NameFits s (get_or (offsets s) i 0) 0
  offset_fits = ascending.fits

  -- "keys ascend strictly"
  pub keys_ascend : (i j : ℕ) → i < j → j < length (offsets s) → key_at s (get_or (offsets s) i 0) < key_at s (get_or (offsets s) j 0)
  keys_ascend = ascending.ascend

-- ── the record that has a key ──

module _ (s : List ℕ) (key : ℕ) where
  pub key_hit : (a : ℕ) (l : List ℕ) → key_at s a ≡ key → with_key s key (a ∷ l) ≡ a
  unfolding with_key
  key_hit a l h = pick_on _ _ _ (eq-eqb _ _ h)

  pub key_on : (a : ℕ) (l : List ℕ) → (key_at s a ≡ key → ⊥) → with_key s key (a ∷ l) ≡ with_key s key l
  unfolding with_key
  key_on a l h = pick_off _ _ _ (ne_eqb _ _ h)

  -- the first that has the key
  pub key-first : (l : List ℕ) (i : ℕ) → i < length l → ((j : ℕ) → j < i → key_at s (get_or l j 0) ≡ key → ⊥) → key_at s (get_or l i 0) ≡ key → with_key s key l ≡ get_or l i 0
  key-first [] i b n h = absurd (omega arith)
  key-first (a ∷ l) zero b n h = key_hit a l h
  key-first (a ∷ l) (suc i) b n h = key_on a l (n 0 (omega arith)) ∙ key-first l i (omega arith) (λ j k. n (suc j) (omega arith)) h

  -- none has
  pub key-none : (l : List ℕ) → ((j : ℕ) → j < length l → key_at s (get_or l j 0) ≡ key → ⊥) → with_key s key l ≡ length s
  unfolding with_key
  key-none [] n = refl
  key-none (a ∷ l) n = key_on a l (n 0 (omega arith)) ∙ key-none l (λ j k. n (suc j) (omega arith))

  -- one of these offsets has the key, and is the first that has
  pub record KeyFound (l : List ℕ) : Type 0 where
    pub number : ℕ
    pub there : number < length l
    pub is : with_key s key l ≡ get_or l number 0
    pub has : key_at s (get_or l number 0) ≡ key

  pub key-found : (l : List ℕ) → with_key s key l < length s → KeyFound l
  unfolding with_key
  key-found [] h = absurd (omega arith)
  key-found (a ∷ l) h =
      ifso (eqb (key_at s a) key)
      (λ (t : eqb (key_at s a) key ≡ true).
      let q = eqb-true (key_at s a) key t in record { number = 0; there = omega arith; is = key_hit a l q; has = q })
      (λ (t : eqb (key_at s a) key ≡ false).
      let e : with_key s key (a ∷ l) ≡ with_key s key l = key_on a l (eqb-false (key_at s a) key t) in
      let r = key-found l (rw e at h) in
      record { number = suc r.number; there = omega (arith, r.there); is = e ∙ r.is; has = r.has })

-- a record that was found lies within its file, with its name
pub found_in : (s : List ℕ) (key : ℕ) → checked s ≡ Ok tt → {a : ℕ} → a ≡ record_with s key → a < length s → NameFits s a 0
unfolding record_with
found_in s key g {a} q l = let r = key-found s key (offsets s) (rw q at l) in subst (λ (x : ℕ). NameFits s x 0) (sym (q ∙ r.is)) (offset_fits s g r.number r.there)
