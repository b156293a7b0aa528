-- A record is read the same where its bytes are the same.
use Prim.Native.Nat.{ℕ, zero, suc, ◌+◌, ◌-◌, ◌*◌, ◌<◌, ◌≤◌}
use mathlib.Core.Path.{◌≡◌, refl}
use mathlib.Core.Bool.{false}
use mathlib.Core.List.{List}
use mathlib.Core.Logic.{⊎_elim}
use native.Mathlib.Omega.{arith}
use lib.Dec.{eqb}
use lib.ListN.{length, get_or, take, drop, length-take, length-drop}
use lib.Seq.{get_or-take, get_or-drop, ext_get_or}
use borrow.Author.Tests.{eqb-true, ne_eqb}
use Rattle.base.specs.Base.{◌and◌, pick}
use Rattle.base.proofs.Tests.{ifso, and_no_right, split}
use Rattle.rules.specs.Numbers.{le, part}
use Rattle.rules.specs.Records.{next_at, is_second, is_list_read, event_at, breaks, is_misfit, is_other_edition, frame_rows}
use Rattle.demand1.specs.Rows.{len, kind, serial, number, edition}

-- s and b are equally long, and have the same bytes from a to before e
pub record Agree (s b : List ℕ) (a e : ℕ) : Type 0 where
  pub long : length b ≡ length s
  pub same : (i : ℕ) → a ≤ i → i < e → get_or b i 0 ≡ get_or s i 0

module _ {s b : List ℕ} {a e : ℕ} (x : Agree s b a e) where
  -- a number between them
  pub agree_le : (w at : ℕ) → a ≤ at → at + w ≤ e → le w b at ≡ le w s at
  unfolding le
  agree_le zero at l h = refl
  agree_le (suc w) at l h = rw (x.same at l (omega arith), agree_le w (at + 1) (omega arith) (omega arith))

  -- a part between them is equally long
  part_length : (i n : ℕ) → length (take n (drop i b)) ≡ length (take n (drop i s))
  part_length i n = rw (length-take n (drop i b), length-take n (drop i s), length-drop i b, length-drop i s, x.long)

  -- a place in a part
  within_part : (l : List ℕ) (n i : ℕ) → i < length (take n l) → i < n
  within_part l n i h = omega (arith, rw (length-take n l) at h)

  -- the part is the same
  agree_part : (i j : ℕ) → a ≤ i → j ≤ e → part i j b ≡ part i j s
  agree_part i j l h =
      ext_get_or 0 (part i j b) (part i j s) (part_length i (j - i))
      (λ k m.
      let q = within_part (drop i b) (j - i) k m in
      rw (get_or-take (j - i) (drop i b) k 0 q, get_or-take (j - i) (drop i s) k 0 q, get_or-drop i b k 0, get_or-drop i s k 0)
      (x.same (i + k) (omega arith) (omega arith)))

-- ── a record whose header is the same ──

-- its kind
pub agree_kind : {s b : List ℕ} {at : ℕ} → Agree s b at (at + 8) → kind b at ≡ kind s at
agree_kind {at = at} x = agree_le x 2 (at + 2) (omega arith) (omega arith)

-- its serial
pub agree_serial : {s b : List ℕ} {at : ℕ} → Agree s b at (at + 8) → serial b at ≡ serial s at
agree_serial {at = at} x = agree_le x 4 (at + 4) (omega arith) (omega arith)

-- the first record says the edition
pub agree_second : {s b : List ℕ} → Agree s b 0 8 → is_second b ≡ is_second s
unfolding is_second
agree_second x = rw (x.long, agree_kind x)

-- the records of s and b at `at` have the same header in traces of the same edition; a kind 16 record says the same, and a list read that is long enough to have
-- a number has the same
pub record SameHead (s b : List ℕ) (at : ℕ) : Type 0 where
  pub header : Agree s b at (at + 8)
  pub second : is_second b ≡ is_second s
  pub says : kind s at ≡ 16 → edition b at ≡ edition s at
  pub counts : kind s at ≡ 24 → 14 ≤ len s at → number b at ≡ number s at

module _ {s b : List ℕ} {at : ℕ} (x : SameHead s b at) where
  -- its length
  pub agree_len : len b at ≡ len s at
  agree_len = agree_le x.header 2 at (omega arith) (omega arith)

  -- any other record says no edition
  agree_edition : is_other_edition (kind s at) (edition b at) ≡ is_other_edition (kind s at) (edition s at)
  unfolding is_other_edition ◌and◌
  agree_edition = ifso (eqb (kind s at) 16) (λ t. rw (x.says (eqb-true (kind s at) 16 t))) (λ t. rw t)

  -- .. and has no number; a list read that is too short for one has a wrong length, whatever it would be
  agree_fit : is_misfit (is_second s) (kind s at) (len s at) (number b at) ≡ is_misfit (is_second s) (kind s at) (len s at) (number s at)
  unfolding is_misfit is_list_read pick
  agree_fit =
      ifso (eqb (kind s at) 24)
      (λ t.
      ⊎_elim
      (λ (l : len s at < 14). rw (ne_eqb (len s at) (14 + 8 * number b at) (λ e. omega arith), ne_eqb (len s at) (14 + 8 * number s at) (λ e. omega arith)))
      (λ l. rw (x.counts (eqb-true (kind s at) 24 t) l)) (split (len s at) 14))
      (λ t. rw (t, and_no_right (is_second s) false refl))

  -- rows 3 to 6, and a kind 16 record's
  pub agree_frame : (n : ℕ) → frame_rows (is_second b) b at n ≡ frame_rows (is_second s) s at n
  unfolding frame_rows breaks
  agree_frame n = rw (x.header.long, x.second, agree_len, agree_kind x.header, agree_serial x.header, agree_fit, agree_edition)

  -- .. and its payload too
  pub agree_event : Agree s b at (next_at s at) → event_at b at ≡ event_at s at
  unfolding event_at
  agree_event y = rw (x.second, agree_kind x.header, agree_len, agree_part y (at + 8) (next_at s at) (omega arith) (omega arith))
