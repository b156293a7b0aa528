-- The two loops over a file's records: checking it, and filling the index of a lawful one.
use Prim.Native.Nat.{ℕ, suc, ◌+◌, ◌-◌, ◌≤◌, ◌<◌}
use mathlib.Core.Path.{◌≡◌, ap, sym, ◌∙◌}
use mathlib.Core.List.{List, ◌∷◌}
use native.Mathlib.Omega.{arith}
use lib.ListN.{set, length, take, drop, length-append}
use lib.Seq.{length-take-le}
use Rattle.base.proofs.Fill.{Room, room_from, Forth, forth_start, forth_room, forth_step, forth_end, appended-length, one}
use Rattle.rules.specs.Numbers.{over}
use Rattle.rules.specs.Records.{next_at}
use Rattle.rules.proofs.Numbers.{appended-over, over-front}
use Rattle.names_rules.specs.Names.{key_at, name_no, check_from, checked, offsets_from, offsets, IndexOf, Indexes}
use Rattle.std.specs.Prelude.{Ok, Err}
use Rattle.rules.specs.Refusals.{declined}
use Rattle.names_rules.proofs.Offsets.{offsets_most}
use Rattle.names_rules.proofs.Walking.{NameFits, fit, check_end, check_bad, check_on, check_passed, offsets_end, offsets_on, from_front, lawful_front}

-- checking has come to `at`, where low is the least key that may come
pub record Checking (s : List ℕ) (at low : ℕ) : Type 0 where
  pub within : at ≤ length s
  pub fuel : ℕ
  pub enough : length s ≤ fuel + at
  pub whole : checked s ≡ check_from fuel s at low

pub checking_first : (s : List ℕ) → length s ≤ 32768 → Checking s 0 0
checking_first s h = record { within = omega arith; fuel = length s; enough = omega arith; whole = from_front s h }

module _ {s : List ℕ} {at low : ℕ} (x : Checking s at low) where
  pub checking_end : length s ≤ at → Ok tt ≡ checked s
  checking_end h = sym (x.whole ∙ check_end s at low x.fuel h)

  pub checking_lawful : at < length s → checked s ≡ Ok tt → NameFits s at low
  checking_lawful l g =
      let e : x.fuel ≡ suc (x.fuel - 1) = omega (arith, x.enough) in
      fit s at low (check_passed s at low (x.fuel - 1) l (sym (ap (λ (f : ℕ). check_from f s at low) e) ∙ sym x.whole ∙ g))

  module _ (l : at < length s) {n : ℕ} (is : n ≡ name_no s at low) where
    whole_here : checked s ≡ check_from (suc (x.fuel - 1)) s at low
    whole_here = let e : x.fuel ≡ suc (x.fuel - 1) = omega (arith, x.enough) in x.whole ∙ ap (λ (f : ℕ). check_from f s at low) e

    pub checking_bad : 0 < n → Err (declined n at) ≡ checked s
    checking_bad h = rw is (sym (whole_here ∙ check_bad s at low (x.fuel - 1) l (omega arith)))

    module _ (h : n ≤ 0) where
      none : name_no s at low ≡ 0
      none = omega arith

      pub checked_fit : NameFits s at low
      checked_fit = fit s at low none

      pub checking_more : {at2 low2 : ℕ} → at2 ≡ next_at s at → low2 ≡ key_at s at + 1 → Checking s at2 low2
      checking_more p q =
          rw (p, q)
          (record {
            within = checked_fit.room;
            fuel = x.fuel - 1;
            enough = omega (arith, x.enough, checked_fit.least);
            whole = whole_here ∙ check_on s at low (x.fuel - 1) l none;
          })

-- the index o has become b, with the offsets of the n records before `at`, where the file is lawful
pub record Indexing (s o b : List ℕ) (n at : ℕ) : Type 0 where
  pub within : at ≤ length s
  pub fuel : ℕ
  pub enough : length s ≤ fuel + at
  pub low : ℕ
  pub lawful : check_from fuel s at low ≡ Ok tt
  pub put : Forth o 0 (offsets s) b n (offsets_from fuel s at)
  pub few : length (offsets s) ≤ 3640
  pub fits : Room o 0 (length o) (offsets s)

pub indexing_first : (s o : List ℕ) → checked s ≡ Ok tt → 3640 ≤ length o → Indexing s o o 0 0
unfolding offsets
indexing_first s o g h =
    record {
      within = omega arith;
      fuel = length s;
      enough = omega arith;
      low = 0;
      lawful = lawful_front s g;
      put = forth_start (offsets s) (omega arith);
      few = offsets_most s g;
      fits = room_from (offsets s) (omega (arith, offsets_most s g));
    }

module _ {s o b : List ℕ} {n at : ℕ} (x : Indexing s o b n at) where
  -- what was put, when all records are past
  pub indexing_end : length s ≤ at → Indexes s o b n
  indexing_end h =
      let a = forth_end x.put (offsets_end s at x.fuel h) in
      record { count = omega (arith, a.end); most = omega (arith, a.end, x.few); is = appended-over a }

  pub indexing_length : length b ≡ length o
  indexing_length = appended-length x.put.is

  module _ (l : at < length s) where
    one_more : x.fuel ≡ suc (x.fuel - 1)
    one_more = omega (arith, x.enough)

    lawful_here : check_from (suc (x.fuel - 1)) s at x.low ≡ Ok tt
    lawful_here = sym (ap (λ (f : ℕ). check_from f s at x.low) one_more) ∙ x.lawful

    passed : name_no s at x.low ≡ 0
    passed = check_passed s at x.low (x.fuel - 1) l lawful_here

    left_here : offsets_from x.fuel s at ≡ at ∷ offsets_from (x.fuel - 1) s (next_at s at)
    left_here = ap (λ (f : ℕ). offsets_from f s at) one_more ∙ offsets_on s at (x.fuel - 1) l

    pub indexing_fit : NameFits s at x.low
    indexing_fit = fit s at x.low passed

    -- there is room for one more, in any index and in this one
    pub indexing_few : n < 3640
    indexing_few = let r = x.put.is in omega (arith, x.few, r.end, ap length (sym x.put.rest), length-append x.put.done (offsets_from x.fuel s at), ap length left_here)

    pub indexing_room : n < length b
    indexing_room = let r = forth_room x.put x.fits in omega (arith, r.fits, r.within, ap length left_here)

    pub indexing_more : {at2 : ℕ} → at2 ≡ next_at s at → Indexing s o (set b n at) (n + 1) at2
    indexing_more p =
        rw p
        (record {
          within = indexing_fit.room;
          fuel = x.fuel - 1;
          enough = omega (arith, x.enough, indexing_fit.least);
          low = key_at s at + 1;
          lawful = sym (check_on s at x.low (x.fuel - 1) l passed) ∙ lawful_here;
          put = forth_step x.put (offsets_from (x.fuel - 1) s (next_at s at)) left_here (one b n at indexing_room);
          few = x.few;
          fits = x.fits;
        })

-- what was put is the front, and an index
module _ {s o b : List ℕ} {n : ℕ} (x : Indexes s o b n) where
  pub index_within : n ≤ length b
  unfolding over
  index_within = omega (arith, x.count, ap length x.is, length-append (offsets s) (drop (length (offsets s)) o))

  pub index_front : n ≡ length (take n b)
  index_front = sym (length-take-le n b index_within)

  pub index_of : checked s ≡ Ok tt → IndexOf s (take n b)
  index_of g = record { lawful = g; is = rw (x.count, x.is) (over-front (offsets s) o) }
