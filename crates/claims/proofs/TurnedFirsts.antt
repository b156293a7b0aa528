-- Forced pairs against the places of a claim whose members are right: what the sets have is what the definition says.
use Prim.Native.Nat.{ℕ, ◌<◌, ◌≤◌}
use mathlib.Core.Path.{◌≡◌, ap, sym, ◌∙◌}
use mathlib.Core.Bool.{Bool, true, false, not}
use mathlib.Core.List.{List}
use mathlib.Core.Logic.{⊎_elim}
use native.Mathlib.Omega.{arith}
use lib.Dec.{ltb}
use lib.ListN.{length, get_or}
use borrow.Author.Tests.{ltb-true, lt-ltb}
use Rattle.base.specs.Base.{◌and◌, some, first}
use Rattle.base.proofs.Tests.{clash, same_test, and_left}
use Rattle.base.proofs.Searches.{some_at, some_of_lem, first_cases, first-is, first-same}
use Rattle.theory.specs.Order.{place}
use Rattle.theory.proofs.Places.{place_at}
use Rattle.rules.specs.History.{History, size, committed}
use Rattle.rules.specs.Levels.{forced}
use Rattle.rules.proofs.Committed.{committed_below}
use Rattle.rules.proofs.Forced.{forced-committed}
use Rattle.bits.specs.Bits.{bit_of, Holds, row_of, Least}
use Rattle.pairs.specs.Pairs.{before}
use Rattle.order.specs.declared.Words.{Words}
use Rattle.order.specs.Sets.{in_words}
use Rattle.order.proofs.Sets.{row-set}
use Rattle.claims_rules.specs.Claims.{no_pair, holds, has_members, is_backwards, second_of, is_first, least_first, pair_reply}
use Rattle.claims_rules.proofs.Claims.{pair_backwards, pair-none}
use Rattle.claims_rules.proofs.Members.{seated}
use Rattle.claims.specs.Seats.{SmallEntries, UpTo, turned_at, TurnedFirsts, turned_in}

-- its entries are a transaction's numbers
pub seats_small : (h : History) (o : List ℕ) → size h ≤ 128 → has_members h o ≡ true → SmallEntries o
seats_small h o few e = record { is = λ i l. omega (arith, committed_below h (get_or o i 0) ((seated h o e).count i l)) }

module _ (h : History) (level : ℕ) (f o : List ℕ) (few : size h ≤ 128) (e : has_members h o ≡ true) (w : Holds f (before (forced h level))) where
  abbrev F : ℕ → ℕ → Bool
  F = forced h level

  -- the table says what is forced
  forced_bit : (a b : ℕ) → a < 128 → b < 128 → bit_of f b a ≡ forced h level a b
  unfolding before
  forced_bit a b l k = w.is b a k l

  -- of entry i
  at_entry : (x i : ℕ) → x < 128 → i < length o → turned_at f o x i ≡ is_backwards (forced h level) o x (get_or o i 0)
  unfolding turned_at is_backwards
  at_entry x i l k =
      ap (λ (b : Bool). b and not (ltb (place x o) i)) (forced_bit x (get_or o i 0) l ((seats_small h o few e).is i k))
      ∙ ap (λ (j : ℕ). forced h level x (get_or o i 0) and not (ltb (place x o) j)) (sym ((seated h o e).once i k))

  -- of any second: it counts as committed, so it is an entry
  back : (x : ℕ) → x < 128 → (b : ℕ) → is_backwards (forced h level) o x b ≡ true → some 0 (length o) (turned_at f o x) ≡ true
  unfolding is_backwards
  back x l b p =
      let k = (seated h o e).all b (forced-committed h x b level (and_left _ _ p)).second in
      some_of_lem (turned_at f o x) (length o) 0 (place b o) (omega arith) k (at_entry x (place b o) l k ∙ ap (is_backwards F o x) (place_at b o k) ∙ p)

  -- the firsts of pairs that stand the wrong way round
  turned-first : {t : Words} → TurnedFirsts f o (length o) t → (x : ℕ) → x < 128 → in_words t x ≡ is_first (size h) (forced h level) o x
  unfolding is_first second_of
  turned-first t x l =
      t.is x l
      ∙ same_test _ _
      (λ s.
      let r = some_at (turned_at f o x) (length o) 0 s in
      let b = committed_below h (get_or o r.at 0) ((seated h o e).count r.at r.to) in
      ⊎_elim (λ z. absurd (clash (sym (at_entry x r.at l r.to) ∙ r.passes) (z.1 (get_or o r.at 0) (omega arith) b))) (λ g. lt-ltb _ _ g.to)
      (first_cases (size h) (is_backwards F o x) (size h) 0))
      (λ s.
      ⊎_elim (λ z. absurd (omega (arith, z.0, ltb-true (first (size h) 0 (size h) (is_backwards F o x)) (size h) s)))
      (λ g. back x l _ g.passes) (first_cases (size h) (is_backwards F o x) (size h) 0))

  -- such a one stands in the claim, and is one of the history's transactions
  first_placed : (x : ℕ) → is_first (size h) (forced h level) o x ≡ true → committed h x ≡ true
  unfolding is_first second_of is_backwards
  first_placed x s =
      ⊎_elim (λ z. absurd (omega (arith, z.0, ltb-true (first (size h) 0 (size h) (is_backwards F o x)) (size h) s)))
      (λ g. (forced-committed h x _ level (and_left _ _ g.passes)).first) (first_cases (size h) (is_backwards F o x) (size h) 0)

  -- the least second
  second_is : {a : ℕ} {v : Words} → a < 128 → UpTo o a v → first (size h) 0 (size h) (turned_in f v a) ≡ second_of (size h) (forced h level) o a
  unfolding second_of turned_in is_backwards
  second_is {a} {v} l u =
      first-same (size h) _ _ (size h) 0
      (λ b _ k.
      ap (λ (t : Bool). t and in_words v b) (forced_bit a b l (omega arith)) ∙ ap (λ (t : Bool). forced h level a b and t) (u.is b (omega arith)))

  -- ── what is said ──

  module _ {t : Words} (turned : TurnedFirsts f o (length o) t) {a : ℕ} (least : Least (row_of t.lo t.hi) 0 128 a) where
    none_below : (i : ℕ) → i < a → i < 128 → is_first (size h) (forced h level) o i ≡ false
    none_below i l k = sym (turned-first turned i k) ∙ sym (row-set t i k) ∙ least.none i (omega arith) l k

    module _ (l : a < 128) where
      hit : is_first (size h) (forced h level) o a ≡ true
      hit = sym (turned-first turned a l) ∙ sym (row-set t a l) ∙ least.hit l

      pub first_seat : place a o < length o
      first_seat = (seated h o e).all a (first_placed a hit)

      least_is : least_first (size h) (forced h level) o ≡ a
      unfolding least_first
      least_is =
          first-is (size h) (is_first (size h) (forced h level) o) (size h) 0 a
          (record { from = omega arith; to = committed_below h a (first_placed a hit); passes = hit; none = λ i _ k. none_below i k (omega arith) })

      pub says_pair : {b : ℕ} {v : Words} → UpTo o a v → b ≡ first (size h) 0 (size h) (turned_in f v a)
          → no_pair a b ≡ pair_reply (size h) (forced h level) o (least_first (size h) (forced h level) o)
      says_pair {b} u q =
          let k = committed_below h a (first_placed a hit) in
          ap (no_pair a) (q ∙ second_is l u)
          ∙ sym (ap (pair_reply (size h) (forced h level) o) least_is ∙ pair_backwards (size h) (forced h level) o a k)

    pub says_yes : 128 ≤ a → holds ≡ pair_reply (size h) (forced h level) o (least_first (size h) (forced h level) o)
    unfolding least_first
    says_yes g =
        sym
        (pair-none (size h) (forced h level) o (first (size h) 0 (size h) (is_first (size h) (forced h level) o))
        (⊎_elim (λ z. omega (arith, z.0)) (λ x. absurd (clash x.passes (none_below _ (omega (arith, x.to)) (omega (arith, x.to)))))
        (first_cases (size h) (is_first (size h) (forced h level) o) (size h) 0)))
